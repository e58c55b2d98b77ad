-- What is written of a format.
use Rattle.std.specs.Prelude.{[]}
use Rattle.q713_shape.specs.Format.{Format}

-- a format without the names of its fixed octets, by which nothing is written
abbrev pub nameless : Format → Format
nameless format = record format { fixed = [] }
