-- The law of generated captures: their events come one after another.
use Rattle.std.specs.Prelude.{ℕ}
use Rattle.capture_generator.specs.Generator.{generator_head, generated_phases}
use Rattle.book_law.specs.Sequential.{IsSequential}

abbrev pub GeneratedIsSequential : Type 0
GeneratedIsSequential = (number lines : ℕ) → IsSequential generator_head (generated_phases number lines)
