-- Texts for examples. A proof that unfolds one of these unfolds all that the text computes with.
use Rattle.std.specs.Prelude.{ℕ, List}
use Rattle.std.specs.Fmt.{digits}
use Rattle.hex.specs.Hex.{encode_with}
use Rattle.relay_base.specs.declared.words.Tell.{Tell}
use Rattle.relay_base.specs.declared.words.Lost.{Lost}
use Rattle.relay_base.specs.declared.words.Output.{Output}
use Rattle.journal_text.specs.Print.{tell_text, lost_text, outs_text}

-- what a user is told
unfoldable pub told : Tell → List ℕ
unfolding digits encode_with
told tell = tell_text tell

-- a loss
unfoldable pub lost : Lost → List ℕ
unfolding digits
lost loss = lost_text loss

-- outputs, a line for each
unfoldable pub lines : List Output → List ℕ
unfolding digits encode_with
lines outs = outs_text outs
