-- Whole lines that are read in blocks.
use Rattle.std.specs.Prelude.{◌≡◌, ◌⊎◌, ℕ, ◌+◌, List, [], ◌∷◌, ◌++◌, length, Ok, Err, IfOk}
use Rattle.std.specs.declared.result.Result.{Result}
use Rattle.relay_base.specs.declared.errors.Memory.{Memory}
use Rattle.node_head.specs.Lines.{lines}
use Rattle.node_head.specs.declared.head.Head.{Head}
use Rattle.capture_form.specs.Inner.LineRead.{IsOfPart}
use Rattle.capture_form.specs.declared.part.PartRead.{PartRead}
use Rattle.capture_pieces.specs.Inner.Feeds.{EndsLine}

-- what the lines of a block say, unless memory ran out
abbrev pub Block : Type 0
Block = Result PartRead Memory

-- it is that of these octets
abbrev pub IsOfOctets : Head → List ℕ → Block → Type 0
IsOfOctets head octets block = IfOk block (IsOfPart head (lines octets))

-- the octets are those of the blocks, one behind the other, and so are their lines
unfoldable pub SayOctets : Head → List ℕ → List Block → Type 0
SayOctets head octets [] = octets ≡ []
SayOctets head octets (first ∷ more) =
    (block : List ℕ) × (rest : List ℕ) × (octets ≡ block ++ rest) × (lines octets ≡ lines block ++ lines rest)
    × IsOfOctets head block first × SayOctets head rest more

-- they are the octets, one behind the other, and all but the last end a line
unfoldable pub AreCut : {B : Type 0} → (B → List ℕ) → List ℕ → List B → Type 0
AreCut now octets [] = octets ≡ []
AreCut now octets (first ∷ more) =
    (rest : List ℕ) × (octets ≡ now first ++ rest) × ((length rest ≡ 0) ⊎ EndsLine (now first)) × AreCut now rest more

-- the block is that of some octets
abbrev pub IsBlock : Head → Block → Type 0
IsBlock head block = (octets : List ℕ) × IsOfOctets head octets block

-- how many lines they have
abbrev pub lines_of : Block → ℕ
lines_of (Ok part) = part.lines
lines_of (Err memory) = 0

unfoldable pub lines_in : List Block → ℕ
lines_in [] = 0
lines_in (first ∷ more) = lines_of first + lines_in more
