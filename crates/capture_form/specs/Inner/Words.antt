-- A call that reads a line, beside what the definition gives.
use Rattle.std.specs.Prelude.{ℕ, List, map, Option, Some, None}
use Rattle.std.specs.Borrow.{Bor}
use Rattle.std.specs.declared.result.Result.{Result}
use Rattle.relay_base.specs.Giving.{GivesOrMemory}
use Rattle.capture_form.specs.declared.fault.LineKind.{LineKind}
use Rattle.capture_form.specs.declared.refused.LineRefused.{LineRefused}
use Rattle.capture_form.specs.declared.refused.LineRefused.TheVariants.{Kind, Memory}

-- what a refusal tells of a line; none is want of memory
abbrev pub kind_in : LineRefused → Option LineKind
kind_in Memory = None
kind_in (Kind kind) = Some kind

-- the call gave what the definition gives, unless memory ran out
abbrev pub States : {Y : Type 0} → Result Y LineRefused → Result Y LineKind → Type 0
States result given = GivesOrMemory (λ x. x) kind_in result given

-- the texts of words
abbrev pub texts : List (Bor (List ℕ)) → List (List ℕ)
texts words = map (λ w. w.now) words
