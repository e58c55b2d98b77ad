-- What threads that share the items of a list have done.
use Rattle.std.specs.Prelude.{◌<◌, ℕ, List, Vec, length, IfOk, IfSome, slice_index_or}
use Rattle.std.specs.List.{AllByRecursion}
use Rattle.std.specs.declared.option.Option.{Option}
use Rattle.std.specs.declared.result.Result.{Result}
use Rattle.block_threads.specs.Items.{Beside}

module _ {T X : Type 0} (is_of : T → X → Type 0) (items : List T) where
  -- it came of the item of this number
  abbrev pub IsDone : ℕ × X → Type 0
  IsDone done = (done.0 < length items) × ((d : T) → is_of (slice_index_or items done.0 d) done.1)

  abbrev pub AreDone : List (ℕ × X) → Type 0
  AreDone done = AllByRecursion IsDone done

  -- each thread's are, unless memory ran out
  abbrev pub AreShares : {Z E : Type 0} → List (Result (Vec (ℕ × X) Z) E) → Type 0
  AreShares shares = AllByRecursion (λ share. IfOk share (λ done. AreDone done.items)) shares

  -- in each place stands what came of its item, or nothing
  abbrev pub AreCells : List (Option X) → Type 0
  AreCells cells = Beside (λ item cell. IfSome cell (is_of item)) items cells
