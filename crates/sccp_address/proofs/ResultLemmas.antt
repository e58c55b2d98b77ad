-- A fact of a result that follows from another.
use Rattle.std.proofs.Common.{OnOk, Ok, Err}
use Rattle.std.specs.declared.result.Result.{Result}

pub OnOk-map : {T E P Q : Type 0} (r : Result T E) → (P → Q) → OnOk r P → OnOk r Q
OnOk-map (Ok x) f p = f p
OnOk-map (Err e) f p = tt
