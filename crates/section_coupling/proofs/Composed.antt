-- An opening of its parts.
use Rattle.std.proofs.Common.{◌≡◌, ℕ, List, refl}
use Rattle.std.specs.Prelude.{Some, Ok, Err, IfOk, OnOk}
use Rattle.std.specs.declared.result.Result.{Result}
use Rattle.relay_base.specs.declared.words.Output.{Output}
use Rattle.section_model.specs.Ends.{End}
use Rattle.section_model.specs.Opening.{opened_with}
use Rattle.section_coupling.specs.declared.side.Side.{Side}
use Rattle.section_coupling.specs.Openings.{opened_at}
use Rattle.section_coupling.specs.Views.{end_at}

pub if-ok : {A E : Type 0} {P Q : A → Type 0} (r : Result A E) → ((x : A) → P x → Q x) → IfOk r P → IfOk r Q
if-ok (Ok x) f p = f x p
if-ok (Err e) f p = tt

pub on-ok : {A E P Q : Type 0} (r : Result A E) → (P → Q) → OnOk r P → OnOk r Q
on-ok (Ok x) f p = f p
on-ok (Err e) f p = tt

pub composed : (now : ℕ) (this that : Side) (outs : List Output) (c d : End) (more : List Output) → end_at now this ≡ c → end_at now that ≡ d → outs ≡ more
    → opened_at now (record { pair = Some (record { this = this; that = that }); outs = outs }) ≡ opened_with (record { this = c; that = d }) more
composed now this that outs c d more e f g = rw (e, f, g) refl
