-- Facts on truth values.
use Rattle.std.proofs.Common.{◌≡◌, Bool, true, false, cond}

pub absurd_bool : true ≡ false → ⊥
absurd_bool h = cc

-- what holds of both arms of a choice holds of the choice
pub either : {A : Type 0} (P : A → Type 0) (b : Bool) (x y : A) → P x → P y → P (cond b x y)
either P true x y f g = f
either P false x y f g = g
