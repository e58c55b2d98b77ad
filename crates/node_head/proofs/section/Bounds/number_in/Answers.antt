use Rattle.std.proofs.Common.{◌≡◌, ℕ, ◌<◌, ◌^◌, ℤ, pos, negsuc, w64, None, refl, subst, arith}
use Rattle.std.proofs.lemmas.Bool.Decides.{nat_tests}
use Rattle.std.proofs.lemmas.Int.{to_z-of_z}
use Rattle.std.specs.Int.{FitsUnsignedBits}
use Rattle.node_head.specs.Keys.{number_in}
use Rattle.node_head.proofs.section.Bounds.number_in.Goals as goal

-- a number that doesn't fit 32 bits is not in a range that does
none-outside : (least most : ℕ) (z : ℤ) → most < 2 ^ 32 → (FitsUnsignedBits 32 z → ⊥) → None ≡ number_in least most z
none-outside least most (pos n) m h =
    let above : (n < 2 ^ 32) → ⊥ = h in
    grind (arith, nat_tests, above)
none-outside least most (negsuc n) m h = refl

pub returns-in_default-clause-value : goal.returns-in_default-clause-value
returns-in_default-clause-value c =
    let P : ℤ → Type 0 = λ z. FitsUnsignedBits 32 z → ⊥ in
    none-outside _ _ c.args.number (omega arith) (subst P (to_z-of_z w64 c.args.number c.ranges.number) c.in_default.ensures)
