-- How many segments there are, and what their first octets tell.
use Rattle.std.proofs.Common.{◌≡◌, ℕ, ◌+◌, ◌-◌, ◌*◌, ◌/◌, ◌%◌, ◌≤◌, ◌<◌, ◌==◌, Bool, true, false, if◌then◌else◌, arith}
use Rattle.std.specs.Prelude.{nat_le}
use Rattle.std.proofs.Math.Nat.{div-lt_iff_lt-mul, le-div_iff_mul-le, div-add-mod, mod-lt}
use Rattle.std.proofs.lemmas.Bool.Decides.{nat_tests}

pub record Counted (s d n : ℕ) : Type 0 where
  pub two : 2 ≤ n
  pub most : n ≤ 16
  pub enough : d ≤ s * n

pub counted : (s d : ℕ) → 1 ≤ s → s < d → d ≤ 16 * s → Counted s d ((d + s - 1) / s)
counted s d some more few =
    let below : (d + s - 1) / s < 17 = (div-lt_iff_lt-mul {k = s} {x = d + s - 1} {y = 17} (omega arith)).1 (omega arith) in
    record {
      two = (le-div_iff_mul-le {k = s} {x = 2} {y = d + s - 1} (omega arith)).1 (omega arith);
      most = omega arith;
      enough = omega (arith, div-add-mod (d + s - 1) s, mod-lt (d + s - 1) {m = s} (omega arith));
    }

pub left_of : (first : Bool) (class left : ℕ) → left ≤ 15 → ((if first then 128 else 0) + 64 * class + left) % 16 ≡ left
left_of true class left few = omega arith
left_of false class left few = omega arith

pub is_first_one : (class left : ℕ) → nat_le 128 (128 + 64 * class + left) ≡ true
is_first_one class left = grind (arith, nat_tests)

later_one : (first : Bool) (class left : ℕ) → first ≡ false → class ≤ 1 → left ≤ 15 → nat_le 128 ((if first then 128 else 0) + 64 * class + left) ≡ false
later_one true class left e few small = cc
later_one false class left e few small = grind (arith, nat_tests)

pub not_zero : (k : ℕ) → 1 ≤ k → (k == 0) ≡ false
not_zero k some = grind (arith, nat_tests)

pub is_zero : (k : ℕ) → k ≤ 0 → (k == 0) ≡ true
is_zero k none = grind (arith, nat_tests)

pub same_number : (m n : ℕ) → m ≡ n → (m == n) ≡ true
same_number m n e = grind (arith, nat_tests)

pub is_later_one : (k class left : ℕ) → 1 ≤ k → class ≤ 1 → left ≤ 15 → nat_le 128 ((if k == 0 then 128 else 0) + 64 * class + left) ≡ false
is_later_one k class left some few small = later_one (k == 0) class left (not_zero k some) few small
