-- The lengths of parts, one part after the other.
use Rattle.std.proofs.Common.{◌≡◌, ℕ, ◌+◌, ◌*◌, ◌<◌, ◌≤◌, ◌&&◌, ◌++◌, Bool, true, false, List, ◌∷◌, length, get_or, drop, refl, ap, sym, ◌∙◌, arith, length-append}
use Rattle.std.specs.Prelude.{Option, None, IsTrue}
use Rattle.std.specs.Option.{option_map}
use Rattle.std.specs.List.{concat}
use Rattle.std.specs.Borrow.{Bor}
use Rattle.std.proofs.lemmas.List.{drop_all}
use Rattle.q713_shape.specs.declared.rules.VarRule.{VarRule}
use Rattle.q713_shape.specs.Format.{is_length_of}
use Rattle.q713_shape.specs.Parts.{slices, optional_slices}
use Rattle.q713_shape.specs.Writing.{variable, variables, given, all_given, have_lengths, have_option_lengths, is_option}
use Rattle.q713_shape.proofs.Drops.{drop-next, slices-drop, optional_slices-drop}

pub have_lengths-drop : (rules : List VarRule) (values : List (Bor (List ℕ))) (i : ℕ) (d : VarRule) (e : Bor (List ℕ)) → i < length rules → i < length values → have_lengths (drop i rules) (drop i (slices values)) ≡ (is_length_of (get_or rules i d) (length (get_or values i e).now) && have_lengths (drop (i + 1) rules) (drop (i + 1) (slices values)))
have_lengths-drop rules values i d e h k = rw (drop-next rules i d h, slices-drop values i e k) refl

pub variables-drop : (rules : List VarRule) (values : List (Bor (List ℕ))) (i : ℕ) (d : VarRule) (e : Bor (List ℕ)) → i < length rules → i < length values → variables (drop i rules) (drop i (slices values)) ≡ variable (get_or rules i d) (get_or values i e).now ∷ variables (drop (i + 1) rules) (drop (i + 1) (slices values))
variables-drop rules values i d e h k = rw (drop-next rules i d h, slices-drop values i e k) refl

pub have_option_lengths-drop : (names : List ℕ) (values : List (Option (Bor (List ℕ)))) (i : ℕ) → i < length names → i < length values → have_option_lengths (drop i names) (drop i (optional_slices values)) ≡ (is_option (get_or names i 0) (option_map (λ x. x.now) (get_or values i None)) && have_option_lengths (drop (i + 1) names) (drop (i + 1) (optional_slices values)))
have_option_lengths-drop names values i h k = rw (drop-next names i 0 h, optional_slices-drop values i k) refl

pub all_given-drop : (names : List ℕ) (values : List (Option (Bor (List ℕ)))) (i : ℕ) → i < length names → i < length values → all_given (drop i names) (drop i (optional_slices values)) ≡ given (get_or names i 0) (option_map (λ x. x.now) (get_or values i None)) ++ all_given (drop (i + 1) names) (drop (i + 1) (optional_slices values))
all_given-drop names values i h k = rw (drop-next names i 0 h, optional_slices-drop values i k) refl

pub and-both : (a b : Bool) → (a && b) ≡ true → (a ≡ true) × (b ≡ true)
and-both true b h = (refl, h)
and-both false b h = absurd (cc)

-- whether the lengths are right, as far as the loop has come
pub have_lengths-good : (rules : List VarRule) (values : List (Bor (List ℕ))) (i : ℕ) (d : VarRule) (e : Bor (List ℕ)) → i < length rules → length rules ≤ length values → is_length_of (get_or rules i d) (length (get_or values i e).now) ≡ true → have_lengths rules (slices values) ≡ have_lengths (drop i rules) (drop i (slices values)) → have_lengths rules (slices values) ≡ have_lengths (drop (i + 1) rules) (drop (i + 1) (slices values))
have_lengths-good rules values i d e h k good s = s ∙ have_lengths-drop rules values i d e h (omega arith) ∙ ap (λ t. t && have_lengths (drop (i + 1) rules) (drop (i + 1) (slices values))) good

pub have_lengths-bad : (rules : List VarRule) (values : List (Bor (List ℕ))) (i : ℕ) (d : VarRule) (e : Bor (List ℕ)) → i < length rules → length rules ≤ length values → is_length_of (get_or rules i d) (length (get_or values i e).now) ≡ false → have_lengths rules (slices values) ≡ have_lengths (drop i rules) (drop i (slices values)) → have_lengths rules (slices values) ≡ false
have_lengths-bad rules values i d e h k bad s = s ∙ have_lengths-drop rules values i d e h (omega arith) ∙ ap (λ t. t && have_lengths (drop (i + 1) rules) (drop (i + 1) (slices values))) bad

pub have_lengths-end : (rules : List VarRule) (values : List (List ℕ)) (i : ℕ) → length rules ≤ i → have_lengths (drop i rules) values ≡ true
have_lengths-end rules values i h = rw (drop_all i rules h) refl

pub have_option_lengths-next : (names : List ℕ) (values : List (Option (Bor (List ℕ)))) (i : ℕ) → i < length names → length names ≤ length values → (t : Bool) → is_option (get_or names i 0) (option_map (λ x. x.now) (get_or values i None)) ≡ t → have_option_lengths names (optional_slices values) ≡ have_option_lengths (drop i names) (drop i (optional_slices values)) → have_option_lengths names (optional_slices values) ≡ (t && have_option_lengths (drop (i + 1) names) (drop (i + 1) (optional_slices values)))
have_option_lengths-next names values i h k t e s = s ∙ have_option_lengths-drop names values i h (omega arith) ∙ ap (λ t. t && have_option_lengths (drop (i + 1) names) (drop (i + 1) (optional_slices values))) e

pub have_option_lengths-end : (names : List ℕ) (values : List (Option (List ℕ))) (i : ℕ) → length names ≤ i → have_option_lengths (drop i names) values ≡ true
have_option_lengths-end names values i h = rw (drop_all i names h) refl

-- what is counted so far, and what is left
pub record IsCounted (rules : List VarRule) (values : List (Bor (List ℕ))) (total i : ℕ) : Type 0 where
  pub lengths : have_lengths (drop i rules) (drop i (slices values)) ≡ true
  pub so_far : total + length (concat (variables (drop i rules) (drop i (slices values)))) ≡ length (concat (variables rules (slices values)))
  pub small : total ≤ 65_537 * i

pub IsCounted-length : (rules : List VarRule) (values : List (Bor (List ℕ))) (total i : ℕ) (d : VarRule) (e : Bor (List ℕ)) → i < length rules → length rules ≤ length values → IsCounted rules values total i → IsTrue (is_length_of (get_or rules i d) (length (get_or values i e).now))
IsCounted-length rules values total i d e h k s = (and-both (is_length_of (get_or rules i d) (length (get_or values i e).now)) (have_lengths (drop (i + 1) rules) (drop (i + 1) (slices values))) (sym (have_lengths-drop rules values i d e h (omega arith)) ∙ s.lengths)).0

pub IsCounted-next : (rules : List VarRule) (values : List (Bor (List ℕ))) (total i n : ℕ) (d : VarRule) (e : Bor (List ℕ)) → i < length rules → length rules ≤ length values → n ≡ length (variable (get_or rules i d) (get_or values i e).now) → n ≤ 65_537 → IsCounted rules values total i → IsCounted rules values (total + n) (i + 1)
IsCounted-next rules values total i n d e h k m small s =
    let step : length (concat (variables (drop i rules) (drop i (slices values)))) ≡ n + length (concat (variables (drop (i + 1) rules) (drop (i + 1) (slices values)))) = ap (λ parts. length (concat parts)) (variables-drop rules values i d e h (omega arith)) ∙ length-append (variable (get_or rules i d) (get_or values i e).now) (concat (variables (drop (i + 1) rules) (drop (i + 1) (slices values)))) ∙ ap (λ x. x + length (concat (variables (drop (i + 1) rules) (drop (i + 1) (slices values))))) (sym m) in
    record {
      lengths = (and-both (is_length_of (get_or rules i d) (length (get_or values i e).now)) (have_lengths (drop (i + 1) rules) (drop (i + 1) (slices values))) (sym (have_lengths-drop rules values i d e h (omega arith)) ∙ s.lengths)).1;
      so_far = omega (arith, step, s.so_far);
      small = omega (arith, s.small, small);
    }

pub IsCounted-end : (rules : List VarRule) (values : List (Bor (List ℕ))) (total i : ℕ) → length rules ≤ i → IsCounted rules values total i → total ≡ length (concat (variables rules (slices values)))
IsCounted-end rules values total i h s =
    let none : length (concat (variables (drop i rules) (drop i (slices values)))) ≡ 0 = rw (drop_all i rules h) refl in
    omega (arith, none, s.so_far)

pub record AreCounted (names : List ℕ) (values : List (Option (Bor (List ℕ)))) (total i : ℕ) : Type 0 where
  pub lengths : have_option_lengths (drop i names) (drop i (optional_slices values)) ≡ true
  pub so_far : total + length (all_given (drop i names) (drop i (optional_slices values))) ≡ length (all_given names (optional_slices values))
  pub small : total ≤ 257 * i

pub AreCounted-length : (names : List ℕ) (values : List (Option (Bor (List ℕ)))) (total i : ℕ) → i < length names → length names ≤ length values → AreCounted names values total i → IsTrue (is_option (get_or names i 0) (option_map (λ x. x.now) (get_or values i None)))
AreCounted-length names values total i h k s = (and-both (is_option (get_or names i 0) (option_map (λ x. x.now) (get_or values i None))) (have_option_lengths (drop (i + 1) names) (drop (i + 1) (optional_slices values))) (sym (have_option_lengths-drop names values i h (omega arith)) ∙ s.lengths)).0

pub AreCounted-next : (names : List ℕ) (values : List (Option (Bor (List ℕ)))) (total i n : ℕ) → i < length names → length names ≤ length values → n ≡ length (given (get_or names i 0) (option_map (λ x. x.now) (get_or values i None))) → n ≤ 257 → AreCounted names values total i → AreCounted names values (total + n) (i + 1)
AreCounted-next names values total i n h k m small s =
    let one : List ℕ = given (get_or names i 0) (option_map (λ x. x.now) (get_or values i None)) in
    let left : List ℕ = all_given (drop (i + 1) names) (drop (i + 1) (optional_slices values)) in
    let step : length (all_given (drop i names) (drop i (optional_slices values))) ≡ n + length left = ap (λ (x : List ℕ). length x) (all_given-drop names values i h (omega arith)) ∙ length-append one left ∙ ap (λ x. x + length left) (sym m) in
    record {
      lengths = (and-both (is_option (get_or names i 0) (option_map (λ x. x.now) (get_or values i None))) (have_option_lengths (drop (i + 1) names) (drop (i + 1) (optional_slices values))) (sym (have_option_lengths-drop names values i h (omega arith)) ∙ s.lengths)).1;
      so_far = omega (arith, step, s.so_far);
      small = omega (arith, s.small, small);
    }

pub AreCounted-end : (names : List ℕ) (values : List (Option (Bor (List ℕ)))) (total i : ℕ) → length names ≤ i → AreCounted names values total i → total ≡ length (all_given names (optional_slices values))
AreCounted-end names values total i h s =
    let none : length (all_given (drop i names) (drop i (optional_slices values))) ≡ 0 = rw (drop_all i names h) refl in
    omega (arith, none, s.so_far)
