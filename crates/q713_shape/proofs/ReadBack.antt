-- What is written reads back: octets made of values have these values.
use Rattle.std.proofs.Common.{◌≡◌, ℕ, zero, suc, ◌+◌, ◌-◌, ◌*◌, ◌/◌, ◌%◌, ◌<◌, ◌≤◌, ◌==◌, ◌&&◌, nat_lt, nat_le, Bool, true, false, not, List, [], ◌∷◌, ◌++◌, length, get_or, slice_index, take, drop, map, Ok, refl, ap, ap₂, subst, sym, ◌∙◌, arith, append_assoc, append-nil, length-append, length-drop, drop-drop, get_or-drop, true≢false, eq-eqb, ne_eqb, leb-true, le-leb, le-ltb, ltb-false, eqb-true, if◌then◌else◌}
use Rattle.std.specs.Prelude.{Option, None, Some, IsTrue, ◌||◌}
use Rattle.std.specs.List.{concat, list_all, list_any, filter}
use Rattle.std.proofs.Math.Seq.{drop-append_seam, take-append_seam}
use Rattle.relay_base.specs.Giving.{◌>>=◌}
use Rattle.q713_shape.specs.declared.rules.VarRule.{VarRule}
use Rattle.q713_shape.specs.Format.{Format, Values, filled, pointer_width, is_long, length_width, is_length_of, is_option_length, option_count, pointer_count}
use Rattle.q713_shape.specs.Reading.{number_at, value_at, variable_at, variables_at, filled_variables, Item, item, items_in, first_fault, first_value, unless_fault, options_among, options_in, options_at, values_of}
use Rattle.q713_shape.specs.Writing.{number_octets, variable, variables, all_given, ended, optional_part, skips, optional_skip_of, option_skip, pointers, octets_of, have_lengths, have_option_lengths, are_options, fits_pointer, are_in_range}
use Rattle.std.proofs.lemmas.Bool.{lt-leb}
use Rattle.relay_base.specs.declared.limits.TheConstants.{GREATEST_OCTET, LONGEST_DATA, LONGEST_PARAMETER}
use Rattle.q713_shape.proofs.Counting.{and-both}
use Rattle.q713_shape.proofs.Pointing.{length-variables}
use Rattle.q713_shape.proofs.Ranges.{in_range-lengths, in_range-options, in_range-pointers, list_all-append, length-number_octets, concat-map-append, length-pointer_octets, length-skips, length-option_skip, length-octets_of}
use Rattle.q713_shape.specs.Inner.Pointers.{HasPointers}
use Rattle.q713_shape.proofs.Whole.{values_of-values}

-- what stands at a place, and past it
drop-past : (b xs ys : List ℕ) (i k : ℕ) → drop i b ≡ xs ++ ys → k ≡ i + length xs → drop k b ≡ ys
drop-past b xs ys i k e n = ap (λ m. drop m b) n ∙ sym (drop-drop (length xs) i b) ∙ ap (drop (length xs)) e ∙ drop-append_seam xs ys

at_front : (b : List ℕ) (i x : ℕ) (r : List ℕ) → drop i b ≡ x ∷ r → slice_index b i ≡ x
at_front b i x r e =
    let z : i ≡ i + 0 = omega arith in
    ap (λ n. get_or b n 0) z ∙ sym (get_or-drop i b 0 0) ∙ ap (λ l. get_or l 0 0) e

at_next : (b : List ℕ) (i x y : ℕ) (r : List ℕ) → drop i b ≡ x ∷ y ∷ r → slice_index b (i + 1) ≡ y
at_next b i x y r e = sym (get_or-drop i b 1 0) ∙ ap (λ l. get_or l 1 0) e

one_octet : (n : ℕ) → n ≤ GREATEST_OCTET → n % 256 ≡ n
one_octet n h = omega arith

two_octets : (n : ℕ) → n ≤ 65_535 → n % 256 + 256 * (n / 256 % 256) ≡ n
two_octets n h = omega arith

number_at-front : (wide : Bool) (b : List ℕ) (place n : ℕ) (more : List ℕ) → IsTrue (fits_pointer wide n) → drop place b ≡ number_octets wide n ++ more → number_at wide b place ≡ n
number_at-front true b place n more f e =
    ap₂ (λ x y. x + 256 * y) (at_front b place (n % 256) (n / 256 % 256 ∷ more) e) (at_next b place (n % 256) (n / 256 % 256) more e) ∙ two_octets n (leb-true n 65_535 f)
number_at-front false b place n more f e = at_front b place (n % 256) more e ∙ one_octet n (leb-true n GREATEST_OCTET f)

-- a value
fits_length : (long : Bool) (most size : ℕ) → nat_lt LONGEST_PARAMETER most ≡ long → size ≤ most → most ≤ 65_535 → IsTrue (fits_pointer long size)
fits_length true most size e h k = le-leb size 65_535 (omega arith)
fits_length false most size e h k = le-leb size GREATEST_OCTET (let m : most ≤ LONGEST_PARAMETER = ltb-false LONGEST_PARAMETER most e in omega arith)

width-positive : (long : Bool) → 1 ≤ pointer_width long
width-positive true = omega arith
width-positive false = omega arith

value_at-front : (b : List ℕ) (rule : VarRule) (place : ℕ) (value more : List ℕ) → rule.most ≤ 65_535 → IsTrue (is_length_of rule (length value)) → drop place b ≡ variable rule value ++ more → value_at b rule place ≡ Ok value
unfolding value_at
value_at-front b rule place value more small fits e =
    let w : List ℕ = number_octets (is_long rule) (length value) in
    let within : length value ≤ rule.most = leb-true (length value) rule.most (and-both (nat_le rule.least (length value)) (nat_le (length value) rule.most) fits).1 in
    let p : drop place b ≡ w ++ (value ++ more) = e ∙ append_assoc w value more in
    let n : number_at (is_long rule) b place ≡ length value = number_at-front (is_long rule) b place (length value) (value ++ more) (fits_length (is_long rule) rule.most (length value) refl within small) p in
    let wide : length w ≡ length_width rule = length-number_octets (is_long rule) (length value) in
    let d : drop (place + length_width rule) b ≡ value ++ more = drop-past b w (value ++ more) place (place + length_width rule) p (ap (λ k. place + k) (sym wide)) in
    let l : length b - place ≡ length w + (length value + length more) = sym (length-drop place b) ∙ ap (λ (x : List ℕ). length x) p ∙ length-append w (value ++ more) ∙ ap (λ k. length w + k) (length-append value more) in
    let some : 1 ≤ length_width rule = width-positive (is_long rule) in
    let room : place + length_width rule + length value ≤ length b = omega (arith, l, some, wide) in
    rw (n, le-ltb (length b) (place + length_width rule + length value) room, fits) (ap Ok (ap (take (length value)) d ∙ take-append_seam value more))

-- a variable parameter
variable_at-front : (wide : Bool) (b : List ℕ) (place skip : ℕ) (rule : VarRule) (value more tail : List ℕ) → 1 ≤ skip → IsTrue (fits_pointer wide skip) → rule.most ≤ 65_535 → IsTrue (is_length_of rule (length value)) → drop place b ≡ number_octets wide skip ++ more → drop (place + (if wide then 1 else 0) + skip) b ≡ variable rule value ++ tail → variable_at wide b place rule ≡ Ok value
unfolding variable_at
variable_at-front wide b place skip rule value more tail some fits small good e f =
    let n : number_at wide b place ≡ skip = number_at-front wide b place skip more fits e in
    let target : ℕ = place + (if wide then 1 else 0) + skip in
    let w : List ℕ = number_octets (is_long rule) (length value) in
    let l : length b - target ≡ length w + length value + length tail = sym (length-drop target b) ∙ ap (λ (x : List ℕ). length x) f ∙ length-append (variable rule value) tail ∙ ap (λ k. k + length tail) (length-append w value) in
    let below : target < length b = omega (arith, l, length-number_octets (is_long rule) (length value), width-positive (is_long rule)) in
    let z : (skip == 0) ≡ false = ne_eqb skip 0 (λ (x : skip ≡ 0). omega arith) in
    let inside : nat_le (length b) target ≡ false = lt-leb (length b) target below in
    rw (n, z, inside) (value_at-front b rule target value tail small good f)

target-first : (wide : Bool) (place n behind before : ℕ) → place + (if wide then 1 else 0) + (1 + pointer_width wide * (n + behind) + before) ≡ place + pointer_width wide * (suc n + behind) + before
target-first true place n behind before = omega arith
target-first false place n behind before = omega arith

target-next : (wide : Bool) (place n behind before size : ℕ) → place + pointer_width wide + pointer_width wide * (n + behind) + (before + size) ≡ place + pointer_width wide * (suc n + behind) + before + size
target-next true place n behind before size = omega arith
target-next false place n behind before size = omega arith

variables_at-front : (wide : Bool) (b : List ℕ) (place behind before : ℕ) (rules : List VarRule) (values : List (List ℕ)) (more tail : List ℕ) → length rules ≤ length values → IsTrue (list_all (λ rule. nat_le rule.most 65_535) rules) → IsTrue (have_lengths rules values) → IsTrue (list_all (fits_pointer wide) (skips (pointer_width wide) behind before (variables rules values))) → drop place b ≡ concat (map (number_octets wide) (skips (pointer_width wide) behind before (variables rules values))) ++ more → drop (place + pointer_width wide * (length rules + behind) + before) b ≡ concat (variables rules values) ++ tail → variables_at wide b place rules ≡ Ok (take (length rules) values)
unfolding variables_at
variables_at-front wide b place behind before [] values more tail few small good fit e f = refl
variables_at-front wide b place behind before (rule ∷ rules) [] more tail few small good fit e f = absurd (omega arith)
variables_at-front wide b place behind before (rule ∷ rules) (value ∷ values) more tail few small good fit e f =
    let parts : List (List ℕ) = variables rules values in
    let part : List ℕ = variable rule value in
    let skip : ℕ = 1 + pointer_width wide * (length parts + behind) + before in
    let left : List ℕ = skips (pointer_width wide) behind (before + length part) parts in
    let small' = and-both (nat_le rule.most 65_535) (list_all (λ r. nat_le r.most 65_535) rules) small in
    let good' = and-both (is_length_of rule (length value)) (have_lengths rules values) good in
    let fit' = and-both (fits_pointer wide skip) (list_all (fits_pointer wide) left) fit in
    let count : length parts ≡ length rules = length-variables rules values (omega arith) in
    let p : drop place b ≡ number_octets wide skip ++ (concat (map (number_octets wide) left) ++ more) = e ∙ append_assoc (number_octets wide skip) (concat (map (number_octets wide) left)) more in
    let t : drop (place + pointer_width wide * (suc (length rules) + behind) + before) b ≡ part ++ (concat parts ++ tail) = f ∙ append_assoc part (concat parts) tail in
    let here : place + (if wide then 1 else 0) + skip ≡ place + pointer_width wide * (suc (length rules) + behind) + before = target-first wide place (length parts) behind before ∙ ap (λ n. place + pointer_width wide * (suc n + behind) + before) count in
    let first : variable_at wide b place rule ≡ Ok value = variable_at-front wide b place skip rule value (concat (map (number_octets wide) left) ++ more) (concat parts ++ tail) (omega arith) fit'.0 (leb-true rule.most 65_535 small'.0) good'.0 p (ap (λ n. drop n b) here ∙ t) in
    let rest : variables_at wide b (place + pointer_width wide) rules ≡ Ok (take (length rules) values) =
    variables_at-front wide b (place + pointer_width wide) behind (before + length part) rules values more tail (omega arith) small'.1 good'.1 fit'.1
    (drop-past b (number_octets wide skip) (concat (map (number_octets wide) left) ++ more) place (place + pointer_width wide) p (ap (λ k. place + k) (sym (length-number_octets wide skip))))
    (drop-past b part (concat parts ++ tail) (place + pointer_width wide * (suc (length rules) + behind) + before) (place + pointer_width wide + pointer_width wide * (length rules + behind) + (before + length part)) t (target-next wide place (length rules) behind before (length part))) in
    rw (first, rest) refl

-- the optional parameters that are given
abbrev pub items_of : List ℕ → List (Option (List ℕ)) → List Item
items_of [] values = []
items_of (name ∷ names) [] = []
items_of (name ∷ names) (None ∷ values) = items_of names values
items_of (name ∷ names) (Some value ∷ values) = item name value ∷ items_of names values

items_of-none : (names : List ℕ) (values : List (Option (List ℕ))) → all_given names values ≡ [] → items_of names values ≡ []
items_of-none [] values e = refl
items_of-none (name ∷ names) [] e = refl
items_of-none (name ∷ names) (None ∷ values) e = items_of-none names values e
items_of-none (name ∷ names) (Some value ∷ values) e = absurd (cc)

-- names that are told apart, and from the end of the part
abbrev pub are_distinct : List ℕ → Bool
are_distinct [] = true
are_distinct (name ∷ names) = not (list_any (λ n. name == n) names) && are_distinct names

abbrev pub are_names : List ℕ → Bool
are_names names = list_all (λ n. not (n == 0)) names && are_distinct names

not-true : (t : Bool) → not t ≡ true → t ≡ false
not-true true h = absurd (cc)
not-true false h = refl

or-none : (a b : Bool) → (a || b) ≡ false → (a ≡ false) × (b ≡ false)
or-none true b h = absurd (cc)
or-none false b h = (refl, h)

small-by : (address user four : Bool) (size : ℕ) → IsTrue (if address then nat_le size LONGEST_PARAMETER else if user then nat_le 1 size && nat_le size LONGEST_DATA else if four then size == 4 else size == 1) → size ≤ LONGEST_PARAMETER
small-by true user four size h = leb-true size LONGEST_PARAMETER h
small-by false true four size h = let m : size ≤ LONGEST_DATA = leb-true size LONGEST_DATA (and-both (nat_le 1 size) (nat_le size LONGEST_DATA) h).1 in omega arith
small-by false false true size h = let m : size ≡ 4 = eqb-true size 4 h in omega arith
small-by false false false size h = let m : size ≡ 1 = eqb-true size 1 h in omega arith

option-small : (name size : ℕ) → IsTrue (is_option_length name size) → size ≤ LONGEST_PARAMETER
option-small name size h = small-by (name == 0x03 || name == 0x04) (name == 0x0F) (name == 0x10) size h

items_in-given : (n : ℕ) (names : List ℕ) (values : List (Option (List ℕ))) → length (all_given names values ++ 0 ∷ []) ≤ n → IsTrue (list_all (λ n. not (n == 0)) names) → IsTrue (have_option_lengths names values) → items_in n (all_given names values ++ 0 ∷ []) ≡ items_of names values
items_in-given zero [] values h some good = absurd (omega arith)
items_in-given (suc n) [] values h some good = refl
items_in-given zero (name ∷ names) [] h some good = absurd (omega arith)
items_in-given (suc n) (name ∷ names) [] h some good = refl
items_in-given n (name ∷ names) (None ∷ values) h some good = items_in-given n names values h (and-both (not (name == 0)) (list_all (λ n. not (n == 0)) names) some).1 good
items_in-given zero (name ∷ names) (Some value ∷ values) h some good = absurd (omega arith)
items_in-given (suc n) (name ∷ names) (Some value ∷ values) h some good =
    let rest : List ℕ = all_given names values ++ 0 ∷ [] in
    let some' = and-both (not (name == 0)) (list_all (λ n. not (n == 0)) names) some in
    let good' = and-both (is_option_length name (length value)) (have_option_lengths names values) good in
    let size : length value % 256 ≡ length value = one_octet (length value) (option-small name (length value) good'.0) in
    let whole : (value ++ all_given names values) ++ 0 ∷ [] ≡ value ++ rest = append_assoc value (all_given names values) (0 ∷ []) in
    let l : length ((value ++ all_given names values) ++ 0 ∷ []) ≡ length value + length rest = ap (λ (x : List ℕ). length x) whole ∙ length-append value rest in
    let more : items_in n rest ≡ items_of names values = items_in-given n names values (omega (arith, l)) some'.1 good'.1 in
    let here : nat_lt (length (value ++ rest)) (length value) ≡ false = le-ltb (length (value ++ rest)) (length value) (omega (arith, length-append value rest)) in
    rw (whole, size, not-true (name == 0) some'.0, here, take-append_seam value rest, drop-append_seam value rest, more) refl

and-none : (t : Bool) → (t && not true) ≡ false
and-none true = refl
and-none false = refl

first_fault-none : (names : List ℕ) (values : List (Option (List ℕ))) (wanted : List ℕ) → IsTrue (have_option_lengths names values) → first_fault wanted (items_of names values) ≡ None
first_fault-none [] values wanted good = refl
first_fault-none (name ∷ names) [] wanted good = refl
first_fault-none (name ∷ names) (None ∷ values) wanted good = first_fault-none names values wanted good
first_fault-none (name ∷ names) (Some value ∷ values) wanted good =
    let good' = and-both (is_option_length name (length value)) (have_option_lengths names values) good in
    rw (good'.0, and-none (list_any (λ n. n == name) wanted)) (first_fault-none names values (filter (λ n. not (n == name)) wanted) good'.1)

first_value-none : (names : List ℕ) (values : List (Option (List ℕ))) (n : ℕ) → list_any (λ m. n == m) names ≡ false → first_value (items_of names values) n ≡ None
first_value-none [] values n e = refl
first_value-none (name ∷ names) [] n e = refl
first_value-none (name ∷ names) (None ∷ values) n e = first_value-none names values n (or-none (n == name) (list_any (λ m. n == m) names) e).1
first_value-none (name ∷ names) (Some value ∷ values) n e =
    let both = or-none (n == name) (list_any (λ m. n == m) names) e in
    rw both.0 (first_value-none names values n both.1)

turn : (n m : ℕ) → (n == m) ≡ false → (m == n) ≡ false
turn n m h = ne_eqb m n (λ (e : m ≡ n). true≢false (sym (eq-eqb n m (sym e)) ∙ h))

map-first_value : (names : List ℕ) (items : List Item) (n : ℕ) (v : List ℕ) → list_any (λ m. n == m) names ≡ false → map (first_value (item n v ∷ items)) names ≡ map (first_value items) names
map-first_value [] items n v e = refl
map-first_value (name ∷ names) items n v e =
    let both = or-none (n == name) (list_any (λ m. n == m) names) e in
    rw (turn n name both.0) (ap (λ xs. first_value items name ∷ xs) (map-first_value names items n v both.1))

values-given : (names : List ℕ) (values : List (Option (List ℕ))) → length names ≤ length values → IsTrue (are_distinct names) → map (first_value (items_of names values)) names ≡ take (length names) values
values-given [] values few apart = refl
values-given (name ∷ names) [] few apart = absurd (omega arith)
values-given (name ∷ names) (None ∷ values) few apart =
    let both = and-both (not (list_any (λ n. name == n) names)) (are_distinct names) apart in
    ap₂ (λ x xs. x ∷ xs) (first_value-none names values name (not-true (list_any (λ n. name == n) names) both.0)) (values-given names values (omega arith) both.1)
values-given (name ∷ names) (Some value ∷ values) few apart =
    let both = and-both (not (list_any (λ n. name == n) names)) (are_distinct names) apart in
    rw (eq-eqb name name refl) (ap (λ xs. Some value ∷ xs) (map-first_value names (items_of names values) name value (not-true (list_any (λ n. name == n) names) both.0) ∙ values-given names values (omega arith) both.1))

options_among-items : (names : List ℕ) (values : List (Option (List ℕ))) → length names ≤ length values → IsTrue (are_distinct names) → IsTrue (have_option_lengths names values) → options_among names (items_of names values) ≡ Ok (filled 5 None (take (length names) values))
options_among-items names values few apart good =
    ap (λ f. unless_fault f (filled 5 None (map (first_value (items_of names values)) names))) (first_fault-none names values names good)
    ∙ ap (λ xs. Ok (filled 5 None xs)) (values-given names values few apart)

-- the optional part
abbrev pub names_in : Option (List ℕ) → List ℕ
names_in None = []
names_in (Some names) = names

target-option : (wide : Bool) (place size : ℕ) → place + (if wide then 1 else 0) + (1 + size) ≡ place + pointer_width wide + size
target-option true place size = omega arith
target-option false place size = omega arith

fits-one : (wide : Bool) (n : ℕ) → IsTrue (fits_pointer wide n && true) → IsTrue (fits_pointer wide n)
fits-one wide n h = (and-both (fits_pointer wide n) true h).0

fits-zero : (wide : Bool) → IsTrue (fits_pointer wide 0)
fits-zero true = refl
fits-zero false = refl

skip-some : (before n : ℕ) → optional_skip_of before (suc n) ≡ 1 + before
skip-some before n = rw (ne_eqb (suc n) 0 (λ (e : suc n ≡ 0). omega (arith, e))) refl

options_at-given : (wide : Bool) (b : List ℕ) (place : ℕ) (names : List ℕ) (values : List (Option (List ℕ))) (vs g : List ℕ) → all_given names values ≡ g → IsTrue (are_names names) → length names ≤ length values → IsTrue (have_option_lengths names values) → IsTrue (fits_pointer wide (optional_skip_of (length vs) (length (ended g)))) → drop place b ≡ number_octets wide (optional_skip_of (length vs) (length (ended g))) ++ (vs ++ ended g) → options_at wide b place (Some names) ≡ Ok (filled 5 None (take (length names) values))
unfolding options_at options_in
options_at-given wide b place names values vs [] none are few good fit e =
    let apart = (and-both (list_all (λ n. not (n == 0)) names) (are_distinct names) are).1 in
    let n : number_at wide b place ≡ 0 = number_at-front wide b place 0 (vs ++ []) (fits-zero wide) e in
    rw n (ap (options_among names) (sym (items_of-none names values none)) ∙ options_among-items names values few apart good)
options_at-given wide b place names values vs (x ∷ g) some are few good fit e =
    let both = and-both (list_all (λ n. not (n == 0)) names) (are_distinct names) are in
    let skip : ℕ = 1 + length vs in
    let target : ℕ = place + (if wide then 1 else 0) + skip in
    let counted : optional_skip_of (length vs) (length (ended (x ∷ g))) ≡ skip = skip-some (length vs) (length (g ++ 0 ∷ [])) in
    let e' : drop place b ≡ number_octets wide skip ++ (vs ++ ended (x ∷ g)) = e ∙ ap (λ k. number_octets wide k ++ (vs ++ ended (x ∷ g))) counted in
    let n : number_at wide b place ≡ skip = number_at-front wide b place skip (vs ++ ended (x ∷ g)) (subst (λ k. IsTrue (fits_pointer wide k)) counted fit) e' in
    let z : (skip == 0) ≡ false = ne_eqb skip 0 (λ (y : skip ≡ 0). omega arith) in
    let behind : drop (place + pointer_width wide) b ≡ vs ++ ended (x ∷ g) = drop-past b (number_octets wide skip) (vs ++ ended (x ∷ g)) place (place + pointer_width wide) e' (ap (λ k. place + k) (sym (length-number_octets wide skip))) in
    let there : drop target b ≡ ended (x ∷ g) = drop-past b vs (ended (x ∷ g)) (place + pointer_width wide) target behind (target-option wide place (length vs)) in
    let l : length b - target ≡ suc (length (g ++ 0 ∷ [])) = sym (length-drop target b) ∙ ap (λ (y : List ℕ). length y) there in
    let inside : nat_lt (length b) target ≡ false = le-ltb (length b) target (omega (arith, l)) in
    let part : drop target b ≡ all_given names values ++ 0 ∷ [] = there ∙ ap (λ (y : List ℕ). y ++ 0 ∷ []) (sym some) in
    rw (n, z, inside)
    (ap (λ (y : List ℕ). options_among names (items_in (length y) y)) part
    ∙ ap (options_among names) (items_in-given (length (all_given names values ++ 0 ∷ [])) names values (omega arith) both.0 good)
    ∙ options_among-items names values few both.1 good)

options_at-front : (wide : Bool) (b : List ℕ) (place : ℕ) (options : Option (List ℕ)) (values : List (Option (List ℕ))) (vs : List ℕ) → IsTrue (are_names (names_in options)) → length (names_in options) ≤ length values → IsTrue (are_options options values) → IsTrue (list_all (fits_pointer wide) (option_skip options (length vs) (optional_part options values))) → drop place b ≡ concat (map (number_octets wide) (option_skip options (length vs) (optional_part options values))) ++ (vs ++ optional_part options values) → options_at wide b place options ≡ Ok (filled 5 None (take (length (names_in options)) values))
unfolding options_at
options_at-front wide b place None values vs are few good fit e = refl
options_at-front wide b place (Some names) values vs are few good fit e =
    let skip : ℕ = optional_skip_of (length vs) (length (ended (all_given names values))) in
    options_at-given wide b place names values vs (all_given names values) refl are few good (fits-one wide skip fit) (e ∙ ap (λ (x : List ℕ). x ++ (vs ++ ended (all_given names values))) (append-nil (number_octets wide skip)))

-- a format that can be told apart: lengths fit two octets, and names are no end octets and no two the same
abbrev pub is_made : Format → Bool
is_made format = list_all (λ rule. nat_le rule.most 65_535) format.vars && are_names (names_in format.options)

-- values with a place for each parameter, and nothing in the room behind them
pub record HasPlaces (format : Format) (values : Values) : Type 0 where
  pub fixed : length values.fixed ≡ length format.fixed
  pub vars : filled 3 [] (take (length format.vars) values.vars) ≡ values.vars
  pub some : length format.vars ≤ length values.vars
  pub options : filled 5 None (take (length (names_in format.options)) values.options) ≡ values.options
  pub more : length (names_in format.options) ≤ length values.options

octets_of-fronts : (format : Format) (values : Values) → drop (1 + length values.fixed) (octets_of format values) ≡ concat (map (number_octets format.wide) (skips (pointer_width format.wide) (option_count format.options) 0 (variables format.vars values.vars))) ++ (concat (map (number_octets format.wide) (option_skip format.options (length (concat (variables format.vars values.vars))) (optional_part format.options values.options))) ++ (concat (variables format.vars values.vars) ++ optional_part format.options values.options))
unfolding octets_of
octets_of-fronts format values =
    let no : List ℕ → List ℕ = λ xs. concat (map (number_octets format.wide) xs) in
    let v : List ℕ = concat (variables format.vars values.vars) in
    let o : List ℕ = optional_part format.options values.options in
    let first : List ℕ = skips (pointer_width format.wide) (option_count format.options) 0 (variables format.vars values.vars) in
    let last : List ℕ = option_skip format.options (length v) o in
    let head : List ℕ = format.kind ∷ values.fixed in
    let apart : ((head ++ no (first ++ last)) ++ v) ++ o ≡ head ++ (no first ++ (no last ++ (v ++ o))) =
    append_assoc (head ++ no (first ++ last)) v o ∙ append_assoc head (no (first ++ last)) (v ++ o)
    ∙ ap (λ (x : List ℕ). head ++ (x ++ (v ++ o))) (concat-map-append (number_octets format.wide) first last)
    ∙ ap (λ (x : List ℕ). head ++ x) (append_assoc (no first) (no last) (v ++ o)) in
    let k : 1 + length values.fixed ≡ 0 + length head = omega arith in
    drop-past (((head ++ no (first ++ last)) ++ v) ++ o) head (no first ++ (no last ++ (v ++ o))) 0 (1 + length values.fixed) apart k

octets_of-fixed : (format : Format) (values : Values) → take (length values.fixed) (drop 1 (octets_of format values)) ≡ values.fixed
unfolding octets_of
octets_of-fixed format values =
    let p : List ℕ = concat (map (number_octets format.wide) (pointers format values)) in
    let v : List ℕ = concat (variables format.vars values.vars) in
    let o : List ℕ = optional_part format.options values.options in
    ap (take (length values.fixed)) (append_assoc (values.fixed ++ p) v o ∙ append_assoc values.fixed p (v ++ o)) ∙ take-append_seam values.fixed (p ++ (v ++ o))

place-option : (wide : Bool) (place n behind : ℕ) → place + pointer_width wide * (n + behind) + 0 ≡ place + pointer_width wide * n + pointer_width wide * behind
place-option true place n behind = omega arith
place-option false place n behind = omega arith

pub values_of-octets_of : (format : Format) (values : Values) → IsTrue (is_made format) → HasPlaces format values → IsTrue (are_in_range format values) → values_of format (octets_of format values) ≡ Ok values
values_of-octets_of format values made has range =
    let b : List ℕ = octets_of format values in
    let wide : Bool = format.wide in
    let w : ℕ = pointer_width wide in
    let parts : List (List ℕ) = variables format.vars values.vars in
    let v : List ℕ = concat parts in
    let o : List ℕ = optional_part format.options values.options in
    let first : List ℕ = skips w (option_count format.options) 0 parts in
    let last : List ℕ = option_skip format.options (length v) o in
    let place : ℕ = 1 + length format.fixed in
    let next : ℕ = place + w * length format.vars in
    let made' = and-both (list_all (λ rule. nat_le rule.most 65_535) format.vars) (are_names (names_in format.options)) made in
    let fit = and-both (list_all (fits_pointer wide) first) (list_all (fits_pointer wide) last) (sym (list_all-append (fits_pointer wide) first last) ∙ in_range-pointers format values range) in
    let fronts : drop place b ≡ concat (map (number_octets wide) first) ++ (concat (map (number_octets wide) last) ++ (v ++ o)) = ap (λ n. drop (1 + n) b) (sym has.fixed) ∙ octets_of-fronts format values in
    let long : length (concat (map (number_octets wide) first)) ≡ w * length format.vars = length-pointer_octets wide first ∙ ap (λ n. w * n) (length-skips w (option_count format.options) 0 parts ∙ length-variables format.vars values.vars has.some) in
    let short : length (concat (map (number_octets wide) last)) ≡ w * option_count format.options = length-pointer_octets wide last ∙ ap (λ n. w * n) (length-option_skip format.options (length v) o) in
    let at_option : drop next b ≡ concat (map (number_octets wide) last) ++ (v ++ o) = drop-past b (concat (map (number_octets wide) first)) (concat (map (number_octets wide) last) ++ (v ++ o)) place next fronts (ap (λ n. place + n) (sym long)) in
    let at_parts : drop (place + w * (length format.vars + option_count format.options) + 0) b ≡ v ++ o = drop-past b (concat (map (number_octets wide) last)) (v ++ o) next (place + w * (length format.vars + option_count format.options) + 0) at_option (place-option wide place (length format.vars) (option_count format.options) ∙ ap (λ n. next + n) (sym short)) in
    let vars : filled_variables wide b place format.vars ≡ Ok values.vars = ap (λ r. r >>= (λ xs. Ok (filled 3 [] xs))) (variables_at-front wide b place (option_count format.options) 0 format.vars values.vars (concat (map (number_octets wide) last) ++ (v ++ o)) o has.some made'.0 (in_range-lengths format values range) fit.0 fronts at_parts) ∙ ap Ok has.vars in
    let options : options_at wide b next format.options ≡ Ok values.options = options_at-front wide b next format.options values.options v made'.1 has.more (in_range-options format values range) fit.1 at_option ∙ ap Ok has.options in
    let l : length b ≡ 1 + length values.fixed + w * pointer_count format + length v + length o = length-octets_of format values has.some in
    let room : HasPointers format b = record {
      some = ne_eqb (length b) 0 (λ (e : length b ≡ 0). omega (arith, l));
      room = omega (arith, l, has.fixed);
    } in
    values_of-values format b place next values.fixed values.vars values.options room refl refl (sym (octets_of-fixed format values) ∙ ap (λ n. take n (drop 1 b)) has.fixed) vars options
