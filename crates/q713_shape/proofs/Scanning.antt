-- The optional part, from its front to its end.
use Rattle.std.proofs.Common.{◌≡◌, ◌⊎◌, inl, inr, ℕ, zero, suc, ◌+◌, ◌-◌, ◌<◌, ◌≤◌, ◌==◌, ◌&&◌, nat_lt, Bool, true, false, not, List, [], ◌∷◌, length, get_or, take, drop, replicate, cond, Ok, Err, refl, ap, sym, ◌∙◌, arith, length-drop, if◌then◌else◌}
use Rattle.std.specs.Prelude.{Option, Some, None}
use Rattle.std.specs.Option.{option_map}
use Rattle.std.specs.List.{list_any, filter}
use Rattle.std.proofs.lemmas.List.{take_all, length-map}
use Rattle.std.specs.Borrow.{Bor}
use Rattle.std.specs.declared.result.Result.{Result}
use Rattle.std.proofs.lemmas.Bool.{ne_eqb, lt-ltb, le-ltb}
use Rattle.relay_base.specs.declared.words.ReadFault.{ReadFault}
use Rattle.relay_base.specs.declared.words.ReadFault.TheVariants.{Short, ValueLength}
use Rattle.q713_shape.specs.Format.{is_option_length}
use Rattle.q713_shape.specs.Parts.{optional_slices}
use Rattle.q713_shape.specs.Reading.{Item, item, cut, items_in, first_fault, first_value, number_at, options_among, options_in, options_at, unless_fault}
use Rattle.std.proofs.lemmas.Bool.{leb-true}
use Rattle.std.specs.Prelude.{IsTrue, nat_le}
use Rattle.q713_shape.specs.declared.rules.OptionRule.{OptionRule}
use Rattle.q713_shape.specs.declared.rules.OptionRule.TheVariants.{Names}
use Rattle.q713_shape.specs.Rules.{names_of, has_few_names}
use Rattle.q713_shape.specs.Inner.Taking.{taken_with, names_left, found_with}

-- the values found and those of the items to come
abbrev merged : List ℕ → List (Option (List ℕ)) → List Item → List (Option (List ℕ))
merged [] found items = found
merged (name ∷ names) [] items = first_value items name ∷ merged names [] items
merged (name ∷ names) (None ∷ found) items = first_value items name ∷ merged names found items
merged (name ∷ names) (Some value ∷ found) items = Some value ∷ merged names found items

abbrev outcome : List ℕ → List (Option (List ℕ)) → List Item → Result (List (Option (List ℕ))) ReadFault
outcome names found items = unless_fault (first_fault (names_left names found) items) (merged names found items)

outcome-none : (names : List ℕ) (items : List Item) → length names ≤ 5 → outcome names (replicate 5 None) items ≡ options_among names items
outcome-none [] items h = refl
outcome-none (a ∷ []) items h = refl
outcome-none (a ∷ b ∷ []) items h = refl
outcome-none (a ∷ b ∷ c ∷ []) items h = refl
outcome-none (a ∷ b ∷ c ∷ d ∷ []) items h = refl
outcome-none (a ∷ b ∷ c ∷ d ∷ e ∷ []) items h = refl
outcome-none (a ∷ b ∷ c ∷ d ∷ e ∷ f ∷ names) items h = absurd (omega arith)

merged-nil : (names : List ℕ) (found : List (Option (List ℕ))) → length names ≤ length found → merged names found [] ≡ found
merged-nil [] found h = refl
merged-nil (name ∷ names) [] h = absurd (omega arith)
merged-nil (name ∷ names) (None ∷ found) h = ap (λ f. None ∷ f) (merged-nil names found (omega arith))
merged-nil (name ∷ names) (Some v ∷ found) h = ap (λ f. Some v ∷ f) (merged-nil names found (omega arith))

-- one more item
left_by : (t : Bool) (name : ℕ) (names : List ℕ) (more : List (Option (List ℕ))) (v : List ℕ) (kept : List ℕ) → names_left names more ≡ kept → names_left (name ∷ names) ((if t then Some v else None) ∷ more) ≡ cond (not t) (name ∷ kept) kept
left_by true name names more v kept e = e
left_by false name names more v kept e = ap (λ k. name ∷ k) e

names_left-with : (names : List ℕ) (found : List (Option (List ℕ))) (n : ℕ) (v : List ℕ) → names_left names (found_with names found n v) ≡ filter (λ name. not (name == n)) (names_left names found)
names_left-with [] found n v = refl
names_left-with (name ∷ names) [] n v = left_by (name == n) name names (found_with names [] n v) v (filter (λ m. not (m == n)) (names_left names [])) (names_left-with names [] n v)
names_left-with (name ∷ names) (None ∷ found) n v = left_by (name == n) name names (found_with names found n v) v (filter (λ m. not (m == n)) (names_left names found)) (names_left-with names found n v)
names_left-with (name ∷ names) (Some x ∷ found) n v = names_left-with names found n v

merged_by : (t : Bool) (name : ℕ) (names : List ℕ) (more : List (Option (List ℕ))) (v : List ℕ) (items : List Item) (rest : List (Option (List ℕ))) → merged names more items ≡ rest → merged (name ∷ names) ((if t then Some v else None) ∷ more) items ≡ (if t then Some v else first_value items name) ∷ rest
merged_by true name names more v items rest e = ap (λ r. Some v ∷ r) e
merged_by false name names more v items rest e = ap (λ r. first_value items name ∷ r) e

merged-with : (names : List ℕ) (found : List (Option (List ℕ))) (n : ℕ) (v : List ℕ) (items : List Item) → merged names (found_with names found n v) items ≡ merged names found (item n v ∷ items)
merged-with [] found n v items = refl
merged-with (name ∷ names) [] n v items = merged_by (name == n) name names (found_with names [] n v) v items (merged names [] (item n v ∷ items)) (merged-with names [] n v items)
merged-with (name ∷ names) (None ∷ found) n v items = merged_by (name == n) name names (found_with names found n v) v items (merged names found (item n v ∷ items)) (merged-with names found n v items)
merged-with (name ∷ names) (Some x ∷ found) n v items = ap (λ r. Some x ∷ r) (merged-with names found n v items)

if-ok : {A E : Type 0} (t : Bool) (e : E) (x y : A) → (if t then Err e else Ok x) ≡ Ok y → (t ≡ false) × (x ≡ y)
if-ok true e x y h = absurd (cc)
if-ok false e x y h = (refl, cc)

if-err : {A E : Type 0} (t : Bool) (e f : E) (x : A) → (if t then Err e else Ok x) ≡ Err f → (t ≡ true) × (e ≡ f)
if-err true e f x h = (refl, cc)
if-err false e f x h = absurd (cc)

outcome-item : (names : List ℕ) (found later : List (Option (List ℕ))) (n : ℕ) (v : List ℕ) (items : List Item) → taken_with names found n v ≡ Ok later → outcome names found (item n v ∷ items) ≡ outcome names later items
unfolding taken_with
outcome-item names found later n v items h =
    let both = if-ok (list_any (λ name. name == n) (names_left names found) && not (is_option_length n (length v))) (ValueLength n) (found_with names found n v) later h in
    ap (λ t. unless_fault (if t then Some (ValueLength n) else first_fault (filter (λ name. not (name == n)) (names_left names found)) items) (merged names found (item n v ∷ items))) both.0
    ∙ ap (λ l. unless_fault (first_fault l items) (merged names found (item n v ∷ items))) (sym (names_left-with names found n v))
    ∙ ap (λ m. unless_fault (first_fault (names_left names (found_with names found n v)) items) m) (sym (merged-with names found n v items))
    ∙ ap (λ f. outcome names f items) both.1

outcome-fault : (names : List ℕ) (found : List (Option (List ℕ))) (n : ℕ) (v : List ℕ) (items : List Item) (fault : ReadFault) → taken_with names found n v ≡ Err fault → outcome names found (item n v ∷ items) ≡ Err fault
unfolding taken_with
outcome-fault names found n v items fault h =
    let both = if-err (list_any (λ name. name == n) (names_left names found) && not (is_option_length n (length v))) (ValueLength n) fault (found_with names found n v) h in
    ap (λ t. unless_fault (if t then Some (ValueLength n) else first_fault (filter (λ name. not (name == n)) (names_left names found)) items) (merged names found (item n v ∷ items))) both.0 ∙ ap Err both.1

-- what stands first in the octets of an optional part
items_in-any : (n m : ℕ) (b : List ℕ) → length b ≤ n → length b ≤ m → items_in n b ≡ items_in m b
items_in-any zero zero b h k = refl
items_in-any zero (suc m) [] h k = refl
items_in-any zero (suc m) (x ∷ r) h k = absurd (omega arith)
items_in-any (suc n) zero [] h k = refl
items_in-any (suc n) zero (x ∷ r) h k = absurd (omega arith)
items_in-any (suc n) (suc m) [] h k = refl
items_in-any (suc n) (suc m) (x ∷ []) h k = refl
items_in-any (suc n) (suc m) (x ∷ s ∷ r) h k =
    ap (λ (items : List Item). if x == 0 then [] else if nat_lt (length r) s then cut ∷ [] else item x (take s r) ∷ items)
    (items_in-any n m (drop s r) (omega (arith, length-drop s r)) (omega (arith, length-drop s r)))

items_in-end : (b : List ℕ) → (length b ≡ 0) ⊎ (get_or b 0 0 ≡ 0) → items_in (length b) b ≡ []
items_in-end [] h = refl
items_in-end (x ∷ r) (inl h) = absurd (omega arith)
items_in-end (x ∷ []) (inr h) = rw h refl
items_in-end (x ∷ s ∷ r) (inr h) = rw h refl

items_in-cut : (b : List ℕ) → (length b ≡ 0 → ⊥) → (get_or b 0 0 ≡ 0 → ⊥) → (length b < 2) ⊎ (length b - 2 < get_or b 1 0) → items_in (length b) b ≡ cut ∷ []
items_in-cut [] some h k = absurd (some refl)
items_in-cut (x ∷ []) some h k = rw (ne_eqb x 0 h) refl
items_in-cut (x ∷ s ∷ r) some h (inl k) = absurd (omega arith)
items_in-cut (x ∷ s ∷ r) some h (inr k) = rw (ne_eqb x 0 h, lt-ltb (length r) s (omega arith)) refl

items_in-item : (b : List ℕ) (end : ℕ) → (get_or b 0 0 ≡ 0 → ⊥) → end ≡ 2 + get_or b 1 0 → 2 ≤ length b → get_or b 1 0 ≤ length b - 2 → items_in (length b) b ≡ item (get_or b 0 0) (take (end - 2) (drop 2 b)) ∷ items_in (length (drop end b)) (drop end b)
items_in-item [] end h e k l = absurd (omega arith)
items_in-item (x ∷ []) end h e k l = absurd (omega arith)
items_in-item (x ∷ s ∷ r) end h e k l =
    let size : end - 2 ≡ s = omega arith in
    let two : end ≡ suc (suc s) = omega arith in
    let rest : drop end (x ∷ s ∷ r) ≡ drop s r = ap (λ n. drop n (x ∷ s ∷ r)) two in
    let fuel : items_in (suc (length r)) (drop s r) ≡ items_in (length (drop s r)) (drop s r) = items_in-any (suc (length r)) (length (drop s r)) (drop s r) (omega (arith, length-drop s r)) (omega arith) in
    rw (ne_eqb x 0 h, le-ltb (length r) s (omega arith), rest, size, fuel) refl

-- what the loop keeps
pub record IsScannedTo (names part : List ℕ) (values : List (Option (Bor (List ℕ)))) (rest : List ℕ) : Type 0 where
  pub so_far : options_in names part ≡ outcome names (optional_slices values) (items_in (length rest) rest)
  pub room : length values ≡ 5

pub IsScannedTo-start : (names part : List ℕ) → length names ≤ 5 → IsScannedTo names part (None ∷ None ∷ None ∷ None ∷ None ∷ []) part
unfolding options_in
IsScannedTo-start names part h = record { so_far = sym (outcome-none names (items_in (length part) part) h); room = refl }

pub IsScannedTo-next : (names part : List ℕ) (values later : List (Option (Bor (List ℕ)))) (b : List ℕ) (end k : ℕ) → (get_or b 0 0 ≡ 0 → ⊥) → end ≡ 2 + get_or b 1 0 → 2 ≤ length b → get_or b 1 0 ≤ length b - 2 → taken_with names (optional_slices values) (get_or b 0 0) (take (end - 2) (drop 2 b)) ≡ Ok (optional_slices later) → length later ≡ 5 → length b - end ≤ k → IsScannedTo names part values b → IsScannedTo names part later (take k (drop end b))
IsScannedTo-next names part values later b end k h e two fits taken room long s = record {
  so_far =
      s.so_far ∙ ap (outcome names (optional_slices values)) (items_in-item b end h e two fits)
      ∙ outcome-item names (optional_slices values) (optional_slices later) (get_or b 0 0) (take (end - 2) (drop 2 b)) (items_in (length (drop end b)) (drop end b)) taken
      ∙ ap (λ r. outcome names (optional_slices later) (items_in (length r) r)) (sym (take_all k (drop end b) (omega (arith, length-drop end b))));
  room = room;
}

pub IsScannedTo-fault : (names part : List ℕ) (values : List (Option (Bor (List ℕ)))) (b : List ℕ) (end : ℕ) (fault : ReadFault) → (get_or b 0 0 ≡ 0 → ⊥) → end ≡ 2 + get_or b 1 0 → 2 ≤ length b → get_or b 1 0 ≤ length b - 2 → taken_with names (optional_slices values) (get_or b 0 0) (take (end - 2) (drop 2 b)) ≡ Err fault → IsScannedTo names part values b → options_in names part ≡ Err fault
IsScannedTo-fault names part values b end fault h e two fits taken s =
    s.so_far ∙ ap (outcome names (optional_slices values)) (items_in-item b end h e two fits)
    ∙ outcome-fault names (optional_slices values) (get_or b 0 0) (take (end - 2) (drop 2 b)) (items_in (length (drop end b)) (drop end b)) fault taken

pub IsScannedTo-cut : (names part : List ℕ) (values : List (Option (Bor (List ℕ)))) (b : List ℕ) → (length b ≡ 0 → ⊥) → (get_or b 0 0 ≡ 0 → ⊥) → (length b < 2) ⊎ (length b - 2 < get_or b 1 0) → IsScannedTo names part values b → options_in names part ≡ Err Short
IsScannedTo-cut names part values b some h k s = s.so_far ∙ ap (outcome names (optional_slices values)) (items_in-cut b some h k)

pub IsScannedTo-whole : (names part : List ℕ) (values : List (Option (Bor (List ℕ)))) (b : List ℕ) → length names ≤ 5 → (length b ≡ 0) ⊎ (get_or b 0 0 ≡ 0) → IsScannedTo names part values b → options_in names part ≡ Ok (optional_slices values)
IsScannedTo-whole names part values b few h s =
    s.so_far ∙ ap (outcome names (optional_slices values)) (items_in-end b h)
    ∙ ap Ok (merged-nil names (optional_slices values) (omega (arith, few, s.room, length-map values (option_map (λ (x : Bor (List ℕ)). x.now)))))

pub options_among-nil : (names : List ℕ) → length names ≤ 5 → options_among names [] ≡ Ok (None ∷ None ∷ None ∷ None ∷ None ∷ [])
options_among-nil names h = sym (outcome-none names [] h) ∙ ap Ok (merged-nil names (replicate 5 None) h)

pub options_at-zero : (wide : Bool) (b : List ℕ) (place : ℕ) (rule : OptionRule) (names : Bor (List ℕ)) → rule ≡ Names names → IsTrue (has_few_names rule) → number_at wide b place ≡ 0 → options_at wide b place (names_of rule) ≡ Ok (None ∷ None ∷ None ∷ None ∷ None ∷ [])
unfolding options_at
options_at-zero wide b place rule names e few z =
    let few' : IsTrue (nat_le (length names.now) 5) = rw e at few in
    rw (e, z) (options_among-nil names.now (leb-true (length names.now) 5 few'))
