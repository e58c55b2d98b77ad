-- The connections by their numbers, once one is as it is next, is over, or is opened.
use Rattle.std.proofs.Common.{◌≡◌, ◌≢◌, ℕ, suc, ◌+◌, ◌-◌, ◌<◌, ◌≤◌, ◌==◌, true, false, OnOk, Ok, Err, List, [], ◌∷◌, ◌++◌, length, map, get_or, set, Option, Some, None, inl, inr, refl, sym, subst, ap, ap₂, ◌∙◌, arith}
use Rattle.std.specs.Prelude.{option_map, is_some, min, nat_eq, IsOk}
use Rattle.std.specs.declared.result.Result.{Result}
use Rattle.std.specs.List.{range_with_len}
use Rattle.std.specs.HashMap.{HashMap, get as place_at, spare, Updates as MapUpdates}
use Rattle.std.proofs.lemmas.Bool.{cases_lt, cases_eq, ne_eqb}
use Rattle.std.proofs.lemmas.List.{length-set, get_or_past, get_or-set_same, get_or-set_other}
use Rattle.std.proofs.lemmas.List.FromFn.{length-map-range_with_len, get_or-map-range_with_len, map-range_with_len_more}
use Rattle.std.proofs.lemmas.Option.{same_Some}
use Rattle.slab.specs.Slab.{Slab, get as placed_at, slab_len, Updates as SlabUpdates}
use Rattle.section_coupling.specs.Duos.{DuoState}
use Rattle.conn_lane.specs.declared.placed.Placed.{Placed}
use Rattle.conn_lane.specs.Inner.Placing.{one_in, one_of, kept_in, IsOfNumber, ArePlaced}

same_list : {X : Type 0} (xs ys : List (Option X)) → length xs ≡ length ys → ((n : ℕ) → get_or xs n None ≡ get_or ys n None) → xs ≡ ys
same_list [] [] long all = refl
same_list [] (y ∷ ys) long all = absurd (omega (arith, long))
same_list (x ∷ xs) [] long all = absurd (omega (arith, long))
same_list (x ∷ xs) (y ∷ ys) long all = ap₂ (λ z zs. z ∷ zs) (all 0) (same_list xs ys (omega (arith, long)) (λ n. all (suc n)))

-- The connection of a number.

none_past : (placed : ℕ → Option Placed) (places : ℕ → Option ℕ) (opened n : ℕ) → ArePlaced placed places opened → opened ≤ n → one_of placed places n ≡ None
none_past placed places opened n are past = by_place (places n) refl
  where
    by_place : (place : Option ℕ) → places n ≡ place → one_in placed place ≡ None
    by_place None is = refl
    by_place (Some place) is = absurd (omega (arith, past, are.opens n place is))

pub one_kept : (placed : ℕ → Option Placed) (places : ℕ → Option ℕ) (opened n : ℕ) → ArePlaced placed places opened → get_or (kept_in placed places opened) n None ≡ one_of placed places n
one_kept placed places opened n are =
    elim (cases_lt n opened) [
      | inl within ↦ get_or-map-range_with_len (one_of placed places) 0 opened n n None within (omega arith)
      | inr past ↦
          get_or_past (kept_in placed places opened) n None (omega (arith, past, length-map-range_with_len (one_of placed places) 0 opened))
          ∙ sym (none_past placed places opened n are past)
    ]

-- the same but for one number
kept_set : (old new : ℕ → Option DuoState) (opened n : ℕ) (one : Option DuoState) → n < opened → new n ≡ one → ((k : ℕ) → k ≢ n → new k ≡ old k)
    → map new (range_with_len 0 opened) ≡ set (map old (range_with_len 0 opened)) n one
kept_set old new opened n one within here others =
    same_list (map new (range_with_len 0 opened)) (set (map old (range_with_len 0 opened)) n one)
    (length-map-range_with_len new 0 opened ∙ sym (length-set (map old (range_with_len 0 opened)) n one ∙ length-map-range_with_len old 0 opened))
    (λ k. elim (cases_lt k opened) [ inl inside ↦ at k inside | inr past ↦ beyond k past ])
  where
    long : length (map old (range_with_len 0 opened)) ≡ opened
    long = length-map-range_with_len old 0 opened

    at : (k : ℕ) → k < opened → get_or (map new (range_with_len 0 opened)) k None ≡ get_or (set (map old (range_with_len 0 opened)) n one) k None
    at k inside =
        get_or-map-range_with_len new 0 opened k k None inside (omega arith)
        ∙ elim (cases_eq k n) [
          | inl same ↦ ap new same ∙ (here ∙ sym (ap (λ m. get_or (set (map old (range_with_len 0 opened)) n one) m None) same ∙ get_or-set_same (map old (range_with_len 0 opened)) n one None (omega (arith, within, long))))
          | inr differs ↦ others k differs ∙ sym (get_or-set_other (map old (range_with_len 0 opened)) n k one None differs ∙ get_or-map-range_with_len old 0 opened k k None inside (omega arith))
        ]

    beyond : (k : ℕ) → opened ≤ k → get_or (map new (range_with_len 0 opened)) k None ≡ get_or (set (map old (range_with_len 0 opened)) n one) k None
    beyond k past =
        get_or_past (map new (range_with_len 0 opened)) k None (omega (arith, past, length-map-range_with_len new 0 opened))
        ∙ sym (get_or_past (set (map old (range_with_len 0 opened)) n one) k None (omega (arith, past, long, length-set (map old (range_with_len 0 opened)) n one)))

-- one more
kept_more : (old new : ℕ → Option DuoState) (opened : ℕ) (one : Option DuoState) → new opened ≡ one → ((k : ℕ) → k < opened → new k ≡ old k)
    → map new (range_with_len 0 (opened + 1)) ≡ map old (range_with_len 0 opened) ++ one ∷ []
kept_more old new opened one here others =
    map-range_with_len_more new 0 opened opened (omega arith)
    ∙ ap₂ (λ xs x. xs ++ x ∷ [])
    (same_list (map new (range_with_len 0 opened)) (map old (range_with_len 0 opened)) (length-map-range_with_len new 0 opened ∙ sym (length-map-range_with_len old 0 opened))
    (λ k. elim (cases_lt k opened) [
      | inl inside ↦
          get_or-map-range_with_len new 0 opened k k None inside (omega arith)
          ∙ (others k inside ∙ sym (get_or-map-range_with_len old 0 opened k k None inside (omega arith)))
      | inr past ↦
          get_or_past (map new (range_with_len 0 opened)) k None (omega (arith, past, length-map-range_with_len new 0 opened))
          ∙ sym (get_or_past (map old (range_with_len 0 opened)) k None (omega (arith, past, length-map-range_with_len old 0 opened)))
    ]))
    here

-- A place.

-- another value at a key, and the same at all others
pub record Updated {X : Type 0} (old new : ℕ → Option X) (key : ℕ) (value : Option X) : Type 0 where
  pub changed : new key ≡ value
  pub others : (other : ℕ) → other ≢ key → new other ≡ old other

pub record Placing (placed : ℕ → Option Placed) (places : ℕ → Option ℕ) (opened : ℕ) (kept : List (Option DuoState)) : Type 0 where
  pub are : ArePlaced placed places opened
  pub kept_is : kept_in placed places opened ≡ kept

none_some : {X : Type 0} (x : X) (o : Option X) → o ≡ None → o ≡ Some x → ⊥
none_some x o none some = absurd (cc)

-- a place is that of one number
number_at : (placed : ℕ → Option Placed) (number n : ℕ) (place : ℕ) → IsOfNumber number (placed place) → IsOfNumber n (placed place) → number ≡ n
number_at placed number n place a b = sym a.number_is ∙ (ap (λ p. p.number) (same_Some a.one b.one (sym a.is ∙ b.is)) ∙ b.number_is)

of_other : (placed new : ℕ → Option Placed) (places : ℕ → Option ℕ) (opened n place : ℕ) (value : Option Placed) → ArePlaced placed places opened → places n ≡ Some place → Updated placed new place value
    → (k : ℕ) → k ≢ n → one_of new places k ≡ one_of placed places k
of_other placed new places opened n place value are here put k differs = by_place (places k) refl
  where
    by_place : (at : Option ℕ) → places k ≡ at → one_in new at ≡ one_in placed at
    by_place None is = refl
    by_place (Some q) is =
        ap (option_map (λ p. p.one))
        (put.others q (λ e. differs (number_at placed k n q (are.found k q is) (subst (λ x. IsOfNumber n (placed x)) (sym e) (are.found n place here)))))

put_next : (placed new : ℕ → Option Placed) (places : ℕ → Option ℕ) (opened n place : ℕ) (one : DuoState) → ArePlaced placed places opened → places n ≡ Some place
    → Updated placed new place (Some (record { number = n; one = one })) → Placing new places opened (set (kept_in placed places opened) n (Some one))
put_next placed new places opened n place one are here put =
    record {
      are = record {
        opens = are.opens;
        found = λ number q is. elim (cases_eq q place) [
          | inl same ↦ at_place number q is same
          | inr differs ↦ subst (IsOfNumber number) (sym (put.others q differs)) (are.found number q is)
        ];
        known = λ q p is. elim (cases_eq q place) [
          | inl same ↦ ap places (ap (λ x. x.number) (sym (same_Some (record { number = n; one = one }) p (sym put.changed ∙ (ap new (sym same) ∙ is))))) ∙ (here ∙ ap Some (sym same))
          | inr differs ↦ are.known q p (sym (put.others q differs) ∙ is)
        ];
      };
      kept_is = kept_set (one_of placed places) (one_of new places) opened n (Some one) (are.opens n place here)
          (ap (one_in new) here ∙ ap (option_map (λ p. p.one)) put.changed)
          (of_other placed new places opened n place (Some (record { number = n; one = one })) are here put);
    }
  where
    at_place : (number q : ℕ) → places number ≡ Some q → q ≡ place → IsOfNumber number (new q)
    at_place number q is same =
        record {
          one = record { number = n; one = one };
          is = ap new same ∙ put.changed;
          number_is = sym (number_at placed number n q (are.found number q is) (subst (λ x. IsOfNumber n (placed x)) (sym same) (are.found n place here)));
        }

pub put_none : (placed new : ℕ → Option Placed) (places fewer : ℕ → Option ℕ) (opened n place : ℕ) → ArePlaced placed places opened → places n ≡ Some place
    → Updated placed new place None → Updated places fewer n None → Placing new fewer opened (set (kept_in placed places opened) n None)
put_none placed new places fewer opened n place are here put left =
    record {
      are = record {
        opens = λ number q is. are.opens number q (was number q is);
        found = λ number q is. subst (IsOfNumber number) (sym (put.others q (apart number q is))) (are.found number q (was number q is));
        known = λ q p is.
            let differs : q ≢ place = λ e. none_some p (new place) put.changed (ap new (sym e) ∙ is) in
            let before : places p.number ≡ Some q = are.known q p (sym (put.others q differs) ∙ is) in
            left.others p.number (λ e. differs (same_Some q place (sym before ∙ (ap places e ∙ here)))) ∙ before;
      };
      kept_is = kept_set (one_of placed places) (one_of new fewer) opened n None (are.opens n place here) (ap (one_in new) left.changed)
          (λ k differs. ap (one_in new) (left.others k differs) ∙ of_other placed new places opened n place None are here put k differs);
    }
  where
    not_it : (number q : ℕ) → fewer number ≡ Some q → number ≢ n
    not_it number q is e = none_some q (fewer n) left.changed (ap fewer (sym e) ∙ is)

    was : (number q : ℕ) → fewer number ≡ Some q → places number ≡ Some q
    was number q is = sym (left.others number (not_it number q is)) ∙ is

    apart : (number q : ℕ) → fewer number ≡ Some q → q ≢ place
    apart number q is e =
        not_it number q is (number_at placed number n q (are.found number q (was number q is)) (subst (λ x. IsOfNumber n (placed x)) (sym e) (are.found n place here)))

put_more : (placed new : ℕ → Option Placed) (places more : ℕ → Option ℕ) (opened place : ℕ) (one : DuoState) → ArePlaced placed places opened → placed place ≡ None
    → Updated placed new place (Some (record { number = opened; one = one })) → Updated places more opened (Some place)
    → Placing new more (opened + 1) (kept_in placed places opened ++ Some one ∷ [])
put_more placed new places more opened place one are vacant put taken =
    record {
      are = record {
        opens = λ number q is. elim (cases_eq number opened) [
          | inl same ↦ omega (arith, same)
          | inr differs ↦ omega (arith, are.opens number q (sym (taken.others number differs) ∙ is))
        ];
        found = λ number q is. elim (cases_eq number opened) [
          | inl same ↦ at_last number q is same
          | inr differs ↦ at_other number q (sym (taken.others number differs) ∙ is)
        ];
        known = λ q p is. elim (cases_eq q place) [
          | inl same ↦ ap more (ap (λ x. x.number) (sym (same_Some (record { number = opened; one = one }) p (sym put.changed ∙ (ap new (sym same) ∙ is))))) ∙ (taken.changed ∙ ap Some (sym same))
          | inr differs ↦ before q p (are.known q p (sym (put.others q differs) ∙ is))
        ];
      };
      kept_is = kept_more (one_of placed places) (one_of new more) opened (Some one) (ap (one_in new) taken.changed ∙ ap (option_map (λ p. p.one)) put.changed)
          (λ k inside. ap (one_in new) (taken.others k (λ e. omega (arith, e, inside))) ∙ by_place k (places k) refl);
    }
  where
    occupied : (number q : ℕ) → places number ≡ Some q → q ≢ place
    occupied number q is e = none_some (are.found number q is).one (placed place) vacant (ap placed (sym e) ∙ (are.found number q is).is)

    at_other : (number q : ℕ) → places number ≡ Some q → IsOfNumber number (new q)
    at_other number q is = subst (IsOfNumber number) (sym (put.others q (occupied number q is))) (are.found number q is)

    at_last : (number q : ℕ) → more number ≡ Some q → number ≡ opened → IsOfNumber number (new q)
    at_last number q is same =
        let here : q ≡ place = same_Some q place (sym is ∙ (ap more same ∙ taken.changed)) in
        record { one = record { number = opened; one = one }; is = ap new here ∙ put.changed; number_is = sym same }

    before : (q : ℕ) (p : Placed) → places p.number ≡ Some q → more p.number ≡ Some q
    before q p is = taken.others p.number (λ e. omega (arith, e, are.opens p.number q is)) ∙ is

    by_place : (k : ℕ) (at : Option ℕ) → places k ≡ at → one_in new at ≡ one_in placed at
    by_place k None is = refl
    by_place k (Some q) is = ap (option_map (λ p. p.one)) (put.others q (occupied k q is))

-- What a caller knows of it.

pub isnt_kept : (x : Option DuoState) → x ≡ None → is_some x ≡ true → ⊥
isnt_kept x none some = absurd (cc)

from_ok : {A E : Type 0} (r : Result A E) (P : Type 0) → IsOk r → OnOk r P → P
from_ok (Ok a) P ok p = p
from_ok (Err e) P ok p = absurd (cc)

room_left : (places spare room : ℕ) → min places spare ≡ room → 1 ≤ room → 0 < spare
room_left places spare room is some = grind (arith, is, some)

pub apart_from : (a b : ℕ) → b ≢ a → (a == b) ≡ false
apart_from a b differs = ne_eqb a b (λ e. differs (sym e))

-- By the slab and the map themselves.

-- one more, where there is room for it
pub put_opened : {A E S : Type 0} (placed new : Slab Placed) (places more : HashMap ℕ ℕ S) (opened place room : ℕ) (one : DuoState) (r : Result A E)
    → ArePlaced (placed_at placed) (place_at nat_eq places) opened → placed_at placed place ≡ None → SlabUpdates placed new place (Some (record { number = opened; one = one }))
    → min (placed.capacity - slab_len placed) (spare places) ≡ room → 1 ≤ room → (0 < spare places → IsOk r) → OnOk r (MapUpdates nat_eq places more opened (Some place))
    → Placing (placed_at new) (place_at nat_eq more) (opened + 1) (kept_in (placed_at placed) (place_at nat_eq places) opened ++ Some one ∷ [])
put_opened placed new places more opened place room one r are vacant put is some succeeds updates =
    let known = from_ok r (MapUpdates nat_eq places more opened (Some place)) (succeeds (room_left (placed.capacity - slab_len placed) (spare places) room is some)) updates in
    put_more (placed_at placed) (placed_at new) (place_at nat_eq places) (place_at nat_eq more) opened place one are vacant (record { changed = put.changed; others = put.others })
    (record { changed = known.1; others = λ q differs. known.2 q (apart_from opened q differs) })

-- another in the place that one leaves
pub put_anew : {S : Type 0} (placed left new : Slab Placed) (places : HashMap ℕ ℕ S) (opened n place key : ℕ) (one : DuoState)
    → ArePlaced (placed_at placed) (place_at nat_eq places) opened → place_at nat_eq places n ≡ Some place → SlabUpdates placed left place None
    → key ≡ place → SlabUpdates left new key (Some (record { number = n; one = one }))
    → Placing (placed_at new) (place_at nat_eq places) opened (set (kept_in (placed_at placed) (place_at nat_eq places) opened) n (Some one))
put_anew placed left new places opened n place key one are here leaves same put =
    put_next (placed_at placed) (placed_at new) (place_at nat_eq places) opened n place one are here
    (record {
      changed = ap (placed_at new) (sym same) ∙ put.changed;
      others = λ q differs. put.others q (λ e. differs (e ∙ same)) ∙ leaves.others q differs;
    })
