-- A tick, connection by connection: those before the next one that it wakes took it already.
use Rattle.std.proofs.Common.{◌≡◌, ℕ, zero, suc, ◌+◌, ◌-◌, ◌==◌, ◌<◌, ◌≤◌, ◌||◌, true, false, List, [], ◌∷◌, ◌++◌, length, get_or, take, drop, Option, Some, None, refl, sym, subst, ap, ◌∙◌, ⊎_elim, arith}
use Rattle.std.proofs.lemmas.Bool.{or_left, or_right, or_cases, or_from}
use Rattle.std.proofs.lemmas.List.Folds.{list_any-append}
use Rattle.relay_base.specs.declared.words.Output.{Output}
use Rattle.section_coupling.specs.Duos.{DuoState}
use Rattle.conn_journal.specs.declared.change.Next.{Next}
use Rattle.conn_journal.specs.declared.kept.Heard.{Heard}
use Rattle.conn_journal.specs.Inner.Stands.{Stands}
use Rattle.conn_journal.specs.Inner.Remnants.{Remnant}
use Rattle.conn_journal.specs.Inner.Ticking.{AreTicked, TickedAt, WokenAt}
use Rattle.conn_journal.specs.Inner.Views.{OpeningsState}
use Rattle.conn_journal.specs.Inner.Waking.{is_in, AreRising, WakesAll, is_next, IsWoken, AllWoken}
use Rattle.conn_journal.proofs.Standing.{any_default}
use Rattle.conn_journal.proofs.Ticked.{AllTickedTo, ticked_none, tick_heard, tick_asleep, ticked_all, take_next, drop_next, take_whole, drop_whole}

-- Those that sleep.

asleep_for : (now from steps : ℕ) (kept : List (Option DuoState)) (nexts : List Next) (outs : List Output) → from + steps ≤ length kept
    → ((n : ℕ) → from ≤ n → n < from + steps → TickedAt now (get_or kept n None) None) → AllTickedTo now kept from nexts outs → AllTickedTo now kept (from + steps) nexts outs
asleep_for now from zero kept nexts outs within asleep so = subst (λ n. AllTickedTo now kept n nexts outs) (omega arith) so
asleep_for now from (suc steps) kept nexts outs within asleep so =
    let one : Option DuoState = get_or kept from None in
    let here : from < length kept = omega (arith, within) in
    let next : AllTickedTo now kept (from + 1) nexts outs = tick_asleep now from kept one nexts outs here (any_default kept from None one here) (asleep from (omega arith) (omega arith)) so in
    let same : from + 1 + steps ≡ from + suc steps = omega arith in
    subst (λ n. AllTickedTo now kept n nexts outs) same
    (asleep_for now (from + 1) steps kept nexts outs (omega (arith, within)) (λ n above below. asleep n (omega (arith, above)) (omega (arith, below))) next)

asleep_to : (now from to : ℕ) (kept : List (Option DuoState)) (nexts : List Next) (outs : List Output) → from ≤ to → to ≤ length kept
    → ((n : ℕ) → from ≤ n → n < to → TickedAt now (get_or kept n None) None) → AllTickedTo now kept from nexts outs → AllTickedTo now kept to nexts outs
asleep_to now from to kept nexts outs above within asleep so =
    let same : from + (to - from) ≡ to = omega (arith, above) in
    subst (λ n. AllTickedTo now kept n nexts outs) same
    (asleep_for now from (to - from) kept nexts outs (omega (arith, above, within)) (λ n under below. asleep n under (omega (arith, above, below))) so)

-- The connections that it wakes.

-- what rises from a number on has none before it
not_before : (count from n : ℕ) (numbers : List ℕ) → AreRising count from numbers → n < from → is_in n numbers ≡ false
not_before count from n [] rising less = refl
not_before count from n (m ∷ numbers) rising less =
    or_from (m == n) (is_in n numbers) (apart rising.0) (not_before count (m + 1) n numbers rising.2 (omega (arith, rising.0, less)))
  where
    apart : from ≤ m → (m == n) ≡ false
    apart above = grind (arith, above, less)

not_here : (n : ℕ) (m : ℕ) → (n ≡ m → ⊥) → (m == n) ≡ false
not_here n m apart = grind (arith, apart)

pub record Reached (now : ℕ) (kept : List (Option DuoState)) (numbers : List ℕ) (i : ℕ) (nexts : List Next) (outs : List Output) : Type 0 where
  pub at : ℕ
  pub within : at ≤ length kept
  pub to : AllTickedTo now kept at nexts outs
  pub wakes : WakesAll now kept at (drop i numbers)
  pub woken : AllWoken (λ n. is_in n (take i numbers)) kept nexts

pub reached_none : (now : ℕ) (kept : List (Option DuoState)) (numbers : List ℕ) → WakesAll now kept 0 numbers → Reached now kept numbers 0 [] []
reached_none now kept numbers wakes =
    record { at = 0; within = omega arith; to = λ keeps o stands is same. ticked_none keeps o; wakes = wakes; woken = λ n is. absurd (cc) }

pub ahead_of : (now at i : ℕ) (kept : List (Option DuoState)) (numbers : List ℕ) (m : ℕ) → i < length numbers → m ≡ get_or numbers i m → WakesAll now kept at (drop i numbers) → WakesAll now kept at (m ∷ drop (i + 1) numbers)
ahead_of now at i kept numbers m within here wakes =
    subst (WakesAll now kept at) (drop_next i numbers m within ∙ ap (λ x. x ∷ drop (i + 1) numbers) (sym here)) wakes

pub index_within : (now i : ℕ) (kept : List (Option DuoState)) (numbers : List ℕ) (nexts : List Next) (outs : List Output) (m : ℕ) → i < length numbers → m ≡ get_or numbers i m → Reached now kept numbers i nexts outs → m < length kept
index_within now i kept numbers nexts outs m within here so = (ahead_of now so.at i kept numbers m within here so.wakes).rising.1

up_to : (now i : ℕ) (kept : List (Option DuoState)) (numbers : List ℕ) (nexts : List Next) (outs : List Output) (m : ℕ) → i < length numbers → m ≡ get_or numbers i m → Reached now kept numbers i nexts outs → AllTickedTo now kept m nexts outs
up_to now i kept numbers nexts outs m within here so =
    let wakes : WakesAll now kept so.at (m ∷ drop (i + 1) numbers) = ahead_of now so.at i kept numbers m within here so.wakes in
    asleep_to now so.at m kept nexts outs wakes.rising.0 (omega (arith, wakes.rising.1))
    (λ n above below.
    wakes.asleep n above (omega (arith, below, wakes.rising.1))
    (or_from (m == n) (is_in n (drop (i + 1) numbers)) (not_here n m (λ e. omega (arith, e, below))) (not_before (length kept) (m + 1) n (drop (i + 1) numbers) wakes.rising.2 (omega (arith, below)))))
    so.to

wakes_next : (now i : ℕ) (kept : List (Option DuoState)) (numbers : List ℕ) (nexts : List Next) (outs : List Output) (m : ℕ) → i < length numbers → m ≡ get_or numbers i m → Reached now kept numbers i nexts outs
    → WakesAll now kept (m + 1) (drop (i + 1) numbers)
wakes_next now i kept numbers nexts outs m within here so =
    let wakes : WakesAll now kept so.at (m ∷ drop (i + 1) numbers) = ahead_of now so.at i kept numbers m within here so.wakes in
    record {
      rising = wakes.rising.2;
      asleep = λ n above below free.
          wakes.asleep n (omega (arith, above, wakes.rising.0)) below (or_from (m == n) (is_in n (drop (i + 1) numbers)) (not_here n m (λ e. omega (arith, e, above))) free);
    }

-- The numbers of those that were woken.

still_woken : (n : ℕ) (one : Option DuoState) (nexts : List Next) (next : Next) → IsWoken n one nexts → IsWoken n one (nexts ++ next ∷ [])
still_woken n None nexts next woken = tt
still_woken n (Some m) nexts next woken =
    list_any-append (λ (x : Next). x.number == n) nexts (next ∷ []) ∙ or_left (is_next n nexts) (is_next n (next ∷ [])) woken

now_woken : (n : ℕ) (one : Option DuoState) (nexts : List Next) (next : Next) → next.number ≡ n → IsWoken n one (nexts ++ next ∷ [])
now_woken n None nexts next is = tt
now_woken n (Some m) nexts next is =
    list_any-append (λ (x : Next). x.number == n) nexts (next ∷ []) ∙ or_right (is_next n nexts) (is_next n (next ∷ [])) (or_left (next.number == n) false (grind (arith, is)))

in_cases : (i n : ℕ) (numbers : List ℕ) (m : ℕ) → i < length numbers → m ≡ get_or numbers i m → is_in n (take (i + 1) numbers) ≡ true → (is_in n (take i numbers) || ((m == n) || false)) ≡ true
in_cases i n numbers m within here is =
    sym (list_any-append (λ (x : ℕ). x == n) (take i numbers) (m ∷ []))
    ∙ (ap (is_in n) (sym (take_next i numbers m within ∙ ap (λ x. take i numbers ++ x ∷ []) (sym here))) ∙ is)

same_number : (n : ℕ) (m : ℕ) → ((m == n) || false) ≡ true → m ≡ n
same_number n m is = grind (arith, is)

pub reached_heard : (now i : ℕ) (kept : List (Option DuoState)) (numbers : List ℕ) (nexts : List Next) (outs : List Output) (m : ℕ) (one : Option DuoState) (h : Heard) → i < length numbers → m ≡ get_or numbers i m
    → one ≡ get_or kept m one → WokenAt now one (Some h) → Reached now kept numbers i nexts outs
    → Reached now kept numbers (i + 1) (nexts ++ record { number = m; one = h.one; this = h.this; that = h.that } ∷ []) (outs ++ h.outs)
reached_heard now i kept numbers nexts outs m one h within here kept_here woken so =
    let next : Next = record { number = m; one = h.one; this = h.this; that = h.that } in
    let below : m < length kept = index_within now i kept numbers nexts outs m within here so in
    record {
      at = m + 1;
      within = omega (arith, below);
      to = tick_heard now m kept one h nexts outs below kept_here (as_ticked one woken) (up_to now i kept numbers nexts outs m within here so);
      wakes = wakes_next now i kept numbers nexts outs m within here so;
      woken = λ n is.
          ⊎_elim
          (λ (e : is_in n (take i numbers) ≡ true). still_woken n (get_or kept n None) nexts next (so.woken n e))
          (λ (e : ((m == n) || false) ≡ true). now_woken n (get_or kept n None) nexts next (same_number n m e))
          (or_cases (is_in n (take i numbers)) ((m == n) || false) (in_cases i n numbers m within here is));
    }
  where
    as_ticked : (x : Option DuoState) → WokenAt now x (Some h) → TickedAt now x (Some h)
    as_ticked None at = at
    as_ticked (Some m) at = at

pub reached_over : (now i : ℕ) (kept : List (Option DuoState)) (numbers : List ℕ) (nexts : List Next) (outs : List Output) (m : ℕ) (one : Option DuoState) → i < length numbers → m ≡ get_or numbers i m
    → one ≡ get_or kept m one → WokenAt now one None → Reached now kept numbers i nexts outs → Reached now kept numbers (i + 1) nexts outs
reached_over now i kept numbers nexts outs m (Some x) within here kept_here woken so = absurd woken
reached_over now i kept numbers nexts outs m None within here kept_here woken so =
    let below : m < length kept = index_within now i kept numbers nexts outs m within here so in
    record {
      at = m + 1;
      within = omega (arith, below);
      to = tick_asleep now m kept None nexts outs below kept_here refl (up_to now i kept numbers nexts outs m within here so);
      wakes = wakes_next now i kept numbers nexts outs m within here so;
      woken = λ n is.
          ⊎_elim
          (λ (e : is_in n (take i numbers) ≡ true). so.woken n e)
          (λ (e : ((m == n) || false) ≡ true). subst (λ m. IsWoken m (get_or kept m None) nexts) (same_number n m e) (subst (λ x. IsWoken m x nexts) kept_here tt))
          (or_cases (is_in n (take i numbers)) ((m == n) || false) (in_cases i n numbers m within here is));
    }

-- all took it
pub reached_all : (now i : ℕ) (kept : List (Option DuoState)) (numbers : List ℕ) (nexts : List Next) (outs : List Output) → length numbers ≡ i → Reached now kept numbers i nexts outs
    → (keeps : List Remnant) (o : OpeningsState) → Stands keeps o → o.taken ≡ now → o.kept ≡ kept → AreTicked keeps o nexts outs
reached_all now i kept numbers nexts outs all so =
    ticked_all now (length kept) kept nexts outs refl
    (asleep_to now so.at (length kept) kept nexts outs so.within (omega arith)
    (λ n above below. so.wakes.asleep n above below (ap (is_in n) (drop_whole i numbers all))) so.to)

pub woken_all : (now i : ℕ) (kept : List (Option DuoState)) (numbers : List ℕ) (nexts : List Next) (outs : List Output) → length numbers ≡ i → Reached now kept numbers i nexts outs → AllWoken (λ n. is_in n numbers) kept nexts
woken_all now i kept numbers nexts outs all so = subst (λ xs. AllWoken (λ n. is_in n xs) kept nexts) (take_whole i numbers all) so.woken
