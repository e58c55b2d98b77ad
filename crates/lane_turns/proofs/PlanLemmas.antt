-- Events that are taken link by link.
use Rattle.std.proofs.Common.{◌≡◌, ◌≢◌, ℕ, zero, suc, ◌+◌, Bool, true, false, cond, eqb, List, [], ◌∷◌, ◌++◌, length, take, filter, slice_get, Some, sym, refl, ap, ◌∙◌, subst, arith, length-append, append-nil, eq-eqb, ne_eqb}
use mathlib.Core.Logic.{dite}
use native.Mathlib.Decide.{ℕ_discrete}
use Rattle.std.proofs.lemmas.List.Elements.{filter-append}
use Rattle.relay_base.specs.declared.words.Stamp.{Stamp}
use Rattle.plant_core.specs.declared.entry.ControlEvent.{ControlEvent}
use Rattle.lane_gate.specs.Plan.{Raises}
use Rattle.capture_form.specs.Events.{Stamped}
use Rattle.lane_seats.specs.Plans.{of_link, AreBegun, AreWhole}

pub take_one_more : {A : Type 0} (l : List A) (n : ℕ) (x : A) → slice_get l n ≡ Some x → take (suc n) l ≡ take n l ++ x ∷ []
take_one_more [] n x e = absurd (cc)
take_one_more (y ∷ ys) zero x e = let same : y ≡ x = cc in ap (λ z. z ∷ []) same
take_one_more (y ∷ ys) (suc n) x e = ap (λ zs. y ∷ zs) (take_one_more ys n x e)

pub one_kept : {A : Type 0} (p : A → Bool) (x : A) → p x ≡ true → filter p (x ∷ []) ≡ x ∷ []
one_kept p x e = rw e

pub one_left : {A : Type 0} (p : A → Bool) (x : A) → p x ≡ false → filter p (x ∷ []) ≡ []
one_left p x e = rw e

-- what stands in a filtered list passed the test
passed_first : {A : Type 0} (p : A → Bool) (y : A) (ys : List A) (n : ℕ) (x : A) → p y ≡ true → slice_get (y ∷ filter p ys) n ≡ Some x → ((m : ℕ) → slice_get (filter p ys) m ≡ Some x → p x ≡ true) → p x ≡ true
passed_first p y ys zero x here e more = let same : y ≡ x = cc in ap p (sym same) ∙ here
passed_first p y ys (suc m) x here e more = more m e

passed_by : {A : Type 0} (p : A → Bool) (y : A) (ys : List A) (n : ℕ) (x : A) (t : Bool) → p y ≡ t → slice_get (cond t (y ∷ filter p ys) (filter p ys)) n ≡ Some x → ((m : ℕ) → slice_get (filter p ys) m ≡ Some x → p x ≡ true) → p x ≡ true
passed_by p y ys n x true here e more = passed_first p y ys n x here e more
passed_by p y ys n x false here e more = more n e

pub passed : {A : Type 0} (p : A → Bool) (l : List A) (n : ℕ) (x : A) → slice_get (filter p l) n ≡ Some x → p x ≡ true
passed p [] n x e = absurd (cc)
passed p (y ∷ ys) n x e = passed_by p y ys n x (p y) refl e (λ m f. passed p ys m x f)

pub link_here : (events : Stamped) (pair : Stamp × ControlEvent) → of_link pair.0.link (events ++ pair ∷ []) ≡ of_link pair.0.link events ++ pair ∷ []
link_here events pair =
    filter-append (λ (p : Stamp × ControlEvent). eqb p.0.link pair.0.link) events (pair ∷ [])
    ∙ ap (λ (t : Stamped). of_link pair.0.link events ++ t) (one_kept (λ (p : Stamp × ControlEvent). eqb p.0.link pair.0.link) pair (eq-eqb pair.0.link pair.0.link refl))

pub link_elsewhere : (events : Stamped) (pair : Stamp × ControlEvent) (link : ℕ) → pair.0.link ≢ link → of_link link (events ++ pair ∷ []) ≡ of_link link events
link_elsewhere events pair link ne =
    filter-append (λ (p : Stamp × ControlEvent). eqb p.0.link link) events (pair ∷ [])
    ∙ (ap (λ (t : Stamped). of_link link events ++ t) (one_left (λ (p : Stamp × ControlEvent). eqb p.0.link link) pair (ne_eqb pair.0.link link ne)) ∙ append-nil (of_link link events))

size_here : (events : Stamped) (pair : Stamp × ControlEvent) → length (of_link pair.0.link (events ++ pair ∷ [])) ≡ length (of_link pair.0.link events) + 1
size_here events pair = ap length (link_here events pair) ∙ length-append (of_link pair.0.link events) (pair ∷ [])

-- the next event of a link's plan
pub begun_more : (plan : ℕ → Stamped) (events : Stamped) (pair : Stamp × ControlEvent) → slice_get (plan pair.0.link) (length (of_link pair.0.link events)) ≡ Some pair → AreBegun plan events → AreBegun plan (events ++ pair ∷ [])
begun_more plan events pair next begun link = dite (ℕ_discrete pair.0.link link)
    (λ (e : pair.0.link ≡ link). subst (λ (k : ℕ). of_link k (events ++ pair ∷ []) ≡ take (length (of_link k (events ++ pair ∷ []))) (plan k)) e
    (let size : length (of_link pair.0.link (events ++ pair ∷ [])) ≡ suc (length (of_link pair.0.link events)) = omega (arith, size_here events pair) in
    link_here events pair
    ∙ (ap (λ (t : Stamped). t ++ pair ∷ []) (begun pair.0.link) ∙ (sym (take_one_more (plan pair.0.link) (length (of_link pair.0.link events)) pair next) ∙ ap (λ (n : ℕ). take n (plan pair.0.link)) (sym size)))))
    (λ (ne : pair.0.link ≢ link). subst (λ (l : Stamped). l ≡ take (length l) (plan link)) (sym (link_elsewhere events pair link ne)) (begun link))

pub raises_more : (events : Stamped) (pair : Stamp × ControlEvent) → Raises (λ j. length (of_link j events)) (λ j. length (of_link j (events ++ pair ∷ []))) pair.0.link
raises_more events pair = record {
  here = size_here events pair;
  others = λ j ne. ap length (link_elsewhere events pair j (λ (e : pair.0.link ≡ j). ne (sym e)));
}

take_whole : {A : Type 0} (l : List A) → take (length l) l ≡ l
take_whole [] = refl
take_whole (x ∷ xs) = ap (λ ys. x ∷ ys) (take_whole xs)

-- as many as are planned are all
pub begun_whole : (plan : ℕ → Stamped) (events : Stamped) → AreBegun plan events → ((link : ℕ) → length (of_link link events) ≡ length (plan link)) → AreWhole plan events
begun_whole plan events begun full link = begun link ∙ (ap (λ (n : ℕ). take n (plan link)) (full link) ∙ take_whole (plan link))
