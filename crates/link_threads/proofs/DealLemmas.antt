-- Passes are dealt to hands one by one.
use Rattle.std.proofs.Common.{◌≡◌, ◌≢◌, ℕ, zero, suc, ◌+◌, ◌<◌, List, [], ◌∷◌, ◌++◌, length, get_or, set, slice_get, All, Some, refl, sym, ap, ◌∙◌, subst, arith}
use mathlib.Core.Logic.{dite}
use native.Mathlib.Decide.{ℕ_discrete}
use Rattle.std.proofs.lemmas.List.{get_or-set_same, get_or-set_other}
use Rattle.std.proofs.lemmas.List.Elements.{All-pop, All-push}
use Rattle.lane_gate.specs.declared.gate.Gate.{Gate}
use Rattle.lane_gate.specs.declared.pass.Pass.{Pass}
use Rattle.lane_gate.specs.Gates.{origin_of, callers_of, IsPassOf}
use Rattle.lane_gate.specs.Passes.{done_of}
use Rattle.lane_gate.specs.Plan.{Plan}
use Rattle.right_book.specs.Lanes.{LanesFrom}
use Rattle.link_threads.specs.declared.lane_name.LaneName.{LaneName}
use Rattle.link_threads.specs.declared.door.Door.{Door}
use Rattle.block_threads.specs.Items.{Beside}
use Rattle.link_threads.specs.Pairs.{PairsFrom}
use Rattle.link_threads.specs.Links.{Link, planned_for}
use Rattle.link_threads.specs.Gates.{Hand, IsAtOpening, IsDoorOf, IsNewPass, AreNew, AreDealt, GetsPass, IsDealt, HasNewOfEach}
use Rattle.block_threads.proofs.BesideLemmas.{beside_push}
use Rattle.link_threads.proofs.PairLemmas.{pairs-by, pairs-length, pairs-lanes}

get_left : {A : Type 0} (l m : List A) (k : ℕ) (x : A) → slice_get l k ≡ Some x → slice_get (l ++ m) k ≡ Some x
get_left [] m k x e = absurd (cc)
get_left (y ∷ ys) m zero x e = e
get_left (y ∷ ys) m (suc k) x e = get_left ys m k x e

get_last : {A : Type 0} (l : List A) (x : A) → slice_get (l ++ x ∷ []) (length l) ≡ Some x
get_last [] x = refl
get_last (y ∷ ys) x = get_last ys x

default : (l : List Hand) (i : ℕ) (a b : Hand) → i < length l → get_or l i a ≡ get_or l i b
default [] i a b h = absurd (omega arith)
default (x ∷ xs) zero a b h = refl
default (x ∷ xs) (suc i) a b h = default xs i a b (omega arith)

module _ {L E : Type 0} (gate : Gate L E) where
  pub new_pop : (all rest : List Pass) (p : Pass) → all ≡ rest ++ p ∷ [] → AreNew gate all → AreNew gate rest × IsNewPass (length rest) gate p
  new_pop all rest p is new =
      let own = All-pop (IsPassOf gate) all rest (Some p) is new.own in
      let unused = All-pop (λ (q : Pass). done_of q ≡ 0) all rest (Some p) is new.unused in (
        record { own = own.0; numbered = λ k q e. new.numbered k q (subst (λ (l : List Pass). slice_get l k ≡ Some q) (sym is) (get_left rest (p ∷ []) k q e)); unused = unused.0 },
        record { own = own.1; number_is = new.numbered (length rest) p (subst (λ (l : List Pass). slice_get l (length rest) ≡ Some p) (sym is) (get_last rest p)); unused = unused.1 },
      )

  -- the hand of the last link that is left gets its pass
  dealt_more : (olds hands : List Hand) (n : ℕ) (new : Hand) (p : Pass) (d0 : Hand) → n < length hands → new.items ≡ (get_or hands n d0).items ++ p ∷ [] → IsNewPass n gate p
      → ((k : ℕ) (d : Hand) → k < length olds → IsDealt gate (n + 1) k (get_or olds k d) (get_or hands k d)) → (k : ℕ) (d : Hand) → k < length olds → IsDealt gate n k (get_or olds k d) (get_or (set hands n new) k d)
  dealt_more olds hands n new p d0 within items is_new dealt k d lt = dite (ℕ_discrete k n)
      (λ (e : k ≡ n). let was : get_or hands k d0 ≡ get_or olds k d0 = (dealt k d0 lt).before (omega (arith, e)) in
      let now : get_or (set hands n new) k d ≡ new = ap (λ j. get_or (set hands n new) j d) e ∙ get_or-set_same hands n new d within in
      let got : new.items ≡ (get_or olds k d).items ++ p ∷ [] =
      items ∙ ap (λ (h : Hand). h.items ++ p ∷ []) (ap (λ j. get_or hands j d0) (sym e) ∙ (was ∙ default olds k d0 d lt)) in
      record {
        before = λ less. absurd (omega (arith, less, e));
        after = λ le. record { pass = p; items = ap (λ (h : Hand). h.items) now ∙ got; is_new = subst (λ j. IsNewPass j gate p) (sym e) is_new };
      })
      (λ (ne : k ≢ n). let same : get_or (set hands n new) k d ≡ get_or hands k d = get_or-set_other hands n k new d ne in
      record {
        before = λ less. same ∙ (dealt k d lt).before (omega (arith, less));
        after = λ le. subst (GetsPass gate k (get_or olds k d)) (sym same) ((dealt k d lt).after (omega (arith, le, ne)));
      })

  -- the same, where the numbers are given by equations
  pub dealt_step : (olds hands : List Hand) (n m j : ℕ) (new : Hand) (p : Pass) (d0 : Hand) → m ≡ n + 1 → j ≡ n → n < length hands → new.items ≡ (get_or hands j d0).items ++ p ∷ [] → IsNewPass n gate p
      → ((k : ℕ) (d : Hand) → k < length olds → IsDealt gate m k (get_or olds k d) (get_or hands k d)) → (k : ℕ) (d : Hand) → k < length olds → IsDealt gate n k (get_or olds k d) (get_or (set hands j new) k d)
  dealt_step olds hands n m j new p d0 mm jj within items is_new dealt k d lt =
      subst (λ i. IsDealt gate n k (get_or olds k d) (get_or (set hands i new) k d)) (sym jj)
      (dealt_more olds hands n new p d0 within (subst (λ i. new.items ≡ (get_or hands i d0).items ++ p ∷ []) jj items) is_new
      (λ k d lt. subst (λ i. IsDealt gate i k (get_or olds k d) (get_or hands k d)) mm (dealt k d lt)) k d lt)

  -- from the first link on
  pub dealt_all : (olds news : List Hand) (left : ℕ) → left ≡ 0 → length news ≡ length olds → ((k : ℕ) (d : Hand) → k < length olds → IsDealt gate left k (get_or olds k d) (get_or news k d)) → PairsFrom (GetsPass gate) 0 olds news
  dealt_all olds news left none same dealt = pairs-by (GetsPass gate) olds news same (λ k d e lt.
      let there : GetsPass gate k (get_or olds k d) (get_or news k d) = (dealt k d lt).after (omega (arith, none)) in
      subst (GetsPass gate k (get_or olds k d)) (default news k d e (omega (arith, lt, same))) there)

module _ {L E B : Type 0} (plan : L → Plan B E) (links : List (Link E)) where
  none_of : (n : ℕ) (hands : List Hand) → All (λ (h : Hand). h.items ≡ []) hands → LanesFrom (HasNewOfEach {L = L} {E = E} []) n hands
  none_of n [] h = tt
  none_of n (x ∷ xs) h =
      (subst (Beside (λ (door : Door L E) pass. IsNewPass n door.gate pass) []) (sym (h 0 x (omega arith))) tt, none_of (n + 1) xs (λ k d lt. h (suc k) d (omega (arith, lt))))

  -- no gate yet, and empty hands
  pub dealt_none : (hands : List Hand) → length hands ≡ length links → All (λ (h : Hand). h.items ≡ []) hands → AreDealt plan links [] hands
  dealt_none hands same empty = record {
    each = λ k d lt. absurd (omega (arith, lt));
    count = same;
    passes = none_of 0 hands empty;
  }

  -- the door that was made for a lane at the opening
  pub door_of : (has_taken : L → ℕ → ℕ) (name : L → LaneName) (lane : L) (door : Door L E) → IsAtOpening plan has_taken name links lane → door.name ≡ name lane → origin_of door.gate ≡ lane → callers_of door.gate ≡ length links → IsDoorOf plan links door
  door_of has_taken name lane door opened named origin callers = record {
    plan_is = λ number. ap (λ (x : L). (plan x).links number) origin ∙ (opened.plan_is number ∙ ap (λ (n : LaneName). planned_for n links number) (sym named));
    callers = callers;
  }

  -- one gate more
  pub dealt_again : (doors : List (Door L E)) (olds news : List Hand) (door : Door L E) → IsDoorOf plan links door → PairsFrom (GetsPass door.gate) 0 olds news → AreDealt plan links doors olds → AreDealt plan links (doors ++ door ∷ []) news
  dealt_again doors olds news door is gets h = record {
    each = All-push (IsDoorOf plan links) doors door h.each is;
    count = pairs-length (GetsPass door.gate) 0 olds news gets ∙ h.count;
    passes = pairs-lanes (HasNewOfEach doors) (HasNewOfEach (doors ++ door ∷ [])) (GetsPass door.gate) 0 olds news
        (λ k old new dealt got. subst (Beside (λ (d : Door L E) pass. IsNewPass k d.gate pass) (doors ++ door ∷ [])) (sym got.items)
        (beside_push (λ (d : Door L E) pass. IsNewPass k d.gate pass) doors old.items door got.pass dealt got.is_new)) h.passes gets;
  }
