-- The feeders: what each begins with, and what it leaves.
use Rattle.std.proofs.Common.{◌≡◌, ℕ, zero, suc, ◌+◌, ◌<◌, Bool, true, List, [], ◌∷◌, length, map, drop, get_or, All, refl, sym, ap, ◌∙◌, subst, arith, length-append}
use Rattle.std.proofs.lemmas.List.Elements.{All-from_recursion}
use Rattle.std.specs.List.{AllByRecursion}
use Rattle.lane_gate.specs.declared.pass.Pass.{Pass}
use Rattle.lane_gate.specs.Plan.{Plan}
use Rattle.right_book.specs.Lanes.{LanesFrom}
use Rattle.link_threads.specs.declared.door.Door.{Door}
use Rattle.block_threads.specs.Items.{Beside}
use Rattle.link_threads.specs.Pairs.{PairsFrom}
use Rattle.link_threads.specs.Links.{Link, IsStamped, link_at}
use Rattle.link_threads.specs.Gates.{Hand, IsDoorOf, IsNewPass, HasNewOfEach, AreDealt, HasFed, FeederState, IsReady, HasRun, IsFeederOf, HasUsed, HasUsedEach, AreUsed, HaveUsed}
use Rattle.block_threads.proofs.BesideLemmas.{beside_length, beside_weaker}
use Rattle.link_threads.proofs.PairLemmas.{pairs-length, lanes-at}

-- the first that is left of a list
pub first_left : {A C : Type 0} (f : A → C) (all rest : List A) (n : ℕ) (x : A) (d : C) → drop n all ≡ x ∷ rest → f x ≡ get_or (map f all) n d
first_left f [] rest zero x d is = absurd (cc)
first_left f [] rest (suc n) x d is = absurd (cc)
first_left f (y ∷ ys) rest zero x d is = let same : y ≡ x = cc in ap f (sym same)
first_left f (y ∷ ys) rest (suc n) x d is = first_left f ys rest n x d is

-- what is left behind it
pub left_behind : {A : Type 0} (all rest : List A) (n : ℕ) (x : A) → drop n all ≡ x ∷ rest → drop (suc n) all ≡ rest
left_behind [] rest zero x is = absurd (cc)
left_behind [] rest (suc n) x is = absurd (cc)
left_behind (y ∷ ys) rest zero x is = let same : ys ≡ rest = cc in same
left_behind (y ∷ ys) rest (suc n) x is = left_behind ys rest n x is

-- what is said of each of the first list, and of each two
beside_both : {A B : Type 0} (P : A → Type 0) (R S : A → B → Type 0) (xs : List A) (ys : List B) → ((x : A) (y : B) → P x → R x y → S x y) → All P xs → Beside R xs ys → Beside S xs ys
beside_both P R S [] [] f p h = tt
beside_both P R S [] (y ∷ ys) f p h = absurd h
beside_both P R S (x ∷ xs) [] f p h = absurd h
beside_both P R S (x ∷ xs) (y ∷ ys) f p h = (f x y (p 0 x (omega arith)) h.0, beside_both P R S xs ys f (λ k d lt. p (suc k) d (omega (arith, lt))) h.1)

module _ {L E B : Type 0} (plan : L → Plan B E) (links : List (Link E)) (doors : List (Door L E)) where
  module _ (k : ℕ) (lt : k < length links) where
    abbrev feeder : Hand → Bool → FeederState L E
    feeder hand ended = record { doors = doors; number = k; left = link_at links k; passes = hand; ended = ended }

    same_feeder : (hand : Hand) (f : FeederState L E) → IsFeederOf doors links k hand f → f ≡ feeder hand f.ended
    same_feeder hand f is i = record { doors = is.doors_are i; number = is.number_is i; left = is.left_is i; passes = is.passes_are i; ended = f.ended }

    new_fed : (door : Door L E) (pass : Pass) → IsDoorOf plan links door → IsNewPass k door.gate pass → HasFed plan k (link_at links k) door pass
    new_fed door pass is new = record {
      had = [];
      plan_is = is.plan_is k;
      own = new.own;
      number_is = new.number_is;
      done = new.unused;
    }

    ready_at : (hand : Hand) (f : FeederState L E) → LanesFrom IsStamped 0 links → All (IsDoorOf plan links) doors → HasNewOfEach doors k hand → IsFeederOf doors links k hand f → IsReady plan f
    ready_at hand f stamped each new is =
        subst (IsReady plan) (sym (same_feeder hand f is)) (record {
          stamped = lanes-at IsStamped k links [] lt stamped;
          ready = beside_both (IsDoorOf plan links) (λ (door : Door L E) pass. IsNewPass k door.gate pass) (HasFed plan k (link_at links k)) doors hand.items new_fed each new;
        })

    all_used : (door : Door L E) (pass : Pass) → HasFed plan k [] door pass → HasUsed plan k door pass
    all_used door pass fed = record {
      own = fed.own;
      number_is = fed.number_is;
      done = omega (arith, fed.done, ap length fed.plan_is, length-append fed.had []);
    }

    used_at : (hand : Hand) (f g : FeederState L E) → IsFeederOf doors links k hand f → HasRun plan f g → g.ended ≡ true → HasUsedEach plan doors k g.passes
    used_at hand f g is run ended =
        beside_weaker (HasFed plan k []) (HasUsed plan k) doors g.passes.items all_used
        (subst (λ (x : FeederState L E). HasRun plan x g) (same_feeder hand f is) run ended)

  ready_from : (n : ℕ) (hands : List Hand) (fs : List (FeederState L E)) → n + length hands ≡ length links → LanesFrom IsStamped 0 links → All (IsDoorOf plan links) doors
      → LanesFrom (HasNewOfEach doors) n hands → PairsFrom (IsFeederOf doors links) n hands fs → AllByRecursion (IsReady plan) fs
  ready_from n [] [] size stamped each new are = tt
  ready_from n [] (f ∷ fs) size stamped each new are = absurd are
  ready_from n (h ∷ hs) [] size stamped each new are = absurd are
  ready_from n (h ∷ hs) (f ∷ fs) size stamped each new are = (
    ready_at n (omega (arith, size)) h f stamped each new.0 are.0,
    ready_from (n + 1) hs fs (omega (arith, size)) stamped each new.1 are.1,
  )

  used_from : (n : ℕ) (hands : List Hand) (fs gs : List (FeederState L E)) → n + length hands ≡ length links → PairsFrom (IsFeederOf doors links) n hands fs → Beside (HasRun plan) fs gs → All (λ (g : FeederState L E). g.ended ≡ true) gs
      → LanesFrom (HasUsedEach plan doors) n (map (λ (g : FeederState L E). g.passes) gs)
  used_from n [] [] [] size are run ended = tt
  used_from n [] [] (g ∷ gs) size are run ended = absurd run
  used_from n [] (f ∷ fs) gs size are run ended = absurd are
  used_from n (h ∷ hs) [] gs size are run ended = absurd are
  used_from n (h ∷ hs) (f ∷ fs) [] size are run ended = absurd run
  used_from n (h ∷ hs) (f ∷ fs) (g ∷ gs) size are run ended = (
    used_at n (omega (arith, size)) h f g are.0 run.0 (ended 0 g (omega arith)),
    used_from (n + 1) hs fs gs (omega (arith, size)) are.1 run.1 (λ k d lt. ended (suc k) d (omega (arith, lt))),
  )

  map_size : (l : List (FeederState L E)) → length (map (λ (f : FeederState L E). f.passes) l) ≡ length l
  map_size [] = refl
  map_size (x ∷ xs) = ap suc (map_size xs)

  module _ (hands : List Hand) (olds : List (FeederState L E)) (dealt : AreDealt plan links doors hands) (are : PairsFrom (IsFeederOf doors links) 0 hands olds) where
    pub all_ready : LanesFrom IsStamped 0 links → All (IsReady plan) olds
    all_ready stamped = All-from_recursion (IsReady plan) olds (ready_from 0 hands olds (omega (arith, dealt.count)) stamped dealt.each dealt.passes are)

    are_used : (news : List (FeederState L E)) (after : List Hand) → Beside (HasRun plan) olds news → All (λ (f : FeederState L E). f.ended ≡ true) news → after ≡ map (λ (f : FeederState L E). f.passes) news → AreUsed plan links doors after
    are_used news after run ended is = record {
      each = dealt.each;
      count = ap length is ∙ (map_size news ∙ (beside_length (HasRun plan) olds news run ∙ (pairs-length (IsFeederOf doors links) 0 hands olds are ∙ dealt.count)));
      used = subst (LanesFrom (HasUsedEach plan doors) 0) (sym is) (used_from 0 hands olds news (omega (arith, dealt.count)) are run ended);
    }

    pub have_used : (news : List (FeederState L E)) (after : List Hand) → Beside (HasRun plan) olds news → All (λ (f : FeederState L E). f.ended ≡ true) news → after ≡ map (λ (f : FeederState L E). f.passes) news → HaveUsed plan doors after
    have_used news after run ended is = record { links = links; used = are_used news after run ended is }
