-- What the lanes that come out of their gates have taken.
use Rattle.std.proofs.Common.{◌≡◌, ◌≢◌, ℕ, suc, ◌+◌, ◌<◌, List, [], ◌∷◌, ◌++◌, length, take, drop, get_or, All, Some, refl, sym, ap, ◌∙◌, subst, arith, length-append, append_assoc}
use mathlib.Core.Logic.{dite}
use native.Mathlib.Decide.{dec_le}
use Rattle.std.proofs.lemmas.List.{get_or_past, take_at, drop_at, take-append-drop}
use Rattle.std.proofs.lemmas.List.Elements.{All-pop}
use Rattle.std.proofs.lemmas.Option.{slice_get_within, get_or_from_slice_get}
use Rattle.lane_gate.specs.Plan.{Plan}
use Rattle.lane_gate.specs.declared.gate.Gate.{Gate}
use Rattle.lane_gate.specs.declared.pass.Pass.{Pass}
use Rattle.lane_gate.specs.Gates.{AreNumbered, origin_of, callers_of}
use Rattle.lane_gate.specs.Passes.{done_of}
use Rattle.lane_gate.proofs.PassLists.{each_there}
use Rattle.right_book.specs.Lanes.{LanesFrom}
use Rattle.link_threads.specs.declared.door.Door.{Door}
use Rattle.block_threads.specs.Items.{Beside}
use Rattle.link_threads.specs.Links.{Link, events_for}
use Rattle.link_threads.specs.Gates.{Hand, GivesPass, GivePasses, IsDoorOf, HasUsed, HasUsedEach, AreUsed, AreUsedUp}
use Rattle.block_threads.proofs.BesideLemmas.{beside_length, beside_pop}
use Rattle.link_threads.proofs.PairLemmas.{lanes-at}

pub gives_size : (olds news : List Hand) (passes : List Pass) → GivePasses olds news passes → (length news ≡ length olds) × (length passes ≡ length olds)
gives_size [] [] [] h = (refl, refl)
gives_size [] [] (p ∷ ps) h = absurd h
gives_size [] (x ∷ news) ps h = absurd h
gives_size (o ∷ olds) [] ps h = absurd h
gives_size (o ∷ olds) (x ∷ news) [] h = absurd h
gives_size (o ∷ olds) (x ∷ news) (p ∷ ps) h = let more = gives_size olds news ps h.1 in (ap suc more.0, ap suc more.1)

-- from what each hand gave, if there are as many of each
pub gives_by : (olds news : List Hand) (passes : List Pass) → length news ≡ length olds → length passes ≡ length olds → ((k : ℕ) (d : Hand) (e : Pass) → k < length olds → GivesPass (get_or olds k d) (get_or news k d) (get_or passes k e)) → GivePasses olds news passes
gives_by [] [] [] same count h = tt
gives_by [] [] (p ∷ ps) same count h = absurd (omega (arith, count))
gives_by [] (x ∷ news) ps same count h = absurd (omega (arith, same))
gives_by (o ∷ olds) [] ps same count h = absurd (omega (arith, same))
gives_by (o ∷ olds) (x ∷ news) [] same count h = absurd (omega (arith, count))
gives_by (o ∷ olds) (x ∷ news) (p ∷ ps) same count h =
    (h 0 o p (omega arith), gives_by olds news ps (omega (arith, same)) (omega (arith, count)) (λ k d e lt. h (suc k) d e (omega (arith, lt))))

module _ {L E B : Type 0} (plan : L → Plan B E) where
  -- each link's pass was used up, and there are no others
  pub taken_full : (gate : Gate L E) (passes : List Pass) (takes : ℕ → ℕ) → AreUsedUp plan gate passes → All (λ p. takes p.number ≡ done_of p) passes → ((link : ℕ) → All (λ p. p.number ≢ link) passes → takes link ≡ 0)
      → (link : ℕ) → takes link ≡ length ((plan (origin_of gate)).links link)
  taken_full gate passes takes used here others link = dite (dec_le (callers_of gate) link)
      (λ past. others link (λ k d lt e. absurd (omega (arith, past, e, used.few k d lt))) ∙ sym (ap length (used.others link past)))
      (λ within. let h = used.all.each link (omega (arith, within)) in
      let one : takes h.1.number ≡ done_of h.1 = subst (λ (q : Pass). takes q.number ≡ done_of q) h.3 (here h.0 h.1 h.2) in
      let two : done_of h.1 ≡ length ((plan (origin_of gate)).links h.1.number) = subst (λ (q : Pass). done_of q ≡ length ((plan (origin_of gate)).links q.number)) h.3 (used.done h.0 h.1 h.2) in
      ap takes (sym h.4) ∙ (one ∙ (two ∙ ap (λ (k : ℕ). length ((plan (origin_of gate)).links k)) h.4)))

  -- each hand's last pass is that of the last gate
  closes_from : (doors : List (Door L E)) (door : Door L E) (n : ℕ) (olds news : List Hand) (passes : List Pass) → GivePasses olds news passes → LanesFrom (HasUsedEach plan (doors ++ door ∷ [])) n olds
      → LanesFrom (HasUsedEach plan doors) n news × LanesFrom (λ number pass. HasUsed plan number door pass) n passes
  closes_from doors door n [] [] [] gives used = (tt, tt)
  closes_from doors door n [] [] (p ∷ ps) gives used = absurd gives
  closes_from doors door n [] (x ∷ news) ps gives used = absurd gives
  closes_from doors door n (o ∷ olds) [] ps gives used = absurd gives
  closes_from doors door n (o ∷ olds) (x ∷ news) [] gives used = absurd gives
  closes_from doors door n (o ∷ olds) (x ∷ news) (p ∷ ps) gives used =
      let here = beside_pop (HasUsed plan n) doors x.items door p (subst (Beside (HasUsed plan n) (doors ++ door ∷ [])) gives.0 used.0) in
      let more = closes_from doors door (n + 1) olds news ps gives.1 used.1 in
      ((here.0, more.0), (here.1, more.1))

  module _ (links : List (Link E)) (all doors : List (Door L E)) (door : Door L E) (is : all ≡ doors ++ door ∷ []) (olds news : List Hand) (passes : List Pass) (gives : GivePasses olds news passes) (used : AreUsed plan links all olds) where
    last_door : IsDoorOf plan links door
    last_door = (All-pop (IsDoorOf plan links) all doors (Some door) is used.each).1

    both : LanesFrom (HasUsedEach plan doors) 0 news × LanesFrom (λ number pass. HasUsed plan number door pass) 0 passes
    both = closes_from doors door 0 olds news passes gives (subst (λ (l : List (Door L E)). LanesFrom (HasUsedEach plan l) 0 olds) is used.used)

    count : length passes ≡ length links
    count = (gives_size olds news passes gives).1 ∙ used.count

    at : (k : ℕ) (e : Pass) → k < length passes → HasUsed plan k door (get_or passes k e)
    at k e lt = lanes-at (λ number pass. HasUsed plan number door pass) k passes e lt both.1

    numbered : AreNumbered (callers_of door.gate) passes
    numbered = record {
      count = count ∙ sym last_door.callers;
      each = λ k p e. ap (λ (x : Pass). x.number) (sym (get_or_from_slice_get passes k p p e)) ∙ (at k p (slice_get_within passes k p e)).number_is;
    }

    pub used_up : AreUsedUp plan door.gate passes
    used_up = record {
      all = record { own = λ k e lt. (at k e lt).own; each = each_there (callers_of door.gate) passes numbered };
      few = λ k e lt. omega (arith, (at k e lt).number_is, lt, count, last_door.callers);
      done = λ k e lt. (at k e lt).done ∙ ap (λ n. length ((plan (origin_of door.gate)).links n)) (sym (at k e lt).number_is);
      others = λ number past. last_door.plan_is number ∙ ap (events_for door.name) (get_or_past links number [] (omega (arith, past, last_door.callers)));
    }

    pub used_rest : AreUsed plan links doors news
    used_rest = record {
      each = (All-pop (IsDoorOf plan links) all doors (Some door) is used.each).0;
      count = (gives_size olds news passes gives).0 ∙ used.count;
      used = both.0;
    }

  -- each hand has a pass left where a gate is left
  pub some_left : (links : List (Link E)) (all doors : List (Door L E)) (door : Door L E) (hands : List Hand) → all ≡ doors ++ door ∷ [] → AreUsed plan links all hands → All (λ (h : Hand). 0 < length h.items) hands
  some_left links all doors door hands is used k d lt =
      omega (arith, beside_length (HasUsed plan k) all (get_or hands k d).items (lanes-at (HasUsedEach plan all) k hands d lt used.used), ap length is, length-append doors (door ∷ []))

-- the gates that are closed, with one more before them
pub closed_more : {D M : Type 0} (R : D → M → Type 0) (first now rest : List D) (door : D) (lane : M) (lanes : List M) → now ≡ rest ++ door ∷ [] → take (length now) first ≡ now → Beside R (drop (length now) first) lanes → R door lane
    → (take (length rest) first ≡ rest) × Beside R (drop (length rest) first) (lane ∷ lanes)
closed_more {D} R first now rest door lane lanes is kept gone here =
    let tail : List D = drop (length now) first in
    let whole : first ≡ rest ++ (door ∷ tail) = sym (take-append-drop (length now) first) ∙ (ap (λ l. l ++ tail) (kept ∙ is) ∙ append_assoc rest (door ∷ []) tail) in (
      ap (take (length rest)) whole ∙ take_at rest (door ∷ tail) (length rest) refl,
      subst (λ (l : List D). Beside R l (lane ∷ lanes)) (sym (ap (drop (length rest)) whole ∙ drop_at rest (door ∷ tail) (length rest) refl)) (here, gone),
    )
