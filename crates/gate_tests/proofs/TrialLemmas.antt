-- The passes of the tests.
use Rattle.std.proofs.Common.{◌≡◌, ℕ, ◌+◌, ◌*◌, ◌<◌, List, [], ◌∷◌, ◌++◌, length, All, get_or, slice_get, Option, Some, IfSome, sym, ap, ◌∙◌, subst, arith}
use Rattle.std.proofs.lemmas.List.FromFn.{length-map-range_with_len, get_or-map-range_with_len}
use Rattle.std.proofs.lemmas.List.Elements.{All-pop}
use Rattle.std.proofs.lemmas.Option.{slice_get_read, slice_get-get_or, slice_get_within, get_or_from_slice_get}
use Rattle.relay_base.specs.declared.words.Stamp.{Stamp}
use Rattle.lane_gate.specs.declared.gate.Gate.{Gate}
use Rattle.lane_gate.specs.declared.pass.Pass.{Pass}
use Rattle.lane_gate.specs.Gates.{callers_of, IsPassOf, AreAllPasses, AreNumbered}
use Rattle.lane_gate.specs.Passes.{done_of}
use Rattle.gate_tests.specs.Trials.{events_of, IsReady, IsDealt, IsServed, EachAt}
use Rattle.lane_gate.proofs.PassLists.{each_there}

-- the event at a line below 500
pub event_at : (stamp : Stamp) (line event : ℕ) → stamp.phase ≡ 1 → stamp.line ≡ line → event ≡ stamp.link * 1000 + line → line < 500 → slice_get (events_of stamp.link) line ≡ Some (stamp, event)
event_at stamp line event phase is number lt = slice_get_read (events_of stamp.link) 500 line (stamp, event) (sym (length-map-range_with_len here 0 500)) lt
    (sym (get_or-map-range_with_len here 0 500 line line (stamp, event) lt (omega arith) ∙ same))
  where
    here : ℕ → Stamp × ℕ
    here = λ line. (record { phase = 1; link = stamp.link; line = line }, stamp.link * 1000 + line)

    same : here line ≡ (stamp, event)
    same = λ i. (record { phase = sym phase i; link = stamp.link; line = sym is i }, sym number i)

module _ {L E : Type 0} (gate : Gate L E) where
  pub dealt_out : (n : ℕ) (passes : List Pass) → AreAllPasses gate passes → AreNumbered n passes → All (λ p. done_of p ≡ 0) passes → EachAt (IsDealt gate) passes
  dealt_out n passes all numbered fresh k d lt = (numbered.each k (get_or passes k d) (slice_get-get_or passes k d lt), (all.own k d lt, fresh k d lt))

  pub all_back : (passes : List Pass) → length passes ≡ callers_of gate → EachAt (IsServed gate) passes → AreAllPasses gate passes
  all_back passes count served = record {
    own = λ k d lt. (served k d lt).1;
    each = each_there (callers_of gate) passes record { count = count; each = λ k p e. ap (λ (x : Pass). x.number) (sym (get_or_from_slice_get passes k p p e)) ∙ (served k p (slice_get_within passes k p e)).0 };
  }

module _ {L E : Type 0} (gate : Gate L E) where
  pub last_two : (passes rest others : List Pass) (second first : Option Pass) (b a : Pass) → AreAllPasses gate passes → All (λ p. done_of p ≡ 0) passes
      → IfSome second (λ p. passes ≡ rest ++ p ∷ []) → IfSome first (λ p. rest ≡ others ++ p ∷ []) → second ≡ Some b → first ≡ Some a → IsReady gate a × IsReady gate b
  last_two passes rest others second first b a all fresh at at' is is' =
      let last : passes ≡ rest ++ b ∷ [] = subst (λ (o : Option Pass). IfSome o (λ p. passes ≡ rest ++ p ∷ [])) is at in
      let before : rest ≡ others ++ a ∷ [] = subst (λ (o : Option Pass). IfSome o (λ p. rest ≡ others ++ p ∷ [])) is' at' in
      let own = All-pop (IsPassOf gate) passes rest (Some b) last all.own in let new = All-pop (λ (p : Pass). done_of p ≡ 0) passes rest (Some b) last fresh in
      let own' = All-pop (IsPassOf gate) rest others (Some a) before own.0 in let new' = All-pop (λ (p : Pass). done_of p ≡ 0) rest others (Some a) before new.0 in
      ((own'.1, new'.1), (own.1, new.1))
