-- A leg is one of the openings of its node, and each of these is a leg.
use Rattle.std.proofs.Common.{◌≡◌, ◌⊎◌, inl, inr, List, [], ◌∷◌, ◌++◌, map, ℕ, Option, Some, None, refl, sym, ◌∙◌, ap, subst, append_assoc, append-nil}
use Rattle.std.proofs.lemmas.List.{map-append}
use Rattle.relay_base.specs.declared.words.Event.{Event}
use Rattle.plant_core.specs.declared.entry.Entry.{Entry}
use Rattle.plant_core.specs.declared.terms.LaneHead.{LaneHead}
use Rattle.section_model.specs.Ends.{Connection}
use Rattle.section_model.specs.Opening.{wish_of}
use Rattle.section_model.specs.Journals.{lane_of}
use Rattle.section_model.specs.Lane.{Lane, Opening, with_event, opening_of, opening_list, openings_after, answer_of}
use Rattle.section_model.specs.Laws.{openings_from}
use Rattle.chain_step.specs.Run.{NodeState, head_of}
use Rattle.chain_step.proofs.Journals.{openings_more}
use Rattle.passage_law.specs.References.{firsts_of, OfOne}
use Rattle.passage_law.specs.Fair.{Has}
use Rattle.passage_law.proofs.Growing.{openings_joined, same_firsts, opened_at, new_firsts, firsts_after}
use Rattle.passage_law.specs.Trails.{Leg, lane_at, IsLeg}

-- an opening among others
record IsAmong (openings : List Opening) (o : Opening) : Type 0 where
  before : List Opening
  after : List Opening
  are : openings ≡ before ++ o ∷ after

still_among : (lane : Lane) (openings : List Opening) (o : Opening) (entry : Entry) → IsAmong openings o → IsAmong (openings_after lane openings entry.event (answer_of entry)) (with_event entry.event o)
unfolding openings_after
still_among lane openings o entry among =
    let event = entry.event in
    let new = opening_list (opening_of lane openings (wish_of lane.terms event) (answer_of entry)).connection in record {
      before = map (with_event event) among.before;
      after = map (with_event event) among.after ++ new;
      are =
          ap (λ os. map (with_event event) os ++ new) among.are
          ∙ (ap (λ os. os ++ new) (map-append (with_event event) among.before (o ∷ among.after))
          ∙ append_assoc (map (with_event event) among.before) (with_event event o ∷ map (with_event event) among.after) new);
    }

abbrev with_events : List Event → Opening → Opening
with_events events o = record { first = o.first; since = o.since ++ events }

among_since : (lane : Lane) (entries : List Entry) (openings : List Opening) (o : Opening) → IsAmong openings o → IsAmong (openings_from lane openings entries) (with_events (map (λ (e : Entry). e.event) entries) o)
among_since lane [] openings o among = subst (λ since. IsAmong openings (record { first = o.first; since = since })) (sym (append-nil o.since)) among
among_since lane (entry ∷ entries) openings o among =
    let later = openings_after lane openings entry.event (answer_of entry) in
    subst (λ since. IsAmong (openings_from lane later entries) (record { first = o.first; since = since })) (append_assoc o.since (entry.event ∷ []) (map (λ (e : Entry). e.event) entries))
    (among_since lane entries later (with_event entry.event o) (still_among lane openings o entry among))

new_among : (lane : Lane) (openings : List Opening) (by : Entry) (c : Connection) → (opening_of lane openings (wish_of lane.terms by.event) (answer_of by)).connection ≡ Some c
    → IsAmong (openings_after lane openings by.event (answer_of by)) (record { first = c; since = [] })
unfolding openings_after
new_among lane openings by c opens = record {
  before = map (with_event by.event) openings;
  after = [];
  are = ap (λ connection. map (with_event by.event) openings ++ opening_list connection) opens;
}

abbrev pub leg_opening : Leg → Opening
leg_opening leg = record { first = leg.first; since = map (λ (e : Entry). e.event) leg.since }

pub leg_has : (i : ℕ) (node : NodeState) (leg : Leg) → node.head ≡ head_of i → IsLeg i node leg → Has node (leg_opening leg)
leg_has i node leg head at =
    let lane = lane_at i in
    let before = openings_from lane [] leg.before in
    let new = new_among lane before leg.by leg.first at.opens in
    let among = among_since lane leg.since (openings_after lane before leg.by.event (answer_of leg.by)) (record { first = leg.first; since = [] }) new in record {
      before = among.before;
      after = among.after;
      are =
          ap (λ (h : LaneHead). openings_from (lane_of h 0) [] node.journal) head
          ∙ (ap (openings_from lane []) at.journal ∙ (openings_joined lane [] leg.before (leg.by ∷ leg.since) ∙ among.are));
    }

-- A leg that was just opened is the last of the connections.

pub firsts_opened : (i : ℕ) (node later : NodeState) (leg : Leg) → node.head ≡ head_of i → later.head ≡ head_of i → IsLeg i later leg → leg.since ≡ [] → leg.before ≡ node.journal
    → firsts_of later ≡ firsts_of node ++ leg.first ∷ []
unfolding openings_after
firsts_opened i node later leg head after at none before =
    let lane = lane_at i in
    let first : Opening → Connection = λ o. o.first in
    let openings = openings_from lane [] leg.before in
    ap (λ (h : LaneHead). map first (openings_from (lane_of h 0) [] later.journal)) after
    ∙ (ap (λ journal. map first (openings_from lane [] journal)) (at.journal ∙ ap (λ since. leg.before ++ leg.by ∷ since) none)
    ∙ (ap (map first) (openings_more lane [] leg.before leg.by)
    ∙ (map-append first (map (with_event leg.by.event) openings) (opening_list (opening_of lane openings (wish_of lane.terms leg.by.event) (answer_of leg.by)).connection)
    ∙ (ap (λ connection. map first (map (with_event leg.by.event) openings) ++ map first (opening_list connection)) at.opens
    ∙ (ap (λ firsts. firsts ++ leg.first ∷ []) (same_firsts leg.by.event openings)
    ∙ (ap (λ journal. map first (openings_from lane [] journal) ++ leg.first ∷ []) before
    ∙ ap (λ (h : LaneHead). map first (openings_from (lane_of h 0) [] node.journal) ++ leg.first ∷ []) (sym head)))))))

-- Each connection that a node opened is a leg.

of_parts : {A : Type 0} (P : A → Type 0) (xs ys : List A) → OfOne P (xs ++ ys) → OfOne P xs ⊎ OfOne P ys
of_parts P [] ys one = inr one
of_parts P (x ∷ xs) ys (inl p) = inl (inl p)
of_parts P (x ∷ xs) ys (inr one) = by_rest (of_parts P xs ys one)
  where
    by_rest : OfOne P xs ⊎ OfOne P ys → OfOne P (x ∷ xs) ⊎ OfOne P ys
    by_rest (inl here) = inl (inr here)
    by_rest (inr there) = inr there

-- one that entries opened, for which it holds
record IsOpened (P : Connection → Type 0) (lane : Lane) (openings : List Opening) (entries : List Entry) : Type 0 where
  leg : Leg
  journal : entries ≡ leg.before ++ leg.by ∷ leg.since
  opens : opened_at lane (openings_from lane openings leg.before) leg.by ≡ Some leg.first
  holds : P leg.first

opened_among : (P : Connection → Type 0) (lane : Lane) (entries : List Entry) (openings : List Opening) → OfOne P (map (λ (o : Opening). o.first) (openings_from lane openings entries))
    → OfOne P (map (λ (o : Opening). o.first) openings) ⊎ IsOpened P lane openings entries
opened_among P lane [] openings one = inl one
opened_among P lane (entry ∷ entries) openings one = by_rest (opened_among P lane entries later one)
  where
    later : List Opening
    later = openings_after lane openings entry.event (answer_of entry)

    by_new : (connection : Option Connection) → opened_at lane openings entry ≡ connection → OfOne P (new_firsts connection) → IsOpened P lane openings (entry ∷ entries)
    by_new None is one = absurd one
    by_new (Some c) is (inl p) = record { leg = record { before = []; by = entry; first = c; since = entries }; journal = refl; opens = is; holds = p }
    by_new (Some c) is (inr none) = absurd none

    by_part : OfOne P (map (λ (o : Opening). o.first) openings) ⊎ OfOne P (new_firsts (opened_at lane openings entry))
        → OfOne P (map (λ (o : Opening). o.first) openings) ⊎ IsOpened P lane openings (entry ∷ entries)
    by_part (inl old) = inl old
    by_part (inr new) = inr (by_new (opened_at lane openings entry) refl new)

    by_rest : OfOne P (map (λ (o : Opening). o.first) later) ⊎ IsOpened P lane later entries → OfOne P (map (λ (o : Opening). o.first) openings) ⊎ IsOpened P lane openings (entry ∷ entries)
    by_rest (inl one) = by_part (of_parts P (map (λ (o : Opening). o.first) openings) (new_firsts (opened_at lane openings entry)) (subst (OfOne P) (firsts_after lane openings entry) one))
    by_rest (inr opened) =
        inr (record { leg = record opened.leg { before = entry ∷ opened.leg.before }; journal = ap (λ more. entry ∷ more) opened.journal; opens = opened.opens; holds = opened.holds })

pub opened_leg : (P : Connection → Type 0) (i : ℕ) (node : NodeState) → node.head ≡ head_of i → OfOne P (firsts_of node) → (leg : Leg) × IsLeg i node leg × P leg.first
opened_leg P i node head one =
    by_opened (opened_among P (lane_at i) node.journal [] (subst (λ (h : LaneHead). OfOne P (map (λ (o : Opening). o.first) (openings_from (lane_of h 0) [] node.journal))) head one))
  where
    by_opened : OfOne P [] ⊎ IsOpened P (lane_at i) [] node.journal → (leg : Leg) × IsLeg i node leg × P leg.first
    by_opened (inl none) = absurd none
    by_opened (inr opened) = (opened.leg, record { journal = opened.journal; opens = opened.opens }, opened.holds)
