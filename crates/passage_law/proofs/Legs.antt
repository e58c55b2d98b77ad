-- A leg as its node meets one more event.
use Rattle.std.proofs.Common.{◌≡◌, ℕ, Bool, true, false, List, [], ◌∷◌, ◌++◌, map, refl, sym, ◌∙◌, ap, append_assoc, append-nil, ◌≤◌, IsTrue, subst}
use Rattle.std.proofs.lemmas.List.{map-append, same_from_push}
use Rattle.relay_base.specs.declared.words.Event.{Event}
use Rattle.plant_core.specs.declared.entry.Entry.{Entry}
use Rattle.plant_core.specs.declared.terms.Ticks.{Ticks}
use Rattle.plant_core.specs.declared.terms.TheConstants.{USUAL_TICKS}
use Rattle.section_model.specs.Ends.{Connection}
use Rattle.section_model.specs.Step.{hears, connection_step}
use Rattle.section_model.specs.Lane.{next, heard, follow, fed, part_by}
use Rattle.section_model.proofs.Following.{one_more}
use Rattle.hop_law.specs.LeftAlong.{outs_along}
use Rattle.hop_law.proofs.Lists.{all_joined}
use Rattle.chain_step.specs.declared.step.Step.{Step}
use Rattle.chain_step.specs.Run.{NodeState, RunState, entry_of, after_event, after_giving, node_at, start, run_of, after_step}
use Rattle.chain_step.specs.Steps.{is_step}
use Rattle.chain_step.proofs.Running.{after_more}
use Rattle.passage_law.specs.Nodes.{AreSteps}
use Rattle.passage_law.proofs.RowStanding.{first_is}
use Rattle.passage_law.specs.Trails.{Leg, IsLeg, now_on, outs_on}

-- with one entry more
abbrev pub leg_more : Leg → Entry → Leg
leg_more leg entry = record leg { since = leg.since ++ entry ∷ [] }

-- Of a leg at a node that just met an event, the entry of the event is the one that opened it, or its last one.
pub data LegCut (i : ℕ) (entry : Entry) (node : NodeState) (leg : Leg) : Type 0 where
  opened_now : leg.before ≡ node.journal → leg.by ≡ entry → leg.since ≡ [] → LegCut i entry node leg
  was_before : (earlier : Leg) → IsLeg i node earlier → leg ≡ leg_more earlier entry → LegCut i entry node leg

data Ends : List Entry → Type 0 where
  empty : Ends []
  last : (entries : List Entry) (entry : Entry) → Ends (entries ++ entry ∷ [])

ends : (entries : List Entry) → Ends entries
ends [] = empty
ends (entry ∷ entries) = by_rest (ends entries)
  where
    by_rest : {entries : List Entry} → Ends entries → Ends (entry ∷ entries)
    by_rest empty = last [] entry
    by_rest (last more z) = last (entry ∷ more) z

pub cut_leg : (i number : ℕ) (event : Event) (node : NodeState) (leg : Leg) → IsLeg i (after_event number event node) leg → LegCut i (entry_of number event node) node leg
cut_leg i number event node leg at = by_since leg.since (ends leg.since) refl at.journal
  where
    entry : Entry
    entry = entry_of number event node

    by_since : (since : List Entry) → Ends since → leg.since ≡ since → node.journal ++ entry ∷ [] ≡ leg.before ++ leg.by ∷ leg.since → LegCut i entry node leg
    by_since _ empty is e =
        let same = same_from_push node.journal leg.before entry leg.by (e ∙ ap (λ since. leg.before ++ leg.by ∷ since) is) in
        opened_now (sym same.0) (sym same.1) is
    by_since _ (last more z) is e =
        let same = same_from_push node.journal (leg.before ++ leg.by ∷ more) entry z
        (e ∙ (ap (λ since. leg.before ++ leg.by ∷ since) is ∙ sym (append_assoc leg.before (leg.by ∷ more) (z ∷ [])))) in
        was_before (record leg { since = more }) (record { journal = same.0; opens = at.opens })
        (ap (λ since. record leg { since = since }) (is ∙ ap (λ x. more ++ x ∷ []) (sym same.1)))

-- as its node gives a message
pub as_leg : (i : ℕ) (forward : Bool) (node : NodeState) (leg : Leg) → IsLeg i (after_giving forward node) leg → IsLeg i node leg
as_leg i true node leg at = record { journal = at.journal; opens = at.opens }
as_leg i false node leg at = record { journal = at.journal; opens = at.opens }

-- Before the first step there is none.

no_entry : (before : List Entry) (by : Entry) (since : List Entry) → [] ≡ before ++ by ∷ since → ⊥
no_entry [] by since e = cc
no_entry (entry ∷ before) by since e = cc

pub no_leg_yet : (n i : ℕ) (leg : Leg) → 1 ≤ i → i ≤ n → IsLeg i (node_at i (start n).nodes) leg → ⊥
no_leg_yet n i leg least most at =
    no_entry leg.before leg.by leg.since (subst (λ (node : NodeState). node.journal ≡ leg.before ++ leg.by ∷ leg.since) (first_is n i least most) at.journal)

-- What each step of a run keeps is kept along all of them.

along_more : (n : ℕ) (P : RunState → Type 0) → ((done : List Step) (step : Step) → AreSteps n done → IsTrue (is_step n step) → P (run_of n done) → P (after_step (run_of n done) step))
    → (done steps : List Step) → AreSteps n done → AreSteps n steps → P (run_of n done) → P (run_of n (done ++ steps))
along_more n P keeps done [] are more before = subst (λ steps. P (run_of n steps)) (sym (append-nil done)) before
along_more n P keeps done (step ∷ steps) are more before =
    subst (λ steps. P (run_of n steps)) (append_assoc done (step ∷ []) steps)
    (along_more n P keeps (done ++ step ∷ []) steps (all_joined (λ s. IsTrue (is_step n s)) done (step ∷ []) are (more.0, tt)) more.1
    (subst P (sym (after_more (start n) done step)) (keeps done step are more.0 before)))

pub along_run : (n : ℕ) (P : RunState → Type 0) → P (start n)
    → ((done : List Step) (step : Step) → AreSteps n done → IsTrue (is_step n step) → P (run_of n done) → P (after_step (run_of n done) step)) → (steps : List Step) → AreSteps n steps → P (run_of n steps)
along_run n P begins keeps steps are = along_more n P keeps [] steps tt are begins

-- What the connection is then, and what it sent.

outs_more : (ticks : Ticks) (c : Connection) (events : List Event) (event : Event)
    → outs_along ticks c (heard ticks c (events ++ event ∷ [])) ≡ outs_along ticks c (heard ticks c events) ++ part_by ticks event (follow ticks c (heard ticks c events))
unfolding heard follow outs_along
outs_more ticks c [] event = by_test (hears c event)
  where
    by_test : (b : Bool) → outs_along ticks c (elim b [ true ↦ event ∷ [] | false ↦ [] ]) ≡ (elim b [ true ↦ (connection_step ticks c event).1 | false ↦ [] ])
    by_test true = append-nil (connection_step ticks c event).1
    by_test false = refl
outs_more ticks c (e ∷ events) event = by_test (hears c e) (outs_more ticks (next ticks c e) events event) (outs_more ticks c events event)
  where
    d : Connection
    d = next ticks c e

    by_test : (b : Bool)
        → outs_along ticks d (heard ticks d (events ++ event ∷ [])) ≡ outs_along ticks d (heard ticks d events) ++ part_by ticks event (follow ticks d (heard ticks d events))
        → outs_along ticks c (heard ticks c (events ++ event ∷ [])) ≡ outs_along ticks c (heard ticks c events) ++ part_by ticks event (follow ticks c (heard ticks c events))
        → outs_along ticks c (elim b [ true ↦ e ∷ heard ticks d (events ++ event ∷ []) | false ↦ heard ticks c (events ++ event ∷ []) ])
        ≡ outs_along ticks c (elim b [ true ↦ e ∷ heard ticks d events | false ↦ heard ticks c events ])
        ++ part_by ticks event (follow ticks c (elim b [ true ↦ e ∷ heard ticks d events | false ↦ heard ticks c events ]))
    by_test true h k =
        let outs = (connection_step ticks c e).1 in
        ap (λ more. outs ++ more) h ∙ sym (append_assoc outs (outs_along ticks d (heard ticks d events)) (part_by ticks event (follow ticks d (heard ticks d events))))
    by_test false h k = k

pub events_more : (leg : Leg) (entry : Entry) → map (λ (e : Entry). e.event) (leg_more leg entry).since ≡ map (λ (e : Entry). e.event) leg.since ++ entry.event ∷ []
events_more leg entry = map-append (λ (e : Entry). e.event) leg.since (entry ∷ [])

pub now_more : (leg : Leg) (entry : Entry) → now_on (leg_more leg entry) ≡ fed USUAL_TICKS (now_on leg) entry.event
now_more leg entry =
    ap (λ events. follow USUAL_TICKS leg.first (heard USUAL_TICKS leg.first events)) (events_more leg entry)
    ∙ one_more USUAL_TICKS leg.first (map (λ (e : Entry). e.event) leg.since) entry.event

pub outs_on_more : (leg : Leg) (entry : Entry) → outs_on (leg_more leg entry) ≡ outs_on leg ++ part_by USUAL_TICKS entry.event (now_on leg)
outs_on_more leg entry =
    let events = map (λ (e : Entry). e.event) leg.since in
    let outs = outs_along USUAL_TICKS leg.first (heard USUAL_TICKS leg.first events) in
    ap (λ events. leg.by.outs ++ outs_along USUAL_TICKS leg.first (heard USUAL_TICKS leg.first events)) (events_more leg entry)
    ∙ (ap (λ more. leg.by.outs ++ more) (outs_more USUAL_TICKS leg.first events entry.event)
    ∙ sym (append_assoc leg.by.outs outs (part_by USUAL_TICKS entry.event (now_on leg))))
