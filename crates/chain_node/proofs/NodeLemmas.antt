-- A node before its first event, with one more entry, or of which a message was given.
use Rattle.std.proofs.Common.{◌≡◌, ℕ, ◌≤◌, ◌+◌, ◌-◌, Bool, true, false, List, [], ◌∷◌, ◌++◌, refl, sym, subst, ap, ap₂, ◌∙◌, arith}
use Rattle.std.specs.Prelude.{Option, is_some, flat_map, drop, slice_get}
use Rattle.std.proofs.lemmas.List.{append_assoc}
use Rattle.relay_base.specs.declared.words.Event.{Event}
use Rattle.relay_base.specs.declared.words.Output.{Output}
use Rattle.relay_base.specs.declared.words.Stamp.{Stamp}
use Rattle.plant_core.specs.Plant.{PlantState}
use Rattle.plant_core.specs.Asking.{answer_in, asked_at}
use Rattle.plant_core.specs.declared.entry.Entry.{Entry}
use Rattle.section_model.specs.Opening.{wish_of, question_of}
use Rattle.section_model.specs.Journals.{IsConnJournal, lane_of}
use Rattle.section_model.specs.Laws.{openings_from}
use Rattle.section_model.specs.Lane.{Lane, IsConnectionJournal, legal_outputs, answer_of, openings_after}
use Rattle.lane_law.proofs.Splitting.{splits}
use Rattle.conn_journal.specs.Lanes.{ConnLaneState, ConnLaneTakes, conn_asked_of}
use Rattle.conn_journal.specs.Outcomes.{next_outputs, next_connection, taken_by}
use Rattle.chain_node.specs.declared.coming.Coming.{Coming}
use Rattle.chain_node.specs.declared.kept.Kept.{Kept}
use Rattle.chain_step.specs.Run.{NodeState, head_of, messages_in, asked_by, outputs_of, entry_of, after_event, waiting}
use Rattle.chain_step.specs.Fresh.{listed, references_in, is_among}
use Rattle.chain_step.proofs.Journals.{sent_more, openings_more}
use Rattle.chain_node.specs.Inner.Queues.{QueueState, IsSameQueue, HasMore}
use Rattle.chain_node.specs.Inner.Taking.{ReferencesState, AreSame, AreTaken}
use Rattle.chain_node.specs.Inner.Coming.{IsComing, IsSameKept}
use Rattle.chain_node.specs.Inner.Kept.{Waits, IsNode, sent_of, taken_in}
use Rattle.chain_node.proofs.Waiting.{put_waits, given_waits}
use Rattle.chain_node.proofs.Fresh.{references_after}

abbrev pub seen : PlantState → ConnLaneState → ℕ → ℕ → NodeState
seen plant lane ahead back = record { head = lane.head; routing = plant.routing; journal = lane.journal; ahead = ahead; back = back }

-- the outputs of a journal's last entry are the legal ones
last_outs : (lane : Lane) (journal : List Entry) (entry : Entry) → IsConnectionJournal lane (journal ++ entry ∷ []) → entry.outs ≡ legal_outputs lane (openings_from lane [] journal) entry.event (answer_of entry)
last_outs lane journal entry legal = ((splits lane [] journal (entry ∷ [])).0 legal).1.0.outputs

-- a lane with one entry more
abbrev grown : ConnLaneState → Entry → ConnLaneState
grown lane entry = record { head = lane.head; number = lane.number; journal = lane.journal ++ entry ∷ [] }

is_grown : (plant : PlantState) (stamp : Stamp) (e : Event) (old new : ConnLaneState) (t : ConnLaneTakes plant stamp e old new) → new ≡ grown old t.entry
is_grown plant stamp e old new t = λ i. record { head = t.head i; number = t.number i; journal = t.journal i }

taken_outs : (plant : PlantState) (stamp : Stamp) (e : Event) (old new : ConnLaneState) (t : ConnLaneTakes plant stamp e old new) → IsConnJournal new.head new.number new.journal → t.entry.outs ≡ next_outputs plant e old
taken_outs plant stamp e old new t legal =
    let lane : Lane = lane_of old.head old.number in
    last_outs lane old.journal t.entry (subst (λ (l : ConnLaneState). IsConnJournal l.head l.number l.journal) (is_grown plant stamp e old new t) legal)
    ∙ ap₂ (λ event asked. legal_outputs lane (openings_from lane [] old.journal) event (answer_in asked)) t.of_event t.answered

-- the outputs, and the entry, as the run has them
pub outputs_are : (plant : PlantState) (lane : ConnLaneState) (e : Event) (ahead back : ℕ) → lane.number ≡ 0 → plant.edition ≡ 0 → next_outputs plant e lane ≡ outputs_of e (seen plant lane ahead back)
outputs_are plant lane e ahead back number edition =
    ap₂ (λ n v. legal_outputs (lane_of lane.head n) (openings_from (lane_of lane.head n) [] lane.journal) e (answer_in (asked_at v plant.routing (question_of (wish_of lane.head.terms e))))) number edition

pub entry_is : (plant : PlantState) (step : ℕ) (e : Event) (old new : ConnLaneState) (ahead back : ℕ) (t : ConnLaneTakes plant (record { phase = 1; link = 0; line = step }) e old new)
    → IsConnJournal new.head new.number new.journal → old.number ≡ 0 → plant.edition ≡ 0 → t.entry ≡ entry_of step e (seen plant old ahead back)
entry_is plant step e old new ahead back t legal number edition =
    let asked : t.entry.asked ≡ asked_by e (seen plant old ahead back) = t.answered ∙ ap (λ v. asked_at v plant.routing (question_of (wish_of old.head.terms e))) edition in
    let outs : t.entry.outs ≡ outputs_of e (seen plant old ahead back) = taken_outs plant _ e old new t legal ∙ outputs_are plant old e ahead back number edition in
    λ i. record { stamp = t.stamped i; event = t.of_event i; asked = asked i; outs = outs i }

-- what waits, and what was taken, with one entry more
waits_more : (own to : ℕ) (old : ConnLaneState) (entry : Entry) (outs : List Output) (first room later : QueueState) (more : List Event)
    → Waits first (sent_of own to old.journal) → entry.outs ≡ outs → more ≡ messages_in own to outs → IsSameQueue first room → HasMore more room later
    → Waits later (sent_of own to (old.journal ++ entry ∷ []))
waits_more own to old entry outs first room later more waits same are kept has =
    subst (Waits later) (sym (sent_more own to old.journal entry ∙ ap (λ more. sent_of own to old.journal ++ more) (ap (messages_in own to) same ∙ sym are)))
    (put_waits first later (sent_of own to old.journal) more waits (has.waiting ∙ ap (λ xs. xs ++ more) kept.waiting) (has.given ∙ kept.given))

taken_more : (plant : PlantState) (e : Event) (old : ConnLaneState) (entry : Entry) (this that : Option ℕ)
    → entry.event ≡ e → entry.asked ≡ conn_asked_of old.head plant e
    → this ≡ taken_by (λ c. c.this) (next_connection plant e old) → that ≡ taken_by (λ c. c.that) (next_connection plant e old)
    → taken_in (grown old entry) ≡ (taken_in old ++ listed this) ++ listed that
taken_more plant e old entry this that of_event answered are_this are_that =
    let lane : Lane = lane_of old.head old.number in
    let openings = openings_from lane [] old.journal in
    ap (flat_map references_in) (openings_more lane [] old.journal entry)
    ∙ (ap₂ (λ event asked. flat_map references_in (openings_after lane openings event (answer_in asked))) of_event answered
    ∙ (references_after lane openings e (answer_in (conn_asked_of old.head plant e))
    ∙ (ap₂ (λ x y. taken_in old ++ (listed x ++ listed y)) (sym are_this) (sym are_that) ∙ sym (append_assoc (taken_in old) (listed this) (listed that)))))

-- the same references, with room
taken_same : (old new : ReferencesState) (list : List ℕ) → AreTaken old list → AreSame old new → AreTaken new list
taken_same old new list are same = record { each = λ r. same.each r ∙ are.each r; twice = same.twice ∙ are.twice }

-- the node before its first event
none_wait : (q : QueueState) → q.waiting ≡ [] → q.given ≡ 0 → Waits q []
none_wait q none zeroth = record {
  waiting = none ∙ sym (ap (λ n. drop n []) zeroth);
  given = omega (arith, zeroth);
}

none_taken : (references : ReferencesState) → references.taken ≡ [] → references.twice ≡ false → AreTaken references []
none_taken references none once = record { each = λ r. ap (is_among r) none; twice = once }

pub node_begins : (number : ℕ) (plant : PlantState) (lane : ConnLaneState) (kept : Kept) → 1 ≤ number → number ≤ 8 → lane ≡ record { head = head_of number; number = 0; journal = [] } → plant.edition ≡ 0
    → (kept.ahead.waiting ≡ []) × (kept.ahead.given ≡ 0) → (kept.back.waiting ≡ []) × (kept.back.given ≡ 0) → (kept.references.taken ≡ []) × (kept.references.twice ≡ false)
    → IsNode number plant lane kept
node_begins number plant lane kept least most same edition ahead back references =
    subst (λ lane. IsNode number plant lane kept) (sym same)
    (record {
      least = least;
      most = most;
      point = refl;
      first_lane = refl;
      edition = edition;
      ahead = none_wait kept.ahead ahead.0 ahead.1;
      back = none_wait kept.back back.0 back.1;
      gave = none_taken kept.references references.0 references.1;
    })

-- the node after an event
pub node_taken : (number : ℕ) (plant : PlantState) (stamp : Stamp) (e : Event) (old new : ConnLaneState) (coming : Coming) (first room later : Kept)
    → IsNode number plant old first → IsComing number old plant e coming → IsSameKept first room → (t : ConnLaneTakes plant stamp e old new) → IsConnJournal new.head new.number new.journal
    → HasMore coming.mail.ahead.items room.ahead later.ahead → HasMore coming.mail.back.items room.back later.back
    → ((taken : List ℕ) → AreTaken room.references taken → AreTaken later.references ((taken ++ listed coming.this) ++ listed coming.that))
    → IsNode number plant new later
node_taken number plant stamp e old new coming first room later node comes same t legal ahead back takes =
    let outs = taken_outs plant stamp e old new t legal in
    subst (λ lane. IsNode number plant lane later) (sym (is_grown plant stamp e old new t))
    (record {
      least = node.least;
      most = node.most;
      point = node.point;
      first_lane = node.first_lane;
      edition = node.edition;
      ahead = waits_more number (number + 1) old t.entry (next_outputs plant e old) first.ahead room.ahead later.ahead coming.mail.ahead.items node.ahead outs comes.ahead same.ahead ahead;
      back = waits_more number (number - 1) old t.entry (next_outputs plant e old) first.back room.back later.back coming.mail.back.items node.back outs comes.back same.back back;
      gave = subst (AreTaken later.references) (sym (taken_more plant e old t.entry coming.this coming.that t.of_event t.answered comes.this comes.that))
          (takes (taken_in old) (taken_same first.references room.references (taken_in old) node.gave same.references));
    })

pub node_is : (plant : PlantState) (step : ℕ) (e : Event) (old new : ConnLaneState) (ahead back given_ahead given_back : ℕ) (t : ConnLaneTakes plant (record { phase = 1; link = 0; line = step }) e old new)
    → IsConnJournal new.head new.number new.journal → old.number ≡ 0 → plant.edition ≡ 0 → given_ahead ≡ ahead → given_back ≡ back
    → seen plant new given_ahead given_back ≡ after_event step e (seen plant old ahead back)
node_is plant step e old new ahead back given_ahead given_back t legal number edition same_ahead same_back =
    let journal = t.journal ∙ ap (λ entry. old.journal ++ entry ∷ []) (entry_is plant step e old new ahead back t legal number edition) in
    λ i. record { head = t.head i; routing = plant.routing; journal = journal i; ahead = same_ahead i; back = same_back i }

-- the first message that waits
waits_ahead : (number : ℕ) (plant : PlantState) (lane : ConnLaneState) (kept : Kept) → IsNode number plant lane kept
    → slice_get (sent_of number (number + 1) lane.journal) kept.ahead.given ≡ waiting true (seen plant lane kept.ahead.given kept.back.given)
waits_ahead number plant lane kept node = ap (λ own. slice_get (sent_of own (own + 1) lane.journal) kept.ahead.given) (sym node.point)

waits_back : (number : ℕ) (plant : PlantState) (lane : ConnLaneState) (kept : Kept) → IsNode number plant lane kept
    → slice_get (sent_of number (number - 1) lane.journal) kept.back.given ≡ waiting false (seen plant lane kept.ahead.given kept.back.given)
waits_back number plant lane kept node = ap (λ own. slice_get (sent_of own (own - 1) lane.journal) kept.back.given) (sym node.point)

-- it is given
pub given_ahead : (number : ℕ) (plant : PlantState) (lane : ConnLaneState) (kept : Kept) (later : QueueState) (node : NodeState) (forward : Bool) → IsNode number plant lane kept
    → seen plant lane kept.ahead.given kept.back.given ≡ node → forward ≡ true → is_some (waiting forward node) ≡ true → later.waiting ≡ drop 1 kept.ahead.waiting → later.given ≡ kept.ahead.given + 1
    → IsNode number plant lane (record kept { ahead = later })
given_ahead number plant lane kept later node forward is view way some rest more = record {
  least = is.least;
  most = is.most;
  point = is.point;
  first_lane = is.first_lane;
  edition = is.edition;
  ahead = given_waits kept.ahead later (sent_of number (number + 1) lane.journal) is.ahead
      (ap is_some (waits_ahead number plant lane kept is) ∙ (ap₂ (λ f n. is_some (waiting f n)) (sym way) view ∙ some)) rest more;
  back = is.back;
  gave = is.gave;
}

pub given_back : (number : ℕ) (plant : PlantState) (lane : ConnLaneState) (kept : Kept) (later : QueueState) (node : NodeState) (forward : Bool) → IsNode number plant lane kept
    → seen plant lane kept.ahead.given kept.back.given ≡ node → forward ≡ false → is_some (waiting forward node) ≡ true → later.waiting ≡ drop 1 kept.back.waiting → later.given ≡ kept.back.given + 1
    → IsNode number plant lane (record kept { back = later })
given_back number plant lane kept later node forward is view way some rest more = record {
  least = is.least;
  most = is.most;
  point = is.point;
  first_lane = is.first_lane;
  edition = is.edition;
  ahead = is.ahead;
  back = given_waits kept.back later (sent_of number (number - 1) lane.journal) is.back
      (ap is_some (waits_back number plant lane kept is) ∙ (ap₂ (λ f n. is_some (waiting f n)) (sym way) view ∙ some)) rest more;
  gave = is.gave;
}
