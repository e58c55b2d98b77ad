-- The outputs of an entry are its own, and earlier ones stand first.
use Rattle.std.proofs.Common.{◌≡◌, ℕ, List, [], ◌∷◌, ◌++◌, false, refl, sym, subst, ap, ◌∙◌, Option, Some, None, Ok, Err, append-nil, append_assoc, zero-add}
use Rattle.std.specs.Prelude.{count_by}
use Rattle.std.specs.declared.result.Result.{Result}
use Rattle.relay_base.specs.declared.words.Event.{Event}
use Rattle.relay_base.specs.declared.words.Event.TheVariants.{Message as Arrived}
use Rattle.relay_base.specs.declared.words.Lost.{Lost}
use Rattle.relay_base.specs.declared.words.Output.{Output}
use Rattle.plant_core.specs.declared.answer.Answer.{Answer}
use Rattle.plant_core.specs.declared.entry.Entry.{Entry}
use Rattle.plant_core.specs.declared.terms.LaneHead.{LaneHead}
use Rattle.plant_core.specs.Asking.{Question, answer_in}
use Rattle.q713_codec.specs.Names.{Message}
use Rattle.connectionless.specs.Unitdata.{Unitdata, unitdata_of}
use Rattle.connectionless.specs.Asking.{Matter, from_network, from_user, settled, of_tick, matter_of, matter_by_message, matter_by_unit, matter_by_question, message_in, question_of}
use Rattle.reassembly.specs.declared.process.Process.{Process}
use Rattle.data_lane.specs.declared.effect.Work.{Work}
use Rattle.data_lane.specs.declared.effect.Work.TheVariants as work
use Rattle.data_lane.specs.Legal.{State, at_first, step_of, effect_by, work_of, worked, state_after, IsLegalEntry, IsDataJournal}
use Rattle.unit_law.specs.OwnOutputs.{IsAlone, StandsAlone, is_cut_by, is_cut, own_outputs, outputs_after, outputs_of, OutputsAreOwn, EarlierFirst}
use Rattle.unit_law.proofs.Cutting.{matter_uncut, none_cut, routed_next}
use Rattle.unit_law.proofs.Counting.{cut_counts}
use Rattle.unit_law.proofs.Splitting.{parted}

-- what stands alone leaves the reassemblies no work
no_work : (head : LaneHead) (number cut : ℕ) (matter : Matter) (answer : Option Answer) → IsAlone head.terms.own matter answer
    → (effect_by head number cut matter answer).work ≡ work.Nothing
no_work head number cut (from_network opc sls x question) (Some answer) alone =
    ap work_of (routed_next head.short head.terms.own opc sls x answer _ alone)
no_work head number cut (from_network opc sls x question) None alone = refl
no_work head number cut (from_user g question) (Some answer) alone = refl
no_work head number cut (from_user g question) None alone = refl
no_work head number cut (settled outs) answer alone = refl
no_work head number cut of_tick answer alone = absurd alone

none_done : (own ticks : ℕ) (processes : List Process) (todo : Work) → todo ≡ work.Nothing → (worked own ticks processes todo).outs ≡ []
none_done own ticks processes todo none = ap (λ w. (worked own ticks processes w).outs) none

-- an entry that stands alone, after those that left a state
own_after : (head : LaneHead) (number : ℕ) (s : State) (entry : Entry) → IsLegalEntry head number s entry → StandsAlone head entry
    → entry.outs ≡ own_outputs head number s.cut entry.event (answer_in entry.asked)
unfolding step_of
own_after head number s entry legal alone =
    let effect = effect_by head number s.cut (matter_of entry.event) (answer_in entry.asked) in
    legal.outputs
    ∙ (ap (λ outs. effect.outs ++ outs) (none_done head.terms.own _ s.processes effect.work (no_work head number s.cut (matter_of entry.event) (answer_in entry.asked) alone))
    ∙ append-nil effect.outs)

own : (head : LaneHead) (number : ℕ) (before : List Entry) (entry : Entry) (after : List Entry) → IsDataJournal head number (before ++ entry ∷ after)
    → StandsAlone head entry → entry.outs ≡ outputs_after head number before entry
own head number before entry after legal alone =
    let s = state_after head number at_first before in
    own_after head number s entry (parted head number at_first before (entry ∷ after) legal).1.0 alone
    ∙ ap (λ n. own_outputs head number n entry.event (answer_in entry.asked)) (cut_counts head number at_first before ∙ zero-add (count_by (is_cut head) before))

alike : (head : LaneHead) (number other cut uncut : ℕ) (event : Event) (answer : Option Answer) → is_cut_by head (matter_of event) answer ≡ false
    → own_outputs head number cut event answer ≡ own_outputs head other uncut event answer
alike head number other cut uncut event answer is = matter_uncut head number other cut uncut (matter_of event) answer is

-- A message from the network, where every point takes an LUDT.

abbrev IsUncut : LaneHead → Matter → Type 0
IsUncut head matter = (answer : Option Answer) → head.short ≡ [] → is_cut_by head matter answer ≡ false

question_uncut : (head : LaneHead) (opc sls : ℕ) (x : Unitdata) (question : Result Question Lost) → IsUncut head (matter_by_question opc sls x question)
question_uncut head opc sls x (Ok question) (Some answer) none = none_cut head.short head.terms.own opc sls x answer 0 none
question_uncut head opc sls x (Ok question) None none = refl
question_uncut head opc sls x (Err lost) answer none = refl

unit_uncut : (head : LaneHead) (opc sls : ℕ) (x : Option Unitdata) → IsUncut head (matter_by_unit opc sls x)
unit_uncut head opc sls None answer none = refl
unit_uncut head opc sls (Some x) answer none = question_uncut head opc sls x (question_of x) answer none

message_uncut : (head : LaneHead) (opc sls : ℕ) (message : Result Message Lost) → IsUncut head (matter_by_message opc sls message)
message_uncut head opc sls (Ok message) answer none = unit_uncut head opc sls (unitdata_of message) answer none
message_uncut head opc sls (Err lost) answer none = refl

arrived_uncut : (head : LaneHead) (opc sls : ℕ) (bytes : List ℕ) (answer : Option Answer) → head.short ≡ [] → is_cut_by head (matter_of (Arrived opc sls bytes)) answer ≡ false
unfolding matter_of
arrived_uncut head opc sls bytes answer none = message_uncut head opc sls (message_in bytes) answer none

pub are_own : OutputsAreOwn
are_own = record { own = own; of_uncut = alike; of_message = arrived_uncut }

-- Two entries.

outputs_parted : (one other : List Entry) → outputs_of (one ++ other) ≡ outputs_of one ++ outputs_of other
outputs_parted [] other = refl
outputs_parted (entry ∷ one) other = ap (λ outs. entry.outs ++ outs) (outputs_parted one other) ∙ sym (append_assoc entry.outs (outputs_of one) (outputs_of other))

-- the outputs of an entry stand after those before it
outputs_at : (before : List Entry) (entry : Entry) (after : List Entry) (outs : List Output) → entry.outs ≡ outs
    → outputs_of (before ++ entry ∷ after) ≡ outputs_of before ++ (outs ++ outputs_of after)
outputs_at before entry after outs is = outputs_parted before (entry ∷ after) ∙ ap (λ o. outputs_of before ++ (o ++ outputs_of after)) is

pub earlier : EarlierFirst
earlier head number before one between other after legal first second =
    let later : IsDataJournal head number ((before ++ one ∷ between) ++ other ∷ after) =
    subst (IsDataJournal head number) (sym (append_assoc before (one ∷ between) (other ∷ after))) legal in
    outputs_at before one (between ++ other ∷ after) (outputs_after head number before one) (own head number before one (between ++ other ∷ after) legal first)
    ∙ ap (λ o. outputs_of before ++ (outputs_after head number before one ++ o))
    (outputs_at between other after (outputs_after head number (before ++ one ∷ between) other) (own head number (before ++ one ∷ between) other after later second))
