-- How a connection is set up, of any event.
use Rattle.std.proofs.Common.{◌≡◌, ◌≢◌, ◌⊎◌, inl, inr, ℕ, ◌<◌, ◌==◌, not, nat_le, true, false, List, [], ◌∷◌, length, Option, refl, sym, ◌∙◌, ap, subst, arith, eq-eqb}
use Rattle.std.specs.List.{AllByRecursion}
use Rattle.std.proofs.lemmas.Bool.{false≢true, eqb-true, leb-true}
use Rattle.relay_base.specs.declared.limits.TheConstants.{LONGEST_DATA, REFERENCES}
use Rattle.relay_base.specs.declared.words.Event.{Event}
use Rattle.relay_base.specs.declared.words.Event.TheVariants.{Message as Arrived, Asked as Requested, Tick}
use Rattle.relay_base.specs.declared.words.Output.{Output}
use Rattle.relay_base.specs.declared.words.Output.TheVariants.{Sent, Told, Lost}
use Rattle.relay_base.specs.declared.words.Request.TheVariants as request
use Rattle.plant_core.specs.declared.terms.Ticks.{Ticks}
use Rattle.q713_shape.specs.Writing.{octets_of}
use Rattle.q713_codec.specs.declared.message.Message.TheVariants.{Cc, Cref}
use Rattle.q713_codec.specs.Formats.{cref_format}
use Rattle.q713_codec.specs.Messages.{protocol_class, cref_of}
use Rattle.q713_codec.specs.Reading.{kind_of}
use Rattle.q713_codec.specs.Writing.{spelling_of}
use Rattle.q713_codec.proofs.ReadBack.{reads_back}
use Rattle.section_model.specs.declared.cell.SectionState.{SectionState}
use Rattle.section_model.specs.declared.cell.SectionState.TheVariants.{Asked, Up, Gone}
use Rattle.section_model.specs.Lengths.{IsAddress, IsData}
use Rattle.section_model.specs.Parameters.{arrival_of, arrival_by, arrival_in}
use Rattle.section_model.specs.Ends.{End, wire, owner, SectionHead, Section, Connection, is_gone, is_reached}
use Rattle.section_model.specs.Line.{credit_of}
use Rattle.section_model.specs.UserEnd.{given}
use Rattle.section_model.specs.Step.{is_named, hears, connection_step}
use Rattle.section_model.specs.Lane.{next, fed, part_by}
use Rattle.section_model.proofs.ArriveWithin.{arrives_within}
use Rattle.section_model.proofs.InRanges.{writes_within}
use Rattle.connection_law.specs.InStep.{class_at}
use Rattle.connection_law.proofs.Flow.Flowing.{either}
use Rattle.hop_law.specs.ClassLaw.{IsOfAClass}
use Rattle.hop_law.specs.LeavingLaw.{AreSides, this_and_that, that_and_this, IsApart}
use Rattle.hop_law.proofs.Passing.{first_true, second_true}
use Rattle.hop_law.specs.Answering.{waiting_on}
use Rattle.hop_law.specs.Confirming.{IsStill, IsConfirmed, ByConfirm}
use Rattle.hop_law.specs.Waiting.{Waiting, message_to, messages_to}
use Rattle.hop_law.proofs.Along.{apart_between}
use Rattle.hop_law.proofs.Answering.{Saying, Tells, AnswersBy, silent, accepts, refuses, answered_by}
use Rattle.hop_law.proofs.Confirming.{becomes_known}
use Rattle.hop_law.proofs.Lists.{all_joined}
use Rattle.hop_law.proofs.Taken.{stands}
use Rattle.hop_law.specs.Setup.{IsRefusal, AnswersOnce, silent as says_nothing, accepts as says_yes, refuses as says_no, AskedAnswers, IsNoConfirm, SendsNoConfirm, AskingStays, AskingIsAnswered}
use Rattle.hop_law.specs.Soundness.{IsSound}
use Rattle.hop_law.proofs.ComingIn.{named_by}
use Rattle.hop_law.proofs.Confirmless.{IsClear, Misses, MissesPoint, step_misses}
use Rattle.hop_law.proofs.Hearing.{by_hearing, stays_sound}
use Rattle.hop_law.proofs.Typing.{of_type, is_no_confirm}

-- one section is one head
same_head : (x y : Section) → wire x ≡ wire y → x.head ≡ y.head
same_head x y e = cc

-- A section that asks for a connection.

pub asking_stays : AskingStays
asking_stays ticks c event end other x y sides is after unknown = by_event after
  where
    by_event : end (fed ticks c event) ≡ wire y → IsStill x.head y.head ⊎ ByConfirm event x.head y.head
    by_event =
        by_hearing (λ d outs. end d ≡ wire y → IsStill x.head y.head ⊎ ByConfirm event x.head y.head) ticks c event
        (λ h after. becomes_known.only_by ticks c event end other x y h sides is after unknown)
        (λ h same. subst (λ (h : SectionHead). IsStill x.head h ⊎ ByConfirm event x.head h) (same_head x y (sym is ∙ same)) (inl (inl unknown, refl)))

unknown_remains : (s : SectionState) → is_reached s ≡ false → is_gone s ≡ false
unknown_remains Gone unknown = unknown
unknown_remains _ unknown = refl

pub asking_is_answered : AskingIsAnswered
unfolding hears
asking_is_answered ticks c point sls bytes a end other x y sound sides is after unknown arrives answer mine = by_event after
  where
    event : Event
    event = Arrived point sls bytes

    is_for : is_named a.parameters.dlr (wire x) ≡ true
    is_for = rw (unknown_remains x.head.state unknown, eq-eqb x.head.mine a.parameters.dlr (sym mine)) refl

    is_heard : hears c event ≡ true
    is_heard = rw arrives (named_by a.parameters.dlr c end other sides (subst (λ f. is_named a.parameters.dlr f ≡ true) (sym is) is_for))

    by_event : end (fed ticks c event) ≡ wire y → ((y.head.state ≡ Gone) × (y.head.point ≡ x.head.point)) ⊎ IsConfirmed point a x.head y.head
    by_event =
        by_hearing (λ d outs. end d ≡ wire y → ((y.head.state ≡ Gone) × (y.head.point ≡ x.head.point)) ⊎ IsConfirmed point a x.head y.head) ticks c event
        (λ _ after. becomes_known.by_answer ticks c point sls bytes a x y end arrives answer is_for
        (stands a.parameters.dlr c x end other sides is (eq-eqb a.parameters.dlr x.head.mine mine) sound.references) unknown after)
        (λ not. absurd (false≢true (sym not ∙ is_heard)))

-- CC and CREF as they are read.

-- the called address and the data of CC have lengths that Q.713 allows
IsWithin : Saying
IsWithin called body = IsAddress called × IsData body

tells_within : (c : Connection) (event : Event) → hears c event ≡ true → Tells IsWithin event
unfolding hears IsWithin
tells_within c (Arrived point sls bytes) h = λ a e. let within = arrives_within bytes a e in (within.0, within.1)
tells_within c (Requested ssn (request.Accept mine class credit body)) h = (tt, is_data body (second_true _ _ (first_true _ _ h)))
  where
    is_data : (body : List ℕ) → nat_le (length body) LONGEST_DATA ≡ true → IsData (given body)
    is_data [] short = tt
    is_data (octet ∷ body) short = (omega arith, leb-true (length (octet ∷ body)) LONGEST_DATA short)
tells_within c (Requested ssn r) h = tt
tells_within c Tick h = tt

class_read : (class : ℕ) → IsOfAClass class → protocol_class class ≡ class
class_read class (inl two) = rw two refl
class_read class (inr three) = rw three refl

confirm_read : (x y : SectionHead) (called body : Option (List ℕ)) (importance : Option ℕ) → x.mine < REFERENCES → x.other < REFERENCES → IsOfAClass y.class → IsWithin called body
    → (queue : List Waiting) → queue ≡ waiting_on x (Cc x.other x.mine y.class (credit_of y.class y.credit) called body importance) ∷ [] → y.state ≡ Up → AnswersOnce x y queue
unfolding IsWithin arrival_in arrival_of
confirm_read x y called body importance mine other class within queue sent up =
    let message = Cc x.other x.mine y.class (credit_of y.class y.credit) called body importance in
    let range = writes_within.cc x.other x.mine y.class (credit_of y.class y.credit) called body importance within.0 within.1 in
    says_yes (waiting_on x message) _ up sent (ap arrival_by (reads_back message ((other, (mine, tt)), refl) range))
    (record { confirms = refl; named = refl; own = refl; class = class_read y.class class })

refusal_read : (x : SectionHead) (cause : ℕ) (called body : Option (List ℕ)) (importance : Option ℕ) → IsRefusal (arrival_in (spelling_of (Cref x.other cause called body importance)))
unfolding spelling_of octets_of arrival_of
refusal_read x cause called body importance =
    of_type IsRefusal (kind_of cref_format cref_of) 3 tt (λ values. refl) refl (spelling_of (Cref x.other cause called body importance)) refl

-- A section that was asked.

asked_by_event : (ticks : Ticks) (c : Connection) (event : Event) (end other : Connection → End) (x y : Section) → IsSound c → AreSides end other → end c ≡ wire x → x.head.state ≡ Asked
    → x.head.mine < REFERENCES → x.head.other < REFERENCES → hears c event ≡ true → end (next ticks c event) ≡ wire y → IsApart x.head (other (next ticks c event))
    → IsOfAClass y.head.class → AnswersOnce x.head y.head (messages_to x.head.point (connection_step ticks c event).1)
asked_by_event ticks c event end other x y sound sides is asked mine known h after apart class =
    read (answered_by IsWithin ticks c event end other x y (tells_within c event h) sound.in_step sides is asked after (apart_between ticks c event end other x.head sides apart))
  where
    read : {queue : List Waiting} → AnswersBy IsWithin x.head y.head queue → AnswersOnce x.head y.head queue
    read (silent same none) = says_nothing same none
    read {queue} (accepts called body importance says up sent) = confirm_read x.head y.head called body importance mine known class says queue sent up
    read (refuses cause called body importance over sent) =
        says_no (waiting_on x.head (Cref x.head.other cause called body importance)) over sent (refusal_read x.head cause called body importance)

end_of_class : (end other : Connection → End) (d : Connection) (y : Section) → AreSides end other → end d ≡ wire y → IsSound d → IsOfAClass y.head.class
end_of_class end other d y this_and_that is sound = subst (λ e. IsOfAClass (class_at e)) is sound.class
end_of_class end other d y that_and_this is sound = subst (λ e. IsOfAClass (class_at e)) is (subst IsOfAClass sound.in_step.1 sound.class)

pub asked_answers : AskedAnswers
unfolding messages_to
asked_answers ticks c event end other x y sound sides is asked after mine known apart = by_event (stays_sound ticks c event sound) after apart
  where
    by_event : IsSound (fed ticks c event) → end (fed ticks c event) ≡ wire y → IsApart x.head (other (fed ticks c event))
        → AnswersOnce x.head y.head (messages_to x.head.point (part_by ticks event c))
    by_event =
        by_hearing (λ d outs. IsSound d → end d ≡ wire y → IsApart x.head (other d) → AnswersOnce x.head y.head (messages_to x.head.point outs)) ticks c event
        (λ h later after apart. asked_by_event ticks c event end other x y sound sides is asked mine known h after apart (end_of_class end other (next ticks c event) y sides after later))
        (λ _ later same apart. says_nothing (same_head y x (sym same ∙ is)) refl)

-- A section that sends no CC.

no_confirm : (point : ℕ) (out : Output) → MissesPoint point out → AllByRecursion (λ (m : Waiting). IsNoConfirm (arrival_in m.bytes)) (message_to point out)
no_confirm point (Sent to sls bytes) miss =
    either (AllByRecursion (λ (m : Waiting). IsNoConfirm (arrival_in m.bytes))) (to == point) _ _ (λ same. (is_no_confirm bytes (miss (eqb-true to point same)), tt)) (λ _. tt)
no_confirm point (Told ssn tell) miss = tt
no_confirm point (Lost lost) miss = tt

confirmless : (point : ℕ) (outs : List Output) → Misses point outs → AllByRecursion (λ (m : Waiting). IsNoConfirm (arrival_in m.bytes)) (messages_to point outs)
unfolding messages_to
confirmless point [] misses = tt
confirmless point (out ∷ outs) misses =
    all_joined (λ (m : Waiting). IsNoConfirm (arrival_in m.bytes)) (message_to point out) (messages_to point outs) (no_confirm point out misses.0) (confirmless point outs misses.1)

clear_here : (point : ℕ) (x : Section) → x.head.state ≢ Asked → IsClear point (wire x)
clear_here point x not = λ asked. absurd (not asked)

clear_apart : (y : SectionHead) (e : End) → IsApart y e → IsClear y.point e
clear_apart y (wire z) apart = λ _. apart
clear_apart y (owner u) apart = tt

both_clear : (y : SectionHead) (end other : Connection → End) (c : Connection) (x : Section) → AreSides end other → end c ≡ wire x → x.head.state ≢ Asked → IsApart y (other c)
    → IsClear y.point c.this × IsClear y.point c.that
both_clear y end other c x this_and_that is not apart = (subst (IsClear y.point) (sym is) (clear_here y.point x not), clear_apart y c.that apart)
both_clear y end other c x that_and_this is not apart = (clear_apart y c.this apart, subst (IsClear y.point) (sym is) (clear_here y.point x not))

pub sends_no_confirm : SendsNoConfirm
unfolding messages_to
sends_no_confirm ticks c event end other x y sides is not apart =
    let clear = both_clear y end other c x sides is not apart in
    by_hearing (λ d outs. AllByRecursion (λ (m : Waiting). IsNoConfirm (arrival_in m.bytes)) (messages_to y.point outs)) ticks c event
    (λ _. confirmless y.point (connection_step ticks c event).1 (step_misses y.point ticks c event clear.0 clear.1)) (λ _. tt)
