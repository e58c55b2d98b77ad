-- How a connection is opened (Q.714, 3.1): by CR from the network, or by a user's N-CONNECT request.
use Rattle.std.specs.Prelude.{ℕ, ◌%◌, ◌==◌, ◌||◌, ◌&&◌, nat_le, Bool, List, [], ◌∷◌, length, if◌then◌else◌, Option, Some, None, Ok, Err, unwrap_or, is_ok}
use Rattle.std.specs.declared.result.Result.{Result}
use Rattle.relay_base.specs.declared.causes.TheConstants.{REFUSAL_NOT_AVAILABLE, REFUSAL_UNQUALIFIED}
use Rattle.relay_base.specs.declared.words.ReadFault.{ReadFault}
use Rattle.relay_base.specs.declared.words.Output.{Output}
use Rattle.relay_base.specs.declared.words.Output.TheVariants.{Sent, Told}
use Rattle.relay_base.specs.declared.words.Tell.TheVariants as tell
use Rattle.relay_base.specs.declared.words.Request.{Request}
use Rattle.relay_base.specs.declared.words.Request.TheVariants as request
use Rattle.relay_base.specs.declared.words.Event.{Event}
use Rattle.relay_base.specs.declared.words.Event.TheVariants.{Message as Arrived, Asked as Requested, Tick}
use Rattle.sccp_address.specs.Form.{Form}
use Rattle.sccp_address.specs.Parsing.{address_of}
use Rattle.sccp_address.specs.Subsystems.{subsystem_address}
use Rattle.sccp_address.specs.declared.address.AddressFault.{AddressFault}
use Rattle.plant_core.specs.declared.answer.TheConstants.{MOST_HOPS}
use Rattle.plant_core.specs.declared.answer.Answer.{Answer}
use Rattle.plant_core.specs.declared.answer.Answer.TheVariants.{Local, Forward, Refused}
use Rattle.plant_core.specs.declared.answer.Rewrite.{Rewrite}
use Rattle.plant_core.specs.declared.answer.Origin.{Origin}
use Rattle.plant_core.specs.declared.answer.Origin.TheVariants.{Network, User as FromUser}
use Rattle.plant_core.specs.declared.terms.Terms.{Terms}
use Rattle.plant_core.specs.declared.terms.Ticks.{Ticks}
use Rattle.plant_core.specs.Causes.{refusal_code}
use Rattle.q713_codec.specs.Names.{Message}
use Rattle.q713_codec.specs.declared.message.Message.TheVariants.{Cr, Cref}
use Rattle.q713_codec.specs.Messages.{protocol_class}
use Rattle.q713_codec.specs.Reading.{reading_of}
use Rattle.q713_codec.specs.declared.longest.TheConstants.{LONGEST}
use Rattle.q713_codec.specs.Writing.{spelling_of, is_in_range}
use Rattle.plant_core.specs.Asking.{Question}
use Rattle.plant_core.specs.Rewriting.{called_onward}
use Rattle.scmg_messages.specs.Messages.{status_outputs}
use Rattle.relay_base.specs.declared.limits.TheConstants.{GREATEST_CREDIT, LINK_SELECTIONS, LONGEST_DATA, LONGEST_GIVEN_ADDRESS}
use Rattle.section_model.specs.declared.cell.SectionState.{SectionState}
use Rattle.section_model.specs.declared.cell.SectionState.TheVariants as section
use Rattle.section_model.specs.declared.cell.UserState.{UserState}
use Rattle.section_model.specs.declared.cell.UserState.TheVariants as user
use Rattle.section_model.specs.Ends.{SectionHead, End, wire, owner, Connection, no_kept, cleared, no_timers}
use Rattle.section_model.specs.Line.{credit_of, agreed_credit}
use Rattle.section_model.specs.Timing.{entered}
use Rattle.section_model.specs.UserEnd.{given}

-- What CR or a user wants of a connection: for CR the point and the link selection that it came with, and its parameters, for a user what
-- stands in their place.
pub record Wanted : Type 0 where
  pub point : ℕ
  pub sls : ℕ
  pub slr : ℕ
  pub class : ℕ
  pub credit : ℕ
  pub called : List ℕ
  pub calling : Option (List ℕ)
  pub body : Option (List ℕ)
  pub hop : Option ℕ
  pub importance : Option ℕ

-- What an event wants: CR; a request of a subsystem with its tag; or no connection.
pub data Wish : Type 0 where
  by_cr : Wanted → Wish
  by_user : ℕ → ℕ → Wanted → Wish
  no_wish : Wish

-- the credit that is offered on (Q.714, 3.1.3): in class 3 none and 0 count as 1, and one above the node's greatest as that
abbrev pub offered : Terms → ℕ → ℕ → ℕ
offered terms class credit = agreed_credit class credit terms.credit

abbrev pub wish_of_message : Terms → ℕ → ℕ → Message → Wish
wish_of_message terms point sls (Cr slr class called credit calling body hop importance) = by_cr (record {
  point = point;
  sls = sls;
  slr = slr;
  class = protocol_class class;
  credit = offered terms (protocol_class class) (unwrap_or credit 1);
  called = called;
  calling = calling;
  body = body;
  hop = hop;
  importance = importance;
})
wish_of_message terms point sls _ = no_wish

abbrev pub wish_of_reading : Terms → ℕ → ℕ → Result Message ReadFault → Wish
wish_of_reading terms point sls (Ok message) = wish_of_message terms point sls message
wish_of_reading terms point sls (Err fault) = no_wish

-- a request for a connection in its ranges
abbrev pub may_be_wanted : ℕ → ℕ → List ℕ → List ℕ → Bool
may_be_wanted class credit called body =
    (class == 2 || class == 3) && nat_le credit GREATEST_CREDIT
    && nat_le (length called) LONGEST_GIVEN_ADDRESS && is_ok (address_of called)
    && nat_le (length body) LONGEST_DATA

-- A user's connection: the calling address is its subsystem, the hop counter is the greatest, and the link selection comes of its tag.
abbrev pub wanted_by_user : Terms → ℕ → ℕ → ℕ → ℕ → List ℕ → List ℕ → Wanted
wanted_by_user terms ssn tag class credit called body = record {
  point = terms.own;
  sls = tag % LINK_SELECTIONS;
  slr = 0;
  class = class;
  credit = offered terms class credit;
  called = called;
  calling = Some (subsystem_address ssn);
  body = given body;
  hop = Some MOST_HOPS;
  importance = None;
}

abbrev pub wish_of_request : Terms → ℕ → Request → Wish
wish_of_request terms ssn (request.Conn tag class credit called body) =
    if may_be_wanted class credit called body then by_user ssn tag (wanted_by_user terms ssn tag class credit called body) else no_wish
wish_of_request terms ssn _ = no_wish

unfoldable pub wish_of : Terms → Event → Wish
wish_of terms (Arrived point sls bytes) = wish_of_reading terms point sls (reading_of bytes)
wish_of terms (Requested ssn r) = wish_of_request terms ssn r
wish_of terms Tick = no_wish

-- What routing is asked (Q.714, 2.3): nothing for a CR of another class, or whose called address is none.
abbrev pub asked_for : Option ℕ → Origin → Result Form AddressFault → Option Question
asked_for hop origin (Ok a) = Some (record { called = a; hop = hop; origin = origin })
asked_for hop origin (Err fault) = None

unfoldable pub question_of : Wish → Option Question
question_of (by_cr w) = if w.class == 2 || w.class == 3 then asked_for w.hop Network (address_of w.called) else None
question_of (by_user ssn tag w) = asked_for None FromUser (address_of w.called)
question_of no_wish = None

-- CR as it goes on, from a new reference, with the called address that routing gives
abbrev pub onward : Wanted → Rewrite → Option ℕ → ℕ → Message
onward w rewrite hop mine =
    Cr mine w.class (called_onward rewrite w.called) (credit_of w.class w.credit) w.calling w.body hop w.importance

-- CR can be written, and is no longer than a message may be
abbrev pub fits : Wanted → Rewrite → Option ℕ → Bool
fits w rewrite hop = is_in_range (onward w rewrite hop 0) && nat_le (length (spelling_of (onward w rewrite hop 0))) LONGEST

abbrev pub new_section : Ticks → SectionHead → End
new_section ticks x = wire (record { head = x; kept = no_kept; windows = cleared x.credit; timers = entered ticks x.state no_timers })

abbrev pub new_user : UserState → ℕ → ℕ → Wanted → End
new_user state ssn mine w = owner (record { ssn = ssn; mine = mine; state = state; class = w.class; credit = w.credit; text = []; got = []; passed = 0 })

-- the section from which CR came, and the one that CR goes out on
abbrev pub section_between : SectionState → Terms → ℕ → ℕ → ℕ → Wanted → End
section_between state terms point mine other w =
    new_section terms.ticks
    (record { point = point; mine = mine; other = other; sls = w.sls; state = state; class = w.class; credit = w.credit })

abbrev pub asked_section : Terms → ℕ → Wanted → End
asked_section terms mine w = section_between section.Asked terms w.point mine w.slr w

abbrev pub asking_section : Terms → ℕ → ℕ → Wanted → End
asking_section terms point mine w = section_between section.Asking terms point mine 0 w

-- CREF (Q.713, 4.4) goes to where CR came from
abbrev pub cref_to : Wanted → ℕ → Output
cref_to w cause = Sent w.point w.sls (spelling_of (Cref w.slr cause None None None))

-- The connection that is opened, if any, and the outputs.
pub record Opened : Type 0 where
  pub connection : Option Connection
  pub outs : List Output

abbrev pub not_opened : List Output → Opened
not_opened outs = record { connection = None; outs = outs }

abbrev pub opened_with : Connection → List Output → Opened
opened_with c outs = record { connection = Some c; outs = outs }

-- from a section to a user
abbrev pub opened_locally : Terms → Wanted → ℕ → ℕ → Opened
opened_locally terms w ssn mine =
    opened_with (record { this = asked_section terms mine w; that = new_user user.Offered ssn mine w })
    (Told ssn (tell.Conn mine w.class w.credit w.called w.calling w.body) ∷ [])

-- from a section to another one
abbrev pub opened_onward : Terms → Wanted → ℕ → Rewrite → Option ℕ → ℕ → ℕ → Opened
opened_onward terms w point rewrite hop mine next =
    opened_with (record { this = asked_section terms mine w; that = asking_section terms point next w })
    (Sent point w.sls (spelling_of (onward w rewrite hop next)) ∷ [])

-- where two references are free
abbrev pub opened_through : Terms → Wanted → ℕ → Rewrite → Option ℕ → List ℕ → Opened
opened_through terms w point rewrite hop (mine ∷ next ∷ refs) = opened_onward terms w point rewrite hop mine next
opened_through terms w point rewrite hop _ = not_opened (cref_to w REFUSAL_NOT_AVAILABLE ∷ [])

-- CR, with the references that are free for it: as many as it needs, or fewer where too few are free. One that goes on has to fit first.
unfoldable pub opened_by_cr : Terms → Wanted → Answer → List ℕ → Opened
opened_by_cr terms w (Refused cause local) refs = not_opened (cref_to w (refusal_code cause) ∷ status_outputs terms.own w.point w.sls local)
opened_by_cr terms w (Local ssn) [] = not_opened (cref_to w REFUSAL_NOT_AVAILABLE ∷ [])
opened_by_cr terms w (Local ssn) (mine ∷ refs) = opened_locally terms w ssn mine
opened_by_cr terms w (Forward point rewrite hop) refs =
    if fits w rewrite hop then opened_through terms w point rewrite hop refs else not_opened (cref_to w REFUSAL_UNQUALIFIED ∷ [])

-- from a user to a section
abbrev pub opened_out : Terms → ℕ → ℕ → Wanted → ℕ → Rewrite → ℕ → Opened
opened_out terms ssn tag w point rewrite mine =
    opened_with (record { this = new_user user.Calling ssn mine w; that = asking_section terms point mine w })
    (Told ssn (tell.Named tag mine) ∷ Sent point w.sls (spelling_of (onward w rewrite w.hop mine)) ∷ [])

-- a user's request, with the reference that is free for it, or none
unfoldable pub opened_by_user : Terms → ℕ → ℕ → Wanted → Answer → List ℕ → Opened
opened_by_user terms ssn tag w (Refused cause local) refs = not_opened (Told ssn (tell.NotMade tag (refusal_code cause)) ∷ [])
opened_by_user terms ssn tag w (Local other) refs = not_opened (Told ssn (tell.NotMade tag REFUSAL_UNQUALIFIED) ∷ [])
opened_by_user terms ssn tag w (Forward point rewrite hop) [] = not_opened (Told ssn (tell.NotMade tag REFUSAL_NOT_AVAILABLE) ∷ [])
opened_by_user terms ssn tag w (Forward point rewrite hop) (mine ∷ refs) = opened_out terms ssn tag w point rewrite mine

-- How many free references the answer takes.
unfoldable pub slots_needed : Wish → Option Answer → ℕ
slots_needed (by_cr w) (Some (Local ssn)) = 1
slots_needed (by_cr w) (Some (Forward point rewrite hop)) = if fits w rewrite hop then 2 else 0
slots_needed (by_user ssn tag w) (Some (Forward point rewrite hop)) = 1
slots_needed _ _ = 0

-- The opening. Routing is answered where it was asked; else CR is refused, as one of another class or without a called address.
unfoldable pub opened : Terms → Wish → Option Answer → List ℕ → Opened
opened terms (by_cr w) (Some answer) refs = opened_by_cr terms w answer refs
opened terms (by_cr w) None refs = not_opened (cref_to w REFUSAL_UNQUALIFIED ∷ [])
opened terms (by_user ssn tag w) (Some answer) refs = opened_by_user terms ssn tag w answer refs
opened terms (by_user ssn tag w) None refs = not_opened []
opened terms no_wish answer refs = not_opened []
