-- What a connection section does in class 3 alone: numbered data and its windows (Q.714, 3.5.2), expedited data (3.6), and the reset (3.7).
use Rattle.std.specs.Prelude.{ℕ, suc, ◌+◌, ◌-◌, ◌*◌, ◌%◌, ◌≤◌, ◌==◌, ◌||◌, ◌&&◌, nat_lt, not, Bool, true, false, List, [], ◌∷◌, ◌++◌, length, take, drop, if◌then◌else◌, Option, Some, None, unwrap_or, is_some, min}
use Rattle.relay_base.specs.declared.causes.TheConstants.{RESET_INCORRECT_RECEIVE_NUMBER, RESET_OUT_OF_WINDOW, RESET_REMOTE_PROCEDURE_ERROR}
use Rattle.relay_base.specs.declared.words.Output.TheVariants.{Lost as Dropped}
use Rattle.relay_base.specs.declared.words.Lost.TheVariants as lost
use Rattle.section_model.specs.declared.hand.Hand.TheVariants as hand
use Rattle.section_model.specs.declared.cell.Cell.{Cell}
use Rattle.section_model.specs.declared.cell.Cell.TheVariants as cell
use Rattle.relay_base.specs.declared.limits.TheConstants.{GREATEST_CREDIT}
use Rattle.section_flow.specs.declared.limits.TheConstants.{SEQUENCE_NUMBERS}
use Rattle.section_model.specs.declared.cell.SectionState.TheVariants.{Up, Resetting}
use Rattle.q713_codec.specs.declared.message.Message.TheVariants.{Dt2, Ak, Ed, Ea, Rsr, Rsc, It}
use Rattle.section_model.specs.Parameters.{Parameters}
use Rattle.section_flow.specs.declared.unit.Unit.{Unit as DataUnit}
use Rattle.section_model.specs.declared.hand.Acted.{Acted}
use Rattle.section_model.specs.declared.hand.Hand.{Hand}
use Rattle.relay_base.specs.declared.words.Output.{Output}
use Rattle.section_model.specs.Ends.{SectionHead, no_effect, gives, gives_then, cleared, is_up}
use Rattle.section_flow.specs.Windows.{Windows, is_valid, acknowledged, may_leave, wrong_number}
use Rattle.section_model.specs.Line.{sent_on}

-- A section with its counts.
pub record Windowed : Type 0 where
  pub head : SectionHead
  pub windows : Windows

-- a count as the messages of class 3 carry it, from bit 2 on (Q.713, 3.8 and 3.9)
abbrev pub sequence : ℕ → ℕ
sequence n = 2 * (n % SEQUENCE_NUMBERS)

-- RSR with a cause here (Q.714, 3.7), the counts of both ends cleared, and the reset for the other end.
abbrev pub resets : ℕ → Windowed → Windowed × Acted
resets cause x = (
  record { head = record x.head { state = Resetting }; windows = cleared x.head.credit },
  gives_then (sent_on x.head (Rsr x.head.other x.head.mine cause) ∷ []) (hand.Reset cause ∷ []),
)

-- DT2 (Q.714, 3.5.2): it carries the next number, the window is not used up, and its P(R) is valid.
abbrev pub is_next : Parameters → Windowed → Bool
is_next m x = m.ps == length x.windows.got % SEQUENCE_NUMBERS

abbrev pub is_used_up : Windowed → Bool
is_used_up x = length x.windows.got - x.windows.told == x.head.credit

abbrev pub accepts_unit : Parameters → Windowed → Windowed × Acted
accepts_unit m x = (
  record x { windows = record (acknowledged m.pr x.windows) { got = x.windows.got ++ record { more = m.more; body = m.data_octets } ∷ [] } },
  gives_then [] (hand.Unit m.more m.data_octets ∷ []),
)

abbrev pub takes_data : Parameters → Windowed → Windowed × Acted
takes_data m x =
    if not (is_next m x) then resets (wrong_number x.windows) x
    else if is_used_up x then resets RESET_OUT_OF_WINDOW x
    else if not (is_valid m.pr x.windows) then resets RESET_INCORRECT_RECEIVE_NUMBER x
    else accepts_unit m x

-- AK (Q.714, 3.5.2): its P(R) is taken, and its credit.
abbrev pub takes_acknowledgement : Parameters → Windowed → Windowed × Acted
takes_acknowledgement m x =
    if is_valid m.pr x.windows
    then (record x { windows = record (acknowledged m.pr x.windows) { credit = min (unwrap_or m.credit 0) GREATEST_CREDIT } }, no_effect)
    else resets RESET_INCORRECT_RECEIVE_NUMBER x

-- ED (Q.714, 3.6): one whose EA is owed yet is an error.
abbrev pub takes_expedited : Parameters → Windowed → Windowed × Acted
takes_expedited m x =
    if x.windows.owed then resets RESET_REMOTE_PROCEDURE_ERROR x
    else (record x { windows = record x.windows { owed = true } }, gives_then [] (hand.Expedited m.data_octets ∷ []))

-- Expedited data leaves, and its EA is awaited (Q.714, 3.6).
abbrev pub sends_expedited : Option (List ℕ) → Windowed → Windowed × Acted
sends_expedited None x = (x, no_effect)
sends_expedited (Some body) x = (
  record x { windows = record x.windows { waiting = None; unanswered = true } },
  gives_then (sent_on x.head (Ed x.head.other body) ∷ []) (hand.Left 0 true ∷ []),
)

-- EA (Q.714, 3.6): expedited data that waits leaves.
abbrev pub takes_answer : Windowed → Windowed × Acted
takes_answer x =
    if x.windows.unanswered then sends_expedited x.windows.waiting (record x { windows = record x.windows { unanswered = false } })
    else (x, gives (Dropped lost.State ∷ []))

-- A message.
unfoldable pub windowed_hears : Cell → Parameters → Windowed → Windowed × Acted
windowed_hears cell.TakeNumberedData m x = takes_data m x
windowed_hears cell.TakeAcknowledgement m x = takes_acknowledgement m x
windowed_hears cell.TakeExpedited m x = takes_expedited m x
windowed_hears cell.TakeExpeditedAcknowledgement m x = takes_answer x
windowed_hears cell.ResetByPeer m x =
    (record x { windows = cleared x.head.credit }, gives_then (sent_on x.head (Rsc x.head.other x.head.mine) ∷ []) (hand.Reset m.cause ∷ []))
windowed_hears cell.ResetComplete m x = (record x { head = record x.head { state = Up } }, gives_then [] (hand.Done ∷ []))
windowed_hears _ m x = (x, no_effect)

-- T(ias) fires (Q.714, 3.4).
unfoldable pub windowed_fires : Windowed → Windowed × Acted
windowed_fires x =
    (x, gives (sent_on x.head (It x.head.other x.head.mine x.head.class (sequence x.windows.sent ∷ sequence x.windows.passed ∷ []) x.head.credit) ∷ []))

abbrev pub queues_unit : Hand → Windowed → Windowed × Acted
queues_unit (hand.Unit more body) x = (record x { windows = record x.windows { waits = x.windows.waits ++ record { more = more; body = body } ∷ [] } }, no_effect)
queues_unit _ x = (x, no_effect)

abbrev pub passes_expedited : Hand → Windowed → Windowed × Acted
passes_expedited (hand.Expedited body) x =
    if is_up x.head.state && not x.windows.unanswered then sends_expedited (Some body) x
    else (record x { windows = record x.windows { waiting = Some body } }, no_effect)
passes_expedited _ x = (x, no_effect)

abbrev pub passes_reset : Hand → Windowed → Windowed × Acted
passes_reset (hand.Reset cause) x = (
  record { head = record x.head { state = Resetting }; windows = cleared x.head.credit },
  gives (sent_on x.head (Rsr x.head.other x.head.mine cause) ∷ []),
)
passes_reset _ x = (x, no_effect)

-- What an effect says to have left had come in here, and had not left before.
abbrev pub HasCome : Hand → Windows → Type 0
HasCome (hand.Left units expedited) w = units ≤ length w.got - w.passed
HasCome _ w = Unit {0}

-- So many of the units that came in here left on the other end; EA is sent where the expedited data did.
abbrev pub counts_left : Hand → Windowed → Windowed × Acted
counts_left (hand.Left units false) x = (record x { windows = record x.windows { passed = x.windows.passed + units } }, no_effect)
counts_left (hand.Left units true) x = (
  record x { windows = record x.windows { passed = x.windows.passed + units; owed = false } },
  gives (sent_on x.head (Ea x.head.other) ∷ []),
)
counts_left _ x = (x, no_effect)

-- An effect of the other end.
unfoldable pub windowed_takes : Cell → Hand → Windowed → Windowed × Acted
windowed_takes cell.PassUnit h x = queues_unit h x
windowed_takes cell.PassExpedited h x = passes_expedited h x
windowed_takes cell.PassReset h x = passes_reset h x
windowed_takes cell.ClearCounts h x = (record x { windows = cleared x.head.credit }, no_effect)
windowed_takes cell.Left h x = counts_left h x
windowed_takes _ h x = (x, no_effect)

-- The units as DT2 with P(S) from a count on.
abbrev pub numbered : SectionHead → ℕ → ℕ → List DataUnit → List Output
numbered x ps pr [] = []
numbered x ps pr (u ∷ units) =
    sent_on x (Dt2 x.other (sequence ps ∷ (sequence pr + (if u.more then 1 else 0)) ∷ []) u.body) ∷ numbered x (suc ps) pr units

-- After each event, on a section that is up: units leave as far as the window goes (Q.714, 3.5.2), and then expedited data (3.6).
unfoldable pub leaves : Windowed → Windowed × Acted
leaves x =
    let w = x.windows in
    let count = may_leave w in
    let is_expedited = is_some w.waiting && not w.unanswered in (
      record x {
        windows = record w {
          waits = drop count w.waits;
          sent = w.sent + count;
          told = (if count == 0 then w.told else w.passed);
          waiting = (if is_expedited then None else w.waiting);
          unanswered = w.unanswered || is_expedited;
        };
      },
      gives_then
          (numbered x.head w.sent w.passed (take count w.waits) ++ (if is_expedited then sent_on x.head (Ed x.head.other (unwrap_or w.waiting [])) ∷ [] else []))
          (if is_expedited || nat_lt 0 count then hand.Left count is_expedited ∷ [] else []),
    )

-- And then what left on the other end is acknowledged.
unfoldable pub acknowledges : Windowed → Windowed × Acted
acknowledges x =
    let w = x.windows in
    if w.passed == w.told then (x, no_effect)
    else (record x { windows = record w { told = w.passed } }, gives (sent_on x.head (Ak x.head.other (sequence w.passed) x.head.credit) ∷ []))
