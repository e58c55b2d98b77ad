-- What an act of one end of a connection keeps, sends and hands over is in its ranges.
use Rattle.std.proofs.Common.{ℕ, suc, ◌+◌, ◌*◌, ◌==◌, ◌||◌, ◌&&◌, nat_lt, nat_le, not, Bool, true, false, List, [], ◌∷◌, ◌++◌, length, map, take, drop, if◌then◌else◌, Option, Some, None, is_some, arith}
use Rattle.std.specs.Prelude.{unwrap_or, IfSome}
use Rattle.std.specs.List.{AllByRecursion, range_with_len}
use Rattle.relay_base.specs.declared.causes.TheConstants.{ERROR_CLASS_MISMATCH, REFUSAL_UNQUALIFIED, RELEASE_INACTIVITY_EXPIRED, RELEASE_INCONSISTENT_DATA, RELEASE_RESET_EXPIRED, RELEASE_UNQUALIFIED, RESET_INCORRECT_FIRST_NUMBER, RESET_INCORRECT_RECEIVE_NUMBER, RESET_INCORRECT_SEND_NUMBER, RESET_OUT_OF_WINDOW, RESET_REMOTE_PROCEDURE_ERROR}
use Rattle.relay_base.specs.declared.limits.TheConstants.{LONGEST_TEXT}
use Rattle.relay_base.specs.declared.words.Request.{Request}
use Rattle.relay_base.specs.declared.words.Request.TheVariants as request
use Rattle.q713_codec.specs.Names.{Message}
use Rattle.q713_codec.specs.declared.message.Message.TheVariants.{Cc, Cref, Rlsd, Rlc, Dt1, Dt2, Ak, Ed, Ea, Rsr, Rsc, It}
use Rattle.section_flow.specs.declared.unit.Unit.{Unit as DataUnit}
use Rattle.section_flow.specs.Windows.{Windows, is_valid, may_leave, wrong_number}
use Rattle.section_model.specs.declared.limits.TheConstants.{LONGEST_UNIT}
use Rattle.section_model.specs.declared.cell.Cell.{Cell}
use Rattle.section_model.specs.declared.cell.Cell.TheVariants as cell
use Rattle.section_model.specs.declared.hand.Hand.{Hand}
use Rattle.section_model.specs.declared.hand.Hand.TheVariants as hand
use Rattle.section_model.specs.declared.hand.KeptRelease.{KeptRelease}
use Rattle.section_model.specs.Parameters.{Parameters}
use Rattle.section_model.specs.Ends.{SectionHead, Line, User, is_up, only_cause}
use Rattle.section_model.specs.Line.{rlsd, rlc, sent_on, credit_of, agreed_credit, agreed, reached, releases, breaks, confirms, hears_error, hears_test, line_hears, line_fires, line_takes, passes_accept, passes_refuse, passes_end, keeps_end, passes_unit, counts_passed}
use Rattle.section_model.specs.Windowed.{Windowed, sequence, resets, is_next, is_used_up, takes_data, takes_acknowledgement, takes_expedited, sends_expedited, takes_answer, windowed_hears, windowed_fires, queues_unit, passes_expedited, passes_reset, counts_left, windowed_takes, numbered, leaves, acknowledges}
use Rattle.section_model.specs.UserEnd.{given, unit_at, unit_count, handed, accepts, refuses, sends, expedites, disconnects, user_asks, tells_confirm, tells_disconnect, overruns, continues, completes, collects, tells_expedited, tells_reset, user_counts_left, user_takes}
use Rattle.book_law.proofs.Keeping.{Properties, OfHands, OfLine, LineDone, OfWindowed, WindowedDone, UserDone}
use Rattle.printable_law.specs.OctetLaw.{IsOctet, AreOctets, HasOctets}
use Rattle.printable_law.specs.Ranges.{IsPoint, IsReference, IsSelection, RequestInRange, OutputInRange, OutputsInRange}
use Rattle.printable_law.proofs.Lists.{either, all-append, all-take, all-drop}
use Rattle.printable_law.proofs.Spelling.{spelling-octets}

-- What an end hands over, what a section keeps, and what a message brings.

abbrev pub Optional : Option (List ℕ) → Type 0
Optional x = IfSome x AreOctets

abbrev pub HandInRange : Hand → Type 0
HandInRange (hand.Accept class credit called body importance) = IsOctet class × IsOctet credit × Optional called × Optional body × IfSome importance IsOctet
HandInRange (hand.Refuse cause called body importance) = IsOctet cause × Optional called × Optional body × IfSome importance IsOctet
HandInRange (hand.End cause body importance) = IsOctet cause × Optional body × IfSome importance IsOctet
HandInRange (hand.Unit more body) = AreOctets body
HandInRange (hand.Expedited body) = AreOctets body
HandInRange (hand.Reset cause) = IsOctet cause
HandInRange hand.Done = Unit {0}
HandInRange (hand.Left units expedited) = Unit {0}

abbrev pub HeadInRange : SectionHead → Type 0
HeadInRange x = IsPoint x.point × IsReference x.mine × IsSelection x.sls × IsOctet x.class × IsOctet x.credit

abbrev KeptInRange : KeptRelease → Type 0
KeptInRange kept = IsOctet kept.cause × Optional kept.body × IfSome kept.importance IsOctet

abbrev UnitInRange : DataUnit → Type 0
UnitInRange u = AreOctets u.body

abbrev pub WindowsInRange : Windows → Type 0
WindowsInRange w = AllByRecursion UnitInRange w.waits × Optional w.waiting

abbrev pub UserInRange : User → Type 0
UserInRange u = IsOctet u.ssn × IsReference u.mine × IsOctet u.credit × AreOctets u.text

abbrev pub ParametersInRange : Parameters → Type 0
ParametersInRange m = IsOctet m.class × IsOctet m.cause × Optional m.called × Optional m.body × IfSome m.importance IsOctet × AreOctets m.data_octets

abbrev pub ranges : Properties
ranges = record {
  head = HeadInRange;
  kept = KeptInRange;
  windows = WindowsInRange;
  user = UserInRange;
  hand = HandInRange;
  output = OutputInRange;
  point = IsPoint;
  message = ParametersInRange;
  subsystem = IsOctet;
  request = RequestInRange;
}

-- A message on a section, and the credits.

pub message-sent : (x : SectionHead) (m : Message) → HeadInRange x → HasOctets m → OutputInRange (sent_on x m)
message-sent x m head has = (head.0, head.2, spelling-octets m has)

pub credit-small : (class credit most : ℕ) → IsOctet most → IsOctet (agreed_credit class credit most)
credit-small class credit most small = either IsOctet (class == 3) _ 0 (omega (arith, small)) (omega arith)

pub credit_of-small : (class credit : ℕ) → IsOctet credit → IfSome (credit_of class credit) IsOctet
credit_of-small class credit small = either (λ (x : Option ℕ). IfSome x IsOctet) (class == 3) (Some credit) None small tt

flag-small : (more : Bool) → IsOctet (if more then 1 else 0)
flag-small true = omega arith
flag-small false = omega arith

-- The line.

rlsd-sent : (x : SectionHead) (kept : KeptRelease) → HeadInRange x → KeptInRange kept → OutputInRange (rlsd x kept)
rlsd-sent x kept head k = message-sent x (Rlsd x.other x.mine kept.cause kept.body kept.importance) head k

rlc-sent : (x : SectionHead) → HeadInRange x → OutputInRange (rlc x)
rlc-sent x head = message-sent x (Rlc x.other x.mine) head tt

releases-done : (cause : ℕ) (h : Hand) (x : Line) → IsOctet cause → HandInRange h → OfLine ranges x → LineDone ranges (releases cause h x)
releases-done cause h x small handed good = ((good.0, (small, tt, tt)), (tt, (rlsd-sent x.head (only_cause cause) good.0 (small, tt, tt), tt), (handed, tt)))

breaks-done : (cause : ℕ) (x : Line) → IsOctet cause → OfLine ranges x → LineDone ranges (breaks cause x)
breaks-done cause x small good = releases-done cause (hand.End cause None None) x small (small, tt, tt) good

reached-good : (point other : ℕ) (x : Line) → IsPoint point → OfLine ranges x → OfLine ranges (reached point other x)
reached-good point other x p good = ((p, good.0.1, good.0.2, good.0.3, good.0.4), good.1)

confirms-done : (point : ℕ) (m : Parameters) (x : Line) → IsPoint point → ParametersInRange m → OfLine ranges x → LineDone ranges (confirms point m x)
confirms-done point m x p brought good =
    let r = reached-good point m.slr x p good in
    let credit : IsOctet (agreed (reached point m.slr x).head m) = credit-small m.class (unwrap_or m.credit x.head.credit) x.head.credit good.0.4 in
    either (LineDone ranges) ((m.class == 2 || m.class == 3) && nat_le m.class x.head.class) _ _
    (((p, good.0.1, good.0.2, brought.0, credit), good.1), (tt, tt, ((brought.0, credit, brought.2, brought.3, brought.4), tt)))
    (releases-done RELEASE_INCONSISTENT_DATA (hand.Refuse REFUSAL_UNQUALIFIED None None None) (reached point m.slr x) (omega arith) (omega arith, tt, tt, tt) r)

error-done : (m : Parameters) (x : Line) → OfLine ranges x → LineDone ranges (hears_error m x)
error-done m x good =
    either (LineDone ranges) (m.cause == ERROR_CLASS_MISMATCH) _ _ (breaks-done RELEASE_UNQUALIFIED x (omega arith) good) (good, (tt, tt, ((omega arith, tt, tt), tt)))

test-done : (m : Parameters) (x : Line) → OfLine ranges x → LineDone ranges (hears_test m x)
test-done m x good =
    either (LineDone ranges) (m.slr == x.head.other && m.class == x.head.class) _ _ (good, (tt, tt, tt)) (breaks-done RELEASE_INCONSISTENT_DATA x (omega arith) good)

late-done : (point : ℕ) (m : Parameters) (x : Line) → IsPoint point → OfLine ranges x → LineDone ranges (line_hears cell.ConfirmLate point m x)
unfolding line_hears
late-done point m x p good =
    let r = reached-good point m.slr x p good in
    ((r.0, (good.1.0, tt, tt)), (tt, (rlsd-sent (reached point m.slr x).head (only_cause x.kept.cause) r.0 (good.1.0, tt, tt), tt), tt))

pub line-hears : (c : Cell) (point : ℕ) (m : Parameters) (x : Line) → IsPoint point → ParametersInRange m → OfLine ranges x → LineDone ranges (line_hears c point m x)
unfolding line_hears
line-hears cell.Confirm point m x p brought good = confirms-done point m x p brought good
line-hears cell.ConfirmLate point m x p brought good = late-done point m x p good
line-hears cell.Refused point m x p brought good = (good, (tt, tt, ((brought.1, brought.2, brought.3, brought.4), tt)))
line-hears cell.Released point m x p brought good = (good, (tt, (rlc-sent x.head good.0, tt), ((brought.1, brought.3, brought.4), tt)))
line-hears cell.ReleaseCollision point m x p brought good = (good, (tt, (rlc-sent x.head good.0, tt), tt))
line-hears cell.TakeData point m x p brought good = (good, (tt, tt, (brought.5, tt)))
line-hears cell.ErrorReceived point m x p brought good = error-done m x good
line-hears cell.TestReceived point m x p brought good = test-done m x good
line-hears cell.Discard point m x p brought good = (good, (tt, (tt, tt), tt))
line-hears _ point m x p brought good = (good, (tt, tt, tt))

pub line-fires : (c : Cell) (x : Line) → OfLine ranges x → LineDone ranges (line_fires c x)
unfolding line_fires
line-fires cell.NotAnswered x good = (good, (tt, tt, ((omega arith, tt, tt, tt), tt)))
line-fires cell.ResetExpired x good = breaks-done RELEASE_RESET_EXPIRED x (omega arith) good
line-fires cell.PeerSilent x good = breaks-done RELEASE_INACTIVITY_EXPIRED x (omega arith) good
line-fires cell.SendTest x good =
    (good, (tt, (message-sent x.head (It x.head.other x.head.mine x.head.class (0 ∷ 0 ∷ []) x.head.credit) good.0 (good.0.3, (omega arith, (omega arith, tt)), good.0.4), tt), tt))
line-fires cell.ReleaseUnanswered x good = (good, (tt, (rlsd-sent x.head x.kept good.0 good.1, tt), tt))
line-fires cell.RepeatRelease x good = (good, (tt, (rlsd-sent x.head x.kept good.0 good.1, tt), tt))
line-fires _ x good = (good, (tt, tt, tt))

pub line-takes : (c : Cell) (h : Hand) (x : Line) → HandInRange h → OfLine ranges x → LineDone ranges (line_takes c h x)
unfolding line_takes
line-takes cell.PassAccept h x handed good = takes h handed
  where
    takes : (h : Hand) → HandInRange h → LineDone ranges (passes_accept h x)
    takes (hand.Accept class credit called body importance) handed =
        (((good.0.0, good.0.1, good.0.2, handed.0, handed.1), good.1), (tt, (message-sent x.head (Cc x.head.other x.head.mine class (credit_of class credit) called body importance) good.0 (handed.0, credit_of-small class credit handed.1, handed.2, handed.3, handed.4), tt), tt))
    takes _ handed = (good, (tt, tt, tt))
line-takes cell.PassRefuse h x handed good = takes h handed
  where
    takes : (h : Hand) → HandInRange h → LineDone ranges (passes_refuse h x)
    takes (hand.Refuse cause called body importance) handed = (good, (tt, (message-sent x.head (Cref x.head.other cause called body importance) good.0 handed, tt), tt))
    takes _ handed = (good, (tt, tt, tt))
line-takes cell.PassEnd h x handed good = takes h handed
  where
    takes : (h : Hand) → HandInRange h → LineDone ranges (passes_end h x)
    takes (hand.End cause body importance) handed =
        ((good.0, handed), (tt, (rlsd-sent x.head (record { cause = cause; body = body; importance = importance }) good.0 handed, tt), tt))
    takes _ handed = (good, (tt, tt, tt))
line-takes cell.KeepEnd h x handed good = takes h handed
  where
    takes : (h : Hand) → HandInRange h → LineDone ranges (keeps_end h x)
    takes (hand.End cause body importance) handed = ((good.0, (handed.0, tt, tt)), (tt, tt, tt))
    takes _ handed = (good, (tt, tt, tt))
line-takes cell.PassUnit h x handed good = takes h handed
  where
    takes : (h : Hand) → HandInRange h → LineDone ranges (passes_unit h x)
    takes (hand.Unit more body) handed =
        (good, (tt, (message-sent x.head (Dt1 x.head.other (if more then 1 else 0) body) good.0 (flag-small more, handed), tt), (tt, tt)))
    takes _ handed = (good, (tt, tt, tt))
line-takes cell.Left h x handed good = takes h
  where
    takes : (h : Hand) → LineDone ranges (counts_passed h x)
    takes (hand.Left units expedited) = (good, (tt, tt, tt))
    takes _ = (good, (tt, tt, tt))
line-takes _ h x handed good = (good, (tt, tt, tt))

-- The windows.

resets-done : (cause : ℕ) (x : Windowed) → IsOctet cause → OfWindowed ranges x → WindowedDone ranges (resets cause x)
resets-done cause x small good = ((good.0, (tt, tt)), (tt, (message-sent x.head (Rsr x.head.other x.head.mine cause) good.0 small, tt), (small, tt)))

wrong-small : (w : Windows) → IsOctet (wrong_number w)
wrong-small w = either IsOctet (length w.got == 0) RESET_INCORRECT_FIRST_NUMBER RESET_INCORRECT_SEND_NUMBER (omega arith) (omega arith)

data-done : (m : Parameters) (x : Windowed) → ParametersInRange m → OfWindowed ranges x → WindowedDone ranges (takes_data m x)
data-done m x brought good =
    either (WindowedDone ranges) (not (is_next m x)) _ _ (resets-done (wrong_number x.windows) x (wrong-small x.windows) good)
    (either (WindowedDone ranges) (is_used_up x) _ _ (resets-done RESET_OUT_OF_WINDOW x (omega arith) good)
    (either (WindowedDone ranges) (not (is_valid m.pr x.windows)) _ _ (resets-done RESET_INCORRECT_RECEIVE_NUMBER x (omega arith) good) (good, (tt, tt, (brought.5, tt)))))

acknowledgement-done : (m : Parameters) (x : Windowed) → OfWindowed ranges x → WindowedDone ranges (takes_acknowledgement m x)
acknowledgement-done m x good =
    either (WindowedDone ranges) (is_valid m.pr x.windows) _ _ (good, (tt, tt, tt)) (resets-done RESET_INCORRECT_RECEIVE_NUMBER x (omega arith) good)

expedited-done : (m : Parameters) (x : Windowed) → ParametersInRange m → OfWindowed ranges x → WindowedDone ranges (takes_expedited m x)
expedited-done m x brought good =
    either (WindowedDone ranges) x.windows.owed _ _ (resets-done RESET_REMOTE_PROCEDURE_ERROR x (omega arith) good) (good, (tt, tt, (brought.5, tt)))

sends-done : (waiting : Option (List ℕ)) (x : Windowed) → Optional waiting → OfWindowed ranges x → WindowedDone ranges (sends_expedited waiting x)
sends-done None x are good = (good, (tt, tt, tt))
sends-done (Some body) x are good = ((good.0, (good.1.0, tt)), (tt, (message-sent x.head (Ed x.head.other body) good.0 are, tt), (tt, tt)))

answer-done : (x : Windowed) → OfWindowed ranges x → WindowedDone ranges (takes_answer x)
answer-done x good =
    either (WindowedDone ranges) x.windows.unanswered _ _
    (sends-done x.windows.waiting (record x { windows = record x.windows { unanswered = false } }) good.1.1 good) (good, (tt, (tt, tt), tt))

pub windows-hear : (c : Cell) (m : Parameters) (x : Windowed) → ParametersInRange m → OfWindowed ranges x → WindowedDone ranges (windowed_hears c m x)
unfolding windowed_hears
windows-hear cell.TakeNumberedData m x brought good = data-done m x brought good
windows-hear cell.TakeAcknowledgement m x brought good = acknowledgement-done m x good
windows-hear cell.TakeExpedited m x brought good = expedited-done m x brought good
windows-hear cell.TakeExpeditedAcknowledgement m x brought good = answer-done x good
windows-hear cell.ResetByPeer m x brought good = ((good.0, (tt, tt)), (tt, (message-sent x.head (Rsc x.head.other x.head.mine) good.0 tt, tt), (brought.1, tt)))
windows-hear cell.ResetComplete m x brought good = (good, (tt, tt, (tt, tt)))
windows-hear _ m x brought good = (good, (tt, tt, tt))

pub windows-fire : (x : Windowed) → OfWindowed ranges x → WindowedDone ranges (windowed_fires x)
unfolding windowed_fires
windows-fire x good =
    let test = It x.head.other x.head.mine x.head.class (sequence x.windows.sent ∷ sequence x.windows.passed ∷ []) x.head.credit in
    (good, (tt, (message-sent x.head test good.0 (good.0.3, (omega arith, (omega arith, tt)), good.0.4), tt), tt))

pub windows-take : (c : Cell) (h : Hand) (x : Windowed) → HandInRange h → OfWindowed ranges x → WindowedDone ranges (windowed_takes c h x)
unfolding windowed_takes
windows-take cell.PassUnit h x handed good = takes h handed
  where
    takes : (h : Hand) → HandInRange h → WindowedDone ranges (queues_unit h x)
    takes (hand.Unit more body) handed =
        ((good.0, (all-append UnitInRange x.windows.waits (record { more = more; body = body } ∷ []) good.1.0 (handed, tt), good.1.1)), (tt, tt, tt))
    takes _ handed = (good, (tt, tt, tt))
windows-take cell.PassExpedited h x handed good = takes h handed
  where
    takes : (h : Hand) → HandInRange h → WindowedDone ranges (passes_expedited h x)
    takes (hand.Expedited body) handed =
        either (WindowedDone ranges) (is_up x.head.state && not x.windows.unanswered) _ _ (sends-done (Some body) x handed good) ((good.0, (good.1.0, handed)), (tt, tt, tt))
    takes _ handed = (good, (tt, tt, tt))
windows-take cell.PassReset h x handed good = takes h handed
  where
    takes : (h : Hand) → HandInRange h → WindowedDone ranges (passes_reset h x)
    takes (hand.Reset cause) handed = ((good.0, (tt, tt)), (tt, (message-sent x.head (Rsr x.head.other x.head.mine cause) good.0 handed, tt), tt))
    takes _ handed = (good, (tt, tt, tt))
windows-take cell.ClearCounts h x handed good = ((good.0, (tt, tt)), (tt, tt, tt))
windows-take cell.Left h x handed good = takes h
  where
    takes : (h : Hand) → WindowedDone ranges (counts_left h x)
    takes (hand.Left units true) = (good, (tt, (message-sent x.head (Ea x.head.other) good.0 tt, tt), tt))
    takes (hand.Left units false) = (good, (tt, tt, tt))
    takes _ = (good, (tt, tt, tt))
windows-take _ h x handed good = (good, (tt, tt, tt))

-- What follows each event.

second-number : (pr : ℕ) (more : Bool) → IsOctet (sequence pr + (if more then 1 else 0))
second-number pr true = omega arith
second-number pr false = omega arith

numbered-sent : (x : SectionHead) (ps pr : ℕ) (units : List DataUnit) → HeadInRange x → AllByRecursion UnitInRange units → OutputsInRange (numbered x ps pr units)
numbered-sent x ps pr [] head units = tt
numbered-sent x ps pr (u ∷ more) head units = (
  message-sent x (Dt2 x.other (sequence ps ∷ (sequence pr + (if u.more then 1 else 0)) ∷ []) u.body) head ((omega arith, (second-number pr u.more, tt)), units.0),
  numbered-sent x (suc ps) pr more head units.1,
)

waiting-octets : (waiting : Option (List ℕ)) → Optional waiting → AreOctets (unwrap_or waiting [])
waiting-octets None are = tt
waiting-octets (Some body) are = are

pub leaves-done : (x : Windowed) → OfWindowed ranges x → WindowedDone ranges (leaves x)
unfolding leaves
leaves-done x good =
    let count = may_leave x.windows in
    let expedited = is_some x.windows.waiting && not x.windows.unanswered in (
      (good.0, (all-drop UnitInRange count x.windows.waits good.1.0, either Optional expedited None x.windows.waiting tt good.1.1)),
      (
        tt,
        all-append OutputInRange (numbered x.head x.windows.sent x.windows.passed (take count x.windows.waits)) _
            (numbered-sent x.head x.windows.sent x.windows.passed (take count x.windows.waits) good.0 (all-take UnitInRange count x.windows.waits good.1.0))
            (either OutputsInRange expedited (sent_on x.head (Ed x.head.other (unwrap_or x.windows.waiting [])) ∷ []) []
            (message-sent x.head (Ed x.head.other (unwrap_or x.windows.waiting [])) good.0 (waiting-octets x.windows.waiting good.1.1), tt) tt),
        either (OfHands ranges) (expedited || nat_lt 0 count) (hand.Left count expedited ∷ []) [] (tt, tt) tt,
      ),
    )

pub acknowledges-done : (x : Windowed) → OfWindowed ranges x → WindowedDone ranges (acknowledges x)
unfolding acknowledges
acknowledges-done x good =
    either (WindowedDone ranges) (x.windows.passed == x.windows.told) _ _ (good, (tt, tt, tt))
    (good, (tt, (message-sent x.head (Ak x.head.other (sequence x.windows.passed) x.head.credit) good.0 (omega arith, good.0.4), tt), tt))

-- A user's end.

pub given-octets : (body : List ℕ) → AreOctets body → Optional (given body)
given-octets [] are = tt
given-octets (b ∷ body) are = are

units-octets : (body : List ℕ) (places : List ℕ) → AreOctets body → OfHands ranges (map handed (map (λ k. unit_at body k) places))
units-octets body [] are = tt
units-octets body (k ∷ places) are =
    (all-take IsOctet LONGEST_UNIT (drop (LONGEST_UNIT * k) body) (all-drop IsOctet (LONGEST_UNIT * k) body are), units-octets body places are)

pub user-asks : (c : Cell) (r : Request) (u : User) → RequestInRange r → UserInRange u → UserDone ranges (user_asks c r u)
unfolding user_asks
user-asks cell.UserAccepts r u asked good = asks r asked
  where
    asks : (r : Request) → RequestInRange r → UserDone ranges (accepts r u)
    asks (request.Accept mine class credit body) asked =
        let agreed : IsOctet (agreed_credit class credit u.credit) = credit-small class credit u.credit good.2 in
        ((good.0, good.1, agreed, good.3), (tt, tt, ((asked.1, agreed, tt, given-octets body asked.3, tt), tt)))
    asks _ asked = (good, (tt, tt, tt))
user-asks cell.UserRefuses r u asked good = asks r asked
  where
    asks : (r : Request) → RequestInRange r → UserDone ranges (refuses r u)
    asks (request.Refuse mine cause body) asked = (good, (tt, tt, ((asked.1, tt, given-octets body asked.2, tt), tt)))
    asks _ asked = (good, (tt, tt, tt))
user-asks cell.UserSends r u asked good = asks r asked
  where
    asks : (r : Request) → RequestInRange r → UserDone ranges (sends r u)
    asks (request.Send mine body) asked = (good, (tt, tt, units-octets body (range_with_len 0 (unit_count body)) asked.1))
    asks _ asked = (good, (tt, tt, tt))
user-asks cell.UserExpedites r u asked good = asks r asked
  where
    asks : (r : Request) → RequestInRange r → UserDone ranges (expedites r u)
    asks (request.Expedite mine body) asked = (good, (tt, tt, (asked.1, tt)))
    asks _ asked = (good, (tt, tt, tt))
user-asks cell.UserResets r u asked good = ((good.0, good.1, good.2, tt), (tt, tt, (omega arith, tt)))
user-asks cell.UserDisconnects r u asked good = asks r asked
  where
    asks : (r : Request) → RequestInRange r → UserDone ranges (disconnects r u)
    asks (request.Disc mine cause body) asked = (good, (tt, tt, ((asked.1, given-octets body asked.2, tt), tt)))
    asks _ asked = (good, (tt, tt, tt))
user-asks _ r u asked good = (good, (tt, tt, tt))

pub user-takes : (c : Cell) (h : Hand) (u : User) → HandInRange h → UserInRange u → UserDone ranges (user_takes c h u)
unfolding user_takes
user-takes cell.TellConfirm h u handed good = takes h handed
  where
    takes : (h : Hand) → HandInRange h → UserDone ranges (tells_confirm h u)
    takes (hand.Accept class credit called body importance) handed =
        ((good.0, good.1, handed.1, good.3), (tt, ((good.0, (good.1, handed.0, handed.1, handed.2, handed.3)), tt), tt))
    takes _ handed = (good, (tt, tt, tt))
user-takes cell.TellDisconnect h u handed good = takes h handed
  where
    takes : (h : Hand) → HandInRange h → UserDone ranges (tells_disconnect h u)
    takes (hand.Refuse cause called body importance) handed = (good, (tt, ((good.0, (good.1, handed.0, handed.2)), tt), tt))
    takes (hand.End cause body importance) handed = (good, (tt, ((good.0, (good.1, handed.0, handed.1)), tt), tt))
    takes _ handed = (good, (tt, tt, tt))
user-takes cell.TellUnit h u handed good = takes h handed
  where
    takes : (h : Hand) → HandInRange h → UserDone ranges (collects h u)
    takes (hand.Unit more body) handed =
        let text : AreOctets (u.text ++ body) = all-append IsOctet u.text body good.3 handed in
        either (UserDone ranges) (nat_lt LONGEST_TEXT (length (u.text ++ body))) (overruns u) (if more then continues body u else completes body u)
        (good, (((omega arith, tt, tt), tt), ((good.0, (good.1, omega arith, tt)), tt), tt))
        (either (UserDone ranges) more (continues body u) (completes body u)
        ((good.0, good.1, good.2, text), (tt, tt, (tt, tt))) ((good.0, good.1, good.2, tt), (tt, ((good.0, (good.1, text)), tt), (tt, tt))))
    takes _ handed = (good, (tt, tt, tt))
user-takes cell.TellExpedited h u handed good = takes h handed
  where
    takes : (h : Hand) → HandInRange h → UserDone ranges (tells_expedited h u)
    takes (hand.Expedited body) handed = (good, (tt, ((good.0, (good.1, handed)), tt), (tt, tt)))
    takes _ handed = (good, (tt, tt, tt))
user-takes cell.TellReset h u handed good = takes h handed
  where
    takes : (h : Hand) → HandInRange h → UserDone ranges (tells_reset h u)
    takes (hand.Reset cause) handed = ((good.0, good.1, good.2, tt), (tt, ((good.0, (good.1, handed)), tt), tt))
    takes _ handed = (good, (tt, tt, tt))
user-takes cell.TellResetDone h u handed good = (good, (tt, ((good.0, good.1), tt), tt))
user-takes cell.Left h u handed good = takes h
  where
    takes : (h : Hand) → UserDone ranges (user_counts_left h u)
    takes (hand.Left units expedited) = (good, (tt, tt, tt))
    takes _ = (good, (tt, tt, tt))
user-takes _ h u handed good = (good, (tt, tt, tt))
