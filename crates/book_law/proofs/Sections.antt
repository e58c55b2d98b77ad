-- What an act of one end of a connection keeps, sends and hands over is short.
use Rattle.std.proofs.Common.{ℕ, suc, ◌+◌, ◌*◌, ◌==◌, ◌||◌, ◌&&◌, nat_lt, nat_le, not, true, false, List, [], ◌∷◌, ◌++◌, length, map, take, drop, if◌then◌else◌, Option, Some, None, is_some, arith, length-take}
use Rattle.std.specs.Prelude.{unwrap_or}
use Rattle.std.specs.List.{AllByRecursion, range_with_len}
use Rattle.relay_base.specs.declared.causes.TheConstants.{ERROR_CLASS_MISMATCH, REFUSAL_UNQUALIFIED, RELEASE_INACTIVITY_EXPIRED, RELEASE_INCONSISTENT_DATA, RELEASE_RESET_EXPIRED, RELEASE_UNQUALIFIED, RESET_INCORRECT_RECEIVE_NUMBER, RESET_OUT_OF_WINDOW, RESET_REMOTE_PROCEDURE_ERROR}
use Rattle.relay_base.specs.declared.limits.TheConstants.{LONGEST_TEXT}
use Rattle.relay_base.specs.declared.words.Request.{Request}
use Rattle.relay_base.specs.declared.words.Request.TheVariants as request
use Rattle.q713_codec.specs.declared.message.Message.TheVariants.{Cc, Cref, Rlsd, Rlc, Dt1, Dt2, Ak, Ed, Ea, Rsr, Rsc, It}
use Rattle.section_flow.specs.declared.unit.Unit.{Unit as DataUnit}
use Rattle.section_flow.specs.Windows.{Windows, is_valid, may_leave, wrong_number}
use Rattle.section_model.specs.declared.limits.TheConstants.{LONGEST_UNIT}
use Rattle.section_model.specs.declared.cell.Cell.{Cell}
use Rattle.section_model.specs.declared.cell.Cell.TheVariants as cell
use Rattle.section_model.specs.declared.hand.Acted.{Acted}
use Rattle.section_model.specs.declared.hand.Hand.{Hand}
use Rattle.section_model.specs.declared.hand.Hand.TheVariants as hand
use Rattle.section_model.specs.declared.hand.KeptRelease.{KeptRelease}
use Rattle.section_model.specs.Parameters.{Parameters}
use Rattle.section_model.specs.Ends.{SectionHead, Line, User, is_up, only_cause}
use Rattle.section_model.specs.Line.{rlsd, rlc, sent_on, credit_of, reached, releases, breaks, confirms, hears_error, hears_test, line_hears, line_fires, line_takes, passes_accept, passes_refuse, passes_end, keeps_end, passes_unit, counts_passed}
use Rattle.section_model.specs.Windowed.{Windowed, sequence, resets, is_next, is_used_up, takes_data, takes_acknowledgement, takes_expedited, sends_expedited, takes_answer, windowed_hears, windowed_fires, queues_unit, passes_expedited, passes_reset, counts_left, windowed_takes, numbered, leaves, acknowledges}
use Rattle.section_model.specs.UserEnd.{given, unit_at, unit_count, handed, accepts, refuses, sends, expedites, disconnects, user_asks, tells_confirm, tells_disconnect, overruns, continues, completes, collects, tells_expedited, tells_reset, user_counts_left, user_takes}
use Rattle.book_law.specs.LengthLaw.{IsCarried, AreCarried}
use Rattle.book_law.proofs.Keeping.{Properties, OfHands, OfActed, OfLine, LineDone, OfWindowed, WindowedDone}
use Rattle.book_law.proofs.Outputs.{either, all-append, all-take, all-drop}
use Rattle.book_law.proofs.Spelling.{IsShort, IsShortOption, spelled}

-- What an end hands over, what a section keeps, and what a message brings.

abbrev pub HandShort : Hand → Type 0
HandShort (hand.Accept class credit called body importance) = IsShortOption called × IsShortOption body
HandShort (hand.Refuse cause called body importance) = IsShortOption called × IsShortOption body
HandShort (hand.End cause body importance) = IsShortOption body
HandShort (hand.Unit more body) = IsShort body
HandShort (hand.Expedited body) = IsShort body
HandShort (hand.Reset cause) = Unit {0}
HandShort hand.Done = Unit {0}
HandShort (hand.Left units expedited) = Unit {0}

abbrev UnitShort : DataUnit → Type 0
UnitShort u = IsShort u.body

abbrev pub WindowsShort : Windows → Type 0
WindowsShort w = AllByRecursion UnitShort w.waits × IsShortOption w.waiting

abbrev pub ParametersShort : Parameters → Type 0
ParametersShort m = IsShortOption m.called × IsShortOption m.body × IsShort m.data_octets

-- what a request hands over
abbrev pub RequestShort : Request → Type 0
RequestShort (request.Accept mine class credit body) = IsShort body
RequestShort (request.Refuse mine cause body) = IsShort body
RequestShort (request.Expedite mine body) = IsShort body
RequestShort (request.Disc mine cause body) = IsShort body
RequestShort _ = Unit {0}

-- nothing is said of the head of a section, nor of a user's end
abbrev pub lengths : Properties
lengths = record {
  head = λ x. Unit {0};
  kept = λ kept. IsShortOption kept.body;
  windows = WindowsShort;
  user = λ u. Unit {0};
  hand = HandShort;
  output = IsCarried;
  point = λ n. Unit {0};
  message = ParametersShort;
  subsystem = λ n. Unit {0};
  request = RequestShort;
}

-- The line.

rlsd-carried : (x : SectionHead) (kept : KeptRelease) → IsShortOption kept.body → IsCarried (rlsd x kept)
rlsd-carried x kept short = spelled (Rlsd x.other x.mine kept.cause kept.body kept.importance) short

rlc-carried : (x : SectionHead) → IsCarried (rlc x)
rlc-carried x = spelled (Rlc x.other x.mine) tt

releases-done : (cause : ℕ) (h : Hand) (x : Line) → HandShort h → LineDone lengths (releases cause h x)
releases-done cause h x short = ((tt, tt), (tt, (rlsd-carried x.head (only_cause cause) tt, tt), (short, tt)))

breaks-done : (cause : ℕ) (x : Line) → LineDone lengths (breaks cause x)
breaks-done cause x = releases-done cause (hand.End cause None None) x tt

confirms-done : (point : ℕ) (m : Parameters) (x : Line) → ParametersShort m → OfLine lengths x → LineDone lengths (confirms point m x)
confirms-done point m x short kept =
    either (LineDone lengths) ((m.class == 2 || m.class == 3) && nat_le m.class x.head.class) _ _
    (kept, (tt, tt, ((short.0, short.1), tt)))
    (releases-done RELEASE_INCONSISTENT_DATA (hand.Refuse REFUSAL_UNQUALIFIED None None None) (reached point m.slr x) (tt, tt))

error-done : (m : Parameters) (x : Line) → OfLine lengths x → LineDone lengths (hears_error m x)
error-done m x kept = either (LineDone lengths) (m.cause == ERROR_CLASS_MISMATCH) _ _ (breaks-done RELEASE_UNQUALIFIED x) (kept, (tt, tt, (tt, tt)))

test-done : (m : Parameters) (x : Line) → OfLine lengths x → LineDone lengths (hears_test m x)
test-done m x kept = either (LineDone lengths) (m.slr == x.head.other && m.class == x.head.class) _ _ (kept, (tt, tt, tt)) (breaks-done RELEASE_INCONSISTENT_DATA x)

pub line-hears : (c : Cell) (point : ℕ) (m : Parameters) (x : Line) → ParametersShort m → OfLine lengths x → LineDone lengths (line_hears c point m x)
unfolding line_hears
line-hears cell.Confirm point m x short kept = confirms-done point m x short kept
line-hears cell.ConfirmLate point m x short kept = ((tt, tt), (tt, (rlsd-carried (reached point m.slr x).head (only_cause x.kept.cause) tt, tt), tt))
line-hears cell.Refused point m x short kept = (kept, (tt, tt, ((short.0, short.1), tt)))
line-hears cell.Released point m x short kept = (kept, (tt, (rlc-carried x.head, tt), (short.1, tt)))
line-hears cell.ReleaseCollision point m x short kept = (kept, (tt, (rlc-carried x.head, tt), tt))
line-hears cell.TakeData point m x short kept = (kept, (tt, tt, (short.2, tt)))
line-hears cell.ErrorReceived point m x short kept = error-done m x kept
line-hears cell.TestReceived point m x short kept = test-done m x kept
line-hears cell.Discard point m x short kept = (kept, (tt, (tt, tt), tt))
line-hears _ point m x short kept = (kept, (tt, tt, tt))

pub line-fires : (c : Cell) (x : Line) → OfLine lengths x → LineDone lengths (line_fires c x)
unfolding line_fires
line-fires cell.NotAnswered x kept = (kept, (tt, tt, ((tt, tt), tt)))
line-fires cell.ResetExpired x kept = breaks-done RELEASE_RESET_EXPIRED x
line-fires cell.PeerSilent x kept = breaks-done RELEASE_INACTIVITY_EXPIRED x
line-fires cell.SendTest x kept = (kept, (tt, (spelled (It x.head.other x.head.mine x.head.class (0 ∷ 0 ∷ []) x.head.credit) (omega arith), tt), tt))
line-fires cell.ReleaseUnanswered x kept = (kept, (tt, (rlsd-carried x.head x.kept kept.1, tt), tt))
line-fires cell.RepeatRelease x kept = (kept, (tt, (rlsd-carried x.head x.kept kept.1, tt), tt))
line-fires _ x kept = (kept, (tt, tt, tt))

pub line-takes : (c : Cell) (h : Hand) (x : Line) → HandShort h → OfLine lengths x → LineDone lengths (line_takes c h x)
unfolding line_takes
line-takes cell.PassAccept h x short kept = takes h short
  where
    takes : (h : Hand) → HandShort h → LineDone lengths (passes_accept h x)
    takes (hand.Accept class credit called body importance) short =
        (kept, (tt, (spelled (Cc x.head.other x.head.mine class (credit_of class credit) called body importance) short, tt), tt))
    takes _ short = (kept, (tt, tt, tt))
line-takes cell.PassRefuse h x short kept = takes h short
  where
    takes : (h : Hand) → HandShort h → LineDone lengths (passes_refuse h x)
    takes (hand.Refuse cause called body importance) short = (kept, (tt, (spelled (Cref x.head.other cause called body importance) short, tt), tt))
    takes _ short = (kept, (tt, tt, tt))
line-takes cell.PassEnd h x short kept = takes h short
  where
    takes : (h : Hand) → HandShort h → LineDone lengths (passes_end h x)
    takes (hand.End cause body importance) short =
        ((tt, short), (tt, (rlsd-carried x.head (record { cause = cause; body = body; importance = importance }) short, tt), tt))
    takes _ short = (kept, (tt, tt, tt))
line-takes cell.KeepEnd h x short kept = takes h
  where
    takes : (h : Hand) → LineDone lengths (keeps_end h x)
    takes (hand.End cause body importance) = ((tt, tt), (tt, tt, tt))
    takes _ = (kept, (tt, tt, tt))
line-takes cell.PassUnit h x short kept = takes h short
  where
    takes : (h : Hand) → HandShort h → LineDone lengths (passes_unit h x)
    takes (hand.Unit more body) short = (kept, (tt, (spelled (Dt1 x.head.other (if more then 1 else 0) body) short, tt), (tt, tt)))
    takes _ short = (kept, (tt, tt, tt))
line-takes cell.Left h x short kept = takes h
  where
    takes : (h : Hand) → LineDone lengths (counts_passed h x)
    takes (hand.Left units expedited) = (kept, (tt, tt, tt))
    takes _ = (kept, (tt, tt, tt))
line-takes _ h x short kept = (kept, (tt, tt, tt))

-- The windows.

resets-done : (cause : ℕ) (x : Windowed) → WindowedDone lengths (resets cause x)
resets-done cause x = ((tt, (tt, tt)), (tt, (spelled (Rsr x.head.other x.head.mine cause) tt, tt), (tt, tt)))

data-done : (m : Parameters) (x : Windowed) → ParametersShort m → OfWindowed lengths x → WindowedDone lengths (takes_data m x)
data-done m x short w =
    either (WindowedDone lengths) (not (is_next m x)) _ _ (resets-done (wrong_number x.windows) x)
    (either (WindowedDone lengths) (is_used_up x) _ _ (resets-done RESET_OUT_OF_WINDOW x)
    (either (WindowedDone lengths) (not (is_valid m.pr x.windows)) _ _ (resets-done RESET_INCORRECT_RECEIVE_NUMBER x) (w, (tt, tt, (short.2, tt)))))

acknowledgement-done : (m : Parameters) (x : Windowed) → OfWindowed lengths x → WindowedDone lengths (takes_acknowledgement m x)
acknowledgement-done m x w = either (WindowedDone lengths) (is_valid m.pr x.windows) _ _ (w, (tt, tt, tt)) (resets-done RESET_INCORRECT_RECEIVE_NUMBER x)

expedited-done : (m : Parameters) (x : Windowed) → ParametersShort m → OfWindowed lengths x → WindowedDone lengths (takes_expedited m x)
expedited-done m x short w = either (WindowedDone lengths) x.windows.owed _ _ (resets-done RESET_REMOTE_PROCEDURE_ERROR x) (w, (tt, tt, (short.2, tt)))

sends-done : (waiting : Option (List ℕ)) (x : Windowed) → IsShortOption waiting → OfWindowed lengths x → WindowedDone lengths (sends_expedited waiting x)
sends-done None x short w = (w, (tt, tt, tt))
sends-done (Some body) x short w = ((tt, (w.1.0, tt)), (tt, (spelled (Ed x.head.other body) short, tt), (tt, tt)))

answer-done : (x : Windowed) → OfWindowed lengths x → WindowedDone lengths (takes_answer x)
answer-done x w =
    either (WindowedDone lengths) x.windows.unanswered _ _
    (sends-done x.windows.waiting (record x { windows = record x.windows { unanswered = false } }) w.1.1 w) (w, (tt, (tt, tt), tt))

pub windows-hear : (c : Cell) (m : Parameters) (x : Windowed) → ParametersShort m → OfWindowed lengths x → WindowedDone lengths (windowed_hears c m x)
unfolding windowed_hears
windows-hear cell.TakeNumberedData m x short w = data-done m x short w
windows-hear cell.TakeAcknowledgement m x short w = acknowledgement-done m x w
windows-hear cell.TakeExpedited m x short w = expedited-done m x short w
windows-hear cell.TakeExpeditedAcknowledgement m x short w = answer-done x w
windows-hear cell.ResetByPeer m x short w = ((tt, (tt, tt)), (tt, (spelled (Rsc x.head.other x.head.mine) tt, tt), (tt, tt)))
windows-hear cell.ResetComplete m x short w = (w, (tt, tt, (tt, tt)))
windows-hear _ m x short w = (w, (tt, tt, tt))

pub windows-fire : (x : Windowed) → OfWindowed lengths x → WindowedDone lengths (windowed_fires x)
unfolding windowed_fires
windows-fire x w =
    (w, (tt, (spelled (It x.head.other x.head.mine x.head.class (sequence x.windows.sent ∷ sequence x.windows.passed ∷ []) x.head.credit) (omega arith), tt), tt))

pub windows-take : (c : Cell) (h : Hand) (x : Windowed) → HandShort h → OfWindowed lengths x → WindowedDone lengths (windowed_takes c h x)
unfolding windowed_takes
windows-take cell.PassUnit h x short w = takes h short
  where
    takes : (h : Hand) → HandShort h → WindowedDone lengths (queues_unit h x)
    takes (hand.Unit more body) short = ((tt, (all-append UnitShort x.windows.waits (record { more = more; body = body } ∷ []) w.1.0 (short, tt), w.1.1)), (tt, tt, tt))
    takes _ short = (w, (tt, tt, tt))
windows-take cell.PassExpedited h x short w = takes h short
  where
    takes : (h : Hand) → HandShort h → WindowedDone lengths (passes_expedited h x)
    takes (hand.Expedited body) short =
        either (WindowedDone lengths) (is_up x.head.state && not x.windows.unanswered) _ _ (sends-done (Some body) x short w) ((tt, (w.1.0, short)), (tt, tt, tt))
    takes _ short = (w, (tt, tt, tt))
windows-take cell.PassReset h x short w = takes h
  where
    takes : (h : Hand) → WindowedDone lengths (passes_reset h x)
    takes (hand.Reset cause) = ((tt, (tt, tt)), (tt, (spelled (Rsr x.head.other x.head.mine cause) tt, tt), tt))
    takes _ = (w, (tt, tt, tt))
windows-take cell.ClearCounts h x short w = ((tt, (tt, tt)), (tt, tt, tt))
windows-take cell.Left h x short w = takes h
  where
    takes : (h : Hand) → WindowedDone lengths (counts_left h x)
    takes (hand.Left units true) = (w, (tt, (spelled (Ea x.head.other) tt, tt), tt))
    takes (hand.Left units false) = (w, (tt, tt, tt))
    takes _ = (w, (tt, tt, tt))
windows-take _ h x short w = (w, (tt, tt, tt))

-- What follows each event.

numbered-carried : (x : SectionHead) (ps pr : ℕ) (units : List DataUnit) → AllByRecursion UnitShort units → AreCarried (numbered x ps pr units)
numbered-carried x ps pr [] short = tt
numbered-carried x ps pr (u ∷ units) short =
    (spelled (Dt2 x.other (sequence ps ∷ (sequence pr + (if u.more then 1 else 0)) ∷ []) u.body) (omega arith, short.0), numbered-carried x (suc ps) pr units short.1)

waiting-short : (waiting : Option (List ℕ)) → IsShortOption waiting → IsShort (unwrap_or waiting [])
waiting-short None short = omega arith
waiting-short (Some body) short = short

pub leaves-done : (x : Windowed) → OfWindowed lengths x → WindowedDone lengths (leaves x)
unfolding leaves
leaves-done x w =
    let count = may_leave x.windows in
    let expedited = is_some x.windows.waiting && not x.windows.unanswered in (
      (tt, (all-drop UnitShort count x.windows.waits w.1.0, either IsShortOption expedited None x.windows.waiting tt w.1.1)),
      (
        tt,
        all-append IsCarried (numbered x.head x.windows.sent x.windows.passed (take count x.windows.waits)) _
            (numbered-carried x.head x.windows.sent x.windows.passed (take count x.windows.waits) (all-take UnitShort count x.windows.waits w.1.0))
            (either AreCarried expedited (sent_on x.head (Ed x.head.other (unwrap_or x.windows.waiting [])) ∷ []) []
            (spelled (Ed x.head.other (unwrap_or x.windows.waiting [])) (waiting-short x.windows.waiting w.1.1), tt) tt),
        either (OfHands lengths) (expedited || nat_lt 0 count) (hand.Left count expedited ∷ []) [] (tt, tt) tt,
      ),
    )

pub acknowledges-done : (x : Windowed) → OfWindowed lengths x → WindowedDone lengths (acknowledges x)
unfolding acknowledges
acknowledges-done x w =
    either (WindowedDone lengths) (x.windows.passed == x.windows.told) _ _ (w, (tt, tt, tt))
    (w, (tt, (spelled (Ak x.head.other (sequence x.windows.passed) x.head.credit) tt, tt), tt))

-- A user's end.

pub given-short : (body : List ℕ) → IsShort body → IsShortOption (given body)
given-short [] short = tt
given-short (b ∷ body) short = short

units-short : (body : List ℕ) (places : List ℕ) → OfHands lengths (map handed (map (λ k. unit_at body k) places))
units-short body [] = tt
units-short body (k ∷ places) = (omega (arith, length-take LONGEST_UNIT (drop (LONGEST_UNIT * k) body)), units-short body places)

abbrev UserGives : User × Acted → Type 0
UserGives done = OfActed lengths done.1

pub user-asks : (c : Cell) (r : Request) (u : User) → RequestShort r → UserGives (user_asks c r u)
unfolding user_asks
user-asks cell.UserAccepts r u short = asks r short
  where
    asks : (r : Request) → RequestShort r → UserGives (accepts r u)
    asks (request.Accept mine class credit body) short = (tt, tt, ((tt, given-short body short), tt))
    asks _ short = (tt, tt, tt)
user-asks cell.UserRefuses r u short = asks r short
  where
    asks : (r : Request) → RequestShort r → UserGives (refuses r u)
    asks (request.Refuse mine cause body) short = (tt, tt, ((tt, given-short body short), tt))
    asks _ short = (tt, tt, tt)
user-asks cell.UserSends r u short = asks r
  where
    asks : (r : Request) → UserGives (sends r u)
    asks (request.Send mine body) = (tt, tt, units-short body (range_with_len 0 (unit_count body)))
    asks _ = (tt, tt, tt)
user-asks cell.UserExpedites r u short = asks r short
  where
    asks : (r : Request) → RequestShort r → UserGives (expedites r u)
    asks (request.Expedite mine body) short = (tt, tt, (short, tt))
    asks _ short = (tt, tt, tt)
user-asks cell.UserResets r u short = (tt, tt, (tt, tt))
user-asks cell.UserDisconnects r u short = asks r short
  where
    asks : (r : Request) → RequestShort r → UserGives (disconnects r u)
    asks (request.Disc mine cause body) short = (tt, tt, (given-short body short, tt))
    asks _ short = (tt, tt, tt)
user-asks _ r u short = (tt, tt, tt)

pub user-takes : (c : Cell) (h : Hand) (u : User) → UserGives (user_takes c h u)
unfolding user_takes
user-takes cell.TellConfirm h u = takes h
  where
    takes : (h : Hand) → UserGives (tells_confirm h u)
    takes (hand.Accept class credit called body importance) = (tt, (tt, tt), tt)
    takes _ = (tt, tt, tt)
user-takes cell.TellDisconnect h u = takes h
  where
    takes : (h : Hand) → UserGives (tells_disconnect h u)
    takes (hand.Refuse cause called body importance) = (tt, (tt, tt), tt)
    takes (hand.End cause body importance) = (tt, (tt, tt), tt)
    takes _ = (tt, tt, tt)
user-takes cell.TellUnit h u = takes h
  where
    takes : (h : Hand) → UserGives (collects h u)
    takes (hand.Unit more body) =
        either UserGives (nat_lt LONGEST_TEXT (length (u.text ++ body))) (overruns u) (if more then continues body u else completes body u)
        ((tt, tt), (tt, tt), tt)
        (either UserGives more (continues body u) (completes body u) (tt, tt, (tt, tt)) (tt, (tt, tt), (tt, tt)))
    takes _ = (tt, tt, tt)
user-takes cell.TellExpedited h u = takes h
  where
    takes : (h : Hand) → UserGives (tells_expedited h u)
    takes (hand.Expedited body) = (tt, (tt, tt), (tt, tt))
    takes _ = (tt, tt, tt)
user-takes cell.TellReset h u = takes h
  where
    takes : (h : Hand) → UserGives (tells_reset h u)
    takes (hand.Reset cause) = (tt, (tt, tt), tt)
    takes _ = (tt, tt, tt)
user-takes cell.TellResetDone h u = (tt, (tt, tt), tt)
user-takes cell.Left h u = takes h
  where
    takes : (h : Hand) → UserGives (user_counts_left h u)
    takes (hand.Left units expedited) = (tt, tt, tt)
    takes _ = (tt, tt, tt)
user-takes _ h u = (tt, tt, tt)
