-- The units that are said to have left had come in.
use Rattle.std.proofs.Common.{◌≡◌, ℕ, ◌+◌, ◌-◌, ◌≤◌, ◌<◌, ◌==◌, ◌&&◌, ◌||◌, nat_le, nat_lt, not, Bool, true, false, List, [], ◌∷◌, ◌++◌, length, drop, get_or, map, fold, if◌then◌else◌, Some, None, is_some, refl, subst, ap, ◌∙◌, arith, length-drop}
use Rattle.std.specs.Prelude.{Option}
use Rattle.std.proofs.lemmas.Bool.{eqb-true, eqb-false, and_parts}
use Rattle.std.proofs.lemmas.List.{length_push, drop_more}
use Rattle.relay_base.specs.declared.causes.TheConstants.{ERROR_CLASS_MISMATCH, REFUSAL_ESTABLISHMENT_EXPIRED, REFUSAL_UNQUALIFIED, RELEASE_ACCESS_CONGESTION, RELEASE_INACTIVITY_EXPIRED, RELEASE_INCONSISTENT_DATA, RELEASE_RESET_EXPIRED, RELEASE_UNQUALIFIED, RESET_END_USER, RESET_INCORRECT_RECEIVE_NUMBER, RESET_OUT_OF_WINDOW, RESET_REMOTE_PROCEDURE_ERROR}
use Rattle.relay_base.specs.declared.limits.TheConstants.{LONGEST_TEXT}
use Rattle.relay_base.specs.declared.words.Output.{Output}
use Rattle.relay_base.specs.declared.words.Request.{Request}
use Rattle.relay_base.specs.declared.words.Request.TheVariants as request
use Rattle.plant_core.specs.declared.terms.Ticks.{Ticks}
use Rattle.section_model.specs.declared.cell.Cell.{Cell}
use Rattle.section_model.specs.declared.cell.Cell.TheVariants as cell
use Rattle.section_model.specs.declared.hand.Hand.{Hand}
use Rattle.section_model.specs.declared.hand.Hand.TheVariants as hand
use Rattle.section_flow.specs.declared.unit.Unit.{Unit as DataUnit}
use Rattle.section_model.specs.declared.hand.Acted.{Acted}
use Rattle.section_model.specs.Parameters.{Parameters}
use Rattle.section_model.specs.Laws.{hands_of}
use Rattle.section_model.specs.Ends.{End, wire, owner, Line, Section, User, Connection, turned, is_up}
use Rattle.section_model.specs.Line.{agreed, agreed_credit, reached, line_hears, line_fires, line_takes}
use Rattle.section_model.specs.Windowed.{Windowed, windowed_hears, windowed_fires, windowed_takes, resets, is_next, is_used_up, takes_data, sends_expedited, leaves, acknowledges}
use Rattle.section_flow.specs.Windows.{is_valid, may_leave, wrong_number}
use Rattle.section_model.specs.UserEnd.{given, user_takes, user_asks, handed, units_of}
use Rattle.section_model.specs.Acting.{timed, by_windows, by_line, line_in, is_by_class, in_windows, section_hears, section_fires, section_takes, section_takes_by, user_takes_by, end_takes}
use Rattle.section_model.specs.Coupling.{other_takes, exchange}
use Rattle.connection_law.specs.InStep.{AreInStep}
use Rattle.connection_law.proofs.Flow.Flowing.{either}
use Rattle.connection_law.proofs.Flow.Growing.{StaysAs}
use Rattle.connection_law.proofs.Flow.Going.{exchange_goes, offered_goes}
use Rattle.connection_law.proofs.Flow.Leaving.{few_leave}
use Rattle.section_model.specs.declared.hand.Came.{Came}
use Rattle.section_model.specs.Ends.{no_effect}
use Rattle.section_model.specs.Windowed.{HasCome}
use Rattle.section_model.specs.Views.{seen_parameters}
use Rattle.section_model.specs.Table.{section_cell}
use Rattle.section_model.specs.Step.{checked, hears_checked, on_windows, reason_against}
use Rattle.relay_base.specs.declared.words.Reason.{Reason}
use Rattle.section_model.specs.declared.cell.Timer.{Timer}
use Rattle.section_class3.specs.Windows.{windows_turn}
use Rattle.connection_law.specs.InStep.{Meets, connected, section_stage, IsInStep}
use Rattle.connection_law.proofs.Flow.Acting.{ActsWindowed, acts_alone}
use Rattle.connection_law.proofs.Flow.Leaving.{leaves_kept, acknowledges_kept, on_windows_kept}
use Rattle.section_coupling.specs.declared.clock.Clock.{Clock}
use Rattle.section_coupling.specs.declared.coming.Coming.{Coming}
use Rattle.section_coupling.specs.declared.wire.Wire.{Wire}
use Rattle.section_coupling.specs.Views.{section_at, behind}
use Rattle.section_coupling.specs.Inner.Alone.{turns_alone, fires_alone, asks_unless, asks_beside}
use Rattle.section_coupling.specs.Inner.Comings.{hears_coming}
use Rattle.section_coupling.specs.Sound.{came_in, HasComeAt, MayLeave, LeavesNone, LeaveNone, IsAlone, AreOfWhatCame, SoundHands}

-- No unit is said to have left.

none-come : (h : Hand) (e : End) → LeavesNone h → HasComeAt h e
none-come (hand.Left units expedited) (wire x) none = λ three. omega (arith, none)
none-come h (owner u) none = tt
none-come _ (wire x) none = λ three. tt

owner-may : (h : Hand) (u : User) → MayLeave h (owner u)
owner-may (hand.Unit more body) u = tt
owner-may _ u = tt

-- What an end answers.

abbrev BySection : Ticks → Section → End → Section × Acted → Type 0
BySection ticks x this done = AreOfWhatCame (timed ticks x done).0 (hands_of done.1) this

line-answers : (c : Cell) (h : Hand) (ticks : Ticks) (x : Section) (this : End) → MayLeave h this → BySection ticks x this (by_line (line_takes c h) x)
unfolding line_takes
line-answers cell.PassAccept (hand.Accept class credit called body importance) ticks x this may = tt
line-answers cell.PassAccept _ ticks x this may = tt
line-answers cell.PassRefuse (hand.Refuse cause called body importance) ticks x this may = tt
line-answers cell.PassRefuse _ ticks x this may = tt
line-answers cell.PassEnd (hand.End cause body importance) ticks x this may = tt
line-answers cell.PassEnd _ ticks x this may = tt
line-answers cell.KeepEnd (hand.End cause body importance) ticks x this may = tt
line-answers cell.KeepEnd _ ticks x this may = tt
line-answers cell.PassUnit (hand.Unit more body) ticks x this may = (may, tt, refl, tt)
line-answers cell.PassUnit _ ticks x this may = tt
line-answers cell.Left (hand.Left units expedited) ticks x this may = tt
line-answers cell.Left _ ticks x this may = tt
line-answers _ h ticks x this may = tt

abbrev ByWindows : Ticks → Section → End → Windowed × Acted → Type 0
ByWindows ticks x this r = BySection ticks x this (by_windows (λ w. r) x)

windows-answer : (c : Cell) (h : Hand) (ticks : Ticks) (x : Section) (this : End) → ByWindows ticks x this (windowed_takes c h (record { head = x.head; windows = x.windows }))
unfolding windowed_takes
windows-answer cell.PassUnit (hand.Unit more body) ticks x this = tt
windows-answer cell.PassUnit _ ticks x this = tt
windows-answer cell.PassExpedited (hand.Expedited body) ticks x this =
    either (ByWindows ticks x this) (is_up x.head.state && not x.windows.unanswered) _ _ (λ _. (none-come (hand.Left 0 true) this refl, tt, refl, tt)) (λ _. tt)
windows-answer cell.PassExpedited _ ticks x this = tt
windows-answer cell.PassReset (hand.Reset cause) ticks x this = tt
windows-answer cell.PassReset _ ticks x this = tt
windows-answer cell.Left (hand.Left units true) ticks x this = tt
windows-answer cell.Left (hand.Left units false) ticks x this = tt
windows-answer cell.Left _ ticks x this = tt
windows-answer _ h ticks x this = tt

abbrev ByUser : End → User × Acted → Type 0
ByUser this r = AreOfWhatCame (owner r.0) (hands_of r.1) this

user-answers : (c : Cell) (h : Hand) (u : User) (this : End) → MayLeave h this → ByUser this (user_takes c h u)
unfolding user_takes
user-answers cell.TellConfirm (hand.Accept class credit called body importance) u this may = tt
user-answers cell.TellConfirm _ u this may = tt
user-answers cell.TellDisconnect (hand.Refuse cause called body importance) u this may = tt
user-answers cell.TellDisconnect (hand.End cause body importance) u this may = tt
user-answers cell.TellDisconnect _ u this may = tt
user-answers cell.TellUnit (hand.Unit more body) u this may =
    either (ByUser this) (nat_lt LONGEST_TEXT (length (u.text ++ body))) _ _ (λ _. ((none-come (hand.End RELEASE_ACCESS_CONGESTION None None) this tt), tt, tt, tt))
    (λ _. either (ByUser this) more _ _ (λ _. (may, tt, tt, tt)) (λ _. (may, tt, tt, tt)))
user-answers cell.TellUnit _ u this may = tt
user-answers cell.TellExpedited (hand.Expedited body) u this may = ((none-come (hand.Left 0 true) this refl), tt, tt, tt)
user-answers cell.TellExpedited _ u this may = tt
user-answers cell.TellReset (hand.Reset cause) u this may = tt
user-answers cell.TellReset _ u this may = tt
user-answers cell.Left (hand.Left units expedited) u this may = tt
user-answers cell.Left _ u this may = tt
user-answers _ h u this may = tt

pub answers-come : (ticks : Ticks) (h : Hand) (e this : End) → MayLeave h this → AreOfWhatCame (end_takes ticks h e).0 (hands_of (end_takes ticks h e).1) this
unfolding section_takes
answers-come ticks h (wire x) this may =
    let c = section_takes_by x.head.state h in
    either (BySection ticks x this) (in_windows c x) _ _ (λ _. windows-answer c h ticks x this) (λ _. line-answers c h ticks x this may)
answers-come ticks h (owner u) this may = user-answers (user_takes_by u.state h) h u this may

-- What a section hands over upon a message, and when a timer fires.

one-came : (got : List DataUnit) (u : DataUnit) (passed : ℕ) → passed ≤ length got → 1 ≤ length (got ++ u ∷ []) - passed
one-came got u passed within = rw (length_push got u) (omega (arith, within))

resets-come : (cause : ℕ) (ticks : Ticks) (x : Section) (that : End) → ByWindows ticks x that (resets cause (record { head = x.head; windows = x.windows }))
resets-come cause ticks x that = (none-come (hand.Reset cause) that tt, tt, refl, tt)

data-come : (m : Parameters) (ticks : Ticks) (x : Section) (that : End) → x.windows.passed ≤ length x.windows.got → ByWindows ticks x that (takes_data m (record { head = x.head; windows = x.windows }))
data-come m ticks x that within =
    let w : Windowed = record { head = x.head; windows = x.windows } in
    either (ByWindows ticks x that) (not (is_next m w)) _ _ (λ _. resets-come (wrong_number w.windows) ticks x that)
    (λ _. either (ByWindows ticks x that) (is_used_up w) _ _ (λ _. resets-come RESET_OUT_OF_WINDOW ticks x that)
    (λ _. either (ByWindows ticks x that) (not (is_valid m.pr x.windows)) _ _ (λ _. resets-come RESET_INCORRECT_RECEIVE_NUMBER ticks x that)
    (λ _. (none-come (hand.Unit m.more m.data_octets) that tt, (λ three. one-came x.windows.got _ x.windows.passed within), refl, tt))))

expedited-come : (body : Option (List ℕ)) (ticks : Ticks) (x : Section) (w : Windowed) (that : End) → ByWindows ticks x that (sends_expedited body w)
expedited-come None ticks x w that = tt
expedited-come (Some body) ticks x w that = (none-come (hand.Left 0 true) that refl, tt, refl, tt)

windows-hear : (c : Cell) (m : Parameters) (ticks : Ticks) (x : Section) (that : End) → x.windows.passed ≤ length x.windows.got
    → ByWindows ticks x that (windowed_hears c m (record { head = x.head; windows = x.windows }))
unfolding windowed_hears
windows-hear cell.TakeNumberedData m ticks x that within = data-come m ticks x that within
windows-hear cell.TakeAcknowledgement m ticks x that within =
    either (ByWindows ticks x that) (is_valid m.pr x.windows) _ _ (λ _. tt) (λ _. resets-come RESET_INCORRECT_RECEIVE_NUMBER ticks x that)
windows-hear cell.TakeExpedited m ticks x that within =
    either (ByWindows ticks x that) x.windows.owed _ _ (λ _. resets-come RESET_REMOTE_PROCEDURE_ERROR ticks x that) (λ _. (none-come (hand.Expedited m.data_octets) that tt, tt, refl, tt))
windows-hear cell.TakeExpeditedAcknowledgement m ticks x that within =
    either (ByWindows ticks x that) x.windows.unanswered _ _
    (λ _. expedited-come x.windows.waiting ticks x (record { head = x.head; windows = record x.windows { unanswered = false } }) that) (λ _. tt)
windows-hear cell.ResetByPeer m ticks x that within = (none-come (hand.Reset m.cause) that tt, tt, refl, tt)
windows-hear cell.ResetComplete m ticks x that within = (none-come hand.Done that tt, tt, refl, tt)
windows-hear _ m ticks x that within = tt

abbrev ByLine : Ticks → Section → End → Line × Acted → Type 0
ByLine ticks x that r = BySection ticks x that (by_line (λ l. r) x)

line-hear : (c : Cell) (point : ℕ) (m : Parameters) (ticks : Ticks) (x : Section) (that : End) → in_windows c x ≡ false → ByLine ticks x that (line_hears c point m (line_in x))
unfolding line_hears
line-hear cell.Confirm point m ticks x that other =
    either (ByLine ticks x that) ((m.class == 2 || m.class == 3) && nat_le m.class x.head.class) _ _
    (λ _. (none-come (hand.Accept m.class (agreed (reached point m.slr (line_in x)).head m) m.called m.body m.importance) that tt, tt, refl, tt)) (λ _. (none-come (hand.Refuse REFUSAL_UNQUALIFIED None None None) that tt, tt, refl, tt))
line-hear cell.Refused point m ticks x that other = (none-come (hand.Refuse m.cause m.called m.body m.importance) that tt, tt, refl, tt)
line-hear cell.Released point m ticks x that other = (none-come (hand.End m.cause m.body m.importance) that tt, tt, refl, tt)
line-hear cell.TakeData point m ticks x that other = (none-come (hand.Unit m.more m.data_octets) that tt, (λ three. absurd (eqb-false x.head.class 3 other three)), refl, tt)
line-hear cell.ErrorReceived point m ticks x that other =
    either (ByLine ticks x that) (m.cause == ERROR_CLASS_MISMATCH) _ _ (λ _. (none-come (hand.End RELEASE_UNQUALIFIED None None) that tt, tt, refl, tt)) (λ _. (none-come (hand.End RELEASE_UNQUALIFIED None None) that tt, tt, refl, tt))
line-hear cell.TestReceived point m ticks x that other =
    either (ByLine ticks x that) (m.slr == x.head.other && m.class == x.head.class) _ _ (λ _. tt) (λ _. (none-come (hand.End RELEASE_INCONSISTENT_DATA None None) that tt, tt, refl, tt))
line-hear _ point m ticks x that other = tt

pub hears-come : (ticks : Ticks) (c : Cell) (point : ℕ) (m : Parameters) (x : Section) (that : End) → (x.head.class ≡ 3 → x.windows.passed ≤ length x.windows.got)
    → AreOfWhatCame (section_hears ticks c point m x).0 (hands_of (section_hears ticks c point m x).1) that
unfolding section_hears
hears-come ticks c point m x that within =
    either (BySection ticks x that) (in_windows c x) _ _
    (λ is. windows-hear c m ticks x that (within (eqb-true x.head.class 3 (and_parts (is_by_class c) (x.head.class == 3) is).1)))
    (λ other. line-hear c point m ticks x that other)

line-fire : (c : Cell) (ticks : Ticks) (x : Section) (that : End) → ByLine ticks x that (line_fires c (line_in x))
unfolding line_fires
line-fire cell.NotAnswered ticks x that = (none-come (hand.Refuse REFUSAL_ESTABLISHMENT_EXPIRED None None None) that tt, tt, refl, tt)
line-fire cell.ResetExpired ticks x that = (none-come (hand.End RELEASE_RESET_EXPIRED None None) that tt, tt, refl, tt)
line-fire cell.PeerSilent ticks x that = (none-come (hand.End RELEASE_INACTIVITY_EXPIRED None None) that tt, tt, refl, tt)
line-fire _ ticks x that = tt

fires-come : (ticks : Ticks) (c : Cell) (x : Section) (that : End) → AreOfWhatCame (section_fires ticks c x).0 (hands_of (section_fires ticks c x).1) that
unfolding section_fires windowed_fires
fires-come ticks c x that = either (BySection ticks x that) (in_windows c x) _ _ (λ _. tt) (λ _. line-fire c ticks x that)

-- And after an event.

left-if : (b : Bool) (units : ℕ) (is_expedited : Bool) (x : Section) (that : End) → HasComeAt (hand.Left units is_expedited) that
    → AreOfWhatCame (wire x) (if b then hand.Left units is_expedited ∷ [] else []) that
left-if true units is_expedited x that come = (come, tt, refl, tt)
left-if false units is_expedited x that come = tt

waiting-come : (x : Section) (that : End) (is_expedited : Bool) → AreInStep (wire x) that → HasComeAt (hand.Left (may_leave x.windows) is_expedited) that
waiting-come x (wire y) is_expedited k = λ three.
    let f = (k.4 (k.1 ∙ three)).1.2 in
    let few = (few_leave (length x.windows.waits) (x.windows.credit - (x.windows.sent - x.windows.acked))).0 in
    let waits : length x.windows.waits ≡ length y.windows.got - y.windows.passed = rw (f.2, length-drop y.windows.passed y.windows.got) refl in
    omega (arith, few, waits)
waiting-come x (owner u) is_expedited k = tt

pub leaves-come : (ticks : Ticks) (x : Section) (that : End) → AreInStep (wire x) that
    → (let r = timed ticks x (by_windows leaves x) in AreOfWhatCame r.0 (hands_of r.1) that)
unfolding leaves
leaves-come ticks x that k =
    let is_expedited = is_some x.windows.waiting && not x.windows.unanswered in
    left-if (is_expedited || nat_lt 0 (may_leave x.windows)) (may_leave x.windows) is_expedited _ that (waiting-come x that is_expedited k)

pub acknowledges-come : (ticks : Ticks) (x : Section) (that : End)
    → (let r = timed ticks x (by_windows acknowledges x) in AreOfWhatCame r.0 (hands_of r.1) that)
unfolding acknowledges
acknowledges-come ticks x that = either (ByWindows ticks x that) (x.windows.passed == x.windows.told) _ _ (λ _. tt) (λ _. tt)

-- What a user's request hands over.

units-leave-none : (units : List DataUnit) → LeaveNone (map handed units)
units-leave-none [] = tt
units-leave-none (u ∷ units) = (tt, units-leave-none units)

units-come : (units : List DataUnit) (u : User) (that : End) → AreOfWhatCame (owner u) (map handed units) that
units-come [] u that = tt
units-come (d ∷ units) u that = (none-come (handed d) that tt, tt, tt, units-leave-none units)

asks-come : (c : Cell) (r : Request) (u : User) (that : End) → AreOfWhatCame (owner (user_asks c r u).0) (hands_of (user_asks c r u).1) that
unfolding user_asks
asks-come cell.UserAccepts (request.Accept mine class credit body) u that = (none-come (hand.Accept class (agreed_credit class credit u.credit) None (given body) None) that tt, tt, tt, tt)
asks-come cell.UserAccepts _ u that = tt
asks-come cell.UserRefuses (request.Refuse mine cause body) u that = (none-come (hand.Refuse cause None (given body) None) that tt, tt, tt, tt)
asks-come cell.UserRefuses _ u that = tt
asks-come cell.UserSends (request.Send mine body) u that = units-come (units_of body) _ that
asks-come cell.UserSends _ u that = tt
asks-come cell.UserExpedites (request.Expedite mine body) u that = (none-come (hand.Expedited body) that tt, tt, tt, tt)
asks-come cell.UserExpedites _ u that = tt
asks-come cell.UserResets r u that = (none-come (hand.Reset RESET_END_USER) that tt, tt, tt, tt)
asks-come cell.UserDisconnects (request.Disc mine cause body) u that = (none-come (hand.End cause (given body) None) that tt, tt, tt, tt)
asks-come cell.UserDisconnects _ u that = tt
asks-come _ r u that = tt

-- Effects that are taken one after another.

after-first : (u : User) (e that : End) (h : Hand) (hands : List Hand) → StaysAs (owner u) e → LeaveNone (h ∷ hands) → AreOfWhatCame e (h ∷ hands) that
after-first u (owner v) that h hands stays none = (none-come h that none.0, owner-may h v, tt, none.1)
after-first u (wire y) that h hands stays none = absurd stays

no-more : (h : Hand) (hands : List Hand) → h ∷ hands ≡ [] → ⊥
no-more h hands e = absurd (cc)

next-come : (n : ℕ) (ticks : Ticks) (this that : End) (outs : List Output) (h : Hand) (hands : List Hand) → AreOfWhatCame this (h ∷ hands) that
    → (let c = (other_takes (exchange n ticks) ticks (record { this = this; that = that }, outs) h).0 in AreOfWhatCame c.this hands c.that)
next-come n ticks this that outs h [] k = tt
next-come n ticks (wire x) that outs h (next ∷ hands) k = absurd (no-more next hands k.2)
next-come n ticks (owner u) that outs h (next ∷ hands) k =
    let r : Connection × List Output = (record { this = owner u; that = that }, outs) in
    let c = (other_takes (exchange n ticks) ticks r h).0 in
    after-first u c.this c.that next hands (offered_goes n ticks (exchange_goes n ticks) r h (λ s. absurd s)).0 k.3

pub one-taken : (n : ℕ) (ticks : Ticks) (r : Connection × List Output) (h : Hand) (hands : List Hand) → AreOfWhatCame r.0.this (h ∷ hands) r.0.that
    → (let c = (other_takes (exchange n ticks) ticks r h).0 in AreOfWhatCame c.this hands c.that)
one-taken n ticks r h hands k = next-come n ticks r.0.this r.0.that r.1 h hands k

-- the first of them, and the others
pub rest-come : (n : ℕ) (ticks : Ticks) (one two : List Hand) (r : Connection × List Output) → AreOfWhatCame r.0.this (one ++ two) r.0.that
    → (let c = (fold (other_takes (exchange n ticks) ticks) r one).0 in AreOfWhatCame c.this two c.that)
rest-come n ticks [] two r k = k
rest-come n ticks (h ∷ one) two r k = rest-come n ticks one two (other_takes (exchange n ticks) ticks r h) (one-taken n ticks r h (one ++ two) k)

none-in : (one two : List Hand) → LeaveNone (one ++ two) → LeaveNone one
none-in [] two n = tt
none-in (h ∷ one) two n = (n.0, none-in one two n.1)

alone-in : (e : End) (one two : List Hand) → IsAlone e (one ++ two) → IsAlone e one
alone-in (wire x) [] two a = refl
alone-in (wire x) (h ∷ one) two a = absurd (no-more h (one ++ two) a)
alone-in (owner u) one two a = tt

pub first-come : (this that : End) (one two : List Hand) → AreOfWhatCame this (one ++ two) that → AreOfWhatCame this one that
first-come this that [] two k = tt
first-come this that (h ∷ one) two k = (k.0, k.1, alone-in this one two k.2, none-in one two k.3)

-- As the code keeps it.

-- what had come by its line had come by its windows
pub code-come : (h : Hand) (w : Wire) (now : ℕ) → (w.head.class ≡ 3 → w.line.came.value ≡ came_in w.windows.windows) → HasComeAt h (wire (section_at now w))
    → w.head.class ≡ 3 → HasCome h w.windows.windows
code-come h w now same come three = subst (λ (c : Came). HasCome h (record w.windows.windows { got = c.got; passed = c.passed })) (same three) (come three)

-- a section whose windows keep their law
abbrev pub Counts : Section → Type 0
Counts x = x.head.class ≡ 3 → x.windows.passed ≤ length x.windows.got

pub within-counts : (w : Wire) (now : ℕ) → (w.head.class ≡ 3 → w.line.came.value ≡ came_in w.windows.windows) → w.windows.windows.passed ≤ length w.windows.windows.got
    → Counts (section_at now w)
within-counts w now same within three = rw (same three) within

pub coming-come : (clock : Clock) (c : Coming) (x : Section) (that : End) (r : End × Acted) → (x.head.class ≡ 3 → x.windows.passed ≤ length x.windows.got) → hears_coming clock c x ≡ r
    → AreOfWhatCame r.0 (hands_of r.1) that
coming-come clock c x that r within e =
    subst (λ (done : End × Acted). AreOfWhatCame done.0 (hands_of done.1) that) e (by_check (checked c.arrival.occasion (seen_parameters c.arrival.parameters) x.head))
  where
    by_check : (o : Option Output) → (let done = hears_checked clock.ticks c.arrival.occasion c.point (seen_parameters c.arrival.parameters) x o in AreOfWhatCame done.0 (hands_of done.1) that)
    by_check (Some out) = tt
    by_check None = hears-come clock.ticks (section_cell x.head.state c.arrival.occasion) c.point (seen_parameters c.arrival.parameters) x that within

section-turns : (c : Cell) (ticks : Ticks) (x : Section) (that : End) → AreInStep (wire x) that → (let done = timed ticks x (by_windows (windows_turn c) x) in AreOfWhatCame done.0 (hands_of done.1) that)
section-turns cell.Leave ticks x that k = leaves-come ticks x that k
section-turns cell.Acknowledge ticks x that k = acknowledges-come ticks x that
section-turns _ ticks x that k = tt

end-turns : (c : Cell) (ticks : Ticks) (this that : End) → AreInStep this that → (let done = turns_alone ticks c this in AreOfWhatCame done.0 (hands_of done.1) that)
end-turns c ticks (wire x) that k =
    either (λ (done : End × Acted). AreOfWhatCame done.0 (hands_of done.1) that) (is_up x.head.state && x.head.class == 3) _ _ (λ _. section-turns c ticks x that k) (λ _. tt)
end-turns c ticks (owner u) that k = tt

pub turn-come : (c : Cell) (ticks : Ticks) (this that : End) (r : End × Acted) → AreInStep this that → turns_alone ticks c this ≡ r → AreOfWhatCame r.0 (hands_of r.1) that
turn-come c ticks this that r k e = subst (λ (done : End × Acted). AreOfWhatCame done.0 (hands_of done.1) that) e (end-turns c ticks this that k)

-- when a timer fires
end-fires : (ticks : Ticks) (timer : Timer) (this that : End) → (let done = fires_alone ticks timer this in AreOfWhatCame done.0 (hands_of done.1) that)
end-fires ticks timer (wire x) that = fires-come ticks _ _ that
end-fires ticks timer (owner u) that = tt

pub fire-come : (ticks : Ticks) (timer : Timer) (this that : End) (r : End × Acted) → fires_alone ticks timer this ≡ r → AreOfWhatCame r.0 (hands_of r.1) that
fire-come ticks timer this that r e = subst (λ (done : End × Acted). AreOfWhatCame done.0 (hands_of done.1) that) e (end-fires ticks timer this that)

-- upon a request
unless-asks : (against : Option Reason) (r : Request) (u : User) (that : End) → (let done = asks_unless against r u in AreOfWhatCame (owner done.0) (hands_of done.1) that)
unless-asks (Some why) r u that = tt
unless-asks None r u that = asks-come _ r u that

end-asks : (ssn : ℕ) (r : Request) (this that : End) → (let done = asks_beside ssn r this that in AreOfWhatCame done.0 (hands_of done.1) that)
end-asks ssn r (owner u) (wire x) =
    either (λ (done : User × Acted). AreOfWhatCame (owner done.0) (hands_of done.1) (wire x)) (u.ssn == ssn) _ _ (λ _. unless-asks (reason_against r u x) r u (wire x)) (λ _. tt)
end-asks ssn r (owner u) (owner v) = tt
end-asks ssn r (wire x) that = tt

pub ask-come : (ssn : ℕ) (request : Request) (this that : End) (r : End × Acted) → asks_beside ssn request this that ≡ r → AreOfWhatCame r.0 (hands_of r.1) that
ask-come ssn request this that r e = subst (λ (done : End × Acted). AreOfWhatCame done.0 (hands_of done.1) that) e (end-asks ssn request this that)

-- and each turn keeps the ends in step
nothing-kept : (ticks : Ticks) (x : Section) (that : End) → Meets connected (section_stage x.head.state) → (x.head.class == 3) ≡ true → AreInStep (wire x) that
    → ActsWindowed ticks x that (record { head = x.head; windows = x.windows }, no_effect)
unfolding ActsWindowed
nothing-kept ticks x that o three k = acts_alone ticks x x that [] k

pub turn-steps : (c : Cell) (ticks : Ticks) (this that : End) → AreInStep this that → IsInStep (on_windows ticks (windows_turn c) this that).0
turn-steps cell.Leave ticks this that k = on_windows_kept ticks leaves (leaves_kept ticks) this that k
turn-steps cell.Acknowledge ticks this that k = on_windows_kept ticks acknowledges (λ x that o three. acknowledges_kept ticks x that) this that k
turn-steps _ ticks this that k = on_windows_kept ticks (λ x. (x, no_effect)) (nothing-kept ticks) this that k

-- What the code hands over, one after another.

pub answered-come : (ticks : Ticks) (h : Hand) (e this : End) (r : End × Acted) → MayLeave h this → end_takes ticks h e ≡ r → AreOfWhatCame r.0 (hands_of r.1) this
answered-come ticks h e this r may taken = subst (λ (done : End × Acted). AreOfWhatCame done.0 (hands_of done.1) this) taken (answers-come ticks h e this may)

-- the other end takes the effect at a place
pub taken-left : (ticks : Ticks) (hands : List Hand) (i : ℕ) (h : Hand) (c : Connection) (r : End × Acted) → i < length hands → AreOfWhatCame c.this (drop i hands) c.that
    → h ≡ get_or hands i h → end_takes ticks h c.that ≡ r → AreOfWhatCame r.0 (hands_of r.1) c.this
taken-left ticks hands i h c r within k same taken =
    answered-come ticks (get_or hands i h) c.that c.this r (subst (λ hs. AreOfWhatCame c.this hs c.that) (drop_more hands i h within) k).1
    (subst (λ g. end_takes ticks g c.that ≡ r) same taken)

-- and what it hands back has gone on
pub offered-left : (n : ℕ) (ticks : Ticks) (c d : Connection) (outs all : List Output) (hands : List Hand) (i : ℕ) (h : Hand) (e : End × Acted) → i < length hands
    → h ≡ get_or hands i h → end_takes ticks h c.that ≡ e → behind outs (exchange n ticks e c.this) ≡ (d, all) → AreOfWhatCame c.this (drop i hands) c.that
    → AreOfWhatCame d.that (drop (i + 1) hands) d.this
offered-left n ticks c d outs all hands i h e within same taken given k =
    let rest = drop (i + 1) hands in
    let at_place : end_takes ticks (get_or hands i h) c.that ≡ e = subst (λ g. end_takes ticks g c.that ≡ e) same taken in
    subst (λ (done : Connection × List Output). AreOfWhatCame done.0.that rest done.0.this) (ap (λ (acting : End × Acted). behind outs (exchange n ticks acting c.this)) at_place ∙ given)
    (one-taken n ticks (c, outs) (get_or hands i h) rest (subst (λ hs. AreOfWhatCame c.this hs c.that) (drop_more hands i h within) k))

pub offered-more : (n : ℕ) (ticks : Ticks) (c d : Connection) (outs all : List Output) (hands : List Hand) (i : ℕ) (h : Hand) (e : End × Acted) (r : Connection × List Output) → i < length hands
    → h ≡ get_or hands i h → end_takes ticks h c.that ≡ e → behind outs (exchange n ticks e c.this) ≡ (d, all)
    → fold (other_takes (exchange n ticks) ticks) (c, outs) (drop i hands) ≡ r → fold (other_takes (exchange n ticks) ticks) (turned d, all) (drop (i + 1) hands) ≡ r
offered-more n ticks c d outs all hands i h e r within same taken given k =
    let rest = drop (i + 1) hands in
    let at_place : end_takes ticks (get_or hands i h) c.that ≡ e = subst (λ g. end_takes ticks g c.that ≡ e) same taken in
    subst (λ (done : Connection × List Output). fold (other_takes (exchange n ticks) ticks) (turned done.0, done.1) rest ≡ r) (ap (λ (acting : End × Acted). behind outs (exchange n ticks acting c.this)) at_place ∙ given)
    (subst (λ hs. fold (other_takes (exchange n ticks) ticks) (c, outs) hs ≡ r) (drop_more hands i h within) k)

pub hands-left : (hands : List Hand) (i : ℕ) (h : Hand) → i < length hands → SoundHands (drop i hands) → SoundHands (drop (i + 1) hands)
hands-left hands i h within k = let all = subst SoundHands (drop_more hands i h within) k in (all.0.1, all.1.1)

pub rest-left : (n : ℕ) (ticks : Ticks) (one two : List Hand) (c : Connection) (outs : List Output) (r : Connection × List Output) → AreOfWhatCame c.this (one ++ two) c.that
    → fold (other_takes (exchange n ticks) ticks) (c, outs) one ≡ r → AreOfWhatCame r.0.this two r.0.that
rest-left n ticks one two c outs r k taken = subst (λ (done : Connection × List Output). AreOfWhatCame done.0.this two done.0.that) taken (rest-come n ticks one two (c, outs) k)
