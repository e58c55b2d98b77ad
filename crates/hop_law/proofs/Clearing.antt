-- What came in goes on, but by a reset.
use Rattle.std.proofs.Common.{◌≡◌, ◌⊎◌, inl, inr, ℕ, suc, ◌==◌, ◌&&◌, ◌||◌, not, nat_le, nat_lt, if◌then◌else◌, Bool, true, false, List, [], ◌∷◌, ◌++◌, length, map, fold, Option, Some, None, refl, sym, ◌∙◌, subst, append_assoc, append-nil}
use Rattle.std.specs.List.{list_any, AllByRecursion}
use Rattle.std.proofs.lemmas.Bool.{false≢true, eqb-true}
use Rattle.relay_base.specs.declared.causes.TheConstants.{ERROR_CLASS_MISMATCH, RESET_END_USER, RESET_INCORRECT_RECEIVE_NUMBER, RESET_OUT_OF_WINDOW, RESET_REMOTE_PROCEDURE_ERROR}
use Rattle.relay_base.specs.declared.limits.TheConstants.{LONGEST_TEXT}
use Rattle.relay_base.specs.declared.words.Event.{Event}
use Rattle.relay_base.specs.declared.words.Event.TheVariants.{Message as Arrived, Asked as Requested, Tick}
use Rattle.relay_base.specs.declared.words.Output.{Output}
use Rattle.relay_base.specs.declared.words.Reason.{Reason}
use Rattle.relay_base.specs.declared.words.Reason.TheVariants as reason
use Rattle.relay_base.specs.declared.words.Request.{Request}
use Rattle.relay_base.specs.declared.words.Request.TheVariants as request
use Rattle.plant_core.specs.declared.terms.Ticks.{Ticks}
use Rattle.q713_shape.specs.Writing.{octets_of}
use Rattle.q713_codec.specs.Writing.{spelling_of}
use Rattle.section_model.specs.declared.cell.Cell.{Cell}
use Rattle.section_model.specs.declared.cell.Cell.TheVariants as cell
use Rattle.section_model.specs.declared.cell.Occasion.{Occasion}
use Rattle.section_model.specs.declared.cell.Occasion.TheVariants as on
use Rattle.section_model.specs.declared.cell.SectionState.{SectionState}
use Rattle.section_model.specs.declared.cell.SectionState.TheVariants.{Waning, Up, Ending, Gone}
use Rattle.section_model.specs.declared.cell.Timer.{Timer}
use Rattle.section_model.specs.declared.cell.UserOccasion.{UserOccasion}
use Rattle.section_model.specs.declared.cell.UserState.{UserState}
use Rattle.section_model.specs.declared.cell.UserState.TheVariants as user
use Rattle.section_model.specs.declared.hand.Hand.{Hand}
use Rattle.section_model.specs.declared.hand.Hand.TheVariants as hand
use Rattle.section_model.specs.declared.hand.Acted.{Acted}
use Rattle.section_model.specs.Table.{section_row, user_row, section_cell}
use Rattle.section_model.specs.Parameters.{Parameters, Arrival, arrival_in}
use Rattle.section_model.specs.Timing.{firing_order, firing, rearmed}
use Rattle.section_model.specs.Ends.{End, wire, owner, DataUnit, Line, Section, User, Connection, turned, is_up, is_connected}
use Rattle.section_flow.specs.Windows.{is_valid, wrong_number}
use Rattle.section_model.specs.Line.{line_hears, line_fires, line_takes}
use Rattle.section_model.specs.Windowed.{Windowed, windowed_hears, windowed_fires, windowed_takes, resets, is_next, is_used_up, sends_expedited}
use Rattle.section_model.specs.UserEnd.{user_takes, user_asks, units_of, handed}
use Rattle.section_model.specs.Acting.{by_line, line_in, is_by_class, in_windows, section_hears, section_fires, section_takes, section_takes_by, user_takes_by, end_takes}
use Rattle.section_model.specs.Coupling.{with_more, other_takes, exchange, settles}
use Rattle.section_model.specs.Laws.{hands_of}
use Rattle.section_model.specs.Step.{checked, hears_checked, in_touch, is_from_elsewhere, hears_message, asking_cell, is_nothing, refusal, reason_against, asks_unless, asks, ticked, is_due_at, fires_at, fires, fires_next, fires_due, ticks_by, after_event, is_named, at_this, heard_by, asked_by, event_step, connection_step}
use Rattle.connection_law.specs.InStep.{Stage, section_stage, stage_at, class_at, got_at, sent_at, AreInStep, IsInStep}
use Rattle.connection_law.proofs.Cells.{IsResetComes, IsCellOf, cell_of}
use Rattle.connection_law.proofs.Flow.Flowing.{either}
use Rattle.connection_law.proofs.Message.Sent.{after_leaving}
use Rattle.connection_law.proofs.Reference.Ends.{Both}
use Rattle.hop_law.specs.TextLaw.{Begins}
use Rattle.hop_law.specs.EarlyLaw.{IsBefore, IsEmptyEarly}
use Rattle.hop_law.specs.ClearingLaw.{is_reset, SendsReset, NoClearing}
use Rattle.hop_law.specs.ClosingLaw.{may_take, is_resetting, IsNoOpening, StaysClosed}
use Rattle.hop_law.proofs.Cells.{as_occasion, taking_cell, IsResets, IsUserCellOf, as_asked, asking_cell_of, as_told, telling_cell}
use Rattle.hop_law.proofs.Effects.{AreTaken, exchanged}
use Rattle.hop_law.proofs.Exchanging.{both}
use Rattle.hop_law.proofs.Taking.{not_set_up}
use Rattle.hop_law.proofs.Passing.{second_true}
use Rattle.hop_law.proofs.Accepting.{any_first, any_last, any_after}
use Rattle.hop_law.proofs.Early.{KeptEarly, end_same, early_then, hears_early, section_fires_early, takes_early, asks_early}

pub all_of : (units : List DataUnit) → Begins units units
all_of units = record { more = []; is = sym (append-nil units) }

pub begins_then : (a b c : List DataUnit) → Begins a b → Begins b c → Begins a c
begins_then a b c one other = record { more = one.more ++ other.more; is = other.is ∙ rw one.is (append_assoc a one.more other.more) }

-- a state that stays, one in which no units are taken, and one that a section comes to where it takes units, or after a reset
as_was : (s : SectionState) → IsNoOpening s s
as_was s = λ none. (none, λ may. may)

shuts : (s t : SectionState) → is_resetting t ≡ false → may_take t ≡ false → IsNoOpening s t
shuts s t none shut = λ _. (none, λ may. absurd (false≢true (sym shut ∙ may)))

opens : (s t : SectionState) → may_take s ≡ true → is_resetting t ≡ false → IsNoOpening s t
opens s t could none = λ _. (none, λ _. could)

renews : (s t : SectionState) → is_resetting s ≡ true → IsNoOpening s t
renews s t resetting = λ none. absurd (false≢true (sym none ∙ resetting))

pub closed_same : (e : End) → StaysClosed e e
closed_same (wire x) = as_was x.head.state
closed_same (owner u) = tt

pub closed_then : (e f g : End) → StaysClosed e f → StaysClosed f g → StaysClosed e g
closed_then (wire x) (wire y) (wire z) a b = λ none. let one = a none in let other = b one.0 in (other.0, λ may. one.1 (other.1 may))
closed_then (owner u) (owner v) (owner w) a b = tt
closed_then (wire x) (wire y) (owner w) a b = absurd b
closed_then (owner u) (owner v) (wire z) a b = absurd b
closed_then (wire x) (owner v) g a b = absurd a
closed_then (owner u) (wire y) g a b = absurd a

-- From a stage, what came in, how many were sent and the class to those later on: but where the connection isn't set up, they go on.
abbrev pub GoesFrom : Stage → List DataUnit → ℕ → ℕ → List DataUnit → ℕ → ℕ → Type 0
GoesFrom s got sent class got' sent' class' = IsBefore s ⊎ (Begins got got' × (sent' ≡ sent) × (class' ≡ class))

abbrev GoesTo : End → End → Type 0
GoesTo e f = GoesFrom (stage_at e) (got_at e) (sent_at e) (class_at e) (got_at f) (sent_at f) (class_at f)

abbrev pub Goes : End → End → Type 0
Goes e f = KeptEarly e f × GoesTo e f × StaysClosed e f

goes_same : (e : End) → Goes e e
goes_same e = (end_same e, inr (all_of (got_at e), refl, refl), closed_same e)

goes_then : (e f g : End) → Goes e f → Goes f g → Goes e g
goes_then e f g one other = (
  early_then (stage_at e) (stage_at f) (stage_at g) (got_at e) (got_at f) (got_at g) one.0 other.0,
  in_turn one.0 one.1 other.1,
  closed_then e f g one.2 other.2,
)
  where
    in_turn : KeptEarly e f → GoesTo e f → GoesTo f g → GoesTo e g
    in_turn k (inl early) other = inl early
    in_turn k (inr one) (inl early) = inl (k early).0
    in_turn k (inr one) (inr other) = inr (begins_then (got_at e) (got_at f) (got_at g) one.0 other.0, other.1 ∙ one.1, other.2 ∙ one.2)

both_go_then : (c d e : Connection) → Both Goes c d → Both Goes d e → Both Goes c e
both_go_then c d e one other = (goes_then c.this d.this e.this one.0 other.0, goes_then c.that d.that e.that one.1 other.1)

both_go_same : (c : Connection) → Both Goes c c
both_go_same c = (goes_same c.this, goes_same c.that)

-- effects on the other end but a reset
abbrev IsNoReset : Hand → Type 0
IsNoReset (hand.Reset cause) = ⊥
IsNoReset _ = Unit {0}

abbrev AreNoReset : List Hand → Type 0
AreNoReset hands = AllByRecursion IsNoReset hands

-- an act that goes on, and hands no reset over
abbrev TakeGoes : End → End × Acted → Type 0
TakeGoes e done = GoesTo e done.0 × StaysClosed e done.0 × AreNoReset (hands_of done.1)

-- or one of class 3 that sends RSR or RSC
abbrev ActGoes : End → End × Acted → Type 0
ActGoes e done = ((class_at e ≡ 3) × SendsReset done.1.outs) ⊎ TakeGoes e done

-- The line: it comes up only where it isn't set up yet.

LineGoes : Line → Line × Acted → Type 0
LineGoes x done =
    (IsBefore (section_stage x.head.state) ⊎ (((is_up done.0.head.state && not (is_connected x.head.state)) ≡ false) × Begins x.got done.0.got × (done.0.head.class ≡ x.head.class)))
    × IsNoOpening x.head.state done.0.head.state × AreNoReset (hands_of done.1)

line_hears_goes : (c : Cell) (o : Occasion) (point : ℕ) (m : Parameters) (x : Line) → IsCellOf c o x.head.state → LineGoes x (line_hears c point m x)
unfolding line_hears LineGoes
line_hears_goes cell.Confirm o point m x is =
    either (LineGoes x) ((m.class == 2 || m.class == 3) && nat_le m.class x.head.class) _ _
    (λ _. (inl (rw is tt), opens x.head.state Up (rw is refl) refl, (tt, tt))) (λ _. (inr (refl, all_of x.got, refl), shuts x.head.state Ending refl refl, (tt, tt)))
line_hears_goes cell.ConfirmLate o point m x is = (inr (refl, all_of x.got, refl), shuts x.head.state Ending refl refl, tt)
line_hears_goes cell.Refused o point m x is = (inr (refl, all_of x.got, refl), shuts x.head.state Gone refl refl, (tt, tt))
line_hears_goes cell.Free o point m x is = (inr (refl, all_of x.got, refl), shuts x.head.state Gone refl refl, tt)
line_hears_goes cell.Released o point m x is = (inr (refl, all_of x.got, refl), shuts x.head.state Gone refl refl, (tt, tt))
line_hears_goes cell.ReleaseCollision o point m x is = (inr (refl, all_of x.got, refl), shuts x.head.state Gone refl refl, tt)
line_hears_goes cell.TakeData o point m x is = (inr (not_set_up x.head.state, record { more = _; is = refl }, refl), as_was x.head.state, (tt, tt))
line_hears_goes cell.ErrorReceived o point m x is =
    either (LineGoes x) (m.cause == ERROR_CLASS_MISMATCH) _ _ (λ _. (inr (refl, all_of x.got, refl), shuts x.head.state Ending refl refl, (tt, tt))) (λ _. (inr (refl, all_of x.got, refl), shuts x.head.state Gone refl refl, (tt, tt)))
line_hears_goes cell.TestReceived o point m x is =
    either (LineGoes x) (m.slr == x.head.other && m.class == x.head.class) _ _ (λ _. (inr (not_set_up x.head.state, all_of x.got, refl), as_was x.head.state, tt)) (λ _. (inr (refl, all_of x.got, refl), shuts x.head.state Ending refl refl, (tt, tt)))
line_hears_goes _ o point m x is = (inr (not_set_up x.head.state, all_of x.got, refl), as_was x.head.state, tt)

line_fires_goes : (c : Cell) (x : Line) → LineGoes x (line_fires c x)
unfolding line_fires LineGoes
line_fires_goes cell.NotAnswered x = (inr (refl, all_of x.got, refl), shuts x.head.state Gone refl refl, (tt, tt))
line_fires_goes cell.ResetExpired x = (inr (refl, all_of x.got, refl), shuts x.head.state Ending refl refl, (tt, tt))
line_fires_goes cell.PeerSilent x = (inr (refl, all_of x.got, refl), shuts x.head.state Ending refl refl, (tt, tt))
line_fires_goes cell.Free x = (inr (refl, all_of x.got, refl), shuts x.head.state Gone refl refl, tt)
line_fires_goes _ x = (inr (not_set_up x.head.state, all_of x.got, refl), as_was x.head.state, tt)

line_takes_goes : (c : Cell) (o : Occasion) (h : Hand) (x : Line) → IsCellOf c o x.head.state → LineGoes x (line_takes c h x)
unfolding line_takes LineGoes
line_takes_goes cell.PassAccept o (hand.Accept class credit called body importance) x is = (inl (rw is tt), opens x.head.state Up (rw is refl) refl, tt)
line_takes_goes cell.PassAccept o _ x is = (inr (not_set_up x.head.state, all_of x.got, refl), as_was x.head.state, tt)
line_takes_goes cell.PassRefuse o (hand.Refuse cause called body importance) x is = (inr (refl, all_of x.got, refl), shuts x.head.state Gone refl refl, tt)
line_takes_goes cell.PassRefuse o _ x is = (inr (not_set_up x.head.state, all_of x.got, refl), as_was x.head.state, tt)
line_takes_goes cell.PassEnd o (hand.End cause body importance) x is = (inr (refl, all_of x.got, refl), shuts x.head.state Ending refl refl, tt)
line_takes_goes cell.PassEnd o _ x is = (inr (not_set_up x.head.state, all_of x.got, refl), as_was x.head.state, tt)
line_takes_goes cell.KeepEnd o (hand.End cause body importance) x is = (inr (refl, all_of x.got, refl), shuts x.head.state Waning refl refl, tt)
line_takes_goes cell.KeepEnd o _ x is = (inr (not_set_up x.head.state, all_of x.got, refl), as_was x.head.state, tt)
line_takes_goes cell.PassUnit o (hand.Unit more body) x is = (inr (not_set_up x.head.state, all_of x.got, refl), as_was x.head.state, (tt, tt))
line_takes_goes cell.PassUnit o _ x is = (inr (not_set_up x.head.state, all_of x.got, refl), as_was x.head.state, tt)
line_takes_goes cell.Left o (hand.Left units expedited) x is = (inr (not_set_up x.head.state, all_of x.got, refl), as_was x.head.state, tt)
line_takes_goes cell.Left o _ x is = (inr (not_set_up x.head.state, all_of x.got, refl), as_was x.head.state, tt)
line_takes_goes _ o h x is = (inr (not_set_up x.head.state, all_of x.got, refl), as_was x.head.state, tt)

-- The windows.

WindowsTake : Windowed → Windowed × Acted → Type 0
WindowsTake x done = Begins x.windows.got done.0.windows.got × (done.0.windows.sent ≡ x.windows.sent) × (done.0.head.class ≡ x.head.class) × IsNoOpening x.head.state done.0.head.state × AreNoReset (hands_of done.1)

WindowsGo : Windowed → Windowed × Acted → Type 0
WindowsGo x done = SendsReset done.1.outs ⊎ WindowsTake x done

resets_go : (cause : ℕ) (x : Windowed) → WindowsGo x (resets cause x)
unfolding WindowsGo spelling_of octets_of
resets_go cause x = inl refl

expedites_go : (body : Option (List ℕ)) (x : Windowed) → WindowsTake x (sends_expedited body x)
unfolding WindowsTake
expedites_go None x = (all_of x.windows.got, refl, refl, as_was x.head.state, tt)
expedites_go (Some body) x = (all_of x.windows.got, refl, refl, as_was x.head.state, (tt, tt))

windowed_hears_goes : (c : Cell) (o : Occasion) (m : Parameters) (x : Windowed) → IsCellOf c o x.head.state → WindowsGo x (windowed_hears c m x)
unfolding windowed_hears WindowsGo WindowsTake spelling_of octets_of
windowed_hears_goes cell.TakeNumberedData o m x is =
    either (WindowsGo x) (not (is_next m x)) _ _ (λ _. resets_go (wrong_number x.windows) x)
    (λ _. either (WindowsGo x) (is_used_up x) _ _ (λ _. resets_go RESET_OUT_OF_WINDOW x)
    (λ _. either (WindowsGo x) (not (is_valid m.pr x.windows)) _ _ (λ _. resets_go RESET_INCORRECT_RECEIVE_NUMBER x)
    (λ _. inr (record { more = _; is = refl }, refl, refl, as_was x.head.state, (tt, tt)))))
windowed_hears_goes cell.TakeAcknowledgement o m x is =
    either (WindowsGo x) (is_valid m.pr x.windows) _ _ (λ _. inr (all_of x.windows.got, refl, refl, as_was x.head.state, tt)) (λ _. resets_go RESET_INCORRECT_RECEIVE_NUMBER x)
windowed_hears_goes cell.TakeExpedited o m x is =
    either (WindowsGo x) x.windows.owed _ _ (λ _. resets_go RESET_REMOTE_PROCEDURE_ERROR x) (λ _. inr (all_of x.windows.got, refl, refl, as_was x.head.state, (tt, tt)))
windowed_hears_goes cell.TakeExpeditedAcknowledgement o m x is =
    either (WindowsGo x) x.windows.unanswered _ _
    (λ _. inr (expedites_go x.windows.waiting (record x { windows = record x.windows { unanswered = false } }))) (λ _. inr (all_of x.windows.got, refl, refl, as_was x.head.state, tt))
windowed_hears_goes cell.ResetByPeer o m x is = inl refl
windowed_hears_goes cell.ResetComplete o m x is = inr (all_of x.windows.got, refl, refl, renews x.head.state Up (rw is refl), (tt, tt))
windowed_hears_goes _ o m x is = inr (all_of x.windows.got, refl, refl, as_was x.head.state, tt)

windowed_takes_goes : (c : Cell) (o : Occasion) (h : Hand) (x : Windowed) → (IsResetComes o → ⊥) → IsCellOf c o x.head.state → WindowsTake x (windowed_takes c h x)
unfolding windowed_takes WindowsTake
windowed_takes_goes cell.PassUnit o (hand.Unit more body) x plain is = (all_of x.windows.got, refl, refl, as_was x.head.state, tt)
windowed_takes_goes cell.PassUnit o _ x plain is = (all_of x.windows.got, refl, refl, as_was x.head.state, tt)
windowed_takes_goes cell.PassExpedited o (hand.Expedited body) x plain is =
    either (WindowsTake x) (is_up x.head.state && not x.windows.unanswered) _ _ (λ _. expedites_go (Some body) x) (λ _. (all_of x.windows.got, refl, refl, as_was x.head.state, tt))
windowed_takes_goes cell.PassExpedited o _ x plain is = (all_of x.windows.got, refl, refl, as_was x.head.state, tt)
windowed_takes_goes cell.PassReset o h x plain is = absurd (plain is)
windowed_takes_goes cell.ClearCounts o h x plain is = absurd (plain is)
windowed_takes_goes cell.Left o (hand.Left units true) x plain is = (all_of x.windows.got, refl, refl, as_was x.head.state, tt)
windowed_takes_goes cell.Left o (hand.Left units false) x plain is = (all_of x.windows.got, refl, refl, as_was x.head.state, tt)
windowed_takes_goes cell.Left o _ x plain is = (all_of x.windows.got, refl, refl, as_was x.head.state, tt)
windowed_takes_goes _ o h x plain is = (all_of x.windows.got, refl, refl, as_was x.head.state, tt)

-- A section.

SectionTakes : Section → Section × Acted → Type 0
SectionTakes x done = GoesTo (wire x) (wire done.0) × IsNoOpening x.head.state done.0.head.state × AreNoReset (hands_of done.1)

SectionGoes : Section → Section × Acted → Type 0
SectionGoes x done = ((x.head.class ≡ 3) × SendsReset done.1.outs) ⊎ SectionTakes x done

by_line_goes : (x : Section) (act : Line → Line × Acted) → LineGoes (line_in x) (act (line_in x)) → SectionTakes x (by_line act x)
unfolding LineGoes SectionTakes
by_line_goes x act g = (goes g.0, g.1, g.2)
  where
    goes : IsBefore (section_stage x.head.state) ⊎ (((is_up (act (line_in x)).0.head.state && not (is_connected x.head.state)) ≡ false) × Begins x.windows.got (act (line_in x)).0.got × ((act (line_in x)).0.head.class ≡ x.head.class))
        → GoesTo (wire x) (wire (by_line act x).0)
    goes (inl early) = inl early
    goes (inr g) = inr (rw g.0 (g.1, refl, g.2))

is_windowed : (c : Cell) (x : Section) → in_windows c x ≡ true → x.head.class ≡ 3
is_windowed c x is = eqb-true x.head.class 3 (second_true (is_by_class c) (x.head.class == 3) is)

section_hears_goes : (ticks : Ticks) (c : Cell) (o : Occasion) (point : ℕ) (m : Parameters) (x : Section) → IsCellOf c o x.head.state → ActGoes (wire x) (section_hears ticks c point m x)
unfolding section_hears SectionGoes SectionTakes WindowsGo WindowsTake
section_hears_goes ticks c o point m x is =
    either (SectionGoes x) (in_windows c x) _ _
    (λ class. by_windows_go (windowed_hears c m (record { head = x.head; windows = x.windows })) (is_windowed c x class) (windowed_hears_goes c o m (record { head = x.head; windows = x.windows }) is))
    (λ _. inr (by_line_goes x (line_hears c point m) (line_hears_goes c o point m (line_in x) is)))
  where
    by_windows_go : (done : Windowed × Acted) → x.head.class ≡ 3 → WindowsGo (record { head = x.head; windows = x.windows }) done
        → SectionGoes x (record x { head = done.0.head; windows = done.0.windows }, done.1)
    by_windows_go done three (inl reset) = inl (three, reset)
    by_windows_go done three (inr g) = inr (inr (g.0, g.1, g.2), g.3, g.4)

section_fires_goes : (ticks : Ticks) (c : Cell) (x : Section) → TakeGoes (wire x) (section_fires ticks c x)
unfolding section_fires windowed_fires SectionTakes
section_fires_goes ticks c x =
    either (SectionTakes x) (in_windows c x) _ _ (λ _. (inr (all_of x.windows.got, refl, refl), as_was x.head.state, tt)) (λ _. by_line_goes x (line_fires c) (line_fires_goes c (line_in x)))

section_takes_goes : (ticks : Ticks) (c : Cell) (o : Occasion) (h : Hand) (x : Section) → (IsResetComes o → ⊥) → IsCellOf c o x.head.state → TakeGoes (wire x) (section_takes ticks c h x)
unfolding section_takes SectionTakes WindowsTake
section_takes_goes ticks c o h x plain is =
    either (SectionTakes x) (in_windows c x) _ _
    (λ _. let g = windowed_takes_goes c o h (record { head = x.head; windows = x.windows }) plain is in (inr (g.0, g.1, g.2), g.3, g.4))
    (λ _. by_line_goes x (line_takes c h) (line_takes_goes c o h (line_in x) is))

-- A user's end.

UserGoes : User → User × Acted → Type 0
UserGoes u done = GoesTo (owner u) (owner done.0) × Unit {0} × AreNoReset (hands_of done.1)

as_is : (u : User) → GoesTo (owner u) (owner u)
as_is u = inr (all_of u.got, refl, refl)

user_takes_goes : (c : Cell) (o : UserOccasion) (h : Hand) (u : User) → IsNoReset h → IsUserCellOf c o u.state → UserGoes u (user_takes c h u)
unfolding user_takes UserGoes
user_takes_goes cell.TellConfirm o (hand.Accept class credit called body importance) u plain is = (inl is, tt, tt)
user_takes_goes cell.TellConfirm o _ u plain is = (as_is u, tt, tt)
user_takes_goes cell.TellDisconnect o (hand.Refuse cause called body importance) u plain is = (as_is u, tt, tt)
user_takes_goes cell.TellDisconnect o (hand.End cause body importance) u plain is = (as_is u, tt, tt)
user_takes_goes cell.TellDisconnect o _ u plain is = (as_is u, tt, tt)
user_takes_goes cell.TellUnit o (hand.Unit more body) u plain is =
    either (UserGoes u) (nat_lt LONGEST_TEXT (length (u.text ++ body))) _ _ (λ _. (as_is u, tt, (tt, tt)))
    (λ _. either (UserGoes u) more _ _ (λ _. (as_is u, tt, (tt, tt))) (λ _. (as_is u, tt, (tt, tt))))
user_takes_goes cell.TellUnit o _ u plain is = (as_is u, tt, tt)
user_takes_goes cell.TellExpedited o (hand.Expedited body) u plain is = (as_is u, tt, (tt, tt))
user_takes_goes cell.TellExpedited o _ u plain is = (as_is u, tt, tt)
user_takes_goes cell.TellReset o (hand.Reset cause) u plain is = absurd plain
user_takes_goes cell.TellReset o _ u plain is = (as_is u, tt, tt)
user_takes_goes cell.TellResetDone o h u plain is = (as_is u, tt, tt)
user_takes_goes cell.Left o (hand.Left units expedited) u plain is = (as_is u, tt, tt)
user_takes_goes cell.Left o _ u plain is = (as_is u, tt, tt)
user_takes_goes _ o h u plain is = (as_is u, tt, tt)

units_no_reset : (units : List DataUnit) → AreNoReset (map handed units)
units_no_reset [] = tt
units_no_reset (u ∷ units) = (tt, units_no_reset units)

user_asks_goes : (c : Cell) (o : UserOccasion) (r : Request) (u : User) → (IsResets o → ⊥) → IsUserCellOf c o u.state → UserGoes u (user_asks c r u)
unfolding user_asks UserGoes
user_asks_goes cell.UserSends o (request.Send mine body) u plain is = (inr (record { more = units_of body; is = refl }, refl, refl), tt, units_no_reset (units_of body))
user_asks_goes cell.UserSends o _ u plain is = (as_is u, tt, tt)
user_asks_goes cell.UserAccepts o (request.Accept mine class credit body) u plain is = (inl is, tt, (tt, tt))
user_asks_goes cell.UserAccepts o _ u plain is = (as_is u, tt, tt)
user_asks_goes cell.UserRefuses o (request.Refuse mine cause body) u plain is = (as_is u, tt, (tt, tt))
user_asks_goes cell.UserRefuses o _ u plain is = (as_is u, tt, tt)
user_asks_goes cell.UserExpedites o (request.Expedite mine body) u plain is = (as_is u, tt, (tt, tt))
user_asks_goes cell.UserExpedites o _ u plain is = (as_is u, tt, tt)
user_asks_goes cell.UserResets o r u plain is = absurd (plain is)
user_asks_goes cell.UserDisconnects o (request.Disc mine cause body) u plain is = (as_is u, tt, (tt, tt))
user_asks_goes cell.UserDisconnects o _ u plain is = (as_is u, tt, tt)
user_asks_goes _ o r u plain is = (as_is u, tt, tt)

-- What the ends hand to each other.

no_reset_comes : (h : Hand) → IsNoReset h → IsResetComes (as_occasion h) → ⊥
no_reset_comes (hand.Reset cause) plain is = plain
no_reset_comes _ plain is = is

takes_goes : (ticks : Ticks) (h : Hand) (e : End) → IsNoReset h → TakeGoes e (end_takes ticks h e)
unfolding UserGoes
takes_goes ticks h (wire x) plain = section_takes_goes ticks (section_takes_by x.head.state h) (as_occasion h) h x (no_reset_comes h plain) (taking_cell h x.head.state)
takes_goes ticks h (owner u) plain = user_takes_goes (user_takes_by u.state h) (as_told h) h u plain (telling_cell h u.state)

goes_taken : (ticks : Ticks) → AreTaken ticks IsNoReset (λ outs. Unit {0}) Goes
goes_taken ticks = record {
  same = goes_same;
  in_turn = goes_then;
  none = tt;
  joined = λ one other p q. tt;
  takes = λ h e plain. let t = takes_goes ticks h e plain in ((takes_early ticks h e, t.0, t.1), tt, t.2);
}

settled_goes : (ticks : Ticks) (this that : End) (acting : End × Acted) → KeptEarly this acting.0 → TakeGoes this acting → Both Goes (both this that) (settles ticks acting that).0
settled_goes ticks this that acting k t =
    both_go_then (both this that) (both acting.0 that) (settles ticks acting that).0 ((k, t.0, t.1), goes_same that) (exchanged (goes_taken ticks) 2 acting that tt t.2).0

-- the outputs of an act are among those of the exchange
folded : (p : Output → Bool) (n : ℕ) (ticks : Ticks) (hands : List Hand) (r : Connection × List Output) → list_any p r.1 ≡ true
    → list_any p (fold (other_takes (exchange n ticks) ticks) r hands).1 ≡ true
folded p n ticks [] r is = is
folded p n ticks (h ∷ hands) r is = folded p n ticks hands (other_takes (exchange n ticks) ticks r h) (any_first p r.1 _ is)

pub in_exchange : (p : Output → Bool) (n : ℕ) (ticks : Ticks) (acting : End × Acted) (that : End) → list_any p acting.1.outs ≡ true → list_any p (exchange (suc n) ticks acting that).1 ≡ true
unfolding exchange
in_exchange p n ticks acting that is =
    let first = fold (other_takes (exchange n ticks) ticks) (both acting.0 that, []) acting.1.first in
    folded p n ticks acting.1.then (with_more acting.1.outs first) (any_last p first.1 acting.1.outs is)

-- A part of a step.

StepGoes : Connection → Connection × List Output → Type 0
StepGoes c r = ((class_at c.this ≡ 3) × SendsReset r.1) ⊎ Both Goes c r.0

stays : (c : Connection) (outs : List Output) → StepGoes c (c, outs)
unfolding StepGoes
stays c outs = inr (both_go_same c)

acts : (ticks : Ticks) (this that : End) (acting : End × Acted) → KeptEarly this acting.0 → ActGoes this acting → StepGoes (both this that) (settles ticks acting that)
unfolding StepGoes
acts ticks this that acting k (inl reset) = inl (reset.0, in_exchange is_reset 1 ticks acting that reset.1)
acts ticks this that acting k (inr t) = inr (settled_goes ticks this that acting k t)

seen_back : (c : Connection) (r : Connection × List Output) → IsInStep c → StepGoes (turned c) r → StepGoes c (turned r.0, r.1)
unfolding StepGoes
seen_back c r k (inl reset) = inl (k.1 ∙ reset.0, reset.1)
seen_back c r k (inr goes) = inr (goes.1, goes.0)

-- A message.

checked_goes : (ticks : Ticks) (o : Occasion) (point : ℕ) (m : Parameters) (x : Section) (c : Option Output) → ActGoes (wire x) (hears_checked ticks o point m (in_touch ticks x) c)
checked_goes ticks o point m x (Some out) = inr (inr (all_of x.windows.got, refl, refl), as_was x.head.state, tt)
checked_goes ticks o point m x None = section_hears_goes ticks (section_cell x.head.state o) o point m (in_touch ticks x) (cell_of o x.head.state)

hears_goes : (ticks : Ticks) (o : Occasion) (point : ℕ) (m : Parameters) (x : Section) (that : End) → StepGoes (both (wire x) that) (hears_message ticks o point m x that)
unfolding hears_message
hears_goes ticks o point m x that =
    either (StepGoes (both (wire x) that)) (is_from_elsewhere point x.head) _ _ (λ _. stays (both (wire x) that) _)
    (λ _. acts ticks (wire x) that _ (hears_early ticks o point m x (checked o m x.head)) (checked_goes ticks o point m x (checked o m x.head)))

at_this_goes : (part : Section → End → Connection × List Output) → ((x : Section) (that : End) → StepGoes (both (wire x) that) (part x that)) → (this that : End)
    → StepGoes (both this that) (at_this part (both this that))
at_this_goes part goes (wire x) that = goes x that
at_this_goes part goes (owner u) that = stays (both (owner u) that) []

heard_goes : (ticks : Ticks) (point : ℕ) (a : Option Arrival) (c : Connection) → IsInStep c → StepGoes c (heard_by ticks point a c)
heard_goes ticks point None c k = stays c []
heard_goes ticks point (Some a) c k =
    let part = hears_message ticks a.occasion point a.parameters in
    let goes = hears_goes ticks a.occasion point a.parameters in
    either (StepGoes c) (is_named a.parameters.dlr c.this) _ _ (λ _. at_this_goes part goes c.this c.that)
    (λ _. seen_back c (at_this part (turned c)) k (at_this_goes part goes c.that c.this))

-- A request.

pub resets_up : (ticks : Ticks) (cause : ℕ) (x : Section) → x.head.state ≡ Up → x.head.class ≡ 3 → SendsReset (end_takes ticks (hand.Reset cause) (wire x)).1.outs
unfolding section_row section_takes windowed_takes spelling_of octets_of
resets_up ticks cause x up three =
    subst (λ s. SendsReset (section_takes ticks (section_cell s on.ResetComes) (hand.Reset cause) x).1.outs) (sym up)
    (either (λ (done : Section × Acted). SendsReset done.1.outs) (x.head.class == 3) _ _ (λ _. refl) (λ other. absurd (false≢true (sym other ∙ rw three refl))))

user_reset_goes : (ticks : Ticks) (mine : ℕ) (u : User) (x : Section) → x.head.state ≡ Up → (u.class ≡ 3) × (x.head.class ≡ 3)
    → StepGoes (both (owner u) (wire x)) (settles ticks (let done = user_asks cell.UserResets (request.Reset mine) u in (owner done.0, done.1)) (wire x))
unfolding StepGoes exchange user_asks
user_reset_goes ticks mine u x up three =
    inl (three.0, in_exchange is_reset 0 ticks (end_takes ticks (hand.Reset RESET_END_USER) (wire x)) (owner (user_asks cell.UserResets (request.Reset mine) u).0) (resets_up ticks RESET_END_USER x up three.1))

-- a reset is asked for where the section is up, of a class but 2
pub may_reset : (mine : ℕ) (u : User) (x : Section) → reason_against (request.Reset mine) u x ≡ None
    → (asking_cell u.state (request.Reset mine) ≡ cell.UserResets) × ((u.class == 2) ≡ false) × (x.head.state ≡ Up)
unfolding user_row
may_reset mine u x none = by_state u.state none
  where
    by_section : (two : Bool) (s : SectionState) → (if two then Some reason.Class else if is_up s then None else Some reason.State) ≡ None → (two ≡ false) × (s ≡ Up)
    by_section true s none = absurd (no_reason none)
      where
        no_reason : Some reason.Class ≡ None → ⊥
        no_reason e = cc
    by_section false Up none = (refl, refl)
    by_section false _ none = absurd (no_reason none)
      where
        no_reason : Some reason.State ≡ None → ⊥
        no_reason e = cc

    by_state : (s : UserState) → (if is_nothing (asking_cell s (request.Reset mine)) then Some reason.State else refusal (request.Reset mine) u x) ≡ None
        → (asking_cell s (request.Reset mine) ≡ cell.UserResets) × ((u.class == 2) ≡ false) × (x.head.state ≡ Up)
    by_state user.Ready none = let section = by_section (u.class == 2) x.head.state none in (refl, section.0, section.1)
    by_state _ none = absurd (no_reason none)
      where
        no_reason : Some reason.State ≡ None → ⊥
        no_reason e = cc

asks_unless_goes : (why : Option Reason) (ticks : Ticks) (r : Request) (u : User) (x : Section) → reason_against r u x ≡ why → u.class ≡ x.head.class → (u.class ≡ 2) ⊎ (u.class ≡ 3)
    → StepGoes (both (owner u) (wire x)) (asks_unless why ticks r u x)
unfolding UserGoes
asks_unless_goes (Some why) ticks r u x e same class = stays (both (owner u) (wire x)) _
asks_unless_goes None ticks (request.Reset mine) u x e same class =
    let may = may_reset mine u x e in
    subst (λ c. StepGoes (both (owner u) (wire x)) (settles ticks (let done = user_asks c (request.Reset mine) u in (owner done.0, done.1)) (wire x))) (sym may.0)
    (user_reset_goes ticks mine u x may.2 (of_three class may.1, sym same ∙ of_three class may.1))
  where
    of_three : (u.class ≡ 2) ⊎ (u.class ≡ 3) → (u.class == 2) ≡ false → u.class ≡ 3
    of_three (inl two) other = absurd (false≢true (sym other ∙ rw two refl))
    of_three (inr three) other = three
asks_unless_goes None ticks r u x e same class =
    acts ticks (owner u) (wire x) _ (asks_early r u) (inr (user_asks_goes (asking_cell u.state r) (as_asked r) r u (λ is. is) (asking_cell_of r u.state)))

asks_goes : (ticks : Ticks) (ssn : ℕ) (r : Request) (this that : End) → class_at this ≡ class_at that → (class_at this ≡ 2) ⊎ (class_at this ≡ 3)
    → StepGoes (both this that) (asks ticks ssn r this that)
unfolding asks
asks_goes ticks ssn r (owner u) (wire x) same class =
    either (StepGoes (both (owner u) (wire x))) (u.ssn == ssn) _ _
    (λ _. asks_unless_goes (reason_against r u x) ticks r u x refl same class) (λ _. stays (both (owner u) (wire x)) _)
asks_goes ticks ssn r (owner u) (owner v) same class = stays (both (owner u) (owner v)) _
asks_goes ticks ssn r (wire x) that same class = stays (both (wire x) that) _

asked_goes : (ticks : Ticks) (ssn : ℕ) (r : Request) (this that : End) → AreInStep this that → (class_at this ≡ 2) ⊎ (class_at this ≡ 3)
    → StepGoes (both this that) (asked_by ticks ssn r (both this that))
asked_goes ticks ssn r (owner u) that k class = asks_goes ticks ssn r (owner u) that k.1 class
asked_goes ticks ssn r (wire x) that k class =
    seen_back (both (wire x) that) (asks ticks ssn r that (wire x)) k (asks_goes ticks ssn r that (wire x) (sym k.1) (rw (← k.1) class))

-- A tick.

fires_at_goes : (ticks : Ticks) (timer : Timer) (this that : End) → Both Goes (both this that) (fires_at ticks timer this that).0
fires_at_goes ticks timer (wire x) that =
    let c = section_cell x.head.state (firing timer) in
    let y : Section = record x { timers = rearmed ticks timer x.timers } in
    settled_goes ticks (wire x) that (section_fires ticks c y) (section_fires_early ticks c y) (section_fires_goes ticks c y)
fires_at_goes ticks timer (owner u) that = both_go_same (both (owner u) that)

fires_goes : (ticks : Ticks) (timer : Timer) (this that : End) → Both Goes (both this that) (fires ticks timer this that).0
fires_goes ticks timer this that =
    either (λ (r : Connection × List Output). Both Goes (both this that) r.0) (is_due_at timer this) _ _
    (λ _. fires_at_goes ticks timer this that) (λ _. both_go_same (both this that))

fire_in_order : (ticks : Ticks) (timers : List Timer) (r : Connection × List Output) → Both Goes r.0 (fold (fires_next ticks) r timers).0
fire_in_order ticks [] r = both_go_same r.0
fire_in_order ticks (timer ∷ timers) r =
    let one = fires_next ticks r timer in
    both_go_then r.0 one.0 (fold (fires_next ticks) one timers).0 (fires_goes ticks timer r.0.this r.0.that) (fire_in_order ticks timers one)

fires_due_goes : (ticks : Ticks) (c : Connection) → Both Goes c (fires_due ticks c).0
unfolding fires_due
fires_due_goes ticks c = fire_in_order ticks firing_order (c, [])

ticked_goes : (e : End) → Goes e (ticked e)
ticked_goes (wire x) = goes_same (wire x)
ticked_goes (owner u) = goes_same (owner u)

ticks_go : (ticks : Ticks) (c : Connection) → Both Goes c (ticks_by ticks c).0
ticks_go ticks c =
    let lower = both (ticked c.this) (ticked c.that) in
    let one = fires_due ticks lower in
    let other = fires_due ticks (turned one.0) in
    let back = fires_due_goes ticks (turned one.0) in
    both_go_then c one.0 (turned other.0) (both_go_then c lower one.0 (ticked_goes c.this, ticked_goes c.that) (fires_due_goes ticks lower)) (back.1, back.0)

-- The event, and the step.

pub event_goes : (ticks : Ticks) (c : Connection) (event : Event) → IsInStep c → (class_at c.this ≡ 2) ⊎ (class_at c.this ≡ 3)
    → ((class_at c.this ≡ 3) × SendsReset (event_step ticks c event).1) ⊎ Both Goes c (event_step ticks c event).0
unfolding StepGoes
event_goes ticks c (Arrived point sls bytes) k class = heard_goes ticks point (arrival_in bytes) c k
event_goes ticks c (Requested ssn r) k class = asked_goes ticks ssn r c.this c.that k class
event_goes ticks c Tick k class = inr (ticks_go ticks c)

goes_on : (e acted after : End) → IsEmptyEarly e → Goes e acted → got_at after ≡ got_at acted → Begins (got_at e) (got_at after)
goes_on e acted after empty goes same = rw same (by_stage goes.1)
  where
    by_stage : GoesTo e acted → Begins (got_at e) (got_at acted)
    by_stage (inl early) = record { more = got_at acted; is = rw (empty early) refl }
    by_stage (inr goes) = goes.0

pub no_clearing : NoClearing
unfolding connection_step
no_clearing ticks c event k class this_empty that_empty =
    let r = event_step ticks c event in
    let left = after_leaving ticks r in
    by_event r left.0.got left.1.got (event_goes ticks c event k class)
  where
    by_event : (r : Connection × List Output) → got_at (after_event ticks r).0.this ≡ got_at r.0.this → got_at (after_event ticks r).0.that ≡ got_at r.0.that
        → ((class_at c.this ≡ 3) × SendsReset r.1) ⊎ Both Goes c r.0
        → (let s = after_event ticks r in ((class_at c.this ≡ 3) × SendsReset s.1) ⊎ (Begins (got_at c.this) (got_at s.0.this) × Begins (got_at c.that) (got_at s.0.that)))
    by_event r this that (inl reset) = inl (reset.0, any_after is_reset ticks r reset.1)
    by_event r this that (inr goes) =
        let s = after_event ticks r in inr (goes_on c.this r.0.this s.0.this this_empty goes.0 this, goes_on c.that r.0.that s.0.that that_empty goes.1 that)
