-- What came in at an end goes on, or begins anew, act by act.
use Rattle.std.proofs.Common.{◌≡◌, ℕ, ◌+◌, ◌≤◌, ◌==◌, ◌&&◌, ◌||◌, nat_le, nat_lt, not, true, false, List, [], ◌∷◌, ◌++◌, length, if◌then◌else◌, Option, Some, None, refl, sym, arith, zero-le, append-nil, append_assoc, length-append, add-zero, inl, inr, ◌⊎◌}
use Rattle.std.proofs.lemmas.Bool.{eqb-false}
use Rattle.relay_base.specs.declared.causes.TheConstants.{ERROR_CLASS_MISMATCH, RESET_INCORRECT_RECEIVE_NUMBER, RESET_OUT_OF_WINDOW, RESET_REMOTE_PROCEDURE_ERROR}
use Rattle.relay_base.specs.declared.limits.TheConstants.{LONGEST_TEXT}
use Rattle.plant_core.specs.declared.terms.Ticks.{Ticks}
use Rattle.relay_base.specs.declared.words.Request.{Request}
use Rattle.relay_base.specs.declared.words.Request.TheVariants as request
use Rattle.section_model.specs.declared.cell.Cell.{Cell}
use Rattle.section_model.specs.declared.cell.Cell.TheVariants as cell
use Rattle.section_model.specs.declared.cell.SectionState.{SectionState}
use Rattle.section_model.specs.declared.cell.SectionState.TheVariants.{Asked, Asking}
use Rattle.section_model.specs.declared.cell.Occasion.{Occasion}
use Rattle.section_model.specs.declared.cell.Occasion.TheVariants as on
use Rattle.section_model.specs.Table.{section_row, section_cell}
use Rattle.section_model.specs.declared.hand.Hand.{Hand}
use Rattle.section_model.specs.declared.hand.Hand.TheVariants as hand
use Rattle.section_flow.specs.declared.unit.Unit.{Unit as DataUnit}
use Rattle.section_model.specs.declared.hand.Acted.{Acted}
use Rattle.section_model.specs.Parameters.{Parameters}
use Rattle.section_model.specs.Ends.{End, wire, owner, Line, Section, User, is_up, is_connected}
use Rattle.section_flow.specs.Windows.{Windows, is_valid, wrong_number}
use Rattle.section_model.specs.Line.{line_hears, line_fires, line_takes, passes_accept, passes_refuse, passes_end, keeps_end, passes_unit, counts_passed}
use Rattle.section_model.specs.Windowed.{Windowed, windowed_hears, windowed_fires, windowed_takes, resets, is_next, is_used_up, takes_data, sends_expedited, queues_unit, passes_expedited, passes_reset, counts_left}
use Rattle.section_model.specs.UserEnd.{user_takes, user_asks, units_of, tells_confirm as user_confirmed, tells_disconnect, collects, tells_expedited, tells_reset, user_counts_left as user_left, accepts, refuses, sends, expedites as user_expedites, disconnects}
use Rattle.section_model.specs.Acting.{by_windows, by_line, line_in, is_by_class, in_windows, windows_after, section_hears, section_fires, section_takes, section_takes_by, user_takes_by, end_takes}
use Rattle.section_model.specs.Laws.{hands_of}
use Rattle.connection_law.specs.InStep.{passed_at, got_at}
use Rattle.connection_law.proofs.Flow.Flowing.{either, IsSection}

-- So many left, of these units; then so many, of those: they go on, or begin anew.
pub data Growth (passed : ℕ) (got : List DataUnit) (passed' : ℕ) (got' : List DataUnit) : Type 0 where
  begins_anew : passed' ≡ 0 → Growth passed got passed' got'
  goes_on : (more : List DataUnit) → passed' ≡ passed → got' ≡ got ++ more → Growth passed got passed' got'

abbrev pub GrowsBy : ℕ → List DataUnit → ℕ → List DataUnit → Type 0
GrowsBy passed got passed' got' = passed ≤ length got → (passed' ≤ length got') × Growth passed got passed' got'

abbrev pub GrowsAt : End → End → Type 0
GrowsAt e e' = GrowsBy (passed_at e) (got_at e) (passed_at e') (got_at e')

pub same_grows : (passed : ℕ) (got : List DataUnit) → GrowsBy passed got passed got
same_grows passed got = λ within. (within, goes_on [] refl (sym (append-nil got)))

cleared_grows : (passed : ℕ) (got : List DataUnit) → GrowsBy passed got 0 []
cleared_grows passed got = λ within. (zero-le, begins_anew refl)

more_grows : (passed : ℕ) (got more : List DataUnit) → GrowsBy passed got passed (got ++ more)
more_grows passed got more = λ within. (rw (length-append got more) (omega (arith, within)), goes_on more refl refl)

no_more_grows : (passed : ℕ) (got : List DataUnit) (units : ℕ) → units ≡ 0 → GrowsBy passed got (passed + units) got
no_more_grows passed got units none = rw (none, add-zero passed) (same_grows passed got)

pub then_grows : (p q r : ℕ) (a b c : List DataUnit) → GrowsBy p a q b → GrowsBy q b r c → GrowsBy p a r c
then_grows p q r a b c f g = λ within. let one = f within in let two = g one.0 in (two.0, joined one.1 two.1)
  where
    joined : Growth p a q b → Growth q b r c → Growth p a r c
    joined one (begins_anew e) = begins_anew e
    joined (begins_anew e) (goes_on more e' g') = begins_anew (rw e' e)
    joined (goes_on more e g) (goes_on more' e' g') = goes_on (more ++ more') (rw e' e) (rw (g', g) (append_assoc a more more'))

-- No units left, by what a section hands over but after an event.
unfoldable pub NoUnits : Hand → Type 0
NoUnits (hand.Left units expedited) = units ≡ 0
NoUnits _ = Unit {0}

unfoldable pub NoneLeft : List Hand → Type 0
NoneLeft [] = Unit {0}
NoneLeft (h ∷ hands) = NoUnits h × NoneLeft hands

-- The windows of a section: the units sent are none, or as many as before, and the class is that from before.

abbrev pub CountsOn : ℕ → ℕ → ℕ → ℕ → Type 0
CountsOn class sent class' sent' = (sent' ≡ 0) ⊎ ((class' ≡ class) × (sent' ≡ sent))

WindowsGrow : Windowed → Windowed × Acted → Type 0
WindowsGrow x r =
    GrowsBy x.windows.passed x.windows.got r.0.windows.passed r.0.windows.got × NoneLeft (hands_of r.1) × CountsOn x.head.class x.windows.sent r.0.head.class r.0.windows.sent

resets_grow : (cause : ℕ) (x : Windowed) → WindowsGrow x (resets cause x)
unfolding WindowsGrow NoneLeft NoUnits
resets_grow cause x = (cleared_grows x.windows.passed x.windows.got, (tt, tt), inl refl)

data_grows : (m : Parameters) (x : Windowed) → WindowsGrow x (takes_data m x)
unfolding WindowsGrow NoneLeft NoUnits
data_grows m x =
    either (WindowsGrow x) (not (is_next m x)) _ _ (λ _. resets_grow (wrong_number x.windows) x)
    (λ _. either (WindowsGrow x) (is_used_up x) _ _ (λ _. resets_grow RESET_OUT_OF_WINDOW x)
    (λ _. either (WindowsGrow x) (not (is_valid m.pr x.windows)) _ _ (λ _. resets_grow RESET_INCORRECT_RECEIVE_NUMBER x)
    (λ _. (more_grows x.windows.passed x.windows.got _, (tt, tt), inr (refl, refl)))))

expedites_grow : (body : Option (List ℕ)) (x : Windowed) → WindowsGrow x (sends_expedited body x)
unfolding WindowsGrow NoneLeft NoUnits
expedites_grow None x = (same_grows x.windows.passed x.windows.got, tt, inr (refl, refl))
expedites_grow (Some body) x = (same_grows x.windows.passed x.windows.got, (refl, tt), inr (refl, refl))

windows_hear : (c : Cell) (m : Parameters) (x : Windowed) → WindowsGrow x (windowed_hears c m x)
unfolding windowed_hears WindowsGrow NoneLeft NoUnits
windows_hear cell.TakeNumberedData m x = data_grows m x
windows_hear cell.TakeAcknowledgement m x = either (WindowsGrow x) (is_valid m.pr x.windows) _ _ (λ _. (same_grows x.windows.passed x.windows.got, tt, inr (refl, refl))) (λ _. resets_grow RESET_INCORRECT_RECEIVE_NUMBER x)
windows_hear cell.TakeExpedited m x = either (WindowsGrow x) x.windows.owed _ _ (λ _. resets_grow RESET_REMOTE_PROCEDURE_ERROR x) (λ _. (same_grows x.windows.passed x.windows.got, (tt, tt), inr (refl, refl)))
windows_hear cell.TakeExpeditedAcknowledgement m x =
    either (WindowsGrow x) x.windows.unanswered _ _ (λ _. expedites_grow x.windows.waiting (record x { windows = record x.windows { unanswered = false } })) (λ _. (same_grows x.windows.passed x.windows.got, tt, inr (refl, refl)))
windows_hear cell.ResetByPeer m x = (cleared_grows x.windows.passed x.windows.got, (tt, tt), inl refl)
windows_hear cell.ResetComplete m x = (same_grows x.windows.passed x.windows.got, (tt, tt), inr (refl, refl))
windows_hear _ m x = (same_grows x.windows.passed x.windows.got, tt, inr (refl, refl))

-- an effect of the other end, if it left no units
WindowsTake : Hand → Windowed → Windowed × Acted → Type 0
WindowsTake h x r =
    (NoUnits h → GrowsBy x.windows.passed x.windows.got r.0.windows.passed r.0.windows.got) × NoneLeft (hands_of r.1) × CountsOn x.head.class x.windows.sent r.0.head.class r.0.windows.sent

passes_grow : (h : Hand) (x : Windowed) → WindowsTake h x (queues_unit h x)
unfolding WindowsTake NoneLeft NoUnits
passes_grow (hand.Unit more body) x = (λ _. same_grows x.windows.passed x.windows.got, tt, inr (refl, refl))
passes_grow _ x = (λ _. same_grows x.windows.passed x.windows.got, tt, inr (refl, refl))

passes_expedited_grow : (h : Hand) (x : Windowed) → WindowsTake h x (passes_expedited h x)
unfolding WindowsTake WindowsGrow NoneLeft NoUnits
passes_expedited_grow (hand.Expedited body) x =
    either (WindowsTake (hand.Expedited body) x) (is_up x.head.state && not x.windows.unanswered) _ _
    (λ _. let g = expedites_grow (Some body) x in (λ _. g.0, g.1, g.2)) (λ _. (λ _. same_grows x.windows.passed x.windows.got, tt, inr (refl, refl)))
passes_expedited_grow _ x = (λ _. same_grows x.windows.passed x.windows.got, tt, inr (refl, refl))

passes_reset_grow : (h : Hand) (x : Windowed) → WindowsTake h x (passes_reset h x)
unfolding WindowsTake NoneLeft NoUnits
passes_reset_grow (hand.Reset cause) x = (λ _. cleared_grows x.windows.passed x.windows.got, tt, inl refl)
passes_reset_grow _ x = (λ _. same_grows x.windows.passed x.windows.got, tt, inr (refl, refl))

left_grows : (h : Hand) (x : Windowed) → WindowsTake h x (counts_left h x)
unfolding WindowsTake NoneLeft NoUnits
left_grows (hand.Left units true) x = (λ none. no_more_grows x.windows.passed x.windows.got units none, tt, inr (refl, refl))
left_grows (hand.Left units false) x = (λ none. no_more_grows x.windows.passed x.windows.got units none, tt, inr (refl, refl))
left_grows _ x = (λ _. same_grows x.windows.passed x.windows.got, tt, inr (refl, refl))

windows_take : (c : Cell) (h : Hand) (x : Windowed) → WindowsTake h x (windowed_takes c h x)
unfolding windowed_takes WindowsTake NoneLeft NoUnits
windows_take cell.PassUnit h x = passes_grow h x
windows_take cell.PassExpedited h x = passes_expedited_grow h x
windows_take cell.PassReset h x = passes_reset_grow h x
windows_take cell.ClearCounts h x = (λ _. cleared_grows x.windows.passed x.windows.got, tt, inl refl)
windows_take cell.Left h x = left_grows h x
windows_take _ h x = (λ _. same_grows x.windows.passed x.windows.got, tt, inr (refl, refl))

-- The line of a section.

-- the cells that set up are those of a section that isn't connected
abbrev pub IsBefore : Cell → SectionState → Type 0
IsBefore cell.Confirm s = is_connected s ≡ false
IsBefore cell.PassAccept s = is_connected s ≡ false
IsBefore _ s = Unit {0}

-- a line's class stays, or it is set up
abbrev ClassStays : Line → Line → Type 0
ClassStays x y = (y.head.class ≡ x.head.class) ⊎ ((is_up y.head.state ≡ true) × (is_connected x.head.state ≡ false))

-- of what it hears, and when a timer fires: what came in goes on, and it hands over no left units
LineFine : Line → Line × Acted → Type 0
LineFine x r = GrowsBy x.passed x.got r.0.passed r.0.got × NoneLeft (hands_of r.1) × ClassStays x r.0

line_hear : (c : Cell) (point : ℕ) (m : Parameters) (x : Line) → IsBefore c x.head.state → LineFine x (line_hears c point m x)
unfolding line_hears LineFine NoneLeft NoUnits
line_hear cell.Confirm point m x before =
    either (LineFine x) ((m.class == 2 || m.class == 3) && nat_le m.class x.head.class) _ _ (λ _. (same_grows x.passed x.got, (tt, tt), inr (refl, before))) (λ _. (same_grows x.passed x.got, (tt, tt), inl refl))
line_hear cell.Refused point m x before = (same_grows x.passed x.got, (tt, tt), inl refl)
line_hear cell.Released point m x before = (same_grows x.passed x.got, (tt, tt), inl refl)
line_hear cell.TakeData point m x before = (more_grows x.passed x.got _, (tt, tt), inl refl)
line_hear cell.ErrorReceived point m x before = either (LineFine x) (m.cause == ERROR_CLASS_MISMATCH) _ _ (λ _. (same_grows x.passed x.got, (tt, tt), inl refl)) (λ _. (same_grows x.passed x.got, (tt, tt), inl refl))
line_hear cell.TestReceived point m x before = either (LineFine x) (m.slr == x.head.other && m.class == x.head.class) _ _ (λ _. (same_grows x.passed x.got, tt, inl refl)) (λ _. (same_grows x.passed x.got, (tt, tt), inl refl))
line_hear _ point m x before = (same_grows x.passed x.got, tt, inl refl)

line_fire : (c : Cell) (x : Line) → LineFine x (line_fires c x)
unfolding line_fires LineFine NoneLeft NoUnits
line_fire cell.NotAnswered x = (same_grows x.passed x.got, (tt, tt), inl refl)
line_fire cell.ResetExpired x = (same_grows x.passed x.got, (tt, tt), inl refl)
line_fire cell.PeerSilent x = (same_grows x.passed x.got, (tt, tt), inl refl)
line_fire _ x = (same_grows x.passed x.got, tt, inl refl)

-- an effect of the other end, if it left no units; in class 3 no unit leaves by the line
LineTakes : Hand → Line → Line × Acted → Type 0
LineTakes h x r = (NoUnits h → GrowsBy x.passed x.got r.0.passed r.0.got) × (r.0.head.class ≡ 3 → NoneLeft (hands_of r.1)) × ClassStays x r.0

line_take : (c : Cell) (h : Hand) (x : Line) → IsBefore c x.head.state → (is_by_class c && x.head.class == 3) ≡ false → LineTakes h x (line_takes c h x)
unfolding line_takes LineTakes NoneLeft NoUnits
line_take cell.PassAccept h x before other = by_hand h
  where
    by_hand : (h : Hand) → LineTakes h x (passes_accept h x)
    by_hand (hand.Accept class credit called body importance) = (λ _. same_grows x.passed x.got, λ _. tt, inr (refl, before))
    by_hand _ = (λ _. same_grows x.passed x.got, λ _. tt, inl refl)
line_take cell.PassRefuse h x before other = by_hand h
  where
    by_hand : (h : Hand) → LineTakes h x (passes_refuse h x)
    by_hand (hand.Refuse cause called body importance) = (λ _. same_grows x.passed x.got, λ _. tt, inl refl)
    by_hand _ = (λ _. same_grows x.passed x.got, λ _. tt, inl refl)
line_take cell.PassEnd h x before other = by_hand h
  where
    by_hand : (h : Hand) → LineTakes h x (passes_end h x)
    by_hand (hand.End cause body importance) = (λ _. same_grows x.passed x.got, λ _. tt, inl refl)
    by_hand _ = (λ _. same_grows x.passed x.got, λ _. tt, inl refl)
line_take cell.KeepEnd h x before other = by_hand h
  where
    by_hand : (h : Hand) → LineTakes h x (keeps_end h x)
    by_hand (hand.End cause body importance) = (λ _. same_grows x.passed x.got, λ _. tt, inl refl)
    by_hand _ = (λ _. same_grows x.passed x.got, λ _. tt, inl refl)
line_take cell.PassUnit h x before other = by_hand h
  where
    by_hand : (h : Hand) → LineTakes h x (passes_unit h x)
    by_hand (hand.Unit more body) = (λ _. same_grows x.passed x.got, λ three. absurd (eqb-false _ _ other three), inl refl)
    by_hand _ = (λ _. same_grows x.passed x.got, λ _. tt, inl refl)
line_take cell.Left h x before other = by_hand h
  where
    by_hand : (h : Hand) → LineTakes h x (counts_passed h x)
    by_hand (hand.Left units expedited) = (λ none. no_more_grows x.passed x.got units none, λ _. tt, inl refl)
    by_hand _ = (λ _. same_grows x.passed x.got, λ _. tt, inl refl)
line_take _ h x before other = (λ _. same_grows x.passed x.got, λ _. tt, inl refl)

-- the windows of a section after an act of its line
line_grows : (x : Section) (line : Line) → GrowsBy x.windows.passed x.windows.got line.passed line.got → GrowsBy x.windows.passed x.windows.got (windows_after x line).passed (windows_after x line).got
line_grows x line g =
    either (λ (w : Windows). GrowsBy x.windows.passed x.windows.got w.passed w.got) (is_up line.head.state && not (is_connected x.head.state)) _ _
    (λ _. cleared_grows x.windows.passed x.windows.got) (λ _. g)

line_counts : (x : Section) (line : Line) → (line.head.class ≡ x.head.class) ⊎ ((is_up line.head.state ≡ true) × (is_connected x.head.state ≡ false))
    → CountsOn x.head.class x.windows.sent line.head.class (windows_after x line).sent
line_counts x line (inl same) =
    either (λ (w : Windows). CountsOn x.head.class x.windows.sent line.head.class w.sent) (is_up line.head.state && not (is_connected x.head.state)) _ _ (λ _. inl refl) (λ _. inr (same, refl))
line_counts x line (inr set_up) = inl (rw (set_up.0, set_up.1) refl)

-- A section.

SectionFine : Section → Section × Acted → Type 0
SectionFine x r =
    GrowsBy x.windows.passed x.windows.got r.0.windows.passed r.0.windows.got × NoneLeft (hands_of r.1) × CountsOn x.head.class x.windows.sent r.0.head.class r.0.windows.sent

-- An end, and what it acted: it stays a section or a user, and what a section sent is as before or cleared; what came in goes on; and a
-- section leaves no units.
abbrev pub StaysAs : End → End → Type 0
StaysAs (wire x) (wire y) = CountsOn x.head.class x.windows.sent y.head.class y.windows.sent
StaysAs (owner u) (owner v) = Unit {0}
StaysAs _ _ = ⊥

unfoldable pub Fine : End → End × Acted → Type 0
Fine e r = StaysAs e r.0 × GrowsAt e r.0 × (IsSection r.0 → NoneLeft (hands_of r.1))

pub section_hears_fine : (ticks : Ticks) (c : Cell) (point : ℕ) (m : Parameters) (x : Section) → IsBefore c x.head.state → Fine (wire x) (section_hears ticks c point m x)
unfolding Fine SectionFine section_hears WindowsGrow LineFine
section_hears_fine ticks c point m x before =
    let f : SectionFine x (if in_windows c x then by_windows (windowed_hears c m) x else by_line (line_hears c point m) x) =
    either (SectionFine x) (in_windows c x) _ _ (λ _. windows_hear c m (record { head = x.head; windows = x.windows }))
    (λ _. let l = line_hear c point m (line_in x) before in
    let line = (line_hears c point m (line_in x)).0 in (line_grows x line l.0, l.1, line_counts x line l.2)) in
    (f.2, f.0, λ _. f.1)

pub section_fires_fine : (ticks : Ticks) (c : Cell) (x : Section) → Fine (wire x) (section_fires ticks c x)
unfolding Fine SectionFine section_fires LineFine windowed_fires NoneLeft
section_fires_fine ticks c x =
    let f : SectionFine x (if in_windows c x then by_windows windowed_fires x else by_line (line_fires c) x) =
    either (SectionFine x) (in_windows c x) _ _ (λ _. (same_grows x.windows.passed x.windows.got, tt, inr (refl, refl)))
    (λ _. let l = line_fire c (line_in x) in
    let line = (line_fires c (line_in x)).0 in (line_grows x line l.0, l.1, line_counts x line l.2)) in
    (f.2, f.0, λ _. f.1)

-- a section of class 3
abbrev pub IsNumbered : End → Type 0
IsNumbered (wire x) = x.head.class ≡ 3
IsNumbered (owner u) = ⊥

-- an effect of the other end, if it left no units: in class 3 a section leaves none then
unfoldable pub TakesFine : Hand → End → End × Acted → Type 0
TakesFine h e r = StaysAs e r.0 × (NoUnits h → GrowsAt e r.0) × (IsNumbered r.0 → NoneLeft (hands_of r.1))

SectionTakes : Hand → Section → Section × Acted → Type 0
SectionTakes h x r =
    (NoUnits h → GrowsBy x.windows.passed x.windows.got r.0.windows.passed r.0.windows.got)
    × (r.0.head.class ≡ 3 → NoneLeft (hands_of r.1)) × CountsOn x.head.class x.windows.sent r.0.head.class r.0.windows.sent

section_takes_fine : (ticks : Ticks) (c : Cell) (h : Hand) (x : Section) → IsBefore c x.head.state → TakesFine h (wire x) (section_takes ticks c h x)
unfolding TakesFine SectionTakes section_takes WindowsTake LineTakes
section_takes_fine ticks c h x before =
    let f : SectionTakes h x (if in_windows c x then by_windows (windowed_takes c h) x else by_line (line_takes c h) x) =
    either (SectionTakes h x) (in_windows c x) _ _ (λ _. let w = windows_take c h (record { head = x.head; windows = x.windows }) in (w.0, λ _. w.1, w.2))
    (λ other. let l = line_take c h (line_in x) before other in
    let line = (line_takes c h (line_in x)).0 in (λ none. line_grows x line (l.0 none), l.1, line_counts x line l.2)) in
    (f.2, f.0, f.1)

-- the table of states and events has it so
pub cell_before : (o : Occasion) (s : SectionState) → IsBefore (section_cell s o) s
unfolding section_row
cell_before on.Cc Asking = refl
cell_before on.Cc _ = tt
cell_before on.AcceptComes Asked = refl
cell_before on.AcceptComes _ = tt
cell_before on.Cref Asked = tt
cell_before on.Cref _ = tt
cell_before on.Rlsd Asked = tt
cell_before on.Rlsd _ = tt
cell_before on.Rlc Asked = tt
cell_before on.Rlc _ = tt
cell_before on.Dt1 Asked = tt
cell_before on.Dt1 _ = tt
cell_before on.Dt2 Asked = tt
cell_before on.Dt2 _ = tt
cell_before on.Ak Asked = tt
cell_before on.Ak _ = tt
cell_before on.Ed Asked = tt
cell_before on.Ed _ = tt
cell_before on.Ea Asked = tt
cell_before on.Ea _ = tt
cell_before on.Rsr Asked = tt
cell_before on.Rsr _ = tt
cell_before on.Rsc Asked = tt
cell_before on.Rsc _ = tt
cell_before on.Err Asked = tt
cell_before on.Err _ = tt
cell_before on.It Asked = tt
cell_before on.It _ = tt
cell_before on.ConnectFires Asked = tt
cell_before on.ConnectFires _ = tt
cell_before on.ResetFires Asked = tt
cell_before on.ResetFires _ = tt
cell_before on.IarFires Asked = tt
cell_before on.IarFires _ = tt
cell_before on.IasFires Asked = tt
cell_before on.IasFires _ = tt
cell_before on.RelFires Asked = tt
cell_before on.RelFires _ = tt
cell_before on.IntFires Asked = tt
cell_before on.IntFires _ = tt
cell_before on.RepeatFires Asked = tt
cell_before on.RepeatFires _ = tt
cell_before on.RefuseComes Asked = tt
cell_before on.RefuseComes _ = tt
cell_before on.EndComes Asked = tt
cell_before on.EndComes _ = tt
cell_before on.UnitComes Asked = tt
cell_before on.UnitComes _ = tt
cell_before on.ExpeditedComes Asked = tt
cell_before on.ExpeditedComes _ = tt
cell_before on.ResetComes Asked = tt
cell_before on.ResetComes _ = tt
cell_before on.DoneComes Asked = tt
cell_before on.DoneComes _ = tt

taking_before : (h : Hand) (s : SectionState) → IsBefore (section_takes_by s h) s
taking_before (hand.Accept class credit called body importance) s = cell_before on.AcceptComes s
taking_before (hand.Refuse cause called body importance) s = cell_before on.RefuseComes s
taking_before (hand.End cause body importance) s = cell_before on.EndComes s
taking_before (hand.Unit more body) s = cell_before on.UnitComes s
taking_before (hand.Expedited body) s = cell_before on.ExpeditedComes s
taking_before (hand.Reset cause) s = cell_before on.ResetComes s
taking_before hand.Done s = cell_before on.DoneComes s
taking_before (hand.Left units expedited) s = tt

-- A user.

UserGrows : User → User × Acted → Type 0
UserGrows u r = GrowsBy u.passed u.got r.0.passed r.0.got

user_takes_grow : (c : Cell) (h : Hand) (u : User) → NoUnits h → UserGrows u (user_takes c h u)
unfolding user_takes UserGrows NoUnits
user_takes_grow cell.TellConfirm h u none = by_hand h
  where
    by_hand : (h : Hand) → UserGrows u (user_confirmed h u)
    by_hand (hand.Accept class credit called body importance) = same_grows u.passed u.got
    by_hand _ = same_grows u.passed u.got
user_takes_grow cell.TellDisconnect h u none = by_hand h
  where
    by_hand : (h : Hand) → UserGrows u (tells_disconnect h u)
    by_hand (hand.Refuse cause called body importance) = same_grows u.passed u.got
    by_hand (hand.End cause body importance) = same_grows u.passed u.got
    by_hand _ = same_grows u.passed u.got
user_takes_grow cell.TellUnit h u none = by_hand h
  where
    by_hand : (h : Hand) → UserGrows u (collects h u)
    by_hand (hand.Unit more body) =
        either (UserGrows u) (nat_lt LONGEST_TEXT (length (u.text ++ body))) _ _ (λ _. same_grows u.passed u.got)
        (λ _. either (UserGrows u) more _ _ (λ _. same_grows u.passed u.got) (λ _. same_grows u.passed u.got))
    by_hand _ = same_grows u.passed u.got
user_takes_grow cell.TellExpedited h u none = by_hand h
  where
    by_hand : (h : Hand) → UserGrows u (tells_expedited h u)
    by_hand (hand.Expedited body) = same_grows u.passed u.got
    by_hand _ = same_grows u.passed u.got
user_takes_grow cell.TellReset h u none = by_hand h
  where
    by_hand : (h : Hand) → UserGrows u (tells_reset h u)
    by_hand (hand.Reset cause) = cleared_grows u.passed u.got
    by_hand _ = same_grows u.passed u.got
user_takes_grow cell.Left h u none = by_hand h none
  where
    by_hand : (h : Hand) → NoUnits h → UserGrows u (user_left h u)
    by_hand (hand.Left units expedited) none = no_more_grows u.passed u.got units none
    by_hand _ none = same_grows u.passed u.got
user_takes_grow _ h u none = same_grows u.passed u.got

-- what an end takes
pub end_takes_fine : (ticks : Ticks) (h : Hand) (e : End) → TakesFine h e (end_takes ticks h e)
unfolding TakesFine UserGrows
end_takes_fine ticks h (wire x) = section_takes_fine ticks (section_takes_by x.head.state h) h x (taking_before h x.head.state)
end_takes_fine ticks h (owner u) = (tt, user_takes_grow (user_takes_by u.state h) h u, λ s. absurd s)

user_asks_grow : (c : Cell) (r : Request) (u : User) → UserGrows u (user_asks c r u)
unfolding user_asks UserGrows
user_asks_grow cell.UserAccepts r u = by_request r
  where
    by_request : (r : Request) → UserGrows u (accepts r u)
    by_request (request.Accept mine class credit body) = same_grows u.passed u.got
    by_request _ = same_grows u.passed u.got
user_asks_grow cell.UserRefuses r u = by_request r
  where
    by_request : (r : Request) → UserGrows u (refuses r u)
    by_request (request.Refuse mine cause body) = same_grows u.passed u.got
    by_request _ = same_grows u.passed u.got
user_asks_grow cell.UserSends r u = by_request r
  where
    by_request : (r : Request) → UserGrows u (sends r u)
    by_request (request.Send mine body) =
        more_grows u.passed u.got (units_of body)
    by_request _ = same_grows u.passed u.got
user_asks_grow cell.UserExpedites r u = by_request r
  where
    by_request : (r : Request) → UserGrows u (user_expedites r u)
    by_request (request.Expedite mine body) = same_grows u.passed u.got
    by_request _ = same_grows u.passed u.got
user_asks_grow cell.UserResets r u = cleared_grows u.passed u.got
user_asks_grow cell.UserDisconnects r u = by_request r
  where
    by_request : (r : Request) → UserGrows u (disconnects r u)
    by_request (request.Disc mine cause body) = same_grows u.passed u.got
    by_request _ = same_grows u.passed u.got
user_asks_grow _ r u = same_grows u.passed u.got

pub user_asks_fine : (c : Cell) (r : Request) (u : User) → Fine (owner u) (owner (user_asks c r u).0, (user_asks c r u).1)
unfolding Fine UserGrows
user_asks_fine c r u = (tt, user_asks_grow c r u, λ s. absurd s)
