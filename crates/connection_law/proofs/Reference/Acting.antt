-- An act of one end: no act writes the local reference, and an end that is gone stays so.
use Rattle.std.proofs.Common.{◌≡◌, ℕ, ◌==◌, true, false, List, Option, Some, None, refl, ap}
use Rattle.std.proofs.lemmas.Bool.{false≢true}
use Rattle.relay_base.specs.declared.causes.TheConstants.{ERROR_CLASS_MISMATCH, RESET_INCORRECT_RECEIVE_NUMBER, RESET_OUT_OF_WINDOW}
use Rattle.relay_base.specs.declared.words.Request.{Request}
use Rattle.relay_base.specs.declared.words.Request.TheVariants as request
use Rattle.relay_base.specs.declared.words.Output.{Output}
use Rattle.plant_core.specs.declared.terms.Ticks.{Ticks}
use Rattle.section_model.specs.declared.hand.Hand.{Hand}
use Rattle.section_model.specs.declared.hand.Hand.TheVariants as hand
use Rattle.section_model.specs.declared.hand.Acted.{Acted}
use Rattle.section_model.specs.declared.cell.Cell.{Cell}
use Rattle.section_model.specs.declared.cell.Cell.TheVariants as cell
use Rattle.section_model.specs.declared.cell.Occasion.{Occasion}
use Rattle.section_model.specs.declared.cell.Timer.{Timer}
use Rattle.section_model.specs.declared.cell.SectionState.{SectionState}
use Rattle.section_model.specs.declared.cell.SectionState.TheVariants.{Gone}
use Rattle.section_model.specs.declared.cell.UserState.{UserState}
use Rattle.section_model.specs.declared.cell.UserState.TheVariants as user
use Rattle.section_model.specs.Parameters.{Parameters}
use Rattle.section_model.specs.Ends.{End, wire, owner, Line, Section, User, is_gone}
use Rattle.section_model.specs.Table.{section_cell}
use Rattle.section_model.specs.Timing.{firing, rearmed}
use Rattle.section_model.specs.Line.{line_hears, line_fires, line_takes}
use Rattle.section_model.specs.Windowed.{Windowed, windowed_hears, windowed_fires, windowed_takes, resets, accepts_unit, takes_data, sends_expedited, leaves, acknowledges}
use Rattle.section_flow.specs.Windows.{wrong_number}
use Rattle.section_model.specs.UserEnd.{user_asks, user_takes}
use Rattle.section_model.specs.Acting.{timed, by_windows, line_in, in_windows, section_hears, section_fires, section_takes, section_takes_by, user_takes_by, end_takes}
use Rattle.section_model.specs.Step.{hears_checked, in_touch, asking_cell, end_is_gone}
use Rattle.section_model.specs.Lane.{reference_of}
use Rattle.connection_law.specs.ReferenceLaw.{Stays}
use Rattle.connection_law.proofs.Reference.Ends.{either, same_head}

-- The reference, in each cell of the line and of the windows.

LineHas : ℕ → Line × Acted → Type 0
LineHas mine done = done.0.head.mine ≡ mine

WindowsHave : ℕ → Windowed × Acted → Type 0
WindowsHave mine done = done.0.head.mine ≡ mine

line_hears_reference : (c : Cell) (point : ℕ) (m : Parameters) (x : Line) → LineHas x.head.mine (line_hears c point m x)
unfolding line_hears LineHas
line_hears_reference cell.Confirm point m x = either (LineHas x.head.mine) _ _ _ refl refl
line_hears_reference cell.ErrorReceived point m x = either (LineHas x.head.mine) (m.cause == ERROR_CLASS_MISMATCH) _ _ refl refl
line_hears_reference cell.TestReceived point m x = either (LineHas x.head.mine) _ _ _ refl refl
line_hears_reference _ point m x = refl

line_fires_reference : (c : Cell) (x : Line) → LineHas x.head.mine (line_fires c x)
unfolding line_fires LineHas
line_fires_reference cell.NotAnswered x = refl
line_fires_reference _ x = refl

line_takes_reference : (c : Cell) (h : Hand) (x : Line) → LineHas x.head.mine (line_takes c h x)
unfolding line_takes LineHas
line_takes_reference cell.PassAccept (hand.Accept class credit called body importance) x = refl
line_takes_reference cell.PassAccept _ x = refl
line_takes_reference cell.PassRefuse (hand.Refuse cause called body importance) x = refl
line_takes_reference cell.PassRefuse _ x = refl
line_takes_reference cell.PassEnd (hand.End cause body importance) x = refl
line_takes_reference cell.PassEnd _ x = refl
line_takes_reference cell.KeepEnd (hand.End cause body importance) x = refl
line_takes_reference cell.KeepEnd _ x = refl
line_takes_reference cell.PassUnit (hand.Unit more body) x = refl
line_takes_reference cell.PassUnit _ x = refl
line_takes_reference cell.Left (hand.Left units expedited) x = refl
line_takes_reference cell.Left _ x = refl
line_takes_reference _ h x = refl

resets_reference : (cause : ℕ) (x : Windowed) → WindowsHave x.head.mine (resets cause x)
unfolding WindowsHave
resets_reference cause x = refl

accepts_reference : (m : Parameters) (x : Windowed) → WindowsHave x.head.mine (accepts_unit m x)
unfolding WindowsHave
accepts_reference m x = refl

data_reference : (m : Parameters) (x : Windowed) → WindowsHave x.head.mine (takes_data m x)
data_reference m x =
    either (WindowsHave x.head.mine) _ _ _ (resets_reference (wrong_number x.windows) x)
    (either (WindowsHave x.head.mine) _ _ _ (resets_reference RESET_OUT_OF_WINDOW x)
    (either (WindowsHave x.head.mine) _ _ _ (resets_reference RESET_INCORRECT_RECEIVE_NUMBER x) (accepts_reference m x)))

expedites_reference : (waiting : Option (List ℕ)) (x : Windowed) → WindowsHave x.head.mine (sends_expedited waiting x)
unfolding WindowsHave
expedites_reference None x = refl
expedites_reference (Some body) x = refl

windowed_hears_reference : (c : Cell) (m : Parameters) (x : Windowed) → WindowsHave x.head.mine (windowed_hears c m x)
unfolding windowed_hears WindowsHave
windowed_hears_reference cell.TakeNumberedData m x = data_reference m x
windowed_hears_reference cell.TakeAcknowledgement m x = either (WindowsHave x.head.mine) _ _ _ refl refl
windowed_hears_reference cell.TakeExpedited m x = either (WindowsHave x.head.mine) x.windows.owed _ _ refl refl
windowed_hears_reference cell.TakeExpeditedAcknowledgement m x =
    either (WindowsHave x.head.mine) x.windows.unanswered _ _ (expedites_reference x.windows.waiting (record x { windows = record x.windows { unanswered = false } })) refl
windowed_hears_reference _ m x = refl

windowed_takes_reference : (c : Cell) (h : Hand) (x : Windowed) → WindowsHave x.head.mine (windowed_takes c h x)
unfolding windowed_takes WindowsHave
windowed_takes_reference cell.PassUnit (hand.Unit more body) x = refl
windowed_takes_reference cell.PassUnit _ x = refl
windowed_takes_reference cell.PassExpedited (hand.Expedited body) x = either (WindowsHave x.head.mine) _ _ _ refl refl
windowed_takes_reference cell.PassExpedited _ x = refl
windowed_takes_reference cell.PassReset (hand.Reset cause) x = refl
windowed_takes_reference cell.PassReset _ x = refl
windowed_takes_reference cell.Left (hand.Left units true) x = refl
windowed_takes_reference cell.Left (hand.Left units false) x = refl
windowed_takes_reference cell.Left _ x = refl
windowed_takes_reference _ h x = refl

-- The reference, of a section.

abbrev SectionHas : Ticks → Section → Section × Acted → Type 0
SectionHas ticks x done = reference_of (timed ticks x done).0 ≡ Some x.head.mine

hears_reference : (ticks : Ticks) (c : Cell) (point : ℕ) (m : Parameters) (x : Section) → reference_of (section_hears ticks c point m x).0 ≡ Some x.head.mine
unfolding section_hears LineHas WindowsHave
hears_reference ticks c point m x =
    either (SectionHas ticks x) (in_windows c x) _ _
    (ap Some (windowed_hears_reference c m (record { head = x.head; windows = x.windows })))
    (ap Some (line_hears_reference c point m (line_in x)))

fires_reference : (ticks : Ticks) (c : Cell) (x : Section) → reference_of (section_fires ticks c x).0 ≡ Some x.head.mine
unfolding section_fires windowed_fires LineHas
fires_reference ticks c x =
    either (SectionHas ticks x) (in_windows c x) _ _ refl (ap Some (line_fires_reference c (line_in x)))

takes_reference : (ticks : Ticks) (c : Cell) (h : Hand) (x : Section) → reference_of (section_takes ticks c h x).0 ≡ Some x.head.mine
unfolding section_takes LineHas WindowsHave
takes_reference ticks c h x =
    either (SectionHas ticks x) (in_windows c x) _ _
    (ap Some (windowed_takes_reference c h (record { head = x.head; windows = x.windows })))
    (ap Some (line_takes_reference c h (line_in x)))

-- A section that is gone.

-- a section in a state
abbrev at : SectionState → Section → Section
at s x = record x { head = record x.head { state = s } }

hears_gone : (s : SectionState) (o : Occasion) (ticks : Ticks) (point : ℕ) (m : Parameters) (x : Section)
    → is_gone s ≡ true → end_is_gone (section_hears ticks (section_cell s o) point m (at s x)).0 ≡ true
unfolding section_hears line_hears
hears_gone Gone o ticks point m x e = refl
hears_gone _ o ticks point m x e = absurd (false≢true e)

fires_gone : (s : SectionState) (o : Occasion) (ticks : Ticks) (x : Section)
    → is_gone s ≡ true → end_is_gone (section_fires ticks (section_cell s o) (at s x)).0 ≡ true
unfolding section_fires line_fires
fires_gone Gone o ticks x e = refl
fires_gone _ o ticks x e = absurd (false≢true e)

takes_gone : (s : SectionState) (h : Hand) (ticks : Ticks) (x : Section)
    → is_gone s ≡ true → end_is_gone (section_takes ticks (section_takes_by s h) h (at s x)).0 ≡ true
unfolding section_takes line_takes windowed_takes
takes_gone Gone (hand.Left units true) ticks x e = either (λ (done : Section × Acted). end_is_gone (timed ticks (at Gone x) done).0 ≡ true) (x.head.class == 3) _ _ refl refl
takes_gone Gone (hand.Left units false) ticks x e = either (λ (done : Section × Acted). end_is_gone (timed ticks (at Gone x) done).0 ≡ true) (x.head.class == 3) _ _ refl refl
takes_gone Gone _ ticks x e = refl
takes_gone _ h ticks x e = absurd (false≢true e)

-- A user's end that is gone.

-- a user in a state
abbrev user_at : UserState → User → User
user_at s u = record u { state = s }

user_takes_gone : (s : UserState) (h : Hand) (u : User)
    → end_is_gone (owner (user_at s u)) ≡ true → end_is_gone (owner (user_takes (user_takes_by s h) h (user_at s u)).0) ≡ true
unfolding user_takes
user_takes_gone user.Gone (hand.Left units is_expedited) u e = refl
user_takes_gone user.Gone _ u e = refl
user_takes_gone _ h u e = absurd (false≢true e)

user_asks_gone : (s : UserState) (r : Request) (u : User)
    → end_is_gone (owner (user_at s u)) ≡ true → end_is_gone (owner (user_asks (asking_cell s r) r (user_at s u)).0) ≡ true
unfolding user_asks
user_asks_gone user.Gone (request.Reset mine) u e = refl
user_asks_gone user.Gone _ u e = refl
user_asks_gone _ r u e = absurd (false≢true e)

-- What an end is after an act.

pub hears_stays : (ticks : Ticks) (o : Occasion) (point : ℕ) (m : Parameters) (x : Section) (c : Option Output)
    → Stays (wire x) (hears_checked ticks o point m (in_touch ticks x) c).0
hears_stays ticks o point m x (Some out) = record { reference = refl; gone = λ g. g }
hears_stays ticks o point m x None = record {
  reference = hears_reference ticks (section_cell x.head.state o) point m (in_touch ticks x);
  gone = hears_gone x.head.state o ticks point m (in_touch ticks x);
}

pub fires_stays : (ticks : Ticks) (timer : Timer) (x : Section)
    → Stays (wire x) (section_fires ticks (section_cell x.head.state (firing timer)) (record x { timers = rearmed ticks timer x.timers })).0
fires_stays ticks timer x =
    let rearmed_section : Section = record x { timers = rearmed ticks timer x.timers } in record {
      reference = fires_reference ticks (section_cell x.head.state (firing timer)) rearmed_section;
      gone = fires_gone x.head.state (firing timer) ticks rearmed_section;
    }

pub takes_stays : (ticks : Ticks) (h : Hand) (e : End) → Stays e (end_takes ticks h e).0
takes_stays ticks h (wire x) = record {
  reference = takes_reference ticks (section_takes_by x.head.state h) h x;
  gone = takes_gone x.head.state h ticks x;
}
takes_stays ticks h (owner u) = record { reference = refl; gone = user_takes_gone u.state h u }

pub asks_stays : (r : Request) (u : User) → Stays (owner u) (owner (user_asks (asking_cell u.state r) r u).0)
asks_stays r u = record { reference = refl; gone = user_asks_gone u.state r u }

-- what follows each event on the windows leaves the head as it is
pub leaves_head : (x : Windowed) → (leaves x).0.head ≡ x.head
unfolding leaves
leaves_head x = refl

pub acknowledges_head : (x : Windowed) → (acknowledges x).0.head ≡ x.head
unfolding acknowledges
acknowledges_head x = either (λ (done : Windowed × Acted). done.0.head ≡ x.head) (x.windows.passed == x.windows.told) _ _ refl refl

pub windows_stay : (ticks : Ticks) (act : Windowed → Windowed × Acted) → ((w : Windowed) → (act w).0.head ≡ w.head) → (x : Section)
    → Stays (wire x) (timed ticks x (by_windows act x)).0
windows_stay ticks act keeps x =
    same_head x _ (keeps (record { head = x.head; windows = x.windows }))
