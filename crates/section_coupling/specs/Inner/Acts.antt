-- An act of a section: by its windows where the cell is one of class 3, else by its line.
use Rattle.std.specs.Prelude.{◌≡◌, ◌&&◌, not, Bool, false, [], if◌then◌else◌}
use Rattle.section_model.specs.declared.hand.Came.{Came}
use Rattle.section_model.specs.declared.cell.Cell.{Cell}
use Rattle.section_model.specs.Views.{section_of}
use Rattle.section_model.specs.declared.cell.Cell.TheVariants as cell
use Rattle.section_model.specs.declared.cell.SectionState.{SectionState}
use Rattle.section_model.specs.declared.hand.Acted.{Acted}
use Rattle.section_model.specs.declared.input.Input.{Input}
use Rattle.section_model.specs.declared.wire.WireHead.{WireHead}
use Rattle.plant_core.specs.declared.terms.Ticks.{Ticks}
use Rattle.section_model.specs.Ends.{Section, End, cleared, is_up, is_connected}
use Rattle.section_model.specs.Acting.{timed, by_line, by_windows, in_windows}
use Rattle.section_class2.specs.Lines.{TakesDataOfDt1, line_acts}
use Rattle.section_class3.specs.Windows.{WindowsState, TakesItsData, InputHasCome, windows_act}
use Rattle.section_coupling.specs.declared.wire.Wire.{Wire}
use Rattle.section_coupling.specs.Sound.{SoundInput}

-- but for the timers
abbrev pub untimed_acts : Cell → Input → Section → Section × Acted
untimed_acts c i x = if in_windows c x then by_windows (windows_act c i) x else by_line (line_acts c i) x

abbrev pub section_acts : Ticks → Cell → Input → Section → End × Acted
section_acts ticks c i x = timed ticks x (untimed_acts c i x)

-- a section is set up by an act that comes from this state
abbrev pub is_set_up : SectionState → WireHead → Bool
is_set_up old head = is_up (section_of head).state && not (is_connected old)

-- the windows after an act of the line: where the section is set up they begin, with the credit that was agreed on
abbrev pub windows_begun : SectionState → WireHead → WindowsState → WindowsState
windows_begun old head windows =
    if is_set_up old head then record { agreed = head.credit; windows = cleared head.credit } else windows

-- and what came in, by the line
abbrev pub came_begun : SectionState → WireHead → Came → Came
came_begun old head came = if is_set_up old head then record { got = []; passed = 0 } else came

-- a section is set up where it isn't yet
abbrev pub SetsUpOnce : Cell → SectionState → Type 0
SetsUpOnce cell.Confirm s = is_connected s ≡ false
SetsUpOnce cell.PassAccept s = is_connected s ≡ false
SetsUpOnce _ s = Unit {0}

-- the data that the cell takes are those of the message that the table of states and events has it for
abbrev pub TakesData : Cell → Input → Type 0
TakesData c i = TakesDataOfDt1 c i × TakesItsData c i

-- A section may act by a cell upon this input: it is sound, sets up no section twice and has the data that the cell takes, and what it says to
-- have left had come in.
pub record CanAct (c : Cell) (i : Input) (w : Wire) : Type 0 where
  pub input : SoundInput i
  pub sets_up : SetsUpOnce c (section_of w.head).state
  pub takes : TakesData c i
  pub left : w.head.class ≡ 3 → InputHasCome i w.windows.windows
