-- An act of one end (Q.714, Annex B): of a section, by its line or its windows and with its timers, or of a user.
use Rattle.std.specs.Prelude.{ℕ, ◌==◌, ◌&&◌, not, Bool, true, false, if◌then◌else◌}
use Rattle.std.specs.List.{list_any}
use Rattle.relay_base.specs.declared.words.Output.TheVariants.{Sent}
use Rattle.section_model.specs.declared.hand.Hand.TheVariants as hand
use Rattle.section_model.specs.declared.cell.Cell.{Cell}
use Rattle.section_model.specs.declared.cell.Cell.TheVariants as cell
use Rattle.section_model.specs.Parameters.{Parameters}
use Rattle.section_model.specs.declared.cell.Occasion.TheVariants as on
use Rattle.section_model.specs.declared.cell.UserOccasion.TheVariants as by
use Rattle.section_model.specs.Table.{section_cell, user_cell}
use Rattle.section_model.specs.declared.cell.SectionState.{SectionState}
use Rattle.section_model.specs.declared.cell.UserState.{UserState}
use Rattle.section_model.specs.declared.hand.Acted.{Acted}
use Rattle.section_model.specs.declared.hand.Hand.{Hand}
use Rattle.plant_core.specs.declared.terms.Ticks.{Ticks}
use Rattle.relay_base.specs.declared.words.Output.{Output}
use Rattle.section_model.specs.Ends.{Line, Section, End, wire, owner, cleared, is_up, is_connected}
use Rattle.section_flow.specs.Windows.{Windows}
use Rattle.section_model.specs.Line.{line_hears, line_fires, line_takes}
use Rattle.section_model.specs.Windowed.{Windowed, windowed_hears, windowed_fires, windowed_takes}
use Rattle.section_model.specs.UserEnd.{user_takes}
use Rattle.section_model.specs.Timing.{timers_after}

abbrev pub is_sent : Output → Bool
is_sent (Sent point sls bytes) = true
is_sent _ = false

-- the timers follow from the states and the outputs of the act
abbrev pub timed : Ticks → Section → Section × Acted → End × Acted
timed ticks old done =
    (wire (record done.0 { timers = timers_after ticks old.head.state done.0.head.state (list_any is_sent done.1.outs) old.timers }), done.1)

-- the counts begin where the section is set up
abbrev pub windows_after : Section → Line → Windows
windows_after x line =
    if is_up line.head.state && not (is_connected x.head.state) then cleared line.head.credit
    else record x.windows { got = line.got; passed = line.passed }

abbrev pub line_in : Section → Line
line_in x = record { head = x.head; kept = x.kept; got = x.windows.got; passed = x.windows.passed }

abbrev pub by_line : (Line → Line × Acted) → Section → Section × Acted
by_line act x =
    let done = act (line_in x) in
    (record x { head = done.0.head; kept = done.0.kept; windows = windows_after x done.0 }, done.1)

abbrev pub by_windows : (Windowed → Windowed × Acted) → Section → Section × Acted
by_windows act x =
    let done = act (record { head = x.head; windows = x.windows }) in
    (record x { head = done.0.head; windows = done.0.windows }, done.1)

-- the cells that the class decides: in class 3 the act is one of the windows, else one of the line
abbrev pub is_by_class : Cell → Bool
is_by_class cell.TakeData = true
is_by_class cell.TakeNumberedData = true
is_by_class cell.TakeAcknowledgement = true
is_by_class cell.TakeExpedited = true
is_by_class cell.TakeExpeditedAcknowledgement = true
is_by_class cell.ResetByPeer = true
is_by_class cell.ResetComplete = true
is_by_class cell.SendTest = true
is_by_class cell.PassUnit = true
is_by_class cell.PassExpedited = true
is_by_class cell.PassReset = true
is_by_class cell.ClearCounts = true
is_by_class cell.Left = true
is_by_class _ = false

abbrev pub in_windows : Cell → Section → Bool
in_windows cell x = is_by_class cell && x.head.class == 3

unfoldable pub section_hears : Ticks → Cell → ℕ → Parameters → Section → End × Acted
section_hears ticks c point m x =
    timed ticks x (if in_windows c x then by_windows (windowed_hears c m) x else by_line (line_hears c point m) x)

unfoldable pub section_fires : Ticks → Cell → Section → End × Acted
section_fires ticks c x = timed ticks x (if in_windows c x then by_windows windowed_fires x else by_line (line_fires c) x)

unfoldable pub section_takes : Ticks → Cell → Hand → Section → End × Acted
section_takes ticks c h x = timed ticks x (if in_windows c x then by_windows (windowed_takes c h) x else by_line (line_takes c h) x)

-- What an effect is to a section and to a user's end.
abbrev pub section_takes_by : SectionState → Hand → Cell
section_takes_by s (hand.Accept class credit called body importance) = section_cell s on.AcceptComes
section_takes_by s (hand.Refuse cause called body importance) = section_cell s on.RefuseComes
section_takes_by s (hand.End cause body importance) = section_cell s on.EndComes
section_takes_by s (hand.Unit more body) = section_cell s on.UnitComes
section_takes_by s (hand.Expedited body) = section_cell s on.ExpeditedComes
section_takes_by s (hand.Reset cause) = section_cell s on.ResetComes
section_takes_by s hand.Done = section_cell s on.DoneComes
section_takes_by s (hand.Left units expedited) = cell.Left

abbrev pub user_takes_by : UserState → Hand → Cell
user_takes_by s (hand.Accept class credit called body importance) = user_cell s by.AcceptTold
user_takes_by s (hand.Refuse cause called body importance) = user_cell s by.RefuseTold
user_takes_by s (hand.End cause body importance) = user_cell s by.EndTold
user_takes_by s (hand.Unit more body) = user_cell s by.UnitTold
user_takes_by s (hand.Expedited body) = user_cell s by.ExpeditedTold
user_takes_by s (hand.Reset cause) = user_cell s by.ResetTold
user_takes_by s hand.Done = user_cell s by.DoneTold
user_takes_by s (hand.Left units expedited) = cell.Left

abbrev pub end_takes : Ticks → Hand → End → End × Acted
end_takes ticks h (wire x) = section_takes ticks (section_takes_by x.head.state h) h x
end_takes ticks h (owner x) = let done = user_takes (user_takes_by x.state h) h x in (owner done.0, done.1)
