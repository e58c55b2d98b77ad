-- The timers of a section, in ticks: T(conn est) (Q.714, 3.1), T(rel), T(int) and T(repeat rel) (3.3), T(iar) and T(ias) (3.4), T(reset)
-- (3.7). Each runs in the states that have it.
use Rattle.std.specs.Prelude.{ℕ, pred, ◌==◌, Bool, true, false, List, [], ◌∷◌, if◌then◌else◌, Option, Some, None, option_map}
use Rattle.section_model.specs.declared.cell.Timer.{Timer}
use Rattle.section_model.specs.declared.cell.Timer.TheVariants.{Connect, Reset, Iar, Ias, Rel, Int, Repeat}
use Rattle.section_model.specs.declared.cell.SectionState.TheVariants.{Asked, Asking, Waning, Up, Resetting, Ending, Gone}
use Rattle.section_model.specs.declared.cell.Occasion.{Occasion}
use Rattle.section_model.specs.declared.cell.Occasion.TheVariants as on
use Rattle.section_model.specs.declared.cell.SectionState.{SectionState}
use Rattle.plant_core.specs.declared.terms.Ticks.{Ticks}
use Rattle.section_model.specs.Ends.{Timers, no_timers}

-- the timers in the order in which they fire
abbrev pub firing_order : List Timer
firing_order = Connect ∷ Reset ∷ Iar ∷ Ias ∷ Rel ∷ Int ∷ Repeat ∷ []

abbrev pub timer_in : Timer → Timers → Option ℕ
timer_in Connect t = t.connect
timer_in Reset t = t.reset
timer_in Iar t = t.iar
timer_in Ias t = t.ias
timer_in Rel t = t.rel
timer_in Int t = t.int
timer_in Repeat t = t.repeat

abbrev pub firing : Timer → Occasion
firing Connect = on.ConnectFires
firing Reset = on.ResetFires
firing Iar = on.IarFires
firing Ias = on.IasFires
firing Rel = on.RelFires
firing Int = on.IntFires
firing Repeat = on.RepeatFires

-- no tick is left
abbrev pub is_due : Timer → Timers → Bool
is_due timer t = elim (timer_in timer t) [ None ↦ false | Some left ↦ left == 0 ]

-- one tick
abbrev pub lowered : Timers → Timers
lowered t = record {
  connect = option_map pred t.connect;
  reset = option_map pred t.reset;
  iar = option_map pred t.iar;
  ias = option_map pred t.ias;
  rel = option_map pred t.rel;
  int = option_map pred t.int;
  repeat = option_map pred t.repeat;
}

-- The timers when a section comes from one state into another.
abbrev pub entered : Ticks → SectionState → Timers → Timers
entered ticks Asking t = record no_timers { connect = Some ticks.connect }
entered ticks Waning t = record no_timers { connect = t.connect }
entered ticks Up t = record no_timers { iar = Some ticks.iar; ias = Some ticks.ias }
entered ticks Resetting t = record no_timers { iar = t.iar; ias = t.ias; reset = Some ticks.reset }
entered ticks Ending t = record no_timers { rel = Some ticks.rel }
entered ticks Asked t = no_timers
entered ticks Gone t = no_timers

abbrev pub same_state : SectionState → SectionState → Bool
same_state Asked Asked = true
same_state Asking Asking = true
same_state Waning Waning = true
same_state Up Up = true
same_state Resetting Resetting = true
same_state Ending Ending = true
same_state Gone Gone = true
same_state _ _ = false

-- a timer starts again where it is armed
abbrev pub again : ℕ → Option ℕ → Option ℕ
again ticks None = None
again ticks (Some left) = Some ticks

-- being sent a message starts T(ias) again (Q.714, 3.4)
abbrev pub sent_again : Ticks → Timers → Timers
sent_again ticks t = record t { ias = again ticks.ias t.ias }

abbrev pub in_new_state : Ticks → SectionState → SectionState → Timers → Timers
in_new_state ticks old new t = if same_state old new then t else entered ticks new t

-- The timers after an act of a section: those of its new state, and once a message was sent.
unfoldable pub timers_after : Ticks → SectionState → SectionState → Bool → Timers → Timers
timers_after ticks old new is_sent t =
    if is_sent then sent_again ticks (in_new_state ticks old new t) else in_new_state ticks old new t

-- A message that comes from the section's point starts T(iar) again (Q.714, 3.4).
abbrev pub heard_again : Ticks → Timers → Timers
heard_again ticks t = record t { iar = again ticks.iar t.iar }

-- A timer that fired is armed anew, or no longer, where the section keeps its state (Q.714, 3.3).
abbrev pub rearmed : Ticks → Timer → Timers → Timers
rearmed ticks Rel t = record t { rel = None; int = Some ticks.int; repeat = Some ticks.repeat }
rearmed ticks Repeat t = record t { repeat = Some ticks.repeat }
rearmed ticks _ t = t
