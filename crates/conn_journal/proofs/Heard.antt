-- What hears an event is among what is kept.
use Rattle.std.proofs.Common.{◌≡◌, Bool, true, false, cond, List, [], ◌∷◌, ◌++◌, map, flat_map, Option, Some, None, refl, sym, ap, ap₂, ◌∙◌, ⊎_elim}
use Rattle.std.proofs.lemmas.Bool.{cases_Bool}
use Rattle.relay_base.specs.declared.words.Event.{Event}
use Rattle.relay_base.specs.declared.words.Output.{Output}
use Rattle.plant_core.specs.declared.terms.Ticks.{Ticks}
use Rattle.section_model.specs.Ends.{Connection}
use Rattle.section_model.specs.Step.{hears, is_over, connection_step}
use Rattle.section_model.specs.Lane.{Opening, connection_of, part_by, part_of, outputs_of_hearing, hearing, stray_answer}
use Rattle.conn_journal.specs.Inner.Remnants.{remnant_of, live_of, part_at, first_of, first_part, or_none, all_parts}
use Rattle.conn_journal.specs.Laws.{unheard}
use Rattle.conn_journal.proofs.Over.{over_is_deaf}

-- the part of a connection, if it hears the event
abbrev share_by : Ticks → Event → Connection → Bool → Option (List Output)
share_by ticks event c hearing = elim hearing [ true ↦ Some (connection_step ticks c event).1 | false ↦ None ]

live_share : (ticks : Ticks) (event : Event) (c : Connection) → part_at event (live_of ticks c) ≡ share_by ticks event c (hears c event)
live_share ticks event c =
    ⊎_elim
    (λ (over : is_over c ≡ true). rw over (ap (share_by ticks event c) (sym (over_is_deaf c event over))))
    (λ (on : is_over c ≡ false). rw on refl)
    (cases_Bool (is_over c))

share_part : (ticks : Ticks) (event : Event) (c : Connection) → part_by ticks event c ≡ or_none (share_by ticks event c (hears c event))
share_part ticks event c = by_test (hears c event)
  where
    by_test : (b : Bool) → (elim b [ true ↦ (connection_step ticks c event).1 | false ↦ [] ]) ≡ or_none (share_by ticks event c b)
    by_test true = refl
    by_test false = refl

-- the first connection hears the event, or the later ones may
first_hears : (ticks : Ticks) (event : Event) (o : Opening) (later : Option Opening) (parts : Option (List Output))
    → outputs_of_hearing ticks event later ≡ unheard parts (stray_answer event)
    → outputs_of_hearing ticks event (cond (hears (connection_of ticks o) event) (Some o) later) ≡ unheard (first_of (part_at event (live_of ticks (connection_of ticks o))) parts) (stray_answer event)
first_hears ticks event o later parts rest =
    rw (live_share ticks event (connection_of ticks o)) (by_test (hears (connection_of ticks o) event) refl)
  where
    by_test : (b : Bool) → hears (connection_of ticks o) event ≡ b
        → outputs_of_hearing ticks event (cond b (Some o) later) ≡ unheard (first_of (share_by ticks event (connection_of ticks o) b) parts) (stray_answer event)
    by_test true is = ap (λ b. elim b [ true ↦ (connection_step ticks (connection_of ticks o) event).1 | false ↦ [] ]) is
    by_test false is = rest

pub keeps_heard : (ticks : Ticks) (openings : List Opening) (event : Event)
    → outputs_of_hearing ticks event (hearing ticks openings event) ≡ unheard (first_part event (map (remnant_of ticks) openings)) (stray_answer event)
keeps_heard ticks [] event = refl
keeps_heard ticks (o ∷ openings) event =
    first_hears ticks event o (hearing ticks openings event) (first_part event (map (remnant_of ticks) openings)) (keeps_heard ticks openings event)

pub keeps_ticked : (ticks : Ticks) (openings : List Opening) (event : Event) → flat_map (part_of ticks event) openings ≡ all_parts event (map (remnant_of ticks) openings)
keeps_ticked ticks [] event = refl
keeps_ticked ticks (o ∷ openings) event =
    ap₂ (λ a b. a ++ b)
    (share_part ticks event (connection_of ticks o) ∙ ap or_none (sym (live_share ticks event (connection_of ticks o))))
    (keeps_ticked ticks openings event)
