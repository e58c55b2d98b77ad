-- A connection that hears any events.
use Rattle.std.proofs.Common.{Bool, true, false, List, [], ◌∷◌, refl}
use Rattle.relay_base.specs.declared.words.Event.{Event}
use Rattle.plant_core.specs.declared.terms.Ticks.{Ticks}
use Rattle.section_model.specs.Ends.{Connection}
use Rattle.section_model.specs.Step.{hears}
use Rattle.section_model.specs.Lane.{next, fed, follow}
use Rattle.connection_law.specs.ReferenceLaw.{Stays, BothStay, FollowingStays}
use Rattle.connection_law.proofs.Reference.Ends.{Both, both_same, both_in_turn}
use Rattle.connection_law.proofs.Reference.Step.{stay_kept, step_keeps, step_stays}

-- one more event, whether the connection hears it or not
pub fed_stays : (ticks : Ticks) (c : Connection) (event : Event) → BothStay c (fed ticks c event)
fed_stays ticks c event = by_test (hears c event)
  where
    by_test : (b : Bool) → BothStay c (elim b [ true ↦ next ticks c event | false ↦ c ])
    by_test true = step_stays ticks c event
    by_test false = record { this = record { reference = refl; gone = λ g. g }; that = record { reference = refl; gone = λ g. g } }

followed : (ticks : Ticks) (c : Connection) (events : List Event) → Both Stays c (follow ticks c events)
unfolding follow
followed ticks c [] = both_same (stay_kept ticks) c
followed ticks c (event ∷ events) =
    let after = next ticks c event in
    both_in_turn (stay_kept ticks) c after (follow ticks after events) (step_keeps ticks c event) (followed ticks after events)

pub following_stays : FollowingStays
following_stays ticks c events = let both = followed ticks c events in record { this = both.0; that = both.1 }
