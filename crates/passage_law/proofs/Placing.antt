-- A section that stands to a point stood to it always.
use Rattle.std.proofs.Common.{◌≡◌, ◌≢◌, ◌⊎◌, inl, inr, ℕ, Bool, true, false, List, [], ◌∷◌, Option, Some, None, refl, sym, ◌∙◌}
use Rattle.std.proofs.lemmas.Bool.{false≢true}
use Rattle.relay_base.specs.declared.words.Event.{Event}
use Rattle.relay_base.specs.declared.words.Event.TheVariants.{Message as Arrived, Asked as Requested, Tick}
use Rattle.plant_core.specs.declared.terms.Ticks.{Ticks}
use Rattle.section_model.specs.declared.cell.SectionState.TheVariants.{Up, Ending}
use Rattle.section_model.specs.Parameters.{Arrival, arrival_in}
use Rattle.section_model.specs.Ends.{End, wire, owner, SectionHead, Connection, is_reached}
use Rattle.section_model.specs.Step.{hears}
use Rattle.section_model.specs.Lane.{next, follow}
use Rattle.hop_law.specs.PlaceLaw.{StaysPut}
use Rattle.hop_law.specs.LeavingLaw.{AreSides, IsApart}
use Rattle.hop_law.proofs.Placing.{step_place, along_place}
use Rattle.hop_law.specs.LeftAlong.{StaysApart}
use Rattle.hop_law.specs.Confirming.{IsStill, ByArrival, ByConfirm}
use Rattle.hop_law.proofs.Along.{of_end, AllHear}
use Rattle.hop_law.proofs.Confirming.{becomes_known}

-- a section whose other end isn't known stands to a point
abbrev pub Stood : ℕ → End → Type 0
Stood point (wire x) = is_reached x.head.state ≡ false → x.head.point ≡ point
Stood point (owner u) = Unit {0}

-- any section stands to it
abbrev pub Stands : ℕ → End → Type 0
Stands point (wire x) = x.head.point ≡ point
Stands point (owner u) = Unit {0}

confirmed_known : (from : ℕ) (a : Option Arrival) (x y : SectionHead) → ByArrival from a x y → is_reached y.state ≡ true
confirmed_known from None x y by = absurd by
confirmed_known from (Some a) x y by = by_state by.state
  where
    by_state : ((y.state ≡ Up) × (y.class ≡ a.parameters.class)) ⊎ (y.state ≡ Ending) → is_reached y.state ≡ true
    by_state (inl up) = rw up.0 refl
    by_state (inr ending) = rw ending refl

known_by : (event : Event) (x y : SectionHead) → ByConfirm event x y → is_reached y.state ≡ true
known_by (Arrived from sls bytes) x y by = confirmed_known from (arrival_in bytes) x y by
known_by (Requested ssn r) x y by = absurd by
known_by Tick x y by = absurd by

stood_step : (ticks : Ticks) (c : Connection) (event : Event) (end other : Connection → End) (point : ℕ) → hears c event ≡ true → AreSides end other
    → Stood point (end c) → Stood point (end (next ticks c event))
stood_step ticks c event end other point h sides stood = by_ends (end c) (end d) refl refl (of_end StaysPut end other c d sides (step_place ticks c event)) stood
  where
    d : Connection
    d = next ticks c event

    by_ends : (e f : End) → end c ≡ e → end d ≡ f → StaysPut e f → Stood point e → Stood point f
    by_ends (owner u) (owner v) is after put stood = tt
    by_ends (owner u) (wire y) is after put stood = absurd put
    by_ends (wire x) (owner v) is after put stood = absurd put
    by_ends (wire x) (wire y) is after put stood = λ unknown. by_test (is_reached x.head.state) refl unknown
      where
        by_how : is_reached x.head.state ≡ false → is_reached y.head.state ≡ false → IsStill x.head y.head ⊎ ByConfirm event x.head y.head → y.head.point ≡ point
        by_how before unknown (inl still) = still.1 ∙ stood before
        by_how before unknown (inr confirmed) = absurd (false≢true (sym unknown ∙ known_by event x.head y.head confirmed))

        by_test : (b : Bool) → is_reached x.head.state ≡ b → is_reached y.head.state ≡ false → y.head.point ≡ point
        by_test true reached unknown = absurd (false≢true (sym unknown ∙ (put.1 reached).reached))
        by_test false before unknown = by_how before unknown (becomes_known.only_by ticks c event end other x y h sides is after before)

apart_now : (point : ℕ) (y : SectionHead) (e f : End) → Stood point e → StaysPut e f → Stands point f → y.point ≢ point → IsApart y e
apart_now point y (owner u) f stood put stands differs = tt
apart_now point y (wire x) (owner v) stood put stands differs = absurd put
apart_now point y (wire x) (wire z) stood put stands differs = λ same. differs (sym same ∙ by_test (is_reached x.head.state) refl)
  where
    by_test : (b : Bool) → is_reached x.head.state ≡ b → x.head.point ≡ point
    by_test true reached = sym (put.1 reached).point ∙ stands
    by_test false unknown = stood unknown

-- So a section to another point is apart from it at each moment.
pub apart_along : (ticks : Ticks) (end other : Connection → End) (point : ℕ) (y : SectionHead) → AreSides end other → y.point ≢ point → (events : List Event) (c : Connection) → AllHear ticks c events
    → Stood point (end c) → Stands point (end (follow ticks c events)) → StaysApart ticks y end c events
unfolding follow AllHear StaysApart
apart_along ticks end other point y sides differs [] c hear stood stands =
    apart_now point y (end c) (end c) stood (of_end StaysPut end other c c sides (along_place ticks c [])) stands differs
apart_along ticks end other point y sides differs (event ∷ events) c hear stood stands =
    let d = next ticks c event in (
      apart_now point y (end c) (end (follow ticks d events)) stood (of_end StaysPut end other c (follow ticks d events) sides (along_place ticks c (event ∷ events))) stands differs,
      apart_along ticks end other point y sides differs events d hear.1 (stood_step ticks c event end other point hear.0 sides stood) stands,
    )
