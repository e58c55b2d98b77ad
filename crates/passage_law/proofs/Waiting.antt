-- The near connection of a hop before CR came to the far node (Q.714, 3.1.2): its section waits for CC, or it is over, and nothing passes.
use Rattle.std.proofs.Common.{◌≡◌, ◌≢◌, ◌⊎◌, inl, inr, ℕ, Bool, true, false, List, [], ◌∷◌, ◌++◌, Option, Some, None, refl, sym, ◌∙◌, ap, ap₂, subst}
use Rattle.std.specs.List.{AllByRecursion}
use Rattle.std.proofs.lemmas.Bool.{false≢true}
use Rattle.relay_base.specs.declared.words.Event.{Event}
use Rattle.relay_base.specs.declared.words.Event.TheVariants.{Message as Arrived, Asked as Requested, Tick}
use Rattle.relay_base.specs.declared.words.Output.{Output}
use Rattle.plant_core.specs.declared.terms.Ticks.{Ticks}
use Rattle.section_model.specs.declared.cell.SectionState.TheVariants.{Gone}
use Rattle.section_model.specs.Parameters.{Arrival, arrival_in}
use Rattle.section_model.specs.Ends.{End, wire, SectionHead, Section, Connection, is_gone, is_reached}
use Rattle.section_model.specs.Step.{hears, destination_of, connection_step}
use Rattle.section_model.specs.Lane.{next, heard, follow, fed, part_by, reference_of}
use Rattle.hop_law.specs.Units.{units_on}
use Rattle.hop_law.proofs.Reading.{joined_on}
use Rattle.connection_law.specs.ReferenceLaw.{BothStay}
use Rattle.connection_law.proofs.Reference.Following.{fed_stays}
use Rattle.hop_law.specs.LeavingLaw.{that_and_this, IsApart}
use Rattle.hop_law.proofs.Leaving.{nothing_on}
use Rattle.hop_law.specs.LeftAlong.{outs_along}
use Rattle.hop_law.specs.Confirming.{IsStill, ByArrival, ByConfirm}
use Rattle.hop_law.specs.Hop.{is_stray_answer, GotNothing, IsStrange}
use Rattle.hop_law.specs.Soundness.{IsSound}
use Rattle.hop_law.specs.SectionLaw.{SectionAfter}
use Rattle.hop_law.specs.Apart.{Confirms, ConfirmsFrom}
use Rattle.hop_law.proofs.Hearing.{stays_sound}
use Rattle.hop_law.proofs.Section.{sections_stay}
use Rattle.hop_law.proofs.Apart.{keeps_apart}
use Rattle.hop_law.proofs.Unset.{nothing_passes}
use Rattle.hop_law.proofs.Setup.{asking_stays}
use Rattle.hop_law.proofs.Near.{unknown_not}
use Rattle.hop_law.proofs.Flows.{gone_only}

-- A message that isn't CC for the section, nor CC from its point for the other end: it comes from elsewhere and doesn't name the section, or it is strange.
abbrev pub IsNoAnswer : ℕ → Connection → Event → Type 0
IsNoAnswer point c (Arrived from sls bytes) = ((from ≢ point) × (destination_of (arrival_in bytes) ≢ reference_of c.that)) ⊎ IsStrange c (arrival_in bytes)
IsNoAnswer point c _ = Unit {0}

strange_confirm : (c : Connection) (e : End) (a : Option Arrival) → (reference_of c.this ≡ reference_of e) ⊎ (reference_of c.that ≡ reference_of e) → IsStrange c a → Confirms e a → ⊥
strange_confirm c e None has strange confirms = confirms
strange_confirm c e (Some a) has strange confirms = false≢true (sym (ap is_stray_answer confirms.0) ∙ strange (named has))
  where
    named : (reference_of c.this ≡ reference_of e) ⊎ (reference_of c.that ≡ reference_of e) → (reference_of c.this ≡ Some a.parameters.dlr) ⊎ (reference_of c.that ≡ Some a.parameters.dlr)
    named (inl this) = inl (this ∙ confirms.1)
    named (inr that) = inr (that ∙ confirms.1)

-- for the other end, from the point
none_for_other : (point : ℕ) (c : Connection) (event : Event) → IsNoAnswer point c event → ConfirmsFrom point c.this event → ⊥
none_for_other point c (Arrived from sls bytes) (inl elsewhere) confirms = elsewhere.0 confirms.0
none_for_other point c (Arrived from sls bytes) (inr strange) confirms = strange_confirm c c.this (arrival_in bytes) (inl refl) strange confirms.1
none_for_other point c (Requested ssn r) none confirms = confirms
none_for_other point c Tick none confirms = confirms

-- and for the section
confirms_for : (from : ℕ) (a : Option Arrival) (x y : SectionHead) (e : End) → reference_of e ≡ Some x.mine → ByArrival from a x y → Confirms e a
confirms_for from None x y e is by = by
confirms_for from (Some a) x y e is by = (by.confirmed, is ∙ ap (λ (mine : ℕ). Some mine) (sym by.named))

named_by : (e : End) (a : Option Arrival) → Confirms e a → destination_of a ≡ reference_of e
named_by e None confirms = absurd confirms
named_by e (Some a) confirms = sym confirms.1

none_for_section : (point : ℕ) (c : Connection) (event : Event) (x y : SectionHead) → reference_of c.that ≡ Some x.mine → IsNoAnswer point c event → ByConfirm event x y → ⊥
none_for_section point c (Arrived from sls bytes) x y is (inl elsewhere) by = elsewhere.1 (named_by c.that (arrival_in bytes) (confirms_for from (arrival_in bytes) x y c.that is by))
none_for_section point c (Arrived from sls bytes) x y is (inr strange) by =
    strange_confirm c c.that (arrival_in bytes) (inr refl) strange (confirms_for from (arrival_in bytes) x y c.that is by)
none_for_section point c (Requested ssn r) x y is none by = by
none_for_section point c Tick x y is none by = by

-- The connection, with the references that it was opened with.

pub record IsWaiting (y : SectionHead) (first c : Connection) : Type 0 where
  pub section : Section
  pub is : c.that ≡ wire section
  pub waits : (is_reached section.head.state ≡ false) ⊎ (section.head.state ≡ Gone)
  pub sound : IsSound c
  pub nothing : GotNothing c
  pub apart : IsApart y c.this
  pub references : (reference_of c.this ≡ reference_of first.this) × (reference_of c.that ≡ reference_of first.that)

-- strangeness hangs on the references alone
pub strange_as : (c d : Connection) (a : Option Arrival) → reference_of d.this ≡ reference_of c.this → reference_of d.that ≡ reference_of c.that → IsStrange c a → IsStrange d a
strange_as c d None this that strange = tt
strange_as c d (Some a) this that strange = λ names. strange (by_end names)
  where
    by_end : (reference_of d.this ≡ Some a.parameters.dlr) ⊎ (reference_of d.that ≡ Some a.parameters.dlr) → (reference_of c.this ≡ Some a.parameters.dlr) ⊎ (reference_of c.that ≡ Some a.parameters.dlr)
    by_end (inl one) = inl (sym this ∙ one)
    by_end (inr other) = inr (sym that ∙ other)

no_answer_as : (point : ℕ) (c d : Connection) (event : Event) → reference_of d.this ≡ reference_of c.this → reference_of d.that ≡ reference_of c.that → IsNoAnswer point c event → IsNoAnswer point d event
no_answer_as point c d (Arrived from sls bytes) this that (inl elsewhere) = inl (elsewhere.0, λ same. elsewhere.1 (same ∙ that))
no_answer_as point c d (Arrived from sls bytes) this that (inr strange) = inr (strange_as c d (arrival_in bytes) this that strange)
no_answer_as point c d (Requested ssn r) this that none = tt
no_answer_as point c d Tick this that none = tt

abbrev pub WaitsAfter : SectionHead → Connection → Connection → List Output → Type 0
WaitsAfter y first d outs = IsWaiting y first d × ((x : SectionHead) → units_on x outs ≡ [])

waits_step : (ticks : Ticks) (y : SectionHead) (first c : Connection) (event : Event) → IsWaiting y first c → IsNoAnswer y.point first event
    → WaitsAfter y first (fed ticks c event) (part_by ticks event c)
waits_step ticks y first c event w none =
    let d = fed ticks c event in
    let own : IsNoAnswer y.point c event = no_answer_as y.point first c event w.references.0 w.references.1 none in
    let after : SectionAfter w.section.head d.that = sections_stay ticks c event (λ c. c.that) (λ c. c.this) w.section that_and_this w.is in
    let passes = nothing_passes ticks c event (λ c. c.that) (λ c. c.this) w.section w.sound that_and_this w.is (unknown_not w.section.head.state w.waits) w.nothing in
    let stay : BothStay c d = fed_stays ticks c event in (
      record {
        section = after.section;
        is = after.is;
        waits = by_state after own w.waits;
        sound = stays_sound ticks c event w.sound;
        nothing = passes.came;
        apart = keeps_apart ticks c event (λ c. c.that) (λ c. c.this) y that_and_this w.apart (none_for_other y.point c event own);
        references = (stay.this.reference ∙ w.references.0, stay.that.reference ∙ w.references.1);
      },
      passes.leaves,
    )
  where
    by_state : (after : SectionAfter w.section.head (fed ticks c event).that) → IsNoAnswer y.point c event → (is_reached w.section.head.state ≡ false) ⊎ (w.section.head.state ≡ Gone)
        → (is_reached after.section.head.state ≡ false) ⊎ (after.section.head.state ≡ Gone)
    by_state after own (inr gone) = inr (gone_only after.section.head.state (after.gone (ap is_gone gone)))
    by_state after own (inl unreached) = by_how (asking_stays ticks c event (λ c. c.that) (λ c. c.this) w.section after.section that_and_this w.is after.is unreached)
      where
        by_how : IsStill w.section.head after.section.head ⊎ ByConfirm event w.section.head after.section.head
            → (is_reached after.section.head.state ≡ false) ⊎ (after.section.head.state ≡ Gone)
        by_how (inl still) = still.0
        by_how (inr by) = absurd (none_for_section y.point c event w.section.head after.section.head (ap reference_of w.is) own by)

-- along all that it hears
abbrev WaitsLater : Ticks → SectionHead → Connection → Connection → List Event → Type 0
WaitsLater ticks y first c events = let hears = heard ticks c events in WaitsAfter y first (follow ticks c hears) (outs_along ticks c hears)

pub waits_along : (ticks : Ticks) (y : SectionHead) (first : Connection) (events : List Event) (c : Connection) → IsWaiting y first c → AllByRecursion (IsNoAnswer y.point first) events
    → WaitsAfter y first (follow ticks c (heard ticks c events)) (outs_along ticks c (heard ticks c events))
unfolding heard follow outs_along
waits_along ticks y first [] c w none = (w, nothing_on)
waits_along ticks y first (event ∷ events) c w none = by_test (hears c event) refl (λ d waits. waits_along ticks y first events d waits none.1)
  where
    by_test : (b : Bool) → hears c event ≡ b → ((d : Connection) → IsWaiting y first d → WaitsLater ticks y first d events)
        → (let hears : List Event = elim b [ true ↦ event ∷ heard ticks (next ticks c event) events | false ↦ heard ticks c events ] in
        WaitsAfter y first (follow ticks c hears) (outs_along ticks c hears))
    by_test true h more =
        let d = next ticks c event in
        let outs = (connection_step ticks c event).1 in
        let here : WaitsAfter y first d outs =
        subst (λ b. WaitsAfter y first (elim b [ true ↦ next ticks c event | false ↦ c ]) (elim b [ true ↦ outs | false ↦ [] ])) h (waits_step ticks y first c event w none.0) in
        let rest = more d here.0 in
        (rest.0, λ x. joined_on x outs (outs_along ticks d (heard ticks d events)) ∙ ap₂ (λ a b. a ++ b) (here.1 x) (rest.1 x))
    by_test false h more = more c w
