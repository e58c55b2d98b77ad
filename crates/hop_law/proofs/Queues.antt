-- What is said of each message that waits, and of the units among them.
use Rattle.std.proofs.Common.{◌≡◌, ◌⊎◌, ℕ, ◌==◌, ◌&&◌, Bool, true, false, if◌then◌else◌, List, [], ◌∷◌, ◌++◌, Option, Some, None, refl, sym, ◌∙◌, ap, append-nil}
use Rattle.std.specs.List.{AllByRecursion}
use Rattle.std.proofs.lemmas.Bool.{false≢true, eqb-true}
use Rattle.relay_base.specs.declared.words.Output.{Output}
use Rattle.section_model.specs.declared.cell.Occasion.{Occasion}
use Rattle.section_model.specs.declared.cell.Occasion.TheVariants as on
use Rattle.section_model.specs.Parameters.{Arrival, arrival_in}
use Rattle.section_model.specs.Ends.{DataUnit, Connection}
use Rattle.section_model.specs.Lane.{reference_of}
use Rattle.hop_law.specs.Units.{carries, unit_of, units_by, units_for}
use Rattle.hop_law.specs.Waiting.{Waiting, messages_to, units_waiting}
use Rattle.hop_law.specs.Hop.{is_stray_answer, IsStrange}
use Rattle.hop_law.proofs.Queued.{waiting_joined, messages_joined}
use Rattle.hop_law.proofs.Along.{empty_first}
use Rattle.hop_law.proofs.Passing.{first_true, second_true}
use Rattle.hop_law.specs.Going.{BringsOfClass, BringOfClass}
use Rattle.hop_law.specs.Setup.{IsNoConfirm}

-- All messages of a queue.

pub all_so : (P Q : Waiting → Type 0) → ((m : Waiting) → P m → Q m) → (queue : List Waiting) → AllByRecursion P queue → AllByRecursion Q queue
all_so P Q so [] all = tt
all_so P Q so (m ∷ queue) all = (so m all.0, all_so P Q so queue all.1)

-- The units for a reference among outputs to a point.

abbrev pub units_to : ℕ → ℕ → List Output → List DataUnit
units_to reference point outs = units_waiting reference (messages_to point outs)

pub units_joined : (reference point : ℕ) (one other : List Output) → units_to reference point (one ++ other) ≡ units_to reference point one ++ units_to reference point other
units_joined reference point one other =
    ap (units_waiting reference) (messages_joined point one other) ∙ waiting_joined reference (messages_to point one) (messages_to point other)

-- A queue without units for a reference.

pub none_joined : (reference : ℕ) (one other : List Waiting) → units_waiting reference one ≡ [] → units_waiting reference other ≡ [] → units_waiting reference (one ++ other) ≡ []
none_joined reference one other p q = waiting_joined reference one other ∙ rw (p, q) refl

pub nothing_more : (reference : ℕ) (queue more : List Waiting) → units_waiting reference more ≡ [] → units_waiting reference (queue ++ more) ≡ units_waiting reference queue
nothing_more reference queue more none = waiting_joined reference queue more ∙ rw none (append-nil (units_waiting reference queue))

pub first_waits : (reference : ℕ) (m : Waiting) (queue : List Waiting) → units_waiting reference (m ∷ queue) ≡ units_for reference m.bytes ++ units_waiting reference queue
unfolding units_waiting
first_waits reference m queue = refl

pub none_first : (reference : ℕ) (m : Waiting) (queue : List Waiting) → units_waiting reference (m ∷ queue) ≡ [] → (units_for reference m.bytes ≡ []) × (units_waiting reference queue ≡ [])
none_first reference m queue e =
    let first = empty_first (units_for reference m.bytes) (units_waiting reference queue) (sym (first_waits reference m queue) ∙ e) in
    (first, sym (ap (λ (units : List DataUnit). units ++ units_waiting reference queue) first) ∙ (sym (first_waits reference m queue) ∙ e))

pub none_alone : (reference : ℕ) (m : Waiting) → units_for reference m.bytes ≡ [] → units_waiting reference (m ∷ []) ≡ []
unfolding units_waiting
none_alone reference m none = rw none refl

brings_none : (reference class : ℕ) (a : Option Arrival) → units_by reference a ≡ [] → BringsOfClass reference class a
brings_none reference class None none = tt
brings_none reference class (Some a) none = λ carried. absurd (not_empty (sym (ap (λ (b : Bool). if b then unit_of a ∷ [] else []) carried) ∙ none))
  where
    not_empty : (unit_of a ∷ []) ≡ [] → ⊥
    not_empty e = cc

pub none_of_class : (reference class : ℕ) (queue : List Waiting) → units_waiting reference queue ≡ [] → BringOfClass reference class queue
unfolding units_for
none_of_class reference class [] none = tt
none_of_class reference class (m ∷ queue) none =
    let parts = none_first reference m queue none in (brings_none reference class (arrival_in m.bytes) parts.0, none_of_class reference class queue parts.1)

-- A queue without CC for a reference.

abbrev pub NoConfirmFor : Option ℕ → Option Arrival → Type 0
NoConfirmFor reference None = Unit {0}
NoConfirmFor reference (Some a) = a.occasion ≡ on.Cc → reference ≡ Some a.parameters.dlr → ⊥

abbrev pub NoneConfirm : Option ℕ → List Waiting → Type 0
NoneConfirm reference queue = AllByRecursion (λ (m : Waiting). NoConfirmFor reference (arrival_in m.bytes)) queue

no_confirm_for : (reference : Option ℕ) (a : Option Arrival) → IsNoConfirm a → NoConfirmFor reference a
no_confirm_for reference None none = tt
no_confirm_for reference (Some a) none = λ confirms _. none confirms

pub none_confirm : (reference : Option ℕ) (queue : List Waiting) → AllByRecursion (λ (m : Waiting). IsNoConfirm (arrival_in m.bytes)) queue → NoneConfirm reference queue
none_confirm reference queue none =
    all_so (λ (m : Waiting). IsNoConfirm (arrival_in m.bytes)) (λ (m : Waiting). NoConfirmFor reference (arrival_in m.bytes)) (λ m. no_confirm_for reference (arrival_in m.bytes)) queue none

-- A message of others names a section only as RLC or ERR, which carry no unit and confirm nothing.

-- either end of a connection has the reference
abbrev pub HasReference : Connection → Option ℕ → Type 0
HasReference c reference = (reference_of c.this ≡ reference) ⊎ (reference_of c.that ≡ reference)

carries_nothing : (o : Occasion) → is_stray_answer o ≡ true → carries o ≡ true → ⊥
carries_nothing on.Dt1 stray carried = false≢true stray
carries_nothing on.Dt2 stray carried = false≢true stray
carries_nothing _ stray carried = false≢true carried

pub strange_none : (c : Connection) (reference : ℕ) (bytes : List ℕ) → HasReference c (Some reference) → IsStrange c (arrival_in bytes) → units_for reference bytes ≡ []
unfolding units_for
strange_none c reference bytes has strange = by_arrival (arrival_in bytes) strange
  where
    by_arrival : (a : Option Arrival) → IsStrange c a → units_by reference a ≡ []
    by_arrival None strange = refl
    by_arrival (Some a) strange = by_test (carries a.occasion && a.parameters.dlr == reference) refl
      where
        named : (a.parameters.dlr == reference) ≡ true → HasReference c (Some a.parameters.dlr)
        named same = rw (eqb-true a.parameters.dlr reference same) has

        by_test : (b : Bool) → (carries a.occasion && a.parameters.dlr == reference) ≡ b → (if b then unit_of a ∷ [] else []) ≡ []
        by_test true e =
            absurd (carries_nothing a.occasion (strange (named (second_true (carries a.occasion) (a.parameters.dlr == reference) e))) (first_true (carries a.occasion) (a.parameters.dlr == reference) e))
        by_test false e = refl

pub strange_confirms : (c : Connection) (reference : Option ℕ) (a : Option Arrival) → HasReference c reference → IsStrange c a → NoConfirmFor reference a
strange_confirms c reference None has strange = tt
strange_confirms c reference (Some a) has strange = λ confirms names. false≢true (sym (ap is_stray_answer confirms) ∙ strange (rw (← names) has))
