-- What an event changes in what a lane keeps.
use Rattle.std.specs.Prelude.{◌≡◌, ℕ, ◌+◌, ◌<◌, true, List, [], ◌∷◌, ◌++◌, length, get_or, slice_set, Option, Some, None, is_some, IfSome}
use Rattle.local_refs.specs.Slots.{LaneSlots, free_references, with_state, with_taken, frozen_for, after_tick, IsHeld}
use Rattle.section_model.specs.References.{slot_of}
use Rattle.section_model.specs.Ends.{Connection}
use Rattle.section_model.specs.Lane.{reference_of}
use Rattle.section_coupling.specs.Duos.{DuoState, duo_at}
use Rattle.conn_journal.specs.declared.change.Next.{Next}
use Rattle.conn_journal.specs.declared.change.NewConnection.{NewConnection}
use Rattle.conn_journal.specs.declared.change.Change.{Change}
use Rattle.conn_journal.specs.declared.change.Change.TheVariants.{Nothing, Heard, Opened, Ticked}
use Rattle.conn_journal.specs.Inner.Remnants.{Remnant}
use Rattle.conn_journal.specs.Inner.Stands.{Stands}
use Rattle.conn_journal.specs.Inner.Views.{OpeningsState}
use Rattle.conn_journal.specs.Outcomes.{taken_by}

-- An end gives its reference up, or takes one.

abbrev pub given_up : Option ℕ → LaneSlots → LaneSlots
given_up None slots = slots
given_up (Some mine) slots = with_state slots (slot_of mine) (frozen_for slots.freeze)

abbrev pub taken : Option ℕ → LaneSlots → LaneSlots
taken None slots = slots
taken (Some mine) slots = with_taken slots (slot_of mine)

abbrev pub owned : Option ℕ → Option ℕ → List (Option ℕ) → List (Option ℕ)
owned None number owners = owners
owned (Some mine) number owners = slice_set owners (slot_of mine) number

-- the ends of connections give their references up, one after another

abbrev pub both_given_up : Next → LaneSlots → LaneSlots
both_given_up next slots = given_up next.that (given_up next.this slots)

abbrev pub all_given_up : List Next → LaneSlots → LaneSlots
all_given_up [] slots = slots
all_given_up (next ∷ more) slots = all_given_up more (both_given_up next slots)

abbrev pub both_disowned : Next → List (Option ℕ) → List (Option ℕ)
both_disowned next owners = owned next.that None (owned next.this None owners)

abbrev pub all_disowned : List Next → List (Option ℕ) → List (Option ℕ)
all_disowned [] owners = owners
all_disowned (next ∷ more) owners = all_disowned more (both_disowned next owners)

-- by the connection of this number
abbrev pub taking : Option ℕ → ℕ → OpeningsState → OpeningsState
taking mine number o = record {
  taken = o.taken;
  kept = o.kept;
  slots = taken mine o.slots;
  owners = owned mine (Some number) o.owners;
}

-- What is kept once a change is made.

abbrev pub put : Next → OpeningsState → OpeningsState
put next o = record {
  taken = o.taken;
  kept = slice_set o.kept next.number next.one;
  slots = both_given_up next o.slots;
  owners = both_disowned next o.owners;
}

abbrev pub put_all : List Next → OpeningsState → OpeningsState
put_all [] o = o
put_all (next ∷ more) o = put_all more (put next o)

abbrev pub with_new : NewConnection → OpeningsState → OpeningsState
with_new new o = record {
  taken = o.taken;
  kept = o.kept ++ Some new.one ∷ [];
  slots = taken new.that (taken new.this o.slots);
  owners = owned new.that (Some (length o.kept)) (owned new.this (Some (length o.kept)) o.owners);
}

-- a tick more, by which freezes are lowered
abbrev pub ticked : OpeningsState → OpeningsState
ticked o = record { taken = o.taken + 1; kept = o.kept; slots = after_tick o.slots; owners = o.owners }

abbrev pub changed : Change → OpeningsState → OpeningsState
changed Nothing o = o
changed (Heard next) o = put next o
changed (Opened new) o = with_new new o
changed (Ticked nexts) o = put_all nexts.items (ticked o)

-- What can be changed.

-- a reference that is held
abbrev pub CanGiveUp : Option ℕ → LaneSlots → Type 0
CanGiveUp mine slots = IfSome mine (IsHeld slots)

abbrev pub CanAllGiveUp : List Next → LaneSlots → Type 0
CanAllGiveUp [] slots = Unit {0}
CanAllGiveUp (next ∷ more) slots =
    CanGiveUp next.this slots × CanGiveUp next.that (given_up next.this slots) × CanAllGiveUp more (both_given_up next slots)

pub record CanBePut (next : Next) (o : OpeningsState) : Type 0 where
  pub number : next.number < length o.kept
  pub alive : is_some (get_or o.kept next.number None) ≡ true
  pub this : CanGiveUp next.this o.slots
  pub that : CanGiveUp next.that (given_up next.this o.slots)

abbrev pub CanAllBePut : List Next → OpeningsState → Type 0
CanAllBePut [] o = Unit {0}
CanAllBePut (next ∷ more) o = CanBePut next o × CanAllBePut more (put next o)

abbrev pub listed : Option ℕ → List ℕ
listed None = []
listed (Some mine) = mine ∷ []

-- the ends of a new connection take the lowest free references
pub record CanTake (this that : Option ℕ) (o : OpeningsState) : Type 0 where
  pub rest : List ℕ
  pub free : free_references o.slots ≡ listed this ++ (listed that ++ rest)

-- a change that can be made
abbrev pub Fits : Change → OpeningsState → Type 0
Fits Nothing o = Unit {0}
Fits (Heard next) o = CanBePut next o
Fits (Opened new) o = CanTake new.this new.that o
Fits (Ticked nexts) o = CanAllBePut nexts.items (ticked o)

-- a change that can be made, and what is kept then
pub record Makes (change : Change) (o : OpeningsState) (later : ℕ) (keeps : List Remnant) : Type 0 where
  pub fits : Fits change o
  pub taken : (changed change o).taken ≡ later
  pub lane : (changed change o).slots.lane ≡ o.slots.lane
  pub freeze : (changed change o).slots.freeze ≡ o.slots.freeze
  pub stands : Stands keeps (changed change o)

-- the change by which a connection is opened, if it is
abbrev pub opens_by : DuoState → Change → Type 0
opens_by d (Opened new) = (new.one ≡ d) × (new.this ≡ reference_of (duo_at 0 d).this) × (new.that ≡ reference_of (duo_at 0 d).that)
opens_by d _ = ⊥

abbrev pub Opens : Option DuoState → Change → Type 0
Opens None change = change ≡ Nothing
Opens (Some d) change = opens_by d change

-- the references that the ends of a new connection take by a change

abbrev pub this_taken : Change → Option ℕ
this_taken (Opened new) = new.this
this_taken _ = None

abbrev pub that_taken : Change → Option ℕ
that_taken (Opened new) = new.that
that_taken _ = None

pub record Takes (c : Option Connection) (change : Change) : Type 0 where
  pub this : this_taken change ≡ taken_by (λ c. c.this) c
  pub that : that_taken change ≡ taken_by (λ c. c.that) c

abbrev pub TakesNone : Change → Type 0
TakesNone change = (this_taken change ≡ None) × (that_taken change ≡ None)
