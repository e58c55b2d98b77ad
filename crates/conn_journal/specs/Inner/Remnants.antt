-- What a connection lane keeps of each of its openings: the connection while it isn't over, and the local references that it took, which
-- stay frozen for a while once their ends are gone (Q.714, 3.3.2).
use Rattle.std.specs.Prelude.{ℕ, ◌-◌, ◌==◌, ◌&&◌, ◌||◌, not, Bool, true, false, List, [], ◌∷◌, take, filter, if◌then◌else◌, count_by, Option, Some, None, option_map, is_some}
use Rattle.std.specs.List.{list_any, range_with_len, flat_map}
use Rattle.relay_base.specs.declared.words.Event.{Event}
use Rattle.relay_base.specs.declared.words.Output.{Output}
use Rattle.plant_core.specs.declared.terms.Ticks.{Ticks}
use Rattle.section_model.specs.Ends.{End, Connection}
use Rattle.section_model.specs.Step.{connection_step, hears, end_is_gone, is_over}
use Rattle.relay_base.specs.declared.limits.TheConstants.{SLOTS}
use Rattle.section_model.specs.References.{slot_of}
use Rattle.section_model.specs.Lane.{Lane, Opening, connection_of, fed, gone_for, reference_of, is_at, enough, is_tick}

-- a connection that isn't over, with the ticks of its timers
pub record Live : Type 0 where
  pub ticks : Ticks
  pub connection : Connection

-- the reference that an end took, and the ticks for which it stays frozen once the end is gone
pub record Seat : Type 0 where
  pub mine : ℕ
  pub left : Option ℕ

-- an opening: its connection until that is over, and the seat of each of its ends
pub record Remnant : Type 0 where
  pub live : Option Live
  pub this : Option Seat
  pub that : Option Seat

abbrev pub live_of : Ticks → Connection → Option Live
live_of ticks c = if is_over c then None else Some (record { ticks = ticks; connection = c })

-- the ticks that are left of a freeze
abbrev pub frozen_by : ℕ → Option ℕ → Option ℕ
frozen_by freeze gone = option_map (λ count. freeze - count) gone

abbrev pub seat_by : ℕ → Option ℕ → Option ℕ → Option Seat
seat_by freeze gone mine = option_map (λ m. record { mine = m; left = frozen_by freeze gone }) mine

abbrev pub seat_of : Ticks → (Connection → End) → Opening → Option Seat
seat_of ticks end o = seat_by ticks.freeze (gone_for ticks end o.first o.since) (reference_of (end o.first))

abbrev pub remnant_of : Ticks → Opening → Remnant
remnant_of ticks o = record {
  live = live_of ticks (connection_of ticks o);
  this = seat_of ticks (λ c. c.this) o;
  that = seat_of ticks (λ c. c.that) o;
}

-- One more event.

abbrev pub ticks_in : Event → ℕ
ticks_in event = if is_tick event then 1 else 0

-- an end that is gone now begins to be frozen
abbrev pub left_after : ℕ → Event → Bool → Option ℕ → Option ℕ
left_after freeze event is_gone None = if is_gone then Some freeze else None
left_after freeze event is_gone (Some left) = Some (left - ticks_in event)

abbrev pub seat_after : ℕ → Event → Bool → Option Seat → Option Seat
seat_after freeze event is_gone seat = option_map (λ s. record { mine = s.mine; left = left_after freeze event is_gone s.left }) seat

abbrev pub live_after : Event → Live → Remnant → Remnant
live_after event l k =
    let c = fed l.ticks l.connection event in
    record {
      live = live_of l.ticks c;
      this = seat_after l.ticks.freeze event (end_is_gone c.this) k.this;
      that = seat_after l.ticks.freeze event (end_is_gone c.that) k.that;
    }

abbrev pub over_after : Event → Remnant → Remnant
over_after event k = record { live = None; this = seat_after 0 event false k.this; that = seat_after 0 event false k.that }

abbrev pub remnant_after : Event → Remnant → Remnant
remnant_after event k = elim k.live [ Some l ↦ live_after event l k | None ↦ over_after event k ]

-- What comes of an event.

-- the outputs of a connection at an event, if it hears it
abbrev pub part_in : Event → Live → Option (List Output)
part_in event l = elim (hears l.connection event) [ true ↦ Some (connection_step l.ticks l.connection event).1 | false ↦ None ]

abbrev pub part_at : Event → Option Live → Option (List Output)
part_at event None = None
part_at event (Some l) = part_in event l

-- the part of the first that hears it, and the parts of all, one after another
abbrev pub first_of : Option (List Output) → Option (List Output) → Option (List Output)
first_of None later = later
first_of (Some outs) later = Some outs

abbrev pub first_part : Event → List Remnant → Option (List Output)
first_part event [] = None
first_part event (k ∷ more) = first_of (part_at event k.live) (first_part event more)

abbrev pub or_none : Option (List Output) → List Output
or_none None = []
or_none (Some outs) = outs

abbrev pub all_parts : Event → List Remnant → List Output
all_parts event keeps = flat_map (λ k. or_none (part_at event k.live)) keeps

-- The local references.

-- a reference is held, or frozen for some ticks yet
abbrev pub is_frozen_out : Option ℕ → Bool
is_frozen_out None = false
is_frozen_out (Some left) = left == 0

abbrev pub sits : ℕ → Option Seat → Bool
sits slot None = false
sits slot (Some s) = slot_of s.mine == slot && not (is_frozen_out s.left)

abbrev pub takes_slot : ℕ → Remnant → Bool
takes_slot slot k = sits slot k.this || sits slot k.that

abbrev pub free_in : List Remnant → List ℕ
free_in keeps = filter (λ slot. not (list_any (takes_slot slot) keeps)) (range_with_len 1 SLOTS)

-- an opening took the slot
abbrev pub took_slot : ℕ → Remnant → Bool
took_slot slot k = is_at slot (option_map (λ s. s.mine) k.this) || is_at slot (option_map (λ s. s.mine) k.that)

-- how many openings took it
abbrev pub times_in : List Remnant → ℕ → ℕ
times_in keeps slot = count_by (took_slot slot) keeps

-- the references of so many lowest free slots, or none where there are too few
abbrev pub lowest_in : Lane → List Remnant → ℕ → List ℕ
lowest_in lane keeps count = enough lane (times_in keeps) count (take count (free_in keeps))

-- an end has the slot, and isn't gone
abbrev pub has : ℕ → Option Seat → Bool
has slot None = false
has slot (Some s) = slot_of s.mine == slot && not (is_some s.left)

abbrev pub has_slot : ℕ → Remnant → Bool
has_slot slot k = has slot k.this || has slot k.that
