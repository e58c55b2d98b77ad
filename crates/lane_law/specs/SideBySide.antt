-- The laws of connections side by side in a lane (Q.714, 3): what each of them does is its own, and the outputs of
-- an entry are their parts.
use Rattle.std.specs.Prelude.{◌≡◌, ℕ, ◌<◌, true, false, List, [], ◌∷◌, ◌++◌, map, Some, slice_get, flat_map}
use Rattle.relay_base.specs.declared.limits.TheConstants.{MOST_LANES}
use Rattle.relay_base.specs.declared.words.Event.{Event}
use Rattle.relay_base.specs.declared.words.Event.TheVariants.{Tick}
use Rattle.relay_base.specs.declared.words.Output.{Output}
use Rattle.plant_core.specs.declared.entry.Entry.{Entry}
use Rattle.plant_core.specs.declared.terms.Ticks.{Ticks}
use Rattle.section_model.specs.Ends.{Connection}
use Rattle.section_model.specs.Step.{hears, connection_step}
use Rattle.section_model.specs.Opening.{Wish, Opened, wish_of, slots_needed}
use Rattle.section_model.specs.Lane.{Lane, Opening, next, heard, part_of, connection_of, is_tick, lowest_free, opening_of, answer_of, IsConnectionJournal}
use Rattle.lane_law.specs.HearingLaw.{openings_of}

-- An entry of a lane's journal, with those before it and those since.
pub record Moment : Type 0 where
  pub lane : Lane
  pub before : List Entry
  pub entry : Entry
  pub since : List Entry

abbrev pub ticks_of : Moment → Ticks
ticks_of m = m.lane.terms.ticks

-- the openings that stand when the entry comes
abbrev pub openings_at : Moment → List Opening
openings_at m = openings_of m.lane m.before

-- the journal is a legal one
abbrev pub IsLegal : Moment → Type 0
IsLegal m = IsConnectionJournal m.lane (m.before ++ m.entry ∷ m.since)

-- The parts of an entry. A message or a request that a connection hears has the outputs of that connection alone; a
-- tick has those of all connections, in the order in which they were opened. The lane's number has its place in the
-- last four bits of a reference.

pub record HasItsParts (m : Moment) : Type 0 where
  pub heard :
      (i : ℕ) (o : Opening) → slice_get (openings_at m) i ≡ Some o → is_tick m.entry.event ≡ false
      → hears (connection_of (ticks_of m) o) m.entry.event ≡ true
      → m.entry.outs ≡ part_of (ticks_of m) m.entry.event o
  pub ticked :
      m.entry.event ≡ Tick → m.entry.outs ≡ flat_map (part_of (ticks_of m) Tick) (openings_at m)

abbrev pub PartsStand : Type 0
PartsStand = (m : Moment) → m.lane.number < MOST_LANES → IsLegal m → HasItsParts m

-- Two worlds. The entry opens a connection, and takes the lowest references of the lane that are free.

abbrev pub wish_at : Moment → Wish
wish_at m = wish_of m.lane.terms m.entry.event

abbrev pub opened_at : Moment → Opened
opened_at m = opening_of m.lane (openings_at m) (wish_at m) (answer_of m.entry)

abbrev pub references_at : Moment → List ℕ
references_at m = lowest_free m.lane (openings_at m) (slots_needed (wish_at m) (answer_of m.entry))

abbrev pub events_since : Moment → List Event
events_since m = map (λ entry. entry.event) m.since

-- those of them that a connection hears
abbrev pub heard_since : Moment → Connection → List Event
heard_since m c = heard (ticks_of m) c (events_since m)

-- and its parts of the entries since, one for each that it hears
unfoldable pub parts_of : Ticks → Connection → List Event → List (List Output)
parts_of ticks c [] = []
parts_of ticks c (event ∷ events) =
    elim (hears c event) [
      | true ↦ (connection_step ticks c event).1 ∷ parts_of ticks (next ticks c event) events
      | false ↦ parts_of ticks c events
    ]

abbrev pub parts_since : Moment → Connection → List (List Output)
parts_since m c = parts_of (ticks_of m) c (events_since m)

-- two connections of one origin, which hear the same
pub record AreAlike (one : Moment) (c : Connection) (other : Moment) (d : Connection) : Type 0 where
  pub terms : one.lane.terms ≡ other.lane.terms
  pub event : one.entry.event ≡ other.entry.event
  pub answer : answer_of one.entry ≡ answer_of other.entry
  pub references : references_at one ≡ references_at other
  pub heard : heard_since one c ≡ heard_since other d

-- begin alike, and act alike
pub record ActAlike (one : Moment) (c : Connection) (other : Moment) (d : Connection) : Type 0 where
  pub outs : one.entry.outs ≡ other.entry.outs
  pub first : c ≡ d
  pub parts : parts_since one c ≡ parts_since other d

-- whatever else ran in the two lanes
abbrev pub TwoWorlds : Type 0
TwoWorlds =
    (one other : Moment) (c d : Connection) → IsLegal one → IsLegal other
    → (opened_at one).connection ≡ Some c → (opened_at other).connection ≡ Some d
    → AreAlike one c other d → ActAlike one c other d
