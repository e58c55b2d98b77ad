-- What an event makes of a connection, as the code has it.
use Rattle.std.specs.Prelude.{◌≡◌, ℕ, ◌&&◌, not, if◌then◌else◌, Option, Some, None, option_map}
use Rattle.relay_base.specs.declared.words.Event.{Event}
use Rattle.relay_base.specs.declared.words.Event.TheVariants.{Tick}
use Rattle.section_model.specs.Ends.{End}
use Rattle.section_model.specs.Step.{end_is_gone}
use Rattle.section_model.specs.Lane.{fed, reference_of}
use Rattle.section_coupling.specs.Duos.{DuoState, duo_at, taken_after}
use Rattle.conn_journal.specs.declared.kept.Heard.{Heard}
use Rattle.conn_journal.specs.Inner.Remnants.{live_of, part_in}
use Rattle.conn_journal.specs.Inner.Views.{live_at, IsIdle}

-- the reference that an end gives up which is gone now
abbrev pub gives : End → End → Option ℕ
gives before after = if end_is_gone after && not (end_is_gone before) then reference_of after else None

-- the connection, unless it is over, what its ends give up, and the outputs
pub record Becomes (now : ℕ) (event : Event) (d : DuoState) (h : Heard) : Type 0 where
  pub live : option_map (live_at (taken_after now event)) h.one ≡ live_of d.ticks (fed d.ticks (duo_at now d) event)
  pub this : h.this ≡ gives (duo_at now d).this (fed d.ticks (duo_at now d) event).this
  pub that : h.that ≡ gives (duo_at now d).that (fed d.ticks (duo_at now d) event).that
  pub part : Some h.outs ≡ part_in event (live_at now d)

-- it doesn't hear the event
abbrev pub HeardBy : ℕ → Event → DuoState → Option Heard → Type 0
HeardBy now event d None = part_in event (live_at now d) ≡ None
HeardBy now event d (Some h) = Becomes now event d h

-- the tick only brings its timers nearer
abbrev pub TickedBy : ℕ → DuoState → Option Heard → Type 0
TickedBy now d None = IsIdle now d
TickedBy now d (Some h) = Becomes now Tick d h
