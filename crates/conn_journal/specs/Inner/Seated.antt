-- What holds at all times of what a connection lane keeps: an end has its reference until it is gone, and no two openings take one slot.
use Rattle.std.specs.Prelude.{◌≡◌, ℕ, true, false, List, [], ◌∷◌, All, Option, Some, None, option_map, is_some, IfSome}
use Rattle.std.specs.List.{list_any}
use Rattle.relay_base.specs.declared.words.Event.{Event}
use Rattle.relay_base.specs.declared.words.Event.TheVariants.{Message as Arrived, Asked as Requested, Tick}
use Rattle.section_model.specs.Ends.{End}
use Rattle.section_model.specs.Parameters.{arrival_in}
use Rattle.section_model.specs.Step.{destination_of, named, end_is_gone, is_over}
use Rattle.section_model.specs.Lane.{reference_of}
use Rattle.conn_journal.specs.Inner.Remnants.{Live, Seat, Remnant, takes_slot}

-- the seat of an end has its reference, and is frozen exactly once the end is gone
abbrev pub SeatIs : End → Option Seat → Type 0
SeatIs end seat = (option_map (λ s. s.mine) seat ≡ reference_of end) × IfSome seat (λ s. is_some s.left ≡ end_is_gone end)

abbrev pub AreSeated : Option Live → Option Seat → Option Seat → Type 0
AreSeated None this that = Unit {0}
AreSeated (Some l) this that = SeatIs l.connection.this this × SeatIs l.connection.that that

-- a connection that is kept isn't over
abbrev pub IsOn : Option Live → Type 0
IsOn live = IfSome live (λ l. is_over l.connection ≡ false)

pub record IsSeated (k : Remnant) : Type 0 where
  pub on : IsOn k.live
  pub live : AreSeated k.live k.this k.that

-- no slot is taken by two openings
abbrev pub AreApart : List Remnant → Type 0
AreApart [] = Unit {0}
AreApart (k ∷ more) = ((slot : ℕ) → takes_slot slot k ≡ true → list_any (takes_slot slot) more ≡ false) × AreApart more

pub record AreOrderly (keeps : List Remnant) : Type 0 where
  pub seated : All IsSeated keeps
  pub apart : AreApart keeps

-- the reference that a message or a request names
abbrev pub reference_in : Event → Option ℕ
reference_in (Arrived point sls bytes) = destination_of (arrival_in bytes)
reference_in (Requested ssn r) = named r
reference_in Tick = None
