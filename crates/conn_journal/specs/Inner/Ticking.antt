-- A tick over what a lane keeps: freezes are lowered, and then what ends give up in this tick begins to be frozen.
use Rattle.std.specs.Prelude.{◌≡◌, ℕ, ◌+◌, ◌<◌, true, false, List, [], ◌∷◌, ◌++◌, length, map, take, drop, get_or, slice_set, Option, Some, None, option_map, is_some, IfSome}
use Rattle.relay_base.specs.declared.words.Event.TheVariants.{Tick}
use Rattle.relay_base.specs.declared.words.Output.{Output}
use Rattle.section_coupling.specs.Duos.{DuoState}
use Rattle.conn_journal.specs.declared.change.Next.{Next}
use Rattle.conn_journal.specs.declared.kept.Heard.{Heard}
use Rattle.conn_journal.specs.Inner.Hearing.{Becomes, TickedBy}
use Rattle.conn_journal.specs.Inner.Remnants.{Live, Seat, Remnant, seat_after, remnant_after, all_parts}
use Rattle.conn_journal.specs.Inner.Views.{OpeningsState, lives_at}

-- an opening that is in no list
abbrev pub nothing : Remnant
nothing = record { live = None; this = None; that = None }

abbrev pub live_ticked : Remnant → Option Live
live_ticked k = (remnant_after Tick k).live

-- its freezes are lowered
abbrev pub waited : Remnant → Remnant
waited k = record { live = live_ticked k; this = seat_after 0 Tick false k.this; that = seat_after 0 Tick false k.that }

-- the seat of an end that gives its reference up
abbrev pub frozen_if : ℕ → Option ℕ → Option Seat → Option Seat
frozen_if freeze None seat = seat
frozen_if freeze (Some mine) seat = option_map (λ s. record { mine = s.mine; left = Some freeze }) seat

abbrev pub given : ℕ → Next → Remnant → Remnant
given freeze next k = record { live = k.live; this = frozen_if freeze next.this k.this; that = frozen_if freeze next.that k.that }

abbrev pub put_seat : ℕ → Next → List Remnant → List Remnant
put_seat freeze next keeps = slice_set keeps next.number (given freeze next (get_or keeps next.number nothing))

abbrev pub put_seats : ℕ → List Next → List Remnant → List Remnant
put_seats freeze [] keeps = keeps
put_seats freeze (next ∷ more) keeps = put_seats freeze more (put_seat freeze next keeps)

abbrev pub put_lives : List Next → List (Option DuoState) → List (Option DuoState)
put_lives [] kept = kept
put_lives (next ∷ more) kept = put_lives more (slice_set kept next.number next.one)

-- each is kept yet where its next is put in its place
abbrev pub AllAreKept : List Next → List (Option DuoState) → Type 0
AllAreKept [] kept = Unit {0}
AllAreKept (next ∷ more) kept = (is_some (get_or kept next.number None) ≡ true) × AllAreKept more (slice_set kept next.number next.one)

-- an end that isn't gone has the reference that it gives up
abbrev pub HasHeld : Option ℕ → Option Seat → Type 0
HasHeld mine seat = IfSome mine (λ m. seat ≡ Some (record { mine = m; left = None }))

pub record MayGive (next : Next) (keeps : List Remnant) : Type 0 where
  pub number : next.number < length keeps
  pub this : HasHeld next.this (get_or keeps next.number nothing).this
  pub that : HasHeld next.that (get_or keeps next.number nothing).that

abbrev pub AllMayGive : ℕ → List Next → List Remnant → Type 0
AllMayGive freeze [] keeps = Unit {0}
AllMayGive freeze (next ∷ more) keeps = MayGive next keeps × AllMayGive freeze more (put_seat freeze next keeps)

-- a tick at the openings before a number
pub record TickedTo (keeps : List Remnant) (o : OpeningsState) (number : ℕ) (nexts : List Next) (outs : List Output) : Type 0 where
  pub lives : lives_at (o.taken + 1) (put_lives nexts o.kept)
      ≡ map live_ticked (take number keeps) ++ lives_at (o.taken + 1) (drop number o.kept)
  pub seats : put_seats o.slots.freeze nexts (map waited keeps)
      ≡ map (remnant_after Tick) (take number keeps) ++ map waited (drop number keeps)
  pub gives : AllMayGive o.slots.freeze nexts (map waited keeps)
  pub alive : AllAreKept nexts o.kept
  pub parts : outs ≡ all_parts Tick (take number keeps)

-- at all
pub record AreTicked (keeps : List Remnant) (o : OpeningsState) (nexts : List Next) (outs : List Output) : Type 0 where
  pub lives : lives_at (o.taken + 1) (put_lives nexts o.kept) ≡ map live_ticked keeps
  pub seats : put_seats o.slots.freeze nexts (map waited keeps) ≡ map (remnant_after Tick) keeps
  pub gives : AllMayGive o.slots.freeze nexts (map waited keeps)
  pub alive : AllAreKept nexts o.kept
  pub parts : outs ≡ all_parts Tick keeps

-- at one, whose connection may be over
abbrev pub TickedAt : ℕ → Option DuoState → Option Heard → Type 0
TickedAt now None heard = heard ≡ None
TickedAt now (Some d) heard = TickedBy now d heard

-- at one that the tick wakes, unless it is over
abbrev pub WokenAt : ℕ → Option DuoState → Option Heard → Type 0
WokenAt now None heard = heard ≡ None
WokenAt now (Some d) None = ⊥
WokenAt now (Some d) (Some h) = Becomes now Tick d h
