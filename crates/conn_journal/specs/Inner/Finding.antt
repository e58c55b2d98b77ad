-- Where the connection that hears an event stands among what is kept.
use Rattle.std.specs.Prelude.{◌≡◌, ℕ, ◌<◌, false, List, map, length, get_or, slice_set, Option, Some, None}
use Rattle.relay_base.specs.declared.words.Event.{Event}
use Rattle.section_model.specs.Lane.{is_tick}
use Rattle.conn_journal.specs.Inner.Remnants.{Remnant, remnant_after, part_at, first_part}

-- nobody hears it, and all is as before
pub record IsUnheard (event : Event) (keeps : List Remnant) : Type 0 where
  pub part : first_part event keeps ≡ None
  pub after : map (remnant_after event) keeps ≡ keeps

-- whoever doesn't stand at this place doesn't hear it, and is as before
pub record IsForPlace (event : Event) (keeps : List Remnant) (place : ℕ) : Type 0 where
  pub within : place < length keeps
  pub part : (d : Remnant) → first_part event keeps ≡ part_at event (get_or keeps place d).live
  pub after : (d : Remnant) → map (remnant_after event) keeps
      ≡ slice_set keeps place (remnant_after event (get_or keeps place d))

-- an event that is no tick is for nobody, or for the one at a place
abbrev pub IsPlaceIn : Event → List Remnant → Option ℕ → Type 0
IsPlaceIn event keeps None = is_tick event ≡ false → IsUnheard event keeps
IsPlaceIn event keeps (Some place) = IsForPlace event keeps place
