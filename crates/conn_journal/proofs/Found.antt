-- The number at which the index finds the connection that hears an event.
use Rattle.std.proofs.Common.{◌+◌, ◌≡◌, ℕ, ◌<◌, false, List, length, sym, subst, ◌∙◌}
use Rattle.std.proofs.lemmas.List.Quantifiers.{position-Some}
use Rattle.std.proofs.lemmas.List.Elements.{All-weaker}
use Rattle.std.specs.Prelude.{Option, Some, None, position, IfSome}
use Rattle.relay_base.specs.declared.limits.TheConstants.{SLOTS}
use Rattle.relay_base.specs.declared.words.Event.{Event}
use Rattle.section_model.specs.References.{slot_of}
use Rattle.section_model.specs.Lane.{is_tick}
use Rattle.conn_journal.specs.Inner.Remnants.{Remnant, has_slot}
use Rattle.conn_journal.specs.Inner.Uses.{owner_at}
use Rattle.conn_journal.specs.Inner.Seated.{AreOrderly, reference_in}
use Rattle.conn_journal.specs.Inner.Stands.{IsPlaced, Stands, IsStanding}
use Rattle.conn_journal.specs.Inner.Views.{OpeningsState}
use Rattle.conn_journal.specs.Inner.Finding.{IsUnheard, IsForPlace, IsPlaceIn}
use Rattle.section_model.proofs.References.{slot_below}
use Rattle.conn_journal.proofs.HeardAt.{nobody_named, nobody_there, somebody}
use Rattle.conn_journal.proofs.Standing.{count_is}
use Rattle.conn_journal.proofs.Used.{EndsApart, owner_is}
use Rattle.conn_journal.specs.Inner.Ticking.{nothing}

index_is : (keeps : List Remnant) (o : OpeningsState) → Stands keeps o → (slot : ℕ) → slot < SLOTS + 1 → owner_at o.owners slot ≡ position (has_slot slot) keeps
index_is keeps o stands slot within =
    stands.uses.owners slot within
    ∙ owner_is slot keeps stands.orderly.apart (All-weaker (IsPlaced o.slots.lane o.slots.freeze) EndsApart (λ k placed. placed.ends) keeps stands.placed)

-- the event names no reference
pub found_unnamed : (event : Event) (keeps : List Remnant) → AreOrderly keeps → reference_in event ≡ None → IsPlaceIn event keeps None
found_unnamed event keeps orderly none = λ untimed. let f = nobody_named event keeps untimed orderly.seated none in record { part = f.0; after = f.1 }

-- nobody has its slot
found_free : (event : Event) (keeps : List Remnant) (owners : List (Option ℕ)) (mine : ℕ) → is_tick event ≡ false → AreOrderly keeps → owner_at owners (slot_of mine) ≡ position (has_slot (slot_of mine)) keeps
    → reference_in event ≡ Some mine → owner_at owners (slot_of mine) ≡ None → IsUnheard event keeps
found_free event keeps owners mine untimed orderly index is none =
    let f = nobody_there event keeps mine untimed orderly.seated is (sym index ∙ none) in record { part = f.0; after = f.1 }

-- somebody has its slot
found_place : (event : Event) (keeps : List Remnant) (owners : List (Option ℕ)) (mine place : ℕ) → AreOrderly keeps → owner_at owners (slot_of mine) ≡ position (has_slot (slot_of mine)) keeps
    → reference_in event ≡ Some mine → owner_at owners (slot_of mine) ≡ Some place → IsForPlace event keeps place
found_place event keeps owners mine place orderly index is found =
    let there : position (has_slot (slot_of mine)) keeps ≡ Some place = sym index ∙ found in
    let at = position-Some (has_slot (slot_of mine)) keeps place nothing there in
    let some = somebody event keeps mine place orderly is there in
    record { within = at.0; part = λ d. (some d).0; after = λ d. (some d).1 }

found_in : (event : Event) (keeps : List Remnant) (owners : List (Option ℕ)) (mine : ℕ) (place : Option ℕ) → AreOrderly keeps → owner_at owners (slot_of mine) ≡ position (has_slot (slot_of mine)) keeps
    → reference_in event ≡ Some mine → place ≡ owner_at owners (slot_of mine) → IsPlaceIn event keeps place
found_in event keeps owners mine None orderly index is found = λ untimed. found_free event keeps owners mine untimed orderly index is (sym found)
found_in event keeps owners mine (Some place) orderly index is found = found_place event keeps owners mine place orderly index is (sym found)

pub found_place_in : (event : Event) (keeps : List Remnant) (o : OpeningsState) (mine : ℕ) (place : Option ℕ) → Stands keeps o
    → reference_in event ≡ Some mine → place ≡ owner_at o.owners (slot_of mine) → IsPlaceIn event keeps place
found_place_in event keeps o mine place stands is found = found_in event keeps o.owners mine place stands.orderly (index_is keeps o stands (slot_of mine) (slot_below mine)) is found

-- it is a number that the lane has
pub found_within : (event : Event) (o : OpeningsState) (place : Option ℕ) → (s : IsStanding o) → IsPlaceIn event s.keeps place → IfSome place (λ n. n < length o.kept)
found_within event o None s for = tt
found_within event o (Some place) s for = subst (λ n. place < n) (sym (count_is s.keeps o s.stands.lives)) for.within
