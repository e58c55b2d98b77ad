-- The connections that a tick changes, put one after another.
use Rattle.std.proofs.Common.{◌≡◌, ◌<◌, ℕ, true, List, [], ◌∷◌, length, get_or, Option, None, inl, inr, refl, ap, ◌∙◌}
use Rattle.std.specs.Prelude.{is_some}
use Rattle.std.proofs.lemmas.Bool.{both_ways, cases_lt}
use Rattle.std.proofs.lemmas.List.{get_or_past}
use Rattle.local_refs.specs.Slots.{LaneSlots}
use Rattle.section_coupling.specs.Duos.{DuoState}
use Rattle.conn_journal.specs.declared.change.Next.{Next}
use Rattle.conn_journal.specs.Inner.Changes.{all_given_up, all_disowned, put, put_all, CanAllGiveUp, CanAllBePut}
use Rattle.conn_journal.specs.Inner.Ticking.{put_lives, AllAreKept}
use Rattle.conn_journal.specs.Inner.Views.{OpeningsState}

-- their ends can give their references up
pub can_give : (nexts : List Next) (o : OpeningsState) → CanAllBePut nexts o → CanAllGiveUp nexts o.slots
can_give [] o can = tt
can_give (next ∷ more) o can = (can.0.this, can.0.that, can_give more (put next o) can.1)

-- none of them is over before
pub all_kept : (nexts : List Next) (o : OpeningsState) → CanAllBePut nexts o → AllAreKept nexts o.kept
all_kept [] o can = tt
all_kept (next ∷ more) o can = (can.0.alive, all_kept more (put next o) can.1)

put_parts : (nexts : List Next) (o : OpeningsState)
    → ◌≡◌ {A = OpeningsState} (record { taken = o.taken; kept = put_lives nexts o.kept; slots = all_given_up nexts o.slots; owners = all_disowned nexts o.owners }) (put_all nexts o)
put_parts [] o = refl
put_parts (next ∷ more) o = put_parts more (put next o)

-- what is kept then, part by part
pub all_put : (nexts : List Next) (o : OpeningsState) (taken : ℕ) (kept : List (Option DuoState)) (slots : LaneSlots) (owners : List (Option ℕ)) → taken ≡ o.taken → kept ≡ put_lives nexts o.kept
    → slots ≡ all_given_up nexts o.slots → owners ≡ all_disowned nexts o.owners
    → ◌≡◌ {A = OpeningsState} (record { taken = taken; kept = kept; slots = slots; owners = owners }) (put_all nexts o)
all_put nexts o taken kept slots owners t k s w = (λ i. record { taken = t i; kept = k i; slots = s i; owners = w i }) ∙ put_parts nexts o

-- a connection that is kept was opened
pub kept_within : (kept : List (Option DuoState)) (n : ℕ) → is_some (get_or kept n None) ≡ true → n < length kept
kept_within kept n is =
    elim (cases_lt n (length kept)) [ inl within ↦ within | inr past ↦ absurd (both_ways (is_some (get_or kept n None)) (ap is_some (get_or_past kept n None past)) is) ]
