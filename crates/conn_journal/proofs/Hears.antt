-- What comes of an event at the number where the index finds its connection, and the lowest free references, one by one.
use Rattle.std.proofs.Common.{◌≡◌, ℕ, zero, suc, ◌+◌, ◌<◌, ◌≤◌, false, List, [], ◌∷◌, ◌++◌, length, map, take, get_or, set, Option, Some, None, if◌then◌else◌, refl, sym, ap, ◌∙◌, arith, length-take}
use Rattle.std.specs.Prelude.{option_map, slice_get}
use Rattle.std.proofs.lemmas.Bool.{eq-eqb, ne_eqb}
use Rattle.std.proofs.lemmas.List.{set-get_or}
use Rattle.std.proofs.lemmas.List.Elements.{All-get_or}
use Rattle.std.proofs.lemmas.Option.{same_Some}
use Rattle.relay_base.specs.declared.words.Event.{Event}
use Rattle.relay_base.specs.declared.words.Event.TheVariants.{Message as Arrived, Asked as Requested, Tick}
use Rattle.relay_base.specs.declared.words.Output.{Output}
use Rattle.local_refs.specs.Slots.{LaneSlots}
use Rattle.section_model.specs.Lane.{is_tick}
use Rattle.section_coupling.specs.Duos.{DuoState, taken_after}
use Rattle.conn_journal.specs.declared.change.Change.TheVariants.{Nothing, Heard as Hearing}
use Rattle.conn_journal.specs.declared.kept.Heard.{Heard}
use Rattle.conn_journal.specs.Inner.Changes.{Makes}
use Rattle.conn_journal.specs.Inner.Finding.{IsForPlace}
use Rattle.conn_journal.specs.Inner.Hearing.{Becomes}
use Rattle.conn_journal.specs.Inner.Lowest.{or_none_of}
use Rattle.conn_journal.specs.Inner.Remnants.{Remnant, part_at, first_part, remnant_after}
use Rattle.conn_journal.specs.Inner.Seated.{IsSeated}
use Rattle.conn_journal.specs.Inner.Stands.{Stands}
use Rattle.conn_journal.specs.Inner.Ticking.{nothing}
use Rattle.conn_journal.specs.Inner.Views.{OpeningsState, live_at}
use Rattle.conn_journal.proofs.HeardAt.{deaf_stays}
use Rattle.conn_journal.proofs.Standing.{live_there, makes_nothing, makes_heard}

pub part_here : (event : Event) (keeps : List Remnant) (o : OpeningsState) (number : ℕ) (one : Option DuoState) (part : Option (List Output)) → Stands keeps o → IsForPlace event keeps number → one ≡ get_or o.kept number one
    → part ≡ part_at event (option_map (live_at o.taken) one) → part ≡ first_part event keeps
part_here event keeps o number one part stands for here is =
    is ∙ sym (for.part nothing ∙ ap (part_at event) (live_there keeps o number one for.within stands.lives here))

-- nobody hears it there
pub deaf_here : (event : Event) (keeps : List Remnant) (o : OpeningsState) (number : ℕ) (one : Option DuoState) → is_tick event ≡ false → Stands keeps o → IsForPlace event keeps number → one ≡ get_or o.kept number one
    → None ≡ part_at event (option_map (live_at o.taken) one) → Makes Nothing o o.taken (map (remnant_after event) keeps)
deaf_here event keeps o number one untimed stands for here none =
    let k : Remnant = get_or keeps number nothing in
    let seated : IsSeated k = All-get_or IsSeated keeps number nothing for.within stands.orderly.seated in
    let deaf : part_at event k.live ≡ None = ap (part_at event) (live_there keeps o number one for.within stands.lives here) ∙ sym none in
    makes_nothing event o keeps (for.after nothing ∙ (ap (set keeps number) (deaf_stays event k untimed seated deaf) ∙ set-get_or keeps number nothing)) stands

untimed_taken : (event : Event) (taken : ℕ) → is_tick event ≡ false → taken_after taken event ≡ taken
untimed_taken (Arrived point sls bytes) taken untimed = refl
untimed_taken (Requested ssn r) taken untimed = refl
untimed_taken Tick taken untimed = absurd (cc)

pub heard_here : (event : Event) (keeps : List Remnant) (o : OpeningsState) (number : ℕ) (d : DuoState) (h : Heard) → is_tick event ≡ false → Stands keeps o → IsForPlace event keeps number → Some d ≡ get_or o.kept number (Some d)
    → Becomes o.taken event d h → Makes (Hearing (record { number = number; one = h.one; this = h.this; that = h.that })) o o.taken (map (remnant_after event) keeps)
heard_here event keeps o number d h untimed stands for here becomes = makes_heard event o keeps number d h untimed (untimed_taken event o.taken untimed) stands for here becomes

-- The lowest free references.

pub next_lowest : (free : List ℕ) (at m : ℕ) → slice_get free at ≡ Some m → take at free ++ m ∷ [] ≡ take (at + 1) free
next_lowest [] at m is = absurd (cc)
next_lowest (x ∷ free) zero m is = ap (λ y. y ∷ []) (sym (same_Some x m is))
next_lowest (x ∷ free) (suc at) m is = let e : suc at + 1 ≡ suc (at + 1) = omega arith in rw e (ap (λ xs. x ∷ xs) (next_lowest free at m is))

none_past : (free : List ℕ) (at : ℕ) → slice_get free at ≡ None → length free ≤ at
none_past [] at is = omega arith
none_past (x ∷ free) zero is = absurd (cc)
none_past (x ∷ free) (suc at) is = omega (arith, none_past free at is)

pub too_few : (free : List ℕ) (at count : ℕ) → slice_get free at ≡ None → at < count → [] ≡ or_none_of count (take count free)
too_few free at count none before =
    ap (λ b. if b then take count free else []) (sym (ne_eqb (length (take count free)) count (λ e. omega (arith, e, before, none_past free at none, length-take count free))))

pub enough_found : (lowest free : List ℕ) (at count : ℕ) → lowest ≡ take at free → length lowest ≡ at → at ≡ count → lowest ≡ or_none_of count (take count free)
enough_found lowest free at count is all same =
    let whole : lowest ≡ take count free = is ∙ ap (λ n. take n free) same in
    whole ∙ ap (λ b. if b then take count free else []) (sym (eq-eqb (length (take count free)) count (ap (λ xs. length xs) (sym whole) ∙ (all ∙ same))))

-- What is kept before the first event.
pub new_state : (taken : ℕ) (kept : List (Option DuoState)) (slots none : LaneSlots) (owners unowned : List (Option ℕ)) → taken ≡ 0 → kept ≡ [] → slots ≡ none → owners ≡ unowned
    → ◌≡◌ {A = OpeningsState} (record { taken = taken; kept = kept; slots = slots; owners = owners }) (record { taken = 0; kept = []; slots = none; owners = unowned })
new_state taken kept slots none owners unowned t e f g = rw (t, e, f, g) refl
