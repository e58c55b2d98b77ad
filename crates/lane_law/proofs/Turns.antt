-- The openings of a lane have the references of their slots' turns.
use Rattle.std.proofs.Common.{◌≡◌, ℕ, zero, suc, ◌+◌, ◌<◌, Bool, cond, fold, List, [], ◌∷◌, ◌++◌, map, take, Option, Some, None, IfSome, refl, sym, subst, ap, ◌∙◌, ⊎_elim, append-nil, append_assoc}
use Rattle.std.specs.Prelude.{slice_get}
use Rattle.relay_base.specs.declared.limits.TheConstants.{MOST_LANES}
use Rattle.relay_base.specs.declared.words.Event.{Event}
use Rattle.plant_core.specs.declared.answer.Answer.{Answer}
use Rattle.plant_core.specs.declared.entry.Entry.{Entry}
use Rattle.section_model.specs.Ends.{Connection}
use Rattle.section_model.specs.Opening.{wish_of}
use Rattle.section_model.specs.References.{slot_of, generation_after, generation_of}
use Rattle.section_model.specs.Lane.{Lane, Opening, reference_of, reference_at, took, times_taken, with_event, opening_of, opening_list, openings_after, answer_of}
use Rattle.section_model.specs.Laws.{openings_from}
use Rattle.section_model.proofs.References.{generation_read, slot_below}
use Rattle.lane_law.specs.TurnLaw.{IsInTurn, EachInTurn, SameGeneration}
use Rattle.lane_law.proofs.Opened.{EndsAre, AreAmong, IsNext, opens_next}
use Rattle.lane_law.proofs.Standing.{new_of}

-- Openings in turn after others.

abbrev AreInTurn : Lane → List Opening → List Opening → Type 0
AreInTurn lane before [] = Unit {0}
AreInTurn lane before (o ∷ more) = EndsAre (IsInTurn lane before) o.first × AreInTurn lane (before ++ o ∷ []) more

-- as many pass of what a list becomes as of the list
pub counted_mapped : {X Y : Type 0} (p : X → Bool) (q : Y → Bool) (f : X → Y) → ((x : X) → q (f x) ≡ p x) → (xs : List X) (count : ℕ)
    → fold (λ n y. n + cond (q y) 1 0) count (map f xs) ≡ fold (λ n x. n + cond (p x) 1 0) count xs
counted_mapped p q f same [] count = refl
counted_mapped p q f same (x ∷ xs) count =
    ap (λ b. fold (λ n y. n + cond (q y) 1 0) (count + cond b 1 0) (map f xs)) (same x) ∙ counted_mapped p q f same xs (count + cond (p x) 1 0)

-- an event takes no slot

pub times_after : (event : Event) (openings : List Opening) (slot : ℕ) → times_taken (map (with_event event) openings) slot ≡ times_taken openings slot
times_after event openings slot = counted_mapped (took slot) (took slot) (with_event event) (λ o. refl) openings 0

turn_after : (lane : Lane) (event : Event) (openings : List Opening) (mine : ℕ) → IsInTurn lane openings mine → IsInTurn lane (map (with_event event) openings) mine
turn_after lane event openings mine is =
    is ∙ ap (λ n. reference_at lane (λ _. n) (slot_of mine)) (sym (times_after event openings (slot_of mine)))

some_after : (lane : Lane) (event : Event) (openings : List Opening) (mine : Option ℕ) → IfSome mine (IsInTurn lane openings)
    → IfSome mine (IsInTurn lane (map (with_event event) openings))
some_after lane event openings None is = tt
some_after lane event openings (Some m) is = turn_after lane event openings m is

mapped_push : (event : Event) (before : List Opening) (o : Opening) → map (with_event event) before ++ with_event event o ∷ [] ≡ map (with_event event) (before ++ o ∷ [])
mapped_push event [] o = refl
mapped_push event (x ∷ before) o = ap (λ xs. with_event event x ∷ xs) (mapped_push event before o)

all_after : (lane : Lane) (event : Event) (before openings : List Opening) → AreInTurn lane before openings
    → AreInTurn lane (map (with_event event) before) (map (with_event event) openings)
all_after lane event before [] are = tt
all_after lane event before (o ∷ openings) are = (
  (some_after lane event before (reference_of o.first.this) are.0.0, some_after lane event before (reference_of o.first.that) are.0.1),
  subst (λ xs. AreInTurn lane xs (map (with_event event) openings)) (sym (mapped_push event before o)) (all_after lane event (before ++ o ∷ []) openings are.1),
)

-- one opening more
all_with : (lane : Lane) (before openings : List Opening) (o : Opening) → AreInTurn lane before openings → EndsAre (IsInTurn lane (before ++ openings)) o.first
    → AreInTurn lane before (openings ++ o ∷ [])
all_with lane before [] o are is = (subst (λ xs. EndsAre (IsInTurn lane xs) o.first) (append-nil before) is, tt)
all_with lane before (x ∷ openings) o are is = (
  are.0,
  all_with lane (before ++ x ∷ []) openings o are.1 (subst (λ xs. EndsAre (IsInTurn lane xs) o.first) (sym (append_assoc before (x ∷ []) openings)) is),
)

some_next : (lane : Lane) (event : Event) (openings : List Opening) (mine : Option ℕ) → IfSome mine (IsNext lane openings)
    → IfSome mine (IsInTurn lane (map (with_event event) openings))
some_next lane event openings None is = tt
some_next lane event openings (Some m) is = turn_after lane event openings m is.turn

all_opened : (lane : Lane) (event : Event) (openings : List Opening) (connection : Option Connection) → AreAmong (IsNext lane openings) connection
    → AreInTurn lane [] openings → AreInTurn lane [] (map (with_event event) openings ++ opening_list connection)
all_opened lane event openings None next are =
    subst (AreInTurn lane []) (sym (append-nil (map (with_event event) openings))) (all_after lane event [] openings are)
all_opened lane event openings (Some c) next are =
    all_with lane [] (map (with_event event) openings) (new_of c) (all_after lane event [] openings are)
    (some_next lane event openings (reference_of c.this) next.0, some_next lane event openings (reference_of c.that) next.1)

-- All entries.

all_next : (lane : Lane) (openings : List Opening) (event : Event) (answer : Option Answer) → lane.number < MOST_LANES
    → AreInTurn lane [] openings → AreInTurn lane [] (openings_after lane openings event answer)
unfolding openings_after
all_next lane openings event answer within are =
    let wish = wish_of lane.terms event in
    all_opened lane event openings (opening_of lane openings wish answer).connection (opens_next lane openings wish answer within) are

all_from : (lane : Lane) (openings : List Opening) (journal : List Entry) → lane.number < MOST_LANES
    → AreInTurn lane [] openings → AreInTurn lane [] (openings_from lane openings journal)
all_from lane openings [] within are = are
all_from lane openings (entry ∷ journal) within are =
    all_from lane (openings_after lane openings entry.event (answer_of entry)) journal within
    (all_next lane openings entry.event (answer_of entry) within are)

-- The one at a place.

ends_at : (lane : Lane) (before openings : List Opening) (place : ℕ) (o : Opening) → AreInTurn lane before openings → slice_get openings place ≡ Some o
    → EndsAre (IsInTurn lane (before ++ take place openings)) o.first
ends_at lane before [] place o are here = absurd (cc)
ends_at lane before (x ∷ openings) zero o are here =
    let same : x ≡ o = cc in
    subst (λ xs. EndsAre (IsInTurn lane xs) o.first) (sym (append-nil before)) (subst (λ y. EndsAre (IsInTurn lane before) y.first) same are.0)
ends_at lane before (x ∷ openings) (suc place) o are here =
    subst (λ xs. EndsAre (IsInTurn lane xs) o.first) (append_assoc before (x ∷ []) (take place openings))
    (ends_at lane (before ++ x ∷ []) openings place o are.1 here)

end_in_turn : (lane : Lane) (openings : List Opening) (mine : ℕ) (reference : Option ℕ) → IfSome reference (IsInTurn lane openings) → reference ≡ Some mine
    → IsInTurn lane openings mine
end_in_turn lane openings mine reference are is = subst (λ r. IfSome r (IsInTurn lane openings)) is are

pub each_in_turn : EachInTurn
each_in_turn lane journal place o mine within here took =
    let openings = openings_from lane [] journal in
    let ends = ends_at lane [] openings place o (all_from lane [] journal within tt) here in
    ⊎_elim
    (λ is. end_in_turn lane (take place openings) mine (reference_of o.first.this) ends.0 is)
    (λ is. end_in_turn lane (take place openings) mine (reference_of o.first.that) ends.1 is) took

-- the generation of a reference is that of its turn
generation_is : (lane : Lane) (openings : List Opening) (mine : ℕ) → lane.number < MOST_LANES → IsInTurn lane openings mine
    → generation_of mine ≡ generation_after (times_taken openings (slot_of mine))
generation_is lane openings mine within is =
    ap generation_of is ∙ generation_read lane.number (generation_after (times_taken openings (slot_of mine))) (slot_of mine) within (slot_below mine)

pub same_generation : SameGeneration
same_generation lane journal i j one other mine within first second had too =
    let openings = openings_from lane [] journal in
    sym (generation_is lane (take i openings) mine within (each_in_turn lane journal i one mine within first had))
    ∙ generation_is lane (take j openings) mine within (each_in_turn lane journal j other mine within second too)
