-- A lane with one connection, which hears each event, runs as the connection alone.
use Rattle.std.proofs.Common.{◌≡◌, ◌&&◌, Bool, true, false, List, [], ◌∷◌, ◌++◌, map, Option, Some, None, refl, sym, ap, ap₂, ◌∙◌, subst, append-nil}
use Rattle.std.proofs.lemmas.Bool.{and_parts, cond-true}
use Rattle.relay_base.specs.declared.words.Event.{Event}
use Rattle.relay_base.specs.declared.words.Event.TheVariants.{Message as Arrived, Asked as Requested, Tick}
use Rattle.relay_base.specs.declared.words.Output.{Output}
use Rattle.plant_core.specs.declared.answer.Answer.{Answer}
use Rattle.plant_core.specs.declared.terms.Ticks.{Ticks}
use Rattle.section_model.specs.Ends.{Connection}
use Rattle.section_model.specs.Step.{connection_step, hears}
use Rattle.section_model.specs.Opening.{Wish, by_cr, by_user, no_wish, wish_of, opened}
use Rattle.section_model.specs.Lane.{Lane, Opening, connection_of, heard, follow, next, part_of, hearing, outputs_of_hearing, other_outputs, outputs_by, legal_outputs, with_event, opening_list, opening_of, openings_after}
use Rattle.section_model.proofs.Following.{one_more}
use Rattle.lane_law.specs.Played.{played_from}
use Rattle.section_rows.specs.Examples.{routed}
use Rattle.section_rows.specs.Played.{played, Shows}
use Rattle.section_rows.proofs.Showing.{shows}

-- the outputs of a connection along events that it hears, one list for each
unfoldable pub outputs_along : Ticks → Connection → List Event → List (List Output)
outputs_along ticks c [] = []
outputs_along ticks c (event ∷ events) = (connection_step ticks c event).1 ∷ outputs_along ticks (next ticks c event) events

abbrev pub is_no_wish : Wish → Bool
is_no_wish no_wish = true
is_no_wish _ = false

-- it hears each of the events, and none of them opens another connection
unfoldable pub are_heard : Lane → Connection → List Event → Bool
are_heard lane c [] = true
are_heard lane c (event ∷ events) =
    is_no_wish (wish_of lane.terms event) && (hears c event && are_heard lane (next lane.terms.ticks c event) events)

none_wished : (wish : Wish) → is_no_wish wish ≡ true → wish ≡ no_wish
none_wished (by_cr w) is = absurd (cc)
none_wished (by_user ssn tag w) is = absurd (cc)
none_wished no_wish is = refl

-- one event

abbrev either_of : {A : Type 0} → Bool → A → A → A
either_of b x y = elim b [ true ↦ x | false ↦ y ]

where_true : {A : Type 0} (b : Bool) (x y : A) → b ≡ true → either_of b x y ≡ x
where_true true x y is = refl
where_true false x y is = absurd (cc)

heard_alone : (ticks : Ticks) (o : Opening) (event : Event) → hears (connection_of ticks o) event ≡ true
    → outputs_of_hearing ticks event (hearing ticks (o ∷ []) event) ≡ (connection_step ticks (connection_of ticks o) event).1
heard_alone ticks o event is =
    let c = connection_of ticks o in
    ap (outputs_of_hearing ticks event) (cond-true (hears c event) (Some o) None is) ∙ where_true (hears c event) (connection_step ticks c event).1 [] is

outputs_alone : (lane : Lane) (o : Opening) (event : Event) → hears (connection_of lane.terms.ticks o) event ≡ true
    → other_outputs lane (o ∷ []) event ≡ (connection_step lane.terms.ticks (connection_of lane.terms.ticks o) event).1
outputs_alone lane o (Arrived point sls bytes) is = heard_alone lane.terms.ticks o (Arrived point sls bytes) is
outputs_alone lane o (Requested ssn r) is = heard_alone lane.terms.ticks o (Requested ssn r) is
outputs_alone lane o Tick is =
    let ticks : Ticks = lane.terms.ticks in
    append-nil (part_of ticks Tick o) ∙ where_true (hears (connection_of ticks o) Tick) (connection_step ticks (connection_of ticks o) Tick).1 [] is

after_alone : (lane : Lane) (o : Opening) (event : Event) (answer : Option Answer) (wish : Wish) → wish ≡ no_wish
    → map (with_event event) (o ∷ []) ++ opening_list (opening_of lane (o ∷ []) wish answer).connection ≡ with_event event o ∷ []
unfolding opened
after_alone lane o event answer wish none = rw none refl

next_alone : (ticks : Ticks) (o : Opening) (event : Event) → hears (connection_of ticks o) event ≡ true
    → connection_of ticks (with_event event o) ≡ next ticks (connection_of ticks o) event
next_alone ticks o event is =
    let c = connection_of ticks o in one_more ticks o.first o.since event ∙ where_true (hears c event) (next ticks c event) c is

-- all events

run_alone : (lane : Lane) (o : Opening) (events : List Event) → are_heard lane (connection_of lane.terms.ticks o) events ≡ true
    → played_from lane (o ∷ []) (map (routed lane) events) ≡ outputs_along lane.terms.ticks (connection_of lane.terms.ticks o) events
unfolding played_from outputs_along are_heard legal_outputs openings_after
run_alone lane o [] heard = refl
run_alone lane o (event ∷ events) heard =
    let ticks : Ticks = lane.terms.ticks in
    let c = connection_of ticks o in
    let parts = and_parts (is_no_wish (wish_of lane.terms event)) (hears c event && are_heard lane (next ticks c event) events) heard in
    let rest = and_parts (hears c event) (are_heard lane (next ticks c event) events) parts.1 in
    let none : wish_of lane.terms event ≡ no_wish = none_wished (wish_of lane.terms event) parts.0 in
    let later : connection_of ticks (with_event event o) ≡ next ticks c event = next_alone ticks o event rest.0 in
    let answer : Option Answer = (routed lane event).1 in
    ap₂ (λ (first : List Output) (more : List (List Output)). first ∷ more)
    (ap (λ wish. outputs_by lane (o ∷ []) event wish answer) none ∙ outputs_alone lane o event rest.0)
    (ap (λ openings. played_from lane openings (map (routed lane) events)) (after_alone lane o event answer (wish_of lane.terms event) none)
    ∙ (run_alone lane (with_event event o) events (subst (λ d. are_heard lane d events ≡ true) (sym later) rest.1)
    ∙ ap (λ d. outputs_along ticks d events) later))

-- a row of a lane whose first event opens a connection, which hears the others
pub shows_alone : (lane : Lane) (first : Event) (events : List Event) (c : Connection) (outs : List Output) (more : List (List Output))
    → openings_after lane [] first (routed lane first).1 ≡ record { first = c; since = [] } ∷ []
    → legal_outputs lane [] first (routed lane first).1 ≡ outs
    → are_heard lane c events ≡ true → outputs_along lane.terms.ticks c events ≡ more → Shows lane (first ∷ events) (outs ∷ more)
unfolding played played_from heard follow
shows_alone lane first events c outs more opens begins heard goes =
    shows lane (first ∷ events) (outs ∷ more)
    (ap₂ (λ (now : List Output) (later : List (List Output)). now ∷ later) begins
    (ap (λ openings. played_from lane openings (map (routed lane) events)) opens ∙ (run_alone lane (record { first = c; since = [] }) events heard ∙ goes)))
