-- Two worlds: what a connection is, and what it does, hangs on its opening and on what it hears.
use Rattle.std.proofs.Common.{◌≡◌, Bool, true, false, List, [], ◌∷◌, Option, Some, refl, sym, ap, ◌∙◌}
use Rattle.relay_base.specs.declared.words.Event.{Event}
use Rattle.relay_base.specs.declared.words.Output.{Output}
use Rattle.plant_core.specs.declared.answer.Answer.{Answer}
use Rattle.plant_core.specs.declared.terms.Terms.{Terms}
use Rattle.plant_core.specs.declared.terms.Ticks.{Ticks}
use Rattle.section_model.specs.Ends.{Connection}
use Rattle.section_model.specs.Step.{hears, connection_step}
use Rattle.section_model.specs.Opening.{Wish, by_cr, by_user, no_wish, opened}
use Rattle.section_model.specs.Lane.{Lane, Opening, next, heard, opening_of, outputs_by, legal_outputs, answer_of}
use Rattle.lane_law.specs.SideBySide.{Moment, openings_at, wish_at, opened_at, references_at, events_since, IsLegal, parts_of, TwoWorlds}
use Rattle.lane_law.proofs.Moments.{entry_is_legal}

-- The outputs of events that a connection hears, one after another.

unfoldable outputs_along : Ticks → Connection → List Event → List (List Output)
outputs_along ticks c [] = []
outputs_along ticks c (event ∷ events) = (connection_step ticks c event).1 ∷ outputs_along ticks (next ticks c event) events

-- its parts are those
parts_along : (ticks : Ticks) (c : Connection) (events : List Event) → parts_of ticks c events ≡ outputs_along ticks c (heard ticks c events)
unfolding parts_of heard outputs_along
parts_along ticks c [] = refl
parts_along ticks c (event ∷ events) = by_test (hears c event) (parts_along ticks (next ticks c event) events) (parts_along ticks c events)
  where
    by_test : (b : Bool)
        → parts_of ticks (next ticks c event) events ≡ outputs_along ticks (next ticks c event) (heard ticks (next ticks c event) events)
        → parts_of ticks c events ≡ outputs_along ticks c (heard ticks c events)
        → (elim b [ true ↦ (connection_step ticks c event).1 ∷ parts_of ticks (next ticks c event) events | false ↦ parts_of ticks c events ])
        ≡ outputs_along ticks c (elim b [ true ↦ event ∷ heard ticks (next ticks c event) events | false ↦ heard ticks c events ])
    by_test true h k = ap (λ outs. (connection_step ticks c event).1 ∷ outs) h
    by_test false h k = k

same_parts : (ticks theirs : Ticks) (c d : Connection) (one other : List Event) → ticks ≡ theirs → c ≡ d → heard ticks c one ≡ heard theirs d other
    → parts_of ticks c one ≡ parts_of theirs d other
same_parts ticks theirs c d one other times same alike =
    let along : outputs_along ticks c (heard ticks c one) ≡ outputs_along theirs d (heard theirs d other) = cc in
    parts_along ticks c one ∙ along ∙ sym (parts_along theirs d other)

-- What is opened is the same, and the outputs of its entry are those of the opening.

same_opened : (terms : Terms) (one other : Moment) → one.lane.terms ≡ terms → other.lane.terms ≡ terms → one.entry.event ≡ other.entry.event
    → answer_of one.entry ≡ answer_of other.entry → references_at one ≡ references_at other → opened_at one ≡ opened_at other
same_opened terms one other mine its event answer references = cc

opens_with : (lane : Lane) (openings : List Opening) (event : Event) (wish : Wish) (answer : Option Answer) (c : Connection)
    → (opening_of lane openings wish answer).connection ≡ Some c → outputs_by lane openings event wish answer ≡ (opening_of lane openings wish answer).outs
unfolding opened
opens_with lane openings event (by_cr w) answer c opens = refl
opens_with lane openings event (by_user ssn tag w) answer c opens = refl
opens_with lane openings event no_wish answer c opens = absurd (cc)

opening_outputs : (m : Moment) (c : Connection) → IsLegal m → (opened_at m).connection ≡ Some c → m.entry.outs ≡ (opened_at m).outs
unfolding legal_outputs
opening_outputs m c legal opens =
    (entry_is_legal m legal).outputs ∙ opens_with m.lane (openings_at m) m.entry.event (wish_at m) (answer_of m.entry) c opens

pub two_worlds : TwoWorlds
two_worlds one other c d legal too opens opens_too alike =
    let same = same_opened other.lane.terms one other alike.terms refl alike.event alike.answer alike.references in
    let first : c ≡ d = cc in record {
      outs = opening_outputs one c legal opens ∙ ap (λ o. o.outs) same ∙ sym (opening_outputs other d too opens_too);
      first = first;
      parts = same_parts one.lane.terms.ticks other.lane.terms.ticks c d (events_since one) (events_since other)
          (ap (λ terms. terms.ticks) alike.terms) first alike.heard;
    }
