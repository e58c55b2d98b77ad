-- What an act sends at once, with all that the ends hand to each other then.
use Rattle.std.proofs.Common.{◌≡◌, ℕ, ◌==◌, ◌&&◌, not, Bool, true, List, [], ◌∷◌, Some, None, refl, ◌∙◌, ap, inl, inr}
use Rattle.relay_base.specs.declared.words.Output.{Output}
use Rattle.plant_core.specs.declared.terms.Ticks.{Ticks}
use Rattle.q713_shape.specs.Writing.{octets_of}
use Rattle.q713_codec.specs.Writing.{spelling_of}
use Rattle.section_model.specs.declared.cell.SectionState.{SectionState}
use Rattle.section_model.specs.declared.cell.SectionState.TheVariants.{Up, Resetting}
use Rattle.section_model.specs.declared.hand.Hand.TheVariants as hand
use Rattle.section_model.specs.declared.hand.Acted.{Acted}
use Rattle.section_model.specs.Table.{section_row}
use Rattle.section_model.specs.Ends.{End, wire, owner, Section, Connection, turned, no_effect, gives_then}
use Rattle.section_model.specs.Line.{line_takes}
use Rattle.section_model.specs.Windowed.{Windowed, windowed_takes}
use Rattle.section_model.specs.Acting.{timed, by_windows, section_takes, end_takes, user_takes_by}
use Rattle.section_model.specs.Coupling.{exchange, settles}
use Rattle.connection_law.proofs.Flow.Flowing.{either}
use Rattle.connection_law.proofs.Flow.Taking.{at}
use Rattle.connection_law.specs.Messages.{data_among, expedited_among}
use Rattle.connection_law.specs.ExpeditedSent.{as_expedited, unanswered_at, AtOnce, none, on_this, on_that}
use Rattle.connection_law.proofs.Message.Plain.{IsPlain, AreOther, ActsPlain, user_takes_plain}
use Rattle.connection_law.proofs.Message.Exchanging.{exchange_plain, GivesAs, left_gives, left_keeps}

-- a connection of two ends
abbrev pub both : End → End → Connection
both this that = record { this = this; that = that }

-- what an event sends before units leave: no DT2, and ED at once
abbrev pub EventSends : (Section → Type 0) → (End → List ℕ → Type 0) → Connection → Connection × List Output → Type 0
EventSends A G c r = (data_among r.1 ≡ []) × AtOnce A G c r.0 (expedited_among r.1)

pub plain_sends : (A : Section → Type 0) (G : End → List ℕ → Type 0) (c : Connection) (r : Connection × List Output) → IsPlain r.1 → EventSends A G c r
unfolding IsPlain
plain_sends A G c r p = (p.0, none p.1)

pub turned_sends : (A : Section → Type 0) (G : End → List ℕ → Type 0) (c : Connection) (r : Connection × List Output) → EventSends A G (turned c) r → EventSends A G c (turned r.0, r.1)
turned_sends A G c r s = (s.0, other s.1)
  where
    other : AtOnce A G (turned c) r.0 (expedited_among r.1) → AtOnce A G c (turned r.0) (expedited_among r.1)
    other (none e) = none e
    other (on_this l) = on_that l
    other (on_that l) = on_this l

-- an act of which none comes
pub settles_plain : (A : Section → Type 0) (G : End → List ℕ → Type 0) (c : Connection) (ticks : Ticks) (acting : End × Acted) (that : End) → ActsPlain acting.1 → EventSends A G c (settles ticks acting that)
settles_plain A G c ticks acting that p = plain_sends A G c (settles ticks acting that) (exchange_plain 2 ticks acting that p)

-- ED leaves on a section that acts
expedited_gives : (x : Section) (body : List ℕ) (all : List Output) → GivesAs (as_expedited x body ∷ []) all → (data_among all ≡ []) × (expedited_among all ≡ as_expedited x body ∷ [])
unfolding data_among expedited_among spelling_of octets_of
expedited_gives x body all g = (g.numbered, g.expedited)

pub settles_answer : (A : Section → Type 0) (G : End → List ℕ → Type 0) (ticks : Ticks) (x y : Section) (that : End) (body : List ℕ) → A x → x.windows.unanswered ≡ true → x.windows.waiting ≡ Some body → y.windows.unanswered ≡ true
    → EventSends A G (both (wire x) that) (settles ticks (wire y, gives_then (as_expedited x body ∷ []) (hand.Left 0 true ∷ [])) that)
settles_answer A G ticks x y that body answer unanswered waiting after =
    let acting : End × Acted = (wire y, gives_then (as_expedited x body ∷ []) (hand.Left 0 true ∷ [])) in
    let g = expedited_gives x body (settles ticks acting that).1 (left_gives true 1 ticks (wire y) that (as_expedited x body ∷ []) 0 true) in
    let kept = left_keeps 1 ticks (wire y) that (as_expedited x body ∷ []) 0 true in
    (g.0, on_this (record { section = x; is = refl; body = body; sends = g.1; why = inl (answer, unanswered, waiting); unanswered = ap unanswered_at kept ∙ after }))

-- The other end takes expedited data.

unfoldable TakerSends : (Section → Type 0) → (End → List ℕ → Type 0) → Ticks → End → End → Section → Section × Acted → Type 0
TakerSends A G ticks e giver old done =
    let r = exchange 1 ticks (timed ticks old done) giver in EventSends A G (both e (wire old)) (turned r.0, r.1)

none_taken : (A : Section → Type 0) (G : End → List ℕ → Type 0) (ticks : Ticks) (e giver : End) (old : Section) (done : Section × Acted) → ActsPlain done.1 → TakerSends A G ticks e giver old done
unfolding TakerSends
none_taken A G ticks e giver old done p =
    let r = exchange 1 ticks (timed ticks old done) giver in
    plain_sends A G (both e (wire old)) (turned r.0, r.1) (exchange_plain 1 ticks (timed ticks old done) giver p)

free_up : (y : Section) (three free : Bool) → three ≡ true → free ≡ true → (three && free) ≡ true
free_up y three free t f = rw (t, f) refl

leaves_free : (A : Section → Type 0) (G : End → List ℕ → Type 0) (ticks : Ticks) (e giver : End) (y : Section) (body : List ℕ) → G e body → (y.head.class == 3) ≡ true → not y.windows.unanswered ≡ true
    → (let y' : Section = record (at Up y) { windows = record y.windows { waiting = None; unanswered = true } } in
    TakerSends A G ticks e giver (at Up y) (y', gives_then (as_expedited y body ∷ []) (hand.Left 0 true ∷ [])))
unfolding TakerSends
leaves_free A G ticks e giver y body brings three free =
    let y' : Section = record (at Up y) { windows = record y.windows { waiting = None; unanswered = true } } in
    let acting : End × Acted = timed ticks (at Up y) (y', gives_then (as_expedited y body ∷ []) (hand.Left 0 true ∷ [])) in
    let g = expedited_gives y body (exchange 1 ticks acting giver).1 (left_gives true 0 ticks acting.0 giver (as_expedited y body ∷ []) 0 true) in
    let kept = left_keeps 0 ticks acting.0 giver (as_expedited y body ∷ []) 0 true in
    (g.0, on_that (record { section = at Up y; is = refl; body = body; sends = g.1; why = inr (brings, free_up y (y.head.class == 3) (not y.windows.unanswered) three free); unanswered = ap unanswered_at kept }))

pub nothing_plain : ActsPlain no_effect
unfolding ActsPlain IsPlain AreOther data_among expedited_among
nothing_plain = ((refl, refl), tt)

section_brings : (A : Section → Type 0) (G : End → List ℕ → Type 0) (ticks : Ticks) (e giver : End) (body : List ℕ) → G e body → (s : SectionState) (y : Section)
    → (let r = exchange 1 ticks (end_takes ticks (hand.Expedited body) (wire (at s y))) giver in EventSends A G (both e (wire (at s y))) (turned r.0, r.1))
unfolding TakerSends section_takes windowed_takes line_takes section_row
section_brings A G ticks e giver body brings Up y =
    either (TakerSends A G ticks e giver (at Up y)) (y.head.class == 3) _ _
    (λ three. either (λ (done : Windowed × Acted). TakerSends A G ticks e giver (at Up y) (by_windows (λ w. done) (at Up y))) (not y.windows.unanswered) _ _
    (λ free. leaves_free A G ticks e giver y body brings three free)
    (λ _. none_taken A G ticks e giver (at Up y) (record (at Up y) { windows = record y.windows { waiting = Some body } }, no_effect) nothing_plain))
    (λ _. none_taken A G ticks e giver (at Up y) (at Up y, no_effect) nothing_plain)
section_brings A G ticks e giver body brings Resetting y =
    either (TakerSends A G ticks e giver (at Resetting y)) (y.head.class == 3) _ _
    (λ _. none_taken A G ticks e giver (at Resetting y) (record (at Resetting y) { windows = record y.windows { waiting = Some body } }, no_effect) nothing_plain)
    (λ _. none_taken A G ticks e giver (at Resetting y) (at Resetting y, no_effect) nothing_plain)
section_brings A G ticks e giver body brings s y = none_taken A G ticks e giver (at s y) (at s y, no_effect) nothing_plain

pub settles_bringing : (A : Section → Type 0) (G : End → List ℕ → Type 0) (ticks : Ticks) (e giver that : End) (body : List ℕ) → G e body
    → EventSends A G (both e that) (settles ticks (giver, gives_then [] (hand.Expedited body ∷ [])) that)
unfolding exchange
settles_bringing A G ticks e giver (wire y) body brings = section_brings A G ticks e giver body brings y.head.state y
settles_bringing A G ticks e giver (owner v) body brings =
    let r = exchange 1 ticks (end_takes ticks (hand.Expedited body) (owner v)) giver in
    plain_sends A G (both e (owner v)) (turned r.0, r.1)
    (exchange_plain 1 ticks (end_takes ticks (hand.Expedited body) (owner v)) giver (user_takes_plain (user_takes_by v.state (hand.Expedited body)) (hand.Expedited body) v))
