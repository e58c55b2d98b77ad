-- What follows an event changes no head.
use Rattle.std.proofs.Common.{◌≡◌, ◌≢◌, ℕ, suc, ◌==◌, ◌&&◌, ◌||◌, nat_lt, not, Bool, true, false, List, [], ◌∷◌, if◌then◌else◌, is_some, refl, ◌∙◌, subst}
use Rattle.relay_base.specs.declared.words.Output.{Output}
use Rattle.plant_core.specs.declared.terms.Ticks.{Ticks}
use Rattle.section_model.specs.declared.hand.Hand.TheVariants as hand
use Rattle.section_model.specs.declared.hand.Acted.{Acted}
use Rattle.section_model.specs.Ends.{End, wire, owner, SectionHead, Section, Connection, turned, is_up, gives_then}
use Rattle.section_flow.specs.Windows.{may_leave}
use Rattle.section_model.specs.Line.{line_takes}
use Rattle.section_model.specs.Windowed.{Windowed, windowed_takes, leaves, acknowledges}
use Rattle.section_model.specs.UserEnd.{user_takes}
use Rattle.section_model.specs.Acting.{timed, by_windows, section_takes, end_takes}
use Rattle.section_model.specs.Coupling.{exchange, settles}
use Rattle.section_model.specs.Step.{on_windows, after_event}
use Rattle.connection_law.proofs.Flow.Flowing.{either}
use Rattle.connection_law.proofs.Flow.Ordering.{this_left}
use Rattle.connection_law.proofs.Reference.Ends.{Both}
use Rattle.hop_law.specs.LeavingLaw.{IsApart}
use Rattle.hop_law.proofs.Exchanging.{both}
use Rattle.hop_law.proofs.Taking.{SameHead}

head_same : (e : End) → SameHead e e
head_same (wire x) = refl
head_same (owner u) = tt

head_then : (e f g : End) → SameHead e f → SameHead f g → SameHead e g
head_then (wire x) (wire y) (wire z) a b = b ∙ a
head_then (owner u) (owner v) (owner w) a b = tt
head_then (wire x) (wire y) (owner w) a b = absurd b
head_then (owner u) (owner v) (wire z) a b = absurd b
head_then (wire x) (owner v) g a b = absurd a
head_then (owner u) (wire y) g a b = absurd a

LeftHead : ℕ → Ticks → End → Section → End → Section × Acted → Type 0
LeftHead n ticks old y giver done = let c = (exchange (suc n) ticks (timed ticks y done) giver).0 in SameHead (wire y) c.this × SameHead old c.that

left_head : (n units : ℕ) (is_expedited : Bool) (ticks : Ticks) (old taker giver : End) → SameHead old giver
    → (let c = (exchange (suc n) ticks (end_takes ticks (hand.Left units is_expedited) taker) giver).0 in SameHead taker c.this × SameHead old c.that)
unfolding LeftHead exchange section_takes windowed_takes line_takes user_takes
left_head n units true ticks old (wire y) giver s = either (LeftHead n ticks old y giver) (y.head.class == 3) _ _ (λ _. (refl, s)) (λ _. (refl, s))
left_head n units false ticks old (wire y) giver s = either (LeftHead n ticks old y giver) (y.head.class == 3) _ _ (λ _. (refl, s)) (λ _. (refl, s))
left_head n units is_expedited ticks old (owner u) giver s = (tt, s)

handed_head : (b : Bool) (units : ℕ) (is_expedited : Bool) (ticks : Ticks) (outs : List Output) (x x' : Section) (that : End) → x'.head ≡ x.head
    → Both SameHead (both (wire x) that) (settles ticks (wire x', gives_then outs (if b then hand.Left units is_expedited ∷ [] else [])) that).0
unfolding exchange
handed_head true units is_expedited ticks outs x x' that s = let l = left_head 0 units is_expedited ticks (wire x) that (wire x') s in (l.1, l.0)
handed_head false units is_expedited ticks outs x x' that s = (s, head_same that)

leaves_heads : (ticks : Ticks) (this that : End) → Both SameHead (both this that) (on_windows ticks leaves this that).0
unfolding leaves
leaves_heads ticks (owner u) that = (tt, head_same that)
leaves_heads ticks (wire x) that =
    let w = x.windows in
    let is_expedited = is_some w.waiting && not w.unanswered in
    either (λ (r : Connection × List Output). Both SameHead (both (wire x) that) r.0) (is_up x.head.state && x.head.class == 3) _ _
    (λ _. handed_head (is_expedited || nat_lt 0 (may_leave w)) (may_leave w) is_expedited ticks _ x _ that refl) (λ _. (refl, head_same that))

acknowledges_heads : (ticks : Ticks) (this that : End) → Both SameHead (both this that) (on_windows ticks acknowledges this that).0
unfolding exchange acknowledges
acknowledges_heads ticks (owner u) that = (tt, head_same that)
acknowledges_heads ticks (wire x) that =
    either (λ (r : Connection × List Output). Both SameHead (both (wire x) that) r.0) (is_up x.head.state && x.head.class == 3) _ _
    (λ _. either (λ (r : Windowed × Acted). Both SameHead (both (wire x) that) (settles ticks (timed ticks x (by_windows (λ w. r) x)) that).0) (x.windows.passed == x.windows.told) _ _
    (λ _. (refl, head_same that)) (λ _. (refl, head_same that)))
    (λ _. (refl, head_same that))

pub after_heads : (ticks : Ticks) (r : Connection × List Output) → Both SameHead r.0 (after_event ticks r).0
unfolding after_event
after_heads ticks r =
    let c = r.0 in
    let d = this_left ticks c in
    let e = this_left ticks (turned d) in
    let f = (on_windows ticks acknowledges e.that e.this).0 in
    let g = (on_windows ticks acknowledges f.that f.this).0 in
    let one = leaves_heads ticks c.this c.that in
    let two = leaves_heads ticks d.that d.this in
    let three = acknowledges_heads ticks e.that e.this in
    let four = acknowledges_heads ticks f.that f.this in (
      head_then c.this d.this g.that one.0 (head_then d.this e.that g.that two.1 (head_then e.that f.this g.that three.0 four.1)),
      head_then c.that d.that g.this one.1 (head_then d.that e.this g.this two.0 (head_then e.this f.that g.this three.1 four.0)),
    )

pub apart_before : (y : SectionHead) (e f : End) → SameHead e f → IsApart y f → IsApart y e
apart_before y (wire x) (wire z) same apart = subst (λ (h : SectionHead). h.point ≢ y.point) same apart
apart_before y (owner u) f same apart = tt
apart_before y (wire x) (owner v) same apart = absurd same
