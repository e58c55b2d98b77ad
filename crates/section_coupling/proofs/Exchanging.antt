-- One turn of what the ends hand to each other, behind the outputs that are there.
use Rattle.std.proofs.Common.{◌≡◌, ℕ, suc, ◌-◌, List, [], ◌∷◌, ◌++◌, fold, refl, sym, subst, ap, ◌∙◌, arith, append-nil}
use Rattle.std.proofs.lemmas.List.{append_assoc}
use Rattle.plant_core.specs.declared.terms.Ticks.{Ticks}
use Rattle.relay_base.specs.declared.words.Output.{Output}
use Rattle.section_model.specs.declared.hand.Acted.{Acted}
use Rattle.section_model.specs.declared.hand.Hand.{Hand}
use Rattle.section_model.specs.Ends.{End, Connection, turned}
use Rattle.section_model.specs.Acting.{end_takes}
use Rattle.section_model.specs.Coupling.{exchange, other_takes, with_more}
use Rattle.section_coupling.specs.Views.{behind}

-- what acts, of its three parts
abbrev pub acted_of : List Hand × List Output × List Hand → Acted
acted_of parts = record { first = parts.0; outs = parts.1; then = parts.2 }

-- its parts make it up
pub whole : (acted : Acted) (parts : List Hand × List Output × List Hand) → parts ≡ (acted.first, acted.outs, acted.then) → acted_of parts ≡ acted
whole acted parts is = ap acted_of is

-- a fold each of whose steps stands behind the outputs that are there
pub all_behind : {X : Type 0} (f : Connection × List Output → X → Connection × List Output) (outs : List Output)
    → ((r : Connection × List Output) (x : X) → f (behind outs r) x ≡ behind outs (f r x)) → (r : Connection × List Output) (xs : List X) → fold f (behind outs r) xs ≡ behind outs (fold f r xs)
all_behind f outs each r [] = refl
all_behind f outs each r (x ∷ xs) = ap (λ s. fold f s xs) (each r x) ∙ all_behind f outs each (f r x) xs

takes_behind : (n : ℕ) (ticks : Ticks) (outs : List Output) (r : Connection × List Output) (h : Hand) → other_takes (exchange n ticks) ticks (behind outs r) h ≡ behind outs (other_takes (exchange n ticks) ticks r h)
takes_behind n ticks outs r h =
    let done : Connection × List Output = exchange n ticks (end_takes ticks h r.0.that) r.0.this in
    ap (λ (all : List Output). (turned done.0, all)) (append_assoc outs r.1 done.1)

pub one-turn : (n : ℕ) (ticks : Ticks) (acting : End × Acted) (that : End) →
    exchange (suc n) ticks acting that ≡ fold (other_takes (exchange n ticks) ticks) (with_more acting.1.outs (fold (other_takes (exchange n ticks) ticks) (record { this = acting.0; that = that }, []) acting.1.first)) acting.1.then
unfolding exchange
one-turn n ticks acting that = refl

turn_behind : (n : ℕ) (ticks : Ticks) (acting : End × Acted) (that : End) (outs : List Output) →
    behind outs (exchange (suc n) ticks acting that) ≡ fold (other_takes (exchange n ticks) ticks) (with_more acting.1.outs (fold (other_takes (exchange n ticks) ticks) (record { this = acting.0; that = that }, outs) acting.1.first)) acting.1.then
turn_behind n ticks acting that outs =
    let c : Connection = record { this = acting.0; that = that } in
    let takes = other_takes (exchange n ticks) ticks in
    let first : Connection × List Output = fold takes (c, []) acting.1.first in
    ap (behind outs) (one-turn n ticks acting that)
    ∙ (sym (all_behind takes outs (takes_behind n ticks outs) (with_more acting.1.outs first) acting.1.then)
    ∙ (ap (λ (all : List Output). fold takes (first.0, all) acting.1.then) (sym (append_assoc outs first.1 acting.1.outs))
    ∙ (ap (λ (r : Connection × List Output). fold takes (with_more acting.1.outs r) acting.1.then) (sym (all_behind takes outs (takes_behind n ticks outs) (c, []) acting.1.first))
    ∙ ap (λ (all : List Output). fold takes (with_more acting.1.outs (fold takes (c, all) acting.1.first)) acting.1.then) (append-nil outs))))

by-suc : (m n : ℕ) (ticks : Ticks) (acting : End × Acted) (that : End) (outs : List Output) (first last : Connection × List Output) → m ≡ suc n
    → fold (other_takes (exchange n ticks) ticks) (record { this = acting.0; that = that }, outs) acting.1.first ≡ first
    → fold (other_takes (exchange n ticks) ticks) (with_more acting.1.outs first) acting.1.then ≡ last
    → behind outs (exchange m ticks acting that) ≡ last
by-suc m n ticks acting that outs first last e f g =
    subst (λ k. behind outs (exchange k ticks acting that) ≡ last) (sym e)
    (turn_behind n ticks acting that outs ∙ subst (λ r. fold (other_takes (exchange n ticks) ticks) (with_more acting.1.outs r) acting.1.then ≡ last) (sym f) g)

pub exchanged : (n : ℕ) (ticks : Ticks) (acting : End × Acted) (that : End) (outs : List Output) (first last : Connection × List Output) → (n ≡ 0 → ⊥)
    → fold (other_takes (exchange (n - 1) ticks) ticks) (record { this = acting.0; that = that }, outs) acting.1.first ≡ first
    → fold (other_takes (exchange (n - 1) ticks) ticks) (with_more acting.1.outs first) acting.1.then ≡ last
    → behind outs (exchange n ticks acting that) ≡ last
exchanged n ticks acting that outs first last more f g =
    let some : n ≡ suc (n - 1) = grind arith in
    by-suc n (n - 1) ticks acting that outs first last some f g

-- no turn is left
pub no_turn : (n : ℕ) (ticks : Ticks) (acting : End × Acted) (that : End) (outs all : List Output) → n ≡ 0 → all ≡ outs ++ acting.1.outs
    → behind outs (exchange n ticks acting that) ≡ (record { this = acting.0; that = that }, all)
unfolding exchange
no_turn n ticks acting that outs all e f = rw (e, f) refl
