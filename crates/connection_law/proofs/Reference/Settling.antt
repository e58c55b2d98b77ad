-- What the ends hand to each other after an act.
use Rattle.std.proofs.Common.{ℕ, zero, suc, List, [], ◌∷◌, fold}
use Rattle.relay_base.specs.declared.words.Output.{Output}
use Rattle.plant_core.specs.declared.terms.Ticks.{Ticks}
use Rattle.section_model.specs.declared.hand.Hand.{Hand}
use Rattle.section_model.specs.declared.hand.Acted.{Acted}
use Rattle.section_model.specs.Ends.{End, Connection}
use Rattle.section_model.specs.Acting.{end_takes}
use Rattle.section_model.specs.Coupling.{with_more, other_takes, exchange, settles}
use Rattle.connection_law.proofs.Reference.Ends.{IsKept, Both, both_same, both_in_turn}

-- an end that acted and its other end
abbrev pub acted_with : End × Acted → End → Connection
acted_with acting that = record { this = acting.0; that = that }

-- how an exchange goes on
abbrev GoesOn : (End → End → Type 0) → (End × Acted → End → Connection × List Output) → Type 0
GoesOn Later next = (acting : End × Acted) (that : End) → Both Later (acted_with acting that) (next acting that).0

-- one effect is taken
offered_kept : {ticks : Ticks} {Later : End → End → Type 0} → IsKept ticks Later → (next : End × Acted → End → Connection × List Output) → GoesOn Later next
    → (r : Connection × List Output) (h : Hand) → Both Later r.0 (other_takes next ticks r h).0
offered_kept {ticks} k next goes_on r h =
    let taken = end_takes ticks h r.0.that in
    let after = goes_on taken r.0.this in (after.1, k.in_turn r.0.that taken.0 (next taken r.0.this).0.this (k.takes h r.0.that) after.0)

-- and all of a list, one after another
hands_kept : {ticks : Ticks} {Later : End → End → Type 0} → IsKept ticks Later → (next : End × Acted → End → Connection × List Output) → GoesOn Later next
    → (hands : List Hand) (r : Connection × List Output) → Both Later r.0 (fold (other_takes next ticks) r hands).0
hands_kept k next goes_on [] r = both_same k r.0
hands_kept {ticks} k next goes_on (h ∷ hands) r =
    let one = other_takes next ticks r h in
    both_in_turn k r.0 one.0 (fold (other_takes next ticks) one hands).0 (offered_kept k next goes_on r h) (hands_kept k next goes_on hands one)

exchange_kept : {ticks : Ticks} {Later : End → End → Type 0} → IsKept ticks Later → (turns : ℕ) → GoesOn Later (exchange turns ticks)
unfolding exchange
exchange_kept k zero acting that = both_same k (acted_with acting that)
exchange_kept {ticks} {Later} k (suc turns) acting that =
    let next = exchange turns ticks in
    let goes_on : GoesOn Later next = exchange_kept k turns in
    let first = fold (other_takes next ticks) (acted_with acting that, []) acting.1.first in
    both_in_turn k (acted_with acting that) first.0 (fold (other_takes next ticks) (with_more acting.1.outs first) acting.1.then).0
    (hands_kept k next goes_on acting.1.first (acted_with acting that, []))
    (hands_kept k next goes_on acting.1.then (with_more acting.1.outs first))

-- all that comes of an act
pub settling_kept : {ticks : Ticks} {Later : End → End → Type 0} → IsKept ticks Later
    → (that : End) (acted : End × Acted) → Both Later (acted_with acted that) (settles ticks acted that).0
settling_kept k that acted = exchange_kept k 2 acted that

-- an end that acts within the relation, with all that comes of its act
pub settled : {ticks : Ticks} {Later : End → End → Type 0} → IsKept ticks Later
    → (this that : End) (acted : End × Acted) → Later this acted.0 → Both Later (record { this = this; that = that }) (settles ticks acted that).0
settled {ticks} k this that acted later =
    both_in_turn k (record { this = this; that = that }) (acted_with acted that) (settles ticks acted that).0
    (later, k.same that) (settling_kept k that acted)
