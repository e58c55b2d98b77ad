-- What the ends hand to each other, by the effects that may be handed over, what is sent for them, and a relation of an end to what it is later.
use Rattle.std.proofs.Common.{ℕ, zero, suc, List, [], ◌∷◌, ◌++◌, fold}
use Rattle.std.specs.List.{AllByRecursion}
use Rattle.relay_base.specs.declared.words.Output.{Output}
use Rattle.plant_core.specs.declared.terms.Ticks.{Ticks}
use Rattle.section_model.specs.declared.hand.Hand.{Hand}
use Rattle.section_model.specs.declared.hand.Acted.{Acted}
use Rattle.section_model.specs.Ends.{End, Connection}
use Rattle.section_model.specs.Acting.{end_takes}
use Rattle.section_model.specs.Coupling.{with_more, other_takes, exchange}
use Rattle.section_model.specs.Laws.{hands_of}
use Rattle.connection_law.proofs.Reference.Ends.{Both}
use Rattle.connection_law.proofs.Reference.Settling.{acted_with}
use Rattle.hop_law.proofs.Quiet.{parted}

-- An end that takes one of these effects is within the relation, and sends and hands back what it may alone.
pub record AreTaken (ticks : Ticks) (Fits : Hand → Type 0) (MaySend : List Output → Type 0) (Later : End → End → Type 0) : Type 0 where
  pub same : (e : End) → Later e e
  pub in_turn : (e f g : End) → Later e f → Later f g → Later e g
  pub none : MaySend []
  pub joined : (one other : List Output) → MaySend one → MaySend other → MaySend (one ++ other)
  pub takes :
      (h : Hand) (e : End) → Fits h → (let done = end_takes ticks h e in Later e done.0 × MaySend done.1.outs × AllByRecursion Fits (hands_of done.1))

-- from a connection to another one with outputs
abbrev Goes : (List Output → Type 0) → (End → End → Type 0) → Connection → Connection × List Output → Type 0
Goes MaySend Later c r = Both Later c r.0 × MaySend r.1

goes_then : {ticks : Ticks} {Fits : Hand → Type 0} {MaySend : List Output → Type 0} {Later : End → End → Type 0} → AreTaken ticks Fits MaySend Later
    → (c : Connection) (r s : Connection × List Output) → Goes MaySend Later c r → Goes MaySend Later r.0 s → Goes MaySend Later c s
goes_then k c r s one other = ((k.in_turn c.this r.0.this s.0.this one.0.0 other.0.0, k.in_turn c.that r.0.that s.0.that one.0.1 other.0.1), other.1)

abbrev pub Exchanges : ℕ → Ticks → (Hand → Type 0) → (List Output → Type 0) → (End → End → Type 0) → Type 0
Exchanges n ticks Fits MaySend Later =
    (acting : End × Acted) (that : End) → MaySend acting.1.outs → AllByRecursion Fits (hands_of acting.1) → Goes MaySend Later (acted_with acting that) (exchange n ticks acting that)

offered : {ticks : Ticks} {Fits : Hand → Type 0} {MaySend : List Output → Type 0} {Later : End → End → Type 0} → AreTaken ticks Fits MaySend Later → (n : ℕ) → Exchanges n ticks Fits MaySend Later
    → (r : Connection × List Output) (h : Hand) → MaySend r.1 → Fits h → Goes MaySend Later r.0 (other_takes (exchange n ticks) ticks r h)
offered {ticks} k n goes r h sends fits =
    let taken = end_takes ticks h r.0.that in
    let done = exchange n ticks taken r.0.this in
    let t = k.takes h r.0.that fits in
    let after = goes taken r.0.this t.1 t.2 in ((after.0.1, k.in_turn r.0.that taken.0 done.0.this t.0 after.0.0), k.joined r.1 done.1 sends after.1)

all_offered : {ticks : Ticks} {Fits : Hand → Type 0} {MaySend : List Output → Type 0} {Later : End → End → Type 0} → AreTaken ticks Fits MaySend Later → (n : ℕ) → Exchanges n ticks Fits MaySend Later
    → (hands : List Hand) (r : Connection × List Output) → MaySend r.1 → AllByRecursion Fits hands → Goes MaySend Later r.0 (fold (other_takes (exchange n ticks) ticks) r hands)
all_offered k n goes [] r sends fit = ((k.same r.0.this, k.same r.0.that), sends)
all_offered {ticks} k n goes (h ∷ hands) r sends fit =
    let one = other_takes (exchange n ticks) ticks r h in
    let first = offered k n goes r h sends fit.0 in
    goes_then k r.0 one (fold (other_takes (exchange n ticks) ticks) one hands) first (all_offered k n goes hands one first.1 fit.1)

pub exchanged : {ticks : Ticks} {Fits : Hand → Type 0} {MaySend : List Output → Type 0} {Later : End → End → Type 0} → AreTaken ticks Fits MaySend Later → (n : ℕ) → Exchanges n ticks Fits MaySend Later
unfolding exchange
exchanged k zero acting that sends fit = ((k.same acting.0, k.same that), sends)
exchanged {ticks} {Fits} k (suc n) acting that sends fit =
    let c = acted_with acting that in
    let hands = parted Fits acting.1.first acting.1.then fit in
    let first = fold (other_takes (exchange n ticks) ticks) (c, []) acting.1.first in
    let one = all_offered k n (exchanged k n) acting.1.first (c, []) k.none hands.0 in
    let more = with_more acting.1.outs first in
    goes_then k c more (fold (other_takes (exchange n ticks) ticks) more acting.1.then) (one.0, k.joined first.1 acting.1.outs one.1 sends)
    (all_offered k n (exchanged k n) acting.1.then more (k.joined first.1 acting.1.outs one.1 sends) hands.1)
