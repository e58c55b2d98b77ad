use Rattle.std.proofs.Common.{◌≡◌, ◌+◌, ◌++◌, take, drop, sym, ap, ◌∙◌, arith, length}
use Rattle.std.proofs.lemmas.List.{length-map}
use Rattle.local_refs.specs.Slots.{after_tick}
use Rattle.local_refs.specs.Inner.Swept.{swept, swept_all, soonest_in}
use Rattle.local_refs.proofs.Sweeps.{swept_more, swept_none, soonest_after, soonest_bound, with_all}
use Rattle.local_refs.proofs.Firsts.{taken_none}
use Rattle.local_refs.proofs.slots.Slots.tick.Goals as goal

pub returns-then-self : goal.returns-then-self
returns-then-self c =
    ap (λ xs. record { lane = c.self.inside.lane; freeze = c.self.inside.freeze; states = xs; generations = c.self.inside.generations.items }) (swept_more c.self.inside.states.items c.self.inside.passed)
    ∙ ap after_tick c.self.view_is

pub invariant_of-self-2 : goal.invariant_of-self-2
invariant_of-self-2 c =
    let items = c.self.inside.states.items in
    let ticks = c.self.inside.passed + 1 in
    let swept_now : c.sweep.new.states ≡ swept_all ticks items = c.sweep.ensures ∙ ap (swept_all ticks) c.deref_mut.ensures.value in
    let counted : length c.sweep.new.states ≡ length items = ap (λ xs. length xs) swept_now ∙ length-map items (swept ticks) in
    let long : length items ≡ c.self.inside.states.len = ap (λ xs. length xs) (sym c.deref_mut.ensures.value) ∙ c.deref_mut.ensures.len in
    let whole : take c.self.inside.states.len (c.sweep.new.states ++ drop (length c.sweep.new.states) items) ≡ swept_all ticks items =
    with_all items c.sweep.new.states c.self.inside.states.len counted long ∙ swept_now in
    let found = c.soonest_in-self-inside.ensures ∙ ap soonest_in (c.deref.ensures.value ∙ whole) in (
      ap (λ xs. length xs) whole ∙ length-map items (swept ticks) ∙ c.self.invariant.0,
      c.self.invariant.1,
      omega (arith, found, soonest_after items ticks),
      omega (arith, found, soonest_bound (swept_all ticks items)),
      omega (arith, c.soonest_in-self-inside.ensures, ap soonest_in c.deref.ensures.value),
      taken_none _,
      c.self.invariant.6,
    )

pub returns : goal.returns
returns c =
    let items = c.self.inside.states.items in
    let ticks = c.self.inside.passed + 1 in
    let swept_now : c.sweep.new.states ≡ swept_all ticks items = c.sweep.ensures ∙ ap (swept_all ticks) c.deref_mut.ensures.value in
    let counted : length c.sweep.new.states ≡ length items = ap (λ xs. length xs) swept_now ∙ length-map items (swept ticks) in
    let long : length items ≡ c.self.inside.states.len = ap (λ xs. length xs) (sym c.deref_mut.ensures.value) ∙ c.deref_mut.ensures.len in
    let whole : take c.self.inside.states.len (c.sweep.new.states ++ drop (length c.sweep.new.states) items) ≡ swept_all ticks items =
    with_all items c.sweep.new.states c.self.inside.states.len counted long ∙ swept_now in
    ap (λ xs. record { lane = c.self.inside.lane; freeze = c.self.inside.freeze; states = xs; generations = c.self.inside.generations.items })
    (ap (swept_all 0) whole ∙ swept_none items ticks ∙ swept_more items c.self.inside.passed)
    ∙ ap after_tick c.self.view_is
