use Rattle.std.proofs.Common.{◌≡◌, ◌+◌, length, sym, ap, ◌∙◌, arith}
use Rattle.std.proofs.lemmas.List.{length-map}
use Rattle.local_refs.specs.Slots.{free_from, next_reference}
use Rattle.local_refs.proofs.Frees.{seen_free, free_here, free_past, free_none}
use Rattle.local_refs.proofs.slots.Slots.free.Goals as goal
use Rattle.local_refs.proofs.slots.Slots.free.Goals.{then-is_free, else-is_free}

pub loop-state-preserved : goal.loop-state-preserved
loop-state-preserved c =
    let items = c.deref-state-items.result.now in
    let i = c.loop-state.state-index in
    elim c.if-is_free.branch [
      | then-is_free w ↦
          let next = ap (λ xs. length xs) (free_here items (i + 1) i _ c.loop-state-test.true (sym c.is_free.ensures ∙ w.if-is_free.true)) in
          (omega (arith, next, w.free-is, c.loop-state.invariant.0), omega (arith, w.free-is, c.loop-state.invariant.1))
      | else-is_free w ↦
          let next = ap (λ xs. length xs) (free_past items (i + 1) i _ c.loop-state-test.true (sym c.is_free.ensures ∙ w.if-is_free.false)) in
          (omega (arith, next, w.free-is, c.loop-state.invariant.0), omega (arith, w.free-is, c.loop-state.invariant.1))
    ]

pub returns : goal.returns
returns c =
    let items = c.deref-state-items.result.now in
    let i = c.loop-state.state-index in
    let over = ap (λ xs. length xs) (free_none items (i + 1) i (omega (arith, c.loop-state-test.false))) in
    let all : c.loop-state.free ≡ length (free_from 1 items) = omega (arith, over, c.loop-state.invariant.0) in
    all
    ∙ ap (λ xs. length xs)
    (seen_free c.self.inside.states.items items c.args.self.now.states c.self.inside.passed c.self.inside.soonest (ap (λ s. s.states) c.self.view_is) c.deref-state-items.ensures.value c.self.invariant.2 c.self.invariant.4)
    ∙ sym (length-map (free_from 1 c.args.self.now.states) (next_reference c.args.self.now))
