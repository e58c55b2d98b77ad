use Rattle.std.proofs.Common.{◌≡◌, ◌+◌, ◌∷◌, drop, sym, ap, ◌∙◌, arith}
use Rattle.std.specs.Prelude.{slice_get}
use Rattle.local_refs.specs.Slots.{free_from}
use Rattle.local_refs.proofs.Frees.{free_here, free_past, free_none, later_one}
use Rattle.local_refs.proofs.Firsts.{taken_passed}
use Rattle.local_refs.proofs.state.free_slot.Goals as goal
use Rattle.local_refs.proofs.state.free_slot.Goals.{then-is_free+else-before-eq0, else-is_free}

pub loop-place-init : goal.loop-place-init
loop-place-init c =
    let next : 1 + c.args.first ≡ c.args.first + 1 = omega arith in
    ap (λ xs. slice_get xs c.args.at) (taken_passed c.args.states.now 1 c.args.first c.requires ∙ ap (λ n. free_from n (drop c.args.first c.args.states.now)) next)

pub returns-then-before-eq0-clause-value : goal.returns-then-before-eq0-clause-value
returns-then-before-eq0-clause-value c =
    let items = c.args.states.now in
    let place = c.loop-place.place in
    sym (
    c.loop-place.invariant
    ∙ ap (λ xs. slice_get xs c.loop-place.before) (free_here items (place + 1) place _ c.loop-place-test.true (sym c.is_free.ensures ∙ c.if-is_free.true))
    ∙ ap (slice_get ((place + 1) ∷ free_from (place + 1 + 1) (drop (place + 1) items))) c.if-before-eq0.true
    )

pub loop-place-preserved : goal.loop-place-preserved
loop-place-preserved c =
    let items = c.args.states.now in
    let place = c.loop-place.place in
    elim c.if-is_free.branch [
      | then-is_free+else-before-eq0 w ↦
          c.loop-place.invariant
          ∙ ap (λ xs. slice_get xs c.loop-place.before) (free_here items (place + 1) place _ c.loop-place-test.true (sym c.is_free.ensures ∙ w.if-is_free.true))
          ∙ later_one (place + 1) (free_from (place + 1 + 1) (drop (place + 1) items)) c.loop-place.before w.if-before-eq0.false
          ∙ ap (slice_get (free_from (place + 1 + 1) (drop (place + 1) items))) (sym w.before-is)
      | else-is_free w ↦
          c.loop-place.invariant
          ∙ ap (λ xs. slice_get xs c.loop-place.before) (free_past items (place + 1) place _ c.loop-place-test.true (sym c.is_free.ensures ∙ w.if-is_free.false))
          ∙ ap (slice_get (free_from (place + 1 + 1) (drop (place + 1) items))) (sym w.before-is)
    ]

pub returns-clause-value : goal.returns-clause-value
returns-clause-value c =
    let items = c.args.states.now in
    let place = c.loop-place.place in
    sym (
    c.loop-place.invariant
    ∙ ap (λ xs. slice_get xs c.loop-place.before) (free_none items (place + 1) place (omega (arith, c.loop-place-test.false)))
    )
