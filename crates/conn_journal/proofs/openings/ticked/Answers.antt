use Rattle.std.proofs.Common.{◌≡◌, ℕ, ◌+◌, None, get_or, sym, subst, ap, ◌∙◌, arith}
use Rattle.conn_journal.specs.Inner.Ticking.{WokenAt}
use Rattle.std.specs.Prelude.{option_map}
use Rattle.conn_journal.proofs.Standing.{any_default}
use Rattle.conn_journal.proofs.Reached.{Reached, index_within, reached_heard, reached_over, reached_all}
use Rattle.conn_journal.proofs.openings.ticked.Goals as goal
use Rattle.conn_journal.proofs.openings.ticked.Goals.{in-Some+in_ok-append+in_ok-push, in_default}

pub loop-number-preserved : goal.loop-number-preserved
loop-number-preserved g c =
    let now = c.args.now in
    let kept = g.S.Store.kept c.args.store.now in
    let numbers = c.args.numbers.now in
    let one = option_map (λ k. k.now) c.get.result in
    let i = c.loop-number.number-index in
    let d : ℕ = get_or numbers i 0 in
    let here : d ≡ get_or numbers i d = any_default numbers i 0 d c.loop-number-test.true in
    let below = index_within now i kept numbers c.loop-number.nexts.items c.loop-number.outs d c.loop-number-test.true here c.loop-number.invariant in
    let kept_here : one ≡ get_or kept d one = c.get.ensures ∙ any_default kept d None one below in
    elim c.match-branch-2.branch [
      | in-Some+in_ok-append+in_ok-push w ↦
          subst (λ xs. Reached now kept numbers (i + 1) xs c.match-branch-2.outs) (sym (ap (λ v. v.items) w.nexts-is ∙ w.in_ok-push.ensures.items))
          (subst (Reached now kept numbers (i + 1) _) (sym (w.outs-is ∙ w.in_ok-append.ensures.ok))
          (reached_heard now i kept numbers c.loop-number.nexts.items c.loop-number.outs d one w.in-Some.heard c.loop-number-test.true here kept_here
          (subst (WokenAt now one) w.in-Some.is c.in_ok-heard.ensures) c.loop-number.invariant))
      | in_default w ↦
          subst (λ v. Reached now kept numbers (i + 1) v.items c.match-branch-2.outs) (sym w.nexts-is)
          (subst (Reached now kept numbers (i + 1) c.loop-number.nexts.items) (sym w.outs-is)
          (reached_over now i kept numbers c.loop-number.nexts.items c.loop-number.outs d one c.loop-number-test.true here kept_here
          (subst (WokenAt now one) w.in_default.is c.in_ok-heard.ensures) c.loop-number.invariant))
    ]

pub returns-clause-ticked : goal.returns-clause-ticked
returns-clause-ticked g c =
    reached_all c.args.now c.loop-number.number-index (g.S.Store.kept c.args.store.now) c.args.numbers.now c.loop-number.nexts.items c.loop-number.outs
    (omega (arith, c.loop-number-test.false, c.loop-number.auto.number-index-end)) c.loop-number.invariant
