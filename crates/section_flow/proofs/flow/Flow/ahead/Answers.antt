use Rattle.std.proofs.Common.{◌≡◌, ℕ, ◌+◌, ◌-◌, ◌%◌, sym, subst, arith}
use Rattle.section_flow.specs.declared.limits.TheConstants.{SEQUENCE_NUMBERS}
use Rattle.section_flow.proofs.Counting.{count-ahead, count-beyond}
use Rattle.section_flow.specs.Flow.{FlowState}
use Rattle.section_flow.proofs.flow.Flow.ahead.Goals as goal

-- so far ahead of a count stands one with the remainder of P(R)
is_alike : (pr acked held : ℕ) → held ≡ acked % SEQUENCE_NUMBERS → (acked + (pr % SEQUENCE_NUMBERS + SEQUENCE_NUMBERS - held) % SEQUENCE_NUMBERS) % SEQUENCE_NUMBERS ≡ pr % SEQUENCE_NUMBERS
is_alike pr acked held is = omega (arith, is)

pub returns-then-ahead-self-clause-count : goal.returns-then-ahead-self-clause-count
returns-then-ahead-self-clause-count c =
    let ahead : ℕ = (c.args.pr % SEQUENCE_NUMBERS + SEQUENCE_NUMBERS - c.self.inside.held.acked) % SEQUENCE_NUMBERS in
    let acked : c.self.inside.held.acked ≡ c.args.self.now.counts.acked % SEQUENCE_NUMBERS =
    subst (λ (f : FlowState). c.self.inside.held.acked ≡ f.counts.acked % SEQUENCE_NUMBERS) c.self.view_is c.self.invariant.acked in
    let sent : c.args.self.now.counts.sent ≡ c.args.self.now.counts.acked + c.self.inside.held.outstanding =
    subst (λ (f : FlowState). f.counts.sent ≡ f.counts.acked + c.self.inside.held.outstanding) c.self.view_is c.self.invariant.outstanding in
    sym (count-ahead c.args.pr c.args.self.now.counts.acked c.args.self.now.counts.sent ahead
    (is_alike c.args.pr c.args.self.now.counts.acked c.self.inside.held.acked acked)
    (omega arith) (omega (arith, sent, c.if-ahead-self.true)))

pub returns-else-ahead-self-clause-count : goal.returns-else-ahead-self-clause-count
returns-else-ahead-self-clause-count c =
    let ahead : ℕ = (c.args.pr % SEQUENCE_NUMBERS + SEQUENCE_NUMBERS - c.self.inside.held.acked) % SEQUENCE_NUMBERS in
    let acked : c.self.inside.held.acked ≡ c.args.self.now.counts.acked % SEQUENCE_NUMBERS =
    subst (λ (f : FlowState). c.self.inside.held.acked ≡ f.counts.acked % SEQUENCE_NUMBERS) c.self.view_is c.self.invariant.acked in
    let sent : c.args.self.now.counts.sent ≡ c.args.self.now.counts.acked + c.self.inside.held.outstanding =
    subst (λ (f : FlowState). f.counts.sent ≡ f.counts.acked + c.self.inside.held.outstanding) c.self.view_is c.self.invariant.outstanding in
    sym (count-beyond c.args.pr c.args.self.now.counts.acked c.args.self.now.counts.sent ahead
    (is_alike c.args.pr c.args.self.now.counts.acked c.self.inside.held.acked acked)
    (omega arith) (omega (arith, sent, c.if-ahead-self.false)))
