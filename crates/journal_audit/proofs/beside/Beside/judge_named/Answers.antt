use Rattle.std.proofs.Common.{◌≡◌, IfOk, subst}
use Rattle.journal_form.specs.Inner.Seen.{seen_lane}
use Rattle.journal_finding.specs.Finding.{journal_in}
use Rattle.lane_replays.specs.Plain.{PlainState, plain_rules}
use Rattle.journal_audit.specs.Inner.Judging.{fault_in}
use Rattle.journal_audit.proofs.BesideLemmas.{kind_events, kind_names}
use Rattle.journal_audit.proofs.FaultLemmas.{fault_if}
use Rattle.journal_audit.proofs.beside.Beside.judge_named.Goals as goal

pub judge_first-requires-clause-events : goal.judge_first-requires-clause-events
judge_first-requires-clause-events g c =
    kind_events c.args.self.now c.requires.beside g.L.PlainLane.named g.L.PlainLane.question g.L.PlainLane.outs c.args.number c.lane-name.result c.in_ok-lane.lane c.lane-name.ensures c.in_ok-lane.ensures

pub judge_first-requires-clause-names : goal.judge_first-requires-clause-names
judge_first-requires-clause-names g c =
    kind_names c.args.self.now c.requires.beside g.L.PlainLane.named g.L.PlainLane.question g.L.PlainLane.outs c.args.number c.in_ok-lane.lane c.args.editions.now c.in_ok-lane.ensures c.requires.editions

pub returns : goal.returns
returns g c =
    subst (λ (s : PlainState). IfOk c.judge_first.result (λ fault. fault ≡ fault_in (journal_in (plain_rules g.L.PlainLane.named g.L.PlainLane.question g.L.PlainLane.outs s) (seen_lane c.args.form.now))))
    c.in_ok-lane.ensures (fault_if _ _ c.judge_first.result c.judge_first.ensures.found)
