use Rattle.std.proofs.Common.{◌≡◌, ◌∙◌, IfOk, None, take, drop, ap, sym, subst, rules}
use Rattle.journal_form.specs.Inner.Seen.{seen_lanes}
use Rattle.journal_finding.specs.Finding.{journals_in}
use Rattle.journal_finding.specs.Lanes.{conn_rules, data_rules}
use Rattle.journal_audit.specs.Inner.Judging.{fault_in, AreShort, others_in}
use Rattle.journal_audit.proofs.FaultLemmas.{units_fault}
use Rattle.journal_audit.proofs.FormLemmas.{short_front, short_rest, seen_front, seen_rest}
use Rattle.journal_audit.proofs.beside.Beside.judge_others.Goals as goal

pub judge_kind-requires-clause-short : goal.judge_kind-requires-clause-short
judge_kind-requires-clause-short c =
    subst (λ forms. AreShort (seen_lanes forms)) (sym c.split_at.ensures.front) (short_front c.from.result c.args.forms.now c.requires.short)

pub judge_kind-requires-2-clause-short : goal.judge_kind-requires-2-clause-short
judge_kind-requires-2-clause-short c =
    subst (λ forms. AreShort (seen_lanes forms)) (sym c.split_at.ensures.back) (short_rest c.from.result c.args.forms.now c.requires.short)

pub returns : goal.returns
returns c =
    let head = c.args.self.now.capture.now.head in
    let phases = c.args.self.now.capture.now.phases in
    let control = c.args.self.now.control.now in
    let lanes = seen_lanes c.args.forms.now in
    let count : c.from.result ≡ head.conn_lanes = search rules in
    let front : seen_lanes c.split_at.result.0.now ≡ take head.conn_lanes lanes = ap seen_lanes c.split_at.ensures.front ∙ seen_front c.from.result c.args.forms.now ∙ ap (λ n. take n lanes) count in
    let back : seen_lanes c.split_at.result.1.now ≡ drop head.conn_lanes lanes = ap seen_lanes c.split_at.ensures.back ∙ seen_rest c.from.result c.args.forms.now ∙ ap (λ n. drop n lanes) count in
    let none : None ≡ fault_in (journals_in (conn_rules head phases control) 0 (seen_lanes c.split_at.result.0.now)) = search rules in
    let whole : fault_in (journals_in (data_rules head phases control) 0 (seen_lanes c.split_at.result.1.now)) ≡ fault_in (others_in head phases control lanes) =
    ap (λ l. fault_in (journals_in (data_rules head phases control) 0 l)) back
    ∙ sym (units_fault head phases control lanes (none ∙ ap (λ l. fault_in (journals_in (conn_rules head phases control) 0 l)) front)) in
    subst (λ found. IfOk c.judge_kind-2.result (λ fault. fault ≡ found)) whole c.judge_kind-2.ensures
