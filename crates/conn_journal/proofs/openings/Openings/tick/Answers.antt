use Rattle.std.proofs.Common.{sym, subst, ap, ◌∙◌}
use Rattle.conn_journal.specs.Inner.Waking.{is_in, AreQuiet, WakesAll, AllWoken}
use Rattle.conn_journal.proofs.Standing.{makes_ticked}
use Rattle.conn_journal.proofs.Wakes.{all_woken_same}
use Rattle.conn_journal.proofs.openings.Openings.tick.Goals as goal

pub due-requires : goal.due-requires
due-requires g c = record { quiet = subst (λ v. AreQuiet v.state.taken v.state.kept) (sym c.self.view_is) c.requires.quiet }

pub ticked-requires : goal.ticked-requires
ticked-requires g c =
    let kept = g.S.Store.kept c.self.inside.store in
    record {
      wakes = subst (WakesAll c.taken-now.result kept 0) (sym c.as_slice.ensures.value)
          (subst (λ n. WakesAll n kept 0 c.in_ok-numbers.numbers.items) (sym c.taken-now.ensures) c.in_ok-numbers.ensures.wakes);
    }

pub returns-clause-outs : goal.returns-clause-outs
returns-clause-outs g c =
    λ keeps stands.
    let t = c.in_ok-nexts.ensures.ticked keeps c.args.self.now.state stands (sym (c.taken-now.ensures ∙ ap (λ v. v.state.taken) c.self.view_is)) (sym (ap (λ v. v.state.kept) c.self.view_is)) in t.parts

pub returns-clause-makes : goal.returns-clause-makes
returns-clause-makes g c =
    λ keeps stands.
    let t = c.in_ok-nexts.ensures.ticked keeps c.args.self.now.state stands (sym (c.taken-now.ensures ∙ ap (λ v. v.state.taken) c.self.view_is)) (sym (ap (λ v. v.state.kept) c.self.view_is)) in
    makes_ticked c.args.self.now.state keeps c.in_ok-nexts.nexts stands t.lives t.seats t.gives t.alive

pub returns-clause-woken : goal.returns-clause-woken
returns-clause-woken g c =
    all_woken_same (λ n. is_in n c.as_slice.result.now) (g.S.Store.due c.args.self.now.store)
    (λ n. ap (is_in n) c.as_slice.ensures.value ∙ (c.in_ok-numbers.ensures.due n ∙ ap (λ v. g.S.Store.due v.store n) c.self.view_is)) c.args.self.now.state.kept c.in_ok-nexts.nexts.items
    (subst (λ v. AllWoken (λ n. is_in n c.as_slice.result.now) v.state.kept c.in_ok-nexts.nexts.items) c.self.view_is c.in_ok-nexts.ensures.woken)
