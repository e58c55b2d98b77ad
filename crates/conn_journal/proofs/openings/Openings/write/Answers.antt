use Rattle.std.proofs.Common.{sym, subst, ap, ◌∙◌}
use Rattle.conn_journal.specs.Inner.Waking.{AllWoken, WakesDue}
use Rattle.conn_journal.proofs.Wakes.{all_woken_same}
use Rattle.conn_journal.proofs.openings.Openings.write.Goals as goal

pub advance-requires-clause-woken : goal.advance-requires-clause-woken
advance-requires-clause-woken g c =
    let due = g.S.Store.due in
    subst (λ k. AllWoken (due c.enter.new.store) k c.in-Ticked.nexts.items) (sym c.in_ok-enter.ensures.kept)
    (all_woken_same (due c.args.self.now.store) (due c.enter.new.store) (λ n. sym (c.in_ok-enter.ensures.due n ∙ ap (λ v. due v.store n) c.self.view_is)) (g.S.Store.kept c.self.inside.store) c.in-Ticked.nexts.items
    (subst (λ v. AllWoken (due c.args.self.now.store) v.state.kept c.in-Ticked.nexts.items) (sym c.self.view_is) (subst (WakesDue (due c.args.self.now.store) c.args.self.now.state.kept) c.in-Ticked.is c.requires.woken)))
