use Rattle.std.proofs.Common.{◌+◌, length, sym, subst, ap, ◌∙◌}
use Rattle.local_refs.specs.Slots.{after_tick}
use Rattle.conn_journal.specs.Inner.Changes.{ticked, all_given_up, all_disowned, CanAllGiveUp}
use Rattle.conn_journal.specs.Inner.Ticking.{put_lives, AllAreKept}
use Rattle.conn_journal.specs.Inner.Waking.{AllWoken}
use Rattle.conn_journal.proofs.Puts.{can_give, all_kept, all_put}
use Rattle.conn_journal.proofs.openings.Openings.advance.Goals as goal

pub give_all_up-requires : goal.give_all_up-requires
give_all_up-requires g c =
    let nexts = c.args.nexts.items in
    subst (λ xs. CanAllGiveUp xs c.tick.new.self) (sym c.as_slice.ensures.value)
    (subst (CanAllGiveUp nexts) (sym (c.tick.ensures ∙ ap (λ v. after_tick v.state.slots) c.self.view_is)) (can_give nexts (ticked c.args.self.now.state) c.requires.fits))

pub advance-requires-clause-alive : goal.advance-requires-clause-alive
advance-requires-clause-alive g c =
    let nexts = c.args.nexts.items in
    subst (λ v. AllAreKept nexts v.state.kept) (sym c.self.view_is) (all_kept nexts (ticked c.args.self.now.state) c.requires.fits)

pub advance-requires-clause-woken : goal.advance-requires-clause-woken
advance-requires-clause-woken g c = subst (λ v. AllWoken (g.S.Store.due v.store) v.state.kept c.args.nexts.items) (sym c.self.view_is) c.requires.woken

pub advance-requires-clause-room : goal.advance-requires-clause-room
advance-requires-clause-room g c = subst (λ v. g.S.Store.has_room v.store (length c.args.nexts.items)) (sym c.self.view_is) c.requires.room

pub returns : goal.returns
returns g c =
    let nexts = c.args.nexts.items in
    all_put nexts (ticked c.args.self.now.state) _ _ _ _ (c.advance.ensures.taken ∙ ap (λ v. v.state.taken + 1) c.self.view_is)
    (c.advance.ensures.kept ∙ ap (λ v. put_lives nexts v.state.kept) c.self.view_is)
    (c.give_all_up.ensures.slots
    ∙ (ap (λ xs. all_given_up xs c.tick.new.self) c.as_slice.ensures.value ∙ ap (all_given_up nexts) (c.tick.ensures ∙ ap (λ v. after_tick v.state.slots) c.self.view_is)))
    (c.give_all_up.ensures.owners ∙ (ap (λ xs. all_disowned xs c.self.inside.index) c.as_slice.ensures.value ∙ ap (λ v. all_disowned nexts v.state.owners) c.self.view_is))
