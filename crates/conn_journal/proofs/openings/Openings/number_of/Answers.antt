use Rattle.std.proofs.Common.{sym, subst, ap, ◌∙◌}
use Rattle.section_model.specs.References.{slot_of}
use Rattle.conn_journal.specs.Inner.Finding.{IsPlaceIn}
use Rattle.conn_journal.specs.Inner.Uses.{owner_at}
use Rattle.conn_journal.proofs.Found.{found_unnamed, found_place_in, found_within}
use Rattle.conn_journal.proofs.openings.Openings.number_of.Goals as goal

pub returns-in_err-mine-clause-place : goal.returns-in_err-mine-clause-place
returns-in_err-mine-clause-place g c =
    λ keeps stands.
    subst (IsPlaceIn c.args.event.now keeps) (sym c.from_residual.ensures)
    (found_unnamed c.args.event.now keeps stands.orderly (sym c.reference_in.ensures ∙ c.in_err-mine.was))

pub returns-clause-place : goal.returns-clause-place
returns-clause-place g c =
    λ keeps stands.
    found_place_in c.args.event.now keeps c.args.self.now.state c.in_ok-mine.mine c.owner.result stands (sym c.reference_in.ensures ∙ c.in_ok-mine.was)
    (c.owner.ensures ∙ ap (λ v. owner_at v.state.owners (slot_of c.in_ok-mine.mine)) c.self.view_is)

pub returns-clause-within : goal.returns-clause-within
returns-clause-within g c =
    let s = c.requires.standing in
    found_within c.args.event.now c.args.self.now.state c.owner.result s
    (found_place_in c.args.event.now s.keeps c.args.self.now.state c.in_ok-mine.mine c.owner.result s.stands (sym c.reference_in.ensures ∙ c.in_ok-mine.was)
    (c.owner.ensures ∙ ap (λ v. owner_at v.state.owners (slot_of c.in_ok-mine.mine)) c.self.view_is))
