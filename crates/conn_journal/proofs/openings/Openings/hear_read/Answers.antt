use Rattle.std.proofs.Common.{◌≡◌, Some, None, get_or, sym, subst, ap, ◌∙◌}
use Rattle.std.specs.Prelude.{option_map}
use Rattle.conn_journal.specs.Inner.Hearing.{HeardBy}
use Rattle.conn_journal.specs.Inner.Remnants.{part_at}
use Rattle.conn_journal.specs.Inner.Views.{live_at}
use Rattle.conn_journal.proofs.Hears.{part_here, deaf_here, heard_here}
use Rattle.conn_journal.proofs.Standing.{any_default}
use Rattle.conn_journal.proofs.openings.Openings.hear_read.Goals as goal

pub returns-in_default-get-clause-part : goal.returns-in_default-get-clause-part
returns-in_default-get-clause-part g c =
    let one = option_map (λ k. k.now) c.get.result in
    let number = c.in-Some.number in
    λ keeps stands.
    part_here c.args.event keeps c.args.self.now.state number one None stands (c.in-Some.ensures.place keeps stands)
    (c.get.ensures ∙ (ap (λ v. get_or v.state.kept number None) c.self.view_is ∙ any_default c.args.self.now.state.kept number None one c.in-Some.ensures.within))
    (sym (ap (λ x. part_at c.args.event (option_map (live_at c.args.self.now.state.taken) (option_map (λ k. k.now) x))) c.in_default-get.is))

pub returns-in_default-get-clause-makes : goal.returns-in_default-get-clause-makes
returns-in_default-get-clause-makes g c =
    let one = option_map (λ k. k.now) c.get.result in
    let number = c.in-Some.number in
    λ keeps stands.
    deaf_here c.args.event keeps c.args.self.now.state number one c.requires.event stands (c.in-Some.ensures.place keeps stands)
    (c.get.ensures ∙ (ap (λ v. get_or v.state.kept number None) c.self.view_is ∙ any_default c.args.self.now.state.kept number None one c.in-Some.ensures.within))
    (sym (ap (λ x. part_at c.args.event (option_map (live_at c.args.self.now.state.taken) (option_map (λ k. k.now) x))) c.in_default-get.is))

pub returns-in-Some-2-clause-part : goal.returns-in-Some-2-clause-part
returns-in-Some-2-clause-part g c =
    let one = option_map (λ k. k.now) c.get.result in
    let number = c.in-Some.number in
    λ keeps stands.
    let becomes = subst (λ n. HeardBy n c.args.event c.in-Some-get.one.now (Some c.in-Some-2.heard)) (c.taken.ensures ∙ ap (λ v. v.state.taken) c.self.view_is) (subst (HeardBy c.taken.result c.args.event c.in-Some-get.one.now) c.in-Some-2.is c.in_ok-heard.ensures) in
    part_here c.args.event keeps c.args.self.now.state number one (Some c.in-Some-2.heard.outs) stands (c.in-Some.ensures.place keeps stands)
    (c.get.ensures ∙ (ap (λ v. get_or v.state.kept number None) c.self.view_is ∙ any_default c.args.self.now.state.kept number None one c.in-Some.ensures.within))
    (becomes.part ∙ sym (ap (λ x. part_at c.args.event (option_map (live_at c.args.self.now.state.taken) (option_map (λ k. k.now) x))) c.in-Some-get.is))

pub returns-in-Some-2-clause-makes : goal.returns-in-Some-2-clause-makes
returns-in-Some-2-clause-makes g c =
    let one = option_map (λ k. k.now) c.get.result in
    let number = c.in-Some.number in
    λ keeps stands.
    let becomes = subst (λ n. HeardBy n c.args.event c.in-Some-get.one.now (Some c.in-Some-2.heard)) (c.taken.ensures ∙ ap (λ v. v.state.taken) c.self.view_is) (subst (HeardBy c.taken.result c.args.event c.in-Some-get.one.now) c.in-Some-2.is c.in_ok-heard.ensures) in
    let here : one ≡ get_or c.args.self.now.state.kept number one =
    c.get.ensures ∙ (ap (λ v. get_or v.state.kept number None) c.self.view_is ∙ any_default c.args.self.now.state.kept number None one c.in-Some.ensures.within) in
    heard_here c.args.event keeps c.args.self.now.state number c.in-Some-get.one.now c.in-Some-2.heard c.requires.event stands (c.in-Some.ensures.place keeps stands)
    (subst (λ x. option_map (λ k. k.now) x ≡ get_or c.args.self.now.state.kept number (option_map (λ k. k.now) x)) c.in-Some-get.is here) becomes

pub returns-in-None-clause-part : goal.returns-in-None-clause-part
returns-in-None-clause-part g c =
    let one = option_map (λ k. k.now) c.get.result in
    let number = c.in-Some.number in
    λ keeps stands.
    let none = subst (λ n. HeardBy n c.args.event c.in-Some-get.one.now None) (c.taken.ensures ∙ ap (λ v. v.state.taken) c.self.view_is) (subst (HeardBy c.taken.result c.args.event c.in-Some-get.one.now) c.in-None.is c.in_ok-heard.ensures) in
    part_here c.args.event keeps c.args.self.now.state number one None stands (c.in-Some.ensures.place keeps stands)
    (c.get.ensures ∙ (ap (λ v. get_or v.state.kept number None) c.self.view_is ∙ any_default c.args.self.now.state.kept number None one c.in-Some.ensures.within))
    (sym (ap (λ x. part_at c.args.event (option_map (live_at c.args.self.now.state.taken) (option_map (λ k. k.now) x))) c.in-Some-get.is ∙ none))

pub returns-in-None-clause-makes : goal.returns-in-None-clause-makes
returns-in-None-clause-makes g c =
    let one = option_map (λ k. k.now) c.get.result in
    let number = c.in-Some.number in
    λ keeps stands.
    let none = subst (λ n. HeardBy n c.args.event c.in-Some-get.one.now None) (c.taken.ensures ∙ ap (λ v. v.state.taken) c.self.view_is) (subst (HeardBy c.taken.result c.args.event c.in-Some-get.one.now) c.in-None.is c.in_ok-heard.ensures) in
    deaf_here c.args.event keeps c.args.self.now.state number one c.requires.event stands (c.in-Some.ensures.place keeps stands)
    (c.get.ensures ∙ (ap (λ v. get_or v.state.kept number None) c.self.view_is ∙ any_default c.args.self.now.state.kept number None one c.in-Some.ensures.within))
    (sym (ap (λ x. part_at c.args.event (option_map (live_at c.args.self.now.state.taken) (option_map (λ k. k.now) x))) c.in-Some-get.is ∙ none))
