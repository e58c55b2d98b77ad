use Rattle.std.proofs.Common.{◌∙◌, sym, ap}
use Rattle.std.specs.Prelude.{Some}
use Rattle.plant_core.specs.Asking.{seen_ask}
use Rattle.connectionless.specs.Given.{given_of}
use Rattle.connectionless.specs.Asking.{Matter, question_in}
use Rattle.data_lane.specs.Inner.Lane.{asked_in}
use Rattle.data_lane.proofs.MatterLemmas.{AsksAsUser, matter-unasked, matter-user, effect-sending}
use Rattle.data_lane.proofs.effect.Context.request.Goals as goal

pub returns-in_default-clause-asked : goal.returns-in_default-clause-asked
returns-in_default-clause-asked c =
    sym (ap (λ (m : Matter). asked_in c.args.self.now (question_in m)) (matter-unasked c.args.ssn c.args.request.now c.in_default.ensures.value))

asks : (c : goal.In_ok-is_cut) → AsksAsUser (given_of c.args.ssn c.args.request.now) (seen_ask c.in-Some.ask)
asks c = matter-user c.args.ssn c.args.request.now (seen_ask c.in-Some.ask) c.in-Some.ensures.value

pub returns-clause-asked : goal.returns-clause-asked
returns-clause-asked c =
    (λ i. Some (record { edition = c.asked-asked.ensures.edition i; answer = c.asked-asked.ensures.answer i }))
    ∙ sym (ap (λ (m : Matter). asked_in c.args.self.now (question_in m)) (asks c).matter)

pub returns-clause-effect : goal.returns-clause-effect
returns-clause-effect c =
    effect-sending c.args.self.now.head.now c.args.self.now.number c.args.self.now.cut _ (seen_ask c.in-Some.ask) c.asked-asked.result.answer
    c.in_ok-outs.outs c.user_outs.new.outs c.in_ok-is_cut.is_cut (asks c) c.in_ok-outs.ensures c.in_ok-is_cut.ensures.ok c.in_ok-is_cut.ensures.cut
