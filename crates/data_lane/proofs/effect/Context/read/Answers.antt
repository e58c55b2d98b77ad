use Rattle.std.proofs.Common.{◌≡◌, ◌∙◌, [], sym, ap, Ok}
use Rattle.std.specs.Prelude.{Option, Some, None}
use Rattle.std.specs.Option.{option_map}
use Rattle.std.specs.declared.result.Result.{Result}
use Rattle.relay_base.specs.declared.words.Lost.{Lost}
use Rattle.plant_core.specs.declared.answer.Ask.{Ask}
use Rattle.plant_core.specs.Asking.{Question, seen_ask}
use Rattle.q713_codec.specs.Reading.{seen}
use Rattle.connectionless.specs.Unitdata.{unitdata_of}
use Rattle.connectionless.specs.Asking.{Matter, settled, matter_by_unit, question_in}
use Rattle.data_lane.specs.declared.effect.Work.TheVariants as work
use Rattle.data_lane.specs.Legal.{effect_with}
use Rattle.data_lane.specs.Inner.Lane.{asked_in, effect_in}
use Rattle.data_lane.proofs.MatterLemmas.{Asks, matter-lost, matter-none, matter-asked, effect-routed}
use Rattle.data_lane.proofs.effect.Context.read.Goals as goal

abbrev told : Option Ask → Result (Option Question) Lost
told ask = Ok (option_map seen_ask ask)

pub returns-in-Err-clause-asked : goal.returns-in-Err-clause-asked
returns-in-Err-clause-asked c =
    sym (ap (λ (m : Matter). asked_in c.args.self.now (question_in m)) (matter-lost c.args.opc c.args.sls (seen c.args.view.now) c.in-Err.lost c.in-Err.ensures.value))

pub returns-in-Err-clause-effect : goal.returns-in-Err-clause-effect
returns-in-Err-clause-effect c =
    c.in_ok-of_lost-in-Err.ensures
    ∙ sym (ap (λ (m : Matter). effect_in c.args.self.now m None) (matter-lost c.args.opc c.args.sls (seen c.args.view.now) c.in-Err.lost c.in-Err.ensures.value))

none : (c : goal.After-with) → matter_by_unit c.args.opc c.args.sls (unitdata_of (seen c.args.view.now)) ≡ settled []
none c = matter-none c.args.opc c.args.sls (seen c.args.view.now) (c.in-Ok-None.ensures.value ∙ ap told c.in-Ok-None.field-0-is)

pub returns-in-Ok-None-clause-asked : goal.returns-in-Ok-None-clause-asked
returns-in-Ok-None-clause-asked c = sym (ap (λ (m : Matter). asked_in c.args.self.now (question_in m)) (none c))

pub returns-in-Ok-None-clause-effect : goal.returns-in-Ok-None-clause-effect
returns-in-Ok-None-clause-effect c =
    c.with.ensures ∙ ap (λ outs. effect_with outs work.Nothing) c.new.ensures ∙ sym (ap (λ (m : Matter). effect_in c.args.self.now m None) (none c))

asks : (c : goal.In_ok-effect) → Asks c.args.opc c.args.sls (unitdata_of (seen c.args.view.now)) (seen_ask c.in-Ok-Some.ask)
asks c = matter-asked c.args.opc c.args.sls (seen c.args.view.now) (seen_ask c.in-Ok-Some.ask) (c.in-Ok-Some.ensures.value ∙ ap told c.in-Ok-Some.field-0-is)

pub returns-clause-asked : goal.returns-clause-asked
returns-clause-asked c =
    (λ i. Some (record { edition = c.asked-asked.ensures.edition i; answer = c.asked-asked.ensures.answer i }))
    ∙ sym (ap (λ (m : Matter). asked_in c.args.self.now (question_in m)) (asks c).matter)

pub returns-clause-effect : goal.returns-clause-effect
returns-clause-effect c =
    effect-routed c.args.self.now.head.now c.args.self.now.number c.args.self.now.cut c.args.opc c.args.sls _ (seen_ask c.in-Ok-Some.ask) c.asked-asked.result.answer
    c.in_ok-effect.effect (asks c) c.in_ok-effect.ensures
