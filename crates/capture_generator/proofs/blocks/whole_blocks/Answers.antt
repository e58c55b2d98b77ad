use Rattle.std.proofs.Common.{◌∙◌, ◌*◌, [], ◌∷◌, ◌++◌, ap}
use Rattle.capture_generator.specs.declared.events.TheConstants.{BLOCK}
use Rattle.capture_generator.specs.Generator.{number_after, events_after, tick_phase}
use Rattle.capture_generator.proofs.StepLemmas.{blocks_step, number_block}
use Rattle.capture_generator.proofs.blocks.whole_blocks.Goals as goal

pub loop-block-preserved : goal.loop-block-preserved
loop-block-preserved c =
    let x = c.args.x.now in
    let b = c.loop-block.block in
    record {
      phases = c.in_ok-push_block.ensures.phases ∙ ap (λ p. p ++ ([] ∷ events_after c.loop-block.x (BLOCK * b) BLOCK ∷ []) ∷ tick_phase b ∷ []) c.loop-block.invariant.phases
          ∙ blocks_step x c.loop-block.x b c.loop-block.invariant.number;
      number = c.in_ok-push_block.ensures.number ∙ ap (λ n. number_after n BLOCK) c.loop-block.invariant.number ∙ number_block x b;
    }
