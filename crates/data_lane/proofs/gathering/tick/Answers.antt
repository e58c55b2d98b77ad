use Rattle.std.proofs.Common.{◌∙◌, sym, ap, refl, arith}
use Rattle.std.specs.Option.{option_copied}
use Rattle.reassembly.specs.Reassembly.{ended_by_tick}
use Rattle.relay_base.specs.declared.causes.TheConstants.{RETURN_SEGMENTATION_FAILURE}
use Rattle.data_lane.specs.Legal.{failure}
use Rattle.data_lane.proofs.TakingLemmas.{member-within, more-returned, all-returned, few-ended}
use Rattle.data_lane.proofs.gathering.tick.Goals as goal

pub loop-first-init : goal.loop-first-init
loop-first-init c = record { outs = refl; within = omega arith; few = few-ended c.args.bench.now.processes c.requires }

pub loop-first-smaller : goal.loop-first-smaller
loop-first-smaller c =
    let there = sym c.due.ensures ∙ ap option_copied c.in-Some.is in
    let within = member-within (ended_by_tick c.args.bench.now.processes) c.loop-first.at c.in-Some.first.now there in
    omega (arith, within)

pub loop-first-preserved : goal.loop-first-preserved
loop-first-preserved c =
    let ended = ended_by_tick c.args.bench.now.processes in
    let there = sym c.due.ensures ∙ ap option_copied c.in-Some.is in
    let within = member-within ended c.loop-first.at c.in-Some.first.now there in
    record {
      outs = more-returned (failure c.args.own RETURN_SEGMENTATION_FAILURE) c.loop-first.outs c.return_outs.new.outs _ ended c.loop-first.at c.in-Some.first.now there c.in_ok-return_outs.ensures.ok c.loop-first.invariant.outs;
      within = omega (arith, within);
      few = c.loop-first.invariant.few;
    }

pub returns-clause-outs : goal.returns-clause-outs
returns-clause-outs c =
    all-returned (failure c.args.own RETURN_SEGMENTATION_FAILURE) c.loop-first.outs _ (ended_by_tick c.args.bench.now.processes) c.loop-first.at (sym c.due.ensures ∙ ap option_copied c.in_default.is) c.loop-first.invariant.outs
