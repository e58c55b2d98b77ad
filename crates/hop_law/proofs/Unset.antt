-- Nothing passes where a section isn't connected.
use Rattle.std.proofs.Common.{◌≡◌, true, false, List, [], refl, sym, ◌∙◌, ap, subst}
use Rattle.std.proofs.lemmas.Bool.{false≢true}
use Rattle.relay_base.specs.declared.words.Event.{Event}
use Rattle.relay_base.specs.declared.words.Output.{Output}
use Rattle.plant_core.specs.declared.terms.Ticks.{Ticks}
use Rattle.section_model.specs.declared.cell.SectionState.{SectionState}
use Rattle.section_model.specs.declared.cell.SectionState.TheVariants.{Up, Resetting}
use Rattle.section_model.specs.Ends.{End, wire, SectionHead, Section, Connection, is_connected}
use Rattle.section_model.specs.Step.{hears, connection_step}
use Rattle.section_model.specs.Lane.{next}
use Rattle.hop_law.specs.Units.{units_on}
use Rattle.connection_law.specs.InStep.{connected, section_stage, stage_at, passed_at, IsInStep}
use Rattle.connection_law.specs.Messages.{data_among, acted}
use Rattle.connection_law.proofs.Flow.Ends.{kept_back}
use Rattle.connection_law.proofs.Message.Sent.{data_sent}
use Rattle.hop_law.specs.LeavingLaw.{AreSides, this_and_that, that_and_this}
use Rattle.hop_law.specs.PassingLaw.{dt1_among, NonePass, Brings, Passing, none, on_this, on_that}
use Rattle.hop_law.proofs.Carrying.{only_dt2}
use Rattle.hop_law.proofs.Leaving.{nothing_on}
use Rattle.hop_law.proofs.Passing.{units_pass}
use Rattle.hop_law.specs.Hop.{GotNothing}
use Rattle.hop_law.specs.Waiting.{messages_to, units_waiting}
use Rattle.hop_law.proofs.Along.{open_stage, is_met, still_none, no_data_from}
use Rattle.hop_law.proofs.Queued.{AreWith, all_alike}
use Rattle.hop_law.specs.Unset.{Nothing, NothingPasses}
use Rattle.hop_law.proofs.Hearing.{by_hearing}

unset_stage : (s : SectionState) → is_connected s ≡ false → section_stage s ≡ connected → ⊥
unset_stage Up unset at = false≢true (sym unset)
unset_stage Resetting unset at = false≢true (sym unset)
unset_stage _ unset at = cc

-- neither end is connected
AreUnset : Connection → Type 0
AreUnset c = (stage_at c.this ≡ connected → ⊥) × (stage_at c.that ≡ connected → ⊥)

both_unset : (end other : Connection → End) (c : Connection) (x : Section) → AreSides end other → end c ≡ wire x → is_connected x.head.state ≡ false → IsInStep c → AreUnset c
unfolding AreUnset
both_unset end other c x this_and_that is unset k =
    let here : stage_at c.this ≡ connected → ⊥ = λ at. unset_stage x.head.state unset (sym (ap stage_at is) ∙ at) in
    (here, λ at. here (is_met (stage_at c.that) (stage_at c.this) at (kept_back c k).0))
both_unset end other c x that_and_this is unset k =
    let here : stage_at c.that ≡ connected → ⊥ = λ at. unset_stage x.head.state unset (sym (ap stage_at is) ∙ at) in
    (λ at. here (is_met (stage_at c.this) (stage_at c.that) at k.0), here)

none_pass : (event : Event) (c d : Connection) (outs : List Output) → AreUnset c → Passing (Brings event) c d outs → NonePass c d outs
unfolding AreUnset
none_pass event c d outs unset (none p) = p
none_pass event c d outs unset (on_this units p) = absurd (unset.0 (open_stage c.this p.is_open))
none_pass event c d outs unset (on_that units p) = absurd (unset.1 (open_stage c.that p.is_open))

no_data : (ticks : Ticks) (c : Connection) (event : Event) → IsInStep c → GotNothing (next ticks c event) → data_among (connection_step ticks c event).1 ≡ []
no_data ticks c event k got =
    let a = acted ticks c event in
    let d = next ticks c event in
    (data_sent ticks c event k).sends
    ∙ rw (no_data_from a.this d.this d.that (passed_at a.this) got.1, no_data_from a.that d.that d.this (passed_at d.that) got.0) refl

none_on : (y : SectionHead) (outs : List Output) → dt1_among outs ≡ [] → data_among outs ≡ [] → units_on y outs ≡ []
none_on y outs one two = only_dt2 y outs one ∙ (ap (units_on y) two ∙ nothing_on y)

none_waits : (y : SectionHead) (outs : List Output) → dt1_among outs ≡ [] → data_among outs ≡ [] → units_waiting y.other (messages_to y.point outs) ≡ []
none_waits y outs one two = all_alike y outs (subst (AreWith y) (sym one) tt) (subst (AreWith y) (sym two) tt) ∙ none_on y outs one two

pub nothing_passes : NothingPasses
unfolding units_on units_waiting messages_to
nothing_passes ticks c event end other x sound sides is unset got = by_hearing Nothing ticks c event heard unheard
  where
    heard : hears c event ≡ true → Nothing (next ticks c event) (connection_step ticks c event).1
    heard h =
        let d = next ticks c event in
        let outs = (connection_step ticks c event).1 in
        let p = none_pass event c d outs (both_unset end other c x sides is unset sound.in_step) (units_pass ticks c event h sound.in_step) in
        let came : GotNothing d = (still_none c.this d.this p.this got.0, still_none c.that d.that p.that got.1) in
        let none_data = no_data ticks c event sound.in_step came in record {
          came = came;
          leaves = λ y. none_on y outs p.sends none_data;
          waits = λ reference point. none_waits (record x.head { point = point; other = reference }) outs p.sends none_data;
        }

    unheard : hears c event ≡ false → Nothing c []
    unheard h = record { came = got; leaves = λ y. refl; waits = λ reference point. refl }
