-- What a connection hears, and what it doesn't: by that nothing changes.
use Rattle.std.proofs.Common.{◌≡◌, Bool, true, false, List, [], refl}
use Rattle.relay_base.specs.declared.words.Event.{Event}
use Rattle.relay_base.specs.declared.words.Output.{Output}
use Rattle.plant_core.specs.declared.terms.Ticks.{Ticks}
use Rattle.section_model.specs.Ends.{Connection}
use Rattle.section_model.specs.Step.{hears, connection_step}
use Rattle.section_model.specs.Lane.{next, fed, part_by}
use Rattle.connection_law.proofs.Flow.Step.{step_keeps}
use Rattle.hop_law.proofs.Classes.{classes_stay}
use Rattle.hop_law.proofs.Early.{step_early}
use Rattle.hop_law.proofs.Along.{stays_early}
use Rattle.hop_law.proofs.Taken.{still_differs}
use Rattle.hop_law.specs.Soundness.{IsSound, StaysSound, UnheardIsIdle}

-- of an event that is heard, and of one that isn't
pub by_hearing : (P : Connection → List Output → Type 0) (ticks : Ticks) (c : Connection) (event : Event)
    → (hears c event ≡ true → P (next ticks c event) (connection_step ticks c event).1) → (hears c event ≡ false → P c []) → P (fed ticks c event) (part_by ticks event c)
by_hearing P ticks c event here there = by_test (hears c event) refl
  where
    by_test : (b : Bool) → hears c event ≡ b → P (elim b [ true ↦ next ticks c event | false ↦ c ]) (elim b [ true ↦ (connection_step ticks c event).1 | false ↦ [] ])
    by_test true h = here h
    by_test false h = there h

pub unheard_is_idle : UnheardIsIdle
unheard_is_idle ticks c event h = (rw (fed, h) refl, rw (part_by, h) refl)

sound_after : (ticks : Ticks) (c : Connection) (event : Event) → hears c event ≡ true → IsSound c → IsSound (next ticks c event)
sound_after ticks c event h sound =
    let early = step_early ticks c event in
    let d = next ticks c event in record {
      in_step = step_keeps ticks c event sound.in_step;
      class = classes_stay ticks c event h sound.class;
      early = (stays_early c.this d.this early.0 sound.early.0, stays_early c.that d.that early.1 sound.early.1);
      references = still_differs ticks c event sound.references;
    }

pub stays_sound : StaysSound
stays_sound ticks c event sound = by_hearing (λ d outs. IsSound d) ticks c event (λ h. sound_after ticks c event h sound) (λ _. sound)
