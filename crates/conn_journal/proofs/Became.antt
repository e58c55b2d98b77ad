-- What the code makes of a connection by an event.
use Rattle.std.proofs.Common.{◌≡◌, ℕ, Bool, true, false, Some, None, sym, ap, ap₂, ◌∙◌}
use Rattle.std.specs.Prelude.{option_map}
use Rattle.relay_base.specs.declared.words.Event.{Event}
use Rattle.section_model.specs.Step.{hears, connection_step}
use Rattle.section_model.specs.Lane.{fed}
use Rattle.section_coupling.specs.Duos.{DuoState, duo_at, taken_after, end_numbered}
use Rattle.conn_journal.specs.declared.kept.Heard.{Heard}
use Rattle.conn_journal.specs.Inner.Hearing.{gives, Becomes}
use Rattle.conn_journal.specs.Inner.Remnants.{live_of, part_in}
use Rattle.conn_journal.specs.Inner.Views.{live_at}

pub became : (event : Event) (now : ℕ) (d new : DuoState) (h : Heard) → duo_at (taken_after now event) new ≡ fed d.ticks (duo_at now d) event → new.ticks ≡ d.ticks
    → option_map (live_at (taken_after now event)) h.one ≡ live_of new.ticks (duo_at (taken_after now event) new)
    → h.this ≡ gives (end_numbered 0 (duo_at now d)) (end_numbered 0 (duo_at (taken_after now event) new))
    → h.that ≡ gives (end_numbered 1 (duo_at now d)) (end_numbered 1 (duo_at (taken_after now event) new))
    → Some h.outs ≡ part_in event (live_at now d) → Becomes now event d h
became event now d new h fed_so ticks live this that part =
    record {
      live = live ∙ ap₂ live_of ticks fed_so;
      this = this ∙ ap (λ c. gives (duo_at now d).this c.this) fed_so;
      that = that ∙ ap (λ c. gives (duo_at now d).that c.that) fed_so;
      part = part;
    }

-- a connection that doesn't hear the event
pub deaf : (event : Event) (now : ℕ) (d : DuoState) (b : Bool) → b ≡ hears (duo_at now d) event → b ≡ false → part_in event (live_at now d) ≡ None
deaf event now d b same none =
    ap (λ x. elim x [ true ↦ Some (connection_step d.ticks (duo_at now d) event).1 | false ↦ None ]) (sym same ∙ none)
