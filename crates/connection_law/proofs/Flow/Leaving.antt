-- Units and expedited data leave, and what left is acknowledged.
use Rattle.std.proofs.Common.{◌≡◌, ℕ, ◌+◌, ◌-◌, ◌≤◌, ◌==◌, ◌&&◌, ◌||◌, not, nat_lt, Bool, true, false, List, [], ◌∷◌, length, drop, min, if◌then◌else◌, None, is_some, refl, arith, drop-drop, length-drop, ◌∙◌}
use Rattle.std.proofs.lemmas.Bool.{ltb-false, or_parts, and_parts, false≢true}
use Rattle.section_model.specs.declared.hand.Hand.{Hand}
use Rattle.section_model.specs.declared.hand.Hand.TheVariants as hand
use Rattle.section_flow.specs.declared.unit.Unit.{Unit as DataUnit}
use Rattle.section_model.specs.declared.hand.Acted.{Acted}
use Rattle.plant_core.specs.declared.terms.Ticks.{Ticks}
use Rattle.relay_base.specs.declared.words.Output.{Output}
use Rattle.section_model.specs.Ends.{End, wire, owner, Section, Timers, Connection, gives_then, is_up}
use Rattle.section_flow.specs.Windows.{Windows, may_leave}
use Rattle.section_model.specs.declared.cell.SectionState.{SectionState}
use Rattle.section_model.specs.declared.cell.SectionState.TheVariants.{Up}
use Rattle.section_model.specs.Step.{on_windows, on_each, after_event}
use Rattle.section_model.specs.Windowed.{Windowed, leaves, acknowledges}
use Rattle.connection_law.specs.InStep.{connected, Meets, stage_at, section_stage, IsInStep, AreInStep, FlowsWith, passed_at, got_at}
use Rattle.connection_law.proofs.Flow.Ends.{awaited_back, kept_back}
use Rattle.connection_law.proofs.Flow.Taking.{TakesInStep, Settles}
use Rattle.connection_law.proofs.Flow.Flowing.{three_is_not_two, left_passed, either, takes_left, open_other}
use Rattle.connection_law.proofs.Flow.Acting.{Acts, ActsWindowed, acts_alone, acts_then_at, other_first}

-- the windows after units left
abbrev pub after_leaving : Windows → Windows
after_leaving w =
    let count = may_leave w in
    let is_expedited = is_some w.waiting && not w.unanswered in
    record w {
      waits = drop count w.waits;
      sent = w.sent + count;
      told = (if count == 0 then w.told else w.passed);
      waiting = (if is_expedited then None else w.waiting);
      unanswered = w.unanswered || is_expedited;
    }

pub told_after : (b : Bool) (told passed : ℕ) → told ≤ passed → (told ≤ (if b then told else passed)) × ((if b then told else passed) ≤ passed)
told_after true told passed a = (omega arith, a)
told_after false told passed a = (a, omega arith)

-- no more leaves than waits, and than the window allows
pub few_leave : (waits : ℕ) (window : ℕ) → (min waits window ≤ waits) × (min waits window ≤ window)
few_leave waits window = (omega arith, omega arith)

rest_waits : (waits got : List DataUnit) (passed count : ℕ) → waits ≡ drop passed got → count ≤ length waits → passed ≤ length got
    → (passed + count ≤ length got) × (drop count waits ≡ drop (passed + count) got)
rest_waits waits got passed count e few within =
    let len : length waits ≡ length got - passed = rw (e, length-drop passed got) refl in
    (omega (arith, len, few, within), rw (e, drop-drop count passed got) refl)

left_flows : (x : Section) (passed : ℕ) (got : List DataUnit) → FlowsWith (wire x) passed got
    → FlowsWith (wire (record x { windows = after_leaving x.windows })) (passed + may_leave x.windows) got × (passed + may_leave x.windows ≤ length got)
left_flows x passed got f =
    let w = x.windows in
    let few = few_leave (length w.waits) (w.credit - (w.sent - w.acked)) in
    let t = told_after (may_leave w == 0) w.told w.passed f.0.0 in
    let r = rest_waits w.waits got passed (may_leave w) f.2.2 few.0 f.2.1 in
    let same : w.sent ≡ passed = f.2.0 in (
      (
        (t.1, f.0.1, omega (arith, f.0.2, t.0)),
        (omega (arith, f.1.0), omega (arith, few.1, f.1.0, f.1.1, f.1.2), f.1.2),
        (rw same refl, r.0, r.1),
      ),
      r.0,
    )

acts_by_test : (b : Bool) (ticks : Ticks) (x x' : Section) (that : End) (outs : List Output) (h : Hand)
    → (b ≡ true → (t : Timers) → TakesInStep 1 ticks h that (wire (record x' { timers = t }))) → (b ≡ false → AreInStep (wire x') that)
    → Acts ticks x that (x', gives_then outs (if b then h ∷ [] else []))
acts_by_test true ticks x x' that outs h f g = acts_then_at ticks x x' that outs h (f refl)
acts_by_test false ticks x x' that outs h f g = acts_alone ticks x x' that outs (g refl)

no_more : (b c : Bool) (count : ℕ) → (b || nat_lt 0 count) ≡ false → (passed : ℕ) → passed ≡ passed + count
no_more b c count e passed = let f : count ≤ 0 = ltb-false 0 count (or_parts b (nat_lt 0 count) e).1 in omega (arith, f)

pub leaves_kept : (ticks : Ticks) (x : Section) (that : End) → Meets connected (section_stage x.head.state) → (x.head.class == 3) ≡ true → AreInStep (wire x) that → ActsWindowed ticks x that (leaves (record { head = x.head; windows = x.windows }))
unfolding ActsWindowed leaves
leaves_kept ticks x that o is_three k =
    let w = x.windows in
    let count = may_leave w in
    let is_expedited = is_some w.waiting && not w.unanswered in
    let b = other_first x that k in
    acts_by_test (is_expedited || nat_lt 0 count) ticks x (record x { windows = after_leaving w }) that _ (hand.Left count is_expedited)
    (λ _ t. takes_left 1 ticks count is_expedited that (wire (record x { windows = after_leaving w; timers = t })) (
      b.0,
      b.1,
      b.2,
      tt,
      open_other (section_stage x.head.state) (stage_at that) o k.0,
      λ three. let f = b.4 three in
          let l = left_flows x (passed_at that) (got_at that) f.2 in
          (awaited_back (wire (record x { windows = after_leaving w; timers = t })) that (k.4 (rw k.1 three)).0, f.1, l.0, l.1),
      λ two. absurd (three_is_not_two x.head.class is_three (k.1 ∙ two)),
    ))
    (λ none. (
      k.0,
      k.1,
      k.2,
      k.3,
      λ three. let f = k.4 three in (
        f.0,
        left_passed (wire (record x { windows = after_leaving w })) (passed_at that) (passed_at that + count) (got_at that) (no_more is_expedited true count none (passed_at that))
            (left_flows x (passed_at that) (got_at that) f.1).0,
        f.2,
      ),
      k.5,
    ))

pub acknowledges_kept : (ticks : Ticks) (x : Section) (that : End) → AreInStep (wire x) that → ActsWindowed ticks x that (acknowledges (record { head = x.head; windows = x.windows }))
unfolding ActsWindowed acknowledges
acknowledges_kept ticks x that k =
    either (ActsWindowed ticks x that) (x.windows.passed == x.windows.told) _ _ (λ _. acts_alone ticks x x that [] k)
    (λ _. acts_alone ticks x (record x { windows = record x.windows { told = x.windows.passed } }) that _
    (k.0, k.1, k.2, k.3, λ three. let f = k.4 three in (f.0, ((omega arith, f.1.0.1, omega (arith, f.1.0.2, f.1.0.0)), f.1.1, f.1.2), f.2), k.5))

-- The two parts of what follows each event, on either end.

up_open : (s : SectionState) → is_up s ≡ true → Meets connected (section_stage s)
up_open Up e = tt
up_open _ e = absurd (false≢true e)

pub on_windows_kept : (ticks : Ticks) (act : Windowed → Windowed × Acted) → ((x : Section) (that : End) → Meets connected (section_stage x.head.state) → (x.head.class == 3) ≡ true → AreInStep (wire x) that → ActsWindowed ticks x that (act (record { head = x.head; windows = x.windows })))
    → (this that : End) → AreInStep this that → IsInStep (on_windows ticks act this that).0
unfolding ActsWindowed Acts Settles
on_windows_kept ticks act keeps (owner u) that k = k
on_windows_kept ticks act keeps (wire x) that k =
    either (λ (r : Connection × List Output). IsInStep r.0) (is_up x.head.state && x.head.class == 3) _ _
    (λ e. let parts = and_parts (is_up x.head.state) (x.head.class == 3) e in keeps x that (up_open x.head.state parts.0) parts.1 k) (λ _. k)

-- a part of a step on one end, and then on the other
on_each_kept : (part : End → End → Connection × List Output) → ((this that : End) → AreInStep this that → IsInStep (part this that).0)
    → (r : Connection × List Output) → IsInStep r.0 → IsInStep (on_each part r).0
on_each_kept part keeps r k =
    let one = (part r.0.this r.0.that).0 in
    let k' : IsInStep one = keeps r.0.this r.0.that k in
    kept_back (part one.that one.this).0 (keeps one.that one.this (kept_back one k'))

pub after_event_kept : (ticks : Ticks) (r : Connection × List Output) → IsInStep r.0 → IsInStep (after_event ticks r).0
unfolding after_event
after_event_kept ticks r k =
    on_each_kept (on_windows ticks acknowledges) (on_windows_kept ticks acknowledges (λ x that o three. acknowledges_kept ticks x that)) (on_each (on_windows ticks leaves) r)
    (on_each_kept (on_windows ticks leaves) (on_windows_kept ticks leaves (leaves_kept ticks)) r k)
