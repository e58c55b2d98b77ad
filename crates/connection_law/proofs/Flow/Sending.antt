-- What leaves in one step.
use Rattle.std.proofs.Common.{◌≡◌, ℕ, suc, ◌+◌, ◌-◌, ◌<◌, ◌==◌, ◌&&◌, not, Bool, true, false, List, [], ◌∷◌, ◌++◌, length, is_some, refl, sym, ap, arith, add-zero, ◌∙◌}
use Rattle.std.proofs.lemmas.Bool.{and_parts, false≢true}
use Rattle.relay_base.specs.declared.words.Output.{Output}
use Rattle.section_model.specs.declared.cell.Cell.TheVariants as cell
use Rattle.section_model.specs.declared.hand.Hand.{Hand}
use Rattle.section_model.specs.declared.hand.Hand.TheVariants as hand
use Rattle.section_flow.specs.declared.unit.Unit.{Unit as DataUnit}
use Rattle.relay_base.specs.declared.words.Output.TheVariants.{Lost as Dropped}
use Rattle.relay_base.specs.declared.words.Lost.TheVariants as lost
use Rattle.section_model.specs.Parameters.{Parameters}
use Rattle.section_model.specs.Ends.{wire, SectionHead, Section, no_effect, gives, is_up}
use Rattle.section_model.specs.Windowed.{Windowed, windowed_hears, windowed_takes, numbered, leaves}
use Rattle.section_flow.specs.Windows.{may_leave}
use Rattle.connection_law.specs.SentUnits.{leaving}
use Rattle.connection_law.proofs.Flow.Flowing.{either}
use Rattle.section_model.specs.declared.hand.Acted.{Acted}
use Rattle.connection_law.specs.FlowLaw.{windowed, expedited_leaving, SendingLaw}

next_leave : (x : Section) → (is_up x.head.state && x.head.class == 3) ≡ true
    → (leaves (windowed x)).1.outs ≡ numbered x.head x.windows.sent x.windows.passed (leaving (wire x)) ++ expedited_leaving (windowed x)
unfolding leaves
next_leave x is_open = rw is_open refl

shifted : (x : SectionHead) (a b pr : ℕ) (units : List DataUnit) → a ≡ b → numbered x a pr units ≡ numbered x b pr units
shifted x a b pr units e = rw e refl

numbered_on : (x : SectionHead) (ps pr : ℕ) (units : List DataUnit) (u : DataUnit)
    → numbered x ps pr (units ++ u ∷ []) ≡ numbered x ps pr units ++ numbered x (ps + length units) pr (u ∷ [])
numbered_on x ps pr [] u = shifted x ps (ps + 0) pr (u ∷ []) (sym (add-zero ps))
numbered_on x ps pr (v ∷ units) u =
    let next : List Output = numbered x (suc ps) pr units in
    let same : suc ps + length units ≡ ps + suc (length units) = omega arith in
    ap (λ (outs : List Output). numbered x ps pr (v ∷ []) ++ outs)
    (numbered_on x (suc ps) pr units u ∙ ap (λ (outs : List Output). next ++ outs) (shifted x (suc ps + length units) (ps + suc (length units)) pr (u ∷ []) same))

counted : (x : Windowed) → (leaves x).0.windows.sent ≡ x.windows.sent + may_leave x.windows
unfolding leaves
counted x = refl

in_credit : (x : Windowed) (k : ℕ) → k < may_leave x.windows → (x.windows.sent + k) - x.windows.acked < x.windows.credit
in_credit x k few = omega (arith, few)

clash : (a unanswered : Bool) → unanswered ≡ true → (a && not unanswered) ≡ true → ⊥
clash a unanswered e both = false≢true (rw e at (and_parts a (not unanswered) both).1)

answered_first : (x : Windowed) → x.windows.unanswered ≡ true → expedited_leaving x ≡ []
answered_first x e =
    either (λ (outs : List Output). outs ≡ []) (is_some x.windows.waiting && not x.windows.unanswered) _ _
    (λ both. absurd (clash (is_some x.windows.waiting) x.windows.unanswered e both)) (λ _. refl)

none_passes : (h : Hand) (x : Windowed) → x.windows.unanswered ≡ true → (windowed_takes cell.PassExpedited h x).1 ≡ no_effect
unfolding windowed_takes
none_passes (hand.Expedited body) x e =
    either (λ (r : Windowed × Acted). r.1 ≡ no_effect) (is_up x.head.state && not x.windows.unanswered) _ _
    (λ both. absurd (clash (is_up x.head.state) x.windows.unanswered e both)) (λ _. refl)
none_passes _ x e = refl

unasked : (m : Parameters) (x : Windowed) → x.windows.unanswered ≡ false → windowed_hears cell.TakeExpeditedAcknowledgement m x ≡ (x, gives (Dropped lost.State ∷ []))
unfolding windowed_hears
unasked m x e = rw e refl

pub sending_law : SendingLaw
sending_law = record { carries = next_leave; numbers = numbered_on; counts = counted; within = in_credit; one_expedited = answered_first; none_at_once = none_passes; none_unasked = unasked }
