use Rattle.std.proofs.Common.{◌≡◌, ◌∙◌, ℕ, Bool, [], ◌∷◌, ◌++◌, filter, ap, sym, arith}
use Rattle.std.specs.List.{range_with_len}
use Rattle.relay_base.specs.declared.limits.TheConstants.{SUBSYSTEM_NUMBERS}
use Rattle.plant_core.specs.Plant.{is_among}
use Rattle.scmg.specs.Control.{subsystems}
use Rattle.scmg.proofs.KnownLemmas.{one-more, none-more}
use Rattle.scmg.proofs.known.in_order.Goals as goal
use Rattle.scmg.proofs.known.in_order.Goals.{then-contains+in_ok-push, else-contains}

pub loop-number-preserved : goal.loop-number-preserved
loop-number-preserved c =
    let p : ℕ → Bool = λ ssn. is_among ssn c.args.users.now in
    let n = c.loop-number.number in
    let same = c.contains.ensures.value ∙ ap p c.from-ssn.ensures in
    elim c.if-contains.branch [
      | then-contains+in_ok-push w ↦
          ap (λ v. v.items) w.list-is ∙ w.in_ok-push.ensures.items ∙ ap (λ xs. xs ++ c.from-ssn.result ∷ []) c.loop-number.invariant
          ∙ ap (λ m. filter p (range_with_len 0 n) ++ m ∷ []) c.from-ssn.ensures ∙ sym (one-more p n (sym same ∙ w.if-contains.true))
      | else-contains w ↦
          ap (λ v. v.items) w.list-is ∙ c.loop-number.invariant ∙ sym (none-more p n (sym same ∙ w.if-contains.false))
    ]

pub returns : goal.returns
unfolding subsystems
returns c =
    let p : ℕ → Bool = λ ssn. is_among ssn c.args.users.now in
    let all : c.loop-number.number ≡ SUBSYSTEM_NUMBERS = omega (arith, c.loop-number-test.false, c.loop-number.auto.number-end) in
    c.loop-number.invariant ∙ ap (λ n. filter p (range_with_len 0 n)) all
