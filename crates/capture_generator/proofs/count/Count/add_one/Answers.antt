use Rattle.std.proofs.Common.{◌≡◌, ◌∙◌, ◌+◌, ◌++◌, [], ◌∷◌, length, ap, subst, sym, rules}
use Rattle.std.proofs.lemmas.List.{with_items_is}
use Rattle.capture_generator.specs.Inner.Digits.{number_of, AreDigits, one_greater, carried}
use Rattle.capture_generator.proofs.DigitLemmas.{one-more}
use Rattle.capture_generator.proofs.count.Count.add_one.Goals as goal

pub invariant_of-self-then-carries : goal.invariant_of-self-then-carries
invariant_of-self-then-carries c =
    let size : length c.carries.new.digits ≡ c.reserve.new.self.len = search rules in
    let same : c.as_mut_slice.result.now ≡ c.self.inside.digits.items = search rules in
    let more = sym (ap (λ b. carried b c.carries.new.digits) c.if-carries.true) ∙ c.carries.ensures ∙ ap one_greater same in
    let e = c.push_reserved.ensures.items ∙ ap (λ l. l ++ 1 ∷ []) (with_items_is c.reserve.new.self c.carries.new.digits size) ∙ more in
    subst AreDigits (sym e) (one-more c.self.inside.digits.items c.self.invariant).1

pub invariant_of-self-else-carries : goal.invariant_of-self-else-carries
invariant_of-self-else-carries c =
    let size : length c.carries.new.digits ≡ c.reserve.new.self.len = search rules in
    let same : c.as_mut_slice.result.now ≡ c.self.inside.digits.items = search rules in
    let more = sym (ap (λ b. carried b c.carries.new.digits) c.if-carries.false) ∙ c.carries.ensures ∙ ap one_greater same in
    let e = with_items_is c.reserve.new.self c.carries.new.digits size ∙ more in
    subst AreDigits (sym e) (one-more c.self.inside.digits.items c.self.invariant).1

pub returns-then-carries-clause-ok : goal.returns-then-carries-clause-ok
returns-then-carries-clause-ok c =
    let size : length c.carries.new.digits ≡ c.reserve.new.self.len = search rules in
    let same : c.as_mut_slice.result.now ≡ c.self.inside.digits.items = search rules in
    let more = sym (ap (λ b. carried b c.carries.new.digits) c.if-carries.true) ∙ c.carries.ensures ∙ ap one_greater same in
    let e = c.push_reserved.ensures.items ∙ ap (λ l. l ++ 1 ∷ []) (with_items_is c.reserve.new.self c.carries.new.digits size) ∙ more in
    ap number_of e ∙ (one-more c.self.inside.digits.items c.self.invariant).0 ∙ ap (λ n. n + 1) c.self.view_is

pub returns-else-carries-clause-ok : goal.returns-else-carries-clause-ok
returns-else-carries-clause-ok c =
    let size : length c.carries.new.digits ≡ c.reserve.new.self.len = search rules in
    let same : c.as_mut_slice.result.now ≡ c.self.inside.digits.items = search rules in
    let more = sym (ap (λ b. carried b c.carries.new.digits) c.if-carries.false) ∙ c.carries.ensures ∙ ap one_greater same in
    let e = with_items_is c.reserve.new.self c.carries.new.digits size ∙ more in
    ap number_of e ∙ (one-more c.self.inside.digits.items c.self.invariant).0 ∙ ap (λ n. n + 1) c.self.view_is
