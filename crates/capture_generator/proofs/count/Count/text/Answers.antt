use Rattle.std.proofs.Common.{◌≡◌, ◌∙◌, ◌+◌, ◌<◌, ◌++◌, length, map, sym, ap, ap₂, string_bytes, rules}
use Rattle.std.specs.Fmt.{decimal}
use Rattle.std.proofs.lemmas.List.{map_push}
use Rattle.std.proofs.lemmas.Simd.{map-map}
use Rattle.std.proofs.lemmas.Iterator.Adapters.{YieldsList-from_rev_slice}
use Rattle.std.proofs.lemmas.Iterator.Consumers.{YieldsList-turn, YieldsList-end}
use Rattle.capture_generator.specs.Counts.{whole}
use Rattle.capture_generator.proofs.DigitLemmas.{whole-some, written-digit}
use Rattle.capture_generator.proofs.count.Count.text.Goals as goal

pub loop-digit-preserved : goal.loop-digit-preserved
loop-digit-preserved c =
    let digits = c.self.inside.digits.items in
    let list = YieldsList-from_rev_slice {s = c.into_iter-digit-iterator.result} digits (search rules) in
    let turn = YieldsList-turn list c.loop-digit.yielded _ c.loop-digit.yielded_by _ _ c.in-Some.digit c.in-Some.is c.next.ensures.steps in
    let glyph = written-digit digits (length c.loop-digit.yielded) c.in-Some.digit.now c.self.invariant turn in
    let wrote : string_bytes c.write.new.self ≡ string_bytes c.loop-digit.text ++ decimal c.in-Some.digit.now = search rules in
    wrote ∙ ap₂ (λ l r. l ++ r) c.loop-digit.invariant glyph
    ∙ sym (map_push (λ digit. 48 + digit.now) c.loop-digit.yielded c.in-Some.digit)

pub returns : goal.returns
returns c =
    let digits = c.self.inside.digits.items in
    let list = YieldsList-from_rev_slice {s = c.into_iter-digit-iterator.result} digits (search rules) in
    let all = YieldsList-end list c.loop-digit.yielded _ c.loop-digit.yielded_by _ _ c.in-None.is c.next.ensures.steps in
    let some : 0 < length digits = search rules in
    c.loop-digit.invariant ∙ sym (map-map (λ digit. 48 + digit) (λ digit. digit.now) c.loop-digit.yielded)
    ∙ ap (map (λ digit. 48 + digit)) all.0
    ∙ sym (whole-some digits c.self.invariant some) ∙ ap whole c.self.view_is
