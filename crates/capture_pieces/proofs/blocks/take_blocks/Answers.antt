use Rattle.std.proofs.Common.{◌≡◌, ◌∷◌, Ok, ap, subst, ◌∙◌, arith, rules}
use Rattle.std.proofs.lemmas.List.{nil_from_length}
use Rattle.std.specs.List.{AllByRecursion}
use Rattle.capture_form.specs.Capture.{fault_in}
use Rattle.capture_pieces.specs.Inner.Blocks.{IsBlock, lines_in}
use Rattle.capture_pieces.proofs.BlockLemmas.{Left, left-next, left-none, left-refused, lines-more, lines-none}
use Rattle.capture_pieces.proofs.blocks.take_blocks.Goals as goal

pub take_part-requires-clause-few : goal.take_part-requires-clause-few
take_part-requires-clause-few c =
    let part = c.in_ok-block.field-0 in
    let more = c.next.new.self.rest.items in
    let here : c.loop-block.block-iterator.rest.items ≡ Ok part ∷ more = c.in-Some.ensures.steps.0 ∙ ap (λ b. b ∷ more) c.in_ok-block.was in
    omega (arith, c.requires.few, c.loop-block.invariant.few, ap lines_in here, lines-more (Ok part) more)

pub loop-block-preserved : goal.loop-block-preserved
loop-block-preserved c =
    let head = c.args.head.now in
    let start = c.args.progress in
    let old = c.loop-block.progress in
    let new = c.take_part.new.progress in
    let part = c.in_ok-block.field-0 in
    let more = c.next.new.self.rest.items in
    let here : c.loop-block.block-iterator.rest.items ≡ Ok part ∷ more = c.in-Some.ensures.steps.0 ∙ ap (λ b. b ∷ more) c.in_ok-block.was in
    record {
      left = λ octets says. left-next head start old new octets part more (subst (Left head start octets old) here (c.loop-block.invariant.left octets says)) c.in_ok-take_part.ensures.value;
      blocks = (subst (AllByRecursion (IsBlock head)) here c.loop-block.invariant.blocks).1;
      few = omega (arith, c.in_ok-take_part.ensures.number, c.loop-block.invariant.few, ap lines_in here, lines-more (Ok part) more);
      links = c.in_ok-take_part.ensures.links;
    }

pub returns-in_err-take_part-clause-value : goal.returns-in_err-take_part-clause-value
returns-in_err-take_part-clause-value c = λ octets says.
    let head = c.args.head.now in
    let part = c.in_ok-block.field-0 in
    let more = c.next.new.self.rest.items in
    let here : c.loop-block.block-iterator.rest.items ≡ Ok part ∷ more = c.in-Some.ensures.steps.0 ∙ ap (λ b. b ∷ more) c.in_ok-block.was in
    let left = subst (Left head c.args.progress octets c.loop-block.progress) here (c.loop-block.invariant.left octets says) in
    let refused = left-refused head c.args.progress c.loop-block.progress octets part more (fault_in c.in_err-take_part.field-0.0) left c.in_err-take_part.ensures.value in
    search (rules, refused)

pub returns-clause-value : goal.returns-clause-value
returns-clause-value c = λ octets says.
    let none = nil_from_length c.loop-block.block-iterator.rest.items (omega (arith, c.loop-block.block-iterator.rest.ok, c.in-None.ensures.steps)) in
    left-none c.args.head.now c.args.progress c.loop-block.progress octets c.loop-block.block-iterator.rest.items none (c.loop-block.invariant.left octets says)

pub returns-clause-number : goal.returns-clause-number
returns-clause-number c =
    let none = nil_from_length c.loop-block.block-iterator.rest.items (omega (arith, c.loop-block.block-iterator.rest.ok, c.in-None.ensures.steps)) in
    omega (arith, c.loop-block.invariant.few, lines-none c.loop-block.block-iterator.rest.items none)
