use Rattle.std.proofs.Common.{◌≡◌, ◌-◌, suc, zero, nat_eq, take, arith, subst, sym, ap, ◌∙◌}
use Rattle.std.specs.List.{common_prefix_len}
use Rattle.std.proofs.lemmas.List.{length-take-le}
use Rattle.std.proofs.lemmas.List.Sums.{common_prefix_len-le}
use Rattle.gtt_table.specs.Translation.{longest_match}
use Rattle.gtt_table.proofs.UptoLemmas.{AreUpto, none_upto, other_upto, last_upto, shared_upto}
use Rattle.gtt_table.proofs.search.+longest_match.Goals as goal

pub returns-then-upto-eq0 : goal.returns-then-upto-eq0
returns-then-upto-eq0 t c =
    let none : c.rows_upto-upto.result ≡ zero = omega (arith, c.if-upto-eq0.true) in
    sym (none_upto c.args.selector.now c.args.digits.now c.args.rows.now
    (subst (AreUpto c.args.selector.now c.args.digits.now c.args.rows.now) none c.rows_upto-upto.ensures.parted))

pub returns-then-not-has_selector : goal.returns-then-not-has_selector
returns-then-not-has_selector t c =
    let upto = c.rows_upto-upto.result in
    let some : upto ≡ suc (upto - 1) = omega (arith, c.if-upto-eq0.false) in
    sym (other_upto c.args.selector.now c.args.digits.now c.args.rows.now (upto - 1) c.index-rows-upto.result c.requires
    (omega (arith, some, c.rows_upto-upto.ensures.bound))
    (subst (AreUpto c.args.selector.now c.args.digits.now c.args.rows.now) some c.rows_upto-upto.ensures.parted)
    c.index-rows-upto.is (sym c.has_selector.ensures ∙ c.if-not-has_selector.true))

pub returns-then-shared-len : goal.returns-then-shared-len
returns-then-shared-len t c =
    let upto = c.rows_upto-upto.result in
    let last = c.index-rows-upto.result in
    let some : upto ≡ suc (upto - 1) = omega (arith, c.if-upto-eq0.false) in
    let shared : c.shared_digits-shared.result ≡ common_prefix_len nat_eq last.prefix c.args.digits.now =
    c.shared_digits-shared.ensures ∙ ap (λ p. common_prefix_len nat_eq p c.args.digits.now) c.as_slice.ensures.value in
    sym (last_upto c.args.selector.now c.args.digits.now c.args.rows.now (upto - 1) last c.requires
    (omega (arith, some, c.rows_upto-upto.ensures.bound))
    (subst (AreUpto c.args.selector.now c.args.digits.now c.args.rows.now) some c.rows_upto-upto.ensures.parted)
    c.index-rows-upto.is (sym c.has_selector.ensures ∙ c.if-not-has_selector.false) (omega (arith, shared, c.if-shared-len.true, c.len.ensures.value)))

pub slice_bounds-longest_match-end : goal.slice_bounds-longest_match-end
slice_bounds-longest_match-end t c =
    let last = c.index-rows-upto.result in
    let shared : c.shared_digits-shared.result ≡ common_prefix_len nat_eq last.prefix c.args.digits.now =
    c.shared_digits-shared.ensures ∙ ap (λ p. common_prefix_len nat_eq p c.args.digits.now) c.as_slice.ensures.value in
    sym (length-take-le c.shared_digits-shared.result c.args.digits.now (omega (arith, shared, (common_prefix_len-le nat_eq last.prefix c.args.digits.now).1)))

pub returns : goal.returns
returns t c =
    let upto = c.rows_upto-upto.result in
    let last = c.index-rows-upto.result in
    let some : upto ≡ suc (upto - 1) = omega (arith, c.if-upto-eq0.false) in
    let shared : c.shared_digits-shared.result ≡ common_prefix_len nat_eq last.prefix c.args.digits.now =
    c.shared_digits-shared.ensures ∙ ap (λ p. common_prefix_len nat_eq p c.args.digits.now) c.as_slice.ensures.value in
    c.longest_match.ensures
    ∙ ap (λ n. longest_match c.args.selector.now (take n c.args.digits.now) (take (upto - 1) c.args.rows.now)) shared
    ∙ sym (shared_upto c.args.selector.now c.args.digits.now c.args.rows.now (upto - 1) last c.requires
    (omega (arith, some, c.rows_upto-upto.ensures.bound))
    (subst (AreUpto c.args.selector.now c.args.digits.now c.args.rows.now) some c.rows_upto-upto.ensures.parted)
    c.index-rows-upto.is (omega (arith, shared, c.if-shared-len.false, c.len.ensures.value, (common_prefix_len-le nat_eq last.prefix c.args.digits.now).0)))
