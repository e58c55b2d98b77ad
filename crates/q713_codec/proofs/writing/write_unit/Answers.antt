use Rattle.std.proofs.Common.{◌∙◌, ap, sym, length, Some}
use Rattle.q713_codec.specs.Reading.{seen}
use Rattle.q713_codec.specs.Writing.{is_within}
use Rattle.q713_codec.proofs.Arms.{is_in_range-written, spelling_of-written, within-not, within-long, within-all}
use Rattle.q713_codec.proofs.writing.write_unit.Goals as goal

pub length-requires : goal.length-requires
length-requires c = sym c.if-not-fits.ensures

pub put-requires : goal.put-requires
put-requires c = sym c.if-not-fits.ensures

pub returns-then-not-fits : goal.returns-then-not-fits
returns-then-not-fits c =
    let message = seen c.args.unit.now in
    within-not _ message (sym (is_in_range-written message _ _ (c.layout-layout.ensures.format ∙ c.unit_lent-written.ensures.format) (c.layout-layout.ensures.values ∙ c.unit_lent-written.ensures.values)) ∙ sym c.if-not-fits.ensures)

pub returns-then-not-is_within : goal.returns-then-not-is_within
returns-then-not-is_within c =
    let message = seen c.args.unit.now in
    let format = c.layout-layout.ensures.format ∙ c.unit_lent-written.ensures.format in
    let values = c.layout-layout.ensures.values ∙ c.unit_lent-written.ensures.values in
    within-long _ message (sym (is_in_range-written message _ _ format values) ∙ sym c.if-not-fits.ensures)
    (ap (is_within c.args.longest) (sym (c.length.ensures ∙ ap length (spelling_of-written message _ _ format values))) ∙ sym c.if-not-is_within.ensures)

pub returns : goal.returns
returns c =
    let message = seen c.args.unit.now in
    let format = c.layout-layout.ensures.format ∙ c.unit_lent-written.ensures.format in
    let values = c.layout-layout.ensures.values ∙ c.unit_lent-written.ensures.values in
    ap Some (c.in_ok-put.ensures ∙ spelling_of-written message _ _ format values)
    ∙ within-all _ message (sym (is_in_range-written message _ _ format values) ∙ sym c.if-not-fits.ensures)
    (ap (is_within c.args.longest) (sym (c.length.ensures ∙ ap length (spelling_of-written message _ _ format values))) ∙ sym c.if-not-is_within.ensures)
