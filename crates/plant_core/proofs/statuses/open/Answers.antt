use Rattle.std.proofs.Common.{◌<◌, [], length, ap, ◌∙◌, arith}
use Rattle.std.proofs.lemmas.List.{get_or_default}
use Rattle.plant_core.specs.Inner.Members.{marked_from}
use Rattle.plant_core.proofs.MemberLemmas.{same-row}
use Rattle.plant_core.proofs.statuses.open.Goals as goal

pub returns-clause-members : goal.returns-clause-members
returns-clause-members c =
    let rows = c.args.rows.now.items in
    let place = c.number.result in
    let row = c.index_mut.result.now in
    let reaches : place < length rows = omega (arith, c.requires.reaches, c.number.ensures.value) in
    same-row 0 place rows c.begin.new.row
    (c.begin.ensures.members ∙ ap (marked_from 0) (c.index_mut.ensures.value ∙ get_or_default rows place row [] reaches))
