use Rattle.std.proofs.Common.{◌∙◌, [], refl, rules}
use Rattle.journal_form.specs.Inner.Seen.{seen_parts}
use Rattle.journal_form.proofs.LaneLemmas.{front_here, HasLane-read}
use Rattle.journal_form.proofs.parts.read_lane.Goals as goal

pub returns-then-ne-clause-fault : goal.returns-then-ne-clause-fault
returns-then-ne-clause-fault c = (refl, front_here c.args.lines.now c.args.at (record { ref_ptr = (0, 0); now = [] }) c.args.name.now c.if-at-lines.false ∙ search rules)

pub returns-clause-lane : goal.returns-clause-lane
returns-clause-lane c =
    let read = c.in_ok-entries.ensures in
    HasLane-read c.args.lines.now c.args.at (record { ref_ptr = (0, 0); now = [] }) c.args.name.now (seen_parts c.in_ok-entries.entries.items) c.in_ok-entries.next c.if-at-lines.false (search rules) read.entries read.place read.within read.end
