use Rattle.std.proofs.Common.{◌≡◌, length, ap, arith, rules}
use Rattle.journal_form.specs.Words.{parted}
use Rattle.journal_form.specs.Inner.Seen.{texts}
use Rattle.journal_form.proofs.LaneLemmas.{texts_length}
use Rattle.journal_form.proofs.FormLemmas.{some_piece, few_pieces}
use Rattle.journal_form.proofs.form.read_form.Goals as goal

pub read_pieces-requires-clause-some : goal.read_pieces-requires-clause-some
read_pieces-requires-clause-some c =
    let is : texts c.deref.result.now ≡ parted 10 c.args.text.now = search rules in
    omega (arith, texts_length c.deref.result.now, ap length is, some_piece 10 c.args.text.now)

pub read_pieces-requires-clause-few : goal.read_pieces-requires-clause-few
read_pieces-requires-clause-few c =
    let is : texts c.deref.result.now ≡ parted 10 c.args.text.now = search rules in
    omega (arith, texts_length c.deref.result.now, ap length is, few_pieces 10 c.args.text.now, c.requires)
