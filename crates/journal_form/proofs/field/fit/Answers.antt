use Rattle.std.proofs.Common.{sym}
use Rattle.std.proofs.lemmas.List.{length-map}
use Rattle.journal_form.specs.Inner.Seen.{texts, seen_shape}
use Rattle.journal_form.proofs.FieldLemmas.{fit_unlike}
use Rattle.journal_form.proofs.field.fit.Goals as goal

pub returns-then-fields-words : goal.returns-then-fields-words
returns-then-fields-words c = sym (fit_unlike (seen_shape c.args.fields.now) (texts c.args.words.now) (simp length-map c.if-fields-words.true))
