use Rattle.std.proofs.Common.{codes, sym, ap, rules}
use Rattle.std.proofs.lemmas.Slice.Eq.{text_from_reads}
use Rattle.capture_form.specs.Requests.{naming_form}
use Rattle.capture_form.proofs.requests.RequestForm.of_naming.Goals as goal

pub returns-in-accept : goal.returns-in-accept
returns-in-accept c = ap naming_form (sym (text_from_reads c.args.word.now (codes "accept") (search rules) (search rules)))

pub returns-in-refuse : goal.returns-in-refuse
returns-in-refuse c = ap naming_form (sym (text_from_reads c.args.word.now (codes "refuse") (search rules) (search rules)))

pub returns-in-send : goal.returns-in-send
returns-in-send c = ap naming_form (sym (text_from_reads c.args.word.now (codes "send") (search rules) (search rules)))

pub returns-in-ed : goal.returns-in-ed
returns-in-ed c = ap naming_form (sym (text_from_reads c.args.word.now (codes "ed") (search rules) (search rules)))

pub returns-in-reset : goal.returns-in-reset
returns-in-reset c = ap naming_form (sym (text_from_reads c.args.word.now (codes "reset") (search rules) (search rules)))

pub returns-in-disc : goal.returns-in-disc
returns-in-disc c = ap naming_form (sym (text_from_reads c.args.word.now (codes "disc") (search rules) (search rules)))
