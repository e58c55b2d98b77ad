use Rattle.std.proofs.Common.{codes, sym, ap, rules}
use Rattle.std.proofs.lemmas.Slice.Eq.{text_from_reads}
use Rattle.capture_form.specs.Requests.{form_of}
use Rattle.capture_form.proofs.requests.RequestForm.of.Goals as goal

pub returns-in-unit : goal.returns-in-unit
returns-in-unit c = ap form_of (sym (text_from_reads c.args.word.now (codes "unit") (search rules) (search rules)))

pub returns-in-conn : goal.returns-in-conn
returns-in-conn c = ap form_of (sym (text_from_reads c.args.word.now (codes "conn") (search rules) (search rules)))

pub returns-in-coord : goal.returns-in-coord
returns-in-coord c = ap form_of (sym (text_from_reads c.args.word.now (codes "coord") (search rules) (search rules)))

pub returns-in-grant : goal.returns-in-grant
returns-in-grant c = ap form_of (sym (text_from_reads c.args.word.now (codes "grant") (search rules) (search rules)))
