use Rattle.book_output.proofs.WritingLemmas.{print_is_written}
use Rattle.book_output.proofs.report.write_report.Goals as goal

pub returns-in-Print-clause-ok : goal.returns-in-Print-clause-ok
returns-in-Print-clause-ok g c = rw (c.in-Print.is, print_is_written c.args.book.now) c.write_book.ensures.ok

pub returns-in-Print-clause-err : goal.returns-in-Print-clause-err
returns-in-Print-clause-err g c = rw (c.in-Print.is, print_is_written c.args.book.now) c.write_book.ensures.err
