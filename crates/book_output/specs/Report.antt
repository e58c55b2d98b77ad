-- What is written of a book.
use Rattle.std.specs.Prelude.{ℕ, ◌++◌, codes, List}
use Rattle.journal_text.specs.declared.book.Book.{Book}
use Rattle.capture_generator.specs.Counts.{counts_text}
use Rattle.book_output.specs.Sending.{sent_frames}
use Rattle.book_output.specs.Print.{print_of}
use Rattle.book_output.specs.declared.report.Report.{Report}
use Rattle.book_output.specs.declared.report.Report.TheVariants.{Print, Counts, Frames}

abbrev pub report_text : Report → Book → List ℕ
report_text Print book = print_of book
report_text (Counts lines) book = counts_text lines book ++ codes "\n"
report_text (Frames own) book = sent_frames own book
