-- The report of a book that a command writes.
use Rattle.node_head.specs.declared.head.Head.{Head}
use Rattle.book_output.specs.declared.report.Report.{Report}
use Rattle.book_output.specs.declared.report.Report.TheVariants as report
use Rattle.command_words.specs.declared.command.Command.{Command}
use Rattle.command_words.specs.declared.command.Command.TheVariants.{Generate, Frames}

abbrev pub report_of : Command → Head → Report
report_of (Generate number lines) head = report.Counts lines
report_of Frames head = report.Frames head.point
report_of _ head = report.Print
