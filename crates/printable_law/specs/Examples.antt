-- Texts for examples.
use Rattle.std.specs.Prelude.{ℕ, List, Option}
use Rattle.std.specs.Fmt.{digits}
use Rattle.journal_form.specs.Outputs.{told_shapes, lost_shapes, is_output, is_output_line}
use Rattle.journal_form.specs.Headings.{heading_of}
use Rattle.journal_form.specs.Form.{lane_lines, form_fault}

-- the first line that breaks the form of a journal with one connection lane and one data lane. A proof that unfolds this unfolds all that it computes with.
unfoldable pub fault : List ℕ → Option ℕ
unfolding form_fault lane_lines heading_of is_output_line is_output told_shapes lost_shapes digits
fault text = form_fault (lane_lines 1 1) text
