use Rattle.std.proofs.Common.{◌≡◌, ◌++◌}
use Rattle.node_head.specs.Lines.{joined}
use Rattle.m3ua_capture.specs.OneLink.{lines_before, head_text}
use Rattle.m3ua_capture.proofs.text.head_text.Given as goal

-- the text so far, and the lines to come
abbrev pub invariant-loop-line : goal.invariant-loop-line
invariant-loop-line l = l.text.items ++ joined (lines_before l.lines) ≡ head_text l.fn.bytes
