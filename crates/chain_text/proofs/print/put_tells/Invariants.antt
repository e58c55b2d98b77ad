use Rattle.std.proofs.Common.{◌≡◌, ◌++◌, drop}
use Rattle.chain_text.specs.Print.{tells_text}
use Rattle.chain_text.proofs.print.put_tells.Given as goal

-- the text so far, and that of what is left
abbrev pub invariant-loop-node : goal.invariant-loop-node
invariant-loop-node l = l.text ++ tells_text l.line (drop l.node-index l.tells) ≡ l.initial.text ++ tells_text l.line l.tells
