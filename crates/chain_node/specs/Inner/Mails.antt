-- The outputs of an event by where they go.
use Rattle.std.specs.Prelude.{◌≡◌, ℕ, ◌++◌, List}
use Rattle.relay_base.specs.declared.words.Output.{Output}
use Rattle.chain_node.specs.declared.mail.Mail.{Mail}
use Rattle.chain_step.specs.Run.{tells_in, messages_in}

-- these outputs were put to others of node i
pub record IsPut (i next before : ℕ) (outs : List Output) (old new : Mail) : Type 0 where
  pub tells : new.tells.items ≡ old.tells.items ++ tells_in i outs
  pub ahead : new.ahead.items ≡ old.ahead.items ++ messages_in i next outs
  pub back : new.back.items ≡ old.back.items ++ messages_in i before outs
