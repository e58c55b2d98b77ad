use Rattle.std.proofs.Common.{◌≡◌, ◌∙◌, subst}
use Rattle.std.specs.Prelude.{IfOk, List, ℕ}
use Rattle.q713_codec.specs.Writing.{spelling_of}
use Rattle.q713_codec.proofs.Arms.{is_in_range-written, spelling_of-written}
use Rattle.q713_codec.proofs.ReadBack.{read_back-spelled}
use Rattle.q713_codec.proofs.writing.write.Goals as goal

pub put-requires : goal.put-requires
put-requires c = is_in_range-written c.args.message.now _ _ (c.layout.ensures.format ∙ c.written.ensures.format) (c.layout.ensures.values ∙ c.written.ensures.values) ∙ c.requires

octets : (c : goal.After-put) → IfOk c.put.result (λ o. o ≡ spelling_of c.args.message.now)
octets c = subst (λ (s : List ℕ). IfOk c.put.result (λ o. o ≡ s)) (spelling_of-written c.args.message.now _ _ (c.layout.ensures.format ∙ c.written.ensures.format) (c.layout.ensures.values ∙ c.written.ensures.values)) c.put.ensures

pub returns-clause-octets : goal.returns-clause-octets
returns-clause-octets c = octets c

pub returns-clause-read_back : goal.returns-clause-read_back
returns-clause-read_back c = read_back-spelled c.args.message.now c.put.result c.written.ensures.types c.requires (octets c)
