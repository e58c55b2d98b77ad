use Rattle.std.proofs.Common.{◌≡◌, ℕ, ◌≤◌, ◌+◌, true, Bool, ap, ◌∙◌, rules}
use Rattle.std.specs.Prelude.{Some, is_some}
use Rattle.relay_base.specs.declared.words.Event.{Event}
use Rattle.chain_step.specs.Run.{RunState, neighbour, waiting, node_at, taking, after_event}
use Rattle.chain_step.proofs.Running.{other_node, apart}
use Rattle.relay_chain.proofs.nodes.Nodes.carry.Goals as goal

-- it waits still once the neighbour took the event
waits-still : (i : ℕ) (forward : Bool) (e : Event) (r later : RunState) → 1 ≤ i → 1 ≤ neighbour forward i → waiting forward (node_at i r.nodes) ≡ Some e → later ≡ taking (neighbour forward i) e r
    → is_some (waiting forward (node_at i later.nodes)) ≡ true
waits-still i forward e r later least within waits after =
    ap (λ (x : RunState). is_some (waiting forward (node_at i x.nodes))) after
    ∙ (ap (λ node. is_some (waiting forward node)) (other_node i (neighbour forward i) (after_event (r.taken + 1) e) r.nodes (apart forward i least within))
    ∙ ap is_some waits)

pub give-requires-clause-some : goal.give-requires-clause-some
give-requires-clause-some c =
    waits-still c.args.number c.args.forward c.args.message.now c.args.self.now c.take.new.self c.requires.least c.requires.least_next c.requires.waits (search rules)
