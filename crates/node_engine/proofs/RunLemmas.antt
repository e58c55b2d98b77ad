-- The lanes of a node take one phase after another.
use Rattle.std.proofs.Common.{◌≡◌, ℕ, ◌+◌, ◌<◌, List, [], ◌∷◌, ◌++◌, length, subst, arith, length-append}
use Rattle.plant_core.specs.declared.entry.Entry.{Entry}
use Rattle.plant_core.specs.declared.entry.ControlEntry.{ControlEntry}
use Rattle.plant_core.specs.declared.entry.ControlEvent.TheVariants.{Plain}
use Rattle.node_head.specs.declared.head.Head.{Head}
use Rattle.capture_form.specs.Events.{Stamped, phase_events, all_events, AreOfPhases}
use Rattle.node_engine.specs.declared.node.Node.{Node}
use Rattle.right_book.specs.Placed.{in_control}
use Rattle.right_book.specs.Lanes.{conn_kind}
use Rattle.node_engine.specs.Running.{CanTake, HasRoom, LaneTook, Went, conn_journals}
use Rattle.link_threads.proofs.PairLemmas.{pairs-all}
use Rattle.node_engine.proofs.LinkLemmas.{took-length}

-- ---- what is left can be taken

abbrev Bound : ℕ → List Entry → Type 0
Bound events journal = length journal + events < 4294967296

room-left : (head : Head) (lists : List Stamped) (rest : Stamped) (a b : Node) → HasRoom (length (phase_events lists ++ rest)) a → Went head lists a b → HasRoom (length rest) b
room-left head lists rest a b h g =
    let whole : length (phase_events lists ++ rest) ≡ length (phase_events lists) + length rest = length-append (phase_events lists) rest in
    record {
      control = omega (arith, whole, h.control, took-length (λ (e : ControlEntry). (e.stamp, e.event)) in_control head lists a.control.journal b.control.journal g.control);
      conns = pairs-all (Bound (length (phase_events lists ++ rest))) (Bound (length rest)) (LaneTook (conn_kind head) head lists) 0 (conn_journals a.conns.items) (conn_journals b.conns.items)
          (λ k x y p t. omega (arith, whole, p, took-length (λ (e : Entry). (e.stamp, Plain e.event)) ((conn_kind head).is_in k) head lists x y t)) h.conns g.conns;
    }

can-rest : (head : Head) (lists : List Stamped) (rest : Stamped) (a b : Node) → CanTake head (phase_events lists ++ rest) a → Went head lists a b → CanTake head rest b
can-rest head lists rest a b h g = record {
  stated = h.stated;
  lanes = g.lanes;
  room = room-left head lists rest a b h.room g;
}

-- once a phase was taken, those behind it can be
pub can-more : (head : Head) (lists : List Stamped) (more : List (List Stamped)) (a b : Node) → CanTake head (all_events (lists ∷ more)) a → Went head lists a b → CanTake head (all_events more) b
can-more head lists more a b h g = can-rest head lists (all_events more) a b h g

-- ---- the phases of a capture

-- those behind a phase go on from its number
pub phases-behind : (head : Head) (done : List (List Stamped)) (lists : List Stamped) (more : List (List Stamped)) → AreOfPhases head.links (length done + 1) (lists ∷ more) → AreOfPhases head.links (length (done ++ lists ∷ []) + 1) more
phases-behind head done lists more h = subst (λ n. AreOfPhases head.links n more) (omega (arith, length-append done (lists ∷ []))) h.2
