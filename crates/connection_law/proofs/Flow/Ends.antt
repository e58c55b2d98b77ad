-- Facts on two ends.
use Rattle.std.proofs.Common.{sym}
use Rattle.section_model.specs.Ends.{End, wire, owner, Connection, turned}
use Rattle.connection_law.specs.InStep.{Stage, asked, asking, connected, over, Meets, stage_at, IsInStep, ResetIsAwaited}

meets_back : (s t : Stage) → Meets s t → Meets t s
meets_back asked asking m = m
meets_back asked _ m = m
meets_back asking asked m = m
meets_back asking _ m = m
meets_back connected connected m = m
meets_back connected _ m = m
meets_back over over m = m
meets_back over _ m = m

pub awaited_back : (a b : End) → ResetIsAwaited a b → ResetIsAwaited b a
awaited_back (wire x) (owner u) r = r
awaited_back (wire x) (wire y) r = r
awaited_back (owner u) (wire x) r = r
awaited_back (owner u) (owner v) r = r

-- seen from the other end
pub kept_back : (c : Connection) → IsInStep c → IsInStep (turned c)
kept_back c k = (
  meets_back (stage_at c.this) (stage_at c.that) k.0,
  sym k.1,
  (k.2.1, k.2.0),
  (k.3.1, k.3.0),
  λ three. let f = k.4 (rw k.1 three) in (awaited_back c.this c.that f.0, f.2, f.1),
  λ two. let f = k.5 (rw k.1 two) in (f.1, f.0),
)
