use Rattle.std.proofs.Common.{[], ◌∷◌, ◌++◌, All, ◌∙◌, arith}
use Rattle.std.proofs.lemmas.Grind.{common_steps}
use Rattle.std.proofs.lemmas.List.Elements.{All-push}
use Rattle.gtt_editions.specs.Standing.{IsNewPlace}
use Rattle.gtt_editions.proofs.open.editions.Goals as goal

pub loop-preserved : goal.loop-preserved
loop-preserved g c =
    let kept = c.place.ensures.kept in
    let all : All (IsNewPlace c.loop.publisher) (c.loop.list.items ++ c.place.result ∷ []) =
    All-push (IsNewPlace c.loop.publisher) c.loop.list.items c.place.result c.loop.invariant.2 c.place.ensures.place in
    (kept ∙ c.loop.invariant.0, grind (arith, common_steps), rw (kept, (c.in_ok-push.ensures {u = tt}).items) all)
