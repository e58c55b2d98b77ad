use Rattle.gtt_editions.specs.Marked.{shown_by}
use Rattle.gtt_editions.proofs.PublishedLemmas.{begins_from}
use Rattle.gtt_editions.proofs.store.Store.begins_with.Goals as goal

pub returns-then-has_beginning : goal.returns-then-has_beginning
returns-then-has_beginning c truth = begins_from (shown_by c.args.self.now) (shown_by c.args.short.now) (c.has_beginning.ensures c.if-has_beginning.true) (c.is_closed_over.ensures truth)
