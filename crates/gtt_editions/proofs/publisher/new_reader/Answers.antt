use Rattle.gtt_editions.proofs.RuleKeeps.{admits}
use Rattle.gtt_editions.proofs.publisher.new_reader.Goals as goal

pub reader-requires : goal.reader-requires
reader-requires g c = admits
