-- An entry of a legal journal is a legal one after those before it.
use Rattle.std.proofs.Common.{[], ◌∷◌}
use Rattle.section_model.specs.Lane.{IsLegalEntry}
use Rattle.lane_law.proofs.Splitting.{splits}
use Rattle.lane_law.specs.SideBySide.{Moment, openings_at, IsLegal}

pub entry_is_legal : (m : Moment) → IsLegal m → IsLegalEntry m.lane (openings_at m) m.entry
entry_is_legal m legal = ((splits m.lane [] m.before (m.entry ∷ m.since)).0 legal).1.0
