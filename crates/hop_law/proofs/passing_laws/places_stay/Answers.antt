use Rattle.hop_law.proofs.Placing.{places_stay}
use Rattle.hop_law.proofs.passing_laws.places_stay.Goals as goal

pub returns : goal.returns
returns c = places_stay
