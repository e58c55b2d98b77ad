use Rattle.unit_law.proofs.Translated.{translated-few}
use Rattle.unit_law.proofs.Segments.{units-few}
use Rattle.unit_law.proofs.segment_laws.segments_are_few.Goals as goal

pub returns : goal.returns
returns c = record { translated = translated-few; units = units-few }
