use Rattle.q713_codec.proofs.ReadBack.{reads_back}
use Rattle.sccp_address.proofs.SpellingLaw.{spelling_back}
use Rattle.unit_law.proofs.spelling_laws.written_reads_back.Goals as goal

pub returns : goal.returns
returns c = record { messages = reads_back; addresses = spelling_back }
