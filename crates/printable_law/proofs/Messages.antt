-- The law of messages.
use Rattle.std.proofs.Common.{Ok, Err}
use Rattle.std.specs.Prelude.{IfOk, IfErr}
use Rattle.std.specs.declared.result.Result.{Result}
use Rattle.relay_base.specs.declared.words.ReadFault.{ReadFault}
use Rattle.q713_codec.specs.Reading.{reading_of}
use Rattle.printable_law.specs.OctetLaw.{IsSmallFault, HasOctets, MessagesHaveOctets}
use Rattle.printable_law.proofs.Reading.{ReadsAs, octets-read}
use Rattle.printable_law.proofs.Spelling.{spelling-octets}

if-ok : {A : Type 0} (P : A → Type 0) (r : Result A ReadFault) → ReadsAs P r → IfOk r P
if-ok P (Ok x) reads = reads
if-ok P (Err fault) reads = tt

if-fault : {A : Type 0} (P : A → Type 0) (r : Result A ReadFault) → ReadsAs P r → IfErr r IsSmallFault
if-fault P (Ok x) reads = tt
if-fault P (Err fault) reads = reads

pub messages_have_octets : MessagesHaveOctets
messages_have_octets = record {
  read = λ octets are. if-ok HasOctets (reading_of octets) (octets-read octets are);
  faults = λ octets are. if-fault HasOctets (reading_of octets) (octets-read octets are);
  written = spelling-octets;
}
