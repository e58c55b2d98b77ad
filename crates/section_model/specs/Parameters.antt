-- What a connection looks at in a message.
use Rattle.std.specs.Prelude.{ℕ, ◌/◌, ◌%◌, ◌==◌, Bool, false, List, [], slice_index, Option, Some, None, Ok, Err}
use Rattle.std.specs.declared.result.Result.{Result}
use Rattle.relay_base.specs.declared.words.ReadFault.{ReadFault}
use Rattle.q713_codec.specs.Names.{Message}
use Rattle.q713_codec.specs.declared.message.Message.TheVariants.{Cc, Cref, Rlsd, Rlc, Dt1, Dt2, Ak, Ed, Ea, Rsr, Rsc, Err as Error, It}
use Rattle.q713_codec.specs.Messages.{protocol_class}
use Rattle.q713_codec.specs.Reading.{reading_of}
use Rattle.section_model.specs.declared.cell.Occasion.{Occasion}
use Rattle.section_model.specs.declared.cell.Occasion.TheVariants as on

-- The parameters of a message for a connection (Q.713, 3); 0, none and no octets stand for those that its type lacks.
pub record Parameters : Type 0 where
  pub dlr : ℕ
  pub slr : ℕ
  pub class : ℕ
  pub cause : ℕ
  pub credit : Option ℕ
  pub called : Option (List ℕ)
  pub body : Option (List ℕ)
  pub importance : Option ℕ
  pub data_octets : List ℕ
  pub more : Bool
  pub ps : ℕ
  pub pr : ℕ

abbrev pub only_dlr : ℕ → Parameters
only_dlr dlr = record { dlr = dlr; slr = 0; class = 0; cause = 0; credit = None; called = None; body = None; importance = None; data_octets = []; more = false; ps = 0; pr = 0 }

-- the flag M (Q.713, 3.7 and 3.9) and the sequence numbers (3.8 and 3.9) in their octets
abbrev pub more_in : ℕ → Bool
more_in octet = octet % 2 == 1

abbrev pub number_in : ℕ → ℕ
number_in octet = octet / 2

-- a message for a connection: what it is to a section, and its parameters
pub record Arrival : Type 0 where
  pub occasion : Occasion
  pub parameters : Parameters

abbrev arrival : Occasion → Parameters → Option Arrival
arrival o p = Some (record { occasion = o; parameters = p })

-- the message for a connection that a message is: none where it is CR or one of the connectionless service
unfoldable pub arrival_of : Message → Option Arrival
arrival_of (Cc dlr slr class credit called body importance) = arrival on.Cc (record (only_dlr dlr) { slr = slr; class = protocol_class class; credit = credit; called = called; body = body; importance = importance })
arrival_of (Cref dlr cause called body importance) = arrival on.Cref (record (only_dlr dlr) { cause = cause; called = called; body = body; importance = importance })
arrival_of (Rlsd dlr slr cause body importance) = arrival on.Rlsd (record (only_dlr dlr) { slr = slr; cause = cause; body = body; importance = importance })
arrival_of (Rlc dlr slr) = arrival on.Rlc (record (only_dlr dlr) { slr = slr })
arrival_of (Dt1 dlr segmenting body) = arrival on.Dt1 (record (only_dlr dlr) { data_octets = body; more = more_in segmenting })
arrival_of (Dt2 dlr sequencing body) = arrival on.Dt2 (record (only_dlr dlr) {
  data_octets = body;
  more = more_in (slice_index sequencing 1);
  ps = number_in (slice_index sequencing 0);
  pr = number_in (slice_index sequencing 1);
})
arrival_of (Ak dlr receive credit) = arrival on.Ak (record (only_dlr dlr) { pr = number_in receive; credit = Some credit })
arrival_of (Ed dlr body) = arrival on.Ed (record (only_dlr dlr) { data_octets = body })
arrival_of (Ea dlr) = arrival on.Ea (only_dlr dlr)
arrival_of (Rsr dlr slr cause) = arrival on.Rsr (record (only_dlr dlr) { slr = slr; cause = cause })
arrival_of (Rsc dlr slr) = arrival on.Rsc (record (only_dlr dlr) { slr = slr })
arrival_of (Error dlr cause) = arrival on.Err (record (only_dlr dlr) { cause = cause })
arrival_of (It dlr slr class sequencing credit) = arrival on.It (record (only_dlr dlr) { slr = slr; class = protocol_class class })
arrival_of _ = None

abbrev pub arrival_by : Result Message ReadFault → Option Arrival
arrival_by (Ok message) = arrival_of message
arrival_by (Err fault) = None

-- the message for a connection that octets are, if they are one
unfoldable pub arrival_in : List ℕ → Option Arrival
arrival_in bytes = arrival_by (reading_of bytes)
