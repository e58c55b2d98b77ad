-- Messages of management keep to the ranges.
use Rattle.std.proofs.Common.{ℕ, nat_lt, List, length, slice_index, Option, Some, None, Ok, Err, arith}
use Rattle.std.specs.Prelude.{IfSome, option_map}
use Rattle.std.specs.declared.result.Result.{Result}
use Rattle.relay_base.specs.declared.words.ReadFault.{ReadFault}
use Rattle.q713_codec.specs.Names.{Message}
use Rattle.q713_codec.specs.declared.longest.TheConstants.{LONGEST}
use Rattle.q713_codec.specs.declared.message.Message.TheVariants.{Udt}
use Rattle.q713_codec.specs.Reading.{reading_of}
use Rattle.scmg_messages.specs.declared.message.Format.{Format}
use Rattle.scmg_messages.specs.declared.message.Format.TheVariants.{Allowed, Prohibited, StatusTest, OutOfServiceRequest, OutOfServiceGrant}
use Rattle.scmg_messages.specs.Messages.{code_of, management, data_of, octets_of, sent, status_outputs, format_of, notice_by, notice_in, is_for_management, data_by, data_in}
use Rattle.printable_law.specs.OctetLaw.{IsOctet, AreOctets, HasOctets}
use Rattle.printable_law.specs.Ranges.{IsPoint, IsSelection, NoticeInRange, OutputInRange, OutputsInRange, ManagementKeepsRanges}
use Rattle.printable_law.proofs.Lists.{either, octet-at}
use Rattle.printable_law.proofs.Reading.{ReadsAs, octets-read}
use Rattle.printable_law.proofs.Spelling.{spelling-octets}

-- Writing.

code-small : (format : Format) → IsOctet (code_of format)
code-small Allowed = omega arith
code-small Prohibited = omega arith
code-small StatusTest = omega arith
code-small OutOfServiceRequest = omega arith
code-small OutOfServiceGrant = omega arith

octets-written : (format : Format) (ssn point : ℕ) → IsOctet ssn → IsPoint point → AreOctets (octets_of format ssn point)
octets-written format ssn point s p =
    let address : AreOctets management = (omega arith, (omega arith, tt)) in
    spelling-octets (Udt 0 management management (data_of format ssn point))
    (omega arith, address, address, (code-small format, (s, (omega arith, (omega (arith, p), (omega arith, tt))))))

management-sent : (to : ℕ) (format : Format) (ssn point : ℕ) → IsPoint to → IsOctet ssn → IsPoint point → OutputInRange (sent to format ssn point)
management-sent to format ssn point t s p = (t, omega arith, octets-written format ssn point s p)

status-told : (own opc sls : ℕ) (local : Option ℕ) → IsPoint own → IsPoint opc → IsSelection sls → IfSome local IsOctet → OutputsInRange (status_outputs own opc sls local)
unfolding status_outputs
status-told own opc sls None o p s small = tt
status-told own opc sls (Some ssn) o p s small = ((p, s, octets-written Prohibited ssn own small o), tt)

-- Reading.

abbrev IsData : Option (List ℕ) → Type 0
IsData octets = IfSome octets AreOctets

data-read : (r : Result Message ReadFault) → ReadsAs HasOctets r → IsData (data_by r)
data-read (Err fault) reads = tt
data-read (Ok (Udt class called calling body)) reads = either IsData (is_for_management called) (Some body) None reads.3 tt
data-read (Ok _) reads = tt

data-heard : (octets : List ℕ) → AreOctets octets → IsData (data_in octets)
unfolding data_in
data-heard octets are = either IsData (nat_lt LONGEST (length octets)) None (data_by (reading_of octets)) tt (data-read (reading_of octets) (octets-read octets are))

notice-by : (octets : List ℕ) (format : Option Format) → AreOctets octets → IfSome (option_map (notice_by octets) format) NoticeInRange
notice-by octets None are = tt
notice-by octets (Some format) are = (octet-at octets 1 are, omega arith)

notice-read : (octets : List ℕ) → AreOctets octets → IfSome (notice_in octets) NoticeInRange
notice-read octets are =
    either (λ n. IfSome n NoticeInRange) (nat_lt (length octets) 5) None (option_map (notice_by octets) (format_of (slice_index octets 0))) tt
    (notice-by octets (format_of (slice_index octets 0)) are)

pub management_keeps_ranges : ManagementKeepsRanges
management_keeps_ranges = record { sent = management-sent; told = status-told; heard = data-heard; noticed = notice-read }
