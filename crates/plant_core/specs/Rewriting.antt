-- The called address as it leaves (Q.714, 2.4).
use Rattle.std.specs.Prelude.{ℕ, List, Option, Some, None, Ok, Err}
use Rattle.std.specs.declared.result.Result.{Result}
use Rattle.sccp_address.specs.Form.{Form}
use Rattle.sccp_address.specs.Parsing.{address_of}
use Rattle.sccp_address.specs.Spelling.{address_spelling}
use Rattle.sccp_address.specs.declared.address.AddressFault.{AddressFault}
use Rattle.plant_core.specs.declared.answer.Rewrite.{Rewrite}
use Rattle.plant_core.specs.declared.answer.Rewrite.TheVariants.{Keep, Set}

-- the number that a row names, else the one that is there
abbrev pub taken_ssn : Option ℕ → Option ℕ → Option ℕ
taken_ssn None there = there
taken_ssn (Some ssn) there = Some ssn

-- a translated address keeps its title and loses its point code
abbrev pub address_after : Form → Rewrite → Form
address_after a Keep = a
address_after a (Set ssn on_ssn) = record { point = None; ssn = taken_ssn ssn a.ssn; title = a.title; on_ssn = on_ssn }

-- the octets of a called address as it goes on; those that are no address stay as they are
abbrev pub onward_by : Result Form AddressFault → Rewrite → List ℕ → List ℕ
onward_by (Ok a) rewrite octets = address_spelling (address_after a rewrite)
onward_by (Err fault) rewrite octets = octets

unfoldable pub called_onward : Rewrite → List ℕ → List ℕ
called_onward rewrite octets = onward_by (address_of octets) rewrite octets
