-- The laws of octets (Q.713): what octets are read as has octets, and what is written of octets are octets.
use Rattle.std.specs.Prelude.{ℕ, ◌<◌, List, IfOk, IfErr, IfSome}
use Rattle.std.specs.List.{AllByRecursion}
use Rattle.relay_base.specs.declared.limits.TheConstants.{DIGIT_VALUES, OCTET_VALUES, POINT_CODES}
use Rattle.relay_base.specs.declared.words.ReadFault.{ReadFault}
use Rattle.relay_base.specs.declared.words.ReadFault.TheVariants as fault
use Rattle.sccp_address.specs.Form.{Form, TitleForm, no_title, bcd, other}
use Rattle.sccp_address.specs.Parsing.{address_of}
use Rattle.sccp_address.specs.Spelling.{address_spelling}
use Rattle.sccp_address.specs.declared.address.Selector.{Selector}
use Rattle.sccp_address.specs.declared.address.TheConstants.{NATURES, NUMBERING_PLANS, TITLE_INDICATORS}
use Rattle.q713_codec.specs.Names.{Message}
use Rattle.q713_codec.specs.declared.message.Message.TheVariants.{Cr, Cc, Cref, Rlsd, Rlc, Dt1, Dt2, Ak, Udt, Udts, Ed, Ea, Rsr, Rsc, Err as Error, It, Xudt, Xudts, Ludt, Ludts}
use Rattle.q713_codec.specs.Reading.{reading_of}
use Rattle.q713_codec.specs.Writing.{spelling_of}
use Rattle.plant_core.specs.declared.answer.Rewrite.{Rewrite}
use Rattle.plant_core.specs.declared.answer.Rewrite.TheVariants.{Keep, Set}
use Rattle.plant_core.specs.Rewriting.{called_onward}

abbrev pub IsOctet : ℕ → Type 0
IsOctet n = n < OCTET_VALUES

abbrev pub AreOctets : List ℕ → Type 0
AreOctets octets = AllByRecursion IsOctet octets

-- ---- messages

-- what a message writes as it is are octets; a reference is written in three of them, whatever it is
abbrev pub HasOctets : Message → Type 0
HasOctets (Cr slr class called credit calling body hop importance) =
    IsOctet class × AreOctets called × IfSome credit IsOctet × IfSome calling AreOctets × IfSome body AreOctets × IfSome hop IsOctet × IfSome importance IsOctet
HasOctets (Cc dlr slr class credit called body importance) =
    IsOctet class × IfSome credit IsOctet × IfSome called AreOctets × IfSome body AreOctets × IfSome importance IsOctet
HasOctets (Cref dlr cause called body importance) = IsOctet cause × IfSome called AreOctets × IfSome body AreOctets × IfSome importance IsOctet
HasOctets (Rlsd dlr slr cause body importance) = IsOctet cause × IfSome body AreOctets × IfSome importance IsOctet
HasOctets (Rlc dlr slr) = Unit {0}
HasOctets (Dt1 dlr segmenting body) = IsOctet segmenting × AreOctets body
HasOctets (Dt2 dlr sequencing body) = AreOctets sequencing × AreOctets body
HasOctets (Ak dlr receive credit) = IsOctet receive × IsOctet credit
HasOctets (Udt class called calling body) = IsOctet class × AreOctets called × AreOctets calling × AreOctets body
HasOctets (Udts cause called calling body) = IsOctet cause × AreOctets called × AreOctets calling × AreOctets body
HasOctets (Ed dlr body) = AreOctets body
HasOctets (Ea dlr) = Unit {0}
HasOctets (Rsr dlr slr cause) = IsOctet cause
HasOctets (Rsc dlr slr) = Unit {0}
HasOctets (Error dlr cause) = IsOctet cause
HasOctets (It dlr slr class sequencing credit) = IsOctet class × AreOctets sequencing × IsOctet credit
HasOctets (Xudt class hop called calling body segmentation importance) =
    IsOctet class × IsOctet hop × AreOctets called × AreOctets calling × AreOctets body × IfSome segmentation AreOctets × IfSome importance IsOctet
HasOctets (Xudts cause hop called calling body segmentation importance) =
    IsOctet cause × IsOctet hop × AreOctets called × AreOctets calling × AreOctets body × IfSome segmentation AreOctets × IfSome importance IsOctet
HasOctets (Ludt class hop called calling body segmentation importance) =
    IsOctet class × IsOctet hop × AreOctets called × AreOctets calling × AreOctets body × IfSome segmentation AreOctets × IfSome importance IsOctet
HasOctets (Ludts cause hop called calling body segmentation importance) =
    IsOctet cause × IsOctet hop × AreOctets called × AreOctets calling × AreOctets body × IfSome segmentation AreOctets × IfSome importance IsOctet

-- what a fault of reading names: an octet, the place of a pointer, or the name of a parameter
abbrev pub IsSmallFault : ReadFault → Type 0
IsSmallFault fault.Empty = Unit {0}
IsSmallFault (fault.UnknownType octet) = IsOctet octet
IsSmallFault fault.Short = Unit {0}
IsSmallFault (fault.PointerOut place) = place < 65_536
IsSmallFault (fault.ValueLength name) = IsOctet name

pub record MessagesHaveOctets : Type 0 where
  pub read : (octets : List ℕ) → AreOctets octets → IfOk (reading_of octets) HasOctets
  pub faults : (octets : List ℕ) → AreOctets octets → IfErr (reading_of octets) IsSmallFault
  pub written : (message : Message) → HasOctets message → AreOctets (spelling_of message)

-- ---- addresses

-- the parts of a selector as its octets hold them (Q.713, 3.4.2.3)
pub record IsSelector (s : Selector) : Type 0 where
  pub gti : s.gti < TITLE_INDICATORS
  pub tt : IsOctet s.tt
  pub np : s.np < NUMBERING_PLANS
  pub nai : s.nai < NATURES

abbrev pub IsTitle : TitleForm → Type 0
IsTitle no_title = Unit {0}
IsTitle (bcd selector digits) = IsSelector selector × AllByRecursion (λ d. d < DIGIT_VALUES) digits
IsTitle (other gti octets) = (gti < TITLE_INDICATORS) × AreOctets octets

-- the parts of an address as its octets hold them (Q.713, 3.4)
pub record IsForm (a : Form) : Type 0 where
  pub point : IfSome a.point (λ point. point < POINT_CODES)
  pub ssn : IfSome a.ssn IsOctet
  pub title : IsTitle a.title

-- the subsystem that a translation names is an octet
abbrev pub IsRewrite : Rewrite → Type 0
IsRewrite Keep = Unit {0}
IsRewrite (Set ssn on_ssn) = IfSome ssn IsOctet

pub record AddressesHaveOctets : Type 0 where
  pub read : (octets : List ℕ) → AreOctets octets → IfOk (address_of octets) IsForm
  pub written : (address : Form) → IsForm address → AreOctets (address_spelling address)
  pub onward : (rewrite : Rewrite) (octets : List ℕ) → IsRewrite rewrite → AreOctets octets → AreOctets (called_onward rewrite octets)
