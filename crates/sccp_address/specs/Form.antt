-- An address as numbers and lists, without where its octets lie (Q.713, 3.4 and 3.5).
use Rattle.std.specs.Prelude.{ℕ, Bool, List, Option}
use Rattle.sccp_address.specs.declared.address.Selector.{Selector}
use Rattle.sccp_address.specs.declared.address.Address.{Address}
use Rattle.sccp_address.specs.declared.address.Title.{Title}
use Rattle.sccp_address.specs.declared.address.Title.TheVariants.{Absent, Bcd, Other}

-- no title; a selector with digits; an indicator with octets
pub data TitleForm : Type 0 where
  no_title : TitleForm
  bcd : Selector → List ℕ → TitleForm
  other : ℕ → List ℕ → TitleForm

pub record Form : Type 0 where
  pub point : Option ℕ
  pub ssn : Option ℕ
  pub title : TitleForm
  pub on_ssn : Bool

abbrev pub seen_title : Title → TitleForm
seen_title Absent = no_title
seen_title (Bcd selector digits) = bcd selector digits
seen_title (Other gti octets) = other gti octets.now

abbrev pub seen : Address → Form
seen a = record { point = a.point; ssn = a.ssn; title = seen_title a.title; on_ssn = a.on_ssn }
