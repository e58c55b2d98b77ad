-- The numbers of an address as its parts hold them: 14 bits of a point code, and at most 24 digits of 4 bits.
use Rattle.std.specs.Prelude.{◌<◌, ◌≤◌, length, All, IfSome}
use Rattle.relay_base.specs.declared.limits.TheConstants.{DIGIT_VALUES, MOST_DIGITS, POINT_CODES}
use Rattle.sccp_address.specs.Form.{Form, TitleForm, no_title, bcd, other}

abbrev pub HasFewDigits : TitleForm → Type 0
HasFewDigits no_title = Unit {0}
HasFewDigits (bcd selector digits) = (length digits ≤ MOST_DIGITS) × All (λ d. d < DIGIT_VALUES) digits
HasFewDigits (other gti octets) = Unit {0}

pub record IsInRange (a : Form) : Type 0 where
  pub point : IfSome a.point (λ point. point < POINT_CODES)
  pub digits : HasFewDigits a.title
