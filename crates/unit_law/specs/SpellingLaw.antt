-- What is written reads back: the spelling of a message (Q.713, 2.3), and of an address (Q.713, 3.4 and 3.5).
use Rattle.std.specs.Prelude.{◌≡◌, Ok}
use Rattle.q713_codec.specs.Names.{Message}
use Rattle.q713_codec.specs.Reading.{reading_of}
use Rattle.q713_codec.specs.Writing.{spelling_of, InRange}
use Rattle.q713_codec.specs.Types.{HasTypes}
use Rattle.sccp_address.specs.Form.{Form}
use Rattle.sccp_address.specs.Ranges.{IsInRange}
use Rattle.sccp_address.specs.Parsing.{address_of, IsInForm}
use Rattle.sccp_address.specs.Spelling.{address_spelling}

pub record SpellingLaw : Type 0 where
  -- a message of its types, references of 24 bits among them, whose lengths are those of Q.713
  pub messages : (message : Message) → HasTypes message → InRange message → reading_of (spelling_of message) ≡ Ok message
  -- an address in form, whose point code has 14 bits, and whose title at most 24 digits of 4 bits
  pub addresses : (address : Form) → IsInForm address → IsInRange address → address_of (address_spelling address) ≡ Ok address
