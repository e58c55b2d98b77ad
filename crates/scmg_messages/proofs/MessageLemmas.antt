-- The octets of messages of management.
use Rattle.std.proofs.Common.{◌≡◌, ℕ, [], ◌∷◌, refl}
use Rattle.q713_shape.specs.Writing.{octets_of}
use Rattle.q713_codec.specs.Writing.{spelling_of}
use Rattle.q713_codec.specs.declared.message.Message.TheVariants.{Udt}
use Rattle.scmg_messages.specs.Messages.{management}

-- those before the five octets of data are the same in every one
pub notice_octets : (code ssn low high : ℕ) → spelling_of (Udt 0 management management (code ∷ ssn ∷ low ∷ high ∷ 0x00 ∷ []))
    ≡ 0x09 ∷ 0x00 ∷ 0x03 ∷ 0x05 ∷ 0x07 ∷ 0x02 ∷ 0x42 ∷ 0x01 ∷ 0x02 ∷ 0x42 ∷ 0x01 ∷ 0x05 ∷ code ∷ ssn ∷ low ∷ high ∷ 0x00 ∷ []
unfolding spelling_of octets_of
notice_octets code ssn low high = refl
