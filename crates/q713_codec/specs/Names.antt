-- The messages, under short names.
use Rattle.std.specs.Prelude.{ℕ, List}
use Rattle.std.specs.Borrow.{Bor}
use Rattle.q713_codec.specs.declared.message.Message.{Message as MessageOf}
pub use Rattle.q713_codec.specs.declared.message.Message.TheVariants.{Cr, Cc, Cref, Rlsd, Rlc, Dt1, Dt2, Ak, Udt, Udts, Ed, Ea, Rsr, Rsc, Err as Error, It, Xudt, Xudts, Ludt, Ludts}

-- a message with its octets, and one whose addresses and data lie in the octets that it was read from
abbrev pub Message : Type 0
Message = MessageOf (List ℕ)

abbrev pub View : Type 0
View = MessageOf (Bor (List ℕ))
