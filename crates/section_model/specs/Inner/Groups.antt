-- The messages for a connection by what they serve, whatever their octets lie in.
use Rattle.std.specs.Prelude.{Bool, true, false}
use Rattle.q713_codec.specs.declared.message.Message.{Message as MessageOf}
use Rattle.q713_codec.specs.declared.message.Message.TheVariants.{Cc, Cref, Rlsd, Rlc, Dt1, Dt2, Ak, Ed, Ea, Rsr, Rsc, Err as Error, It}

-- answers a request for a connection, or releases one
abbrev pub is_of_setup : {O : Type 0} → MessageOf O → Bool
is_of_setup (Cc _ _ _ _ _ _ _) = true
is_of_setup (Cref _ _ _ _ _) = true
is_of_setup (Rlsd _ _ _ _ _) = true
is_of_setup (Rlc _ _) = true
is_of_setup _ = false

-- has data, or acknowledges them
abbrev pub is_of_data : {O : Type 0} → MessageOf O → Bool
is_of_data (Dt1 _ _ _) = true
is_of_data (Dt2 _ _ _) = true
is_of_data (Ak _ _ _) = true
is_of_data (Ed _ _) = true
is_of_data (Ea _) = true
is_of_data _ = false

-- resets a connection, finds an error in it, or tests it
abbrev pub is_of_upkeep : {O : Type 0} → MessageOf O → Bool
is_of_upkeep (Rsr _ _ _) = true
is_of_upkeep (Rsc _ _) = true
is_of_upkeep (Error _ _) = true
is_of_upkeep (It _ _ _ _ _) = true
is_of_upkeep _ = false
