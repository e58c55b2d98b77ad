-- The messages by their kind, whatever their octets lie in.
use Rattle.std.specs.Prelude.{Bool, true, false}
use Rattle.q713_codec.specs.declared.message.Message.{Message as MessageOf}
use Rattle.q713_codec.specs.Names.{Cr, Cc, Cref, Rlsd, Rlc, Dt1, Dt2, Ak, Udt, Udts, Ed, Ea, Rsr, Rsc, Error, It, Xudt, Xudts, Ludt, Ludts}

abbrev pub is_unitdata : {O : Type 0} → MessageOf O → Bool
is_unitdata (Udt _ _ _ _) = true
is_unitdata (Udts _ _ _ _) = true
is_unitdata _ = false

abbrev pub is_extended : {O : Type 0} → MessageOf O → Bool
is_extended (Xudt _ _ _ _ _ _ _) = true
is_extended (Xudts _ _ _ _ _ _ _) = true
is_extended _ = false

abbrev pub is_long : {O : Type 0} → MessageOf O → Bool
is_long (Ludt _ _ _ _ _ _ _) = true
is_long (Ludts _ _ _ _ _ _ _) = true
is_long _ = false

-- asks for a connection
abbrev pub is_request : {O : Type 0} → MessageOf O → Bool
is_request (Cr _ _ _ _ _ _ _ _) = true
is_request _ = false

-- answers such a request
abbrev pub is_answer : {O : Type 0} → MessageOf O → Bool
is_answer (Cc _ _ _ _ _ _ _) = true
is_answer (Cref _ _ _ _ _) = true
is_answer _ = false

-- has data and no address
abbrev pub is_data : {O : Type 0} → MessageOf O → Bool
is_data (Rlsd _ _ _ _ _) = true
is_data (Dt1 _ _ _) = true
is_data (Dt2 _ _ _) = true
is_data (Ed _ _) = true
is_data _ = false

-- has nothing beside its fixed part
abbrev pub is_fixed : {O : Type 0} → MessageOf O → Bool
is_fixed (Rlc _ _) = true
is_fixed (Ak _ _ _) = true
is_fixed (Ea _) = true
is_fixed (Rsr _ _ _) = true
is_fixed (Rsc _ _) = true
is_fixed (Error _ _) = true
is_fixed (It _ _ _ _ _) = true
is_fixed _ = false
