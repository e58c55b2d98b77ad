-- A whole message has no fault of one that isn't.
use Rattle.std.proofs.Common.{◌≡◌, ◌≢◌, ℕ, zero, suc, ◌==◌, true, false, List, [], ◌∷◌, length, drop, Ok, Err, ap, ◌∙◌, arith, if◌then◌else◌}
use Rattle.std.specs.Prelude.{None}
use Rattle.std.specs.declared.result.Result.{Result}
use Rattle.relay_base.specs.Giving.{◌>>=◌}
use Rattle.m3ua_port.specs.declared.fault.PortKind.{PortKind}
use Rattle.m3ua_port.specs.declared.fault.PortKind.TheVariants as kind
use Rattle.m3ua_port.specs.declared.limits.TheConstants.{HEADER, PROTOCOL_DATA}
use Rattle.m3ua_port.specs.Frames.{Parameter, parameter_of, parameter_length, padded, parameters_in, parameters_of, first_data, protocol_data, data_event, message_event, is_data}

-- a result with no such fault
abbrev IsWithoutEnd : {A : Type 0} → Result A PortKind → Type 0
IsWithoutEnd r = r ≢ Err kind.End

bind-without : {A B : Type 0} (r : Result A PortKind) (f : A → Result B PortKind) → IsWithoutEnd r → ((a : A) → IsWithoutEnd (f a)) → IsWithoutEnd (r >>= f)
bind-without (Ok a) f h k = k a
bind-without (Err e) f h k = λ same. h (cc)

parameter-without : (b : List ℕ) → IsWithoutEnd (parameter_of b)
unfolding parameter_of
parameter-without b = λ h. grind arith

parameters-without : (n : ℕ) (b : List ℕ) → IsWithoutEnd (parameters_in n b)
parameters-without zero b = λ h. absurd (cc)
parameters-without (suc n) [] = λ h. absurd (cc)
parameters-without (suc n) (x ∷ r) =
    bind-without (parameter_of (x ∷ r)) _ (parameter-without (x ∷ r)) (λ first.
    bind-without (parameters_in n (drop (padded (parameter_length (x ∷ r))) (x ∷ r))) _ (parameters-without n (drop (padded (parameter_length (x ∷ r))) (x ∷ r))) (λ more h. absurd (cc)))

data-without : (parameters : List Parameter) → IsWithoutEnd (first_data parameters)
data-without [] = λ h. absurd (cc)
data-without (p ∷ parameters) =
    elim (p.tag == PROTOCOL_DATA) as (λ t. IsWithoutEnd (if t then Ok p.value else first_data parameters)) [ true ↦ (λ h. absurd (cc)) | false ↦ data-without parameters ]

event-without : (own : ℕ) (value : List ℕ) → IsWithoutEnd (data_event own value)
unfolding data_event
event-without own value = λ h. grind arith

pub message-without : (own : ℕ) (message : List ℕ) → message_event own message ≢ Err kind.End
unfolding message_event parameters_of
message-without own message =
    elim (is_data message) as (λ t. IsWithoutEnd (if t then protocol_data (drop HEADER message) >>= data_event own else Ok None)) [
      | true ↦ bind-without (protocol_data (drop HEADER message)) (data_event own) (bind-without (parameters_of (drop HEADER message)) first_data (parameters-without (length (drop HEADER message)) (drop HEADER message)) data-without) (event-without own)
      | false ↦ (λ h. absurd (cc))
    ]

-- the fault of a whole message
pub message-stands : (own : ℕ) (message : List ℕ) (fault : PortKind) → message_event own message ≡ Err fault → fault ≢ kind.End
message-stands own message fault h = λ end. message-without own message (h ∙ ap Err end)
