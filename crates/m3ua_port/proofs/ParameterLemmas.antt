-- The parameters of a message, from its front to its end.
use Rattle.std.proofs.Common.{◌≡◌, ℕ, zero, suc, ◌<◌, ◌≤◌, ◌==◌, true, false, List, [], ◌∷◌, length, drop, Ok, Err, refl, ap, ◌∙◌, arith, length-drop, if◌then◌else◌}
use Rattle.std.specs.Prelude.{Option, Some, None}
use Rattle.std.specs.Option.{option_map, ok_or}
use Rattle.std.specs.Borrow.{Bor}
use Rattle.std.specs.declared.result.Result.{Result}
use Rattle.relay_base.specs.Giving.{◌>>=◌, Gives}
use Rattle.m3ua_port.specs.declared.fault.PortKind.{PortKind}
use Rattle.m3ua_port.specs.declared.fault.PortKind.TheVariants as kind
use Rattle.m3ua_port.specs.declared.limits.TheConstants.{PROTOCOL_DATA}
use Rattle.m3ua_port.specs.Frames.{Parameter, parameter_of, parameter_length, padded, parameters_in, parameters_of, first_data}
use Rattle.m3ua_port.specs.Inner.Parameters.{found_with}
use Rattle.m3ua_port.proofs.Results.{bind-ext}

-- a parameter that is read has at least the length of its head
pub four_le : (octets : List ℕ) (p : Parameter) → parameter_of octets ≡ Ok p → 4 ≤ padded (parameter_length octets)
unfolding parameter_of
four_le octets p h = grind arith

-- enough fuel is as good as more
pub parameters_in-any : (n m : ℕ) (b : List ℕ) → length b ≤ n → length b ≤ m → parameters_in n b ≡ parameters_in m b
parameters_in-any zero zero b h k = refl
parameters_in-any zero (suc m) [] h k = refl
parameters_in-any zero (suc m) (x ∷ r) h k = absurd (omega arith)
parameters_in-any (suc n) zero [] h k = refl
parameters_in-any (suc n) zero (x ∷ r) h k = absurd (omega arith)
parameters_in-any (suc n) (suc m) [] h k = refl
parameters_in-any (suc n) (suc m) (x ∷ r) h k =
    bind-ext (parameter_of (x ∷ r)) _ _ (λ first e.
    let some = four_le (x ∷ r) first e in
    ap (λ (found : Result (List Parameter) PortKind). found >>= λ more. Ok (first ∷ more))
    (parameters_in-any n m (drop (padded (parameter_length (x ∷ r))) (x ∷ r)) (omega (arith, length-drop {A = ℕ})) (omega (arith, length-drop {A = ℕ}))))

-- the parameters behind the one at the front
abbrev pub behind : List ℕ → List ℕ
behind b = drop (padded (parameter_length b)) b

pub step : (b : List ℕ) → 0 < length b → parameters_of b ≡ (parameter_of b >>= λ first. parameters_of (behind b) >>= λ more. Ok (first ∷ more))
unfolding parameters_of
step [] h = absurd (omega arith)
step (x ∷ r) h =
    bind-ext (parameter_of (x ∷ r)) _ _ (λ first e.
    let some = four_le (x ∷ r) first e in
    ap (λ (found : Result (List Parameter) PortKind). found >>= λ more. Ok (first ∷ more))
    (parameters_in-any (length r) (length (behind (x ∷ r))) (behind (x ∷ r)) (omega (arith, length-drop {A = ℕ})) (omega arith)))

-- the first Protocol Data, where these were found before the parameters
abbrev pub data_after : Option (List ℕ) → Result (List Parameter) PortKind → Result (List ℕ) PortKind
data_after None parameters = parameters >>= first_data
data_after (Some value) parameters = parameters >>= λ _. Ok value

after-cons : (found : Option (List ℕ)) (p : Parameter) (r : Result (List Parameter) PortKind) → data_after found (r >>= λ more. Ok (p ∷ more)) ≡ data_after (found_with found p) r
after-cons (Some value) p (Ok more) = refl
after-cons (Some value) p (Err e) = refl
after-cons None p (Ok more) = elim (p.tag == PROTOCOL_DATA) as (λ t. (if t then Ok p.value else first_data more) ≡ data_after (if t then Some p.value else None) (Ok more)) [ true ↦ refl | false ↦ refl ]
after-cons None p (Err e) = elim (p.tag == PROTOCOL_DATA) as (λ t. Err e ≡ data_after (if t then Some p.value else None) (Err e)) [ true ↦ refl | false ↦ refl ]

pub after-step : (found : Option (List ℕ)) (b : List ℕ) (p : Parameter) → 0 < length b → parameter_of b ≡ Ok p → data_after found (parameters_of b) ≡ data_after (found_with found p) (parameters_of (drop (padded (parameter_length b)) b))
after-step found b p some e =
    ap (data_after found) (step b some ∙ ap (λ (r : Result Parameter PortKind). r >>= λ first. parameters_of (behind b) >>= λ more. Ok (first ∷ more)) e)
    ∙ after-cons found p (parameters_of (behind b))

after-err : (found : Option (List ℕ)) (fault : PortKind) → data_after found (Err fault) ≡ Err fault
after-err None fault = refl
after-err (Some value) fault = refl

pub after-fault : (found : Option (List ℕ)) (b : List ℕ) (fault : PortKind) → 0 < length b → parameter_of b ≡ Err fault → data_after found (parameters_of b) ≡ Err fault
after-fault found b fault some e =
    ap (data_after found) (step b some ∙ ap (λ (r : Result Parameter PortKind). r >>= λ first. parameters_of (behind b) >>= λ more. Ok (first ∷ more)) e)
    ∙ after-err found fault

-- the first of them at the end of the parameters
abbrev pub found_at_end : Option (List ℕ) → Result (List ℕ) PortKind
found_at_end None = Err kind.Missing
found_at_end (Some value) = Ok value

pub after-end : (found : Option (List ℕ)) (b : List ℕ) → length b ≡ 0 → data_after found (parameters_of b) ≡ found_at_end found
unfolding parameters_of
after-end None [] h = refl
after-end (Some value) [] h = refl
after-end found (x ∷ r) h = absurd (omega arith)

pub at_end-gives : (found : Option (Bor (List ℕ))) → Gives (λ v. v.now) (ok_or found kind.Missing) (found_at_end (option_map (λ v. v.now) found))
at_end-gives None = refl
at_end-gives (Some v) = refl
