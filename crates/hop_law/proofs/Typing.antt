-- What a message is, by its type (Q.713, 2.1).
use Rattle.std.proofs.Common.{◌≡◌, ◌≢◌, ℕ, zero, suc, ◌==◌, true, false, List, [], ◌∷◌, Option, Some, None, Ok, Err, refl, sym, ◌∙◌, ap, subst}
use Rattle.std.specs.declared.result.Result.{Result}
use Rattle.std.proofs.lemmas.Bool.{false≢true, eqb-true, eq-eqb}
use Rattle.relay_base.specs.declared.words.ReadFault.{ReadFault}
use Rattle.relay_base.specs.Giving.{◌>>=◌}
use Rattle.q713_shape.specs.Format.{Values}
use Rattle.q713_shape.specs.Reading.{values_of}
use Rattle.q713_codec.specs.Reading.{Kind, kind_at, message_as, message_by, reading_of}
use Rattle.section_model.specs.declared.cell.Occasion.{Occasion}
use Rattle.section_model.specs.declared.cell.Occasion.TheVariants as on
use Rattle.section_model.specs.Parameters.{Arrival, arrival_of, arrival_by, arrival_in}
use Rattle.connection_law.specs.Messages.{begins_with}
use Rattle.hop_law.specs.Setup.{IsNoConfirm}

-- what holds of each message of a kind, and of none
abbrev pub OfKind : (Option Arrival → Type 0) → Kind → Type 0
OfKind P kind = (values : Values) → P (arrival_of (kind.message values))

by_values : (P : Option Arrival → Type 0) (kind : Kind) → P None → OfKind P kind → (r : Result Values ReadFault) → P (arrival_by (r >>= (λ values. Ok (kind.message values))))
by_values P kind none some (Ok values) = some values
by_values P kind none some (Err fault) = none

pub by_kind : (P : Option Arrival → Type 0) (kind : Kind) → P None → OfKind P kind → (octet : ℕ) (rest : List ℕ) → kind_at octet ≡ Some kind → P (arrival_in (octet ∷ rest))
unfolding arrival_in reading_of message_as
by_kind P kind none some octet rest at =
    subst (λ (k : Option Kind). P (arrival_by (message_by k octet (octet ∷ rest)))) (sym at) (by_values P kind none some (values_of kind.format (octet ∷ rest)))

-- holds of octets that begin with its type
pub of_type : (P : Option Arrival → Type 0) (kind : Kind) (n : ℕ) → P None → OfKind P kind → kind_at n ≡ Some kind → (bytes : List ℕ) → begins_with n bytes ≡ true → P (arrival_in bytes)
of_type P kind n none some at [] is = absurd (false≢true is)
of_type P kind n none some at (octet ∷ rest) is =
    subst (λ (o : ℕ). P (arrival_in (o ∷ rest))) (sym (eqb-true octet n is)) (by_kind P kind none some n rest at)

-- An arrival is of the type with which its octets begin: the type of the messages of an occasion, 0 for none.

abbrev pub type_of : Occasion → ℕ
type_of on.Cc = 2
type_of on.Cref = 3
type_of on.Rlsd = 4
type_of on.Rlc = 5
type_of on.Dt1 = 6
type_of on.Dt2 = 7
type_of on.Ak = 8
type_of on.Ed = 11
type_of on.Ea = 12
type_of on.Rsr = 13
type_of on.Rsc = 14
type_of on.Err = 15
type_of on.It = 16
type_of _ = 0

abbrev IsOfType : ℕ → Option Arrival → Type 0
IsOfType octet None = Unit {0}
IsOfType octet (Some a) = type_of a.occasion ≡ octet

AtOctet : ℕ → Option Kind → Type 0
AtOctet octet None = Unit {0}
AtOctet octet (Some kind) = OfKind (IsOfType octet) kind

by_octet : (octet : ℕ) → AtOctet octet (kind_at octet)
unfolding AtOctet arrival_of
by_octet zero = tt
by_octet (suc zero) = λ values. tt
by_octet (suc (suc zero)) = λ values. refl
by_octet (suc (suc (suc zero))) = λ values. refl
by_octet (suc (suc (suc (suc zero)))) = λ values. refl
by_octet (suc (suc (suc (suc (suc zero))))) = λ values. refl
by_octet (suc (suc (suc (suc (suc (suc zero)))))) = λ values. refl
by_octet (suc (suc (suc (suc (suc (suc (suc zero))))))) = λ values. refl
by_octet (suc (suc (suc (suc (suc (suc (suc (suc zero)))))))) = λ values. refl
by_octet (suc (suc (suc (suc (suc (suc (suc (suc (suc zero))))))))) = λ values. tt
by_octet (suc (suc (suc (suc (suc (suc (suc (suc (suc (suc zero)))))))))) = λ values. tt
by_octet (suc (suc (suc (suc (suc (suc (suc (suc (suc (suc (suc zero))))))))))) = λ values. refl
by_octet (suc (suc (suc (suc (suc (suc (suc (suc (suc (suc (suc (suc zero)))))))))))) = λ values. refl
by_octet (suc (suc (suc (suc (suc (suc (suc (suc (suc (suc (suc (suc (suc zero))))))))))))) = λ values. refl
by_octet (suc (suc (suc (suc (suc (suc (suc (suc (suc (suc (suc (suc (suc (suc zero)))))))))))))) = λ values. refl
by_octet (suc (suc (suc (suc (suc (suc (suc (suc (suc (suc (suc (suc (suc (suc (suc zero))))))))))))))) = λ values. refl
by_octet (suc (suc (suc (suc (suc (suc (suc (suc (suc (suc (suc (suc (suc (suc (suc (suc zero)))))))))))))))) = λ values. refl
by_octet (suc (suc (suc (suc (suc (suc (suc (suc (suc (suc (suc (suc (suc (suc (suc (suc (suc zero))))))))))))))))) = λ values. tt
by_octet (suc (suc (suc (suc (suc (suc (suc (suc (suc (suc (suc (suc (suc (suc (suc (suc (suc (suc zero)))))))))))))))))) = λ values. tt
by_octet (suc (suc (suc (suc (suc (suc (suc (suc (suc (suc (suc (suc (suc (suc (suc (suc (suc (suc (suc zero))))))))))))))))))) = λ values. tt
by_octet (suc (suc (suc (suc (suc (suc (suc (suc (suc (suc (suc (suc (suc (suc (suc (suc (suc (suc (suc (suc zero)))))))))))))))))))) = λ values. tt
by_octet (suc (suc (suc (suc (suc (suc (suc (suc (suc (suc (suc (suc (suc (suc (suc (suc (suc (suc (suc (suc (suc n))))))))))))))))))))) = tt

of_kind : (kind : Option Kind) (octet : ℕ) (rest : List ℕ) → kind_at octet ≡ kind → AtOctet octet kind → IsOfType octet (arrival_in (octet ∷ rest))
unfolding AtOctet arrival_in reading_of
of_kind None octet rest at typed = subst (λ (k : Option Kind). IsOfType octet (arrival_by (message_by k octet (octet ∷ rest)))) (sym at) tt
of_kind (Some kind) octet rest at typed = by_kind (IsOfType octet) kind tt typed octet rest at

-- A message of another type than that of an occasion is of another occasion.
abbrev pub IsOther : Occasion → Option Arrival → Type 0
IsOther occasion None = Unit {0}
IsOther occasion (Some a) = a.occasion ≢ occasion

other_occasion : (occasion : Occasion) (octet : ℕ) (a : Option Arrival) → IsOfType octet a → (octet == type_of occasion) ≡ false → IsOther occasion a
other_occasion occasion octet None typed not = tt
other_occasion occasion octet (Some a) typed not = λ same. false≢true (sym not ∙ eq-eqb octet (type_of occasion) (sym typed ∙ ap type_of same))

pub is_other : (occasion : Occasion) (bytes : List ℕ) → begins_with (type_of occasion) bytes ≡ false → IsOther occasion (arrival_in bytes)
unfolding arrival_in reading_of
is_other occasion [] not = tt
is_other occasion (octet ∷ rest) not = other_occasion occasion octet (arrival_in (octet ∷ rest)) (of_kind (kind_at octet) octet rest refl (by_octet octet)) not

pub is_no_confirm : (bytes : List ℕ) → begins_with 2 bytes ≡ false → IsNoConfirm (arrival_in bytes)
is_no_confirm bytes not = no_confirm (arrival_in bytes) (is_other on.Cc bytes not)
  where
    no_confirm : (a : Option Arrival) → IsOther on.Cc a → IsNoConfirm a
    no_confirm None other = tt
    no_confirm (Some a) other = other
