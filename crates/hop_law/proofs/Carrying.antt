-- No message but DT1 and DT2 carries a unit.
use Rattle.std.proofs.Common.{◌≡◌, ℕ, zero, suc, ◌==◌, ◌&&◌, Bool, true, false, List, [], ◌∷◌, ◌++◌, filter, Option, Some, None, Ok, Err, refl, sym, ◌∙◌, ap}
use Rattle.std.specs.declared.result.Result.{Result}
use Rattle.std.specs.List.{flat_map}
use Rattle.std.proofs.lemmas.Bool.{false≢true}
use Rattle.relay_base.specs.declared.words.Output.{Output}
use Rattle.relay_base.specs.declared.words.Output.TheVariants.{Sent, Told, Lost}
use Rattle.relay_base.specs.declared.words.ReadFault.{ReadFault}
use Rattle.relay_base.specs.Giving.{◌>>=◌}
use Rattle.q713_shape.specs.Format.{Values}
use Rattle.q713_shape.specs.Reading.{values_of}
use Rattle.q713_codec.specs.Reading.{Kind, kind_at, message_as, message_by, reading_of}
use Rattle.section_model.specs.Ends.{DataUnit, SectionHead}
use Rattle.section_model.specs.Parameters.{arrival_of, arrival_by, arrival_in}
use Rattle.hop_law.specs.Units.{units_by, units_for, units_from, units_on}
use Rattle.connection_law.specs.Messages.{begins_with, is_of_type, data_among}
use Rattle.connection_law.proofs.Flow.Flowing.{either}
use Rattle.hop_law.specs.PassingLaw.{dt1_among}

-- A type of message that carries no unit.

NoUnit : Kind → Type 0
NoUnit kind = (reference : ℕ) (values : Values) → units_by reference (arrival_of (kind.message values)) ≡ []

NoneBy : Option Kind → Type 0
NoneBy None = Unit {0}
NoneBy (Some kind) = NoUnit kind

none_by : (octet : ℕ) → (octet == 6) ≡ false → (octet == 7) ≡ false → NoneBy (kind_at octet)
unfolding NoneBy NoUnit arrival_of
none_by zero a b = tt
none_by (suc zero) a b = λ reference values. refl
none_by (suc (suc zero)) a b = λ reference values. refl
none_by (suc (suc (suc zero))) a b = λ reference values. refl
none_by (suc (suc (suc (suc zero)))) a b = λ reference values. refl
none_by (suc (suc (suc (suc (suc zero))))) a b = λ reference values. refl
none_by (suc (suc (suc (suc (suc (suc zero)))))) a b = absurd (false≢true (sym a))
none_by (suc (suc (suc (suc (suc (suc (suc zero))))))) a b = absurd (false≢true (sym b))
none_by (suc (suc (suc (suc (suc (suc (suc (suc zero)))))))) a b = λ reference values. refl
none_by (suc (suc (suc (suc (suc (suc (suc (suc (suc zero))))))))) a b = λ reference values. refl
none_by (suc (suc (suc (suc (suc (suc (suc (suc (suc (suc zero)))))))))) a b = λ reference values. refl
none_by (suc (suc (suc (suc (suc (suc (suc (suc (suc (suc (suc zero))))))))))) a b = λ reference values. refl
none_by (suc (suc (suc (suc (suc (suc (suc (suc (suc (suc (suc (suc zero)))))))))))) a b = λ reference values. refl
none_by (suc (suc (suc (suc (suc (suc (suc (suc (suc (suc (suc (suc (suc zero))))))))))))) a b = λ reference values. refl
none_by (suc (suc (suc (suc (suc (suc (suc (suc (suc (suc (suc (suc (suc (suc zero)))))))))))))) a b = λ reference values. refl
none_by (suc (suc (suc (suc (suc (suc (suc (suc (suc (suc (suc (suc (suc (suc (suc zero))))))))))))))) a b = λ reference values. refl
none_by (suc (suc (suc (suc (suc (suc (suc (suc (suc (suc (suc (suc (suc (suc (suc (suc zero)))))))))))))))) a b = λ reference values. refl
none_by (suc (suc (suc (suc (suc (suc (suc (suc (suc (suc (suc (suc (suc (suc (suc (suc (suc zero))))))))))))))))) a b = λ reference values. refl
none_by (suc (suc (suc (suc (suc (suc (suc (suc (suc (suc (suc (suc (suc (suc (suc (suc (suc (suc zero)))))))))))))))))) a b = λ reference values. refl
none_by (suc (suc (suc (suc (suc (suc (suc (suc (suc (suc (suc (suc (suc (suc (suc (suc (suc (suc (suc zero))))))))))))))))))) a b = λ reference values. refl
none_by (suc (suc (suc (suc (suc (suc (suc (suc (suc (suc (suc (suc (suc (suc (suc (suc (suc (suc (suc (suc zero)))))))))))))))))))) a b = λ reference values. refl
none_by (suc (suc (suc (suc (suc (suc (suc (suc (suc (suc (suc (suc (suc (suc (suc (suc (suc (suc (suc (suc (suc n))))))))))))))))))))) a b = tt

of_values : (kind : Kind) → NoUnit kind → (reference : ℕ) (r : Result Values ReadFault) → units_by reference (arrival_by (r >>= (λ values. Ok (kind.message values)))) ≡ []
unfolding NoUnit
of_values kind none reference (Ok values) = none reference values
of_values kind none reference (Err fault) = refl

of_kind : (kind : Option Kind) (octet : ℕ) (b : List ℕ) → NoneBy kind → (reference : ℕ) → units_by reference (arrival_by (message_by kind octet b)) ≡ []
unfolding NoneBy message_as
of_kind None octet b none reference = refl
of_kind (Some kind) octet b none reference = of_values kind none reference (values_of kind.format b)

pub no_units : (reference : ℕ) (bytes : List ℕ) → begins_with 6 bytes ≡ false → begins_with 7 bytes ≡ false → units_for reference bytes ≡ []
unfolding units_for arrival_in reading_of
no_units reference [] a b = refl
no_units reference (octet ∷ rest) a b = of_kind (kind_at octet) octet (octet ∷ rest) (none_by octet a b) reference

none_from : (x : SectionHead) (out : Output) → is_of_type 6 out ≡ false → is_of_type 7 out ≡ false → units_from x out ≡ []
none_from x (Sent point sls bytes) a b =
    either (λ (units : List DataUnit). units ≡ []) (point == x.point && sls == x.sls) _ _ (λ _. no_units x.other bytes a b) (λ _. refl)
none_from x (Told ssn tell) a b = refl
none_from x (Lost lost) a b = refl

-- of outputs, those count that may carry one
only : (f : Output → List DataUnit) (p q : Output → Bool) → ((out : Output) → p out ≡ false → q out ≡ false → f out ≡ []) → (outs : List Output) → filter q outs ≡ []
    → flat_map f outs ≡ flat_map f (filter p outs)
only f p q none [] e = refl
only f p q none (out ∷ outs) e = by_test (p out) (q out) refl refl (only f p q none outs)
  where
    rest : (b : Bool) → q out ≡ b → filter q outs ≡ []
    rest true is = cc
    rest false is = sym (rw is refl) ∙ e

    by_test : (b c : Bool) → p out ≡ b → q out ≡ c → (filter q outs ≡ [] → flat_map f outs ≡ flat_map f (filter p outs)) → flat_map f (out ∷ outs) ≡ flat_map f (filter p (out ∷ outs))
    by_test true c is other ih = rw is (ap (λ (units : List DataUnit). f out ++ units) (ih (rest c other)))
    by_test false true is other ih = absurd (nothing_else other)
      where
        nothing_else : q out ≡ true → ⊥
        nothing_else is = cc
    by_test false false is other ih = rw (is, none out is other) (ih (rest false other))

pub only_dt1 : (x : SectionHead) (outs : List Output) → data_among outs ≡ [] → units_on x outs ≡ units_on x (dt1_among outs)
unfolding units_on dt1_among data_among
only_dt1 x outs e = only (units_from x) (is_of_type 6) (is_of_type 7) (none_from x) outs e

pub only_dt2 : (x : SectionHead) (outs : List Output) → dt1_among outs ≡ [] → units_on x outs ≡ units_on x (data_among outs)
unfolding units_on dt1_among data_among
only_dt2 x outs e = only (units_from x) (is_of_type 7) (is_of_type 6) (λ out a b. none_from x out b a) outs e
