-- Messages of another type than CR want nothing.
use Rattle.std.proofs.Common.{◌≡◌, ℕ, zero, suc, false, List, [], ◌∷◌, drop, refl}
use Rattle.std.specs.Prelude.{slice_get, Option, Some, None, Ok, Err, IfSome}
use Rattle.std.specs.declared.result.Result.{Result}
use Rattle.relay_base.specs.declared.words.ReadFault.{ReadFault}
use Rattle.relay_base.specs.Giving.{◌>>=◌}
use Rattle.plant_core.specs.declared.terms.Terms.{Terms}
use Rattle.q713_shape.specs.Format.{Values}
use Rattle.q713_shape.specs.Reading.{values_of}
use Rattle.q713_codec.specs.Reading.{Kind, kinds, message_as, message_by, reading_of}
use Rattle.section_model.specs.Opening.{no_wish, wish_of_message, wish_of_reading}
use Rattle.section_coupling.specs.Inner.Wishes.{is_of_cr}

-- whatever its values are, a message of this type wants nothing
abbrev WantsNothing : Kind → Type 0
WantsNothing kind = (terms : Terms) (point sls : ℕ) (values : Values) → wish_of_message terms point sls (kind.message values) ≡ no_wish

abbrev AllWantNothing : List Kind → Type 0
AllWantNothing [] = Unit {0}
AllWantNothing (kind ∷ more) = WantsNothing kind × AllWantNothing more

-- the types 02 to 14 (hex)
others : AllWantNothing (drop 1 kinds)
others =
    ((λ _ _ _ _. refl), ((λ _ _ _ _. refl), ((λ _ _ _ _. refl), ((λ _ _ _ _. refl), ((λ _ _ _ _. refl), ((λ _ _ _ _. refl), ((λ _ _ _ _. refl), ((λ _ _ _ _. refl), ((λ _ _ _ _. refl), ((λ _ _ _ _. refl), ((λ _ _ _ _. refl), ((λ _ _ _ _. refl), ((λ _ _ _ _. refl), ((λ _ _ _ _. refl), ((λ _ _ _ _. refl), ((λ _ _ _ _. refl), ((λ _ _ _ _. refl), ((λ _ _ _ _. refl), ((λ _ _ _ _. refl), tt)))))))))))))))))))

other_kind : (more : List Kind) (n : ℕ) → AllWantNothing more → IfSome (slice_get more n) WantsNothing
other_kind [] n none = tt
other_kind (kind ∷ more) zero none = none.0
other_kind (kind ∷ more) (suc n) none = other_kind more n none.1

of_kind : (terms : Terms) (point sls octet : ℕ) (b : List ℕ) (kind : Option Kind) → IfSome kind WantsNothing → wish_of_reading terms point sls (message_by kind octet b) ≡ no_wish
unfolding message_as
of_kind terms point sls octet b None none = refl
of_kind terms point sls octet b (Some kind) none = by_values (values_of kind.format b)
  where
    by_values : (r : Result Values ReadFault) → wish_of_reading terms point sls (r >>= (λ values. Ok (kind.message values))) ≡ no_wish
    by_values (Ok values) = none terms point sls values
    by_values (Err fault) = refl

pub other_type : (terms : Terms) (point sls : ℕ) (b : List ℕ) → is_of_cr (slice_get b 0) ≡ false → wish_of_reading terms point sls (reading_of b) ≡ no_wish
unfolding reading_of
other_type terms point sls [] e = refl
other_type terms point sls (zero ∷ rest) e = refl
other_type terms point sls (suc zero ∷ rest) e = absurd (cc)
other_type terms point sls (suc (suc n) ∷ rest) e = of_kind terms point sls (suc (suc n)) (suc (suc n) ∷ rest) (slice_get (drop 1 kinds) n) (other_kind (drop 1 kinds) n others)
