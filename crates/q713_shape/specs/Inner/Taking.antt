-- Optional parameters, taken one after the other.
use Rattle.std.specs.Prelude.{ℕ, ◌==◌, ◌&&◌, not, List, [], ◌∷◌, length, if◌then◌else◌, Option, Some, None, Ok, Err}
use Rattle.std.specs.List.{list_any}
use Rattle.std.specs.declared.result.Result.{Result}
use Rattle.relay_base.specs.declared.words.ReadFault.{ReadFault}
use Rattle.relay_base.specs.declared.words.ReadFault.TheVariants.{ValueLength}
use Rattle.q713_shape.specs.Format.{is_option_length}

-- the names for which no value was found
abbrev pub names_left : List ℕ → List (Option (List ℕ)) → List ℕ
names_left [] found = []
names_left (name ∷ names) [] = name ∷ names_left names []
names_left (name ∷ names) (None ∷ found) = name ∷ names_left names found
names_left (name ∷ names) (Some value ∷ found) = names_left names found

-- the values found, with one more of this name
abbrev pub found_with : List ℕ → List (Option (List ℕ)) → ℕ → List ℕ → List (Option (List ℕ))
found_with [] found n v = found
found_with (name ∷ names) [] n v = (if name == n then Some v else None) ∷ found_with names [] n v
found_with (name ∷ names) (None ∷ found) n v = (if name == n then Some v else None) ∷ found_with names found n v
found_with (name ∷ names) (Some value ∷ found) n v = Some value ∷ found_with names found n v

-- the same, or the fault of its length where it is looked for
unfoldable pub taken_with : List ℕ → List (Option (List ℕ)) → ℕ → List ℕ → Result (List (Option (List ℕ))) ReadFault
taken_with names found n v =
    if list_any (λ name. name == n) (names_left names found) && not (is_option_length n (length v)) then Err (ValueLength n)
    else Ok (found_with names found n v)
