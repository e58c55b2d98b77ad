-- Reading a message by places in its octets, with the first fault (Q.713, 2.3). Places count from 0, the type octet.
use Rattle.std.specs.Prelude.{ℕ, zero, suc, ◌+◌, ◌*◌, ◌==◌, ◌||◌, ◌&&◌, nat_lt, nat_le, Bool, not, List, [], ◌∷◌, length, take, drop, map, slice_index, if◌then◌else◌, Option, Some, None, Ok, Err}
use Rattle.std.specs.List.{list_any, filter}
use Rattle.std.specs.declared.result.Result.{Result}
use Rattle.relay_base.specs.declared.words.ReadFault.{ReadFault}
use Rattle.relay_base.specs.declared.words.ReadFault.TheVariants.{Empty, Short, PointerOut, ValueLength}
use Rattle.relay_base.specs.Giving.{◌>>=◌}
use Rattle.q713_shape.specs.declared.rules.VarRule.{VarRule}
use Rattle.q713_shape.specs.Format.{Format, Values, filled, pointer_width, is_long, length_width, is_length_of, is_option_length, place_behind_pointers}

-- the number at a place, of one octet or of two, the least significant first
abbrev pub number_at : Bool → List ℕ → ℕ → ℕ
number_at wide b place = if wide then slice_index b place + 256 * slice_index b (place + 1) else slice_index b place

-- the place that a pointer points to: it counts from its last octet
abbrev pub target_of : Bool → List ℕ → ℕ → ℕ
target_of wide b place = place + (if wide then 1 else 0) + number_at wide b place

-- the value whose length stands at a place
unfoldable pub value_at : List ℕ → VarRule → ℕ → Result (List ℕ) ReadFault
value_at b rule place =
    let size = number_at (is_long rule) b place in
    let start = place + length_width rule in
    if nat_lt (length b) (start + size) then Err Short
    else if not (is_length_of rule size) then Err (ValueLength rule.name)
    else Ok (take size (drop start b))

-- the variable parameter whose pointer stands at a place
unfoldable pub variable_at : Bool → List ℕ → ℕ → VarRule → Result (List ℕ) ReadFault
variable_at wide b place rule =
    if number_at wide b place == 0 || nat_le (length b) (target_of wide b place) then Err (PointerOut place)
    else value_at b rule (target_of wide b place)

-- the variable parameters whose pointers begin at a place
unfoldable pub variables_at : Bool → List ℕ → ℕ → List VarRule → Result (List (List ℕ)) ReadFault
variables_at wide b place [] = Ok []
variables_at wide b place (rule ∷ rules) = do
  first ← variable_at wide b place rule
  rest ← variables_at wide b (place + pointer_width wide) rules
  Ok (first ∷ rest)

-- the same, in the room for three
abbrev pub filled_variables : Bool → List ℕ → ℕ → List VarRule → Result (List (List ℕ)) ReadFault
filled_variables wide b place rules = do
  vars ← variables_at wide b place rules
  Ok (filled 3 [] vars)

-- an optional parameter, with its name and its value, or one that the end of the message cuts off
pub data Item : Type 0 where
  item : ℕ → List ℕ → Item
  cut : Item

-- the optional parameters up to the name 00 or the end of the message; there are no more than octets
abbrev pub items_in : ℕ → List ℕ → List Item
items_in zero b = []
items_in (suc n) [] = []
items_in (suc n) (name ∷ []) = if name == 0 then [] else cut ∷ []
items_in (suc n) (name ∷ size ∷ rest) =
    if name == 0 then []
    else if nat_lt (length rest) size then cut ∷ []
    else item name (take size rest) ∷ items_in n (drop size rest)

-- the first fault among optional parameters: a name that is looked for counts where it occurs first
abbrev pub first_fault : List ℕ → List Item → Option ReadFault
first_fault names [] = None
first_fault names (cut ∷ items) = Some Short
first_fault names (item name value ∷ items) =
    if list_any (λ n. n == name) names && not (is_option_length name (length value)) then Some (ValueLength name)
    else first_fault (filter (λ n. not (n == name)) names) items

-- the value of the first optional parameter of a name
abbrev pub first_value : List Item → ℕ → Option (List ℕ)
first_value [] name = None
first_value (cut ∷ items) name = None
first_value (item n value ∷ items) name = if name == n then Some value else first_value items name

abbrev pub unless_fault : {A : Type 0} → Option ReadFault → A → Result A ReadFault
unless_fault None a = Ok a
unless_fault (Some fault) a = Err fault

-- the values of these names among optional parameters, in the room for five
abbrev pub options_among : List ℕ → List Item → Result (List (Option (List ℕ))) ReadFault
options_among names items = unless_fault (first_fault names items) (filled 5 None (map (first_value items) names))

-- the same of an optional part
unfoldable pub options_in : List ℕ → List ℕ → Result (List (Option (List ℕ))) ReadFault
options_in names b = options_among names (items_in (length b) b)

-- the values of the optional part whose pointer stands at a place
unfoldable pub options_at : Bool → List ℕ → ℕ → Option (List ℕ) → Result (List (Option (List ℕ))) ReadFault
options_at wide b place None = options_among [] []
options_at wide b place (Some names) =
    if number_at wide b place == 0 then options_among names []
    else if nat_lt (length b) (target_of wide b place) then Err (PointerOut place)
    else options_in names (drop (target_of wide b place) b)

-- the values of a message of this format, or the first fault
unfoldable pub values_of : Format → List ℕ → Result Values ReadFault
values_of format b =
    let place = 1 + length format.fixed in
    if length b == 0 then Err Empty
    else if nat_lt (length b) (place_behind_pointers format) then Err Short
    else do
      vars ← filled_variables format.wide b place format.vars
      options ← options_at format.wide b (place + pointer_width format.wide * length format.vars) format.options
      Ok (record { fixed = take (length format.fixed) (drop 1 b); vars = vars; options = options })
