-- What the lines of an operator change in the routing data, or what is wrong with their words.
use Rattle.std.specs.Prelude.{ℕ, ◌==◌, ◌||◌, nat_lt, codes, List, [], ◌∷◌, length, if◌then◌else◌, Option, Some, None, Ok, Err}
use Rattle.std.specs.declared.result.Result.{Result}
use Rattle.relay_base.specs.declared.limits.TheConstants.{OCTET_VALUES}
use Rattle.relay_base.specs.Giving.{◌>>=◌}
use Rattle.sccp_address.specs.declared.address.TheConstants.{NATURES, NUMBERING_PLANS}
use Rattle.sccp_address.specs.declared.address.Selector.{Selector}
use Rattle.gtt_table.specs.declared.row.Entity.{Entity}
use Rattle.gtt_table.specs.declared.row.Row.{Row}
use Rattle.plant_core.specs.declared.change.Change.{Change}
use Rattle.plant_core.specs.declared.change.Change.TheVariants.{AddRow, DelRow, BarPoint, FreePoint, LocalUp, LocalDown}
use Rattle.node_head.specs.declared.head.Head.{Head}
use Rattle.capture_form.specs.Text.{same}
use Rattle.capture_form.specs.Words.{below, user_of, other_point_of, prefix_of, lead_of}
use Rattle.capture_form.specs.declared.fault.LineKind.{LineKind}
use Rattle.capture_form.specs.declared.fault.LineKind.TheVariants.{Words, Number}

-- a global title indicator: 1, 3 or 4
abbrev pub indicator_of : List ℕ → Result ℕ LineKind
indicator_of word = do
  gti ← below 5 word
  if gti == 1 || gti == 3 || gti == 4 then Ok gti else Err Number

-- what the titles of an indicator carry (Q.713, 3.4); 0 stands for what they don't
abbrev pub carried : ℕ → List ℕ → List ℕ → List ℕ → Result Selector LineKind
carried gti type plan nature = do
  tt ← below (if gti == 1 then 1 else OCTET_VALUES) type
  np ← below (if gti == 1 then 1 else NUMBERING_PLANS) plan
  nai ← below (if gti == 3 then 1 else NATURES) nature
  Ok (record { gti = gti; tt = tt; np = np; nai = nai })

abbrev pub selector_of : List ℕ → List ℕ → List ℕ → List ℕ → Result Selector LineKind
selector_of indicator type plan nature = do
  gti ← indicator_of indicator
  carried gti type plan nature

-- where a translation leads in the second place, if there is a word for it
abbrev pub second_of : ℕ → List (List ℕ) → Result (Option Entity) LineKind
second_of own [] = Ok None
second_of own (word ∷ more) = do
  entity ← lead_of own word
  Ok (Some entity)

-- a row of this selector, of the words for its digits and its one or two entities
abbrev pub row_of : ℕ → Selector → List ℕ → List ℕ → List (List ℕ) → Result Row LineKind
row_of own selector digits lead more = do
  prefix ← prefix_of digits
  first ← lead_of own lead
  second ← second_of own more
  Ok (record { selector = selector; prefix = prefix; first = first; second = second })

-- the row of these words is added
unfoldable pub with_row : ℕ → List ℕ → List ℕ → List ℕ → List ℕ → List ℕ → List ℕ → List (List ℕ) → Result Change LineKind
with_row own gti type plan nature digits lead more = do
  selector ← selector_of gti type plan nature
  row ← row_of own selector digits lead more
  Ok (AddRow row)

-- add <gti> <tt> <np> <nai> <digits> <first> [<second>]
abbrev pub add_form : ℕ → List (List ℕ) → Result Change LineKind
add_form own (gti ∷ type ∷ plan ∷ nature ∷ digits ∷ lead ∷ more) =
    if nat_lt 1 (length more) then Err Words
    else with_row own gti type plan nature digits lead more
add_form own _ = Err Words

-- the row with the selector and the prefix of these words is taken away
abbrev pub without_row : List ℕ → List ℕ → List ℕ → List ℕ → List ℕ → Result Change LineKind
without_row gti type plan nature digits = do
  selector ← selector_of gti type plan nature
  prefix ← prefix_of digits
  Ok (DelRow selector prefix)

-- del <gti> <tt> <np> <nai> <digits>
abbrev pub del_form : List (List ℕ) → Result Change LineKind
del_form (gti ∷ type ∷ plan ∷ nature ∷ digits ∷ []) = without_row gti type plan nature digits
del_form _ = Err Words

-- e: a row is added, or taken away
abbrev pub row_form : ℕ → List (List ℕ) → Result Change LineKind
row_form own [] = Err Words
row_form own (word ∷ more) =
    if same word (codes "add") then add_form own more
    else if same word (codes "del") then del_form more
    else Err Words

-- p pause|resume <point>: the MTP status of another point
abbrev pub status_form : ℕ → List (List ℕ) → Result Change LineKind
status_form own (word ∷ number ∷ []) =
    if same word (codes "pause") then (do
      point ← other_point_of own number
      Ok (BarPoint point))
    else if same word (codes "resume") then (do
      point ← other_point_of own number
      Ok (FreePoint point))
    else Err Words
status_form own _ = Err Words

-- s <ssn> in|out: a local user goes in or out of service
abbrev pub service_form : List ℕ → List (List ℕ) → Result Change LineKind
service_form users (number ∷ word ∷ []) =
    if same word (codes "in") then (do
      ssn ← user_of users number
      Ok (LocalUp ssn))
    else if same word (codes "out") then (do
      ssn ← user_of users number
      Ok (LocalDown ssn))
    else Err Words
service_form users _ = Err Words

-- what a status line changes, by its first word
abbrev pub change_of : Head → List ℕ → List (List ℕ) → Result Change LineKind
change_of head first more =
    if same first (codes "p") then status_form head.point more
    else if same first (codes "s") then service_form head.users more
    else Err Words
