-- The texts of a row: the digits of a prefix, and where a translation leads.
use Rattle.std.specs.Prelude.{ℕ, ◌+◌, ◌-◌, ◌==◌, ◌&&◌, not, nat_lt, nat_le, true, false, codes, List, [], ◌∷◌, ◌++◌, length, take, drop, position, if◌then◌else◌, Option, Some, None, option_map, option_and_then}
use Rattle.relay_base.specs.declared.limits.TheConstants.{MOST_DIGITS, POINT_CODES, SUBSYSTEM_NUMBERS}
use Rattle.relay_base.specs.Decimal.{number_of}
use Rattle.gtt_table.specs.declared.row.Entity.{Entity}
use Rattle.node_head.specs.Keys.{same}

infixl 10 ◌>>=◌
abbrev ◌>>=◌ : {A B : Type 0} → Option A → (A → Option B) → Option B
o >>= f = option_and_then f o

-- the value of a hex digit of either case
abbrev pub hex_digit : ℕ → Option ℕ
hex_digit c =
    if nat_le 48 c && nat_le c 57 then Some (c - 48)
    else if nat_le 97 c && nat_le c 102 then Some (c - 87)
    else if nat_le 65 c && nat_le c 70 then Some (c - 55)
    else None

-- the digits found, and those that a text goes on with
abbrev pub digits_after : List ℕ → List ℕ → Option (List ℕ)
digits_after found [] = Some found
digits_after found (c ∷ cs) = option_and_then (λ d. digits_after (found ++ d ∷ []) cs) (hex_digit c)

-- at most 24 hex digits
unfoldable pub digits_of : List ℕ → Option (List ℕ)
digits_of text = if nat_lt MOST_DIGITS (length text) then None else digits_after [] text

-- a number below a limit
abbrev pub number_below : ℕ → List ℕ → Option ℕ
number_below limit word = option_and_then (λ n. if nat_lt n limit then Some n else None) (number_of word)

-- a subsystem, or a dash where none is named
abbrev pub optional_subsystem : List ℕ → Option (Option ℕ)
optional_subsystem word = if same word (codes "-") then Some None else option_map Some (number_below SUBSYSTEM_NUMBERS word)

-- what stands before the first slash, and what behind it
abbrev pub parted : List ℕ → Option (List ℕ × List ℕ)
parted text = option_map (λ n. (take n text, drop (n + 1) text)) (position (λ b. b == 47) text)

-- `s`: the address goes on routing on this subsystem; `g`: it goes on routing on its title, at another point
abbrev pub leading : ℕ → ℕ → List ℕ → List ℕ → Option Entity
leading own point ssn way =
    if same way (codes "s") then option_map (λ s. record { point = point; ssn = Some s; on_ssn = true }) (number_below SUBSYSTEM_NUMBERS ssn)
    else if same way (codes "g") && not (point == own) then option_map (λ s. record { point = point; ssn = s; on_ssn = false }) (optional_subsystem ssn)
    else None

-- `point/subsystem/s`, `point/subsystem/g` or `point/-/g`
unfoldable pub entity_of : ℕ → List ℕ → Option Entity
entity_of own text = do
  head ← parted text
  tail ← parted head.1
  point ← number_below POINT_CODES head.0
  leading own point tail.0 tail.1
