-- The form of a journal's text: the lines of the lanes in their order, under each of them the lines of its entries, and under each of these the lines of its outputs.
use Rattle.std.specs.Prelude.{ℕ, zero, suc, codes, ◌++◌, ◌+◌, ◌-◌, ◌||◌, Bool, true, false, List, [], ◌∷◌, length, take, get_or, Option, Some, None}
use Rattle.std.specs.Fmt.{decimal}
use Rattle.journal_form.specs.Words.{same, parted}
use Rattle.journal_form.specs.Outputs.{is_output_line}
use Rattle.journal_form.specs.Headings.{is_entry_line}

-- where the next line stands: above all lanes, under the line of a lane, or under an entry
pub data Place : Type 0 where
  AtTop : Place
  InLane : Place
  InEntry : Place

-- a line of an entry or of an output may stand here
abbrev pub stands : Place → List ℕ → Bool
stands AtTop line = false
stands InLane line = is_entry_line line
stands InEntry line = is_entry_line line || is_output_line line

-- the line of the next lane
abbrev pub begins_lane : List (List ℕ) → List ℕ → Bool
begins_lane [] line = false
begins_lane (lane ∷ lanes) line = same line lane

abbrev pub lanes_behind : List (List ℕ) → List (List ℕ)
lanes_behind [] = []
lanes_behind (lane ∷ lanes) = lanes

-- where the lines end: no lane is still to come, and nothing stands behind the last line feed
abbrev pub fault_at_end : List (List ℕ) → ℕ → List ℕ → Option ℕ
fault_at_end [] n [] = None
fault_at_end _ n _ = Some n

-- the number of the first line that breaks the form, of the lines from number n on, with the lanes that are still to come and what stands behind the last line feed
abbrev pub first_fault : List (List ℕ) → Place → ℕ → List ℕ → List (List ℕ) → Option ℕ
first_fault lanes place n rest [] = fault_at_end lanes n rest
first_fault lanes place n rest (line ∷ more) =
    elim (stands place line) [
      | true ↦ first_fault lanes InEntry (n + 1) rest more
      | false ↦ elim (begins_lane lanes line) [
        | true ↦ first_fault (lanes_behind lanes) InLane (n + 1) rest more
        | false ↦ Some n
      ]
    ]

-- the lines of a text, each ended by a line feed, and what stands behind the last line feed
abbrev pub ended_lines : List (List ℕ) → List (List ℕ)
ended_lines pieces = take (length pieces - 1) pieces

abbrev pub last_piece : List (List ℕ) → List ℕ
last_piece pieces = get_or pieces (length pieces - 1) []

abbrev pub fault_in : List (List ℕ) → List (List ℕ) → Option ℕ
fault_in lanes pieces = first_fault lanes AtTop 1 (last_piece pieces) (ended_lines pieces)

-- the first line of a text that breaks the form of a journal with these lines of lanes, counted from 1; one past the last where a lane is missing, or the text doesn't end with a line feed
unfoldable pub form_fault : List (List ℕ) → List ℕ → Option ℕ
form_fault lanes text = fault_in lanes (parted 10 text)

-- the line of a lane of a kind, and those of such lanes from a number on
abbrev pub lane_line : List ℕ → ℕ → List ℕ
lane_line name number = codes "= " ++ name ++ codes " " ++ decimal number

abbrev pub kind_lines : List ℕ → ℕ → ℕ → List (List ℕ)
kind_lines name number zero = []
kind_lines name number (suc more) = lane_line name number ∷ kind_lines name (number + 1) more

-- the lines of the lanes of a node with so many connection lanes and data lanes
unfoldable pub lane_lines : ℕ → ℕ → List (List ℕ)
lane_lines conns units = codes "= control" ∷ (kind_lines (codes "conn") 0 conns ++ kind_lines (codes "data") 0 units)
