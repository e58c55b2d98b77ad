-- How many lanes a text has, and where they end.
use Rattle.std.proofs.Common.{◌≡◌, ◌∙◌, ℕ, zero, suc, ◌+◌, ◌-◌, ◌^◌, ◌<◌, ◌≤◌, List, [], ◌∷◌, length, codes, refl, ap, arith, length-take, length-append}
use Rattle.std.specs.List.{flat_map}
use Rattle.journal_form.specs.Words.{parted}
use Rattle.journal_form.specs.Form.{kind_lines, lane_lines, ended_lines}
use Rattle.journal_form.specs.Parts.{EntryPart, LanePart, entry_lines, entries_size, lane_size, lanes_size, lines_of, AreLanes, HasForm}
use Rattle.journal_form.proofs.FormLemmas.{few_pieces}
use Rattle.journal_audit.specs.Inner.Judging.{AreShort}

-- ---- how many

lanes_named : (at : ℕ) (lines names : List (List ℕ)) (lanes : List LanePart) → AreLanes at lines names lanes → length lanes ≡ length names
lanes_named at lines [] [] are = refl
lanes_named at lines [] (lane ∷ lanes) are = absurd are
lanes_named at lines (name ∷ names) [] are = absurd are
lanes_named at lines (name ∷ names) (lane ∷ lanes) are = ap suc (lanes_named (at + lane_size lane) lines names lanes are.1)

kind_size : (name : List ℕ) (number count : ℕ) → length (kind_lines name number count) ≡ count
kind_size name number zero = refl
kind_size name number (suc count) = ap suc (kind_size name (number + 1) count)

names_size : (conns units : ℕ) → length (lane_lines conns units) ≡ 1 + (conns + units)
unfolding lane_lines
names_size conns units =
    let conn_lines = kind_lines (codes "conn") 0 conns in
    let data_lines = kind_lines (codes "data") 0 units in
    omega (arith, length-append conn_lines data_lines, kind_size (codes "conn") 0 conns, kind_size (codes "data") 0 units)

pub lanes_many : (conns units : ℕ) (text : List ℕ) (lanes : List LanePart) → HasForm (lane_lines conns units) text lanes → length lanes ≡ 1 + (conns + units)
lanes_many conns units text lanes form = lanes_named 0 (ended_lines (parted 10 text)) (lane_lines conns units) lanes form.stand ∙ names_size conns units

-- ---- where they end

lines_many : (es : List EntryPart) → length (flat_map entry_lines es) ≡ entries_size es
lines_many [] = refl
lines_many (e ∷ es) = omega (arith, length-append (entry_lines e) (flat_map entry_lines es), lines_many es)

size_is : (lanes : List LanePart) → length (flat_map lines_of lanes) ≡ lanes_size lanes
size_is [] = refl
size_is (lane ∷ lanes) = omega (arith, length-append (lines_of lane) (flat_map lines_of lanes), lines_many lane.entries, size_is lanes)

each_short : (at : ℕ) (lines names : List (List ℕ)) (lanes : List LanePart) → AreLanes at lines names lanes → at + lanes_size lanes + 1 < 2 ^ 32 → AreShort lanes
each_short at lines [] [] are few = tt
each_short at lines [] (lane ∷ lanes) are few = absurd are
each_short at lines (name ∷ names) [] are few = absurd are
each_short at lines (name ∷ names) (lane ∷ lanes) are few =
    (omega (arith, are.0.number, few), each_short (at + lane_size lane) lines names lanes are.1 (omega (arith, few)))

-- the lanes of a text that isn't long are short
pub lanes_short : (names : List (List ℕ)) (text : List ℕ) (lanes : List LanePart) → HasForm names text lanes → length text + 1 < 2 ^ 32 → AreShort lanes
lanes_short names text lanes form few =
    let pieces = parted 10 text in
    let whole : lanes_size lanes ≡ length (ended_lines pieces) = omega (arith, size_is lanes, ap length form.whole) in
    let ended : length (ended_lines pieces) ≤ length pieces - 1 = omega (arith, length-take (length pieces - 1) pieces) in
    each_short 0 (ended_lines pieces) names lanes form.stand (omega (arith, whole, ended, few_pieces 10 text, few))
