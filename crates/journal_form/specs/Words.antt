-- The words of a line of a journal, and which of them write numbers and octets.
use Rattle.std.specs.Prelude.{ℕ, ◌%◌, ◌==◌, ◌||◌, ◌&&◌, not, nat_eq, nat_lt, nat_le, codes, Bool, true, false, List, length, slice_index, if◌then◌else◌}
use Rattle.std.specs.Char.{is_ascii_digit}
use Rattle.std.specs.List.{list_all, slice_split}
use lib.Pointwise.{pointwise}

-- the two texts are the same
abbrev pub same : List ℕ → List ℕ → Bool
same text other = pointwise nat_eq text other

-- what stands before, between and behind the octets that part a text
abbrev pub parted : ℕ → List ℕ → List (List ℕ)
parted octet text = slice_split (λ b. b == octet) text

-- the words of a line: one space stands between each two
abbrev pub words : List ℕ → List (List ℕ)
words line = parted 32 line

-- a zero that other digits follow
abbrev pub has_leading_zero : List ℕ → Bool
has_leading_zero word = nat_lt 1 (length word) && slice_index word 0 == 48

-- a number of any size, in decimal digits without leading zeros
abbrev pub is_number : List ℕ → Bool
is_number word = if length word == 0 || has_leading_zero word then false else list_all is_ascii_digit word

abbrev pub is_lower_digit : ℕ → Bool
is_lower_digit octet = is_ascii_digit octet || nat_le 97 octet && nat_le octet 102

-- octets in lower-case hex, two digits each, or a dash for none
abbrev pub is_octets : List ℕ → Bool
is_octets word =
    if same word (codes "-") then true
    else if length word == 0 || not (length word % 2 == 0) then false
    else list_all is_lower_digit word
