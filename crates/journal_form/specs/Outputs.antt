-- The lines of outputs.
use Rattle.std.specs.Prelude.{ℕ, ◌||◌, ◌&&◌, codes, Bool, false, true, List, [], ◌∷◌}
use Rattle.std.specs.List.{list_any}
use Rattle.journal_form.specs.Words.{same, words, is_number, is_octets}

-- what a word of a line may be: this one, a number, octets, in or out, or why a request was refused
pub data Field : Type 0 where
  Is : List ℕ → Field
  Number : Field
  Octets : Field
  Way : Field
  Reason : Field

abbrev pub is_way : List ℕ → Bool
is_way word = same word (codes "in") || same word (codes "out")

abbrev pub is_reason : List ℕ → Bool
is_reason word =
    same word (codes "owner") || same word (codes "state") || same word (codes "class") || same word (codes "full")
    || same word (codes "expedited") || same word (codes "unknown") || same word (codes "replicate")

-- a word that may stand in a field
abbrev pub is_in : Field → List ℕ → Bool
is_in (Is text) word = same word text
is_in Number word = is_number word
is_in Octets word = is_octets word
is_in Way word = is_way word
is_in Reason word = is_reason word

-- a word for each field
abbrev pub fit : List Field → List (List ℕ) → Bool
fit [] [] = true
fit (field ∷ fields) (word ∷ more) = is_in field word && fit fields more
fit _ _ = false

-- the words of one of the shapes
abbrev pub fit_any : List (List Field) → List (List ℕ) → Bool
fit_any shapes line = list_any (λ shape. fit shape line) shapes

-- a message that is sent: > <point> <sls> <octets>
abbrev pub sent_shape : List Field
sent_shape = Is (codes ">") ∷ Number ∷ Number ∷ Octets ∷ []

-- what a user is told: < <ssn>, a word, and its fields
abbrev pub told : List ℕ → List Field → List Field
told word fields = Is (codes "<") ∷ Number ∷ Is word ∷ fields

-- what was lost: a dot, a word, and its fields
abbrev pub lost : List ℕ → List Field → List Field
lost word fields = Is (codes ".") ∷ Is word ∷ fields

-- what is sent, and what users are told
unfoldable pub told_shapes : List (List Field)
told_shapes =
    sent_shape
    ∷ told (codes "unit") (Number ∷ Octets ∷ Octets ∷ Octets ∷ [])
    ∷ told (codes "notice") (Number ∷ Octets ∷ Octets ∷ Octets ∷ [])
    ∷ told (codes "conn") (Number ∷ Number ∷ Number ∷ Octets ∷ Octets ∷ Octets ∷ [])
    ∷ told (codes "ref") (Number ∷ Number ∷ [])
    ∷ told (codes "not-made") (Number ∷ Number ∷ [])
    ∷ told (codes "confirm") (Number ∷ Number ∷ Number ∷ Octets ∷ Octets ∷ [])
    ∷ told (codes "text") (Number ∷ Octets ∷ [])
    ∷ told (codes "ed") (Number ∷ Octets ∷ [])
    ∷ told (codes "reset") (Number ∷ Number ∷ [])
    ∷ told (codes "reset-done") (Number ∷ [])
    ∷ told (codes "disc") (Number ∷ Number ∷ Octets ∷ [])
    ∷ told (codes "state") (Number ∷ Number ∷ Way ∷ [])
    ∷ told (codes "point") (Number ∷ Way ∷ [])
    ∷ told (codes "coord") (Number ∷ [])
    ∷ told (codes "granted") (Number ∷ [])
    ∷ told (codes "denied") (Number ∷ [])
    ∷ told (codes "no") (Reason ∷ [])
    ∷ []

-- what is lost
unfoldable pub lost_shapes : List (List Field)
lost_shapes =
    lost (codes "read") (Is (codes "1") ∷ [])
    ∷ lost (codes "read") (Is (codes "2") ∷ Number ∷ [])
    ∷ lost (codes "read") (Is (codes "3") ∷ [])
    ∷ lost (codes "read") (Is (codes "4") ∷ Number ∷ [])
    ∷ lost (codes "read") (Is (codes "5") ∷ Number ∷ [])
    ∷ lost (codes "cause") (Number ∷ [])
    ∷ lost (codes "long") [] ∷ lost (codes "address") [] ∷ lost (codes "class") [] ∷ lost (codes "point") []
    ∷ lost (codes "state") [] ∷ lost (codes "stray") [] ∷ lost (codes "segment") [] ∷ lost (codes "manage") []
    ∷ lost (codes "same") [] ∷ lost (codes "duplicate") [] ∷ lost (codes "rows-full") [] ∷ lost (codes "no-row") []
    ∷ []

-- an output, behind the space that begins its line
unfoldable pub is_output : List (List ℕ) → Bool
is_output line = fit_any told_shapes line || fit_any lost_shapes line

-- the words of a line that begins with a space
abbrev pub are_of_output : List (List ℕ) → Bool
are_of_output [] = false
are_of_output (front ∷ more) = same front [] && is_output more

-- the line of an output
unfoldable pub is_output_line : List ℕ → Bool
is_output_line line = are_of_output (words line)
