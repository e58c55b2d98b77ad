-- The text of the generator's capture: the lines of its head, and those of its events.
use Rattle.std.specs.Prelude.{ℕ, zero, suc, ◌+◌, ◌/◌, ◌%◌, ◌==◌, codes, List, [], ◌∷◌, ◌++◌, if◌then◌else◌}
use Rattle.std.specs.Fmt.{decimal}
use Rattle.relay_base.specs.declared.limits.TheConstants.{LINK_SELECTIONS, OCTET_VALUES}
use Rattle.node_head.specs.Lines.{joined}
use Rattle.journal_text.specs.Print.{spaced, octets_text}
use Rattle.capture_generator.specs.declared.events.TheConstants.{BLOCK}
use Rattle.capture_generator.specs.Generator.{number_after, reference_at, unit_octets, request_octets, data_octets}

abbrev pub Lines : Type 0
Lines = List (List ℕ)

-- the head, with its mark
abbrev pub head_lines : Lines
head_lines = codes "point = 1" ∷ codes "users = [8]" ∷ codes "conn_lanes = 4" ∷ codes "data_lanes = 4" ∷ codes "%%" ∷ []

-- the words of a message from point 2 on link 1
abbrev pub message_words : ℕ → List ℕ → Lines
message_words i octets = codes "m" ∷ codes "1" ∷ codes "2" ∷ decimal (i % LINK_SELECTIONS) ∷ octets_text octets ∷ []

-- the words of an acceptance by user 8, in class 2
abbrev pub acceptance_words : ℕ → Lines
acceptance_words i =
    codes "u" ∷ codes "1" ∷ codes "8" ∷ codes "accept" ∷ decimal (reference_at i) ∷ codes "2" ∷ codes "0" ∷ codes "-" ∷ []

-- by the kind 0 to 3: a UDT, a CR, an acceptance, a DT1
abbrev pub words_of_kind : ℕ → ℕ → Lines
words_of_kind kind i =
    if kind == 0 then message_words i unit_octets
    else if kind == 1 then message_words i (request_octets (i + 1))
    else if kind == 2 then acceptance_words i
    else message_words i (data_octets (reference_at i) (i % OCTET_VALUES))

-- the line of event i, which the number x picks
abbrev pub line_at : ℕ → ℕ → List ℕ
line_at x i = spaced (words_of_kind (x / 65536 % 4) i)

-- after each 400th event stand a barrier, a tick and a barrier
abbrev pub barriers_after : ℕ → Lines
barriers_after n = if n % BLOCK == 0 then codes "w" ∷ codes "t" ∷ codes "w" ∷ [] else []

-- the lines of the first n events, where x is the number before the first
unfoldable pub lines_after : ℕ → ℕ → Lines
lines_after x zero = []
lines_after x (suc n) = lines_after x n ++ line_at (number_after x (suc n)) n ∷ barriers_after (n + 1)

-- the text of a number and a count of events, each line with a line feed
abbrev pub generated_text : ℕ → ℕ → List ℕ
generated_text number count = joined (head_lines ++ lines_after (number % 2147483648) count)
