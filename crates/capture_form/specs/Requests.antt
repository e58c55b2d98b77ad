-- What a user asks for in the words of a request, or what is wrong with them.
use Rattle.std.specs.Prelude.{ℕ, ◌==◌, codes, Bool, false, List, [], ◌∷◌, length, if◌then◌else◌, Option, Some, None, Ok, Err}
use Rattle.std.specs.declared.result.Result.{Result}
use Rattle.relay_base.specs.declared.limits.TheConstants.{CREDITS, LINK_SELECTIONS, OCTET_VALUES, POINT_CODES, REFERENCES, LONGEST_GIVEN_UNIT, LONGEST_DATA, LONGEST_EXPEDITED, LONGEST_TEXT}
use Rattle.relay_base.specs.Giving.{◌>>=◌}
use Rattle.relay_base.specs.declared.words.Request.{Request}
use Rattle.relay_base.specs.declared.words.Request.TheVariants as request
use Rattle.capture_form.specs.declared.requests.RequestForm.{RequestForm}
use Rattle.capture_form.specs.declared.requests.RequestForm.TheVariants as form
use Rattle.capture_form.specs.Text.{same}
use Rattle.capture_form.specs.Words.{below, class_of, called_of, calling_of, body_of, text_of, asks_return, is_return}
use Rattle.capture_form.specs.declared.fault.LineKind.{LineKind}
use Rattle.capture_form.specs.declared.fault.LineKind.TheVariants.{Words}

-- what asks for a unit: selection, class, the word on return on error, called and calling address, body
abbrev pub unit_of : List ℕ → List ℕ → List ℕ → List ℕ → List ℕ → List ℕ → Result Request LineKind
unit_of sls class ret called calling body = do
  selection ← below LINK_SELECTIONS sls
  number ← below 2 class
  to ← called_of called
  from ← calling_of calling
  octets ← body_of LONGEST_GIVEN_UNIT body
  Ok (request.Unit selection number (asks_return ret) to from octets)

-- what asks for a connection: tag, class, credit, called address, data
abbrev pub conn_of : List ℕ → List ℕ → List ℕ → List ℕ → List ℕ → Result Request LineKind
conn_of tag class credit called body = do
  name ← below 65536 tag
  number ← class_of class
  granted ← below CREDITS credit
  to ← called_of called
  octets ← body_of LONGEST_DATA body
  Ok (request.Conn name number granted to octets)

-- what ends a connection: its reference, a cause and data
abbrev pub ending_of : List (List ℕ) → Result (ℕ × ℕ × List ℕ) LineKind
ending_of (reference ∷ cause ∷ body ∷ []) = do
  mine ← below REFERENCES reference
  number ← below OCTET_VALUES cause
  octets ← body_of LONGEST_DATA body
  Ok (mine, number, octets)
ending_of _ = Err Words

-- the form of a request that names a connection, by its first word
abbrev pub naming_form : List ℕ → Option RequestForm
naming_form word =
    if same word (codes "accept") then Some form.Accept
    else if same word (codes "refuse") then Some form.Refuse
    else if same word (codes "send") then Some form.Send
    else if same word (codes "ed") then Some form.Expedite
    else if same word (codes "reset") then Some form.Reset
    else if same word (codes "disc") then Some form.Disc
    else None

-- the form of a request, by its first word
abbrev pub form_of : List ℕ → Option RequestForm
form_of word =
    if same word (codes "unit") then Some form.Unit
    else if same word (codes "conn") then Some form.Conn
    else if same word (codes "coord") then Some form.Coord
    else if same word (codes "grant") then Some form.Grant
    else naming_form word

-- the six words after `unit`, of which the third says whether return on error is asked
abbrev pub is_unit : List (List ℕ) → Bool
is_unit (sls ∷ class ∷ ret ∷ called ∷ calling ∷ body ∷ []) = is_return ret
is_unit _ = false

-- whether the words after the first are as a whole a request of this form
abbrev pub has_form : RequestForm → List (List ℕ) → Bool
has_form form.Unit more = is_unit more
has_form form.Conn more = length more == 5
has_form form.Accept more = length more == 4
has_form form.Refuse more = length more == 3
has_form form.Send more = length more == 2
has_form form.Expedite more = length more == 2
has_form form.Reset more = length more == 1
has_form form.Disc more = length more == 3
has_form form.Coord more = length more == 0
has_form form.Grant more = length more == 1

-- what the words after the first of a request ask for
abbrev pub request_of : RequestForm → List (List ℕ) → Result Request LineKind
-- unit <sls> <class> <r or -> <called> <calling or -> <hex>
request_of form.Unit (sls ∷ class ∷ ret ∷ called ∷ calling ∷ body ∷ []) = unit_of sls class ret called calling body
-- conn <tag> <class> <credit> <called> <hex>
request_of form.Conn (tag ∷ class ∷ credit ∷ called ∷ body ∷ []) = conn_of tag class credit called body
-- accept <ref> <class> <credit> <hex>
request_of form.Accept (reference ∷ class ∷ credit ∷ body ∷ []) = do
  mine ← below REFERENCES reference
  number ← class_of class
  granted ← below CREDITS credit
  octets ← body_of LONGEST_DATA body
  Ok (request.Accept mine number granted octets)
-- refuse <ref> <cause> <hex>
request_of form.Refuse words = do
  asked ← ending_of words
  Ok (request.Refuse asked.0 asked.1 asked.2)
-- send <ref> <hex>
request_of form.Send (reference ∷ body ∷ []) = do
  mine ← below REFERENCES reference
  octets ← text_of LONGEST_TEXT body
  Ok (request.Send mine octets)
-- ed <ref> <hex>
request_of form.Expedite (reference ∷ body ∷ []) = do
  mine ← below REFERENCES reference
  octets ← text_of LONGEST_EXPEDITED body
  Ok (request.Expedite mine octets)
-- reset <ref>
request_of form.Reset (reference ∷ []) = do
  mine ← below REFERENCES reference
  Ok (request.Reset mine)
-- disc <ref> <cause> <hex>
request_of form.Disc words = do
  asked ← ending_of words
  Ok (request.Disc asked.0 asked.1 asked.2)
-- coord
request_of form.Coord [] = Ok request.Coord
-- grant <point>
request_of form.Grant (point ∷ []) = do
  to ← below POINT_CODES point
  Ok (request.Grant to)
request_of _ _ = Err Words
