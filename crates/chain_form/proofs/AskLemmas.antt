-- What a line asks for on a connection is in its ranges.
use Rattle.std.proofs.Common.{◌≡◌, ℕ, ◌==◌, ◌&&◌, ◌||◌, nat_lt, nat_le, true, false, List, [], ◌∷◌, length, Option, Some, None, is_ok, IfOk, IsTrue, Ok, Err, refl, sym, subst, arith}
use Rattle.std.specs.Cmp.Derive.{both_true}
use Rattle.std.proofs.lemmas.Bool.Decides.{nat_tests}
use Rattle.std.proofs.lemmas.Result.{IfOk-at_ok}
use Rattle.hex.specs.Hex.{decode_pairs}
use Rattle.relay_base.specs.Decimal.{number_of}
use Rattle.relay_base.specs.declared.limits.TheConstants.{CREDITS, GREATEST_CREDIT, LONGEST_DATA, LONGEST_EXPEDITED, LONGEST_TEXT, OCTET_VALUES, REFERENCES}
use Rattle.relay_base.specs.declared.words.Request.{Request}
use Rattle.relay_base.specs.declared.words.Request.TheVariants as request
use Rattle.relay_base.proofs.GivingLemmas.{bound}
use Rattle.sccp_address.specs.Parsing.{address_of, point_at, ssn_at}
use Rattle.sccp_address.specs.Titles.{title_at}
use Rattle.node_head.proofs.Given.{after_any, by_test}
use Rattle.capture_form.specs.Text.{hex_of}
use Rattle.capture_form.specs.Words.{number_below, below, class_in, class_of, called_of, octets_of, body_of, text_of}
use Rattle.capture_form.specs.Requests.{conn_of, ending_of, request_of}
use Rattle.capture_form.specs.declared.requests.RequestForm.{RequestForm}
use Rattle.capture_form.specs.declared.requests.RequestForm.TheVariants as form
use Rattle.capture_form.specs.declared.fault.LineKind.TheVariants.{Number, Size}
use Rattle.chain_step.specs.Steps.{title_address, is_askable}
use Rattle.chain_form.specs.Line.{on_connection, title_word, whole}

-- ---- what the words give

abbrev IsCredit : ℕ → Type 0
IsCredit n = IsTrue (nat_le n GREATEST_CREDIT)

abbrev IsClass : ℕ → Type 0
IsClass n = IsTrue (n == 2 || n == 3)

abbrev IsBody : ℕ → List ℕ → Type 0
IsBody most octets = IsTrue (nat_le (length octets) most)

abbrev IsText : ℕ → List ℕ → Type 0
IsText most octets = IsTrue (nat_lt 0 (length octets) && nat_le (length octets) most)

greatest_credit : (n : ℕ) → nat_lt n CREDITS ≡ true → IsCredit n
greatest_credit n h = grind (arith, nat_tests)

credit_within : (n : Option ℕ) → IfOk (number_below CREDITS n) IsCredit
credit_within None = tt
credit_within (Some n) = by_test IsCredit (nat_lt n CREDITS) (Ok n) (Err Number) (greatest_credit n) (λ e. tt)

is_credit : (word : List ℕ) → IfOk (below CREDITS word) IsCredit
is_credit word = credit_within (number_of word)

class_within : (n : Option ℕ) → IfOk (class_in n) IsClass
class_within None = tt
class_within (Some n) = by_test IsClass (n == 2 || n == 3) (Ok n) (Err Number) (λ e. e) (λ e. tt)

is_class : (word : List ℕ) → IfOk (class_of word) IsClass
is_class word = class_within (number_of word)

is_body : (most : ℕ) (word : List ℕ) → IfOk (body_of most word) (IsBody most)
is_body most word =
    after_any (IsBody most) (octets_of word) _ (λ octets. by_test (IsBody most) (nat_le (length octets) most) (Ok octets) (Err Size) (λ e. e) (λ e. tt))

some_octets : (n most : ℕ) → (n == 0) ≡ false → nat_le n most ≡ true → (nat_lt 0 n && nat_le n most) ≡ true
some_octets n most e h = grind (arith, nat_tests)

is_text : (most : ℕ) (word : List ℕ) → IfOk (text_of most word) (IsText most)
is_text most word =
    bound (IsBody most) (IsText most) (body_of most word) _ (is_body most word) (λ octets h.
    by_test (IsText most) (length octets == 0) (Err Size) (Ok octets) (λ e. tt) (λ e. some_octets (length octets) most e h))

-- the word of the called address reads as the address
is_title : IfOk (called_of title_word) (λ called. called ≡ title_address)
unfolding hex_of decode_pairs address_of point_at ssn_at title_at
is_title = refl

-- which parses
title_parses : is_ok (address_of title_address) ≡ true
unfolding address_of point_at ssn_at title_at
title_parses = refl

-- ---- the requests

abbrev Askable : Request → Type 0
Askable r = IsTrue (is_askable r)

title_askable : (tag class credit : ℕ) (body : List ℕ) → IsClass class → IsCredit credit → IsBody LONGEST_DATA body
    → Askable (request.Conn tag class credit title_address body)
title_askable tag class credit body c g d = both_true (both_true (both_true (both_true (both_true c g) refl) title_parses) d) refl

conn_askable : (tag class credit body : List ℕ) → IfOk (conn_of tag class credit title_word body) Askable
conn_askable tag class credit body =
    after_any Askable (below 65536 tag) _ (λ name.
    bound IsClass Askable (class_of class) _ (is_class class) (λ number c.
    bound IsCredit Askable (below CREDITS credit) _ (is_credit credit) (λ granted g.
    bound (λ called. called ≡ title_address) Askable (called_of title_word) _ is_title (λ called t.
    bound (IsBody LONGEST_DATA) Askable (body_of LONGEST_DATA body) _ (is_body LONGEST_DATA body) (λ octets d.
    subst (λ to. Askable (request.Conn name number granted to octets)) (sym t) (title_askable name number granted octets c g d))))))

is_ending : (ws : List (List ℕ)) → IfOk (ending_of ws) (λ t. IsBody LONGEST_DATA t.2)
is_ending (reference ∷ cause ∷ body ∷ []) =
    after_any (λ t. IsBody LONGEST_DATA t.2) (below REFERENCES reference) _ (λ mine.
    after_any (λ t. IsBody LONGEST_DATA t.2) (below OCTET_VALUES cause) _ (λ number.
    bound (IsBody LONGEST_DATA) (λ t. IsBody LONGEST_DATA t.2) (body_of LONGEST_DATA body) _ (is_body LONGEST_DATA body) (λ octets d. d)))
is_ending _ = tt

-- words of another number ask for nothing
form_askable : (f : RequestForm) (ws : List (List ℕ)) → on_connection (Some f) ≡ Some f → IfOk (request_of f (whole f ws)) Askable
form_askable form.Conn (tag ∷ class ∷ credit ∷ body ∷ []) on = conn_askable tag class credit body
form_askable form.Accept (reference ∷ class ∷ credit ∷ body ∷ []) on =
    after_any Askable (below REFERENCES reference) _ (λ mine.
    bound IsClass Askable (class_of class) _ (is_class class) (λ number c.
    bound IsCredit Askable (below CREDITS credit) _ (is_credit credit) (λ granted g.
    bound (IsBody LONGEST_DATA) Askable (body_of LONGEST_DATA body) _ (is_body LONGEST_DATA body) (λ octets d. both_true (both_true c g) d))))
form_askable form.Refuse ws on = bound (λ t. IsBody LONGEST_DATA t.2) Askable (ending_of ws) _ (is_ending ws) (λ t d. d)
form_askable form.Send (reference ∷ body ∷ []) on =
    after_any Askable (below REFERENCES reference) _ (λ mine.
    bound (IsText LONGEST_TEXT) Askable (text_of LONGEST_TEXT body) _ (is_text LONGEST_TEXT body) (λ octets d. d))
form_askable form.Expedite (reference ∷ body ∷ []) on =
    after_any Askable (below REFERENCES reference) _ (λ mine.
    bound (IsText LONGEST_EXPEDITED) Askable (text_of LONGEST_EXPEDITED body) _ (is_text LONGEST_EXPEDITED body) (λ octets d. d))
form_askable form.Reset (reference ∷ []) on = after_any Askable (below REFERENCES reference) _ (λ mine. refl)
form_askable form.Disc ws on = bound (λ t. IsBody LONGEST_DATA t.2) Askable (ending_of ws) _ (is_ending ws) (λ t d. d)
form_askable form.Unit ws on = absurd (cc)
form_askable form.Coord ws on = absurd (cc)
form_askable form.Grant ws on = absurd (cc)
form_askable _ _ on = tt

pub asked_askable : (f : RequestForm) (ws : List (List ℕ)) (r : Request) → on_connection (Some f) ≡ Some f → request_of f (whole f ws) ≡ Ok r → IsTrue (is_askable r)
asked_askable f ws r on e = IfOk-at_ok Askable e (form_askable f ws on)
