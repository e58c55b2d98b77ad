-- What a user asks for in the words of a request is in its ranges.
use Rattle.std.proofs.Common.{ℕ, ◌<◌, List, [], ◌∷◌, arith}
use Rattle.std.specs.Prelude.{IfSome, IfOk}
use Rattle.relay_base.proofs.GivingLemmas.{bound}
use Rattle.relay_base.specs.declared.limits.TheConstants.{CREDITS, LINK_SELECTIONS, LONGEST_DATA, LONGEST_EXPEDITED, LONGEST_GIVEN_UNIT, LONGEST_TEXT, OCTET_VALUES, POINT_CODES, REFERENCES}
use Rattle.capture_form.specs.declared.requests.RequestForm.{RequestForm}
use Rattle.capture_form.specs.declared.requests.RequestForm.TheVariants as form
use Rattle.capture_form.specs.Requests.{unit_of, conn_of, ending_of, request_of}
use Rattle.capture_form.specs.Words.{below, class_of, called_of, calling_of, body_of, text_of}
use Rattle.printable_law.specs.OctetLaw.{IsOctet, AreOctets}
use Rattle.printable_law.specs.Ranges.{IsPoint, IsSelection, IsReference, IsTag, RequestInRange}
use Rattle.printable_law.proofs.Words.{below-in, class-in, called-in, calling-in, body-in, text-in}

unit-in : (sls class ret called calling body : List ℕ) → IfOk (unit_of sls class ret called calling body) RequestInRange
unit-in sls class ret called calling body =
    bound IsSelection RequestInRange (below LINK_SELECTIONS sls) _ (below-in LINK_SELECTIONS sls) (λ selection s.
    bound (λ n. n < 2) RequestInRange (below 2 class) _ (below-in 2 class) (λ number c.
    bound AreOctets RequestInRange (called_of called) _ (called-in called) (λ to t.
    bound (λ octets. IfSome octets AreOctets) RequestInRange (calling_of calling) _ (calling-in calling) (λ from f.
    bound AreOctets RequestInRange (body_of LONGEST_GIVEN_UNIT body) _ (body-in LONGEST_GIVEN_UNIT body) (λ octets are. (s, omega (arith, c), t, f, are))))))

conn-in : (tag class credit called body : List ℕ) → IfOk (conn_of tag class credit called body) RequestInRange
conn-in tag class credit called body =
    bound IsTag RequestInRange (below 65536 tag) _ (below-in 65536 tag) (λ name t.
    bound IsOctet RequestInRange (class_of class) _ (class-in class) (λ number c.
    bound (λ n. n < CREDITS) RequestInRange (below CREDITS credit) _ (below-in CREDITS credit) (λ granted g.
    bound AreOctets RequestInRange (called_of called) _ (called-in called) (λ to a.
    bound AreOctets RequestInRange (body_of LONGEST_DATA body) _ (body-in LONGEST_DATA body) (λ octets are. (t, c, omega (arith, g), a, are))))))

accept-in : (reference class credit body : List ℕ) → IfOk (request_of form.Accept (reference ∷ class ∷ credit ∷ body ∷ [])) RequestInRange
accept-in reference class credit body =
    bound IsReference RequestInRange (below REFERENCES reference) _ (below-in REFERENCES reference) (λ mine m.
    bound IsOctet RequestInRange (class_of class) _ (class-in class) (λ number c.
    bound (λ n. n < CREDITS) RequestInRange (below CREDITS credit) _ (below-in CREDITS credit) (λ granted g.
    bound AreOctets RequestInRange (body_of LONGEST_DATA body) _ (body-in LONGEST_DATA body) (λ octets are. (m, c, omega (arith, g), are)))))

-- what ends a connection has its ranges
abbrev EndingInRange : ℕ × ℕ × List ℕ → Type 0
EndingInRange ending = IsReference ending.0 × IsOctet ending.1 × AreOctets ending.2

ending-in : (words : List (List ℕ)) → IfOk (ending_of words) EndingInRange
ending-in (reference ∷ cause ∷ body ∷ []) =
    bound IsReference EndingInRange (below REFERENCES reference) _ (below-in REFERENCES reference) (λ mine m.
    bound IsOctet EndingInRange (below OCTET_VALUES cause) _ (below-in OCTET_VALUES cause) (λ number c.
    bound AreOctets EndingInRange (body_of LONGEST_DATA body) _ (body-in LONGEST_DATA body) (λ octets are. (m, c, are))))
ending-in _ = tt

send-in : (reference body : List ℕ) → IfOk (request_of form.Send (reference ∷ body ∷ [])) RequestInRange
send-in reference body =
    bound IsReference RequestInRange (below REFERENCES reference) _ (below-in REFERENCES reference) (λ mine m.
    bound AreOctets RequestInRange (text_of LONGEST_TEXT body) _ (text-in LONGEST_TEXT body) (λ octets are. (m, are)))

expedite-in : (reference body : List ℕ) → IfOk (request_of form.Expedite (reference ∷ body ∷ [])) RequestInRange
expedite-in reference body =
    bound IsReference RequestInRange (below REFERENCES reference) _ (below-in REFERENCES reference) (λ mine m.
    bound AreOctets RequestInRange (text_of LONGEST_EXPEDITED body) _ (text-in LONGEST_EXPEDITED body) (λ octets are. (m, are)))

reset-in : (reference : List ℕ) → IfOk (request_of form.Reset (reference ∷ [])) RequestInRange
reset-in reference = bound IsReference RequestInRange (below REFERENCES reference) _ (below-in REFERENCES reference) (λ mine m. m)

pub request-in : (f : RequestForm) (more : List (List ℕ)) → IfOk (request_of f more) RequestInRange
request-in form.Unit (sls ∷ class ∷ ret ∷ called ∷ calling ∷ body ∷ []) = unit-in sls class ret called calling body
request-in form.Conn (tag ∷ class ∷ credit ∷ called ∷ body ∷ []) = conn-in tag class credit called body
request-in form.Accept (reference ∷ class ∷ credit ∷ body ∷ []) = accept-in reference class credit body
request-in form.Refuse words = bound EndingInRange RequestInRange (ending_of words) _ (ending-in words) (λ ending in_range. in_range)
request-in form.Send (reference ∷ body ∷ []) = send-in reference body
request-in form.Expedite (reference ∷ body ∷ []) = expedite-in reference body
request-in form.Reset (reference ∷ []) = reset-in reference
request-in form.Disc words = bound EndingInRange RequestInRange (ending_of words) _ (ending-in words) (λ ending in_range. in_range)
request-in form.Coord [] = tt
request-in form.Grant (point ∷ []) = bound IsPoint RequestInRange (below POINT_CODES point) _ (below-in POINT_CODES point) (λ to t. t)
request-in _ _ = tt
