-- The lines of outputs.
use Rattle.std.proofs.Common.{◌≡◌, ◌∙◌, ℕ, zero, suc, ◌&&◌, ◌||◌, Bool, true, false, List, [], ◌∷◌, codes, map, Option, Some, None, refl, ap, arith}
use Rattle.std.proofs.lemmas.Bool.{eq-eqb}
use Rattle.std.specs.Fmt.{decimal}
use Rattle.relay_base.specs.declared.words.Reason.{Reason}
use Rattle.relay_base.specs.declared.words.Reason.TheVariants as reason
use Rattle.relay_base.specs.declared.words.ReadFault.{ReadFault}
use Rattle.relay_base.specs.declared.words.ReadFault.TheVariants as fault
use Rattle.relay_base.specs.declared.words.Tell.{Tell}
use Rattle.relay_base.specs.declared.words.Tell.TheVariants as tell
use Rattle.relay_base.specs.declared.words.Lost.{Lost}
use Rattle.relay_base.specs.declared.words.Lost.TheVariants as lost
use Rattle.relay_base.specs.declared.words.Output.TheVariants as output
use Rattle.journal_text.specs.Print.{spaced, octets_text, optional_text, up_text, reason_text}
use Rattle.book_output.specs.Print.{line_of_output}
use Rattle.journal_form.specs.Words.{same, is_octets}
use Rattle.journal_form.specs.Outputs.{Field, Is, Number, Octets, Way, Reason as OfReason, is_way, is_reason, is_in, fit, fit_any, told_shapes, lost_shapes, is_output, are_of_output, is_output_line}
use Rattle.printable_law.specs.Written as written
use Rattle.printable_law.specs.Written.{IsWritable, AreWritable, optional, of_tell, of_read_fault, of_lost, of_output}
use Rattle.printable_law.specs.FormLaw.{OutputsHaveForm}
use Rattle.printable_law.proofs.FormWords.{is_without, AreWithout, joined_parted}
use Rattle.printable_law.proofs.Fields.{number_is, number_without, octets_is, octets_without}

-- ---- words of each field

pub same_self : (word : List ℕ) → same word word ≡ true
same_self [] = refl
same_self (b ∷ bs) = ap (λ t. t && same bs bs) (eq-eqb b b refl) ∙ same_self bs

-- a word that may stand in a field, without a space in it
record Piece : Type 0 where
  field : Field
  word : List ℕ
  is : is_in field word ≡ true
  dark : is_without 32 word ≡ true

this : (word : List ℕ) → is_without 32 word ≡ true → Piece
this word h = record { field = Is word; word = word; is = same_self word; dark = h }

number : (n : ℕ) → IsWritable (written.Number n) → Piece
number n h = record { field = Number; word = decimal n; is = number_is n h; dark = number_without 32 n (omega arith) }

octets : (bs : List ℕ) → IsWritable (written.Octets bs) → Piece
octets bs h = record { field = Octets; word = octets_text bs; is = octets_is bs h; dark = octets_without 32 bs (omega arith) h }

maybe : (bs : Option (List ℕ)) → IsWritable (optional bs) → Piece
maybe bs h = record { field = Octets; word = optional_text bs; is = is bs h; dark = dark bs h }
  where
    is : (bs : Option (List ℕ)) → IsWritable (optional bs) → is_octets (optional_text bs) ≡ true
    is None h = refl
    is (Some bs) h = octets_is bs h

    dark : (bs : Option (List ℕ)) → IsWritable (optional bs) → is_without 32 (optional_text bs) ≡ true
    dark None h = refl
    dark (Some bs) h = octets_without 32 bs (omega arith) h

way : (up : Bool) → Piece
way up = record { field = Way; word = up_text up; is = is up; dark = dark up }
  where
    is : (up : Bool) → is_way (up_text up) ≡ true
    is true = refl
    is false = refl

    dark : (up : Bool) → is_without 32 (up_text up) ≡ true
    dark true = refl
    dark false = refl

reason_is : (r : Reason) → is_reason (reason_text r) ≡ true
reason_is reason.Owner = refl
reason_is _ = refl

reason_dark : (r : Reason) → is_without 32 (reason_text r) ≡ true
reason_dark reason.Owner = refl
reason_dark _ = refl

why : Reason → Piece
why r = record { field = OfReason; word = reason_text r; is = reason_is r; dark = reason_dark r }

-- ---- the words of one of the shapes

abbrev fields_of : List Piece → List Field
fields_of pieces = map (λ (p : Piece). p.field) pieces

abbrev words_of : List Piece → List (List ℕ)
words_of pieces = map (λ (p : Piece). p.word) pieces

fit_pieces : (pieces : List Piece) → fit (fields_of pieces) (words_of pieces) ≡ true
fit_pieces [] = refl
fit_pieces (p ∷ pieces) = ap (λ t. t && fit (fields_of pieces) (words_of pieces)) p.is ∙ fit_pieces pieces

dark_pieces : (pieces : List Piece) → AreWithout 32 (words_of pieces)
dark_pieces [] = tt
dark_pieces (p ∷ pieces) = (p.dark, dark_pieces pieces)

-- this shape is the one with that number
abbrev IsAt : ℕ → List (List Field) → List Field → Type 0
IsAt k [] shape = ⊥
IsAt zero (first ∷ shapes) shape = first ≡ shape
IsAt (suc k) (first ∷ shapes) shape = IsAt k shapes shape

pub or_true : (t : Bool) → (t || true) ≡ true
or_true true = refl
or_true false = refl

any_at : (k : ℕ) (shapes : List (List Field)) (pieces : List Piece) → IsAt k shapes (fields_of pieces) → fit_any shapes (words_of pieces) ≡ true
any_at k [] pieces at = absurd at
any_at zero (first ∷ shapes) pieces at =
    ap (λ t. t || fit_any shapes (words_of pieces)) (ap (λ s. fit s (words_of pieces)) at ∙ fit_pieces pieces)
any_at (suc k) (first ∷ shapes) pieces at = ap (λ t. fit first (words_of pieces) || t) (any_at k shapes pieces at) ∙ or_true (fit first (words_of pieces))

output_line : (first : Piece) (more : List Piece) → is_output (words_of (first ∷ more)) ≡ true → is_output_line (spaced ([] ∷ words_of (first ∷ more))) ≡ true
unfolding is_output_line
output_line first more h = ap are_of_output (joined_parted 32 [] (words_of (first ∷ more)) (refl, dark_pieces (first ∷ more))) ∙ h

front : (first : Piece) (more : List Piece) (k : ℕ) → IsAt k told_shapes (fields_of (first ∷ more)) → is_output_line (spaced ([] ∷ words_of (first ∷ more))) ≡ true
unfolding is_output
front first more k at = output_line first more (ap (λ t. t || fit_any lost_shapes (words_of (first ∷ more))) (any_at k told_shapes (first ∷ more) at))

back : (first : Piece) (more : List Piece) (k : ℕ) → IsAt k lost_shapes (fields_of (first ∷ more)) → is_output_line (spaced ([] ∷ words_of (first ∷ more))) ≡ true
unfolding is_output
back first more k at =
    output_line first more (ap (λ t. fit_any told_shapes (words_of (first ∷ more)) || t) (any_at k lost_shapes (first ∷ more) at) ∙ or_true (fit_any told_shapes (words_of (first ∷ more))))

-- ---- outputs

abbrev told_line : ℕ → Tell → Type 0
told_line ssn t = AreWritable (of_output (output.Told ssn t)) → is_output_line (line_of_output (output.Told ssn t)) ≡ true

told : (ssn : ℕ) (t : Tell) → told_line ssn t
unfolding told_shapes this number octets maybe way why
told ssn (tell.Unit class called calling body) h =
    front (this (codes "<") refl) (number ssn h.0 ∷ this (codes "unit") refl ∷ number class h.1.0 ∷ octets called h.1.1.0 ∷ octets calling h.1.1.1.0 ∷ octets body h.1.1.1.1.0 ∷ []) 1 refl
told ssn (tell.Notice cause called calling body) h =
    front (this (codes "<") refl) (number ssn h.0 ∷ this (codes "notice") refl ∷ number cause h.1.0 ∷ octets called h.1.1.0 ∷ octets calling h.1.1.1.0 ∷ octets body h.1.1.1.1.0 ∷ []) 2 refl
told ssn (tell.Conn mine class credit called calling body) h =
    front (this (codes "<") refl)
    (number ssn h.0 ∷ this (codes "conn") refl ∷ number mine h.1.0 ∷ number class h.1.1.0 ∷ number credit h.1.1.1.0
    ∷ octets called h.1.1.1.1.0 ∷ maybe calling h.1.1.1.1.1.0 ∷ maybe body h.1.1.1.1.1.1.0 ∷ []) 3 refl
told ssn (tell.Named tag mine) h = front (this (codes "<") refl) (number ssn h.0 ∷ this (codes "ref") refl ∷ number tag h.1.0 ∷ number mine h.1.1.0 ∷ []) 4 refl
told ssn (tell.NotMade tag cause) h = front (this (codes "<") refl) (number ssn h.0 ∷ this (codes "not-made") refl ∷ number tag h.1.0 ∷ number cause h.1.1.0 ∷ []) 5 refl
told ssn (tell.Confirm mine class credit called body) h =
    front (this (codes "<") refl)
    (number ssn h.0 ∷ this (codes "confirm") refl ∷ number mine h.1.0 ∷ number class h.1.1.0 ∷ number credit h.1.1.1.0
    ∷ maybe called h.1.1.1.1.0 ∷ maybe body h.1.1.1.1.1.0 ∷ []) 6 refl
told ssn (tell.Text mine body) h = front (this (codes "<") refl) (number ssn h.0 ∷ this (codes "text") refl ∷ number mine h.1.0 ∷ octets body h.1.1.0 ∷ []) 7 refl
told ssn (tell.Expedited mine body) h = front (this (codes "<") refl) (number ssn h.0 ∷ this (codes "ed") refl ∷ number mine h.1.0 ∷ octets body h.1.1.0 ∷ []) 8 refl
told ssn (tell.Renewed mine cause) h = front (this (codes "<") refl) (number ssn h.0 ∷ this (codes "reset") refl ∷ number mine h.1.0 ∷ number cause h.1.1.0 ∷ []) 9 refl
told ssn (tell.ResetDone mine) h = front (this (codes "<") refl) (number ssn h.0 ∷ this (codes "reset-done") refl ∷ number mine h.1.0 ∷ []) 10 refl
told ssn (tell.Disc mine cause body) h = front (this (codes "<") refl) (number ssn h.0 ∷ this (codes "disc") refl ∷ number mine h.1.0 ∷ number cause h.1.1.0 ∷ maybe body h.1.1.1.0 ∷ []) 11 refl
told ssn (tell.State user point up) h = front (this (codes "<") refl) (number ssn h.0 ∷ this (codes "state") refl ∷ number user h.1.0 ∷ number point h.1.1.0 ∷ way up ∷ []) 12 refl
told ssn (tell.Point point up) h = front (this (codes "<") refl) (number ssn h.0 ∷ this (codes "point") refl ∷ number point h.1.0 ∷ way up ∷ []) 13 refl
told ssn (tell.Coord point) h = front (this (codes "<") refl) (number ssn h.0 ∷ this (codes "coord") refl ∷ number point h.1.0 ∷ []) 14 refl
told ssn (tell.Granted point) h = front (this (codes "<") refl) (number ssn h.0 ∷ this (codes "granted") refl ∷ number point h.1.0 ∷ []) 15 refl
told ssn (tell.Denied point) h = front (this (codes "<") refl) (number ssn h.0 ∷ this (codes "denied") refl ∷ number point h.1.0 ∷ []) 16 refl
told ssn (tell.No reason) h = front (this (codes "<") refl) (number ssn h.0 ∷ this (codes "no") refl ∷ why reason ∷ []) 17 refl

abbrev lost_line : Lost → Type 0
lost_line l = AreWritable (of_output (output.Lost l)) → is_output_line (line_of_output (output.Lost l)) ≡ true

bare : (word : List ℕ) → is_without 32 word ≡ true → (k : ℕ) → IsAt k lost_shapes (Is (codes ".") ∷ Is word ∷ []) → is_output_line (spaced ([] ∷ codes "." ∷ word ∷ [])) ≡ true
unfolding this
bare word h k at = back (this (codes ".") refl) (this word h ∷ []) k at

unread : (f : ReadFault) → lost_line (lost.Read f)
unfolding lost_shapes this number
unread fault.Empty h = back (this (codes ".") refl) (this (codes "read") refl ∷ this (codes "1") refl ∷ []) 0 refl
unread (fault.UnknownType octet) h = back (this (codes ".") refl) (this (codes "read") refl ∷ this (codes "2") refl ∷ number octet h.0 ∷ []) 1 refl
unread fault.Short h = back (this (codes ".") refl) (this (codes "read") refl ∷ this (codes "3") refl ∷ []) 2 refl
unread (fault.PointerOut place) h = back (this (codes ".") refl) (this (codes "read") refl ∷ this (codes "4") refl ∷ number place h.0 ∷ []) 3 refl
unread (fault.ValueLength name) h = back (this (codes ".") refl) (this (codes "read") refl ∷ this (codes "5") refl ∷ number name h.0 ∷ []) 4 refl

lost_is : (l : Lost) → lost_line l
unfolding lost_shapes this number
lost_is (lost.Read fault) h = unread fault h
lost_is (lost.Cause cause) h = back (this (codes ".") refl) (this (codes "cause") refl ∷ number cause h.0 ∷ []) 5 refl
lost_is lost.Long h = bare (codes "long") refl 6 refl
lost_is lost.Address h = bare (codes "address") refl 7 refl
lost_is lost.Class h = bare (codes "class") refl 8 refl
lost_is lost.Point h = bare (codes "point") refl 9 refl
lost_is lost.State h = bare (codes "state") refl 10 refl
lost_is lost.Stray h = bare (codes "stray") refl 11 refl
lost_is lost.Segment h = bare (codes "segment") refl 12 refl
lost_is lost.Manage h = bare (codes "manage") refl 13 refl
lost_is lost.Same h = bare (codes "same") refl 14 refl
lost_is lost.Duplicate h = bare (codes "duplicate") refl 15 refl
lost_is lost.RowsFull h = bare (codes "rows-full") refl 16 refl
lost_is lost.NoRow h = bare (codes "no-row") refl 17 refl

sent : (point sls : ℕ) (bytes : List ℕ) → AreWritable (of_output (output.Sent point sls bytes)) → is_output_line (line_of_output (output.Sent point sls bytes)) ≡ true
unfolding told_shapes this number octets
sent point sls bytes h = front (this (codes ">") refl) (number point h.0 ∷ number sls h.1.0 ∷ octets bytes h.1.1.0 ∷ []) 0 refl

pub outputs_have_form : OutputsHaveForm
outputs_have_form (output.Sent point sls bytes) h = sent point sls bytes h
outputs_have_form (output.Told ssn tell) h = told ssn tell h
outputs_have_form (output.Lost lost) h = lost_is lost h
