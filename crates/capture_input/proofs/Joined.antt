-- A capture and a text that stand in one input are found in it.
use Rattle.std.proofs.Common.{◌≡◌, ℕ, zero, suc, ◌-◌, ◌≤◌, nat_lt, Bool, true, false, cond, List, [], ◌∷◌, ◌++◌, length, map, slice_index, codes, Option, Some, None, option_map, Ok, Err, refl, ap, ap₂, ◌∙◌, arith, length-append, inr}
use Rattle.std.proofs.lemmas.Bool.Decides.{nat_tests}
use Rattle.bstr.specs.Text.{lines_from, lines_of, line_len, without_terminator}
use Rattle.bstr.proofs.lemmas.LineLemmas.{lines-append}
use Rattle.relay_base.specs.Giving.{◌>>=◌}
use Rattle.relay_base.specs.declared.limits.TheConstants.{MOST_BYTES}
use Rattle.node_head.specs.Lines.{lines, halves as head_halves}
use Rattle.node_head.specs.Head.{begun}
use Rattle.capture_form.specs.Capture.{at_head, capture_from, capture_of}
use Rattle.capture_form.specs.declared.capture.Capture.{Capture}
use Rattle.capture_form.specs.declared.fault.CaptureFault.TheVariants as refused
use Rattle.capture_form.specs.declared.fault.Limit.TheVariants.{Bytes}
use Rattle.capture_input.specs.Audit.{is_line, halves, octets_of, parts_of, audit_of}
use Rattle.capture_input.specs.AuditLaw.{joined, JoinedReadsBack}
use Rattle.capture_input.proofs.PartLemmas.{lines_whole}

-- ---- the lines of the input

-- the line that parts it
abbrev parting : List ℕ
parting = codes "%%%" ++ 10 ∷ []

lines-parting : lines_of parting ≡ parting ∷ []
unfolding lines_from line_len
lines-parting = refl

feed : (front : List ℕ) (k : ℕ) → k ≡ length front → slice_index (front ++ 10 ∷ []) k ≡ 10
feed [] zero e = refl
feed [] (suc k) e = absurd (omega (arith, e))
feed (b ∷ bs) zero e = absurd (omega (arith, e))
feed (b ∷ bs) (suc k) e = feed bs k (omega (arith, e))

lines-joined : (front text : List ℕ) → lines_of (joined (front ++ 10 ∷ []) text) ≡ lines_of (front ++ 10 ∷ []) ++ parting ∷ lines_of text
lines-joined front text =
    let octets = front ++ 10 ∷ [] in
    let ends : slice_index octets (length octets - 1) ≡ 10 = feed front (length octets - 1) (omega (arith, length-append front (10 ∷ []))) in
    lines-append (length octets) octets (parting ++ text) (omega arith) (inr ends)
    ∙ ap (λ l. lines_of octets ++ l) (lines-append 4 parting text (omega arith) (inr refl) ∙ ap (λ l. l ++ lines_of text) lines-parting)

-- ---- the parts of the lines

abbrev Halves : Type 0
Halves = Option (List (List ℕ) × List (List ℕ))

abbrev behind : List ℕ → Halves → Halves
behind line found = option_map (λ h. (line ∷ h.0, h.1)) found

nothing : {A B : Type 0} (f : A → B) (o : Option A) → option_map f o ≡ None → o ≡ None
nothing f None e = refl
nothing f (Some x) e = absurd (cc)

-- what is found in lines where nothing was, with the line that parts them and others behind
abbrev Finds : Bool → List (List ℕ) → List (List ℕ) → Type 0
Finds headed ls rest = halves headed (ls ++ parting ∷ rest) ≡ Some (ls, rest)

text_step : (t : Bool) (line : List ℕ) (more rest tail : List (List ℕ)) (found after : Halves) → (found ≡ None → after ≡ Some (more, rest))
    → cond t (Some ([], more)) (behind line found) ≡ None → cond t (Some ([], tail)) (behind line after) ≡ Some (line ∷ more, rest)
text_step true line more rest tail found after h e = absurd (cc)
text_step false line more rest tail found after h e = ap (behind line) (h (nothing (λ (h : List (List ℕ) × List (List ℕ)). (line ∷ h.0, h.1)) found e))

-- behind a mark
text_found : (ls rest : List (List ℕ)) → halves true ls ≡ None → Finds true ls rest
unfolding halves
text_found [] rest e = refl
text_found (line ∷ more) rest e =
    text_step (is_line (codes "%%%") line) line more rest (more ++ parting ∷ rest) (halves true more) (halves true (more ++ parting ∷ rest)) (text_found more rest) e

-- ---- the mark

abbrev HasMark : Halves → Type 0
HasMark None = ⊥
HasMark (Some h) = Unit {0}

marked : (line : List ℕ) (found : Halves) → HasMark (behind line found) → HasMark found
marked line None h = h
marked line (Some f) h = tt

abbrev head_halves_of : List (List ℕ) → Halves
head_halves_of ls = head_halves (map without_terminator ls)

mark_step : (t : Bool) (line bare : List ℕ) (more rest : List (List ℕ)) (found : Halves) → (halves false more ≡ None → HasMark found → Finds false more rest)
    → behind line (halves t more) ≡ None → HasMark (cond t (Some ([], map without_terminator more)) (behind bare found))
    → behind line (halves t (more ++ parting ∷ rest)) ≡ Some (line ∷ more, rest)
mark_step true line bare more rest found h e m = ap (behind line) (text_found more rest (nothing (λ (h : List (List ℕ) × List (List ℕ)). (line ∷ h.0, h.1)) (halves true more) e))
mark_step false line bare more rest found h e m =
    ap (behind line) (h (nothing (λ (h : List (List ℕ) × List (List ℕ)). (line ∷ h.0, h.1)) (halves false more) e) (marked bare found m))

-- lines that have one
found : (ls rest : List (List ℕ)) → halves false ls ≡ None → HasMark (head_halves_of ls) → Finds false ls rest
unfolding halves head_halves
found [] rest e h = absurd h
found (line ∷ more) rest e h =
    mark_step (is_line (codes "%%") line) line (without_terminator line) more rest (head_halves_of more) (found more rest) e h

-- a capture has one
mark_of : (t : Bool) (found : Halves) (capture : Capture) → cond t (Err (refused.TooLong Bytes)) (at_head (begun found) >>= capture_from) ≡ Ok capture → HasMark found
mark_of true found capture e = absurd (cc)
mark_of false None capture e = absurd (cc)
mark_of false (Some h) capture e = tt

read_mark : (octets : List ℕ) (capture : Capture) → capture_of octets ≡ Ok capture → HasMark (head_halves (lines octets))
unfolding capture_of
read_mark octets capture e = mark_of (nat_lt MOST_BYTES (length octets)) (head_halves (lines octets)) capture e

-- ---- the law

not_less : (n m : ℕ) → n ≤ m → nat_lt m n ≡ false
not_less n m h = grind (arith, nat_tests)

parts : (front text : List ℕ) (capture : Capture) → capture_of (front ++ 10 ∷ []) ≡ Ok capture → parts_of (front ++ 10 ∷ []) ≡ None
    → parts_of (joined (front ++ 10 ∷ []) text) ≡ Some (front ++ 10 ∷ [], text)
parts front text capture read none =
    let octets = front ++ 10 ∷ [] in
    let empty : halves false (lines_of octets) ≡ None = nothing (λ (h : List (List ℕ) × List (List ℕ)). (octets_of h.0, octets_of h.1)) (halves false (lines_of octets)) none in
    ap (option_map (λ (h : List (List ℕ) × List (List ℕ)). (octets_of h.0, octets_of h.1)))
    (ap (halves false) (lines-joined front text) ∙ found (lines_of octets) (lines_of text) empty (read_mark octets capture read))
    ∙ ap₂ (λ a b. Some (a, b)) (lines_whole octets) (lines_whole text)

pub joined_reads_back : JoinedReadsBack
unfolding audit_of
joined_reads_back front text capture read none few =
    let octets = front ++ 10 ∷ [] in
    rw (not_less (length (joined octets text)) MOST_BYTES few, parts front text capture read none, read) refl
