-- How many lines an input has.
use Rattle.std.proofs.Common.{◌≡◌, ℕ, zero, suc, ◌+◌, ◌≤◌, Bool, true, false, cond, List, [], ◌∷◌, length, drop, Option, Some, None, option_map, Result, Ok, Err, ap, subst, arith}
use Rattle.std.proofs.lemmas.List.{length-map}
use Rattle.bstr.specs.Text.{lines_from, lines_of, line_len, without_terminator}
use Rattle.relay_base.specs.Giving.{◌>>=◌}
use Rattle.node_head.specs.Lines.{lines, halves, is_mark, joined}
use Rattle.node_head.specs.Head.{begun, head_of_text}
use Rattle.node_head.specs.declared.head.Head.{Head}
use Rattle.node_head.specs.declared.fault.HeadFault.{HeadFault}
use Rattle.capture_form.specs.Capture.{at_head}

length-lines_from : (n : ℕ) (bs : List ℕ) → length (lines_from n bs) ≤ n
unfolding lines_from
length-lines_from zero bs = omega arith
length-lines_from (suc n) [] = omega arith
length-lines_from (suc n) (b ∷ rest) = omega (arith, length-lines_from n (drop (line_len (b ∷ rest)) (b ∷ rest)))

-- an input has no more lines than octets
pub length-lines : (bytes : List ℕ) → length (lines bytes) ≤ length bytes
length-lines bytes = omega (arith, length-map (lines_of bytes) without_terminator, length-lines_from (length bytes) bytes)

-- ---- the lines before the mark and those after it

abbrev Halves : Type 0
Halves = Option (List (List ℕ) × List (List ℕ))

abbrev HasLength : ℕ → Halves → Type 0
HasLength n None = Unit {0}
HasLength n (Some h) = length h.0 + 1 + length h.1 ≡ n

halves-step : (t : Bool) (line : List ℕ) (more : List (List ℕ)) (found : Halves) → HasLength (length more) found
    → HasLength (1 + length more) (cond t (Some ([], more)) (option_map (λ h. (line ∷ h.0, h.1)) found))
halves-step true line more found h = omega arith
halves-step false line more None h = tt
halves-step false line more (Some f) h = omega (arith, h)

length-halves : (ls : List (List ℕ)) → HasLength (length ls) (halves ls)
unfolding halves
length-halves [] = tt
length-halves (line ∷ more) = subst (λ n. HasLength n (halves (line ∷ more))) (omega arith) (halves-step (is_mark line) line more (halves more) (length-halves more))

abbrev Parts : Type 0
Parts = Head × ℕ × List (List ℕ)

abbrev parts : Head → List (List ℕ) × List (List ℕ) → Parts
parts found f = (found, length f.0, f.1)

abbrev parts_of : List (List ℕ) × List (List ℕ) → Head → Result Parts HeadFault
parts_of f found = Ok (parts found f)

begun-step : (n : ℕ) (f : List (List ℕ) × List (List ℕ)) (r : Result Head HeadFault) (head : Head) (count : ℕ) (rest : List (List ℕ)) → length f.0 + 1 + length f.1 ≡ n
    → (r >>= parts_of f) ≡ Ok (head, count, rest) → count + 1 + length rest ≡ n
begun-step n f (Err fault) head count rest h e = absurd (cc)
begun-step n f (Ok found) head count rest h e =
    let same : parts found f ≡ (head, count, rest) = cc in
    let before : length f.0 ≡ count = ap (λ (p : Parts). p.1) same in
    let after : length f.1 ≡ length rest = ap (λ (p : Parts). length p.2) same in
    omega (arith, h, before, after)

begun-at : (n : ℕ) (found : Halves) (head : Head) (count : ℕ) (rest : List (List ℕ)) → HasLength n found → begun found ≡ Ok (head, count, rest) → count + 1 + length rest ≡ n
begun-at n None head count rest h e = absurd (cc)
begun-at n (Some f) head count rest h e = begun-step n f (head_of_text (joined f.0)) head count rest h e

headed : (r : Result Parts HeadFault) (p : Parts) → at_head r ≡ Ok p → r ≡ Ok p
headed (Ok q) p e = let same : q ≡ p = cc in ap Ok same
headed (Err f) p e = absurd (cc)

-- the lines of a head, its mark, and the lines after it are all lines
pub length-begun : (ls : List (List ℕ)) (head : Head) (count : ℕ) (rest : List (List ℕ)) → begun (halves ls) ≡ Ok (head, count, rest) → count + 1 + length rest ≡ length ls
length-begun ls head count rest e = begun-at (length ls) (halves ls) head count rest (length-halves ls) e

-- the lines behind a head end before this number
pub most-lines : (bytes : List ℕ) (ls rest : List (List ℕ)) (head : Head) (count : ℕ) → ls ≡ lines bytes
    → at_head (begun (halves ls)) ≡ Ok (head, count, rest) → count + 2 + length rest ≤ length bytes + 1
most-lines bytes ls rest head count e h =
    omega (arith, length-begun ls head count rest (headed (begun (halves ls)) (head, count, rest) h), ap length e, length-lines bytes)
