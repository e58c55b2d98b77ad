-- The lines of outputs, one after the other, beside those of a text.
use Rattle.std.proofs.Common.{◌≡◌, ℕ, ◌+◌, ◌-◌, ◌<◌, ◌≤◌, ◌&&◌, suc, Bool, true, false, List, [], ◌∷◌, ◌++◌, length, length-append, map, take, drop, get_or, refl, sym, ap, ◌∙◌, arith}
use Rattle.std.proofs.Math.Seq.{take-append_seam}
use Rattle.std.proofs.lemmas.List.{at_drop_more, at_drop_all}
use Rattle.std.specs.Borrow.{Bor}
use Rattle.relay_base.specs.declared.words.Output.{Output}
use Rattle.journal_text.specs.Print.{output_line}
use Rattle.book_output.specs.Print.{line_of_output}
use Rattle.journal_form.specs.Words.{same}
use Rattle.journal_form.specs.Inner.Seen.{texts}
use Rattle.journal_finding.specs.Entries.{same_lines}

-- a text without its last octet
but_last : (text : List ℕ) (last : ℕ) → take (length (text ++ last ∷ []) - 1) (text ++ last ∷ []) ≡ text
but_last text last =
    let size = length-append text (last ∷ []) in
    let front : length (text ++ last ∷ []) - 1 ≡ length text = omega (arith, size) in
    ap (λ n. take n (text ++ last ∷ [])) front ∙ take-append_seam text (last ∷ [])

-- the line of an output, without its line feed
pub line_is : (o : Output) → take (length (output_line o) - 1) (output_line o) ≡ line_of_output o
line_is o = but_last (line_of_output o) 10

-- the lines of outputs are these
abbrev pub alike : List Output → List (Bor (List ℕ)) → Bool
alike outs lines = same_lines (map line_of_output outs) (texts lines)

and-false : (b : Bool) → (b && false) ≡ false
and-false true = refl
and-false false = refl

-- lines of another number
pub others : (outs : List Output) (lines : List (Bor (List ℕ))) → (length outs ≡ length lines → ⊥) → alike outs lines ≡ false
others [] [] h = absurd (h refl)
others [] (line ∷ more) h = refl
others (o ∷ outs) [] h = refl
others (o ∷ outs) (line ∷ more) h =
    let here = same (line_of_output o) line.now in ap (λ b. here && b) (others outs more (λ e. h (ap suc e))) ∙ and-false here

-- those from one on
pub alike_more : (outs : List Output) (lines : List (Bor (List ℕ))) (n : ℕ) (o : Output) (line : Bor (List ℕ)) → n < length outs → n < length lines → o ≡ get_or outs n o → line ≡ get_or lines n line
    → alike (drop n outs) (drop n lines) ≡ (same (line_of_output o) line.now && alike (drop (n + 1) outs) (drop (n + 1) lines))
alike_more outs lines n o line lt within is stands =
    at_drop_more (λ l. alike l (drop n lines)) outs n o lt
    ∙ at_drop_more (λ l. alike (get_or outs n o ∷ drop (n + 1) outs) l) lines n line within
    ∙ ap (λ x. same (line_of_output x) (get_or lines n line).now && alike (drop (n + 1) outs) (drop (n + 1) lines)) (sym is)
    ∙ ap (λ (x : Bor (List ℕ)). same (line_of_output o) x.now && alike (drop (n + 1) outs) (drop (n + 1) lines)) (sym stands)

-- behind the last one
pub alike_all : (outs : List Output) (lines : List (Bor (List ℕ))) (n : ℕ) → length outs ≤ n → length lines ≤ n → alike (drop n outs) (drop n lines) ≡ true
alike_all outs lines n past behind = at_drop_all (λ l. alike l (drop n lines)) outs n past ∙ at_drop_all (λ l. alike [] l) lines n behind
