-- The place behind the mark, octet by octet.
use Rattle.std.proofs.Common.{◌≡◌, ◌∙◌, ℕ, suc, ◌+◌, ◌-◌, ◌<◌, ◌≤◌, ◌==◌, Bool, true, false, List, [], ◌∷◌, ◌++◌, length, take, drop, get_or, sym, ap, arith, length-drop}
use Rattle.std.specs.Prelude.{Option, Some}
use Rattle.std.proofs.Math.Seq.{take-suc}
use Rattle.std.proofs.lemmas.List.{at_drop_more, get_or-drop}
use Rattle.m3ua_capture.specs.Streams.{is_mark, mark_end}

-- the line that stands, of which the first octet has a place
abbrev pub standing : List ℕ → ℕ → ℕ → List ℕ
standing bytes line i = take (i - line) (drop line bytes)

-- what is left to look at
abbrev pub looking : List ℕ → ℕ → ℕ → Option ℕ
looking bytes line i = mark_end i (standing bytes line i) (drop i bytes)

abbrev ends_line : List ℕ → ℕ → List ℕ → Bool → Option ℕ
ends_line bytes i line t = elim t [ true ↦ Some (i + 1) | false ↦ mark_end (i + 1) [] (drop (i + 1) bytes) ]

abbrev by_feed : List ℕ → ℕ → List ℕ → ℕ → Bool → Option ℕ
by_feed bytes i line b t = elim t [ true ↦ ends_line bytes i line (is_mark line) | false ↦ mark_end (i + 1) (line ++ b ∷ []) (drop (i + 1) bytes) ]

reached : (bytes : List ℕ) (line i b : ℕ) → i < length bytes → b ≡ get_or bytes i 0 → looking bytes line i ≡ by_feed bytes i (standing bytes line i) b (b == 10)
reached bytes line i b lt is =
    at_drop_more (mark_end i (standing bytes line i)) bytes i 0 lt
    ∙ ap (λ c. mark_end i (standing bytes line i) (c ∷ drop (i + 1) bytes)) (sym is)

longer : (bytes : List ℕ) (line i b : ℕ) → line ≤ i → i < length bytes → b ≡ get_or bytes i 0 → standing bytes line (i + 1) ≡ standing bytes line i ++ b ∷ []
longer bytes line i b least lt is =
    let more : i + 1 - line ≡ suc (i - line) = omega (arith, least) in
    let place : line + (i - line) ≡ i = omega (arith, least) in
    ap (λ n. take n (drop line bytes)) more
    ∙ take-suc (drop line bytes) (i - line) 0 (omega (arith, least, lt, length-drop line bytes))
    ∙ ap (λ c. standing bytes line i ++ c ∷ []) (get_or-drop line bytes (i - line) 0 ∙ ap (λ n. get_or bytes n 0) place ∙ sym is)

pub looks_on : (bytes : List ℕ) (line i b : ℕ) → line ≤ i → i < length bytes → b ≡ get_or bytes i 0 → (b == 10) ≡ false → looking bytes line (i + 1) ≡ looking bytes line i
looks_on bytes line i b least lt is other =
    ap (λ l. mark_end (i + 1) l (drop (i + 1) bytes)) (longer bytes line i b least lt is)
    ∙ sym (reached bytes line i b lt is ∙ ap (by_feed bytes i (standing bytes line i) b) other)

feed : (bytes : List ℕ) (line i b : ℕ) (t : Bool) → i < length bytes → b ≡ get_or bytes i 0 → (b == 10) ≡ true → is_mark (standing bytes line i) ≡ t
    → looking bytes line i ≡ ends_line bytes i (standing bytes line i) t
feed bytes line i b t lt is ends mark =
    reached bytes line i b lt is ∙ ap (by_feed bytes i (standing bytes line i) b) ends ∙ ap (ends_line bytes i (standing bytes line i)) mark

pub starts_line : (bytes : List ℕ) (line i b : ℕ) → i < length bytes → b ≡ get_or bytes i 0 → (b == 10) ≡ true → is_mark (standing bytes line i) ≡ false
    → looking bytes (i + 1) (i + 1) ≡ looking bytes line i
starts_line bytes line i b lt is ends mark =
    let none : i + 1 - (i + 1) ≡ 0 = omega arith in
    ap (λ n. mark_end (i + 1) (take n (drop (i + 1) bytes)) (drop (i + 1) bytes)) none
    ∙ sym (feed bytes line i b false lt is ends mark)

pub finds_mark : (bytes : List ℕ) (line i b : ℕ) → i < length bytes → b ≡ get_or bytes i 0 → (b == 10) ≡ true → is_mark (standing bytes line i) ≡ true
    → looking bytes line i ≡ Some (i + 1)
finds_mark bytes line i b lt is ends mark = feed bytes line i b true lt is ends mark
