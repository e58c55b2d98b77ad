-- The two parts of an input, line by line.
use Rattle.std.proofs.Common.{◌≡◌, ℕ, zero, suc, ◌+◌, ◌-◌, ◌≤◌, ◌&&◌, ◌||◌, Bool, true, false, List, [], ◌∷◌, ◌++◌, length, take, drop, codes, Option, Some, None, option_map, refl, sym, ap, ap₂, ◌∙◌, arith, append_assoc, append-nil, length-append}
use Rattle.std.proofs.lemmas.List.{length-drop, length-take-le, take-append-drop, take_all, take_at, drop_at}
use Rattle.bstr.specs.Text.{lines_from, lines_of, line_len}
use Rattle.bstr.proofs.lemmas.LineLemmas.{line_len-bounds}
use Rattle.capture_input.specs.Audit.{is_line, halves, octets_of, parts_of}

-- ---- octets of lines

whole_from : (n : ℕ) (bs : List ℕ) → length bs ≤ n → octets_of (lines_from n bs) ≡ bs
unfolding lines_from
whole_from zero [] h = refl
whole_from zero (b ∷ bs) h = absurd (omega (arith, h))
whole_from (suc n) [] h = refl
whole_from (suc n) (b ∷ bs) h =
    let k = line_len (b ∷ bs) in
    let less : length (drop k (b ∷ bs)) ≤ n = omega (arith, h, length-drop k (b ∷ bs), line_len-bounds (b ∷ bs) (omega arith)) in
    ap (λ l. take k (b ∷ bs) ++ l) (whole_from n (drop k (b ∷ bs)) less) ∙ take-append-drop k (b ∷ bs)

-- the lines of some octets have these octets
pub lines_whole : (bs : List ℕ) → octets_of (lines_of bs) ≡ bs
lines_whole bs = whole_from (length bs) bs (omega arith)

-- ---- what stands behind octets

-- the octets passed with those before the line `%%%` to come, and those behind it
abbrev pub parts_from : List ℕ → Bool → List (List ℕ) → Option (List ℕ × List ℕ)
parts_from passed headed ls = option_map (λ h. (passed ++ octets_of h.0, octets_of h.1)) (halves headed ls)

-- so many octets were passed: with those of the lines to come they are all, and the parts are found as well from here
pub record Passed (at : ℕ) (headed : Bool) (ls : List (List ℕ)) (bytes : List ℕ) : Type 0 where
  pub whole : take at bytes ++ octets_of ls ≡ bytes
  pub size : at + length (octets_of ls) ≡ length bytes
  pub parts : parts_from (take at bytes) headed ls ≡ parts_of bytes

-- no octets were passed
pub passed-none : (ls : List (List ℕ)) (bytes : List ℕ) → ls ≡ lines_of bytes → Passed 0 false ls bytes
passed-none ls bytes e =
    let whole : octets_of ls ≡ bytes = ap octets_of e ∙ lines_whole bytes in
    record { whole = whole; size = omega (arith, ap length whole); parts = ap (λ l. parts_from [] false l) e }

nothing : (passed : List ℕ) (headed : Bool) (ls : List (List ℕ)) → ls ≡ [] → parts_from passed headed ls ≡ None
unfolding halves
nothing passed headed ls e = rw e refl

-- all octets were passed
pub passed-all : (at : ℕ) (headed : Bool) (ls : List (List ℕ)) (bytes : List ℕ) → Passed at headed ls bytes → ls ≡ [] → None ≡ parts_of bytes
passed-all at headed ls bytes p e = sym (nothing (take at bytes) headed ls e) ∙ p.parts

-- ---- where a line stands

-- octets in three parts, of which the first has at octets
record Cut (at : ℕ) (line rest bytes : List ℕ) : Type 0 where
  front : take (at + length line) bytes ≡ take at bytes ++ line
  behind : drop (at + length line) bytes ≡ rest
  size : at + length line + length rest ≡ length bytes

cut_at : (at : ℕ) (front line rest bytes : List ℕ) → front ++ (line ++ rest) ≡ bytes → length front ≡ at → take at bytes ≡ front → Cut at line rest bytes
cut_at at front line rest bytes e size before =
    let long : length (front ++ line) ≡ at + length line = omega (arith, size, length-append front line) in
    let whole : (front ++ line) ++ rest ≡ bytes = append_assoc front line rest ∙ e in
    record {
      front = ap (take (at + length line)) (sym whole) ∙ take_at (front ++ line) rest (at + length line) long ∙ ap (λ l. l ++ line) (sym before);
      behind = ap (drop (at + length line)) (sym whole) ∙ drop_at (front ++ line) rest (at + length line) long;
      size = omega (arith, long, length-append (front ++ line) rest, ap length whole);
    }

-- the line that begins behind the octets passed, and what stands behind it
cut : (at : ℕ) (headed : Bool) (ls : List (List ℕ)) (bytes line : List ℕ) (more : List (List ℕ)) → Passed at headed ls bytes → ls ≡ line ∷ more
    → Cut at line (octets_of more) bytes
cut at headed ls bytes line more p e =
    let whole : take at bytes ++ (line ++ octets_of more) ≡ bytes = ap (λ l. take at bytes ++ octets_of l) (sym e) ∙ p.whole in
    cut_at at (take at bytes) line (octets_of more) bytes whole (length-take-le at bytes (omega (arith, p.size))) refl

-- ---- one line

-- the line parts the octets
abbrev pub is_parting : Bool → List ℕ → Bool
is_parting headed line = headed && is_line (codes "%%%") line

found : (passed : List ℕ) (headed : Bool) (ls : List (List ℕ)) (line : List ℕ) (more : List (List ℕ)) → ls ≡ line ∷ more → is_parting headed line ≡ true
    → parts_from passed headed ls ≡ Some (passed, octets_of more)
unfolding halves
found passed headed ls line more e m = rw (e, m, append-nil) refl

pub passed-found : (at : ℕ) (headed : Bool) (ls : List (List ℕ)) (bytes line : List ℕ) (more : List (List ℕ)) → Passed at headed ls bytes → ls ≡ line ∷ more
    → is_parting headed line ≡ true → Some (take at bytes, take (length bytes - (at + length line)) (drop (at + length line) bytes)) ≡ parts_of bytes
passed-found at headed ls bytes line more p e m =
    let next = at + length line in
    let text : take (length bytes - next) (drop next bytes) ≡ octets_of more =
    take_all (length bytes - next) (drop next bytes) (omega (arith, length-drop next bytes)) ∙ (cut at headed ls bytes line more p e).behind in
    ap (λ t. Some (take at bytes, t)) text ∙ sym (found (take at bytes) headed ls line more e m) ∙ p.parts

abbrev Halves : Type 0
Halves = Option (List (List ℕ) × List (List ℕ))

abbrev parts_with : List ℕ → Halves → Option (List ℕ × List ℕ)
parts_with passed found = option_map (λ h. (passed ++ octets_of h.0, octets_of h.1)) found

longer : (passed line : List ℕ) (found : Halves) → parts_with (passed ++ line) found ≡ parts_with passed (option_map (λ h. (line ∷ h.0, h.1)) found)
longer passed line None = refl
longer passed line (Some h) = ap (λ l. Some (l, octets_of h.1)) (append_assoc passed line (octets_of h.0))

looks_on : (passed : List ℕ) (headed : Bool) (ls : List (List ℕ)) (line : List ℕ) (more : List (List ℕ)) → ls ≡ line ∷ more → is_parting headed line ≡ false
    → parts_from (passed ++ line) (headed || is_line (codes "%%") line) more ≡ parts_from passed headed ls
unfolding halves
looks_on passed headed ls line more e m = rw (e, m) (longer passed line (halves (headed || is_line (codes "%%") line) more))

pub passed-more : (at : ℕ) (headed later : Bool) (ls : List (List ℕ)) (bytes line : List ℕ) (more : List (List ℕ)) → Passed at headed ls bytes → ls ≡ line ∷ more
    → is_parting headed line ≡ false → later ≡ (headed || is_line (codes "%%") line) → Passed (at + length line) later more bytes
passed-more at headed later ls bytes line more p e m h =
    let c = cut at headed ls bytes line more p e in
    record {
      whole = ap (λ l. take (at + length line) bytes ++ l) (sym c.behind) ∙ take-append-drop (at + length line) bytes;
      size = c.size;
      parts = ap₂ (λ l t. parts_from l t more) c.front h ∙ looks_on (take at bytes) headed ls line more e m ∙ p.parts;
    }
