-- The lines of a head, one after the other, and what its text states for the links.
use Rattle.std.proofs.lemmas.Bool.{cases_Bool}
use Rattle.std.proofs.lemmas.Str.{is_utf8-from_IsUtf8, IsUtf8-from_is_utf8}
use Rattle.std.proofs.Common.{◌≡◌, inl, inr, true, false, ℕ, List, [], ◌∷◌, ◌++◌, Option, None, refl, append_assoc, append-nil}
use Rattle.std.specs.Prelude.{codes, option_and_then}
use Rattle.std.specs.Str.{IsUtf8, is_utf8}
use Rattle.toml.specs.Data.{Members}
use Rattle.toml.specs.Parse.{parse_document}
use Rattle.node_head.specs.Lines.{is_mark, joined}
use Rattle.m3ua_capture.specs.OneLink.{lines_before, integer_at, links_in}

pub before-mark : (text : List ℕ) (ls : List (List ℕ)) (line : List ℕ) (rest : List (List ℕ)) → ls ≡ line ∷ rest → is_mark line ≡ true → text ++ joined (lines_before ls) ≡ text
unfolding lines_before
before-mark text ls line rest e m = rw (e, m, append-nil) refl

pub before-nil : (text : List ℕ) (ls : List (List ℕ)) → ls ≡ [] → text ++ joined (lines_before ls) ≡ text
unfolding lines_before
before-nil text ls e = rw (e, append-nil) refl

pub before-more : (text : List ℕ) (ls : List (List ℕ)) (line : List ℕ) (rest : List (List ℕ)) → ls ≡ line ∷ rest → is_mark line ≡ false
    → ((text ++ line) ++ 10 ∷ []) ++ joined (lines_before rest) ≡ text ++ joined (lines_before ls)
unfolding lines_before
before-more text ls line rest e m = rw (e, m) (simp append_assoc)

pub links-not-utf8 : (text : List ℕ) → (IsUtf8 text → ⊥) → None ≡ links_in text
unfolding links_in
links-not-utf8 text h =
    elim (cases_Bool (is_utf8 text)) [
      | inl is ↦ absurd (h (IsUtf8-from_is_utf8 text is))
      | inr not ↦ rw not refl
    ]

pub links-utf8 : (text : List ℕ) (o : Option Members) → IsUtf8 text → parse_document text ≡ o → links_in text ≡ option_and_then (integer_at (codes "links")) o
unfolding links_in
links-utf8 text o u e = rw (is_utf8-from_IsUtf8 text u, e) refl
