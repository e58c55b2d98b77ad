-- One row more can be added.
use Rattle.std.proofs.Common.{◌≡◌, ℕ, ◌<◌, ◌&&◌, Bool, true, false, List, [], ◌∷◌, ◌++◌, length, IsTrue, refl, sym, subst, arith, append_assoc, append-nil, leb}
use Rattle.std.specs.Prelude.{is_none}
use Rattle.std.proofs.lemmas.Bool.{false≢true}
use Rattle.std.proofs.lemmas.Bool.Decides.{nat_tests}
use Rattle.gtt_table.specs.declared.table.TheConstants.Table.{MOST}
use Rattle.gtt_table.specs.Rows.{has_row}
use Rattle.gtt_table.specs.Adding.{add_refusal}
use Rattle.gtt_table.specs.declared.row.Row.{Row}
use Rattle.node_head.specs.Addable.{are_addable}

few : (n : ℕ) → n < MOST → leb MOST n ≡ false
few n h = grind (arith, nat_tests)

-- nothing refuses a row whose selector and prefix no other has
pub free : (found : List Row) (row : Row) → length found < MOST → has_row row.selector row.prefix found ≡ false → IsTrue (is_none (add_refusal found row))
unfolding add_refusal
free found row h apart = rw (apart, few (length found) h) refl

both : (s t : Bool) → IsTrue s → IsTrue t → IsTrue (s && t)
both true true h k = refl
both true false h k = k
both false t h k = h

left : (s t : Bool) → IsTrue (s && t) → IsTrue s
left true t h = refl
left false t h = h

right : (s t : Bool) → IsTrue (s && t) → IsTrue t
right true t h = h
right false t h = absurd (false≢true h)

addable-push : (found rows : List Row) (row : Row) → IsTrue (are_addable found rows) → IsTrue (is_none (add_refusal (found ++ rows) row)) → IsTrue (are_addable found (rows ++ row ∷ []))
addable-push found [] row h r = both _ true (subst (λ l. IsTrue (is_none (add_refusal l row))) (append-nil found) r) refl
addable-push found (first ∷ more) row h r =
    both (is_none (add_refusal found first)) _ (left (is_none (add_refusal found first)) (are_addable (found ++ first ∷ []) more) h)
    (addable-push (found ++ first ∷ []) more row (right (is_none (add_refusal found first)) (are_addable (found ++ first ∷ []) more) h) (subst (λ l. IsTrue (is_none (add_refusal l row))) (sym (append_assoc found (first ∷ []) more)) r))

-- behind rows that can be added, one whose selector and prefix no row has
pub addable_more : (rows : List Row) (row : Row) → IsTrue (are_addable [] rows) → length rows < MOST → has_row row.selector row.prefix rows ≡ false → IsTrue (are_addable [] (rows ++ row ∷ []))
addable_more rows row h few apart = addable-push [] rows row h (free rows row few apart)
