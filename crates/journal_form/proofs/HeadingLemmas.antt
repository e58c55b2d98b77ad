-- The words of an entry, by their number.
use Rattle.std.proofs.Common.{◌≡◌, ◌≢◌, ◌<◌, ◌≤◌, ◌-◌, ℕ, List, [], ◌∷◌, length, take, drop, get_or, Option, None, refl, ap, arith}
use Rattle.std.proofs.lemmas.List.{take_all}
use Rattle.std.specs.Borrow.{Bor}
use Rattle.journal_form.specs.Headings.{RoutingWords, publishing, asking, entry_with}
use Rattle.journal_form.specs.Inner.Seen.{texts}

-- none or two words say what was published
pub publishing_other : (stamp : List (List ℕ)) (asked : Option RoutingWords) (more : List (Bor (List ℕ))) → length more ≢ 0 → length more ≢ 2
    → publishing stamp asked (texts more) ≡ None
publishing_other stamp asked [] a b = grind arith
publishing_other stamp asked (u ∷ []) a b = refl
publishing_other stamp asked (u ∷ v ∷ []) a b = grind arith
publishing_other stamp asked (u ∷ v ∷ w ∷ more) a b = refl

-- fewer than three words write no routing
pub entry_with_few : (stamp : List (List ℕ)) (more : List (Bor (List ℕ))) → length more < 3 → entry_with stamp (texts more) ≡ publishing stamp None (texts more)
entry_with_few stamp [] h = refl
entry_with_few stamp (u ∷ []) h = refl
entry_with_few stamp (u ∷ v ∷ []) h = refl
entry_with_few stamp (u ∷ v ∷ w ∷ more) h = absurd (omega (arith, h))

-- and more begin with one
pub entry_with_more : (stamp : List (List ℕ)) (more : List (Bor (List ℕ))) (none : Bor (List ℕ)) → 3 ≤ length more
    → asking stamp (get_or more 0 none).now (get_or more 1 none).now (get_or more 2 none).now (texts (take (length more - 3) (drop 3 more))) ≡ entry_with stamp (texts more)
entry_with_more stamp [] none h = absurd (omega (arith, h))
entry_with_more stamp (u ∷ []) none h = absurd (omega (arith, h))
entry_with_more stamp (u ∷ v ∷ []) none h = absurd (omega (arith, h))
entry_with_more stamp (u ∷ v ∷ w ∷ more) none h = ap (λ m. asking stamp u.now v.now w.now (texts m)) (take_all (length (u ∷ v ∷ w ∷ more) - 3) more (omega arith))
