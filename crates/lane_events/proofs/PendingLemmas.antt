-- The events of a lane as its lists hold them.
use Rattle.std.proofs.Common.{◌≡◌, ℕ, ◌-◌, ◌<◌, ◌≤◌, zero, suc, true, nat_le, List, [], length, get_or, set, map, None, ap, sym, ◌∙◌, le-leb, if◌then◌else◌, arith}
use Rattle.std.proofs.lemmas.List.{get_or-map, map-set}
use Rattle.relay_base.specs.declared.words.Stamp.{Stamp}
use Rattle.lane_events.specs.Pending.{Pending, Waiting, links_in, with_links, next_on, next_in, taken_on, taken_in}

module _ {X : Type 0} (f : X → List Pending) where
  -- the links of a phase that is there
  pub links_there : (xs : List X) (phase : ℕ) (x : X) → 0 < phase → phase - 1 < length xs → x ≡ get_or xs (phase - 1) x → links_in (map f xs) phase ≡ f x
  links_there xs zero x pos lt e = absurd (omega arith)
  links_there xs (suc n) x pos lt e =
      let i : suc n - 1 ≡ n = omega arith in
      get_or-map f xs n x [] (omega arith) ∙ ap f (ap (λ k. get_or xs k x) (sym i) ∙ sym e)

  pub changed_there : (xs : List X) (phase : ℕ) (y : X) → 0 < phase → map f (set xs (phase - 1) y) ≡ with_links (map f xs) phase (f y)
  changed_there xs zero y pos = absurd (omega arith)
  changed_there xs (suc n) y pos =
      let i : suc n - 1 ≡ n = omega arith in ap (λ k. map f (set xs k y)) i ∙ map-set f xs n y

  -- the next event of a phase that is there
  pub next_there : (xs : List X) (reached : ℕ) (stamp : Stamp) (x : X) → 0 < stamp.phase → reached ≤ stamp.phase → stamp.phase - 1 < length xs → x ≡ get_or xs (stamp.phase - 1) x → next_on stamp (f x) ≡ next_in (record { phases = map f xs; reached = reached }) stamp
  next_there xs reached stamp x pos le lt e =
      let here : nat_le reached stamp.phase ≡ true = le-leb _ _ le in
      ap (next_on stamp) (sym (links_there xs stamp.phase x pos lt e)) ∙ ap (λ b. if b then next_on stamp (links_in (map f xs) stamp.phase) else None) (sym here)

  -- what taking it leaves
  pub taken_there : (xs : List X) (w : Waiting) (stamp : Stamp) (x y : X) → 0 < stamp.phase → stamp.phase - 1 < length xs → x ≡ get_or xs (stamp.phase - 1) x → w.phases ≡ map f xs → f y ≡ taken_on stamp (f x)
      → map f (set xs (stamp.phase - 1) y) ≡ (taken_in w stamp).phases
  taken_there xs w stamp x y pos lt e is_w is =
      changed_there xs stamp.phase y pos
      ∙ ap (with_links (map f xs) stamp.phase) (is ∙ ap (taken_on stamp) (sym (links_there xs stamp.phase x pos lt e)))
      ∙ ap (λ ps. with_links ps stamp.phase (taken_on stamp (links_in ps stamp.phase))) (sym is_w)
