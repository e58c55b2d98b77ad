-- A legal journal is what one run gives.
use Rattle.std.proofs.Common.{◌≡◌, ℕ, List, [], ◌∷◌, map, Option, refl, ap, ap₂}
use Rattle.relay_base.specs.declared.words.Output.{Output}
use Rattle.plant_core.specs.declared.entry.ControlEntry.{ControlEntry}
use Rattle.scmg.specs.declared.head.ControlHead.{ControlHead}
use Rattle.scmg.specs.Control.{Control, start_of_control, managed, edition_after, count_after, after_entry, LegalFrom}
use Rattle.control_law.specs.Played.{played_from, LegalIsPlayed}

-- what an entry shows of what was done
abbrev shown : ControlEntry → List Output × Option ℕ
shown entry = (entry.outs, entry.published)

outputs : (head : ControlHead) (c : Control) (edition : ℕ) (journal : List ControlEntry) → LegalFrom head c edition journal
    → map shown journal ≡ played_from head c edition (map (λ e. e.event) journal)
outputs head c edition [] legal = refl
outputs head c edition (entry ∷ journal) legal =
    ap₂ (λ (first : List Output × Option ℕ) (more : List (List Output × Option ℕ)). first ∷ more)
    (ap₂ (λ (outs : List Output) (published : Option ℕ). (outs, published)) legal.0.outputs legal.0.published)
    (outputs head (after_entry head c entry) (count_after edition (managed head c entry.event).published) journal legal.1)

legal : (head : ControlHead) (c : Control) (edition : ℕ) (journal : List ControlEntry)
    → map shown journal ≡ played_from head c edition (map (λ e. e.event) journal) → LegalFrom head c edition journal
legal head c edition [] is = tt
legal head c edition (entry ∷ journal) is =
    let done = managed head c entry.event in
    let first : shown entry ≡ (done.outs, edition_after edition done.published) = cc in
    let more : map shown journal ≡ played_from head done.control (count_after edition done.published) (map (λ e. e.event) journal) = cc in
    (record { outputs = ap (λ (s : List Output × Option ℕ). s.0) first; published = ap (λ (s : List Output × Option ℕ). s.1) first }, legal head done.control (count_after edition done.published) journal more)

pub is_played : LegalIsPlayed
is_played head start journal =
    (λ is. outputs head (start_of_control start) 0 journal is, λ same. legal head (start_of_control start) 0 journal same)
