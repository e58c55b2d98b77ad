-- The journals that are found of the lanes of a kind, one after the other.
use Rattle.std.proofs.Common.{◌≡◌, ◌∙◌, ℕ, suc, ◌+◌, List, [], ◌∷◌, ◌++◌, length, map, Result, Ok, refl, ap, ap₂, subst}
use Rattle.std.specs.List.{AllByRecursion, flat_map}
use Rattle.relay_base.specs.declared.words.Event.{Event}
use Rattle.plant_core.specs.declared.entry.Entry.{Entry}
use Rattle.journal_form.specs.Form.{kind_lines}
use Rattle.journal_form.specs.Parts.{LanePart, entry_lines, lines_of}
use Rattle.book_output.specs.Print.{line_of_lane}
use Rattle.printable_law.specs.Printed.{PrintedLane, printed_entry, printed_kind, read_entry, read_lane}
use Rattle.printable_law.proofs.FormReading.{lines_of_entries, lines_of_lanes}
use Rattle.right_book.specs.Lanes.{LanesFrom}
use Rattle.journal_finding.specs.declared.finding.Fault.{Fault}
use Rattle.journal_finding.specs.Entries.{LaneRules, ◌>>=◌}
use Rattle.journal_finding.specs.Finding.{journal_in, journals_in}
use Rattle.finding_law.proofs.Results.{behind}

-- ---- the journals of lanes that are found

pub record AreOfLanes (P : ℕ → List Entry → Type 0) (name : List ℕ) (number : ℕ) (lanes : List LanePart) (journals : List (List Entry)) : Type 0 where
  pub all : LanesFrom P number journals
  pub size : length journals ≡ length lanes
  pub lines : flat_map lines_of lanes ≡ lines_of_lanes (printed_kind name number journals)

-- a journal that is found of a lane, and the lines of its entries
pub record IsOfLines (P : ℕ → List Entry → Type 0) (number : ℕ) (lane : LanePart) (journal : List Entry) : Type 0 where
  pub is : P number journal
  pub lines : flat_map entry_lines lane.entries ≡ lines_of_entries (map printed_entry journal)

module _ (rules : ℕ → LaneRules Event Entry) (P : ℕ → List Entry → Type 0) where
  pub are_right : ((number : ℕ) (lane : LanePart) (journal : List Entry) → journal_in (rules number) lane ≡ Ok journal → IsOfLines P number lane journal)
      → (name : List ℕ) (number : ℕ) (lanes : List LanePart) (journals : List (List Entry)) → map (λ (lane : LanePart). lane.text) lanes ≡ kind_lines name number (length lanes)
      → journals_in rules number lanes ≡ Ok journals → AreOfLanes P name number lanes journals
  are_right each name number [] journals names h =
      let none : [] ≡ journals = cc in
      subst (AreOfLanes P name number []) none (record { all = tt; size = refl; lines = refl })
  are_right each name number (lane ∷ lanes) journals names h =
      let first = behind (journal_in (rules number) lane) (λ journal. journals_in rules (number + 1) lanes >>= λ others. Ok (journal ∷ others)) journals h in
      let rest = behind (journals_in rules (number + 1) lanes) (λ others. Ok (first.first ∷ others)) journals first.then in
      let is : first.first ∷ rest.first ≡ journals = same_ok (first.first ∷ rest.first) journals rest.then in
      let here = each number lane first.first first.is in
      let text : lane.text ≡ _ = ap (λ l. get l) names in
      let later = are_right each name (number + 1) lanes rest.first (ap (λ l. behind_first l) names) rest.is in
      subst (AreOfLanes P name number (lane ∷ lanes)) is (record {
        all = (here.is, later.all);
        size = ap suc later.size;
        lines = ap₂ (λ l m. l ++ m) (ap₂ (λ (l : List ℕ) (m : List (List ℕ)). l ∷ m) text here.lines) later.lines;
      })
    where
      same_ok : (x y : List (List Entry)) → ◌≡◌ {A = Result (List (List Entry)) Fault} (Ok x) (Ok y) → x ≡ y
      same_ok x y e = cc

      get : List (List ℕ) → List ℕ
      get l = elim l [ [] ↦ [] | x ∷ xs ↦ x ]

      behind_first : List (List ℕ) → List (List ℕ)
      behind_first l = elim l [ [] ↦ [] | x ∷ xs ↦ xs ]

  -- ---- and back

  pub are_found : (Is : List Entry → Type 0)
      → ((number : ℕ) (lane : LanePart) (journal : List Entry) → P number journal → Is journal → map read_entry lane.entries ≡ map printed_entry journal
      → journal_in (rules number) lane ≡ Ok journal)
      → (name : List ℕ) (number : ℕ) (lanes : List LanePart) (journals : List (List Entry)) → LanesFrom P number journals → AllByRecursion Is journals
      → map read_lane lanes ≡ printed_kind name number journals → journals_in rules number lanes ≡ Ok journals
  are_found Is each name number [] [] all is h = refl
  are_found Is each name number [] (journal ∷ journals) all is h = absurd cc
  are_found Is each name number (lane ∷ lanes) [] all is h = absurd cc
  are_found Is each name number (lane ∷ lanes) (journal ∷ journals) all is h =
      let here : PrintedLane = record { text = line_of_lane name number; entries = map printed_entry journal } in
      let first : read_lane lane ≡ here = cc in
      let entries : map read_entry lane.entries ≡ map printed_entry journal = ap (λ (x : PrintedLane). x.entries) first in
      let rest : map read_lane lanes ≡ printed_kind name (number + 1) journals = cc in
      ap (λ r. r >>= λ j. journals_in rules (number + 1) lanes >>= λ others. Ok (j ∷ others)) (each number lane journal all.0 is.0 entries)
      ∙ ap (λ s. s >>= λ others. Ok (journal ∷ others)) (are_found Is each name (number + 1) lanes journals all.1 is.1 rest)
