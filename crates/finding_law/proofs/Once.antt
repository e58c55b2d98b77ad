-- A text has its parts in one way.
use Rattle.std.proofs.Common.{◌≡◌, ◌∙◌, ℕ, ◌+◌, List, [], ◌∷◌, Option, Some, None, refl, sym, ap, ap₂, subst, arith, add-zero}
use Rattle.journal_form.specs.Form.{ended_lines}
use Rattle.journal_form.specs.Words.{parted}
use Rattle.journal_form.specs.Parts.{EntryPart, LanePart, entry_at, entry_size, entries_size, lane_size, AreEntries, IsLane, AreLanes, HasForm}

none_some : {A B : Type 0} (o : Option A) (x : A) → o ≡ None → o ≡ Some x → B
none_some None x h k = absurd cc
none_some (Some y) x h k = absurd cc

same_entry : {A : Type 0} (x y : A) → Some x ≡ Some y → x ≡ y
same_entry x y h = cc

entries_once : (at : ℕ) (lines : List (List ℕ)) (one other : List EntryPart) → AreEntries at lines one → AreEntries at lines other
    → entry_at (at + entries_size one) lines ≡ None → entry_at (at + entries_size other) lines ≡ None → one ≡ other
entries_once at lines [] [] f g h k = refl
entries_once at lines [] (e ∷ other) f g h k = none_some (entry_at at lines) e (ap (λ n. entry_at n lines) (sym (add-zero at)) ∙ h) g.0
entries_once at lines (e ∷ one) [] f g h k = none_some (entry_at at lines) e (ap (λ n. entry_at n lines) (sym (add-zero at)) ∙ k) f.0
entries_once at lines (e ∷ one) (d ∷ other) f g h k =
    let same : e ≡ d = same_entry e d (sym f.0 ∙ g.0) in
    let place : (x : EntryPart) (xs : List EntryPart) → (at + entry_size x) + entries_size xs ≡ at + (entry_size x + entries_size xs) = λ x xs. omega arith in
    let more : one ≡ other =
    entries_once (at + entry_size e) lines one other f.1 (subst (λ (x : EntryPart). AreEntries (at + entry_size x) lines other) (sym same) g.1)
    (ap (λ n. entry_at n lines) (place e one) ∙ h)
    (ap (λ (x : EntryPart). entry_at ((at + entry_size x) + entries_size other) lines) same ∙ ap (λ n. entry_at n lines) (place d other) ∙ k) in
    ap₂ (λ (x : EntryPart) xs. x ∷ xs) same more

lane_once : (at : ℕ) (lines : List (List ℕ)) (name : List ℕ) (one other : LanePart) → IsLane at lines name one → IsLane at lines name other → one ≡ other
lane_once at lines name one other f g =
    let place : (xs : List EntryPart) → (at + 1) + entries_size xs ≡ at + (1 + entries_size xs) = λ xs. omega arith in
    let number = f.number ∙ sym g.number in
    let text = f.text ∙ sym g.text in
    let entries =
    entries_once (at + 1) lines one.entries other.entries f.entries g.entries (ap (λ n. entry_at n lines) (place one.entries) ∙ f.end) (ap (λ n. entry_at n lines) (place other.entries) ∙ g.end) in
    λ i. record { number = number i; text = text i; entries = entries i }

lanes_once : (at : ℕ) (lines names : List (List ℕ)) (one other : List LanePart) → AreLanes at lines names one → AreLanes at lines names other → one ≡ other
lanes_once at lines [] [] [] f g = refl
lanes_once at lines [] [] (l ∷ other) f g = absurd g
lanes_once at lines [] (l ∷ one) other f g = absurd f
lanes_once at lines (name ∷ names) [] other f g = absurd f
lanes_once at lines (name ∷ names) (l ∷ one) [] f g = absurd g
lanes_once at lines (name ∷ names) (l ∷ one) (m ∷ other) f g =
    let same : l ≡ m = lane_once at lines name l m f.0 g.0 in
    ap₂ (λ (x : LanePart) xs. x ∷ xs) same
    (lanes_once (at + lane_size l) lines names one other f.1 (subst (λ (x : LanePart). AreLanes (at + lane_size x) lines names other) (sym same) g.1))

pub one_form : (names : List (List ℕ)) (text : List ℕ) (one other : List LanePart) → HasForm names text one → HasForm names text other → one ≡ other
one_form names text one other f g = lanes_once 0 (ended_lines (parted 10 text)) names one other f.stand g.stand
