-- The law of the texts of a connection (Q.714, 3.5.3): what is put together of the units of texts is these texts, and of the first of
-- these units the first texts. In both classes.
use Rattle.std.specs.Prelude.{◌≡◌, ℕ, ◌≤◌, false, List, [], ◌∷◌, ◌++◌, length, map}
use Rattle.std.specs.List.{AllByRecursion, flat_map}
use Rattle.relay_base.specs.declared.limits.TheConstants.{LONGEST_TEXT}
use Rattle.relay_base.specs.declared.words.Output.{Output}
use Rattle.relay_base.specs.declared.words.Tell.TheVariants as tell
use Rattle.section_model.specs.declared.cell.Cell.TheVariants as cell
use Rattle.section_model.specs.Ends.{DataUnit, User, gives_then}
use Rattle.section_model.specs.UserEnd.{units_of, handed, output_to, taken, user_takes}
use Rattle.hop_law.specs.Texts.{Joined, joined, joins}

-- a list begins with another one
pub record Begins {A : Type 0} (one other : List A) : Type 0 where
  pub more : List A
  pub is : other ≡ one ++ more

-- texts of an octet at least
abbrev pub AreTexts : List (List ℕ) → Type 0
AreTexts texts = AllByRecursion (λ (text : List ℕ). 1 ≤ length text) texts

-- The units of texts, one text after another, put together.
abbrev pub CutAndJoined : Type 0
CutAndJoined = (texts : List (List ℕ)) → AreTexts texts → joined (flat_map units_of texts) ≡ record { texts = texts; rest = [] }

-- the octets that there are of a next text: its first ones, and none where no text follows
abbrev pub IsPartOf : List ℕ → List (List ℕ) → Type 0
IsPartOf rest [] = rest ≡ []
IsPartOf rest (text ∷ texts) = Begins rest text

-- what is put together of so many units of texts: the first texts, and a part of the next one
pub record AreFirst (j : Joined) (texts : List (List ℕ)) : Type 0 where
  pub later : List (List ℕ)
  pub are : texts ≡ j.texts ++ later
  pub part : IsPartOf j.rest later

-- The first units of texts.
abbrev pub FewUnitsFewTexts : Type 0
FewUnitsFewTexts =
    (texts : List (List ℕ)) (units more : List DataUnit) → AreTexts texts → flat_map units_of texts ≡ units ++ more → AreFirst (joined units) texts

-- A user's end that is told a unit, with what it put together before: what it has of a text then, and what it tells.
abbrev pub told_texts : User → List (List ℕ) → List Output
told_texts x texts = map (λ text. output_to x (tell.Text x.mine text)) texts

abbrev pub CollectedSo : Type 0
CollectedSo =
    (x : User) (u : DataUnit) → length (x.text ++ u.body) ≤ LONGEST_TEXT
    → (let j = joins (record { texts = []; rest = x.text }) u in
    user_takes cell.TellUnit (handed u) x ≡ (record x { text = j.rest }, gives_then (told_texts x j.texts) (taken 1 false)))
