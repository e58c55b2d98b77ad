-- The rule under which the two copies stand.
use Rattle.std.specs.Prelude.{◌≡◌, ℕ, Bool, true, false, List, [], Option, Some, None}
use mathlib.Core.Option.{some}
use lib.ListN.{get_elem?}
use Rattle.gtt_editions.specs.declared.step.Step.{Step}
use Rattle.gtt_editions.specs.declared.store.Store.{Store}
use Rattle.gtt_editions.specs.Shown.{Shown, View, no_edition}
use Rattle.gtt_editions.specs.Editions.{Edition, edition_of, edition_after_all}
use Rattle.gtt_editions.specs.Published.{Published, nothing, Begins}
use Rattle.gtt_editions.specs.Standing.{Standing, Publishing}
use Rattle.gtt_editions.specs.Marked.{shown_by, list_of, marked}

abbrev pub first_of : Option Edition → Option Edition → Option Edition
first_of None b = b
first_of (Some a) b = Some a

-- the seat is told of what another has seen
abbrev pub informed : View → View → View
informed v w = record { opened = first_of v.opened w.opened; seen = v.seen; told = w.seen }

-- no other edition at the opening is known
abbrev pub Agrees : Option Edition → Edition → Type 0
Agrees None opened = Unit {0}
Agrees (Some known) opened = known ≡ opened

-- what a seat knows is true of this edition at the opening and of what is published
pub record Knows (opened : Edition) (list : Published) (v : View) : Type 0 where
  pub opens : Agrees v.opened opened
  pub sees : Begins list v.seen
  pub told : Begins list v.told

-- some edition was opened: the copy's is the one after its changes, of which each seat knows a beginning. Before the copy is open, there is none
pub record Kept (x : Shown) (views : List View) : Type 0 where
  pub opened : Edition
  pub edition_is : x.edition ≡ edition_after_all opened x.changes
  pub each : (seat : ℕ) (v : View) → get_elem? views seat ≡ some v → Knows opened (list_of x) v
  pub fresh : x.opened ≡ false → x.changes ≡ []

abbrev pub Keeps : Store → List View → Type 0
Keeps s views = Kept (shown_by s) views

abbrev pub edition_or : Option Edition → Edition
edition_or None = no_edition
edition_or (Some edition) = edition

-- the edition at the opening is known
abbrev pub IsOpened : View → Type 0
IsOpened v = v.opened ≡ Some (edition_or v.opened)

-- the publisher notes the edition at the opening
abbrev pub Opened : View → Store → Store → View → Type 0
Opened v x y w = (w.opened ≡ Some (edition_of y.plant)) × (w.seen ≡ list_of (shown_by y))

-- the opening is marked, and the end isn't
pub record IsGoing (x : Shown) : Type 0 where
  pub opened : x.opened ≡ true
  pub ended : x.ended ≡ false

-- the copy has the edition after all that was seen, and its changes
pub record IsCurrent (v : View) (x : Shown) : Type 0 where
  pub opens : IsOpened v
  pub edition_is : x.edition ≡ edition_after_all (edition_or v.opened) v.seen.changes
  pub list_is : v.seen ≡ list_of x

-- all that is published is seen: it begins with what was seen and what was told
pub record Seen (v : View) (x y : Store) (w : View) : Type 0 where
  pub agrees : Agrees v.opened (edition_or w.opened)
  pub after_seen : Begins w.seen v.seen
  pub after_told : Begins w.seen v.told
  pub current : IsCurrent w (shown_by y)

-- a step was published, and all that is published is seen
pub record HasPublished (step : Step) (v : View) (x : Shown) (w : View) (y : Shown) : Type 0 where
  pub current : IsCurrent w y
  pub opened : w.opened ≡ v.opened
  pub shown : y ≡ marked x step

-- the edition at the opening was noted
pub record HasOpened (x : Shown) (w : View) (y : Shown) : Type 0 where
  pub current : IsCurrent w y
  pub opened : edition_or w.opened ≡ x.edition
  pub seen : w.seen ≡ nothing
  pub going : IsGoing y

abbrev pub standing : View → Standing
standing v = record { opened = edition_or v.opened; seen = v.seen }

abbrev pub publishing : View → Bool → Publishing
publishing v spent = record { opened = edition_or v.opened; seen = v.seen; spent = spent }
