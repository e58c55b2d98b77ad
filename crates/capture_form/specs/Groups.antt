-- Groups of edits, each of which stands between the lines `e begin` and `e commit`.
use Rattle.std.specs.Prelude.{ℕ, ◌||◌, ◌&&◌, nat_lt, not, codes, Bool, false, List, [], ◌∷◌, ◌++◌, length, if◌then◌else◌, Option, Some, None, option_map, Ok, Err}
use Rattle.std.specs.declared.result.Result.{Result}
use Rattle.plant_core.specs.Changes.{alone}
use Rattle.plant_core.specs.declared.change.Change.{Change}
use Rattle.plant_core.specs.declared.entry.ControlEvent.TheVariants.{Change as Changed}
use Rattle.capture_form.specs.Text.{same}
use Rattle.capture_form.specs.Line.{Linked}
use Rattle.capture_form.specs.declared.meaning.Meaning.{Meaning}
use Rattle.capture_form.specs.declared.meaning.Meaning.TheVariants.{Event, Edit, Begin, Commit}
use Rattle.capture_form.specs.declared.changes.OpenGroup.{OpenGroup}
use Rattle.capture_form.specs.declared.groups.TheConstants.{MOST_CHANGES}
use Rattle.capture_form.specs.declared.fault.LineKind.{LineKind}
use Rattle.capture_form.specs.declared.fault.LineKind.TheVariants.{Words, Group}

-- ---- where a line may stand

-- the first words of an edit
abbrev pub is_edit : List (List ℕ) → Bool
is_edit (first ∷ word ∷ more) = same first (codes "e") && (same word (codes "add") || same word (codes "del"))
is_edit _ = false

-- the words of a group's last line
abbrev pub is_commit : List (List ℕ) → Bool
is_commit (first ∷ word ∷ []) = same first (codes "e") && same word (codes "commit")
is_commit _ = false

-- outside a group no `e commit` may stand; within one nothing but that and edits, of which a group has at most 4,096
abbrev pub may_stand : Option OpenGroup → List (List ℕ) → Bool
may_stand None ws = not (is_commit ws)
may_stand (Some group) ws = is_commit ws || is_edit ws && nat_lt (length group.changes) MOST_CHANGES

-- what is wrong with a line that may not stand where it does: `words` comes before `group`, and the other kinds behind it
abbrev pub out_of_place : {A : Type 0} → Result A LineKind → LineKind
out_of_place (Err Words) = Words
out_of_place (Err kind) = Group
out_of_place (Ok x) = Group

abbrev pub placed : {A : Type 0} → Bool → Result A LineKind → Result A LineKind
placed stands form = if stands then form else Err (out_of_place form)

-- ---- what comes of a line

abbrev pub with_change : Change → OpenGroup → OpenGroup
with_change change group = record group { changes = group.changes ++ change ∷ [] }

-- the group that a line leaves open, behind those that left this one open
abbrev pub left_open : ℕ → Option OpenGroup → Meaning → Option OpenGroup
left_open number before Begin = Some (record { line = number; changes = [] })
left_open number before Commit = None
left_open number before (Edit change) = option_map (with_change change) before
left_open number before (Event link event) = before

-- the event of a line: an edit outside a group is a group of one, and the lines of a group make one event, at its `e commit`
abbrev pub event_in : Option OpenGroup → Meaning → Option Linked
event_in before (Event link event) = Some (link, event)
event_in None (Edit change) = Some (0, Changed (alone change))
event_in (Some group) (Edit change) = None
event_in before Begin = None
event_in None Commit = None
event_in (Some group) Commit = Some (0, Changed record { changes = group.changes })
