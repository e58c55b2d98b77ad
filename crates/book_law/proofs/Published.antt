-- In a quiet phase the control journal publishes nothing.
use Rattle.std.proofs.Common.{◌≡◌, ℕ, Bool, true, false, cond, List, [], ◌∷◌, is_some, refl, sym, ap, ◌∙◌, subst}
use Rattle.std.specs.List.{AllByRecursion}
use Rattle.relay_base.specs.declared.words.Stamp.{Stamp}
use Rattle.plant_core.specs.declared.entry.ControlEntry.{ControlEntry}
use Rattle.plant_core.specs.declared.entry.ControlEvent.{ControlEvent}
use Rattle.node_head.specs.declared.head.Head.{Head}
use Rattle.capture_form.specs.declared.lane_place.LanePlace.{LanePlace}
use Rattle.capture_form.specs.Place.{place_of}
use Rattle.scmg.specs.declared.head.ControlHead.{ControlHead}
use Rattle.scmg.specs.Control.{Control, LegalFrom, managed, after_entry, count_after}
use Rattle.capture_form.specs.Events.{Stamped}
use Rattle.right_book.specs.Own.{events_at, control_pairs_of}
use Rattle.right_book.specs.Placed.{in_control, taken, IsOfLane}
use Rattle.right_book.proofs.ListLemmas.{all-mapped}
use Rattle.book_law.proofs.Events.{members}
use Rattle.book_law.proofs.Places.{placed_at}
use Rattle.book_law.proofs.Editions.{IsCalm}
use Rattle.book_law.proofs.Quiet.{may_publish, Quiet, publishes_none, edition_none}

kept : (R : Stamp × ControlEvent → Type 0) (t : Bool) (x : Stamp × ControlEvent) (rest : Stamped) → (t ≡ true → R x) → AllByRecursion R rest → AllByRecursion R (cond t (x ∷ rest) rest)
kept R true x rest f h = (f refl, h)
kept R false x rest f h = h

-- what is said of the events of a lane, by the events of all lanes and by their places
pub taken_all : (in_lane : LanePlace → Bool) (head : Head) (P R : Stamp × ControlEvent → Type 0) (xs : Stamped)
    → ((e : Stamp × ControlEvent) → P e → in_lane (place_of head e.1) ≡ true → R e) → AllByRecursion P xs → AllByRecursion R (taken in_lane head xs)
taken_all in_lane head P R [] f h = tt
taken_all in_lane head P R (x ∷ xs) f h = kept R (in_lane (place_of head x.1)) x (taken in_lane head xs) (f x h.0) (taken_all in_lane head P R xs f h.1)

pub all_given : (D : Type 0) (P : Stamp × ControlEvent → Type 0) (xs : Stamped) → (D → AllByRecursion P xs) → AllByRecursion (λ x. D → P x) xs
all_given D P [] h = tt
all_given D P (x ∷ xs) h = (λ d. (h d).0, all_given D P xs (λ d. (h d).1))

abbrev Keeps : Head → ControlEvent → Type 0
Keeps head e = (may_publish head e ≡ false) × (in_control (place_of head e) ≡ true)

control_members : (head : Head) (phases : List (List Stamped)) (phase : ℕ) (events : Stamped) → Quiet head phases phase → IsOfLane in_control head phases events
    → AllByRecursion (λ e. e.0.phase ≡ phase → Keeps head e.1) events
control_members head phases phase events quiet own =
    members (λ p e. p ≡ phase → Keeps head e.1) events (λ p k.
    subst (AllByRecursion (λ (e : Stamp × ControlEvent). p ≡ phase → Keeps head e.1)) (sym (own.in_order p k ∙ placed_at in_control head phases p k))
    (taken_all in_control head (λ e. p ≡ phase → may_publish head e.1 ≡ false) (λ e. p ≡ phase → Keeps head e.1) (events_at phases p k) (λ e q place same. (q same, place))
    (all_given (p ≡ phase) (λ e. may_publish head e.1 ≡ false) (events_at phases p k) (λ same. subst (λ n. AllByRecursion (λ (e : Stamp × ControlEvent). may_publish head e.1 ≡ false) (events_at phases n k)) (sym same) (quiet k)))))

calm_from : (head : Head) (h : ControlHead) (c : Control) (edition phase : ℕ) (xs : List ControlEntry) → LegalFrom h c edition xs
    → AllByRecursion (λ e. e.stamp.phase ≡ phase → Keeps head e.event) xs → IsCalm phase xs
calm_from head h c edition phase [] f g = tt
calm_from head h c edition phase (x ∷ xs) f g = (
  λ same. ap is_some f.0.published ∙ edition_none edition (managed h c x.event).published (publishes_none head h c x.event (g.0 same).0 (g.0 same).1),
  calm_from head h (after_entry h c x) (count_after edition (managed h c x.event).published) phase xs f.1 g.1,
)

pub calm : (head : Head) (h : ControlHead) (c : Control) (phases : List (List Stamped)) (phase : ℕ) (xs : List ControlEntry) → LegalFrom h c 0 xs → Quiet head phases phase
    → IsOfLane in_control head phases (control_pairs_of xs) → IsCalm phase xs
calm head h c phases phase xs legal quiet own =
    calm_from head h c 0 phase xs legal (all-mapped (λ (e : Stamp × ControlEvent). e.0.phase ≡ phase → Keeps head e.1) (λ (x : ControlEntry). (x.stamp, x.event)) xs (control_members head phases phase (control_pairs_of xs) quiet own))
