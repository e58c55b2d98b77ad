-- Sequential phases determine the events of each lane.
use Rattle.std.proofs.Common.{◌≡◌, ℕ, zero, suc, Bool, List, [], ◌∷◌, map, get_or, refl, sym, ap, ◌∙◌}
use Rattle.std.specs.Prelude.{◌≢◌}
use Rattle.plant_core.specs.declared.entry.ControlEntry.{ControlEntry}
use Rattle.node_head.specs.declared.head.Head.{Head}
use Rattle.capture_form.specs.declared.lane_place.LanePlace.{LanePlace}
use Rattle.scmg.specs.Control.{IsControlJournal}
use Rattle.capture_form.specs.Events.{Stamped}
use Rattle.right_book.specs.Own.{events_at, control_pairs_of}
use Rattle.right_book.specs.Placed.{in_control, taken, placed, IsOfLane}
use Rattle.right_book.specs.Heads.{routing_of, control_head_of}
use Rattle.book_law.specs.Sequential.{IsSequential}
use Rattle.book_law.proofs.Events.{links, same_events}
use Rattle.book_law.proofs.Journals.{control_same}

map_at : {A B : Type 0} (f : A → B) (xs : List A) (n : ℕ) (d : A) → get_or (map f xs) n (f d) ≡ f (get_or xs n d)
map_at f [] n d = refl
map_at f (x ∷ xs) zero d = refl
map_at f (x ∷ xs) (suc n) d = map_at f xs n d

-- the link of the phase of an index
link_of : (head : Head) (phases : List (List Stamped)) → IsSequential head phases → ℕ → ℕ
link_of head [] h n = 0
link_of head (lists ∷ more) h zero = h.0.link
link_of head (lists ∷ more) h (suc n) = link_of head more h.1 n

alone_at : (head : Head) (phases : List (List Stamped)) (h : IsSequential head phases) (n other : ℕ) → other ≢ link_of head phases h n → get_or (get_or phases n []) other [] ≡ []
unfolding link_of
alone_at head [] h n other d = refl
alone_at head (lists ∷ more) h zero other d = h.0.alone other d
alone_at head (lists ∷ more) h (suc n) other d = alone_at head more h.1 n other d

one_link : (head : Head) (phases : List (List Stamped)) → IsSequential head phases → ℕ → ℕ
one_link head phases h zero = 0
one_link head phases h (suc n) = link_of head phases h n

-- what a lane takes of a phase and link
pub placed_at : (in_lane : LanePlace → Bool) (head : Head) (phases : List (List Stamped)) (phase k : ℕ) → events_at (placed in_lane head phases) phase k ≡ taken in_lane head (events_at phases phase k)
placed_at in_lane head phases zero k = refl
placed_at in_lane head phases (suc n) k =
    ap (λ (l : List Stamped). get_or l k []) (map_at (map (taken in_lane head)) phases n []) ∙ map_at (taken in_lane head) (get_or phases n []) k []

no_other : (head : Head) (phases : List (List Stamped)) (h : IsSequential head phases) (phase k : ℕ) → k ≢ one_link head phases h phase → events_at phases phase k ≡ []
unfolding one_link
no_other head phases h zero k d = refl
no_other head phases h (suc n) k d = alone_at head phases h n k d

-- the events of a lane are one list
pub one_order : (in_lane : LanePlace → Bool) (head : Head) (phases : List (List Stamped)) (xs ys : Stamped) → IsSequential head phases → IsOfLane in_lane head phases xs → IsOfLane in_lane head phases ys → xs ≡ ys
one_order in_lane head phases xs ys h f g =
    let none : (phase k : ℕ) → k ≢ one_link head phases h phase → events_at (placed in_lane head phases) phase k ≡ [] =
    λ phase k d. placed_at in_lane head phases phase k ∙ ap (taken in_lane head) (no_other head phases h phase k d) in
    same_events (one_link head phases h) xs ys f.phases_rise g.phases_rise
    (links (one_link head phases h) xs (λ p k d. f.in_order p k ∙ none p k d)) (links (one_link head phases h) ys (λ p k d. g.in_order p k ∙ none p k d))
    (λ p k. f.in_order p k ∙ sym (g.in_order p k))

-- and so there is one journal of the control lane
pub one_control : (head : Head) (phases : List (List Stamped)) (xs ys : List ControlEntry) → IsSequential head phases
    → IsOfLane in_control head phases (control_pairs_of xs) → IsOfLane in_control head phases (control_pairs_of ys)
    → IsControlJournal (control_head_of head) (routing_of head) xs → IsControlJournal (control_head_of head) (routing_of head) ys → xs ≡ ys
one_control head phases xs ys h f g legal other =
    control_same (control_head_of head) (routing_of head) xs ys legal other (one_order in_control head phases (control_pairs_of xs) (control_pairs_of ys) h f g)
