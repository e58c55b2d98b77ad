-- What waits at the start of a lane.
use Rattle.std.proofs.Common.{◌≡◌, ◌≤◌, ℕ, zero, suc, Bool, true, false, List, [], ◌∷◌, length, map, get_or, ap, ap₂, sym, subst, ◌∙◌, le-leb, refl, arith}
use Rattle.std.specs.List.{AllByRecursion}
use Rattle.relay_base.specs.declared.words.Stamp.{Stamp}
use Rattle.plant_core.specs.Plant.{RoutingData}
use Rattle.plant_core.specs.declared.change.Group.{Group}
use Rattle.plant_core.specs.declared.entry.ControlEvent.{ControlEvent}
use Rattle.node_head.specs.declared.head.Head.{Head}
use Rattle.capture_form.specs.declared.lane_place.LanePlace.{LanePlace}
use Rattle.capture_form.specs.Events.{Stamped}
use Rattle.capture_form.specs.Place.{place_of}
use Rattle.right_book.specs.Heads.{routing_of}
use Rattle.right_book.specs.Placed.{taken, placed}
use Rattle.journal_finding.specs.Entries.{LaneRules}
use Rattle.journal_finding.specs.Lanes.{control_rules}
use Rattle.lane_events.specs.declared.placing.Lane.{Lane}
use Rattle.lane_events.specs.Pending.{Pending, none_pending, links_in}
use Rattle.lane_events.specs.Placing.{is_in, with_place, kept, pending_of}
use Rattle.lane_events.specs.Editions.{Named}
use Rattle.lane_audit.specs.Follows.{Awaits, Names}
use Rattle.control_replay.specs.Tables.{IsTable, named_first}
use Rattle.control_replay.proofs.StartLemmas.{control_names, table_few}

abbrev Placed : Type 0
Placed = LanePlace × (Stamp × ControlEvent)

module _ (lane : Lane) where
  -- ---- the events

  module _ (head : Head) where
    kept_is : (events : Stamped) → kept lane (map (with_place head) events) ≡ taken (is_in lane) head events
    kept_is [] = refl
    kept_is (e ∷ more) = by (is_in lane (place_of head e.1)) refl (kept_is more)
      where
        by : (b : Bool) → is_in lane (place_of head e.1) ≡ b → kept lane (map (with_place head) more) ≡ taken (is_in lane) head more
            → kept lane (map (with_place head) (e ∷ more)) ≡ taken (is_in lane) head (e ∷ more)
        by true is h = rw is (ap (λ (l : Stamped). e ∷ l) h)
        by false is h = rw is h

    links_kept : (links : List Stamped) → map (kept lane) (map (map (with_place head)) links) ≡ map (taken (is_in lane) head) links
    links_kept [] = refl
    links_kept (events ∷ more) = ap₂ (λ (x : Stamped) (y : List Stamped). x ∷ y) (kept_is events) (links_kept more)

    -- the events of a capture that are placed in the lane
    pub phases_kept : (phases : List (List Stamped)) → map (map (kept lane)) (map (map (map (with_place head))) phases) ≡ placed (is_in lane) head phases
    phases_kept [] = refl
    phases_kept (links ∷ more) = ap₂ (λ (x : List Stamped) (y : List (List Stamped)). x ∷ y) (links_kept links) (phases_kept more)

  link_events : (links : List (List Placed)) → map (λ (p : Pending). p.events) (map (pending_of lane) links) ≡ map (kept lane) links
  link_events [] = refl
  link_events (events ∷ more) = ap (λ (y : List Stamped). kept lane events ∷ y) (link_events more)

  phase_events : (phases : List (List (List Placed))) → map (map (λ (p : Pending). p.events)) (map (map (pending_of lane)) phases) ≡ map (map (kept lane)) phases
  phase_events [] = refl
  phase_events (links ∷ more) = ap₂ (λ (x : List Stamped) (y : List (List Stamped)). x ∷ y) (link_events links) (phase_events more)

  -- ---- how many are taken

  none_on : (links : List (List Placed)) (link : ℕ) → (get_or (map (pending_of lane) links) link none_pending).taken ≡ 0
  none_on [] link = refl
  none_on (events ∷ more) zero = refl
  none_on (events ∷ more) (suc link) = none_on more link

  none_in : (phases : List (List (List Placed))) (n link : ℕ) → (get_or (get_or (map (map (pending_of lane)) phases) n []) link none_pending).taken ≡ 0
  none_in [] n link = refl
  none_in (links ∷ more) zero link = none_on links link
  none_in (links ∷ more) (suc n) link = none_in more n link

  none_taken : (phases : List (List (List Placed))) (phase link : ℕ) → (get_or (links_in (map (map (pending_of lane)) phases) phase) link none_pending).taken ≡ 0
  none_taken phases zero link = refl
  none_taken phases (suc n) link = none_in phases n link

  -- the events that wait before the first is taken are those of the lane before its first entry
  pub awaits_first : {V E : Type 0} (rules : LaneRules V E) (phases : List (List (List Placed))) → map (map (kept lane)) phases ≡ rules.events
      → Awaits rules [] (record { phases = map (map (pending_of lane)) phases; reached = 0 })
  awaits_first rules phases events = record {
    events = phase_events phases ∙ events;
    taken = none_taken phases;
    reached = λ phase. le-leb 0 phase (omega arith);
  }

-- ---- the control lane

module _ (head : Head) (phases : List (List Stamped)) (table : List ℕ) (is : IsTable (length phases) [] table) where
  -- no edition is published before any phase
  pub none_few : (groups : List Group) → groups ≡ [] → AllByRecursion (λ n. n ≤ length groups) table
  none_few groups none_there =
      subst (λ (l : List Group). AllByRecursion (λ n. n ≤ length l) table) (sym none_there) (table_few head (length phases) [] table tt is)

  -- and the lane names none
  pub none_named : (s : Named) (start : RoutingData) (groups : List Group) → s ≡ record { start = start; groups = groups; before = table; edition = 0 } → start ≡ routing_of head → groups ≡ []
      → Names (control_rules head phases) [] s
  none_named s start groups is_s is_start none_there =
      let whole : s ≡ named_first head [] table =
      is_s ∙ (λ i. let e : Named = record { start = is_start i; groups = none_there i; before = table; edition = 0 } in e) in
      subst (λ (e : Named). Names (control_rules head phases) [] e) (sym whole) (control_names head phases table is)
