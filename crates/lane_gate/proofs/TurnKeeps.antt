-- Each step keeps the rule of the gate's table.
use Rattle.std.proofs.Common.{◌≡◌, ◌≢◌, ◌⊎◌, ℕ, ◌+◌, ◌<◌, ◌≤◌, eqb, List, [], ◌∷◌, ◌++◌, length, take, drop, get_or, set, Contains, sym, refl, ap, ◌∙◌, subst, ⊎_elim, inl, inr, arith, Option, Some, None, length-set, get_or-set_same, eq-eqb, ne_eqb}
use mathlib.Core.Logic.{dite}
use mathlib.Core.Option.{none, some, some-injective}
use Rattle.std.proofs.lemmas.List.Elements.{Contains-append_cases, Contains-append_right}
use native.Mathlib.Decide.{ℕ_discrete}
use lib.ListN.{get_elem?}
use prog.Atomic.{either}
use Rattle.atomic_table.specs.Table.{State, Me, step, Act, keeps, takes, gives, stepped, Valid, carried_after, Allows, Splits, Joins, Final, Seen, opening}
use Rattle.atomic_table.proofs.Lists.{at_set, set_here, set_else, at_longer}
use Rattle.lane_gate.proofs.CallerCounts.{here_after, snoc_at, only_one, none_in_nil, in_alone, in_fresh, first_values, first_values_at}
use Rattle.lane_gate.specs.declared.gate.TheConstants.{MOST_CALLERS}
use Rattle.lane_gate.specs.declared.table.View.{View}
use Rattle.lane_gate.specs.declared.table.Opening.{Opening}
use Rattle.lane_gate.specs.Plan.{Raises, Stays}
use Rattle.lane_gate.specs.Inner.Views.{fresh_counts, spent_view, first_count, caller_in, done_in, tried_view, resting_view, front_view, rear_view, joined_view, IsResting, IsIdle}
use Rattle.lane_gate.specs.Inner.Rule.{whole_view, IsFree, IsTaken, IsKept, HasEntered, Enters, Finishes, Abandons}

-- a fact of each view, after one view has changed
all_after : (K : ℕ → View → Type 0) (vs : List View) (id : ℕ) (w : View) → K id w → ((i : ℕ) (v : View) → get_elem? vs i ≡ some v → i ≢ id → K i v)
    → (i : ℕ) (v : View) → get_elem? (set vs id w) i ≡ some v → K i v
all_after K vs id w mine others i v e = ⊎_elim (λ (t : (i ≡ id) × (w ≡ v)). subst (λ (x : ℕ × View). K x.0 x.1) (λ c. (sym t.0 c, t.1 c)) mine)
    (λ (t : (i ≢ id) × (get_elem? vs i ≡ some v)). others i v t.1 t.0) (at_set vs id i w v e)

-- the seat i has this count of the caller j
record Has (vs : List View) (i j d : ℕ) : Type 0 where
  view : View
  there : get_elem? vs i ≡ some view
  own : Contains view.counts (j, d)

-- what one seat has of one caller
in_resting : (v : View) (caller done j d : ℕ) → Contains (resting_view v caller done).counts (j, d) → (j ≡ caller) × (d ≡ done)
in_resting v caller done j d c = let e = in_alone (caller, done) (j, d) c in (ap (λ (p : ℕ × ℕ). p.0) (sym e), ap (λ (p : ℕ × ℕ). p.1) (sym e))

rests_in : (v : View) (caller : ℕ) → IsResting v caller → Contains v.counts (caller, done_in v)
rests_in v caller e = subst (λ (cs : List (ℕ × ℕ)). Contains cs (caller, done_in v)) (sym (ap (λ (v : View). v.counts) e)) (0, omega arith, refl)

module _ {L P : Type 0} (plan : L → P) (taken : L → ℕ → ℕ) (key : Opening L) where
  abbrev St : Type 0
  St = State (Option L) View

  abbrev Rule : St → Type 0
  Rule = IsKept plan taken key

  abbrev M : Type 0
  M = Me (Option L) View

  one_seat : (s : St) (r : Rule s) (i k j d e : ℕ) → Has s.views i j d → Has s.views k j e → i ≡ k
  one_seat s r i k j d e a b = r.apart i k j d e a.view b.view a.there b.there a.own b.own

  -- the callers of one seat after a step are callers that it had
  apart_after : (s : St) (r : Rule s) (id : ℕ) (v w : View) → get_elem? s.views id ≡ some v → ((j d : ℕ) → Contains w.counts (j, d) → (e : ℕ) × Contains v.counts (j, e))
      → (i k j d e : ℕ) (a b : View) → get_elem? (set s.views id w) i ≡ some a → get_elem? (set s.views id w) k ≡ some b → Contains a.counts (j, d) → Contains b.counts (j, e) → i ≡ k
  apart_after s r id v w at same i k j d e a b ea eb oa ob = let p = had i a ea d oa in let q = had k b eb e ob in one_seat s r i k j p.0 q.0 p.1 q.1
    where
      had : (i : ℕ) (u : View) → get_elem? (set s.views id w) i ≡ some u → (d : ℕ) → Contains u.counts (j, d) → (e : ℕ) × Has s.views i j e
      had = all_after (λ i u. (d : ℕ) → Contains u.counts (j, d) → (e : ℕ) × Has s.views i j e) s.views id w
          (λ d o. let p = same j d o in (p.0, record { view = v; there = at; own = p.1 }))
          (λ i u e _ d o. (d, record { view = u; there = e; own = o }))

  -- the turn was free
  takes_it : (s : St) (r : Rule s) (id : ℕ) (m : M) (number : ℕ) → IsIdle m number → get_elem? s.views id ≡ some m.0 → (f : IsFree plan taken key s r.account)
      → Rule (stepped s 0 (number + 1) id m.1 (tried_view m.0 0 (Some (first_values r.account key.callers))) (takes 0 (Some f.lane)))
  takes_it s r id m number calm at f = let noted : List ℕ = first_values r.account key.callers in let w : View = tried_view m.0 0 (Some noted) in let wide = r.one_word in record {
    account = r.account;
    one_word = length-set s.words 0 (number + 1) ∙ r.one_word;
    few = r.few;
    nothing_past = r.nothing_past;
    counted = λ i j d. all_after (λ i u. Contains u.counts (j, d) → (j < key.callers) × (r.account j ≡ d)) s.views id w (r.counted id j d m.0 at) (λ i u e _. r.counted i j d u e) i;
    apart = apart_after s r id m.0 w at (λ j d o. (d, o));
    stands = inr record {
      seat = id;
      view = w;
      there = here_after s.views id w m.0 at;
      caller = number;
      done = done_in m.0;
      alone = ap (λ (v : View). v.counts) calm.0;
      turn = get_or-set_same s.words 0 (number + 1) 0 (omega arith);
      noted = noted;
      notes = refl;
      counted = first_values_at key.callers r.account r.nothing_past;
      idle_others = all_after (λ i u. i ≢ id → u.noted ≡ None) s.views id w (λ ne. absurd (ne refl)) (λ i u e _ _. f.idle_views i u e);
    };
  }

  -- an idle seat isn't that of the caller in mid-call
  not_calm : (s : St) (account : ℕ → ℕ) (v : View) → v.noted ≡ None → (id : ℕ) → get_elem? s.views id ≡ some v → (t : IsTaken s account) → t.seat ≢ id
  not_calm s account v calm id at t e = let x : v ≡ t.view = some-injective v t.view (sym at ∙ ap (get_elem? s.views) (sym e) ∙ t.there) in
      let y : None ≡ Some t.noted = sym calm ∙ ap (λ (v : View). v.noted) x ∙ t.notes in cc

  -- another caller has the turn
  turned_away : (s : St) (r : Rule s) (id : ℕ) (m : M) (number : ℕ) → IsIdle m number → get_elem? s.views id ≡ some m.0 → IsTaken s r.account
      → Rule (stepped s 0 (get_or s.words 0 0) id m.1 (tried_view m.0 (get_or s.words 0 0) None) keeps)
  turned_away s r id m number calm at t = let n : ℕ = get_or s.words 0 0 in let w : View = tried_view m.0 n None in let wide = r.one_word in record {
    account = r.account;
    one_word = length-set s.words 0 n ∙ r.one_word;
    few = r.few;
    nothing_past = r.nothing_past;
    counted = λ i j d. all_after (λ i u. Contains u.counts (j, d) → (j < key.callers) × (r.account j ≡ d)) s.views id w (r.counted id j d m.0 at) (λ i u e _. r.counted i j d u e) i;
    apart = apart_after s r id m.0 w at (λ j d o. (d, o));
    stands = inr record {
      seat = t.seat;
      view = t.view;
      there = set_else s.views id t.seat w (not_calm s r.account m.0 (ap (λ (v : View). v.noted) calm.0) id at t) ∙ t.there;
      caller = t.caller;
      done = t.done;
      alone = t.alone;
      turn = get_or-set_same s.words 0 n 0 (omega arith) ∙ t.turn;
      noted = t.noted;
      notes = t.notes;
      counted = t.counted;
      idle_others = all_after (λ i u. i ≢ t.seat → u.noted ≡ None) s.views id w (λ _. refl) (λ i u e _ ne. t.idle_others i u e ne);
    };
  }

  -- what is known of each lane with the plan of the table's lane
  module _ (known : L → Type 0) (knows : (lane : L) → plan lane ≡ plan key.lane.value → known lane) (callers : ℕ) (all : callers ≡ key.callers) where
    abbrev Entered : ℕ → ℕ → M → ℕ → St → Type 0
    Entered slots id m number s = (w : View) × (a : Act (Option L)) × Valid s.homes m.1 a × Rule (stepped s 0 (either (eqb (get_or s.words 0 0) 0) (number + 1) (get_or s.words 0 0)) id m.1 w a)
        × Enters taken known callers (step slots 0 0 (number + 1) none) m (get_or s.words 0 0) (w, carried_after m.1 a)

    enters_free : (slots id : ℕ) (m : M) (number : ℕ) → IsIdle m number → (s : St) (r : Rule s) → get_elem? s.views id ≡ some m.0 → IsFree plan taken key s r.account → Entered slots id m number s
    enters_free slots id m number calm s r at f =
        let noted : List ℕ = first_values r.account key.callers in let w : View = tried_view m.0 0 (Some noted) in
        let noted_at = first_values_at key.callers r.account r.nothing_past in
        let is_caller : caller_in m.0 ≡ number = ap caller_in calm.0 in (
          w,
          takes 0 (Some f.lane),
          f.home,
          subst (λ b. Rule (stepped s 0 (either b (number + 1) (get_or s.words 0 0)) id m.1 w (takes 0 (Some f.lane)))) (sym (eq-eqb (get_or s.words 0 0) 0 f.turn)) (takes_it s r id m number calm at f),
          (
            (λ _. (
              f.lane,
              noted,
              refl,
              knows f.lane f.planned,
              record {
                counted = λ j. f.counted j ∙ sym (noted_at j);
                own = ap (λ (j : ℕ). get_or noted j 0) is_caller ∙ (noted_at number ∙ (r.counted id number (done_in m.0) m.0 at (rests_in m.0 number calm.0)).1);
              },
            )),
            (λ pos. let turn = f.turn in absurd (omega arith)),
          ),
        )

    enters_busy : (slots id : ℕ) (m : M) (number : ℕ) → IsIdle m number → (s : St) (r : Rule s) → get_elem? s.views id ≡ some m.0 → IsTaken s r.account → Entered slots id m number s
    enters_busy slots id m number calm s r at t =
        let turn = t.turn in let few = r.few in let is_caller : caller_in m.0 ≡ number = ap caller_in calm.0 in
        let holder : Contains t.view.counts (t.caller, t.done) = subst (λ (cs : List (ℕ × ℕ)). Contains cs (t.caller, t.done)) (sym t.alone) (0, omega arith, refl) in
        let within = (r.counted t.seat t.caller t.done t.view t.there holder).0 in
        let miss : get_or s.words 0 0 ≢ 0 = λ e. omega arith in let w : View = tried_view m.0 (get_or s.words 0 0) None in (
          w,
          keeps,
          tt,
          subst (λ b. Rule (stepped s 0 (either b (number + 1) (get_or s.words 0 0)) id m.1 w keeps)) (sym (ne_eqb (get_or s.words 0 0) 0 miss)) (turned_away s r id m number calm at t),
          (
            (λ hit. absurd (miss hit)),
            (λ pos. (
              refl,
              omega arith,
              omega arith,
              (λ e. let same : t.caller ≡ number = omega arith in
                  not_calm s r.account m.0 (ap (λ (v : View). v.noted) calm.0) id at t
                  (r.apart t.seat id number t.done (done_in m.0) t.view m.0 t.there at (subst (λ (c : ℕ). Contains t.view.counts (c, t.done)) same holder) (rests_in m.0 number calm.0))),
            )),
          ),
        )

    pub enters : (slots id : ℕ) (m : M) (number : ℕ) → IsIdle m number
        → Allows Rule slots id m 0 (λ n. either (eqb n 0) (number + 1) n) (Enters taken known callers (step slots 0 0 (number + 1) none) m)
    enters slots id m number calm s r deep at _ = ⊎_elim (enters_free slots id m number calm s r at) (enters_busy slots id m number calm s r at) r.stands

  -- the seat `id` of this caller, which noted this, has the lane at hand
  module _ (id : ℕ) (v : View) (caller : ℕ) (noted : List ℕ) (lane : L) (is_alone : v.counts ≡ (caller, done_in v) ∷ []) (notes : v.noted ≡ Some noted) (planned : plan lane ≡ plan key.lane.value) where
    home_again : (done : ℕ) → taken lane caller ≡ done → ((j : ℕ) → j ≢ caller → taken lane j ≡ get_or noted j 0)
        → (s : St) (r : Rule s) → length s.homes ≡ 1 → get_elem? s.views id ≡ some v → (t : IsTaken s r.account) → id ≡ t.seat → Rule (stepped s 0 0 id ((0, Some lane) ∷ []) (resting_view v caller done) gives)
    home_again done own others s r deep at t sits =
        let w : View = resting_view v caller done in let wide = r.one_word in
        let x : v ≡ t.view = some-injective v t.view (sym at ∙ ap (get_elem? s.views) sits ∙ t.there) in
        let z : Some noted ≡ Some t.noted = sym notes ∙ ap (λ (v : View). v.noted) x ∙ t.notes in
        let same_notes : noted ≡ t.noted = cc in
        let mine : Contains v.counts (caller, done_in v) = subst (λ (cs : List (ℕ × ℕ)). Contains cs (caller, done_in v)) (sym is_alone) (0, omega arith, refl) in
        let within = (r.counted id caller (done_in v) v at mine).0 in
        let stays : (j : ℕ) → j ≢ caller → taken lane j ≡ r.account j = λ j ne. others j ne ∙ (ap (λ (l : List ℕ). get_or l j 0) same_notes ∙ t.counted j) in record {
          account = taken lane;
          one_word = length-set s.words 0 0 ∙ r.one_word;
          few = r.few;
          nothing_past = λ j far. stays j (λ e. omega arith) ∙ r.nothing_past j far;
          counted = λ i j d. all_after (λ i u. Contains u.counts (j, d) → (j < key.callers) × (taken lane j ≡ d)) s.views id w
              (λ o. let p = in_resting v caller done j d o in (subst (λ (k : ℕ). k < key.callers) (sym p.0) within, ap (taken lane) p.0 ∙ (own ∙ sym p.1)))
              (λ i u e ne o. let p = r.counted i j d u e o in (
                p.0,
                stays j (λ is. ne (r.apart i id caller d (done_in v) u v e at (subst (λ (k : ℕ). Contains u.counts (k, d)) is o) mine)) ∙ p.1,
              )) i;
          apart = apart_after s r id v w at (λ j d o. (done_in v, subst (λ (k : ℕ). Contains v.counts (k, done_in v)) (sym (in_resting v caller done j d o).0) mine));
          stands = inl record {
            lane = lane;
            turn = get_or-set_same s.words 0 0 0 (omega arith);
            home = set_here s.homes 0 (some (Some lane)) (omega arith);
            planned = planned;
            counted = λ j. refl;
            idle_views = all_after (λ i u. u.noted ≡ None) s.views id w refl (λ i u e ne. t.idle_others i u e (λ e'. ne (e' ∙ sym sits)));
          };
        }

    goes_home : (done : ℕ) → taken lane caller ≡ done → ((j : ℕ) → j ≢ caller → taken lane j ≡ get_or noted j 0)
        → Allows Rule 1 id (v, (0, Some lane) ∷ []) 0 (λ _. 0) (λ _ m'. m' ≡ (resting_view v (caller_in v) done, []))
    goes_home done own others s r deep at _ = (
      resting_view v caller done,
      gives,
      tt,
      ⊎_elim (λ (f : IsFree plan taken key s r.account). let y : None ≡ Some noted = sym (f.idle_views id v at) ∙ notes in absurd (cc))
          (λ (t : IsTaken s r.account). dite (ℕ_discrete id t.seat) (λ i. home_again done own others s r deep at t i)
          (λ other. let y : None ≡ Some noted = sym (t.idle_others id v at other) ∙ notes in absurd (cc))) r.stands,
      ap (λ (c : List (ℕ × ℕ)). (resting_view v (first_count c).0 done, [])) (sym is_alone),
    )

    -- the lane goes home with one event more
    pub finishes : get_or noted caller 0 ≡ done_in v → Raises (λ j. get_or noted j 0) (taken lane) caller
        → Allows Rule 1 id (v, (0, Some lane) ∷ []) 0 (λ _. 0) (λ _. Finishes (step 1 0 0 0 none) (v, (0, Some lane) ∷ []) 0)
    finishes own raised = goes_home (done_in v + 1) (raised.here ∙ ap (λ (k : ℕ). k + 1) own) raised.others

    -- the lane goes home as it was
    pub abandons : get_or noted caller 0 ≡ done_in v → Stays (λ j. get_or noted j 0) (taken lane)
        → Allows Rule 1 id (v, (0, Some lane) ∷ []) 0 (λ _. 0) (λ _. Abandons (step 1 0 0 0 none) (v, (0, Some lane) ∷ []) 0)
    abandons own stays = goes_home (done_in v) (stays caller ∙ own) (λ j _. stays j)

  -- the same, after the caller has taken a lane out
  module _ (id : ℕ) (old new : M) (caller : ℕ) (was lane : L) (calm : IsIdle old caller) (out : HasEntered taken old new was) (planned : plan was ≡ plan key.lane.value) (same_plan : plan lane ≡ plan was) where
    its_own : get_or out.noted caller 0 ≡ done_in old.0
    its_own = ap (λ (j : ℕ). get_or out.noted j 0) (sym (ap caller_in calm.0)) ∙ out.right.own

    pub finishes_after : Raises (taken was) (taken lane) caller
        → Allows Rule 1 id (new.0, (0, Some lane) ∷ []) 0 (λ _. 0) (λ _. Finishes (step 1 0 0 0 none) (new.0, (0, Some lane) ∷ []) 0)
    finishes_after raised = subst (λ (v : View). Allows Rule 1 id (v, (0, Some lane) ∷ []) 0 (λ _. 0) (λ _. Finishes (step 1 0 0 0 none) (v, (0, Some lane) ∷ []) 0))
        (sym (ap (λ (m : M). m.0) out.out))
        (finishes id (tried_view old.0 0 (Some out.noted)) caller out.noted lane (ap (λ (v : View). v.counts) calm.0) refl (same_plan ∙ planned) its_own record {
          here = raised.here ∙ ap (λ (k : ℕ). k + 1) (out.right.counted caller);
          others = λ j ne. raised.others j ne ∙ out.right.counted j;
        })

    pub abandons_after : Stays (taken was) (taken lane)
        → Allows Rule 1 id (new.0, (0, Some lane) ∷ []) 0 (λ _. 0) (λ _. Abandons (step 1 0 0 0 none) (new.0, (0, Some lane) ∷ []) 0)
    abandons_after stays = subst (λ (v : View). Allows Rule 1 id (v, (0, Some lane) ∷ []) 0 (λ _. 0) (λ _. Abandons (step 1 0 0 0 none) (v, (0, Some lane) ∷ []) 0))
        (sym (ap (λ (m : M). m.0) out.out))
        (abandons id (tried_view old.0 0 (Some out.noted)) caller out.noted lane (ap (λ (v : View). v.counts) calm.0) refl (same_plan ∙ planned) its_own (λ j. stays j ∙ out.right.counted j))

  -- the first of these new callers gets a seat of its own
  module _ (id from more : ℕ) (v : View) (calm : v.noted ≡ None) (new_callers : v.counts ≡ (from, 0) ∷ fresh_counts (from + 1) more) where
    in_front : (j d : ℕ) → Contains (front_view v).counts (j, d) → (j ≡ from) × Contains v.counts (j, d)
    in_front j d c =
        let e = in_alone (from, 0) (j, d) (subst (λ (cs : List (ℕ × ℕ)). Contains (take 1 cs) (j, d)) new_callers c) in (
          ap (λ (p : ℕ × ℕ). p.0) (sym e),
          subst (λ (cs : List (ℕ × ℕ)). Contains cs (j, d)) (sym new_callers) (subst (λ (p : ℕ × ℕ). Contains ((from, 0) ∷ fresh_counts (from + 1) more) p) e (0, omega arith, refl)),
        )

    in_behind : (j d : ℕ) → Contains (rear_view v).counts (j, d) → (from < j) × Contains v.counts (j, d)
    in_behind j d c = let late : Contains (fresh_counts (from + 1) more) (j, d) = subst (λ (cs : List (ℕ × ℕ)). Contains (drop 1 cs) (j, d)) new_callers c in
        let low = (in_fresh (from + 1) more j d late).0 in (
          omega arith,
          subst (λ (cs : List (ℕ × ℕ)). Contains cs (j, d)) (sym new_callers) (Contains-append_right ((from, 0) ∷ []) (fresh_counts (from + 1) more) (j, d) late),
        )

    -- the new seat's callers are no other's
    new_seat : (s : St) (r : Rule s) → get_elem? s.views id ≡ some v → (i j d e : ℕ) (u : View) → get_elem? (set s.views id (front_view v)) i ≡ some u → Contains u.counts (j, d) → Contains (rear_view v).counts (j, e) → ⊥
    new_seat s r at i j d e u eu o late = let p = in_behind j e late in let low = p.0 in
        all_after (λ i u. Contains u.counts (j, d) → ⊥) s.views id (front_view v) (λ o. let is = (in_front j d o).0 in omega arith)
        (λ i u eu ne o. ne (r.apart i id j d e u v eu at o p.1)) i u eu o

    -- a fact of each view, after the cut
    all_cut : (K : ℕ → View → Type 0) (vs : List View) → ((i : ℕ) (u : View) → get_elem? (set vs id (front_view v)) i ≡ some u → K i u) → K (length (set vs id (front_view v))) (rear_view v)
        → (i : ℕ) (u : View) → get_elem? (set vs id (front_view v) ++ rear_view v ∷ []) i ≡ some u → K i u
    all_cut K vs old new i u e = ⊎_elim (λ (o : get_elem? (set vs id (front_view v)) i ≡ some u). old i u o)
        (λ (n : (i ≡ length (set vs id (front_view v))) × (rear_view v ≡ u)). subst (λ (x : ℕ × View). K x.0 x.1) (λ c. (sym n.0 c, n.1 c)) new) (snoc_at (set vs id (front_view v)) (rear_view v) u i e)

    pub cuts : Splits Rule id v (front_view v) (rear_view v)
    cuts s r at = record {
      account = r.account;
      one_word = r.one_word;
      few = r.few;
      nothing_past = r.nothing_past;
      counted = λ i j d. all_cut (λ i u. Contains u.counts (j, d) → (j < key.callers) × (r.account j ≡ d)) s.views
          (all_after (λ i u. Contains u.counts (j, d) → (j < key.callers) × (r.account j ≡ d)) s.views id (front_view v) (λ o. r.counted id j d v at (in_front j d o).1) (λ i u e _. r.counted i j d u e))
          (λ o. r.counted id j d v at (in_behind j d o).1) i;
      apart = λ i k j d e a b ea eb. all_cut (λ i a. Contains a.counts (j, d) → Contains b.counts (j, e) → i ≡ k) s.views
          (λ i a ea oa. all_cut (λ k b. Contains b.counts (j, e) → i ≡ k) s.views
          (λ k b eb ob. apart_after s r id v (front_view v) at (λ j d o. (d, (in_front j d o).1)) i k j d e a b ea eb oa ob)
          (λ ob. absurd (new_seat s r at i j d e a ea oa ob)) k b eb)
          (λ oa. all_cut (λ k b. Contains b.counts (j, e) → length (set s.views id (front_view v)) ≡ k) s.views
          (λ k b eb ob. absurd (new_seat s r at k j e d b eb ob oa)) (λ _. refl) k b eb) i a ea;
      stands = ⊎_elim
          (λ (f : IsFree plan taken key s r.account). inl record {
            lane = f.lane;
            turn = f.turn;
            home = f.home;
            planned = f.planned;
            counted = f.counted;
            idle_views = all_cut (λ _ u. u.noted ≡ None) s.views (all_after (λ _ u. u.noted ≡ None) s.views id (front_view v) calm (λ i u e _. f.idle_views i u e)) calm;
          })
          (λ (t : IsTaken s r.account). inr record {
            seat = t.seat;
            view = t.view;
            there = at_longer (set s.views id (front_view v)) (rear_view v ∷ []) t.seat t.view (set_else s.views id t.seat (front_view v) (not_calm s r.account v calm id at t) ∙ t.there);
            caller = t.caller;
            done = t.done;
            alone = t.alone;
            turn = t.turn;
            noted = t.noted;
            notes = t.notes;
            counted = t.counted;
            idle_others = all_cut (λ i u. i ≢ t.seat → u.noted ≡ None) s.views (all_after (λ i u. i ≢ t.seat → u.noted ≡ None) s.views id (front_view v) (λ _. calm) (λ i u e _ ne. t.idle_others i u e ne)) (λ _. calm);
          })
          r.stands;
    }

  -- a seat takes in another one's callers
  module _ (id other : ℕ) (v w : View) (calm : v.noted ≡ None) (calm_too : w.noted ≡ None) where
    -- a fact of each view, after the join
    all_joined : (K : ℕ → View → Type 0) (vs : List View) → K id (joined_view v w) → K other spent_view → ((i : ℕ) (u : View) → get_elem? vs i ≡ some u → i ≢ id → i ≢ other → K i u)
        → (i : ℕ) (u : View) → get_elem? (set (set vs id (joined_view v w)) other spent_view) i ≡ some u → K i u
    all_joined K vs one two others = all_after K (set vs id (joined_view v w)) other spent_view two (λ i u e ne. all_after (λ i u. i ≢ other → K i u) vs id (joined_view v w) (λ _. one) (λ i u e' ne' ne''. others i u e' ne' ne'') i u e ne)

    in_joined : (j d : ℕ) → Contains (joined_view v w).counts (j, d) → Contains w.counts (j, d) ⊎ Contains v.counts (j, d)
    in_joined j d c = Contains-append_cases w.counts v.counts (j, d) c

    -- which seat had a caller of the seat i before
    record Had (vs : List View) (i j d : ℕ) : Type 0 where
      seat : ℕ
      has : Has vs seat j d
      kept : i ≢ other
      place : (seat ≡ i) ⊎ ((i ≡ id) × (seat ≡ other))

    had : (vs : List View) → get_elem? vs id ≡ some v → get_elem? vs other ≡ some w → ¬ (other ≡ id) → (i j d : ℕ) (u : View) → get_elem? (set (set vs id (joined_view v w)) other spent_view) i ≡ some u → Contains u.counts (j, d) → Had vs i j d
    had vs at at' differ i j d = all_joined (λ i u. Contains u.counts (j, d) → Had vs i j d) vs
        (λ both. ⊎_elim
        (λ (c : Contains w.counts (j, d)). record { seat = other; has = record { view = w; there = at'; own = c }; kept = λ e. differ (sym e); place = inr (refl, refl) })
        (λ (c : Contains v.counts (j, d)). record { seat = id; has = record { view = v; there = at; own = c }; kept = λ e. differ (sym e); place = inl refl })
        (in_joined j d both))
        (λ none_own. absurd (none_in_nil (j, d) none_own))
        (λ i u e _ ne o. record { seat = i; has = record { view = u; there = e; own = o }; kept = ne; place = inl refl }) i

    one_place : (vs : List View) (i k j d e : ℕ) (a : Had vs i j d) (b : Had vs k j e) → a.seat ≡ b.seat → i ≡ k
    one_place vs i k j d e a b same = ⊎_elim
        (λ (p : a.seat ≡ i). ⊎_elim (λ (q : b.seat ≡ k). sym p ∙ (same ∙ q)) (λ (q : (k ≡ id) × (b.seat ≡ other)). absurd (a.kept (sym p ∙ (same ∙ q.1)))) b.place)
        (λ (p : (i ≡ id) × (a.seat ≡ other)). ⊎_elim (λ (q : b.seat ≡ k). absurd (b.kept (sym q ∙ (sym same ∙ p.1)))) (λ (q : (k ≡ id) × (b.seat ≡ other)). p.0 ∙ sym q.0) b.place)
        a.place

    pub glues : Joins Rule id v other w (joined_view v w) spent_view
    glues s r at differ at'' = record {
      account = r.account;
      one_word = r.one_word;
      few = r.few;
      nothing_past = r.nothing_past;
      counted = λ i j d u e o. let h = had s.views at at' differ i j d u e o in r.counted h.seat j d h.has.view h.has.there h.has.own;
      apart = λ i k j d e a b ea eb oa ob. let p = had s.views at at' differ i j d a ea oa in let q = had s.views at at' differ k j e b eb ob in
          one_place s.views i k j d e p q (one_seat s r p.seat q.seat j d e p.has q.has);
      stands = ⊎_elim
          (λ (f : IsFree plan taken key s r.account). inl record {
            lane = f.lane;
            turn = f.turn;
            home = f.home;
            planned = f.planned;
            counted = f.counted;
            idle_views = all_joined (λ _ u. u.noted ≡ None) s.views calm refl (λ i u e _ _. f.idle_views i u e);
          })
          (λ (t : IsTaken s r.account). inr record {
            seat = t.seat;
            view = t.view;
            there = set_else (set s.views id (joined_view v w)) other t.seat spent_view (not_calm s r.account w calm_too other at' t) ∙ (set_else s.views id t.seat (joined_view v w) (not_calm s r.account v calm id at t) ∙ t.there);
            caller = t.caller;
            done = t.done;
            alone = t.alone;
            turn = t.turn;
            noted = t.noted;
            notes = t.notes;
            counted = t.counted;
            idle_others = all_joined (λ i u. i ≢ t.seat → u.noted ≡ None) s.views (λ _. calm) (λ _. refl) (λ i u e _ _ ne. t.idle_others i u e ne);
          })
          r.stands;
    }
      where
        at' : get_elem? s.views other ≡ some w
        at' = sym (set_else s.views id other (joined_view v w) differ) ∙ at''

  -- the first state: the lane is at home, and all callers belong to the first seat
  pub opens : key.callers ≤ MOST_CALLERS → ((j : ℕ) → taken key.lane.value j ≡ 0) → Rule (opening (0 ∷ []) (Some key.lane.value ∷ []) (whole_view key))
  opens few fresh = record {
    account = λ _. 0;
    one_word = refl;
    few = few;
    nothing_past = λ _ _. refl;
    counted = λ i j d v e o. let c : Contains (fresh_counts 0 key.callers) (j, d) = subst (λ (x : View). Contains x.counts (j, d)) (sym (only_one (whole_view key) v i e).1) o in
        let p = in_fresh 0 key.callers j d c in let high = p.1 in (omega arith, sym p.2);
    apart = λ i k j d e v w a b _ _. (only_one (whole_view key) v i a).0 ∙ sym (only_one (whole_view key) w k b).0;
    stands = inl record {
      lane = key.lane.value;
      turn = refl;
      home = refl;
      planned = refl;
      counted = fresh;
      idle_views = λ i v e. subst (λ (x : View). x.noted ≡ None) (only_one (whole_view key) v i e).1 refl;
    };
  }

  -- the lane that a table closes with, when one idle seat has all callers
  pub record IsClosed (v : View) (xs : List (Option L)) : Type 0 where
    pub lane : L
    pub home : get_elem? xs 0 ≡ some (Some lane)
    pub planned : plan lane ≡ plan key.lane.value
    pub counted : (j d : ℕ) → Contains v.counts (j, d) → taken lane j ≡ d
    pub others : (j : ℕ) → key.callers ≤ j → taken lane j ≡ 0

  pub closes : (id : ℕ) (v : View) (ws : List ℕ) (xs : List (Option L)) → v.noted ≡ None → ((j : ℕ) → j < key.callers → (d : ℕ) × Contains v.counts (j, d)) → Final (Seen Rule id v) ws xs → IsClosed v xs
  closes id v ws xs calm all final = ⊎_elim at_home away final.1.0.stands
    where
      at_home : IsFree plan taken key final.0 final.1.0.account → IsClosed v xs
      at_home f = record {
        lane = f.lane;
        home = final.4 0 (Some f.lane) f.home;
        planned = f.planned;
        counted = λ j d o. f.counted j ∙ (final.1.0.counted id j d v final.1.1 o).1;
        others = λ j far. f.counted j ∙ final.1.0.nothing_past j far;
      }

      away : IsTaken final.0 final.1.0.account → IsClosed v xs
      away t = let holder : Contains t.view.counts (t.caller, t.done) = subst (λ (cs : List (ℕ × ℕ)). Contains cs (t.caller, t.done)) (sym t.alone) (0, omega arith, refl) in
          let within = (final.1.0.counted t.seat t.caller t.done t.view t.there holder).0 in let mine = all t.caller within in
          absurd (not_calm final.0 final.1.0.account v calm id final.1.1 t (final.1.0.apart t.seat id t.caller t.done mine.0 t.view v t.there final.1.1 holder mine.1))
