-- An event that comes on a link, and the passes through which it goes.
use Rattle.std.proofs.Common.{◌≡◌, ◌≢◌, ℕ, zero, suc, ◌+◌, ◌<◌, ◌≤◌, Bool, true, false, cond, List, [], ◌∷◌, ◌++◌, length, map, filter, get_or, set, slice_get, Some, refl, sym, ap, ◌∙◌, subst, arith, length-append, append_assoc, length-set}
use mathlib.Core.Logic.{dite}
use native.Mathlib.Decide.{ℕ_discrete, dec_le}
use Rattle.std.proofs.lemmas.List.{get_or-set_same, get_or-set_other}
use Rattle.relay_base.specs.declared.words.Stamp.{Stamp}
use Rattle.lane_gate.specs.declared.pass.Pass.{Pass}
use Rattle.lane_gate.specs.Gates.{origin_of}
use Rattle.lane_gate.specs.Passes.{done_of, IsSamePass}
use Rattle.lane_gate.specs.Plan.{Plan, IsNext}
use Rattle.block_threads.specs.Items.{Beside}
use Rattle.link_threads.specs.declared.arrivals.Arrival.{Arrival}
use Rattle.link_threads.specs.declared.lane_name.LaneName.{LaneName}
use Rattle.link_threads.specs.declared.door.Door.{Door}
use Rattle.link_threads.specs.Links.{Link, is_in, events_for}
use Rattle.link_threads.specs.Gates.{HasFed, IsFedBelow, IsForNone}
use Rattle.block_threads.proofs.BesideLemmas.{beside_length, beside_at, beside_from}

get_here : {A : Type 0} (had : List A) (x : A) (more : List A) → slice_get (had ++ x ∷ more) (length had) ≡ Some x
get_here [] x more = refl
get_here (y ∷ ys) x more = get_here ys x more

pub default : {A : Type 0} (l : List A) (i : ℕ) (a b : A) → i < length l → get_or l i a ≡ get_or l i b
default [] i a b h = absurd (omega arith)
default (x ∷ xs) zero a b h = refl
default (x ∷ xs) (suc i) a b h = default xs i a b (omega arith)

module _ {E : Type 0} (a : Arrival E) (left : Link E) (name : LaneName) where
  -- what is for a lane, by whether the first event is
  first_if : Bool → List (Stamp × E)
  first_if b = map (λ (x : Arrival E). (x.stamp, x.event)) (cond b (a ∷ filter (λ (x : Arrival E). is_in name x.place) left) (filter (λ (x : Arrival E). is_in name x.place) left))

  pub with_first : is_in name a.place ≡ true → events_for name (a ∷ left) ≡ (a.stamp, a.event) ∷ events_for name left
  unfolding first_if
  with_first mine = ap first_if mine

  pub without_first : is_in name a.place ≡ false → events_for name (a ∷ left) ≡ events_for name left
  unfolding first_if
  without_first other = ap first_if other

module _ {L E B : Type 0} (plan : L → Plan B E) (a : Arrival E) (left : Link E) where
  module _ (door : Door L E) (pass : Pass) (fed : HasFed plan a.stamp.link (a ∷ left) door pass) where
    -- an event that is not for the lane of a gate goes past its pass
    pub passed_over : is_in door.name a.place ≡ false → HasFed plan a.stamp.link left door pass
    passed_over other = record {
      had = fed.had;
      plan_is = fed.plan_is ∙ ap (λ es. fed.had ++ es) (without_first a left door.name other);
      own = fed.own;
      number_is = fed.number_is;
      done = fed.done;
    }

    pub next_of : is_in door.name a.place ≡ true → IsNext (plan (origin_of door.gate)) (λ _. done_of pass) a.stamp a.event
    next_of mine =
        subst (λ (l : List (Stamp × E)). slice_get l (done_of pass) ≡ Some (a.stamp, a.event)) (sym (fed.plan_is ∙ ap (λ es. fed.had ++ es) (with_first a left door.name mine)))
        (subst (λ (n : ℕ). slice_get (fed.had ++ (a.stamp, a.event) ∷ events_for door.name left) n ≡ Some (a.stamp, a.event)) (sym fed.done) (get_here fed.had (a.stamp, a.event) (events_for door.name left)))

    pub fed_more : is_in door.name a.place ≡ true → (after : Pass) → IsSamePass pass after → done_of after ≡ done_of pass + 1 → HasFed plan a.stamp.link left door after
    fed_more mine after same done = record {
      had = fed.had ++ (a.stamp, a.event) ∷ [];
      plan_is = fed.plan_is ∙ (ap (λ es. fed.had ++ es) (with_first a left door.name mine) ∙ sym (append_assoc fed.had ((a.stamp, a.event) ∷ []) (events_for door.name left)));
      own = same.gate ∙ fed.own;
      number_is = same.number ∙ fed.number_is;
      done = omega (arith, done, fed.done, length-append fed.had ((a.stamp, a.event) ∷ []));
    }

  module _ (doors : List (Door L E)) where
    pub below_none : (passes : List Pass) → Beside (HasFed plan a.stamp.link (a ∷ left)) doors passes → IsFedBelow plan a left 0 doors passes
    below_none passes h =
        let size = beside_length (HasFed plan a.stamp.link (a ∷ left)) doors passes h in
        record {
          size = size;
          before = λ k g d less lt. absurd (omega (arith, less));
          after = λ k g d le lt. beside_at (HasFed plan a.stamp.link (a ∷ left)) k doors passes g d (omega (arith, lt, size)) h;
        }

    pub fed_here : (far : ℕ) (passes : List Pass) (door : Door L E) (d : Pass) → far < length passes → door ≡ get_or doors far door → IsFedBelow plan a left far doors passes → HasFed plan a.stamp.link (a ∷ left) door (get_or passes far d)
    fed_here far passes door d within is h =
        subst (λ (x : Door L E). HasFed plan a.stamp.link (a ∷ left) x (get_or passes far d)) (sym is) (h.after far door d (omega arith) (omega (arith, within, h.size)))

    pub below_more : (far : ℕ) (passes : List Pass) (g0 : Door L E) (after : Pass) → far < length passes → g0 ≡ get_or doors far g0 → HasFed plan a.stamp.link left g0 after
        → IsFedBelow plan a left far doors passes → IsFedBelow plan a left (far + 1) doors (set passes far after)
    below_more far passes g0 after lt is fed h = record {
      size = length-set passes far after ∙ h.size;
      before = λ k g d less within. dite (ℕ_discrete k far)
          (λ (e : k ≡ far). let here : HasFed plan a.stamp.link left (get_or doors far g) (get_or (set passes far after) far d) =
          subst (HasFed plan a.stamp.link left (get_or doors far g)) (sym (get_or-set_same passes far after d lt)) (subst (λ x. HasFed plan a.stamp.link left x after) (is ∙ default doors far g0 g (omega (arith, lt, h.size))) fed) in
          subst (λ j. HasFed plan a.stamp.link left (get_or doors j g) (get_or (set passes far after) j d)) (sym e) here)
          (λ (ne : k ≢ far). subst (HasFed plan a.stamp.link left (get_or doors k g)) (sym (get_or-set_other passes far k after d ne)) (h.before k g d (omega (arith, less, ne)) within));
      after = λ k g d le within. subst (HasFed plan a.stamp.link (a ∷ left) (get_or doors k g)) (sym (get_or-set_other passes far k after d (λ e. absurd (omega (arith, e, le))))) (h.after k g d (omega (arith, le)) within);
    }

    -- all lanes had it, if it is for none behind
    pub below_all : (far : ℕ) (passes : List Pass) → ((k : ℕ) (g : Door L E) → far ≤ k → k < length doors → is_in (get_or doors k g).name a.place ≡ false) → IsFedBelow plan a left far doors passes
        → Beside (HasFed plan a.stamp.link left) doors passes
    below_all far passes others h = beside_from (HasFed plan a.stamp.link left) doors passes h.size (λ i d e lt. dite (dec_le far i)
        (λ (past : far ≤ i). passed_over (get_or doors i d) (get_or passes i e) (h.after i d e past lt) (others i d past lt))
        (λ less. h.before i d e (omega (arith, less)) lt))

    pub for_none : (passes : List Pass) → IsForNone a.place doors → Beside (HasFed plan a.stamp.link (a ∷ left)) doors passes → Beside (HasFed plan a.stamp.link left) doors passes
    for_none passes none h = below_all 0 passes (λ k g _ lt. none k g lt) (below_none passes h)
