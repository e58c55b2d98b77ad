-- A message of others joins those that wait.
use Rattle.std.proofs.Common.{◌≡◌, ◌⊎◌, inl, inr, List, [], ◌∷◌, ◌++◌, Some, ◌∙◌, sym}
use Rattle.section_model.specs.Parameters.{arrival_in}
use Rattle.section_model.specs.Ends.{Section, Connection}
use Rattle.section_model.specs.Lane.{reference_of}
use Rattle.hop_law.specs.Units.{units_for}
use Rattle.hop_law.specs.Waiting.{Waiting}
use Rattle.hop_law.specs.Hop.{Neighbours, Course, joins_forward, joins_back, hop_step, IsStrange}
use Rattle.hop_law.proofs.Lists.{all_joined}
use Rattle.hop_law.proofs.Queues.{none_joined, nothing_more, none_alone, none_of_class, NoConfirmFor, strange_none, strange_confirms}
use Rattle.hop_law.proofs.Sides.{own_reference}
use Rattle.hop_law.proofs.Flows.{flows_joined}
use Rattle.hop_law.proofs.Courses.{Pair, near_head, far_head, Answering, unanswered, accepted, Unknown, Known, Held}
use Rattle.hop_law.proofs.Far.{has_joined}

-- Forward.

forward_none : (n : Neighbours) (p : Pair) (g : Course) (m : Waiting) (x y : Section) → Held n p g x y → IsStrange g.hop.far (arrival_in m.bytes) → units_for p.far m.bytes ≡ []
forward_none n p g m x y held strange =
    strange_none g.hop.far p.far m.bytes (inl (own_reference (far_head n p) p.far_other (λ c. c.this) (λ c. c.that) g.hop.far y held.far)) strange

pub forward_joined : (n : Neighbours) (p : Pair) (g : Course) (m : Waiting) (x y : Section) → Held n p g x y → IsStrange g.hop.far (arrival_in m.bytes)
    → Held n p (hop_step n g (joins_forward m)) x y
forward_joined n p g m x y held strange = record {
  within = held.within;
  near = held.near;
  far = held.far;
  not_asked = held.not_asked;
  reached = held.reached;
  point = held.point;
  other = held.other;
  forward_on = held.forward_on;
  back_on = held.back_on;
  forward_quiet =
      all_joined (λ (m : Waiting). NoConfirmFor p.far_other (arrival_in m.bytes)) g.hop.forward (m ∷ []) held.forward_quiet
      (strange_confirms g.hop.far p.far_other (arrival_in m.bytes) (inr held.far.other_reference) strange, tt);
  back_quiet = held.back_quiet;
  phase = by_phase held.phase;
}
  where
    none : units_for p.far m.bytes ≡ []
    none = forward_none n p g m x y held strange

    by_phase : Unknown n p g x y ⊎ Known n p g x y → Unknown n p (hop_step n g (joins_forward m)) x y ⊎ Known n p (hop_step n g (joins_forward m)) x y
    by_phase (inl u) = inl (record {
      state = u.state;
      nothing = u.nothing;
      none_on = u.none_on;
      none_sent = u.none_sent;
      none_came = u.none_came;
      none_waits = none_joined p.far g.hop.forward (m ∷ []) u.none_waits (none_alone p.far m none);
      all_wait = u.all_wait;
      answer = u.answer;
    })
    by_phase (inr k) = inr (record {
      near_set = k.near_set;
      far_set = k.far_set;
      reached = k.reached;
      point = k.point;
      other = k.other;
      forward = flows_joined p.far g.hop.near x y _ g.hop.forward m none k.forward;
      back = k.back;
    })

-- Back.

answering_joined : (n : Neighbours) (p : Pair) (far : Connection) (y : Section) (back : List Waiting) (m : Waiting) → units_for p.near m.bytes ≡ []
    → NoConfirmFor (Some p.near) (arrival_in m.bytes) → Answering n p far y back → Answering n p far y (back ++ m ∷ [])
answering_joined n p far y back m none confirms (unanswered state nothing waits quiet) =
    unanswered state nothing (none_joined p.near back (m ∷ []) waits (none_alone p.near m none))
    (all_joined (λ (m : Waiting). NoConfirmFor (Some p.near) (arrival_in m.bytes)) back (m ∷ []) quiet (confirms, tt))
answering_joined n p far y back m none confirms (accepted set has) =
    accepted set (has_joined n p y.head.class back (m ∷ []) has (none_of_class p.near y.head.class (m ∷ []) (none_alone p.near m none)))

pub back_joined : (n : Neighbours) (p : Pair) (g : Course) (m : Waiting) (x y : Section) → Held n p g x y → IsStrange g.hop.near (arrival_in m.bytes)
    → Held n p (hop_step n g (joins_back m)) x y
back_joined n p g m x y held strange = record {
  within = held.within;
  near = held.near;
  far = held.far;
  not_asked = held.not_asked;
  reached = held.reached;
  point = held.point;
  other = held.other;
  forward_on = held.forward_on;
  back_on = held.back_on;
  forward_quiet = held.forward_quiet;
  back_quiet =
      all_joined (λ (m : Waiting). NoConfirmFor p.near_other (arrival_in m.bytes)) g.hop.back (m ∷ []) held.back_quiet
      (strange_confirms g.hop.near p.near_other (arrival_in m.bytes) (inl held.near.other_reference) strange, tt);
  phase = by_phase held.phase;
}
  where
    own : reference_of g.hop.near.that ≡ Some p.near
    own = own_reference (near_head n p) p.near_other (λ c. c.that) (λ c. c.this) g.hop.near x held.near

    none : units_for p.near m.bytes ≡ []
    none = strange_none g.hop.near p.near m.bytes (inr own) strange

    by_phase : Unknown n p g x y ⊎ Known n p g x y → Unknown n p (hop_step n g (joins_back m)) x y ⊎ Known n p (hop_step n g (joins_back m)) x y
    by_phase (inl u) = inl (record {
      state = u.state;
      nothing = u.nothing;
      none_on = u.none_on;
      none_sent = u.none_sent;
      none_came = u.none_came;
      none_waits = u.none_waits;
      all_wait = λ unreached. u.all_wait unreached ∙ sym (nothing_more p.near g.hop.back (m ∷ []) (none_alone p.near m none));
      answer = λ unreached.
          answering_joined n p g.hop.far y g.hop.back m none (strange_confirms g.hop.near (Some p.near) (arrival_in m.bytes) (inr own) strange) (u.answer unreached);
    })
    by_phase (inr k) = inr (record {
      near_set = k.near_set;
      far_set = k.far_set;
      reached = k.reached;
      point = k.point;
      other = k.other;
      forward = k.forward;
      back = flows_joined p.near g.hop.far y x _ g.hop.back m none k.back;
    })
