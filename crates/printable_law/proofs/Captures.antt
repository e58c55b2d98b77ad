-- What a capture states is in its ranges.
use Rattle.std.proofs.Common.{◌≡◌, ℕ, ◌+◌, ◌<◌, ◌≤◌, ◌==◌, nat_lt, Bool, true, false, List, [], ◌∷◌, ◌++◌, length, map, filter, filter_map, if◌then◌else◌, Option, Some, None, Ok, Err, refl, subst, arith}
use Rattle.std.specs.Prelude.{IfOk}
use Rattle.std.specs.List.{AllByRecursion, range_with_len}
use Rattle.std.specs.declared.result.Result.{Result}
use Rattle.std.proofs.lemmas.Bool.{ltb-false}
use Rattle.relay_base.specs.Giving.{◌>>=◌}
use Rattle.relay_base.specs.declared.limits.TheConstants.{MOST_BYTES}
use Rattle.node_head.specs.Head.{begun, head_of_text}
use Rattle.node_head.specs.Lines.{lines, halves, joined}
use Rattle.node_head.specs.declared.fault.HeadFault.{HeadFault}
use Rattle.node_head.specs.declared.head.Head.{Head}
use Rattle.relay_base.proofs.GivingLemmas.{bound}
use Rattle.capture_form.proofs.CaptureLemmas.{read-few-events}
use Rattle.capture_form.proofs.LengthLemmas.{most-lines}
use Rattle.capture_form.specs.Capture.{Line, lines_from, event_lines, with_above, open_group, fault_at, open_fault, event_at, barriers, phases_of, unless_faulty, at_head, capture_after, capture_from, capture_within, capture_of}
use Rattle.capture_form.specs.Events.{Stamped, is_at, phase_lists}
use Rattle.capture_form.specs.declared.capture.Capture.{Capture}
use Rattle.capture_form.specs.declared.fault.CaptureFault.{CaptureFault}
use Rattle.capture_form.specs.declared.fault.CaptureFault.TheVariants as refused
use Rattle.capture_form.specs.declared.fault.Limit.TheVariants.{Bytes}
use Rattle.printable_law.proofs.Lists.{all-given, all-filter}
use Rattle.printable_law.specs.CaptureRanges.{HeadInRange, StampedInRange, PhasesInRange, InputInRange, CapturesAreInRange}
use Rattle.printable_law.proofs.Heads.{heads_are_in_range}
use Rattle.printable_law.proofs.Lines.{lines-bring}

-- Phases.

abbrev PhaseInRange : List Stamped → Type 0
PhaseInRange lists = AllByRecursion (λ (events : Stamped). AllByRecursion StampedInRange events) lists

phase-in : (links : ℕ) (events : Stamped) (phase : ℕ) → AllByRecursion StampedInRange events → PhaseInRange (phase_lists links events phase)
phase-in links events phase all =
    all-given (λ (events : Stamped). AllByRecursion StampedInRange events) (λ link. filter (is_at phase link) events)
    (λ link. all-filter StampedInRange (is_at phase link) events all) (range_with_len 0 (links + 1))

phases-in : (links : ℕ) (ls : List Line) (events : Stamped) → AllByRecursion StampedInRange events → PhasesInRange (phases_of links ls events)
phases-in links ls events all = by_test (event_lines ls == 0)
  where
    by_test : (none : Bool) → PhasesInRange (if none then [] else map (phase_lists links events) (range_with_len 1 (barriers ls + 1)))
    by_test true = tt
    by_test false = all-given PhaseInRange (phase_lists links events) (λ phase. phase-in links events phase all) (range_with_len 1 (barriers ls + 1))

-- The capture.

record IsInRange (c : Capture) : Type 0 where
  pub told : HeadInRange c.head
  pub events : PhasesInRange c.phases

unless-in : (faults : List CaptureFault) (c : Capture) → IsInRange c → IfOk (unless_faulty faults c) IsInRange
unless-in [] c in_range = in_range
unless-in (fault ∷ more) c in_range = tt

after-in : (head : Head) (number : ℕ) (ls : List (List ℕ)) → HeadInRange head → number + length ls < 4_294_967_296 → IfOk (capture_after head number ls) IsInRange
unfolding capture_after
after-in head number ls told few =
    let stated = lines_from number ls in
    let events = filter_map (event_at head) (with_above stated) in
    unless-in (filter_map (fault_at head) (with_above stated) ++ open_fault (open_group head stated)) (record { head = head; phases = phases_of head.links stated events })
    (record { told = told; events = phases-in head.links stated events (lines-bring head number ls told few) })

abbrev Parts : Type 0
Parts = Head × ℕ × List (List ℕ)

begun-in : (h : Option (List (List ℕ) × List (List ℕ))) → IfOk (begun h) (λ (parts : Parts). HeadInRange parts.0)
begun-in None = tt
begun-in (Some h) = bound HeadInRange (λ (parts : Parts). HeadInRange parts.0) (head_of_text (joined h.0)) _ (heads_are_in_range (joined h.0)) (λ head in_range. in_range)

at_head-in : {A : Type 0} (P : A → Type 0) (r : Result A HeadFault) → IfOk r P → IfOk (at_head r) P
at_head-in P (Ok x) in_range = in_range
at_head-in P (Err f) in_range = tt

within-in : (bytes : List ℕ) → length bytes ≤ MOST_BYTES → IfOk (capture_within bytes) IsInRange
within-in bytes small =
    by_parts (at_head (begun (halves (lines bytes)))) refl (at_head-in (λ (parts : Parts). HeadInRange parts.0) (begun (halves (lines bytes))) (begun-in (halves (lines bytes))))
  where
    by_parts : (r : Result Parts CaptureFault) → at_head (begun (halves (lines bytes))) ≡ r → IfOk r (λ (parts : Parts). HeadInRange parts.0) → IfOk (r >>= capture_from) IsInRange
    by_parts (Ok (head, count, rest)) e told = after-in head (count + 2) rest told (omega (arith, small, most-lines bytes (lines bytes) rest head count refl e))
    by_parts (Err f) e told = tt

-- what holds of the capture that an input within its limit is
input-in : (bytes : List ℕ) (capture : Capture) → length bytes ≤ MOST_BYTES → capture_within bytes ≡ Ok capture → InputInRange capture.head capture.phases
input-in bytes capture small e =
    let in_range : IsInRange capture = subst (λ r. IfOk r IsInRange) e (within-in bytes small) in record {
      told = in_range.told;
      events = in_range.events;
      few = omega (arith, read-few-events (Ok capture) bytes e);
    }

pub captures_are_in_range : CapturesAreInRange
unfolding capture_of
captures_are_in_range bytes capture e = by_test (nat_lt MOST_BYTES (length bytes)) refl e
  where
    by_test : (long : Bool) → nat_lt MOST_BYTES (length bytes) ≡ long
        → (if long then Err (refused.TooLong Bytes) else capture_within bytes) ≡ Ok capture → InputInRange capture.head capture.phases
    by_test true is e = absurd (cc)
    by_test false is e = input-in bytes capture (ltb-false MOST_BYTES (length bytes) is) e
