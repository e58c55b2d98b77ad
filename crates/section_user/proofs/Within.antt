-- The effects of a user's end have the lengths of Q.713.
use Rattle.std.proofs.Common.{ℕ, suc, ◌+◌, ◌*◌, ◌<◌, ◌≤◌, List, [], ◌∷◌, ◌++◌, length, drop, map, Bool, true, false, refl, arith, sym, subst, get_or, length-take, length-drop}
use Rattle.std.specs.Prelude.{◌&&◌, nat_lt, IsTrue, if◌then◌else◌}
use Rattle.std.specs.List.{range_with_len, All}
use Rattle.std.proofs.lemmas.Bool.{leb-true, ltb-true}
use Rattle.std.proofs.lemmas.List.Elements.{All-map, All-from_get_or}
use Rattle.std.proofs.lemmas.List.FromFn.{length-range_with_len, get_or-range_with_len}
use Rattle.relay_base.specs.declared.limits.TheConstants.{LONGEST_DATA, LONGEST_TEXT}
use Rattle.section_model.specs.declared.limits.TheConstants.{LONGEST_UNIT}
use Rattle.relay_base.specs.declared.words.Request.{Request}
use Rattle.relay_base.specs.declared.words.Request.TheVariants as request
use Rattle.relay_base.specs.declared.words.Event.{Event}
use Rattle.relay_base.specs.declared.words.Event.TheVariants.{Message as Arrived, Asked as Requested, Tick}
use Rattle.section_model.specs.declared.cell.Cell.{Cell}
use Rattle.section_model.specs.declared.cell.Cell.TheVariants as cell
use Rattle.section_model.specs.declared.hand.Hand.{Hand}
use Rattle.section_model.specs.declared.hand.Hand.TheVariants as hand
use Rattle.section_model.specs.declared.hand.Acted.{Acted}
use Rattle.section_model.specs.declared.input.Input.{Input}
use Rattle.section_model.specs.declared.input.Input.TheVariants as input
use Rattle.section_model.specs.Ends.{User}
use Rattle.section_model.specs.Step.{is_in_range}
use Rattle.section_model.specs.UserEnd.{given, handed, unit_count, units_of, user_asks, accepts, refuses, sends, expedites, disconnects, user_takes, tells_confirm, tells_disconnect, collects, tells_expedited, tells_reset, user_counts_left, unit_at, overruns, continues, completes}
use Rattle.section_user.specs.declared.side.UserSide.{UserSide}
use Rattle.section_user.specs.Side.{ActsAs, user_of, user_acts, user_hears_event}
use Rattle.section_model.specs.Lengths.{IsData, HandWithin, HandsWithin, ActedWithin}
use Rattle.section_user.specs.Lengths.{IsRequestInRange, IsInputInRange}
use Rattle.section_user.proofs.Cutting.{starts_within}

none : HandsWithin [] × HandsWithin []
none = (tt, tt)

one-by-one : (hands : List Hand) → All HandWithin hands → HandsWithin hands
one-by-one [] all = tt
one-by-one (h ∷ hands) all = (all 0 h (omega arith), one-by-one hands (λ k d below. all (suc k) d (omega (arith, below))))

second : (a b : Bool) → IsTrue (a && b) → IsTrue b
second true b e = e
second false b e = cc

first : (a b : Bool) → IsTrue (a && b) → IsTrue a
first true b e = refl
first false b e = cc

given-within : (body : List ℕ) → length body ≤ LONGEST_DATA → IsData (given body)
given-within [] few = tt
given-within (b ∷ body) few = (omega arith, few)

unit-within : (body : List ℕ) (k : ℕ) → k < unit_count body → HandWithin (handed (unit_at body k))
unit-within body k below =
    let starts = starts_within (length body) k below in
    let size = length-take LONGEST_UNIT (drop (LONGEST_UNIT * k) body) in
    let rest = length-drop (LONGEST_UNIT * k) body in
    (omega (arith, starts, size, rest), omega (arith, size))

units-within : (body : List ℕ) → HandsWithin (map handed (units_of body))
units-within body = one-by-one (map handed (units_of body))
    (All-map HandWithin handed (units_of body)
    (All-map (λ u. HandWithin (handed u)) (unit_at body) (range_with_len 0 (unit_count body))
    (All-from_get_or (λ k. HandWithin (handed (unit_at body k))) (range_with_len 0 (unit_count body)) 0 (λ k below. at k (rw (sym (length-range_with_len 0 (unit_count body))) below)))))
  where
    at : (k : ℕ) → k < unit_count body → HandWithin (handed (unit_at body (get_or (range_with_len 0 (unit_count body)) k 0)))
    at k below = rw (get_or-range_with_len 0 (unit_count body) k 0 below) (unit-within body (0 + k) (omega (arith, below)))

-- what a request in its ranges hands over
asks-within : (c : Cell) (r : Request) (x : User) → IsTrue (is_in_range r) → ActedWithin (user_asks c r x).1
unfolding user_asks
asks-within cell.UserAccepts r x range = takes r range
  where
    takes : (r : Request) → IsTrue (is_in_range r) → ActedWithin (accepts r x).1
    takes (request.Accept mine class credit body) range = (tt, ((tt, given-within body (leb-true _ _ (second _ _ range))), tt))
    takes _ range = none
asks-within cell.UserRefuses r x range = takes r range
  where
    takes : (r : Request) → IsTrue (is_in_range r) → ActedWithin (refuses r x).1
    takes (request.Refuse mine cause body) range = (tt, ((tt, given-within body (leb-true _ _ range)), tt))
    takes _ range = none
asks-within cell.UserSends r x range = takes r
  where
    takes : (r : Request) → ActedWithin (sends r x).1
    takes (request.Send mine body) = (tt, units-within body)
    takes _ = none
asks-within cell.UserExpedites r x range = takes r range
  where
    takes : (r : Request) → IsTrue (is_in_range r) → ActedWithin (expedites r x).1
    takes (request.Expedite mine body) range = (tt, ((ltb-true _ _ (first _ _ range), leb-true _ _ (second _ _ range)), tt))
    takes _ range = none
asks-within cell.UserResets r x range = (tt, (tt, tt))
asks-within cell.UserDisconnects r x range = takes r range
  where
    takes : (r : Request) → IsTrue (is_in_range r) → ActedWithin (disconnects r x).1
    takes (request.Disc mine cause body) range = (tt, ((given-within body (leb-true _ _ range)), tt))
    takes _ range = none
asks-within _ r x range = none

acted_either : (b : Bool) (r s : User × Acted) → ActedWithin r.1 → ActedWithin s.1 → ActedWithin (if b then r else s).1
acted_either true r s f g = f
acted_either false r s f g = g

-- what an effect of the section hands back
takes-within : (c : Cell) (h : Hand) (x : User) → ActedWithin (user_takes c h x).1
unfolding user_takes
takes-within cell.TellConfirm h x = takes h
  where
    takes : (h : Hand) → ActedWithin (tells_confirm h x).1
    takes (hand.Accept class credit called body importance) = none
    takes _ = none
takes-within cell.TellDisconnect h x = takes h
  where
    takes : (h : Hand) → ActedWithin (tells_disconnect h x).1
    takes (hand.Refuse cause called body importance) = none
    takes (hand.End cause body importance) = none
    takes _ = none
takes-within cell.TellUnit h x = takes h
  where
    takes : (h : Hand) → ActedWithin (collects h x).1
    takes (hand.Unit more body) =
        acted_either (nat_lt LONGEST_TEXT (length (x.text ++ body))) (overruns x) (if more then continues body x else completes body x) ((tt, tt), tt)
        (acted_either more (continues body x) (completes body x) (tt, (tt, tt)) (tt, (tt, tt)))
    takes _ = none
takes-within cell.TellExpedited h x = takes h
  where
    takes : (h : Hand) → ActedWithin (tells_expedited h x).1
    takes (hand.Expedited body) = (tt, (tt, tt))
    takes _ = none
takes-within cell.TellReset h x = takes h
  where
    takes : (h : Hand) → ActedWithin (tells_reset h x).1
    takes (hand.Reset cause) = none
    takes _ = none
takes-within cell.Left h x = takes h
  where
    takes : (h : Hand) → ActedWithin (user_counts_left h x).1
    takes (hand.Left units expedited) = none
    takes _ = none
takes-within _ h x = none

acts-within : (c : Cell) (i : Input) (x : User) → IsInputInRange i → ActedWithin (user_acts c i x).1
acts-within c (input.Event event) x within = hears event.now within
  where
    hears : (e : Event) → IsRequestInRange e → ActedWithin (user_hears_event c e x).1
    hears (Arrived point sls bytes) within = none
    hears (Requested ssn r) within = asks-within c r x within
    hears Tick within = none
acts-within c (input.Timer number) x within = none
acts-within c (input.Hand h) x within = takes-within c h.now x
acts-within c input.Turn x within = none

-- what an act does has these lengths
pub done-within : (c : Cell) (i : Input) (old new : UserSide) (done : Acted) → ActsAs (user_acts c i) old new done → IsInputInRange i → ActedWithin done
done-within c i old new done acts within = subst ActedWithin (acts [] 0).1 (acts-within c i (user_of old [] 0) within)
