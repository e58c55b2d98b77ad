-- What a head states is in its ranges.
use Rattle.std.proofs.Common.{◌≡◌, ℕ, ℤ, pos, negsuc, ◌+◌, ◌-◌, ◌≤◌, ◌==◌, ◌&&◌, nat_lt, nat_le, codes, Bool, true, false, List, [], ◌∷◌, ◌++◌, length, if◌then◌else◌, Option, Some, None, Ok, Err, refl, arith}
use Rattle.std.specs.Prelude.{IfSome, IfOk}
use Rattle.std.specs.List.{AllByRecursion}
use Rattle.std.specs.declared.result.Result.{Result}
use Rattle.std.proofs.lemmas.Bool.{and_parts, leb-true}
use Rattle.toml.specs.Data.{Data, Members, get_member, as_integer}
use Rattle.relay_base.proofs.GivingLemmas.{bound}
use Rattle.relay_base.specs.Giving.{◌>>=◌}
use Rattle.relay_base.specs.declared.limits.TheConstants.{POINT_CODES, SUBSYSTEM_NUMBERS}
use Rattle.gtt_table.specs.declared.row.Row.{Row}
use Rattle.gtt_table.specs.declared.table.TheConstants.Table.{MOST}
use Rattle.plant_core.specs.Terms.{IsWithin}
use Rattle.plant_core.specs.declared.terms.Replicate.{Replicate}
use Rattle.node_head.proofs.Given.{after_any}
use Rattle.node_head.proofs.RangeLemmas.{read_in_range}
use Rattle.node_head.specs.Entity.{entity_of}
use Rattle.node_head.specs.Head.{head_with, values_of, head_of_text, table_of, counts_of}
use Rattle.node_head.specs.Keys.{path, required, number_in, number_value, number_at, point_at, text_at, all_known}
use Rattle.node_head.specs.Numbers.{users_value, points_value}
use Rattle.node_head.specs.Ranges.{IsHead}
use Rattle.node_head.specs.Refusals.{fault, or_fault}
use Rattle.node_head.specs.Replicates.{is_new_user, user_at, other_point_at, replicate_of, replicates_after, replicates_value}
use Rattle.node_head.specs.Rows.{selector_at, prefix_at, entity_at, second_at, row_of, rows_after, rows_value}
use Rattle.node_head.specs.Tables.{tables_value}
use Rattle.node_head.specs.Timers.{timers_value}
use Rattle.node_head.specs.declared.fault.HeadFault.{HeadFault}
use Rattle.node_head.specs.declared.fault.HeadKind.TheVariants as kind
use Rattle.node_head.specs.declared.head.Counts.{Counts}
use Rattle.node_head.specs.declared.head.Head.{Head}
use Rattle.node_head.specs.declared.section.Place.{Place}
use Rattle.node_head.specs.declared.section.Place.TheVariants.{Top, Nth}
use Rattle.node_head.specs.declared.section.TableArray.TheVariants.{Rows, Replicates}
use Rattle.printable_law.specs.OctetLaw.{IsOctet}
use Rattle.printable_law.specs.Ranges.{IsPoint, EntityInRange, RowInRange}
use Rattle.printable_law.proofs.Lists.{either, all-append}
use Rattle.printable_law.specs.CaptureRanges.{HeadInRange, HeadsAreInRange}
use Rattle.printable_law.proofs.Changes.{entity-in}

-- Numbers.

given-some : {A : Type 0} (P : A → Type 0) (o : Option A) (f : HeadFault) → IfSome o P → IfOk (or_fault o f) P
given-some P None f is = tt
given-some P (Some x) f is = is

number-most : (least most : ℕ) (z : ℤ) → IfSome (number_in least most z) (λ n. n ≤ most)
number-most least most (negsuc n) = tt
number-most least most (pos n) = by_test (nat_le least n && nat_le n most) (λ is. leb-true n most (and_parts (nat_le least n) (nat_le n most) is).1)
  where
    by_test : (t : Bool) → (t ≡ true → n ≤ most) → IfSome (if t then Some n else None) (λ n. n ≤ most)
    by_test true here = here refl
    by_test false here = tt

required-most : (key : List ℕ) (least most : ℕ) (d : Option Data) → IfOk (number_value key (required least most) d) (λ n. n ≤ most)
required-most key least most None = tt
required-most key least most (Some d) =
    after_any (λ n. n ≤ most) (or_fault (as_integer d) (fault kind.Kind key)) _ (λ z. given-some (λ n. n ≤ most) (number_in least most z) (fault kind.Range key) (number-most least most z))

pub point-in : (place : Place) (ms : Members) → IfOk (point_at place ms) IsPoint
unfolding point_at number_at
point-in place ms = weaker (number_value (path place (codes "point")) (required 0 (POINT_CODES - 1)) (get_member (codes "point") ms)) (required-most (path place (codes "point")) 0 (POINT_CODES - 1) (get_member (codes "point") ms))
  where
    weaker : (r : Result ℕ HeadFault) → IfOk r (λ n. n ≤ POINT_CODES - 1) → IfOk r IsPoint
    weaker (Ok n) few = omega (arith, few)
    weaker (Err f) few = tt

-- Rows.

entity_at-in : (own : ℕ) (place : Place) (ms : Members) (key : List ℕ) → IfOk (entity_at own place ms key) EntityInRange
unfolding entity_at
entity_at-in own place ms key =
    after_any EntityInRange (text_at place ms key) _ (λ text. given-some EntityInRange (entity_of own text) (fault kind.Range (path place key)) (entity-in own text))

second-in : (own : ℕ) (place : Place) (ms : Members) → IfOk (second_at own place ms) (λ e. IfSome e EntityInRange)
unfolding second_at
second-in own place ms = by_data (get_member (codes "second") ms)
  where
    by_data : (d : Option Data) → IfOk (elim d [ None ↦ Ok None | Some d ↦ entity_at own place ms (codes "second") >>= (λ entity. Ok (Some entity)) ]) (λ e. IfSome e EntityInRange)
    by_data None = tt
    by_data (Some d) = bound EntityInRange (λ e. IfSome e EntityInRange) (entity_at own place ms (codes "second")) _ (entity_at-in own place ms (codes "second")) (λ entity in_range. in_range)

row-in : (own : ℕ) (found : List Row) (place : Place) (ms : Members) → IfOk (row_of own found place ms) RowInRange
unfolding row_of
row-in own found place ms =
    after_any RowInRange (selector_at place ms) _ (λ selector.
    after_any RowInRange (prefix_at found selector place ms) _ (λ prefix.
    bound EntityInRange RowInRange (entity_at own place ms (codes "first")) _ (entity_at-in own place ms (codes "first")) (λ first f.
    bound (λ e. IfSome e EntityInRange) RowInRange (second_at own place ms) _ (second-in own place ms) (λ second s. (f, s)))))

abbrev RowsInRange : List Row → Type 0
RowsInRange rows = AllByRecursion RowInRange rows

rows_after-in : (own : ℕ) (found : List Row) (tables : List Members) → RowsInRange found → IfOk (rows_after own found tables) RowsInRange
rows_after-in own found [] all = all
rows_after-in own found (ms ∷ more) all =
    bound RowInRange RowsInRange (row_of own found (Nth Rows (length found + 1)) ms) _ (row-in own found (Nth Rows (length found + 1)) ms) (λ row r.
    rows_after-in own (found ++ row ∷ []) more (all-append RowInRange found (row ∷ []) all (r, tt)))

rows-in : (own : ℕ) (d : Option Data) → IfOk (rows_value own d) RowsInRange
unfolding rows_value
rows-in own d =
    after_any RowsInRange (tables_value Rows d) _ (λ tables.
    either (λ r. IfOk r RowsInRange) (nat_lt MOST (length tables)) (Err (fault kind.Range (codes "row"))) (rows_after own [] tables) tt (rows_after-in own [] tables tt))

-- Replicates.

abbrev ReplicateInRange : Replicate → Type 0
ReplicateInRange r = IsOctet r.ssn × IsPoint r.point

abbrev ReplicatesInRange : List Replicate → Type 0
ReplicatesInRange replicates = AllByRecursion ReplicateInRange replicates

user-in : (users : List ℕ) (found : List Replicate) (place : Place) (ms : Members) → IfOk (user_at users found place ms) IsOctet
unfolding user_at number_at
user-in users found place ms =
    bound (λ n. n ≤ SUBSYSTEM_NUMBERS - 1) IsOctet (number_value (path place (codes "ssn")) (required 0 (SUBSYSTEM_NUMBERS - 1)) (get_member (codes "ssn") ms)) _
    (required-most (path place (codes "ssn")) 0 (SUBSYSTEM_NUMBERS - 1) (get_member (codes "ssn") ms)) (λ ssn few.
    either (λ r. IfOk r IsOctet) (is_new_user users found ssn) (Ok ssn) (Err (fault kind.Range (path place (codes "ssn")))) (omega (arith, few)) tt)

other-in : (own : ℕ) (place : Place) (ms : Members) → IfOk (other_point_at own place ms) IsPoint
unfolding other_point_at
other-in own place ms =
    bound IsPoint IsPoint (point_at place ms) _ (point-in place ms) (λ point p.
    either (λ r. IfOk r IsPoint) (point == own) (Err (fault kind.Range (path place (codes "point")))) (Ok point) tt p)

replicate-in : (own : ℕ) (users : List ℕ) (found : List Replicate) (place : Place) (ms : Members) → IfOk (replicate_of own users found place ms) ReplicateInRange
unfolding replicate_of
replicate-in own users found place ms =
    bound IsOctet ReplicateInRange (user_at users found place ms) _ (user-in users found place ms) (λ ssn s.
    bound IsPoint ReplicateInRange (other_point_at own place ms) _ (other-in own place ms) (λ point p. (s, p)))

replicates_after-in : (own : ℕ) (users : List ℕ) (found : List Replicate) (tables : List Members) → ReplicatesInRange found
    → IfOk (replicates_after own users found tables) ReplicatesInRange
replicates_after-in own users found [] all = all
replicates_after-in own users found (ms ∷ more) all =
    bound ReplicateInRange ReplicatesInRange (replicate_of own users found (Nth Replicates (length found + 1)) ms) _
    (replicate-in own users found (Nth Replicates (length found + 1)) ms) (λ replicate r.
    replicates_after-in own users (found ++ replicate ∷ []) more (all-append ReplicateInRange found (replicate ∷ []) all (r, tt)))

replicates-in : (own : ℕ) (users : List ℕ) (d : Option Data) → IfOk (replicates_value own users d) ReplicatesInRange
unfolding replicates_value
replicates-in own users d =
    after_any ReplicatesInRange (tables_value Replicates d) (replicates_after own users []) (λ tables. replicates_after-in own users [] tables tt)

-- The head: what the numbers of it are beside those that `IsHead` tells.

record RestInRange (head : Head) : Type 0 where
  pub point : IsPoint head.point
  pub rows : RowsInRange head.row
  pub replicates : ReplicatesInRange head.replicate

with-in : (point : ℕ) (users : List ℕ) (counts : Counts) (concerned : List ℕ) (ms : Members) → IsPoint point → IfOk (head_with point users counts concerned ms) RestInRange
with-in point users counts concerned ms p =
    after_any RestInRange (timers_value (get_member (codes "timers") ms)) _ (λ timers.
    bound RowsInRange RestInRange (rows_value point (get_member (codes "row") ms)) _ (rows-in point (get_member (codes "row") ms)) (λ rows r.
    bound ReplicatesInRange RestInRange (replicates_value point users (get_member (codes "replicate") ms)) _ (replicates-in point users (get_member (codes "replicate") ms)) (λ replicates s.
    after_any RestInRange (points_value (codes "short") point (get_member (codes "short") ms)) _ (λ short. record { point = p; rows = r; replicates = s }))))

values-in : (ms : Members) → IfOk (values_of ms) RestInRange
unfolding values_of
values-in ms =
    bound IsPoint RestInRange (point_at Top ms) _ (point-in Top ms) (λ point p.
    after_any RestInRange (users_value (get_member (codes "users") ms)) _ (λ users.
    after_any RestInRange (counts_of ms) _ (λ counts.
    after_any RestInRange (points_value (codes "concerned") point (get_member (codes "concerned") ms)) _ (λ concerned. with-in point users counts concerned ms p))))

points-in : (points : List ℕ) → AllByRecursion (λ n. IsWithin 0 n (POINT_CODES - 1)) points → AllByRecursion IsPoint points
points-in [] all = tt
points-in (point ∷ points) all = (omega (arith, all.0.1), points-in points all.1)

both-in : (head : Head) → IsHead head → RestInRange head → HeadInRange head
both-in head is rest = record {
  point = rest.point;
  conn_lanes = is.conn_lanes.1;
  links = omega (arith, is.links.1);
  credit = omega (arith, is.credit.1);
  concerned = points-in head.concerned is.concerned.numbers.each;
  rows = rest.rows;
  replicates = rest.replicates;
}

whole-in : (ms : Members) (r : Result Head HeadFault) → values_of ms ≡ r → IfOk r RestInRange → IfOk r HeadInRange
whole-in ms (Ok head) e rest = both-in head (read_in_range (Ok head) ms e) rest
whole-in ms (Err f) e rest = tt

pub heads_are_in_range : HeadsAreInRange
unfolding head_of_text
heads_are_in_range text =
    after_any HeadInRange (table_of text) _ (λ table.
    after_any HeadInRange (all_known table) _ (λ known. whole-in table (values_of table) refl (values-in table)))
