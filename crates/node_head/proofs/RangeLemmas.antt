-- What a head that was read states is in its ranges.
use Rattle.std.proofs.Common.{◌≡◌, ℕ, ℤ, pos, negsuc, ◌+◌, ◌-◌, ◌≤◌, ◌==◌, ◌&&◌, ◌||◌, max, not, nat_lt, nat_le, nat_eq, codes, Bool, true, false, cond, List, [], ◌∷◌, ◌++◌, length, map, Option, Some, None, option_and_then, Result, Ok, Err, IfOk, IfSome, IsTrue, refl, sym, ap, ◌∙◌, subst, arith, length-append}
use Rattle.std.proofs.lemmas.Bool.Decides.{nat_tests}
use Rattle.std.proofs.lemmas.Cmp.{nat_eq_equiv}
use Rattle.std.proofs.lemmas.Map.Keys.{IsDistinct-push}
use Rattle.std.specs.List.{AllByRecursion, IsDistinct, list_any}
use Rattle.node_head.specs.declared.head.TheConstants.{GREATEST_USER, LEAST_USER, MOST_LINKS}
use Rattle.node_head.specs.declared.numbers.TheConstants.{MOST_NUMBERS}
use Rattle.plant_core.specs.declared.terms.TheConstants.{MOST_TICKS}
use Rattle.relay_base.specs.declared.limits.TheConstants.{GREATEST_CREDIT, MOST_LANES, POINT_CODES, SUBSYSTEM_NUMBERS}
use Rattle.relay_base.specs.Giving.{◌>>=◌}
use Rattle.toml.specs.Data.{Data, Members, no_members, get_member, as_integer, as_array, as_table}
use Rattle.sccp_address.specs.declared.address.Selector.{Selector}
use Rattle.gtt_table.specs.Rows.{has_row}
use Rattle.gtt_table.specs.declared.table.TheConstants.Table.{MOST}
use Rattle.gtt_table.specs.declared.row.Row.{Row}
use Rattle.plant_core.specs.Terms.{IsWithin, AreTicks}
use Rattle.plant_core.specs.declared.terms.Replicate.{Replicate}
use Rattle.node_head.specs.declared.fault.HeadFault.{HeadFault}
use Rattle.node_head.specs.declared.fault.HeadKind.TheVariants as kind
use Rattle.node_head.specs.declared.fault.HeadRefused.{HeadRefused}
use Rattle.node_head.specs.declared.head.Head.{Head}
use Rattle.node_head.specs.declared.head.Counts.{Counts}
use Rattle.node_head.specs.declared.section.Bounds.{Bounds}
use Rattle.node_head.specs.declared.section.Place.{Place}
use Rattle.node_head.specs.declared.section.Place.TheVariants.{Top, Timers, Nth}
use Rattle.node_head.specs.declared.section.TableArray.TheVariants.{Rows, Replicates}
use Rattle.node_head.specs.Addable.{are_addable}
use Rattle.node_head.specs.Entity.{digits_of}
use Rattle.node_head.specs.Keys.{path, required, usual, number_in, number_value, number_at, point_at, text_at}
use Rattle.node_head.specs.Numbers.{integers_after, new_number, numbers_after, numbers_value, users_value, other_points, points_value}
use Rattle.node_head.specs.Timers.{ticks_at, ticks_of, timers_value}
use Rattle.node_head.specs.Inner.Timers.{connection_ticks, release_ticks, waiting_ticks, management_ticks, grouped_ticks}
use Rattle.node_head.proofs.TimerLemmas.{grouped-flat}
use Rattle.node_head.specs.Tables.{tables_value}
use Rattle.node_head.specs.Rows.{selector_at, new_prefix, prefix_at, entity_at, second_at, row_of, rows_after, rows_value}
use Rattle.node_head.specs.Replicates.{has_replicate, is_new_user, user_at, other_point_at, replicate_of, replicates_after, replicates_value}
use Rattle.node_head.specs.Refusals.{Reads, fault, or_fault}
use Rattle.node_head.specs.Head.{counts_of, values_of}
use Rattle.node_head.specs.Ranges.{AreNumbers, AreOthers, IsReplicate, AreReplicates, IsHead}
use Rattle.node_head.proofs.AddableLemmas.{addable_more}
use Rattle.relay_base.proofs.GivingLemmas.{bound}
use Rattle.node_head.proofs.Given.{after_any, by_test}

-- ---- what holds of a value that may be none

given-some : {A : Type 0} (P : A → Type 0) (o : Option A) (f : HeadFault) → IfSome o P → IfOk (or_fault o f) P
given-some P None f h = tt
given-some P (Some a) f h = h

some_all : {A B : Type 0} (Q : B → Type 0) (o : Option A) (f : A → Option B) → ((a : A) → IfSome (f a) Q) → IfSome (option_and_then f o) Q
some_all Q None f g = tt
some_all Q (Some a) f g = g a

some_then : {A B : Type 0} (P : A → Type 0) (Q : B → Type 0) (o : Option A) (f : A → Option B) → IfSome o P → ((a : A) → P a → IfSome (f a) Q) → IfSome (option_and_then f o) Q
some_then P Q None f h g = tt
some_then P Q (Some a) f h g = g a h

some_map : {A : Type 0} (P Q : A → Type 0) (o : Option A) → IfSome o P → ((a : A) → P a → Q a) → IfSome o Q
some_map P Q None h g = tt
some_map P Q (Some a) h g = g a h

-- ---- numbers

within-test : (least n most : ℕ) → (nat_le least n && nat_le n most) ≡ true → IsWithin least n most
within-test least n most h = (grind (arith, nat_tests), grind (arith, nat_tests))

within-choice : (least n most : ℕ) (t : Bool) → (t ≡ true → IsWithin least n most) → IfSome (cond t (Some n) None) (λ m. IsWithin least m most)
within-choice least n most true h = h refl
within-choice least n most false h = tt

within-in : (least most : ℕ) (z : ℤ) → IfSome (number_in least most z) (λ m. IsWithin least m most)
within-in least most (pos n) = within-choice least n most (nat_le least n && nat_le n most) (within-test least n most)
within-in least most (negsuc n) = tt

within-value : (key : List ℕ) (b : Bounds) (d : Option Data) → IfSome b.default (λ n. IsWithin b.least n b.most) → IfOk (number_value key b d) (λ m. IsWithin b.least m b.most)
within-value key b None h = given-some (λ m. IsWithin b.least m b.most) b.default (fault kind.Missing key) h
within-value key b (Some d) h =
    after_any (λ m. IsWithin b.least m b.most) (or_fault (as_integer d) (fault kind.Kind key)) (λ z. or_fault (number_in b.least b.most z) (fault kind.Range key))
    (λ z. given-some (λ m. IsWithin b.least m b.most) (number_in b.least b.most z) (fault kind.Range key) (within-in b.least b.most z))

within-at : (place : Place) (ms : Members) (key : List ℕ) (b : Bounds) → IfSome b.default (λ n. IsWithin b.least n b.most)
    → IfOk (number_at place ms key b) (λ m. IsWithin b.least m b.most)
unfolding number_at
within-at place ms key b h = within-value (path place key) b (get_member key ms) h

-- ---- lanes, links and credit

record AreCounts (c : Counts) : Type 0 where
  conn_lanes : IsWithin 1 c.conn_lanes MOST_LANES
  data_lanes : IsWithin 1 c.data_lanes MOST_LANES
  links : IsWithin 1 c.links MOST_LINKS
  credit : IsWithin 1 c.credit GREATEST_CREDIT

counts-within : (ms : Members) → IfOk (counts_of ms) AreCounts
unfolding counts_of
counts-within ms =
    bound (λ n. IsWithin 1 n MOST_LANES) AreCounts (number_at Top ms (codes "conn_lanes") (usual 1 1 MOST_LANES)) _ (within-at Top ms (codes "conn_lanes") (usual 1 1 MOST_LANES) (omega arith, omega arith)) (λ conn_lanes h.
    bound (λ n. IsWithin 1 n MOST_LANES) AreCounts (number_at Top ms (codes "data_lanes") (usual 1 1 MOST_LANES)) _ (within-at Top ms (codes "data_lanes") (usual 1 1 MOST_LANES) (omega arith, omega arith)) (λ data_lanes i.
    bound (λ n. IsWithin 1 n MOST_LINKS) AreCounts (number_at Top ms (codes "links") (usual 1 1 MOST_LINKS)) _ (within-at Top ms (codes "links") (usual 1 1 MOST_LINKS) (omega arith, omega arith)) (λ links j.
    bound (λ n. IsWithin 1 n GREATEST_CREDIT) AreCounts (number_at Top ms (codes "credit") (usual 7 1 GREATEST_CREDIT)) _ (within-at Top ms (codes "credit") (usual 7 1 GREATEST_CREDIT) (omega arith, omega arith)) (λ credit k.
    record { conn_lanes = h; data_lanes = i; links = j; credit = k }))))

-- ---- timers

ticks-within : (place : Place) (ms : Members) (key : List ℕ) (default least : ℕ) → IsWithin least default MOST_TICKS → IfOk (ticks_at place ms key default least) (λ n. IsWithin least n MOST_TICKS)
unfolding ticks_at
ticks-within place ms key default least h = within-at place ms key (usual default least MOST_TICKS) h

three-ticks : (place : Place) (ms : Members) (one two three : List ℕ) (d e f least : ℕ) → IsWithin 1 d MOST_TICKS → IsWithin least e MOST_TICKS → IsWithin 1 f MOST_TICKS
    → IfOk (ticks_at place ms one d 1 >>= (λ a. ticks_at place ms two e least >>= (λ b. ticks_at place ms three f 1 >>= (λ c. Ok (a, b, c)))))
    (λ (t : ℕ × ℕ × ℕ). IsWithin 1 t.0 MOST_TICKS × IsWithin least t.1 MOST_TICKS × IsWithin 1 t.2 MOST_TICKS)
three-ticks place ms one two three d e f least g h i =
    bound (λ n. IsWithin 1 n MOST_TICKS) _ (ticks_at place ms one d 1) _ (ticks-within place ms one d 1 g) (λ a j.
    bound (λ n. IsWithin least n MOST_TICKS) _ (ticks_at place ms two e least) _ (ticks-within place ms two e least h) (λ b k.
    bound (λ n. IsWithin 1 n MOST_TICKS) _ (ticks_at place ms three f 1) _ (ticks-within place ms three f 1 i) (λ c l. (j, k, l))))

connection-within : (place : Place) (ms : Members) → IfOk (connection_ticks place ms) (λ (t : ℕ × ℕ × ℕ). IsWithin 1 t.0 MOST_TICKS × IsWithin 60 t.1 MOST_TICKS × IsWithin 1 t.2 MOST_TICKS)
unfolding connection_ticks
connection-within place ms = three-ticks place ms (codes "connect") (codes "ias") (codes "iar") 90 420 900 60 (omega arith, omega arith) (omega arith, omega arith) (omega arith, omega arith)

release-within : (place : Place) (ms : Members) → IfOk (release_ticks place ms) (λ (t : ℕ × ℕ × ℕ). IsWithin 1 t.0 MOST_TICKS × IsWithin 5 t.1 MOST_TICKS × IsWithin 1 t.2 MOST_TICKS)
unfolding release_ticks
release-within place ms = three-ticks place ms (codes "rel") (codes "repeat") (codes "int") 15 15 60 5 (omega arith, omega arith) (omega arith, omega arith) (omega arith, omega arith)

waiting-within : (place : Place) (ms : Members) → IfOk (waiting_ticks place ms) (λ (t : ℕ × ℕ × ℕ). IsWithin 1 t.0 MOST_TICKS × IsWithin 1 t.1 MOST_TICKS × IsWithin 1 t.2 MOST_TICKS)
unfolding waiting_ticks
waiting-within place ms = three-ticks place ms (codes "reset") (codes "reassembly") (codes "freeze") 15 15 60 1 (omega arith, omega arith) (omega arith, omega arith) (omega arith, omega arith)

longest : (status : ℕ) → IsWithin 1 status MOST_TICKS → IsWithin status (max 600 status) MOST_TICKS
longest status h = (grind (arith, nat_tests), grind (arith, nat_tests))

management-within : (place : Place) (ms : Members) → IfOk (management_ticks place ms) (λ (t : ℕ × ℕ × ℕ). IsWithin 1 t.0 MOST_TICKS × IsWithin t.0 t.1 MOST_TICKS × IsWithin 1 t.2 MOST_TICKS)
unfolding management_ticks
management-within place ms =
    bound (λ n. IsWithin 1 n MOST_TICKS) _ (ticks_at place ms (codes "status") 30 1) _ (ticks-within place ms (codes "status") 30 1 (omega arith, omega arith)) (λ status h.
    bound (λ n. IsWithin status n MOST_TICKS) _ (ticks_at place ms (codes "status_max") (max 600 status) status) _ (ticks-within place ms (codes "status_max") (max 600 status) status (longest status h)) (λ status_max i.
    bound (λ n. IsWithin 1 n MOST_TICKS) _ (ticks_at place ms (codes "coord") 90 1) _ (ticks-within place ms (codes "coord") 90 1 (omega arith, omega arith)) (λ coord j. (h, i, j))))

grouped-within : (place : Place) (ms : Members) → IfOk (grouped_ticks place ms) AreTicks
unfolding grouped_ticks
grouped-within place ms =
    bound (λ (t : ℕ × ℕ × ℕ). IsWithin 1 t.0 MOST_TICKS × IsWithin 60 t.1 MOST_TICKS × IsWithin 1 t.2 MOST_TICKS) AreTicks (connection_ticks place ms) _ (connection-within place ms) (λ connection h.
    bound (λ (t : ℕ × ℕ × ℕ). IsWithin 1 t.0 MOST_TICKS × IsWithin 5 t.1 MOST_TICKS × IsWithin 1 t.2 MOST_TICKS) AreTicks (release_ticks place ms) _ (release-within place ms) (λ release i.
    bound (λ (t : ℕ × ℕ × ℕ). IsWithin 1 t.0 MOST_TICKS × IsWithin 1 t.1 MOST_TICKS × IsWithin 1 t.2 MOST_TICKS) AreTicks (waiting_ticks place ms) _ (waiting-within place ms) (λ waiting j.
    bound (λ (t : ℕ × ℕ × ℕ). IsWithin 1 t.0 MOST_TICKS × IsWithin t.0 t.1 MOST_TICKS × IsWithin 1 t.2 MOST_TICKS) AreTicks (management_ticks place ms) _ (management-within place ms) (λ management k.
    record {
      connect = h.0;
      ias = h.1;
      iar = h.2;
      rel = i.0;
      repeat = i.1;
      int = i.2;
      reset = j.0;
      reassembly = j.1;
      freeze = j.2;
      status = k.0;
      status_max = k.1;
      coord = k.2;
    }))))

all-within : (place : Place) (ms : Members) → IfOk (ticks_of place ms) AreTicks
all-within place ms = subst (λ r. IfOk r AreTicks) (grouped-flat place ms) (grouped-within place ms)

timers-within : (d : Option Data) → IfOk (timers_value d) AreTicks
unfolding timers_value
timers-within None = all-within Timers no_members
timers-within (Some d) = after_any AreTicks (or_fault (as_table d) (fault kind.Kind (codes "timers"))) (ticks_of Timers) (all-within Timers)

-- ---- lists of different numbers

each-push : {X : Type 0} (P : X → Type 0) (xs : List X) (x : X) → AllByRecursion P xs → P x → AllByRecursion P (xs ++ x ∷ [])
each-push P [] x h p = (p, tt)
each-push P (y ∷ ys) x h p = (h.0, each-push P ys x h.1 p)

any-flipped : (n : ℕ) (xs : List ℕ) → list_any (nat_eq n) xs ≡ list_any (λ m. m == n) xs
any-flipped n [] = refl
any-flipped n (x ∷ xs) = ap (λ b. b || list_any (nat_eq n) xs) (nat_eq_equiv.symm n x) ∙ ap (λ b. nat_eq x n || b) (any-flipped n xs)

record AreFound (b : Bounds) (found : List ℕ) : Type 0 where
  each : AllByRecursion (λ n. IsWithin b.least n b.most) found
  distinct : IsDistinct nat_eq found

abbrev IsNew : Bounds → List ℕ → ℕ → Type 0
IsNew b found n = IsWithin b.least n b.most × (list_any (λ m. m == n) found ≡ false)

new-test : (b : Bounds) (found : List ℕ) (n : ℕ) (t : Bool) → IsWithin b.least n b.most → list_any (λ m. m == n) found ≡ t → IfSome (cond t None (Some n)) (IsNew b found)
new-test b found n true w e = tt
new-test b found n false w e = (w, e)

new-some : (b : Bounds) (found : List ℕ) (z : ℤ) → IfSome (new_number b found z) (IsNew b found)
new-some b found z =
    some_then (λ n. IsWithin b.least n b.most) (IsNew b found) (number_in b.least b.most z) (λ n. cond (list_any (λ m. m == n) found) None (Some n)) (within-in b.least b.most z)
    (λ n w. new-test b found n (list_any (λ m. m == n) found) w refl)

found-push : (b : Bounds) (found : List ℕ) (n : ℕ) → AreFound b found → IsNew b found n → AreFound b (found ++ n ∷ [])
found-push b found n h new = record {
  each = each-push (λ m. IsWithin b.least m b.most) found n h.each new.0;
  distinct = IsDistinct-push nat_eq_equiv found n h.distinct (any-flipped n found ∙ new.1);
}

numbers-some : (b : Bounds) (zs : List ℤ) (found : List ℕ) → AreFound b found → IfSome (numbers_after b found zs) (λ ns. AreFound b ns × (length ns ≡ length found + length zs))
numbers-some b [] found h = (h, omega arith)
numbers-some b (z ∷ zs) found h =
    some_then (IsNew b found) (λ ns. AreFound b ns × (length ns ≡ length found + length (z ∷ zs))) (new_number b found z) (λ n. numbers_after b (found ++ n ∷ []) zs) (new-some b found z) (λ n new.
    some_map (λ ns. AreFound b ns × (length ns ≡ length (found ++ n ∷ []) + length zs)) _ (numbers_after b (found ++ n ∷ []) zs) (numbers-some b zs (found ++ n ∷ []) (found-push b found n h new))
    (λ ns g. (g.0, omega (arith, g.1, length-append found (n ∷ [])))))

none-found : (b : Bounds) → AreFound b []
unfolding IsDistinct
none-found b = record { each = tt; distinct = tt }

few-test : (n : ℕ) → nat_lt MOST_NUMBERS n ≡ false → n ≤ MOST_NUMBERS
few-test n h = grind (arith, nat_tests)

few-numbers : (b : Bounds) (zs : List ℤ) (t : Bool) → nat_lt MOST_NUMBERS (length zs) ≡ t → IfSome (cond t None (numbers_after b [] zs)) (λ ns. AreNumbers b.least ns b.most)
few-numbers b zs true e = tt
few-numbers b zs false e =
    some_map (λ ns. AreFound b ns × (length ns ≡ 0 + length zs)) _ (numbers_after b [] zs) (numbers-some b zs [] (none-found b))
    (λ ns h. record { each = h.0.each; distinct = h.0.distinct; few = omega (arith, h.1, few-test (length zs) e) })

numbers-are : (key : List ℕ) (b : Bounds) (d : Option Data) → IfOk (numbers_value key b d) (λ ns. AreNumbers b.least ns b.most)
unfolding numbers_value
numbers-are key b None = record { each = tt; distinct = (none-found b).distinct; few = omega arith }
numbers-are key b (Some d) =
    after_any (λ ns. AreNumbers b.least ns b.most) (or_fault (as_array d) (fault kind.Kind key)) _ (λ items.
    after_any (λ ns. AreNumbers b.least ns b.most) (or_fault (integers_after [] items) (fault kind.Kind key)) _ (λ zs.
    given-some (λ ns. AreNumbers b.least ns b.most) (cond (nat_lt MOST_NUMBERS (length zs)) None (numbers_after b [] zs)) (fault kind.Range key) (few-numbers b zs (nat_lt MOST_NUMBERS (length zs)) refl)))

points-are : (key : List ℕ) (own : ℕ) (d : Option Data) → IfOk (points_value key own d) (AreOthers own)
unfolding points_value
points-are key own d =
    bound (λ ns. AreNumbers 0 ns (POINT_CODES - 1)) (AreOthers own) (numbers_value key (required 0 (POINT_CODES - 1)) d) (other_points key own) (numbers-are key (required 0 (POINT_CODES - 1)) d)
    (λ ns h. by_test (AreOthers own) (list_any (λ point. point == own) ns) (Err (fault kind.Range key)) (Ok ns) (λ e. tt) (λ e. record { numbers = h; others = e }))

-- ---- rows

abbrev IsApart : List Row → Selector → List ℕ → Type 0
IsApart found selector digits = has_row selector digits found ≡ false

apart-test : (found : List Row) (selector : Selector) (digits : List ℕ) (t : Bool) → has_row selector digits found ≡ t → IfSome (cond t None (Some digits)) (IsApart found selector)
apart-test found selector digits true e = tt
apart-test found selector digits false e = e

prefix-new : (found : List Row) (selector : Selector) (text : List ℕ) → IfSome (new_prefix found selector text) (IsApart found selector)
prefix-new found selector text =
    some_all (IsApart found selector) (digits_of text) (λ digits. cond (has_row selector digits found) None (Some digits))
    (λ digits. apart-test found selector digits (has_row selector digits found) refl)

prefix-apart : (found : List Row) (selector : Selector) (place : Place) (ms : Members) → IfOk (prefix_at found selector place ms) (IsApart found selector)
unfolding prefix_at
prefix-apart found selector place ms =
    after_any (IsApart found selector) (text_at place ms (codes "digits")) _ (λ text.
    given-some (IsApart found selector) (new_prefix found selector text) (fault kind.Range (path place (codes "digits"))) (prefix-new found selector text))

abbrev IsNewRow : List Row → Row → Type 0
IsNewRow found row = has_row row.selector row.prefix found ≡ false

row-new : (own : ℕ) (found : List Row) (place : Place) (ms : Members) → IfOk (row_of own found place ms) (IsNewRow found)
unfolding row_of
row-new own found place ms =
    after_any (IsNewRow found) (selector_at place ms) _ (λ selector.
    bound (IsApart found selector) (IsNewRow found) (prefix_at found selector place ms) _ (prefix-apart found selector place ms) (λ prefix h.
    after_any (IsNewRow found) (entity_at own place ms (codes "first")) _ (λ first.
    after_any (IsNewRow found) (second_at own place ms) _ (λ second. h))))

rows-addable : (own : ℕ) (tables : List Members) (found : List Row) → IsTrue (are_addable [] found) → length found + length tables ≤ MOST
    → IfOk (rows_after own found tables) (λ rows. IsTrue (are_addable [] rows))
rows-addable own [] found h few = h
rows-addable own (ms ∷ more) found h few =
    bound (IsNewRow found) (λ rows. IsTrue (are_addable [] rows)) (row_of own found (Nth Rows (length found + 1)) ms) (λ row. rows_after own (found ++ row ∷ []) more)
    (row-new own found (Nth Rows (length found + 1)) ms)
    (λ row apart. rows-addable own more (found ++ row ∷ []) (addable_more found row h (omega (arith, few)) apart) (omega (arith, few, length-append found (row ∷ []))))

few-rows : (n : ℕ) → nat_lt MOST n ≡ false → 0 + n ≤ MOST
few-rows n h = grind (arith, nat_tests)

rows-are : (own : ℕ) (d : Option Data) → IfOk (rows_value own d) (λ rows. IsTrue (are_addable [] rows))
unfolding rows_value
rows-are own d =
    after_any (λ rows. IsTrue (are_addable [] rows)) (tables_value Rows d) _ (λ tables.
    by_test (λ rows. IsTrue (are_addable [] rows)) (nat_lt MOST (length tables)) (Err (fault kind.Range (codes "row"))) (rows_after own [] tables) (λ e. tt)
    (λ e. rows-addable own tables [] refl (few-rows (length tables) e)))

-- ---- replicates

abbrev IsFree : List ℕ → List Replicate → ℕ → Type 0
IsFree users found ssn = (list_any (λ user. user == ssn) users ≡ true) × (has_replicate found ssn ≡ false)

free-test : (a b : Bool) → (a && not b) ≡ true → (a ≡ true) × (b ≡ false)
free-test true true h = cc
free-test true false h = (refl, refl)
free-test false b h = cc

user-free : (users : List ℕ) (found : List Replicate) (place : Place) (ms : Members) → IfOk (user_at users found place ms) (IsFree users found)
unfolding user_at
user-free users found place ms =
    after_any (IsFree users found) (number_at place ms (codes "ssn") (required 0 (SUBSYSTEM_NUMBERS - 1))) _ (λ ssn.
    by_test (IsFree users found) (is_new_user users found ssn) (Ok ssn) (Err (fault kind.Range (path place (codes "ssn"))))
    (free-test (list_any (λ user. user == ssn) users) (has_replicate found ssn)) (λ e. tt))

point-other : (own : ℕ) (place : Place) (ms : Members) → IfOk (other_point_at own place ms) (λ point. (point == own) ≡ false)
unfolding other_point_at
point-other own place ms =
    after_any (λ point. (point == own) ≡ false) (point_at place ms) _ (λ point.
    by_test (λ point. (point == own) ≡ false) (point == own) (Err (fault kind.Range (path place (codes "point")))) (Ok point) (λ e. tt) (λ e. e))

abbrev IsNewReplicate : ℕ → List ℕ → List Replicate → Replicate → Type 0
IsNewReplicate own users found r = IsReplicate own users r × (has_replicate found r.ssn ≡ false)

replicate-new : (own : ℕ) (users : List ℕ) (found : List Replicate) (place : Place) (ms : Members) → IfOk (replicate_of own users found place ms) (IsNewReplicate own users found)
unfolding replicate_of
replicate-new own users found place ms =
    bound (IsFree users found) (IsNewReplicate own users found) (user_at users found place ms) _ (user-free users found place ms) (λ ssn free.
    bound (λ point. (point == own) ≡ false) (IsNewReplicate own users found) (other_point_at own place ms) _ (point-other own place ms) (λ point other.
    (record { user = free.0; point = other }, free.1)))

abbrev ssns : List Replicate → List ℕ
ssns found = map (λ r. r.ssn) found

any-replicate : (ssn : ℕ) (found : List Replicate) → list_any (nat_eq ssn) (ssns found) ≡ has_replicate found ssn
any-replicate ssn [] = refl
any-replicate ssn (r ∷ rs) = ap (λ b. b || list_any (nat_eq ssn) (ssns rs)) (nat_eq_equiv.symm ssn r.ssn) ∙ ap (λ b. nat_eq r.ssn ssn || b) (any-replicate ssn rs)

ssns-push : (found : List Replicate) (r : Replicate) → ssns (found ++ r ∷ []) ≡ ssns found ++ r.ssn ∷ []
ssns-push [] r = refl
ssns-push (s ∷ ss) r = ap (λ l. s.ssn ∷ l) (ssns-push ss r)

replicates-push : (own : ℕ) (users : List ℕ) (found : List Replicate) (r : Replicate) → AreReplicates own users found → IsNewReplicate own users found r → AreReplicates own users (found ++ r ∷ [])
replicates-push own users found r h new = record {
  each = each-push (λ s. IsReplicate own users s) found r h.each new.0;
  distinct = subst (IsDistinct nat_eq) (sym (ssns-push found r)) (IsDistinct-push nat_eq_equiv (ssns found) r.ssn h.distinct (any-replicate r.ssn found ∙ new.1));
}

replicates-after : (own : ℕ) (users : List ℕ) (tables : List Members) (found : List Replicate) → AreReplicates own users found → IfOk (replicates_after own users found tables) (AreReplicates own users)
replicates-after own users [] found h = h
replicates-after own users (ms ∷ more) found h =
    bound (IsNewReplicate own users found) (AreReplicates own users) (replicate_of own users found (Nth Replicates (length found + 1)) ms) (λ r. replicates_after own users (found ++ r ∷ []) more)
    (replicate-new own users found (Nth Replicates (length found + 1)) ms)
    (λ r new. replicates-after own users more (found ++ r ∷ []) (replicates-push own users found r h new))

no-replicates : (own : ℕ) (users : List ℕ) → AreReplicates own users []
unfolding IsDistinct
no-replicates own users = record { each = tt; distinct = tt }

replicates-are : (own : ℕ) (users : List ℕ) (d : Option Data) → IfOk (replicates_value own users d) (AreReplicates own users)
unfolding replicates_value
replicates-are own users d =
    after_any (AreReplicates own users) (tables_value Replicates d) (replicates_after own users []) (λ tables. replicates-after own users tables [] (no-replicates own users))

-- ---- the head

head-in : (ms : Members) → IfOk (values_of ms) IsHead
unfolding values_of
head-in ms =
    after_any IsHead (point_at Top ms) _ (λ point.
    bound (λ ns. AreNumbers LEAST_USER ns GREATEST_USER) IsHead (users_value (get_member (codes "users") ms)) _ (numbers-are (codes "users") (required LEAST_USER GREATEST_USER) (get_member (codes "users") ms)) (λ users u.
    bound AreCounts IsHead (counts_of ms) _ (counts-within ms) (λ counts c.
    bound (AreOthers point) IsHead (points_value (codes "concerned") point (get_member (codes "concerned") ms)) _ (points-are (codes "concerned") point (get_member (codes "concerned") ms)) (λ concerned o.
    bound AreTicks IsHead (timers_value (get_member (codes "timers") ms)) _ (timers-within (get_member (codes "timers") ms)) (λ timers t.
    bound (λ rows. IsTrue (are_addable [] rows)) IsHead (rows_value point (get_member (codes "row") ms)) _ (rows-are point (get_member (codes "row") ms)) (λ row r.
    bound (AreReplicates point users) IsHead (replicates_value point users (get_member (codes "replicate") ms)) _ (replicates-are point users (get_member (codes "replicate") ms)) (λ replicates p.
    bound (AreOthers point) IsHead (points_value (codes "short") point (get_member (codes "short") ms)) _ (points-are (codes "short") point (get_member (codes "short") ms)) (λ short s.
    record {
      users = u;
      conn_lanes = c.conn_lanes;
      data_lanes = c.data_lanes;
      links = c.links;
      credit = c.credit;
      concerned = o;
      timers = t;
      rows = r;
      replicates = p;
      short = s;
    }))))))))

-- a head that was read is in its ranges
pub read_in_range : (r : Result Head HeadRefused) (ms : Members) → Reads r (values_of ms) → IfOk r IsHead
read_in_range (Ok head) ms e = subst (λ r. IfOk r IsHead) e (head-in ms)
read_in_range (Err f) ms e = tt
