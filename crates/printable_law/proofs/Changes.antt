-- What the lines of an operator change is in its ranges.
use Rattle.std.proofs.Common.{◌≡◌, ℕ, ◌<◌, ◌==◌, ◌&&◌, nat_lt, not, codes, Bool, true, false, List, [], ◌∷◌, length, if◌then◌else◌, Option, Some, None, Err, refl}
use Rattle.std.specs.Prelude.{IfSome, IfOk, option_and_then, option_map}
use Rattle.relay_base.proofs.GivingLemmas.{bound}
use Rattle.relay_base.specs.Decimal.{number_of}
use Rattle.relay_base.specs.declared.limits.TheConstants.{POINT_CODES, SUBSYSTEM_NUMBERS}
use Rattle.sccp_address.specs.declared.address.Selector.{Selector}
use Rattle.gtt_table.specs.declared.row.Entity.{Entity}
use Rattle.node_head.proofs.Given.{after_any}
use Rattle.node_head.specs.Entity.{number_below, optional_subsystem, parted, leading, entity_of}
use Rattle.node_head.specs.Keys.{same}
use Rattle.node_head.specs.declared.head.Head.{Head}
use Rattle.std.proofs.lemmas.Bool.{ltb-true}
use Rattle.capture_form.specs.Changes.{selector_of, second_of, row_of, with_row, add_form, del_form, row_form, status_form, service_form, change_of}
use Rattle.capture_form.specs.Words.{prefix_of, lead_of, other_point_of, user_of}
use Rattle.capture_form.specs.declared.fault.LineKind.TheVariants.{Words, Entity as NoEntity}
use Rattle.printable_law.specs.OctetLaw.{IsOctet}
use Rattle.printable_law.specs.Ranges.{IsPoint, EntityInRange, RowInRange, ChangeInRange}
use Rattle.printable_law.proofs.Lists.{either}
use Rattle.printable_law.proofs.Words.{kinded, other_point-in, user-in}

-- Where a translation leads.

pub and-then : {A B : Type 0} (P : A → Type 0) (Q : B → Type 0) (o : Option A) (f : A → Option B) → IfSome o P → ((x : A) → P x → IfSome (f x) Q)
    → IfSome (option_and_then f o) Q
and-then P Q None f first next = tt
and-then P Q (Some x) f first next = next x first

mapped : {A B : Type 0} (P : A → Type 0) (Q : B → Type 0) (o : Option A) (f : A → B) → IfSome o P → ((x : A) → P x → Q (f x)) → IfSome (option_map f o) Q
mapped P Q None f first next = tt
mapped P Q (Some x) f first next = next x first

some-any : {A : Type 0} (o : Option A) → IfSome o (λ _. Unit {0})
some-any None = tt
some-any (Some x) = tt

number-in : (limit : ℕ) (word : List ℕ) → IfSome (number_below limit word) (λ n. n < limit)
number-in limit word =
    and-then (λ _. Unit {0}) (λ n. n < limit) (number_of word) _ (some-any (number_of word)) (λ n is. by_test n (nat_lt n limit) (ltb-true n limit))
  where
    by_test : (n : ℕ) (less : Bool) → (less ≡ true → n < limit) → IfSome (if less then Some n else None) (λ n. n < limit)
    by_test n true holds = holds refl
    by_test n false holds = tt

subsystem-in : (word : List ℕ) → IfSome (optional_subsystem word) (λ ssn. IfSome ssn IsOctet)
subsystem-in word =
    either (λ (o : Option (Option ℕ)). IfSome o (λ ssn. IfSome ssn IsOctet)) (same word (codes "-")) (Some None) _ tt
    (mapped IsOctet (λ ssn. IfSome ssn IsOctet) (number_below SUBSYSTEM_NUMBERS word) Some (number-in SUBSYSTEM_NUMBERS word) (λ n small. small))

leading-in : (own point : ℕ) (ssn way : List ℕ) → IsPoint point → IfSome (leading own point ssn way) EntityInRange
leading-in own point ssn way p =
    either (λ (o : Option Entity). IfSome o EntityInRange) (same way (codes "s")) _ _
    (mapped IsOctet EntityInRange (number_below SUBSYSTEM_NUMBERS ssn) _ (number-in SUBSYSTEM_NUMBERS ssn) (λ n small. (p, small)))
    (either (λ (o : Option Entity). IfSome o EntityInRange) (same way (codes "g") && not (point == own)) _ None
    (mapped (λ s. IfSome s IsOctet) EntityInRange (optional_subsystem ssn) _ (subsystem-in ssn) (λ s small. (p, small))) tt)

pub entity-in : (own : ℕ) (text : List ℕ) → IfSome (entity_of own text) EntityInRange
unfolding entity_of
entity-in own text =
    and-then (λ _. Unit {0}) EntityInRange (parted text) _ (some-any (parted text)) (λ head h.
    and-then (λ _. Unit {0}) EntityInRange (parted head.1) _ (some-any (parted head.1)) (λ tail t.
    and-then IsPoint EntityInRange (number_below POINT_CODES head.0) _ (number-in POINT_CODES head.0) (λ point p. leading-in own point tail.0 tail.1 p)))

-- Rows.

lead-in : (own : ℕ) (word : List ℕ) → IfOk (lead_of own word) EntityInRange
lead-in own word = kinded EntityInRange _ NoEntity (entity-in own word)

second-in : (own : ℕ) (words : List (List ℕ)) → IfOk (second_of own words) (λ e. IfSome e EntityInRange)
second-in own [] = tt
second-in own (word ∷ more) = bound EntityInRange (λ e. IfSome e EntityInRange) (lead_of own word) _ (lead-in own word) (λ e in_range. in_range)

row-in : (own : ℕ) (selector : Selector) (digits lead : List ℕ) (more : List (List ℕ)) → IfOk (row_of own selector digits lead more) RowInRange
row-in own selector digits lead more =
    after_any RowInRange (prefix_of digits) _ (λ prefix.
    bound EntityInRange RowInRange (lead_of own lead) _ (lead-in own lead) (λ first f.
    bound (λ e. IfSome e EntityInRange) RowInRange (second_of own more) _ (second-in own more) (λ second s. (f, s))))

add-in : (own : ℕ) (words : List (List ℕ)) → IfOk (add_form own words) ChangeInRange
unfolding with_row
add-in own (gti ∷ type ∷ plan ∷ nature ∷ digits ∷ lead ∷ more) =
    either (λ r. IfOk r ChangeInRange) (nat_lt 1 (length more)) (Err Words) _ tt
    (after_any ChangeInRange (selector_of gti type plan nature) _ (λ selector.
    bound RowInRange ChangeInRange (row_of own selector digits lead more) _ (row-in own selector digits lead more) (λ row r. r)))
add-in own _ = tt

del-in : (words : List (List ℕ)) → IfOk (del_form words) ChangeInRange
del-in (gti ∷ type ∷ plan ∷ nature ∷ digits ∷ []) =
    after_any ChangeInRange (selector_of gti type plan nature) _ (λ selector. after_any ChangeInRange (prefix_of digits) _ (λ prefix. tt))
del-in _ = tt

pub row_form-in : (own : ℕ) (words : List (List ℕ)) → IfOk (row_form own words) ChangeInRange
row_form-in own [] = tt
row_form-in own (word ∷ more) =
    either (λ r. IfOk r ChangeInRange) (same word (codes "add")) (add_form own more) _ (add-in own more)
    (either (λ r. IfOk r ChangeInRange) (same word (codes "del")) (del_form more) (Err Words) (del-in more) tt)

-- Statuses.

status-in : (own : ℕ) (words : List (List ℕ)) → IfOk (status_form own words) ChangeInRange
status-in own (word ∷ number ∷ []) =
    either (λ r. IfOk r ChangeInRange) (same word (codes "pause")) _ _ (bound IsPoint ChangeInRange (other_point_of own number) _ (other_point-in own number) (λ point p. p))
    (either (λ r. IfOk r ChangeInRange) (same word (codes "resume")) _ (Err Words) (bound IsPoint ChangeInRange (other_point_of own number) _ (other_point-in own number) (λ point p. p)) tt)
status-in own _ = tt

service-in : (users : List ℕ) (words : List (List ℕ)) → IfOk (service_form users words) ChangeInRange
service-in users (number ∷ word ∷ []) =
    either (λ r. IfOk r ChangeInRange) (same word (codes "in")) _ _ (bound IsOctet ChangeInRange (user_of users number) _ (user-in users number) (λ ssn s. s))
    (either (λ r. IfOk r ChangeInRange) (same word (codes "out")) _ (Err Words) (bound IsOctet ChangeInRange (user_of users number) _ (user-in users number) (λ ssn s. s)) tt)
service-in users _ = tt

pub change-in : (head : Head) (first : List ℕ) (more : List (List ℕ)) → IfOk (change_of head first more) ChangeInRange
change-in head first more =
    either (λ r. IfOk r ChangeInRange) (same first (codes "p")) (status_form head.point more) _ (status-in head.point more)
    (either (λ r. IfOk r ChangeInRange) (same first (codes "s")) (service_form head.users more) (Err Words) (service-in head.users more) tt)
