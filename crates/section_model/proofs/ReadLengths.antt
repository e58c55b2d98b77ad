-- The values that are read in a format have the lengths that it allows.
use Rattle.std.proofs.Common.{◌≡◌, ℕ, ◌+◌, ◌-◌, ◌*◌, ◌≤◌, ◌==◌, ◌&&◌, ◌||◌, nat_lt, nat_le, Bool, true, false, not, cond, List, [], ◌∷◌, ◌++◌, length, take, drop, map, replicate, Ok, Err, IfOk, refl, sym, ◌∙◌, subst, arith, length-drop, length-take-le, eq-eqb, ne_eqb, eqb-true, ltb-false, if◌then◌else◌}
use Rattle.std.specs.Prelude.{Option, Some, None, IsTrue}
use Rattle.std.specs.List.{list_any, filter}
use Rattle.std.specs.declared.result.Result.{Result}
use Rattle.std.proofs.lemmas.Bool.{and_from, and_parts, or_left, or_right, not-false, both_ways}
use Rattle.relay_base.proofs.GivingLemmas.{bound}
use Rattle.relay_base.specs.declared.words.ReadFault.{ReadFault}
use Rattle.relay_base.specs.declared.words.ReadFault.TheVariants.{Empty, Short, PointerOut, ValueLength}
use Rattle.q713_shape.specs.declared.rules.VarRule.{VarRule}
use Rattle.q713_shape.specs.Format.{Format, Values, filled, pointer_width, is_long, length_width, is_length_of, is_option_length, place_behind_pointers}
use Rattle.q713_shape.specs.Reading.{number_at, target_of, value_at, variable_at, variables_at, filled_variables, Item, item, cut, items_in, first_fault, first_value, unless_fault, options_among, options_in, options_at, values_of}
use Rattle.q713_shape.specs.Writing.{have_lengths, is_option, have_option_lengths, are_options}

-- a value for each variable parameter, and each length one that the format allows
pub record HaveLengths (format : Format) (values : Values) : Type 0 where
  pub count : length format.vars ≤ length values.vars
  pub vars : IsTrue (have_lengths format.vars values.vars)
  pub options : IsTrue (are_options format.options values.options)

-- a step that follows a test keeps what the test's arms give
unless : {A E : Type 0} (P : A → Type 0) (test : Bool) (fault : E) (r : Result A E) → (test ≡ false → IfOk r P) → IfOk (if test then Err fault else r) P
unless P true fault r next = tt
unless P false fault r next = next refl

-- the variable parameters
value-within : (b : List ℕ) (rule : VarRule) (place : ℕ) → IfOk (value_at b rule place) (λ value. IsTrue (is_length_of rule (length value)))
unfolding value_at
value-within b rule place =
    let Within : List ℕ → Type 0 = λ value. IsTrue (is_length_of rule (length value)) in
    let size : ℕ = number_at (is_long rule) b place in
    let start : ℕ = place + length_width rule in
    unless Within (nat_lt (length b) (start + size)) Short (if not (is_length_of rule size) then Err (ValueLength rule.name) else Ok (take size (drop start b))) (λ inside.
    unless Within (not (is_length_of rule size)) (ValueLength rule.name) (Ok (take size (drop start b))) (λ good.
    let whole : length (take size (drop start b)) ≡ size = length-take-le size (drop start b) (omega (arith, ltb-false (length b) (start + size) inside, length-drop start b)) in
    subst (λ n. IsTrue (is_length_of rule n)) (sym whole) (not-false (is_length_of rule size) good)))

variable-within : (wide : Bool) (b : List ℕ) (place : ℕ) (rule : VarRule) → IfOk (variable_at wide b place rule) (λ value. IsTrue (is_length_of rule (length value)))
unfolding variable_at
variable-within wide b place rule =
    unless (λ value. IsTrue (is_length_of rule (length value))) (number_at wide b place == 0 || nat_le (length b) (target_of wide b place)) (PointerOut place) (value_at b rule (target_of wide b place)) (λ inside.
    value-within b rule (target_of wide b place))

abbrev AreWithin : List VarRule → List (List ℕ) → Type 0
AreWithin rules values = (length rules ≤ length values) × IsTrue (have_lengths rules values)

variables-within : (wide : Bool) (b : List ℕ) (place : ℕ) (rules : List VarRule) → IfOk (variables_at wide b place rules) (AreWithin rules)
unfolding variables_at
variables-within wide b place [] = (omega arith, refl)
variables-within wide b place (rule ∷ rules) =
    bound (λ value. IsTrue (is_length_of rule (length value))) (AreWithin (rule ∷ rules)) (variable_at wide b place rule) _ (variable-within wide b place rule) (λ first f.
    bound (AreWithin rules) (AreWithin (rule ∷ rules)) (variables_at wide b (place + pointer_width wide) rules) _ (variables-within wide b (place + pointer_width wide) rules) (λ rest r.
    (omega (arith, r.0), and_from (is_length_of rule (length first)) (have_lengths rules rest) f r.1)))

-- values behind them change nothing
more-within : (rules : List VarRule) (values more : List (List ℕ)) → AreWithin rules values → AreWithin rules (values ++ more)
more-within [] values more h = (omega arith, refl)
more-within (rule ∷ rules) [] more h = absurd (omega (arith, h.0))
more-within (rule ∷ rules) (value ∷ values) more h =
    let both = and_parts (is_length_of rule (length value)) (have_lengths rules values) h.1 in
    let rest = more-within rules values more (omega (arith, h.0), both.1) in
    (omega (arith, rest.0), and_from (is_length_of rule (length value)) (have_lengths rules (values ++ more)) both.0 rest.1)

filled-within : (wide : Bool) (b : List ℕ) (place : ℕ) (rules : List VarRule) → IfOk (filled_variables wide b place rules) (AreWithin rules)
filled-within wide b place rules =
    bound (AreWithin rules) (AreWithin rules) (variables_at wide b place rules) _ (variables-within wide b place rules) (λ values h.
    more-within rules values (replicate (3 - length values) []) h)

-- The optional parameters: a name is among those that are wanted.
abbrev Has : List ℕ → ℕ → Type 0
Has names name = list_any (λ n. n == name) names ≡ true

or_rest : (a b : Bool) → a ≡ false → (a || b) ≡ true → b ≡ true
or_rest true b e h = absurd (cc)
or_rest false b e h = h

or_more : (a b c : Bool) → (b ≡ true → c ≡ true) → (a || b) ≡ true → (a || c) ≡ true
or_more true b c f h = refl
or_more false b c f h = f h

-- a name stays wanted once another one was found
stays : (wanted : List ℕ) (name other : ℕ) → (name == other) ≡ false → Has wanted name → Has (filter (λ n. not (n == other)) wanted) name
stays [] name other apart h = h
stays (first ∷ wanted) name other apart h = by_test (first == other) refl (stays wanted name other apart)
  where
    by_test : (test : Bool) → (first == other) ≡ test → (Has wanted name → Has (filter (λ n. not (n == other)) wanted) name)
        → Has (cond (not test) (first ∷ filter (λ n. not (n == other)) wanted) (filter (λ n. not (n == other)) wanted)) name
    by_test true e more =
        let different : (first == name) ≡ false = ne_eqb first name (λ (same : first ≡ name). both_ways (name == other) apart (eq-eqb name other (sym same ∙ eqb-true first other e))) in
        more (or_rest (first == name) (list_any (λ n. n == name) wanted) different h)
    by_test false e more = or_more (first == name) (list_any (λ n. n == name) wanted) (list_any (λ n. n == name) (filter (λ n. not (n == other)) wanted)) more h

no-fault : (test : Bool) (fault : ReadFault) (rest : Option ReadFault) → (if test then Some fault else rest) ≡ None → (test ≡ false) × (rest ≡ None)
no-fault true fault rest h = absurd (cc)
no-fault false fault rest h = (refl, h)

good-length : (wanted good : Bool) → (wanted && not good) ≡ false → wanted ≡ true → good ≡ true
good-length true good e h = not-false good e
good-length false good e h = absurd (cc)

-- where no fault was found, the first value of a wanted name has a length that it may have
value-option : (items : List Item) (wanted : List ℕ) (name : ℕ) → Has wanted name → first_fault wanted items ≡ None → IsTrue (is_option name (first_value items name))
value-option [] wanted name has none = refl
value-option (cut ∷ items) wanted name has none = refl
value-option (item n value ∷ items) wanted name has none =
    let left : List ℕ = filter (λ m. not (m == n)) wanted in
    let no = no-fault (list_any (λ m. m == n) wanted && not (is_option_length n (length value))) (ValueLength n) (first_fault left items) none in
    by_test (name == n) refl no.0 (λ has'. value-option items left name has' no.1)
  where
    by_test : (test : Bool) → (name == n) ≡ test → (list_any (λ m. m == n) wanted && not (is_option_length n (length value))) ≡ false
        → (Has (filter (λ m. not (m == n)) wanted) name → IsTrue (is_option name (first_value items name)))
        → IsTrue (is_option name (if test then Some value else first_value items name))
    by_test true e good more =
        let same : name ≡ n = eqb-true name n e in
        subst (λ k. IsTrue (is_option_length k (length value))) (sym same) (good-length (list_any (λ m. m == n) wanted) (is_option_length n (length value)) good (subst (Has wanted) same has))
    by_test false e good more = more (stays wanted name n e has)

names-options : (items : List Item) (wanted names : List ℕ) (more : List (Option (List ℕ))) → ((name : ℕ) → Has names name → Has wanted name) → first_fault wanted items ≡ None → IsTrue (have_option_lengths names (map (first_value items) names ++ more))
names-options items wanted [] more within none = refl
names-options items wanted (name ∷ names) more within none =
    and_from (is_option name (first_value items name)) (have_option_lengths names (map (first_value items) names ++ more))
    (value-option items wanted name (within name (or_left (name == name) (list_any (λ n. n == name) names) (eq-eqb name name refl))) none)
    (names-options items wanted names more (λ other has. within other (or_right (name == other) (list_any (λ n. n == other) names) has)) none)

among-options : (names : List ℕ) (items : List Item) → IfOk (options_among names items) (λ values. IsTrue (have_option_lengths names values))
among-options names items = by_fault (first_fault names items) refl
  where
    by_fault : (fault : Option ReadFault) → first_fault names items ≡ fault → IfOk (unless_fault fault (filled 5 None (map (first_value items) names))) (λ values. IsTrue (have_option_lengths names values))
    by_fault (Some fault) e = tt
    by_fault None e = names-options items names names (replicate (5 - length (map (first_value items) names)) None) (λ name has. has) e

at-options : (wide : Bool) (b : List ℕ) (place : ℕ) (options : Option (List ℕ)) → IfOk (options_at wide b place options) (λ values. IsTrue (are_options options values))
unfolding options_at options_in
at-options wide b place None = refl
at-options wide b place (Some names) = by_test (number_at wide b place == 0)
  where
    there : Result (List (Option (List ℕ))) ReadFault
    there = options_in names (drop (target_of wide b place) b)

    by_test : (test : Bool) → IfOk (if test then options_among names [] else if nat_lt (length b) (target_of wide b place) then Err (PointerOut place) else there) (λ values. IsTrue (have_option_lengths names values))
    by_test true = among-options names []
    by_test false =
        unless (λ values. IsTrue (have_option_lengths names values)) (nat_lt (length b) (target_of wide b place)) (PointerOut place) there (λ inside.
        among-options names (items_in (length (drop (target_of wide b place) b)) (drop (target_of wide b place) b)))

-- what is read in a format has the lengths that it allows
pub values-lengths : (format : Format) (b : List ℕ) → IfOk (values_of format b) (HaveLengths format)
unfolding values_of
values-lengths format b =
    let place : ℕ = 1 + length format.fixed in
    let next : ℕ = place + pointer_width format.wide * length format.vars in
    unless (HaveLengths format) (length b == 0) Empty _ (λ some.
    unless (HaveLengths format) (nat_lt (length b) (place_behind_pointers format)) Short _ (λ room.
    bound (AreWithin format.vars) (HaveLengths format) (filled_variables format.wide b place format.vars) _ (filled-within format.wide b place format.vars) (λ vars v.
    bound (λ options. IsTrue (are_options format.options options)) (HaveLengths format) (options_at format.wide b next format.options) _ (at-options format.wide b next format.options) (λ options o.
    record { count = v.0; vars = v.1; options = o }))))
