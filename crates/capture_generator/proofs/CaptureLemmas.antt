-- The phases of a generated capture: their stamps, their links, and how many events they have.
use Rattle.std.proofs.Common.{◌≡◌, ◌∙◌, ℕ, zero, suc, ◌+◌, ◌-◌, ◌*◌, ◌/◌, ◌%◌, ◌==◌, ◌≤◌, append_assoc, subst, Bool, true, false, cond, List, [], ◌∷◌, ◌++◌, length, refl, ap, arith, rules, length-append}
use Rattle.std.proofs.lemmas.List.Concat.{flat_map-append}
use Rattle.std.specs.List.{AllByRecursion, IsDistinct}
use Rattle.plant_core.specs.Terms.{AreTicks}
use Rattle.plant_core.specs.declared.terms.TheConstants.{USUAL_TICKS}
use Rattle.node_head.specs.declared.head.TheConstants.{GREATEST_USER, LEAST_USER}
use Rattle.node_head.specs.Ranges.{AreNumbers, AreOthers, AreReplicates, IsHead}
use Rattle.relay_base.specs.declared.words.Event.{Event}
use Rattle.relay_base.specs.declared.words.Event.TheVariants.{Asked}
use Rattle.relay_base.specs.declared.words.Request.TheVariants.{Accept}
use Rattle.plant_core.specs.declared.entry.ControlEvent.{ControlEvent}
use Rattle.plant_core.specs.declared.entry.ControlEvent.TheVariants.{Plain}
use Rattle.relay_base.specs.declared.limits.TheConstants.{MOST_GENERATED_LINES, OCTET_VALUES}
use Rattle.capture_form.specs.declared.steps.TheConstants.{MOST_LINES}
use Rattle.capture_form.specs.Events.{Stamped, phase_events, all_events, AreOfLinks, AreOfPhases}
use Rattle.capture_form.specs.Links.{comes_on_link, AreOnLinks, AreLinked}
use Rattle.capture_generator.specs.declared.events.TheConstants.{BLOCK}
use Rattle.capture_generator.specs.Generator.{generator_head, Phases, number_after, reference_at, unit_octets, request_octets, data_octets, message_at, event_of_kind, stamped_at, events_after, block_phase, tick_phase, whole_blocks, phases_after}

pub all-append : {A : Type 0} (P : A → Type 0) (xs ys : List A) → AllByRecursion P xs → AllByRecursion P ys → AllByRecursion P (xs ++ ys)
all-append P [] ys f g = g
all-append P (x ∷ xs) ys f g = (f.0, all-append P xs ys f.1 g)

all-push : {A : Type 0} (P : A → Type 0) (xs : List A) (x : A) → AllByRecursion P xs → P x → AllByRecursion P (xs ++ x ∷ [])
all-push P xs x h p = all-append P xs (x ∷ []) h (p, tt)

-- ---- the head

head-users : AreNumbers LEAST_USER (8 ∷ []) GREATEST_USER
unfolding IsDistinct
head-users = record { each = ((omega arith, omega arith), tt); distinct = (tt, tt); few = omega arith }

head-others : AreOthers 1 []
unfolding IsDistinct
head-others = record { numbers = record { each = tt; distinct = tt; few = omega arith }; others = refl }

head-replicates : AreReplicates 1 (8 ∷ []) []
unfolding IsDistinct
head-replicates = record { each = tt; distinct = tt }

ticks-within : AreTicks USUAL_TICKS
ticks-within = record {
  connect = (omega arith, omega arith);
  ias = (omega arith, omega arith);
  iar = (omega arith, omega arith);
  rel = (omega arith, omega arith);
  repeat = (omega arith, omega arith);
  int = (omega arith, omega arith);
  reset = (omega arith, omega arith);
  reassembly = (omega arith, omega arith);
  freeze = (omega arith, omega arith);
  status = (omega arith, omega arith);
  status_max = (omega arith, omega arith);
  coord = (omega arith, omega arith);
}

pub head-within : IsHead generator_head
head-within = record {
  users = head-users;
  conn_lanes = (omega arith, omega arith);
  data_lanes = (omega arith, omega arith);
  links = (omega arith, omega arith);
  credit = (omega arith, omega arith);
  concerned = head-others;
  timers = ticks-within;
  rows = search rules;
  replicates = head-replicates;
  short = head-others;
}

-- ---- stamps

-- the lines of block b stand in one phase
events-stamped : (x b n : ℕ) → n ≤ BLOCK → AllByRecursion (λ e. (e.0.phase ≡ 1 + 2 * b) × (e.0.link ≡ 1)) (events_after x (BLOCK * b) n)
unfolding events_after
events-stamped x b zero h = tt
events-stamped x b (suc n) h =
    all-push _ (events_after x (BLOCK * b) n) (stamped_at (number_after x (suc n)) (BLOCK * b + n)) (events-stamped x b n (omega (arith, h)))
    (omega (arith, h), refl)

block-stamped : (x b n : ℕ) → n ≤ BLOCK → AreOfLinks (1 + 2 * b) 0 (block_phase x b n)
block-stamped x b n h = (tt, (events-stamped (number_after x (BLOCK * b)) b n h, tt))

phases-push : (phase : ℕ) (phases : Phases) (lists : List Stamped) → AreOfPhases 1 phase phases → length lists ≡ 2 → AreOfLinks (phase + length phases) 0 lists
    → AreOfPhases 1 phase (phases ++ lists ∷ [])
phases-push phase [] lists h n l =
    let same : phase + 0 ≡ phase = omega arith in
    (n, subst (λ k. AreOfLinks k 0 lists) same l, tt)
phases-push phase (first ∷ more) lists h n l =
    let same : phase + suc (length more) ≡ phase + 1 + length more = omega arith in
    (h.0, h.1, phases-push (phase + 1) more lists h.2 n (subst (λ k. AreOfLinks k 0 lists) same l))

-- two phases for each block
length-blocks : (x b : ℕ) → length (whole_blocks x b) ≡ 2 * b
unfolding whole_blocks
length-blocks x zero = refl
length-blocks x (suc b) = omega (arith, length-append (whole_blocks x b) (block_phase x b BLOCK ∷ tick_phase b ∷ []), length-blocks x b)

block-push : (x b n : ℕ) → n ≤ BLOCK → AreOfPhases 1 1 (whole_blocks x b) → AreOfPhases 1 1 (whole_blocks x b ++ block_phase x b n ∷ [])
block-push x b n h stamped =
    let phase : 1 + 2 * b ≡ 1 + length (whole_blocks x b) = omega (arith, length-blocks x b) in
    phases-push 1 (whole_blocks x b) (block_phase x b n) stamped refl (subst (λ k. AreOfLinks k 0 (block_phase x b n)) phase (block-stamped x b n h))

tick-stamped : (b : ℕ) → AreOfLinks (2 + 2 * b) 0 (tick_phase b)
tick-stamped b = (((refl, refl), tt), (tt, tt))

blocks-stamped : (x b : ℕ) → AreOfPhases 1 1 (whole_blocks x b)
unfolding whole_blocks
blocks-stamped x zero = tt
blocks-stamped x (suc b) =
    let block = whole_blocks x b ++ block_phase x b BLOCK ∷ [] in
    let phase : 2 + 2 * b ≡ 1 + length block = omega (arith, length-append (whole_blocks x b) (block_phase x b BLOCK ∷ []), length-blocks x b) in
    rw (← append_assoc (whole_blocks x b) (block_phase x b BLOCK ∷ []) (tick_phase b ∷ []))
    (phases-push 1 block (tick_phase b) (block-push x b BLOCK (omega arith) (blocks-stamped x b)) refl (subst (λ k. AreOfLinks k 0 (tick_phase b)) phase (tick-stamped b)))

stamped-choice : (none : Bool) (x lines : ℕ) → AreOfPhases 1 1 (cond none [] (whole_blocks x (lines / BLOCK) ++ block_phase x (lines / BLOCK) (lines % BLOCK) ∷ []))
stamped-choice true x lines = tt
stamped-choice false x lines = block-push x (lines / BLOCK) (lines % BLOCK) (omega arith) (blocks-stamped x (lines / BLOCK))

pub phases-stamped : (x lines : ℕ) → AreOfPhases 1 1 (phases_after x lines)
phases-stamped x lines = stamped-choice (lines == 0) x lines

-- ---- each event, and each phase

either : {A : Type 0} (P : A → Type 0) (t : Bool) (a b : A) → P a → P b → P (cond t a b)
either P true a b f g = f
either P false a b f g = g

-- by the kind of the event
pub of-kind :
    (P : Event → Type 0) (i : ℕ) → P (message_at i unit_octets) → P (message_at i (request_octets (i + 1))) → P (Asked 8 (Accept (reference_at i) 2 0 []))
    → P (message_at i (data_octets (reference_at i) (i % OCTET_VALUES))) → (kind : ℕ) → P (event_of_kind kind i)
of-kind P i unit request acceptance more kind =
    either P (kind == 0) (message_at i unit_octets) _ unit
    (either P (kind == 1) (message_at i (request_octets (i + 1))) _ request
    (either P (kind == 2) (Asked 8 (Accept (reference_at i) 2 0 [])) (message_at i (data_octets (reference_at i) (i % OCTET_VALUES))) acceptance more))

pub each-event : (P : ControlEvent → Type 0) → ((kind i : ℕ) → P (Plain (event_of_kind kind i))) → (x i n : ℕ) → AllByRecursion (λ e. P e.1) (events_after x i n)
unfolding events_after
each-event P h x i zero = tt
each-event P h x i (suc n) =
    all-push (λ e. P e.1) (events_after x i n) (stamped_at (number_after x (suc n)) (i + n)) (each-event P h x i n) (h (number_after x (suc n) / 65536 % 4) (i + n))

each-whole : (P : List Stamped → Type 0) → ((x b n : ℕ) → P (block_phase x b n)) → ((b : ℕ) → P (tick_phase b)) → (x b : ℕ) → AllByRecursion P (whole_blocks x b)
unfolding whole_blocks
each-whole P block tick x zero = tt
each-whole P block tick x (suc b) =
    all-append P (whole_blocks x b) (block_phase x b BLOCK ∷ tick_phase b ∷ []) (each-whole P block tick x b) (block x b BLOCK, (tick b, tt))

pub each-phase : (P : List Stamped → Type 0) → ((x b n : ℕ) → P (block_phase x b n)) → ((b : ℕ) → P (tick_phase b)) → (x lines : ℕ) → AllByRecursion P (phases_after x lines)
each-phase P block tick x lines =
    either (AllByRecursion P) (lines == 0) [] (whole_blocks x (lines / BLOCK) ++ block_phase x (lines / BLOCK) (lines % BLOCK) ∷ []) tt
    (all-push P (whole_blocks x (lines / BLOCK)) (block_phase x (lines / BLOCK) (lines % BLOCK)) (each-whole P block tick x (lines / BLOCK)) (block x (lines / BLOCK) (lines % BLOCK)))

-- ---- links

block-linked : (x b n : ℕ) → AreOnLinks (block_phase x b n)
block-linked x b n =
    let events : Stamped = events_after (number_after x (BLOCK * b)) (BLOCK * b) n in
    let linked : (kind i : ℕ) → comes_on_link (Plain (event_of_kind kind i)) ≡ true = λ kind i. of-kind (λ e. comes_on_link (Plain e) ≡ true) i refl refl refl refl kind in
    (tt, all-append (λ e. comes_on_link e.1 ≡ true) events [] (each-event (λ e. comes_on_link e ≡ true) linked (number_after x (BLOCK * b)) (BLOCK * b) n) tt)

pub phases-linked : (x lines : ℕ) → AreLinked (phases_after x lines)
phases-linked x lines = each-phase AreOnLinks block-linked (λ b. ((refl, tt), tt)) x lines

-- ---- how many events there are

length-events : (x i n : ℕ) → length (events_after x i n) ≡ n
unfolding events_after
length-events x i zero = refl
length-events x i (suc n) = omega (arith, length-append (events_after x i n) (stamped_at (number_after x (suc n)) (i + n) ∷ []), length-events x i n)

length-block : (x b n : ℕ) → length (phase_events (block_phase x b n)) ≡ n
length-block x b n = omega (arith, length-append (events_after (number_after x (BLOCK * b)) (BLOCK * b) n) [], length-events (number_after x (BLOCK * b)) (BLOCK * b) n)

length-phase : (lists : List Stamped) (more : Phases) → length (all_events (lists ∷ more)) ≡ length (phase_events lists) + length (all_events more)
length-phase lists more = length-append (phase_events lists) (all_events more)

length-joined : (phases more : Phases) → length (all_events (phases ++ more)) ≡ length (all_events phases) + length (all_events more)
length-joined phases more = ap length (flat_map-append phase_events phases more) ∙ length-append (all_events phases) (all_events more)

length-whole : (x b : ℕ) → length (all_events (whole_blocks x b)) ≡ (BLOCK + 1) * b
unfolding whole_blocks
length-whole x zero = refl
length-whole x (suc b) = omega (
  arith,
  length-joined (whole_blocks x b) (block_phase x b BLOCK ∷ tick_phase b ∷ []),
  length-phase (block_phase x b BLOCK) (tick_phase b ∷ []),
  length-block x b BLOCK,
  length-whole x b,
)

few-choice : (none : Bool) (x lines : ℕ) → lines ≤ MOST_GENERATED_LINES → length (all_events (cond none [] (whole_blocks x (lines / BLOCK) ++ block_phase x (lines / BLOCK) (lines % BLOCK) ∷ []))) ≤ MOST_LINES
few-choice true x lines h = omega arith
few-choice false x lines h = omega (
  arith,
  h,
  length-joined (whole_blocks x (lines / BLOCK)) (block_phase x (lines / BLOCK) (lines % BLOCK) ∷ []),
  length-phase (block_phase x (lines / BLOCK) (lines % BLOCK)) [],
  length-block x (lines / BLOCK) (lines % BLOCK),
  length-whole x (lines / BLOCK),
)

pub phases-few : (x lines : ℕ) → lines ≤ MOST_GENERATED_LINES → length (all_events (phases_after x lines)) ≤ MOST_LINES
phases-few x lines h = few-choice (lines == 0) x lines h
