-- One end takes data, or that they left, or a reset.
use Rattle.std.proofs.Common.{◌≡◌, ℕ, suc, ◌+◌, ◌≤◌, ◌==◌, ◌&&◌, nat_lt, not, Bool, true, false, List, [], ◌∷◌, ◌++◌, length, drop, map, fold, if◌then◌else◌, Some, None, refl, sym, subst, ◌∙◌, arith, append_assoc, append-nil}
use Rattle.std.proofs.lemmas.Bool.{eqb-true, eqb-false, false≢true}
use Rattle.std.proofs.lemmas.List.{drop-append-le, length_push}
use Rattle.relay_base.specs.declared.causes.TheConstants.{RELEASE_ACCESS_CONGESTION}
use Rattle.relay_base.specs.declared.limits.TheConstants.{GREATEST_CREDIT, LONGEST_TEXT}
use Rattle.section_model.specs.declared.hand.Hand.{Hand}
use Rattle.section_flow.specs.declared.unit.Unit.{Unit as DataUnit}
use Rattle.section_model.specs.declared.hand.Hand.TheVariants as hand
use Rattle.section_model.specs.declared.hand.Acted.{Acted}
use Rattle.plant_core.specs.declared.terms.Ticks.{Ticks}
use Rattle.relay_base.specs.declared.words.Output.{Output}
use Rattle.section_model.specs.declared.cell.SectionState.{SectionState}
use Rattle.section_model.specs.declared.cell.SectionState.TheVariants.{Up, Resetting}
use Rattle.section_model.specs.declared.cell.UserState.{UserState}
use Rattle.section_model.specs.declared.cell.UserState.TheVariants as user
use Rattle.section_model.specs.declared.cell.Cell.TheVariants as cell
use Rattle.section_model.specs.Ends.{End, wire, owner, Section, User, Connection, no_effect, gives, gives_then, cleared, is_up, is_connected}
use Rattle.section_flow.specs.Windows.{Windows}
use Rattle.section_model.specs.Table.{section_row, user_row}
use Rattle.section_model.specs.Line.{line_takes, passes_unit}
use Rattle.section_model.specs.Windowed.{Windowed, windowed_takes, sends_expedited}
use Rattle.section_model.specs.UserEnd.{user_takes, tells_expedited, handed}
use Rattle.section_model.specs.Acting.{timed, by_windows, line_in, by_line, section_takes, end_takes}
use Rattle.section_model.specs.Coupling.{exchange, other_takes}
use Rattle.connection_law.specs.InStep.{Stage, connected, Meets, stage_at, section_stage, user_stage, IsInStep, AreInStep, GaveNothing, ResetIsAwaited, class_at, credit_at, IsFresh, FlowsWith, SendsAll, SendsAllWith, passed_at, got_at}
use Rattle.connection_law.proofs.Flow.Ends.{kept_back}
use Rattle.connection_law.proofs.Flow.Taking.{at, user_at, TakesInStep, NotRenewing, Agree, section_takes_done, user_takes_done, CanEnd, takes_end, ready_awaited, resetting_awaited, cleared_in, nothing_passed}

-- a property of both arms
pub either : {A : Type 0} (P : A → Type 0) (b : Bool) (x y : A) → (b ≡ true → P x) → (b ≡ false → P y) → P (if b then x else y)
either P true x y f g = f refl
either P false x y f g = g refl

-- a section that acted, with what it hands over at once
unfoldable pub Ends : ℕ → Ticks → Section → End → Section × Acted → Type 0
Ends n ticks old that done = IsInStep (exchange (suc n) ticks (timed ticks old done) that).0

-- the same of its windows
unfoldable pub EndsWindowed : ℕ → Ticks → Section → End → Windowed × Acted → Type 0
EndsWindowed n ticks old that done = Ends n ticks old that (by_windows (λ x. done) old)

-- So much left.

abbrev pub LeftOn : ℕ → End → End → Type 0
LeftOn units taker giver =
    Meets (stage_at taker) (stage_at giver)
    × (class_at taker ≡ class_at giver)
    × ((credit_at taker ≤ GREATEST_CREDIT) × (credit_at giver ≤ GREATEST_CREDIT))
    × IsFresh giver
    × Meets connected (stage_at taker)
    × (class_at taker ≡ 3 → ResetIsAwaited taker giver × FlowsWith taker (passed_at giver) (got_at giver) × FlowsWith giver (passed_at taker + units) (got_at taker) × (passed_at taker + units ≤ length (got_at taker)))
    × (class_at taker ≡ 2 → SendsAll taker giver × SendsAllWith giver (passed_at taker + units) (got_at taker))

-- no class is both
pub three_is_not_two : (class : ℕ) → (class == 3) ≡ true → class ≡ 2 → ⊥
three_is_not_two class e two = let three : class ≡ 3 = eqb-true class 3 e in omega (arith, three, two)

pub left_passed : (giver : End) (a b : ℕ) (got : List DataUnit) → a ≡ b → FlowsWith giver b got → FlowsWith giver a got
left_passed giver a b got e f = rw e f

open_fresh : (s : UserState) (got : List DataUnit) (passed : ℕ) → Meets connected (user_stage s) → GaveNothing s got passed
open_fresh user.Ready got passed m = tt
open_fresh user.Renewing got passed m = tt
open_fresh user.Gone got passed m = tt
open_fresh _ got passed m = absurd m

-- a section that is up was set up before
not_set_up : (s : SectionState) → (is_up s && not (is_connected s)) ≡ true → ⊥
not_set_up Up e = false≢true e
not_set_up _ e = false≢true e

-- in class 2 a section counts what left, and nothing else
pub line_counts : (units : ℕ) (is_expedited : Bool) (y : Section)
    → by_line (line_takes cell.Left (hand.Left units is_expedited)) y ≡ (record y { windows = record y.windows { passed = y.windows.passed + units } }, no_effect)
unfolding line_takes
line_counts units is_expedited y =
    let counted : Section × Acted = (record y { windows = record y.windows { passed = y.windows.passed + units } }, no_effect) in
    either (λ (w : Windows). (record y { windows = w }, no_effect) ≡ counted) (is_up y.head.state && not (is_connected y.head.state)) _ _
    (λ up. absurd (not_set_up y.head.state up)) (λ _. refl)

-- so much left by the windows in class 3, and by the line in class 2
left_counted : (units : ℕ) (owed : Bool) (y : Section) (giver : End) → (y.head.class == 3) ≡ true → LeftOn units (wire y) giver
    → AreInStep (wire (record y { windows = record y.windows { passed = y.windows.passed + units; owed = owed } })) giver
left_counted units owed y giver is_three k = (
  k.0,
  k.1,
  k.2,
  (tt, k.3),
  λ three. let f = k.5 three in (f.0, ((omega (arith, f.1.0.0), f.3, f.1.0.2), f.1.1, f.1.2), f.2),
  λ two. absurd (three_is_not_two y.head.class is_three two),
)

line_left : (units : ℕ) (y : Section) (giver : End) → (y.head.class == 3) ≡ false → LeftOn units (wire y) giver
    → AreInStep (wire (record y { windows = record y.windows { passed = y.windows.passed + units } })) giver
line_left units y giver other k = (k.0, k.1, k.2, (tt, k.3), λ three. absurd (eqb-false _ _ other three), k.6)

pub takes_left : (n : ℕ) (ticks : Ticks) (units : ℕ) (is_expedited : Bool) (taker giver : End) → LeftOn units taker giver → TakesInStep n ticks (hand.Left units is_expedited) taker giver
unfolding TakesInStep Ends exchange section_takes windowed_takes line_takes user_takes
takes_left n ticks units true (wire y) giver k =
    either (Ends n ticks y giver) (y.head.class == 3) _ _
    (λ three. left_counted units false y giver three k)
    (λ other. subst (Ends n ticks y giver) (sym (line_counts units true y)) (line_left units y giver other k))
takes_left n ticks units false (wire y) giver k =
    either (Ends n ticks y giver) (y.head.class == 3) _ _
    (λ three. left_counted units y.windows.owed y giver three k)
    (λ other. subst (Ends n ticks y giver) (sym (line_counts units false y)) (line_left units y giver other k))
takes_left n ticks units is_expedited (owner u) giver k =
    (k.0, k.1, k.2, (open_fresh u.state u.got (u.passed + units) k.4, k.3), λ three. let f = k.5 three in (f.0, f.1, f.2), k.6)

-- Expedited data.

pub open_other : (s t : Stage) → Meets connected s → Meets s t → Meets connected t
open_other connected t o m = m
open_other _ t o m = absurd o

no_more : (passed : ℕ) → passed + 0 ≡ passed
no_more passed = omega arith

pub expedited_left : (giver e : End) → Meets connected (stage_at e) → AreInStep e giver → (class_at giver ≡ 3 → passed_at giver ≤ length (got_at giver)) → LeftOn 0 giver e
expedited_left giver e o k within =
    let b : AreInStep giver e = kept_back (record { this = e; that = giver }) k in (
      b.0,
      b.1,
      b.2,
      b.3.1,
      open_other (stage_at e) (stage_at giver) o k.0,
      λ three. let f = b.4 three in
          (f.0, f.1, left_passed e (passed_at giver + 0) (passed_at giver) (got_at giver) (no_more (passed_at giver)) f.2, rw (no_more (passed_at giver)) (within three)),
      λ two. let f = b.5 two in (f.0, rw (no_more (passed_at giver)) f.1),
    )

-- an act that is answered by one effect
answered : (n : ℕ) (ticks : Ticks) (old new : Section) (outs : List Output) (h : Hand) (giver : End)
    → TakesInStep n ticks h giver (timed ticks old (new, gives_then outs (h ∷ []))).0 → Ends (suc n) ticks old giver (new, gives_then outs (h ∷ []))
unfolding Ends TakesInStep exchange
answered n ticks old new outs h giver k = kept_back (exchange (suc n) ticks (end_takes ticks h giver) (timed ticks old (new, gives_then outs (h ∷ []))).0).0 k

-- what came of the other end is no more than what it gave
pub within_given : (giver : End) (y : Section) → AreInStep (wire y) giver → class_at giver ≡ 3 → passed_at giver ≤ length (got_at giver)
within_given giver y k three = (k.4 (rw k.1 three)).1.2.1

windows_expedite : (ticks : Ticks) (body : List ℕ) (y : Section) (giver : End) → Meets connected (section_stage y.head.state) → AreInStep (wire y) giver
    → EndsWindowed 1 ticks y giver (sends_expedited (Some body) (record { head = y.head; windows = y.windows }))
unfolding EndsWindowed
windows_expedite ticks body y giver o k =
    answered 0 ticks y (record y { windows = record y.windows { waiting = None; unanswered = true } }) _ (hand.Left 0 true) giver
    (takes_left 0 ticks 0 true giver _ (expedited_left giver _ o k (within_given giver y k)))

pub section_takes_expedited : (ticks : Ticks) (body : List ℕ) (s : SectionState) (y : Section) (giver : End) → AreInStep (wire (at s y)) giver → TakesInStep 1 ticks (hand.Expedited body) (wire (at s y)) giver
unfolding TakesInStep Ends EndsWindowed exchange section_takes windowed_takes line_takes section_row
section_takes_expedited ticks body Up y giver k =
    either (Ends 1 ticks (at Up y) giver) (y.head.class == 3) _ _
    (λ three. either (EndsWindowed 1 ticks (at Up y) giver) (not y.windows.unanswered) _ _ (λ _. windows_expedite ticks body (at Up y) giver tt k) (λ _. k))
    (λ other. k)
section_takes_expedited ticks body Resetting y giver k =
    either (Ends 1 ticks (at Resetting y) giver) (y.head.class == 3) _ _ (λ three. k) (λ other. k)
section_takes_expedited ticks body _ y giver k = k

-- a user that acted, with what it hands over at once
unfoldable pub UserEnds : ℕ → Ticks → End → User × Acted → Type 0
UserEnds n ticks that done = IsInStep (exchange (suc n) ticks (owner done.0, done.1) that).0

-- what came in of a section is no less than what left of it
within_come : (u : User) (x : Section) → AreInStep (owner u) (wire x) → x.head.class ≡ 3 → x.windows.passed ≤ length x.windows.got
within_come u x k three = (k.4 (rw k.1 three)).2.0.1

user_answers : (n : ℕ) (ticks : Ticks) (u : User) (outs : List Output) (h : Hand) (giver : End)
    → TakesInStep n ticks h giver (owner u) → UserEnds (suc n) ticks giver (u, gives_then outs (h ∷ []))
unfolding UserEnds TakesInStep exchange
user_answers n ticks u outs h giver k = kept_back (exchange (suc n) ticks (end_takes ticks h giver) (owner u)).0 k

user_takes_expedited : (ticks : Ticks) (body : List ℕ) (s : UserState) (u : User) (x : Section) → AreInStep (owner (user_at s u)) (wire x) → TakesInStep 1 ticks (hand.Expedited body) (owner (user_at s u)) (wire x)
unfolding TakesInStep UserEnds exchange user_takes user_row
user_takes_expedited ticks body user.Ready u x k =
    user_answers 0 ticks (user_at user.Ready u) (tells_expedited (hand.Expedited body) (user_at user.Ready u)).1.outs (hand.Left 0 true) (wire x)
    (takes_left 0 ticks 0 true (wire x) (owner (user_at user.Ready u)) (expedited_left (wire x) (owner (user_at user.Ready u)) tt k (within_come (user_at user.Ready u) x k)))
user_takes_expedited ticks body user.Renewing u x k =
    user_answers 0 ticks (user_at user.Renewing u) (tells_expedited (hand.Expedited body) (user_at user.Renewing u)).1.outs (hand.Left 0 true) (wire x)
    (takes_left 0 ticks 0 true (wire x) (owner (user_at user.Renewing u)) (expedited_left (wire x) (owner (user_at user.Renewing u)) tt k (within_come (user_at user.Renewing u) x k)))
user_takes_expedited ticks body _ u x k = k

-- A reset.

-- an end whose counts were cleared, with the other end
abbrev pub Resets : End → End → Type 0
Resets taker giver =
    Meets connected (stage_at taker)
    × Meets connected (stage_at giver)
    × (class_at taker ≡ class_at giver)
    × ((credit_at taker ≤ GREATEST_CREDIT) × (credit_at giver ≤ GREATEST_CREDIT))
    × IsFresh giver
    × (class_at taker ≡ 3 → NotRenewing taker × (passed_at giver ≡ 0) × (got_at giver ≡ []) × FlowsWith giver 0 [])
    × (class_at taker ≡ 2 → SendsAll taker giver × SendsAll giver taker)

-- the windows of a section begin again in class 3
reset_windows : (y : Section) (giver : End) → (y.head.class == 3) ≡ true → Resets (wire (at Resetting y)) giver
    → AreInStep (wire (record (at Resetting y) { windows = cleared y.head.credit })) giver
reset_windows y giver three k = (
  k.1,
  k.2,
  k.3,
  (tt, k.4),
  λ is_three. let f = k.5 is_three in let c = cleared_in y.head.credit k.3.0 in
      (resetting_awaited y giver, (c.0, c.1, nothing_passed y.head.credit (passed_at giver) (got_at giver) f.1 f.2), f.3),
  λ two. absurd (three_is_not_two y.head.class three two),
)

pub section_takes_reset : (n : ℕ) (ticks : Ticks) (cause : ℕ) (s : SectionState) (y : Section) (giver : End) → Resets (wire (at s y)) giver → TakesInStep n ticks (hand.Reset cause) (wire (at s y)) giver
unfolding TakesInStep Ends exchange section_takes windowed_takes line_takes section_row
section_takes_reset n ticks cause Up y giver k =
    either (Ends n ticks (at Up y) giver) (y.head.class == 3) _ _
    (λ three. reset_windows y giver three k)
    (λ other. (k.1, k.2, k.3, (tt, k.4), λ three. absurd (eqb-false _ _ other three), k.6))
section_takes_reset n ticks cause Resetting y giver k =
    either (Ends n ticks (at Resetting y) giver) (y.head.class == 3) _ _
    (λ three. reset_windows y giver three k)
    (λ other. (k.1, k.2, k.3, (tt, k.4), λ three. absurd (eqb-false _ _ other three), k.6))
section_takes_reset n ticks cause _ y giver k = absurd k.0

user_takes_reset : (n : ℕ) (ticks : Ticks) (cause : ℕ) (s : UserState) (u : User) (x : Section) → Resets (owner (user_at s u)) (wire x) → TakesInStep n ticks (hand.Reset cause) (owner (user_at s u)) (wire x)
unfolding TakesInStep exchange user_takes user_row
user_takes_reset n ticks cause user.Ready u x k = (k.1, k.2, k.3, (tt, tt), λ three. let f = k.5 three in (ready_awaited u (wire x), tt, f.3), λ two. (tt, refl))
user_takes_reset n ticks cause user.Renewing u x k = (k.1, k.2, k.3, (tt, tt), λ three. absurd (k.5 three).0, λ two. (tt, (k.6 two).1))
user_takes_reset n ticks cause _ u x k = absurd k.0

-- Units.

abbrev pub IsSection : End → Type 0
IsSection (wire x) = Unit {0}
IsSection (owner u) = ⊥

pub record UnitsOnWay (units : List DataUnit) (taker giver : End) : Type 0 where
  pub before : List DataUnit
  pub given : got_at giver ≡ before ++ units
  pub flows : FlowsWith taker (passed_at giver) before

-- units on the way to a section, beside what has come of the other end
abbrev pub OnWay : List DataUnit → End → End → Type 0
OnWay units taker giver =
    Meets connected (stage_at taker)
    × Meets connected (stage_at giver)
    × (class_at taker ≡ class_at giver)
    × ((credit_at taker ≤ GREATEST_CREDIT) × (credit_at giver ≤ GREATEST_CREDIT))
    × IsFresh giver
    × (class_at taker ≡ 3 → ResetIsAwaited taker giver × FlowsWith giver (passed_at taker) (got_at taker) × UnitsOnWay units taker giver)
    × IsSection taker
    × (class_at taker ≡ 2 → SendsAll giver taker × (passed_at giver + length units ≡ length (got_at giver)))

one_more_waits : (waits before : List DataUnit) (u : DataUnit) (passed : ℕ) → passed ≤ length before → waits ≡ drop passed before → waits ++ u ∷ [] ≡ drop passed (before ++ u ∷ [])
one_more_waits waits before u passed within e = rw (e, drop-append-le passed before (u ∷ [])) refl

one_more_came : (before : List DataUnit) (u : DataUnit) (passed : ℕ) → passed ≤ length before → passed ≤ length (before ++ u ∷ [])
one_more_came before u passed within = rw (length_push before u) (omega (arith, within))

one_more_given : (got before units : List DataUnit) (u : DataUnit) → got ≡ before ++ u ∷ units → got ≡ (before ++ u ∷ []) ++ units
one_more_given got before units u e = rw (e, append_assoc) refl

pub both_open : (s t : Stage) → Meets connected s → Meets connected t → Meets s t
both_open connected connected o p = tt
both_open connected _ o p = absurd p
both_open _ _ o p = absurd o

pub fresh_at : (e : End) → Meets connected (stage_at e) → IsFresh e
fresh_at (wire x) o = tt
fresh_at (owner u) o = open_fresh u.state u.got u.passed o

all_given : (taker : End) (got before : List DataUnit) (passed : ℕ) → got ≡ before ++ [] → FlowsWith taker passed before → FlowsWith taker passed got
all_given taker got before passed e f = rw (e, append-nil before) f

all_sent : (e : End) (passed : ℕ) (got : List DataUnit) → passed + 0 ≡ length got → SendsAllWith e passed got
all_sent (wire x) passed got e = sym (no_more passed) ∙ e
all_sent (owner u) passed got e = tt

pub none_on_way : (taker giver : End) → OnWay [] taker giver → AreInStep taker giver
none_on_way taker giver k = (
  both_open (stage_at taker) (stage_at giver) k.0 k.1,
  k.2,
  k.3,
  (fresh_at taker k.0, k.4),
  λ three. let f = k.5 three in
      (f.0, all_given taker (got_at giver) f.2.before (passed_at giver) f.2.given f.2.flows, f.1),
  λ two. let f = k.7 two in (all_sent taker (passed_at giver) (got_at giver) f.1, f.0),
)

-- a unit more has come, and waits on the section
one_more_flows : (waits before : List DataUnit) (u : DataUnit) (passed sent : ℕ) → (sent ≡ passed) × (passed ≤ length before) × (waits ≡ drop passed before)
    → (sent ≡ passed) × (passed ≤ length (before ++ u ∷ [])) × (waits ++ u ∷ [] ≡ drop passed (before ++ u ∷ []))
one_more_flows waits before u passed sent f = (f.0, one_more_came before u passed f.1, one_more_waits waits before u passed f.1 f.2)

unfoldable pub EndsOnWay : List DataUnit → ℕ → Ticks → Section → End → Section × Acted → Type 0
EndsOnWay units n ticks old giver done = let c = (exchange (suc n) ticks (timed ticks old done) giver).0 in OnWay units c.this c.that

-- what the end that gave a unit becomes, once it is told that the unit left
unfoldable pub Counts : List DataUnit → ℕ → Ticks → End → Section → Section × Acted → Type 0
Counts units n ticks e x done = let c = (exchange (suc n) ticks (timed ticks x done) e).0 in OnWay units c.that c.this

other_class : (a b : ℕ) → a ≡ b → (a == 3) ≡ false → (b == 3) ≡ true → ⊥
other_class a b same other three = eqb-false _ _ other (same ∙ eqb-true b 3 three)

one_fewer : (passed more came : ℕ) → passed + suc more ≡ came → (passed + 1) + more ≡ came
one_fewer passed more came e = omega (arith, e)

-- in class 2 a unit leaves at once
leaves_at_once : (n : ℕ) (ticks : Ticks) (u : DataUnit) (units : List DataUnit) (old y : Section) (outs : List Output) (giver : End)
    → (y.head.class == 3) ≡ false → OnWay (u ∷ units) (wire y) giver → EndsOnWay units (suc n) ticks old giver (y, gives_then outs (hand.Left 1 false ∷ []))
unfolding EndsOnWay Counts exchange section_takes line_takes user_takes
leaves_at_once n ticks u units old y outs (wire x) other k =
    either (Counts units n ticks (timed ticks old (y, gives_then outs (hand.Left 1 false ∷ []))).0 x) (x.head.class == 3) _ _
    (λ three. absurd (other_class y.head.class x.head.class k.2 other three))
    (λ _. subst (Counts units n ticks (timed ticks old (y, gives_then outs (hand.Left 1 false ∷ []))).0 x) (sym (line_counts 1 false x))
    (k.0, k.1, k.2, k.3, tt, λ three. absurd (eqb-false _ _ other three), tt, λ two. let f = k.7 two in (f.0, one_fewer x.windows.passed (length units) (length x.windows.got) f.1)))
leaves_at_once n ticks u units old y outs (owner v) other k =
    (k.0, k.1, k.2, k.3, fresh_at (owner (record v { passed = v.passed + 1 })) k.1, λ three. absurd (eqb-false _ _ other three), tt, λ two. let f = k.7 two in (f.0, one_fewer v.passed (length units) (length v.got) f.1))

section_takes_unit : (n : ℕ) (ticks : Ticks) (u : DataUnit) (units : List DataUnit) (s : SectionState) (y : Section) (giver : End) → OnWay (u ∷ units) (wire (at s y)) giver
    → (let c = (exchange (suc (suc n)) ticks (end_takes ticks (hand.Unit u.more u.body) (wire (at s y))) giver).0 in OnWay units c.this c.that)
unfolding EndsOnWay exchange section_takes windowed_takes line_takes section_row
section_takes_unit n ticks u units Up y giver k =
    either (EndsOnWay units (suc n) ticks (at Up y) giver) (y.head.class == 3) _ _
    (λ is_three. (k.0, k.1, k.2, k.3, k.4, λ three. let f = k.5 three in let w = f.2 in (f.0, f.1, record { before = w.before ++ u ∷ []; given = one_more_given (got_at giver) w.before units u w.given; flows = (w.flows.0, w.flows.1, one_more_flows y.windows.waits w.before u (passed_at giver) y.windows.sent w.flows.2) }), tt, λ two. absurd (three_is_not_two y.head.class is_three two)))
    (λ other. leaves_at_once n ticks u units (at Up y) (at Up y) (passes_unit (handed u) (line_in (at Up y))).1.outs giver other k)
section_takes_unit n ticks u units Resetting y giver k =
    either (EndsOnWay units (suc n) ticks (at Resetting y) giver) (y.head.class == 3) _ _
    (λ is_three. (k.0, k.1, k.2, k.3, k.4, λ three. let f = k.5 three in let w = f.2 in (f.0, f.1, record { before = w.before ++ u ∷ []; given = one_more_given (got_at giver) w.before units u w.given; flows = (w.flows.0, w.flows.1, one_more_flows y.windows.waits w.before u (passed_at giver) y.windows.sent w.flows.2) }), tt, λ two. absurd (three_is_not_two y.head.class is_three two)))
    (λ other. leaves_at_once n ticks u units (at Resetting y) (at Resetting y) (passes_unit (handed u) (line_in (at Resetting y))).1.outs giver other k)
section_takes_unit n ticks u units _ y giver k = absurd k.0

takes_unit : (ticks : Ticks) (u : DataUnit) (units : List DataUnit) (taker giver : End) → OnWay (u ∷ units) taker giver
    → (let c = (exchange 2 ticks (end_takes ticks (handed u) taker) giver).0 in OnWay units c.this c.that)
takes_unit ticks u units (wire y) giver k = section_takes_unit 0 ticks u units y.head.state y giver k
takes_unit ticks u units (owner v) giver k = absurd k.6

-- all units of a list, one after another
pub units_taken : (ticks : Ticks) (units : List DataUnit) (r : Connection × List Output) → OnWay units r.0.that r.0.this
    → IsInStep (fold (other_takes (exchange 2 ticks) ticks) r (map handed units)).0
units_taken ticks [] r k = kept_back (record { this = r.0.that; that = r.0.this }) (none_on_way r.0.that r.0.this k)
units_taken ticks (u ∷ units) r k = units_taken ticks units (other_takes (exchange 2 ticks) ticks r (handed u)) (takes_unit ticks u units r.0.that r.0.this k)

pub open_can_end : (s : Stage) → Meets connected s → CanEnd s
open_can_end connected o = tt
open_can_end _ o = absurd o

-- a unit came on a section for a user
abbrev pub Came : End → Section → Type 0
Came taker x =
    AreInStep taker (wire x) × Meets connected (section_stage x.head.state) × (class_at taker ≡ 3 → x.windows.passed + 1 ≤ length x.windows.got)

breaks_off : (ticks : Ticks) (v : User) (outs : List Output) (x : Section) → AreInStep (owner v) (wire x) → Meets connected (section_stage x.head.state)
    → UserEnds 1 ticks (wire x) (user_at user.Gone v, record { first = hand.End RELEASE_ACCESS_CONGESTION None None ∷ []; outs = outs; then = [] })
unfolding UserEnds TakesInStep exchange
breaks_off ticks v outs x k o =
    let b : AreInStep (wire x) (owner v) = kept_back (record { this = owner v; that = wire x }) k in
    kept_back (exchange 1 ticks (end_takes ticks (hand.End RELEASE_ACCESS_CONGESTION None None) (wire x)) (owner (user_at user.Gone v))).0
    (takes_end 0 ticks RELEASE_ACCESS_CONGESTION None None (wire x) (owner (user_at user.Gone v)) (open_can_end (section_stage x.head.state) o) tt (b.1, b.2, (tt, tt), λ three. ((b.4 three).1, tt), λ two. ((b.5 two).0, tt)))

collected : (ticks : Ticks) (v v' : User) (outs : List Output) (x : Section) → Came (owner v) x
    → AreInStep (owner v') (wire x) → (v'.class ≡ v.class) → UserEnds 1 ticks (wire x) (v', gives_then outs (hand.Left 1 false ∷ []))
collected ticks v v' outs x k k' same =
    user_answers 0 ticks v' outs (hand.Left 1 false) (wire x)
    (let b : AreInStep (wire x) (owner v') = kept_back (record { this = owner v'; that = wire x }) k' in
    takes_left 0 ticks 1 false (wire x) (owner v')
    (b.0, b.1, b.2, b.3.1, k.1, λ three. let f = b.4 three in (f.0, f.1, tt, k.2 (sym same ∙ (k'.1 ∙ three))), λ two. ((b.5 two).0, tt)))

user_alone : (n : ℕ) (ticks : Ticks) (v : User) (that : End) (outs : List Output) → AreInStep (owner v) that → UserEnds n ticks that (v, gives outs)
unfolding UserEnds exchange
user_alone n ticks v that outs k = k

user_takes_unit : (ticks : Ticks) (more : Bool) (body : List ℕ) (s : UserState) (v : User) (x : Section) → Came (owner (user_at s v)) x
    → TakesInStep 1 ticks (hand.Unit more body) (owner (user_at s v)) (wire x)
unfolding TakesInStep UserEnds user_takes user_row
user_takes_unit ticks more body user.Ready v x k =
    either (UserEnds 1 ticks (wire x)) (nat_lt LONGEST_TEXT (length (v.text ++ body))) _ _
    (λ long. breaks_off ticks (user_at user.Ready v) _ x k.0 k.1)
    (λ short. either (UserEnds 1 ticks (wire x)) more _ _
    (λ _. collected ticks (user_at user.Ready v) (record (user_at user.Ready v) { text = v.text ++ body }) _ x k k.0 refl)
    (λ _. collected ticks (user_at user.Ready v) (record (user_at user.Ready v) { text = [] }) _ x k k.0 refl))
user_takes_unit ticks more body user.Renewing v x k =
    either (UserEnds 1 ticks (wire x)) (nat_lt LONGEST_TEXT (length (v.text ++ body))) _ _
    (λ long. breaks_off ticks (user_at user.Renewing v) _ x k.0 k.1)
    (λ short. either (UserEnds 1 ticks (wire x)) more _ _
    (λ _. collected ticks (user_at user.Renewing v) (record (user_at user.Renewing v) { text = v.text ++ body }) _ x k k.0 refl)
    (λ _. collected ticks (user_at user.Renewing v) (record (user_at user.Renewing v) { text = [] }) _ x k k.0 refl))
user_takes_unit ticks more body s v x k = user_alone 1 ticks (user_at s v) (wire x) [] k.0

-- What a section hands over, at either kind of other end.

pub takes_done : (ticks : Ticks) (taker : End) (x : Section) → Meets connected (stage_at taker) → Meets connected (section_stage x.head.state) → Agree taker (wire x)
    → TakesInStep 1 ticks hand.Done taker (wire x)
takes_done ticks (wire y) x m o k =
    section_takes_done 1 ticks y.head.state y x (both_open (section_stage y.head.state) (section_stage x.head.state) m o, k.0, k.1, k.2, λ three. let f = k.3 three in (tt, f.0, f.1), k.4)
takes_done ticks (owner u) x m o k = user_takes_done 1 ticks u.state u x m o k

pub takes_expedited : (ticks : Ticks) (body : List ℕ) (taker : End) (x : Section) → AreInStep taker (wire x) → TakesInStep 1 ticks (hand.Expedited body) taker (wire x)
takes_expedited ticks body (wire y) x k = section_takes_expedited ticks body y.head.state y (wire x) k
takes_expedited ticks body (owner u) x k = user_takes_expedited ticks body u.state u x k

pub takes_reset : (ticks : Ticks) (cause : ℕ) (taker : End) (x : Section) → Resets taker (wire x) → TakesInStep 1 ticks (hand.Reset cause) taker (wire x)
takes_reset ticks cause (wire y) x k = section_takes_reset 1 ticks cause y.head.state y (wire x) k
takes_reset ticks cause (owner u) x k = user_takes_reset 1 ticks cause u.state u x k

-- a section that a unit came on, with what had come before, and its other end
abbrev pub UnitOf : DataUnit → List DataUnit → End → Section → Type 0
UnitOf u before taker x =
    Meets connected (stage_at taker)
    × Meets connected (section_stage x.head.state)
    × (class_at taker ≡ x.head.class)
    × ((credit_at taker ≤ GREATEST_CREDIT) × (x.head.credit ≤ GREATEST_CREDIT))
    × (class_at taker ≡ 3 → ResetIsAwaited taker (wire x) × FlowsWith (wire x) (passed_at taker) (got_at taker) × FlowsWith taker x.windows.passed before
    × (x.windows.passed ≤ length before) × (x.windows.got ≡ before ++ u ∷ []))
    × (class_at taker ≡ 2 → SendsAll (wire x) taker × SendsAllWith taker (x.windows.passed + 1) x.windows.got)

one_longer : (got before : List DataUnit) (u : DataUnit) (passed : ℕ) → got ≡ before ++ u ∷ [] → passed ≤ length before → passed + 1 ≤ length got
one_longer got before u passed e within = rw (e, length_push before u) (omega (arith, within))

pub takes_unit_of : (ticks : Ticks) (u : DataUnit) (before : List DataUnit) (taker : End) (x : Section) → UnitOf u before taker x → TakesInStep 1 ticks (hand.Unit u.more u.body) taker (wire x)
unfolding TakesInStep
takes_unit_of ticks u before (wire y) x k =
    let c = (exchange 2 ticks (end_takes ticks (handed u) (wire y)) (wire x)).0 in
    none_on_way c.this c.that
    (takes_unit ticks u [] (wire y) (wire x)
    (k.0, k.1, k.2, k.3, tt, λ three. let f = k.4 three in (f.0, f.1, record { before = before; given = f.4; flows = f.2 }), tt, k.5))
takes_unit_of ticks u before (owner v) x k =
    user_takes_unit ticks u.more u.body v.state v x (
      (both_open (user_stage v.state) (section_stage x.head.state) k.0 k.1, k.2, k.3, (open_fresh v.state v.got v.passed k.0, tt), λ three. let f = k.4 three in (f.0, tt, f.1), λ two. (tt, (k.5 two).0)),
      k.1,
      λ three. let f = k.4 three in one_longer x.windows.got before u x.windows.passed f.4 f.3,
    )
