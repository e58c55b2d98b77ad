-- One end takes what the other hands to it.
use Rattle.std.proofs.Common.{◌≡◌, ℕ, suc, ◌≤◌, List, [], ◌∷◌, Option, refl, subst, zero-le}
use Rattle.relay_base.specs.declared.limits.TheConstants.{GREATEST_CREDIT}
use Rattle.section_model.specs.declared.hand.Hand.{Hand}
use Rattle.section_flow.specs.declared.unit.Unit.{Unit as DataUnit}
use Rattle.section_model.specs.declared.hand.Hand.TheVariants as hand
use Rattle.section_model.specs.declared.cell.SectionState.{SectionState}
use Rattle.section_model.specs.declared.cell.SectionState.TheVariants.{Asked, Asking, Waning, Up, Resetting, Ending, Gone}
use Rattle.section_model.specs.declared.cell.UserState.{UserState}
use Rattle.section_model.specs.declared.cell.UserState.TheVariants as user
use Rattle.section_model.specs.declared.hand.Acted.{Acted}
use Rattle.plant_core.specs.declared.terms.Ticks.{Ticks}
use Rattle.relay_base.specs.declared.words.Output.{Output}
use Rattle.section_model.specs.Ends.{End, wire, owner, Section, User, Connection, gives, gives_then, cleared}
use Rattle.section_model.specs.Table.{section_row, user_row}
use Rattle.section_model.specs.Line.{line_takes}
use Rattle.section_model.specs.UserEnd.{user_takes}
use Rattle.section_model.specs.Acting.{section_takes, end_takes}
use Rattle.section_model.specs.Coupling.{exchange, settles}
use Rattle.connection_law.specs.InStep.{Stage, asked, asking, connected, over, Meets, stage_at, section_stage, user_stage, IsInStep, AreInStep, IsAwaited, ResetIsAwaited, class_at, credit_at, IsFresh, Flows, FlowsWith, SendsAll, SendsAllWith, passed_at, got_at, InCredit, InWindow, PassesOn}
use Rattle.section_model.proofs.Handing.{no_hand_is_lost}
use Rattle.connection_law.proofs.Flow.Ends.{kept_back}

-- a section, and a user, in a state
abbrev pub at : SectionState → Section → Section
at s x = record x { head = record x.head { state = s } }

abbrev pub user_at : UserState → User → User
user_at s u = record u { state = s }

-- what an act ends in
unfoldable pub Settles : Ticks → End → End × Acted → Type 0
Settles ticks that acting = IsInStep (settles ticks acting that).0

-- an act of which nothing is handed on
pub alone : (ticks : Ticks) (e that : End) (outs : List Output) → AreInStep e that → Settles ticks that (e, gives outs)
unfolding Settles exchange
alone ticks e that outs k = k

-- an act of which one thing is handed on
unfoldable pub TakesInStep : ℕ → Ticks → Hand → End → End → Type 0
TakesInStep n ticks h taker giver = IsInStep (exchange (suc n) ticks (end_takes ticks h taker) giver).0

pub handed_on : (ticks : Ticks) (e that : End) (outs : List Output) (h : Hand) → TakesInStep 1 ticks h that e → Settles ticks that (e, gives_then outs (h ∷ []))
unfolding Settles TakesInStep exchange
handed_on ticks e that outs h k =
    subst (λ (r : Connection × List Output). IsInStep r.0) (no_hand_is_lost.enough 1 ticks (e, gives_then outs (h ∷ [])) that)
    (kept_back (exchange 2 ticks (end_takes ticks h that) e).0 k)

-- what holds of two ends but for their stages
abbrev pub Agree : End → End → Type 0
Agree this that =
    (class_at this ≡ class_at that)
    × ((credit_at this ≤ GREATEST_CREDIT) × (credit_at that ≤ GREATEST_CREDIT))
    × (IsFresh this × IsFresh that)
    × (class_at this ≡ 3 → Flows this that × Flows that this)
    × (class_at this ≡ 2 → SendsAll this that × SendsAll that this)

-- The end.

abbrev pub CanEnd : Stage → Type 0
CanEnd asked = ⊥
CanEnd _ = Unit {0}

abbrev pub MayEnd : End → Type 0
MayEnd (wire x) = CanEnd (section_stage x.head.state)
MayEnd (owner u) = Unit {0}

ending_awaited : (y : Section) (giver : End) → ResetIsAwaited (wire (at Ending y)) giver
ending_awaited y (wire x) = tt
ending_awaited y (owner u) = tt

pub resetting_awaited : (y : Section) (giver : End) → ResetIsAwaited (wire (at Resetting y)) giver
resetting_awaited y (wire x) = tt
resetting_awaited y (owner u) = tt

waning_awaited : (y : Section) (giver : End) → ResetIsAwaited (wire (at Waning y)) giver
waning_awaited y (wire x) = tt
waning_awaited y (owner u) = tt

gone_awaited : (y : Section) (giver : End) → ResetIsAwaited (wire (at Gone y)) giver
gone_awaited y (wire x) = tt
gone_awaited y (owner u) = tt

awaited_of_gone : (s : SectionState) → IsAwaited s user.Gone
awaited_of_gone Up = tt
awaited_of_gone _ = tt

gone_user_awaited : (u : User) (giver : End) → ResetIsAwaited (owner (user_at user.Gone u)) giver
gone_user_awaited u (wire x) = awaited_of_gone x.head.state
gone_user_awaited u (owner v) = tt

awaited_of_ready : (s : SectionState) → IsAwaited s user.Ready
awaited_of_ready Up = tt
awaited_of_ready _ = tt

pub ready_awaited : (u : User) (giver : End) → ResetIsAwaited (owner (user_at user.Ready u)) giver
ready_awaited u (wire x) = awaited_of_ready x.head.state
ready_awaited u (owner v) = tt

-- a user that does not await the end of its reset
abbrev pub NotRenewing : End → Type 0
NotRenewing (wire x) = Unit {0}
NotRenewing (owner u) = IsAwaited Up u.state

section_takes_end : (n : ℕ) (ticks : Ticks) (cause : ℕ) (body : Option (List ℕ)) (importance : Option ℕ) (s : SectionState) (y : Section) (giver : End)
    → MayEnd (wire (at s y)) → Meets over (stage_at giver) → Agree (wire y) giver → TakesInStep n ticks (hand.End cause body importance) (wire (at s y)) giver
unfolding TakesInStep exchange section_takes line_takes section_row
section_takes_end n ticks cause body importance Asked y giver may m k = absurd may
section_takes_end n ticks cause body importance Asking y giver may m k = (m, k.0, k.1, k.2, λ three. (waning_awaited y giver, (k.3 three).0, (k.3 three).1), k.4)
section_takes_end n ticks cause body importance Waning y giver may m k = (m, k.0, k.1, k.2, λ three. (waning_awaited y giver, (k.3 three).0, (k.3 three).1), k.4)
section_takes_end n ticks cause body importance Up y giver may m k = (m, k.0, k.1, k.2, λ three. (ending_awaited y giver, (k.3 three).0, (k.3 three).1), k.4)
section_takes_end n ticks cause body importance Resetting y giver may m k = (m, k.0, k.1, k.2, λ three. (ending_awaited y giver, (k.3 three).0, (k.3 three).1), k.4)
section_takes_end n ticks cause body importance Ending y giver may m k = (m, k.0, k.1, k.2, λ three. (ending_awaited y giver, (k.3 three).0, (k.3 three).1), k.4)
section_takes_end n ticks cause body importance Gone y giver may m k = (m, k.0, k.1, k.2, λ three. (gone_awaited y giver, (k.3 three).0, (k.3 three).1), k.4)

user_takes_end : (n : ℕ) (ticks : Ticks) (cause : ℕ) (body : Option (List ℕ)) (importance : Option ℕ) (s : UserState) (u : User) (giver : End)
    → Meets over (stage_at giver) → (class_at (owner u) ≡ class_at giver)
    → ((credit_at (owner u) ≤ GREATEST_CREDIT) × (credit_at giver ≤ GREATEST_CREDIT)) → IsFresh giver → (class_at (owner u) ≡ 3 → Flows giver (owner u)) → (class_at (owner u) ≡ 2 → SendsAll giver (owner u))
    → TakesInStep n ticks (hand.End cause body importance) (owner (user_at s u)) giver
unfolding TakesInStep exchange user_takes user_row
user_takes_end n ticks cause body importance user.Gone u giver m c fits fresh flows all =
    (m, c, fits, (tt, fresh), λ three. (gone_user_awaited u giver, tt, flows three), λ two. (tt, all two))
user_takes_end n ticks cause body importance _ u giver m c fits fresh flows all =
    (m, c, fits, (tt, fresh), λ three. (gone_user_awaited u giver, tt, flows three), λ two. (tt, all two))

pub takes_end : (n : ℕ) (ticks : Ticks) (cause : ℕ) (body : Option (List ℕ)) (importance : Option ℕ) (taker giver : End)
    → MayEnd taker → Meets over (stage_at giver) → Agree taker giver → TakesInStep n ticks (hand.End cause body importance) taker giver
takes_end n ticks cause body importance (wire y) giver may m k = section_takes_end n ticks cause body importance y.head.state y giver may m k
takes_end n ticks cause body importance (owner u) giver may m k =
    user_takes_end n ticks cause body importance u.state u giver m k.0 k.1 k.2.1 (λ three. (k.3 three).1) (λ two. (k.4 two).1)

-- The refusal.

section_takes_refusal : (n : ℕ) (ticks : Ticks) (cause : ℕ) (called body : Option (List ℕ)) (importance : Option ℕ) (s : SectionState) (y : Section) (giver : End)
    → Meets asking (section_stage s) → Meets over (stage_at giver) → Agree (wire y) giver → TakesInStep n ticks (hand.Refuse cause called body importance) (wire (at s y)) giver
unfolding TakesInStep exchange section_takes line_takes section_row
section_takes_refusal n ticks cause called body importance Asked y giver may m k = (m, k.0, k.1, k.2, λ three. (gone_awaited y giver, (k.3 three).0, (k.3 three).1), k.4)
section_takes_refusal n ticks cause called body importance _ y giver may m k = absurd may

user_takes_refusal : (n : ℕ) (ticks : Ticks) (cause : ℕ) (called body : Option (List ℕ)) (importance : Option ℕ) (s : UserState) (u : User) (giver : End)
    → Meets over (stage_at giver) → (class_at (owner u) ≡ class_at giver)
    → ((credit_at (owner u) ≤ GREATEST_CREDIT) × (credit_at giver ≤ GREATEST_CREDIT)) → IsFresh giver → (class_at (owner u) ≡ 3 → Flows giver (owner u)) → (class_at (owner u) ≡ 2 → SendsAll giver (owner u))
    → TakesInStep n ticks (hand.Refuse cause called body importance) (owner (user_at s u)) giver
unfolding TakesInStep exchange user_takes user_row
user_takes_refusal n ticks cause called body importance user.Gone u giver m c fits fresh flows all =
    (m, c, fits, (tt, fresh), λ three. (gone_user_awaited u giver, tt, flows three), λ two. (tt, all two))
user_takes_refusal n ticks cause called body importance _ u giver m c fits fresh flows all =
    (m, c, fits, (tt, fresh), λ three. (gone_user_awaited u giver, tt, flows three), λ two. (tt, all two))

pub takes_refusal : (n : ℕ) (ticks : Ticks) (cause : ℕ) (called body : Option (List ℕ)) (importance : Option ℕ) (taker giver : End)
    → Meets asking (stage_at taker) → Meets over (stage_at giver) → Agree taker giver → TakesInStep n ticks (hand.Refuse cause called body importance) taker giver
takes_refusal n ticks cause called body importance (wire y) giver may m k = section_takes_refusal n ticks cause called body importance y.head.state y giver may m k
takes_refusal n ticks cause called body importance (owner u) giver may m k =
    user_takes_refusal n ticks cause called body importance u.state u giver m k.0 k.1 k.2.1 (λ three. (k.3 three).1) (λ two. (k.4 two).1)

-- The acceptance.

pub nothing_passed : (credit passed : ℕ) (got : List DataUnit) → passed ≡ 0 → got ≡ [] → PassesOn (cleared credit) passed got
nothing_passed credit passed got p g = rw (p, g) (refl, zero-le, refl)

-- where nothing came in, all has left
pub nothing_left : (e : End) → SendsAllWith e 0 []
nothing_left (wire x) = refl
nothing_left (owner u) = tt

pub cleared_in : (credit : ℕ) → credit ≤ GREATEST_CREDIT → InCredit credit (cleared credit) × InWindow (cleared credit)
cleared_in credit fits = ((zero-le, zero-le, zero-le), (zero-le, zero-le, fits))

-- an end that has accepted, of this class
abbrev pub Accepted : ℕ → ℕ → End → Type 0
Accepted class credit giver =
    Meets connected (stage_at giver) × (class ≡ class_at giver) × (credit ≤ GREATEST_CREDIT) × (credit_at giver ≤ GREATEST_CREDIT) × IsFresh giver
    × (passed_at giver ≡ 0) × (got_at giver ≡ []) × FlowsWith giver 0 []

up_awaited : (y : Section) (giver : End) → NotRenewing giver → ResetIsAwaited (wire (at Up y)) giver
up_awaited y (wire x) r = tt
up_awaited y (owner u) r = by_state u.state r
  where
    by_state : (s : UserState) → IsAwaited Up s → IsAwaited Up s
    by_state s r = r

section_takes_acceptance : (n : ℕ) (ticks : Ticks) (class credit : ℕ) (called body : Option (List ℕ)) (importance : Option ℕ) (s : SectionState) (y : Section) (giver : End)
    → Meets asking (section_stage s) → Accepted class credit giver → NotRenewing giver
    → TakesInStep n ticks (hand.Accept class credit called body importance) (wire (at s y)) giver
unfolding TakesInStep exchange section_takes line_takes section_row
section_takes_acceptance n ticks class credit called body importance Asked y giver may k r =
    let c = cleared_in credit k.2 in
    (k.0, k.1, (k.2, k.3), (tt, k.4), λ three. (up_awaited y giver r, (c.0, c.1, nothing_passed credit (passed_at giver) (got_at giver) k.5 k.6), k.7), λ two. (rw (k.5, k.6) refl, nothing_left giver))
section_takes_acceptance n ticks class credit called body importance _ y giver may k r = absurd may

pub with_nothing : (giver : End) (passed : ℕ) (got : List DataUnit) → passed ≡ 0 → got ≡ [] → FlowsWith giver 0 [] → FlowsWith giver passed got
with_nothing giver passed got p g f = rw (p, g) f

user_takes_acceptance : (n : ℕ) (ticks : Ticks) (class credit : ℕ) (called body : Option (List ℕ)) (importance : Option ℕ) (s : UserState) (u : User) (giver : End)
    → Meets asking (user_stage s) → IsFresh (owner (user_at s u)) → Accepted class credit giver
    → TakesInStep n ticks (hand.Accept class credit called body importance) (owner (user_at s u)) giver
unfolding TakesInStep exchange user_takes user_row
user_takes_acceptance n ticks class credit called body importance user.Calling u giver may fresh k =
    (k.0, k.1, (k.2, k.3), (tt, k.4), λ three. (ready_awaited u giver, tt, with_nothing giver u.passed u.got fresh.1 fresh.0 k.7), λ two. (tt, rw (fresh.1, fresh.0) (nothing_left giver)))
user_takes_acceptance n ticks class credit called body importance _ u giver may fresh k = absurd may

pub takes_acceptance : (n : ℕ) (ticks : Ticks) (class credit : ℕ) (called body : Option (List ℕ)) (importance : Option ℕ) (taker giver : End)
    → Meets asking (stage_at taker) → IsFresh taker → Accepted class credit giver → NotRenewing giver
    → TakesInStep n ticks (hand.Accept class credit called body importance) taker giver
takes_acceptance n ticks class credit called body importance (wire y) giver may fresh k r =
    section_takes_acceptance n ticks class credit called body importance y.head.state y giver may k r
takes_acceptance n ticks class credit called body importance (owner u) giver may fresh k r =
    user_takes_acceptance n ticks class credit called body importance u.state u giver may fresh k

-- The end of a reset.

pub section_takes_done : (n : ℕ) (ticks : Ticks) (s : SectionState) (y x : Section) → AreInStep (wire (at s y)) (wire x) → TakesInStep n ticks hand.Done (wire (at s y)) (wire x)
unfolding TakesInStep exchange section_takes line_takes section_row
section_takes_done n ticks Asked y x k = k
section_takes_done n ticks _ y x k = k

pub user_takes_done : (n : ℕ) (ticks : Ticks) (s : UserState) (u : User) (x : Section) → Meets connected (user_stage s) → Meets connected (section_stage x.head.state) → Agree (owner u) (wire x)
    → TakesInStep n ticks hand.Done (owner (user_at s u)) (wire x)
unfolding TakesInStep exchange user_takes user_row
user_takes_done n ticks user.Ready u x m o k = (o, k.0, k.1, (tt, tt), λ three. (ready_awaited u (wire x), tt, (k.3 three).1), λ two. (tt, (k.4 two).1))
user_takes_done n ticks user.Renewing u x m o k = (o, k.0, k.1, (tt, tt), λ three. (ready_awaited u (wire x), tt, (k.3 three).1), λ two. (tt, (k.4 two).1))
user_takes_done n ticks _ u x m o k = absurd m
