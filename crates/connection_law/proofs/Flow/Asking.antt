-- A user's end acts upon a request.
use Rattle.std.proofs.Common.{ℕ, ◌≤◌, ◌==◌, List, [], ◌∷◌, ◌++◌, map, if◌then◌else◌, Option, Some, None, refl, subst, arith, zero-le, length-append}
use Rattle.relay_base.specs.declared.causes.TheConstants.{RESET_END_USER}
use Rattle.relay_base.specs.declared.limits.TheConstants.{GREATEST_CREDIT}
use Rattle.relay_base.specs.declared.words.Request.{Request}
use Rattle.relay_base.specs.declared.words.Request.TheVariants as request
use Rattle.relay_base.specs.declared.words.Reason.{Reason}
use Rattle.relay_base.specs.declared.words.Output.{Output}
use Rattle.plant_core.specs.declared.terms.Ticks.{Ticks}
use Rattle.section_model.specs.declared.hand.Hand.TheVariants as hand
use Rattle.section_flow.specs.declared.unit.Unit.{Unit as DataUnit}
use Rattle.section_model.specs.declared.cell.UserState.{UserState}
use Rattle.section_model.specs.declared.cell.UserState.TheVariants as user
use Rattle.section_model.specs.Ends.{End, wire, owner, Section, User, Connection, gives_then}
use Rattle.section_model.specs.Table.{user_row}
use Rattle.section_model.specs.Line.{granted}
use Rattle.section_model.specs.UserEnd.{user_asks, given, handed, units_of}
use Rattle.section_model.specs.Coupling.{exchange}
use Rattle.section_model.specs.Step.{asking_cell, reason_against, asks_unless, asks}
use Rattle.connection_law.specs.InStep.{Stage, asked, asking, Meets, section_stage, IsInStep, AreInStep}
use Rattle.section_model.proofs.Handing.{no_hand_is_lost}
use Rattle.connection_law.proofs.Flow.Ends.{kept_back}
use Rattle.connection_law.proofs.Flow.Taking.{user_at, Settles, Agree, CanEnd, alone, handed_on, takes_end, takes_refusal, takes_acceptance}
use Rattle.connection_law.proofs.Flow.Flowing.{either, OnWay, units_taken, section_takes_expedited, section_takes_reset, open_can_end}

other_first : (u : User) (x : Section) → AreInStep (owner u) (wire x) → AreInStep (wire x) (owner u)
other_first u x k = kept_back (record { this = owner u; that = wire x }) k

agreed_fits : (class credit most : ℕ) → most ≤ GREATEST_CREDIT → (if class == 3 then granted credit most else 0) ≤ GREATEST_CREDIT
agreed_fits class credit most fits = either (λ (n : ℕ). n ≤ GREATEST_CREDIT) (class == 3) _ _ (λ _. omega (arith, fits)) (λ _. zero-le)

asked_can_end : (s : Stage) → Meets asked s → CanEnd s
asked_can_end asking m = tt
asked_can_end _ m = absurd m

-- all units of a text
sends_units : (ticks : Ticks) (units : List DataUnit) (u : User) (x : Section) → OnWay units (wire x) (owner u) → Settles ticks (wire x) (owner u, gives_then [] (map handed units))
unfolding Settles exchange
sends_units ticks units u x k =
    subst (λ (r : Connection × List Output). IsInStep r.0) (no_hand_is_lost.enough 1 ticks (owner u, gives_then [] (map handed units)) (wire x))
    (units_taken ticks units (record { this = owner u; that = wire x }, []) k)

-- of a user that is gone as of one that is not
gone_agreement : (s : UserState) (u : User) (x : Section) → AreInStep (owner (user_at s u)) (wire x) → Agree (wire x) (owner (user_at user.Gone u))
gone_agreement s u x k = let b = other_first (user_at s u) x k in (b.1, b.2, (tt, tt), λ three. let f = b.4 three in (f.1, f.2), b.5)

disconnects : (ticks : Ticks) (cause : ℕ) (body : List ℕ) (s : UserState) (u : User) (x : Section) → CanEnd (section_stage x.head.state) → AreInStep (owner (user_at s u)) (wire x)
    → Settles ticks (wire x) (owner (user_at user.Gone u), gives_then [] (hand.End cause (given body) None ∷ []))
disconnects ticks cause body s u x may k =
    handed_on ticks (owner (user_at user.Gone u)) (wire x) [] (hand.End cause (given body) None)
    (takes_end 1 ticks cause (given body) None (wire x) (owner (user_at user.Gone u)) may tt (gone_agreement s u x k))

-- what a user asks by the table
abbrev AsksAs : Ticks → Request → UserState → User → Section → Type 0
AsksAs ticks r s u x = let done = user_asks (asking_cell s r) r (user_at s u) in Settles ticks (wire x) (owner done.0, done.1)

asks_as : (r : Request) (s : UserState) (ticks : Ticks) (u : User) (x : Section) → AreInStep (owner (user_at s u)) (wire x) → AsksAs ticks r s u x
unfolding user_asks user_row
asks_as (request.Accept mine class credit body) user.Offered ticks u x k =
    let a = (if class == 3 then granted credit u.credit else 0) in
    let fits : a ≤ GREATEST_CREDIT = agreed_fits class credit u.credit k.2.0 in
    let ready : User = record u { state = user.Ready; class = class; credit = a } in
    handed_on ticks (owner ready) (wire x) [] (hand.Accept class a None (given body) None)
    (takes_acceptance 1 ticks class a None (given body) None (wire x) (owner ready) k.0 tt (tt, refl, fits, fits, tt, k.3.0.1, k.3.0.0, tt) tt)
asks_as (request.Accept mine class credit body) s ticks u x k = alone ticks (owner (user_at s u)) (wire x) [] k
asks_as (request.Refuse mine cause body) user.Offered ticks u x k =
    handed_on ticks (owner (user_at user.Gone u)) (wire x) [] (hand.Refuse cause None (given body) None)
    (takes_refusal 1 ticks cause None (given body) None (wire x) (owner (user_at user.Gone u)) k.0 tt (gone_agreement user.Offered u x k))
asks_as (request.Refuse mine cause body) s ticks u x k = alone ticks (owner (user_at s u)) (wire x) [] k
asks_as (request.Send mine body) user.Ready ticks u x k =
    let given_units : User = record (user_at user.Ready u) { got = u.got ++ units_of body } in
    let b = other_first (user_at user.Ready u) x k in
    sends_units ticks (units_of body) given_units x (
      k.0,
      tt,
      b.1,
      b.2,
      tt,
      λ three. let f = b.4 three in
          (f.0, tt, record { before = u.got; given = refl; flows = f.1 }),
      tt,
      λ two. let f = b.5 two in (tt, rw (length-append u.got (units_of body)) (omega (arith, f.0))),
    )
asks_as (request.Send mine body) s ticks u x k = alone ticks (owner (user_at s u)) (wire x) [] k
asks_as (request.Expedite mine body) user.Ready ticks u x k =
    handed_on ticks (owner (user_at user.Ready u)) (wire x) [] (hand.Expedited body)
    (section_takes_expedited ticks body x.head.state x (owner (user_at user.Ready u)) (other_first (user_at user.Ready u) x k))
asks_as (request.Expedite mine body) s ticks u x k = alone ticks (owner (user_at s u)) (wire x) [] k
asks_as (request.Reset mine) user.Ready ticks u x k =
    let renewing : User = record u { state = user.Renewing; text = []; got = []; passed = 0 } in
    let b = other_first (user_at user.Ready u) x k in
    handed_on ticks (owner renewing) (wire x) [] (hand.Reset RESET_END_USER)
    (section_takes_reset 1 ticks 0 x.head.state x (owner renewing) (k.0, tt, b.1, b.2, tt, λ three. (tt, refl, refl, tt), λ two. (refl, tt)))
asks_as (request.Reset mine) s ticks u x k = alone ticks (owner (user_at s u)) (wire x) [] k
asks_as (request.Disc mine cause body) user.Calling ticks u x k =
    disconnects ticks cause body user.Calling u x (asked_can_end (section_stage x.head.state) k.0) k
asks_as (request.Disc mine cause body) user.Ready ticks u x k =
    disconnects ticks cause body user.Ready u x (open_can_end (section_stage x.head.state) k.0) k
asks_as (request.Disc mine cause body) user.Renewing ticks u x k =
    disconnects ticks cause body user.Renewing u x (open_can_end (section_stage x.head.state) k.0) k
asks_as (request.Disc mine cause body) s ticks u x k = alone ticks (owner (user_at s u)) (wire x) [] k
asks_as _ s ticks u x k = alone ticks (owner (user_at s u)) (wire x) [] k

asks_unless_kept : (c : Option Reason) (ticks : Ticks) (r : Request) (u : User) (x : Section) → AreInStep (owner u) (wire x) → IsInStep (asks_unless c ticks r u x).0
unfolding Settles
asks_unless_kept (Some why) ticks r u x k = k
asks_unless_kept None ticks r u x k = asks_as r u.state ticks u x k

pub asks_kept : (ticks : Ticks) (ssn : ℕ) (r : Request) (this that : End) → AreInStep this that → IsInStep (asks ticks ssn r this that).0
unfolding asks
asks_kept ticks ssn r (owner u) (wire x) k =
    either (λ (c : Connection × List Output). IsInStep c.0) (u.ssn == ssn) _ _ (λ _. asks_unless_kept (reason_against r u x) ticks r u x k) (λ _. k)
asks_kept ticks ssn r (owner u) (owner v) k = k
asks_kept ticks ssn r (wire x) that k = k
