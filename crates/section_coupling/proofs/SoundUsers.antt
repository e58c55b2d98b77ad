-- What a user's end hands over, and the credit that it has then.
use Rattle.std.proofs.Common.{◌≡◌, ℕ, ◌==◌, Bool, true, false, List, [], ◌∷◌, ◌++◌, map, if◌then◌else◌, refl, subst}
use Rattle.std.specs.Prelude.{None}
use Rattle.relay_base.specs.declared.causes.TheConstants.{RELEASE_ACCESS_CONGESTION}
use Rattle.relay_base.specs.declared.words.Event.{Event}
use Rattle.relay_base.specs.declared.words.Event.TheVariants.{Message as Arrives, Asked as Requested, Tick}
use Rattle.relay_base.specs.declared.words.Request.{Request}
use Rattle.relay_base.specs.declared.words.Request.TheVariants as request
use Rattle.relay_base.specs.declared.words.Output.{Output}
use Rattle.section_model.specs.declared.cell.UserState.TheVariants.{Gone}
use Rattle.section_model.specs.declared.cell.Cell.{Cell}
use Rattle.section_model.specs.declared.cell.Cell.TheVariants as cell
use Rattle.section_model.specs.declared.hand.Acted.{Acted}
use Rattle.section_model.specs.declared.hand.Hand.{Hand}
use Rattle.section_model.specs.declared.hand.Hand.TheVariants as hand
use Rattle.section_flow.specs.declared.unit.Unit.{Unit as DataUnit}
use Rattle.section_model.specs.Ends.{User, no_effect, gives_then}
use Rattle.section_model.specs.UserEnd.{user_asks, user_takes, accepts, refuses, sends, expedites, disconnects, units_of, handed, tells_confirm, tells_disconnect, collects, tells_expedited, tells_reset, user_counts_left, taken}
use Rattle.section_user.specs.Side.{ActsAs, user_of, user_side_of, user_hears_event}
use Rattle.section_coupling.specs.declared.owner.Owner.{Owner}
use Rattle.section_user.specs.declared.side.UserSide.{UserSide}
use Rattle.section_coupling.specs.Sound.{IsCredit, IsGranted, AreGranted}
use Rattle.section_coupling.proofs.SoundLines.{agreed-credit}

pub record GrantedUser (r : User × Acted) : Type 0 where
  pub credit : IsCredit r.0.credit
  pub first : AreGranted r.1.first
  pub then_ : AreGranted r.1.then

either : (b : Bool) (r s : User × Acted) → GrantedUser r → GrantedUser s → GrantedUser (if b then r else s)
either true r s f g = f
either false r s f g = g

still : (u : User) → IsCredit u.credit → GrantedUser (u, no_effect)
still u h = record { credit = h; first = tt; then_ = tt }

confirmed-granted : (h : Hand) (u : User) → IsGranted h → IsCredit u.credit → GrantedUser (tells_confirm h u)
confirmed-granted (hand.Accept class credit called body importance) u o h = record { credit = o; first = tt; then_ = tt }
confirmed-granted _ u o h = still u h

disconnected-granted : (h : Hand) (u : User) → IsCredit u.credit → GrantedUser (tells_disconnect h u)
disconnected-granted (hand.Refuse cause called body importance) u h = record { credit = h; first = tt; then_ = tt }
disconnected-granted (hand.End cause body importance) u h = record { credit = h; first = tt; then_ = tt }
disconnected-granted _ u h = still u h

overruns : (u : User) (outs : List Output) → IsCredit u.credit → GrantedUser (record u { state = Gone }, record { first = hand.End RELEASE_ACCESS_CONGESTION None None ∷ []; outs = outs; then = [] })
overruns u outs h = record { credit = h; first = (tt, tt); then_ = tt }

tells : (u : User) (text : List ℕ) (outs : List Output) (units : ℕ) (is_expedited : Bool) → IsCredit u.credit → GrantedUser (record u { text = text }, gives_then outs (taken units is_expedited))
tells u text outs units is_expedited h = record { credit = h; first = tt; then_ = (tt, tt) }

collects-granted : (h : Hand) (u : User) → IsCredit u.credit → GrantedUser (collects h u)
collects-granted (hand.Unit more body) u h =
    either _ _ _ (overruns u _ h) (either _ _ _ (tells u (u.text ++ body) [] 1 false h) (tells u [] _ 1 false h))
collects-granted _ u h = still u h

expedited-granted : (h : Hand) (u : User) → IsCredit u.credit → GrantedUser (tells_expedited h u)
expedited-granted (hand.Expedited body) u h = record { credit = h; first = tt; then_ = (tt, tt) }
expedited-granted _ u h = still u h

reset-granted : (h : Hand) (u : User) → IsCredit u.credit → GrantedUser (tells_reset h u)
reset-granted (hand.Reset cause) u h = record { credit = h; first = tt; then_ = tt }
reset-granted _ u h = still u h

left-granted : (h : Hand) (u : User) → IsCredit u.credit → GrantedUser (user_counts_left h u)
left-granted (hand.Left units is_expedited) u h = record { credit = h; first = tt; then_ = tt }
left-granted _ u h = still u h

pub takes-granted : (c : Cell) (h : Hand) (u : User) → IsGranted h → IsCredit u.credit → GrantedUser (user_takes c h u)
unfolding user_takes
takes-granted cell.TellConfirm h u o k = confirmed-granted h u o k
takes-granted cell.TellDisconnect h u o k = disconnected-granted h u k
takes-granted cell.TellUnit h u o k = collects-granted h u k
takes-granted cell.TellExpedited h u o k = expedited-granted h u k
takes-granted cell.TellReset h u o k = reset-granted h u k
takes-granted cell.TellResetDone h u o k = record { credit = k; first = tt; then_ = tt }
takes-granted cell.Left h u o k = left-granted h u k
takes-granted _ h u o k = still u k

accepts-granted : (r : Request) (u : User) → IsCredit u.credit → GrantedUser (accepts r u)
accepts-granted (request.Accept mine class credit body) u h =
    let agreed = agreed-credit (class == 3) credit u.credit h in record { credit = agreed; first = tt; then_ = (agreed, tt) }
accepts-granted _ u h = still u h

refuses-granted : (r : Request) (u : User) → IsCredit u.credit → GrantedUser (refuses r u)
refuses-granted (request.Refuse mine cause body) u h = record { credit = h; first = tt; then_ = (tt, tt) }
refuses-granted _ u h = still u h

units-granted : (units : List DataUnit) → AreGranted (map handed units)
units-granted [] = tt
units-granted (u ∷ units) = (tt, units-granted units)

sends-granted : (r : Request) (u : User) → IsCredit u.credit → GrantedUser (sends r u)
sends-granted (request.Send mine body) u h = record { credit = h; first = tt; then_ = units-granted (units_of body) }
sends-granted _ u h = still u h

expedites-granted : (r : Request) (u : User) → IsCredit u.credit → GrantedUser (expedites r u)
expedites-granted (request.Expedite mine body) u h = record { credit = h; first = tt; then_ = (tt, tt) }
expedites-granted _ u h = still u h

disconnects-granted : (r : Request) (u : User) → IsCredit u.credit → GrantedUser (disconnects r u)
disconnects-granted (request.Disc mine cause body) u h = record { credit = h; first = tt; then_ = (tt, tt) }
disconnects-granted _ u h = still u h

asks-granted : (c : Cell) (r : Request) (u : User) → IsCredit u.credit → GrantedUser (user_asks c r u)
unfolding user_asks
asks-granted cell.UserAccepts r u h = accepts-granted r u h
asks-granted cell.UserRefuses r u h = refuses-granted r u h
asks-granted cell.UserSends r u h = sends-granted r u h
asks-granted cell.UserExpedites r u h = expedites-granted r u h
asks-granted cell.UserResets r u h = record { credit = h; first = tt; then_ = (tt, tt) }
asks-granted cell.UserDisconnects r u h = disconnects-granted r u h
asks-granted _ r u h = still u h

pub event-granted : (c : Cell) (e : Event) (u : User) → IsCredit u.credit → GrantedUser (user_hears_event c e u)
event-granted c (Arrives point sls bytes) u h = still u h
event-granted c (Requested ssn r) u h = asks-granted c r u h
event-granted c Tick u h = still u h

-- the code's end has acted, whatever its counts are
pub user_acted : (act : User → User × Acted) (u v : UserSide) (got : List DataUnit) (passed : ℕ) (acted : Acted) → ActsAs act u v acted
    → act (user_of u got passed) ≡ (user_of v (act (user_of u got passed)).0.got (act (user_of u got passed)).0.passed, acted)
user_acted act u v got passed acted e = known (act (user_of u got passed)) (e got passed).0 (e got passed).1
  where
    known : (r : User × Acted) → user_side_of r.0 ≡ v → r.1 ≡ acted → r ≡ (user_of v r.0.got r.0.passed, acted)
    known r f g = subst (λ w. r ≡ (user_of w r.0.got r.0.passed, acted)) f (subst (λ a. r ≡ (user_of (user_side_of r.0) r.0.got r.0.passed, a)) g refl)

-- and its credit and effects are granted
pub acted_granted : (r : User × Acted) (v : UserSide) (acted : Acted) → GrantedUser r → user_side_of r.0 ≡ v → r.1 ≡ acted → IsCredit v.credit × AreGranted acted.first × AreGranted acted.then
acted_granted r v acted g e f =
    (subst (λ w. IsCredit w.credit) e g.credit, subst (λ a. AreGranted a.first) f g.first, subst (λ a. AreGranted a.then) f g.then_)

-- ends that are equal but for what isn't counted
pub same-owner : (o p : Owner) → o.side ≡ p.side → o.given.value ≡ p.given.value → o ≡ p
same-owner o p e f =
    subst (λ s. o ≡ record { side = s; given = p.given }) e
    (subst (λ v. o ≡ record { side = o.side; given = record { marker = p.given.marker; value = v } }) f refl)
