-- CR came from where the connection's section stands.
use Rattle.std.proofs.Common.{◌≡◌, ℕ, true, Some, IfSome, Result, Ok, Err, refl, sym, subst, eq-eqb}
use Rattle.relay_base.specs.declared.words.Event.{Event}
use Rattle.relay_base.specs.declared.words.Event.TheVariants.{Message as Arrived, Asked as Requested, Tick}
use Rattle.relay_base.specs.declared.words.ReadFault.{ReadFault}
use Rattle.relay_base.specs.declared.words.Request.{Request}
use Rattle.relay_base.specs.declared.words.Request.TheVariants as request
use Rattle.plant_core.specs.declared.terms.Terms.{Terms}
use Rattle.q713_codec.specs.Names.{Message}
use Rattle.q713_codec.specs.declared.message.Message.TheVariants.{Cr}
use Rattle.q713_codec.specs.Reading.{reading_of}
use Rattle.section_model.specs.Ends.{End, wire, owner, Section, Connection}
use Rattle.section_model.specs.Opening.{Wish, by_cr, by_user, no_wish, may_be_wanted, wish_of_message, wish_of_reading, wish_of_request, wish_of, opened}
use Rattle.section_model.specs.Lane.{answer_of}
use Rattle.connection_law.proofs.Flow.Flowing.{either}
use Rattle.chain_step.specs.Run.{NodeState, head_of}
use Rattle.passage_law.specs.Links.{is_from}
use Rattle.passage_law.specs.References.{IsAskedBy, HasSource, IsCrFrom}
use Rattle.passage_law.proofs.Referring.{ThisShape, HasShape, opened_shape}
use Rattle.passage_law.specs.Trails.{Leg, IsLeg}
use Rattle.passage_law.proofs.Trailing.{references_at}

CameAs : ℕ → Result Message ReadFault → Wish → Type 0
CameAs point read (by_cr w) = (point ≡ w.point) × HasSource w.slr read
CameAs point read _ = Unit {0}

WishCame : Event → Wish → Type 0
WishCame event (by_cr w) = IsCrFrom w.point w.slr event
WishCame event _ = Unit {0}

wish_came : (terms : Terms) (event : Event) → WishCame event (wish_of terms event)
unfolding wish_of WishCame CameAs
wish_came terms (Arrived point sls bytes) = by_wish (wish_of_reading terms point sls (reading_of bytes)) (by_reading (reading_of bytes))
  where
    by_message : (m : Message) → CameAs point (Ok m) (wish_of_message terms point sls m)
    by_message (Cr slr class called credit calling body hop importance) = (refl, refl)
    by_message _ = tt

    by_reading : (read : Result Message ReadFault) → CameAs point read (wish_of_reading terms point sls read)
    by_reading (Ok m) = by_message m
    by_reading (Err fault) = tt

    by_wish : (wish : Wish) → CameAs point (reading_of bytes) wish → WishCame (Arrived point sls bytes) wish
    by_wish (by_cr w) came = came
    by_wish (by_user ssn tag w) came = tt
    by_wish no_wish came = tt
wish_came terms (Requested ssn r) = by_request r
  where
    by_request : (r : Request) → WishCame (Requested ssn r) (wish_of_request terms ssn r)
    by_request (request.Conn tag class credit called body) = either (WishCame (Requested ssn (request.Conn tag class credit called body))) (may_be_wanted class credit called body) _ _ (λ _. tt) (λ _. tt)
    by_request _ = tt
wish_came terms Tick = tt

-- the section of this opening
came_as : (wish : Wish) (event : Event) (x : Section) → ThisShape wish (wire x) → WishCame event wish → IsCrFrom x.head.point x.head.other event
unfolding WishCame
came_as (by_cr w) event x shape came = subst (λ slr. IsCrFrom x.head.point slr event) (sym shape.1) (subst (λ p. IsCrFrom p w.slr event) (sym shape.0) came)
came_as (by_user ssn tag w) event x shape came = absurd shape
came_as no_wish event x shape came = absurd shape

pub leg_came : (i : ℕ) (node : NodeState) (leg : Leg) (x : Section) → IsLeg i node leg → leg.first.this ≡ wire x → IsCrFrom x.head.point x.head.other leg.by.event
leg_came i node leg x at is = came_as wish leg.by.event x (subst (ThisShape wish) is (shape leg.first at.opens).0) (wish_came (head_of i).terms leg.by.event)
  where
    wish : Wish
    wish = wish_of (head_of i).terms leg.by.event

    shape : (c : Connection) → (opened (head_of i).terms wish (answer_of leg.by) (references_at i leg)).connection ≡ Some c → HasShape wish c
    shape c opens = subst (λ connection. IfSome connection (HasShape wish)) opens (opened_shape (head_of i).terms wish (answer_of leg.by) (references_at i leg))

-- so of one that was asked for
pub asked_came : (i p other mine : ℕ) (node : NodeState) (leg : Leg) → IsLeg i node leg → IsAskedBy p other mine leg.first.this → IsCrFrom p other leg.by.event
asked_came i p other mine node leg at asked = by_end leg.first.this refl asked
  where
    by_end : (e : End) → leg.first.this ≡ e → IsAskedBy p other mine e → IsCrFrom p other leg.by.event
    by_end (wire x) is asked =
        subst (λ point. IsCrFrom point other leg.by.event) asked.0 (subst (λ slr. IsCrFrom x.head.point slr leg.by.event) asked.1 (leg_came i node leg x at is))
    by_end (owner u) is asked = absurd asked

pub is_from_cr : (point slr : ℕ) (event : Event) → IsCrFrom point slr event → is_from point event ≡ true
is_from_cr point slr (Arrived from sls bytes) cr = eq-eqb from point cr.0
is_from_cr point slr (Requested ssn r) cr = absurd cr
is_from_cr point slr Tick cr = absurd cr
