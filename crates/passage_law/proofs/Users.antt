-- A connection between a user and a section, from its opening on.
use Rattle.std.proofs.Common.{◌≡◌, ◌⊎◌, inl, inr, ℕ, ◌≤◌, not, Bool, true, false, List, Option, Some, refl, sym, ◌∙◌, ap}
use Rattle.std.specs.List.{list_any}
use Rattle.std.proofs.lemmas.Bool.{false≢true}
use Rattle.relay_base.specs.declared.limits.TheConstants.{GREATEST_CREDIT}
use Rattle.relay_base.specs.declared.words.Event.{Event}
use Rattle.relay_base.specs.declared.words.Output.{Output}
use Rattle.plant_core.specs.declared.answer.Answer.{Answer}
use Rattle.plant_core.specs.declared.terms.Terms.{Terms}
use Rattle.plant_core.specs.declared.terms.Ticks.{Ticks}
use Rattle.section_model.specs.Ends.{End, wire, owner, DataUnit, User, Connection}
use Rattle.section_model.specs.Opening.{wish_of, opened}
use Rattle.section_model.specs.Step.{hears, connection_step}
use Rattle.section_model.specs.Lane.{next}
use Rattle.connection_law.specs.InStep.{class_at, got_at, IsInStep}
use Rattle.connection_law.proofs.Flow.Opening.{opening_begins}
use Rattle.connection_law.proofs.Flow.Step.{step_keeps}
use Rattle.hop_law.specs.TextLaw.{Begins}
use Rattle.hop_law.specs.ClassLaw.{IsOfAClass}
use Rattle.hop_law.specs.PassingLaw.{Brings, Passing, none, on_this, on_that}
use Rattle.hop_law.specs.PlaceLaw.{StaysPut}
use Rattle.hop_law.specs.LeavingLaw.{AreSides, this_and_that, that_and_this}
use Rattle.hop_law.specs.EarlyLaw.{IsEmptyEarly}
use Rattle.hop_law.specs.ClearingLaw.{is_reset, SendsReset}
use Rattle.hop_law.proofs.Quiet.{Kept}
use Rattle.hop_law.proofs.Placing.{step_place}
use Rattle.hop_law.proofs.Early.{step_early, opening_empty}
use Rattle.hop_law.proofs.Classes.{classes_stay}
use Rattle.hop_law.proofs.Clearing.{no_clearing}
use Rattle.hop_law.proofs.Along.{of_end, stays_early, empty_first}
use Rattle.passage_law.specs.Trails.{is_user}
use Rattle.passage_law.proofs.Opening.{begins}

-- the one end is a user's, the other one a section
pub record IsUsers (end other : Connection → End) (c : Connection) : Type 0 where
  pub user : is_user (end c) ≡ true
  pub section : is_user (other c) ≡ false
  pub in_step : IsInStep c
  pub class : IsOfAClass (class_at c.this)
  pub early : IsEmptyEarly c.this × IsEmptyEarly c.that

pub put_kind : (e f : End) → StaysPut e f → is_user f ≡ is_user e
put_kind (wire x) (wire y) put = refl
put_kind (owner u) (owner v) put = refl
put_kind (wire x) (owner v) put = absurd put
put_kind (owner u) (wire y) put = absurd put

pub turned_sides : (end other : Connection → End) → AreSides end other → AreSides other end
turned_sides end other this_and_that = that_and_this
turned_sides end other that_and_this = this_and_that

-- a user's end
pub record IsOwner (e : End) : Type 0 where
  pub user : User
  pub is : e ≡ owner user

pub is_owner : (e : End) → is_user e ≡ true → IsOwner e
is_owner (owner u) user = record { user = u; is = refl }
is_owner (wire x) user = absurd (false≢true user)

-- a user's end stands against a section
pub kinds : (c : Connection) (end other : Connection → End) → AreSides end other → is_user (end c) ≡ true → is_user (other c) ≡ false → is_user c.that ≡ not (is_user c.this)
kinds c end other this_and_that user section = section ∙ ap not (sym user)
kinds c end other that_and_this user section = user ∙ ap not (sym section)

pub users_step : (ticks : Ticks) (c : Connection) (event : Event) (end other : Connection → End) → hears c event ≡ true → AreSides end other → IsUsers end other c → IsUsers end other (next ticks c event)
users_step ticks c event end other h sides k =
    let d = next ticks c event in
    let put = step_place ticks c event in
    let early = step_early ticks c event in
    record {
      user = put_kind (end c) (end d) (of_end StaysPut end other c d sides put) ∙ k.user;
      section = put_kind (other c) (other d) (of_end StaysPut other end c d (turned_sides end other sides) put) ∙ k.section;
      in_step = step_keeps ticks c event k.in_step;
      class = classes_stay ticks c event h k.class;
      early = (stays_early c.this d.this early.0 k.early.0, stays_early c.that d.that early.1 k.early.1);
    }

pub users_begin : (terms : Terms) (event : Event) (answer : Option Answer) (references : List ℕ) (c : Connection) (end other : Connection → End) → terms.credit ≤ GREATEST_CREDIT
    → (opened terms (wish_of terms event) answer references).connection ≡ Some c → IsOfAClass (class_at c.this) → AreSides end other → is_user (end c) ≡ true → IsUsers end other c
users_begin terms event answer references c end other credit opening class sides user =
    let empty = opening_empty terms (wish_of terms event) answer references c opening in
    record {
      user = user;
      section = by_sides end other sides user;
      in_step = (opening_begins terms event answer references c credit opening).0;
      class = class;
      early = (λ early. empty.0, λ early. empty.1);
    }
  where
    not_user : (b : Bool) → (b ≡ true → ⊥) → b ≡ false
    not_user true differs = absurd (differs refl)
    not_user false differs = refl

    by_sides : (end other : Connection → End) → AreSides end other → is_user (end c) ≡ true → is_user (other c) ≡ false
    by_sides end other this_and_that user = not_user (is_user c.that) (λ is. (begins terms (wish_of terms event) answer references c opening).one_user user is)
    by_sides end other that_and_this user = not_user (is_user c.this) (λ is. (begins terms (wish_of terms event) answer references c opening).one_user is user)

-- Without a reset what came in at an end goes on.
pub goes_on : (ticks : Ticks) (c : Connection) (event : Event) (end other : Connection → End) → AreSides end other → IsInStep c → IsOfAClass (class_at c.this) → IsEmptyEarly c.this × IsEmptyEarly c.that
    → list_any is_reset (connection_step ticks c event).1 ≡ false → Begins (got_at (end c)) (got_at (end (next ticks c event)))
goes_on ticks c event end other sides in_step class early quiet = by_reset (no_clearing ticks c event in_step class early.0 early.1)
  where
    by_reset : ((class_at c.this ≡ 3) × SendsReset (connection_step ticks c event).1) ⊎ (Begins (got_at c.this) (got_at (next ticks c event).this) × Begins (got_at c.that) (got_at (next ticks c event).that))
        → Begins (got_at (end c)) (got_at (end (next ticks c event)))
    by_reset (inl reset) = absurd (false≢true (sym quiet ∙ reset.1))
    by_reset (inr both) = of_end (λ e f. Begins (got_at e) (got_at f)) end other c (next ticks c event) sides both

-- what is kept, or begins anew, and goes on, is the same
pub kept_same : (before after : List DataUnit) → Kept before after → Begins before after → after ≡ before
kept_same before after (inl same) begins = same
kept_same before after (inr cleared) begins = cleared ∙ sym (empty_first before begins.more (sym begins.is ∙ cleared))

-- nothing comes in at an end for which an event brings nothing
pub none_come : (event : Event) (end other : Connection → End) (c d : Connection) (outs : List Output) → AreSides end other → ((units : List DataUnit) → Brings event (end c) units → ⊥)
    → Passing (Brings event) c d outs → Kept (got_at (end c)) (got_at (end d))
none_come event end other c d outs this_and_that nothing (none p) = p.this
none_come event end other c d outs that_and_this nothing (none p) = p.that
none_come event end other c d outs this_and_that nothing (on_this units p) = absurd (nothing units p.brought)
none_come event end other c d outs that_and_this nothing (on_this units p) = p.stays
none_come event end other c d outs this_and_that nothing (on_that units p) = p.stays
none_come event end other c d outs that_and_this nothing (on_that units p) = absurd (nothing units p.brought)
