-- What is opened keeps what flows.
use Rattle.std.proofs.Common.{◌≡◌, ℕ, ◌≤◌, ◌==◌, List, [], ◌∷◌, Option, Some, None, Ok, Err, unwrap_or, refl, subst, arith, zero-le}
use Rattle.std.specs.declared.result.Result.{Result}
use Rattle.relay_base.specs.declared.limits.TheConstants.{GREATEST_CREDIT}
use Rattle.relay_base.specs.declared.words.ReadFault.{ReadFault}
use Rattle.relay_base.specs.declared.words.Event.{Event}
use Rattle.relay_base.specs.declared.words.Event.TheVariants.{Message as Arrived, Asked as Requested, Tick}
use Rattle.relay_base.specs.declared.words.Request.{Request}
use Rattle.relay_base.specs.declared.words.Request.TheVariants as request
use Rattle.plant_core.specs.declared.answer.Answer.{Answer}
use Rattle.plant_core.specs.declared.answer.Answer.TheVariants.{Local, Forward, Refused}
use Rattle.plant_core.specs.declared.terms.Terms.{Terms}
use Rattle.q713_codec.specs.Names.{Message}
use Rattle.q713_codec.specs.declared.message.Message.TheVariants.{Cr}
use Rattle.q713_codec.specs.Reading.{reading_of}
use Rattle.q713_codec.specs.Messages.{protocol_class}
use Rattle.section_model.specs.declared.cell.UserState.TheVariants as user
use Rattle.section_model.specs.Ends.{Connection}
use Rattle.section_model.specs.Opening.{Wanted, Wish, by_cr, by_user, no_wish, wish_of_message, wish_of_reading, may_be_wanted, wish_of_request, wish_of, offered, fits, asked_section, asking_section, new_user, opened_by_cr, opened_by_user, opened, Opened}
use Rattle.connection_law.specs.InStep.{IsInStep, AreInStep, passed_at}
use Rattle.connection_law.specs.FlowLaw.{OpeningKeeps}
use Rattle.connection_law.proofs.Flow.Flowing.{either}
use Rattle.connection_law.proofs.Flow.Acting.{cleared_flows}

-- The credit of a wish is at most the greatest.

CreditFits : Wish → Type 0
CreditFits (by_cr w) = w.credit ≤ GREATEST_CREDIT
CreditFits (by_user ssn tag w) = w.credit ≤ GREATEST_CREDIT
CreditFits no_wish = Unit {0}

offered_fits : (terms : Terms) (class credit : ℕ) → terms.credit ≤ GREATEST_CREDIT → offered terms class credit ≤ GREATEST_CREDIT
offered_fits terms class credit fits = either (λ (n : ℕ). n ≤ GREATEST_CREDIT) (class == 3) _ _ (λ _. omega (arith, fits)) (λ _. zero-le)

message_fits : (terms : Terms) (point sls : ℕ) (m : Message) → terms.credit ≤ GREATEST_CREDIT → CreditFits (wish_of_message terms point sls m)
unfolding CreditFits
message_fits terms point sls (Cr slr class called credit calling body hop importance) fits = offered_fits terms (protocol_class class) (unwrap_or credit 1) fits
message_fits terms point sls _ fits = tt

reading_fits : (terms : Terms) (point sls : ℕ) (r : Result Message ReadFault) → terms.credit ≤ GREATEST_CREDIT → CreditFits (wish_of_reading terms point sls r)
unfolding CreditFits
reading_fits terms point sls (Ok m) fits = message_fits terms point sls m fits
reading_fits terms point sls (Err fault) fits = tt

request_fits : (terms : Terms) (ssn : ℕ) (r : Request) → terms.credit ≤ GREATEST_CREDIT → CreditFits (wish_of_request terms ssn r)
unfolding CreditFits
request_fits terms ssn (request.Conn tag class credit called body) fits =
    either CreditFits (may_be_wanted class credit called body) _ _ (λ _. offered_fits terms class credit fits) (λ _. tt)
request_fits terms ssn _ fits = tt

wish_fits : (terms : Terms) (event : Event) → terms.credit ≤ GREATEST_CREDIT → CreditFits (wish_of terms event)
unfolding wish_of CreditFits
wish_fits terms (Arrived point sls bytes) fits = reading_fits terms point sls (reading_of bytes) fits
wish_fits terms (Requested ssn r) fits = request_fits terms ssn r fits
wish_fits terms Tick fits = tt

-- What is opened, if anything is.

OpensInStep : Option Connection → Type 0
OpensInStep None = Unit {0}
OpensInStep (Some c) = IsInStep c × (passed_at c.this ≡ 0) × (passed_at c.that ≡ 0)

to_user : (terms : Terms) (w : Wanted) (ssn mine : ℕ) → w.credit ≤ GREATEST_CREDIT → AreInStep (asked_section terms mine w) (new_user user.Offered ssn mine w)
to_user terms w ssn mine fits = (tt, refl, (fits, fits), (tt, (refl, refl)), λ three. (tt, cleared_flows w.credit fits, tt), λ two. (refl, tt))

onward_to : (terms : Terms) (w : Wanted) (point mine next : ℕ) → w.credit ≤ GREATEST_CREDIT → AreInStep (asked_section terms mine w) (asking_section terms point next w)
onward_to terms w point mine next fits = (tt, refl, (fits, fits), (tt, tt), λ three. (tt, cleared_flows w.credit fits, cleared_flows w.credit fits), λ two. (refl, refl))

from_user : (terms : Terms) (w : Wanted) (ssn point mine : ℕ) → w.credit ≤ GREATEST_CREDIT → AreInStep (new_user user.Calling ssn mine w) (asking_section terms point mine w)
from_user terms w ssn point mine fits = (tt, refl, (fits, fits), ((refl, refl), tt), λ three. (tt, tt, cleared_flows w.credit fits), λ two. (tt, refl))

by_cr_kept : (terms : Terms) (w : Wanted) (answer : Answer) (references : List ℕ) → w.credit ≤ GREATEST_CREDIT → OpensInStep (opened_by_cr terms w answer references).connection
unfolding opened_by_cr OpensInStep
by_cr_kept terms w (Refused cause local) references fit = tt
by_cr_kept terms w (Local ssn) [] fit = tt
by_cr_kept terms w (Local ssn) (mine ∷ references) fit = (to_user terms w ssn mine fit, refl, refl)
by_cr_kept terms w (Forward point rewrite hop) [] fit =
    either (λ (o : Opened). OpensInStep o.connection) (fits w rewrite hop) _ _ (λ _. tt) (λ _. tt)
by_cr_kept terms w (Forward point rewrite hop) (mine ∷ []) fit =
    either (λ (o : Opened). OpensInStep o.connection) (fits w rewrite hop) _ _ (λ _. tt) (λ _. tt)
by_cr_kept terms w (Forward point rewrite hop) (mine ∷ next ∷ references) fit =
    either (λ (o : Opened). OpensInStep o.connection) (fits w rewrite hop) _ _ (λ _. (onward_to terms w point mine next fit, refl, refl)) (λ _. tt)

by_user_kept : (terms : Terms) (ssn tag : ℕ) (w : Wanted) (answer : Answer) (references : List ℕ) → w.credit ≤ GREATEST_CREDIT → OpensInStep (opened_by_user terms ssn tag w answer references).connection
unfolding opened_by_user OpensInStep
by_user_kept terms ssn tag w (Refused cause local) references fit = tt
by_user_kept terms ssn tag w (Local other) references fit = tt
by_user_kept terms ssn tag w (Forward point rewrite hop) [] fit = tt
by_user_kept terms ssn tag w (Forward point rewrite hop) (mine ∷ references) fit = (from_user terms w ssn point mine fit, refl, refl)

opened_kept : (terms : Terms) (wish : Wish) (answer : Option Answer) (references : List ℕ) → CreditFits wish → OpensInStep (opened terms wish answer references).connection
unfolding opened CreditFits OpensInStep
opened_kept terms (by_cr w) (Some answer) references fit = by_cr_kept terms w answer references fit
opened_kept terms (by_cr w) None references fit = tt
opened_kept terms (by_user ssn tag w) (Some answer) references fit = by_user_kept terms ssn tag w answer references fit
opened_kept terms (by_user ssn tag w) None references fit = tt
opened_kept terms no_wish answer references fit = tt

pub opening_begins :
    (terms : Terms) (event : Event) (answer : Option Answer) (references : List ℕ) (c : Connection)
    → terms.credit ≤ GREATEST_CREDIT
    → (opened terms (wish_of terms event) answer references).connection ≡ Some c
    → IsInStep c × (passed_at c.this ≡ 0) × (passed_at c.that ≡ 0)
unfolding OpensInStep
opening_begins terms event answer references c fits e = subst OpensInStep e (opened_kept terms (wish_of terms event) answer references (wish_fits terms event fits))

pub opening_keeps : OpeningKeeps
opening_keeps terms event answer references c fits e = (opening_begins terms event answer references c fits e).0
