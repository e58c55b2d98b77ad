-- What an entry opened, and what it sent.
use Rattle.std.proofs.Common.{◌≡◌, inl, inr, ℕ, ◌==◌, ◌&&◌, ◌||◌, if◌then◌else◌, Bool, true, false, List, [], ◌∷◌, ◌++◌, Option, Some, None, Ok, Err, is_some, IfSome, refl, sym, ◌∙◌, subst}
use Rattle.std.specs.declared.result.Result.{Result}
use Rattle.std.proofs.lemmas.Bool.{false≢true, eqb-true}
use Rattle.relay_base.specs.declared.words.Event.{Event}
use Rattle.relay_base.specs.declared.words.Event.TheVariants.{Message as Arrived, Asked as Requested, Tick}
use Rattle.relay_base.specs.declared.words.Output.{Output}
use Rattle.relay_base.specs.declared.words.Output.TheVariants.{Sent}
use Rattle.relay_base.specs.declared.words.ReadFault.{ReadFault}
use Rattle.relay_base.specs.declared.words.Request.{Request}
use Rattle.relay_base.specs.declared.words.Request.TheVariants as request
use Rattle.sccp_address.specs.Parsing.{address_of}
use Rattle.plant_core.specs.Asking.{answer_in}
use Rattle.plant_core.specs.declared.answer.Answer.{Answer}
use Rattle.plant_core.specs.declared.answer.Answer.TheVariants.{Local, Forward, Refused}
use Rattle.plant_core.specs.declared.answer.Rewrite.{Rewrite}
use Rattle.plant_core.specs.declared.answer.Origin.TheVariants.{Network}
use Rattle.plant_core.specs.declared.entry.Asked.{Asked}
use Rattle.plant_core.specs.declared.entry.Entry.{Entry}
use Rattle.plant_core.specs.declared.terms.Terms.{Terms}
use Rattle.q713_shape.specs.Writing.{octets_of}
use Rattle.q713_codec.specs.Names.{Message}
use Rattle.q713_codec.specs.declared.message.Message.TheVariants.{Cr}
use Rattle.q713_codec.specs.Reading.{reading_of}
use Rattle.q713_codec.specs.Writing.{spelling_of}
use Rattle.section_model.specs.Ends.{End, wire, owner, DataUnit, SectionHead, Connection, is_reached}
use Rattle.section_model.specs.Opening.{Wanted, Wish, by_cr, by_user, no_wish, wish_of_message, wish_of_reading, may_be_wanted, wish_of_request, wish_of, asked_for, question_of, fits, Opened, opened_locally, opened_onward, opened_out, opened_by_cr, opened_by_user, slots_needed, opened}
use Rattle.section_model.specs.Lane.{Lane, Opening, lowest_free, opening_of, outputs_by, answer_of, legal_outputs, IsLegalEntry}
use Rattle.hop_law.specs.Units.{units_on}
use Rattle.connection_law.specs.InStep.{class_at}
use Rattle.connection_law.specs.Messages.{begins_with}
use Rattle.connection_law.proofs.Flow.Flowing.{either}
use Rattle.hop_law.specs.ClassLaw.{IsOfAClass}
use Rattle.hop_law.specs.ClosingLaw.{is_resetting}
use Rattle.hop_law.proofs.Carrying.{no_units}
use Rattle.hop_law.proofs.Passing.{first_true}
use Rattle.chain_step.specs.Run.{messages_in}
use Rattle.passage_law.specs.Trails.{is_user}
use Rattle.passage_law.specs.Texts.{texts_among}

-- The end that was asked is a user's, or a section whose other end is known; CR, if it was sent, went to the point of the other one; not both are users',
-- no unit left, and no text was told. And nothing is there of a text, and no reset has begun.
abbrev pub IsReached : End → Type 0
IsReached (wire x) = is_reached x.head.state ≡ true
IsReached (owner u) = Unit {0}

abbrev pub StandsWhere : End → List Output → Type 0
StandsWhere (wire x) outs = (own to : ℕ) (event : Event) → messages_in own to outs ≡ event ∷ [] → x.head.point ≡ to
StandsWhere (owner u) outs = Unit {0}

-- what there is of a text at a user's end
abbrev pub text_at : End → List ℕ
text_at (wire x) = []
text_at (owner u) = u.text

-- a section isn't reset
abbrev pub IsCalm : End → Type 0
IsCalm (wire x) = is_resetting x.head.state ≡ false
IsCalm (owner u) = Unit {0}

pub record Begun (c : Connection) (outs : List Output) : Type 0 where
  pub asked : IsReached c.this
  pub asking : StandsWhere c.that outs
  pub one_user : is_user c.this ≡ true → is_user c.that ≡ true → ⊥
  pub no_unit : (x : SectionHead) → units_on x outs ≡ []
  pub no_text : texts_among outs ≡ []
  pub no_rest : (text_at c.this ≡ []) × (text_at c.that ≡ [])
  pub calm : IsCalm c.this × IsCalm c.that

abbrev BegunIfAny : Opened → Type 0
BegunIfAny o = IfSome o.connection (λ c. Begun c o.outs)

-- CR that goes to a point

went : (own point sls to : ℕ) (bytes : List ℕ) (event : Event) → messages_in own to (Sent point sls bytes ∷ []) ≡ event ∷ [] → point ≡ to
went own point sls to bytes event e = by_test (point == to) refl e
  where
    by_test : (b : Bool) → (point == to) ≡ b → (if b then Arrived own sls bytes ∷ [] else []) ++ [] ≡ event ∷ [] → point ≡ to
    by_test true is e = eqb-true point to is
    by_test false is e = absurd (nothing e)
      where
        nothing : [] ≡ event ∷ [] → ⊥
        nothing e = cc

no_unit_of : (x : SectionHead) (point sls : ℕ) (bytes : List ℕ) → begins_with 6 bytes ≡ false → begins_with 7 bytes ≡ false → units_on x (Sent point sls bytes ∷ []) ≡ []
unfolding units_on
no_unit_of x point sls bytes a b =
    either (λ (units : List DataUnit). units ++ [] ≡ []) (point == x.point && sls == x.sls) _ _ (λ _. rw (no_units x.other bytes a b) refl) (λ _. refl)

locally : (terms : Terms) (w : Wanted) (ssn mine : ℕ) → BegunIfAny (opened_locally terms w ssn mine)
unfolding units_on texts_among
locally terms w ssn mine = record { asked = refl; asking = tt; one_user = λ this that. false≢true this; no_unit = λ x. refl; no_text = refl; no_rest = (refl, refl); calm = (refl, tt) }

onward_so : (terms : Terms) (w : Wanted) (point : ℕ) (rewrite : Rewrite) (hop : Option ℕ) (mine next : ℕ) → BegunIfAny (opened_onward terms w point rewrite hop mine next)
unfolding texts_among spelling_of octets_of
onward_so terms w point rewrite hop mine next = record {
  asked = refl;
  asking = λ own to event e. went own point w.sls to _ event e;
  one_user = λ this that. false≢true this;
  no_unit = λ x. no_unit_of x point w.sls _ refl refl;
  no_text = refl;
  no_rest = (refl, refl);
  calm = (refl, refl);
}

out_so : (terms : Terms) (ssn tag : ℕ) (w : Wanted) (point : ℕ) (rewrite : Rewrite) (mine : ℕ) → BegunIfAny (opened_out terms ssn tag w point rewrite mine)
unfolding units_on texts_among spelling_of octets_of
out_so terms ssn tag w point rewrite mine = record {
  asked = tt;
  asking = λ own to event e. went own point w.sls to _ event e;
  one_user = λ this that. false≢true that;
  no_unit = λ x. no_unit_of x point w.sls _ refl refl;
  no_text = refl;
  no_rest = (refl, refl);
  calm = (tt, refl);
}

by_cr_so : (terms : Terms) (w : Wanted) (answer : Answer) (references : List ℕ) → BegunIfAny (opened_by_cr terms w answer references)
unfolding opened_by_cr
by_cr_so terms w (Refused cause local) references = tt
by_cr_so terms w (Local ssn) [] = tt
by_cr_so terms w (Local ssn) (mine ∷ references) = locally terms w ssn mine
by_cr_so terms w (Forward point rewrite hop) [] = either BegunIfAny (fits w rewrite hop) _ _ (λ _. tt) (λ _. tt)
by_cr_so terms w (Forward point rewrite hop) (mine ∷ []) = either BegunIfAny (fits w rewrite hop) _ _ (λ _. tt) (λ _. tt)
by_cr_so terms w (Forward point rewrite hop) (mine ∷ next ∷ references) =
    either BegunIfAny (fits w rewrite hop) _ _ (λ _. onward_so terms w point rewrite hop mine next) (λ _. tt)

by_user_so : (terms : Terms) (ssn tag : ℕ) (w : Wanted) (answer : Answer) (references : List ℕ) → BegunIfAny (opened_by_user terms ssn tag w answer references)
unfolding opened_by_user
by_user_so terms ssn tag w (Refused cause local) references = tt
by_user_so terms ssn tag w (Local other) references = tt
by_user_so terms ssn tag w (Forward point rewrite hop) [] = tt
by_user_so terms ssn tag w (Forward point rewrite hop) (mine ∷ references) = out_so terms ssn tag w point rewrite mine

opened_so : (terms : Terms) (wish : Wish) (answer : Option Answer) (references : List ℕ) → BegunIfAny (opened terms wish answer references)
unfolding opened
opened_so terms (by_cr w) (Some answer) references = by_cr_so terms w answer references
opened_so terms (by_cr w) None references = tt
opened_so terms (by_user ssn tag w) (Some answer) references = by_user_so terms ssn tag w answer references
opened_so terms (by_user ssn tag w) None references = tt
opened_so terms no_wish answer references = tt

pub begins : (terms : Terms) (wish : Wish) (answer : Option Answer) (references : List ℕ) (c : Connection) → (opened terms wish answer references).connection ≡ Some c
    → Begun c (opened terms wish answer references).outs
begins terms wish answer references c e =
    subst (λ (o : Option Connection). IfSome o (λ d. Begun d (opened terms wish answer references).outs)) e (opened_so terms wish answer references)

-- The entry's outputs are those of what it opened.

pub opens_outs : (lane : Lane) (openings : List Opening) (event : Event) (answer : Option Answer) (wish : Wish) (c : Connection) → (opening_of lane openings wish answer).connection ≡ Some c
    → outputs_by lane openings event wish answer ≡ (opening_of lane openings wish answer).outs
unfolding opened
opens_outs lane openings event answer (by_cr w) c e = refl
opens_outs lane openings event answer (by_user ssn tag w) c e = refl
opens_outs lane openings event answer no_wish c e = absurd (none e)
  where
    none : None ≡ Some c → ⊥
    none e = cc

pub entry_begins : (lane : Lane) (openings : List Opening) (entry : Entry) (c : Connection) → IsLegalEntry lane openings entry
    → (opening_of lane openings (wish_of lane.terms entry.event) (answer_of entry)).connection ≡ Some c → Begun c entry.outs
unfolding legal_outputs
entry_begins lane openings entry c legal e =
    let wish = wish_of lane.terms entry.event in
    let references = lowest_free lane openings (slots_needed wish (answer_of entry)) in
    subst (Begun c) (sym (legal.outputs ∙ opens_outs lane openings entry.event (answer_of entry) wish c e)) (begins lane.terms wish (answer_of entry) references c e)

-- The class is 2 or 3: routing is asked for no other one.

IsOfAClassIfAny : Opened → Type 0
IsOfAClassIfAny o = IfSome o.connection (λ c. IsOfAClass (class_at c.this))

of_a_class : (class : ℕ) → (class == 2 || class == 3) ≡ true → IsOfAClass class
of_a_class class e = by_test (class == 2) refl e
  where
    by_test : (b : Bool) → (class == 2) ≡ b → (b || class == 3) ≡ true → IsOfAClass class
    by_test true is e = inl (eqb-true class 2 is)
    by_test false is e = inr (eqb-true class 3 e)

cr_class : (terms : Terms) (w : Wanted) (answer : Answer) (references : List ℕ) → IsOfAClass w.class → IsOfAClassIfAny (opened_by_cr terms w answer references)
unfolding opened_by_cr IsOfAClassIfAny
cr_class terms w (Refused cause local) references is = tt
cr_class terms w (Local ssn) [] is = tt
cr_class terms w (Local ssn) (mine ∷ references) is = is
cr_class terms w (Forward point rewrite hop) [] is = either IsOfAClassIfAny (fits w rewrite hop) _ _ (λ _. tt) (λ _. tt)
cr_class terms w (Forward point rewrite hop) (mine ∷ []) is = either IsOfAClassIfAny (fits w rewrite hop) _ _ (λ _. tt) (λ _. tt)
cr_class terms w (Forward point rewrite hop) (mine ∷ next ∷ references) is = either IsOfAClassIfAny (fits w rewrite hop) _ _ (λ _. is) (λ _. tt)

user_class : (terms : Terms) (ssn tag : ℕ) (w : Wanted) (answer : Answer) (references : List ℕ) → IsOfAClass w.class → IsOfAClassIfAny (opened_by_user terms ssn tag w answer references)
unfolding opened_by_user IsOfAClassIfAny
user_class terms ssn tag w (Refused cause local) references is = tt
user_class terms ssn tag w (Local other) references is = tt
user_class terms ssn tag w (Forward point rewrite hop) [] is = tt
user_class terms ssn tag w (Forward point rewrite hop) (mine ∷ references) is = is

-- a user's wish is of such a class
UserWish : Wish → Type 0
UserWish (by_user ssn tag w) = IsOfAClass w.class
UserWish _ = Unit {0}

user_wish : (terms : Terms) (event : Event) → UserWish (wish_of terms event)
unfolding UserWish wish_of
user_wish terms (Arrived point sls bytes) = of_reading (reading_of bytes)
  where
    of_message : (m : Message) → UserWish (wish_of_message terms point sls m)
    of_message (Cr slr class called credit calling body hop importance) = tt
    of_message _ = tt

    of_reading : (r : Result Message ReadFault) → UserWish (wish_of_reading terms point sls r)
    of_reading (Ok m) = of_message m
    of_reading (Err fault) = tt
user_wish terms (Requested ssn r) = of_request r
  where
    of_request : (r : Request) → UserWish (wish_of_request terms ssn r)
    of_request (request.Conn tag class credit called body) =
        either UserWish (may_be_wanted class credit called body) _ _ (λ may. of_a_class class (first_true _ _ (first_true _ _ (first_true _ _ (first_true _ _ may))))) (λ _. tt)
    of_request _ = tt
user_wish terms Tick = tt

wish_class : (terms : Terms) (wish : Wish) (answer : Option Answer) (references : List ℕ) → UserWish wish → is_some answer ≡ is_some (question_of wish) → IsOfAClassIfAny (opened terms wish answer references)
unfolding opened question_of UserWish IsOfAClassIfAny
wish_class terms (by_cr w) (Some answer) references user routed = by_test (w.class == 2 || w.class == 3) refl routed
  where
    by_test : (b : Bool) → (w.class == 2 || w.class == 3) ≡ b → true ≡ is_some (if b then asked_for w.hop Network (address_of w.called) else None)
        → IsOfAClassIfAny (opened_by_cr terms w answer references)
    by_test true is routed = cr_class terms w answer references (of_a_class w.class is)
    by_test false is routed = absurd (false≢true (sym routed))
wish_class terms (by_cr w) None references user routed = tt
wish_class terms (by_user ssn tag w) (Some answer) references user routed = user_class terms ssn tag w answer references user
wish_class terms (by_user ssn tag w) None references user routed = tt
wish_class terms no_wish answer references user routed = tt

answered : (asked : Option Asked) → is_some (answer_in asked) ≡ is_some asked
answered None = refl
answered (Some a) = refl

pub entry_class : (lane : Lane) (openings : List Opening) (entry : Entry) (c : Connection) → IsLegalEntry lane openings entry
    → (opening_of lane openings (wish_of lane.terms entry.event) (answer_of entry)).connection ≡ Some c → IsOfAClass (class_at c.this)
unfolding IsOfAClassIfAny
entry_class lane openings entry c legal e =
    let wish = wish_of lane.terms entry.event in
    let references = lowest_free lane openings (slots_needed wish (answer_of entry)) in
    subst (λ (o : Option Connection). IfSome o (λ d. IsOfAClass (class_at d.this))) e
    (wish_class lane.terms wish (answer_of entry) references (user_wish lane.terms entry.event) (answered entry.asked ∙ legal.routed))
