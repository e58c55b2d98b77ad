-- How a connection is asked for from node to node: the section that sends CR, and the one that CR opens.
use Rattle.std.proofs.Common.{ap, ◌≡◌, ◌≢◌, ℕ, ◌<◌, ◌==◌, Bool, true, false, List, [], ◌∷◌, ◌++◌, if◌then◌else◌, Option, Some, None, IfSome, Result, Ok, Err, IfOk, refl, ◌∙◌, subst}
use Rattle.std.proofs.lemmas.Bool.{eq-eqb, ne_eqb}
use Rattle.relay_base.specs.declared.limits.TheConstants.{REFERENCES}
use Rattle.relay_base.specs.declared.words.Event.{Event}
use Rattle.relay_base.specs.declared.words.Event.TheVariants.{Message as Arrived}
use Rattle.relay_base.specs.declared.words.Output.{Output}
use Rattle.relay_base.specs.declared.words.Output.TheVariants.{Sent, Told}
use Rattle.relay_base.specs.declared.words.ReadFault.{ReadFault}
use Rattle.relay_base.specs.declared.words.Tell.{Tell}
use Rattle.plant_core.specs.declared.answer.Answer.{Answer}
use Rattle.plant_core.specs.declared.answer.Answer.TheVariants.{Local, Forward, Refused}
use Rattle.plant_core.specs.declared.answer.Rewrite.{Rewrite}
use Rattle.plant_core.specs.declared.terms.Terms.{Terms}
use Rattle.q713_codec.specs.Names.{Message}
use Rattle.q713_codec.specs.declared.message.Message.TheVariants.{Cr}
use Rattle.q713_codec.specs.Reading.{reading_of}
use Rattle.q713_codec.specs.Writing.{spelling_of}
use Rattle.section_model.specs.declared.cell.SectionState.TheVariants.{Asked, Asking}
use Rattle.section_model.specs.Ends.{End, wire, owner, Section, Connection}
use Rattle.section_model.specs.Opening.{Wanted, Wish, by_cr, by_user, no_wish, wish_of_message, wish_of_reading, wish_of, onward, fits, Opened, opened_through, opened_by_cr, opened_by_user, opened}
use Rattle.connection_law.proofs.Flow.Flowing.{either}
use Rattle.hop_law.specs.Waiting.{messages_to}
use Rattle.chain_step.specs.Run.{messages_in}
use Rattle.passage_law.proofs.Reading.{IsCrWith, reads_cr}

-- CR from a node, with this source
pub record IsCr (own mine : ℕ) (event : Event) : Type 0 where
  pub sls : ℕ
  pub wanted : Wanted
  pub rewrite : Rewrite
  pub hop : Option ℕ
  pub is : event ≡ Arrived own sls (spelling_of (onward wanted rewrite hop mine))

abbrev pub GoesOne : ℕ → ℕ → List Output → Type 0
GoesOne own to outs = (event : Event) × (messages_in own to outs ≡ event ∷ [])

-- If one message goes to a point, it is CR from this end, which asks; none goes to another point than the end's, and one to that.
abbrev pub Asks : End → List Output → Type 0
Asks (wire x) outs =
    (x.head.state ≡ Asking) × ((own to : ℕ) (event : Event) → messages_in own to outs ≡ event ∷ [] → IsCr own x.head.mine event)
    × ((to : ℕ) → x.head.point ≢ to → messages_to to outs ≡ []) × ((own : ℕ) → GoesOne own x.head.point outs)
Asks (owner u) outs = ((own to : ℕ) → messages_in own to outs ≡ []) × ((to : ℕ) → messages_to to outs ≡ [])

-- what CR asks
abbrev pub IsAskedAs : Wish → End → Type 0
IsAskedAs (by_cr w) (wire x) = (x.head.state ≡ Asked) × (x.head.point ≡ w.point) × (x.head.other ≡ w.slr)
IsAskedAs (by_cr w) (owner u) = ⊥
IsAskedAs (by_user ssn tag w) e = Unit {0}
IsAskedAs no_wish e = ⊥

abbrev IsOpenedAs : Wish → Opened → Type 0
IsOpenedAs wish o = IfSome o.connection (λ c. Asks c.that o.outs × IsAskedAs wish c.this)

sent_cr : (own point sls to mine : ℕ) (w : Wanted) (rewrite : Rewrite) (hop : Option ℕ) (event : Event) → messages_in own to (Sent point sls (spelling_of (onward w rewrite hop mine)) ∷ []) ≡ event ∷ []
    → IsCr own mine event
sent_cr own point sls to mine w rewrite hop event e = by_test (point == to) e
  where
    by_test : (b : Bool) → (if b then Arrived own sls (spelling_of (onward w rewrite hop mine)) ∷ [] else []) ++ [] ≡ event ∷ [] → IsCr own mine event
    by_test true e = let same : event ≡ Arrived own sls (spelling_of (onward w rewrite hop mine)) = cc in record { sls = sls; wanted = w; rewrite = rewrite; hop = hop; is = same }
    by_test false e = absurd (nothing e)
      where
        nothing : [] ≡ event ∷ [] → ⊥
        nothing e = cc

sent_else : (point sls to : ℕ) (bytes : List ℕ) → point ≢ to → messages_to to (Sent point sls bytes ∷ []) ≡ []
unfolding messages_to
sent_else point sls to bytes differ = ap (λ (b : Bool). (if b then record { sls = sls; bytes = bytes } ∷ [] else []) ++ []) (ne_eqb point to differ)

sent_there : (own point sls : ℕ) (bytes : List ℕ) → GoesOne own point (Sent point sls bytes ∷ [])
sent_there own point sls bytes = (Arrived own sls bytes, ap (λ (b : Bool). (if b then Arrived own sls bytes ∷ [] else []) ++ []) (eq-eqb point point refl))

told_else : (ssn : ℕ) (told : Tell) (to : ℕ) (outs : List Output) → messages_to to outs ≡ [] → messages_to to (Told ssn told ∷ outs) ≡ []
unfolding messages_to
told_else ssn told to outs none = none

none_sent : (to : ℕ) → messages_to to [] ≡ []
unfolding messages_to
none_sent to = refl

through_as : (terms : Terms) (w : Wanted) (point : ℕ) (rewrite : Rewrite) (hop : Option ℕ) (references : List ℕ) → IsOpenedAs (by_cr w) (opened_through terms w point rewrite hop references)
through_as terms w point rewrite hop [] = tt
through_as terms w point rewrite hop (mine ∷ []) = tt
through_as terms w point rewrite hop (mine ∷ next ∷ references) =
    ((refl, (λ own to event e. sent_cr own point w.sls to next w rewrite hop event e), (λ to differ. sent_else point w.sls to _ differ), λ own. sent_there own point w.sls _), (refl, refl, refl))

by_cr_as : (terms : Terms) (w : Wanted) (answer : Answer) (references : List ℕ) → IsOpenedAs (by_cr w) (opened_by_cr terms w answer references)
unfolding opened_by_cr
by_cr_as terms w (Refused cause local) references = tt
by_cr_as terms w (Local ssn) [] = tt
by_cr_as terms w (Local ssn) (mine ∷ references) = (((λ own to. refl), λ to. told_else ssn _ to [] (none_sent to)), (refl, refl, refl))
by_cr_as terms w (Forward point rewrite hop) references =
    either (IsOpenedAs (by_cr w)) (fits w rewrite hop) _ _ (λ _. through_as terms w point rewrite hop references) (λ _. tt)

by_user_as : (terms : Terms) (ssn tag : ℕ) (w : Wanted) (answer : Answer) (references : List ℕ) → IsOpenedAs (by_user ssn tag w) (opened_by_user terms ssn tag w answer references)
unfolding opened_by_user
by_user_as terms ssn tag w (Refused cause local) references = tt
by_user_as terms ssn tag w (Local other) references = tt
by_user_as terms ssn tag w (Forward point rewrite hop) [] = tt
by_user_as terms ssn tag w (Forward point rewrite hop) (mine ∷ references) =
    ((refl, (λ own to event e. sent_cr own point w.sls to mine w rewrite w.hop event e), (λ to differ. told_else ssn _ to _ (sent_else point w.sls to _ differ)), λ own. sent_there own point w.sls _), tt)

opened_as : (terms : Terms) (wish : Wish) (answer : Option Answer) (references : List ℕ) → IsOpenedAs wish (opened terms wish answer references)
unfolding opened
opened_as terms (by_cr w) (Some answer) references = by_cr_as terms w answer references
opened_as terms (by_cr w) None references = tt
opened_as terms (by_user ssn tag w) (Some answer) references = by_user_as terms ssn tag w answer references
opened_as terms (by_user ssn tag w) None references = tt
opened_as terms no_wish answer references = tt

pub opening_as : (terms : Terms) (wish : Wish) (answer : Option Answer) (references : List ℕ) (c : Connection) → (opened terms wish answer references).connection ≡ Some c
    → Asks c.that (opened terms wish answer references).outs × IsAskedAs wish c.this
opening_as terms wish answer references c e =
    subst (λ (o : Option Connection). IfSome o (λ d. Asks d.that (opened terms wish answer references).outs × IsAskedAs wish d.this)) e (opened_as terms wish answer references)

-- the section that CR with this source opens at a node
pub record IsAskedBy (from source : ℕ) (e : End) : Type 0 where
  pub section : Section
  pub is : e ≡ wire section
  pub state : section.head.state ≡ Asked
  pub point : section.head.point ≡ from
  pub other : section.head.other ≡ source

asked_by_message : (terms : Terms) (own sls mine : ℕ) (m : Message) (e : End) → IsCrWith mine m → IsAskedAs (wish_of_message terms own sls m) e → IsAskedBy own mine e
asked_by_message terms own sls mine (Cr slr class called credit calling body hop importance) (wire x) from asked =
    record { section = x; is = refl; state = asked.0; point = asked.1; other = asked.2 ∙ from }
asked_by_message terms own sls mine (Cr slr class called credit calling body hop importance) (owner u) from asked = absurd asked
asked_by_message terms own sls mine _ e from asked = absurd from

pub asked_by : (terms : Terms) (own mine : ℕ) (event : Event) (e : End) → mine < REFERENCES → IsCr own mine event → IsAskedAs (wish_of terms event) e → IsAskedBy own mine e
unfolding wish_of
asked_by terms own mine event e below cr asked =
    by_reading (reading_of (spelling_of (onward cr.wanted cr.rewrite cr.hop mine))) (reads_cr mine _ _ _ _ _ _ _ below)
    (subst (λ event. IsAskedAs (wish_of terms event) e) cr.is asked)
  where
    by_reading : (read : Result Message ReadFault) → IfOk read (IsCrWith mine) → IsAskedAs (wish_of_reading terms own cr.sls read) e → IsAskedBy own mine e
    by_reading (Ok m) from asked = asked_by_message terms own cr.sls mine m e from asked
    by_reading (Err fault) from asked = absurd asked
