-- What the entries of a lane name.
use Rattle.std.proofs.Common.{◌≡◌, ℕ, Bool, true, List, [], ◌∷◌, map, find, flat_map, Option, Some, None, IfSome, Result, Ok, Err, IfOk, refl, sym, subst}
use Rattle.std.specs.List.{AllByRecursion}
use Rattle.relay_base.specs.declared.causes.TheConstants.{ERROR_UNASSIGNED_REFERENCE, REFUSAL_NOT_AVAILABLE, REFUSAL_UNQUALIFIED}
use Rattle.relay_base.specs.declared.words.Event.{Event}
use Rattle.relay_base.specs.declared.words.Event.TheVariants.{Message as Arrived, Asked as Requested, Tick}
use Rattle.relay_base.specs.declared.words.Output.TheVariants.{Sent}
use Rattle.relay_base.specs.declared.words.ReadFault.{ReadFault}
use Rattle.plant_core.specs.Causes.{refusal_code}
use Rattle.plant_core.specs.declared.answer.Answer.{Answer}
use Rattle.plant_core.specs.declared.answer.Answer.TheVariants.{Local, Forward, Refused}
use Rattle.plant_core.specs.declared.answer.Rewrite.{Rewrite}
use Rattle.plant_core.specs.declared.terms.Terms.{Terms}
use Rattle.plant_core.specs.declared.terms.Ticks.{Ticks}
use Rattle.q713_codec.specs.Names.{Message}
use Rattle.q713_codec.specs.declared.message.Message.TheVariants.{Cr, Cref, Rlc, Err as Error, Udt}
use Rattle.q713_codec.specs.Reading.{reading_of}
use Rattle.q713_codec.specs.Writing.{spelling_of}
use Rattle.scmg_messages.specs.Messages.{status_outputs}
use Rattle.section_model.specs.declared.cell.Occasion.{Occasion}
use Rattle.section_model.specs.declared.cell.Occasion.TheVariants as on
use Rattle.section_model.specs.Parameters.{Parameters, Arrival, arrival_of, arrival_in}
use Rattle.section_model.specs.Ends.{End, wire, owner, Connection}
use Rattle.section_model.specs.Step.{is_in_range}
use Rattle.section_model.specs.Opening.{Wanted, Wish, by_cr, by_user, no_wish, wish_of, onward, fits, cref_to, Opened, opened_through, opened_by_cr, opened_by_user, opened, slots_needed}
use Rattle.section_model.specs.Lane.{Lane, Opening, heard, follow, connection_of, part_of, stray_output, stray_arrival, stray_answer, lowest_free, opening_of, outputs_of_hearing, hearing, other_outputs, outputs_by, legal_outputs, opening_list, with_event, openings_after}
use Rattle.section_model.proofs.Following.{one_more}
use Rattle.connection_law.proofs.Flow.Flowing.{either}
use Rattle.passage_law.specs.Naming.{Allowed, NamesMessage, Names, AllName, BothStand, is_answered, MakesOf, EventMakes, AreReferences}
use Rattle.hop_law.proofs.Lists.{all_joined}
use Rattle.passage_law.proofs.Reading.{IsCrWith, IsUnit, reads_cr, reads_udt, reads_cref, reads_rlc_for, reads_err}
use Rattle.passage_law.proofs.Naming.{answer_names}
use Rattle.passage_law.proofs.Named.{part_names}

abbrev pub AllStand : (ℕ → ℕ → ℕ → Type 0) → Ticks → List Opening → Type 0
AllStand S ticks openings = AllByRecursion (λ o. BothStand S (connection_of ticks o)) openings

-- what is opened may stand, and the section that sends CR may ask; and a CR may be refused
abbrev pub MayAsk : Allowed → End → Type 0
MayAsk A (wire x) = A.asks x.head.point x.head.mine
MayAsk A (owner u) = Unit {0}

abbrev pub MayOpen : Allowed → Connection → Type 0
MayOpen A c = BothStand A.stands c × MayAsk A c.that

abbrev pub WishMakes : Allowed → Wish → Type 0
WishMakes A (by_cr w) = A.answers on.Cref w.point w.slr
WishMakes A (by_user ssn tag w) = Unit {0}
WishMakes A no_wish = Unit {0}

module _ (A : Allowed) (bits : AreReferences A) where
  -- What is sent outside of a section: CR, CREF, UDT, and the answers to what nobody hears.

  cr_names : (point sls mine : ℕ) (w : Wanted) (rewrite : Rewrite) (hop : Option ℕ) → A.asks point mine → Names A (Sent point sls (spelling_of (onward w rewrite hop mine)))
  unfolding arrival_of
  cr_names point sls mine w rewrite hop asks = by_reading (reading_of (spelling_of (onward w rewrite hop mine))) (reads_cr mine _ _ _ _ _ _ _ (bits.asks point mine asks))
    where
      by_message : (m : Message) → IsCrWith mine m → NamesMessage A point m
      by_message (Cr slr class called credit calling body hop importance) is = (tt, subst (A.asks point) (sym is) asks)
      by_message _ is = absurd is

      by_reading : (read : Result Message ReadFault) → IfOk read (IsCrWith mine) → IfOk read (NamesMessage A point)
      by_reading (Err fault) r = tt
      by_reading (Ok m) r = by_message m r

  udt_names : (point sls class : ℕ) (called calling body : List ℕ) → Names A (Sent point sls (spelling_of (Udt class called calling body)))
  unfolding arrival_of
  udt_names point sls class called calling body = by_reading (reading_of (spelling_of (Udt class called calling body))) (reads_udt class called calling body)
    where
      by_message : (m : Message) → IsUnit m → NamesMessage A point m
      by_message (Udt class called calling body) is = (tt, tt)
      by_message _ is = absurd is

      by_reading : (read : Result Message ReadFault) → IfOk read IsUnit → IfOk read (NamesMessage A point)
      by_reading (Err fault) r = tt
      by_reading (Ok m) r = by_message m r

  status_names : (own point sls : ℕ) (local : Option ℕ) → AllName A (status_outputs own point sls local)
  unfolding status_outputs
  status_names own point sls None = tt
  status_names own point sls (Some ssn) = (udt_names point sls 0 _ _ _, tt)

  cref_names : (w : Wanted) (cause : ℕ) → A.answers on.Cref w.point w.slr → Names A (cref_to w cause)
  cref_names w cause given =
      answer_names A bits w.point w.sls w.slr 0 on.Cref (Cref w.slr cause None None None) given (reads_cref w.slr cause None None None 0 (bits.answers on.Cref w.point w.slr given))

  error_names : (point sls slr : ℕ) → A.answers on.Err point slr → Names A (Sent point sls (spelling_of (Error slr ERROR_UNASSIGNED_REFERENCE)))
  error_names point sls slr given =
      answer_names A bits point sls slr 0 on.Err (Error slr ERROR_UNASSIGNED_REFERENCE) given (reads_err slr ERROR_UNASSIGNED_REFERENCE 0 (bits.answers on.Err point slr given))

  stray_names : (point sls : ℕ) (o : Occasion) (m : Parameters) → (is_answered o ≡ true → A.answers on.Err point m.slr × A.answers on.Rlc point m.slr) → Names A (stray_output point sls o m)
  stray_names point sls on.Cc m given = error_names point sls m.slr (given refl).0
  stray_names point sls on.Rsr m given = error_names point sls m.slr (given refl).0
  stray_names point sls on.It m given = error_names point sls m.slr (given refl).0
  stray_names point sls on.Rlsd m given =
      answer_names A bits point sls m.slr _ on.Rlc (Rlc m.slr m.dlr) (given refl).1 (reads_rlc_for m.slr m.dlr (bits.answers on.Rlc point m.slr (given refl).1))
  stray_names point sls _ m given = tt

  strays_name : (point sls : ℕ) (found : Option Arrival) → IfSome found (MakesOf A point) → AllName A (stray_arrival point sls found)
  strays_name point sls None makes = tt
  strays_name point sls (Some a) makes = (stray_names point sls a.occasion a.parameters makes.1, tt)

  unheard_names : (event : Event) → EventMakes A event → AllName A (stray_answer event)
  unfolding stray_answer
  unheard_names (Arrived point sls bytes) makes = strays_name point sls (arrival_in bytes) makes
  unheard_names (Requested ssn r) makes = either (AllName A) (is_in_range r) _ _ (λ _. (tt, tt)) (λ _. tt)
  unheard_names Tick makes = tt

  -- What hears an event, or what nobody hears.

  pub found_stands : (ticks : Ticks) (test : Opening → Bool) (openings : List Opening) → AllStand A.stands ticks openings → IfSome (find test openings) (λ o. BothStand A.stands (connection_of ticks o))
  found_stands ticks test [] all = tt
  found_stands ticks test (o ∷ openings) all =
      either (λ (found : Option Opening). IfSome found (λ o. BothStand A.stands (connection_of ticks o))) (test o) _ _ (λ _. all.0) (λ _. found_stands ticks test openings all.1)

  pub hearing_names : (ticks : Ticks) (event : Event) (found : Option Opening) → EventMakes A event → IfSome found (λ o. BothStand A.stands (connection_of ticks o)) → AllName A (outputs_of_hearing ticks event found)
  hearing_names ticks event None makes stands = unheard_names event makes
  hearing_names ticks event (Some o) makes stands = (part_names A bits ticks event (connection_of ticks o) makes stands).1

  pub all_parts : (ticks : Ticks) (event : Event) (openings : List Opening) → EventMakes A event → AllStand A.stands ticks openings → AllName A (flat_map (part_of ticks event) openings)
  all_parts ticks event [] makes all = tt
  all_parts ticks event (o ∷ openings) makes all =
      all_joined (Names A) (part_of ticks event o) (flat_map (part_of ticks event) openings) (part_names A bits ticks event (connection_of ticks o) makes all.0).1 (all_parts ticks event openings makes all.1)

  other_names : (lane : Lane) (openings : List Opening) (event : Event) → EventMakes A event → AllStand A.stands lane.terms.ticks openings → AllName A (other_outputs lane openings event)
  other_names lane openings (Arrived point sls bytes) makes all =
      hearing_names lane.terms.ticks (Arrived point sls bytes) (hearing lane.terms.ticks openings (Arrived point sls bytes)) makes (found_stands lane.terms.ticks _ openings all)
  other_names lane openings (Requested ssn r) makes all =
      hearing_names lane.terms.ticks (Requested ssn r) (hearing lane.terms.ticks openings (Requested ssn r)) makes (found_stands lane.terms.ticks _ openings all)
  other_names lane openings Tick makes all = all_parts lane.terms.ticks Tick openings makes all

  -- The opening.

  abbrev pub OpensSo : Opened → Type 0
  OpensSo o = IfSome o.connection (MayOpen A) → AllName A o.outs

  through_names : (terms : Terms) (w : Wanted) (point : ℕ) (rewrite : Rewrite) (hop : Option ℕ) (refs : List ℕ) → A.answers on.Cref w.point w.slr → OpensSo (opened_through terms w point rewrite hop refs)
  through_names terms w point rewrite hop [] given = λ may. (cref_names w REFUSAL_NOT_AVAILABLE given, tt)
  through_names terms w point rewrite hop (mine ∷ []) given = λ may. (cref_names w REFUSAL_NOT_AVAILABLE given, tt)
  through_names terms w point rewrite hop (mine ∷ next ∷ refs) given = λ may. (cr_names point w.sls next w rewrite hop may.1, tt)

  by_cr_names : (terms : Terms) (w : Wanted) (answer : Answer) (refs : List ℕ) → A.answers on.Cref w.point w.slr → OpensSo (opened_by_cr terms w answer refs)
  unfolding opened_by_cr
  by_cr_names terms w (Refused cause local) refs given = λ may. (cref_names w (refusal_code cause) given, status_names terms.own w.point w.sls local)
  by_cr_names terms w (Local ssn) [] given = λ may. (cref_names w REFUSAL_NOT_AVAILABLE given, tt)
  by_cr_names terms w (Local ssn) (mine ∷ refs) given = λ may. (tt, tt)
  by_cr_names terms w (Forward point rewrite hop) refs given =
      either OpensSo (fits w rewrite hop) _ _ (λ _. through_names terms w point rewrite hop refs given) (λ _. λ may. (cref_names w REFUSAL_UNQUALIFIED given, tt))

  by_user_names : (terms : Terms) (ssn tag : ℕ) (w : Wanted) (answer : Answer) (refs : List ℕ) → OpensSo (opened_by_user terms ssn tag w answer refs)
  unfolding opened_by_user
  by_user_names terms ssn tag w (Refused cause local) refs = λ may. (tt, tt)
  by_user_names terms ssn tag w (Local other) refs = λ may. (tt, tt)
  by_user_names terms ssn tag w (Forward point rewrite hop) [] = λ may. (tt, tt)
  by_user_names terms ssn tag w (Forward point rewrite hop) (mine ∷ refs) = λ may. (tt, (cr_names point w.sls mine w rewrite w.hop may.1, tt))

  pub opened_names : (terms : Terms) (wish : Wish) (answer : Option Answer) (refs : List ℕ) → WishMakes A wish → OpensSo (opened terms wish answer refs)
  unfolding opened
  opened_names terms (by_cr w) (Some answer) refs given = by_cr_names terms w answer refs given
  opened_names terms (by_cr w) None refs given = λ may. (cref_names w REFUSAL_UNQUALIFIED given, tt)
  opened_names terms (by_user ssn tag w) (Some answer) refs given = by_user_names terms ssn tag w answer refs
  opened_names terms (by_user ssn tag w) None refs given = λ may. tt
  opened_names terms no_wish answer refs given = λ may. tt

  wished_names : (lane : Lane) (openings : List Opening) (event : Event) (wish : Wish) (answer : Option Answer) → EventMakes A event → WishMakes A wish
      → IfSome (opening_of lane openings wish answer).connection (MayOpen A) → AllStand A.stands lane.terms.ticks openings → AllName A (outputs_by lane openings event wish answer)
  wished_names lane openings event (by_cr w) answer makes given may all = opened_names lane.terms (by_cr w) answer (lowest_free lane openings (slots_needed (by_cr w) answer)) given may
  wished_names lane openings event (by_user ssn tag w) answer makes given may all =
      opened_names lane.terms (by_user ssn tag w) answer (lowest_free lane openings (slots_needed (by_user ssn tag w) answer)) given may
  wished_names lane openings event no_wish answer makes given may all = other_names lane openings event makes all

  -- The outputs of an entry.
  pub legal_names : (lane : Lane) (openings : List Opening) (event : Event) (answer : Option Answer) → EventMakes A event → WishMakes A (wish_of lane.terms event)
      → IfSome (opening_of lane openings (wish_of lane.terms event) answer).connection (MayOpen A) → AllStand A.stands lane.terms.ticks openings → AllName A (legal_outputs lane openings event answer)
  unfolding legal_outputs
  legal_names lane openings event answer makes given may all = wished_names lane openings event (wish_of lane.terms event) answer makes given may all

  -- And the connections after it.

  old_stand : (ticks : Ticks) (event : Event) (openings : List Opening) → EventMakes A event → AllStand A.stands ticks openings → AllStand A.stands ticks (map (with_event event) openings)
  old_stand ticks event [] makes all = tt
  old_stand ticks event (o ∷ openings) makes all =
      (subst (BothStand A.stands) (sym (one_more ticks o.first o.since event)) (part_names A bits ticks event (connection_of ticks o) makes all.0).0, old_stand ticks event openings makes all.1)

  new_stands : (ticks : Ticks) (connection : Option Connection) → IfSome connection (MayOpen A) → AllStand A.stands ticks (opening_list connection)
  unfolding heard follow
  new_stands ticks None may = tt
  new_stands ticks (Some c) may = (may.0, tt)

  pub next_stand : (lane : Lane) (openings : List Opening) (event : Event) (answer : Option Answer) → EventMakes A event
      → IfSome (opening_of lane openings (wish_of lane.terms event) answer).connection (MayOpen A) → AllStand A.stands lane.terms.ticks openings
      → AllStand A.stands lane.terms.ticks (openings_after lane openings event answer)
  unfolding openings_after
  next_stand lane openings event answer makes may all =
      all_joined (λ o. BothStand A.stands (connection_of lane.terms.ticks o)) (map (with_event event) openings) (opening_list (opening_of lane openings (wish_of lane.terms event) answer).connection)
      (old_stand lane.terms.ticks event openings makes all) (new_stands lane.terms.ticks (opening_of lane openings (wish_of lane.terms event) answer).connection may)
