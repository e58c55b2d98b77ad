-- A node names to another one what that one gave.
use Rattle.std.proofs.Common.{◌≡◌, ◌⊎◌, inl, inr, ℕ, ◌<◌, ◌≤◌, ◌+◌, ◌==◌, Bool, true, false, List, [], ◌∷◌, ◌++◌, flat_map, if◌then◌else◌, Option, Some, None, IfSome, Result, Ok, Err, IfOk, IsTrue, refl, sym, subst, ap, ◌∙◌, arith, eqb-true}
use Rattle.std.specs.Prelude.{slice_get}
use Rattle.std.specs.List.{AllByRecursion}
use Rattle.std.proofs.lemmas.Bool.{false≢true}
use Rattle.relay_base.specs.declared.limits.TheConstants.{MOST_LANES, REFERENCES, SLOTS}
use Rattle.relay_base.specs.declared.words.Event.{Event}
use Rattle.relay_base.specs.declared.words.Event.TheVariants.{Message as Arrived, Asked as Requested, Tick as Ticked}
use Rattle.relay_base.specs.declared.words.Output.{Output}
use Rattle.relay_base.specs.declared.words.Output.TheVariants.{Sent, Told, Lost}
use Rattle.relay_base.specs.declared.words.ReadFault.{ReadFault}
use Rattle.relay_base.specs.declared.words.Request.{Request}
use Rattle.relay_base.specs.declared.words.Request.TheVariants as request
use Rattle.plant_core.specs.declared.answer.Answer.{Answer}
use Rattle.plant_core.specs.declared.answer.Answer.TheVariants.{Local, Forward, Refused}
use Rattle.plant_core.specs.declared.answer.Rewrite.{Rewrite}
use Rattle.plant_core.specs.declared.entry.Entry.{Entry}
use Rattle.plant_core.specs.declared.terms.LaneHead.{LaneHead}
use Rattle.plant_core.specs.declared.terms.Terms.{Terms}
use Rattle.q713_codec.specs.Names.{Message}
use Rattle.q713_codec.specs.declared.message.Message.TheVariants.{Cr}
use Rattle.q713_codec.specs.Reading.{reading_of}
use Rattle.section_model.specs.declared.cell.Occasion.{Occasion}
use Rattle.section_model.specs.declared.cell.Occasion.TheVariants as on
use Rattle.section_model.specs.Parameters.{Arrival, arrival_of, arrival_by, arrival_in}
use Rattle.section_model.specs.References.{slot_of}
use Rattle.section_model.specs.Ends.{End, wire, owner, Connection}
use Rattle.plant_core.specs.declared.terms.Ticks.{Ticks}
use Rattle.section_model.specs.Opening.{Wanted, Wish, by_cr, by_user, no_wish, wish_of, wish_of_message, wish_of_reading, may_be_wanted, fits, opened_through, opened_by_cr, opened_by_user, opened, Opened, slots_needed}
use Rattle.section_model.specs.Journals.{lane_of}
use Rattle.section_model.specs.Lane.{Lane, Opening, connection_of, reference_of, times_taken, lowest_free, answer_of}
use Rattle.section_model.proofs.References.{references_are_read}
use Rattle.lane_law.proofs.Opened.{AreAmong, IsNext, opens_next}
use Rattle.connection_law.proofs.Flow.Flowing.{either}
use Rattle.chain_step.specs.declared.step.Step.{Step}
use Rattle.chain_step.specs.declared.step.Step.TheVariants.{Ask, Pass, Tick}
use Rattle.chain_step.specs.declared.terms.TheConstants.{USER}
use Rattle.chain_step.specs.Run.{NodeState, RunState, arrives, messages_in, neighbour, given_of, waiting, node_at, openings_of, entry_of, start, run_of, after_event, after_step}
use Rattle.chain_step.specs.Steps.{is_step}
use Rattle.chain_step.proofs.Running.{passer_exists}
use Rattle.passage_law.specs.Nodes.{AreSteps}
use Rattle.passage_law.specs.Naming.{gives_source, NamesArrival, AsksFrom, NamesMessage, Names, AllName, StandsOn, is_answered, MakesOf, EventMakes, AreReferences}
use Rattle.passage_law.specs.References.{firsts_of, Firsts, firsts_in, OfOne, IsTo, Gave, Asks, IsAskedBy, ArePaired, IsSection, HasSource, IsCrFrom, AnswersTo, allowed, NamesWhatWasGiven}
use Rattle.passage_law.proofs.Changing.{Change, stays, meets, gives, changed, at_node, passes, change_by, node_changed, kept_along}
use Rattle.hop_law.proofs.Lists.{all_joined}
use Rattle.passage_law.proofs.RowStanding.{first_is}
use Rattle.passage_law.proofs.Linking.{sent_by, all_at, IsRow, row_begins, row_kept}
use Rattle.passage_law.proofs.LaneNames.{AllStand, MayAsk, MayOpen, WishMakes, legal_names, next_stand}
use Rattle.passage_law.proofs.Growing.{all_within, both_within, of_last, Grows, gave_more, asks_more, paired_more, section_more, allowed_more, opened_by, new_firsts, openings_are, firsts_met, step_grows}

pub fit : (f : Firsts) (i : ℕ) (e : Event) → AreReferences (allowed f i e)
fit f i e = record {
  stands = λ p other mine s. (s.0, s.1, s.2);
  answers = λ o p reference s. s.0;
  asks = λ p mine s. s.0;
}

-- A reference that is given has 24 bits, and isn't 0.

given_fits : (lane : Lane) (openings : List Opening) (mine : ℕ) → lane.number < MOST_LANES → IsNext lane openings mine → (mine < REFERENCES) × (1 ≤ mine)
given_fits lane openings mine within next =
    let slot : slot_of mine < SLOTS + 1 = omega arith in
    let below = (references_are_read lane.number (times_taken openings (slot_of mine)) (slot_of mine) within slot).below in
    (omega (arith, below, next.turn), omega (arith, next.some))

-- The shape of what is opened: CR asks for the one end, from its point with its source, and the other end isn't known.

abbrev pub ThisShape : Wish → End → Type 0
ThisShape (by_cr w) (wire x) = (x.head.point ≡ w.point) × (x.head.other ≡ w.slr)
ThisShape (by_cr w) (owner u) = ⊥
ThisShape (by_user ssn tag w) (owner u) = Unit {0}
ThisShape (by_user ssn tag w) (wire x) = ⊥
ThisShape no_wish e = ⊥

abbrev pub ThatShape : End → Type 0
ThatShape (wire x) = x.head.other ≡ 0
ThatShape (owner u) = Unit {0}

abbrev pub HasShape : Wish → Connection → Type 0
HasShape wish c = ThisShape wish c.this × ThatShape c.that

abbrev pub OpensShape : Wish → Opened → Type 0
OpensShape wish o = IfSome o.connection (HasShape wish)

through_shape : (terms : Terms) (w : Wanted) (point : ℕ) (rewrite : Rewrite) (hop : Option ℕ) (refs : List ℕ) → OpensShape (by_cr w) (opened_through terms w point rewrite hop refs)
through_shape terms w point rewrite hop [] = tt
through_shape terms w point rewrite hop (mine ∷ []) = tt
through_shape terms w point rewrite hop (mine ∷ next ∷ refs) = ((refl, refl), refl)

by_cr_shape : (terms : Terms) (w : Wanted) (answer : Answer) (refs : List ℕ) → OpensShape (by_cr w) (opened_by_cr terms w answer refs)
unfolding opened_by_cr
by_cr_shape terms w (Refused cause local) refs = tt
by_cr_shape terms w (Local ssn) [] = tt
by_cr_shape terms w (Local ssn) (mine ∷ refs) = ((refl, refl), tt)
by_cr_shape terms w (Forward point rewrite hop) refs =
    either (OpensShape (by_cr w)) (fits w rewrite hop) _ _ (λ _. through_shape terms w point rewrite hop refs) (λ _. tt)

by_user_shape : (terms : Terms) (ssn tag : ℕ) (w : Wanted) (answer : Answer) (refs : List ℕ) → OpensShape (by_user ssn tag w) (opened_by_user terms ssn tag w answer refs)
unfolding opened_by_user
by_user_shape terms ssn tag w (Refused cause local) refs = tt
by_user_shape terms ssn tag w (Local other) refs = tt
by_user_shape terms ssn tag w (Forward point rewrite hop) [] = tt
by_user_shape terms ssn tag w (Forward point rewrite hop) (mine ∷ refs) = (tt, refl)

pub opened_shape : (terms : Terms) (wish : Wish) (answer : Option Answer) (refs : List ℕ) → OpensShape wish (opened terms wish answer refs)
unfolding opened
opened_shape terms (by_cr w) (Some answer) refs = by_cr_shape terms w answer refs
opened_shape terms (by_cr w) None refs = tt
opened_shape terms (by_user ssn tag w) (Some answer) refs = by_user_shape terms ssn tag w answer refs
opened_shape terms (by_user ssn tag w) None refs = tt
opened_shape terms no_wish answer refs = tt

-- What an event wants of node i came from the section that gave its source, and the event is that CR.
abbrev pub WishFrom : Firsts → ℕ → Event → Wish → Type 0
WishFrom f i e (by_cr w) = (w.slr < REFERENCES) × Asks f w.point i w.slr × IsCrFrom w.point w.slr e
WishFrom f i e (by_user ssn tag w) = Unit {0}
WishFrom f i e no_wish = Unit {0}

asking_gave : (xs : List Connection) (point mine : ℕ) → OfOne (λ (c : Connection). IsTo point mine c.that) xs → OfOne (λ (c : Connection). IsTo point mine c.this ⊎ IsTo point mine c.that) xs
asking_gave [] point mine asks = absurd asks
asking_gave (c ∷ xs) point mine (inl to) = inl (inr to)
asking_gave (c ∷ xs) point mine (inr asks) = inr (asking_gave xs point mine asks)

asked_to : (p other mine : ℕ) (e : End) → IsAskedBy p other mine e → IsTo p mine e
asked_to p other mine (wire x) asked = (asked.0, asked.2)
asked_to p other mine (owner u) asked = absurd asked

asked_gave : (xs : List Connection) (p other mine : ℕ) → OfOne (λ (c : Connection). IsAskedBy p other mine c.this) xs → OfOne (λ (c : Connection). IsTo p mine c.this ⊎ IsTo p mine c.that) xs
asked_gave [] p other mine asked = absurd asked
asked_gave (c ∷ xs) p other mine (inl asked) = inl (inl (asked_to p other mine c.this asked))
asked_gave (c ∷ xs) p other mine (inr asked) = inr (asked_gave xs p other mine asked)

pub wish_makes : (f : Firsts) (i : ℕ) (e : Event) (wish : Wish) → WishFrom f i e wish → WishMakes (allowed f i e) wish
wish_makes f i e (by_cr w) from = (from.0, (from.2, from.1), asking_gave (f w.point) i w.slr from.1)
wish_makes f i e (by_user ssn tag w) from = tt
wish_makes f i e no_wish from = tt

-- So the new connection may be opened.

module _ (f : Firsts) (i : ℕ) (before : List Connection) where
  abbrev IsLast : End → End → Type 0
  IsLast this that = f i ≡ before ++ record { this = this; that = that } ∷ []

  is_last : (P : Connection → Type 0) (this that : End) → IsLast this that → P (record { this = this; that = that }) → OfOne P (f i)
  is_last P this that last p = subst (OfOne P) (sym last) (of_last P before (record { this = this; that = that }) p)

  abbrev Fits : End → Type 0
  Fits e = IfSome (reference_of e) (λ mine. (mine < REFERENCES) × (1 ≤ mine))

  this_stands : (e : Event) (wish : Wish) (this that : End) → IsLast this that → ThisShape wish this → Fits this → WishFrom f i e wish → StandsOn (IsSection f i) this
  this_stands e (by_cr w) (wire x) that last shape fits from =
      let point = x.head.point in
      let other = x.head.other in
      let mine = x.head.mine in
      let asks : Asks f point i other = subst (λ p. Asks f p i other) (sym shape.0) (subst (Asks f w.point i) (sym shape.1) from.1) in (
        subst (λ k. k < REFERENCES) (sym shape.1) from.0,
        fits.0,
        fits.1,
        is_last (λ c. IsTo point mine c.this ⊎ IsTo point mine c.that) (wire x) that last (inl (refl, refl)),
        inr (inl (is_last (λ c. IsAskedBy point other mine c.this) (wire x) that last (refl, refl, refl), asks)),
      )
  this_stands e (by_cr w) (owner u) that last shape fits from = tt
  this_stands e (by_user ssn tag w) (owner u) that last shape fits from = tt
  this_stands e (by_user ssn tag w) (wire x) that last shape fits from = absurd shape
  this_stands e no_wish this that last shape fits from = absurd shape

  none_fits : (other : ℕ) → other ≡ 0 → other < REFERENCES
  none_fits other none = omega (arith, none)

  that_stands : (e : Event) (this that : End) → IsLast this that → ThatShape that → Fits that → StandsOn (IsSection f i) that × MayAsk (allowed f i e) that
  that_stands e this (wire x) last shape fits =
      let point = x.head.point in
      let mine = x.head.mine in (
        (none_fits x.head.other shape, fits.0, fits.1, is_last (λ c. IsTo point mine c.this ⊎ IsTo point mine c.that) this (wire x) last (inr (refl, refl)), inl shape),
        (fits.0, fits.1, is_last (λ c. IsTo point mine c.that) this (wire x) last (refl, refl)),
      )
  that_stands e this (owner u) last shape fits = (tt, tt)

  may_open : (e : Event) (wish : Wish) (c : Connection) → f i ≡ before ++ c ∷ [] → HasShape wish c → Fits c.this × Fits c.that → WishFrom f i e wish → MayOpen (allowed f i e) c
  may_open e wish c last shape fits from =
      let that = that_stands e c.this c.that last shape.1 fits.1 in
      ((this_stands e wish c.this c.that last shape.0 fits.0 from, that.0), that.1)

end_fits : (lane : Lane) (openings : List Opening) (mine : Option ℕ) → lane.number < MOST_LANES → IfSome mine (IsNext lane openings) → IfSome mine (λ mine. (mine < REFERENCES) × (1 ≤ mine))
end_fits lane openings None within next = tt
end_fits lane openings (Some mine) within next = given_fits lane openings mine within next

pub opened_may : (f : Firsts) (i : ℕ) (e : Event) (node : NodeState) → f i ≡ firsts_of node ++ new_firsts (opened_by e node) → WishFrom f i e (wish_of node.head.terms e)
    → IfSome (opened_by e node) (MayOpen (allowed f i e))
opened_may f i e node last from =
    by_connection (opened_by e node) last
    (opened_shape lane.terms wish answer (lowest_free lane (openings_of node) (slots_needed wish answer)))
    (opens_next lane (openings_of node) wish answer (omega arith))
  where
    lane : Lane
    lane = lane_of node.head 0

    wish : Wish
    wish = wish_of node.head.terms e

    answer : Option Answer
    answer = answer_of (entry_of 0 e node)

    by_connection : (connection : Option Connection) → f i ≡ firsts_of node ++ new_firsts connection → IfSome connection (HasShape wish) → AreAmong (IsNext lane (openings_of node)) connection
        → IfSome connection (MayOpen (allowed f i e))
    by_connection None last shape next = tt
    by_connection (Some c) last shape next =
        may_open f i (firsts_of node) e wish c last shape
        (end_fits lane (openings_of node) (reference_of c.this) (omega arith) next.0, end_fits lane (openings_of node) (reference_of c.that) (omega arith) next.1) from

-- What a message makes of it that names what its sender may name.

source_given : (o : Occasion) → is_answered o ≡ true → gives_source o ≡ true
source_given on.Cc is = refl
source_given on.Rlsd is = refl
source_given on.Rsr is = refl
source_given on.It is = refl
source_given _ is = absurd (false≢true is)

not_outside : (f : Firsts) (i : ℕ) (e : Event) (o : Occasion) (p slr : ℕ) → is_answered o ≡ true → AnswersTo f i e o p slr → ⊥
not_outside f i e on.Err p slr is outside = false≢true is
not_outside f i e on.Rlc p slr is outside = false≢true is
not_outside f i e on.Cref p slr is outside = false≢true is
not_outside f i e _ p slr is outside = outside

pub turned_pair : (f : Firsts) (i mine p other : ℕ) → ArePaired f i mine p other → ArePaired f p other i mine
turned_pair f i mine p other (inl asked) = inr asked
turned_pair f i mine p other (inr asked) = inl asked

pub pair_gave : (f : Firsts) (i mine p other : ℕ) → ArePaired f i mine p other → Gave f i p mine
pair_gave f i mine p other (inl asked) = asked_gave (f i) p other mine asked.0
pair_gave f i mine p other (inr asked) = asking_gave (f i) p mine asked.1

module _ (f g : Firsts) (grows : Grows f g) (i j : ℕ) where
  stands_back : (slr dlr : ℕ) → 1 ≤ dlr → IsSection f j i dlr slr → IsSection g i j slr dlr
  stands_back slr dlr least s =
      let paired = paired_more f g grows i dlr j slr (by_known s.4) in (s.1, s.0, least, pair_gave g i dlr j slr paired, inr paired)
    where
      by_known : (dlr ≡ 0) ⊎ ArePaired f j slr i dlr → ArePaired f i dlr j slr
      by_known (inl none) = absurd (impossible none)
        where
          impossible : dlr ≡ 0 → ⊥
          impossible none = omega (arith, none, least)
      by_known (inr paired) = turned_pair f j slr i dlr paired

  arrival_makes : (cause e : Event) (a : Arrival) → NamesArrival (allowed f j cause) i a → MakesOf (allowed g i e) j a
  arrival_makes cause e a (inl on_one) = (
    λ cc from other stands.
        stands_back a.parameters.slr a.parameters.dlr stands.2 (subst (IsSection f j i a.parameters.dlr) (sym (on_one.2 (ap gives_source cc))) on_one.1),
    λ answered.
        let same = on_one.2 (source_given a.occasion answered) in
        let given : Gave g j i a.parameters.slr = subst (Gave g j i) (sym same) (gave_more f g grows j i on_one.0 on_one.1.3) in
        let below : a.parameters.slr < REFERENCES = subst (λ k. k < REFERENCES) (sym same) on_one.1.1 in
        ((below, tt, given), (below, tt, given)),
  )
  arrival_makes cause e a (inr answer) = (
    λ cc from other stands. absurd (subst (λ o. AnswersTo f j cause o i a.parameters.dlr) cc answer.1),
    λ answered. absurd (not_outside f j cause a.occasion i a.parameters.dlr answered answer.1),
  )

  found_makes : (cause e : Event) (found : Option Arrival) → IfSome found (NamesArrival (allowed f j cause) i) → IfSome found (MakesOf (allowed g i e) j)
  found_makes cause e None names = tt
  found_makes cause e (Some a) names = arrival_makes cause e a names

  message_wishes : (cause e : Event) (terms : Terms) (sls : ℕ) (m : Message) → AsksFrom (allowed f j cause) i m → ((slr : ℕ) → HasSource slr (Ok m) → IsCrFrom j slr e)
      → WishFrom g i e (wish_of_message terms j sls m)
  message_wishes cause e terms sls (Cr slr class called credit calling body hop importance) asks is = (asks.0, asks_more f g grows j i slr asks.2, is slr refl)
  message_wishes cause e terms sls _ asks is = tt

  pub event_makes : (cause : Event) (terms : Terms) (sls : ℕ) (bytes : List ℕ) → Names (allowed f j cause) (Sent i sls bytes)
      → EventMakes (allowed g i (Arrived j sls bytes)) (Arrived j sls bytes) × WishFrom g i (Arrived j sls bytes) (wish_of terms (Arrived j sls bytes))
  unfolding arrival_in wish_of
  event_makes cause terms sls bytes names = by_reading (reading_of bytes) refl names
    where
      by_reading : (read : Result Message ReadFault) → reading_of bytes ≡ read → IfOk read (NamesMessage (allowed f j cause) i)
          → IfSome (arrival_by read) (MakesOf (allowed g i (Arrived j sls bytes)) j) × WishFrom g i (Arrived j sls bytes) (wish_of_reading terms j sls read)
      by_reading (Ok m) is names = (
        found_makes cause (Arrived j sls bytes) (arrival_of m) names.0,
        message_wishes cause (Arrived j sls bytes) terms sls m names.1 (λ slr has. (refl, subst (HasSource slr) (sym is) has)),
      )
      by_reading (Err fault) is names = (tt, tt)

-- A message that waits is one of the outputs.

abbrev pub IsSentEvent : Firsts → ℕ → ℕ → Event → Type 0
IsSentEvent f own to (Arrived point sls bytes) = (point ≡ own) × ((cause : Event) × Names (allowed f own cause) (Sent to sls bytes))
IsSentEvent f own to _ = ⊥

arrives_sent : (f : Firsts) (own to : ℕ) (cause : Event) (out : Output) → Names (allowed f own cause) out → AllByRecursion (IsSentEvent f own to) (arrives own to out)
arrives_sent f own to cause (Sent point sls bytes) names = by_test (point == to) refl
  where
    by_test : (b : Bool) → (point == to) ≡ b → AllByRecursion (IsSentEvent f own to) (if b then Arrived own sls bytes ∷ [] else [])
    by_test true e = ((refl, (cause, subst (λ p. Names (allowed f own cause) (Sent p sls bytes)) (eqb-true point to e) names)), tt)
    by_test false e = tt
arrives_sent f own to cause (Told ssn tell) names = tt
arrives_sent f own to cause (Lost lost) names = tt

each_flat : {A B : Type 0} (Q : A → Type 0) (P : B → Type 0) (f : A → List B) → ((x : A) → Q x → AllByRecursion P (f x)) → (xs : List A) → AllByRecursion Q xs → AllByRecursion P (flat_map f xs)
each_flat Q P f each [] all = tt
each_flat Q P f each (x ∷ xs) all = all_joined P (f x) (flat_map f xs) (each x all.0) (each_flat Q P f each xs all.1)

abbrev pub AllNamed : Firsts → ℕ → List Entry → Type 0
AllNamed f i journal = AllByRecursion (λ (e : Entry). AllName (allowed f i e.event) e.outs) journal

pub all_sent : (f : Firsts) (own to : ℕ) (node : NodeState) → AllNamed f own node.journal → AllByRecursion (IsSentEvent f own to) (sent_by own to node)
all_sent f own to node all =
    each_flat (λ (e : Entry). AllName (allowed f own e.event) e.outs) (IsSentEvent f own to) (λ (e : Entry). messages_in own to e.outs)
    (λ x names. each_flat (Names (allowed f own x.event)) (IsSentEvent f own to) (arrives own to) (arrives_sent f own to x.event) x.outs names) node.journal all

waiting_sent : (f : Firsts) (own to k : ℕ) (e : Event) (node : NodeState) → AllNamed f own node.journal → slice_get (sent_by own to node) k ≡ Some e → IsSentEvent f own to e
waiting_sent f own to k e node all first = all_at (IsSentEvent f own to) (sent_by own to node) k e (all_sent f own to node all) first

-- A node.

abbrev pub NodeNames : Firsts → ℕ → NodeState → Type 0
NodeNames f i node = AllStand (IsSection f i) node.head.terms.ticks (openings_of node) × AllNamed f i node.journal

all_stand_more : (f g : Firsts) (i : ℕ) → Grows f g → (ticks : Ticks) (openings : List Opening) → AllStand (IsSection f i) ticks openings → AllStand (IsSection g i) ticks openings
all_stand_more f g i grows ticks [] all = tt
all_stand_more f g i grows ticks (o ∷ openings) all =
    (both_within (IsSection f i) (IsSection g i) (section_more f g grows i) (connection_of ticks o) all.0, all_stand_more f g i grows ticks openings all.1)

all_named_more : (f g : Firsts) (i : ℕ) → Grows f g → (journal : List Entry) → AllNamed f i journal → AllNamed g i journal
all_named_more f g i grows [] all = tt
all_named_more f g i grows (e ∷ journal) all =
    (all_within (allowed f i e.event) (allowed g i e.event) (allowed_more f g grows i e.event) e.outs all.0, all_named_more f g i grows journal all.1)

pub names_more : (f g : Firsts) (i : ℕ) → Grows f g → (node : NodeState) → NodeNames f i node → NodeNames g i node
names_more f g i grows node names = (all_stand_more f g i grows node.head.terms.ticks (openings_of node) names.0, all_named_more f g i grows node.journal names.1)

-- what an event makes of it at a node
abbrev pub Makes : Firsts → ℕ → NodeState → Event → Type 0
Makes f i node e = EventMakes (allowed f i e) e × WishFrom f i e (wish_of node.head.terms e)

abbrev pub MeetsSo : Firsts → ℕ → NodeState → Change → Type 0
MeetsSo f i node stays = Unit {0}
MeetsSo f i node (meets number e) = Makes f i node e
MeetsSo f i node (gives forward) = Unit {0}

node_meets : (f : Firsts) (i number : ℕ) (e : Event) (node : NodeState) → f i ≡ firsts_of (after_event number e node) → Makes f i node e → NodeNames f i node → NodeNames f i (after_event number e node)
node_meets f i number e node is makes names =
    let lane = lane_of node.head 0 in
    let answer = answer_of (entry_of number e node) in
    let may = opened_may f i e node (is ∙ firsts_met number e node) makes.1 in (
      subst (AllStand (IsSection f i) node.head.terms.ticks) (sym (openings_are number e node)) (next_stand (allowed f i e) (fit f i e) lane (openings_of node) e answer makes.0 may names.0),
      all_joined (λ (x : Entry). AllName (allowed f i x.event) x.outs) node.journal (entry_of number e node ∷ []) names.1
          (legal_names (allowed f i e) (fit f i e) lane (openings_of node) e answer makes.0 (wish_makes f i e (wish_of node.head.terms e) makes.1) may names.0, tt),
    )

node_names : (f : Firsts) (i : ℕ) (change : Change) (node : NodeState) → f i ≡ firsts_of (changed change node) → MeetsSo f i node change → NodeNames f i node → NodeNames f i (changed change node)
node_names f i stays node is so names = names
node_names f i (meets number e) node is so names = node_meets f i number e node is so names
node_names f i (gives true) node is so names = names
node_names f i (gives false) node is so names = names

-- All nodes.

pub record IsReferred (n : ℕ) (r : RunState) : Type 0 where
  pub row : IsRow n r
  pub names : (i : ℕ) → 1 ≤ i → i ≤ n → NodeNames (firsts_in r) i (node_at i r.nodes)

request_wishes : (f : Firsts) (i ssn : ℕ) (terms : Terms) (q : Request) → WishFrom f i (Requested ssn q) (wish_of terms (Requested ssn q))
unfolding wish_of
request_wishes f i ssn terms (request.Conn tag class credit called body) = either (WishFrom f i (Requested ssn (request.Conn tag class credit called body))) (may_be_wanted class credit called body) _ _ (λ _. tt) (λ _. tt)
request_wishes f i ssn terms _ = tt

tick_wishes : (f : Firsts) (i : ℕ) (terms : Terms) → WishFrom f i Ticked (wish_of terms Ticked)
unfolding wish_of
tick_wishes f i terms = tt

at_node_so : (f : Firsts) (i j number : ℕ) (e : Event) (node : NodeState) → (i ≡ j → Makes f i node e) → MeetsSo f i node (at_node j (meets number e) i)
at_node_so f i j number e node makes = by_test (i == j) refl
  where
    by_test : (b : Bool) → (i == j) ≡ b → MeetsSo f i node (if b then meets number e else stays)
    by_test true same = makes (eqb-true i j same)
    by_test false same = tt

pub step_so : (n i : ℕ) (r : RunState) (step : Step) → 2 ≤ n → IsTrue (is_step n step) → IsReferred n r → MeetsSo (firsts_in (after_step r step)) i (node_at i r.nodes) (change_by r step i)
step_so n i r (Ask j request) two is referred =
    at_node_so (firsts_in (after_step r (Ask j request))) i j (r.taken + 1) (Requested USER request) (node_at i r.nodes)
    (λ _. (tt, request_wishes (firsts_in (after_step r (Ask j request))) i USER (node_at i r.nodes).head.terms request))
step_so n i r (Tick j) two is referred =
    at_node_so (firsts_in (after_step r (Tick j))) i j (r.taken + 1) Ticked (node_at i r.nodes) (λ _. (tt, tick_wishes (firsts_in (after_step r (Tick j))) i (node_at i r.nodes).head.terms))
step_so n i r (Pass j forward) two is referred = by_message (waiting forward (node_at j r.nodes)) refl
  where
    f : Firsts
    f = firsts_in r

    g : Firsts
    g = firsts_in (after_step r (Pass j forward))

    one : NodeState
    one = node_at i r.nodes

    inside : (1 ≤ j) × (j ≤ n)
    inside = passer_exists n j forward (Pass j forward) refl is

    own : (node_at j r.nodes).head.terms.own ≡ j
    own = ap (λ (h : LaneHead). h.terms.own) (referred.row.nodes.each j inside.0 inside.1).head

    first : (e : Event) → waiting forward (node_at j r.nodes) ≡ Some e → slice_get (sent_by j (neighbour forward j) (node_at j r.nodes)) (given_of forward (node_at j r.nodes)) ≡ Some e
    first e some = ap (λ k. slice_get (sent_by k (neighbour forward k) (node_at j r.nodes)) (given_of forward (node_at j r.nodes))) (sym own) ∙ some

    by_event : (e : Event) → IsSentEvent f j (neighbour forward j) e → i ≡ neighbour forward j → Makes g i one e
    by_event (Arrived point sls bytes) sent same =
        subst (λ p. Makes g i one (Arrived p sls bytes)) (sym sent.0)
        (event_makes f g (step_grows r (Pass j forward)) i j sent.1.0 one.head.terms sls bytes (subst (λ k. Names (allowed f j sent.1.0) (Sent k sls bytes)) (sym same) sent.1.1))
    by_event (Requested ssn q) sent same = absurd sent
    by_event Ticked sent same = absurd sent

    by_message : (message : Option Event) → waiting forward (node_at j r.nodes) ≡ message → MeetsSo g i one (passes (r.taken + 1) j forward message i)
    by_message None none = tt
    by_message (Some e) some = by_test (i == j)
      where
        by_test : (b : Bool) → MeetsSo g i one (if b then gives forward else at_node (neighbour forward j) (meets (r.taken + 1) e) i)
        by_test true = tt
        by_test false =
            at_node_so g i (neighbour forward j) (r.taken + 1) e one
            (by_event e (waiting_sent f j (neighbour forward j) (given_of forward (node_at j r.nodes)) e (node_at j r.nodes) (referred.names j inside.0 inside.1).1 (first e some)))

pub referred_kept : (n : ℕ) → 2 ≤ n → (r : RunState) (step : Step) → IsTrue (is_step n step) → IsReferred n r → IsReferred n (after_step r step)
referred_kept n two r step is referred = record {
  row = row_kept n two r step is referred.row;
  names = λ i least most.
      let g = firsts_in (after_step r step) in
      let after = node_changed n i r step two is least (subst (λ k. i ≤ k) (sym referred.row.nodes.long) most) in
      subst (NodeNames g i) (sym after)
      (node_names g i (change_by r step i) (node_at i r.nodes) (ap firsts_of after) (step_so n i r step two is referred)
      (names_more (firsts_in r) g i (step_grows r step) (node_at i r.nodes) (referred.names i least most)));
}

pub referred_begins : (n : ℕ) → IsReferred n (start n)
referred_begins n = record {
  row = row_begins n;
  names = λ i least most. subst (NodeNames (firsts_in (start n)) i) (sym (first_is n i least most)) (tt, tt);
}

pub is_referred : (n : ℕ) (steps : List Step) → 2 ≤ n → AreSteps n steps → IsReferred n (run_of n steps)
is_referred n steps two are = kept_along n (IsReferred n) (referred_kept n two) (start n) steps are (referred_begins n)

pub names_what_was_given : NamesWhatWasGiven
names_what_was_given n i steps are two least most = ((is_referred n steps two are).names i least most).1
