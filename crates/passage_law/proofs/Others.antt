-- What a node sends by an event is what one of its connections sends, and what names others.
use Rattle.std.proofs.Common.{◌≡◌, Bool, true, false, List, [], ◌∷◌, ◌++◌, length, find, flat_map, Option, Some, IfSome, refl, sym, subst, ap, ◌∙◌, arith, append-nil}
use Rattle.std.specs.Prelude.{slice_get}
use Rattle.std.proofs.lemmas.Bool.{both_ways, false≢true}
use Rattle.std.proofs.lemmas.List.Concat.{flat_map-append}
use Rattle.relay_base.specs.declared.words.Event.{Event}
use Rattle.relay_base.specs.declared.words.Event.TheVariants.{Message as Arrived, Asked as Requested, Tick}
use Rattle.relay_base.specs.declared.words.Output.{Output}
use Rattle.plant_core.specs.declared.answer.Answer.{Answer}
use Rattle.plant_core.specs.declared.terms.Ticks.{Ticks}
use Rattle.section_model.specs.Step.{hears, connection_step}
use Rattle.section_model.specs.Opening.{Wish, by_cr, by_user, no_wish, wish_of, slots_needed}
use Rattle.section_model.specs.Journals.{IsConnJournal, lane_of}
use Rattle.section_model.specs.Lane.{Lane, Opening, connection_of, part_of, is_tick, hearing, other_outputs, outputs_by, legal_outputs, lowest_free, opening_of, answer_of}
use Rattle.connection_law.proofs.Flow.Flowing.{either}
use Rattle.lane_law.specs.SideBySide.{Moment}
use Rattle.lane_law.proofs.Parts.{parts_stand}
use Rattle.chain_step.specs.Run.{NodeState, openings_of, outputs_of, entry_of}
use Rattle.passage_law.specs.Naming.{Allowed, AllName, BothStand, EventMakes, AreReferences}
use Rattle.passage_law.proofs.RowStanding.{legal_more}
use Rattle.passage_law.proofs.LaneNames.{AllStand, MayOpen, WishMakes, opened_names, found_stands, hearing_names, all_parts}
use Rattle.passage_law.proofs.Growing.{opened_by}

-- the outputs of an event are the part of a connection, and others before it and after it
pub record HasPart (A : Allowed) (ticks : Ticks) (e : Event) (o : Opening) (outs : List Output) : Type 0 where
  pub one : List Output
  pub other : List Output
  pub are : outs ≡ one ++ (part_of ticks e o ++ other)
  pub before : AllName A one
  pub after : AllName A other

at_place : {X : Type 0} (xs ys : List X) (x : X) → slice_get (xs ++ x ∷ ys) (length xs) ≡ Some x
at_place [] ys x = refl
at_place (y ∷ xs) ys x = at_place xs ys x

not_heard : (ticks : Ticks) (e : Event) (o : Opening) → hears (connection_of ticks o) e ≡ false → part_of ticks e o ≡ []
not_heard ticks e o is = ap (λ (b : Bool). elim b [ true ↦ (connection_step ticks (connection_of ticks o) e).1 | false ↦ [] ]) is

-- what it hears has its part alone
heard_part : (e : Event) (node : NodeState) (xs ys : List Opening) (o : Opening) → IsConnJournal node.head 0 node.journal → openings_of node ≡ xs ++ o ∷ ys → is_tick e ≡ false
    → hears (connection_of node.head.terms.ticks o) e ≡ true → outputs_of e node ≡ part_of node.head.terms.ticks e o
heard_part e node xs ys o legal are untimed heard =
    let m : Moment = record { lane = lane_of node.head 0; before = node.journal; entry = entry_of 0 e node; since = [] } in
    (parts_stand m (omega arith) (legal_more 0 e node legal)).heard (length xs) o (ap (λ os. slice_get os (length xs)) are ∙ at_place xs ys o) untimed heard

module _ (A : Allowed) (bits : AreReferences A) where
  found_apart : (ticks : Ticks) (test : Opening → Bool) (xs ys : List Opening) (o : Opening) → test o ≡ false → AllStand A.stands ticks xs → AllStand A.stands ticks ys
      → IfSome (find test (xs ++ o ∷ ys)) (λ x. BothStand A.stands (connection_of ticks x))
  found_apart ticks test [] ys o none before after =
      either (λ (found : Option Opening). IfSome found (λ x. BothStand A.stands (connection_of ticks x))) (test o) _ _ (λ is. absurd (both_ways (test o) none is))
      (λ _. found_stands A bits ticks test ys after)
  found_apart ticks test (x ∷ xs) ys o none before after =
      either (λ (found : Option Opening). IfSome found (λ x. BothStand A.stands (connection_of ticks x))) (test x) _ _ (λ _. before.0)
      (λ _. found_apart ticks test xs ys o none before.1 after)

  apart_outputs : (lane : Lane) (openings xs ys : List Opening) (o : Opening) (e : Event) → openings ≡ xs ++ o ∷ ys → is_tick e ≡ false → EventMakes A e
      → hears (connection_of lane.terms.ticks o) e ≡ false → AllStand A.stands lane.terms.ticks xs → AllStand A.stands lane.terms.ticks ys → AllName A (other_outputs lane openings e)
  apart_outputs lane openings xs ys o (Arrived point sls bytes) are untimed makes unheard before after =
      hearing_names A bits lane.terms.ticks (Arrived point sls bytes) (hearing lane.terms.ticks openings (Arrived point sls bytes)) makes
      (subst (λ os. IfSome (hearing lane.terms.ticks os (Arrived point sls bytes)) (λ x. BothStand A.stands (connection_of lane.terms.ticks x))) (sym are)
      (found_apart lane.terms.ticks (λ x. hears (connection_of lane.terms.ticks x) (Arrived point sls bytes)) xs ys o unheard before after))
  apart_outputs lane openings xs ys o (Requested ssn r) are untimed makes unheard before after =
      hearing_names A bits lane.terms.ticks (Requested ssn r) (hearing lane.terms.ticks openings (Requested ssn r)) makes
      (subst (λ os. IfSome (hearing lane.terms.ticks os (Requested ssn r)) (λ x. BothStand A.stands (connection_of lane.terms.ticks x))) (sym are)
      (found_apart lane.terms.ticks (λ x. hears (connection_of lane.terms.ticks x) (Requested ssn r)) xs ys o unheard before after))
  apart_outputs lane openings xs ys o Tick are untimed makes unheard before after = absurd (false≢true (sym untimed))

  wished_apart : (lane : Lane) (openings xs ys : List Opening) (o : Opening) (e : Event) (wish : Wish) (answer : Option Answer) → openings ≡ xs ++ o ∷ ys → is_tick e ≡ false → EventMakes A e
      → WishMakes A wish → IfSome (opening_of lane openings wish answer).connection (MayOpen A)
      → hears (connection_of lane.terms.ticks o) e ≡ false → AllStand A.stands lane.terms.ticks xs → AllStand A.stands lane.terms.ticks ys → AllName A (outputs_by lane openings e wish answer)
  wished_apart lane openings xs ys o e (by_cr w) answer are untimed makes given may unheard before after =
      opened_names A bits lane.terms (by_cr w) answer (lowest_free lane openings (slots_needed (by_cr w) answer)) given may
  wished_apart lane openings xs ys o e (by_user ssn tag w) answer are untimed makes given may unheard before after =
      opened_names A bits lane.terms (by_user ssn tag w) answer (lowest_free lane openings (slots_needed (by_user ssn tag w) answer)) given may
  wished_apart lane openings xs ys o e no_wish answer are untimed makes given may unheard before after = apart_outputs lane openings xs ys o e are untimed makes unheard before after

  untimed_parts : (e : Event) (node : NodeState) (xs ys : List Opening) (o : Opening) → is_tick e ≡ false → IsConnJournal node.head 0 node.journal → openings_of node ≡ xs ++ o ∷ ys
      → EventMakes A e → WishMakes A (wish_of node.head.terms e) → IfSome (opened_by e node) (MayOpen A)
      → AllStand A.stands node.head.terms.ticks xs → AllStand A.stands node.head.terms.ticks ys → HasPart A node.head.terms.ticks e o (outputs_of e node)
  unfolding legal_outputs
  untimed_parts e node xs ys o untimed legal are makes given may before after = by_test (hears (connection_of node.head.terms.ticks o) e) refl
    where
      ticks : Ticks
      ticks = node.head.terms.ticks

      by_test : (b : Bool) → hears (connection_of node.head.terms.ticks o) e ≡ b → HasPart A node.head.terms.ticks e o (outputs_of e node)
      by_test true heard = record { one = []; other = []; are = heard_part e node xs ys o legal are untimed heard ∙ sym (append-nil (part_of ticks e o)); before = tt; after = tt }
      by_test false unheard = record {
        one = outputs_of e node;
        other = [];
        are = sym (ap (λ (part : List Output). outputs_of e node ++ (part ++ [])) (not_heard ticks e o unheard) ∙ append-nil (outputs_of e node));
        before = wished_apart (lane_of node.head 0) (openings_of node) xs ys o e (wish_of node.head.terms e) (answer_of (entry_of 0 e node)) are untimed makes given may unheard before after;
        after = tt;
      }

  timed_parts : (node : NodeState) (xs ys : List Opening) (o : Opening) → openings_of node ≡ xs ++ o ∷ ys
      → AllStand A.stands node.head.terms.ticks xs → AllStand A.stands node.head.terms.ticks ys → HasPart A node.head.terms.ticks Tick o (outputs_of Tick node)
  unfolding legal_outputs wish_of
  timed_parts node xs ys o are before after =
      let ticks = node.head.terms.ticks in
      record {
        one = flat_map (part_of ticks Tick) xs;
        other = flat_map (part_of ticks Tick) ys;
        are = ap (flat_map (part_of ticks Tick)) are ∙ flat_map-append (part_of ticks Tick) xs (o ∷ ys);
        before = all_parts A bits ticks Tick xs tt before;
        after = all_parts A bits ticks Tick ys tt after;
      }

  pub has_part : (e : Event) (node : NodeState) (xs ys : List Opening) (o : Opening) → IsConnJournal node.head 0 node.journal → openings_of node ≡ xs ++ o ∷ ys
      → EventMakes A e → WishMakes A (wish_of node.head.terms e) → IfSome (opened_by e node) (MayOpen A)
      → AllStand A.stands node.head.terms.ticks xs → AllStand A.stands node.head.terms.ticks ys → HasPart A node.head.terms.ticks e o (outputs_of e node)
  has_part (Arrived point sls bytes) node xs ys o legal are makes given may before after = untimed_parts (Arrived point sls bytes) node xs ys o refl legal are makes given may before after
  has_part (Requested ssn r) node xs ys o legal are makes given may before after = untimed_parts (Requested ssn r) node xs ys o refl legal are makes given may before after
  has_part Tick node xs ys o legal are makes given may before after = timed_parts node xs ys o are before after
