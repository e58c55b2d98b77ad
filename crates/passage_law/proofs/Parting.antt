-- What a node sends at a step of a run in which no reference was given twice: the part of one of its connections, and what is strange to that.
use Rattle.std.proofs.Common.{◌≡◌, ℕ, true, false, List, [], ◌∷◌, ◌++◌, map, Option, Some, None, IfSome, refl, sym, subst, ap, ap₂, ◌∙◌}
use Rattle.std.proofs.lemmas.List.{map-append, append_assoc}
use Rattle.std.proofs.lemmas.List.Concat.{flat_map-append}
use Rattle.relay_base.specs.declared.words.Event.{Event}
use Rattle.relay_base.specs.declared.words.Event.TheVariants.{Message as Arrived, Asked as Requested, Tick as Ticked}
use Rattle.plant_core.specs.declared.terms.Ticks.{Ticks}
use Rattle.section_model.specs.Ends.{End, wire, owner, Connection}
use Rattle.section_model.specs.Parameters.{Arrival, arrival_in}
use Rattle.section_model.specs.Opening.{wish_of}
use Rattle.section_model.specs.Journals.{IsConnJournal}
use Rattle.section_model.specs.Lane.{Opening, heard, connection_of, reference_of}
use Rattle.connection_law.proofs.Reference.Following.{following_stays}
use Rattle.chain_step.specs.Run.{NodeState, openings_of, outputs_of}
use Rattle.chain_step.specs.Fresh.{listed, is_among, has_twice}
use Rattle.passage_law.specs.Naming.{StandsOn, BothStand, MakesOf, EventMakes, AreReferences}
use Rattle.passage_law.specs.References.{firsts_of, Firsts, IsSection, allowed}
use Rattle.passage_law.proofs.LaneNames.{AllStand, MayAsk, MayOpen}
use Rattle.passage_law.proofs.Growing.{opened_by, new_firsts}
use Rattle.passage_law.proofs.Referring.{Makes, fit, wish_makes, opened_may}
use Rattle.passage_law.proofs.Freshness.{ends_of, given_by, AreFresh, among_left, among_right, among_ends, among_listed, in_one_part, later_part}
use Rattle.passage_law.proofs.Others.{HasPart, has_part}
use Rattle.passage_law.proofs.Strange.{IsNotOf, others}

fit_others : (f : Firsts) (i : ℕ) (e : Event) (c : Connection) → AreReferences (others f i e c)
fit_others f i e c = record {
  stands = λ p other mine s. (fit f i e).stands p other mine s.0;
  answers = (fit f i e).answers;
  asks = (fit f i e).asks;
}

-- The references of a connection and of others.

abbrev AreApart : Connection → List ℕ → Type 0
AreApart c references = (mine : ℕ) → is_among mine references ≡ true → is_among mine (ends_of c) ≡ true → ⊥

not_of : (c : Connection) (references : List ℕ) (mine : ℕ) → AreApart c references → is_among mine references ≡ true → IsNotOf c mine
not_of c references mine apart is = (
  λ this. apart mine is (among_ends mine (λ e. reference_of e ≡ Some mine) true c (λ e has. has) this),
  λ that. apart mine is (among_ends mine (λ e. reference_of e ≡ Some mine) false c (λ e has. has) that),
)

apart_before : (xs ys : List Connection) (c : Connection) → AreFresh (xs ++ c ∷ ys) → AreApart c (given_by xs)
apart_before xs ys c fresh = λ mine before here.
    in_one_part mine (given_by xs) (given_by (c ∷ ys)) (ap has_twice (sym (flat_map-append ends_of xs (c ∷ ys))) ∙ fresh) before (among_left mine (ends_of c) (given_by ys) here)

apart_after : (xs ys : List Connection) (c : Connection) → AreFresh (xs ++ c ∷ ys) → AreApart c (given_by ys)
apart_after xs ys c fresh = λ mine after here.
    in_one_part mine (ends_of c) (given_by ys)
    (later_part (given_by xs) (given_by (c ∷ ys)) (ap has_twice (sym (flat_map-append ends_of xs (c ∷ ys))) ∙ fresh)) here after

-- Other connections stand on other references.

abbrev Apart : (ℕ → ℕ → ℕ → Type 0) → Connection → ℕ → ℕ → ℕ → Type 0
Apart S c p other mine = S p other mine × IsNotOf c mine

end_apart : (S : ℕ → ℕ → ℕ → Type 0) (c : Connection) (references : List ℕ) (e : End) → AreApart c references → ((mine : ℕ) → reference_of e ≡ Some mine → is_among mine references ≡ true) → StandsOn S e → StandsOn (Apart S c) e
end_apart S c references (wire x) apart among stands = (stands, not_of c references x.head.mine apart (among x.head.mine refl))
end_apart S c references (owner u) apart among stands = tt

both_apart : (S : ℕ → ℕ → ℕ → Type 0) (c : Connection) (references : List ℕ) (d : Connection) → AreApart c references
    → ((mine : ℕ) → is_among mine (ends_of d) ≡ true → is_among mine references ≡ true) → BothStand S d → BothStand (Apart S c) d
both_apart S c references d apart within both = (
  end_apart S c references d.this apart (λ mine is. within mine (among_left mine (listed (reference_of d.this)) (listed (reference_of d.that)) (among_listed mine (reference_of d.this) is))) both.0,
  end_apart S c references d.that apart (λ mine is. within mine (among_right mine (listed (reference_of d.this)) (listed (reference_of d.that)) (among_listed mine (reference_of d.that) is))) both.1,
)

-- an opening's connection has the references that it was opened with
same_ends : (ticks : Ticks) (o : Opening) → ends_of (connection_of ticks o) ≡ ends_of o.first
same_ends ticks o =
    let stays = following_stays ticks o.first (heard ticks o.first o.since) in
    ap₂ (λ this that. listed this ++ listed that) stays.this.reference stays.that.reference

all_apart : (S : ℕ → ℕ → ℕ → Type 0) (ticks : Ticks) (c : Connection) (references : List ℕ) (openings : List Opening) → AreApart c references
    → ((mine : ℕ) → is_among mine (given_by (map (λ (o : Opening). o.first) openings)) ≡ true → is_among mine references ≡ true) → AllStand S ticks openings → AllStand (Apart S c) ticks openings
all_apart S ticks c references [] apart within all = tt
all_apart S ticks c references (o ∷ openings) apart within all = (
  both_apart S c references (connection_of ticks o) apart
      (λ mine is. within mine (among_left mine (ends_of o.first) (given_by (map (λ (x : Opening). x.first) openings)) (subst (λ ends. is_among mine ends ≡ true) (same_ends ticks o) is))) all.0,
  all_apart S ticks c references openings apart (λ mine is. within mine (among_right mine (ends_of o.first) (given_by (map (λ (x : Opening). x.first) openings)) is)) all.1,
)

-- What the event makes of it, but of that connection.
found_apart : (f : Firsts) (i : ℕ) (e : Event) (c : Connection) (point : ℕ) (found : Option Arrival) → IfSome found (MakesOf (allowed f i e) point) → IfSome found (MakesOf (others f i e c) point)
found_apart f i e c point None makes = tt
found_apart f i e c point (Some a) makes = (λ cc from other stands. (makes.0 cc from other stands.0, stands.1), makes.1)

makes_apart : (f : Firsts) (i : ℕ) (e cause : Event) (c : Connection) → EventMakes (allowed f i cause) e → EventMakes (others f i cause c) e
makes_apart f i (Arrived point sls bytes) cause c makes = found_apart f i cause c point (arrival_in bytes) makes
makes_apart f i (Requested ssn q) cause c makes = tt
makes_apart f i Ticked cause c makes = tt

opened_apart : (f : Firsts) (i : ℕ) (e : Event) (c : Connection) (references : List ℕ) (connection : Option Connection) → AreApart c references
    → ((mine : ℕ) → is_among mine (given_by (new_firsts connection)) ≡ true → is_among mine references ≡ true) → IfSome connection (MayOpen (allowed f i e)) → IfSome connection (MayOpen (others f i e c))
opened_apart f i e c references None apart within may = tt
opened_apart f i e c references (Some d) apart within may =
    (both_apart (IsSection f i) c references d apart (λ mine is. within mine (among_left mine (ends_of d) [] is)) may.0, asks_same d.that may.1)
  where
    asks_same : (that : End) → MayAsk (allowed f i e) that → MayAsk (others f i e c) that
    asks_same (wire x) asks = asks
    asks_same (owner u) asks = tt

-- those before it, and those after
stand_front : (S : ℕ → ℕ → ℕ → Type 0) (ticks : Ticks) (one other : List Opening) → AllStand S ticks (one ++ other) → AllStand S ticks one
stand_front S ticks [] other all = tt
stand_front S ticks (x ∷ one) other all = (all.0, stand_front S ticks one other all.1)

pub stand_back : (S : ℕ → ℕ → ℕ → Type 0) (ticks : Ticks) (one other : List Opening) → AllStand S ticks (one ++ other) → AllStand S ticks other
stand_back S ticks [] other all = all
stand_back S ticks (x ∷ one) other all = stand_back S ticks one other all.1

-- The step.
pub event_parts : (f : Firsts) (i : ℕ) (e : Event) (node : NodeState) (xs ys : List Opening) (o : Opening) → AreFresh (f i) → f i ≡ firsts_of node ++ new_firsts (opened_by e node) → Makes f i node e
    → AllStand (IsSection f i) node.head.terms.ticks (openings_of node) → IsConnJournal node.head 0 node.journal → openings_of node ≡ xs ++ o ∷ ys
    → HasPart (others f i e o.first) node.head.terms.ticks e o (outputs_of e node)
event_parts f i e node xs ys o fresh last makes stand legal are =
    has_part (others f i e o.first) (fit_others f i e o.first) e node xs ys o legal are (makes_apart f i e e o.first makes.0) (wish_makes f i e (wish_of node.head.terms e) makes.1)
    (opened_apart f i e o.first (given_by (after ++ new)) (opened_by e node) away_after (λ mine is. among_later mine is) (opened_may f i e node last makes.1))
    (all_apart (IsSection f i) node.head.terms.ticks o.first (given_by before) xs away_before (λ mine is. is) (stand_front (IsSection f i) node.head.terms.ticks xs (o ∷ ys) (subst (AllStand (IsSection f i) node.head.terms.ticks) are stand)))
    (all_apart (IsSection f i) node.head.terms.ticks o.first (given_by (after ++ new)) ys away_after (λ mine is. among_sooner mine is)
    (stand_back (IsSection f i) node.head.terms.ticks xs (o ∷ ys) (subst (AllStand (IsSection f i) node.head.terms.ticks) are stand)).1)
  where
    before : List Connection
    before = map (λ (x : Opening). x.first) xs

    after : List Connection
    after = map (λ (x : Opening). x.first) ys

    new : List Connection
    new = new_firsts (opened_by e node)

    whole : f i ≡ before ++ o.first ∷ (after ++ new)
    whole =
        last ∙ (ap (λ (os : List Opening). map (λ (x : Opening). x.first) os ++ new_firsts (opened_by e node)) are
        ∙ (ap (λ cs. cs ++ new_firsts (opened_by e node)) (map-append (λ (x : Opening). x.first) xs (o ∷ ys))
        ∙ append_assoc (map (λ (x : Opening). x.first) xs) (o.first ∷ map (λ (x : Opening). x.first) ys) (new_firsts (opened_by e node))))

    fresh_whole : AreFresh (map (λ (x : Opening). x.first) xs ++ o.first ∷ (map (λ (x : Opening). x.first) ys ++ new_firsts (opened_by e node)))
    fresh_whole = subst AreFresh whole fresh

    away_before : AreApart o.first (given_by (map (λ (x : Opening). x.first) xs))
    away_before = apart_before (map (λ (x : Opening). x.first) xs) (map (λ (x : Opening). x.first) ys ++ new_firsts (opened_by e node)) o.first fresh_whole

    away_after : AreApart o.first (given_by (map (λ (x : Opening). x.first) ys ++ new_firsts (opened_by e node)))
    away_after = apart_after (map (λ (x : Opening). x.first) xs) (map (λ (x : Opening). x.first) ys ++ new_firsts (opened_by e node)) o.first fresh_whole

    joined_after : given_by (map (λ (x : Opening). x.first) ys ++ new_firsts (opened_by e node)) ≡ given_by (map (λ (x : Opening). x.first) ys) ++ given_by (new_firsts (opened_by e node))
    joined_after = flat_map-append ends_of (map (λ (x : Opening). x.first) ys) (new_firsts (opened_by e node))

    among_sooner : (mine : ℕ) → is_among mine (given_by (map (λ (x : Opening). x.first) ys)) ≡ true → is_among mine (given_by (map (λ (x : Opening). x.first) ys ++ new_firsts (opened_by e node))) ≡ true
    among_sooner mine is =
        subst (λ references. is_among mine references ≡ true) (sym joined_after)
        (among_left mine (given_by (map (λ (x : Opening). x.first) ys)) (given_by (new_firsts (opened_by e node))) is)

    among_later : (mine : ℕ) → is_among mine (given_by (new_firsts (opened_by e node))) ≡ true → is_among mine (given_by (map (λ (x : Opening). x.first) ys ++ new_firsts (opened_by e node))) ≡ true
    among_later mine is =
        subst (λ references. is_among mine references ≡ true) (sym joined_after)
        (among_right mine (given_by (map (λ (x : Opening). x.first) ys)) (given_by (new_firsts (opened_by e node))) is)
