-- A message to a neighbour names none of its sections but those to the sender.
use Rattle.std.proofs.Common.{◌≡◌, ◌⊎◌, inl, inr, ℕ, ◌≤◌, List, [], ◌∷◌, Option, Some, None, IfSome, Result, Ok, Err, IfOk, sym, subst, ap, arith}
use Rattle.std.specs.List.{AllByRecursion}
use Rattle.relay_base.specs.declared.words.Event.{Event}
use Rattle.relay_base.specs.declared.words.Event.TheVariants.{Message as Arrived, Asked as Requested, Tick as Ticked}
use Rattle.relay_base.specs.declared.words.ReadFault.{ReadFault}
use Rattle.plant_core.specs.declared.terms.LaneHead.{LaneHead}
use Rattle.q713_codec.specs.Names.{Message}
use Rattle.q713_codec.specs.Reading.{reading_of}
use Rattle.section_model.specs.Parameters.{Arrival, arrival_of, arrival_by, arrival_in}
use Rattle.section_model.specs.Step.{destination_of}
use Rattle.chain_step.specs.Run.{neighbour, node_at, run_of}
use Rattle.passage_law.specs.Naming.{NamesArrival, NamesMessage}
use Rattle.passage_law.specs.References.{Firsts, firsts_in, Gave, ArePaired, allowed}
use Rattle.passage_law.specs.Own.{NamesOwn, NamesNoOther}
use Rattle.passage_law.proofs.Linking.{sent_by, there_is}
use Rattle.passage_law.proofs.Referring.{IsSentEvent, all_sent, turned_pair, pair_gave, is_referred}
use Rattle.passage_law.proofs.Freshness.{AreFresh, one_point, run_fresh}

pub none_named : (dlr mine : ℕ) → dlr ≡ mine → dlr ≡ 0 → 1 ≤ mine → ⊥
none_named dlr mine same none least = omega (arith, same, none, least)

pub arrival_own : (f : Firsts) (i j : ℕ) (cause : Event) (a : Arrival) → AreFresh (f j) → NamesArrival (allowed f i cause) j a → (q mine : ℕ) → 1 ≤ mine → Gave f j q mine → a.parameters.dlr ≡ mine → q ≡ i
arrival_own f i j cause a fresh (inl on_one) q mine least gave is = by_known on_one.1.4
  where
    by_known : (a.parameters.dlr ≡ 0) ⊎ ArePaired f i on_one.0 j a.parameters.dlr → q ≡ i
    by_known (inl none) = absurd (none_named a.parameters.dlr mine is none least)
    by_known (inr paired) =
        one_point f j q i mine fresh gave (subst (Gave f j i) is (pair_gave f j a.parameters.dlr i on_one.0 (turned_pair f i on_one.0 j a.parameters.dlr paired)))
arrival_own f i j cause a fresh (inr answer) q mine least gave is = one_point f j q i mine fresh gave (subst (Gave f j i) is answer.2)

sent_own : (f : Firsts) (i j : ℕ) → AreFresh (f j) → (e : Event) → IsSentEvent f i j e → NamesOwn f i j e
unfolding arrival_in
sent_own f i j fresh (Arrived point sls bytes) sent = λ q mine least gave is. by_reading q mine least gave (reading_of bytes) sent.1.1 is
  where
    by_found : (q mine : ℕ) → 1 ≤ mine → Gave f j q mine → (found : Option Arrival) → IfSome found (NamesArrival (allowed f i sent.1.0) j) → destination_of found ≡ Some mine → q ≡ i
    by_found q mine least gave None names is = absurd (cc)
    by_found q mine least gave (Some a) names is =
        let same : a.parameters.dlr ≡ mine = cc in arrival_own f i j sent.1.0 a fresh names q mine least gave same

    by_reading : (q mine : ℕ) → 1 ≤ mine → Gave f j q mine → (read : Result Message ReadFault) → IfOk read (NamesMessage (allowed f i sent.1.0) j) → destination_of (arrival_by read) ≡ Some mine → q ≡ i
    by_reading q mine least gave (Ok m) names is = by_found q mine least gave (arrival_of m) names.0 is
    by_reading q mine least gave (Err fault) names is = absurd (cc)
sent_own f i j fresh (Requested ssn request) sent = absurd sent
sent_own f i j fresh Ticked sent = absurd sent

all_own : (f : Firsts) (i j : ℕ) → AreFresh (f j) → (events : List Event) → AllByRecursion (IsSentEvent f i j) events → AllByRecursion (NamesOwn f i j) events
all_own f i j fresh [] all = tt
all_own f i j fresh (e ∷ events) all = (sent_own f i j fresh e all.0, all_own f i j fresh events all.1)

pub names_no_other : NamesNoOther
names_no_other n i forward steps are two least most t fresh =
    let r = run_of n steps in
    let one = node_at i r.nodes in
    let j = neighbour forward i in
    let there = there_is n i forward least most t in
    let referred = is_referred n steps two are in
    let own : one.head.terms.own ≡ i = ap (λ (h : LaneHead). h.terms.own) (referred.row.nodes.each i least most).head in
    subst (λ k. AllByRecursion (NamesOwn (firsts_in r) i j) (sent_by k j one)) (sym own)
    (all_own (firsts_in r) i j (run_fresh r j there.0 (subst (λ k. j ≤ k) (sym referred.row.nodes.long) there.1) fresh) (sent_by i j one)
    (all_sent (firsts_in r) i j one (referred.names i least most).1))
