-- Two legs, one after the other: the section of the far one was asked for by that of the near one, and no other end is a section to the other node.
use Rattle.std.proofs.Common.{◌≡◌, inl, inr, ℕ, ◌≤◌, ◌<◌, ◌+◌, ◌-◌, true, false, List, [], ◌∷◌, IfSome, Result, Ok, Err, IfOk, refl, sym, ◌∙◌, subst, arith}
use Rattle.std.specs.List.{AllByRecursion}
use Rattle.relay_base.specs.declared.limits.TheConstants.{REFERENCES}
use Rattle.relay_base.specs.declared.words.Event.{Event}
use Rattle.relay_base.specs.declared.words.Event.TheVariants.{Message as Arrived, Asked as Requested, Tick}
use Rattle.relay_base.specs.declared.words.ReadFault.{ReadFault}
use Rattle.plant_core.specs.declared.entry.Entry.{Entry}
use Rattle.q713_codec.specs.Names.{Message}
use Rattle.q713_codec.specs.declared.message.Message.TheVariants.{Cr}
use Rattle.q713_codec.specs.Reading.{reading_of}
use Rattle.section_model.specs.Ends.{End, wire, owner, Connection}
use Rattle.section_model.specs.Lane.{Opening, heard, connection_of, reference_of}
use Rattle.connection_law.proofs.Reference.Following.{following_stays}
use Rattle.chain_step.specs.declared.step.Step.{Step}
use Rattle.chain_step.specs.Run.{NodeState, head_of, openings_of, node_at, run_of}
use Rattle.passage_law.specs.Nodes.{AreSteps}
use Rattle.passage_law.specs.Links.{is_from}
use Rattle.passage_law.specs.Naming.{StandsOn, AsksFrom, NamesMessage}
use Rattle.passage_law.specs.References.{Firsts, firsts_in, OfOne, IsTo, IsAskedBy, Asks, HasSource, IsCrFrom, IsSection, allowed}
use Rattle.passage_law.specs.Fair.{Has, AreJoined}
use Rattle.passage_law.specs.Ways.{IsOnward}
use Rattle.passage_law.proofs.Linking.{Links}
use Rattle.passage_law.proofs.LaneNames.{AllStand}
use Rattle.passage_law.proofs.Referring.{IsSentEvent, all_sent, is_referred}
use Rattle.passage_law.proofs.Parting.{stand_back}
use Rattle.passage_law.proofs.Ways.{all_go_on}
use Rattle.passage_law.specs.Trails.{Leg, IsLeg}
use Rattle.passage_law.specs.Hops.{AreNeighbours}
use Rattle.passage_law.proofs.Opening.{StandsWhere}
use Rattle.passage_law.proofs.Trailing.{is_legal}
use Rattle.passage_law.proofs.Openings.{leg_opening, leg_has}
use Rattle.passage_law.proofs.Coming.{leg_came, is_from_cr}
use Rattle.passage_law.proofs.Standing.{onward_of}
use Rattle.passage_law.proofs.Asking.{IsAskedBy as IsAskedFrom, asked_by}
use Rattle.passage_law.proofs.Beginning.{leg_parts, all_came, Opens, leg_opens, SentCr, sent_cr}

-- What a node sends as CR has the reference of a section that asks.

pub sent_asks : (f : Firsts) (own to point slr : ℕ) (event : Event) → IsSentEvent f own to event → IsCrFrom point slr event → Asks f own to slr
sent_asks f own to point slr (Arrived from sls bytes) sent cr = by_reading (reading_of bytes) cr.1 sent.1.1
  where
    by_message : (m : Message) → HasSource slr (Ok m) → AsksFrom (allowed f own sent.1.0) to m → Asks f own to slr
    by_message (Cr source class called credit calling body hop importance) same asks = subst (Asks f own to) same asks.2
    by_message _ same asks = absurd same

    by_reading : (read : Result Message ReadFault) → HasSource slr read → IfOk read (NamesMessage (allowed f own sent.1.0) to) → Asks f own to slr
    by_reading (Ok m) same names = by_message m same names.1
    by_reading (Err fault) same names = absurd same
sent_asks f own to point slr (Requested ssn r) sent cr = absurd sent
sent_asks f own to point slr Tick sent cr = absurd sent

-- none asks the node before
not_to : (n i point : ℕ) (e : End) → (point ≡ i + 1 → ⊥) → IsOnward n i e → (mine : ℕ) → IsTo point mine e → ⊥
not_to n i point (wire x) differ onward mine to = differ (sym to.0 ∙ onward.0)
not_to n i point (owner u) differ onward mine to = to

pub none_back : (n i point slr : ℕ) (cs : List Connection) → (point ≡ i + 1 → ⊥) → AllByRecursion (λ (c : Connection). IsOnward n i c.that) cs → OfOne (λ (c : Connection). IsTo point slr c.that) cs → ⊥
none_back n i point slr [] differ all asks = asks
none_back n i point slr (c ∷ cs) differ all (inl to) = not_to n i point c.that differ all.0 slr to
none_back n i point slr (c ∷ cs) differ all (inr more) = none_back n i point slr cs differ all.1 more

no_cr_back : (n i : ℕ) (steps : List Step) (leg : Leg) → AreSteps n steps → 2 ≤ n → 1 ≤ i → i < n → (let r = run_of n steps in
    Links (i + 1) false (node_at (i + 1) r.nodes) (node_at i r.nodes) → IsLeg i (node_at i r.nodes) leg → (slr : ℕ) → IsCrFrom (i + 1) slr leg.by.event → ⊥)
no_cr_back n i steps leg are two least most link at slr cr =
    let r = run_of n steps in
    let f = firsts_in r in
    let j = i + 1 in
    let to = i + 1 - 1 in
    let near = node_at i r.nodes in
    let far = node_at j r.nodes in
    let names = (is_referred n steps two are).names j (omega arith) (omega (arith, most)) in
    let here = (leg_parts (λ (e : Entry). is_from j e.event ≡ true → IsSentEvent f j to e.event) i near leg at (all_came (IsSentEvent f j to) j false far near link (all_sent f j to far names.1))).0 in
    none_back n j to slr (f j) (λ same. omega (arith, same)) (all_go_on n j steps are two (omega arith) (omega (arith, most)))
    (sent_asks f j to j slr leg.by.event (here (is_from_cr j slr leg.by.event cr)) cr)

-- References have 24 bits.
pub reference_fits : (f : Firsts) (i : ℕ) (node : NodeState) (o : Opening) → AllStand (IsSection f i) node.head.terms.ticks (openings_of node) → Has node o
    → IfSome (reference_of o.first.this) (λ mine. mine < REFERENCES) × IfSome (reference_of o.first.that) (λ mine. mine < REFERENCES)
reference_fits f i node o all has =
    let ticks = node.head.terms.ticks in
    let both = (stand_back (IsSection f i) ticks has.before (o ∷ has.after) (subst (AllStand (IsSection f i) ticks) has.are all)).0 in
    let stay = following_stays ticks o.first (heard ticks o.first o.since) in (
      subst (λ reference. IfSome reference (λ mine. mine < REFERENCES)) stay.this.reference (by_end (connection_of ticks o).this both.0),
      subst (λ reference. IfSome reference (λ mine. mine < REFERENCES)) stay.that.reference (by_end (connection_of ticks o).that both.1),
    )
  where
    by_end : (e : End) → StandsOn (IsSection f i) e → IfSome (reference_of e) (λ mine. mine < REFERENCES)
    by_end (wire x) stands = stands.1
    by_end (owner u) stands = tt

-- The two legs.
pub legs_joined : (n i : ℕ) (steps : List Step) (one next : Leg) → AreSteps n steps → 2 ≤ n → 1 ≤ i → i < n → (let r = run_of n steps in
    Links (i + 1) false (node_at (i + 1) r.nodes) (node_at i r.nodes) → AreNeighbours r i one next → AreJoined i (i + 1) one.first next.first)
legs_joined n i steps one next are two least most link at =
    let r = run_of n steps in
    let f = firsts_in r in
    let near = node_at i r.nodes in
    let far = node_at (i + 1) r.nodes in
    let referred = is_referred n steps two are in
    let near_is = referred.row.nodes.each i least (omega (arith, most)) in
    let far_is = referred.row.nodes.each (i + 1) (omega arith) (omega (arith, most)) in
    let opens : Opens i one = leg_opens n i near one near_is at.here in
    let far_opens : Opens (i + 1) next = leg_opens n (i + 1) far next far_is at.there in
    let sent : SentCr i one next.by.event = sent_cr i one next one.first.that refl opens.asks at.follows in
    let m = sent.section.head.mine in
    let below : m < REFERENCES =
    subst (λ e. IfSome (reference_of e) (λ mine. mine < REFERENCES)) sent.is
    (reference_fits f i near (leg_opening one) (referred.names i least (omega (arith, most))).0 (leg_has i near one near_is.head at.here)).1 in
    let asked : IsAskedFrom i m next.first.this = asked_by (head_of (i + 1)).terms i m next.by.event next.first.this below sent.cr far_opens.asked in
    let stands = subst (λ e. StandsWhere e one.by.outs) sent.is (is_legal n i near one near_is at.here).begun.asking in record {
      near_reference = m;
      far_reference = asked.section.head.mine;
      asks = subst (IsTo (i + 1) m) (sym sent.is) (stands i (i + 1) next.by.event at.follows, refl);
      asked = subst (IsAskedBy i m asked.section.head.mine) (sym asked.is) (asked.point, asked.other, refl);
      near_apart = λ mine to. came_back one.first.this refl mine to;
      far_apart = not_to n (i + 1) i next.first.that (λ same. omega (arith, same))
          (onward_of n (i + 1) steps next are two (omega arith) (omega (arith, most)) (leg_has (i + 1) far next far_is.head at.there));
    }
  where
    came_back : (e : End) → one.first.this ≡ e → (mine : ℕ) → IsTo (i + 1) mine e → ⊥
    came_back (wire x) is mine to =
        no_cr_back n i steps one are two least most link at.here x.head.other
        (subst (λ p. IsCrFrom p x.head.other one.by.event) to.0 (leg_came i (node_at i (run_of n steps).nodes) one x at.here is))
    came_back (owner u) is mine to = to
