-- The journal that is found of a lane is one with the lane's events, routings and outputs; and such a journal is found of its lines.
use Rattle.std.proofs.Common.{◌≡◌, ◌∙◌, ℕ, ◌+◌, true, List, [], ◌∷◌, ◌++◌, length, Option, Some, None, is_some, Ok, refl, sym, ap, subst, append_assoc, append-nil, zero-add}
use Rattle.std.specs.List.{flat_map}
use Rattle.relay_base.specs.declared.words.Event.{Event}
use Rattle.relay_base.specs.declared.words.Output.{Output}
use Rattle.relay_base.specs.declared.words.Stamp.{Stamp}
use Rattle.plant_core.specs.Asking.{Question, answer_in}
use Rattle.plant_core.specs.declared.answer.Answer.{Answer}
use Rattle.plant_core.specs.declared.entry.Asked.{Asked}
use Rattle.plant_core.specs.declared.entry.ControlEntry.{ControlEntry}
use Rattle.plant_core.specs.declared.entry.ControlEvent.{ControlEvent}
use Rattle.plant_core.specs.declared.entry.ControlEvent.TheVariants.{Plain, Change}
use Rattle.plant_core.specs.declared.entry.Entry.{Entry}
use Rattle.section_model.specs.Journals.{IsConnJournal, lane_of}
use Rattle.lane_law.proofs.Splitting.{splits as conn_splits}
use Rattle.data_lane.specs.Legal.{IsDataJournal, at_first}
use Rattle.unit_law.proofs.Splitting.{splits as data_splits}
use Rattle.scmg.specs.Control.{IsControlJournal, IsLegalEntry, start_of_control, changes_in}
use Rattle.scmg.specs.Inner.Kept.{after_entries}
use Rattle.control_law.proofs.Splitting.{splits as control_splits}
use Rattle.node_head.specs.declared.head.Head.{Head}
use Rattle.capture_form.specs.Events.{Stamped}
use Rattle.journal_form.specs.Parts.{EntryPart, LanePart, entry_lines, lane_size}
use Rattle.right_book.specs.Own.{HasEventsInOrder, control_pairs_of}
use Rattle.right_book.specs.Placed.{in_control, IsOfLane}
use Rattle.right_book.specs.Heads.{routing_of, lane_head_of, control_head_of}
use Rattle.right_book.specs.Editions.{IsRouting}
use Rattle.right_book.specs.Lanes.{LaneKind, conn_kind, data_kind, IsRouted, IsServed}
use Rattle.right_book.proofs.ListLemmas.{weaker}
use Rattle.journal_finding.specs.Entries.{LaneRules, all_taken}
use Rattle.journal_finding.specs.Lanes.{control_rules, rules_of, plain_event, conn_outs, data_outs}
use Rattle.journal_finding.specs.Finding.{journal_in}
use Rattle.finding_law.proofs.Next.{HasParts, ComesNext, IsRoutedNext, IsMadeNext, IsNext, Along, lines_by}
use Rattle.finding_law.proofs.Steps.{asks_alike, written_from, ArePartsOf, journal_gives}
use Rattle.finding_law.proofs.Order.{IsReached, reaches, pairs, has_events, takes_all, all_come}
use Rattle.finding_law.proofs.Routing.{IsRoutingBy, IsRoutedBy, routed_all, rising, routed_next}

-- ---- entries one after the other

along_weaker : {E : Type 0} (P Q : List E → E → Type 0) → ((journal : List E) (e : E) → P journal e → Q journal e) → (journal more : List E) → Along P journal more → Along Q journal more
along_weaker P Q f journal [] h = tt
along_weaker P Q f journal (e ∷ more) h = (f journal e h.0, along_weaker P Q f (journal ++ e ∷ []) more h.1)

nexts : {V E : Type 0} (rules : LaneRules V E) (has : HasParts rules) (journal more : List E) → Along (ComesNext rules has) journal more → Along (IsRoutedNext rules has) journal more
    → Along (IsMadeNext rules has) journal more → Along (IsNext rules has) journal more
nexts rules has journal [] f g h = tt
nexts rules has journal (e ∷ more) f g h = (record { order = f.0; routed = g.0; made = h.0 }, nexts rules has (journal ++ e ∷ []) more f.1 g.1 h.1)

-- a journal is legal exactly where each entry is legal after those before it
pub record IsByEntry {E : Type 0} (Legal : List E → Type 0) (LegalNext : List E → E → Type 0) : Type 0 where
  empty : Legal []
  longer : (journal : List E) (e : E) → Legal journal → LegalNext journal e → Legal (journal ++ e ∷ [])
  each : (journal : List E) (e : E) (more : List E) → Legal (journal ++ e ∷ more) → LegalNext journal e

module _ {E : Type 0} (Legal : List E → Type 0) (LegalNext : List E → E → Type 0) (by : IsByEntry Legal LegalNext) where
  legal_all : (journal more : List E) → Legal journal → Along LegalNext journal more → Legal (journal ++ more)
  legal_all journal [] h f = subst Legal (sym (append-nil journal)) h
  legal_all journal (e ∷ more) h f = subst Legal (append_assoc journal (e ∷ []) more) (legal_all (journal ++ e ∷ []) more (by.longer journal e h f.0) f.1)

  legal_each : (journal more : List E) → Legal (journal ++ more) → Along LegalNext journal more
  legal_each journal [] h = tt
  legal_each journal (e ∷ more) h = (by.each journal e more h, legal_each (journal ++ e ∷ []) more (subst Legal (sym (append_assoc journal (e ∷ []) more)) h))

-- ---- what is found of a lane

pub record IsFound {V E : Type 0} (rules : LaneRules V E) (has : HasParts rules) (parts : List EntryPart) (journal : List E) : Type 0 where
  pub next : Along (IsNext rules has) [] journal
  pub lines : flat_map entry_lines parts ≡ flat_map (lines_by rules) journal
  pub all : all_taken rules journal ≡ true

pub found : {V E : Type 0} (rules : LaneRules V E) (has : HasParts rules) (lane : LanePart) (journal : List E) → journal_in rules lane ≡ Ok journal
    → IsFound rules has lane.entries journal
found rules has lane journal h =
    let w = written_from rules has (lane.number + lane_size lane) [] lane.entries journal h in
    record {
      next = subst (Along (IsNext rules has) []) (sym w.is) w.next;
      lines = w.lines ∙ ap (flat_map (lines_by rules)) (sym w.is);
      all = w.all;
    }

own : {V E : Type 0} (rules : LaneRules V E) (has : HasParts rules) (parts : List EntryPart) (journal : List E) → IsFound rules has parts journal
    → HasEventsInOrder (pairs rules has journal) rules.events
own rules has parts journal f =
    has_events rules has journal (along_weaker (IsNext rules has) (IsReached rules has) (λ j e n. reaches rules has j e n.made n.order) [] journal f.next) f.all

-- the entries of a journal may stand next, and no event is left
record MayStand {V E : Type 0} (rules : LaneRules V E) (has : HasParts rules) (journal : List E) : Type 0 where
  next : Along (IsNext rules has) [] journal
  all : all_taken rules journal ≡ true

gives : {V E : Type 0} (rules : LaneRules V E) (has : HasParts rules) (lane : LanePart) (journal : List E) → MayStand rules has journal → ArePartsOf rules journal lane.entries
    → journal_in rules lane ≡ Ok journal
gives rules has lane journal may are = journal_gives rules has (lane.number + lane_size lane) [] journal lane.entries are may.next may.all

-- ---- the control lane

pub same_some : {A : Type 0} (x y : A) → Some x ≡ Some y → x ≡ y
same_some x y h = cc

pub no_asked : (asked : Option Asked) → is_some asked ≡ is_some {T = Question} None → None ≡ asked
no_asked None h = refl
no_asked (Some a) h = absurd cc

abbrev pub control_has : (head : Head) (phases : List (List Stamped)) → HasParts (control_rules head phases)
control_has head phases = record {
  event = λ e. e.event;
  pair = λ e. (e.stamp, e.event);
  paired = λ e. refl;
  taken = λ e. refl;
  of_stamp = λ journal stamp v asked. refl;
  of_event = λ journal stamp v asked. refl;
  of_pair = λ journal stamp came v asked h. ap (λ (e : ControlEvent). (stamp, e)) (sym (same_some came v h));
  of_asked = λ journal stamp v asked h. no_asked asked h;
}

module _ (head : Head) (phases : List (List Stamped)) where
  abbrev IsLegalControl : List ControlEntry → Type 0
  IsLegalControl journal = IsControlJournal (control_head_of head) (routing_of head) journal

  abbrev IsLegalControlNext : List ControlEntry → ControlEntry → Type 0
  IsLegalControlNext journal e =
      IsLegalEntry (control_head_of head) (after_entries (control_head_of head) (start_of_control (routing_of head)) journal) (length (changes_in (control_head_of head) (routing_of head) journal)) e

  control_by_entry : IsByEntry IsLegalControl IsLegalControlNext
  control_by_entry = record {
    empty = tt;
    longer = λ journal e h n.
        (control_splits (control_head_of head) (start_of_control (routing_of head)) 0 journal (e ∷ [])).1
        (h, (subst (λ m. IsLegalEntry (control_head_of head) (after_entries (control_head_of head) (start_of_control (routing_of head)) journal) m e) (sym (zero-add (editions journal))) n, tt));
    each = λ journal e more h.
        let parts = (control_splits (control_head_of head) (start_of_control (routing_of head)) 0 journal (e ∷ more)).0 h in
        subst (λ m. IsLegalEntry (control_head_of head) (after_entries (control_head_of head) (start_of_control (routing_of head)) journal) m e) (zero-add (editions journal)) parts.1.0;
  }
    where
      editions : List ControlEntry → ℕ
      editions journal = length (changes_in (control_head_of head) (routing_of head) journal)

  control_legal : (journal : List ControlEntry) (e : ControlEntry) → IsNext (control_rules head phases) (control_has head phases) journal e → IsLegalControlNext journal e
  control_legal journal e n = record { outputs = sym (ap (λ (x : ControlEntry). x.outs) n.made); published = sym (ap (λ (x : ControlEntry). x.published) n.made) }

  control_made : (journal : List ControlEntry) (e : ControlEntry) → IsLegalControlNext journal e → IsMadeNext (control_rules head phases) (control_has head phases) journal e
  control_made journal e h =
      let published = sym h.published in
      let outs = sym h.outputs in
      λ i. record { stamp = e.stamp; event = e.event; published = published i; outs = outs i }

  asks_nothing : (journal more : List ControlEntry) → Along (IsRoutedNext (control_rules head phases) (control_has head phases)) journal more
  asks_nothing journal [] = tt
  asks_nothing journal (e ∷ more) = (tt, asks_nothing (journal ++ e ∷ []) more)

  -- what a right book has of its control journal
  pub record IsControl (journal : List ControlEntry) : Type 0 where
    pub own : IsOfLane in_control head phases (control_pairs_of journal)
    pub legal : IsControlJournal (control_head_of head) (routing_of head) journal

  pub control_right : (parts : List EntryPart) (journal : List ControlEntry) → IsFound (control_rules head phases) (control_has head phases) parts journal → IsControl journal
  control_right parts journal f = record {
    own = own (control_rules head phases) (control_has head phases) parts journal f;
    legal = legal_all IsLegalControl IsLegalControlNext control_by_entry [] journal tt
        (along_weaker (IsNext (control_rules head phases) (control_has head phases)) IsLegalControlNext control_legal [] journal f.next);
  }

  pub control_found : (lane : LanePart) (journal : List ControlEntry) → IsControl journal → ArePartsOf (control_rules head phases) journal lane.entries
      → journal_in (control_rules head phases) lane ≡ Ok journal
  control_found lane journal is are =
      let rules = control_rules head phases in
      let has = control_has head phases in
      gives rules has lane journal
      (record {
        next = nexts rules has [] journal (all_come rules has journal is.own) (asks_nothing [] journal)
            (along_weaker IsLegalControlNext (IsMadeNext rules has) control_made [] journal (legal_each IsLegalControl IsLegalControlNext control_by_entry [] journal is.legal));
        all = takes_all rules has journal is.own;
      })
      are

-- ---- the other lanes

pub plain_is : (stamp : Stamp) (came : ControlEvent) (v : Event) → plain_event came ≡ Some v → ◌≡◌ {A = Stamp × ControlEvent} (stamp, Plain v) (stamp, came)
plain_is stamp (Plain e) v h = ap (λ (x : Event). (stamp, Plain x)) (sym (same_some e v h))
plain_is stamp (Change group) v h = absurd cc

-- what comes of an event after entries
abbrev pub Outs : Type 0
Outs = List Entry → Event → Option Answer → List Output

-- an entry is legal after others: it has a routing exactly where one is asked, and these outputs
abbrev pub IsLegalNext : LaneKind → Outs → List Entry → Entry → Type 0
IsLegalNext kind outs journal e = (is_some e.asked ≡ is_some (kind.question e.event)) × (e.outs ≡ outs journal e.event (answer_in e.asked))

pub record HasLaw (kind : LaneKind) (outs : Outs) (Legal : List Entry → Type 0) : Type 0 where
  by_entry : IsByEntry Legal (IsLegalNext kind outs)

pub conn_law : (head : Head) (number : ℕ) → HasLaw (conn_kind head) (conn_outs head number) (IsConnJournal (lane_head_of head) number)
conn_law head number = record {
  by_entry = record {
    empty = tt;
    longer = λ journal e h n. (conn_splits (lane_of (lane_head_of head) number) [] journal (e ∷ [])).1 (h, (record { routed = n.0; outputs = n.1 }, tt));
    each = λ journal e more h. let parts = (conn_splits (lane_of (lane_head_of head) number) [] journal (e ∷ more)).0 h in (parts.1.0.routed, parts.1.0.outputs);
  };
}

pub data_law : (head : Head) (number : ℕ) → HasLaw data_kind (data_outs head number) (IsDataJournal (lane_head_of head) number)
data_law head number = record {
  by_entry = record {
    empty = tt;
    longer = λ journal e h n. (data_splits (lane_head_of head) number at_first journal (e ∷ [])).1 (h, (record { routed = n.0; outputs = n.1 }, tt));
    each = λ journal e more h. let parts = (data_splits (lane_head_of head) number at_first journal (e ∷ more)).0 h in (parts.1.0.routed, parts.1.0.outputs);
  };
}

module _ (kind : LaneKind) (outs : Outs) (number : ℕ) (head : Head) (phases : List (List Stamped)) (control : List ControlEntry) where
  abbrev pub kind_rules : LaneRules Event Entry
  kind_rules = rules_of kind outs number head phases control

  abbrev pub kind_has : HasParts (rules_of kind outs number head phases control)
  kind_has = record {
    event = λ e. e.event;
    pair = λ e. (e.stamp, Plain e.event);
    paired = λ e. refl;
    taken = λ e. refl;
    of_stamp = λ journal stamp v asked. refl;
    of_event = λ journal stamp v asked. refl;
    of_pair = λ journal stamp came v asked h. plain_is stamp came v h;
    of_asked = λ journal stamp v asked h. refl;
  }

  routing_to : (phase : ℕ) (asks : Option Question) (asked : Option Asked) → IsRoutingBy kind_rules phase asks asked → IsRouting head control phase asks asked
  routing_to phase None None h = tt
  routing_to phase None (Some a) h = h
  routing_to phase (Some q) None h = h
  routing_to phase (Some q) (Some a) h = record { least = h.0; most = h.1; answer = h.2 }

  routing_from : (phase : ℕ) (asks : Option Question) (asked : Option Asked) → IsRouting head control phase asks asked → IsRoutingBy kind_rules phase asks asked
  routing_from phase None None h = tt
  routing_from phase None (Some a) h = h
  routing_from phase (Some q) None h = h
  routing_from phase (Some q) (Some a) h = (h.least, h.most, h.answer)

  entry_legal : (journal : List Entry) (e : Entry) → IsNext kind_rules kind_has journal e → IsLegalNext kind outs journal e
  entry_legal journal e n = (asks_alike kind_rules journal e.stamp.phase (kind.question e.event) e.asked n.routed, sym (ap (λ (x : Entry). x.outs) n.made))

  entry_made : (journal : List Entry) (e : Entry) → IsLegalNext kind outs journal e → IsMadeNext kind_rules kind_has journal e
  entry_made journal e h = let same = sym h.1 in λ i. record { stamp = e.stamp; event = e.event; asked = e.asked; outs = same i }

  -- what a right book has of a journal of this kind
  pub record IsOfKind (Legal : List Entry → Type 0) (journal : List Entry) : Type 0 where
    pub served : IsServed kind head phases control number journal
    pub legal : Legal journal

  pub kind_right : (Legal : List Entry → Type 0) → HasLaw kind outs Legal → (parts : List EntryPart) (journal : List Entry) → IsFound kind_rules kind_has parts journal → IsOfKind Legal journal
  kind_right Legal law parts journal f =
      let routed : Along (IsRoutedNext kind_rules kind_has) [] journal =
      along_weaker (IsNext kind_rules kind_has) (IsRoutedNext kind_rules kind_has) (λ j e n. n.routed) [] journal f.next in
      record {
        served = record {
          own = own kind_rules kind_has parts journal f;
          routed = weaker (IsRoutedBy kind_rules kind_has) (IsRouted kind.question head control) journal
              (λ e h. routing_to e.stamp.phase (kind.question e.event) e.asked h) (routed_all kind_rules kind_has [] journal routed);
          rising = rising kind_rules kind_has journal routed;
        };
        legal = legal_all Legal (IsLegalNext kind outs) law.by_entry [] journal law.by_entry.empty
            (along_weaker (IsNext kind_rules kind_has) (IsLegalNext kind outs) entry_legal [] journal f.next);
      }

  pub kind_found : (Legal : List Entry → Type 0) → HasLaw kind outs Legal → (lane : LanePart) (journal : List Entry) → IsOfKind Legal journal → ArePartsOf kind_rules journal lane.entries
      → journal_in kind_rules lane ≡ Ok journal
  kind_found Legal law lane journal is are =
      gives kind_rules kind_has lane journal
      (record {
        next = nexts kind_rules kind_has [] journal (all_come kind_rules kind_has journal is.served.own)
            (routed_next kind_rules kind_has [] journal
            (weaker (IsRouted kind.question head control) (IsRoutedBy kind_rules kind_has) journal
            (λ e h. routing_from e.stamp.phase (kind.question e.event) e.asked h) is.served.routed) is.served.rising)
            (along_weaker (IsLegalNext kind outs) (IsMadeNext kind_rules kind_has) entry_made [] journal (legal_each Legal (IsLegalNext kind outs) law.by_entry [] journal is.legal));
        all = takes_all kind_rules kind_has journal is.served.own;
      })
      are
