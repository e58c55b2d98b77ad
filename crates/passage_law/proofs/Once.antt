-- CR comes once.
use Rattle.std.proofs.Common.{◌≡◌, ℕ, ◌<◌, ◌≤◌, ◌+◌, ◌==◌, ◌&&◌, Bool, true, false, cond, List, [], ◌∷◌, ◌++◌, map, filter, take, drop, if◌then◌else◌, Option, Some, None, IfSome, Result, Ok, Err, IfOk, IsTrue, refl, sym, subst, ap, ap₂, ◌∙◌, arith, eqb-true, eq-eqb, take-append-drop}
use Rattle.std.specs.Prelude.{count_by, flat_map}
use Rattle.std.specs.List.{AllByRecursion}
use Rattle.std.proofs.lemmas.Bool.{false≢true, false_from_ne_true, and_parts}
use Rattle.std.proofs.lemmas.List.Sums.{sum_by-cons, sum_by-append}
use Rattle.relay_base.specs.declared.limits.TheConstants.{REFERENCES}
use Rattle.relay_base.specs.declared.words.Event.{Event}
use Rattle.relay_base.specs.declared.words.Event.TheVariants.{Message as Arrived, Asked as Requested, Tick as Ticked}
use Rattle.relay_base.specs.declared.words.Output.{Output}
use Rattle.relay_base.specs.declared.words.Output.TheVariants.{Sent, Told, Lost}
use Rattle.relay_base.specs.declared.words.ReadFault.{ReadFault}
use Rattle.plant_core.specs.declared.answer.Answer.{Answer}
use Rattle.plant_core.specs.declared.answer.Answer.TheVariants.{Local, Forward, Refused}
use Rattle.plant_core.specs.declared.answer.Rewrite.{Rewrite}
use Rattle.plant_core.specs.declared.entry.Entry.{Entry}
use Rattle.plant_core.specs.declared.terms.Terms.{Terms}
use Rattle.q713_codec.specs.Names.{Message}
use Rattle.q713_codec.specs.declared.message.Message.TheVariants.{Cr}
use Rattle.q713_codec.specs.Reading.{reading_of}
use Rattle.section_model.specs.Ends.{End, wire, owner, Connection}
use Rattle.section_model.specs.Opening.{Wanted, Wish, by_cr, by_user, no_wish, wish_of, fits, opened_through, opened_by_cr, opened_by_user, opened, Opened, slots_needed}
use Rattle.section_model.specs.Journals.{lane_of}
use Rattle.section_model.specs.Lane.{Lane, Opening, reference_of, lowest_free, opening_of, outputs_by, openings_after, legal_outputs, answer_of}
use Rattle.section_model.specs.Laws.{openings_from}
use Rattle.connection_law.proofs.Flow.Flowing.{either}
use Rattle.chain_step.specs.declared.step.Step.{Step}
use Rattle.chain_step.specs.Run.{NodeState, RunState, arrives, messages_in, neighbour, given_of, node_at, openings_of, outputs_of, entry_of, start, run_of, after_event, after_step}
use Rattle.chain_step.specs.Steps.{is_step}
use Rattle.chain_step.specs.Fresh.{is_among, all_fresh}
use Rattle.passage_law.specs.Nodes.{AreSteps}
use Rattle.passage_law.specs.Links.{is_from}
use Rattle.passage_law.specs.Naming.{Allowed, NamesMessage, Names, AllName, AreReferences}
use Rattle.passage_law.specs.References.{firsts_of, Firsts, firsts_in, IsTo, allowed}
use Rattle.passage_law.specs.Once.{is_cr_with, is_cr_from, CrComesOnce}
use Rattle.passage_law.proofs.Changing.{Change, stays, meets, gives, changed, change_by, node_changed, kept_along}
use Rattle.passage_law.proofs.RowStanding.{first_is}
use Rattle.passage_law.proofs.Linking.{sent_by, there_is}
use Rattle.passage_law.proofs.LaneNames.{MayAsk, MayOpen, legal_names}
use Rattle.passage_law.proofs.Growing.{openings_joined, opened_at, opened_by, new_firsts, firsts_after, firsts_met, step_grows}
use Rattle.passage_law.proofs.Referring.{NodeNames, Makes, MeetsSo, IsReferred, fit, wish_makes, opened_may, names_more, step_so, referred_begins, referred_kept}
use Rattle.passage_law.proofs.Freshness.{ends_of, given_by, AreFresh, among_left, among_right, among_ends, in_one_part, later_part, run_fresh}

-- Counting.

abbrev pub one_if : Bool → ℕ
one_if b = cond b 1 0

pub count_cons : {A : Type 0} (p : A → Bool) (x : A) (xs : List A) → count_by p (x ∷ xs) ≡ one_if (p x) + count_by p xs
count_cons p x xs = sum_by-cons (λ y. cond (p y) 1 0) x xs

pub count_joined : {A : Type 0} (p : A → Bool) (xs ys : List A) → count_by p (xs ++ ys) ≡ count_by p xs + count_by p ys
count_joined p xs ys = sum_by-append (λ y. cond (p y) 1 0) xs ys

count_none : {A : Type 0} (p : A → Bool) (x : A) (xs : List A) → p x ≡ false → count_by p xs ≡ 0 → count_by p (x ∷ xs) ≡ 0
count_none p x xs e none = count_cons p x xs ∙ (ap₂ (λ b k. one_if b + k) e none ∙ omega arith)

count_first : {A : Type 0} (p : A → Bool) (k : ℕ) (xs : List A) → count_by p (take k xs) ≤ count_by p xs
count_first p k xs =
    subst (λ n. count_by p (take k xs) ≤ n) (sym (count_joined p (take k xs) (drop k xs)) ∙ ap (count_by p) (take-append-drop k xs)) (omega arith)

count_kept : {A : Type 0} (p q : A → Bool) (xs : List A) → ((x : A) → q x ≡ true → p x ≡ true) → count_by q xs ≡ count_by q (filter p xs)
count_kept p q [] within = refl
count_kept p q (x ∷ xs) within = count_cons q x xs ∙ (ap (λ k. one_if (q x) + k) (count_kept p q xs within) ∙ by_test (p x) (q x) refl refl)
  where
    by_test : (a b : Bool) → p x ≡ a → q x ≡ b → one_if b + count_by q (filter p xs) ≡ count_by q (if a then x ∷ filter p xs else filter p xs)
    by_test true b e t = sym (count_cons q x (filter p xs) ∙ ap (λ c. one_if c + count_by q (filter p xs)) t)
    by_test false false e t = omega arith
    by_test false true e t = absurd (false≢true (sym e ∙ within x t))

-- CR among outputs.

abbrev pub cr_out : ℕ → Output → Bool
cr_out slr (Sent point sls bytes) = is_cr_with slr (reading_of bytes)
cr_out slr (Told ssn tell) = false
cr_out slr (Lost lost) = false

-- none with a source that may not ask
none_asked : (A : Allowed) (slr : ℕ) → ((p : ℕ) → A.asks p slr → ⊥) → (outs : List Output) → AllName A outs → count_by (cr_out slr) outs ≡ 0
none_asked A slr none [] names = refl
none_asked A slr none (out ∷ outs) names = count_none (cr_out slr) out outs (by_out out names.0) (none_asked A slr none outs names.1)
  where
    by_message : (point : ℕ) (m : Message) → NamesMessage A point m → is_cr_with slr (Ok m) ≡ false
    by_message point (Cr source class called credit calling body hop importance) is =
        false_from_ne_true (source == slr) (λ e. none point (subst (A.asks point) (eqb-true source slr e) is.1))
    by_message point _ is = refl

    by_reading : (point : ℕ) (read : Result Message ReadFault) → IfOk read (NamesMessage A point) → is_cr_with slr read ≡ false
    by_reading point (Ok m) is = by_message point m is
    by_reading point (Err fault) is = refl

    by_out : (o : Output) → Names A o → cr_out slr o ≡ false
    by_out (Sent point sls bytes) is = by_reading point (reading_of bytes) is
    by_out (Told ssn tell) is = refl
    by_out (Lost lost) is = refl

-- and an opening sends one at most
abbrev IsOnce : ℕ → Opened → Type 0
IsOnce slr o = IfSome o.connection (λ c. count_by (cr_out slr) o.outs ≤ 1)

single : (b : Bool) → 0 + one_if b ≤ 1
single true = omega arith
single false = omega arith

through_once : (slr : ℕ) (terms : Terms) (w : Wanted) (point : ℕ) (rewrite : Rewrite) (hop : Option ℕ) (refs : List ℕ) → IsOnce slr (opened_through terms w point rewrite hop refs)
through_once slr terms w point rewrite hop [] = tt
through_once slr terms w point rewrite hop (mine ∷ []) = tt
through_once slr terms w point rewrite hop (mine ∷ next ∷ refs) = single _

by_cr_once : (slr : ℕ) (terms : Terms) (w : Wanted) (answer : Answer) (refs : List ℕ) → IsOnce slr (opened_by_cr terms w answer refs)
unfolding opened_by_cr
by_cr_once slr terms w (Refused cause local) refs = tt
by_cr_once slr terms w (Local ssn) [] = tt
by_cr_once slr terms w (Local ssn) (mine ∷ refs) = omega arith
by_cr_once slr terms w (Forward point rewrite hop) refs =
    either (IsOnce slr) (fits w rewrite hop) _ _ (λ _. through_once slr terms w point rewrite hop refs) (λ _. tt)

by_user_once : (slr : ℕ) (terms : Terms) (ssn tag : ℕ) (w : Wanted) (answer : Answer) (refs : List ℕ) → IsOnce slr (opened_by_user terms ssn tag w answer refs)
unfolding opened_by_user
by_user_once slr terms ssn tag w (Refused cause local) refs = tt
by_user_once slr terms ssn tag w (Local other) refs = tt
by_user_once slr terms ssn tag w (Forward point rewrite hop) [] = tt
by_user_once slr terms ssn tag w (Forward point rewrite hop) (mine ∷ refs) = single _

opened_once : (slr : ℕ) (terms : Terms) (wish : Wish) (answer : Option Answer) (refs : List ℕ) → IsOnce slr (opened terms wish answer refs)
unfolding opened
opened_once slr terms (by_cr w) (Some answer) refs = by_cr_once slr terms w answer refs
opened_once slr terms (by_cr w) None refs = tt
opened_once slr terms (by_user ssn tag w) (Some answer) refs = by_user_once slr terms ssn tag w answer refs
opened_once slr terms (by_user ssn tag w) None refs = tt
opened_once slr terms no_wish answer refs = tt

wished_once : (slr : ℕ) (lane : Lane) (openings : List Opening) (e : Event) (wish : Wish) (answer : Option Answer)
    → IfSome (opening_of lane openings wish answer).connection (λ c. count_by (cr_out slr) (outputs_by lane openings e wish answer) ≤ 1)
unfolding opened
wished_once slr lane openings e (by_cr w) answer = opened_once slr lane.terms (by_cr w) answer (lowest_free lane openings (slots_needed (by_cr w) answer))
wished_once slr lane openings e (by_user ssn tag w) answer = opened_once slr lane.terms (by_user ssn tag w) answer (lowest_free lane openings (slots_needed (by_user ssn tag w) answer))
wished_once slr lane openings e no_wish answer = tt

legal_once : (slr : ℕ) (e : Event) (node : NodeState) → IfSome (opened_by e node) (λ c. count_by (cr_out slr) (outputs_of e node) ≤ 1)
unfolding legal_outputs
legal_once slr e node = wished_once slr (lane_of node.head 0) (openings_of node) e (wish_of node.head.terms e) (answer_of (entry_of 0 e node))

-- Each is that of a section that asks.

asks_with : ℕ → Connection → Bool
asks_with slr c = by_end c.that
  where
    by_end : End → Bool
    by_end (wire x) = x.head.mine == slr
    by_end (owner u) = false

asking_to : (p slr : ℕ) (c : Connection) → IsTo p slr c.that → asks_with slr c ≡ true
unfolding asks_with
asking_to p slr c to = by_end c.that to
  where
    by_end : (e : End) → IsTo p slr e → asks_with slr (record { this = c.this; that = e }) ≡ true
    by_end (wire x) to = eq-eqb x.head.mine slr to.1
    by_end (owner u) to = absurd to

asking_is : (slr : ℕ) (c : Connection) → asks_with slr c ≡ true → reference_of c.that ≡ Some slr
unfolding asks_with
asking_is slr c is = by_end c.that is
  where
    by_end : (e : End) → asks_with slr (record { this = c.this; that = e }) ≡ true → reference_of e ≡ Some slr
    by_end (wire x) is = ap Some (eqb-true x.head.mine slr is)
    by_end (owner u) is = absurd (false≢true is)

-- what a node may name where nothing asks but one end
abbrev asked_by_end : Firsts → ℕ → Event → (ℕ → ℕ → Type 0) → Allowed
asked_by_end f i e asks = record { stands = (allowed f i e).stands; answers = (allowed f i e).answers; asks = λ p slr. (slr < REFERENCES) × asks p slr }

fits_end : (f : Firsts) (i : ℕ) (e : Event) (asks : ℕ → ℕ → Type 0) → AreReferences (asked_by_end f i e asks)
fits_end f i e asks = record { stands = (fit f i e).stands; answers = (fit f i e).answers; asks = λ p slr s. s.0 }

event_asks : (f : Firsts) (i slr : ℕ) (e : Event) (node : NodeState) → f i ≡ firsts_of node ++ new_firsts (opened_by e node) → Makes f i node e → NodeNames f i node
    → count_by (cr_out slr) (outputs_of e node) ≤ count_by (asks_with slr) (new_firsts (opened_by e node))
event_asks f i slr e node last makes names = by_connection (opened_by e node) refl (opened_may f i e node last makes.1) (legal_once slr e node)
  where
    lane : Lane
    lane = lane_of node.head 0

    answer : Option Answer
    answer = answer_of (entry_of 0 e node)

    named : (asks : ℕ → ℕ → Type 0) → IfSome (opened_by e node) (MayOpen (asked_by_end f i e asks)) → AllName (asked_by_end f i e asks) (outputs_of e node)
    named asks may =
        legal_names (asked_by_end f i e asks) (fits_end f i e asks) lane (openings_of node) e answer makes.0 (wish_makes f i e (wish_of node.head.terms e) makes.1) may names.0

    asking_end : (that : End) → MayAsk (allowed f i e) that → MayAsk (asked_by_end f i e (λ p x. IsTo p x that)) that
    asking_end (wire x) may = (may.0, (refl, refl))
    asking_end (owner u) may = tt

    by_connection : (connection : Option Connection) → opened_by e node ≡ connection → IfSome connection (MayOpen (allowed f i e)) → IfSome connection (λ c. count_by (cr_out slr) (outputs_of e node) ≤ 1)
        → count_by (cr_out slr) (outputs_of e node) ≤ count_by (asks_with slr) (new_firsts connection)
    by_connection None is may once =
        omega (arith, none_asked (asked_by_end f i e (λ p x. ⊥)) slr (λ p asks. asks.1) (outputs_of e node) (named (λ p x. ⊥) (subst (λ c. IfSome c (MayOpen (asked_by_end f i e (λ p x. ⊥)))) (sym is) tt)))
    by_connection (Some c) is may once = by_test (asks_with slr c) refl
      where
        asks : ℕ → ℕ → Type 0
        asks p x = IsTo p x c.that

        by_test : (b : Bool) → asks_with slr c ≡ b → count_by (cr_out slr) (outputs_of e node) ≤ count_by (asks_with slr) (c ∷ [])
        by_test true t = subst (λ k. count_by (cr_out slr) (outputs_of e node) ≤ 0 + one_if k) (sym t) (omega (arith, once))
        by_test false t =
            omega (
              arith,
              none_asked (asked_by_end f i e asks) slr (λ p a. false≢true (sym t ∙ asking_to p slr c a.1)) (outputs_of e node)
                  (named asks (subst (λ x. IfSome x (MayOpen (asked_by_end f i e asks))) (sym is) (may.0, asking_end c.that may.1))),
            )

-- Along a journal, the CR of each entry is that of a section that it opened.

abbrev EachAsks : Lane → List Opening → List Entry → Type 0
EachAsks lane openings [] = Unit {0}
EachAsks lane openings (entry ∷ journal) =
    ((slr : ℕ) → count_by (cr_out slr) entry.outs ≤ count_by (asks_with slr) (new_firsts (opened_at lane openings entry)))
    × EachAsks lane (openings_after lane openings entry.event (answer_of entry)) journal

each_more : (lane : Lane) (openings : List Opening) (journal : List Entry) (entry : Entry) → EachAsks lane openings journal
    → ((slr : ℕ) → count_by (cr_out slr) entry.outs ≤ count_by (asks_with slr) (new_firsts (opened_at lane (openings_from lane openings journal) entry)))
    → EachAsks lane openings (journal ++ entry ∷ [])
each_more lane openings [] entry all last = (last, tt)
each_more lane openings (e ∷ journal) entry all last = (all.0, each_more lane (openings_after lane openings e.event (answer_of e)) journal entry all.1 last)

each_parts : (lane : Lane) (openings : List Opening) (one other : List Entry) → EachAsks lane openings (one ++ other) → EachAsks lane openings one × EachAsks lane (openings_from lane openings one) other
each_parts lane openings [] other all = (tt, all)
each_parts lane openings (e ∷ one) other all =
    let rest = each_parts lane (openings_after lane openings e.event (answer_of e)) one other all.1 in ((all.0, rest.0), rest.1)

abbrev all_outs : List Entry → List Output
all_outs journal = flat_map (λ (e : Entry). e.outs) journal

abbrev all_firsts : List Opening → List Connection
all_firsts openings = map (λ (o : Opening). o.first) openings

-- so there are no more of them than of sections that ask
asks_along : (slr : ℕ) (lane : Lane) (openings : List Opening) (journal : List Entry) → EachAsks lane openings journal
    → count_by (cr_out slr) (all_outs journal) + count_by (asks_with slr) (all_firsts openings) ≤ count_by (asks_with slr) (all_firsts (openings_from lane openings journal))
asks_along slr lane openings [] all = omega arith
asks_along slr lane openings (entry ∷ journal) all =
    let later = openings_after lane openings entry.event (answer_of entry) in
    let new = new_firsts (opened_at lane openings entry) in
    let one : count_by (cr_out slr) (all_outs (entry ∷ journal)) ≡ count_by (cr_out slr) entry.outs + count_by (cr_out slr) (all_outs journal) = count_joined (cr_out slr) entry.outs (all_outs journal) in
    let two : count_by (asks_with slr) (all_firsts later) ≡ count_by (asks_with slr) (all_firsts openings) + count_by (asks_with slr) new =
    ap (count_by (asks_with slr)) (firsts_after lane openings entry) ∙ count_joined (asks_with slr) (all_firsts openings) new in
    omega (arith, one, two, all.0 slr, asks_along slr lane later journal all.1)

-- Along the run.

abbrev AsksSo : NodeState → Type 0
AsksSo node = EachAsks (lane_of node.head 0) [] node.journal

meets_so : (f : Firsts) (i number : ℕ) (e : Event) (node : NodeState) → f i ≡ firsts_of (after_event number e node) → Makes f i node e → NodeNames f i node → AsksSo node → AsksSo (after_event number e node)
meets_so f i number e node is makes names so =
    each_more (lane_of node.head 0) [] node.journal (entry_of number e node) so (λ slr. event_asks f i slr e node (is ∙ firsts_met number e node) makes names)

changed_so : (f : Firsts) (i : ℕ) (change : Change) (node : NodeState) → f i ≡ firsts_of (changed change node) → MeetsSo f i node change → NodeNames f i node → AsksSo node → AsksSo (changed change node)
changed_so f i stays node is makes names so = so
changed_so f i (meets number e) node is makes names so = meets_so f i number e node is makes names so
changed_so f i (gives true) node is makes names so = so
changed_so f i (gives false) node is makes names so = so

record IsAsking (n : ℕ) (r : RunState) : Type 0 where
  referred : IsReferred n r
  each : (i : ℕ) → 1 ≤ i → i ≤ n → AsksSo (node_at i r.nodes)

asking_kept : (n : ℕ) → 2 ≤ n → (r : RunState) (step : Step) → IsTrue (is_step n step) → IsAsking n r → IsAsking n (after_step r step)
asking_kept n two r step is asking = record {
  referred = referred_kept n two r step is asking.referred;
  each = λ i least most.
      let g = firsts_in (after_step r step) in
      let after = node_changed n i r step two is least (subst (λ k. i ≤ k) (sym asking.referred.row.nodes.long) most) in
      subst AsksSo (sym after)
      (changed_so g i (change_by r step i) (node_at i r.nodes) (ap firsts_of after) (step_so n i r step two is asking.referred)
      (names_more (firsts_in r) g i (step_grows r step) (node_at i r.nodes) (asking.referred.names i least most)) (asking.each i least most));
}

asking_begins : (n : ℕ) → IsAsking n (start n)
asking_begins n = record {
  referred = referred_begins n;
  each = λ i least most. subst AsksSo (sym (first_is n i least most)) tt;
}

is_asking : (n : ℕ) (steps : List Step) → 2 ≤ n → AreSteps n steps → IsAsking n (run_of n steps)
is_asking n steps two are = kept_along n (IsAsking n) (asking_kept n two) (start n) steps are (asking_begins n)

-- No two sections that ask have one reference.

none_asks : (slr : ℕ) (cs : List Connection) → is_among slr (given_by cs) ≡ false → count_by (asks_with slr) cs ≡ 0
none_asks slr [] none = refl
none_asks slr (c ∷ cs) none =
    count_none (asks_with slr) c cs
    (false_from_ne_true (asks_with slr c) (λ is. false≢true (sym none ∙ among_left slr (ends_of c) (given_by cs) (among_ends slr (λ e. reference_of e ≡ Some slr) false c (λ e has. has) (asking_is slr c is)))))
    (none_asks slr cs (false_from_ne_true (is_among slr (given_by cs)) (λ is. false≢true (sym none ∙ among_right slr (ends_of c) (given_by cs) is))))

asks_once : (slr : ℕ) (cs : List Connection) → AreFresh cs → count_by (asks_with slr) cs ≤ 1
asks_once slr [] fresh = omega arith
asks_once slr (c ∷ cs) fresh = by_test (asks_once slr cs (later_part (ends_of c) (given_by cs) fresh)) (asks_with slr c) refl
  where
    by_test : count_by (asks_with slr) cs ≤ 1 → (b : Bool) → asks_with slr c ≡ b → count_by (asks_with slr) (c ∷ cs) ≤ 1
    by_test later true t =
        let none = none_asks slr cs (false_from_ne_true (is_among slr (given_by cs))
        (λ is. in_one_part slr (ends_of c) (given_by cs) fresh (among_ends slr (λ e. reference_of e ≡ Some slr) false c (λ e has. has) (asking_is slr c t)) is)) in
        let all : count_by (asks_with slr) (c ∷ cs) ≡ 1 + 0 = count_cons (asks_with slr) c cs ∙ ap₂ (λ b k. one_if b + k) t none in
        omega (arith, all)
    by_test later false t =
        let all : count_by (asks_with slr) (c ∷ cs) ≡ 0 + count_by (asks_with slr) cs = count_cons (asks_with slr) c cs ∙ ap (λ b. one_if b + count_by (asks_with slr) cs) t in
        omega (arith, all, later)

-- What was sent to a point.

abbrev cr_event : ℕ → Event → Bool
cr_event slr (Arrived point sls bytes) = is_cr_with slr (reading_of bytes)
cr_event slr _ = false

sent_count : (slr own to : ℕ) (out : Output) → count_by (cr_event slr) (arrives own to out) ≤ one_if (cr_out slr out)
sent_count slr own to (Sent point sls bytes) = by_test (point == to)
  where
    by_test : (b : Bool) → count_by (cr_event slr) (if b then Arrived own sls bytes ∷ [] else []) ≤ one_if (is_cr_with slr (reading_of bytes))
    by_test true = omega arith
    by_test false = omega arith
sent_count slr own to (Told ssn tell) = omega arith
sent_count slr own to (Lost lost) = omega arith

outs_count : (slr own to : ℕ) (outs : List Output) → count_by (cr_event slr) (messages_in own to outs) ≤ count_by (cr_out slr) outs
outs_count slr own to [] = omega arith
outs_count slr own to (out ∷ outs) =
    omega (arith, count_joined (cr_event slr) (arrives own to out) (messages_in own to outs), count_cons (cr_out slr) out outs, sent_count slr own to out, outs_count slr own to outs)

journal_count : (slr own to : ℕ) (journal : List Entry) → count_by (cr_event slr) (flat_map (λ (e : Entry). messages_in own to e.outs) journal) ≤ count_by (cr_out slr) (flat_map (λ (e : Entry). e.outs) journal)
journal_count slr own to [] = omega arith
journal_count slr own to (e ∷ journal) =
    omega (
      arith,
      count_joined (cr_event slr) (messages_in own to e.outs) (flat_map (λ (x : Entry). messages_in own to x.outs) journal),
      count_joined (cr_out slr) e.outs (flat_map (λ (x : Entry). x.outs) journal),
      outs_count slr own to e.outs,
      journal_count slr own to journal,
    )

-- And what arrived is the first of it.

cr_is_from : (i slr : ℕ) (e : Event) → is_cr_from i slr e ≡ true → is_from i e ≡ true
cr_is_from i slr (Arrived point sls bytes) is = (and_parts (point == i) (is_cr_with slr (reading_of bytes)) is).0
cr_is_from i slr (Requested ssn q) is = absurd (false≢true is)
cr_is_from i slr Ticked is = absurd (false≢true is)

fewer : (i slr : ℕ) (e : Event) → one_if (is_cr_from i slr e) ≤ one_if (cr_event slr e)
fewer i slr (Arrived point sls bytes) = by_test (point == i) (is_cr_with slr (reading_of bytes))
  where
    by_test : (a b : Bool) → one_if (a && b) ≤ one_if b
    by_test true b = omega arith
    by_test false b = omega arith
fewer i slr (Requested ssn q) = omega arith
fewer i slr Ticked = omega arith

all_fewer : (i slr : ℕ) (events : List Event) → count_by (is_cr_from i slr) events ≤ count_by (cr_event slr) events
all_fewer i slr [] = omega arith
all_fewer i slr (e ∷ events) = omega (arith, count_cons (is_cr_from i slr) e events, count_cons (cr_event slr) e events, fewer i slr e, all_fewer i slr events)

pub cr_comes_once : CrComesOnce
cr_comes_once n i slr forward steps are two least most t fresh =
    let r = run_of n steps in
    let one = node_at i r.nodes in
    let other = node_at (neighbour forward i) r.nodes in
    let there = there_is n i forward least most t in
    let asking = is_asking n steps two are in
    let link = asking.referred.row.links i forward least most there.0 there.1 in
    let events : List Event = map (λ (e : Entry). e.event) other.journal in
    let sent : List Event = sent_by i (neighbour forward i) one in
    let arrived : count_by (is_cr_from i slr) events ≡ count_by (is_cr_from i slr) (take (given_of forward one) sent) =
    count_kept (is_from i) (is_cr_from i slr) events (cr_is_from i slr) ∙ ap (count_by (is_cr_from i slr)) link.first in
    let asks : count_by (cr_out slr) (all_outs one.journal) + 0 ≤ count_by (asks_with slr) (firsts_of one) = asks_along slr (lane_of one.head 0) [] one.journal (asking.each i least most) in
    omega (
      arith,
      arrived,
      count_first (is_cr_from i slr) (given_of forward one) sent,
      all_fewer i slr sent,
      journal_count slr i (neighbour forward i) one.journal,
      asks,
      asks_once slr (firsts_of one) (run_fresh r i least (subst (λ k. i ≤ k) (sym asking.referred.row.nodes.long) most) fresh),
    )

-- The entry that opened a section sends its CR alone.

none_counted : {A : Type 0} (p : A → Bool) (xs : List A) → count_by p xs ≡ 0 → AllByRecursion (λ x. p x ≡ true → ⊥) xs
none_counted p [] none = tt
none_counted p (x ∷ xs) none =
    let all : one_if (p x) + count_by p xs ≡ 0 = sym (count_cons p x xs) ∙ none in
    (λ is. one_at_least (count_by p xs) (subst (λ b. one_if b + count_by p xs ≡ 0) is all), none_counted p xs (omega (arith, all)))
  where
    one_at_least : (k : ℕ) → 1 + k ≡ 0 → ⊥
    one_at_least k none = omega (arith, none)

-- none of these messages is CR with this source
abbrev pub IsNoCr : ℕ → ℕ → Event → Type 0
IsNoCr i slr event = is_cr_from i slr event ≡ true → ⊥

abbrev pub sent_among : ℕ → ℕ → List Entry → List Event
sent_among own to journal = flat_map (λ (e : Entry). messages_in own to e.outs) journal

no_cr_among : (i to slr : ℕ) (journal : List Entry) → count_by (cr_out slr) (all_outs journal) ≡ 0 → AllByRecursion (IsNoCr i slr) (sent_among i to journal)
no_cr_among i to slr journal none =
    none_counted (is_cr_from i slr) (sent_among i to journal) (omega (arith, none, all_fewer i slr (sent_among i to journal), journal_count slr i to journal))

pub cr_is_of_opening : (n i to p slr : ℕ) (steps : List Step) (before since : List Entry) (by : Entry) (c : Connection) → AreSteps n steps → 2 ≤ n → 1 ≤ i → i ≤ n → (let r = run_of n steps in
    let node = node_at i r.nodes in
    let lane = lane_of node.head 0 in
    all_fresh r ≡ true → node.journal ≡ before ++ by ∷ since → opened_at lane (openings_from lane [] before) by ≡ Some c → IsTo p slr c.that →
    AllByRecursion (IsNoCr i slr) (sent_among i to before) × AllByRecursion (IsNoCr i slr) (sent_among i to since))
cr_is_of_opening n i to p slr steps before since by c are two least most fresh journal opens asks =
    let r = run_of n steps in
    let node = node_at i r.nodes in
    let lane = lane_of node.head 0 in
    let asking = is_asking n steps two are in
    let early = openings_from lane [] before in
    let later = openings_after lane early by.event (answer_of by) in
    let last = openings_from lane later since in
    let parts = each_parts lane [] before (by ∷ since) (subst (EachAsks lane []) journal (asking.each i least most)) in
    let first : count_by (cr_out slr) (all_outs before) + 0 ≤ count_by (asks_with slr) (all_firsts early) = asks_along slr lane [] before parts.0 in
    let rest : count_by (cr_out slr) (all_outs since) + count_by (asks_with slr) (all_firsts later) ≤ count_by (asks_with slr) (all_firsts last) = asks_along slr lane later since parts.1.1 in
    let new : count_by (asks_with slr) (all_firsts later) ≡ count_by (asks_with slr) (all_firsts early) + 1 =
    ap (count_by (asks_with slr)) (firsts_after lane early by)
    ∙ (count_joined (asks_with slr) (all_firsts early) (new_firsts (opened_at lane early by))
    ∙ (ap (λ o. count_by (asks_with slr) (all_firsts early) + count_by (asks_with slr) (new_firsts o)) opens
    ∙ ap (λ b. count_by (asks_with slr) (all_firsts early) + (0 + one_if b)) (asking_to p slr c asks))) in
    let whole : firsts_of node ≡ all_firsts last = ap (λ entries. all_firsts (openings_from lane [] entries)) journal ∙ ap all_firsts (openings_joined lane [] before (by ∷ since)) in
    let once : count_by (asks_with slr) (all_firsts last) ≤ 1 =
    subst (λ firsts. count_by (asks_with slr) firsts ≤ 1) whole (asks_once slr (firsts_of node) (run_fresh r i least (subst (λ k. i ≤ k) (sym asking.referred.row.nodes.long) most) fresh)) in (
      no_cr_among i to slr before (omega (arith, first, rest, new, once)),
      no_cr_among i to slr since (omega (arith, rest, new, once)),
    )
