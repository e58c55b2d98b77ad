-- CR goes to the next node.
use Rattle.std.proofs.Common.{◌≡◌, ℕ, ◌≤◌, ◌<◌, ◌+◌, ◌-◌, ◌/◌, ◌%◌, ◌==◌, ◌||◌, not, nat_lt, Bool, true, false, List, [], ◌∷◌, length, if◌then◌else◌, Option, Some, None, IfSome, Result, Ok, Err, IfOk, IsTrue, refl, sym, subst, ap, ◌∙◌, eq-eqb, ltb-true}
use Rattle.std.specs.Prelude.{nat_eq, slice_index, slice_get, drop}
use Rattle.std.specs.List.{AllByRecursion}
use Rattle.std.proofs.lemmas.Bool.{false≢true, and_parts}
use lib.Pointwise.{pointwise, bytes_decides}
use Rattle.relay_base.specs.Giving.{◌>>=◌}
use Rattle.relay_base.specs.declared.words.Event.{Event}
use Rattle.relay_base.specs.declared.words.Event.TheVariants.{Message as Arrived, Asked as Requested, Tick as Ticked}
use Rattle.relay_base.specs.declared.words.ReadFault.{ReadFault}
use Rattle.relay_base.specs.declared.words.Request.{Request}
use Rattle.relay_base.specs.declared.words.Request.TheVariants as request
use Rattle.sccp_address.specs.Form.{Form, TitleForm}
use Rattle.sccp_address.specs.Parsing.{point_at, ssn_at, address_of}
use Rattle.sccp_address.specs.Titles.{title_at, dialled_of}
use Rattle.sccp_address.specs.declared.address.AddressFault.{AddressFault}
use Rattle.sccp_address.specs.declared.address.Selector.{Selector}
use Rattle.gtt_table.specs.declared.row.Row.{Row}
use Rattle.gtt_table.specs.declared.row.Entity.{Entity}
use Rattle.gtt_table.specs.Rows.{is_match}
use Rattle.gtt_table.specs.Translation.{Found, no_selector, no_prefix, found, longer, has_selector, found_row, translation_of}
use Rattle.plant_core.specs.Asking.{Question, asked_at, answer_in}
use Rattle.plant_core.specs.Plant.{RoutingData, is_among}
use Rattle.plant_core.specs.Routing.{local_answer, ssn_answer, availability_of, entity_answer, row_answer, found_answer, title_answer, route_of}
use Rattle.plant_core.specs.declared.answer.Answer.{Answer}
use Rattle.plant_core.specs.declared.answer.Answer.TheVariants.{Local, Forward, Refused}
use Rattle.plant_core.specs.declared.answer.Origin.TheVariants.{Network, User as FromUser}
use Rattle.plant_core.specs.declared.answer.Rewrite.{Rewrite}
use Rattle.plant_core.specs.declared.answer.RouteCause.{RouteCause}
use Rattle.plant_core.specs.declared.answer.TheConstants.{MOST_HOPS}
use Rattle.plant_core.specs.declared.terms.Terms.{Terms}
use Rattle.q713_codec.specs.Names.{Message}
use Rattle.q713_codec.specs.declared.message.Message.TheVariants.{Cr}
use Rattle.q713_codec.specs.Reading.{reading_of}
use Rattle.section_model.specs.Ends.{Connection}
use Rattle.section_model.specs.Opening.{Wanted, Wish, by_cr, by_user, no_wish, wish_of, wish_of_message, wish_of_reading, may_be_wanted, asked_for, question_of, fits, opened_through, opened_by_cr, opened_by_user, opened, Opened, slots_needed}
use Rattle.section_model.specs.Journals.{lane_of}
use Rattle.section_model.specs.Lane.{lowest_free, answer_of}
use Rattle.connection_law.proofs.Flow.Flowing.{either}
use Rattle.chain_step.specs.declared.step.Step.{Step}
use Rattle.chain_step.specs.declared.step.Step.TheVariants.{Ask, Pass, Tick}
use Rattle.chain_step.specs.declared.terms.TheConstants.{USER}
use Rattle.chain_step.specs.Run.{NodeState, RunState, rows_of, routing_of, row_to, neighbour, given_of, waiting, node_at, openings_of, entry_of, start, after_step}
use Rattle.chain_step.specs.Steps.{title_address, is_askable, is_step}
use Rattle.passage_law.specs.Links.{is_from}
use Rattle.passage_law.specs.References.{firsts_of}
use Rattle.passage_law.specs.Ways.{IsOnward, AllGoOn}
use Rattle.passage_law.proofs.Changing.{Change, stays, meets, gives, changed, at_node, passes, change_by, node_changed, kept_along}
use Rattle.hop_law.proofs.Lists.{all_joined}
use Rattle.passage_law.proofs.RowStanding.{AreNodes, first_is, nodes_begin, nodes_kept}
use Rattle.passage_law.proofs.Linking.{sent_by, waits_from}
use Rattle.passage_law.proofs.Growing.{opened_by, new_firsts, firsts_met}

-- Routing leads on.

-- from node i of n to the next node
abbrev LeadsOn : ℕ → ℕ → Answer → Type 0
LeadsOn n i (Local ssn) = Unit {0}
LeadsOn n i (Forward point rewrite hop) = (point ≡ i + 1) × (i < n)
LeadsOn n i (Refused cause local) = Unit {0}

entity_leads : (n i : ℕ) (p : RoutingData) (hop : Option ℕ) (e : Entity) → e.point ≡ i + 1 → i < n → LeadsOn n i (entity_answer p hop e)
unfolding entity_answer
entity_leads n i p hop e same less = by_available (availability_of p e) refl
  where
    by_available : (r : Result (Unit {0}) RouteCause) → availability_of p e ≡ r → LeadsOn n i (entity_answer p hop e)
    by_available (Ok available) is = rw is (either (LeadsOn n i) (e.point == p.own) _ _ (λ _. tt) (λ _. (same, less)))
    by_available (Err cause) is = rw is tt

row_leads : (n i : ℕ) (p : RoutingData) (hop : Option ℕ) → i < n → LeadsOn n i (row_answer p hop (row_to n (i + 1)))
row_leads n i p None less = entity_leads n i p None (row_to n (i + 1)).first refl less
row_leads n i p (Some hop) less =
    either (LeadsOn n i) (nat_lt hop 2 || nat_lt MOST_HOPS hop) _ _ (λ _. tt) (λ _. entity_leads n i p (Some (hop - 1)) (row_to n (i + 1)).first refl less)

abbrev IsRowOn : ℕ → ℕ → Found → Type 0
IsRowOn n i no_selector = Unit {0}
IsRowOn n i no_prefix = Unit {0}
IsRowOn n i (found row) = (row ≡ row_to n (i + 1)) × (i < n)

one_row : (n i : ℕ) (s : Selector) (digits : List ℕ) → i < n → IsRowOn n i (translation_of (row_to n (i + 1) ∷ []) s digits)
unfolding translation_of
one_row n i s digits less = either (IsRowOn n i) (has_selector s (row_to n (i + 1) ∷ [])) _ _ (λ _. by_match (is_match s digits (row_to n (i + 1)))) (λ _. tt)
  where
    by_match : (b : Bool) → IsRowOn n i (found_row (longer (if b then Some (row_to n (i + 1)) else None) None))
    by_match true = (refl, less)
    by_match false = tt

no_row : (n i : ℕ) (s : Selector) (digits : List ℕ) → IsRowOn n i (translation_of [] s digits)
unfolding translation_of
no_row n i s digits = tt

found_leads : (n i : ℕ) (p : RoutingData) (hop : Option ℕ) (f : Found) → IsRowOn n i f → LeadsOn n i (found_answer p hop f)
found_leads n i p hop no_selector is = tt
found_leads n i p hop no_prefix is = tt
found_leads n i p hop (found row) is = subst (λ r. LeadsOn n i (row_answer p hop r)) (sym is.0) (row_leads n i p hop is.1)

title_leads : (n i : ℕ) (title : TitleForm) (hop : Option ℕ) → LeadsOn n i (title_answer (routing_of n i) title hop)
unfolding title_answer
title_leads n i title hop = by_dialled (dialled_of title) refl
  where
    rows : (s : Selector) (digits : List ℕ) → IsRowOn n i (translation_of (rows_of n i) s digits)
    rows s digits = either (λ (rows : List Row). IsRowOn n i (translation_of rows s digits)) (nat_lt i n) _ _ (λ less. one_row n i s digits (ltb-true i n less)) (λ _. no_row n i s digits)

    by_dialled : (d : Option (Selector × List ℕ)) → dialled_of title ≡ d → LeadsOn n i (title_answer (routing_of n i) title hop)
    by_dialled None is = rw is tt
    by_dialled (Some d) is = rw is (found_leads n i (routing_of n i) hop (translation_of (rows_of n i) d.0 d.1) (rows d.0 d.1))

local_leads : (n i : ℕ) (p : RoutingData) (ssn : ℕ) → LeadsOn n i (local_answer p ssn)
unfolding local_answer
local_leads n i p ssn = either (LeadsOn n i) (not (is_among ssn p.users)) _ _ (λ _. tt) (λ _. either (LeadsOn n i) (is_among ssn p.out_of_service) _ _ (λ _. tt) (λ _. tt))

network_leads : (n i : ℕ) (a : Form) (hop : Option ℕ) → LeadsOn n i (route_of (routing_of n i) a hop Network)
unfolding route_of ssn_answer
network_leads n i a hop = either (LeadsOn n i) a.on_ssn _ _ (λ _. local_leads n i (routing_of n i) _) (λ _. title_leads n i a.title hop)

user_leads : (n i : ℕ) (a : Form) → a.on_ssn ≡ false → LeadsOn n i (route_of (routing_of n i) a None FromUser)
unfolding route_of
user_leads n i a off =
    either (LeadsOn n i) a.on_ssn _ _ (λ on. absurd (false≢true (sym off ∙ on))) (λ _. title_leads n i a.title None)

-- The titles that users call.

abbrev IsByTitle : List ℕ → Result Form AddressFault → Type 0
IsByTitle octets r = IfOk r (λ a. a.on_ssn ≡ (slice_index octets 0 / 64 % 2 == 1))

on_ssn_read : (octets : List ℕ) → IsByTitle octets (address_of octets)
unfolding address_of
on_ssn_read octets = either (IsByTitle octets) (length octets == 0) _ _ (λ _. tt) (λ _. by_point (point_at (slice_index octets 0 % 2 == 1) (drop 1 octets)))
  where
    by_title : (point ssn : Option ℕ) (r : Result TitleForm AddressFault) → IsByTitle octets (r >>= (λ title. Ok (record { point = point; ssn = ssn; title = title; on_ssn = slice_index octets 0 / 64 % 2 == 1 })))
    by_title point ssn (Ok title) = refl
    by_title point ssn (Err fault) = tt

    by_ssn : (point : Option ℕ) (r : Result (Option ℕ × List ℕ) AddressFault)
        → IsByTitle octets
        (r >>= (λ ssn. title_at (slice_index octets 0 / 4 % 16) ssn.1
        >>= (λ title. Ok (record { point = point; ssn = ssn.0; title = title; on_ssn = slice_index octets 0 / 64 % 2 == 1 }))))
    by_ssn point (Ok ssn) = by_title point ssn.0 (title_at (slice_index octets 0 / 4 % 16) ssn.1)
    by_ssn point (Err fault) = tt

    by_point : (r : Result (Option ℕ × List ℕ) AddressFault)
        → IsByTitle octets
        (r >>= (λ point. ssn_at (slice_index octets 0 / 2 % 2 == 1) point.1
        >>= (λ ssn. title_at (slice_index octets 0 / 4 % 16) ssn.1
        >>= (λ title. Ok (record { point = point.0; ssn = ssn.0; title = title; on_ssn = slice_index octets 0 / 64 % 2 == 1 })))))
    by_point (Ok point) = by_ssn point.0 (ssn_at (slice_index octets 0 / 2 % 2 == 1) point.1)
    by_point (Err fault) = tt

-- What an event wants is answered so.

abbrev IsOfTitle : Wish → Type 0
IsOfTitle (by_cr w) = Unit {0}
IsOfTitle (by_user ssn tag w) = w.called ≡ title_address
IsOfTitle no_wish = Unit {0}

abbrev AnswerLeads : ℕ → ℕ → Option Answer → Type 0
AnswerLeads n i answer = IfSome answer (LeadsOn n i)

wish_leads : (n i : ℕ) (wish : Wish) → IsOfTitle wish → AnswerLeads n i (answer_in (asked_at 0 (routing_of n i) (question_of wish)))
unfolding question_of
wish_leads n i (by_cr w) of = either (λ (q : Option Question). AnswerLeads n i (answer_in (asked_at 0 (routing_of n i) q))) (w.class == 2 || w.class == 3) _ _ (λ _. by_address (address_of w.called)) (λ _. tt)
  where
    by_address : (r : Result Form AddressFault) → AnswerLeads n i (answer_in (asked_at 0 (routing_of n i) (asked_for w.hop Network r)))
    by_address (Ok a) = network_leads n i a w.hop
    by_address (Err fault) = tt
wish_leads n i (by_user ssn tag w) of = by_address (address_of w.called) (subst (λ octets. IsByTitle octets (address_of w.called)) of (on_ssn_read w.called))
  where
    by_address : (r : Result Form AddressFault) → IsByTitle title_address r → AnswerLeads n i (answer_in (asked_at 0 (routing_of n i) (asked_for None FromUser r)))
    by_address (Ok a) is = user_leads n i a is
    by_address (Err fault) is = tt
wish_leads n i no_wish of = tt

-- What is opened goes where the answer leads.

abbrev OpensOn : ℕ → ℕ → Opened → Type 0
OpensOn n i o = IfSome o.connection (λ c. IsOnward n i c.that)

through_on : (n i : ℕ) (terms : Terms) (w : Wanted) (rewrite : Rewrite) (hop : Option ℕ) (refs : List ℕ) → i < n → OpensOn n i (opened_through terms w (i + 1) rewrite hop refs)
through_on n i terms w rewrite hop [] less = tt
through_on n i terms w rewrite hop (mine ∷ []) less = tt
through_on n i terms w rewrite hop (mine ∷ other ∷ refs) less = (refl, less)

by_cr_on : (n i : ℕ) (terms : Terms) (w : Wanted) (answer : Answer) (refs : List ℕ) → LeadsOn n i answer → OpensOn n i (opened_by_cr terms w answer refs)
unfolding opened_by_cr
by_cr_on n i terms w (Refused cause local) refs leads = tt
by_cr_on n i terms w (Local ssn) [] leads = tt
by_cr_on n i terms w (Local ssn) (mine ∷ refs) leads = tt
by_cr_on n i terms w (Forward point rewrite hop) refs leads =
    either (OpensOn n i) (fits w rewrite hop) _ _
    (λ _. subst (λ p. OpensOn n i (opened_through terms w p rewrite hop refs)) (sym leads.0) (through_on n i terms w rewrite hop refs leads.1)) (λ _. tt)

by_user_on : (n i : ℕ) (terms : Terms) (ssn tag : ℕ) (w : Wanted) (answer : Answer) (refs : List ℕ) → LeadsOn n i answer → OpensOn n i (opened_by_user terms ssn tag w answer refs)
unfolding opened_by_user
by_user_on n i terms ssn tag w (Refused cause local) refs leads = tt
by_user_on n i terms ssn tag w (Local other) refs leads = tt
by_user_on n i terms ssn tag w (Forward point rewrite hop) [] leads = tt
by_user_on n i terms ssn tag w (Forward point rewrite hop) (mine ∷ refs) leads = leads

opened_on : (n i : ℕ) (terms : Terms) (wish : Wish) (answer : Option Answer) (refs : List ℕ) → AnswerLeads n i answer → OpensOn n i (opened terms wish answer refs)
unfolding opened
opened_on n i terms (by_cr w) (Some answer) refs leads = by_cr_on n i terms w answer refs leads
opened_on n i terms (by_cr w) None refs leads = tt
opened_on n i terms (by_user ssn tag w) (Some answer) refs leads = by_user_on n i terms ssn tag w answer refs leads
opened_on n i terms (by_user ssn tag w) None refs leads = tt
opened_on n i terms no_wish answer refs leads = tt

new_on : (n i : ℕ) (e : Event) (node : NodeState) → node.routing ≡ routing_of n i → IsOfTitle (wish_of node.head.terms e) → AllByRecursion (λ (c : Connection). IsOnward n i c.that) (new_firsts (opened_by e node))
new_on n i e node routing of =
    by_connection (opened_by e node) (opened_on n i node.head.terms wish (answer_of (entry_of 0 e node)) (lowest_free (lane_of node.head 0) (openings_of node) (slots_needed wish (answer_of (entry_of 0 e node))))
    (subst (λ p. AnswerLeads n i (answer_in (asked_at 0 p (question_of wish)))) (sym routing) (wish_leads n i wish of)))
  where
    wish : Wish
    wish = wish_of node.head.terms e

    by_connection : (connection : Option Connection) → IfSome connection (λ c. IsOnward n i c.that) → AllByRecursion (λ (c : Connection). IsOnward n i c.that) (new_firsts connection)
    by_connection None on = tt
    by_connection (Some c) on = (on, tt)

-- Along the run.

record GoOn (n : ℕ) (r : RunState) : Type 0 where
  nodes : AreNodes n r
  on : (i : ℕ) → 1 ≤ i → i ≤ n → AllByRecursion (λ (c : Connection). IsOnward n i c.that) (firsts_of (node_at i r.nodes))

abbrev WantsTitle : NodeState → Change → Type 0
WantsTitle node stays = Unit {0}
WantsTitle node (meets number e) = IsOfTitle (wish_of node.head.terms e)
WantsTitle node (gives forward) = Unit {0}

changed_on : (n i : ℕ) (change : Change) (node : NodeState) → node.routing ≡ routing_of n i → WantsTitle node change → AllByRecursion (λ (c : Connection). IsOnward n i c.that) (firsts_of node)
    → AllByRecursion (λ (c : Connection). IsOnward n i c.that) (firsts_of (changed change node))
changed_on n i stays node routing wants on = on
changed_on n i (meets number e) node routing wants on =
    subst (AllByRecursion (λ (c : Connection). IsOnward n i c.that)) (sym (firsts_met number e node))
    (all_joined (λ (c : Connection). IsOnward n i c.that) (firsts_of node) (new_firsts (opened_by e node)) on (new_on n i e node routing wants))
changed_on n i (gives true) node routing wants on = on
changed_on n i (gives false) node routing wants on = on

request_wants : (terms : Terms) (q : Request) → IsTrue (is_askable q) → IsOfTitle (wish_of terms (Requested USER q))
unfolding wish_of
request_wants terms (request.Conn tag class credit called body) may =
    either IsOfTitle (may_be_wanted class credit called body) _ _
    (λ _. (bytes_decides called title_address).0 (and_parts (may_be_wanted class credit called body) (pointwise nat_eq called title_address) may).1) (λ _. tt)
request_wants terms _ may = tt

message_wants : (terms : Terms) (point sls : ℕ) (m : Message) → IsOfTitle (wish_of_message terms point sls m)
message_wants terms point sls (Cr slr class called credit calling body hop importance) = tt
message_wants terms point sls _ = tt

arrived_wants : (terms : Terms) (e : Event) → ((q : Request) (ssn : ℕ) → e ≡ Requested ssn q → ⊥) → IsOfTitle (wish_of terms e)
unfolding wish_of
arrived_wants terms (Arrived point sls bytes) none = by_reading (reading_of bytes)
  where
    by_reading : (read : Result Message ReadFault) → IsOfTitle (wish_of_reading terms point sls read)
    by_reading (Ok m) = message_wants terms point sls m
    by_reading (Err fault) = tt
arrived_wants terms (Requested ssn q) none = absurd (none q ssn refl)
arrived_wants terms Ticked none = tt

-- a message that waits is no request
no_request : (own to k ssn : ℕ) (e : Event) (q : Request) (one : NodeState) → slice_get (sent_by own to one) k ≡ Some e → e ≡ Requested ssn q → ⊥
no_request own to k ssn e q one first is =
    false≢true (ap (is_from own) (sym is) ∙ (waits_from own to k e one first own ∙ eq-eqb own own refl))

at_node_wants : (i j number : ℕ) (e : Event) (node : NodeState) → IsOfTitle (wish_of node.head.terms e) → WantsTitle node (at_node j (meets number e) i)
at_node_wants i j number e node of = by_test (i == j)
  where
    by_test : (b : Bool) → WantsTitle node (if b then meets number e else stays)
    by_test true = of
    by_test false = tt

step_wants : (n i : ℕ) (r : RunState) (step : Step) → IsTrue (is_step n step) → WantsTitle (node_at i r.nodes) (change_by r step i)
step_wants n i r (Ask j request) is =
    at_node_wants i j (r.taken + 1) (Requested USER request) (node_at i r.nodes)
    (request_wants (node_at i r.nodes).head.terms request (and_parts (j == 1 || j == n) (is_askable request) is).1)
step_wants n i r (Tick j) is = at_node_wants i j (r.taken + 1) Ticked (node_at i r.nodes) (arrived_wants (node_at i r.nodes).head.terms Ticked (λ q ssn e. absurd (cc)))
step_wants n i r (Pass j g) is = by_message (waiting g (node_at j r.nodes)) refl
  where
    by_message : (message : Option Event) → waiting g (node_at j r.nodes) ≡ message → WantsTitle (node_at i r.nodes) (passes (r.taken + 1) j g message i)
    by_message None none = tt
    by_message (Some e) some = by_test (i == j)
      where
        by_test : (b : Bool) → WantsTitle (node_at i r.nodes) (if b then gives g else at_node (neighbour g j) (meets (r.taken + 1) e) i)
        by_test true = tt
        by_test false =
            let own = (node_at j r.nodes).head.terms.own in
            at_node_wants i (neighbour g j) (r.taken + 1) e (node_at i r.nodes)
            (arrived_wants (node_at i r.nodes).head.terms e (λ q ssn e_is. no_request own (neighbour g own) (given_of g (node_at j r.nodes)) ssn e q (node_at j r.nodes) some e_is))

on_kept : (n : ℕ) → 2 ≤ n → (r : RunState) (step : Step) → IsTrue (is_step n step) → GoOn n r → GoOn n (after_step r step)
on_kept n two r step is go = record {
  nodes = nodes_kept n two r step is go.nodes;
  on = λ i least most.
      subst (λ (node : NodeState). AllByRecursion (λ (c : Connection). IsOnward n i c.that) (firsts_of node))
      (sym (node_changed n i r step two is least (subst (λ k. i ≤ k) (sym go.nodes.long) most)))
      (changed_on n i (change_by r step i) (node_at i r.nodes) (go.nodes.each i least most).routing (step_wants n i r step is) (go.on i least most));
}

on_begins : (n : ℕ) → GoOn n (start n)
on_begins n = record {
  nodes = nodes_begin n;
  on = λ i least most. subst (λ (node : NodeState). AllByRecursion (λ (c : Connection). IsOnward n i c.that) (firsts_of node)) (sym (first_is n i least most)) tt;
}

pub all_go_on : AllGoOn
all_go_on n i steps are two least most = (kept_along n (GoOn n) (on_kept n two) (start n) steps are (on_begins n)).on i least most
