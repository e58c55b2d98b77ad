-- Routing keeps to the ranges.
use Rattle.std.proofs.Common.{ℕ, ◌-◌, ◌==◌, ◌||◌, ◌&&◌, nat_lt, not, List, [], ◌∷◌, length, if◌then◌else◌, Option, Some, None, Ok, Err, arith}
use Rattle.std.specs.Prelude.{IfSome, is_ok, unwrap_or}
use Rattle.std.specs.List.{AllByRecursion}
use Rattle.std.specs.declared.result.Result.{Result}
use Rattle.sccp_address.specs.Form.{Form, TitleForm}
use Rattle.sccp_address.specs.Titles.{dialled_of}
use Rattle.sccp_address.specs.declared.address.Selector.{Selector}
use Rattle.gtt_table.specs.Rows.{has_key, is_match}
use Rattle.gtt_table.specs.Translation.{Found, no_selector, no_prefix, found, longer, longest_match, has_selector, found_row, translation_of}
use Rattle.gtt_table.specs.declared.row.Entity.{Entity}
use Rattle.gtt_table.specs.declared.row.Row.{Row}
use Rattle.plant_core.specs.Asking.{Question, answer_to}
use Rattle.plant_core.specs.Changes.{changed, changed_all, is_alters, group_verdict, plant_after}
use Rattle.plant_core.specs.Plant.{RoutingData, is_among}
use Rattle.plant_core.specs.Routing.{local_answer, is_barred_at, remote_answer, ssn_answer, availability_of, user_named, entity_answer, either_answer, row_answer, found_answer, title_answer, route_of}
use Rattle.plant_core.specs.declared.answer.Answer.TheVariants.{Local, Forward, Refused}
use Rattle.plant_core.specs.declared.answer.Origin.{Origin}
use Rattle.plant_core.specs.declared.answer.Origin.TheVariants.{Network, User as FromUser}
use Rattle.plant_core.specs.declared.answer.Rewrite.TheVariants.{Set}
use Rattle.plant_core.specs.declared.answer.RouteCause.{RouteCause}
use Rattle.plant_core.specs.declared.answer.RouteCause.TheVariants.{NoNature, NoAddress, PointBarred, SubsystemBarred, Unequipped, Hop}
use Rattle.plant_core.specs.declared.answer.TheConstants.{MOST_HOPS}
use Rattle.plant_core.specs.declared.change.Change.{Change}
use Rattle.plant_core.specs.declared.change.Change.TheVariants.{AddRow, DelRow, BarPoint, FreePoint, BarSub, FreeSub, LocalUp, LocalDown}
use Rattle.plant_core.specs.declared.change.Group.{Group}
use Rattle.printable_law.specs.OctetLaw.{IsOctet, IsForm}
use Rattle.printable_law.specs.Ranges.{IsPoint, EntityInRange, RowInRange, ChangeInRange, GroupInRange, AnswerInRange, RoutingInRange, RoutingKeepsRanges}
use Rattle.printable_law.proofs.Lists.{either, all-append, all-filter}

-- Subsystems.

pub or-zero : (ssn : Option ℕ) → IfSome ssn IsOctet → IsOctet (unwrap_or ssn 0)
or-zero None small = omega arith
or-zero (Some ssn) small = small

local-small : (p : RoutingData) (ssn : ℕ) → IsOctet ssn → AnswerInRange (local_answer p ssn)
unfolding local_answer
local-small p ssn small =
    either AnswerInRange (not (is_among ssn p.users)) (Refused Unequipped None) _ tt
    (either AnswerInRange (is_among ssn p.out_of_service) (Refused SubsystemBarred (Some ssn)) (Local ssn) small small)

remote-small : (p : RoutingData) (point : ℕ) (ssn hop : Option ℕ) → IsPoint point → IfSome hop IsOctet → AnswerInRange (remote_answer p point ssn hop)
remote-small p point ssn hop small h =
    either AnswerInRange (is_among point p.barred_points) (Refused PointBarred None) _ tt
    (either AnswerInRange (is_barred_at p point ssn) (Refused SubsystemBarred None) _ tt (small, tt, h))

ssn-small : (p : RoutingData) (a : Form) (hop : Option ℕ) (origin : Origin) → IsForm a → IfSome hop IsOctet → AnswerInRange (ssn_answer p a hop origin)
unfolding ssn_answer
ssn-small p a hop Network is h = local-small p (unwrap_or a.ssn 0) (or-zero a.ssn is.ssn)
ssn-small p a hop FromUser is h = by_point a.point is.point
  where
    by_point : (point : Option ℕ) → IfSome point IsPoint
        → AnswerInRange (elim point [ None ↦ local_answer p (unwrap_or a.ssn 0) | Some point ↦ if point == p.own then local_answer p (unwrap_or a.ssn 0) else remote_answer p point a.ssn hop ])
    by_point None small = local-small p (unwrap_or a.ssn 0) (or-zero a.ssn is.ssn)
    by_point (Some point) small =
        either AnswerInRange (point == p.own) (local_answer p (unwrap_or a.ssn 0)) (remote_answer p point a.ssn hop)
        (local-small p (unwrap_or a.ssn 0) (or-zero a.ssn is.ssn)) (remote-small p point a.ssn hop small h)

-- Translations.

named-small : (p : RoutingData) (e : Entity) (cause : RouteCause) → EntityInRange e → IfSome (user_named p e cause) IsOctet
named-small p e NoNature small = tt
named-small p e NoAddress small = tt
named-small p e PointBarred small = tt
named-small p e SubsystemBarred small = either (λ (x : Option ℕ). IfSome x IsOctet) (e.point == p.own) e.ssn None small.1 tt
named-small p e Unequipped small = tt
named-small p e Hop small = tt

entity-small : (p : RoutingData) (hop : Option ℕ) (e : Entity) → EntityInRange e → IfSome hop IsOctet → AnswerInRange (entity_answer p hop e)
unfolding entity_answer
entity-small p hop e small h = led (availability_of p e)
  where
    led : (r : Result (Unit {0}) RouteCause)
        → AnswerInRange (elim r [ Ok available ↦ if e.point == p.own then Local (unwrap_or e.ssn 0) else Forward e.point (Set e.ssn e.on_ssn) hop | Err cause ↦ Refused cause (user_named p e cause) ])
    led (Ok available) = either AnswerInRange (e.point == p.own) (Local (unwrap_or e.ssn 0)) _ (or-zero e.ssn small.1) (small.0, small.1, h)
    led (Err cause) = named-small p e cause small

either-small : (p : RoutingData) (hop : Option ℕ) (first : Entity) (second : Option Entity) → EntityInRange first → IfSome second EntityInRange → IfSome hop IsOctet
    → AnswerInRange (either_answer p hop first second)
either-small p hop first None f s h = entity-small p hop first f h
either-small p hop first (Some second) f s h =
    either AnswerInRange (not (is_ok (availability_of p first)) && is_ok (availability_of p second)) (entity_answer p hop second) (entity_answer p hop first)
    (entity-small p hop second s h) (entity-small p hop first f h)

row-small : (p : RoutingData) (hop : Option ℕ) (row : Row) → RowInRange row → IfSome hop IsOctet → AnswerInRange (row_answer p hop row)
row-small p None row small h = either-small p None row.first row.second small.0 small.1 tt
row-small p (Some hop) row small h =
    either AnswerInRange (nat_lt hop 2 || nat_lt MOST_HOPS hop) (Refused Hop None) _ tt
    (either-small p (Some (hop - 1)) row.first row.second small.0 small.1 (omega (arith, h)))

longer-small : (one other : Option Row) → IfSome one RowInRange → IfSome other RowInRange → IfSome (longer one other) RowInRange
longer-small None other a b = b
longer-small (Some row) None a b = a
longer-small (Some row) (Some other) a b = either (λ (x : Option Row). IfSome x RowInRange) (nat_lt (length row.prefix) (length other.prefix)) (Some other) (Some row) b a

match-small : (selector : Selector) (digits : List ℕ) (rows : List Row) → AllByRecursion RowInRange rows → IfSome (longest_match selector digits rows) RowInRange
match-small selector digits [] all = tt
match-small selector digits (row ∷ rest) all =
    longer-small (if is_match selector digits row then Some row else None) (longest_match selector digits rest)
    (either (λ (x : Option Row). IfSome x RowInRange) (is_match selector digits row) (Some row) None all.0 tt) (match-small selector digits rest all.1)

abbrev FoundInRange : Found → Type 0
FoundInRange no_selector = Unit {0}
FoundInRange no_prefix = Unit {0}
FoundInRange (found row) = RowInRange row

found_row-small : (row : Option Row) → IfSome row RowInRange → FoundInRange (found_row row)
found_row-small None small = tt
found_row-small (Some row) small = small

translation-small : (rows : List Row) (selector : Selector) (digits : List ℕ) → AllByRecursion RowInRange rows → FoundInRange (translation_of rows selector digits)
unfolding translation_of
translation-small rows selector digits all =
    either FoundInRange (has_selector selector rows) (found_row (longest_match selector digits rows)) no_selector
    (found_row-small (longest_match selector digits rows) (match-small selector digits rows all)) tt

found-small : (p : RoutingData) (hop : Option ℕ) (f : Found) → FoundInRange f → IfSome hop IsOctet → AnswerInRange (found_answer p hop f)
found-small p hop no_selector small h = tt
found-small p hop no_prefix small h = tt
found-small p hop (found row) small h = row-small p hop row small h

title-small : (p : RoutingData) (title : TitleForm) (hop : Option ℕ) → RoutingInRange p → IfSome hop IsOctet → AnswerInRange (title_answer p title hop)
unfolding title_answer
title-small p title hop routing h = by_dialled (dialled_of title)
  where
    by_dialled : (dialled : Option (Selector × List ℕ))
        → AnswerInRange (elim dialled [ None ↦ Refused NoNature None | Some dialled ↦ found_answer p hop (translation_of p.rows dialled.0 dialled.1) ])
    by_dialled None = tt
    by_dialled (Some dialled) = found-small p hop (translation_of p.rows dialled.0 dialled.1) (translation-small p.rows dialled.0 dialled.1 routing.rows) h

answer-small : (p : RoutingData) (q : Question) → RoutingInRange p → IsForm q.called × IfSome q.hop IsOctet → AnswerInRange (answer_to p q)
unfolding route_of
answer-small p q routing is =
    either AnswerInRange q.called.on_ssn (ssn_answer p q.called q.hop q.origin) (title_answer p q.called.title q.hop)
    (ssn-small p q.called q.hop q.origin is.0 is.1) (title-small p q.called.title q.hop routing is.1)

-- Changes.

changed-small : (p : RoutingData) (change : Change) → RoutingInRange p → ChangeInRange change → RoutingInRange (changed p change)
unfolding changed
changed-small p (AddRow row) routing small = record { own = routing.own; rows = all-append RowInRange p.rows (row ∷ []) routing.rows (small, tt) }
changed-small p (DelRow selector prefix) routing small =
    record { own = routing.own; rows = all-filter RowInRange (λ row. not (has_key selector prefix row)) p.rows routing.rows }
changed-small p (BarPoint point) routing small = record { own = routing.own; rows = routing.rows }
changed-small p (FreePoint point) routing small = record { own = routing.own; rows = routing.rows }
changed-small p (BarSub point ssn) routing small = record { own = routing.own; rows = routing.rows }
changed-small p (FreeSub point ssn) routing small = record { own = routing.own; rows = routing.rows }
changed-small p (LocalUp ssn) routing small = record { own = routing.own; rows = routing.rows }
changed-small p (LocalDown ssn) routing small = record { own = routing.own; rows = routing.rows }

all-changed-small : (p : RoutingData) (changes : List Change) → RoutingInRange p → AllByRecursion ChangeInRange changes → RoutingInRange (changed_all p changes)
all-changed-small p [] routing small = routing
all-changed-small p (change ∷ more) routing small = all-changed-small (changed p change) more (changed-small p change routing small.0) small.1

group-small : (p : RoutingData) (group : Group) → RoutingInRange p → GroupInRange group → RoutingInRange (plant_after p group)
unfolding plant_after
group-small p group routing small =
    either RoutingInRange (is_alters (group_verdict p group)) (changed_all p group.changes) p (all-changed-small p group.changes routing small) routing

pub routing_keeps_ranges : RoutingKeepsRanges
routing_keeps_ranges = record { answers = answer-small; changes = group-small }
