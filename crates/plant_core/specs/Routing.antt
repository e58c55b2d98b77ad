-- Routing control (Q.714, 2.3 and 2.6): the answer of the whole routing data for a called address, a hop counter and an origin.
use Rattle.std.specs.Prelude.{ℕ, ◌-◌, ◌==◌, ◌||◌, ◌&&◌, nat_lt, not, Bool, false, List, if◌then◌else◌, Option, Some, None, Ok, Err, unwrap_or, is_ok}
use Rattle.std.specs.declared.result.Result.{Result}
use Rattle.sccp_address.specs.Form.{Form, TitleForm}
use Rattle.sccp_address.specs.Titles.{dialled_of}
use Rattle.sccp_address.specs.declared.address.Selector.{Selector}
use Rattle.gtt_table.specs.declared.row.Row.{Row}
use Rattle.gtt_table.specs.declared.row.Entity.{Entity}
use Rattle.gtt_table.specs.Translation.{Found, no_selector, no_prefix, found, translation_of}
use Rattle.plant_core.specs.declared.answer.Answer.{Answer}
use Rattle.plant_core.specs.declared.answer.TheConstants.{MOST_HOPS}
use Rattle.plant_core.specs.declared.answer.Answer.TheVariants.{Local, Forward, Refused}
use Rattle.plant_core.specs.declared.answer.Rewrite.TheVariants.{Keep, Set}
use Rattle.plant_core.specs.declared.answer.Origin.{Origin}
use Rattle.plant_core.specs.declared.answer.Origin.TheVariants.{Network, User as FromUser}
use Rattle.plant_core.specs.declared.answer.RouteCause.{RouteCause}
use Rattle.plant_core.specs.declared.answer.RouteCause.TheVariants.{NoNature, NoAddress, PointBarred, SubsystemBarred, Unequipped, Hop}
use Rattle.plant_core.specs.Plant.{RoutingData, is_among, is_barred_subsystem}

-- a subsystem of this node (Q.714, 2.3 and 2.6)
unfoldable pub local_answer : RoutingData → ℕ → Answer
local_answer p ssn =
    if not (is_among ssn p.users) then Refused Unequipped None
    else if is_among ssn p.out_of_service then Refused SubsystemBarred (Some ssn)
    else Local ssn

-- a subsystem of another point that is named, and barred
abbrev pub is_barred_at : RoutingData → ℕ → Option ℕ → Bool
is_barred_at p point None = false
is_barred_at p point (Some ssn) = is_barred_subsystem p point ssn

-- a subsystem of another point, to which the address goes unchanged
abbrev pub remote_answer : RoutingData → ℕ → Option ℕ → Option ℕ → Answer
remote_answer p point ssn hop =
    if is_among point p.barred_points then Refused PointBarred None
    else if is_barred_at p point ssn then Refused SubsystemBarred None
    else Forward point Keep hop

-- an address that routes on its subsystem number: a user's to another point goes there, and every other is local,
-- to subsystem 0 where none is named
unfoldable pub ssn_answer : RoutingData → Form → Option ℕ → Origin → Answer
ssn_answer p a hop Network = local_answer p (unwrap_or a.ssn 0)
ssn_answer p a hop FromUser = from_user a.point
  where
    from_user : Option ℕ → Answer
    from_user None = local_answer p (unwrap_or a.ssn 0)
    from_user (Some point) =
        if point == p.own then local_answer p (unwrap_or a.ssn 0) else remote_answer p point a.ssn hop

-- whether an entity is available, and else why not (Q.714, 2.4 and 2.6): one at the own point is where it names a user that is in service,
-- another where neither its point nor, where it routes on it, its subsystem is barred
abbrev pub own_entity : RoutingData → Option ℕ → Result (Unit {0}) RouteCause
own_entity p None = Err Unequipped
own_entity p (Some ssn) =
    if not (is_among ssn p.users) then Err Unequipped
    else if is_among ssn p.out_of_service then Err SubsystemBarred
    else Ok tt

unfoldable pub availability_of : RoutingData → Entity → Result (Unit {0}) RouteCause
availability_of p e =
    if e.point == p.own then own_entity p e.ssn
    else if is_among e.point p.barred_points then Err PointBarred
    else if e.on_ssn && is_barred_at p e.point e.ssn then Err SubsystemBarred
    else Ok tt

-- the user that a refusal names: one at the own point that is out of service
abbrev pub user_named : RoutingData → Entity → RouteCause → Option ℕ
user_named p e SubsystemBarred = if e.point == p.own then e.ssn else None
user_named p e _ = None

-- where an entity leads
unfoldable pub entity_answer : RoutingData → Option ℕ → Entity → Answer
entity_answer p hop e = led (availability_of p e)
  where
    led : Result (Unit {0}) RouteCause → Answer
    led (Ok available) =
        if e.point == p.own then Local (unwrap_or e.ssn 0) else Forward e.point (Set e.ssn e.on_ssn) hop
    led (Err cause) = Refused cause (user_named p e cause)

-- the first entity that is available; where none is, the refusal of the first
abbrev pub either_answer : RoutingData → Option ℕ → Entity → Option Entity → Answer
either_answer p hop first None = entity_answer p hop first
either_answer p hop first (Some second) =
    if not (is_ok (availability_of p first)) && is_ok (availability_of p second)
    then entity_answer p hop second else entity_answer p hop first

-- after a translation a hop counter is lowered by one; 0, 1 and more than the most are refused (Q.713, 3.18)
abbrev pub row_answer : RoutingData → Option ℕ → Row → Answer
row_answer p None row = either_answer p None row.first row.second
row_answer p (Some hop) row =
    if nat_lt hop 2 || nat_lt MOST_HOPS hop then Refused Hop None
    else either_answer p (Some (hop - 1)) row.first row.second

abbrev pub found_answer : RoutingData → Option ℕ → Found → Answer
found_answer p hop no_selector = Refused NoNature None
found_answer p hop no_prefix = Refused NoAddress None
found_answer p hop (found row) = row_answer p hop row

-- an address that routes on its title
unfoldable pub title_answer : RoutingData → TitleForm → Option ℕ → Answer
title_answer p title hop = translated (dialled_of title)
  where
    translated : Option (Selector × List ℕ) → Answer
    translated None = Refused NoNature None
    translated (Some dialled) = found_answer p hop (translation_of p.rows dialled.0 dialled.1)

unfoldable pub route_of : RoutingData → Form → Option ℕ → Origin → Answer
route_of p a hop origin = if a.on_ssn then ssn_answer p a hop origin else title_answer p a.title hop
