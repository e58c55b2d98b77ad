-- The segments of a unit that a user gives (Q.714, 4.1.1): how long its addresses are as it goes on, and what that leaves for its data.
use Rattle.std.specs.Prelude.{◌≡◌, ℕ, ◌+◌, ◌-◌, ◌*◌, ◌/◌, ◌≤◌, Bool, List, length, Option, Some, None, Ok}
use Rattle.relay_base.specs.declared.limits.TheConstants.{LONGEST_GIVEN_ADDRESS, MOST_DIGITS}
use Rattle.relay_base.specs.declared.words.Request.{Request}
use Rattle.sccp_address.specs.Form.{Form}
use Rattle.sccp_address.specs.Parsing.{address_of}
use Rattle.plant_core.specs.Plant.{RoutingData}
use Rattle.plant_core.specs.Routing.{route_of}
use Rattle.plant_core.specs.Rewriting.{called_onward}
use Rattle.plant_core.specs.declared.answer.Answer.TheVariants.{Forward}
use Rattle.plant_core.specs.declared.answer.Origin.{Origin}
use Rattle.plant_core.specs.declared.answer.Origin.TheVariants.{User as FromUser}
use Rattle.plant_core.specs.declared.answer.Rewrite.{Rewrite}
use Rattle.plant_core.specs.declared.answer.Rewrite.TheVariants.{Set}
use Rattle.connectionless.specs.declared.cutting.TheConstants.{SEGMENT_ROOM}
use Rattle.connectionless.specs.Cutting.{segment_size, segment_count}
use Rattle.connectionless.specs.Given.{Given, Outgoing, given_of, outgoing, cutting}

-- two addresses of the greatest length that a user may give: 80 octets
abbrev pub most_of_addresses : ℕ
most_of_addresses = 2 * LONGEST_GIVEN_ADDRESS

-- what they leave for the data of a full segment: 171 octets
abbrev pub least_size : ℕ
least_size = SEGMENT_ROOM - most_of_addresses

-- the most segments of a unit
abbrev pub most_segments : ℕ
most_segments = 15

-- the longest address that a translation changed: 17 octets, of which 5 stand before its digits
abbrev pub longest_translated : ℕ
longest_translated = 5 + MOST_DIGITS / 2

-- at most 80 octets of addresses, so at least 171 octets of data in a full segment, and at most 15 segments
pub record IsWithinFifteen (u : Outgoing) : Type 0 where
  pub addresses : length u.called + length u.given.calling ≤ most_of_addresses
  pub size : least_size ≤ segment_size (cutting u)
  pub count : segment_count (cutting u) ≤ most_segments

pub record SegmentsAreFew : Type 0 where
  -- an address that a translation changed has at most 17 octets as it goes on
  pub translated :
      (routing : RoutingData) (octets : List ℕ) (a : Form) (hop onward_hop : Option ℕ) (origin : Origin) (point : ℕ) (ssn : Option ℕ) (on_ssn : Bool)
      → address_of octets ≡ Ok a
      → route_of routing a hop origin ≡ Forward point (Set ssn on_ssn) onward_hop
      → length (called_onward (Set ssn on_ssn) octets) ≤ longest_translated
  -- a unit in its ranges that goes on, whatever the routing data are
  pub units :
      (routing : RoutingData) (ssn : ℕ) (request : Request) (g : Given) (a : Form) (point reference : ℕ) (rewrite : Rewrite) (hop : Option ℕ)
      → given_of ssn request ≡ Some g
      → address_of g.called ≡ Ok a
      → route_of routing a None FromUser ≡ Forward point rewrite hop
      → IsWithinFifteen (outgoing g point rewrite reference)
