-- Units as the code has them, those of the network and those that a user gives, what is cut of them, and their lengths.
use Rattle.std.specs.Prelude.{◌+◌, ◌*◌, ◌≤◌, length, IsOk}
use Rattle.relay_base.specs.declared.limits.TheConstants.{LONGEST_GIVEN_ADDRESS, LONGEST_GIVEN_UNIT}
use Rattle.sccp_address.specs.Parsing.{address_of}
use Rattle.connectionless.specs.declared.cutting.CutUnit.{CutUnit}
use Rattle.connectionless.specs.declared.cutting.TheConstants.{MOST_SEGMENTS}
use Rattle.connectionless.specs.declared.given.GivenView.{GivenView}
use Rattle.connectionless.specs.declared.outgoing.OutgoingUnit.{OutgoingUnit}
use Rattle.connectionless.specs.declared.unitdata.UnitView.{UnitView}
use Rattle.connectionless.specs.Cutting.{Cutting, segment_size}
use Rattle.connectionless.specs.Given.{Given, Outgoing}
use Rattle.connectionless.specs.Unitdata.{Unitdata}

-- the unit whose parts these are
abbrev pub seen_unit : UnitView → Unitdata
seen_unit u = record {
  kind = u.kind;
  is_service = u.is_service;
  first = u.first;
  hop = u.hop;
  called = u.called.now;
  calling = u.calling.now;
  body = u.body.now;
  segmentation = u.segmentation;
  importance = u.importance;
}

abbrev pub seen_given : GivenView → Given
seen_given g = record { ssn = g.ssn; sls = g.sls; class = g.class; ret = g.ret; called = g.called.now; calling = g.calling.now; body = g.body.now }

-- the ranges of a unit that a user gives
pub record IsInRange (g : Given) : Type 0 where
  pub class : g.class ≤ 1
  pub called : IsOk (address_of g.called)
  pub called_size : length g.called ≤ LONGEST_GIVEN_ADDRESS
  pub calling_size : length g.calling ≤ LONGEST_GIVEN_ADDRESS
  pub body_size : length g.body ≤ LONGEST_GIVEN_UNIT

abbrev pub seen_outgoing : OutgoingUnit → Outgoing
seen_outgoing u = record { given = seen_given u.given.now; called = u.called.now; point = u.point; reference = u.reference }

-- its lengths: its called address can have one octet more than that which was given
pub record IsShort (u : Outgoing) : Type 0 where
  pub class : u.given.class ≤ 1
  pub addresses : length u.called + length u.given.calling ≤ 81
  pub body_size : length u.given.body ≤ LONGEST_GIVEN_UNIT

-- what is cut, of the parts that these are
abbrev pub seen_cut : CutUnit → Cutting
seen_cut u = record {
  point = u.point;
  sls = u.sls;
  class = u.class;
  ret = u.ret;
  hop = u.hop;
  called = u.called.now;
  calling = u.calling.now;
  body = u.body.now;
  importance = u.importance;
  reference = u.reference;
}

-- its addresses leave room for data, and the most segments hold these
pub record IsCuttable (c : Cutting) : Type 0 where
  pub class : c.class ≤ 1
  pub room : 1 ≤ segment_size c
  pub size : length c.body ≤ MOST_SEGMENTS * segment_size c
