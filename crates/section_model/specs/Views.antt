-- What a head of a section, and the views of a message for a connection, stand for.
use Rattle.std.specs.Prelude.{ℕ, List, [], ◌∷◌, slice_index_or}
use Rattle.std.specs.Option.{option_map}
use Rattle.section_model.specs.declared.cell.SectionState.{SectionState}
use Rattle.section_model.specs.declared.cell.SectionState.TheVariants as state
use Rattle.section_model.specs.declared.wire.WireHead.{WireHead}
use Rattle.section_model.specs.declared.arrival.ParametersView.{ParametersView}
use Rattle.section_model.specs.declared.arrival.ArrivalView.{ArrivalView}
use Rattle.section_model.specs.Parameters.{Parameters, Arrival}
use Rattle.section_model.specs.Ends.{SectionHead}

abbrev pub seen_parameters : ParametersView → Parameters
seen_parameters p = record {
  dlr = p.dlr;
  slr = p.slr;
  class = p.class;
  cause = p.cause;
  credit = p.credit;
  called = option_map (λ b. b.now) p.called;
  body = option_map (λ b. b.now) p.body;
  importance = p.importance;
  data_octets = p.data_octets.now;
  more = p.more;
  ps = p.ps;
  pr = p.pr;
}

abbrev pub seen_arrival : ArrivalView → Arrival
seen_arrival a = record { occasion = a.occasion; parameters = seen_parameters a.parameters }

-- the states by their numbers from 0, in the order in which the table names them
abbrev pub section_states : List SectionState
section_states = state.Asked ∷ state.Asking ∷ state.Waning ∷ state.Up ∷ state.Resetting ∷ state.Ending ∷ state.Gone ∷ []

abbrev pub state_numbered : ℕ → SectionState
state_numbered n = slice_index_or section_states n state.Gone

-- a section as its head says
abbrev pub section_of : WireHead → SectionHead
section_of x = record {
  point = x.point;
  mine = x.mine;
  other = x.other;
  sls = x.sls;
  state = state_numbered x.state;
  class = x.class;
  credit = x.credit;
}
