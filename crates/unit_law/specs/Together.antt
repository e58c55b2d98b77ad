-- The segments of one message, put together again by the node where they arrive (Q.714, 4.1.1).
use Rattle.std.specs.Prelude.{◌≡◌, ◌≤◌, ◌<◌, ℕ, ◌-◌, true, false, List, [], ◌∷◌, ◌++◌, length, map, replicate, Option, Some, None, Ok, Err}
use Rattle.std.specs.declared.result.Result.{Result}
use Rattle.std.specs.List.{range_with_len}
use Rattle.relay_base.specs.declared.words.Lost.{Lost}
use Rattle.relay_base.specs.declared.words.Output.TheVariants.{Told}
use Rattle.relay_base.specs.declared.words.Tell.TheVariants.{Unit as UnitTold}
use Rattle.q713_codec.specs.Names.{Message}
use Rattle.reassembly.specs.Segments.{key_of}
use Rattle.reassembly.specs.Reassembly.{live, has_no_room, takes}
use Rattle.reassembly.specs.declared.piece.Piece.{Piece}
use Rattle.reassembly.specs.declared.piece.Now.TheVariants.{Waiting, Whole}
use Rattle.reassembly.specs.declared.piece.Taken.{Taken}
use Rattle.reassembly.specs.declared.process.Process.{Process}
use Rattle.connectionless.specs.Unitdata.{Unitdata, unitdata_of}
use Rattle.connectionless.specs.Leaving.{unit_octets}
use Rattle.connectionless.specs.Routed.{delivery, segment_of}
use Rattle.connectionless.specs.Asking.{message_in}
use Rattle.connectionless.specs.Cutting.{Cutting, segment, segment_size, segment_count, segmentation_octets, can_be_cut}
use Rattle.data_lane.specs.declared.effect.Work.{Work}
use Rattle.data_lane.specs.declared.effect.Work.TheVariants as work
use Rattle.data_lane.specs.Legal.{piece_of, work_of, whole_told}

-- What octets from a point are for a subsystem of the node where they arrive: a segment for the reassemblies, or nothing.
abbrev pub work_by_unit : ℕ → ℕ → ℕ → Option Unitdata → Work
work_by_unit opc sls ssn None = work.Nothing
work_by_unit opc sls ssn (Some x) = work_of (delivery opc sls ssn x).next

abbrev pub work_by_message : ℕ → ℕ → ℕ → Result Message Lost → Work
work_by_message opc sls ssn (Ok message) = work_by_unit opc sls ssn (unitdata_of message)
work_by_message opc sls ssn (Err lost) = work.Nothing

abbrev pub arrived : ℕ → ℕ → ℕ → List ℕ → Work
arrived opc sls ssn bytes = work_by_message opc sls ssn (message_in bytes)

-- the segment at place k, as it arrives, and all of them in their order
abbrev pub piece_at : Cutting → ℕ → ℕ → ℕ → Piece
piece_at c opc ssn k = piece_of (segment_of opc c.sls (segment c k) (segmentation_octets c k)) ssn

abbrev pub pieces : Cutting → ℕ → ℕ → List Piece
pieces c opc ssn = map (piece_at c opc ssn) (range_with_len 0 (segment_count c))

-- what the reassemblies answer to segments one after another, without a tick between them
abbrev pub answers : ℕ → List Process → List Piece → List Taken
answers ticks processes [] = []
answers ticks processes (piece ∷ more) = (takes ticks processes piece).1 ∷ answers ticks (takes ticks processes piece).0 more

abbrev pub awaiting : Taken
awaiting = record { failed = None; now = Waiting }

-- the first segment, with all data
abbrev pub whole : Cutting → ℕ → ℕ → Piece
whole c opc ssn = record (piece_at c opc ssn 0) { body = c.body }

pub record ComeTogether (c : Cutting) (opc ssn : ℕ) : Type 0 where
  -- the octets of each segment arrive as that segment
  pub arrive : (k : ℕ) → k < segment_count c → arrived opc c.sls ssn (unit_octets (segment c k)) ≡ work.Segment (piece_at c opc ssn k)
  -- where none of their key is under way, and there is room for one, more are awaited after each up to the last, and that gives the whole
  pub answered :
      (ticks : ℕ) (processes : List Process) →
      live (key_of (piece_at c opc ssn 0)) processes ≡ None → has_no_room (piece_at c opc ssn 0) processes ≡ false →
      answers ticks processes (pieces c opc ssn)
      ≡ replicate (segment_count c - 1) awaiting ++ record { failed = None; now = Whole (whole c opc ssn) } ∷ []
  -- which is told with the class, the addresses and the data of what was cut
  pub told : whole_told (whole c opc ssn) ≡ Told ssn (UnitTold c.class c.called c.calling c.body)

-- what can be cut, and has more data than one segment holds
pub record IsForSegments (c : Cutting) : Type 0 where
  pub class : c.class ≤ 1
  pub cuttable : can_be_cut c ≡ true
  pub size : segment_size c < length c.body

abbrev pub SegmentsComeTogether : Type 0
SegmentsComeTogether = (c : Cutting) (opc ssn : ℕ) → IsForSegments c → ComeTogether c opc ssn
