-- In which lane an event stands, by the head and the event alone.
use Rattle.std.specs.Prelude.{ℕ, ◌+◌, ◌%◌, List, if◌then◌else◌, Ok, Err}
use Rattle.std.specs.declared.result.Result.{Result}
use Rattle.relay_base.specs.declared.limits.TheConstants.{MOST_LANES}
use Rattle.relay_base.specs.declared.words.ReadFault.{ReadFault}
use Rattle.relay_base.specs.declared.words.Event.{Event}
use Rattle.relay_base.specs.declared.words.Event.TheVariants.{Message as Arrived, Asked as Requested, Tick}
use Rattle.relay_base.specs.declared.words.Request.{Request}
use Rattle.relay_base.specs.declared.words.Request.TheVariants as request
use Rattle.scmg_messages.specs.Messages.{is_for_management}
use Rattle.q713_codec.specs.Names.{Message}
use Rattle.q713_codec.specs.declared.message.Message.TheVariants.{Cr, Cc, Cref, Rlsd, Rlc, Dt1, Dt2, Ak, Udt, Ed, Ea, Rsr, Rsc, Err as Error, It}
use Rattle.q713_codec.specs.Longest.{is_too_long}
use Rattle.q713_codec.specs.Reading.{reading_of}
use Rattle.plant_core.specs.declared.entry.ControlEvent.{ControlEvent}
use Rattle.plant_core.specs.declared.entry.ControlEvent.TheVariants.{Plain, Change as Changed}
use Rattle.node_head.specs.declared.head.Head.{Head}
use Rattle.capture_form.specs.declared.lane_place.LanePlace.{LanePlace}
use Rattle.capture_form.specs.declared.lane_place.LanePlace.TheVariants.{All, Control, Conn, Unit as Data}

-- the lane of a number, among the lanes of its kind that a head has
abbrev pub in_conn : Head → ℕ → LanePlace
in_conn head number = Conn (number % head.conn_lanes)

abbrev pub in_data : Head → ℕ → LanePlace
in_data head number = Data (number % head.data_lanes)

-- a local reference has its lane in the last four bits
abbrev pub of_reference : Head → ℕ → LanePlace
of_reference head reference = in_conn head (reference % MOST_LANES)

-- UDT, by its called address
abbrev pub place_of_udt : Head → ℕ → List ℕ → LanePlace
place_of_udt head sls called = if is_for_management called then Control else in_data head sls

-- CR goes by where it comes from, a message of a connection by the reference that it is for, and each other one by its link selection
unfoldable pub place_of_message : Head → ℕ → ℕ → Message → LanePlace
place_of_message head opc sls (Cr slr _ _ _ _ _ _ _) = in_conn head (opc + slr)
place_of_message head opc sls (Cc dlr _ _ _ _ _ _) = of_reference head dlr
place_of_message head opc sls (Cref dlr _ _ _ _) = of_reference head dlr
place_of_message head opc sls (Rlsd dlr _ _ _ _) = of_reference head dlr
place_of_message head opc sls (Rlc dlr _) = of_reference head dlr
place_of_message head opc sls (Dt1 dlr _ _) = of_reference head dlr
place_of_message head opc sls (Dt2 dlr _ _) = of_reference head dlr
place_of_message head opc sls (Ak dlr _ _) = of_reference head dlr
place_of_message head opc sls (Udt _ called _ _) = place_of_udt head sls called
place_of_message head opc sls (Ed dlr _) = of_reference head dlr
place_of_message head opc sls (Ea dlr) = of_reference head dlr
place_of_message head opc sls (Rsr dlr _ _) = of_reference head dlr
place_of_message head opc sls (Rsc dlr _) = of_reference head dlr
place_of_message head opc sls (Error dlr _) = of_reference head dlr
place_of_message head opc sls (It dlr _ _ _ _) = of_reference head dlr
place_of_message head opc sls _ = in_data head sls

-- octets that don't read are a data lane's to lose
abbrev pub place_of_reading : Head → ℕ → ℕ → Result Message ReadFault → LanePlace
place_of_reading head opc sls (Ok message) = place_of_message head opc sls message
place_of_reading head opc sls (Err fault) = in_data head sls

abbrev pub place_of_octets : Head → ℕ → ℕ → List ℕ → LanePlace
place_of_octets head opc sls bytes =
    if is_too_long bytes then in_data head sls else place_of_reading head opc sls (reading_of bytes)

-- a request for a connection goes by its tag, one on a connection by its reference; of the others, all but a unit are of management
unfoldable pub place_of_request : Head → Request → LanePlace
place_of_request head (request.Unit sls _ _ _ _ _) = in_data head sls
place_of_request head (request.Conn tag _ _ _ _) = in_conn head tag
place_of_request head (request.Accept mine _ _ _) = of_reference head mine
place_of_request head (request.Refuse mine _ _) = of_reference head mine
place_of_request head (request.Send mine _) = of_reference head mine
place_of_request head (request.Expedite mine _) = of_reference head mine
place_of_request head (request.Reset mine) = of_reference head mine
place_of_request head (request.Disc mine _ _) = of_reference head mine
place_of_request head _ = Control

-- a tick stands in every lane
unfoldable pub place_of_event : Head → Event → LanePlace
place_of_event head (Arrived opc sls bytes) = place_of_octets head opc sls bytes
place_of_event head (Requested ssn r) = place_of_request head r
place_of_event head Tick = All

-- a change of the routing data stands in the control lane
unfoldable pub place_of : Head → ControlEvent → LanePlace
place_of head (Plain event) = place_of_event head event
place_of head (Changed change) = Control
