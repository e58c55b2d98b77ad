-- Words for examples: a node with the defaults, and its events and outputs with octets in hexadecimal digits.
use Rattle.std.specs.Prelude.{ℕ, ◌+◌, ◌*◌, ◌%◌, true, List, [], ◌∷◌, ◌++◌, take, replicate, Option, Some, None, option_map}
use Prim.Native.String.{String}
use Rattle.relay_base.specs.declared.words.Event.{Event}
use Rattle.relay_base.specs.declared.words.Event.TheVariants.{Message as Arrives, Asked as Asks, Tick}
use Rattle.relay_base.specs.declared.words.Request.{Request}
use Rattle.relay_base.specs.declared.words.Request.TheVariants as request
use Rattle.relay_base.specs.declared.words.Tell.TheVariants as tell
use Rattle.relay_base.specs.declared.words.Output.{Output}
use Rattle.relay_base.specs.declared.words.Output.TheVariants.{Sent, Told}
use Rattle.gtt_table.specs.declared.row.Row.{Row}
use Rattle.plant_core.specs.declared.terms.TheConstants.{USUAL_TICKS}
use Rattle.plant_core.specs.declared.terms.Ticks.{Ticks}
use Rattle.plant_core.specs.declared.answer.Answer.{Answer}
use Rattle.plant_core.specs.Plant.{RoutingData, start_of}
use Rattle.plant_core.specs.Asking.{Question, answer_to as answer_by}
use Rattle.section_model.specs.Opening.{Opened, wish_of, question_of, slots_needed, opened}
use Rattle.section_model.specs.Lane.{Lane, enough}
use Rattle.section_rows.specs.Text.{hex}

-- The node: point 100 with subsystem 8. Titles that begin with 49 are those of subsystem 8 at point 300.

abbrev pub row : Row
row = record {
  selector = record { gti = 4; tt = 0; np = 1; nai = 4 };
  prefix = 4 ∷ 9 ∷ [];
  first = record { point = 300; ssn = Some 8; on_ssn = true };
  second = None;
}

abbrev pub routing : RoutingData
routing = record (start_of 100 (8 ∷ [])) { rows = row ∷ [] }

abbrev pub ticks : Ticks
ticks = USUAL_TICKS

-- its lane 0, by the greatest credit and the ticks of the timers; one with the defaults; and one that freezes references for a tick alone
abbrev pub lane_with : ℕ → Ticks → Lane
lane_with credit ticks = record { terms = record { own = 100; credit = credit; ticks = ticks }; number = 0 }

abbrev pub first_lane : Lane
first_lane = lane_with 7 ticks

abbrev pub quick_lane : Lane
quick_lane = lane_with 7 (record ticks { freeze = 1 })

-- an event with what routing answers to it, if it asks
abbrev pub answer_to : Option Question → Option Answer
answer_to = option_map (answer_by routing)

abbrev pub routed : Lane → Event → Event × Option Answer
routed lane event = (event, answer_to (question_of (wish_of lane.terms event)))

-- Events and outputs.

abbrev pub arrives : ℕ → ℕ → String → Event
arrives point sls text = Arrives point sls (hex text)

-- a request of subsystem 8
abbrev pub asks : Request → Event
asks request = Asks 8 request

abbrev pub sent : ℕ → ℕ → String → Output
sent point sls text = Sent point sls (hex text)

-- the opening by an event where these slots are free, and weren't taken yet
abbrev pub opening_in : List ℕ → Event → Opened
opening_in slots event =
    let wish = wish_of first_lane.terms event in
    let answer = answer_to (question_of wish) in
    let count = slots_needed wish answer in
    opened first_lane.terms wish answer (enough first_lane (λ _. 0) count (take count slots))

-- the reference of the lowest slot, where it was taken so many times
abbrev pub references_after : ℕ → List ℕ
references_after times = enough first_lane (λ _. times) 1 (1 ∷ [])

-- a CR for subsystem 8
abbrev pub cr : Event
cr = arrives 200 3 "01010000020200024208"

-- what a CR of point 200 tells subsystem 8
abbrev pub offers : ℕ → List Output
offers reference = Told 8 (tell.Conn reference 2 0 (hex "4208") None None) ∷ []

-- a connection from point 200 to subsystem 8, which accepts it
abbrev pub local : List Event
local = cr ∷ asks (request.Accept 16 2 0 []) ∷ []

abbrev pub local_outs : List (List Output)
local_outs = offers 16 ∷ (sent 200 3 "020100001000000200" ∷ []) ∷ []

-- one that is relayed from point 200 to point 300, which answers from point 301; data both ways; and its release from there
abbrev pub relayed : List Event
relayed =
    arrives 200 4 "01070000020200081208001204947121"
    ∷ arrives 301 4 "022000000900000200"
    ∷ arrives 200 4 "061000000001021122"
    ∷ arrives 301 4 "0620000001010133"
    ∷ arrives 301 4 "042000000900000000" ∷ []

abbrev pub relayed_outs : List (List Output)
relayed_outs =
    (sent 300 4 "01200000020200085208001204947121" ∷ [])
    ∷ (sent 200 4 "020700001000000200" ∷ [])
    ∷ (sent 301 4 "060900000001021122" ∷ [])
    ∷ (sent 200 4 "0607000001010133" ∷ [])
    ∷ (sent 301 4 "05090000200000" ∷ sent 200 4 "040700001000000000" ∷ []) ∷ []

-- one of class 3 from subsystem 8 to point 200
abbrev pub numbered : List Event
numbered = asks (request.Conn 7 3 2 (hex "43c8000a") []) ∷ arrives 200 7 "02100000550000030109010200" ∷ []

abbrev pub numbered_outs : List (List Output)
numbered_outs =
    (Told 8 (tell.Named 7 16) ∷ sent 200 7 "011000000302060443c8000a0901020402420811010f00" ∷ [])
    ∷ (Told 8 (tell.Confirm 16 3 2 None None) ∷ []) ∷ []

abbrev pub sends : String → Event
sends text = asks (request.Send 16 (hex text))

-- one of class 3 that is relayed, and then met by a P(R) of 5 where nothing was sent
abbrev pub relayed_numbered : List Event
relayed_numbered =
    arrives 200 4 "0107000003020a08120800120494712109010700"
    ∷ arrives 300 4 "02200000090000030109010700"
    ∷ arrives 200 4 "07100000000a0101aa" ∷ []

abbrev pub relayed_numbered_outs : List (List Output)
relayed_numbered_outs =
    (sent 300 4 "0120000003020a08520800120494712109010700" ∷ [])
    ∷ (sent 200 4 "02070000100000030109010700" ∷ [])
    ∷ (sent 200 4 "0d07000010000003" ∷ sent 300 4 "0d09000020000003" ∷ []) ∷ []

-- DT1 with so many octets 00
abbrev pub data_of : ℕ → ℕ → Event
data_of more size = Arrives 200 3 (hex "06100000" ++ more ∷ 1 ∷ size ∷ replicate size 0)

-- a unit of one octet, and the acknowledgement of the units up to this one
abbrev pub send_and_ack : ℕ → List Event
send_and_ack k = asks (request.Send 16 (7 ∷ [])) ∷ Arrives 200 7 (hex "08100000" ++ 2 * ((k + 1) % 128) ∷ 127 ∷ []) ∷ []

-- what comes of these: the unit with its number, and nothing
abbrev pub numbered_unit : ℕ → List (List Output)
numbered_unit k = (Sent 200 7 (hex "07550000" ++ 2 * k ∷ 0 ∷ 1 ∷ 1 ∷ 7 ∷ []) ∷ []) ∷ [] ∷ []

-- a CR, the refusal of the connection with this reference, and a tick
abbrev pub refused_at : ℕ → List Event
refused_at reference = cr ∷ asks (request.Refuse reference 3 []) ∷ Tick ∷ []

abbrev pub refused_outs : ℕ → List (List Output)
refused_outs reference = offers reference ∷ (sent 200 3 "030100000300" ∷ []) ∷ [] ∷ []
