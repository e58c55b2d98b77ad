-- The law of order in a data lane (Q.714, 4.1; the sequenced service of class 1): what an entry sends and tells is its own, so that the outputs
-- of a lane stand in the order of its entries. Ticks, and segments that are put together with others, are apart.
use Rattle.std.specs.Prelude.{◌≡◌, ℕ, Bool, false, List, [], ◌∷◌, ◌++◌, count_by, Option, Some, None}
use Rattle.std.specs.List.{flat_map}
use Rattle.relay_base.specs.declared.words.Event.{Event}
use Rattle.relay_base.specs.declared.words.Event.TheVariants.{Message as Arrived}
use Rattle.relay_base.specs.declared.words.Output.{Output}
use Rattle.plant_core.specs.Asking.{answer_in}
use Rattle.plant_core.specs.declared.answer.Answer.{Answer}
use Rattle.plant_core.specs.declared.entry.Entry.{Entry}
use Rattle.plant_core.specs.declared.terms.LaneHead.{LaneHead}
use Rattle.connectionless.specs.declared.segment.Next.TheVariants.{Done}
use Rattle.connectionless.specs.Routed.{unit_outcome}
use Rattle.connectionless.specs.Given.{given_outcome}
use Rattle.connectionless.specs.Asking.{Matter, from_network, from_user, settled, of_tick, matter_of}
use Rattle.long_interwork.specs.Routed.{routed}
use Rattle.data_lane.specs.Legal.{effect_by, IsDataJournal}

-- neither a tick, nor a segment that is handed to a reassembly (Q.714, 4.1.1)
abbrev pub IsAlone : ℕ → Matter → Option Answer → Type 0
IsAlone own of_tick answer = ⊥
IsAlone own (from_network opc sls x question) (Some answer) = (unit_outcome own opc sls x answer).next ≡ Done
IsAlone own (from_network opc sls x question) None = Unit {0}
IsAlone own (from_user g question) answer = Unit {0}
IsAlone own (settled outs) answer = Unit {0}

abbrev pub StandsAlone : LaneHead → Entry → Type 0
StandsAlone head entry = IsAlone head.terms.own (matter_of entry.event) (answer_in entry.asked)

-- whether a unit was cut into segments, a user's or one for a point that can't take an LUDT, whatever reference these have
abbrev pub is_cut_by : LaneHead → Matter → Option Answer → Bool
is_cut_by head (from_network opc sls x question) (Some answer) = (routed head.short head.terms.own opc sls x answer 0).is_cut
is_cut_by head (from_user g question) (Some answer) = (given_outcome g answer 0).is_cut
is_cut_by head _ answer = false

abbrev pub is_cut : LaneHead → Entry → Bool
is_cut head entry = is_cut_by head (matter_of entry.event) (answer_in entry.asked)

-- the outputs of an event and its answer, in the lane of this number after so many units that were cut
abbrev pub own_outputs : LaneHead → ℕ → ℕ → Event → Option Answer → List Output
own_outputs head number cut event answer = (effect_by head number cut (matter_of event) answer).outs

-- those of an entry with these before it
abbrev pub outputs_after : LaneHead → ℕ → List Entry → Entry → List Output
outputs_after head number before entry = own_outputs head number (count_by (is_cut head) before) entry.event (answer_in entry.asked)

-- The law, over an entry of a legal journal with those before it and after it.
pub record OutputsAreOwn : Type 0 where
  pub own :
      (head : LaneHead) (number : ℕ) (before : List Entry) (entry : Entry) (after : List Entry) →
      IsDataJournal head number (before ++ entry ∷ after) → StandsAlone head entry →
      entry.outs ≡ outputs_after head number before entry
  -- what came before counts for units alone that are cut
  pub of_uncut :
      (head : LaneHead) (number other cut uncut : ℕ) (event : Event) (answer : Option Answer) →
      is_cut_by head (matter_of event) answer ≡ false →
      own_outputs head number cut event answer ≡ own_outputs head other uncut event answer
  -- where every point takes an LUDT, no message from the network is
  pub of_message :
      (head : LaneHead) (opc sls : ℕ) (bytes : List ℕ) (answer : Option Answer) → head.short ≡ [] →
      is_cut_by head (matter_of (Arrived opc sls bytes)) answer ≡ false

-- what a lane sent and told, entry after entry
abbrev pub outputs_of : List Entry → List Output
outputs_of journal = flat_map (λ e. e.outs) journal

-- The law, over two entries of a legal journal, with those before, between and after them.
abbrev pub EarlierFirst : Type 0
EarlierFirst =
    (head : LaneHead) (number : ℕ) (before : List Entry) (one : Entry) (between : List Entry) (other : Entry) (after : List Entry) →
    IsDataJournal head number (before ++ one ∷ (between ++ other ∷ after)) → StandsAlone head one → StandsAlone head other →
    outputs_of (before ++ one ∷ (between ++ other ∷ after))
    ≡ outputs_of before ++ (outputs_after head number before one
    ++ (outputs_of between ++ (outputs_after head number (before ++ one ∷ between) other ++ outputs_of after)))
