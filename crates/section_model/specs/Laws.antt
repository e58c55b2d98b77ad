-- Laws of the definitions of connections.
use Rattle.std.specs.Prelude.{◌≡◌, ℕ, suc, List, [], ◌∷◌, ◌++◌}
use Rattle.section_model.specs.declared.hand.Hand.TheVariants as hand
use Rattle.section_model.specs.declared.hand.Acted.{Acted}
use Rattle.section_model.specs.declared.hand.Hand.{Hand}
use Rattle.relay_base.specs.declared.words.Event.{Event}
use Rattle.plant_core.specs.declared.entry.Entry.{Entry}
use Rattle.plant_core.specs.declared.terms.Ticks.{Ticks}
use Rattle.section_model.specs.Ends.{End, Connection}
use Rattle.section_model.specs.Acting.{end_takes}
use Rattle.section_model.specs.Coupling.{exchange, settles}
use Rattle.section_model.specs.Lane.{Lane, Opening, heard, follow, fed, part_of, openings_after, answer_of}

-- what a connection is after one more event hangs on what it was alone
abbrev pub StepByStep : Type 0
StepByStep = (ticks : Ticks) (c : Connection) (events : List Event) (event : Event) →
    follow ticks c (heard ticks c (events ++ event ∷ [])) ≡ fed ticks (follow ticks c (heard ticks c events)) event

-- two worlds: equal openings that hear the same have the same part in the next event
abbrev pub TwoWorlds : Type 0
TwoWorlds = (ticks : Ticks) (c : Connection) (one other : List Event) (event : Event) →
    heard ticks c one ≡ heard ticks c other →
    part_of ticks event (record { first = c; since = one }) ≡ part_of ticks event (record { first = c; since = other })

-- the openings that a journal leaves
abbrev pub openings_from : Lane → List Opening → List Entry → List Opening
openings_from lane openings [] = openings
openings_from lane openings (entry ∷ entries) = openings_from lane (openings_after lane openings entry.event (answer_of entry)) entries

-- No hand is lost: what an end hands back on an effect is an answer, and on an answer nothing is handed back. So two turns of the exchange are
-- enough, and more change nothing.

abbrev pub IsAnswer : Hand → Type 0
IsAnswer (hand.Left units expedited) = Unit {0}
IsAnswer (hand.End cause body importance) = Unit {0}
IsAnswer _ = ⊥

abbrev pub AreAnswers : List Hand → Type 0
AreAnswers [] = Unit {0}
AreAnswers (h ∷ hands) = IsAnswer h × AreAnswers hands

abbrev pub hands_of : Acted → List Hand
hands_of acted = acted.first ++ acted.then

pub record NoHandIsLost : Type 0 where
  pub answered : (ticks : Ticks) (h : Hand) (e : End) → AreAnswers (hands_of (end_takes ticks h e).1)
  pub ended : (ticks : Ticks) (h : Hand) (e : End) → IsAnswer h → hands_of (end_takes ticks h e).1 ≡ []
  pub enough :
      (more : ℕ) (ticks : Ticks) (acting : End × Acted) (that : End)
      → exchange (suc (suc more)) ticks acting that ≡ settles ticks acting that
