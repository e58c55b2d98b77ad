-- What the lanes of the two kinds have to do is what a journal's text is judged by.
use Rattle.std.proofs.Common.{◌≡◌, refl}
use Rattle.data_lane.specs.Legal.{question_of}
use Rattle.right_book.specs.Lanes.{conn_question}
use Rattle.journal_finding.specs.Lanes.{conn_rules, data_rules}
use Rattle.lane_events.specs.declared.placing.Lane.TheVariants.{Conn, Data}
use Rattle.lane_replays.specs.Plain.{PlainState, conn_outcomes, data_outcomes, plain_rules}

pub conn_are : (s : PlainState) → plain_rules Conn conn_question conn_outcomes s ≡ conn_rules s.head s.phases s.control s.number
conn_are s = refl

pub data_are : (s : PlainState) → plain_rules Data (λ told. question_of) data_outcomes s ≡ data_rules s.head s.phases s.control s.number
data_are s = refl
