-- What a data lane gives is in its ranges.
use Rattle.std.proofs.Common.{ℕ, ◌+◌, ◌==◌, not, List, [], ◌∷◌, ◌++◌, map, filter, if◌then◌else◌, Option, Some, None, sym, subst, arith}
use Rattle.std.specs.Prelude.{IfSome, option_map}
use Rattle.std.specs.List.{AllByRecursion}
use Rattle.relay_base.specs.declared.causes.TheConstants.{RETURN_SEGMENTATION_FAILURE, RETURN_LOCAL_PROCESSING}
use Rattle.relay_base.specs.declared.words.Event.{Event}
use Rattle.plant_core.specs.Asking.{answer_in}
use Rattle.plant_core.specs.declared.answer.Answer.{Answer}
use Rattle.plant_core.specs.declared.entry.Entry.{Entry}
use Rattle.plant_core.specs.declared.terms.LaneHead.{LaneHead}
use Rattle.reassembly.specs.Reassembly.{After, after_first, after_later, reassembly_after, is_due, aged, is_of, live, others, replaced, has_no_room, goes_in, takes, ended_by_tick}
use Rattle.reassembly.specs.Segments.{Key, key_of, is_first, remaining}
use Rattle.reassembly.specs.declared.piece.Piece.{Piece}
use Rattle.reassembly.specs.declared.piece.Now.{Now}
use Rattle.reassembly.specs.declared.piece.Now.TheVariants.{Waiting, Whole, NoRoom, Orphan, Broken}
use Rattle.reassembly.specs.declared.piece.Taken.{Taken}
use Rattle.reassembly.specs.declared.process.Process.{Process}
use Rattle.connectionless.specs.Returning.{unit_in}
use Rattle.connectionless.specs.Given.{reference_after}
use Rattle.connectionless.specs.Asking.{Matter, from_network, from_user, settled, of_tick, matter_of}
use Rattle.connectionless.specs.declared.segment.Next.{Next}
use Rattle.connectionless.specs.declared.segment.Next.TheVariants.{Done, Gather}
use Rattle.data_lane.specs.declared.effect.Effect.{Effect}
use Rattle.data_lane.specs.declared.effect.Work.{Work}
use Rattle.data_lane.specs.declared.effect.Work.TheVariants as work
use Rattle.data_lane.specs.Legal.{work_of, effect_by, failure, failures, of_now, taken_outs, Worked, worked, State, at_first, step_of, entry_after, LegalFrom}
use Rattle.printable_law.specs.OctetLaw.{IsOctet, AreOctets}
use Rattle.printable_law.specs.Ranges.{IsPoint, IsSelection, EventInRange, EntryInRange, AnswerInRange, OutputInRange, OutputsInRange, LaneHeadInRange}
use Rattle.printable_law.proofs.Lists.{either, all-append, all-map, all-filter}
use Rattle.printable_law.specs.UnitRanges.{DataKeepsRanges}
use Rattle.printable_law.proofs.Units.{MatterInRange, event-matter}
use Rattle.printable_law.proofs.Sending.{NextInRange, refusal-given, routed-given, given-given}

-- Segments and reassemblies.

pub record PieceInRange (p : Piece) : Type 0 where
  pub opc : IsPoint p.opc
  pub sls : IsSelection p.sls
  pub class_octet : IsOctet p.class_octet
  pub called : AreOctets p.called
  pub calling : AreOctets p.calling
  pub body : AreOctets p.body
  pub segmentation : AreOctets p.segmentation
  pub importance : IfSome p.importance IsOctet
  pub ssn : IsOctet p.ssn

abbrev ProcessInRange : Process → Type 0
ProcessInRange x = PieceInRange x.first × AreOctets x.body

abbrev ProcessesInRange : List Process → Type 0
ProcessesInRange processes = AllByRecursion ProcessInRange processes

abbrev NowInRange : Now → Type 0
NowInRange Waiting = Unit {0}
NowInRange (Whole p) = PieceInRange p
NowInRange (NoRoom p) = PieceInRange p
NowInRange Orphan = Unit {0}
NowInRange Broken = Unit {0}

abbrev TakenInRange : Taken → Type 0
TakenInRange taken = IfSome taken.failed PieceInRange × NowInRange taken.now

abbrev AfterInRange : After → Type 0
AfterInRange after = IfSome after.process ProcessInRange × TakenInRange after.taken

first-of : (process : Option Process) → IfSome process ProcessInRange → IfSome (option_map (λ (x : Process). x.first) process) PieceInRange
first-of None in_range = tt
first-of (Some x) in_range = in_range.0

begins : (ticks : ℕ) (process : Option Process) (piece : Piece) → IfSome process ProcessInRange → PieceInRange piece → AfterInRange (after_first ticks process piece)
begins ticks process piece in_range p =
    either AfterInRange (remaining piece == 0) _ _ (tt, (first-of process in_range, p)) ((p, p.body), (first-of process in_range, tt))

goes-on : (process : Option Process) (piece : Piece) → IfSome process ProcessInRange → PieceInRange piece → AfterInRange (after_later process piece)
goes-on None piece in_range p = (tt, (tt, tt))
goes-on (Some x) piece in_range p =
    let body : AreOctets (x.body ++ piece.body) = all-append IsOctet x.body piece.body in_range.1 p.body in
    either AfterInRange (not (remaining piece + 1 == x.left)) _ _ (tt, (in_range.0, tt))
    (either AfterInRange (remaining piece == 0) _ _ (
      tt,
      (
        tt,
        record {
          opc = in_range.0.opc;
          sls = in_range.0.sls;
          class_octet = in_range.0.class_octet;
          called = in_range.0.called;
          calling = in_range.0.calling;
          body = body;
          segmentation = in_range.0.segmentation;
          importance = in_range.0.importance;
          ssn = in_range.0.ssn;
        },
      ),
    )
    ((in_range.0, body), (tt, tt)))

after-in : (ticks : ℕ) (process : Option Process) (piece : Piece) → IfSome process ProcessInRange → PieceInRange piece → AfterInRange (reassembly_after ticks process piece)
unfolding reassembly_after
after-in ticks process piece in_range p =
    either AfterInRange (is_first piece) (after_first ticks process piece) (after_later process piece) (begins ticks process piece in_range p) (goes-on process piece in_range p)

live-in : (key : Key) (processes : List Process) → ProcessesInRange processes → IfSome (live key processes) ProcessInRange
live-in key [] all = tt
live-in key (x ∷ processes) all = either (λ (found : Option Process). IfSome found ProcessInRange) (is_of key x) (Some x) (live key processes) all.0 (live-in key processes all.1)

replaced-in : (piece : Piece) (process : Option Process) (processes : List Process) → IfSome process ProcessInRange → ProcessesInRange processes
    → ProcessesInRange (replaced piece process processes)
replaced-in piece None processes in_range all = all-filter ProcessInRange (λ x. not (is_of (key_of piece) x)) processes all
replaced-in piece (Some x) processes in_range all =
    either ProcessesInRange (is_first piece) (others (key_of piece) processes ++ x ∷ []) (map (λ y. if is_of (key_of piece) y then x else y) processes)
    (all-append ProcessInRange (others (key_of piece) processes) (x ∷ []) (all-filter ProcessInRange (λ x. not (is_of (key_of piece) x)) processes all) (in_range, tt))
    (all-map ProcessInRange ProcessInRange (λ y. if is_of (key_of piece) y then x else y) (λ y one. either ProcessInRange (is_of (key_of piece) y) x y in_range one) processes all)

abbrev TookInRange : List Process × Taken → Type 0
TookInRange r = ProcessesInRange r.0 × TakenInRange r.1

takes-in : (ticks : ℕ) (processes : List Process) (piece : Piece) → ProcessesInRange processes → PieceInRange piece → TookInRange (takes ticks processes piece)
unfolding takes
takes-in ticks processes piece all p =
    let after = reassembly_after ticks (live (key_of piece) processes) piece in
    let good : AfterInRange after = after-in ticks (live (key_of piece) processes) piece (live-in (key_of piece) processes all) p in
    either TookInRange (has_no_room piece processes) (processes, record { failed = None; now = NoRoom piece }) (goes_in piece after processes)
    (all, (tt, p)) (replaced-in piece after.process processes good.0 all, good.1)

-- What comes of the reassemblies.

failure-given : (own cause : ℕ) (p : Piece) → IsOctet cause → PieceInRange p → OutputInRange (failure own cause p)
failure-given own cause p small in_range =
    refusal-given own p.opc p.sls cause (unit_in p) in_range.opc in_range.sls small (record {
      first = in_range.class_octet;
      hop = omega arith;
      called = in_range.called;
      calling = in_range.calling;
      body = in_range.body;
      segmentation = in_range.segmentation;
      importance = in_range.importance;
    })

failures-given : (own : ℕ) (failed : Option Piece) → IfSome failed PieceInRange → OutputsInRange (failures own failed)
failures-given own None in_range = tt
failures-given own (Some p) in_range = (failure-given own RETURN_SEGMENTATION_FAILURE p (omega arith) in_range, tt)

now-given : (own : ℕ) (now : Now) → NowInRange now → OutputsInRange (of_now own now)
now-given own Waiting in_range = tt
now-given own Orphan in_range = (tt, tt)
now-given own Broken in_range = (tt, tt)
now-given own (NoRoom p) in_range = (failure-given own RETURN_LOCAL_PROCESSING p (omega arith) in_range, tt)
now-given own (Whole p) in_range = ((in_range.ssn, (omega arith, in_range.called, in_range.calling, in_range.body)), tt)

taken-given : (own : ℕ) (taken : Taken) → TakenInRange taken → OutputsInRange (taken_outs own taken)
taken-given own taken in_range =
    all-append OutputInRange (failures own taken.failed) (of_now own taken.now) (failures-given own taken.failed in_range.0) (now-given own taken.now in_range.1)

abbrev WorkInRange : Work → Type 0
WorkInRange work.Nothing = Unit {0}
WorkInRange (work.Segment piece) = PieceInRange piece
WorkInRange work.Tick = Unit {0}

abbrev WorkedInRange : Worked → Type 0
WorkedInRange w = ProcessesInRange w.processes × OutputsInRange w.outs

worked-in : (own ticks : ℕ) (processes : List Process) (todo : Work) → ProcessesInRange processes → WorkInRange todo → WorkedInRange (worked own ticks processes todo)
worked-in own ticks processes work.Nothing all todo = (all, tt)
worked-in own ticks processes (work.Segment piece) all todo =
    let took = takes-in ticks processes piece all todo in (took.0, taken-given own (takes ticks processes piece).1 took.1)
worked-in own ticks processes work.Tick all todo = (
  all-map ProcessInRange ProcessInRange aged (λ x one. one) (filter (λ x. not (is_due x)) processes) (all-filter ProcessInRange (λ x. not (is_due x)) processes all),
  all-map PieceInRange OutputInRange (failure own RETURN_SEGMENTATION_FAILURE) (λ p one. failure-given own RETURN_SEGMENTATION_FAILURE p (omega arith) one) (ended_by_tick processes)
      (all-map ProcessInRange PieceInRange (λ x. x.first) (λ x one. one.0) (filter is_due processes) (all-filter ProcessInRange is_due processes all)),
)

-- An event.

abbrev EffectInRange : Effect → Type 0
EffectInRange e = OutputsInRange e.outs × WorkInRange e.work

next-work : (next : Next) → NextInRange next → WorkInRange (work_of next)
next-work Done in_range = tt
next-work (Gather s ssn) in_range = record {
  opc = in_range.0.opc;
  sls = in_range.0.sls;
  class_octet = in_range.0.class_octet;
  called = in_range.0.called;
  calling = in_range.0.calling;
  body = in_range.0.body;
  segmentation = in_range.0.segmentation;
  importance = in_range.0.importance;
  ssn = in_range.1;
}

effect-in : (head : LaneHead) (number cut : ℕ) (matter : Matter) (answer : Option Answer) → LaneHeadInRange head → MatterInRange matter → IfSome answer AnswerInRange
    → EffectInRange (effect_by head number cut matter answer)
effect-in head number cut (from_network opc sls x q) (Some answer) told m a =
    let done = routed-given head.short head.terms.own opc sls x answer (reference_after number cut) told.own m.0 m.1 a m.2 m.3 in (done.0, next-work _ done.1)
effect-in head number cut (from_network opc sls x q) None told m a = (tt, tt)
effect-in head number cut (from_user g q) (Some answer) told m a = (given-given g answer (reference_after number cut) m.0 a, tt)
effect-in head number cut (from_user g q) None told m a = (tt, tt)
effect-in head number cut (settled outs) answer told m a = (m, tt)
effect-in head number cut of_tick answer told m a = (tt, tt)

-- The journal.

step-in : (head : LaneHead) (number : ℕ) (s : State) (event : Event) (answer : Option Answer) → LaneHeadInRange head → ProcessesInRange s.processes
    → EventInRange event → IfSome answer AnswerInRange
    → OutputsInRange (step_of head number s event answer).outs × ProcessesInRange (step_of head number s event answer).after.processes
unfolding step_of
step-in head number s event answer told all taken a =
    let effect = effect_by head number s.cut (matter_of event) answer in
    let good : EffectInRange effect = effect-in head number s.cut (matter_of event) answer told (event-matter event taken) a in
    let done = worked-in head.terms.own head.reassembly s.processes effect.work all good.1 in
    (all-append OutputInRange effect.outs (worked head.terms.own head.reassembly s.processes effect.work).outs good.0 done.1, done.0)

journal-given : (head : LaneHead) (number : ℕ) (s : State) (journal : List Entry) → LaneHeadInRange head → ProcessesInRange s.processes → LegalFrom head number s journal
    → AllByRecursion EntryInRange journal → AllByRecursion (λ e. OutputsInRange e.outs) journal
journal-given head number s [] told all legal entries = tt
journal-given head number s (entry ∷ journal) told all legal entries =
    let step = step-in head number s entry.event (answer_in entry.asked) told all entries.0.0 entries.0.1 in (
      subst OutputsInRange (sym legal.0.outputs) step.0,
      journal-given head number (entry_after head number s entry) journal told step.1 legal.1 entries.1,
    )

pub data_keeps_ranges : DataKeepsRanges
data_keeps_ranges head number journal told legal entries = journal-given head number at_first journal told tt legal entries
