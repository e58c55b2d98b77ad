-- What is read of a capture, whatever comes behind what came.
use Rattle.std.proofs.Common.{◌≡◌, ◌⊎◌, ℕ, ◌+◌, ◌-◌, ◌<◌, ◌≤◌, nat_lt, if◌then◌else◌, List, [], ◌∷◌, ◌++◌, length, take, drop, Bool, true, false, Option, Some, None, option_map, Result, Ok, Err, refl, sym, ap, subst, ◌∙◌, arith, append_assoc, append-nil, length-drop, take-append-drop, inl, inr, true≢false}
use Rattle.std.proofs.lemmas.Bool.Decides.{nat_tests}
use Rattle.std.specs.List.{list_any}
use Rattle.std.specs.Io.KnownBytes.{Consumes, IsAtEnd}
use Rattle.relay_base.specs.Giving.{◌>>=◌, RefusesOrMemory}
use Rattle.relay_base.specs.declared.limits.TheConstants.{MOST_BYTES}
use Rattle.relay_base.specs.declared.errors.ReadAllFault.{ReadAllFault}
use Rattle.relay_base.specs.declared.errors.ReadAllFault.TheVariants as read
use Rattle.node_head.specs.Lines.{is_mark, lines, halves, joined}
use Rattle.node_head.specs.Head.{begun, head_of_text}
use Rattle.node_head.specs.declared.head.Head.{Head}
use Rattle.node_head.specs.declared.fault.HeadFault.{HeadFault}
use Rattle.capture_form.specs.Capture.{at_head, capture_of, capture_within, fault_in}
use Rattle.capture_form.specs.Inner.Progress.{begun_from, capture_begun, capture_ended, first_progress, lines_read, octets_read}
use Rattle.capture_form.specs.declared.capture.Capture.{Capture}
use Rattle.capture_form.specs.declared.fault.CaptureFault.{CaptureFault}
use Rattle.capture_form.specs.declared.progress.Progress.{Progress}
use Rattle.capture_form.proofs.ProgressLemmas.{within-read, within-refused}
use Rattle.capture_pieces.specs.Pieces.{IsRefused, States, TakesNone}
use Rattle.capture_pieces.specs.Inner.Blocks.{Block, SayOctets}
use Rattle.capture_pieces.specs.Inner.Feeds.{Comes, EndsLine, HasCome, HasMark, IsWhole, PassedOver}
use Rattle.capture_pieces.specs.Inner.Reading.{IsFaulty, IsReadBeside, IsReadOn, IsReadTo, IsReadWhole, IsWholeCapture, MayCome, Stops}
use Rattle.capture_pieces.specs.declared.fault.PieceFault.TheVariants as fault
use Rattle.capture_pieces.specs.declared.feed.Feed.{Feed}
use Rattle.capture_pieces.proofs.BlockLemmas.{lines-behind, read-more, read-none, say-none}

-- ---- octets behind octets

read-on : (head : Head) (p : Progress) (xs ys : List ℕ) → EndsLine xs → octets_read head p (xs ++ ys) ≡ (octets_read head p xs >>= (λ q. octets_read head q ys))
read-on head p xs ys ends = ap (lines_read head p) (lines-behind xs ys ends) ∙ read-more head p (lines xs) (lines ys)

-- ---- a head, and what comes behind it

abbrev Halves : Type 0
Halves = List (List ℕ) × List (List ℕ)

-- lines that have the mark have it wherever lines come behind them
record HasHalves (ls ms : List (List ℕ)) : Type 0 where
  parts : Halves
  here : halves ls ≡ Some parts
  behind : halves (ls ++ ms) ≡ Some (parts.0, parts.1 ++ ms)

halves-step : (t : Bool) (line : List ℕ) (more ms : List (List ℕ)) → is_mark line ≡ t → (t ≡ false → HasHalves more ms) → HasHalves (line ∷ more) ms
unfolding halves
halves-step true line more ms e found = record { parts = ([], more); here = rw e refl; behind = rw e refl }
halves-step false line more ms e found =
    let f = found refl in
    record {
      parts = (line ∷ f.parts.0, f.parts.1);
      here = rw e (ap (option_map (λ (h : Halves). (line ∷ h.0, h.1))) f.here);
      behind = rw e (ap (option_map (λ (h : Halves). (line ∷ h.0, h.1))) f.behind);
    }

halves-more : (ls ms : List (List ℕ)) → list_any is_mark ls ≡ true → HasHalves ls ms
halves-more [] ms e = absurd (cc)
halves-more (line ∷ more) ms e = halves-step (is_mark line) line more ms refl (λ no. halves-more more ms (sym (rw no refl) ∙ e))

abbrev Begun : Type 0
Begun = Head × Progress

abbrev with_head : Head → Progress → Result Begun CaptureFault
with_head head q = Ok (head, q)

-- octets that come behind a capture's beginning are read on
abbrev pub read_on : List ℕ → Begun → Result Begun CaptureFault
read_on octets t = octets_read t.0 t.1 octets >>= with_head t.0

then-on : (head : Head) (m : Result Progress CaptureFault) (ms : List (List ℕ))
    → ((m >>= (λ q. lines_read head q ms)) >>= with_head head) ≡ ((m >>= with_head head) >>= (λ (t : Begun). lines_read t.0 t.1 ms >>= with_head t.0))
then-on head (Ok q) ms = refl
then-on head (Err fault) ms = refl

from-more : (head : Head) (count : ℕ) (ls ms : List (List ℕ)) → begun_from (head, count, ls ++ ms) ≡ (begun_from (head, count, ls) >>= (λ (t : Begun). lines_read t.0 t.1 ms >>= with_head t.0))
from-more head count ls ms =
    ap (λ (m : Result Progress CaptureFault). m >>= with_head head) (read-more head (first_progress head (count + 2)) ls ms)
    ∙ then-on head (lines_read head (first_progress head (count + 2)) ls) ms

abbrev parts_of : List (List ℕ) → List (List ℕ) → Head → Result (Head × ℕ × List (List ℕ)) HeadFault
parts_of before after head = Ok (head, length before, after)

head-more : (m : Result Head HeadFault) (before ls ms : List (List ℕ))
    → (at_head (m >>= parts_of before (ls ++ ms)) >>= begun_from) ≡ ((at_head (m >>= parts_of before ls) >>= begun_from) >>= (λ (t : Begun). lines_read t.0 t.1 ms >>= with_head t.0))
head-more (Ok head) before ls ms = from-more head (length before) ls ms
head-more (Err fault) before ls ms = refl

lines-begun : (ls ms : List (List ℕ)) → HasHalves ls ms
    → (at_head (begun (halves (ls ++ ms))) >>= begun_from) ≡ ((at_head (begun (halves ls)) >>= begun_from) >>= (λ (t : Begun). lines_read t.0 t.1 ms >>= with_head t.0))
lines-begun ls ms h =
    ap (λ f. at_head (begun f) >>= begun_from) h.behind
    ∙ head-more (head_of_text (joined h.parts.0)) h.parts.0 h.parts.1 ms
    ∙ ap (λ f. (at_head (begun f) >>= begun_from) >>= (λ (t : Begun). lines_read t.0 t.1 ms >>= with_head t.0)) (sym h.here)

pub begun-more : (xs ys : List ℕ) → EndsLine xs → list_any is_mark (lines xs) ≡ true → capture_begun (xs ++ ys) ≡ (capture_begun xs >>= read_on ys)
begun-more xs ys ends mark =
    ap (λ ls. at_head (begun (halves ls)) >>= begun_from) (lines-behind xs ys ends) ∙ lines-begun (lines xs) (lines ys) (halves-more (lines xs) (lines ys) mark)

-- nothing comes behind it
on-none : (m : Result Begun CaptureFault) → m ≡ (m >>= read_on [])
on-none (Ok t) = sym (ap (λ (r : Result Progress CaptureFault). r >>= with_head t.0) (read-none t.0 t.1))
on-none (Err fault) = refl

nothing : (xs : List ℕ) → length xs ≡ 0 → xs ≡ []
nothing [] e = refl
nothing (x ∷ xs) e = absurd (omega (arith, e))

-- the first octets of a feed were read
pub moved : (first now : Option (List ℕ)) (old new : Feed) (taken : List ℕ) (count : ℕ) → HasCome first now old taken → new.text.items ≡ drop count old.text.items → new.came ≡ old.came
    → new.ended ≡ old.ended → HasCome first now new (taken ++ take count old.text.items)
moved first now old new taken count has text came ended =
    let front = take count old.text.items in
    let same : taken ++ old.text.items ≡ (taken ++ front) ++ new.text.items =
    ap (λ l. taken ++ l) (sym (take-append-drop count old.text.items) ∙ ap (λ l. front ++ l) (sym text)) ∙ sym (append_assoc taken front new.text.items) in
    record {
      octets = subst (Consumes first now) same has.octets;
      count = came ∙ has.count ∙ ap length same;
      end = λ e. has.end (sym ended ∙ e);
    }

-- what stands behind whole lines of a feed with the mark of the head
pub begun-whole : (feed : Feed) (count : ℕ) (future : List ℕ) → IsWhole feed count → HasMark feed count → MayCome feed future
    → capture_begun (feed.text.items ++ future) ≡ (capture_begun (take count feed.text.items) >>= read_on (drop count feed.text.items ++ future))
begun-whole feed count future whole mark may = by_end feed.ended refl mark
  where
    text : List ℕ
    text = feed.text.items

    parted : text ++ future ≡ take count text ++ (drop count text ++ future)
    parted = ap (λ l. l ++ future) (sym (take-append-drop count text)) ∙ append_assoc (take count text) (drop count text) future

    at_end : feed.ended ≡ true → drop count text ++ future ≡ []
    at_end e = ap (λ l. drop count text ++ l) (may e) ∙ append-nil (drop count text) ∙ nothing (drop count text) (omega (arith, whole.all e, length-drop count text))

    by_end : (t : Bool) → feed.ended ≡ t → HasMark feed count → capture_begun (text ++ future) ≡ (capture_begun (take count text) >>= read_on (drop count text ++ future))
    by_end true e m =
        ap capture_begun (parted ∙ ap (λ l. take count text ++ l) (at_end e) ∙ append-nil (take count text))
        ∙ on-none (capture_begun (take count text)) ∙ ap (λ l. capture_begun (take count text) >>= read_on l) (sym (at_end e))
    by_end false e (inl ended) = absurd (true≢false (sym ended ∙ e))
    by_end false e (inr m) = ap capture_begun parted ∙ begun-more (take count text) (drop count text ++ future) (whole.ends e) m

-- the whole lines were read, with the head
pub reads-to : (first now : Option (List ℕ)) (head : Head) (p : Progress) (old new : Feed) (count : ℕ) → IsWhole old count → HasMark old count → HasCome first now old []
    → capture_begun (take count old.text.items) ≡ Ok (head, p) → new.text.items ≡ drop count old.text.items → new.came ≡ old.came → new.ended ≡ old.ended → IsReadTo first now head new p
reads-to first now head p old new count whole mark has read text came ended =
    let front = take count old.text.items in
    record {
      taken = front;
      came = moved first now old new [] count has text came ended;
      ends = λ e. inl refl;
      goes = λ e rest. begun-more front rest (whole.ends (sym ended ∙ e)) (has-mark mark (sym ended ∙ e)) ∙ ap (λ (m : Result Begun CaptureFault). m >>= read_on rest) read;
      all = λ e. text ∙ nothing (drop count old.text.items) (omega (arith, whole.all (sym ended ∙ e), length-drop count old.text.items));
      stops = λ e. read ∙ sym (ap (λ (r : Result Progress CaptureFault). r >>= with_head head) (read-none head p));
    }
  where
    has-mark : HasMark old count → old.ended ≡ false → list_any is_mark (lines (take count old.text.items)) ≡ true
    has-mark (inl e) f = absurd (true≢false (sym e ∙ f))
    has-mark (inr m) f = m

-- or refused
pub faulty-head : (first now : Option (List ℕ)) (feed : Feed) (count : ℕ) (fault : Option CaptureFault) → IsWhole feed count → HasMark feed count → HasCome first now feed []
    → RefusesOrMemory fault (capture_begun (take count feed.text.items)) → IsFaulty first now feed fault
faulty-head first now feed count fault whole mark has refused = record {
  taken = [];
  came = has;
  refused = λ future may. within-refused (feed.text.items ++ future) fault (refused-on fault future may refused);
}
  where
    refused-on : (f : Option CaptureFault) (future : List ℕ) → MayCome feed future → RefusesOrMemory f (capture_begun (take count feed.text.items)) → RefusesOrMemory f (capture_begun (feed.text.items ++ future))
    refused-on None future may e = tt
    refused-on (Some f) future may e =
        begun-whole feed count future whole mark may ∙ ap (λ (m : Result Begun CaptureFault). m >>= read_on (drop count feed.text.items ++ future)) e

-- ---- why a capture isn't read on

abbrev fails : ReadAllFault → Result (Unit {0}) ReadAllFault
fails fault = Err fault

-- too many octets came, or none for another reason
pub stops-reading : (first now : Option (List ℕ)) (feed : Feed) (taken : List ℕ) (f : ReadAllFault) → Comes first taken now feed (fails f) → Stops first now feed (fault.Read f)
stops-reading first now feed taken read.TooLong comes = comes
stops-reading first now feed taken read.Fault comes = tt
stops-reading first now feed taken read.Memory comes = tt

-- ---- lines behind others

-- lines that wait were taken, and others are read
pub reads-beside : (first now : Option (List ℕ)) (head : Head) (p q : Progress) (feed old new : Feed) (pending : List ℕ) (count : ℕ) (before : IsReadBeside first now head feed p pending)
    → feed.ended ≡ false → (next : Option (List ℕ)) → HasCome first next old before.taken → IsWhole old count → octets_read head p pending ≡ Ok q
    → new.text.items ≡ drop count old.text.items → new.came ≡ old.came → new.ended ≡ old.ended → IsReadBeside first next head new q (take count old.text.items)
reads-beside first now head p q feed old new pending count before goes next has whole read text came ended =
    let front = take count old.text.items in
    let on = λ (rest : List ℕ).
    before.goes goes rest
    ∙ ap (λ (m : Result Progress CaptureFault). m >>= with_head head) (read-on head p pending rest (before.ends goes) ∙ ap (λ (m : Result Progress CaptureFault). m >>= (λ r. octets_read head r rest)) read) in
    record {
      taken = before.taken ++ front;
      came = moved first next old new before.taken count has text came ended;
      ends = λ e. whole.ends (sym ended ∙ e);
      goes = λ e rest. ap capture_begun (append_assoc before.taken front rest) ∙ on (front ++ rest);
      all = λ e. text ∙ nothing (drop count old.text.items) (omega (arith, whole.all (sym ended ∙ e), length-drop count old.text.items));
      stops = λ e. on front;
    }

-- or refused, while others came
pub faulty-beside : (first now next : Option (List ℕ)) (head : Head) (p : Progress) (feed old : Feed) (pending : List ℕ) (fault : Option CaptureFault) (before : IsReadBeside first now head feed p pending)
    → feed.ended ≡ false → HasCome first next old before.taken → RefusesOrMemory fault (octets_read head p pending) → IsFaulty first next old fault
faulty-beside first now next head p feed old pending fault before goes has refused = record {
  taken = before.taken;
  came = has;
  refused = λ future may. within-refused (before.taken ++ (old.text.items ++ future)) fault (refused-on fault (old.text.items ++ future) refused);
}
  where
    refused-on : (f : Option CaptureFault) (rest : List ℕ) → RefusesOrMemory f (octets_read head p pending) → RefusesOrMemory f (capture_begun (before.taken ++ rest))
    refused-on None rest e = tt
    refused-on (Some f) rest e =
        before.goes goes rest
        ∙ ap (λ (m : Result Progress CaptureFault). m >>= with_head head) (read-on head p pending rest (before.ends goes) ∙ ap (λ (m : Result Progress CaptureFault). m >>= (λ r. octets_read head r rest)) e)

-- all lines were taken
pub reads-whole : (first now : Option (List ℕ)) (head : Head) (p q : Progress) (feed : Feed) (pending : List ℕ) → IsReadBeside first now head feed p pending → feed.ended ≡ true
    → octets_read head p pending ≡ Ok q → IsReadWhole first now head feed q
reads-whole first now head p q feed pending before ended read = record {
  all = before.taken;
  came = before.came;
  ended = ended;
  none = before.all ended;
  read = before.stops ended ∙ ap (λ (m : Result Progress CaptureFault). m >>= with_head head) read;
}

-- or the last ones are refused
pub faulty-end : (first now : Option (List ℕ)) (head : Head) (p : Progress) (feed : Feed) (pending : List ℕ) (fault : Option CaptureFault) → IsReadBeside first now head feed p pending
    → feed.ended ≡ true → RefusesOrMemory fault (octets_read head p pending) → IsFaulty first now feed fault
faulty-end first now head p feed pending fault before ended refused = record {
  taken = before.taken;
  came = before.came;
  refused = λ future may. within-refused (before.taken ++ (feed.text.items ++ future)) fault (refused-on fault future may refused);
}
  where
    refused-on : (f : Option CaptureFault) (future : List ℕ) → MayCome feed future → RefusesOrMemory f (octets_read head p pending)
        → RefusesOrMemory f (capture_begun (before.taken ++ (feed.text.items ++ future)))
    refused-on None future may e = tt
    refused-on (Some f) future may e =
        ap capture_begun (ap (λ l. before.taken ++ (feed.text.items ++ l)) (may ended) ∙ ap (λ l. before.taken ++ l) (append-nil feed.text.items ∙ before.all ended) ∙ append-nil before.taken)
        ∙ before.stops ended ∙ ap (λ (m : Result Progress CaptureFault). m >>= with_head head) e

-- at first none waits
pub reads-first : (first now : Option (List ℕ)) (head : Head) (feed : Feed) (p : Progress) (blocks : List Block) → IsReadTo first now head feed p → blocks ≡ []
    → IsReadOn first now head feed p blocks
reads-first first now head feed p blocks read none = record { pending = []; says = subst (SayOctets head []) (sym none) (say-none head [] refl); read = read }

-- what of the lines is still to come
abbrev pub still : Bool → ℕ → ℕ
still ended came = if ended then 0 else MOST_BYTES - came + 1

-- it is less when more came, or none comes any more
pub still-less : (old new : Bool) (m n : ℕ) → old ≡ false → (new ≡ true) ⊎ (m < n) → n ≤ MOST_BYTES → still new n < still old m
still-less false true m n e more few = omega arith
still-less false false m n e (inl ended) few = absurd (true≢false (sym ended))
still-less false false m n e (inr less) few = omega (arith, less, few)
still-less true new m n e more few = absurd (true≢false e)

-- ---- the capture

all-came : (first now : Option (List ℕ)) (head : Head) (feed : Feed) (p : Progress) (whole : IsReadWhole first now head feed p) → whole.all ++ feed.text.items ≡ whole.all
all-came first now head feed p whole = ap (λ l. whole.all ++ l) whole.none ∙ append-nil whole.all

-- what was read is a capture
pub whole-capture : (first now : Option (List ℕ)) (head : Head) (feed : Feed) (p : Progress) (capture : Capture) → IsReadWhole first now head feed p → feed.came ≤ MOST_BYTES
    → capture_ended head p ≡ Ok capture → IsWholeCapture first now capture
whole-capture first now head feed p capture whole few ends =
    let same = all-came first now head feed p whole in
    record {
      all = whole.all;
      came = subst (Consumes first now) same whole.came.octets;
      end = whole.came.end whole.ended;
      few = omega (arith, few, whole.came.count, ap length same);
      read = within-read whole.all head p (Ok capture) whole.read ends;
    }

-- or its end is refused
pub faulty-whole : (first now : Option (List ℕ)) (head : Head) (feed : Feed) (p : Progress) (fault : CaptureFault) → IsReadWhole first now head feed p
    → RefusesOrMemory (fault_in fault) (capture_ended head p) → IsFaulty first now feed (fault_in fault)
faulty-whole first now head feed p fault whole refused = record {
  taken = whole.all;
  came = whole.came;
  refused = λ future may.
      subst (λ octets. RefusesOrMemory (fault_in fault) (capture_within octets))
      (sym (ap (λ l. whole.all ++ (feed.text.items ++ l)) (may whole.ended) ∙ ap (λ l. whole.all ++ l) (append-nil feed.text.items) ∙ all-came first now head feed p whole))
      (within-read whole.all head p (Err fault) whole.read refused);
}

-- ---- what was taken of a source

not-less : (n m : ℕ) → n ≤ m → nat_lt m n ≡ false
not-less n m h = grind (arith, nat_tests)

of-within : (all : List ℕ) → length all ≤ MOST_BYTES → capture_of all ≡ capture_within all
unfolding capture_of
of-within all few = rw (not-less (length all) MOST_BYTES few) refl

pub states-whole : (first now : Option (List ℕ)) (capture : Capture) → IsWholeCapture first now capture → States first now (Ok capture)
states-whole first now capture whole = (whole.all, whole.came, whole.end, of-within whole.all whole.few ∙ whole.read)

refused-all : (first now : Option (List ℕ)) (all : List ℕ) (fault : Option CaptureFault) → Consumes first now all → IsAtEnd now → length all ≤ MOST_BYTES
    → RefusesOrMemory fault (capture_within all) → IsRefused first now fault
refused-all first now all None came end few refused = tt
refused-all first now all (Some f) came end few refused = (all, came, end, of-within all few ∙ refused)

abbrev is_done : Result (Unit {0}) ReadAllFault
is_done = Ok tt

-- what is faulty is refused, when all that came behind it was passed over
pub refused-over : (first old now : Option (List ℕ)) (feed : Feed) (fault : Option CaptureFault) (faulty : IsFaulty first old feed fault) → PassedOver first faulty.taken feed now is_done
    → IsRefused first now fault
refused-over first old now feed fault faulty over =
    refused-all first now (faulty.taken ++ (feed.text.items ++ over.0)) fault over.1 over.2 over.3
    (faulty.refused over.0 (λ e. nothing over.0 (over.4 e)))

-- or too much came, or the source failed
pub none-over : (first now : Option (List ℕ)) (feed : Feed) (taken : List ℕ) (f : ReadAllFault) → PassedOver first taken feed now (fails f) → TakesNone first now (fault.Read f)
none-over first now feed taken read.TooLong over = over
none-over first now feed taken read.Fault over = tt
none-over first now feed taken read.Memory over = tt

-- at first nothing came
pub comes-none : (first : Option (List ℕ)) (feed : Feed) → feed.text.items ≡ [] → feed.came ≡ 0 → feed.ended ≡ false → HasCome first first feed []
comes-none first feed none zero goes = record {
  octets = by_source first;
  count = zero ∙ sym (ap length none);
  end = λ e. absurd (true≢false (sym e ∙ goes));
}
  where
    by_source : (s : Option (List ℕ)) → Consumes s s ([] ++ feed.text.items)
    by_source None = tt
    by_source (Some xs) = ap (λ l. l ++ xs) (sym none)

-- reading stopped before the end
pub stops-none : (first now : Option (List ℕ)) (feed : Feed) (f : ReadAllFault) → Stops first now feed (fault.Read f) → TakesNone first now (fault.Read f)
stops-none first now feed read.TooLong stops = stops
stops-none first now feed read.Fault stops = tt
stops-none first now feed read.Memory stops = tt
