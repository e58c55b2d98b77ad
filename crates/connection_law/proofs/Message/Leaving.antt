-- What leaves after the event, on either end.
use Rattle.std.proofs.Common.{◌≡◌, ℕ, suc, ◌==◌, ◌&&◌, ◌||◌, nat_lt, not, if◌then◌else◌, Bool, true, false, List, [], ◌∷◌, ◌++◌, take, Option, Some, None, unwrap_or, is_some, refl, sym, subst, ◌∙◌, ap, append-nil, append_assoc}
use Rattle.relay_base.specs.declared.words.Output.{Output}
use Rattle.plant_core.specs.declared.terms.Ticks.{Ticks}
use Rattle.q713_shape.specs.Writing.{octets_of}
use Rattle.q713_codec.specs.declared.message.Message.TheVariants.{Ed}
use Rattle.q713_codec.specs.Writing.{spelling_of}
use Rattle.section_model.specs.declared.hand.Hand.TheVariants as hand
use Rattle.section_flow.specs.declared.unit.Unit.{Unit as DataUnit}
use Rattle.section_model.specs.Ends.{End, wire, owner, SectionHead, Section, Connection, turned, is_up}
use Rattle.section_model.specs.declared.hand.Acted.{Acted}
use Rattle.section_model.specs.Line.{sent_on, line_takes}
use Rattle.section_model.specs.Windowed.{windowed_takes, numbered, leaves, acknowledges}
use Rattle.section_flow.specs.Windows.{may_leave}
use Rattle.section_model.specs.UserEnd.{user_takes}
use Rattle.section_model.specs.Acting.{timed, by_windows, section_takes}
use Rattle.section_model.specs.Coupling.{exchange, settles}
use Rattle.section_model.specs.Step.{on_windows, after_event}
use Rattle.connection_law.specs.SentUnits.{leaving}
use Rattle.connection_law.proofs.Flow.Flowing.{either, line_counts}
use Rattle.connection_law.proofs.Flow.Ordering.{this_left}
use Rattle.connection_law.specs.Messages.{data_among, expedited_among}
use Rattle.connection_law.specs.ExpeditedSent.{as_expedited, waiting_as, waiting_on}
use Rattle.connection_law.proofs.Message.Plain.{IsPlain, data_joined, expedited_joined, none_plain, acknowledges_plain}
use Rattle.connection_law.proofs.Message.Exchanging.{exchange_plain, left_gives}

-- the units that leave, as DT2
abbrev pub data_leaving : End → List Output
data_leaving (wire x) = numbered x.head x.windows.sent x.windows.passed (leaving (wire x))
data_leaving (owner u) = []

all_data : (x : SectionHead) (ps pr : ℕ) (units : List DataUnit) → data_among (numbered x ps pr units) ≡ numbered x ps pr units
unfolding data_among spelling_of octets_of
all_data x ps pr [] = refl
all_data x ps pr (u ∷ units) = ap (λ (outs : List Output). numbered x ps pr (u ∷ []) ++ outs) (all_data x (suc ps) pr units)

no_expedited : (x : SectionHead) (ps pr : ℕ) (units : List DataUnit) → expedited_among (numbered x ps pr units) ≡ []
unfolding expedited_among spelling_of octets_of
no_expedited x ps pr [] = refl
no_expedited x ps pr (u ∷ units) = no_expedited x (suc ps) pr units

-- What is sent on an end.
pub record Sends (e : End) (outs : List Output) : Type 0 where
  pub numbered_data : data_among outs ≡ data_leaving e
  pub expedited : expedited_among outs ≡ waiting_on e

abbrev waits_as : Section → Option (List ℕ) → List Output
waits_as x waiting = if is_some waiting && not x.windows.unanswered then sent_on x.head (Ed x.head.other (unwrap_or waiting [])) ∷ [] else []

some_waits : (x : Section) (is_open free : Bool) (body : List ℕ) → is_open ≡ true
    → (if free then as_expedited x body ∷ [] else []) ≡ (if is_open && free then as_expedited x body ∷ [] else [])
some_waits x is_open free body e = rw e refl

waits : (x : Section) (waiting : Option (List ℕ)) → (is_up x.head.state && x.head.class == 3) ≡ true → waits_as x waiting ≡ waiting_as x waiting
waits x None is_open = refl
waits x (Some body) is_open = some_waits x (is_up x.head.state && x.head.class == 3) (not x.windows.unanswered) body is_open

expedited_alone : (x : Section) (b : Bool) (body : List ℕ)
    → (data_among (if b then as_expedited x body ∷ [] else []) ≡ []) × (expedited_among (if b then as_expedited x body ∷ [] else []) ≡ (if b then as_expedited x body ∷ [] else []))
unfolding data_among expedited_among spelling_of octets_of
expedited_alone x true body = (refl, refl)
expedited_alone x false body = (refl, refl)

sends_both : (x : Section) (units : List DataUnit) (b : Bool) (body : List ℕ)
    → (let eds = (if b then as_expedited x body ∷ [] else []) in let outs = numbered x.head x.windows.sent x.windows.passed units ++ eds in
    (data_among outs ≡ numbered x.head x.windows.sent x.windows.passed units) × (expedited_among outs ≡ eds))
sends_both x units b body =
    let dts = numbered x.head x.windows.sent x.windows.passed units in
    let eds = (if b then as_expedited x body ∷ [] else []) in
    let alone = expedited_alone x b body in (
      rw (data_joined dts eds, all_data x.head x.windows.sent x.windows.passed units, alone.0, append-nil dts) refl,
      rw (expedited_joined dts eds, no_expedited x.head x.windows.sent x.windows.passed units, alone.1) refl,
    )

windows_send : (ticks : Ticks) (x : Section) (that : End) → (is_up x.head.state && x.head.class == 3) ≡ true → Sends (wire x) (settles ticks (timed ticks x (by_windows leaves x)) that).1
unfolding leaves
windows_send ticks x that is_open =
    let w = x.windows in
    let is_expedited = is_some w.waiting && not w.unanswered in
    let s = sends_both x (take (may_leave w) w.waits) is_expedited (unwrap_or w.waiting []) in
    let g = left_gives (is_expedited || nat_lt 0 (may_leave w)) 1 ticks (timed ticks x (by_windows leaves x)).0 that
    (numbered x.head w.sent w.passed (take (may_leave w) w.waits) ++ (if is_expedited then as_expedited x (unwrap_or w.waiting []) ∷ [] else [])) (may_leave w) is_expedited in record {
      numbered_data = g.numbered ∙ (s.0 ∙ rw is_open refl);
      expedited = g.expedited ∙ (s.1 ∙ waits x w.waiting is_open);
    }

shut_waits : (x : Section) (waiting : Option (List ℕ)) → (is_up x.head.state && x.head.class == 3) ≡ false → [] ≡ waiting_as x waiting
shut_waits x None shut = refl
shut_waits x (Some body) shut = rw shut refl

pub leaves_send : (ticks : Ticks) (this that : End) → Sends this (on_windows ticks leaves this that).1
unfolding data_among expedited_among
leaves_send ticks (owner u) that = record { numbered_data = refl; expedited = refl }
leaves_send ticks (wire x) that =
    either (λ (r : Connection × List Output). Sends (wire x) r.1) (is_up x.head.state && x.head.class == 3) _ _
    (λ is_open. windows_send ticks x that is_open)
    (λ shut. record { numbered_data = rw shut refl; expedited = shut_waits x x.windows.waiting shut })

pub acknowledges_send : (ticks : Ticks) (this that : End) → IsPlain (on_windows ticks acknowledges this that).1
acknowledges_send ticks (owner u) that = none_plain
acknowledges_send ticks (wire x) that =
    either (λ (r : Connection × List Output). IsPlain r.1) (is_up x.head.state && x.head.class == 3) _ _
    (λ _. exchange_plain 2 ticks _ that (acknowledges_plain (record { head = x.head; windows = x.windows }))) (λ _. none_plain)

-- all that is sent after the event
pub record SendsAfter (ticks : Ticks) (r : Connection × List Output) : Type 0 where
  pub numbered_data :
      data_among (after_event ticks r).1 ≡ data_among r.1 ++ data_leaving r.0.this ++ data_leaving (this_left ticks r.0).that
  pub expedited :
      expedited_among (after_event ticks r).1 ≡ expedited_among r.1 ++ waiting_on r.0.this ++ waiting_on (this_left ticks r.0).that

five_joined : (count : List Output → List Output) → ((a b : List Output) → count (a ++ b) ≡ count a ++ count b) → (a b c d e b' c' : List Output)
    → count b ≡ b' → count c ≡ c' → count d ≡ [] → count e ≡ [] → count ((((a ++ b) ++ c) ++ d) ++ e) ≡ count a ++ b' ++ c'
five_joined count joined a b c d e b' c' p q r s =
    rw (joined (((a ++ b) ++ c) ++ d) e, joined ((a ++ b) ++ c) d, joined (a ++ b) c, joined a b, p, q, r, s, append-nil ((count a ++ b') ++ c'), append-nil ((count a ++ b') ++ c'), append_assoc (count a) b' c') refl

pub after_event_sends : (ticks : Ticks) (r : Connection × List Output) → SendsAfter ticks r
unfolding after_event IsPlain
after_event_sends ticks r =
    let d = this_left ticks r.0 in
    let e = this_left ticks (turned d) in
    let f = (on_windows ticks acknowledges e.that e.this).0 in
    let one = leaves_send ticks r.0.this r.0.that in
    let two = leaves_send ticks d.that d.this in
    let three = acknowledges_send ticks e.that e.this in
    let four = acknowledges_send ticks f.that f.this in record {
      numbered_data = five_joined data_among data_joined r.1 _ _ _ _ _ _ one.numbered_data two.numbered_data three.0 four.0;
      expedited = five_joined expedited_among expedited_joined r.1 _ _ _ _ _ _ one.expedited two.expedited three.1 four.1;
    }

-- The other end after units left on the one: all of it but how many of its units left, and whether it owes EA.

abbrev pub LeavesAlike : End → End → Type 0
LeavesAlike (wire x) (wire y) = (y.head ≡ x.head) × (y.windows ≡ record x.windows { passed = y.windows.passed; owed = y.windows.owed })
LeavesAlike (owner u) (owner v) = Unit {0}
LeavesAlike _ _ = ⊥

alike : (e : End) → LeavesAlike e e
alike (wire x) = (refl, refl)
alike (owner u) = tt

abbrev TakesAlike : Ticks → End → Section → Section × Acted → Type 0
TakesAlike ticks e y done = LeavesAlike (wire y) (exchange 1 ticks (timed ticks y done) e).0.this

left_alike : (b : Bool) (ticks : Ticks) (e that : End) (outs : List Output) (units : ℕ) (is_expedited : Bool)
    → LeavesAlike that (settles ticks (e, record { first = []; outs = outs; then = (if b then hand.Left units is_expedited ∷ [] else []) }) that).0.that
unfolding exchange section_takes windowed_takes line_takes user_takes
left_alike true ticks e (wire y) outs units true =
    either (TakesAlike ticks e y) (y.head.class == 3) _ _ (λ _. (refl, refl)) (λ _. subst (TakesAlike ticks e y) (sym (line_counts units true y)) (refl, refl))
left_alike true ticks e (wire y) outs units false =
    either (TakesAlike ticks e y) (y.head.class == 3) _ _ (λ _. (refl, refl)) (λ _. subst (TakesAlike ticks e y) (sym (line_counts units false y)) (refl, refl))
left_alike true ticks e (owner v) outs units is_expedited = tt
left_alike false ticks e that outs units is_expedited = alike that

pub leaves_alike : (ticks : Ticks) (this that : End) → LeavesAlike that (on_windows ticks leaves this that).0.that
unfolding leaves
leaves_alike ticks (owner u) that = alike that
leaves_alike ticks (wire x) that =
    let w = x.windows in
    let is_expedited = is_some w.waiting && not w.unanswered in
    either (λ (r : Connection × List Output). LeavesAlike that r.0.that) (is_up x.head.state && x.head.class == 3) _ _
    (λ _. left_alike (is_expedited || nat_lt 0 (may_leave w)) ticks _ that _ (may_leave w) is_expedited)
    (λ _. alike that)
