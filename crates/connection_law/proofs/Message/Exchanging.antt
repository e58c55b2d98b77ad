-- What the ends hand to each other, of which no DT2 and no ED comes.
use Rattle.std.proofs.Common.{◌≡◌, ℕ, zero, suc, ◌==◌, Bool, true, false, List, [], ◌∷◌, ◌++◌, fold, if◌then◌else◌, refl, append-nil}
use Rattle.relay_base.specs.declared.words.Output.{Output}
use Rattle.plant_core.specs.declared.terms.Ticks.{Ticks}
use Rattle.section_model.specs.declared.hand.Hand.{Hand}
use Rattle.section_model.specs.declared.hand.Hand.TheVariants as hand
use Rattle.section_model.specs.declared.hand.Acted.{Acted}
use Rattle.section_model.specs.Ends.{End, wire, owner, Section, Connection, gives_then}
use Rattle.section_model.specs.Line.{line_takes}
use Rattle.section_model.specs.Windowed.{windowed_takes}
use Rattle.section_model.specs.UserEnd.{user_takes}
use Rattle.section_model.specs.Acting.{timed, section_takes, end_takes}
use Rattle.section_model.specs.Coupling.{with_more, other_takes, exchange}
use Rattle.connection_law.proofs.Flow.Flowing.{either}
use Rattle.connection_law.specs.Messages.{data_among, expedited_among}
use Rattle.connection_law.proofs.Message.Plain.{IsPlain, IsOther, AreOther, ActsPlain, data_joined, expedited_joined, plain_joined, none_plain, parted, end_takes_plain}

Exchanges : ℕ → Ticks → Type 0
Exchanges n ticks = (acting : End × Acted) (that : End) → ActsPlain acting.1 → IsPlain (exchange n ticks acting that).1

offered_plain : (n : ℕ) (ticks : Ticks) → Exchanges n ticks → (r : Connection × List Output) (h : Hand) → IsOther h → IsPlain r.1 → IsPlain (other_takes (exchange n ticks) ticks r h).1
unfolding Exchanges
offered_plain n ticks plain r h o p =
    plain_joined r.1 (exchange n ticks (end_takes ticks h r.0.that) r.0.this).1 p (plain (end_takes ticks h r.0.that) r.0.this (end_takes_plain ticks h r.0.that o))

hands_plain : (n : ℕ) (ticks : Ticks) → Exchanges n ticks → (hands : List Hand) (r : Connection × List Output) → AreOther hands → IsPlain r.1
    → IsPlain (fold (other_takes (exchange n ticks) ticks) r hands).1
unfolding AreOther
hands_plain n ticks plain [] r o p = p
hands_plain n ticks plain (h ∷ hands) r o p =
    hands_plain n ticks plain hands (other_takes (exchange n ticks) ticks r h) o.1 (offered_plain n ticks plain r h o.0 p)

pub exchange_plain : (n : ℕ) (ticks : Ticks) (acting : End × Acted) (that : End) → ActsPlain acting.1 → IsPlain (exchange n ticks acting that).1
unfolding exchange ActsPlain Exchanges
exchange_plain zero ticks acting that p = p.0
exchange_plain (suc n) ticks acting that p =
    let o = parted acting.1.first acting.1.then p.1 in
    let first = fold (other_takes (exchange n ticks) ticks) (record { this = acting.0; that = that }, []) acting.1.first in
    let q : IsPlain first.1 = hands_plain n ticks (exchange_plain n ticks) acting.1.first (record { this = acting.0; that = that }, []) o.0 none_plain in
    hands_plain n ticks (exchange_plain n ticks) acting.1.then (with_more acting.1.outs first) o.1 (plain_joined first.1 acting.1.outs q p.0)

-- Outputs, and nothing handed over but that some left: nothing more that counts is sent.
pub record GivesAs (outs all : List Output) : Type 0 where
  pub numbered : data_among all ≡ data_among outs
  pub expedited : expedited_among all ≡ expedited_among outs

more_gives : (outs more : List Output) → IsPlain more → GivesAs outs (outs ++ more)
unfolding IsPlain
more_gives outs more p = record {
  numbered = rw (data_joined outs more, p.0, append-nil (data_among outs)) refl;
  expedited = rw (expedited_joined outs more, p.1, append-nil (expedited_among outs)) refl;
}

pub left_gives : (b : Bool) (n : ℕ) (ticks : Ticks) (e that : End) (outs : List Output) (units : ℕ) (is_expedited : Bool)
    → GivesAs outs (exchange (suc n) ticks (e, gives_then outs (if b then hand.Left units is_expedited ∷ [] else [])) that).1
unfolding exchange
left_gives true n ticks e that outs units is_expedited =
    more_gives outs (exchange n ticks (end_takes ticks (hand.Left units is_expedited) that) e).1
    (exchange_plain n ticks (end_takes ticks (hand.Left units is_expedited) that) e (end_takes_plain ticks (hand.Left units is_expedited) that tt))
left_gives false n ticks e that outs units is_expedited = record { numbered = refl; expedited = refl }

-- and the end that handed it over stays as it is
pub left_keeps : (n : ℕ) (ticks : Ticks) (e that : End) (outs : List Output) (units : ℕ) (is_expedited : Bool)
    → (exchange (suc n) ticks (e, gives_then outs (hand.Left units is_expedited ∷ [])) that).0.this ≡ e
unfolding exchange section_takes windowed_takes line_takes user_takes
left_keeps zero ticks e that outs units is_expedited = refl
left_keeps (suc n) ticks e (wire y) outs units true =
    either (λ (done : Section × Acted). (exchange (suc n) ticks (timed ticks y done) e).0.that ≡ e) (y.head.class == 3) _ _ (λ _. refl) (λ _. refl)
left_keeps (suc n) ticks e (wire y) outs units false =
    either (λ (done : Section × Acted). (exchange (suc n) ticks (timed ticks y done) e).0.that ≡ e) (y.head.class == 3) _ _ (λ _. refl) (λ _. refl)
left_keeps (suc n) ticks e (owner v) outs units is_expedited = refl
