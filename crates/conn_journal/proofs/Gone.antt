-- How long an end is gone, one event later.
use Rattle.std.proofs.Common.{◌≡◌, ℕ, ◌+◌, Bool, true, false, cond, List, [], ◌∷◌, ◌++◌, Option, Some, None, refl, ap, fold, count_by, if◌then◌else◌}
use Rattle.relay_base.specs.declared.words.Event.{Event}
use Rattle.plant_core.specs.declared.terms.Ticks.{Ticks}
use Rattle.section_model.specs.Ends.{End, Connection}
use Rattle.section_model.specs.Step.{hears, end_is_gone}
use Rattle.section_model.specs.Lane.{next, fed, heard, follow, gone_for, is_tick}
use Rattle.conn_journal.specs.Inner.Remnants.{ticks_in}

-- what a connection is after the events of its lane
abbrev pub led : Ticks → Connection → List Event → Connection
led ticks c events = follow ticks c (heard ticks c events)

-- the first of the events may be fed on its own
pub led_first : (ticks : Ticks) (c : Connection) (event : Event) (events : List Event) → led ticks c (event ∷ events) ≡ led ticks (fed ticks c event) events
unfolding heard follow
led_first ticks c event events = by_test (hears c event)
  where
    by_test : (b : Bool)
        → follow ticks c (elim b [ true ↦ event ∷ heard ticks (next ticks c event) events | false ↦ heard ticks c events ])
        ≡ led ticks (elim b [ true ↦ next ticks c event | false ↦ c ]) events
    by_test true = refl
    by_test false = refl

fold_last : {X A : Type 0} (f : A → X → A) (a : A) (xs : List X) (x : X) → fold f a (xs ++ x ∷ []) ≡ f (fold f a xs) x
fold_last f a [] x = refl
fold_last f a (y ∷ xs) x = fold_last f (f a y) xs x

count_last : (events : List Event) (event : Event) → count_by is_tick (events ++ event ∷ []) ≡ count_by is_tick events + ticks_in event
count_last events event = fold_last (λ n x. n + cond (is_tick x) 1 0) 0 events event

-- the count of ticks of an end that was not gone before
abbrev pub begun : Bool → Option ℕ
begun is_gone = if is_gone then Some 0 else None

-- the count of ticks since an end that is gone, or what it is by the later events
abbrev counted : Bool → ℕ → Option ℕ → Option ℕ
counted is_gone count later = elim is_gone [ true ↦ Some count | false ↦ later ]

-- the count of ticks that an end is gone for, after one more event
abbrev pub gone_after : Event → Bool → Option ℕ → Option ℕ
gone_after event is_gone None = begun is_gone
gone_after event is_gone (Some count) = Some (count + ticks_in event)

pub gone_next : (ticks : Ticks) (end : Connection → End) (c : Connection) (events : List Event) (event : Event)
    → gone_for ticks end c (events ++ event ∷ []) ≡ gone_after event (end_is_gone (end (fed ticks (led ticks c events) event))) (gone_for ticks end c events)
unfolding gone_for heard follow
gone_next ticks end c [] event = by_test (end_is_gone (end c))
  where
    by_test : (b : Bool)
        → (elim b [ true ↦ Some (count_by is_tick (event ∷ [])) | false ↦ gone_for ticks end (fed ticks c event) [] ])
        ≡ gone_after event (end_is_gone (end (fed ticks c event))) (begun b)
    by_test true = ap Some (count_last [] event)
    by_test false = refl
gone_next ticks end c (x ∷ events) event =
    rw (led_first ticks c x events) (by_test (end_is_gone (end c)) (gone_next ticks end (fed ticks c x) events event))
  where
    by_test : (b : Bool)
        → gone_for ticks end (fed ticks c x) (events ++ event ∷ [])
        ≡ gone_after event (end_is_gone (end (fed ticks (led ticks (fed ticks c x) events) event))) (gone_for ticks end (fed ticks c x) events)
        → (elim b [ true ↦ Some (count_by is_tick (x ∷ events ++ event ∷ [])) | false ↦ gone_for ticks end (fed ticks c x) (events ++ event ∷ []) ])
        ≡ gone_after event (end_is_gone (end (fed ticks (led ticks (fed ticks c x) events) event)))
        (elim b [ true ↦ Some (count_by is_tick (x ∷ events)) | false ↦ gone_for ticks end (fed ticks c x) events ])
    by_test true rest = ap Some (count_last (x ∷ events) event)
    by_test false rest = rest

-- an end that is gone is gone for some ticks
pub gone_is_some : (ticks : Ticks) (end : Connection → End) (c : Connection) (events : List Event)
    → gone_for ticks end c events ≡ None → end_is_gone (end (led ticks c events)) ≡ false
unfolding gone_for heard follow
gone_is_some ticks end c [] none = by_test (end_is_gone (end c)) none
  where
    by_test : (b : Bool) → begun b ≡ None → b ≡ false
    by_test true some = cc
    by_test false some = refl
gone_is_some ticks end c (x ∷ events) none =
    rw (led_first ticks c x events) (by_test (end_is_gone (end c)) (gone_is_some ticks end (fed ticks c x) events) none)
  where
    by_test : (b : Bool)
        → (gone_for ticks end (fed ticks c x) events ≡ None → end_is_gone (end (led ticks (fed ticks c x) events)) ≡ false)
        → counted b (count_by is_tick (x ∷ events)) (gone_for ticks end (fed ticks c x) events) ≡ None
        → end_is_gone (end (led ticks (fed ticks c x) events)) ≡ false
    by_test true rest some = cc
    by_test false rest some = rest some
