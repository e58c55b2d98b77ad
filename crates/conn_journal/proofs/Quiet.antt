-- A tick at which no timer of a connection that is kept fires only brings its timers nearer.
use Rattle.std.proofs.Common.{◌≡◌, ℕ, zero, suc, Bool, true, false, List, [], ◌∷◌, length, map, get_or, drop, Option, Some, None, refl, sym, subst, ap, ◌∙◌, arith}
use Rattle.std.specs.Prelude.{IfSome, slice_get, option_map}
use Rattle.std.proofs.lemmas.Option.{same_Some}
use Rattle.plant_core.specs.declared.entry.Entry.{Entry}
use Rattle.plant_core.specs.declared.terms.LaneHead.{LaneHead}
use Rattle.plant_core.specs.declared.terms.Ticks.{Ticks}
use Rattle.section_model.specs.Ends.{Connection}
use Rattle.section_model.specs.Journals.{lane_of}
use Rattle.section_model.specs.Lane.{Opening, connection_of}
use Rattle.section_model.specs.Laws.{openings_from}
use Rattle.section_model.specs.Step.{is_over}
use Rattle.connection_law.specs.TimerLaw.{IsQuiet}
use Rattle.connection_law.proofs.Timer.Openings.{quiet_tick}
use Rattle.section_coupling.specs.Duos.{DuoState, duo_at}
use Rattle.conn_journal.specs.Inner.Remnants.{Live, Remnant, live_of, remnant_of}
use Rattle.conn_journal.specs.Inner.Turns.{IsConnLane}
use Rattle.conn_journal.specs.Inner.Views.{OpeningsState, live_at, lives_at}
use Rattle.conn_journal.specs.Inner.Waking.{AreQuiet}

-- the opening of a connection that is kept
record OpeningOf (ticks : Ticks) (taken n : ℕ) (openings : List Opening) (d : DuoState) : Type 0 where
  opening : Opening
  here : slice_get openings n ≡ Some opening
  live : live_of ticks (connection_of ticks opening) ≡ Some (live_at taken d)

opening_of : (ticks : Ticks) (taken n : ℕ) (openings : List Opening) (kept : List (Option DuoState)) (d : DuoState) → lives_at taken kept ≡ map (λ (k : Remnant). k.live) (map (remnant_of ticks) openings)
    → get_or kept n None ≡ Some d → OpeningOf ticks taken n openings d
opening_of ticks taken n openings [] d lives is = absurd (cc)
opening_of ticks taken n [] (k ∷ kept) d lives is = absurd (omega (arith, ap (λ xs. length xs) lives))
opening_of ticks taken zero (o ∷ openings) (k ∷ kept) d lives is =
    record { opening = o; here = refl; live = sym (ap (λ (xs : List (Option Live)). get_or xs 0 None) lives) ∙ ap (option_map (live_at taken)) is }
opening_of ticks taken (suc n) (o ∷ openings) (k ∷ kept) d lives is =
    let at = opening_of ticks taken n openings kept d (ap (λ (xs : List (Option Live)). drop 1 xs) lives) is in
    record { opening = at.opening; here = at.here; live = at.live }

live_is : (ticks : Ticks) (c : Connection) (taken : ℕ) (d : DuoState) → live_of ticks c ≡ Some (live_at taken d) → record { ticks = ticks; connection = c } ≡ live_at taken d
live_is ticks c taken d is = by_test (is_over c) refl
  where
    by_test : (b : Bool) → is_over c ≡ b → record { ticks = ticks; connection = c } ≡ live_at taken d
    by_test true over = absurd (none (live_of ticks c) (rw over refl) is)
      where
        none : (x : Option Live) → x ≡ None → x ≡ Some (live_at taken d) → ⊥
        none x empty some = absurd (cc)
    by_test false over = same_Some (record { ticks = ticks; connection = c }) (live_at taken d) (sym (some over) ∙ is)
      where
        some : is_over c ≡ false → live_of ticks c ≡ Some (record { ticks = ticks; connection = c })
        some over = rw over refl

pub kept_quiet : (head : LaneHead) (number : ℕ) (journal : List Entry) (o : OpeningsState) → IsConnLane head number journal o → AreQuiet o.taken o.kept
kept_quiet head number journal o lane n = by_one (get_or o.kept n None) refl
  where
    by_one : (one : Option DuoState) → get_or o.kept n None ≡ one → IfSome one (λ d. IsQuiet d.ticks (duo_at o.taken d))
    by_one None is = tt
    by_one (Some d) is =
        let ticks : Ticks = head.terms.ticks in
        let at = opening_of ticks o.taken n (openings_from (lane_of head number) [] journal) o.kept d lane.keeps.stands.lives is in
        subst (λ (l : Live). IsQuiet l.ticks l.connection) (live_is ticks (connection_of ticks at.opening) o.taken d at.live)
        (quiet_tick (lane_of head number) journal n at.opening lane.credit at.here)
