-- The other end takes a unit.
use Rattle.std.proofs.Common.{◌≡◌, ℕ, ◌==◌, ◌&&◌, not, nat_lt, Option, Bool, true, false, List, [], ◌∷◌, ◌++◌, length, fold, refl, true≢false, append-nil, ◌+◌, sym, ◌∙◌, ap, subst}
use Rattle.relay_base.specs.declared.limits.TheConstants.{LONGEST_TEXT}
use Rattle.relay_base.specs.declared.words.Output.{Output}
use Rattle.plant_core.specs.declared.terms.Ticks.{Ticks}
use Rattle.q713_shape.specs.Writing.{octets_of}
use Rattle.q713_codec.specs.Writing.{spelling_of}
use Rattle.section_model.specs.declared.cell.Cell.{Cell}
use Rattle.section_model.specs.declared.cell.Cell.TheVariants as cell
use Rattle.section_model.specs.declared.cell.Occasion.TheVariants as on
use Rattle.section_model.specs.declared.cell.UserOccasion.TheVariants as by
use Rattle.section_model.specs.declared.cell.SectionState.{SectionState}
use Rattle.section_model.specs.declared.cell.SectionState.TheVariants.{Asked, Asking, Waning, Up, Resetting, Ending, Gone}
use Rattle.section_model.specs.declared.cell.UserState.{UserState}
use Rattle.section_model.specs.declared.cell.UserState.TheVariants as user
use Rattle.section_model.specs.declared.hand.Hand.{Hand}
use Rattle.section_model.specs.declared.hand.Hand.TheVariants as hand
use Rattle.section_model.specs.declared.hand.Acted.{Acted}
use Rattle.section_model.specs.Table.{section_row, user_row, section_cell, user_cell}
use Rattle.section_model.specs.Ends.{End, wire, owner, DataUnit, Line, Section, User, Connection, is_up, is_connected}
use Rattle.section_flow.specs.Windows.{Windows}
use Rattle.section_model.specs.Line.{line_takes}
use Rattle.section_model.specs.Windowed.{windowed_takes}
use Rattle.section_model.specs.UserEnd.{user_takes, collects, handed}
use Rattle.section_model.specs.Acting.{line_in, windows_after, section_takes, user_takes_by, end_takes}
use Rattle.section_model.specs.Coupling.{with_more, other_takes, exchange}
use Rattle.section_model.specs.Laws.{IsAnswer, AreAnswers}
use Rattle.connection_law.specs.InStep.{got_at, connected, Meets, section_stage, user_stage, stage_at}
use Rattle.connection_law.proofs.Flow.Flowing.{either}
use Rattle.hop_law.specs.PassingLaw.{dt1_among, passed_on, at_once}
use Rattle.hop_law.proofs.Quiet.{IsQuiet, dt1_joined}
use Rattle.hop_law.proofs.Exchanging.{both}

-- A section that stays in its state keeps what came in.

pub not_set_up : (s : SectionState) → (is_up s && not (is_connected s)) ≡ false
not_set_up Asked = refl
not_set_up Asking = refl
not_set_up Waning = refl
not_set_up Up = refl
not_set_up Resetting = refl
not_set_up Ending = refl
not_set_up Gone = refl

pub state_kept : (x : Section) (line : Line) → line.head.state ≡ x.head.state → (windows_after x line).got ≡ line.got
state_kept x line e =
    either (λ (w : Windows). w.got ≡ line.got) (is_up line.head.state && not (is_connected x.head.state)) _ _
    (λ up. absurd (true≢false (sym up ∙ rw e (not_set_up x.head.state)))) (λ _. refl)

-- An effect that is an answer keeps what came in, and no DT1 leaves by it.

SectionKeeps : Section → Section × Acted → Type 0
SectionKeeps x done = (done.0.windows.got ≡ x.windows.got) × IsQuiet done.1.outs

-- the cells by which a section ends
abbrev IsEndCell : Cell → Type 0
IsEndCell cell.PassEnd = Unit {0}
IsEndCell cell.KeepEnd = Unit {0}
IsEndCell cell.Nothing = Unit {0}
IsEndCell _ = ⊥

end_cell : (s : SectionState) → IsEndCell (section_cell s on.EndComes)
unfolding section_row
end_cell Asked = tt
end_cell Asking = tt
end_cell Waning = tt
end_cell Up = tt
end_cell Resetting = tt
end_cell Ending = tt
end_cell Gone = tt

section_ends : (ticks : Ticks) (c : Cell) (cause : ℕ) (body : Option (List ℕ)) (importance : Option ℕ) (x : Section) → IsEndCell c
    → (let done = section_takes ticks c (hand.End cause body importance) x in (got_at done.0 ≡ x.windows.got) × IsQuiet done.1.outs)
unfolding section_takes line_takes windowed_takes IsQuiet dt1_among spelling_of octets_of
section_ends ticks cell.PassEnd cause body importance x c = (refl, refl)
section_ends ticks cell.KeepEnd cause body importance x c = (refl, refl)
section_ends ticks cell.Nothing cause body importance x c = (state_kept x (line_in x) refl, refl)
section_ends ticks _ cause body importance x c = absurd c

section_counts : (ticks : Ticks) (units : ℕ) (is_expedited : Bool) (x : Section)
    → (let done = section_takes ticks cell.Left (hand.Left units is_expedited) x in (got_at done.0 ≡ x.windows.got) × IsQuiet done.1.outs)
unfolding SectionKeeps section_takes line_takes windowed_takes IsQuiet dt1_among spelling_of octets_of
section_counts ticks units true x =
    either (SectionKeeps x) (x.head.class == 3) _ _ (λ _. (refl, refl)) (λ _. (state_kept x (record (line_in x) { passed = x.windows.passed + units }) refl, refl))
section_counts ticks units false x =
    either (SectionKeeps x) (x.head.class == 3) _ _ (λ _. (refl, refl)) (λ _. (state_kept x (record (line_in x) { passed = x.windows.passed + units }) refl, refl))

user_ends : (c : Cell) (cause : ℕ) (body : Option (List ℕ)) (importance : Option ℕ) (u : User)
    → (let done = user_takes c (hand.End cause body importance) u in (done.0.got ≡ u.got) × IsQuiet done.1.outs)
unfolding user_takes IsQuiet dt1_among
user_ends cell.Nothing cause body importance u = (refl, refl)
user_ends _ cause body importance u = (refl, refl)

user_counts : (units : ℕ) (is_expedited : Bool) (u : User)
    → (let done = user_takes cell.Left (hand.Left units is_expedited) u in (done.0.got ≡ u.got) × IsQuiet done.1.outs)
unfolding user_takes IsQuiet dt1_among
user_counts units is_expedited u = (refl, refl)

answer_kept : (ticks : Ticks) (h : Hand) (e : End) → IsAnswer h → (got_at (end_takes ticks h e).0 ≡ got_at e) × IsQuiet (end_takes ticks h e).1.outs
answer_kept ticks (hand.End cause body importance) (wire x) a =
    section_ends ticks (section_cell x.head.state on.EndComes) cause body importance x (end_cell x.head.state)
answer_kept ticks (hand.Left units expedited) (wire x) a = section_counts ticks units expedited x
answer_kept ticks (hand.End cause body importance) (owner u) a = user_ends (user_takes_by u.state (hand.End cause body importance)) cause body importance u
answer_kept ticks (hand.Left units expedited) (owner u) a = user_counts units expedited u
answer_kept ticks _ e a = absurd a

-- answers, one after another
abbrev Alike : Connection × List Output → Connection × List Output → Type 0
Alike r s = (s.0.this ≡ r.0.this) × (got_at s.0.that ≡ got_at r.0.that) × (dt1_among s.1 ≡ dt1_among r.1)

answers_kept : (ticks : Ticks) (hands : List Hand) (r : Connection × List Output) → AreAnswers hands → Alike r (fold (other_takes (exchange 0 ticks) ticks) r hands)
unfolding exchange IsQuiet
answers_kept ticks [] r a = (refl, refl, refl)
answers_kept ticks (h ∷ hands) r a =
    let taken = end_takes ticks h r.0.that in
    let one = answer_kept ticks h r.0.that a.0 in
    let rest = answers_kept ticks hands (other_takes (exchange 0 ticks) ticks r h) a.1 in
    (rest.0, rest.1 ∙ one.0, rest.2 ∙ rw (dt1_joined r.1 taken.1.outs, one.1) (append-nil (dt1_among r.1)))

-- An end that takes a unit.

abbrev pub SameHead : End → End → Type 0
SameHead (wire x) (wire y) = y.head ≡ x.head
SameHead (owner u) (owner v) = Unit {0}
SameHead _ _ = ⊥

-- what came in at it stays, what it hands back is answers, and a DT1 leaves but in class 3
unfoldable Takes : DataUnit → End → End × Acted → Type 0
Takes u e done =
    (got_at done.0 ≡ got_at e) × (AreAnswers done.1.first × AreAnswers done.1.then) × (dt1_among done.1.outs ≡ at_once e (u ∷ [])) × SameHead e done.0

unfoldable SectionTakes : DataUnit → Section → Section × Acted → Type 0
SectionTakes u y done =
    (done.0.windows.got ≡ y.windows.got) × (AreAnswers done.1.first × AreAnswers done.1.then)
    × (dt1_among done.1.outs ≡ passed_on y.head (u ∷ [])) × (done.0.head ≡ y.head)

pass_cell : (s : SectionState) → Meets connected (section_stage s) → section_cell s on.UnitComes ≡ cell.PassUnit
unfolding section_row
pass_cell Asked m = absurd m
pass_cell Asking m = absurd m
pass_cell Waning m = absurd m
pass_cell Up m = refl
pass_cell Resetting m = refl
pass_cell Ending m = absurd m
pass_cell Gone m = absurd m

section_passes : (ticks : Ticks) (u : DataUnit) (y : Section) → Takes u (wire y) (section_takes ticks cell.PassUnit (handed u) y)
unfolding Takes SectionTakes section_takes line_takes windowed_takes dt1_among spelling_of octets_of
section_passes ticks u y =
    either (SectionTakes u y) (y.head.class == 3) _ _ (λ three. (refl, (tt, tt), rw three refl, refl))
    (λ other. (state_kept y (line_in y) refl, (tt, (tt, tt)), rw other refl, refl))

UserTakes : User → User × Acted → Type 0
UserTakes v done = (done.0.got ≡ v.got) × (AreAnswers done.1.first × AreAnswers done.1.then) × (dt1_among done.1.outs ≡ [])

pub told_cell : (s : UserState) → Meets connected (user_stage s) → user_cell s by.UnitTold ≡ cell.TellUnit
unfolding user_row
told_cell user.Offered m = absurd m
told_cell user.Calling m = absurd m
told_cell user.Ready m = refl
told_cell user.Renewing m = refl
told_cell user.Gone m = absurd m

user_collects : (u : DataUnit) (v : User) → UserTakes v (collects (handed u) v)
unfolding UserTakes dt1_among
user_collects u v =
    either (UserTakes v) (nat_lt LONGEST_TEXT (length (v.text ++ u.body))) _ _ (λ _. (refl, ((tt, tt), tt), refl))
    (λ _. either (UserTakes v) u.more _ _ (λ _. (refl, (tt, (tt, tt)), refl)) (λ _. (refl, (tt, (tt, tt)), refl)))

unit_taken : (ticks : Ticks) (u : DataUnit) (e : End) → Meets connected (stage_at e) → Takes u e (end_takes ticks (handed u) e)
unfolding Takes UserTakes user_takes
unit_taken ticks u (wire y) m = subst (λ c. Takes u (wire y) (section_takes ticks c (handed u) y)) (sym (pass_cell y.head.state m)) (section_passes ticks u y)
unit_taken ticks u (owner v) m =
    let t = user_collects u v in
    subst (λ c. Takes u (owner v) (let done = user_takes c (handed u) v in (owner done.0, done.1))) (sym (told_cell v.state m)) (t.0, t.1, t.2, tt)

-- and what it hands back: what came in at both ends stays
unfoldable pub Passes : DataUnit → End → End → Connection × List Output → Type 0
Passes u e giver r = (got_at r.0.this ≡ got_at e) × (got_at r.0.that ≡ got_at giver) × (dt1_among r.1 ≡ at_once e (u ∷ [])) × SameHead e r.0.this

none_first : {outs : List Output} (sent : List Output) → sent ≡ outs → dt1_among [] ++ sent ≡ outs
unfolding dt1_among
none_first sent e = e

pub unit_passes : (ticks : Ticks) (u : DataUnit) (e giver : End) → Meets connected (stage_at e) → Passes u e giver (exchange 1 ticks (end_takes ticks (handed u) e) giver)
unfolding Passes Takes exchange
unit_passes ticks u e giver m =
    let taken = end_takes ticks (handed u) e in
    let t = unit_taken ticks u e m in
    let first = fold (other_takes (exchange 0 ticks) ticks) (both taken.0 giver, []) taken.1.first in
    let one = answers_kept ticks taken.1.first (both taken.0 giver, []) t.1.0 in
    let two = answers_kept ticks taken.1.then (with_more taken.1.outs first) t.1.1 in
    let same = two.0 ∙ one.0 in (
      ap got_at same ∙ t.0,
      two.1 ∙ one.1,
      two.2 ∙ (dt1_joined first.1 taken.1.outs ∙ rw one.2 (none_first (dt1_among taken.1.outs) t.2)),
      subst (λ e'. SameHead e e') (sym same) t.3,
    )
