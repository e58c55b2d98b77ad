-- Acts of which no DT2 and no ED comes.
use Rattle.std.proofs.Common.{◌≡◌, ℕ, ◌==◌, ◌&&◌, ◌||◌, nat_le, nat_lt, if◌then◌else◌, Bool, true, false, List, [], ◌∷◌, ◌++◌, length, map, refl}
use Rattle.std.proofs.lemmas.List.Elements.{filter-append}
use Rattle.relay_base.specs.declared.causes.TheConstants.{ERROR_CLASS_MISMATCH}
use Rattle.relay_base.specs.declared.limits.TheConstants.{LONGEST_TEXT}
use Rattle.relay_base.specs.declared.words.Output.{Output}
use Rattle.plant_core.specs.declared.terms.Ticks.{Ticks}
use Rattle.q713_shape.specs.Writing.{octets_of}
use Rattle.q713_codec.specs.Writing.{spelling_of}
use Rattle.section_model.specs.declared.cell.Cell.{Cell}
use Rattle.section_model.specs.declared.cell.Cell.TheVariants as cell
use Rattle.section_model.specs.declared.hand.Hand.{Hand}
use Rattle.section_model.specs.declared.hand.Hand.TheVariants as hand
use Rattle.section_flow.specs.declared.unit.Unit.{Unit as DataUnit}
use Rattle.section_model.specs.declared.hand.Acted.{Acted}
use Rattle.section_model.specs.Parameters.{Parameters}
use Rattle.section_model.specs.Ends.{End, wire, owner, Line, Section, User}
use Rattle.section_model.specs.Line.{line_hears, line_fires, line_takes}
use Rattle.section_model.specs.Windowed.{Windowed, windowed_fires, windowed_takes, resets, acknowledges}
use Rattle.section_model.specs.UserEnd.{user_takes, handed, collects, tells_expedited}
use Rattle.section_model.specs.Acting.{line_in, in_windows, section_fires, section_takes, section_takes_by, user_takes_by, end_takes}
use Rattle.section_model.specs.Laws.{hands_of}
use Rattle.connection_law.proofs.Flow.Flowing.{either}
use Rattle.connection_law.specs.Messages.{is_of_type, data_among, expedited_among}

-- outputs without DT2 and without ED
unfoldable pub IsPlain : List Output → Type 0
IsPlain outs = (data_among outs ≡ []) × (expedited_among outs ≡ [])

pub data_joined : (a b : List Output) → data_among (a ++ b) ≡ data_among a ++ data_among b
unfolding data_among
data_joined a b = filter-append (is_of_type 0x07) a b

pub expedited_joined : (a b : List Output) → expedited_among (a ++ b) ≡ expedited_among a ++ expedited_among b
unfolding expedited_among
expedited_joined a b = filter-append (is_of_type 0x0B) a b

pub plain_joined : (a b : List Output) → IsPlain a → IsPlain b → IsPlain (a ++ b)
unfolding IsPlain
plain_joined a b p q = (rw (data_joined a b, p.0, q.0) refl, rw (expedited_joined a b, p.1, q.1) refl)

pub none_plain : IsPlain []
unfolding IsPlain data_among expedited_among
none_plain = (refl, refl)

-- effects on the other end but expedited data
abbrev pub IsOther : Hand → Type 0
IsOther (hand.Expedited body) = ⊥
IsOther _ = Unit {0}

unfoldable pub AreOther : List Hand → Type 0
AreOther [] = Unit {0}
AreOther (h ∷ hands) = IsOther h × AreOther hands

pub parted : (one two : List Hand) → AreOther (one ++ two) → AreOther one × AreOther two
unfolding AreOther
parted [] two n = (tt, n)
parted (h ∷ one) two n = let rest = parted one two n.1 in ((n.0, rest.0), rest.1)

-- an act with such outputs, and such effects
unfoldable pub ActsPlain : Acted → Type 0
ActsPlain done = IsPlain done.outs × AreOther (hands_of done)

-- The line of a section.

LinePlain : Line × Acted → Type 0
LinePlain done = ActsPlain done.1

pub line_hears_plain : (c : Cell) (point : ℕ) (m : Parameters) (x : Line) → ActsPlain (line_hears c point m x).1
unfolding line_hears LinePlain ActsPlain IsPlain AreOther data_among expedited_among spelling_of octets_of
line_hears_plain cell.Confirm point m x =
    either LinePlain ((m.class == 2 || m.class == 3) && nat_le m.class x.head.class) _ _ (λ _. ((refl, refl), (tt, tt))) (λ _. ((refl, refl), (tt, tt)))
line_hears_plain cell.Refused point m x = ((refl, refl), (tt, tt))
line_hears_plain cell.Released point m x = ((refl, refl), (tt, tt))
line_hears_plain cell.TakeData point m x = ((refl, refl), (tt, tt))
line_hears_plain cell.ErrorReceived point m x = either LinePlain (m.cause == ERROR_CLASS_MISMATCH) _ _ (λ _. ((refl, refl), (tt, tt))) (λ _. ((refl, refl), (tt, tt)))
line_hears_plain cell.TestReceived point m x = either LinePlain (m.slr == x.head.other && m.class == x.head.class) _ _ (λ _. ((refl, refl), tt)) (λ _. ((refl, refl), (tt, tt)))
line_hears_plain _ point m x = ((refl, refl), tt)

pub line_fires_plain : (c : Cell) (x : Line) → ActsPlain (line_fires c x).1
unfolding line_fires ActsPlain IsPlain AreOther data_among expedited_among spelling_of octets_of
line_fires_plain cell.NotAnswered x = ((refl, refl), (tt, tt))
line_fires_plain cell.ResetExpired x = ((refl, refl), (tt, tt))
line_fires_plain cell.PeerSilent x = ((refl, refl), (tt, tt))
line_fires_plain _ x = ((refl, refl), tt)

pub line_takes_plain : (c : Cell) (h : Hand) (x : Line) → ActsPlain (line_takes c h x).1
unfolding line_takes ActsPlain IsPlain AreOther data_among expedited_among spelling_of octets_of
line_takes_plain cell.PassAccept (hand.Accept class credit called body importance) x = ((refl, refl), tt)
line_takes_plain cell.PassAccept _ x = ((refl, refl), tt)
line_takes_plain cell.PassRefuse (hand.Refuse cause called body importance) x = ((refl, refl), tt)
line_takes_plain cell.PassRefuse _ x = ((refl, refl), tt)
line_takes_plain cell.PassEnd (hand.End cause body importance) x = ((refl, refl), tt)
line_takes_plain cell.PassEnd _ x = ((refl, refl), tt)
line_takes_plain cell.KeepEnd (hand.End cause body importance) x = ((refl, refl), tt)
line_takes_plain cell.KeepEnd _ x = ((refl, refl), tt)
line_takes_plain cell.PassUnit (hand.Unit more body) x = ((refl, refl), (tt, tt))
line_takes_plain cell.PassUnit _ x = ((refl, refl), tt)
line_takes_plain cell.Left (hand.Left units expedited) x = ((refl, refl), tt)
line_takes_plain cell.Left _ x = ((refl, refl), tt)
line_takes_plain _ h x = ((refl, refl), tt)

-- The windows.

pub resets_plain : (cause : ℕ) (x : Windowed) → ActsPlain (resets cause x).1
unfolding ActsPlain IsPlain AreOther data_among expedited_among spelling_of octets_of
resets_plain cause x = ((refl, refl), (tt, tt))

windowed_fires_plain : (x : Windowed) → ActsPlain (windowed_fires x).1
unfolding windowed_fires ActsPlain IsPlain AreOther data_among expedited_among spelling_of octets_of
windowed_fires_plain x = ((refl, refl), tt)

windowed_takes_plain : (c : Cell) (h : Hand) (x : Windowed) → IsOther h → ActsPlain (windowed_takes c h x).1
unfolding windowed_takes ActsPlain IsPlain AreOther data_among expedited_among spelling_of octets_of
windowed_takes_plain cell.PassUnit (hand.Unit more body) x o = ((refl, refl), tt)
windowed_takes_plain cell.PassUnit _ x o = ((refl, refl), tt)
windowed_takes_plain cell.PassExpedited (hand.Expedited body) x o = absurd o
windowed_takes_plain cell.PassExpedited _ x o = ((refl, refl), tt)
windowed_takes_plain cell.PassReset (hand.Reset cause) x o = ((refl, refl), tt)
windowed_takes_plain cell.PassReset _ x o = ((refl, refl), tt)
windowed_takes_plain cell.Left (hand.Left units true) x o = ((refl, refl), tt)
windowed_takes_plain cell.Left (hand.Left units false) x o = ((refl, refl), tt)
windowed_takes_plain cell.Left _ x o = ((refl, refl), tt)
windowed_takes_plain _ h x o = ((refl, refl), tt)

WindowedPlain : Windowed × Acted → Type 0
WindowedPlain done = ActsPlain done.1

pub acknowledges_plain : (x : Windowed) → ActsPlain (acknowledges x).1
unfolding acknowledges WindowedPlain ActsPlain IsPlain AreOther data_among expedited_among spelling_of octets_of
acknowledges_plain x = either WindowedPlain (x.windows.passed == x.windows.told) _ _ (λ _. ((refl, refl), tt)) (λ _. ((refl, refl), tt))

-- A section.

SectionPlain : Section × Acted → Type 0
SectionPlain done = ActsPlain done.1

pub section_fires_plain : (ticks : Ticks) (c : Cell) (x : Section) → ActsPlain (section_fires ticks c x).1
unfolding section_fires SectionPlain
section_fires_plain ticks c x =
    either SectionPlain (in_windows c x) _ _
    (λ _. windowed_fires_plain (record { head = x.head; windows = x.windows })) (λ _. line_fires_plain c (line_in x))

section_takes_plain : (ticks : Ticks) (c : Cell) (h : Hand) (x : Section) → IsOther h → ActsPlain (section_takes ticks c h x).1
unfolding section_takes SectionPlain
section_takes_plain ticks c h x o =
    either SectionPlain (in_windows c x) _ _
    (λ _. windowed_takes_plain c h (record { head = x.head; windows = x.windows }) o) (λ _. line_takes_plain c h (line_in x))

-- A user's end.

UserPlain : User × Acted → Type 0
UserPlain done = ActsPlain done.1

pub left_other : (b : Bool) (units : ℕ) (is_expedited : Bool) → AreOther (if b then hand.Left units is_expedited ∷ [] else [])
unfolding AreOther
left_other true units is_expedited = (tt, tt)
left_other false units is_expedited = tt

collects_plain : (h : Hand) (x : User) → UserPlain (collects h x)
unfolding UserPlain ActsPlain IsPlain AreOther data_among expedited_among
collects_plain (hand.Unit more body) x =
    either UserPlain (nat_lt LONGEST_TEXT (length (x.text ++ body))) _ _ (λ _. ((refl, refl), (tt, tt)))
    (λ _. either UserPlain more _ _ (λ _. ((refl, refl), (tt, tt))) (λ _. ((refl, refl), (tt, tt))))
collects_plain _ x = ((refl, refl), tt)

expedited_told : (h : Hand) (x : User) → UserPlain (tells_expedited h x)
unfolding UserPlain ActsPlain IsPlain AreOther data_among expedited_among
expedited_told (hand.Expedited body) x = ((refl, refl), (tt, tt))
expedited_told _ x = ((refl, refl), tt)

pub user_takes_plain : (c : Cell) (h : Hand) (x : User) → ActsPlain (user_takes c h x).1
unfolding user_takes UserPlain ActsPlain IsPlain AreOther data_among expedited_among
user_takes_plain cell.TellConfirm (hand.Accept class credit called body importance) x = ((refl, refl), tt)
user_takes_plain cell.TellConfirm _ x = ((refl, refl), tt)
user_takes_plain cell.TellDisconnect (hand.Refuse cause called body importance) x = ((refl, refl), tt)
user_takes_plain cell.TellDisconnect (hand.End cause body importance) x = ((refl, refl), tt)
user_takes_plain cell.TellDisconnect _ x = ((refl, refl), tt)
user_takes_plain cell.TellUnit h x = collects_plain h x
user_takes_plain cell.TellExpedited h x = expedited_told h x
user_takes_plain cell.TellReset (hand.Reset cause) x = ((refl, refl), tt)
user_takes_plain cell.TellReset _ x = ((refl, refl), tt)
user_takes_plain cell.TellResetDone h x = ((refl, refl), tt)
user_takes_plain cell.Left (hand.Left units is_expedited) x = ((refl, refl), tt)
user_takes_plain cell.Left _ x = ((refl, refl), tt)
user_takes_plain _ h x = ((refl, refl), tt)

pub units_other : (units : List DataUnit) → AreOther (map handed units)
unfolding AreOther
units_other [] = tt
units_other (u ∷ units) = (tt, units_other units)

-- An end that takes an effect which is no expedited data.
pub end_takes_plain : (ticks : Ticks) (h : Hand) (e : End) → IsOther h → ActsPlain (end_takes ticks h e).1
end_takes_plain ticks h (wire x) o = section_takes_plain ticks (section_takes_by x.head.state h) h x o
end_takes_plain ticks h (owner u) o = user_takes_plain (user_takes_by u.state h) h u
