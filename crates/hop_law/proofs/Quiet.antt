-- Acts by which no unit passes.
use Rattle.std.proofs.Common.{◌≡◌, ◌⊎◌, inl, inr, ℕ, ◌==◌, ◌&&◌, ◌||◌, not, nat_le, true, false, List, [], ◌∷◌, ◌++◌, Option, Some, None, refl, ◌∙◌}
use Rattle.std.specs.List.{AllByRecursion}
use Rattle.std.proofs.lemmas.List.Elements.{filter-append}
use Rattle.relay_base.specs.declared.causes.TheConstants.{ERROR_CLASS_MISMATCH, RESET_INCORRECT_RECEIVE_NUMBER, RESET_REMOTE_PROCEDURE_ERROR}
use Rattle.relay_base.specs.declared.words.Output.{Output}
use Rattle.relay_base.specs.declared.words.Request.{Request}
use Rattle.relay_base.specs.declared.words.Request.TheVariants as request
use Rattle.plant_core.specs.declared.terms.Ticks.{Ticks}
use Rattle.q713_shape.specs.Writing.{octets_of}
use Rattle.q713_codec.specs.Writing.{spelling_of}
use Rattle.section_model.specs.declared.cell.Cell.{Cell}
use Rattle.section_model.specs.declared.cell.Cell.TheVariants as cell
use Rattle.section_model.specs.declared.hand.Hand.{Hand}
use Rattle.section_model.specs.declared.hand.Hand.TheVariants as hand
use Rattle.section_model.specs.declared.hand.Acted.{Acted}
use Rattle.section_model.specs.Parameters.{Parameters}
use Rattle.section_model.specs.Ends.{End, wire, owner, DataUnit, Line, Section, User, is_up, is_connected}
use Rattle.section_flow.specs.Windows.{Windows, is_valid}
use Rattle.section_model.specs.Line.{line_hears, line_fires, line_takes}
use Rattle.section_model.specs.Windowed.{Windowed, windowed_hears, windowed_fires, windowed_takes, resets, sends_expedited}
use Rattle.section_model.specs.UserEnd.{user_takes, user_asks}
use Rattle.section_model.specs.Acting.{by_line, line_in, windows_after, in_windows, section_hears, section_fires, section_takes, section_takes_by, user_takes_by, end_takes}
use Rattle.section_model.specs.Laws.{hands_of}
use Rattle.connection_law.specs.InStep.{got_at}
use Rattle.connection_law.proofs.Flow.Flowing.{either}
use Rattle.connection_law.specs.Messages.{is_of_type}
use Rattle.hop_law.specs.PassingLaw.{dt1_among}

-- outputs without DT1
unfoldable pub IsQuiet : List Output → Type 0
IsQuiet outs = dt1_among outs ≡ []

pub dt1_joined : (a b : List Output) → dt1_among (a ++ b) ≡ dt1_among a ++ dt1_among b
unfolding dt1_among
dt1_joined a b = filter-append (is_of_type 0x06) a b

pub quiet_joined : (a b : List Output) → IsQuiet a → IsQuiet b → IsQuiet (a ++ b)
unfolding IsQuiet
quiet_joined a b p q = rw (dt1_joined a b, p, q) refl

pub none_quiet : IsQuiet []
unfolding IsQuiet dt1_among
none_quiet = refl

-- effects on the other end but units
abbrev pub IsOther : Hand → Type 0
IsOther (hand.Unit more body) = ⊥
IsOther _ = Unit {0}

unfoldable pub AreOther : List Hand → Type 0
AreOther hands = AllByRecursion IsOther hands

pub parted : (P : Hand → Type 0) (one two : List Hand) → AllByRecursion P (one ++ two) → AllByRecursion P one × AllByRecursion P two
parted P [] two all = (tt, all)
parted P (h ∷ one) two all = let rest = parted P one two all.1 in ((all.0, rest.0), rest.1)

-- what came in stays as it was, or begins anew
abbrev pub Kept : List DataUnit → List DataUnit → Type 0
Kept before after = (after ≡ before) ⊎ (after ≡ [])

pub kept_then : (a b c : List DataUnit) → Kept a b → Kept b c → Kept a c
kept_then a b c k (inr none) = inr none
kept_then a b c (inl e) (inl f) = inl (f ∙ e)
kept_then a b c (inr e) (inl f) = inr (f ∙ e)

-- an act with such outputs, such effects, and with what came in kept
unfoldable pub ActsQuiet : List DataUnit → List DataUnit → Acted → Type 0
ActsQuiet before after done = IsQuiet done.outs × AreOther (hands_of done) × Kept before after

-- The line of a section.

LineQuiet : Line → Line × Acted → Type 0
LineQuiet x done = IsQuiet done.1.outs × AreOther (hands_of done.1) × (done.0.got ≡ x.got)

-- the cells by which units come in
abbrev pub IsNoData : Cell → Type 0
IsNoData cell.TakeData = ⊥
IsNoData cell.TakeNumberedData = ⊥
IsNoData _ = Unit {0}

line_hears_quiet : (c : Cell) (point : ℕ) (m : Parameters) (x : Line) → IsNoData c → LineQuiet x (line_hears c point m x)
unfolding line_hears LineQuiet IsQuiet AreOther dt1_among spelling_of octets_of
line_hears_quiet cell.TakeData point m x n = absurd n
line_hears_quiet cell.TakeNumberedData point m x n = absurd n
line_hears_quiet cell.Confirm point m x n =
    either (LineQuiet x) ((m.class == 2 || m.class == 3) && nat_le m.class x.head.class) _ _ (λ _. (refl, (tt, tt), refl)) (λ _. (refl, (tt, tt), refl))
line_hears_quiet cell.Refused point m x n = (refl, (tt, tt), refl)
line_hears_quiet cell.Released point m x n = (refl, (tt, tt), refl)
line_hears_quiet cell.ErrorReceived point m x n = either (LineQuiet x) (m.cause == ERROR_CLASS_MISMATCH) _ _ (λ _. (refl, (tt, tt), refl)) (λ _. (refl, (tt, tt), refl))
line_hears_quiet cell.TestReceived point m x n =
    either (LineQuiet x) (m.slr == x.head.other && m.class == x.head.class) _ _ (λ _. (refl, tt, refl)) (λ _. (refl, (tt, tt), refl))
line_hears_quiet _ point m x n = (refl, tt, refl)

line_fires_quiet : (c : Cell) (x : Line) → LineQuiet x (line_fires c x)
unfolding line_fires LineQuiet IsQuiet AreOther dt1_among spelling_of octets_of
line_fires_quiet cell.NotAnswered x = (refl, (tt, tt), refl)
line_fires_quiet cell.ResetExpired x = (refl, (tt, tt), refl)
line_fires_quiet cell.PeerSilent x = (refl, (tt, tt), refl)
line_fires_quiet _ x = (refl, tt, refl)

line_takes_quiet : (c : Cell) (h : Hand) (x : Line) → IsOther h → LineQuiet x (line_takes c h x)
unfolding line_takes LineQuiet IsQuiet AreOther dt1_among spelling_of octets_of
line_takes_quiet cell.PassAccept (hand.Accept class credit called body importance) x o = (refl, tt, refl)
line_takes_quiet cell.PassAccept _ x o = (refl, tt, refl)
line_takes_quiet cell.PassRefuse (hand.Refuse cause called body importance) x o = (refl, tt, refl)
line_takes_quiet cell.PassRefuse _ x o = (refl, tt, refl)
line_takes_quiet cell.PassEnd (hand.End cause body importance) x o = (refl, tt, refl)
line_takes_quiet cell.PassEnd _ x o = (refl, tt, refl)
line_takes_quiet cell.KeepEnd (hand.End cause body importance) x o = (refl, tt, refl)
line_takes_quiet cell.KeepEnd _ x o = (refl, tt, refl)
line_takes_quiet cell.PassUnit (hand.Unit more body) x o = absurd o
line_takes_quiet cell.PassUnit _ x o = (refl, tt, refl)
line_takes_quiet cell.Left (hand.Left units expedited) x o = (refl, tt, refl)
line_takes_quiet cell.Left _ x o = (refl, tt, refl)
line_takes_quiet _ h x o = (refl, tt, refl)

-- The windows.

WindowedQuiet : Windowed → Windowed × Acted → Type 0
WindowedQuiet x done = ActsQuiet x.windows.got done.0.windows.got done.1

pub resets_quiet : (cause : ℕ) (x : Windowed) → ActsQuiet x.windows.got (resets cause x).0.windows.got (resets cause x).1
unfolding ActsQuiet IsQuiet AreOther dt1_among spelling_of octets_of
resets_quiet cause x = (refl, (tt, tt), inr refl)

expedites_quiet : (body : Option (List ℕ)) (x : Windowed) → WindowedQuiet x (sends_expedited body x)
unfolding WindowedQuiet ActsQuiet IsQuiet AreOther dt1_among spelling_of octets_of
expedites_quiet None x = (refl, tt, inl refl)
expedites_quiet (Some body) x = (refl, (tt, tt), inl refl)

windowed_hears_quiet : (c : Cell) (m : Parameters) (x : Windowed) → IsNoData c → WindowedQuiet x (windowed_hears c m x)
unfolding windowed_hears WindowedQuiet ActsQuiet IsQuiet AreOther dt1_among spelling_of octets_of
windowed_hears_quiet cell.TakeData m x n = absurd n
windowed_hears_quiet cell.TakeNumberedData m x n = absurd n
windowed_hears_quiet cell.TakeAcknowledgement m x n =
    either (WindowedQuiet x) (is_valid m.pr x.windows) _ _ (λ _. (refl, tt, inl refl)) (λ _. resets_quiet RESET_INCORRECT_RECEIVE_NUMBER x)
windowed_hears_quiet cell.TakeExpedited m x n =
    either (WindowedQuiet x) x.windows.owed _ _ (λ _. resets_quiet RESET_REMOTE_PROCEDURE_ERROR x) (λ _. (refl, (tt, tt), inl refl))
windowed_hears_quiet cell.TakeExpeditedAcknowledgement m x n =
    either (WindowedQuiet x) x.windows.unanswered _ _ (λ _. expedites_quiet x.windows.waiting (record x { windows = record x.windows { unanswered = false } })) (λ _. (refl, tt, inl refl))
windowed_hears_quiet cell.ResetByPeer m x n = (refl, (tt, tt), inr refl)
windowed_hears_quiet cell.ResetComplete m x n = (refl, (tt, tt), inl refl)
windowed_hears_quiet _ m x n = (refl, tt, inl refl)

windowed_fires_quiet : (x : Windowed) → WindowedQuiet x (windowed_fires x)
unfolding windowed_fires WindowedQuiet ActsQuiet IsQuiet AreOther dt1_among spelling_of octets_of
windowed_fires_quiet x = (refl, tt, inl refl)

windowed_takes_quiet : (c : Cell) (h : Hand) (x : Windowed) → IsOther h → WindowedQuiet x (windowed_takes c h x)
unfolding windowed_takes WindowedQuiet ActsQuiet IsQuiet AreOther dt1_among spelling_of octets_of
windowed_takes_quiet cell.PassUnit (hand.Unit more body) x o = absurd o
windowed_takes_quiet cell.PassUnit _ x o = (refl, tt, inl refl)
windowed_takes_quiet cell.PassExpedited (hand.Expedited body) x o =
    either (WindowedQuiet x) (is_up x.head.state && not x.windows.unanswered) _ _ (λ _. expedites_quiet (Some body) x) (λ _. (refl, tt, inl refl))
windowed_takes_quiet cell.PassExpedited _ x o = (refl, tt, inl refl)
windowed_takes_quiet cell.PassReset (hand.Reset cause) x o = (refl, tt, inr refl)
windowed_takes_quiet cell.PassReset _ x o = (refl, tt, inl refl)
windowed_takes_quiet cell.ClearCounts h x o = (refl, tt, inr refl)
windowed_takes_quiet cell.Left (hand.Left units true) x o = (refl, tt, inl refl)
windowed_takes_quiet cell.Left (hand.Left units false) x o = (refl, tt, inl refl)
windowed_takes_quiet cell.Left _ x o = (refl, tt, inl refl)
windowed_takes_quiet _ h x o = (refl, tt, inl refl)

-- A section.

SectionQuiet : Section → Section × Acted → Type 0
SectionQuiet x done = ActsQuiet x.windows.got done.0.windows.got done.1

-- where a line acts, what came in is as it says, or begins anew
pub line_got : (x : Section) (line : Line) → line.got ≡ x.windows.got → Kept x.windows.got (windows_after x line).got
line_got x line e =
    either (λ (w : Windows). Kept x.windows.got w.got) (is_up line.head.state && not (is_connected x.head.state)) _ _ (λ _. inr refl) (λ _. inl e)

by_line_quiet : (x : Section) (act : Line → Line × Acted) → LineQuiet (line_in x) (act (line_in x)) → SectionQuiet x (by_line act x)
unfolding LineQuiet SectionQuiet ActsQuiet
by_line_quiet x act q = (q.0, q.1, line_got x (act (line_in x)).0 q.2)

pub section_hears_quiet : (ticks : Ticks) (c : Cell) (point : ℕ) (m : Parameters) (x : Section) → IsNoData c
    → (let done = section_hears ticks c point m x in ActsQuiet x.windows.got (got_at done.0) done.1)
unfolding section_hears SectionQuiet WindowedQuiet
section_hears_quiet ticks c point m x n =
    either (SectionQuiet x) (in_windows c x) _ _
    (λ _. windowed_hears_quiet c m (record { head = x.head; windows = x.windows }) n) (λ _. by_line_quiet x (line_hears c point m) (line_hears_quiet c point m (line_in x) n))

pub section_fires_quiet : (ticks : Ticks) (c : Cell) (x : Section) → (let done = section_fires ticks c x in ActsQuiet x.windows.got (got_at done.0) done.1)
unfolding section_fires SectionQuiet WindowedQuiet
section_fires_quiet ticks c x =
    either (SectionQuiet x) (in_windows c x) _ _
    (λ _. windowed_fires_quiet (record { head = x.head; windows = x.windows })) (λ _. by_line_quiet x (line_fires c) (line_fires_quiet c (line_in x)))

section_takes_quiet : (ticks : Ticks) (c : Cell) (h : Hand) (x : Section) → IsOther h → (let done = section_takes ticks c h x in ActsQuiet x.windows.got (got_at done.0) done.1)
unfolding section_takes SectionQuiet WindowedQuiet
section_takes_quiet ticks c h x o =
    either (SectionQuiet x) (in_windows c x) _ _
    (λ _. windowed_takes_quiet c h (record { head = x.head; windows = x.windows }) o) (λ _. by_line_quiet x (line_takes c h) (line_takes_quiet c h (line_in x) o))

-- A user's end.

UserQuiet : User → User × Acted → Type 0
UserQuiet x done = ActsQuiet x.got done.0.got done.1

user_takes_quiet : (c : Cell) (h : Hand) (x : User) → IsOther h → UserQuiet x (user_takes c h x)
unfolding user_takes UserQuiet ActsQuiet IsQuiet AreOther dt1_among
user_takes_quiet cell.TellConfirm (hand.Accept class credit called body importance) x o = (refl, tt, inl refl)
user_takes_quiet cell.TellConfirm _ x o = (refl, tt, inl refl)
user_takes_quiet cell.TellDisconnect (hand.Refuse cause called body importance) x o = (refl, tt, inl refl)
user_takes_quiet cell.TellDisconnect (hand.End cause body importance) x o = (refl, tt, inl refl)
user_takes_quiet cell.TellDisconnect _ x o = (refl, tt, inl refl)
user_takes_quiet cell.TellUnit (hand.Unit more body) x o = absurd o
user_takes_quiet cell.TellUnit _ x o = (refl, tt, inl refl)
user_takes_quiet cell.TellExpedited (hand.Expedited body) x o = (refl, (tt, tt), inl refl)
user_takes_quiet cell.TellExpedited _ x o = (refl, tt, inl refl)
user_takes_quiet cell.TellReset (hand.Reset cause) x o = (refl, tt, inr refl)
user_takes_quiet cell.TellReset _ x o = (refl, tt, inl refl)
user_takes_quiet cell.TellResetDone h x o = (refl, tt, inl refl)
user_takes_quiet cell.Left (hand.Left units is_expedited) x o = (refl, tt, inl refl)
user_takes_quiet cell.Left _ x o = (refl, tt, inl refl)
user_takes_quiet _ h x o = (refl, tt, inl refl)

-- the requests but the one that sends a text
abbrev pub IsNoText : Cell → Type 0
IsNoText cell.UserSends = ⊥
IsNoText _ = Unit {0}

pub user_asks_quiet : (c : Cell) (r : Request) (x : User) → IsNoText c → ActsQuiet x.got (user_asks c r x).0.got (user_asks c r x).1
unfolding user_asks ActsQuiet IsQuiet AreOther dt1_among
user_asks_quiet cell.UserSends r x n = absurd n
user_asks_quiet cell.UserAccepts (request.Accept mine class credit body) x n = (refl, (tt, tt), inl refl)
user_asks_quiet cell.UserAccepts r x n = (refl, tt, inl refl)
user_asks_quiet cell.UserRefuses (request.Refuse mine cause body) x n = (refl, (tt, tt), inl refl)
user_asks_quiet cell.UserRefuses r x n = (refl, tt, inl refl)
user_asks_quiet cell.UserExpedites (request.Expedite mine body) x n = (refl, (tt, tt), inl refl)
user_asks_quiet cell.UserExpedites r x n = (refl, tt, inl refl)
user_asks_quiet cell.UserResets r x n = (refl, (tt, tt), inr refl)
user_asks_quiet cell.UserDisconnects (request.Disc mine cause body) x n = (refl, (tt, tt), inl refl)
user_asks_quiet cell.UserDisconnects r x n = (refl, tt, inl refl)
user_asks_quiet _ r x n = (refl, tt, inl refl)

-- An end that takes an effect which is no unit.
pub end_takes_quiet : (ticks : Ticks) (h : Hand) (e : End) → IsOther h → (let done = end_takes ticks h e in ActsQuiet (got_at e) (got_at done.0) done.1)
unfolding UserQuiet
end_takes_quiet ticks h (wire x) o = section_takes_quiet ticks (section_takes_by x.head.state h) h x o
end_takes_quiet ticks h (owner u) o = user_takes_quiet (user_takes_by u.state h) h u o
