-- What the ends of a user's connection keep, where no unit comes in at the user's end and nothing is reset.
use Rattle.std.proofs.Common.{◌≡◌, ◌⊎◌, inl, inr, ℕ, zero, suc, ◌==◌, ◌&&◌, ◌||◌, not, nat_le, nat_lt, take, if◌then◌else◌, Bool, true, false, List, [], ◌∷◌, ◌++◌, append-nil, fold, Option, Some, None, unwrap_or, is_some, refl, sym, ◌∙◌, ap, subst}
use Rattle.std.specs.List.{list_any, AllByRecursion}
use Rattle.std.proofs.lemmas.List.Concat.{flat_map-append}
use Rattle.std.proofs.lemmas.List.Folds.{list_any-append}
use Rattle.relay_base.specs.declared.causes.TheConstants.{ERROR_CLASS_MISMATCH, RESET_INCORRECT_RECEIVE_NUMBER, RESET_REMOTE_PROCEDURE_ERROR}
use Rattle.relay_base.specs.declared.words.Output.{Output}
use Rattle.plant_core.specs.declared.terms.Ticks.{Ticks}
use Rattle.q713_shape.specs.Writing.{octets_of}
use Rattle.q713_codec.specs.declared.message.Message.TheVariants.{Ed}
use Rattle.q713_codec.specs.Writing.{spelling_of}
use Rattle.section_model.specs.declared.cell.Cell.{Cell}
use Rattle.section_model.specs.declared.cell.Cell.TheVariants as cell
use Rattle.section_model.specs.declared.hand.Hand.{Hand}
use Rattle.section_model.specs.declared.hand.Hand.TheVariants as hand
use Rattle.section_model.specs.declared.hand.Acted.{Acted}
use Rattle.section_model.specs.Parameters.{Parameters}
use Rattle.section_model.specs.Ends.{End, wire, owner, DataUnit, Line, SectionHead, Section, User, Connection, is_up}
use Rattle.section_flow.specs.Windows.{is_valid, may_leave}
use Rattle.section_model.specs.Line.{sent_on, line_hears, line_fires, line_takes}
use Rattle.section_model.specs.Windowed.{Windowed, windowed_hears, windowed_fires, windowed_takes, resets, sends_expedited, numbered, leaves, acknowledges}
use Rattle.section_model.specs.UserEnd.{user_takes}
use Rattle.section_model.specs.Acting.{timed, by_windows, by_line, line_in, in_windows, section_hears, section_fires, section_takes, section_takes_by, user_takes_by, end_takes}
use Rattle.section_model.specs.Coupling.{with_more, other_takes, exchange, settles}
use Rattle.section_model.specs.Laws.{hands_of}
use Rattle.section_model.specs.Step.{on_windows, on_each, after_event}
use Rattle.connection_law.proofs.Flow.Flowing.{either}
use Rattle.connection_law.proofs.Reference.Ends.{Both}
use Rattle.connection_law.proofs.Reference.Settling.{acted_with}
use Rattle.hop_law.specs.ClearingLaw.{SendsReset}
use Rattle.hop_law.proofs.Quiet.{IsNoData, Kept, kept_then, parted, line_got}
use Rattle.hop_law.proofs.Exchanging.{both}
use Rattle.passage_law.specs.Trails.{is_user}
use Rattle.passage_law.specs.Texts.{is_refusal, text_told, texts_among}

-- the effects that may be handed to an end: no reset, and to a user's end no unit
abbrev pub MayTake : Bool → Hand → Type 0
MayTake true (hand.Reset cause) = ⊥
MayTake true (hand.Unit more body) = ⊥
MayTake true _ = Unit {0}
MayTake false (hand.Reset cause) = ⊥
MayTake false _ = Unit {0}

-- outputs by which no text is told, and no request refused
unfoldable pub IsSilent : List Output → Type 0
IsSilent outs = (texts_among outs ≡ []) × (list_any is_refusal outs ≡ false)

-- one more output may be told, and others be refused, only if they were before
abbrev pub ToldAlike : List Output → List Output → Type 0
ToldAlike one other = (texts_among other ≡ texts_among one) × (list_any is_refusal other ≡ list_any is_refusal one)

no_text_more : (one other : List Output) → texts_among other ≡ [] → texts_among (one ++ other) ≡ texts_among one
unfolding texts_among
no_text_more one other e = flat_map-append text_told one other ∙ (ap (λ (texts : List (List ℕ)). texts_among one ++ texts) e ∙ append-nil (texts_among one))

or_false : (b : Bool) → (b || false) ≡ b
or_false true = refl
or_false false = refl

pub alike_more : (one other : List Output) → IsSilent other → ToldAlike one (one ++ other)
unfolding IsSilent
alike_more one other s =
    (no_text_more one other s.0, list_any-append is_refusal one other ∙ (ap (λ (b : Bool). list_any is_refusal one || b) s.1 ∙ or_false (list_any is_refusal one)))

pub silent_joined : (one other : List Output) → IsSilent one → IsSilent other → IsSilent (one ++ other)
unfolding IsSilent
silent_joined one other s t = let more = alike_more one other t in (more.0 ∙ s.0, more.1 ∙ s.1)

pub none_silent : IsSilent []
unfolding IsSilent texts_among
none_silent = (refl, refl)

-- A section keeps what came in, or that begins anew; a user's end keeps what its user gave, and what there is of a text.
abbrev pub Keeps : End → End → Type 0
Keeps (wire x) (wire y) = Kept x.windows.got y.windows.got
Keeps (owner u) (owner v) = (v.got ≡ u.got) × (v.text ≡ u.text)
Keeps (wire x) (owner v) = ⊥
Keeps (owner u) (wire y) = ⊥

pub keeps_same : (e : End) → Keeps e e
keeps_same (wire x) = inl refl
keeps_same (owner u) = (refl, refl)

pub keeps_then : (e f g : End) → Keeps e f → Keeps f g → Keeps e g
keeps_then (wire x) (wire y) (wire z) a b = kept_then x.windows.got y.windows.got z.windows.got a b
keeps_then (owner u) (owner v) (owner w) a b = (b.0 ∙ a.0, b.1 ∙ a.1)
keeps_then (wire x) (wire y) (owner w) a b = absurd b
keeps_then (owner u) (owner v) (wire z) a b = absurd b
keeps_then (wire x) (owner v) g a b = absurd a
keeps_then (owner u) (wire y) g a b = absurd a

pub keeps_kind : (e f : End) → Keeps e f → is_user f ≡ is_user e
keeps_kind (wire x) (wire y) k = refl
keeps_kind (owner u) (owner v) k = refl
keeps_kind (wire x) (owner v) k = absurd k
keeps_kind (owner u) (wire y) k = absurd k

-- an act of an end, with what it hands to the other one
abbrev pub ActsSilent : End → End × Acted → Type 0
ActsSilent e done = Keeps e done.0 × IsSilent done.1.outs × AllByRecursion (MayTake (not (is_user e))) (hands_of done.1)

-- The line of a section.

LineSilent : Line → Line × Acted → Type 0
LineSilent x done = (done.0.got ≡ x.got) × IsSilent done.1.outs × AllByRecursion (MayTake true) (hands_of done.1)

line_hears_silent : (c : Cell) (point : ℕ) (m : Parameters) (x : Line) → IsNoData c → LineSilent x (line_hears c point m x)
unfolding line_hears LineSilent IsSilent texts_among
line_hears_silent cell.TakeData point m x n = absurd n
line_hears_silent cell.TakeNumberedData point m x n = absurd n
line_hears_silent cell.Confirm point m x n =
    either (LineSilent x) ((m.class == 2 || m.class == 3) && nat_le m.class x.head.class) _ _ (λ _. (refl, (refl, refl), (tt, tt))) (λ _. (refl, (refl, refl), (tt, tt)))
line_hears_silent cell.Refused point m x n = (refl, (refl, refl), (tt, tt))
line_hears_silent cell.Released point m x n = (refl, (refl, refl), (tt, tt))
line_hears_silent cell.ErrorReceived point m x n =
    either (LineSilent x) (m.cause == ERROR_CLASS_MISMATCH) _ _ (λ _. (refl, (refl, refl), (tt, tt))) (λ _. (refl, (refl, refl), (tt, tt)))
line_hears_silent cell.TestReceived point m x n =
    either (LineSilent x) (m.slr == x.head.other && m.class == x.head.class) _ _ (λ _. (refl, (refl, refl), tt)) (λ _. (refl, (refl, refl), (tt, tt)))
line_hears_silent _ point m x n = (refl, (refl, refl), tt)

line_fires_silent : (c : Cell) (x : Line) → LineSilent x (line_fires c x)
unfolding line_fires LineSilent IsSilent texts_among
line_fires_silent cell.NotAnswered x = (refl, (refl, refl), (tt, tt))
line_fires_silent cell.ResetExpired x = (refl, (refl, refl), (tt, tt))
line_fires_silent cell.PeerSilent x = (refl, (refl, refl), (tt, tt))
line_fires_silent _ x = (refl, (refl, refl), tt)

line_takes_silent : (c : Cell) (h : Hand) (x : Line) → LineSilent x (line_takes c h x)
unfolding line_takes LineSilent IsSilent texts_among
line_takes_silent cell.PassAccept (hand.Accept class credit called body importance) x = (refl, (refl, refl), tt)
line_takes_silent cell.PassAccept _ x = (refl, (refl, refl), tt)
line_takes_silent cell.PassRefuse (hand.Refuse cause called body importance) x = (refl, (refl, refl), tt)
line_takes_silent cell.PassRefuse _ x = (refl, (refl, refl), tt)
line_takes_silent cell.PassEnd (hand.End cause body importance) x = (refl, (refl, refl), tt)
line_takes_silent cell.PassEnd _ x = (refl, (refl, refl), tt)
line_takes_silent cell.KeepEnd (hand.End cause body importance) x = (refl, (refl, refl), tt)
line_takes_silent cell.KeepEnd _ x = (refl, (refl, refl), tt)
line_takes_silent cell.PassUnit (hand.Unit more body) x = (refl, (refl, refl), (tt, tt))
line_takes_silent cell.PassUnit _ x = (refl, (refl, refl), tt)
line_takes_silent cell.Left (hand.Left units expedited) x = (refl, (refl, refl), tt)
line_takes_silent cell.Left _ x = (refl, (refl, refl), tt)
line_takes_silent _ h x = (refl, (refl, refl), tt)

-- The windows.

WindowsSilent : Windowed → Windowed × Acted → Type 0
WindowsSilent x done = Kept x.windows.got done.0.windows.got × IsSilent done.1.outs × AllByRecursion (MayTake true) (hands_of done.1)

-- or RSR or RSC is sent
WindowsHear : Windowed → Windowed × Acted → Type 0
WindowsHear x done = SendsReset done.1.outs ⊎ WindowsSilent x done

resets_hear : (cause : ℕ) (x : Windowed) → WindowsHear x (resets cause x)
unfolding WindowsHear spelling_of octets_of
resets_hear cause x = inl refl

expedites_silent : (body : Option (List ℕ)) (x : Windowed) → WindowsSilent x (sends_expedited body x)
unfolding WindowsSilent IsSilent texts_among
expedites_silent None x = (inl refl, (refl, refl), tt)
expedites_silent (Some body) x = (inl refl, (refl, refl), (tt, tt))

windowed_hears_silent : (c : Cell) (m : Parameters) (x : Windowed) → IsNoData c → WindowsHear x (windowed_hears c m x)
unfolding windowed_hears WindowsHear WindowsSilent IsSilent texts_among spelling_of octets_of
windowed_hears_silent cell.TakeData m x n = absurd n
windowed_hears_silent cell.TakeNumberedData m x n = absurd n
windowed_hears_silent cell.TakeAcknowledgement m x n =
    either (WindowsHear x) (is_valid m.pr x.windows) _ _ (λ _. inr (inl refl, (refl, refl), tt)) (λ _. resets_hear RESET_INCORRECT_RECEIVE_NUMBER x)
windowed_hears_silent cell.TakeExpedited m x n =
    either (WindowsHear x) x.windows.owed _ _ (λ _. resets_hear RESET_REMOTE_PROCEDURE_ERROR x) (λ _. inr (inl refl, (refl, refl), (tt, tt)))
windowed_hears_silent cell.TakeExpeditedAcknowledgement m x n =
    either (WindowsHear x) x.windows.unanswered _ _
    (λ _. inr (expedites_silent x.windows.waiting (record x { windows = record x.windows { unanswered = false } }))) (λ _. inr (inl refl, (refl, refl), tt))
windowed_hears_silent cell.ResetByPeer m x n = inl refl
windowed_hears_silent cell.ResetComplete m x n = inr (inl refl, (refl, refl), (tt, tt))
windowed_hears_silent _ m x n = inr (inl refl, (refl, refl), tt)

windowed_fires_silent : (x : Windowed) → WindowsSilent x (windowed_fires x)
unfolding windowed_fires WindowsSilent IsSilent texts_among
windowed_fires_silent x = (inl refl, (refl, refl), tt)

windowed_takes_silent : (c : Cell) (h : Hand) (x : Windowed) → MayTake false h → WindowsSilent x (windowed_takes c h x)
unfolding windowed_takes WindowsSilent IsSilent texts_among
windowed_takes_silent cell.PassUnit (hand.Unit more body) x may = (inl refl, (refl, refl), tt)
windowed_takes_silent cell.PassUnit _ x may = (inl refl, (refl, refl), tt)
windowed_takes_silent cell.PassExpedited (hand.Expedited body) x may =
    either (WindowsSilent x) (is_up x.head.state && not x.windows.unanswered) _ _ (λ _. expedites_silent (Some body) x) (λ _. (inl refl, (refl, refl), tt))
windowed_takes_silent cell.PassExpedited _ x may = (inl refl, (refl, refl), tt)
windowed_takes_silent cell.PassReset (hand.Reset cause) x may = absurd may
windowed_takes_silent cell.PassReset _ x may = (inl refl, (refl, refl), tt)
windowed_takes_silent cell.ClearCounts h x may = (inr refl, (refl, refl), tt)
windowed_takes_silent cell.Left (hand.Left units true) x may = (inl refl, (refl, refl), tt)
windowed_takes_silent cell.Left (hand.Left units false) x may = (inl refl, (refl, refl), tt)
windowed_takes_silent cell.Left _ x may = (inl refl, (refl, refl), tt)
windowed_takes_silent _ h x may = (inl refl, (refl, refl), tt)

-- A section.

SectionSilent : Section → Section × Acted → Type 0
SectionSilent x done = Kept x.windows.got done.0.windows.got × IsSilent done.1.outs × AllByRecursion (MayTake true) (hands_of done.1)

SectionHears : Section → Section × Acted → Type 0
SectionHears x done = SendsReset done.1.outs ⊎ SectionSilent x done

by_line_silent : (x : Section) (act : Line → Line × Acted) → LineSilent (line_in x) (act (line_in x)) → SectionSilent x (by_line act x)
unfolding LineSilent SectionSilent
by_line_silent x act l = (line_got x (act (line_in x)).0 l.0, l.1, l.2)

-- a message that brings no data for the section
pub section_hears_silent : (ticks : Ticks) (c : Cell) (point : ℕ) (m : Parameters) (x : Section) → IsNoData c
    → (let done = section_hears ticks c point m x in SendsReset done.1.outs ⊎ ActsSilent (wire x) done)
unfolding section_hears SectionHears SectionSilent WindowsHear WindowsSilent
section_hears_silent ticks c point m x n =
    either (SectionHears x) (in_windows c x) _ _ (λ _. windowed_hears_silent c m (record { head = x.head; windows = x.windows }) n)
    (λ _. inr (by_line_silent x (line_hears c point m) (line_hears_silent c point m (line_in x) n)))

pub section_fires_silent : (ticks : Ticks) (c : Cell) (x : Section) → ActsSilent (wire x) (section_fires ticks c x)
unfolding section_fires SectionSilent WindowsSilent
section_fires_silent ticks c x =
    either (SectionSilent x) (in_windows c x) _ _ (λ _. windowed_fires_silent (record { head = x.head; windows = x.windows })) (λ _. by_line_silent x (line_fires c) (line_fires_silent c (line_in x)))

section_takes_silent : (ticks : Ticks) (c : Cell) (h : Hand) (x : Section) → MayTake false h → ActsSilent (wire x) (section_takes ticks c h x)
unfolding section_takes SectionSilent WindowsSilent
section_takes_silent ticks c h x may =
    either (SectionSilent x) (in_windows c x) _ _
    (λ _. windowed_takes_silent c h (record { head = x.head; windows = x.windows }) may) (λ _. by_line_silent x (line_takes c h) (line_takes_silent c h (line_in x)))

-- A user's end.

UserSilent : User → User × Acted → Type 0
UserSilent u done = ((done.0.got ≡ u.got) × (done.0.text ≡ u.text)) × IsSilent done.1.outs × AllByRecursion (MayTake false) (hands_of done.1)

user_takes_silent : (c : Cell) (h : Hand) (u : User) → MayTake true h → UserSilent u (user_takes c h u)
unfolding user_takes UserSilent IsSilent texts_among
user_takes_silent cell.TellConfirm (hand.Accept class credit called body importance) u may = ((refl, refl), (refl, refl), tt)
user_takes_silent cell.TellConfirm _ u may = ((refl, refl), (refl, refl), tt)
user_takes_silent cell.TellDisconnect (hand.Refuse cause called body importance) u may = ((refl, refl), (refl, refl), tt)
user_takes_silent cell.TellDisconnect (hand.End cause body importance) u may = ((refl, refl), (refl, refl), tt)
user_takes_silent cell.TellDisconnect _ u may = ((refl, refl), (refl, refl), tt)
user_takes_silent cell.TellUnit (hand.Unit more body) u may = absurd may
user_takes_silent cell.TellUnit _ u may = ((refl, refl), (refl, refl), tt)
user_takes_silent cell.TellExpedited (hand.Expedited body) u may = ((refl, refl), (refl, refl), (tt, tt))
user_takes_silent cell.TellExpedited _ u may = ((refl, refl), (refl, refl), tt)
user_takes_silent cell.TellReset (hand.Reset cause) u may = absurd may
user_takes_silent cell.TellReset _ u may = ((refl, refl), (refl, refl), tt)
user_takes_silent cell.TellResetDone h u may = ((refl, refl), (refl, refl), tt)
user_takes_silent cell.Left (hand.Left units expedited) u may = ((refl, refl), (refl, refl), tt)
user_takes_silent cell.Left _ u may = ((refl, refl), (refl, refl), tt)
user_takes_silent _ h u may = ((refl, refl), (refl, refl), tt)

pub takes_silent : (ticks : Ticks) (h : Hand) (e : End) → MayTake (is_user e) h → ActsSilent e (end_takes ticks h e)
unfolding UserSilent
takes_silent ticks h (wire x) may = section_takes_silent ticks (section_takes_by x.head.state h) h x may
takes_silent ticks h (owner u) may = user_takes_silent (user_takes_by u.state h) h u may

-- What a section and a user's end hand to each other.

abbrev pub Exchanged : Connection → Connection × List Output → Type 0
Exchanged c r = Both Keeps c r.0 × IsSilent r.1

abbrev pub Exchanges : ℕ → Ticks → Type 0
Exchanges n ticks =
    (kind : Bool) (acting : End × Acted) (that : End) → is_user acting.0 ≡ kind → is_user that ≡ not kind → IsSilent acting.1.outs → AllByRecursion (MayTake (not kind)) (hands_of acting.1)
    → Exchanged (acted_with acting that) (exchange n ticks acting that)

twice : (b : Bool) → b ≡ not (not b)
twice true = refl
twice false = refl

offered : (n : ℕ) (ticks : Ticks) → Exchanges n ticks → (kind : Bool) (r : Connection × List Output) (h : Hand) → is_user r.0.this ≡ kind → is_user r.0.that ≡ not kind → IsSilent r.1 → MayTake (not kind) h
    → Exchanged r.0 (other_takes (exchange n ticks) ticks r h)
offered n ticks goes kind r h here there silent may =
    let taken = end_takes ticks h r.0.that in
    let done = exchange n ticks taken r.0.this in
    let t = takes_silent ticks h r.0.that (subst (λ (b : Bool). MayTake b h) (sym there) may) in
    let after = goes (not kind) taken r.0.this (keeps_kind r.0.that taken.0 t.0 ∙ there) (here ∙ twice kind) t.1
    (subst (λ (b : Bool). AllByRecursion (MayTake (not b)) (hands_of taken.1)) there t.2) in
    ((after.0.1, keeps_then r.0.that taken.0 done.0.this t.0 after.0.0), silent_joined r.1 done.1 silent after.1)

pub both_keep_then : (c d e : Connection) → Both Keeps c d → Both Keeps d e → Both Keeps c e
both_keep_then c d e one other = (keeps_then c.this d.this e.this one.0 other.0, keeps_then c.that d.that e.that one.1 other.1)

pub both_keep : (c : Connection) → Both Keeps c c
both_keep c = (keeps_same c.this, keeps_same c.that)

all_offered : (n : ℕ) (ticks : Ticks) → Exchanges n ticks → (kind : Bool) (hands : List Hand) (r : Connection × List Output) → is_user r.0.this ≡ kind → is_user r.0.that ≡ not kind → IsSilent r.1
    → AllByRecursion (MayTake (not kind)) hands → Exchanged r.0 (fold (other_takes (exchange n ticks) ticks) r hands)
all_offered n ticks goes kind [] r here there silent may = (both_keep r.0, silent)
all_offered n ticks goes kind (h ∷ hands) r here there silent may =
    let one = other_takes (exchange n ticks) ticks r h in
    let first = offered n ticks goes kind r h here there silent may.0 in
    let rest = all_offered n ticks goes kind hands one (keeps_kind r.0.this one.0.this first.0.0 ∙ here) (keeps_kind r.0.that one.0.that first.0.1 ∙ there) first.1 may.1 in
    (both_keep_then r.0 one.0 (fold (other_takes (exchange n ticks) ticks) one hands).0 first.0 rest.0, rest.1)

pub exchanged : (n : ℕ) (ticks : Ticks) → Exchanges n ticks
unfolding exchange
exchanged zero ticks kind acting that here there silent may = (both_keep (acted_with acting that), silent)
exchanged (suc n) ticks kind acting that here there silent may =
    let c = acted_with acting that in
    let hands = parted (MayTake (not kind)) acting.1.first acting.1.then may in
    let first = fold (other_takes (exchange n ticks) ticks) (c, []) acting.1.first in
    let one = all_offered n ticks (exchanged n ticks) kind acting.1.first (c, []) here there none_silent hands.0 in
    let more = with_more acting.1.outs first in
    let rest = all_offered n ticks (exchanged n ticks) kind acting.1.then more (keeps_kind acting.0 first.0.this one.0.0 ∙ here) (keeps_kind that first.0.that one.0.1 ∙ there)
    (silent_joined first.1 acting.1.outs one.1 silent) hands.1 in
    (both_keep_then c first.0 (fold (other_takes (exchange n ticks) ticks) more acting.1.then).0 one.0 rest.0, rest.1)

-- an act of an end, and what is handed over then
pub settled : (ticks : Ticks) (e that : End) (acting : End × Acted) → is_user that ≡ not (is_user e) → ActsSilent e acting → Exchanged (both e that) (settles ticks acting that)
settled ticks e that acting there a =
    let x = exchanged 2 ticks (is_user e) acting that (keeps_kind e acting.0 a.0) there a.1 a.2 in
    (both_keep_then (both e that) (both acting.0 that) (settles ticks acting that).0 (a.0, keeps_same that) x.0, x.1)

-- What follows an event: units leave, and what came in is acknowledged.

numbered_silent : (x : SectionHead) (ps pr : ℕ) (units : List DataUnit) → IsSilent (numbered x ps pr units)
unfolding IsSilent texts_among
numbered_silent x ps pr [] = (refl, refl)
numbered_silent x ps pr (u ∷ units) = numbered_silent x (suc ps) pr units

expedited_silent : (b : Bool) (x : SectionHead) (body : List ℕ) → IsSilent (if b then sent_on x (Ed x.other body) ∷ [] else [])
unfolding IsSilent texts_among
expedited_silent true x body = (refl, refl)
expedited_silent false x body = (refl, refl)

left_may : (b : Bool) (units : ℕ) (is_expedited : Bool) → AllByRecursion (MayTake true) (if b then hand.Left units is_expedited ∷ [] else [])
left_may true units is_expedited = (tt, tt)
left_may false units is_expedited = tt

leaves_silent : (x : Windowed) → WindowsSilent x (leaves x)
unfolding WindowsSilent leaves
leaves_silent x =
    let w = x.windows in
    let is_expedited = is_some w.waiting && not w.unanswered in (
      inl refl,
      silent_joined (numbered x.head w.sent w.passed (take (may_leave w) w.waits)) _ (numbered_silent x.head w.sent w.passed (take (may_leave w) w.waits)) (expedited_silent is_expedited x.head (unwrap_or w.waiting [])),
      left_may (is_expedited || nat_lt 0 (may_leave w)) (may_leave w) is_expedited,
    )

acknowledges_silent : (x : Windowed) → WindowsSilent x (acknowledges x)
unfolding WindowsSilent acknowledges IsSilent texts_among
acknowledges_silent x = either (WindowsSilent x) (x.windows.passed == x.windows.told) _ _ (λ _. (inl refl, (refl, refl), tt)) (λ _. (inl refl, (refl, refl), tt))

on_windows_silent : (ticks : Ticks) (act : Windowed → Windowed × Acted) → ((x : Windowed) → WindowsSilent x (act x)) → (this that : End) → is_user that ≡ not (is_user this)
    → Exchanged (both this that) (on_windows ticks act this that)
unfolding WindowsSilent
on_windows_silent ticks act silent (wire x) that there =
    either (Exchanged (both (wire x) that)) (is_up x.head.state && x.head.class == 3) _ _
    (λ _. settled ticks (wire x) that (timed ticks x (by_windows act x)) there (silent (record { head = x.head; windows = x.windows }))) (λ _. (both_keep (both (wire x) that), none_silent))
on_windows_silent ticks act silent (owner u) that there = (both_keep (both (owner u) that), none_silent)

-- from a connection with outputs to a later one: the ends keep what they do, and no text more is told
abbrev pub Adds : Connection × List Output → Connection × List Output → Type 0
Adds r s = Both Keeps r.0 s.0 × ToldAlike r.1 s.1

adds_then : (r s t : Connection × List Output) → Adds r s → Adds s t → Adds r t
adds_then r s t one other = (both_keep_then r.0 s.0 t.0 one.0 other.0, (other.1.0 ∙ one.1.0, other.1.1 ∙ one.1.1))

pub opposite : (a b : Bool) → b ≡ not a → a ≡ not b
opposite true b e = rw e refl
opposite false b e = rw e refl

each_adds : (ticks : Ticks) (act : Windowed → Windowed × Acted) → ((x : Windowed) → WindowsSilent x (act x)) → (r : Connection × List Output) → is_user r.0.that ≡ not (is_user r.0.this)
    → Adds r (on_each (on_windows ticks act) r)
each_adds ticks act silent r there =
    let one = on_windows ticks act r.0.this r.0.that in
    let other = on_windows ticks act one.0.that one.0.this in
    let first = on_windows_silent ticks act silent r.0.this r.0.that there in
    let here = keeps_kind r.0.this one.0.this first.0.0 in
    let second = on_windows_silent ticks act silent one.0.that one.0.this (here ∙ opposite (is_user r.0.this) (is_user one.0.that) (keeps_kind r.0.that one.0.that first.0.1 ∙ there)) in
    let some = alike_more r.1 one.1 first.1 in
    let all = alike_more (r.1 ++ one.1) other.1 second.1 in (
      (keeps_then r.0.this one.0.this other.0.that first.0.0 second.0.1, keeps_then r.0.that one.0.that other.0.this first.0.1 second.0.0),
      (all.0 ∙ some.0, all.1 ∙ some.1),
    )

pub after_adds : (ticks : Ticks) (r : Connection × List Output) → is_user r.0.that ≡ not (is_user r.0.this) → Adds r (after_event ticks r)
unfolding after_event
after_adds ticks r there =
    let one = on_each (on_windows ticks leaves) r in
    let first = each_adds ticks leaves leaves_silent r there in
    let second = each_adds ticks acknowledges acknowledges_silent one
    (keeps_kind r.0.that one.0.that first.0.1 ∙ (there ∙ ap not (sym (keeps_kind r.0.this one.0.this first.0.0)))) in
    adds_then r one (on_each (on_windows ticks acknowledges) one) first second
