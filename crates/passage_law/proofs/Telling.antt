-- What a user is told are texts of the units that came in at the other end.
use Rattle.std.proofs.Common.{◌≡◌, ◌⊎◌, inl, inr, ℕ, ◌==◌, ◌&&◌, not, nat_lt, Bool, true, false, List, [], ◌∷◌, ◌++◌, length, fold, Option, Some, None, refl, sym, ◌∙◌, ap, subst}
use Rattle.std.specs.List.{AllByRecursion}
use Rattle.std.proofs.lemmas.Bool.{false≢true}
use Rattle.relay_base.specs.declared.causes.TheConstants.{RELEASE_ACCESS_CONGESTION, RESET_END_USER, RESET_OUT_OF_WINDOW, RESET_INCORRECT_RECEIVE_NUMBER}
use Rattle.relay_base.specs.declared.limits.TheConstants.{LONGEST_TEXT}
use Rattle.relay_base.specs.declared.words.Event.{Event}
use Rattle.relay_base.specs.declared.words.Event.TheVariants.{Message as Arrived, Asked as Requested, Tick}
use Rattle.relay_base.specs.declared.words.Output.{Output}
use Rattle.relay_base.specs.declared.words.Reason.{Reason}
use Rattle.relay_base.specs.declared.words.Request.{Request}
use Rattle.relay_base.specs.declared.words.Request.TheVariants as request
use Rattle.plant_core.specs.declared.terms.Ticks.{Ticks}
use Rattle.q713_shape.specs.Writing.{octets_of}
use Rattle.q713_codec.specs.Writing.{spelling_of}
use Rattle.section_model.specs.declared.cell.Cell.{Cell}
use Rattle.section_model.specs.declared.cell.Cell.TheVariants as cell
use Rattle.section_model.specs.declared.cell.Occasion.{Occasion}
use Rattle.section_model.specs.declared.cell.SectionState.TheVariants.{Up}
use Rattle.section_model.specs.declared.cell.UserOccasion.{UserOccasion}
use Rattle.section_model.specs.declared.cell.Timer.{Timer}
use Rattle.section_model.specs.declared.hand.Hand.{Hand}
use Rattle.section_model.specs.declared.hand.Hand.TheVariants as hand
use Rattle.section_model.specs.declared.hand.Acted.{Acted}
use Rattle.section_model.specs.Table.{section_cell}
use Rattle.section_model.specs.Parameters.{Parameters, Arrival, arrival_in}
use Rattle.section_model.specs.Timing.{firing_order, firing, rearmed}
use Rattle.section_model.specs.Ends.{End, wire, owner, DataUnit, SectionHead, Section, User, Timers, Connection, turned, no_effect, gives_then}
use Rattle.section_flow.specs.Windows.{is_valid, wrong_number}
use Rattle.section_model.specs.Line.{line_hears}
use Rattle.section_model.specs.Windowed.{Windowed, windowed_hears, takes_data, is_next, is_used_up, resets}
use Rattle.section_model.specs.UserEnd.{user_takes, user_asks, units_of, handed, overruns, continues, completes, collects}
use Rattle.section_model.specs.Acting.{timed, by_windows, by_line, line_in, section_hears, section_fires, end_takes}
use Rattle.section_model.specs.Coupling.{exchange, settles}
use Rattle.section_model.specs.Laws.{hands_of}
use Rattle.section_model.specs.Step.{names_both, ends_both, names_another, is_of_other_class, checked, hears_checked, in_touch, is_from_elsewhere, hears_message, asking_cell, reason_against, asks_unless, asks, ticked, is_due_at, fires_at, fires, fires_next, fires_due, ticks_by, is_named, heard_by, event_step}
use Rattle.connection_law.specs.InStep.{connected, over, Meets, section_stage, user_stage, stage_at, got_at, AreInStep}
use Rattle.connection_law.proofs.Cells.{IsCellOf, cell_of}
use Rattle.connection_law.proofs.Flow.Flowing.{either}
use Rattle.connection_law.proofs.Reference.Ends.{Both}
use Rattle.hop_law.specs.Texts.{joins}
use Rattle.hop_law.specs.ClassLaw.{IsOfAClass}
use Rattle.hop_law.specs.LeavingLaw.{AreSides, this_and_that, that_and_this}
use Rattle.hop_law.specs.ClearingLaw.{is_reset, SendsReset}
use Rattle.hop_law.proofs.Cells.{IsResets, IsUserCellOf, as_asked, asking_cell_of}
use Rattle.hop_law.proofs.Quiet.{Kept}
use Rattle.hop_law.proofs.Exchanging.{both}
use Rattle.hop_law.proofs.Taking.{state_kept, told_cell, Passes, unit_passes}
use Rattle.hop_law.proofs.Passing.{unit_in_message}
use Rattle.hop_law.proofs.Clearing.{in_exchange, resets_up, may_reset}
use Rattle.passage_law.specs.Trails.{is_user}
use Rattle.passage_law.specs.Texts.{texts_among}
use Rattle.passage_law.proofs.Opening.{text_at}
use Rattle.passage_law.proofs.Keeping.{MayTake, IsSilent, silent_joined, none_silent, Keeps, keeps_kind, ActsSilent, section_hears_silent, section_fires_silent, takes_silent, Exchanged, both_keep, both_keep_then, exchanged, settled, opposite}
use Rattle.passage_law.proofs.Giving.{units_may}

-- A unit joins what there is, and the texts that are whole by it are told; or the text was too long, and the user's end is over.
abbrev pub IsCollected : List ℕ → DataUnit → End → List Output → Type 0
IsCollected rest u f outs =
    ((stage_at f ≡ over) × (texts_among outs ≡ [])) ⊎ (joins (record { texts = []; rest = rest }) u ≡ record { texts = texts_among outs; rest = text_at f })

-- what came in at a section before and after, what there was of a text at the user's end before, and that end after
pub data Tells (y : Section) (rest : List ℕ) (e f : End) (outs : List Output) : Type 0 where
  quiet : Kept y.windows.got (got_at e) → text_at f ≡ rest → texts_among outs ≡ [] → Tells y rest e f outs
  told : (u : DataUnit) → y.head.state ≡ Up → got_at e ≡ y.windows.got ++ u ∷ [] → IsCollected rest u f outs → Tells y rest e f outs

-- or RSR or RSC is sent
abbrev pub EventTells : Section → User → End → End → List Output → Type 0
EventTells y w e f outs = SendsReset outs ⊎ Tells y w.text e f outs

kept_units : (y : Section) (e : End) → Keeps (wire y) e → Kept y.windows.got (got_at e)
kept_units y (wire x) k = k
kept_units y (owner u) k = absurd k

pub text_kept : (f g : End) → Keeps f g → text_at g ≡ text_at f
text_kept (owner u) (owner v) k = k.1
text_kept (wire x) (wire y) k = refl
text_kept (wire x) (owner v) k = absurd k
text_kept (owner u) (wire y) k = absurd k

silent_tells : (y : Section) (w : User) (e f : End) (outs : List Output) → Keeps (wire y) e → Keeps (owner w) f → IsSilent outs → EventTells y w e f outs
unfolding IsSilent
silent_tells y w e f outs here there silent = inr (quiet (kept_units y e here) (text_kept (owner w) f there) silent.0)

-- A unit is handed to the user.

Collects : Ticks → End → DataUnit → User → User × Acted → Type 0
Collects ticks done u w d = let r = exchange 1 ticks (owner d.0, d.1) done in IsCollected w.text u r.0.this r.1

collects_it : (ticks : Ticks) (done : End) (u : DataUnit) (w : User) → is_user done ≡ false → Collects ticks done u w (collects (handed u) w)
unfolding Collects exchange IsSilent texts_among
collects_it ticks done u w section =
    either (Collects ticks done u w) (nat_lt LONGEST_TEXT (length (w.text ++ u.body))) _ _ (λ _. too_long)
    (λ _. either (Collects ticks done u w) u.more _ _ (λ more. by_more more) (λ last. by_last last))
  where
    answer : (h : Hand) → MayTake false h → IsSilent (end_takes ticks h done).1.outs
    answer h may = (takes_silent ticks h done (subst (λ (b : Bool). MayTake b h) (sym section) may)).1

    left : IsSilent (end_takes ticks (hand.Left 1 false) done).1.outs
    left = answer (hand.Left 1 false) tt

    ended : Hand
    ended = hand.End RELEASE_ACCESS_CONGESTION None None

    too_long : Collects ticks done u w (overruns w)
    too_long = inl (refl, (silent_joined (end_takes ticks ended done).1.outs _ (answer ended tt) (refl, refl)).0)

    by_more : u.more ≡ true → Collects ticks done u w (continues u.body w)
    by_more more = inr (rw (more, left.0) refl)

    by_last : u.more ≡ false → Collects ticks done u w (completes u.body w)
    by_last last = inr (rw (last, left.0) refl)

tells_unit : (ticks : Ticks) (done : End) (u : DataUnit) (w : User) → is_user done ≡ false → Meets connected (user_stage w.state)
    → (let r = settles ticks (done, gives_then [] (handed u ∷ [])) (owner w) in (got_at r.0.this ≡ got_at done) × IsCollected w.text u r.0.that r.1)
unfolding exchange Passes Collects user_takes
tells_unit ticks done u w section m =
    let p = unit_passes ticks u (owner w) done m in
    (p.1, subst (λ c. Collects ticks done u w (user_takes c (handed u) w)) (sym (told_cell w.state m)) (collects_it ticks done u w section))

up_meets : (y : Section) (w : User) → y.head.state ≡ Up → AreInStep (wire y) (owner w) → Meets connected (user_stage w.state)
up_meets y w up k = subst (λ s. Meets (section_stage s) (user_stage w.state)) up k.0

-- A message for the section.

HearsTell : Ticks → Section → Timers → User → Section × Acted → Type 0
HearsTell ticks y t w done = let r = settles ticks (timed ticks (record y { timers = t }) done) (owner w) in EventTells y w r.0.this r.0.that r.1

settled_tells : (ticks : Ticks) (y : Section) (w : User) (acting : End × Acted) → ActsSilent (wire y) acting
    → (let r = settles ticks acting (owner w) in EventTells y w r.0.this r.0.that r.1)
settled_tells ticks y w acting a =
    let s = settled ticks (wire y) (owner w) acting refl a in let r = settles ticks acting (owner w) in silent_tells y w r.0.this r.0.that r.1 s.0.0 s.0.1 s.1

resets_tell : (ticks : Ticks) (y : Section) (w : User) (acting : End × Acted) → SendsReset acting.1.outs → (let r = settles ticks acting (owner w) in EventTells y w r.0.this r.0.that r.1)
resets_tell ticks y w acting reset = inl (in_exchange is_reset 1 ticks acting (owner w) reset)

heard_tells : (ticks : Ticks) (y : Section) (w : User) (acting : End × Acted) → SendsReset acting.1.outs ⊎ ActsSilent (wire y) acting
    → (let r = settles ticks acting (owner w) in EventTells y w r.0.this r.0.that r.1)
heard_tells ticks y w acting (inl reset) = resets_tell ticks y w acting reset
heard_tells ticks y w acting (inr silent) = settled_tells ticks y w acting silent

nothing_tells : (ticks : Ticks) (y : Section) (t : Timers) (w : User) → HearsTell ticks y t w (record y { timers = t }, no_effect)
unfolding HearsTell
nothing_tells ticks y t w = settled_tells ticks y w (timed ticks (record y { timers = t }) (record y { timers = t }, no_effect)) (inl refl, none_silent, tt)

line_tells : (ticks : Ticks) (y : Section) (t : Timers) (w : User) → HearsTell ticks y t w (by_line (λ l. (l, no_effect)) (record y { timers = t }))
unfolding HearsTell
line_tells ticks y t w =
    settled_tells ticks y w (timed ticks (record y { timers = t }) (by_line (λ l. (l, no_effect)) (record y { timers = t })))
    (inl (state_kept (record y { timers = t }) (line_in y) refl), none_silent, tt)

gives_unit : (ticks : Ticks) (y : Section) (done : End) (u : DataUnit) (w : User) → is_user done ≡ false → y.head.state ≡ Up → got_at done ≡ y.windows.got ++ u ∷ [] → Meets connected (user_stage w.state)
    → (let r = settles ticks (done, gives_then [] (handed u ∷ [])) (owner w) in EventTells y w r.0.this r.0.that r.1)
gives_unit ticks y done u w section up got m = let t = tells_unit ticks done u w section m in inr (told u up (t.0 ∙ got) t.1)

WindowsTell : Ticks → Section → Timers → User → Windowed × Acted → Type 0
WindowsTell ticks y t w r = HearsTell ticks y t w (by_windows (λ x. r) (record y { timers = t }))

resets_windows : (ticks : Ticks) (y : Section) (t : Timers) (w : User) (cause : ℕ) → WindowsTell ticks y t w (resets cause (record { head = y.head; windows = y.windows }))
unfolding WindowsTell HearsTell spelling_of octets_of
resets_windows ticks y t w cause = resets_tell ticks y w (timed ticks (record y { timers = t }) (by_windows (λ x. resets cause (record { head = y.head; windows = y.windows })) (record y { timers = t }))) refl

numbered_tells : (ticks : Ticks) (m : Parameters) (y : Section) (t : Timers) (w : User) → y.head.state ≡ Up → Meets connected (user_stage w.state)
    → WindowsTell ticks y t w (takes_data m (record { head = y.head; windows = y.windows }))
unfolding WindowsTell HearsTell
numbered_tells ticks m y t w up meets =
    let x : Windowed = record { head = y.head; windows = y.windows } in
    either (WindowsTell ticks y t w) (not (is_next m x)) _ _ (λ _. resets_windows ticks y t w (wrong_number y.windows))
    (λ _. either (WindowsTell ticks y t w) (is_used_up x) _ _ (λ _. resets_windows ticks y t w RESET_OUT_OF_WINDOW)
    (λ _. either (WindowsTell ticks y t w) (not (is_valid m.pr x.windows)) _ _ (λ _. resets_windows ticks y t w RESET_INCORRECT_RECEIVE_NUMBER)
    (λ _. gives_unit ticks y _ (unit_in_message m) w refl up refl meets)))

section_hears_tells : (c : Cell) (o : Occasion) (ticks : Ticks) (point : ℕ) (m : Parameters) (y : Section) (t : Timers) (w : User) → IsCellOf c o y.head.state → AreInStep (wire y) (owner w)
    → (let r = settles ticks (section_hears ticks c point m (record y { timers = t })) (owner w) in EventTells y w r.0.this r.0.that r.1)
unfolding section_hears line_hears windowed_hears HearsTell WindowsTell
section_hears_tells cell.TakeData o ticks point m y t w is k =
    either (HearsTell ticks y t w) (y.head.class == 3) _ _ (λ _. nothing_tells ticks y t w)
    (λ _. let u = unit_in_message m in
    gives_unit ticks y _ u w refl is.1 (state_kept (record y { timers = t }) (record (line_in y) { got = y.windows.got ++ u ∷ [] }) refl) (up_meets y w is.1 k))
section_hears_tells cell.TakeNumberedData o ticks point m y t w is k =
    either (HearsTell ticks y t w) (y.head.class == 3) _ _ (λ _. numbered_tells ticks m y t w is.1 (up_meets y w is.1 k)) (λ _. line_tells ticks y t w)
section_hears_tells c o ticks point m y t w is k =
    heard_tells ticks y w (section_hears ticks c point m (record y { timers = t })) (section_hears_silent ticks c point m (record y { timers = t }) tt)

-- what the checks answer
abbrev IsSilentAnswer : Option Output → Type 0
IsSilentAnswer None = Unit {0}
IsSilentAnswer (Some out) = IsSilent (out ∷ [])

checked_silent : (o : Occasion) (m : Parameters) (x : SectionHead) → IsSilentAnswer (checked o m x)
unfolding IsSilent texts_among
checked_silent o m x =
    either IsSilentAnswer (names_both o && names_another m x) _ _ (λ _. (refl, refl))
    (λ _. either IsSilentAnswer (ends_both o && names_another m x) _ _ (λ _. (refl, refl))
    (λ _. either IsSilentAnswer (is_of_other_class o x) _ _ (λ _. (refl, refl)) (λ _. tt)))

checked_tells : (c : Option Output) (o : Occasion) (ticks : Ticks) (point : ℕ) (m : Parameters) (y : Section) (w : User) → IsSilentAnswer c → AreInStep (wire y) (owner w)
    → (let r = settles ticks (hears_checked ticks o point m (in_touch ticks y) c) (owner w) in EventTells y w r.0.this r.0.that r.1)
checked_tells (Some out) o ticks point m y w silent k = settled_tells ticks y w (hears_checked ticks o point m (in_touch ticks y) (Some out)) (inl refl, silent, tt)
checked_tells None o ticks point m y w silent k =
    section_hears_tells (section_cell y.head.state o) o ticks point m y (in_touch ticks y).timers w (cell_of o y.head.state) k

hears_tells : (o : Occasion) (ticks : Ticks) (point : ℕ) (m : Parameters) (y : Section) (w : User) → AreInStep (wire y) (owner w)
    → (let r = hears_message ticks o point m y (owner w) in EventTells y w r.0.this r.0.that r.1)
unfolding hears_message texts_among
hears_tells o ticks point m y w k =
    either (λ (r : Connection × List Output). EventTells y w r.0.this r.0.that r.1) (is_from_elsewhere point y.head) _ _ (λ _. inr (quiet (inl refl) refl refl))
    (λ _. checked_tells (checked o m y.head) o ticks point m y w (checked_silent o m y.head) k)

-- A request.

user_asks_silent : (c : Cell) (o : UserOccasion) (r : Request) (u : User) → (IsResets o → ⊥) → IsUserCellOf c o u.state
    → (let done = user_asks c r u in (done.0.text ≡ u.text) × IsSilent done.1.outs × AllByRecursion (MayTake false) (hands_of done.1))
unfolding user_asks IsSilent texts_among
user_asks_silent cell.UserSends o (request.Send mine body) u plain is = (refl, (refl, refl), units_may (units_of body))
user_asks_silent cell.UserSends o _ u plain is = (refl, (refl, refl), tt)
user_asks_silent cell.UserAccepts o (request.Accept mine class credit body) u plain is = (refl, (refl, refl), (tt, tt))
user_asks_silent cell.UserAccepts o _ u plain is = (refl, (refl, refl), tt)
user_asks_silent cell.UserRefuses o (request.Refuse mine cause body) u plain is = (refl, (refl, refl), (tt, tt))
user_asks_silent cell.UserRefuses o _ u plain is = (refl, (refl, refl), tt)
user_asks_silent cell.UserExpedites o (request.Expedite mine body) u plain is = (refl, (refl, refl), (tt, tt))
user_asks_silent cell.UserExpedites o _ u plain is = (refl, (refl, refl), tt)
user_asks_silent cell.UserResets o r u plain is = absurd (plain is)
user_asks_silent cell.UserDisconnects o (request.Disc mine cause body) u plain is = (refl, (refl, refl), (tt, tt))
user_asks_silent cell.UserDisconnects o _ u plain is = (refl, (refl, refl), tt)
user_asks_silent _ o r u plain is = (refl, (refl, refl), tt)

reset_sent : (ticks : Ticks) (mine : ℕ) (w : User) (y : Section) → y.head.state ≡ Up → y.head.class ≡ 3
    → SendsReset (settles ticks (let done = user_asks cell.UserResets (request.Reset mine) w in (owner done.0, done.1)) (wire y)).1
unfolding exchange user_asks
reset_sent ticks mine w y up three =
    in_exchange is_reset 0 ticks (end_takes ticks (hand.Reset RESET_END_USER) (wire y)) (owner (user_asks cell.UserResets (request.Reset mine) w).0) (resets_up ticks RESET_END_USER y up three)

of_three : (class : ℕ) → IsOfAClass class → (class == 2) ≡ false → class ≡ 3
of_three class (inl two) other = absurd (false≢true (sym other ∙ rw two refl))
of_three class (inr three) other = three

-- the section and the user's end after a request
AsksTell : User → Section → Connection × List Output → Type 0
AsksTell w y r = EventTells y w r.0.that r.0.this r.1

unless_tells : (ticks : Ticks) (r : Request) (w : User) (y : Section) (why : Option Reason) → reason_against r w y ≡ why → w.class ≡ y.head.class → IsOfAClass w.class
    → AsksTell w y (asks_unless why ticks r w y)
unfolding AsksTell IsSilent texts_among
unless_tells ticks r w y (Some why) e same class = inr (quiet (inl refl) refl refl)
unless_tells ticks (request.Reset mine) w y None e same class =
    let may = may_reset mine w y e in
    inl (subst (λ c. SendsReset (settles ticks (let done = user_asks c (request.Reset mine) w in (owner done.0, done.1)) (wire y)).1) (sym may.0)
    (reset_sent ticks mine w y may.2 (sym same ∙ of_three w.class class may.1)))
unless_tells ticks r w y None e same class =
    let done = user_asks (asking_cell w.state r) r w in
    let acts = user_asks_silent (asking_cell w.state r) (as_asked r) r w (λ is. is) (asking_cell_of r w.state) in
    let s = settles ticks (owner done.0, done.1) (wire y) in
    let x = exchanged 2 ticks true (owner done.0, done.1) (wire y) refl refl acts.1 acts.2 in
    inr (quiet (kept_units y s.0.that x.0.1) (text_kept (owner done.0) s.0.this x.0.0 ∙ acts.0) x.1.0)

asks_tells : (ticks : Ticks) (ssn : ℕ) (r : Request) (w : User) (y : Section) → w.class ≡ y.head.class → IsOfAClass w.class → AsksTell w y (asks ticks ssn r (owner w) (wire y))
unfolding asks AsksTell texts_among
asks_tells ticks ssn r w y same class =
    either (AsksTell w y) (w.ssn == ssn) _ _ (λ _. unless_tells ticks r w y (reason_against r w y) refl same class) (λ _. inr (quiet (inl refl) refl refl))

-- A tick.

exchanged_then : (c : Connection) (r s : Connection × List Output) → Exchanged c r → Exchanged r.0 s → Exchanged c (s.0, r.1 ++ s.1)
exchanged_then c r s one other = (both_keep_then c r.0 s.0 one.0 other.0, silent_joined r.1 s.1 one.1 other.1)

AreKinds : Connection → Type 0
AreKinds c = is_user c.that ≡ not (is_user c.this)

kinds_kept : (c d : Connection) → Both Keeps c d → AreKinds c → AreKinds d
unfolding AreKinds
kinds_kept c d k kinds = keeps_kind c.that d.that k.1 ∙ (kinds ∙ ap not (sym (keeps_kind c.this d.this k.0)))

kinds_turned : (c : Connection) → AreKinds c → AreKinds (turned c)
unfolding AreKinds
kinds_turned c kinds = opposite (is_user c.this) (is_user c.that) kinds

fires_silent : (ticks : Ticks) (timer : Timer) (this that : End) → AreKinds (both this that) → Exchanged (both this that) (fires ticks timer this that)
unfolding AreKinds
fires_silent ticks timer this that kinds = either (Exchanged (both this that)) (is_due_at timer this) _ _ (λ _. by_end this kinds) (λ _. (both_keep (both this that), none_silent))
  where
    by_end : (this : End) → is_user that ≡ not (is_user this) → Exchanged (both this that) (fires_at ticks timer this that)
    by_end (wire x) kinds =
        let y : Section = record x { timers = rearmed ticks timer x.timers } in
        settled ticks (wire x) that (section_fires ticks (section_cell x.head.state (firing timer)) y) kinds (section_fires_silent ticks (section_cell x.head.state (firing timer)) y)
    by_end (owner u) kinds = (both_keep (both (owner u) that), none_silent)

fires_in_order : (ticks : Ticks) (timers : List Timer) (c : Connection) (r : Connection × List Output) → AreKinds c → Exchanged c r → Exchanged c (fold (fires_next ticks) r timers)
fires_in_order ticks [] c r kinds k = k
fires_in_order ticks (timer ∷ timers) c r kinds k =
    fires_in_order ticks timers c (fires_next ticks r timer) kinds
    (exchanged_then c r (fires ticks timer r.0.this r.0.that) k (fires_silent ticks timer r.0.this r.0.that (kinds_kept c r.0 k.0 kinds)))

due_silent : (ticks : Ticks) (c : Connection) → AreKinds c → Exchanged c (fires_due ticks c)
unfolding fires_due
due_silent ticks c kinds = fires_in_order ticks firing_order c (c, []) kinds (both_keep c, none_silent)

ticked_keeps : (e : End) → Keeps e (ticked e)
ticked_keeps (wire x) = inl refl
ticked_keeps (owner u) = (refl, refl)

ticks_silent : (ticks : Ticks) (c : Connection) → AreKinds c → Exchanged c (ticks_by ticks c)
ticks_silent ticks c kinds =
    let lower = both (ticked c.this) (ticked c.that) in
    let lowered : Both Keeps c lower = (ticked_keeps c.this, ticked_keeps c.that) in
    let one = fires_due ticks lower in
    let first = due_silent ticks lower (kinds_kept c lower lowered kinds) in
    let both_first = both_keep_then c lower one.0 lowered first.0 in
    let other = fires_due ticks (turned one.0) in
    let second = due_silent ticks (turned one.0) (kinds_turned one.0 (kinds_kept c one.0 both_first kinds)) in
    exchanged_then c one (turned other.0, other.1) (both_first, first.1) ((second.0.1, second.0.0), second.1)

-- An event, at the side of the user and at that of the section.

abbrev SidesTell : (Connection → End) → (Connection → End) → Section → User → Connection × List Output → Type 0
SidesTell end other y w r = EventTells y w (other r.0) (end r.0) r.1

rests : (y : Section) (w : User) (c : Connection) (end other : Connection → End) → end c ≡ owner w → other c ≡ wire y → SidesTell end other y w (c, [])
unfolding texts_among
rests y w c end other is at = inr (quiet (inl (ap got_at at)) (ap text_at is) refl)

heard_by_tells : (ticks : Ticks) (point : ℕ) (a : Option Arrival) (y : Section) (w : User) → AreInStep (wire y) (owner w)
    → SidesTell (λ c. c.this) (λ c. c.that) y w (heard_by ticks point a (both (owner w) (wire y))) × SidesTell (λ c. c.that) (λ c. c.this) y w (heard_by ticks point a (both (wire y) (owner w)))
unfolding texts_among
heard_by_tells ticks point None y w k = (inr (quiet (inl refl) refl refl), inr (quiet (inl refl) refl refl))
heard_by_tells ticks point (Some a) y w k =
    let part = hears_message ticks a.occasion point a.parameters in
    let tells = hears_tells a.occasion ticks point a.parameters y w k in (
      tells,
      either (SidesTell (λ c. c.that) (λ c. c.this) y w) (is_named a.parameters.dlr (wire y)) _ _ (λ _. tells) (λ _. inr (quiet (inl refl) refl refl)),
    )

event_tells : (ticks : Ticks) (event : Event) (y : Section) (w : User) → AreInStep (wire y) (owner w) → IsOfAClass w.class
    → SidesTell (λ c. c.this) (λ c. c.that) y w (event_step ticks (both (owner w) (wire y)) event) × SidesTell (λ c. c.that) (λ c. c.this) y w (event_step ticks (both (wire y) (owner w)) event)
unfolding AsksTell AreKinds
event_tells ticks (Arrived point sls bytes) y w k class = heard_by_tells ticks point (arrival_in bytes) y w k
event_tells ticks (Requested ssn r) y w k class = let tells = asks_tells ticks ssn r w y (sym k.1) class in (tells, tells)
event_tells ticks Tick y w k class =
    let this = ticks_silent ticks (both (owner w) (wire y)) refl in
    let that = ticks_silent ticks (both (wire y) (owner w)) refl in (
      silent_tells y w (ticks_by ticks (both (owner w) (wire y))).0.that (ticks_by ticks (both (owner w) (wire y))).0.this (ticks_by ticks (both (owner w) (wire y))).1 this.0.1 this.0.0 this.1,
      silent_tells y w (ticks_by ticks (both (wire y) (owner w))).0.this (ticks_by ticks (both (wire y) (owner w))).0.that (ticks_by ticks (both (wire y) (owner w))).1 that.0.0 that.0.1 that.1,
    )

by_ends : (P : Connection → Type 0) (c : Connection) (e f : End) → c.this ≡ e → c.that ≡ f → P (both e f) → P c
by_ends P c e f here there p = subst (λ e. P (both e c.that)) (sym here) (subst (λ f. P (both e f)) (sym there) p)

pub sides_tell : (ticks : Ticks) (c : Connection) (event : Event) (end other : Connection → End) (y : Section) (w : User) → AreSides end other → end c ≡ owner w → other c ≡ wire y
    → AreInStep (wire y) (owner w) → IsOfAClass w.class → SidesTell end other y w (event_step ticks c event)
sides_tell ticks c event end other y w this_and_that is at k class =
    by_ends (λ d. SidesTell (λ c. c.this) (λ c. c.that) y w (event_step ticks d event)) c (owner w) (wire y) is at (event_tells ticks event y w k class).0
sides_tell ticks c event end other y w that_and_this is at k class =
    by_ends (λ d. SidesTell (λ c. c.that) (λ c. c.this) y w (event_step ticks d event)) c (wire y) (owner w) at is (event_tells ticks event y w k class).1
