-- What passes by one event.
use Rattle.std.proofs.Common.{◌≡◌, inl, ℕ, suc, ◌==◌, ◌&&◌, ◌||◌, not, nat_lt, if◌then◌else◌, Bool, true, false, List, [], ◌∷◌, ◌++◌, map, take, fold, Option, Some, None, unwrap_or, is_some, refl, sym, ◌∙◌, ap, append_assoc, append-nil, eq-eqb, eqb-true}
use Rattle.std.proofs.lemmas.Bool.{false≢true}
use Rattle.relay_base.specs.declared.causes.TheConstants.{RESET_INCORRECT_RECEIVE_NUMBER, RESET_OUT_OF_WINDOW}
use Rattle.relay_base.specs.declared.words.Event.{Event}
use Rattle.relay_base.specs.declared.words.Event.TheVariants.{Message as Arrived, Asked as Requested, Tick}
use Rattle.relay_base.specs.declared.words.Output.{Output}
use Rattle.relay_base.specs.declared.words.Reason.{Reason}
use Rattle.relay_base.specs.declared.words.Request.{Request}
use Rattle.relay_base.specs.declared.words.Request.TheVariants as request
use Rattle.plant_core.specs.declared.terms.Ticks.{Ticks}
use Rattle.q713_shape.specs.Writing.{octets_of}
use Rattle.q713_codec.specs.declared.message.Message.TheVariants.{Ed}
use Rattle.q713_codec.specs.Writing.{spelling_of}
use Rattle.section_model.specs.declared.cell.Cell.{Cell}
use Rattle.section_model.specs.declared.cell.Cell.TheVariants as cell
use Rattle.section_model.specs.declared.cell.Occasion.{Occasion}
use Rattle.section_model.specs.declared.cell.SectionState.{SectionState}
use Rattle.section_model.specs.declared.cell.SectionState.TheVariants.{Up}
use Rattle.section_model.specs.declared.cell.UserState.{UserState}
use Rattle.section_model.specs.declared.cell.UserState.TheVariants as user
use Rattle.section_model.specs.declared.cell.Timer.{Timer}
use Rattle.section_model.specs.declared.cell.UserOccasion.{UserOccasion}
use Rattle.section_model.specs.declared.hand.Hand.TheVariants as hand
use Rattle.section_model.specs.declared.hand.Acted.{Acted}
use Rattle.section_model.specs.Table.{section_cell}
use Rattle.section_model.specs.Parameters.{Parameters, Arrival, arrival_in}
use Rattle.section_model.specs.Timing.{firing_order, firing, rearmed}
use Rattle.section_model.specs.Ends.{End, wire, owner, DataUnit, SectionHead, Section, User, Timers, Connection, turned, no_effect, gives_then, is_up}
use Rattle.section_flow.specs.Windows.{is_valid, may_leave, wrong_number}
use Rattle.section_model.specs.Line.{sent_on, line_hears}
use Rattle.section_model.specs.Windowed.{Windowed, windowed_hears, takes_data, is_next, is_used_up, resets, numbered, leaves, acknowledges}
use Rattle.section_model.specs.UserEnd.{user_asks, units_of, handed}
use Rattle.section_model.specs.Acting.{timed, by_windows, by_line, line_in, section_hears, end_takes}
use Rattle.section_model.specs.Coupling.{other_takes, exchange, settles}
use Rattle.section_model.specs.Laws.{hands_of}
use Rattle.section_model.specs.Step.{names_both, ends_both, names_another, is_of_other_class, checked, hears_checked, in_touch, is_from_elsewhere, hears_message, asking_cell, reason_against, asks_unless, asks, ticked, is_due_at, fires_at, fires, fires_next, fires_due, ticks_by, on_windows, after_event, is_named, at_this, at_reference, heard_by, asked_by, event_step, connection_step, names, destination_of, hears}
use Rattle.hop_law.specs.CarriedLaw.{dt1_of}
use Rattle.hop_law.specs.Units.{carries, units_for}
use Rattle.connection_law.specs.InStep.{Stage, connected, got_at, Meets, section_stage, user_stage, stage_at, AreInStep, IsInStep}
use Rattle.connection_law.proofs.Cells.{IsCellOf, cell_of}
use Rattle.connection_law.proofs.Flow.Flowing.{either}
use Rattle.connection_law.proofs.Flow.Ends.{kept_back}
use Rattle.connection_law.proofs.Flow.Ordering.{this_left}
use Rattle.connection_law.proofs.Message.Hearing.{other_named}
use Rattle.connection_law.proofs.Message.Sent.{after_leaving}
use Rattle.hop_law.specs.PassingLaw.{dt1_among, passed_on, at_once, StaysOrClears, Brings, Passing, none, on_this, on_that as on_other, UnitsPass}
use Rattle.hop_law.proofs.Cells.{data_carried, IsUserCellOf, as_asked, asking_cell_of}
use Rattle.hop_law.proofs.Quiet.{IsQuiet, AreOther, ActsQuiet, dt1_joined, quiet_joined, none_quiet, resets_quiet, section_hears_quiet, section_fires_quiet, user_asks_quiet}
use Rattle.hop_law.proofs.Exchanging.{both, Exchanges, Quiet, quiet_nowhere, quiet_then, quiet_back, exchange_quiet, settles_quiet}
use Rattle.hop_law.proofs.Taking.{state_kept, SameHead, Passes, unit_passes}

-- what is brought for an end
abbrev Brought : Type 1
Brought = End → List DataUnit → Type 0

abbrev PassesBy : Brought → Connection → Connection × List Output → Type 0
PassesBy G c r = Passing G c r.0 r.1

quiet_passes : (G : Brought) (c : Connection) (r : Connection × List Output) → Quiet c r → PassesBy G c r
unfolding Quiet IsQuiet
quiet_passes G c r q = none (record { this = q.1; that = q.2; sends = q.0 })

passes_back : (G : Brought) (c : Connection) (r : Connection × List Output) → PassesBy G (turned c) r → PassesBy G c (turned r.0, r.1)
passes_back G c r (none p) = none (record { this = p.that; that = p.this; sends = p.sends })
passes_back G c r (on_this units p) = on_other units p
passes_back G c r (on_other units p) = on_this units p

pub other_meets : (s t : Stage) → Meets connected s → Meets s t → Meets connected t
other_meets connected connected m n = tt
other_meets connected _ m n = absurd n
other_meets _ t m n = absurd m

-- where a section is up, or a user's end ready, data may pass
up_meets : (s : SectionState) → s ≡ Up → Meets connected (section_stage s)
up_meets s up = rw up tt

ready_meets : (s : UserState) → s ≡ user.Ready → Meets connected (user_stage s)
ready_meets s ready = rw ready tt

-- A unit comes in at a section.

gives_unit : (G : Brought) (ticks : Ticks) (x : Section) (done that : End) (u : DataUnit) → x.head.state ≡ Up → G (wire x) (u ∷ []) → got_at done ≡ x.windows.got ++ u ∷ [] → Meets connected (stage_at that)
    → PassesBy G (both (wire x) that) (settles ticks (done, gives_then [] (handed u ∷ [])) that)
unfolding exchange Passes
gives_unit G ticks x done that u up g got m =
    let p = unit_passes ticks u that done m in on_this (u ∷ []) (record { brought = g; is_open = up; comes = p.1 ∙ got; stays = inl p.0; sends = p.2 })

unfoldable HearsPass : Brought → Ticks → Section → Timers → End → Section × Acted → Type 0
HearsPass G ticks x t that done = PassesBy G (both (wire x) that) (settles ticks (timed ticks (record x { timers = t }) done) that)

nothing_passes : (G : Brought) (ticks : Ticks) (x : Section) (t : Timers) (that : End) → HearsPass G ticks x t that (record x { timers = t }, no_effect)
unfolding HearsPass ActsQuiet AreOther
nothing_passes G ticks x t that =
    quiet_passes G (both (wire x) that) _ (settles_quiet ticks (wire x) that (timed ticks (record x { timers = t }) (record x { timers = t }, no_effect)) (none_quiet, tt, inl refl))

line_rests : (G : Brought) (ticks : Ticks) (x : Section) (t : Timers) (that : End) → HearsPass G ticks x t that (by_line (λ l. (l, no_effect)) (record x { timers = t }))
unfolding HearsPass ActsQuiet AreOther
line_rests G ticks x t that =
    quiet_passes G (both (wire x) that) _
    (settles_quiet ticks (wire x) that (timed ticks (record x { timers = t }) (by_line (λ l. (l, no_effect)) (record x { timers = t })))
    (none_quiet, tt, inl (state_kept (record x { timers = t }) (line_in x) refl)))

unfoldable WindowsPass : Brought → Ticks → Section → Timers → End → Windowed × Acted → Type 0
WindowsPass G ticks x t that r = HearsPass G ticks x t that (by_windows (λ w. r) (record x { timers = t }))

abbrev pub unit_in_message : Parameters → DataUnit
unit_in_message m = record { more = m.more; body = m.data_octets }

resets_pass : (G : Brought) (ticks : Ticks) (x : Section) (t : Timers) (that : End) (cause : ℕ) → WindowsPass G ticks x t that (resets cause (record { head = x.head; windows = x.windows }))
unfolding WindowsPass HearsPass
resets_pass G ticks x t that cause =
    quiet_passes G (both (wire x) that) _ (settles_quiet ticks (wire x) that _ (resets_quiet cause (record { head = x.head; windows = x.windows })))

numbered_passes : (G : Brought) (ticks : Ticks) (m : Parameters) (x : Section) (t : Timers) (that : End) → x.head.state ≡ Up → G (wire x) (unit_in_message m ∷ []) → Meets connected (stage_at that)
    → WindowsPass G ticks x t that (takes_data m (record { head = x.head; windows = x.windows }))
unfolding WindowsPass HearsPass
numbered_passes G ticks m x t that up g meets =
    let w : Windowed = record { head = x.head; windows = x.windows } in
    either (WindowsPass G ticks x t that) (not (is_next m w)) _ _ (λ _. resets_pass G ticks x t that (wrong_number x.windows))
    (λ _. either (WindowsPass G ticks x t that) (is_used_up w) _ _ (λ _. resets_pass G ticks x t that RESET_OUT_OF_WINDOW)
    (λ _. either (WindowsPass G ticks x t that) (not (is_valid m.pr x.windows)) _ _ (λ _. resets_pass G ticks x t that RESET_INCORRECT_RECEIVE_NUMBER)
    (λ _. gives_unit G ticks x _ that (unit_in_message m) up g refl meets)))

section_hears_passes : (c : Cell) (o : Occasion) (G : Brought) (ticks : Ticks) (point : ℕ) (m : Parameters) (x : Section) (t : Timers) (that : End)
    → IsCellOf c o x.head.state → AreInStep (wire x) that → (carries o ≡ true → G (wire x) (unit_in_message m ∷ []))
    → PassesBy G (both (wire x) that) (settles ticks (section_hears ticks c point m (record x { timers = t })) that)
unfolding section_hears line_hears windowed_hears HearsPass WindowsPass
section_hears_passes cell.TakeData o G ticks point m x t that is k brought =
    either (HearsPass G ticks x t that) (x.head.class == 3) _ _ (λ _. nothing_passes G ticks x t that)
    (λ _. let u = unit_in_message m in
    gives_unit G ticks x _ that u is.1 (brought (data_carried o is.0)) (state_kept (record x { timers = t }) (record (line_in x) { got = x.windows.got ++ u ∷ [] }) refl)
    (other_meets (section_stage x.head.state) (stage_at that) (up_meets x.head.state is.1) k.0))
section_hears_passes cell.TakeNumberedData o G ticks point m x t that is k brought =
    either (HearsPass G ticks x t that) (x.head.class == 3) _ _
    (λ _. numbered_passes G ticks m x t that is.1 (brought (data_carried o is.0)) (other_meets (section_stage x.head.state) (stage_at that) (up_meets x.head.state is.1) k.0))
    (λ _. line_rests G ticks x t that)
section_hears_passes c o G ticks point m x t that is k brought =
    quiet_passes G (both (wire x) that) _ (settles_quiet ticks (wire x) that _ (section_hears_quiet ticks c point m (record x { timers = t }) tt))

-- what the checks answer
abbrev IsQuietAnswer : Option Output → Type 0
IsQuietAnswer None = Unit {0}
IsQuietAnswer (Some out) = IsQuiet (out ∷ [])

checked_quiet : (o : Occasion) (m : Parameters) (x : SectionHead) → IsQuietAnswer (checked o m x)
unfolding IsQuiet dt1_among spelling_of octets_of
checked_quiet o m x =
    either IsQuietAnswer (names_both o && names_another m x) _ _ (λ _. refl)
    (λ _. either IsQuietAnswer (ends_both o && names_another m x) _ _ (λ _. refl)
    (λ _. either IsQuietAnswer (is_of_other_class o x) _ _ (λ _. refl) (λ _. tt)))

checked_passes : (c : Option Output) (o : Occasion) (G : Brought) (ticks : Ticks) (point : ℕ) (m : Parameters) (x : Section) (that : End)
    → IsQuietAnswer c → AreInStep (wire x) that → (carries o ≡ true → G (wire x) (unit_in_message m ∷ []))
    → PassesBy G (both (wire x) that) (settles ticks (hears_checked ticks o point m (in_touch ticks x) c) that)
unfolding ActsQuiet AreOther
checked_passes (Some out) o G ticks point m x that q k brought = quiet_passes G (both (wire x) that) _ (settles_quiet ticks (wire x) that _ (q, tt, inl refl))
checked_passes None o G ticks point m x that q k brought =
    section_hears_passes (section_cell x.head.state o) o G ticks point m x (in_touch ticks x).timers that (cell_of o x.head.state) k brought

lost_quiet : (out : Output) → IsQuiet (out ∷ []) → (c : Connection) → Quiet c (c, out ∷ [])
unfolding Quiet
lost_quiet out q c = (q, inl refl, inl refl)

hears_passes : (o : Occasion) (G : Brought) (ticks : Ticks) (point : ℕ) (m : Parameters) (x : Section) (that : End)
    → AreInStep (wire x) that → (carries o ≡ true → G (wire x) (unit_in_message m ∷ []))
    → PassesBy G (both (wire x) that) (hears_message ticks o point m x that)
unfolding hears_message IsQuiet dt1_among
hears_passes o G ticks point m x that k brought =
    either (PassesBy G (both (wire x) that)) (is_from_elsewhere point x.head) _ _
    (λ _. quiet_passes G (both (wire x) that) _ (lost_quiet _ refl (both (wire x) that)))
    (λ _. checked_passes (checked o m x.head) o G ticks point m x that (checked_quiet o m x.head) k brought)

-- A part of a step on the end that an event names.

at_this_passes : (G : Brought) (reference : ℕ) (part : Section → End → Connection × List Output)
    → ((x : Section) (that : End) → AreInStep (wire x) that → is_named reference (wire x) ≡ true → PassesBy G (both (wire x) that) (part x that)) → (this that : End) → AreInStep this that → is_named reference this ≡ true
    → PassesBy G (both this that) (at_this part (both this that))
at_this_passes G reference part passes (wire x) that k n = passes x that k n
at_this_passes G reference part passes (owner u) that k n = quiet_passes G (both (owner u) that) _ (quiet_nowhere (both (owner u) that))

at_reference_passes : (G : Brought) (reference : ℕ) (part : Section → End → Connection × List Output)
    → ((x : Section) (that : End) → AreInStep (wire x) that → is_named reference (wire x) ≡ true → PassesBy G (both (wire x) that) (part x that))
    → (c : Connection) → IsInStep c → names (Some reference) c ≡ true → PassesBy G c (at_reference reference part c)
at_reference_passes G reference part passes c k n =
    either (PassesBy G c) (is_named reference c.this) _ _
    (λ is. at_this_passes G reference part passes c.this c.that k is)
    (λ no. passes_back G c (at_this part (turned c))
    (at_this_passes G reference part passes c.that c.this (kept_back c k) (other_named (is_named reference c.this) (is_named reference c.that) n no)))

pub second_true : (a b : Bool) → (a && b) ≡ true → b ≡ true
second_true true b e = e
second_true false b e = absurd (false≢true e)

pub first_true : (a b : Bool) → (a && b) ≡ true → a ≡ true
first_true true b e = refl
first_true false b e = absurd (false≢true e)

unit_brought : (bytes : List ℕ) (a : Arrival) (x : Section) → Some a ≡ arrival_in bytes → is_named a.parameters.dlr (wire x) ≡ true → carries a.occasion ≡ true
    → unit_in_message a.parameters ∷ [] ≡ units_for x.head.mine bytes
unfolding units_for
unit_brought bytes a x e named is =
    rw (← e, is, eq-eqb a.parameters.dlr x.head.mine (sym (eqb-true x.head.mine a.parameters.dlr (first_true (x.head.mine == a.parameters.dlr) _ named)))) refl

heard_passes : (point sls : ℕ) (bytes : List ℕ) (ticks : Ticks) (a : Option Arrival) → a ≡ arrival_in bytes → (c : Connection) → IsInStep c → names (destination_of a) c ≡ true
    → PassesBy (Brings (Arrived point sls bytes)) c (heard_by ticks point a c)
heard_passes point sls bytes ticks None e c k n = quiet_passes (Brings (Arrived point sls bytes)) c _ (quiet_nowhere c)
heard_passes point sls bytes ticks (Some a) e c k n =
    at_reference_passes (Brings (Arrived point sls bytes)) a.parameters.dlr (hears_message ticks a.occasion point a.parameters)
    (λ x that k named. hears_passes a.occasion (Brings (Arrived point sls bytes)) ticks point a.parameters x that k (λ is. unit_brought bytes a x e named is)) c k n

-- A request.

once_joined : (is_numbered : Bool) (f : DataUnit → Output) (u : DataUnit) (units : List DataUnit)
    → (if is_numbered then [] else map f (u ∷ [])) ++ (if is_numbered then [] else map f units) ≡ (if is_numbered then [] else map f (u ∷ units))
once_joined true f u units = refl
once_joined false f u units = refl

same_once : (e f : End) (units : List DataUnit) → SameHead e f → at_once f units ≡ at_once e units
same_once (wire x) (wire y) units same = rw same refl
same_once (owner u) (owner v) units same = refl
same_once (wire x) (owner v) units same = absurd same
same_once (owner u) (wire y) units same = absurd same

same_meets : (x : Section) (f : End) → SameHead (wire x) f → Meets connected (section_stage x.head.state) → Meets connected (stage_at f)
same_meets x (wire y) same m = rw same m
same_meets x (owner v) same m = absurd same

same_then : (x : Section) (f g : End) → SameHead (wire x) f → SameHead f g → SameHead (wire x) g
same_then x (wire y) (wire z) a b = b ∙ a
same_then x (wire y) (owner v) a b = absurd b
same_then x (owner u) g a b = absurd a

text_passes : (ticks : Ticks) (x : Section) → Meets connected (section_stage x.head.state) → (units : List DataUnit) (r : Connection × List Output) → SameHead (wire x) r.0.that
    → (let s = fold (other_takes (exchange 1 ticks) ticks) r (map handed units) in
    (got_at s.0.this ≡ got_at r.0.this) × (got_at s.0.that ≡ got_at r.0.that) × (dt1_among s.1 ≡ dt1_among r.1 ++ passed_on x.head units))
unfolding Passes
text_passes ticks x m [] r same = (refl, refl, no_more (x.head.class == 3) (dt1_among r.1))
  where
    no_more : (b : Bool) (outs : List Output) → outs ≡ outs ++ (if b then [] else [])
    no_more true outs = sym (append-nil outs)
    no_more false outs = sym (append-nil outs)
text_passes ticks x m (u ∷ units) r same =
    let p = unit_passes ticks u r.0.that r.0.this (same_meets x r.0.that same m) in
    let d = exchange 1 ticks (end_takes ticks (handed u) r.0.that) r.0.this in
    let r' = other_takes (exchange 1 ticks) ticks r (handed u) in
    let rest = text_passes ticks x m units r' (same_then x r.0.that r'.0.that same p.3) in
    let both_sent : dt1_among (r.1 ++ d.1) ++ passed_on x.head units ≡ dt1_among r.1 ++ passed_on x.head (u ∷ units) =
    rw (dt1_joined r.1 d.1, p.2, same_once (wire x) r.0.that (u ∷ []) same)
    (append_assoc (dt1_among r.1) (passed_on x.head (u ∷ [])) (passed_on x.head units)
    ∙ ap (λ (outs : List Output). dt1_among r.1 ++ outs) (once_joined (x.head.class == 3) (λ u. sent_on x.head (dt1_of x.head u)) u units)) in
    (rest.0 ∙ p.1, rest.1 ∙ p.0, rest.2 ∙ both_sent)

sends_text : (ticks : Ticks) (ssn mine : ℕ) (body : List ℕ) (u : User) (x : Section) → u.state ≡ user.Ready → Meets connected (section_stage x.head.state)
    → PassesBy (Brings (Requested ssn (request.Send mine body))) (both (owner u) (wire x))
    (settles ticks (owner (record u { got = u.got ++ units_of body }), gives_then [] (map handed (units_of body))) (wire x))
unfolding exchange dt1_among
sends_text ticks ssn mine body u x up m =
    let t = text_passes ticks x m (units_of body) (both (owner (record u { got = u.got ++ units_of body })) (wire x), []) refl in
    on_this (units_of body) (record { brought = refl; is_open = up; comes = t.0; stays = inl t.1; sends = t.2 })

user_asks_passes : (c : Cell) (o : UserOccasion) (r : Request) (ssn : ℕ) (ticks : Ticks) (u : User) (x : Section) → IsUserCellOf c o u.state → AreInStep (owner u) (wire x)
    → PassesBy (Brings (Requested ssn r)) (both (owner u) (wire x)) (settles ticks (let done = user_asks c r u in (owner done.0, done.1)) (wire x))
unfolding user_asks ActsQuiet AreOther
user_asks_passes cell.UserSends o (request.Send mine body) ssn ticks u x is k = sends_text ticks ssn mine body u x is (other_meets (user_stage u.state) (section_stage x.head.state) (ready_meets u.state is) k.0)
user_asks_passes cell.UserSends o r ssn ticks u x is k = quiet_passes (Brings (Requested ssn r)) (both (owner u) (wire x)) _ (settles_quiet ticks (owner u) (wire x) _ (none_quiet, tt, inl refl))
user_asks_passes c o r ssn ticks u x is k = quiet_passes (Brings (Requested ssn r)) (both (owner u) (wire x)) _ (settles_quiet ticks (owner u) (wire x) _ (user_asks_quiet c r u tt))

asks_unless_passes : (why : Option Reason) (ticks : Ticks) (ssn : ℕ) (r : Request) (u : User) (x : Section) → AreInStep (owner u) (wire x)
    → PassesBy (Brings (Requested ssn r)) (both (owner u) (wire x)) (asks_unless why ticks r u x)
unfolding IsQuiet dt1_among
asks_unless_passes (Some why) ticks ssn r u x k = quiet_passes (Brings (Requested ssn r)) (both (owner u) (wire x)) _ (lost_quiet _ refl (both (owner u) (wire x)))
asks_unless_passes None ticks ssn r u x k = user_asks_passes (asking_cell u.state r) (as_asked r) r ssn ticks u x (asking_cell_of r u.state) k

asks_pass : (ticks : Ticks) (ssn : ℕ) (r : Request) (this that : End) → AreInStep this that → PassesBy (Brings (Requested ssn r)) (both this that) (asks ticks ssn r this that)
unfolding asks IsQuiet dt1_among
asks_pass ticks ssn r (owner u) (wire x) k =
    either (PassesBy (Brings (Requested ssn r)) (both (owner u) (wire x))) (u.ssn == ssn) _ _
    (λ _. asks_unless_passes (reason_against r u x) ticks ssn r u x k) (λ _. quiet_passes (Brings (Requested ssn r)) (both (owner u) (wire x)) _ (lost_quiet _ refl (both (owner u) (wire x))))
asks_pass ticks ssn r (owner u) (owner v) k = quiet_passes (Brings (Requested ssn r)) (both (owner u) (owner v)) _ (lost_quiet _ refl (both (owner u) (owner v)))
asks_pass ticks ssn r (wire x) that k = quiet_passes (Brings (Requested ssn r)) (both (wire x) that) _ (lost_quiet _ refl (both (wire x) that))

asked_passes : (ticks : Ticks) (ssn : ℕ) (r : Request) (this that : End) → AreInStep this that → PassesBy (Brings (Requested ssn r)) (both this that) (asked_by ticks ssn r (both this that))
asked_passes ticks ssn r (owner u) that k = asks_pass ticks ssn r (owner u) that k
asked_passes ticks ssn r (wire x) that k =
    passes_back (Brings (Requested ssn r)) (both (wire x) that) (asks ticks ssn r that (wire x)) (asks_pass ticks ssn r that (wire x) (kept_back (both (wire x) that) k))

-- A tick.

fires_at_quiet : (ticks : Ticks) (timer : Timer) (this that : End) → Quiet (both this that) (fires_at ticks timer this that)
fires_at_quiet ticks timer (wire x) that =
    settles_quiet ticks (wire x) that _ (section_fires_quiet ticks (section_cell x.head.state (firing timer)) (record x { timers = rearmed ticks timer x.timers }))
fires_at_quiet ticks timer (owner u) that = quiet_nowhere (both (owner u) that)

fires_quiet : (ticks : Ticks) (timer : Timer) (this that : End) → Quiet (both this that) (fires ticks timer this that)
fires_quiet ticks timer this that =
    either (Quiet (both this that)) (is_due_at timer this) _ _ (λ _. fires_at_quiet ticks timer this that) (λ _. quiet_nowhere (both this that))

fires_in_order : (ticks : Ticks) (timers : List Timer) (c : Connection) (r : Connection × List Output) → Quiet c r → Quiet c (fold (fires_next ticks) r timers)
fires_in_order ticks [] c r q = q
fires_in_order ticks (timer ∷ timers) c r q =
    fires_in_order ticks timers c (fires_next ticks r timer) (quiet_then c r (fires ticks timer r.0.this r.0.that) q (fires_quiet ticks timer r.0.this r.0.that))

fires_due_quiet : (ticks : Ticks) (c : Connection) → Quiet c (fires_due ticks c)
unfolding fires_due
fires_due_quiet ticks c = fires_in_order ticks firing_order c (c, []) (quiet_nowhere c)

ticked_got : (e : End) → got_at (ticked e) ≡ got_at e
ticked_got (wire x) = refl
ticked_got (owner u) = refl

ticked_quiet : (c : Connection) → Quiet c (both (ticked c.this) (ticked c.that), [])
unfolding Quiet
ticked_quiet c = (none_quiet, inl (ticked_got c.this), inl (ticked_got c.that))

ticks_quiet : (ticks : Ticks) (c : Connection) → Quiet c (ticks_by ticks c)
ticks_quiet ticks c =
    let begun = both (ticked c.this) (ticked c.that) in
    let one = fires_due ticks begun in
    let other = fires_due ticks (turned one.0) in
    quiet_then c one (turned other.0, other.1) (quiet_then c (begun, []) one (ticked_quiet c) (fires_due_quiet ticks begun))
    (quiet_back (turned one.0) other (fires_due_quiet ticks (turned one.0)))

event_passes : (ticks : Ticks) (c : Connection) (event : Event) → hears c event ≡ true → IsInStep c → PassesBy (Brings event) c (event_step ticks c event)
unfolding hears
event_passes ticks c (Arrived point sls bytes) h k = heard_passes point sls bytes ticks (arrival_in bytes) refl c k h
event_passes ticks c (Requested ssn r) h k = asked_passes ticks ssn r c.this c.that k
event_passes ticks c Tick h k = quiet_passes (Brings Tick) c (ticks_by ticks c) (ticks_quiet ticks c)

-- What follows the event sends no DT1, and by it nothing comes in.

numbered_quiet : (x : SectionHead) (ps pr : ℕ) (units : List DataUnit) → IsQuiet (numbered x ps pr units)
unfolding IsQuiet dt1_among spelling_of octets_of
numbered_quiet x ps pr [] = refl
numbered_quiet x ps pr (u ∷ units) = numbered_quiet x (suc ps) pr units

expedited_quiet : (b : Bool) (x : SectionHead) (body : List ℕ) → IsQuiet (if b then sent_on x (Ed x.other body) ∷ [] else [])
unfolding IsQuiet dt1_among spelling_of octets_of
expedited_quiet true x body = refl
expedited_quiet false x body = refl

left_other : (b : Bool) (units : ℕ) (is_expedited : Bool) → AreOther (if b then hand.Left units is_expedited ∷ [] else [])
unfolding AreOther
left_other true units is_expedited = (tt, tt)
left_other false units is_expedited = tt

-- an act that sends none
unfoldable SendsNone : Windowed × Acted → Type 0
SendsNone done = IsQuiet done.1.outs × AreOther (hands_of done.1)

leaves_none : (x : Windowed) → SendsNone (leaves x)
unfolding SendsNone leaves
leaves_none x =
    let w = x.windows in
    let is_expedited = is_some w.waiting && not w.unanswered in (
      quiet_joined (numbered x.head w.sent w.passed (take (may_leave w) w.waits)) _ (numbered_quiet x.head w.sent w.passed (take (may_leave w) w.waits)) (expedited_quiet is_expedited x.head (unwrap_or w.waiting [])),
      left_other (is_expedited || nat_lt 0 (may_leave w)) (may_leave w) is_expedited,
    )

acknowledges_none : (x : Windowed) → SendsNone (acknowledges x)
unfolding SendsNone acknowledges IsQuiet AreOther dt1_among spelling_of octets_of
acknowledges_none x = either SendsNone (x.windows.passed == x.windows.told) _ _ (λ _. (refl, tt)) (λ _. (refl, tt))

on_windows_none : (ticks : Ticks) (act : Windowed → Windowed × Acted) → ((x : Windowed) → SendsNone (act x)) → (this that : End) → IsQuiet (on_windows ticks act this that).1
unfolding SendsNone Exchanges Quiet
on_windows_none ticks act sends (wire x) that =
    either (λ (r : Connection × List Output). IsQuiet r.1) (is_up x.head.state && x.head.class == 3) _ _
    (λ _. let s = sends (record { head = x.head; windows = x.windows }) in (exchange_quiet 2 ticks (timed ticks x (by_windows act x)) that s.0 s.1).0) (λ _. none_quiet)
on_windows_none ticks act sends (owner u) that = none_quiet

after_sends : (ticks : Ticks) (r : Connection × List Output) → dt1_among (after_event ticks r).1 ≡ dt1_among r.1
unfolding after_event IsQuiet
after_sends ticks r =
    let d = this_left ticks r.0 in
    let e = this_left ticks (turned d) in
    let f = (on_windows ticks acknowledges e.that e.this).0 in
    let one = on_windows_none ticks leaves leaves_none r.0.this r.0.that in
    let two = on_windows_none ticks leaves leaves_none d.that d.this in
    let three = on_windows_none ticks acknowledges acknowledges_none e.that e.this in
    let four = on_windows_none ticks acknowledges acknowledges_none f.that f.this in
    rest_joined r.1 _ _ _ _ one two three four
  where
    rest_joined : (a b c d e : List Output) → dt1_among b ≡ [] → dt1_among c ≡ [] → dt1_among d ≡ [] → dt1_among e ≡ [] → dt1_among ((((a ++ b) ++ c) ++ d) ++ e) ≡ dt1_among a
    rest_joined a b c d e p q s t =
        rw (dt1_joined (((a ++ b) ++ c) ++ d) e, dt1_joined ((a ++ b) ++ c) d, dt1_joined (a ++ b) c, dt1_joined a b, p, q, s, t, append-nil (dt1_among a), append-nil (dt1_among a), append-nil (dt1_among a), append-nil (dt1_among a)) refl

stays_after : (before acted after : End) → got_at after ≡ got_at acted → StaysOrClears before acted → StaysOrClears before after
stays_after before acted after same k = rw same k

passes_after : (G : Brought) (c : Connection) (r s : Connection × List Output) → got_at s.0.this ≡ got_at r.0.this → got_at s.0.that ≡ got_at r.0.that → dt1_among s.1 ≡ dt1_among r.1
    → PassesBy G c r → PassesBy G c s
passes_after G c r s this that sends (none p) =
    none (record { this = stays_after c.this r.0.this s.0.this this p.this; that = stays_after c.that r.0.that s.0.that that p.that; sends = sends ∙ p.sends })
passes_after G c r s this that sends (on_this units p) =
    on_this units (record { brought = p.brought; is_open = p.is_open; comes = this ∙ p.comes; stays = stays_after c.that r.0.that s.0.that that p.stays; sends = sends ∙ p.sends })
passes_after G c r s this that sends (on_other units p) =
    on_other units (record { brought = p.brought; is_open = p.is_open; comes = that ∙ p.comes; stays = stays_after c.this r.0.this s.0.this this p.stays; sends = sends ∙ p.sends })

pub units_pass : UnitsPass
unfolding connection_step
units_pass ticks c event h k =
    let r = event_step ticks c event in
    let left = after_leaving ticks r in
    passes_after (Brings event) c r (after_event ticks r) left.0.got left.1.got (after_sends ticks r) (event_passes ticks c event h k)
