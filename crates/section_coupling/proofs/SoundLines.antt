-- What a section's line hands over, and the credit that it has then.
use Rattle.std.proofs.Common.{◌≡◌, ℕ, ◌==◌, ◌&&◌, not, Bool, true, false, List, [], ◌∷◌, if◌then◌else◌, refl, sym, subst, ◌∙◌, arith}
use Rattle.std.proofs.lemmas.Bool.{eqb-false, false≢true}
use Rattle.std.specs.Prelude.{Option, Some, None, max}
use Rattle.std.proofs.Math.Nat.{min-le_right}
use Rattle.relay_base.specs.declared.causes.TheConstants.{ERROR_CLASS_MISMATCH, REFUSAL_UNQUALIFIED, RELEASE_INCONSISTENT_DATA, RELEASE_UNQUALIFIED}
use Rattle.section_model.specs.declared.cell.Cell.{Cell}
use Rattle.section_model.specs.declared.cell.Cell.TheVariants as cell
use Rattle.section_model.specs.declared.hand.Hand.{Hand}
use Rattle.section_model.specs.declared.hand.Hand.TheVariants as hand
use Rattle.section_model.specs.declared.hand.Acted.{Acted}
use Rattle.section_model.specs.declared.hand.Came.{Came}
use Rattle.section_model.specs.Acting.{is_by_class}
use Rattle.section_model.specs.declared.input.Input.{Input}
use Rattle.section_model.specs.declared.input.Input.TheVariants as input
use Rattle.relay_base.specs.declared.words.Event.{Event}
use Rattle.relay_base.specs.declared.words.Event.TheVariants.{Message as Arrived, Asked as Requested, Tick}
use Rattle.section_model.specs.Parameters.{Parameters, Arrival, arrival_in}
use Rattle.relay_base.specs.declared.words.Output.{Output}
use Rattle.section_model.specs.declared.cell.SectionState.{SectionState}
use Rattle.section_model.specs.declared.cell.SectionState.TheVariants.{Up, Gone}
use Rattle.section_model.specs.Ends.{Line, no_effect, gives_then, is_up, is_connected}
use Rattle.section_model.specs.Line.{granted, agreed, reached, released, in_state, line_hears, line_fires, line_takes, confirms, hears_error, hears_test, passes_accept, passes_refuse, passes_end, keeps_end, passes_unit, counts_passed}
use Rattle.section_model.specs.Views.{section_of}
use Rattle.section_model.specs.declared.wire.WireHead.{WireHead}
use Rattle.section_model.specs.Ends.{cleared}
use Rattle.section_model.specs.Lengths.{WindowsWithin}
use Rattle.section_class2.specs.declared.line.Line.{Line as CodeLine}
use Rattle.section_class2.specs.Lines.{line_of, line_hears_arrival, line_hears_event, line_acts}
use Rattle.section_class3.specs.Windows.{WindowsState}
use Rattle.section_coupling.specs.Sound.{IsCredit, IsGranted, AreGranted, IsGrantedInput, came_in}
use Rattle.section_coupling.specs.Inner.Acts.{SetsUpOnce, is_set_up, windows_begun, came_begun}

-- an act of a line in a state, with a credit and a class that change only where the section is set up
pub record GrantedLine (s : SectionState) (credit class : ℕ) (r : Line × Acted) : Type 0 where
  pub has : IsCredit r.0.head.credit
  pub stays : (is_up r.0.head.state && not (is_connected s)) ≡ false → (r.0.head.credit ≡ credit) × (r.0.head.class ≡ class)
  pub first : AreGranted r.1.first
  pub then_ : AreGranted r.1.then

either : (s : SectionState) (credit class : ℕ) (b : Bool) (r t : Line × Acted) → GrantedLine s credit class r → GrantedLine s credit class t → GrantedLine s credit class (if b then r else t)
either s credit class true r t f g = f
either s credit class false r t f g = g

-- the credit stays
keeps : (s : SectionState) (x : Line) (acted : Acted) → IsCredit x.head.credit → AreGranted acted.first → AreGranted acted.then → GrantedLine s x.head.credit x.head.class (x, acted)
keeps s x acted h f g = record { has = h; stays = λ e. (refl, refl); first = f; then_ = g }

ends : (s : SectionState) (x : Line) (outs : List Output) (cause : ℕ) → IsCredit x.head.credit → GrantedLine s x.head.credit x.head.class (x, gives_then outs (hand.End cause None None ∷ []))
ends s x outs cause h = record { has = h; stays = λ e. (refl, refl); first = tt; then_ = (tt, tt) }

refuses : (s : SectionState) (x : Line) (outs : List Output) → IsCredit x.head.credit → GrantedLine s x.head.credit x.head.class (x, gives_then outs (hand.Refuse REFUSAL_UNQUALIFIED None None None ∷ []))
refuses s x outs h = record { has = h; stays = λ e. (refl, refl); first = tt; then_ = (tt, tt) }

-- the section is set up
set-up : (s : SectionState) → is_connected s ≡ false → not (is_connected s) ≡ false → ⊥
set-up s e f = absurd (cc)

opens : (s : SectionState) (was old : ℕ) (x : Line) (class credit : ℕ) (called body : Option (List ℕ)) (importance : Option ℕ) → is_connected s ≡ false → IsCredit credit
    → GrantedLine s was old (record x { head = record x.head { state = Up; class = class; credit = credit } }, gives_then [] (hand.Accept class credit called body importance ∷ []))
opens s was old x class credit called body importance n h = record { has = h; stays = λ e. absurd (set-up s n e); first = tt; then_ = (h, tt) }

pub granted-most : (credit most : ℕ) → IsCredit most → IsCredit (granted credit most)
granted-most credit most h = omega (arith, h, min-le_right (max credit 1) most)

pub agreed-credit : (b : Bool) (credit most : ℕ) → IsCredit most → IsCredit (if b then granted credit most else 0)
agreed-credit true credit most h = granted-most credit most h
agreed-credit false credit most h = omega arith

confirmed-granted : (point : ℕ) (m : Parameters) (x : Line) → IsCredit x.head.credit → is_connected x.head.state ≡ false → GrantedLine x.head.state x.head.credit x.head.class (confirms point m x)
confirmed-granted point m x h n =
    let credit : IsCredit (agreed x.head m) = agreed-credit (m.class == 3) _ x.head.credit h in
    either x.head.state x.head.credit x.head.class _ _ _
    (opens x.head.state x.head.credit x.head.class (reached point m.slr x) m.class (agreed x.head m) _ _ _ n credit)
    (refuses x.head.state (released RELEASE_INCONSISTENT_DATA None None (reached point m.slr x)) _ h)

failed-granted : (m : Parameters) (x : Line) → IsCredit x.head.credit → GrantedLine x.head.state x.head.credit x.head.class (hears_error m x)
failed-granted m x h = either x.head.state x.head.credit x.head.class _ _ _ (ends x.head.state (released RELEASE_UNQUALIFIED None None x) _ RELEASE_UNQUALIFIED h) (ends x.head.state (in_state Gone x) [] RELEASE_UNQUALIFIED h)

tested-granted : (m : Parameters) (x : Line) → IsCredit x.head.credit → GrantedLine x.head.state x.head.credit x.head.class (hears_test m x)
tested-granted m x h = either x.head.state x.head.credit x.head.class _ _ _ (keeps x.head.state x no_effect h tt tt) (ends x.head.state (released RELEASE_INCONSISTENT_DATA None None x) _ RELEASE_INCONSISTENT_DATA h)

hears-granted : (c : Cell) (point : ℕ) (m : Parameters) (x : Line) → IsCredit x.head.credit → SetsUpOnce c x.head.state → GrantedLine x.head.state x.head.credit x.head.class (line_hears c point m x)
unfolding line_hears
hears-granted cell.Confirm point m x h n = confirmed-granted point m x h n
hears-granted cell.ConfirmLate point m x h n = record { has = h; stays = λ e. (refl, refl); first = tt; then_ = tt }
hears-granted cell.Refused point m x h n = record { has = h; stays = λ e. (refl, refl); first = tt; then_ = (tt, tt) }
hears-granted cell.Free point m x h n = record { has = h; stays = λ e. (refl, refl); first = tt; then_ = tt }
hears-granted cell.Released point m x h n = record { has = h; stays = λ e. (refl, refl); first = tt; then_ = (tt, tt) }
hears-granted cell.ReleaseCollision point m x h n = record { has = h; stays = λ e. (refl, refl); first = tt; then_ = tt }
hears-granted cell.TakeData point m x h n = record { has = h; stays = λ e. (refl, refl); first = tt; then_ = (tt, tt) }
hears-granted cell.ErrorReceived point m x h n = failed-granted m x h
hears-granted cell.TestReceived point m x h n = tested-granted m x h
hears-granted cell.Discard point m x h n = record { has = h; stays = λ e. (refl, refl); first = tt; then_ = tt }
hears-granted _ point m x h n = record { has = h; stays = λ e. (refl, refl); first = tt; then_ = tt }

fires-granted : (c : Cell) (x : Line) → IsCredit x.head.credit → GrantedLine x.head.state x.head.credit x.head.class (line_fires c x)
unfolding line_fires
fires-granted cell.NotAnswered x h = record { has = h; stays = λ e. (refl, refl); first = tt; then_ = (tt, tt) }
fires-granted cell.ResetExpired x h = record { has = h; stays = λ e. (refl, refl); first = tt; then_ = (tt, tt) }
fires-granted cell.PeerSilent x h = record { has = h; stays = λ e. (refl, refl); first = tt; then_ = (tt, tt) }
fires-granted cell.SendTest x h = record { has = h; stays = λ e. (refl, refl); first = tt; then_ = tt }
fires-granted cell.ReleaseUnanswered x h = record { has = h; stays = λ e. (refl, refl); first = tt; then_ = tt }
fires-granted cell.RepeatRelease x h = record { has = h; stays = λ e. (refl, refl); first = tt; then_ = tt }
fires-granted cell.Free x h = record { has = h; stays = λ e. (refl, refl); first = tt; then_ = tt }
fires-granted _ x h = record { has = h; stays = λ e. (refl, refl); first = tt; then_ = tt }

accepted-granted : (hand : Hand) (x : Line) → IsGranted hand → IsCredit x.head.credit → is_connected x.head.state ≡ false → GrantedLine x.head.state x.head.credit x.head.class (passes_accept hand x)
accepted-granted (hand.Accept class credit called body importance) x o h n = record { has = o; stays = λ e. absurd (set-up x.head.state n e); first = tt; then_ = tt }
accepted-granted _ x o h n = keeps x.head.state x no_effect h tt tt

refused-granted : (hand : Hand) (x : Line) → IsCredit x.head.credit → GrantedLine x.head.state x.head.credit x.head.class (passes_refuse hand x)
refused-granted (hand.Refuse cause called body importance) x h = record { has = h; stays = λ e. (refl, refl); first = tt; then_ = tt }
refused-granted _ x h = keeps x.head.state x no_effect h tt tt

ended-granted : (hand : Hand) (x : Line) → IsCredit x.head.credit → GrantedLine x.head.state x.head.credit x.head.class (passes_end hand x)
ended-granted (hand.End cause body importance) x h = record { has = h; stays = λ e. (refl, refl); first = tt; then_ = tt }
ended-granted _ x h = keeps x.head.state x no_effect h tt tt

ended_early-granted : (hand : Hand) (x : Line) → IsCredit x.head.credit → GrantedLine x.head.state x.head.credit x.head.class (keeps_end hand x)
ended_early-granted (hand.End cause body importance) x h = record { has = h; stays = λ e. (refl, refl); first = tt; then_ = tt }
ended_early-granted _ x h = keeps x.head.state x no_effect h tt tt

passed-granted : (hand : Hand) (x : Line) → IsCredit x.head.credit → GrantedLine x.head.state x.head.credit x.head.class (passes_unit hand x)
passed-granted (hand.Unit more body) x h = record { has = h; stays = λ e. (refl, refl); first = tt; then_ = (tt, tt) }
passed-granted _ x h = keeps x.head.state x no_effect h tt tt

counted-granted : (hand : Hand) (x : Line) → IsCredit x.head.credit → GrantedLine x.head.state x.head.credit x.head.class (counts_passed hand x)
counted-granted (hand.Left units expedited) x h = record { has = h; stays = λ e. (refl, refl); first = tt; then_ = tt }
counted-granted _ x h = keeps x.head.state x no_effect h tt tt

takes-granted : (c : Cell) (hand : Hand) (x : Line) → IsGranted hand → IsCredit x.head.credit → SetsUpOnce c x.head.state → GrantedLine x.head.state x.head.credit x.head.class (line_takes c hand x)
unfolding line_takes
takes-granted cell.PassAccept hand x o h n = accepted-granted hand x o h n
takes-granted cell.PassRefuse hand x o h n = refused-granted hand x h
takes-granted cell.PassEnd hand x o h n = ended-granted hand x h
takes-granted cell.KeepEnd hand x o h n = ended_early-granted hand x h
takes-granted cell.PassUnit hand x o h n = passed-granted hand x h
takes-granted cell.Left hand x o h n = counted-granted hand x h
takes-granted _ hand x o h n = keeps x.head.state x no_effect h tt tt

arrival-granted : (c : Cell) (point : ℕ) (a : Option Arrival) (x : Line) → IsCredit x.head.credit → SetsUpOnce c x.head.state → GrantedLine x.head.state x.head.credit x.head.class (line_hears_arrival c point a x)
arrival-granted c point None x h n = keeps x.head.state x no_effect h tt tt
arrival-granted c point (Some a) x h n = hears-granted c point a.parameters x h n

event-granted : (c : Cell) (e : Event) (x : Line) → IsCredit x.head.credit → SetsUpOnce c x.head.state → GrantedLine x.head.state x.head.credit x.head.class (line_hears_event c e x)
event-granted c (Arrived point sls bytes) x h n = arrival-granted c point (arrival_in bytes) x h n
event-granted c (Requested ssn r) x h n = keeps x.head.state x no_effect h tt tt
event-granted c Tick x h n = keeps x.head.state x no_effect h tt tt

pub line_acts_granted : (c : Cell) (i : Input) (x : Line) → IsGrantedInput i → IsCredit x.head.credit → SetsUpOnce c x.head.state → GrantedLine x.head.state x.head.credit x.head.class (line_acts c i x)
line_acts_granted c (input.Event event) x o h n = event-granted c event.now x h n
line_acts_granted c (input.Timer number) x o h n = fires-granted c x h
line_acts_granted c (input.Hand hand) x o h n = takes-granted c hand.now x o h n
line_acts_granted c input.Turn x o h n = keeps x.head.state x no_effect h tt tt

-- the code's line has acted
pub line_acted : (c : Cell) (i : Input) (h h' : WireHead) (l l' : CodeLine) (acted : Acted) → IsGrantedInput i → IsCredit h.credit → SetsUpOnce c (section_of h).state
    → line_acts c i (line_of h l) ≡ (line_of h' l', acted) → GrantedLine (section_of h).state h.credit h.class (line_of h' l', acted)
line_acted c i h h' l l' acted o k n e = subst (GrantedLine (section_of h).state h.credit h.class) e (line_acts_granted c i (line_of h l) o k n)

-- What came in stays as it is, but by the cells that the class decides.

abbrev SameCounts : Line → Line × Acted → Type 0
SameCounts x r = (r.0.got ≡ x.got) × (r.0.passed ≡ x.passed)

either_counts : (x : Line) (b : Bool) (r t : Line × Acted) → SameCounts x r → SameCounts x t → SameCounts x (if b then r else t)
either_counts x true r t f g = f
either_counts x false r t f g = g

hears-counts : (c : Cell) (point : ℕ) (m : Parameters) (x : Line) → is_by_class c ≡ false → SameCounts x (line_hears c point m x)
unfolding line_hears
hears-counts cell.Confirm point m x e = either_counts x _ _ _ (refl, refl) (refl, refl)
hears-counts cell.TakeData point m x e = absurd (false≢true (sym e))
hears-counts cell.ErrorReceived point m x e = either_counts x (m.cause == ERROR_CLASS_MISMATCH) _ _ (refl, refl) (refl, refl)
hears-counts cell.TestReceived point m x e = either_counts x _ _ _ (refl, refl) (refl, refl)
hears-counts _ point m x e = (refl, refl)

fires-counts : (c : Cell) (x : Line) → SameCounts x (line_fires c x)
unfolding line_fires
fires-counts cell.NotAnswered x = (refl, refl)
fires-counts _ x = (refl, refl)

takes-counts : (c : Cell) (hand : Hand) (x : Line) → is_by_class c ≡ false → SameCounts x (line_takes c hand x)
unfolding line_takes
takes-counts cell.PassAccept (hand.Accept class credit called body importance) x e = (refl, refl)
takes-counts cell.PassAccept _ x e = (refl, refl)
takes-counts cell.PassRefuse (hand.Refuse cause called body importance) x e = (refl, refl)
takes-counts cell.PassRefuse _ x e = (refl, refl)
takes-counts cell.PassEnd (hand.End cause body importance) x e = (refl, refl)
takes-counts cell.PassEnd _ x e = (refl, refl)
takes-counts cell.KeepEnd (hand.End cause body importance) x e = (refl, refl)
takes-counts cell.KeepEnd _ x e = (refl, refl)
takes-counts cell.PassUnit hand x e = absurd (false≢true (sym e))
takes-counts cell.Left hand x e = absurd (false≢true (sym e))
takes-counts _ hand x e = (refl, refl)

event-counts : (c : Cell) (e : Event) (x : Line) → is_by_class c ≡ false → SameCounts x (line_hears_event c e x)
event-counts c (Arrived point sls bytes) x e = by_arrival (arrival_in bytes)
  where
    by_arrival : (a : Option Arrival) → SameCounts x (line_hears_arrival c point a x)
    by_arrival None = (refl, refl)
    by_arrival (Some a) = hears-counts c point a.parameters x e
event-counts c (Requested ssn r) x e = (refl, refl)
event-counts c Tick x e = (refl, refl)

acts-counts : (c : Cell) (i : Input) (x : Line) → is_by_class c ≡ false → SameCounts x (line_acts c i x)
acts-counts c (input.Event event) x e = event-counts c event.now x e
acts-counts c (input.Timer number) x e = fires-counts c x
acts-counts c (input.Hand hand) x e = takes-counts c hand.now x e
acts-counts c input.Turn x e = (refl, refl)

not_by_class : (b : Bool) (class : ℕ) → (b && class == 3) ≡ false → class ≡ 3 → b ≡ false
not_by_class true class e three = absurd (eqb-false class 3 e three)
not_by_class false class e three = refl

-- in class 3 the line counts what the windows count, after its act too
pub same-counts : (c : Cell) (i : Input) (old : SectionState) (h h' : WireHead) (l l' begun : CodeLine) (w v : WindowsState) (acted : Acted)
    → (is_by_class c && h.class == 3) ≡ false → line_acts c i (line_of h l) ≡ (line_of h' l', acted)
    → begun.came.value ≡ came_begun old h' l'.came.value → v ≡ windows_begun old h' w
    → (is_set_up old h' ≡ false → h'.class ≡ h.class) → (h.class ≡ 3 → l.came.value ≡ came_in w.windows) → h'.class ≡ 3 → begun.came.value ≡ came_in v.windows
same-counts c i old h h' l l' begun w v acted other acts came windows stays same three = by_test (is_set_up old h') came windows stays
  where
    Counted : Came → WindowsState → Type 0
    Counted came v = came ≡ came_in v.windows

    came-same : (a b : Came) → a.got ≡ b.got → a.passed ≡ b.passed → a ≡ b
    came-same a b f g = subst (λ got. a ≡ record { got = got; passed = b.passed }) f (subst (λ passed. a ≡ record { got = a.got; passed = passed }) g refl)

    by_test : (b : Bool) → begun.came.value ≡ (if b then record { got = []; passed = 0 } else l'.came.value) → v ≡ (if b then record { agreed = h'.credit; windows = cleared h'.credit } else w)
        → (b ≡ false → h'.class ≡ h.class) → Counted begun.came.value v
    by_test true came windows stays = rw (came, windows) refl
    by_test false came windows stays =
        let was : h.class ≡ 3 = sym (stays refl) ∙ three in
        let e : is_by_class c ≡ false = not_by_class (is_by_class c) h.class other was in
        let counts : SameCounts (line_of h l) (line_of h' l', acted) = subst (SameCounts (line_of h l)) acts (acts-counts c i (line_of h l) e) in
        rw (came, windows) (came-same l'.came.value l.came.value counts.0 counts.1 ∙ same was)

-- the windows that begin, or stay
pub begun-or-same : (old : SectionState) (h : WireHead) (w v : WindowsState) → w ≡ windows_begun old h v → WindowsWithin v.windows
    → (is_set_up old h ≡ false → h.credit ≡ v.agreed) → WindowsWithin w.windows × (w.agreed ≡ h.credit)
begun-or-same old h w v e f g = by_test (is_set_up old h) e g
  where
    by_test : (b : Bool) → w ≡ (if b then record { agreed = h.credit; windows = cleared h.credit } else v) → (b ≡ false → h.credit ≡ v.agreed) → WindowsWithin w.windows × (w.agreed ≡ h.credit)
    by_test true same stays = subst (λ u. WindowsWithin u.windows × (u.agreed ≡ h.credit)) (sym same) ((tt, tt), refl)
    by_test false same stays = subst (λ u. WindowsWithin u.windows × (u.agreed ≡ h.credit)) (sym same) (f, sym (stays refl))
