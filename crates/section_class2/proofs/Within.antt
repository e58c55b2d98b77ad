-- What a section keeps and hands to the other end has the lengths of Q.713.
use Rattle.std.proofs.Common.{◌≡◌, ℕ, ◌==◌, ◌||◌, ◌&&◌, nat_le, [], ◌∷◌, Bool, true, false, List, if◌then◌else◌, Ok, Err, IfOk, refl, subst, sym}
use Rattle.std.specs.Prelude.{Option, Some, None, IfSome, OnErr}
use Rattle.std.specs.declared.result.Result.{Result}
use Rattle.relay_base.specs.declared.causes.TheConstants.{ERROR_CLASS_MISMATCH, REFUSAL_UNQUALIFIED, RELEASE_INCONSISTENT_DATA, RELEASE_UNQUALIFIED}
use Rattle.relay_base.specs.declared.errors.Memory.{Memory}
use Rattle.relay_base.specs.declared.words.Event.{Event}
use Rattle.relay_base.specs.declared.words.Event.TheVariants.{Message as Arrived}
use Rattle.section_model.specs.declared.cell.Cell.{Cell}
use Rattle.section_model.specs.declared.cell.Cell.TheVariants as cell
use Rattle.section_model.specs.declared.cell.Occasion.TheVariants as on
use Rattle.section_model.specs.declared.hand.Acted.{Acted}
use Rattle.section_model.specs.declared.hand.Hand.{Hand}
use Rattle.section_model.specs.declared.hand.Hand.TheVariants as hand
use Rattle.section_model.specs.declared.input.Input.{Input}
use Rattle.section_model.specs.declared.input.Input.TheVariants as input
use Rattle.section_model.specs.declared.wire.WireHead.{WireHead}
use Rattle.section_model.specs.Ends.{Line as SectionLine, no_effect, gives_then, only_cause}
use Rattle.section_model.specs.declared.cell.SectionState.TheVariants.{Up, Gone}
use Rattle.section_model.specs.Lengths.{IsDataOf, HandWithin, ActedWithin, KeptWithin, ArrivalWithin, InputWithin}
use Rattle.section_model.specs.Line.{line_hears, reached, agreed, released, rlsd, breaks, in_state, line_fires, line_takes, passes_accept, passes_refuse, passes_end, keeps_end, passes_unit, counts_passed}
use Rattle.section_model.specs.Parameters.{Parameters, Arrival, arrival_in}
use Rattle.section_model.proofs.ArriveWithin.{arrives_within}
use Rattle.section_class2.specs.declared.line.Line.{Line}
use Rattle.section_class2.specs.Lines.{line_of, IsDt1, TakesDataOfDt1, line_acts, line_hears_event, line_hears_arrival}

either : {A : Type 0} (P : A → Type 0) (test : Bool) (x y : A) → P x → P y → P (if test then x else y)
either P true x y h k = h
either P false x y h k = k

-- what is kept, and what is handed on
abbrev KeepsLengths : SectionLine × Acted → Type 0
KeepsLengths r = KeptWithin r.0.kept

abbrev Hands : SectionLine × Acted → Type 0
Hands r = ActedWithin r.1

-- the arms of the acts that test
abbrev is_agreed : Parameters → SectionLine → Bool
is_agreed m x = (m.class == 2 || m.class == 3) && nat_le m.class x.head.class

abbrev agrees : Parameters → SectionLine → SectionLine × Acted
agrees m x = (
  record x { head = record x.head { state = Up; class = m.class; credit = agreed x.head m } },
  gives_then [] (hand.Accept m.class (agreed x.head m) m.called m.body m.importance ∷ []),
)

abbrev disagrees : SectionLine → SectionLine × Acted
disagrees x = (
  released RELEASE_INCONSISTENT_DATA None None x,
  gives_then (rlsd x.head (only_cause RELEASE_INCONSISTENT_DATA) ∷ []) (hand.Refuse REFUSAL_UNQUALIFIED None None None ∷ []),
)

abbrev fails : SectionLine → SectionLine × Acted
fails x = (in_state Gone x, gives_then [] (hand.End RELEASE_UNQUALIFIED None None ∷ []))

abbrev is_same : Parameters → SectionLine → Bool
is_same m x = m.slr == x.head.other && m.class == x.head.class

-- upon a message
hears-keeps : (c : Cell) (point : ℕ) (m : Parameters) (x : SectionLine) → KeptWithin x.kept → KeepsLengths (line_hears c point m x)
unfolding line_hears
hears-keeps cell.Confirm point m x k =
    let y = reached point m.slr x in
    either KeepsLengths (is_agreed m y) (agrees m y) (disagrees y) k tt
hears-keeps cell.ConfirmLate point m x k = tt
hears-keeps cell.ErrorReceived point m x k = either KeepsLengths (m.cause == ERROR_CLASS_MISMATCH) (breaks RELEASE_UNQUALIFIED x) (fails x) tt k
hears-keeps cell.TestReceived point m x k = either KeepsLengths (is_same m x) (x, no_effect) (breaks RELEASE_INCONSISTENT_DATA x) k tt
hears-keeps _ point m x k = k

hears-hands : (c : Cell) (point : ℕ) (a : Arrival) (x : SectionLine) → ArrivalWithin a → (c ≡ cell.TakeData → a.occasion ≡ on.Dt1) → Hands (line_hears c point a.parameters x)
unfolding line_hears
hears-hands cell.Confirm point a x w dt1 =
    let y = reached point a.parameters.slr x in
    either Hands (is_agreed a.parameters y) (agrees a.parameters y) (disagrees y) (tt, ((w.0, w.1), tt)) (tt, ((tt, tt), tt))
hears-hands cell.Refused point a x w dt1 = (tt, ((w.0, w.1), tt))
hears-hands cell.Released point a x w dt1 = (tt, (w.1, tt))
hears-hands cell.TakeData point a x w dt1 = (tt, (subst (λ o. IsDataOf o a.parameters.data_octets) (dt1 refl) w.2, tt))
hears-hands cell.ErrorReceived point a x w dt1 = either Hands (a.parameters.cause == ERROR_CLASS_MISMATCH) (breaks RELEASE_UNQUALIFIED x) (fails x) (tt, (tt, tt)) (tt, (tt, tt))
hears-hands cell.TestReceived point a x w dt1 = either Hands (is_same a.parameters x) (x, no_effect) (breaks RELEASE_INCONSISTENT_DATA x) (tt, tt) (tt, (tt, tt))
hears-hands _ point a x w dt1 = (tt, tt)

arrives-hands : (c : Cell) (point : ℕ) (bytes : List ℕ) (arrived : Option Arrival) (x : SectionLine) → arrival_in bytes ≡ arrived → (c ≡ cell.TakeData → IfSome arrived (λ a. a.occasion ≡ on.Dt1)) → Hands (line_hears_arrival c point arrived x)
arrives-hands c point bytes None x e dt1 = (tt, tt)
arrives-hands c point bytes (Some a) x e dt1 = hears-hands c point a x (arrives_within bytes a e) dt1

-- when a timer fires
fires-keeps : (c : Cell) (x : SectionLine) → KeptWithin x.kept → KeepsLengths (line_fires c x)
unfolding line_fires
fires-keeps cell.ResetExpired x k = tt
fires-keeps cell.PeerSilent x k = tt
fires-keeps _ x k = k

fires-hands : (c : Cell) (x : SectionLine) → Hands (line_fires c x)
unfolding line_fires
fires-hands cell.NotAnswered x = (tt, ((tt, tt), tt))
fires-hands cell.ResetExpired x = (tt, (tt, tt))
fires-hands cell.PeerSilent x = (tt, (tt, tt))
fires-hands _ x = (tt, tt)

-- upon an effect of the other end
takes-keeps : (c : Cell) (h : Hand) (x : SectionLine) → KeptWithin x.kept → HandWithin h → KeepsLengths (line_takes c h x)
unfolding line_takes
takes-keeps cell.PassAccept h x k w = accepts h
  where
    accepts : (h : Hand) → KeepsLengths (passes_accept h x)
    accepts (hand.Accept class credit called body importance) = k
    accepts _ = k
takes-keeps cell.PassRefuse h x k w = refuses h
  where
    refuses : (h : Hand) → KeepsLengths (passes_refuse h x)
    refuses (hand.Refuse cause called body importance) = k
    refuses _ = k
takes-keeps cell.PassEnd h x k w = ends h w
  where
    ends : (h : Hand) → HandWithin h → KeepsLengths (passes_end h x)
    ends (hand.End cause body importance) w = w
    ends _ w = k
takes-keeps cell.KeepEnd h x k w = ends h
  where
    ends : (h : Hand) → KeepsLengths (keeps_end h x)
    ends (hand.End cause body importance) = tt
    ends _ = k
takes-keeps cell.PassUnit h x k w = passes h
  where
    passes : (h : Hand) → KeepsLengths (passes_unit h x)
    passes (hand.Unit more body) = k
    passes _ = k
takes-keeps cell.Left h x k w = counts h
  where
    counts : (h : Hand) → KeepsLengths (counts_passed h x)
    counts (hand.Left units expedited) = k
    counts _ = k
takes-keeps _ h x k w = k

takes-hands : (c : Cell) (h : Hand) (x : SectionLine) → Hands (line_takes c h x)
unfolding line_takes
takes-hands cell.PassAccept h x = accepts h
  where
    accepts : (h : Hand) → Hands (passes_accept h x)
    accepts (hand.Accept class credit called body importance) = (tt, tt)
    accepts _ = (tt, tt)
takes-hands cell.PassRefuse h x = refuses h
  where
    refuses : (h : Hand) → Hands (passes_refuse h x)
    refuses (hand.Refuse cause called body importance) = (tt, tt)
    refuses _ = (tt, tt)
takes-hands cell.PassEnd h x = ends h
  where
    ends : (h : Hand) → Hands (passes_end h x)
    ends (hand.End cause body importance) = (tt, tt)
    ends _ = (tt, tt)
takes-hands cell.KeepEnd h x = ends h
  where
    ends : (h : Hand) → Hands (keeps_end h x)
    ends (hand.End cause body importance) = (tt, tt)
    ends _ = (tt, tt)
takes-hands cell.PassUnit h x = passes h
  where
    passes : (h : Hand) → Hands (passes_unit h x)
    passes (hand.Unit more body) = (tt, (tt, tt))
    passes _ = (tt, tt)
takes-hands cell.Left h x = counts h
  where
    counts : (h : Hand) → Hands (counts_passed h x)
    counts (hand.Left units expedited) = (tt, tt)
    counts _ = (tt, tt)
takes-hands _ h x = (tt, tt)

-- upon an input
acts-keeps : (c : Cell) (i : Input) (x : SectionLine) → KeptWithin x.kept → InputWithin i → KeepsLengths (line_acts c i x)
acts-keeps c (input.Event event) x k w = by_event event.now
  where
    by_arrival : (point : ℕ) (arrived : Option Arrival) → KeepsLengths (line_hears_arrival c point arrived x)
    by_arrival point None = k
    by_arrival point (Some a) = hears-keeps c point a.parameters x k

    by_event : (event : Event) → KeepsLengths (line_hears_event c event x)
    by_event (Arrived point sls bytes) = by_arrival point (arrival_in bytes)
    by_event _ = k
acts-keeps c (input.Timer number) x k w = fires-keeps c x k
acts-keeps c (input.Hand h) x k w = takes-keeps c h.now x k w
acts-keeps c input.Turn x k w = k

acts-hands : (c : Cell) (i : Input) (x : SectionLine) → TakesDataOfDt1 c i → Hands (line_acts c i x)
acts-hands c (input.Event event) x dt1 = by_event event.now dt1
  where
    by_event : (event : Event) → (c ≡ cell.TakeData → IsDt1 event) → Hands (line_hears_event c event x)
    by_event (Arrived point sls bytes) dt1 = arrives-hands c point bytes (arrival_in bytes) x refl dt1
    by_event _ dt1 = (tt, tt)
acts-hands c (input.Timer number) x dt1 = fires-hands c x
acts-hands c (input.Hand h) x dt1 = takes-hands c h.now x
acts-hands c input.Turn x dt1 = (tt, tt)

-- what an act keeps, and what it hands on
pub keeps-after : (done : Result Acted Memory) (c : Cell) (i : Input) (wire wire' : WireHead) (line line' : Line) → KeptWithin line.kept → InputWithin i
    → IfOk done (λ acted. line_acts c i (line_of wire line) ≡ (line_of wire' line', acted)) → OnErr done ((wire' ≡ wire) × (line' ≡ line)) → KeptWithin line'.kept
keeps-after (Ok acted) c i wire wire' line line' k w ok err = subst KeepsLengths ok (acts-keeps c i (line_of wire line) k w)
keeps-after (Err memory) c i wire wire' line line' k w ok err = subst (λ (l : Line). KeptWithin l.kept) (sym err.1) k

pub hands-after : (done : Result Acted Memory) (c : Cell) (i : Input) (wire wire' : WireHead) (line line' : Line)
    → IfOk done (λ acted. line_acts c i (line_of wire line) ≡ (line_of wire' line', acted)) → TakesDataOfDt1 c i → IfOk done ActedWithin
hands-after (Ok acted) c i wire wire' line line' ok dt1 = subst Hands ok (acts-hands c i (line_of wire line) dt1)
hands-after (Err memory) c i wire wire' line line' ok dt1 = tt

-- lines that are equal but for what isn't counted
pub same-line : (l m : Line) → l.kept ≡ m.kept → l.came.value ≡ m.came.value → l ≡ m
same-line l m e f =
    subst (λ k. l ≡ record { kept = k; came = m.came }) e
    (subst (λ v. l ≡ record { kept = l.kept; came = record { marker = m.came.marker; value = v } }) f refl)
