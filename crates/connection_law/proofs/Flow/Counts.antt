-- A section keeps its own counts in order, act by act.
use Rattle.std.proofs.Common.{◌≡◌, ℕ, ◌+◌, ◌-◌, ◌≤◌, ◌==◌, true, false, not, List, length, Option, Some, None, arith}
use Rattle.std.proofs.lemmas.Bool.{not-false}
use Rattle.relay_base.specs.declared.causes.TheConstants.{RESET_INCORRECT_RECEIVE_NUMBER, RESET_OUT_OF_WINDOW, RESET_REMOTE_PROCEDURE_ERROR}
use Rattle.section_model.specs.declared.cell.Cell.{Cell}
use Rattle.section_model.specs.declared.cell.Cell.TheVariants as cell
use Rattle.section_model.specs.declared.hand.Hand.{Hand}
use Rattle.section_model.specs.declared.hand.Hand.TheVariants as hand
use Rattle.section_model.specs.declared.hand.Acted.{Acted}
use Rattle.section_model.specs.Parameters.{Parameters}
use Rattle.section_model.specs.Windowed.{Windowed, windowed_hears, windowed_fires, windowed_takes, leaves, acknowledges, resets, is_next, is_used_up, accepts_unit, takes_data, takes_acknowledgement, takes_expedited, sends_expedited, takes_answer, queues_unit, passes_expedited, passes_reset, HasCome, counts_left}
use Rattle.section_flow.specs.Windows.{is_valid, may_leave, wrong_number}
use Rattle.connection_law.specs.FlowLaw.{WindowsAreKept, ActsKeep}
use Rattle.connection_law.proofs.Flow.Taking.{cleared_in}
use Rattle.connection_law.proofs.Flow.Flowing.{either}
use Rattle.connection_law.proofs.Flow.Acting.{acked_in_window, came_in_credit}
use Rattle.connection_law.proofs.Flow.Leaving.{told_after, few_leave}

KeptBy : Windowed × Acted → Type 0
KeptBy r = WindowsAreKept r.0

resets_kept : (cause : ℕ) (x : Windowed) → WindowsAreKept x → KeptBy (resets cause x)
unfolding KeptBy
resets_kept cause x k = let c = cleared_in x.head.credit k.0 in (k.0, c.0, c.1)

accepted : (m : Parameters) (x : Windowed) → WindowsAreKept x → is_used_up x ≡ false → is_valid m.pr x.windows ≡ true → KeptBy (accepts_unit m x)
unfolding KeptBy
accepted m x k not_used valid =
    (k.0, came_in_credit x.head.credit x.windows (record { more = m.more; body = m.data_octets }) not_used k.1, acked_in_window m.pr x.windows valid k.2)

data_kept : (m : Parameters) (x : Windowed) → WindowsAreKept x → KeptBy (takes_data m x)
data_kept m x k =
    either KeptBy (not (is_next m x)) _ _ (λ _. resets_kept (wrong_number x.windows) x k)
    (λ _. either KeptBy (is_used_up x) _ _ (λ _. resets_kept RESET_OUT_OF_WINDOW x k)
    (λ not_used. either KeptBy (not (is_valid m.pr x.windows)) _ _ (λ _. resets_kept RESET_INCORRECT_RECEIVE_NUMBER x k)
    (λ valid. accepted m x k not_used (not-false _ valid))))

acknowledgement_kept : (m : Parameters) (x : Windowed) → WindowsAreKept x → KeptBy (takes_acknowledgement m x)
unfolding KeptBy
acknowledgement_kept m x k =
    either KeptBy (is_valid m.pr x.windows) _ _ (λ valid. let w = acked_in_window m.pr x.windows valid k.2 in (k.0, k.1, (w.0, w.1, omega arith))) (λ _. resets_kept RESET_INCORRECT_RECEIVE_NUMBER x k)

expedites_kept : (body : Option (List ℕ)) (x : Windowed) → WindowsAreKept x → KeptBy (sends_expedited body x)
unfolding KeptBy
expedites_kept None x k = k
expedites_kept (Some body) x k = k

expedited_kept : (m : Parameters) (x : Windowed) → WindowsAreKept x → KeptBy (takes_expedited m x)
unfolding KeptBy
expedited_kept m x k = either KeptBy x.windows.owed _ _ (λ _. resets_kept RESET_REMOTE_PROCEDURE_ERROR x k) (λ _. k)

answer_kept : (x : Windowed) → WindowsAreKept x → KeptBy (takes_answer x)
unfolding KeptBy
answer_kept x k = either KeptBy x.windows.unanswered _ _ (λ _. expedites_kept x.windows.waiting (record x { windows = record x.windows { unanswered = false } }) k) (λ _. k)

hears_kept : (c : Cell) (m : Parameters) (x : Windowed) → WindowsAreKept x → KeptBy (windowed_hears c m x)
unfolding windowed_hears KeptBy
hears_kept cell.TakeNumberedData m x k = data_kept m x k
hears_kept cell.TakeAcknowledgement m x k = acknowledgement_kept m x k
hears_kept cell.TakeExpedited m x k = expedited_kept m x k
hears_kept cell.TakeExpeditedAcknowledgement m x k = answer_kept x k
hears_kept cell.ResetByPeer m x k = resets_kept 0 x k
hears_kept _ m x k = k

fires_kept : (x : Windowed) → WindowsAreKept x → KeptBy (windowed_fires x)
unfolding windowed_fires KeptBy
fires_kept x k = k

passes_kept : (h : Hand) (x : Windowed) → WindowsAreKept x → KeptBy (queues_unit h x)
unfolding KeptBy
passes_kept (hand.Unit more body) x k = k
passes_kept _ x k = k

passes_expedited_kept : (h : Hand) (x : Windowed) → WindowsAreKept x → KeptBy (passes_expedited h x)
unfolding KeptBy
passes_expedited_kept (hand.Expedited body) x k = either KeptBy _ _ _ (λ _. expedites_kept (Some body) x k) (λ _. k)
passes_expedited_kept _ x k = k

passes_reset_kept : (h : Hand) (x : Windowed) → WindowsAreKept x → KeptBy (passes_reset h x)
unfolding KeptBy
passes_reset_kept (hand.Reset cause) x k = resets_kept cause x k
passes_reset_kept _ x k = k

more_left : (told passed units came : ℕ) → told ≤ passed → passed ≤ came → units ≤ came - passed → (told ≤ passed + units) × (passed + units ≤ came)
more_left told passed units came a b few = (omega (arith, a), omega (arith, b, few))

left_kept : (h : Hand) (x : Windowed) → HasCome h x.windows → WindowsAreKept x → KeptBy (counts_left h x)
unfolding KeptBy
left_kept (hand.Left units false) x few k = let n = more_left x.windows.told x.windows.passed units (length x.windows.got) k.1.0 k.1.1 few in (k.0, (n.0, n.1, k.1.2), k.2)
left_kept (hand.Left units true) x few k = let n = more_left x.windows.told x.windows.passed units (length x.windows.got) k.1.0 k.1.1 few in (k.0, (n.0, n.1, k.1.2), k.2)
left_kept _ x few k = k

takes_kept : (c : Cell) (h : Hand) (x : Windowed) → HasCome h x.windows → WindowsAreKept x → KeptBy (windowed_takes c h x)
unfolding windowed_takes KeptBy
takes_kept cell.PassUnit h x few k = passes_kept h x k
takes_kept cell.PassExpedited h x few k = passes_expedited_kept h x k
takes_kept cell.PassReset h x few k = passes_reset_kept h x k
takes_kept cell.ClearCounts h x few k = resets_kept 0 x k
takes_kept cell.Left h x few k = left_kept h x few k
takes_kept _ h x few k = k

leaves_kept : (x : Windowed) → WindowsAreKept x → KeptBy (leaves x)
unfolding leaves KeptBy
leaves_kept x k =
    let w = x.windows in
    let few = few_leave (length w.waits) (w.credit - (w.sent - w.acked)) in
    let t = told_after (may_leave w == 0) w.told w.passed k.1.0 in
    (k.0, (t.1, k.1.1, omega (arith, k.1.2, t.0)), (omega (arith, k.2.0), omega (arith, few.1, k.2.0, k.2.1, k.2.2), k.2.2))

acknowledges_kept : (x : Windowed) → WindowsAreKept x → KeptBy (acknowledges x)
unfolding acknowledges KeptBy
acknowledges_kept x k =
    either KeptBy (x.windows.passed == x.windows.told) _ _ (λ _. k) (λ _. (k.0, (omega arith, k.1.1, omega (arith, k.1.2, k.1.0)), k.2))

pub acts_keep : ActsKeep
unfolding KeptBy
acts_keep = record { hears = hears_kept; fires = fires_kept; takes = takes_kept; leaves = leaves_kept; acknowledges = acknowledges_kept }
