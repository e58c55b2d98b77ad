-- The count of units that were cut is that of the entries which cut one.
use Rattle.std.proofs.Common.{◌≡◌, ℕ, ◌+◌, List, [], ◌∷◌, if◌then◌else◌, cond, refl, sym, ap, ◌∙◌, Option, Some, None, arith, zero-add, add-zero}
use Rattle.std.specs.Prelude.{count_by}
use Rattle.std.proofs.lemmas.List.Sums.{sum_by-append}
use Rattle.plant_core.specs.declared.answer.Answer.{Answer}
use Rattle.plant_core.specs.declared.entry.Entry.{Entry}
use Rattle.plant_core.specs.declared.terms.LaneHead.{LaneHead}
use Rattle.plant_core.specs.Asking.{answer_in}
use Rattle.connectionless.specs.Asking.{Matter, from_network, from_user, settled, of_tick, matter_of}
use Rattle.data_lane.specs.Legal.{State, step_of, effect_by, entry_after, state_after}
use Rattle.unit_law.specs.OwnOutputs.{is_cut_by, is_cut}
use Rattle.unit_law.proofs.Cutting.{routed_cut, given_cut}

cut_is : (head : LaneHead) (number cut : ℕ) (matter : Matter) (answer : Option Answer) → (effect_by head number cut matter answer).is_cut ≡ is_cut_by head matter answer
cut_is head number cut (from_network opc sls x question) (Some answer) = routed_cut head.short head.terms.own opc sls x answer _ 0
cut_is head number cut (from_network opc sls x question) None = refl
cut_is head number cut (from_user g question) (Some answer) = given_cut g answer _ 0
cut_is head number cut (from_user g question) None = refl
cut_is head number cut (settled outs) answer = refl
cut_is head number cut of_tick answer = refl

one_more : (head : LaneHead) (number : ℕ) (s : State) (entry : Entry) → (entry_after head number s entry).cut ≡ s.cut + cond (is_cut head entry) 1 0
unfolding step_of
one_more head number s entry =
    ap (λ b. s.cut + (if b then 1 else 0)) (cut_is head number s.cut (matter_of entry.event) (answer_in entry.asked))

count_first : (head : LaneHead) (entry : Entry) (entries : List Entry) → count_by (is_cut head) (entry ∷ entries) ≡ cond (is_cut head entry) 1 0 + count_by (is_cut head) entries
count_first head entry entries =
    sum_by-append (λ e. cond (is_cut head e) 1 0) (entry ∷ []) entries ∙ ap (λ n. n + count_by (is_cut head) entries) (zero-add (cond (is_cut head entry) 1 0))

pub cut_counts : (head : LaneHead) (number : ℕ) (s : State) (entries : List Entry)
    → (state_after head number s entries).cut ≡ s.cut + count_by (is_cut head) entries
cut_counts head number s [] = sym (add-zero s.cut)
cut_counts head number s (entry ∷ entries) =
    omega (arith, cut_counts head number (entry_after head number s entry) entries, one_more head number s entry, count_first head entry entries)
