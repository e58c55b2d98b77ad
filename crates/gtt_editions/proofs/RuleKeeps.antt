-- Each step keeps the rule.
use Rattle.std.proofs.Common.{◌≡◌, ◌≢◌, ℕ, true, false, Option, Some, None, List, [], ◌∷◌, ◌++◌, set, refl, sym, ap, ◌∙◌, subst, ⊎_elim, fold, Result, Ok, Err, MatchResult, OnOk, OnErr}
use mathlib.Core.Option.{some}
use lib.ListN.{get_elem?}
use Rattle.atomic_table.proofs.Lists.{at_set, at_snoc}
use Rattle.crossbeam_utils.specs.Register.{Admits, TurnsAt, Turns, Forks, Merges}
use Rattle.gtt_editions.specs.Editions.{Edition, edition_of, edition_after, edition_after_all}
use Rattle.gtt_editions.proofs.EditionLemmas.{after_none, after_one_more}
use Rattle.plant_core.specs.declared.change.Group.{Group}
use Rattle.gtt_editions.specs.declared.step.Step.{Step}
use Rattle.gtt_editions.specs.declared.step.Step.TheVariants.{Open, Room, Change as Changed, End}
use Rattle.gtt_editions.specs.declared.store.Store.{Store}
use Rattle.gtt_editions.specs.Shown.{Shown, View, newcomer}
use Rattle.gtt_editions.specs.Published.{Published, published, nothing, Begins}
use Rattle.gtt_editions.specs.Marked.{shown_by, list_of, marked}
use Rattle.gtt_editions.specs.Rule.{HasOpened, HasPublished, first_of, informed, Agrees, Knows, Kept, Keeps, edition_or, Opened, Seen, IsCurrent}
use Rattle.gtt_editions.proofs.PublishedLemmas.{begins_refl, begins_trans, marked_begins}

pub nothing_begins : (list : Published) → Begins list nothing
nothing_begins list = record { rest = list.changes; longer = refl; closed = λ e. cc }

pub newcomer_knows : (opened : Edition) (list : Published) → Knows opened list newcomer
newcomer_knows opened list = record { opens = tt; sees = nothing_begins list; told = nothing_begins list }

-- what is known of a list is known of one that begins with it
pub knows_more : (opened : Edition) (long short : Published) (v : View) → Begins long short → Knows opened short v → Knows opened long v
knows_more opened long short v more knows = record {
  opens = knows.opens;
  sees = begins_trans long short v.seen more knows.sees;
  told = begins_trans long short v.told more knows.told;
}

-- the seats know what they knew, but one
pub known_after : (opened : Edition) (list : Published) (views : List View) (seat : ℕ) (w : View)
    → ((j : ℕ) (v : View) → get_elem? views j ≡ some v → Knows opened list v) → Knows opened list w
    → (j : ℕ) (v : View) → get_elem? (set views seat w) j ≡ some v → Knows opened list v
known_after opened list views seat w each now j u e =
    ⊎_elim (λ (t : (j ≡ seat) × (w ≡ u)). subst (λ (z : View). Knows opened list z) t.1 now) (λ (t : (j ≢ seat) × (get_elem? views j ≡ some u)). each j u t.1) (at_set views seat j w u e)

pub known_with : (opened : Edition) (list : Published) (views : List View) (w : View)
    → ((j : ℕ) (v : View) → get_elem? views j ≡ some v → Knows opened list v) → Knows opened list w
    → (j : ℕ) (v : View) → get_elem? (views ++ w ∷ []) j ≡ some v → Knows opened list v
known_with opened list views w each now j u e =
    ⊎_elim (each j u) (λ (same : w ≡ u). subst (λ (z : View). Knows opened list z) same now) (at_snoc views w u j e)

pub admits : Admits Keeps newcomer
admits s views h = record { opened = h.opened; edition_is = h.edition_is; each = known_with h.opened (list_of (shown_by s)) views newcomer h.each (newcomer_knows _ _); fresh = h.fresh }

pub starts : (s : Store) → s.changes.items ≡ [] → Keeps s (newcomer ∷ [])
starts s none = record {
  opened = edition_of s.plant;
  edition_is = sym (after_none (edition_of s.plant)) ∙ ap (edition_after_all (edition_of s.plant)) (sym none);
  each = known_with (edition_of s.plant) (list_of (shown_by s)) [] newcomer (λ j v e. cc) (newcomer_knows _ _);
  fresh = λ e. none;
}

-- entering
pub sees : (seat : ℕ) (v : View) → Turns Keeps seat v (λ x. x) Seen
sees seat v s views h at =
    let list : Published = list_of (shown_by s) in
    let w : View = record { opened = Some h.opened; seen = list; told = v.told } in
    let was : Knows h.opened list v = h.each seat v at in
    let now : Knows h.opened list w = record { opens = refl; sees = begins_refl list; told = was.told } in (
      w,
      record { opened = h.opened; edition_is = h.edition_is; each = known_after h.opened list views seat w h.each now; fresh = h.fresh },
      record { agrees = was.opens; after_seen = was.sees; after_told = was.told; current = record { opens = refl; edition_is = h.edition_is; list_is = refl } },
    )

pub marked-edition : (x : Shown) (opened : Edition) (step : Step) → x.edition ≡ edition_after_all opened x.changes → (marked x step).edition ≡ edition_after_all opened (marked x step).changes
marked-edition x opened Open is = is
marked-edition x opened (Room group) is = is
marked-edition x opened (Changed group) is = ap (λ z. edition_after z group) is ∙ sym (after_one_more opened x.changes group)
marked-edition x opened End is = is

pub marked-open : (x : Shown) (step : Step) → x.opened ≡ true → (marked x step).opened ≡ true
marked-open x Open is = refl
marked-open x (Room group) is = is
marked-open x (Changed group) is = is
marked-open x End is = is

-- a step of the publisher, whose view becomes w
pub adds : (seat : ℕ) (x : Shown) (views : List View) (step : Step) (w : View) (h : Kept x views) → x.ended ≡ false → Agrees w.opened h.opened → Begins (list_of (marked x step)) w.seen → Begins (list_of x) w.told
    → ((marked x step).opened ≡ false → (marked x step).changes ≡ []) → Kept (marked x step) (set views seat w)
adds seat x views step w h going opens sees told fresh =
    let list : Published = list_of x in let more : Published = list_of (marked x step) in
    let longer : Begins more list = marked_begins x step going in record {
      opened = h.opened;
      edition_is = marked-edition x h.opened step h.edition_is;
      each = known_after h.opened more views seat w (λ j u e. knows_more h.opened more list u longer (h.each j u e)) (record { opens = opens; sees = sees; told = begins_trans more list w.told longer told });
      fresh = fresh;
    }

-- the opening
pub opens : (seat : ℕ) (v : View) (s t : Store) (pending : List Step) → s.opened ≡ false → s.ended ≡ false → pending ≡ Open ∷ [] → shown_by t ≡ fold marked (shown_by s) pending → TurnsAt Keeps seat v s t Opened
opens seat v s t pending shut going one is views h at =
    let x : Shown = shown_by s in
    let y : shown_by t ≡ marked x Open = is ∙ ap (fold marked x) one in
    let same : edition_of s.plant ≡ h.opened = h.edition_is ∙ (ap (edition_after_all h.opened) (h.fresh shut) ∙ after_none h.opened) in
    let w : View = record { opened = Some (edition_of s.plant); seen = list_of x; told = v.told } in
    let kept : Kept (marked x Open) (set views seat w) = adds seat x views Open w h going same (begins_refl (list_of x)) (h.each seat v at).told (λ e. cc) in
    (w, subst (λ (z : Shown). Kept z (set views seat w)) (sym y) kept, (ap (λ z. Some z.edition) (sym y), ap list_of (sym y)))

-- publishing: what is seen is what is shown
pub publishes : (seat : ℕ) (v : View) (s t : Store) (step : Step) (pending : List Step)
    → s.opened ≡ true → s.ended ≡ false → pending ≡ step ∷ [] → shown_by t ≡ fold marked (shown_by s) pending → TurnsAt Keeps seat v s t Seen
publishes seat v s t step pending is_open going one is views h at =
    let x : Shown = shown_by s in
    let y : shown_by t ≡ marked x step = is ∙ ap (fold marked x) one in
    let more : Published = list_of (marked x step) in
    let longer : Begins more (list_of x) = marked_begins x step going in
    let was : Knows h.opened (list_of x) v = h.each seat v at in
    let w : View = record { opened = Some h.opened; seen = more; told = v.told } in
    let kept : Kept (marked x step) (set views seat w) = adds seat x views step w h going refl (begins_refl more) was.told (λ e. let o = marked-open x step is_open in cc) in
    let seen = knows_more h.opened more (list_of x) v longer was in
    let current : IsCurrent w (marked x step) = record { opens = refl; edition_is = marked-edition x h.opened step h.edition_is; list_is = refl } in
    (w, subst (λ (z : Shown). Kept z (set views seat w)) (sym y) kept, record { agrees = was.opens; after_seen = seen.sees; after_told = seen.told; current = subst (λ (z : Shown). IsCurrent w z) (sym y) current })

-- telling
pub forks : (seat : ℕ) (v : View) → Forks Keeps seat v v v
forks seat v s views h at =
    let list : Published = list_of (shown_by s) in let was = h.each seat v at in record {
      opened = h.opened;
      edition_is = h.edition_is;
      each = known_with h.opened list (set views seat v) v (known_after h.opened list views seat v h.each was) was;
      fresh = h.fresh;
    }

pub agrees_first : (a b : Option Edition) (opened : Edition) → Agrees a opened → Agrees b opened → Agrees (first_of a b) opened
agrees_first None b opened p q = q
agrees_first (Some a) b opened p q = p

-- learning
pub merges : (seat : ℕ) (v : View) (other : ℕ) (w : View) → Merges Keeps seat v other w (informed v w) newcomer
merges seat v other w s views h at apart there =
    let o = h.opened in let list : Published = list_of (shown_by s) in
    let mine : Knows o list v = h.each seat v at in
    let theirs : Knows o list w =
    ⊎_elim (λ (t : (other ≡ seat) × (informed v w ≡ w)). absurd (apart t.0)) (λ (t : (other ≢ seat) × (get_elem? views other ≡ some w)). h.each other w t.1) (at_set views seat other (informed v w) w there) in
    let both : Knows o list (informed v w) = record { opens = agrees_first v.opened w.opened o mine.opens theirs.opens; sees = mine.sees; told = theirs.sees } in record {
      opened = o;
      edition_is = h.edition_is;
      each = known_after o list (set views seat (informed v w)) other newcomer (known_after o list views seat (informed v w) h.each both) (newcomer_knows o list);
      fresh = h.fresh;
    }

-- what the opening answers
pub open_answers : {A E : Type 0} (r : Result A E) (v w : View) (s t : Store) (pending left : List Step)
    → s.changes.items ≡ [] → s.ended ≡ false → pending ≡ Open ∷ []
    → MatchResult r (λ _. (shown_by t ≡ fold marked (shown_by s) pending) × (left ≡ [])) (λ _. (t ≡ s) × (left ≡ pending))
    → MatchResult r (λ _. Opened v s t w) (λ _. w ≡ v)
    → OnOk r (HasOpened (shown_by s) w (shown_by t)) × OnOk r (left ≡ [])
open_answers (Ok u) v w s t pending left empty going one values opened =
    let is : shown_by t ≡ marked (shown_by s) Open = values.0 ∙ ap (fold marked (shown_by s)) one in
    let none : t.changes.items ≡ [] = ap (λ z. z.changes) is ∙ empty in
    let ended : t.ended ≡ false = ap (λ z. z.ended) is ∙ going in
    let seen : w.seen ≡ nothing = opened.1 ∙ (λ i. published (none i) (ended i)) in
    let opened_as : edition_or w.opened ≡ edition_of t.plant = ap edition_or opened.0 in (
      record {
        current = record { opens = opened.0 ∙ ap Some (sym opened_as); edition_is = sym opened_as ∙ (sym (after_none (edition_or w.opened)) ∙ ap (λ z. edition_after_all (edition_or w.opened) z.changes) (sym seen)); list_is = opened.1 };
        opened = opened_as ∙ ap (λ z. z.edition) is;
        seen = seen;
        going = record { opened = ap (λ z. z.opened) is; ended = ended };
      },
      values.1,
    )
open_answers (Err e) v w s t pending left empty going one values opened = (tt, tt)

same_opened : (a b : Option Edition) → a ≡ Some (edition_or a) → b ≡ Some (edition_or b) → Agrees a (edition_or b) → b ≡ a
same_opened None b ea eb agrees = cc
same_opened (Some x) b ea eb agrees = eb ∙ ap Some (sym agrees)

-- what a publishing answers
pub answers : {A E : Type 0} (r : Result A E) (v w : View) (s t : Store) (step : Step) (pending left : List Step)
    → IsCurrent v (shown_by s) → pending ≡ step ∷ []
    → MatchResult r (λ _. (shown_by t ≡ fold marked (shown_by s) pending) × (left ≡ [])) (λ _. (t ≡ s) × (left ≡ pending))
    → MatchResult r (λ _. Seen v s t w) (λ _. w ≡ v)
    → OnOk r (HasPublished step v (shown_by s) w (shown_by t)) × OnOk r (left ≡ []) × OnErr r (w ≡ v) × OnErr r (t ≡ s)
answers (Ok u) v w s t step pending left now one values seen =
    let shown = values.0 ∙ ap (fold marked (shown_by s)) one in
    (record { current = seen.current; opened = same_opened v.opened w.opened now.opens seen.current.opens seen.agrees; shown = shown }, values.1, tt, tt)
answers (Err e) v w s t step pending left now one values seen = (tt, tt, seen, values.0)

-- what is published after a group
pub one_more : (v w : View) (s t : Store) (group : Group) → IsCurrent v (shown_by s) → s.ended ≡ false → IsCurrent w (shown_by t) → shown_by t ≡ marked (shown_by s) (Changed group) → w.seen ≡ published (v.seen.changes ++ group ∷ []) false
one_more v w s t group was going now is =
    now.list_is ∙ (ap list_of is ∙ (λ i. published (sym (ap (λ z. z.changes) was.list_is) i ++ group ∷ []) (going i)))
