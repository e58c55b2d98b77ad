-- What a journal leaves, and how it goes on.
use Rattle.std.proofs.Common.{◌≡◌, ℕ, ◌+◌, ◌≤◌, List, [], ◌∷◌, ◌++◌, length, refl, sym, ap, ◌∙◌, subst, arith, append_assoc, append-nil, length-append, Option, Some, None, option_to_list, Result, Ok, Err, OnOk, OnErr}
use Rattle.plant_core.specs.declared.change.Group.{Group}
use Rattle.plant_core.specs.declared.entry.ControlEntry.{ControlEntry}
use Rattle.plant_core.specs.declared.entry.ControlEvent.{ControlEvent}
use Rattle.plant_core.specs.declared.terms.Ticks.{Ticks}
use Rattle.plant_core.specs.Plant.{RoutingData}
use Rattle.plant_core.specs.Changes.{plant_after_all, plant_after}
use Rattle.scmg.specs.declared.head.ControlHead.{ControlHead}
use Rattle.scmg.specs.declared.effect.Act.{Act}
use Rattle.scmg.specs.declared.effect.Act.TheVariants.{Nothing, Publish, Remember, Forget, Begin, End, Tick}
use Rattle.scmg.specs.declared.effect.Effect.{Effect}
use Rattle.scmg.specs.Lane.{GrowAlike}
use Rattle.scmg.specs.Inner.Kept.{KeptState, IsLane, after_entries}
use Rattle.scmg.specs.Control.{Control, Managed, managed, managed_by, start_of_control, changes_in, control_after, change_of, edition_after, count_after, IsLegalEntry, after_entry, LegalFrom, changes_from, effect_of}

plant-append : (p : RoutingData) (some more : List Group) → plant_after_all p (some ++ more) ≡ plant_after_all (plant_after_all p some) more
plant-append p [] more = refl
plant-append p (group ∷ some) more = plant-append (plant_after p group) some more

act-routing : (ticks : Ticks) (c : Control) (act : Act) → (control_after ticks c act).routing ≡ plant_after_all c.routing (option_to_list (change_of act))
unfolding control_after
act-routing ticks c Nothing = refl
act-routing ticks c (Publish group) = refl
act-routing ticks c (Remember g) = refl
act-routing ticks c (Forget g) = refl
act-routing ticks c (Begin r) = refl
act-routing ticks c (End ssn) = refl
act-routing ticks c Tick = refl

event-routing : (head : ControlHead) (c : Control) (event : ControlEvent) → (managed head c event).control.routing ≡ plant_after_all c.routing (option_to_list (managed head c event).published)
unfolding managed
event-routing head c event = act-routing head.ticks c (effect_of head c event).act

-- the routing data that a journal leaves are those after its changes
pub routing-after : (head : ControlHead) (c : Control) (journal : List ControlEntry) → (after_entries head c journal).routing ≡ plant_after_all c.routing (changes_from head c journal)
routing-after head c [] = refl
routing-after head c (entry ∷ more) =
    routing-after head (after_entry head c entry) more
    ∙ ap (λ p. plant_after_all p (changes_from head (after_entry head c entry) more)) (event-routing head c entry.event)
    ∙ sym (plant-append c.routing (option_to_list (managed head c entry.event).published) (changes_from head (after_entry head c entry) more))

count-more : (n : ℕ) (published : Option Group) (more : List Group) → count_after n published + length more ≡ n + length (option_to_list published ++ more)
count-more n None more = refl
count-more n (Some group) more = omega arith

count-length : (before : List Group) (published : Option Group) → count_after (length before) published ≡ length (before ++ option_to_list published)
count-length before None = ap length (sym (append-nil before))
count-length before (Some group) = sym (length-append before (group ∷ []))

few-more : (published : Option Group) (more : List Group) → length (option_to_list published ++ more) ≤ 1 + length more
few-more None more = omega arith
few-more (Some group) more = omega arith

-- an entry publishes at most one group of changes
pub few-changes : (head : ControlHead) (c : Control) (journal : List ControlEntry) → length (changes_from head c journal) ≤ length journal
few-changes head c [] = omega arith
few-changes head c (entry ∷ more) =
    let rest = few-changes head (after_entry head c entry) more in
    let first = few-more (managed head c entry.event).published (changes_from head (after_entry head c entry) more) in
    omega arith

legal-push : (head : ControlHead) (c : Control) (n : ℕ) (journal : List ControlEntry) (entry : ControlEntry) → LegalFrom head c n journal
    → IsLegalEntry head (after_entries head c journal) (n + length (changes_from head c journal)) entry → LegalFrom head c n (journal ++ entry ∷ [])
legal-push head c n [] entry legal next = let e : n + 0 ≡ n = omega arith in (subst (λ m. IsLegalEntry head c m entry) e next, tt)
legal-push head c n (first ∷ more) entry legal next =
    let after = after_entry head c first in
    let published = (managed head c first.event).published in
    let e : n + length (option_to_list published ++ changes_from head after more) ≡ count_after n published + length (changes_from head after more) =
    sym (count-more n published (changes_from head after more)) in
    (legal.0, legal-push head after (count_after n published) more entry legal.1 (subst (λ m. IsLegalEntry head (after_entries head after more) m entry) e next))

after-push : (head : ControlHead) (c : Control) (journal : List ControlEntry) (entry : ControlEntry)
    → after_entries head c (journal ++ entry ∷ []) ≡ after_entry head (after_entries head c journal) entry
after-push head c [] entry = refl
after-push head c (first ∷ more) entry = after-push head (after_entry head c first) more entry

changes-push : (head : ControlHead) (c : Control) (journal : List ControlEntry) (entry : ControlEntry)
    → changes_from head c (journal ++ entry ∷ []) ≡ changes_from head c journal ++ option_to_list (managed head (after_entries head c journal) entry.event).published
changes-push head c [] entry = append-nil (option_to_list (managed head c entry.event).published)
changes-push head c (first ∷ more) entry =
    let published = option_to_list (managed head c first.event).published in
    let after = after_entry head c first in
    ap (λ xs. published ++ xs) (changes-push head after more entry)
    ∙ sym (append_assoc published (changes_from head after more) (option_to_list (managed head (after_entries head after more) entry.event).published))

-- an entry with what comes of its event, and the edition that its changes make
pub record IsOfEffect (head : ControlHead) (event : ControlEvent) (kept : KeptState) (effect : Effect) (entry : ControlEntry) : Type 0 where
  pub of_event : entry.event ≡ event
  pub by : effect ≡ effect_of head kept.control event
  pub outs : entry.outs ≡ effect.outs
  pub published : entry.published ≡ edition_after kept.plant.edition (change_of effect.act)

-- an entry with the outputs of an event's effect, once the edition is in it
pub effect-made : (head : ControlHead) (event : ControlEvent) (kept : KeptState) (made : ControlEntry) (act : Act) → made.event ≡ event
    → made.outs ≡ (effect_of head kept.control event).outs → act ≡ (effect_of head kept.control event).act
    → IsOfEffect head event kept (record { outs = made.outs; act = act }) (record made { published = edition_after kept.plant.edition (change_of act) })
effect-made head event kept made act e o a =
    record { of_event = e; by = λ i. record { outs = o i; act = a i }; outs = refl; published = refl }

-- a journal that took the place of another one went on as that did
pub grown-by : {T E : Type 0} (r : Result T E) (next written old journal : List ControlEntry) (entry : ControlEntry) → next ≡ written → old ≡ journal
    → OnOk r (written ≡ old ++ entry ∷ []) → OnOk r (next ≡ journal ++ entry ∷ [])
grown-by (Ok x) next written old journal entry e f grown = e ∙ grown ∙ ap (λ l. l ++ entry ∷ []) f
grown-by (Err x) next written old journal entry e f grown = tt

pub stayed-by : {T E : Type 0} (r : Result T E) (next written old journal : List ControlEntry) → next ≡ written → old ≡ journal
    → OnErr r (written ≡ old) → OnErr r (next ≡ journal)
stayed-by (Ok x) next written old journal e f same = tt
stayed-by (Err x) next written old journal e f same = e ∙ same ∙ f

managed-so : (head : ControlHead) (start : RoutingData) (journal : List ControlEntry) (event : ControlEvent) (kept : KeptState) (effect : Effect) (entry : ControlEntry)
    → IsLane head start journal kept → IsOfEffect head event kept effect entry
    → managed head (after_entries head (start_of_control start) journal) entry.event ≡ managed_by head kept.control effect
unfolding managed
managed-so head start journal event kept effect entry lane made =
    ap (λ c. managed head c entry.event) (sym lane.control) ∙ ap (managed head kept.control) made.of_event ∙ ap (managed_by head kept.control) (sym made.by)

changes-grow : (head : ControlHead) (start : RoutingData) (journal : List ControlEntry) (event : ControlEvent) (kept : KeptState) (effect : Effect) (entry : ControlEntry)
    → IsLane head start journal kept → IsOfEffect head event kept effect entry
    → changes_in head start (journal ++ entry ∷ []) ≡ changes_in head start journal ++ option_to_list (change_of effect.act)
changes-grow head start journal event kept effect entry lane made =
    changes-push head (start_of_control start) journal entry
    ∙ ap (λ (m : Managed). changes_in head start journal ++ option_to_list m.published) (managed-so head start journal event kept effect entry lane made)

-- the lane goes on with the entry
lane-goes : (head : ControlHead) (start : RoutingData) (journal : List ControlEntry) (event : ControlEvent) (kept after : KeptState) (effect : Effect) (entry : ControlEntry)
    → IsLane head start journal kept → IsOfEffect head event kept effect entry → after.control ≡ control_after head.ticks kept.control effect.act
    → after.plant.edition ≡ count_after kept.plant.edition (change_of effect.act) → IsLane head start (journal ++ entry ∷ []) after
lane-goes head start journal event kept after effect entry lane made control edition =
    let c = after_entries head (start_of_control start) journal in
    let before : List Group = changes_in head start journal in
    let published : Option Group = change_of effect.act in
    let is : managed head c entry.event ≡ managed_by head kept.control effect = managed-so head start journal event kept effect entry lane made in
    let legal : IsLegalEntry head c (length before) entry = record {
      outputs = made.outs ∙ sym (ap (λ (m : Managed). m.outs) is);
      published = made.published ∙ ap (λ n. edition_after n published) lane.edition ∙ sym (ap (λ (m : Managed). edition_after (length before) m.published) is);
    } in
    let from-zero : length before ≡ 0 + length before = omega arith in
    record {
      legal = legal-push head (start_of_control start) 0 journal entry lane.legal (subst (λ n. IsLegalEntry head c n entry) from-zero legal);
      control = control ∙ sym (ap (λ (m : Managed). m.control) is) ∙ sym (after-push head (start_of_control start) journal entry);
      edition =
          edition ∙ ap (λ n. count_after n published) lane.edition ∙ count-length before published ∙ ap length (sym (changes-grow head start journal event kept effect entry lane made));
    }

-- it goes on, or is as before
pub lane-either : {T E : Type 0} (r : Result T E) (head : ControlHead) (start : RoutingData) (journal next : List ControlEntry) (event : ControlEvent) (kept after : KeptState) (effect : Effect) (entry : ControlEntry)
    → IsLane head start journal kept → IsOfEffect head event kept effect entry
    → OnOk r (after.control ≡ control_after head.ticks kept.control effect.act) → OnOk r (after.plant.edition ≡ count_after kept.plant.edition (change_of effect.act)) → OnOk r (next ≡ journal ++ entry ∷ [])
    → OnErr r ((after.control ≡ kept.control) × (after.plant.edition ≡ kept.plant.edition)) → OnErr r (next ≡ journal) → IsLane head start next after
lane-either (Ok x) head start journal next event kept after effect entry lane made control edition grown as_before same =
    subst (λ l. IsLane head start l after) (sym grown) (lane-goes head start journal event kept after effect entry lane made control edition)
lane-either (Err e) head start journal next event kept after effect entry lane made control edition grown as_before same =
    subst (λ l. IsLane head start l after) (sym same) (record { legal = lane.legal; control = as_before.0 ∙ lane.control; edition = as_before.1 ∙ lane.edition })

-- the changes that are published are those of the journal
pub grow-alike : {T E : Type 0} (r : Result T E) (head : ControlHead) (start : RoutingData) (journal next : List ControlEntry) (event : ControlEvent) (kept : KeptState) (effect : Effect) (entry : ControlEntry) (old new : List Group)
    → IsLane head start journal kept → IsOfEffect head event kept effect entry
    → OnOk r (new ≡ old ++ option_to_list (change_of effect.act)) → OnOk r (next ≡ journal ++ entry ∷ []) → OnOk r (GrowAlike old new (changes_in head start journal) (changes_in head start next))
grow-alike (Ok x) head start journal next event kept effect entry old new lane made here grown = record {
  more = option_to_list (change_of effect.act);
  here = here;
  there = ap (changes_in head start) grown ∙ changes-grow head start journal event kept effect entry lane made;
}
grow-alike (Err e) head start journal next event kept effect entry old new lane made here grown = tt
