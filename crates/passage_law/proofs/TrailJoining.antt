-- What a user was told so far, and what there is of a text at its end.
use Rattle.std.proofs.Common.{◌≡◌, ◌⊎◌, inl, inr, ℕ, not, Bool, true, false, List, [], ◌∷◌, ◌++◌, refl, sym, ◌∙◌, ap, subst, append_assoc, append-nil}
use Rattle.std.specs.List.{list_any}
use Rattle.std.proofs.lemmas.Bool.{false≢true}
use Rattle.std.proofs.lemmas.List.Concat.{flat_map-append}
use Rattle.std.proofs.lemmas.List.Folds.{list_any-append}
use Rattle.std.proofs.lemmas.List.Sums.{fold-append}
use Rattle.relay_base.specs.declared.words.Event.{Event}
use Rattle.relay_base.specs.declared.words.Output.{Output}
use Rattle.plant_core.specs.declared.terms.Ticks.{Ticks}
use Rattle.section_model.specs.declared.cell.SectionState.{SectionState}
use Rattle.section_model.specs.declared.cell.SectionState.TheVariants.{Asked, Asking, Up}
use Rattle.section_model.specs.Ends.{End, wire, owner, DataUnit, Section, User, Connection}
use Rattle.section_model.specs.Opening.{wish_of}
use Rattle.section_model.specs.Step.{event_step, after_event, connection_step}
use Rattle.section_model.specs.Lane.{next, heard, follow}
use Rattle.connection_law.specs.InStep.{Stage, asked, asking, connected, over, Meets, section_stage, stage_at, class_at, got_at, AreInStep, IsInStep}
use Rattle.connection_law.proofs.Flow.Step.{event_kept}
use Rattle.connection_law.proofs.Message.Sent.{after_leaving}
use Rattle.hop_law.specs.Texts.{Joined, joins, joined}
use Rattle.hop_law.specs.TextLaw.{Begins}
use Rattle.hop_law.proofs.Joining.{apart}
use Rattle.hop_law.specs.ClassLaw.{IsOfAClass}
use Rattle.hop_law.specs.PlaceLaw.{StaysPut}
use Rattle.hop_law.specs.LeavingLaw.{AreSides, this_and_that, that_and_this}
use Rattle.hop_law.specs.ClearingLaw.{is_reset, SendsReset}
use Rattle.hop_law.specs.ClosingLaw.{may_take, is_resetting, IsNoOpening, StaysClosed}
use Rattle.hop_law.proofs.Accepting.{any_after}
use Rattle.hop_law.proofs.Heads.{after_heads}
use Rattle.hop_law.proofs.Taking.{SameHead}
use Rattle.hop_law.proofs.Placing.{event_place}
use Rattle.hop_law.proofs.Early.{opening_empty}
use Rattle.hop_law.proofs.Clearing.{all_of, begins_then}
use Rattle.hop_law.proofs.Closing.{no_opening}
use Rattle.hop_law.specs.LeftAlong.{outs_along}
use Rattle.hop_law.proofs.Along.{of_end, sides_in_step, AllHear, all_hear, neither}
use Rattle.passage_law.specs.Trails.{is_user}
use Rattle.passage_law.specs.Texts.{text_told, texts_among}
use Rattle.passage_law.specs.Users.{AreToldOf, UnitsAreTold}
use Rattle.passage_law.proofs.Opening.{text_at, IsCalm, begins}
use Rattle.passage_law.proofs.Keeping.{Keeps, after_adds}
use Rattle.passage_law.proofs.Users.{IsUsers, put_kind, turned_sides, users_step, users_begin, goes_on, kept_same, is_owner, kinds}
use Rattle.passage_law.proofs.Telling.{Tells, quiet, told, text_kept, sides_tell}

-- A step: no unit came in; or one did, and the texts that are whole by it are told; or the section takes no more, and nothing was told.
data Step (y : Section) (rest : List ℕ) (z : Section) (f : End) (outs : List Output) : Type 0 where
  none : z.windows.got ≡ y.windows.got → text_at f ≡ rest → texts_among outs ≡ [] → Step y rest z f outs
  one :
      (u : DataUnit) → y.head.state ≡ Up → z.windows.got ≡ y.windows.got ++ u ∷ [] →
      joins (record { texts = []; rest = rest }) u ≡ record { texts = texts_among outs; rest = text_at f } → Step y rest z f outs
  last : may_take z.head.state ≡ false → texts_among outs ≡ [] → Step y rest z f outs

-- a section whose stage is over takes nothing
over_shut : (s : SectionState) → section_stage s ≡ over → may_take s ≡ false
over_shut Asked e = absurd (asked_over e)
  where
    asked_over : asked ≡ over → ⊥
    asked_over e = cc
over_shut Asking e = absurd (asking_over e)
  where
    asking_over : asking ≡ over → ⊥
    asking_over e = cc
over_shut Up e = absurd (up_over e)
  where
    up_over : connected ≡ over → ⊥
    up_over e = cc
over_shut _ e = refl

both_over : (s t : Stage) → Meets s t → t ≡ over → s ≡ over
both_over s t m e = by_stage s (subst (λ t. Meets s t) e m)
  where
    by_stage : (s : Stage) → Meets s over → s ≡ over
    by_stage over m = refl
    by_stage asked m = absurd m
    by_stage asking m = absurd m
    by_stage connected m = absurd m

-- the section after the event, and after what follows it
shut_after : (e : End) (z : Section) (f : End) → SameHead e (wire z) → Meets (stage_at e) (stage_at f) → stage_at f ≡ over → may_take z.head.state ≡ false
shut_after (wire x) z f same meets ended = over_shut z.head.state (ap (λ h. section_stage h.state) same ∙ both_over (section_stage x.head.state) (stage_at f) meets ended)
shut_after (owner u) z f same meets ended = absurd same

-- from the event to the step
step_of : (y z : Section) (rest : List ℕ) (e f g : End) (outs more : List Output) → got_at e ≡ z.windows.got → SameHead e (wire z) → Meets (stage_at e) (stage_at f) → text_at g ≡ text_at f
    → texts_among more ≡ texts_among outs → Begins y.windows.got z.windows.got → Tells y rest e f outs → Step y rest z g more
step_of y z rest e f g outs more same head meets text alike begins (quiet kept has nothing) =
    none (kept_same y.windows.got z.windows.got (subst (λ got. (got ≡ y.windows.got) ⊎ (got ≡ [])) same kept) begins) (text ∙ has) (alike ∙ nothing)
step_of y z rest e f g outs more same head meets text alike begins (told u up came (inl ended)) = last (shut_after e z f head meets ended.0) (alike ∙ ended.1)
step_of y z rest e f g outs more same head meets text alike begins (told u up came (inr joined)) =
    one u up (sym same ∙ came) (joined ∙ (ap (λ (texts : List (List ℕ)). record { texts = texts; rest = text_at f }) (sym alike) ∙ ap (λ (r : List ℕ). record { texts = texts_among more; rest = r }) (sym text)))

-- What was told so far.
record Told (texts : List (List ℕ)) (y : Section) (rest : List ℕ) : Type 0 where
  first : AreToldOf texts y.windows.got
  still : (may_take y.head.state ≡ false) ⊎ (joined y.windows.got ≡ record { texts = texts; rest = rest })
  calm : is_resetting y.head.state ≡ false

stays_shut : (a b : Bool) → a ≡ false → (b ≡ true → a ≡ true) → b ≡ false
stays_shut a true shut opens = absurd (false≢true (sym shut ∙ opens refl))
stays_shut a false shut opens = refl

-- one unit more
joined_more : (got : List DataUnit) (u : DataUnit) (texts more : List (List ℕ)) (rest next : List ℕ) → joined got ≡ record { texts = texts; rest = rest }
    → joins (record { texts = []; rest = rest }) u ≡ record { texts = more; rest = next } → joined (got ++ u ∷ []) ≡ record { texts = texts ++ more; rest = next }
joined_more got u texts more rest next so_far by_unit =
    fold-append joins (record { texts = []; rest = [] }) got (u ∷ [])
    ∙ (ap (λ (j : Joined). joins j u) so_far
    ∙ (apart (u ∷ []) texts rest ∙ ap (λ (j : Joined). record { texts = texts ++ j.texts; rest = j.rest }) by_unit))

told_more : (texts : List (List ℕ)) (y z : Section) (rest : List ℕ) (f : End) (outs : List Output) → IsNoOpening y.head.state z.head.state → Begins y.windows.got z.windows.got → Step y rest z f outs
    → Told texts y rest → Told (texts ++ texts_among outs) z (text_at f)
told_more texts y z rest f outs opens begins step k = by_step step
  where
    after : (is_resetting z.head.state ≡ false) × (may_take z.head.state ≡ true → may_take y.head.state ≡ true)
    after = opens k.calm

    no_more : texts_among outs ≡ [] → texts ≡ texts ++ texts_among outs
    no_more nothing = sym (append-nil texts) ∙ ap (λ (more : List (List ℕ)). texts ++ more) (sym nothing)

    first_of : texts_among outs ≡ [] → AreToldOf (texts ++ texts_among outs) z.windows.got
    first_of nothing = record {
      units = k.first.units;
      first = begins_then k.first.units y.windows.got z.windows.got k.first.first begins;
      told = k.first.told ∙ no_more nothing;
    }

    by_still : z.windows.got ≡ y.windows.got → text_at f ≡ rest → texts_among outs ≡ [] → (may_take y.head.state ≡ false) ⊎ (joined y.windows.got ≡ record { texts = texts; rest = rest })
        → (may_take z.head.state ≡ false) ⊎ (joined z.windows.got ≡ record { texts = texts ++ texts_among outs; rest = text_at f })
    by_still same has nothing (inl shut) = inl (stays_shut (may_take y.head.state) (may_take z.head.state) shut after.1)
    by_still same has nothing (inr are) =
        inr (ap joined same ∙ (are ∙ (ap (λ (t : List (List ℕ)). record { texts = t; rest = rest }) (no_more nothing) ∙ ap (λ (r : List ℕ). record { texts = texts ++ texts_among outs; rest = r }) (sym has))))

    by_one : (u : DataUnit) → z.windows.got ≡ y.windows.got ++ u ∷ [] → joins (record { texts = []; rest = rest }) u ≡ record { texts = texts_among outs; rest = text_at f }
        → joined y.windows.got ≡ record { texts = texts; rest = rest } → Told (texts ++ texts_among outs) z (text_at f)
    by_one u came by_unit are =
        let whole = ap joined came ∙ joined_more y.windows.got u texts (texts_among outs) rest (text_at f) are by_unit in record {
          first = record { units = z.windows.got; first = all_of z.windows.got; told = ap (λ (j : Joined). j.texts) whole };
          still = inr whole;
          calm = after.0;
        }

    by_up : (u : DataUnit) → y.head.state ≡ Up → z.windows.got ≡ y.windows.got ++ u ∷ [] → joins (record { texts = []; rest = rest }) u ≡ record { texts = texts_among outs; rest = text_at f }
        → (may_take y.head.state ≡ false) ⊎ (joined y.windows.got ≡ record { texts = texts; rest = rest }) → Told (texts ++ texts_among outs) z (text_at f)
    by_up u up came by_unit (inl shut) = absurd (false≢true (sym shut ∙ ap may_take up))
    by_up u up came by_unit (inr are) = by_one u came by_unit are

    by_step : Step y rest z f outs → Told (texts ++ texts_among outs) z (text_at f)
    by_step (none same has nothing) = record { first = first_of nothing; still = by_still same has nothing k.still; calm = after.0 }
    by_step (one u up came by_unit) = by_up u up came by_unit k.still
    by_step (last shut nothing) = record { first = first_of nothing; still = inl shut; calm = after.0 }

-- A section at an end.

record IsSection (e : End) : Type 0 where
  section : Section
  is : e ≡ wire section

is_section : (e : End) → is_user e ≡ false → IsSection e
is_section (wire x) section = record { section = x; is = refl }
is_section (owner u) section = absurd (false≢true (sym section))

step_tells : (ticks : Ticks) (c : Connection) (event : Event) (end other : Connection → End) (w : User) (y z : Section) → AreSides end other → end c ≡ owner w → other c ≡ wire y → other (next ticks c event) ≡ wire z
    → IsUsers end other c → list_any is_reset (connection_step ticks c event).1 ≡ false → Begins y.windows.got z.windows.got
    → Step y w.text z (end (next ticks c event)) (connection_step ticks c event).1
unfolding connection_step
step_tells ticks c event end other w y z sides is at after k calm begins =
    by_event (sides_tell ticks c event end other y w sides is at (subst (λ e. AreInStep e (owner w)) at (subst (λ f. AreInStep (other c) f) is (sides_in_step other end c (turned_sides end other sides) k.in_step)))
    (of_class end other sides is k.class k.in_step))
  where
    r : Connection × List Output
    r = event_step ticks c event

    s : Connection × List Output
    s = after_event ticks r

    of_class : (end other : Connection → End) → AreSides end other → end c ≡ owner w → IsOfAClass (class_at c.this) → IsInStep c → IsOfAClass w.class
    of_class end other this_and_that is class step = subst (λ e. IsOfAClass (class_at e)) is class
    of_class end other that_and_this is class step = subst (λ e. IsOfAClass (class_at e)) is (subst IsOfAClass step.1 class)

    users : is_user r.0.that ≡ not (is_user r.0.this)
    users =
        let put = event_place ticks event c in
        kinds r.0 end other sides (put_kind (end c) (end r.0) (of_end StaysPut end other c r.0 sides put) ∙ k.user)
        (put_kind (other c) (other r.0) (of_end StaysPut other end c r.0 (turned_sides end other sides) put) ∙ k.section)

    by_event : SendsReset r.1 ⊎ Tells y w.text (other r.0) (end r.0) r.1 → Step y w.text z (end s.0) s.1
    by_event (inl reset) = absurd (false≢true (sym calm ∙ any_after is_reset ticks r reset))
    by_event (inr tells) =
        let left = after_leaving ticks r in
        let back = turned_sides end other sides in
        let adds = after_adds ticks r users in
        let meets = (sides_in_step other end r.0 back (event_kept ticks event c k.in_step)).0 in
        step_of y z w.text (other r.0) (end r.0) (end s.0) r.1 s.1 (sym (of_end (λ e f. got_at f ≡ got_at e) other end r.0 s.0 back (left.0.got, left.1.got)) ∙ ap got_at after)
        (subst (λ e. SameHead (other r.0) e) after (of_end SameHead other end r.0 s.0 back (after_heads ticks r))) meets
        (text_kept (end r.0) (end s.0) (of_end Keeps end other r.0 s.0 sides adds.0)) adds.1.0 begins tells

-- Along all that is heard.

texts_joined : (a b : List Output) → texts_among (a ++ b) ≡ texts_among a ++ texts_among b
unfolding texts_among
texts_joined a b = flat_map-append text_told a b

texts_none : texts_among [] ≡ []
unfolding texts_among
texts_none = refl

told_along : (ticks : Ticks) (end other : Connection → End) → AreSides end other → (events : List Event) (c : Connection) (texts : List (List ℕ)) (y : Section) → other c ≡ wire y → AllHear ticks c events
    → IsUsers end other c → list_any is_reset (outs_along ticks c events) ≡ false → Told texts y (text_at (end c))
    → AreToldOf (texts ++ texts_among (outs_along ticks c events)) (got_at (other (follow ticks c events)))
unfolding AllHear outs_along follow
told_along ticks end other sides [] c texts y at hear k calm so_far =
    subst (λ e. AreToldOf (texts ++ texts_among []) (got_at e)) (sym at) (subst (λ t. AreToldOf t y.windows.got) (sym (ap (λ (more : List (List ℕ)). texts ++ more) texts_none ∙ append-nil texts)) so_far.first)
told_along ticks end other sides (event ∷ events) c texts y at hear k calm so_far =
    let r = connection_step ticks c event in
    let d = next ticks c event in
    let more = outs_along ticks d events in
    let nones = neither (list_any is_reset r.1) (list_any is_reset more) (sym (list_any-append is_reset r.1 more) ∙ calm) in
    let users = users_step ticks c event end other hear.0 sides k in
    let o = is_owner (end c) k.user in
    let z = is_section (other d) users.section in
    let back = turned_sides end other sides in
    let begins : Begins y.windows.got z.section.windows.got = subst (λ e. Begins (got_at e) z.section.windows.got) at (subst (λ e. Begins (got_at (other c)) (got_at e)) z.is (goes_on ticks c event other end back k.in_step k.class k.early nones.0)) in
    let opens : StaysClosed (wire y) (wire z.section) = subst (λ e. StaysClosed e (wire z.section)) at (subst (λ e. StaysClosed (other c) e) z.is (closed r.1 nones.0 (no_opening ticks c event k.in_step k.class))) in
    let step = step_tells ticks c event end other o.user y z.section sides o.is at z.is k nones.0 begins in
    let after = told_more texts y z.section (text_at (end c)) (end d) r.1 opens begins (subst (λ rest. Step y rest z.section (end d) r.1) (sym (ap text_at o.is)) step) so_far in
    subst (λ t. AreToldOf t (got_at (other (follow ticks d events)))) (append_assoc texts (texts_among r.1) (texts_among more) ∙ ap (λ (t : List (List ℕ)). texts ++ t) (sym (texts_joined r.1 more)))
    (told_along ticks end other sides events d (texts ++ texts_among r.1) z.section z.is hear.1 users nones.1 after)
  where
    closed : (outs : List Output) → list_any is_reset outs ≡ false → SendsReset outs ⊎ (StaysClosed c.this (next ticks c event).this × StaysClosed c.that (next ticks c event).that) → StaysClosed (other c) (other (next ticks c event))
    closed outs calm (inl reset) = absurd (false≢true (sym calm ∙ reset))
    closed outs calm (inr both) = of_end StaysClosed other end c (next ticks c event) (turned_sides end other sides) both

pub units_are_told : UnitsAreTold
units_are_told terms event answer references c events end other u credit opening class sides is calm =
    let k = users_begin terms event answer references c end other credit opening class sides (ap is_user is) in
    let hears = heard terms.ticks c events in
    let b = begins terms (wish_of terms event) answer references c opening in
    let empty = opening_empty terms (wish_of terms event) answer references c opening in
    let y = is_section (other c) k.section in
    let nothing : y.section.windows.got ≡ [] = sym (ap got_at y.is) ∙ at_other end other sides (λ e. got_at e ≡ []) empty.0 empty.1 in
    let no_rest : text_at (end c) ≡ [] = at_end end other sides (λ e. text_at e ≡ []) b.no_rest.0 b.no_rest.1 in
    let is_calm : IsCalm (wire y.section) = subst IsCalm y.is (at_other end other sides IsCalm b.calm.0 b.calm.1) in
    told_along terms.ticks end other sides hears c [] y.section y.is (all_hear terms.ticks c events) k calm (record {
      first = record { units = []; first = record { more = y.section.windows.got; is = refl }; told = refl };
      still = inr (ap joined nothing ∙ ap (λ (rest : List ℕ). record { texts = []; rest = rest }) (sym no_rest));
      calm = is_calm;
    })
  where
    at_end : (end other : Connection → End) → AreSides end other → (P : End → Type 0) → P c.this → P c.that → P (end c)
    at_end end other this_and_that P this that = this
    at_end end other that_and_this P this that = that

    at_other : (end other : Connection → End) → AreSides end other → (P : End → Type 0) → P c.this → P c.that → P (other c)
    at_other end other this_and_that P this that = that
    at_other end other that_and_this P this that = this
