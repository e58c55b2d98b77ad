-- A legal journal is known by its events, and what it asked.
use Rattle.std.proofs.Common.{◌≡◌, ℕ, ◌+◌, List, [], ◌∷◌, length, pred, Option, refl, sym, ap, ◌∙◌, subst, arith}
use Rattle.std.specs.List.{AllByRecursion}
use Rattle.relay_base.specs.declared.words.Stamp.{Stamp}
use Rattle.relay_base.specs.declared.words.Event.{Event}
use Rattle.relay_base.specs.declared.words.Output.{Output}
use Rattle.plant_core.specs.declared.entry.Asked.{Asked}
use Rattle.plant_core.specs.declared.entry.Entry.{Entry}
use Rattle.plant_core.specs.declared.entry.ControlEntry.{ControlEntry}
use Rattle.plant_core.specs.declared.entry.ControlEvent.{ControlEvent}
use Rattle.plant_core.specs.declared.entry.ControlEvent.TheVariants.{Plain}
use Rattle.plant_core.specs.declared.terms.LaneHead.{LaneHead}
use Rattle.scmg.specs.declared.head.ControlHead.{ControlHead}
use Rattle.scmg.specs.Control as managing
use Rattle.plant_core.specs.Plant.{RoutingData}
use Rattle.data_lane.specs.Legal as legal_data
use Rattle.section_model.specs.Lane as legal_conn
use Rattle.capture_form.specs.Events.{Stamped}
use Rattle.plant_core.specs.Asking.{answer_in}
use Rattle.right_book.specs.Own.{pairs_of, control_pairs_of}
use Rattle.right_book.specs.Lanes.{LanesFrom}

-- the first pairs of equal lists, and the rests
first_same : (x y : Stamp × ControlEvent) (xs ys : Stamped) → x ∷ xs ≡ y ∷ ys → x ≡ y
first_same x y xs ys h = cc

rest_same : (x y : Stamp × ControlEvent) (xs ys : Stamped) → x ∷ xs ≡ y ∷ ys → xs ≡ ys
rest_same x y xs ys h = cc

none_same : (x : Stamp × ControlEvent) (xs : Stamped) → x ∷ xs ≡ [] → ⊥
none_same x xs h = cc

plain_same : (e f : Event) → Plain e ≡ Plain f → e ≡ f
plain_same e f h = cc

-- an entry is its four parts
abbrev control_entry : Stamp → ControlEvent → Option ℕ → List Output → ControlEntry
control_entry stamp event published outs = record { stamp = stamp; event = event; published = published; outs = outs }

control_entry_same : (x y : ControlEntry) → x.stamp ≡ y.stamp → x.event ≡ y.event → x.published ≡ y.published → x.outs ≡ y.outs → x ≡ y
control_entry_same x y a b c d =
    ap (λ s. control_entry s x.event x.published x.outs) a ∙ ap (λ e. control_entry y.stamp e x.published x.outs) b
    ∙ ap (λ p. control_entry y.stamp y.event p x.outs) c ∙ ap (λ o. control_entry y.stamp y.event y.published o) d

abbrev lane_entry : Stamp → Event → Option Asked → List Output → Entry
lane_entry stamp event asked outs = record { stamp = stamp; event = event; asked = asked; outs = outs }

entry_same : (x y : Entry) → x.stamp ≡ y.stamp → x.event ≡ y.event → x.asked ≡ y.asked → x.outs ≡ y.outs → x ≡ y
entry_same x y a b c d =
    ap (λ s. lane_entry s x.event x.asked x.outs) a ∙ ap (λ e. lane_entry y.stamp e x.asked x.outs) b
    ∙ ap (λ p. lane_entry y.stamp y.event p x.outs) c ∙ ap (λ o. lane_entry y.stamp y.event y.asked o) d

-- ---- the control lane

control_same_from : (head : ControlHead) (c : managing.Control) (edition : ℕ) (xs ys : List ControlEntry) → managing.LegalFrom head c edition xs → managing.LegalFrom head c edition ys → control_pairs_of xs ≡ control_pairs_of ys → xs ≡ ys
control_same_from head c edition [] [] f g h = refl
control_same_from head c edition [] (y ∷ ys) f g h = absurd (none_same (y.stamp, y.event) (control_pairs_of ys) (sym h))
control_same_from head c edition (x ∷ xs) [] f g h = absurd (none_same (x.stamp, x.event) (control_pairs_of xs) h)
control_same_from head c edition (x ∷ xs) (y ∷ ys) f g h =
    let pair : (x.stamp, x.event) ≡ (y.stamp, y.event) = first_same (x.stamp, x.event) (y.stamp, y.event) (control_pairs_of xs) (control_pairs_of ys) h in
    let event : x.event ≡ y.event = ap (λ (p : Stamp × ControlEvent). p.1) pair in
    let same : x ≡ y = control_entry_same x y (ap (λ (p : Stamp × ControlEvent). p.0) pair) event
    (f.0.published ∙ ap (λ e. managing.edition_after edition (managing.managed head c e).published) event ∙ sym g.0.published)
    (f.0.outputs ∙ ap (λ e. (managing.managed head c e).outs) event ∙ sym g.0.outputs) in
    let legal : managing.LegalFrom head (managing.after_entry head c x) (managing.count_after edition (managing.managed head c x.event).published) ys =
    subst (λ e. managing.LegalFrom head (managing.managed head c e).control (managing.count_after edition (managing.managed head c e).published) ys) (sym event) g.1 in
    ap (λ e. e ∷ xs) same
    ∙ ap (λ es. y ∷ es) (control_same_from head (managing.after_entry head c x) (managing.count_after edition (managing.managed head c x.event).published) xs ys f.1 legal
    (rest_same (x.stamp, x.event) (y.stamp, y.event) (control_pairs_of xs) (control_pairs_of ys) h))

pub control_same : (head : ControlHead) (start : RoutingData) (xs ys : List ControlEntry) → managing.IsControlJournal head start xs → managing.IsControlJournal head start ys → control_pairs_of xs ≡ control_pairs_of ys → xs ≡ ys
control_same head start xs ys f g h = control_same_from head (managing.start_of_control start) 0 xs ys f g h

-- ---- a lane whose routings are those of each stamp and event

abbrev pub AreAsked : (Stamp → Event → Option Asked) → List Entry → Type 0
AreAsked asks journal = AllByRecursion (λ e. e.asked ≡ asks e.stamp e.event) journal

abbrev Alike : Entry → Entry → Type 0
Alike x y = (x.stamp ≡ y.stamp) × (x.event ≡ y.event) × (x.asked ≡ y.asked)

alike : (asks : Stamp → Event → Option Asked) (x y : Entry) (xs ys : List Entry) → x.asked ≡ asks x.stamp x.event → y.asked ≡ asks y.stamp y.event → pairs_of (x ∷ xs) ≡ pairs_of (y ∷ ys) → Alike x y
alike asks x y xs ys p q h =
    let pair : (x.stamp, Plain x.event) ≡ (y.stamp, Plain y.event) = first_same (x.stamp, Plain x.event) (y.stamp, Plain y.event) (pairs_of xs) (pairs_of ys) h in
    let stamp : x.stamp ≡ y.stamp = ap (λ (p : Stamp × ControlEvent). p.0) pair in
    let event : x.event ≡ y.event = plain_same x.event y.event (ap (λ (p : Stamp × ControlEvent). p.1) pair) in
    (stamp, event, p ∙ ap (λ s. asks s x.event) stamp ∙ ap (λ e. asks y.stamp e) event ∙ sym q)

data_same_from : (asks : Stamp → Event → Option Asked) (head : LaneHead) (number : ℕ) (s : legal_data.State) (xs ys : List Entry) → AreAsked asks xs → AreAsked asks ys
    → legal_data.LegalFrom head number s xs → legal_data.LegalFrom head number s ys → pairs_of xs ≡ pairs_of ys → xs ≡ ys
data_same_from asks head number s [] [] a b f g h = refl
data_same_from asks head number s [] (y ∷ ys) a b f g h = absurd (none_same (y.stamp, Plain y.event) (pairs_of ys) (sym h))
data_same_from asks head number s (x ∷ xs) [] a b f g h = absurd (none_same (x.stamp, Plain x.event) (pairs_of xs) h)
data_same_from asks head number s (x ∷ xs) (y ∷ ys) a b f g h =
    let both : Alike x y = alike asks x y xs ys a.0 b.0 h in
    let step : legal_data.step_of head number s x.event (answer_in x.asked) ≡ legal_data.step_of head number s y.event (answer_in y.asked) =
    ap (λ e. legal_data.step_of head number s e (answer_in x.asked)) both.1 ∙ ap (λ q. legal_data.step_of head number s y.event (answer_in q)) both.2 in
    let same : x ≡ y = entry_same x y both.0 both.1 both.2 (f.0.outputs ∙ ap (λ (t : legal_data.Step). t.outs) step ∙ sym g.0.outputs) in
    let legal : legal_data.LegalFrom head number (legal_data.entry_after head number s x) ys = subst (λ (t : legal_data.Step). legal_data.LegalFrom head number t.after ys) (sym step) g.1 in
    ap (λ e. e ∷ xs) same
    ∙ ap (λ es. y ∷ es) (data_same_from asks head number (legal_data.entry_after head number s x) xs ys a.1 b.1 f.1 legal
    (rest_same (x.stamp, Plain x.event) (y.stamp, Plain y.event) (pairs_of xs) (pairs_of ys) h))

-- legal data journals with equal pairs and equal routings are equal
pub data_same : (asks : Stamp → Event → Option Asked) (head : LaneHead) (number : ℕ) (xs ys : List Entry) → AreAsked asks xs → AreAsked asks ys
    → legal_data.IsDataJournal head number xs → legal_data.IsDataJournal head number ys → pairs_of xs ≡ pairs_of ys → xs ≡ ys
data_same asks head number xs ys a b f g h = data_same_from asks head number legal_data.at_first xs ys a b f g h

conn_same_from : (asks : Stamp → Event → Option Asked) (lane : legal_conn.Lane) (openings : List legal_conn.Opening) (xs ys : List Entry) → AreAsked asks xs → AreAsked asks ys
    → legal_conn.IsLegalFrom lane openings xs → legal_conn.IsLegalFrom lane openings ys → pairs_of xs ≡ pairs_of ys → xs ≡ ys
conn_same_from asks lane openings [] [] a b f g h = refl
conn_same_from asks lane openings [] (y ∷ ys) a b f g h = absurd (none_same (y.stamp, Plain y.event) (pairs_of ys) (sym h))
conn_same_from asks lane openings (x ∷ xs) [] a b f g h = absurd (none_same (x.stamp, Plain x.event) (pairs_of xs) h)
conn_same_from asks lane openings (x ∷ xs) (y ∷ ys) a b f g h =
    let both : Alike x y = alike asks x y xs ys a.0 b.0 h in
    let answer : legal_conn.answer_of x ≡ legal_conn.answer_of y = ap (λ (q : Option Asked). answer_in q) both.2 in
    let outs : legal_conn.legal_outputs lane openings x.event (legal_conn.answer_of x) ≡ legal_conn.legal_outputs lane openings y.event (legal_conn.answer_of y) =
    ap (λ e. legal_conn.legal_outputs lane openings e (legal_conn.answer_of x)) both.1 ∙ ap (λ q. legal_conn.legal_outputs lane openings y.event q) answer in
    let after : legal_conn.openings_after lane openings x.event (legal_conn.answer_of x) ≡ legal_conn.openings_after lane openings y.event (legal_conn.answer_of y) =
    ap (λ e. legal_conn.openings_after lane openings e (legal_conn.answer_of x)) both.1 ∙ ap (λ q. legal_conn.openings_after lane openings y.event q) answer in
    let same : x ≡ y = entry_same x y both.0 both.1 both.2 (f.0.outputs ∙ outs ∙ sym g.0.outputs) in
    ap (λ e. e ∷ xs) same
    ∙ ap (λ es. y ∷ es) (conn_same_from asks lane (legal_conn.openings_after lane openings x.event (legal_conn.answer_of x)) xs ys a.1 b.1 f.1 (subst (λ o. legal_conn.IsLegalFrom lane o ys) (sym after) g.1)
    (rest_same (x.stamp, Plain x.event) (y.stamp, Plain y.event) (pairs_of xs) (pairs_of ys) h))

pub conn_same : (asks : Stamp → Event → Option Asked) (lane : legal_conn.Lane) (xs ys : List Entry) → AreAsked asks xs → AreAsked asks ys
    → legal_conn.IsConnectionJournal lane xs → legal_conn.IsConnectionJournal lane ys → pairs_of xs ≡ pairs_of ys → xs ≡ ys
conn_same asks lane xs ys a b f g h = conn_same_from asks lane [] xs ys a b f g h

-- ---- lanes that are known one by one

pub lanes_same : {A : Type 0} (P : ℕ → A → Type 0) (n : ℕ) (xs ys : List A) → ((k : ℕ) (x y : A) → P k x → P k y → x ≡ y) → length xs ≡ length ys → LanesFrom P n xs → LanesFrom P n ys → xs ≡ ys
lanes_same P n [] [] one l f g = refl
lanes_same P n [] (y ∷ ys) one l f g = absurd (omega (arith, l))
lanes_same P n (x ∷ xs) [] one l f g = absurd (omega (arith, l))
lanes_same P n (x ∷ xs) (y ∷ ys) one l f g =
    ap (λ e. e ∷ xs) (one n x y f.0 g.0) ∙ ap (λ es. y ∷ es) (lanes_same P (n + 1) xs ys one (ap pred l) f.1 g.1)
