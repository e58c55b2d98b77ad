-- Changes that compare as equal are equal, and groups of them too.
use Rattle.std.proofs.Common.{◌≡◌, ◌==◌, ◌&&◌, ℕ, ◌-◌, Bool, true, false, Option, Some, None, List, [], ◌∷◌, ◌++◌, length, take, drop, refl, sym, ap, ◌∙◌}
use mathlib.Core.Bool.{beq}
use lib.Dec.{eqb}
use lib.Pointwise.{pointwise}
use lib.ListN.{replicate, take-append-drop}
use Rattle.std.specs.Option.{option_eq}
use Rattle.std.proofs.lemmas.Bool.{and_parts, eqb-true}
use Rattle.std.proofs.lemmas.List.{append_cancel_right}
use Rattle.relay_base.specs.declared.digits.Digits.{Digits}
use Rattle.relay_base.specs.declared.limits.TheConstants.{MOST_DIGITS}
use Rattle.relay_base.specs.contracts.digits.DigitsPartialEq.TheImpl.{eq-value as digits-eq}
use Rattle.sccp_address.specs.declared.address.Selector.{Selector}
use Rattle.sccp_address.specs.contracts.address.SelectorPartialEq.TheImpl.{eq-value as selector-eq}
use Rattle.gtt_table.specs.declared.row.Entity.{Entity}
use Rattle.gtt_table.specs.declared.row.Row.{Row}
use Rattle.gtt_table.specs.contracts.row.EntityPartialEq.TheImpl.{eq-value as entity-eq}
use Rattle.gtt_table.specs.contracts.row.RowPartialEq.TheImpl.{eq-value as row-eq}
use Rattle.plant_core.specs.declared.change.Change.{Change}
use Rattle.plant_core.specs.declared.change.Change.TheVariants.{AddRow, DelRow, BarPoint, FreePoint, BarSub, FreeSub, LocalUp, LocalDown}
use Rattle.plant_core.specs.contracts.change.ChangePartialEq.TheImpl.{eq-value as change-eq}
use Rattle.plant_core.specs.declared.change.Group.{Group}
use Rattle.plant_core.specs.contracts.change.GroupPartialEq.TheImpl.{eq-value as group-eq}

beq_same : (a b : Bool) → beq a b ≡ true → a ≡ b
beq_same true true e = refl
beq_same true false e = cc
beq_same false true e = cc
beq_same false false e = refl

option_same : {T : Type 0} (E : T → T → Bool) → ((x y : T) → E x y ≡ true → x ≡ y) → (a b : Option T) → option_eq E a b ≡ true → a ≡ b
option_same E same None None e = refl
option_same E same None (Some y) e = cc
option_same E same (Some x) None e = cc
option_same E same (Some x) (Some y) e = ap Some (same x y e)

pub pointwise_same : {T : Type 0} (E : T → T → Bool) → ((x y : T) → E x y ≡ true → x ≡ y) → (xs ys : List T) → pointwise E xs ys ≡ true → xs ≡ ys
pointwise_same E same [] [] e = refl
pointwise_same E same [] (y ∷ ys) e = cc
pointwise_same E same (x ∷ xs) [] e = cc
pointwise_same E same (x ∷ xs) (y ∷ ys) e =
    let parts = and_parts (E x y) (pointwise E xs ys) e in
    let head : x ≡ y = same x y parts.0 in
    let tail : xs ≡ ys = pointwise_same E same xs ys parts.1 in λ i. head i ∷ tail i

digits_same : (c d : Digits) → digits-eq.it c d ≡ true → c ≡ d
digits_same c d e =
    let parts = and_parts (pointwise eqb (c ++ replicate (MOST_DIGITS - length c) 0) (d ++ replicate (MOST_DIGITS - length d) 0)) (length c == length d) e in
    let long : length c ≡ length d = eqb-true (length c) (length d) parts.1 in
    let filled : c ++ replicate (MOST_DIGITS - length c) 0 ≡ d ++ replicate (MOST_DIGITS - length d) 0 = pointwise_same eqb eqb-true _ _ parts.0 in
    append_cancel_right c d (replicate (MOST_DIGITS - length d) 0) (ap (λ n. c ++ replicate (MOST_DIGITS - n) 0) (sym long) ∙ filled)

selector_same : (a b : Selector) → selector-eq.it a b ≡ true → a ≡ b
selector_same a b e =
    let p = and_parts (a.gti == b.gti) _ e in let q = and_parts (a.tt == b.tt) _ p.1 in let r = and_parts (a.np == b.np) (a.nai == b.nai) q.1 in
    let gti : a.gti ≡ b.gti = eqb-true a.gti b.gti p.0 in let type : a.tt ≡ b.tt = eqb-true a.tt b.tt q.0 in
    let np : a.np ≡ b.np = eqb-true a.np b.np r.0 in let nai : a.nai ≡ b.nai = eqb-true a.nai b.nai r.1 in
    λ i. record { gti = gti i; tt = type i; np = np i; nai = nai i }

entity_same : (a b : Entity) → entity-eq.it a b ≡ true → a ≡ b
entity_same a b e =
    let p = and_parts (a.point == b.point) _ e in let q = and_parts (option_eq eqb a.ssn b.ssn) (beq a.on_ssn b.on_ssn) p.1 in
    let point : a.point ≡ b.point = eqb-true a.point b.point p.0 in
    let ssn : a.ssn ≡ b.ssn = option_same eqb eqb-true a.ssn b.ssn q.0 in
    let on_ssn : a.on_ssn ≡ b.on_ssn = beq_same a.on_ssn b.on_ssn q.1 in λ i. record { point = point i; ssn = ssn i; on_ssn = on_ssn i }

row_same : (a b : Row) → row-eq.it a b ≡ true → a ≡ b
row_same a b e =
    let p = and_parts (selector-eq.it a.selector b.selector) _ e in let q = and_parts (digits-eq.it a.prefix b.prefix) _ p.1 in
    let r = and_parts (entity-eq.it a.first b.first) (option_eq entity-eq.it a.second b.second) q.1 in
    let selector : a.selector ≡ b.selector = selector_same a.selector b.selector p.0 in
    let prefix : a.prefix ≡ b.prefix = digits_same a.prefix b.prefix q.0 in
    let first : a.first ≡ b.first = entity_same a.first b.first r.0 in
    let second : a.second ≡ b.second = option_same entity-eq.it entity_same a.second b.second r.1 in
    λ i. record { selector = selector i; prefix = prefix i; first = first i; second = second i }

subsystem_same : (a b c d : ℕ) → (a == b && c == d) ≡ true → (a ≡ b) × (c ≡ d)
subsystem_same a b c d e = let p = and_parts (a == b) (c == d) e in (eqb-true a b p.0, eqb-true c d p.1)

pub change_same : (a b : Change) → change-eq.it a b ≡ true → a ≡ b
change_same (AddRow a) (AddRow b) e = ap AddRow (row_same a b e)
change_same (DelRow a c) (DelRow b d) e =
    let p = and_parts (selector-eq.it a b) (digits-eq.it c d) e in
    let selector : a ≡ b = selector_same a b p.0 in let prefix : c ≡ d = digits_same c d p.1 in λ i. DelRow (selector i) (prefix i)
change_same (BarPoint a) (BarPoint b) e = ap BarPoint (eqb-true a b e)
change_same (FreePoint a) (FreePoint b) e = ap FreePoint (eqb-true a b e)
change_same (BarSub a c) (BarSub b d) e = let p = subsystem_same a b c d e in λ i. BarSub (p.0 i) (p.1 i)
change_same (FreeSub a c) (FreeSub b d) e = let p = subsystem_same a b c d e in λ i. FreeSub (p.0 i) (p.1 i)
change_same (LocalUp a) (LocalUp b) e = ap LocalUp (eqb-true a b e)
change_same (LocalDown a) (LocalDown b) e = ap LocalDown (eqb-true a b e)
change_same a b e = cc

pub group_same : (a b : Group) → group-eq.it a b ≡ true → a ≡ b
group_same a b e = let changes : a.changes ≡ b.changes = pointwise_same change-eq.it change_same a.changes b.changes e in λ i. record { changes = changes i }

-- a list of which a front compares as equal to another begins with it
pub begins_by : (long short : List Group) → pointwise group-eq.it short (take (length short) long) ≡ true → (rest : List Group) × (long ≡ short ++ rest)
begins_by long short e =
    let front : short ≡ take (length short) long = pointwise_same group-eq.it group_same short (take (length short) long) e in
    (drop (length short) long, sym (take-append-drop (length short) long) ∙ ap (λ l. l ++ drop (length short) long) (sym front))
