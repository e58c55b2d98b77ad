-- On beginnings of the published list.
use Rattle.std.proofs.Common.{◌≡◌, List, length, true, false, [], ◌∷◌, ◌++◌, refl, sym, ap, ◌∙◌, append_assoc, length-append, arith}
use Rattle.std.proofs.lemmas.List.{append-nil, nil_from_length}
use Rattle.plant_core.specs.declared.change.Group.{Group}
use Rattle.gtt_editions.specs.declared.step.Step.{Step}
use Rattle.gtt_editions.specs.declared.step.Step.TheVariants.{Open, Room, Change as Changed, End}
use Rattle.gtt_editions.specs.Shown.{Shown}
use Rattle.gtt_editions.specs.Published.{Published, Begins}
use Rattle.gtt_editions.specs.Marked.{list_of, marked}

pub begins_refl : (list : Published) → Begins list list
begins_refl list = record { rest = []; longer = sym (append-nil list.changes); closed = λ e. refl }

pub begins_trans : (a b c : Published) → Begins a b → Begins b c → Begins a c
begins_trans a b c ab bc = record {
  rest = bc.rest ++ ab.rest;
  longer = ab.longer ∙ (ap (λ z. z ++ ab.rest) bc.longer ∙ append_assoc c.changes bc.rest ab.rest);
  closed = λ e. ab.closed (ap (λ z. z.ended) (bc.closed e) ∙ e) ∙ bc.closed e;
}

pub marked_begins : (x : Shown) (step : Step) → x.ended ≡ false → Begins (list_of (marked x step)) (list_of x)
marked_begins x Open going = begins_refl (list_of x)
marked_begins x (Room group) going = begins_refl (list_of x)
marked_begins x (Changed group) going = record { rest = group ∷ []; longer = refl; closed = λ e. cc }
marked_begins x End going = record { rest = []; longer = sym (append-nil x.changes); closed = λ e. cc }

-- what comparing shows
pub begins_from : (long short : Shown) → (rest : List Group) × (long.changes ≡ short.changes ++ rest) → (short.ended ≡ true → (long.ended ≡ true) × (length long.changes ≡ length short.changes)) → Begins (list_of long) (list_of short)
begins_from long short tail closed = record {
  rest = tail.0;
  longer = tail.1;
  closed = λ e.
      let none : length tail.0 ≡ 0 = omega (arith, (closed e).1, ap length tail.1, length-append short.changes tail.0) in
      let same : long.changes ≡ short.changes = tail.1 ∙ (ap (λ z. short.changes ++ z) (nil_from_length tail.0 none) ∙ append-nil short.changes) in
      let ends : long.ended ≡ short.ended = (closed e).0 ∙ sym e in λ i. record { changes = same i; ended = ends i };
}
