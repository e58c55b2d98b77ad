-- Whether a unit is cut hangs on no reference, and nothing hangs on one where it isn't.
use Rattle.std.proofs.Common.{◌≡◌, ℕ, List, [], ◌∷◌, Bool, true, false, if◌then◌else◌, refl, ap, ◌∙◌, Option, Some, None}
use Rattle.std.specs.Prelude.{◌&&◌}
use Rattle.plant_core.specs.declared.answer.Answer.{Answer}
use Rattle.plant_core.specs.declared.answer.Answer.TheVariants.{Local, Forward as Onward, Refused}
use Rattle.plant_core.specs.Plant.{is_among}
use Rattle.plant_core.specs.declared.terms.LaneHead.{LaneHead}
use Rattle.connectionless.specs.declared.segment.Next.{Next}
use Rattle.connectionless.specs.declared.segment.Next.TheVariants.{Done}
use Rattle.connectionless.specs.Unitdata.{Unitdata}
use Rattle.connectionless.specs.Leaving.{is_long}
use Rattle.connectionless.specs.Cutting.{can_be_cut}
use Rattle.connectionless.specs.Given.{Given, Sending, given_outcome, outgoing, whole_output, sent_outputs, is_cut}
use Rattle.connectionless.specs.Routed.{unit_outcome}
use Rattle.connectionless.specs.Asking.{Matter, from_network, from_user, settled, of_tick}
use Rattle.long_interwork.specs.declared.forward.Forward.{Forward}
use Rattle.long_interwork.specs.Shortening.{shortened, is_entire, fits, extended, cutting}
use Rattle.long_interwork.specs.Routed.{routed, routed_by, forward_in, forward_of}
use Rattle.data_lane.specs.Legal.{effect_by}
use Rattle.unit_law.specs.OwnOutputs.{is_cut_by}

-- two outcomes by one choice, of which the third alone differs
abbrev chosen : Bool → Bool → Bool → Sending → Sending → Sending → Sending → Sending
chosen service whole cuttable a b c d = if service then a else if whole then b else if cuttable then c else d

cut_chosen : (service whole cuttable : Bool) (a b c e d : Sending) → c.is_cut ≡ e.is_cut
    → (chosen service whole cuttable a b c d).is_cut ≡ (chosen service whole cuttable a b e d).is_cut
cut_chosen true whole cuttable a b c e d same = refl
cut_chosen false true cuttable a b c e d same = refl
cut_chosen false false true a b c e d same = same
cut_chosen false false false a b c e d same = refl

uncut_chosen : (service whole cuttable : Bool) (a b c e d : Sending) → c.is_cut ≡ true
    → (chosen service whole cuttable a b c d).is_cut ≡ false
    → (chosen service whole cuttable a b c d).outs ≡ (chosen service whole cuttable a b e d).outs
uncut_chosen true whole cuttable a b c e d cut uncut = refl
uncut_chosen false true cuttable a b c e d cut uncut = refl
uncut_chosen false false true a b c e d cut uncut = cc
uncut_chosen false false false a b c e d cut uncut = refl

-- An LUDT or LUDTS for a point that can't take it.

shortened_cut : (own opc sls : ℕ) (to : Forward) (x : Unitdata) (one other : ℕ) → (shortened own opc sls to x one).is_cut ≡ (shortened own opc sls to x other).is_cut
unfolding shortened
shortened_cut own opc sls to x one other =
    cut_chosen x.is_service (is_entire x.segmentation && fits (extended to x)) (is_entire x.segmentation && can_be_cut (cutting sls to x one)) _ _ _ _ _ refl

shortened_uncut : (own opc sls : ℕ) (to : Forward) (x : Unitdata) (one other : ℕ) → (shortened own opc sls to x one).is_cut ≡ false
    → (shortened own opc sls to x one).outs ≡ (shortened own opc sls to x other).outs
unfolding shortened
shortened_uncut own opc sls to x one other uncut =
    uncut_chosen x.is_service (is_entire x.segmentation && fits (extended to x)) (is_entire x.segmentation && can_be_cut (cutting sls to x one)) _ _ _ _ _ refl uncut

-- A message from the network.

by_forward_cut : (to : Option Forward) (own opc sls : ℕ) (x : Unitdata) (answer : Answer) (one other : ℕ)
    → (routed_by to own opc sls x answer one).is_cut ≡ (routed_by to own opc sls x answer other).is_cut
by_forward_cut None own opc sls x answer one other = refl
by_forward_cut (Some to) own opc sls x answer one other = shortened_cut own opc sls to x one other

pub routed_cut : (short : List ℕ) (own opc sls : ℕ) (x : Unitdata) (answer : Answer) (one other : ℕ)
    → (routed short own opc sls x answer one).is_cut ≡ (routed short own opc sls x answer other).is_cut
unfolding routed
routed_cut short own opc sls x answer one other = by_forward_cut (forward_in short opc x answer) own opc sls x answer one other

by_forward_uncut : (to : Option Forward) (own opc sls : ℕ) (x : Unitdata) (answer : Answer) (one other : ℕ)
    → (routed_by to own opc sls x answer one).is_cut ≡ false
    → (routed_by to own opc sls x answer one).outs ≡ (routed_by to own opc sls x answer other).outs
by_forward_uncut None own opc sls x answer one other uncut = refl
by_forward_uncut (Some to) own opc sls x answer one other uncut = shortened_uncut own opc sls to x one other uncut

pub routed_uncut : (short : List ℕ) (own opc sls : ℕ) (x : Unitdata) (answer : Answer) (one other : ℕ)
    → (routed short own opc sls x answer one).is_cut ≡ false
    → (routed short own opc sls x answer one).outs ≡ (routed short own opc sls x answer other).outs
unfolding routed
routed_uncut short own opc sls x answer one other uncut = by_forward_uncut (forward_in short opc x answer) own opc sls x answer one other uncut

-- what is left to do is what it was
by_forward_next : (to : Option Forward) (own opc sls : ℕ) (x : Unitdata) (answer : Answer) (reference : ℕ)
    → (unit_outcome own opc sls x answer).next ≡ Done → (routed_by to own opc sls x answer reference).next ≡ Done
by_forward_next None own opc sls x answer reference done = done
by_forward_next (Some to) own opc sls x answer reference done = refl

pub routed_next : (short : List ℕ) (own opc sls : ℕ) (x : Unitdata) (answer : Answer) (reference : ℕ)
    → (unit_outcome own opc sls x answer).next ≡ Done → (routed short own opc sls x answer reference).next ≡ Done
unfolding routed
routed_next short own opc sls x answer reference done = by_forward_next (forward_in short opc x answer) own opc sls x answer reference done

-- where no point is short, nothing is cut
none_short : (opc : ℕ) (x : Unitdata) (answer : Answer) → forward_in [] opc x answer ≡ None
none_short opc x (Local ssn) = refl
none_short opc x (Refused cause local) = refl
none_short opc x (Onward point rewrite hop) = by_test (is_long x.kind)
  where
    by_test : (long : Bool) → (if long && is_among point [] then Some (forward_of opc point rewrite hop x) else None) ≡ None
    by_test true = refl
    by_test false = refl

pub none_cut : (short : List ℕ) (own opc sls : ℕ) (x : Unitdata) (answer : Answer) (reference : ℕ) → short ≡ [] → (routed short own opc sls x answer reference).is_cut ≡ false
unfolding routed
none_cut short own opc sls x answer reference none =
    rw none (ap (λ to. (routed_by to own opc sls x answer reference).is_cut) (none_short opc x answer))

-- A user's unit.

pub given_cut : (g : Given) (answer : Answer) (one other : ℕ) → (given_outcome g answer one).is_cut ≡ (given_outcome g answer other).is_cut
unfolding given_outcome
given_cut g (Local ssn) one other = refl
given_cut g (Onward point rewrite hop) one other = refl
given_cut g (Refused cause local) one other = refl

pub given_uncut : (g : Given) (answer : Answer) (one other : ℕ) → (given_outcome g answer one).is_cut ≡ false → (given_outcome g answer one).outs ≡ (given_outcome g answer other).outs
unfolding given_outcome sent_outputs whole_output
given_uncut g (Local ssn) one other uncut = refl
given_uncut g (Onward point rewrite hop) one other uncut = rw uncut refl
given_uncut g (Refused cause local) one other uncut = refl

-- An event.

pub matter_uncut : (head : LaneHead) (number other cut uncut : ℕ) (matter : Matter) (answer : Option Answer) → is_cut_by head matter answer ≡ false
    → (effect_by head number cut matter answer).outs ≡ (effect_by head other uncut matter answer).outs
matter_uncut head number other cut uncut (from_network opc sls x question) (Some answer) is =
    routed_uncut head.short head.terms.own opc sls x answer _ _ (cut_as head.short head.terms.own opc sls x answer _ is)
  where
    cut_as : (short : List ℕ) (own opc sls : ℕ) (x : Unitdata) (answer : Answer) (reference : ℕ) → (routed short own opc sls x answer 0).is_cut ≡ false → (routed short own opc sls x answer reference).is_cut ≡ false
    cut_as short own opc sls x answer reference uncut = routed_cut short own opc sls x answer reference 0 ∙ uncut
matter_uncut head number other cut uncut (from_network opc sls x question) None is = refl
matter_uncut head number other cut uncut (from_user g question) (Some answer) is =
    given_uncut g answer _ _ (given_cut g answer _ 0 ∙ is)
matter_uncut head number other cut uncut (from_user g question) None is = refl
matter_uncut head number other cut uncut (settled outs) answer is = refl
matter_uncut head number other cut uncut of_tick answer is = refl
