use Rattle.std.proofs.Common.{rules, ◌-◌, ◌<◌, ◌≡◌, List, ◌++◌, fold, length, get_or, sym, subst}
use Rattle.relay_base.specs.declared.words.Output.{Output}
use Rattle.section_model.specs.declared.hand.Acted.{Acted}
use Rattle.section_model.specs.Coupling.{exchange, other_takes}
use Rattle.section_model.specs.Laws.{hands_of}
use Rattle.section_coupling.specs.Sound.{SoundActed, AreOfWhatCame}
use Rattle.section_coupling.specs.Views.{end_by, ends_by, standing, behind}
use Rattle.section_coupling.proofs.Composed.{on-ok}
use Rattle.section_coupling.proofs.Exchanging.{acted_of, whole, exchanged, no_turn}
use Rattle.section_coupling.proofs.HandsCome.{first-come, rest-left, taken-left, offered-left, offered-more, hands-left}
use Rattle.section_coupling.proofs.coupling.+exchange.Goals as goal

pub exchange-offer-requires : goal.exchange-offer-requires
exchange-offer-requires t c =
    let clock = c.args.clock.now in
    let parts = c.into_parts-first.result in
    let is : c.args.acted ≡ acted_of parts = sym (whole c.args.acted parts c.into_parts-first.ensures) in
    let sound : SoundActed (acted_of parts) = subst SoundActed is c.requires.acted in
    let left : AreOfWhatCame (end_by clock c.args.this.now) (parts.0 ++ parts.2) (end_by clock c.args.that.now) = subst (λ (a : Acted). AreOfWhatCame (end_by clock c.args.this.now) (hands_of a) (end_by clock c.args.that.now)) is c.requires.left in
    (search rules, (c.requires.sound, (sound.0, first-come (end_by clock c.args.this.now) (end_by clock c.args.that.now) parts.0 parts.2 left)))

pub exchange-offer-requires-2 : goal.exchange-offer-requires-2
exchange-offer-requires-2 t c =
    let clock = c.args.clock.now in
    let parts = c.into_parts-first.result in
    let is : c.args.acted ≡ acted_of parts = sym (whole c.args.acted parts c.into_parts-first.ensures) in
    let sound : SoundActed (acted_of parts) = subst SoundActed is c.requires.acted in
    let left : AreOfWhatCame (end_by clock c.args.this.now) (parts.0 ++ parts.2) (end_by clock c.args.that.now) = subst (λ (a : Acted). AreOfWhatCame (end_by clock c.args.this.now) (hands_of a) (end_by clock c.args.that.now)) is c.requires.left in (
      search rules,
      (
        c.in_ok-offer.ensures.sound,
        (
          sound.1,
          rest-left (c.args.turns - 1) clock.ticks parts.0 parts.2 (ends_by clock c.args.this.now c.args.that.now) _ _ left c.in_ok-offer.ensures.offered,
        ),
      ),
    )

pub offer-exchange-requires : goal.offer-exchange-requires
offer-exchange-requires t c =
    let clock = c.args.clock.now in
    let within : c.loop-hand.hand-index < length c.args.hands.now = subst (λ hs. c.loop-hand.hand-index < length hs) c.as_slice-hand-items.ensures c.loop-hand-test.true in
    let hand = c.hand-item.result in
    let is : hand ≡ get_or c.args.hands.now c.loop-hand.hand-index hand = subst (λ hs. hand ≡ get_or hs c.loop-hand.hand-index hand) c.as_slice-hand-items.ensures c.hand-item.is in (
      search rules,
      (
        (c.in_ok-acted.ensures.sound.0, c.loop-hand.invariant.sound.0),
        (
          c.in_ok-acted.ensures.sound.1,
          taken-left clock.ticks c.args.hands.now c.loop-hand.hand-index hand (ends_by clock c.loop-hand.this c.loop-hand.that) _ within c.loop-hand.invariant.left is c.in_ok-acted.ensures.takes,
        ),
      ),
    )

pub offer-loop-hand-preserved : goal.offer-loop-hand-preserved
offer-loop-hand-preserved t c =
    let clock = c.args.clock.now in
    let within : c.loop-hand.hand-index < length c.args.hands.now = subst (λ hs. c.loop-hand.hand-index < length hs) c.as_slice-hand-items.ensures c.loop-hand-test.true in
    let hand = c.hand-item.result in
    let is : hand ≡ get_or c.args.hands.now c.loop-hand.hand-index hand = subst (λ hs. hand ≡ get_or hs c.loop-hand.hand-index hand) c.as_slice-hand-items.ensures c.hand-item.is in
    let before = ends_by clock c.loop-hand.this c.loop-hand.that in
    let back = ends_by clock c.exchange.new.this c.exchange.new.that in record {
      same = offered-more c.args.turns clock.ticks before back c.loop-hand.outs c.exchange.new.outs c.args.hands.now c.loop-hand.hand-index hand (end_by clock c.take.new.self, c.in_ok-acted.acted) _ within is
          c.in_ok-acted.ensures.takes c.in_ok-exchange.ensures.exchanged c.loop-hand.invariant.same;
      sound = (c.in_ok-exchange.ensures.sound.1, c.in_ok-exchange.ensures.sound.0);
      hands = hands-left c.args.hands.now c.loop-hand.hand-index hand within c.loop-hand.invariant.hands;
      left = offered-left c.args.turns clock.ticks before back c.loop-hand.outs c.exchange.new.outs c.args.hands.now c.loop-hand.hand-index hand (end_by clock c.take.new.self, c.in_ok-acted.acted) within is
          c.in_ok-acted.ensures.takes c.in_ok-exchange.ensures.exchanged c.loop-hand.invariant.left;
    }

pub exchange-returns-clause-exchanged : goal.exchange-returns-clause-exchanged
exchange-returns-clause-exchanged t c =
    let clock = c.args.clock.now in
    let this = end_by clock c.args.this.now in
    let that = end_by clock c.args.that.now in
    let given = ends_by clock c.offer.new.this c.offer.new.that in
    let last = standing clock c.offer-2.new.this c.offer-2.new.that c.offer-2.new.outs in
    let parts = c.into_parts-first.result in
    on-ok c.offer-2.result (λ e. subst (λ (a : Acted). behind c.args.outs.now (exchange c.args.turns clock.ticks (this, a) that) ≡ last) (whole c.args.acted parts c.into_parts-first.ensures)
    (exchanged c.args.turns clock.ticks (this, acted_of parts) that c.args.outs.now (standing clock c.offer.new.this c.offer.new.that c.offer.new.outs) last c.if-turns-eq0.false c.in_ok-offer.ensures.offered
    (subst (λ (all : List Output). fold (other_takes (exchange (c.args.turns - 1) clock.ticks) clock.ticks) (given, all) parts.2 ≡ last) c.in_ok-append.ensures.ok e))) c.offer-2.ensures.offered

pub exchange-returns-then-turns-eq0-clause-exchanged : goal.exchange-returns-then-turns-eq0-clause-exchanged
exchange-returns-then-turns-eq0-clause-exchanged t c =
    let clock = c.args.clock.now in
    let parts = c.into_parts-first.result in
    on-ok c.append.result (λ e. no_turn c.args.turns clock.ticks (end_by clock c.args.this.now, c.args.acted) (end_by clock c.args.that.now) c.args.outs.now c.append.new.self c.if-turns-eq0.true
    (subst (λ (a : Acted). c.append.new.self ≡ c.args.outs.now ++ a.outs) (whole c.args.acted parts c.into_parts-first.ensures) e)) c.append.ensures.ok
