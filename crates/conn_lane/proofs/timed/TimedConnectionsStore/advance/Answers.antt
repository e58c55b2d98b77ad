use Rattle.std.proofs.Common.{◌≡◌, ◌+◌, length, false, sym, subst, ap, ap₂, ◌∙◌, arith}
use Rattle.std.proofs.lemmas.List.{length-set}
use Rattle.timer_wheel.specs.Timers.{Timers, due_now}
use Rattle.conn_journal.specs.Inner.Ticking.{put_lives, AllAreKept}
use Rattle.conn_journal.specs.Inner.Waking.{is_next, AllWoken}
use Rattle.conn_lane.specs.Inner.Wheels.{is_due}
use Rattle.conn_journal.proofs.Puts.{kept_within}
use Rattle.conn_lane.proofs.Wakings.{next_timed}
use Rattle.conn_lane.proofs.Wheels.{tick_length}
use Rattle.conn_lane.proofs.Woken.{AreTimed, tick_timed}
use Rattle.conn_lane.proofs.timed.TimedConnectionsStore.advance.Goals as goal

pub loop-next-init : goal.loop-next-init
loop-next-init c =
    let i = c.self.inside in
    let nexts = c.args.nexts.items in
    let items = c.into_iter-next-iterator.ensures.into_iter_gives.0 in
    let later = ap (λ (v : Timers). v.armed) c.advance.ensures in
    record {
      may_go_on = tt;
      ends = tt;
      taken = ap (λ v. v.taken + 1) c.self.view_is;
      alive = subst (λ xs. AllAreKept xs i.kept.kept) (sym items) (subst (λ v. AllAreKept nexts v.connections.kept) (sym c.self.view_is) c.requires.alive);
      same = ap₂ put_lives items (ap (λ v. v.connections.kept) c.self.view_is);
      count = omega (arith, c.requires.opened, ap (λ v. length v.connections.kept) c.self.view_is);
      timed = subst (λ xs. AreTimed (λ n. is_next n xs ≡ false) (i.taken + 1) i.kept.kept c.advance.new.self.armed) (sym items)
          (subst (AreTimed (λ n. is_next n nexts ≡ false) (i.taken + 1) i.kept.kept) (sym later)
          (tick_timed i.taken i.kept.kept nexts i.wheel.armed (subst (λ v. AllWoken (λ n. is_due n (due_now v.wheel.armed)) v.connections.kept nexts) (sym c.self.view_is) c.requires.woken) c.self.invariant));
      room = omega (
        arith,
        c.requires.room.1,
        ap (λ v. length v.wheel.armed) c.self.view_is,
        ap (λ v. v.wheel.room) c.self.view_is,
        ap (λ xs. length xs) items,
        ap (λ (v : Timers). length v.armed) c.advance.ensures,
        ap (λ (v : Timers). v.room) c.advance.ensures,
        tick_length i.wheel.armed,
      );
    }

pub put-requires-clause-number : goal.put-requires-clause-number
put-requires-clause-number c =
    let can = subst (λ xs. AllAreKept xs c.loop-next.self-inside.kept.kept) c.in-Some.ensures.steps.0 c.loop-next.invariant.alive in
    omega (arith, c.loop-next.invariant.count, kept_within c.loop-next.self-inside.kept.kept c.in-Some.next.number can.0)

pub put-requires-clause-alive : goal.put-requires-clause-alive
put-requires-clause-alive c = (subst (λ xs. AllAreKept xs c.loop-next.self-inside.kept.kept) c.in-Some.ensures.steps.0 c.loop-next.invariant.alive).0

pub put-requires-clause-left : goal.put-requires-clause-left
put-requires-clause-left c = c.loop-next.invariant.timed.left c.in-Some.next.number

pub put-requires-clause-room : goal.put-requires-clause-room
put-requires-clause-room c = omega (arith, c.loop-next.invariant.room, ap (λ xs. length xs) c.in-Some.ensures.steps.0)

pub loop-next-preserved : goal.loop-next-preserved
loop-next-preserved c =
    let i = c.loop-next.self-inside in
    let next = c.in-Some.next in
    let steps = c.in-Some.ensures.steps.0 in
    let rest = c.next.new.self.rest.items in
    let can = subst (λ xs. AllAreKept xs i.kept.kept) steps c.loop-next.invariant.alive in
    record {
      may_go_on = tt;
      ends = tt;
      taken = c.loop-next.invariant.taken;
      alive = subst (AllAreKept rest) (sym c.put.ensures.kept) can.1;
      same = ap (put_lives rest) c.put.ensures.kept ∙ (ap (λ xs. put_lives xs i.kept.kept) (sym steps) ∙ c.loop-next.invariant.same);
      count = omega (arith, c.loop-next.invariant.count, ap (λ xs. length xs) c.put.ensures.kept, length-set i.kept.kept next.number next.one);
      timed = subst (λ k. AreTimed (λ n. is_next n rest ≡ false) i.taken k c.put.new.wheel.armed) (sym c.put.ensures.kept)
          (next_timed i.taken next rest i.kept.kept i.wheel.armed c.put.new.wheel.armed (kept_within i.kept.kept next.number can.0) c.put.ensures.set
          (subst (λ xs. AreTimed (λ n. is_next n xs ≡ false) i.taken i.kept.kept i.wheel.armed) steps c.loop-next.invariant.timed));
      room = omega (arith, c.loop-next.invariant.room, ap (λ xs. length xs) steps, c.put.ensures.set.few, c.put.ensures.room);
    }
