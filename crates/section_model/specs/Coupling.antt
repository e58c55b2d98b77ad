-- What the ends hand to each other: two connection sections that a relay node couples, or a section and a user (Q.714, 3.1).
use Rattle.std.specs.Prelude.{ℕ, zero, suc, List, [], ◌++◌, fold}
use Rattle.section_model.specs.declared.hand.Acted.{Acted}
use Rattle.section_model.specs.declared.hand.Hand.{Hand}
use Rattle.plant_core.specs.declared.terms.Ticks.{Ticks}
use Rattle.relay_base.specs.declared.words.Output.{Output}
use Rattle.section_model.specs.Ends.{End, Connection, turned}
use Rattle.section_model.specs.Acting.{end_takes}

abbrev pub with_more : List Output → Connection × List Output → Connection × List Output
with_more outs r = (r.0, r.1 ++ outs)

-- the other end takes an effect, and what it hands back goes on in turn
abbrev pub other_takes : (End × Acted → End → Connection × List Output) → Ticks → Connection × List Output → Hand → Connection × List Output
other_takes next ticks r h =
    let done = next (end_takes ticks h r.0.that) r.0.this in (turned done.0, r.1 ++ done.1)

-- This end has acted. The other end takes what is handed over first, then the outputs stand, then it takes the rest; and
-- it may hand back in the same way.
unfoldable pub exchange : ℕ → Ticks → End × Acted → End → Connection × List Output
exchange zero ticks acting that = (record { this = acting.0; that = that }, acting.1.outs)
exchange (suc turns) ticks acting that =
    fold (other_takes (exchange turns ticks) ticks)
    (with_more acting.1.outs (fold (other_takes (exchange turns ticks) ticks) (record { this = acting.0; that = that }, []) acting.1.first))
    acting.1.then

-- what is handed over, and what is handed back: on that nothing more is (`NoHandIsLost`, in Laws)
abbrev pub settles : Ticks → End × Acted → End → Connection × List Output
settles ticks acted that = exchange 2 ticks acted that

-- Parts of a step, one after another, on this end or on the other one.
abbrev pub and_then : (Connection → Connection × List Output) → Connection × List Output → Connection × List Output
and_then part r = let next = part r.0 in (next.0, r.1 ++ next.1)

abbrev pub on_that : (Connection → Connection × List Output) → Connection → Connection × List Output
on_that part c = let r = part (turned c) in (turned r.0, r.1)
