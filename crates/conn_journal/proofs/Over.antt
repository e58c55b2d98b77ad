-- A connection that is over hears nothing.
use Rattle.std.proofs.Common.{◌≡◌, ℕ, ◌==◌, ◌&&◌, Bool, true, false, Option, Some, None, refl}
use Rattle.relay_base.specs.declared.words.Event.{Event}
use Rattle.relay_base.specs.declared.words.Event.TheVariants.{Message as Arrived, Asked as Requested, Tick}
use Rattle.section_model.specs.Ends.{End, wire, owner, Connection}
use Rattle.section_model.specs.Parameters.{arrival_in}
use Rattle.section_model.specs.Step.{hears, names, named, is_named, is_in_range, destination_of, end_is_gone, is_over}

and_no : (b : Bool) → (b && false) ≡ false
and_no true = refl
and_no false = refl

and_first : (a b : Bool) → (a && b) ≡ true → a ≡ true
and_first true b both = refl
and_first false b both = both

and_second : (a b : Bool) → (a && b) ≡ true → b ≡ true
and_second true b both = both
and_second false b both = cc

gone_unnamed : (reference : ℕ) (end : End) → end_is_gone end ≡ true → is_named reference end ≡ false
gone_unnamed reference (wire x) gone = rw gone (and_no (x.head.mine == reference))
gone_unnamed reference (owner u) gone = refl

over_unnamed : (reference : Option ℕ) (c : Connection) → is_over c ≡ true → names reference c ≡ false
over_unnamed None c over = refl
over_unnamed (Some reference) c over =
    rw (
      gone_unnamed reference c.this (and_first (end_is_gone c.this) (end_is_gone c.that) over),
      gone_unnamed reference c.that (and_second (end_is_gone c.this) (end_is_gone c.that) over),
    ) refl

pub over_is_deaf : (c : Connection) (event : Event) → is_over c ≡ true → hears c event ≡ false
unfolding hears
over_is_deaf c (Arrived point sls bytes) over = over_unnamed (destination_of (arrival_in bytes)) c over
over_is_deaf c (Requested ssn r) over = rw (over_unnamed (named r) c over) (and_no (is_in_range r))
over_is_deaf c Tick over = rw over refl

pub over_this : (c : Connection) → is_over c ≡ true → end_is_gone c.this ≡ true
over_this c over = and_first (end_is_gone c.this) (end_is_gone c.that) over

pub over_that : (c : Connection) → is_over c ≡ true → end_is_gone c.that ≡ true
over_that c over = and_second (end_is_gone c.this) (end_is_gone c.that) over
