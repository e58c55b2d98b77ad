-- What came in at a section, of all that was sent to it.
use Rattle.std.proofs.Common.{◌≡◌, ℕ, Bool, true, false, List, [], ◌∷◌, ◌++◌, refl, sym, ◌∙◌, ap, append_assoc, append-nil}
use Rattle.std.proofs.lemmas.Bool.{false≢true}
use Rattle.section_model.specs.Ends.{DataUnit, Section}
use Rattle.hop_law.specs.Units.{units_for}
use Rattle.hop_law.specs.TextLaw.{Begins}
use Rattle.hop_law.specs.ClosingLaw.{may_take}
use Rattle.hop_law.specs.Waiting.{Waiting, units_waiting}
use Rattle.hop_law.proofs.Queued.{waiting_joined}
use Rattle.hop_law.proofs.Queues.{nothing_more, first_waits}

-- What came in begins what was sent for the reference, and while the section may take units the rest waits.
pub record Counted (reference : ℕ) (r : Section) (sent : List DataUnit) (queue : List Waiting) : Type 0 where
  pub begins : Begins r.windows.got sent
  pub rest : may_take r.head.state ≡ true → sent ≡ r.windows.got ++ units_waiting reference queue

pub counted_sent : (reference : ℕ) (r : Section) (sent : List DataUnit) (queue more : List Waiting) → Counted reference r sent queue
    → Counted reference r (sent ++ units_waiting reference more) (queue ++ more)
counted_sent reference r sent queue more k =
    let units = units_waiting reference more in record {
      begins = record { more = k.begins.more ++ units; is = ap (λ (l : List DataUnit). l ++ units) k.begins.is ∙ append_assoc r.windows.got k.begins.more units };
      rest = λ may.
          ap (λ (l : List DataUnit). l ++ units) (k.rest may)
          ∙ (append_assoc r.windows.got (units_waiting reference queue) units ∙ ap (λ (l : List DataUnit). r.windows.got ++ l) (sym (waiting_joined reference queue more)));
    }

pub counted_joined : (reference : ℕ) (r : Section) (sent : List DataUnit) (queue more : List Waiting) → units_waiting reference more ≡ [] → Counted reference r sent queue
    → Counted reference r sent (queue ++ more)
counted_joined reference r sent queue more none k = record {
  begins = k.begins;
  rest = λ may. k.rest may ∙ ap (λ (l : List DataUnit). r.windows.got ++ l) (sym (nothing_more reference queue more none));
}

pub counted_still : (reference : ℕ) (r later : Section) (sent : List DataUnit) (queue : List Waiting) → later.windows.got ≡ r.windows.got
    → (may_take later.head.state ≡ true → may_take r.head.state ≡ true) → Counted reference r sent queue → Counted reference later sent queue
counted_still reference r later sent queue same opens k = record {
  begins = record { more = k.begins.more; is = k.begins.is ∙ ap (λ (l : List DataUnit). l ++ k.begins.more) (sym same) };
  rest = λ may. k.rest (opens may) ∙ ap (λ (l : List DataUnit). l ++ units_waiting reference queue) (sym same);
}

-- the first message arrives
pub counted_taken : (reference : ℕ) (r later : Section) (sent units : List DataUnit) (m : Waiting) (queue : List Waiting) → later.windows.got ≡ r.windows.got ++ units
    → (may_take later.head.state ≡ true → may_take r.head.state ≡ true)
    → (may_take r.head.state ≡ true → units ≡ units_for reference m.bytes) → (may_take r.head.state ≡ false → units ≡ [])
    → Counted reference r sent (m ∷ queue) → Counted reference later sent queue
counted_taken reference r later sent units m queue comes opens taken shut k = by_test (may_take r.head.state) refl
  where
    all_sent : may_take r.head.state ≡ true → sent ≡ later.windows.got ++ units_waiting reference queue
    all_sent may =
        k.rest may
        ∙ (ap (λ (l : List DataUnit). r.windows.got ++ l) (first_waits reference m queue ∙ ap (λ (l : List DataUnit). l ++ units_waiting reference queue) (sym (taken may)))
        ∙ (sym (append_assoc r.windows.got units (units_waiting reference queue)) ∙ ap (λ (l : List DataUnit). l ++ units_waiting reference queue) (sym comes)))

    by_test : (b : Bool) → may_take r.head.state ≡ b → Counted reference later sent queue
    by_test true may = record { begins = record { more = units_waiting reference queue; is = all_sent may }; rest = λ later. all_sent may }
    by_test false not = record {
      begins = record {
        more = k.begins.more;
        is = k.begins.is ∙ ap (λ (l : List DataUnit). l ++ k.begins.more) (sym (comes ∙ rw (shut not) (append-nil r.windows.got)));
      };
      rest = λ may. absurd (false≢true (sym not ∙ opens may));
    }

-- where nothing came in: nothing was sent, or all of it waits
pub counted_none : (reference : ℕ) (r : Section) (sent : List DataUnit) (queue : List Waiting) → r.windows.got ≡ [] → sent ≡ [] → units_waiting reference queue ≡ []
    → Counted reference r sent queue
counted_none reference r sent queue none unsent empty =
    record { begins = record { more = []; is = unsent ∙ sym (ap (λ (l : List DataUnit). l ++ []) none) }; rest = λ may. rw (none, unsent, empty) refl }

pub counted_all : (reference : ℕ) (r : Section) (sent : List DataUnit) (queue : List Waiting) → r.windows.got ≡ [] → sent ≡ units_waiting reference queue
    → Counted reference r sent queue
counted_all reference r sent queue none all = record {
  begins = record { more = sent; is = sym (ap (λ (l : List DataUnit). l ++ sent) none) };
  rest = λ may. all ∙ sym (ap (λ (l : List DataUnit). l ++ units_waiting reference queue) none);
}
