-- What a user's end acts upon has the lengths of Q.713.
use Rattle.std.specs.Prelude.{IsTrue}
use Rattle.relay_base.specs.declared.words.Event.{Event}
use Rattle.relay_base.specs.declared.words.Event.TheVariants.{Asked as Requested}
use Rattle.section_model.specs.declared.input.Input.{Input}
use Rattle.section_model.specs.declared.input.Input.TheVariants as input
use Rattle.section_model.specs.Step.{is_in_range}

-- a request is in its ranges
abbrev pub IsRequestInRange : Event → Type 0
IsRequestInRange (Requested ssn r) = IsTrue (is_in_range r)
IsRequestInRange _ = Unit {0}

abbrev pub IsInputInRange : Input → Type 0
IsInputInRange (input.Event event) = IsRequestInRange event.now
IsInputInRange _ = Unit {0}
