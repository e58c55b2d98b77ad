-- What the lines of a book write as numbers and as octets, and what may be written so.
use Rattle.std.specs.Prelude.{ℕ, ◌<◌, ◌^◌, List, [], ◌∷◌, ◌++◌, Option, Some, None}
use Rattle.std.specs.List.{AllByRecursion, flat_map}
use Rattle.relay_base.specs.declared.words.ReadFault.{ReadFault}
use Rattle.relay_base.specs.declared.words.ReadFault.TheVariants as fault
use Rattle.relay_base.specs.declared.words.Tell.{Tell}
use Rattle.relay_base.specs.declared.words.Tell.TheVariants as tell
use Rattle.relay_base.specs.declared.words.Lost.{Lost}
use Rattle.relay_base.specs.declared.words.Lost.TheVariants as lost
use Rattle.relay_base.specs.declared.words.Output.{Output}
use Rattle.relay_base.specs.declared.words.Output.TheVariants as output
use Rattle.relay_base.specs.declared.words.Stamp.{Stamp}
use Rattle.plant_core.specs.declared.answer.Answer.{Answer}
use Rattle.plant_core.specs.declared.answer.Answer.TheVariants as answer
use Rattle.plant_core.specs.declared.entry.Asked.{Asked}
use Rattle.plant_core.specs.declared.entry.Entry.{Entry}
use Rattle.plant_core.specs.declared.entry.ControlEntry.{ControlEntry}
use Rattle.journal_text.specs.declared.book.Book.{Book}

pub data Written : Type 0 where
  Number : ℕ → Written
  Octets : List ℕ → Written

-- a number of at most 64 digits, and octets
abbrev pub IsWritable : Written → Type 0
IsWritable (Number n) = n < 10 ^ 64
IsWritable (Octets bs) = AllByRecursion (λ b. b < 256) bs

abbrev pub AreWritable : List Written → Type 0
AreWritable all = AllByRecursion IsWritable all

abbrev pub optional : Option (List ℕ) → Written
optional None = Octets []
optional (Some bs) = Octets bs

abbrev pub of_tell : Tell → List Written
of_tell (tell.Unit class called calling body) = Number class ∷ Octets called ∷ Octets calling ∷ Octets body ∷ []
of_tell (tell.Notice cause called calling body) = Number cause ∷ Octets called ∷ Octets calling ∷ Octets body ∷ []
of_tell (tell.Conn mine class credit called calling body) = Number mine ∷ Number class ∷ Number credit ∷ Octets called ∷ optional calling ∷ optional body ∷ []
of_tell (tell.Named tag mine) = Number tag ∷ Number mine ∷ []
of_tell (tell.NotMade tag cause) = Number tag ∷ Number cause ∷ []
of_tell (tell.Confirm mine class credit called body) = Number mine ∷ Number class ∷ Number credit ∷ optional called ∷ optional body ∷ []
of_tell (tell.Text mine body) = Number mine ∷ Octets body ∷ []
of_tell (tell.Expedited mine body) = Number mine ∷ Octets body ∷ []
of_tell (tell.Renewed mine cause) = Number mine ∷ Number cause ∷ []
of_tell (tell.ResetDone mine) = Number mine ∷ []
of_tell (tell.Disc mine cause body) = Number mine ∷ Number cause ∷ optional body ∷ []
of_tell (tell.State ssn point up) = Number ssn ∷ Number point ∷ []
of_tell (tell.Point point up) = Number point ∷ []
of_tell (tell.Coord point) = Number point ∷ []
of_tell (tell.Granted point) = Number point ∷ []
of_tell (tell.Denied point) = Number point ∷ []
of_tell (tell.No reason) = []

abbrev pub of_read_fault : ReadFault → List Written
of_read_fault (fault.UnknownType octet) = Number octet ∷ []
of_read_fault (fault.PointerOut place) = Number place ∷ []
of_read_fault (fault.ValueLength name) = Number name ∷ []
of_read_fault _ = []

abbrev pub of_lost : Lost → List Written
of_lost (lost.Read fault) = of_read_fault fault
of_lost (lost.Cause cause) = Number cause ∷ []
of_lost _ = []

abbrev pub of_output : Output → List Written
of_output (output.Sent point sls bytes) = Number point ∷ Number sls ∷ Octets bytes ∷ []
of_output (output.Told ssn tell) = Number ssn ∷ of_tell tell
of_output (output.Lost lost) = of_lost lost

abbrev pub of_outputs : List Output → List Written
of_outputs outs = flat_map of_output outs

abbrev pub of_stamp : Stamp → List Written
of_stamp stamp = Number stamp.phase ∷ Number stamp.link ∷ Number stamp.line ∷ []

abbrev pub of_answer : Answer → List Written
of_answer (answer.Local ssn) = Number ssn ∷ []
of_answer (answer.Forward dpc rewrite hop) = Number dpc ∷ []
of_answer (answer.Refused cause local) = []

abbrev pub of_asked : Option Asked → List Written
of_asked None = []
of_asked (Some asked) = Number asked.edition ∷ of_answer asked.answer

abbrev pub of_published : Option ℕ → List Written
of_published None = []
of_published (Some edition) = Number edition ∷ []

abbrev pub of_heading : Entry → List Written
of_heading e = of_stamp e.stamp ++ of_asked e.asked

abbrev pub of_control_heading : ControlEntry → List Written
of_control_heading e = of_stamp e.stamp ++ of_published e.published

-- ---- books

abbrev pub AreWritableOutputs : List Output → Type 0
AreWritableOutputs outs = AllByRecursion (λ o. AreWritable (of_output o)) outs

abbrev pub IsWritableEntry : Entry → Type 0
IsWritableEntry e = AreWritable (of_heading e) × AreWritableOutputs e.outs

abbrev pub IsWritableControl : ControlEntry → Type 0
IsWritableControl e = AreWritable (of_control_heading e) × AreWritableOutputs e.outs

abbrev pub AreWritableLanes : List (List Entry) → Type 0
AreWritableLanes lanes = AllByRecursion (λ (entries : List Entry). AllByRecursion IsWritableEntry entries) lanes

-- each number that its lines write has at most 64 digits, and what they write as octets are octets
pub record IsPrintable (book : Book) : Type 0 where
  pub control : AllByRecursion IsWritableControl book.control
  pub conns : AreWritableLanes book.conns
  pub units : AreWritableLanes book.units
