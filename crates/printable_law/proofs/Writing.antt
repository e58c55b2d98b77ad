-- What is in its ranges may be written.
use Rattle.std.proofs.Common.{ℕ, ◌<◌, ◌^◌, List, [], ◌∷◌, Option, Some, None, arith}
use Rattle.std.specs.Prelude.{IfSome}
use Rattle.std.specs.List.{AllByRecursion}
use Rattle.relay_base.specs.declared.words.Lost.{Lost}
use Rattle.relay_base.specs.declared.words.Lost.TheVariants as lost
use Rattle.relay_base.specs.declared.words.Output.{Output}
use Rattle.relay_base.specs.declared.words.Output.TheVariants as output
use Rattle.relay_base.specs.declared.words.ReadFault.{ReadFault}
use Rattle.relay_base.specs.declared.words.ReadFault.TheVariants as fault
use Rattle.relay_base.specs.declared.words.Tell.{Tell}
use Rattle.relay_base.specs.declared.words.Tell.TheVariants as tell
use Rattle.plant_core.specs.declared.answer.Answer.{Answer}
use Rattle.plant_core.specs.declared.answer.Answer.TheVariants.{Local, Forward, Refused}
use Rattle.plant_core.specs.declared.entry.Asked.{Asked}
use Rattle.plant_core.specs.declared.entry.Entry.{Entry}
use Rattle.plant_core.specs.declared.entry.ControlEntry.{ControlEntry}
use Rattle.printable_law.specs.Written.{IsWritable, AreWritable, AreWritableOutputs, IsWritableEntry, IsWritableControl, AreWritableLanes, optional, of_tell, of_read_fault, of_lost, of_output, of_answer, of_asked, of_published}
use Rattle.printable_law.specs.OctetLaw.{IsOctet, AreOctets, IsSmallFault}
use Rattle.printable_law.specs.Ranges.{IsPoint, IsReference, IsSelection, IsTag, AnswerInRange, TellInRange, LostInRange, OutputInRange, OutputsInRange}
use Rattle.printable_law.specs.BookRanges.{IsEdition, AskedInRange, EntryGiven, ControlGiven, LanesGiven}

-- Numbers: each has fewer than 64 digits.

abbrev HasDigits : ℕ → Type 0
HasDigits n = n < 10 ^ 64

octet : (n : ℕ) → IsOctet n → HasDigits n
octet n small = omega (arith, small)

point : (n : ℕ) → IsPoint n → HasDigits n
point n small = omega (arith, small)

selection : (n : ℕ) → IsSelection n → HasDigits n
selection n small = omega (arith, small)

reference : (n : ℕ) → IsReference n → HasDigits n
reference n small = omega (arith, small)

tag : (n : ℕ) → IsTag n → HasDigits n
tag n small = omega (arith, small)

long : (n : ℕ) → n < 4_294_967_296 → HasDigits n
long n small = omega (arith, small)

-- Outputs.

optional-written : (x : Option (List ℕ)) → IfSome x AreOctets → IsWritable (optional x)
optional-written None are = tt
optional-written (Some octets) are = are

tell-written : (t : Tell) → TellInRange t → AreWritable (of_tell t)
tell-written (tell.Unit class called calling body) h = (octet class h.0, (h.1, (h.2, (h.3, tt))))
tell-written (tell.Notice cause called calling body) h = (octet cause h.0, (h.1, (h.2, (h.3, tt))))
tell-written (tell.Conn mine class credit called calling body) h =
    (reference mine h.0, (octet class h.1, (octet credit h.2, (h.3, (optional-written calling h.4, (optional-written body h.5, tt))))))
tell-written (tell.Named name mine) h = (tag name h.0, (reference mine h.1, tt))
tell-written (tell.NotMade name cause) h = (tag name h.0, (octet cause h.1, tt))
tell-written (tell.Confirm mine class credit called body) h =
    (reference mine h.0, (octet class h.1, (octet credit h.2, (optional-written called h.3, (optional-written body h.4, tt)))))
tell-written (tell.Text mine body) h = (reference mine h.0, (h.1, tt))
tell-written (tell.Expedited mine body) h = (reference mine h.0, (h.1, tt))
tell-written (tell.Renewed mine cause) h = (reference mine h.0, (octet cause h.1, tt))
tell-written (tell.ResetDone mine) h = (reference mine h, tt)
tell-written (tell.Disc mine cause body) h = (reference mine h.0, (octet cause h.1, (optional-written body h.2, tt)))
tell-written (tell.State ssn at up) h = (octet ssn h.0, (point at h.1, tt))
tell-written (tell.Point at up) h = (point at h, tt)
tell-written (tell.Coord at) h = (point at h, tt)
tell-written (tell.Granted at) h = (point at h, tt)
tell-written (tell.Denied at) h = (point at h, tt)
tell-written (tell.No reason) h = tt

fault-written : (f : ReadFault) → IsSmallFault f → AreWritable (of_read_fault f)
fault-written fault.Empty small = tt
fault-written (fault.UnknownType n) small = (octet n small, tt)
fault-written fault.Short small = tt
fault-written (fault.PointerOut place) small = (omega (arith, small), tt)
fault-written (fault.ValueLength name) small = (octet name small, tt)

lost-written : (l : Lost) → LostInRange l → AreWritable (of_lost l)
lost-written (lost.Read f) small = fault-written f small
lost-written (lost.Cause cause) small = (octet cause small, tt)
lost-written _ small = tt

output-written : (o : Output) → OutputInRange o → AreWritable (of_output o)
output-written (output.Sent to sls bytes) h = (point to h.0, (selection sls h.1, (h.2, tt)))
output-written (output.Told ssn t) h = (octet ssn h.0, tell-written t h.1)
output-written (output.Lost l) h = lost-written l h

outputs-written : (outs : List Output) → OutputsInRange outs → AreWritableOutputs outs
outputs-written [] all = tt
outputs-written (o ∷ outs) all = (output-written o all.0, outputs-written outs all.1)

-- Entries.

answer-written : (a : Answer) → AnswerInRange a → AreWritable (of_answer a)
answer-written (Local ssn) h = (octet ssn h, tt)
answer-written (Forward to rewrite hop) h = (point to h.0, tt)
answer-written (Refused cause local) h = tt

asked-written : (asked : Option Asked) → IfSome asked AskedInRange → AreWritable (of_asked asked)
asked-written None h = tt
asked-written (Some asked) h = (h.0, answer-written asked.answer h.1)

published-written : (edition : Option ℕ) → IfSome edition IsEdition → AreWritable (of_published edition)
published-written None h = tt
published-written (Some edition) h = (h, tt)

entry-written : (e : Entry) → EntryGiven e → IsWritableEntry e
entry-written e h =
    ((long e.stamp.phase h.0.phase, (octet e.stamp.link h.0.link, (long e.stamp.line h.0.line, asked-written e.asked h.1))), outputs-written e.outs h.2)

entries-written : (entries : List Entry) → AllByRecursion EntryGiven entries → AllByRecursion IsWritableEntry entries
entries-written [] all = tt
entries-written (e ∷ entries) all = (entry-written e all.0, entries-written entries all.1)

pub lanes-written : (lanes : List (List Entry)) → LanesGiven lanes → AreWritableLanes lanes
lanes-written [] all = tt
lanes-written (entries ∷ lanes) all = (entries-written entries all.0, lanes-written lanes all.1)

control_entry-written : (e : ControlEntry) → ControlGiven e → IsWritableControl e
control_entry-written e h =
    ((long e.stamp.phase h.0.phase, (octet e.stamp.link h.0.link, (long e.stamp.line h.0.line, published-written e.published h.1))), outputs-written e.outs h.2)

pub control-written : (entries : List ControlEntry) → AllByRecursion ControlGiven entries → AllByRecursion IsWritableControl entries
control-written [] all = tt
control-written (e ∷ entries) all = (control_entry-written e all.0, control-written entries all.1)
