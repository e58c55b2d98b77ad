-- The texts of a journal: a book as it is written, entry after entry. Numbers are decimal, octets lower-case hex, and an empty or absent list is a dash.
use Rattle.std.specs.Prelude.{ℕ, ◌+◌, codes, Bool, true, false, List, [], ◌∷◌, ◌++◌, Option, Some, None}
use Rattle.std.specs.List.{flat_map, join_with_byte}
use Rattle.std.specs.Fmt.{decimal}
use Rattle.hex.specs.Hex.{encode_lower}
use Rattle.relay_base.specs.declared.words.Reason.{Reason}
use Rattle.relay_base.specs.declared.words.Reason.TheVariants as reason
use Rattle.relay_base.specs.declared.words.ReadFault.{ReadFault}
use Rattle.relay_base.specs.declared.words.ReadFault.TheVariants as fault
use Rattle.relay_base.specs.declared.words.Tell.{Tell}
use Rattle.relay_base.specs.declared.words.Tell.TheVariants as tell
use Rattle.relay_base.specs.declared.words.Lost.{Lost}
use Rattle.relay_base.specs.declared.words.Lost.TheVariants as lost
use Rattle.relay_base.specs.declared.words.Output.{Output}
use Rattle.relay_base.specs.declared.words.Output.TheVariants as output
use Rattle.relay_base.specs.declared.words.Stamp.{Stamp}
use Rattle.plant_core.specs.declared.answer.RouteCause.{RouteCause}
use Rattle.plant_core.specs.declared.answer.RouteCause.TheVariants as cause
use Rattle.plant_core.specs.declared.answer.Answer.{Answer}
use Rattle.plant_core.specs.declared.answer.Answer.TheVariants as answer
use Rattle.plant_core.specs.declared.entry.Asked.{Asked}
use Rattle.plant_core.specs.declared.entry.Entry.{Entry}
use Rattle.plant_core.specs.declared.entry.ControlEntry.{ControlEntry}
use Rattle.journal_text.specs.declared.book.Book.{Book}

-- words with a space between them
abbrev pub spaced : List (List ℕ) → List ℕ
spaced words = join_with_byte 32 words

abbrev pub octets_text : List ℕ → List ℕ
octets_text [] = codes "-"
octets_text (b ∷ bs) = encode_lower (b ∷ bs)

abbrev pub optional_text : Option (List ℕ) → List ℕ
optional_text None = codes "-"
optional_text (Some octets) = octets_text octets

abbrev pub up_text : Bool → List ℕ
up_text true = codes "in"
up_text false = codes "out"

abbrev pub reason_text : Reason → List ℕ
reason_text reason.Owner = codes "owner"
reason_text reason.State = codes "state"
reason_text reason.Class = codes "class"
reason_text reason.Full = codes "full"
reason_text reason.Expedited = codes "expedited"
reason_text reason.Unknown = codes "unknown"
reason_text reason.Replicate = codes "replicate"

-- a word, a number, two addresses and data
abbrev pub unit_text : List ℕ → ℕ → List ℕ → List ℕ → List ℕ → List ℕ
unit_text word number called calling body = spaced (word ∷ decimal number ∷ octets_text called ∷ octets_text calling ∷ octets_text body ∷ [])

-- a word, the reference of a connection, and data that it carries
abbrev pub data_text : List ℕ → ℕ → List ℕ → List ℕ
data_text word mine body = spaced (word ∷ decimal mine ∷ octets_text body ∷ [])

abbrev pub tell_text : Tell → List ℕ
tell_text (tell.Unit class called calling body) = unit_text (codes "unit") class called calling body
tell_text (tell.Notice cause called calling body) = unit_text (codes "notice") cause called calling body
tell_text (tell.Conn mine class credit called calling body) = spaced (codes "conn" ∷ decimal mine ∷ decimal class ∷ decimal credit ∷ octets_text called ∷ optional_text calling ∷ optional_text body ∷ [])
tell_text (tell.Named tag mine) = spaced (codes "ref" ∷ decimal tag ∷ decimal mine ∷ [])
tell_text (tell.NotMade tag cause) = spaced (codes "not-made" ∷ decimal tag ∷ decimal cause ∷ [])
tell_text (tell.Confirm mine class credit called body) = spaced (codes "confirm" ∷ decimal mine ∷ decimal class ∷ decimal credit ∷ optional_text called ∷ optional_text body ∷ [])
tell_text (tell.Text mine body) = data_text (codes "text") mine body
tell_text (tell.Expedited mine body) = data_text (codes "ed") mine body
tell_text (tell.Renewed mine cause) = spaced (codes "reset" ∷ decimal mine ∷ decimal cause ∷ [])
tell_text (tell.ResetDone mine) = spaced (codes "reset-done" ∷ decimal mine ∷ [])
tell_text (tell.Disc mine cause body) = spaced (codes "disc" ∷ decimal mine ∷ decimal cause ∷ optional_text body ∷ [])
tell_text (tell.State ssn point up) = spaced (codes "state" ∷ decimal ssn ∷ decimal point ∷ up_text up ∷ [])
tell_text (tell.Point point up) = spaced (codes "point" ∷ decimal point ∷ up_text up ∷ [])
tell_text (tell.Coord point) = spaced (codes "coord" ∷ decimal point ∷ [])
tell_text (tell.Granted point) = spaced (codes "granted" ∷ decimal point ∷ [])
tell_text (tell.Denied point) = spaced (codes "denied" ∷ decimal point ∷ [])
tell_text (tell.No reason) = spaced (codes "no" ∷ reason_text reason ∷ [])

abbrev pub read_fault_text : ReadFault → List ℕ
read_fault_text fault.Empty = codes "read 1"
read_fault_text (fault.UnknownType octet) = spaced (codes "read 2" ∷ decimal octet ∷ [])
read_fault_text fault.Short = codes "read 3"
read_fault_text (fault.PointerOut place) = spaced (codes "read 4" ∷ decimal place ∷ [])
read_fault_text (fault.ValueLength name) = spaced (codes "read 5" ∷ decimal name ∷ [])

abbrev pub lost_text : Lost → List ℕ
lost_text (lost.Read fault) = read_fault_text fault
lost_text lost.Long = codes "long"
lost_text lost.Address = codes "address"
lost_text lost.Class = codes "class"
lost_text lost.Point = codes "point"
lost_text lost.State = codes "state"
lost_text lost.Stray = codes "stray"
lost_text lost.Segment = codes "segment"
lost_text lost.Manage = codes "manage"
lost_text (lost.Cause cause) = spaced (codes "cause" ∷ decimal cause ∷ [])
lost_text lost.Same = codes "same"
lost_text lost.Duplicate = codes "duplicate"
lost_text lost.RowsFull = codes "rows-full"
lost_text lost.NoRow = codes "no-row"

abbrev pub output_text : Output → List ℕ
output_text (output.Sent point sls bytes) = spaced (codes ">" ∷ decimal point ∷ decimal sls ∷ octets_text bytes ∷ [])
output_text (output.Told ssn tell) = spaced (codes "<" ∷ decimal ssn ∷ tell_text tell ∷ [])
output_text (output.Lost lost) = spaced (codes "." ∷ lost_text lost ∷ [])

abbrev pub cause_text : RouteCause → List ℕ
cause_text cause.NoNature = codes "nature"
cause_text cause.NoAddress = codes "address"
cause_text cause.PointBarred = codes "point"
cause_text cause.SubsystemBarred = codes "subsystem"
cause_text cause.Unequipped = codes "unequipped"
cause_text cause.Hop = codes "hop"

abbrev pub answer_text : Answer → List ℕ
answer_text (answer.Local ssn) = spaced (codes "local" ∷ decimal ssn ∷ [])
answer_text (answer.Forward dpc rewrite hop) = spaced (codes "to" ∷ decimal dpc ∷ [])
answer_text (answer.Refused cause local) = spaced (codes "no" ∷ cause_text cause ∷ [])

abbrev pub asked_text : Option Asked → List ℕ
asked_text None = []
asked_text (Some asked) = codes " e" ++ spaced (decimal asked.edition ∷ answer_text asked.answer ∷ [])

abbrev pub published_text : Option ℕ → List ℕ
published_text None = []
published_text (Some edition) = codes " new e" ++ decimal edition

abbrev pub stamp_text : Stamp → List ℕ
stamp_text stamp = decimal stamp.phase ++ codes "." ++ decimal stamp.link ++ codes "." ++ decimal stamp.line

-- a line for each output
abbrev pub output_line : Output → List ℕ
output_line o = codes " " ++ output_text o ++ codes "\n"

abbrev pub outs_text : List Output → List ℕ
outs_text outs = flat_map output_line outs

abbrev pub entry_text : Entry → List ℕ
entry_text e = stamp_text e.stamp ++ asked_text e.asked ++ codes "\n" ++ outs_text e.outs

abbrev pub control_text : ControlEntry → List ℕ
control_text e = stamp_text e.stamp ++ published_text e.published ++ codes "\n" ++ outs_text e.outs

abbrev pub entries_text : List Entry → List ℕ
entries_text es = flat_map entry_text es

abbrev pub controls_text : List ControlEntry → List ℕ
controls_text es = flat_map control_text es

-- the lanes of a kind, from a number on
abbrev pub lanes_text : List ℕ → ℕ → List (List Entry) → List ℕ
lanes_text name number [] = []
lanes_text name number (lane ∷ more) =
    codes "= " ++ name ++ codes " " ++ decimal number ++ codes "\n" ++ entries_text lane ++ lanes_text name (number + 1) more

abbrev pub book_text : Book → List ℕ
book_text book = codes "= control\n" ++ controls_text book.control ++ lanes_text (codes "conn") 0 book.conns ++ lanes_text (codes "data") 0 book.units
