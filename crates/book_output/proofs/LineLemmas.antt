-- No line of a book has a line feed in it; so its print, cut at the line feeds, gives its lines.
use Rattle.std.proofs.Common.{◌≡◌, ◌∙◌, ℕ, zero, suc, ◌+◌, ◌/◌, ◌%◌, ◌==◌, nat_lt, Bool, true, false, cond, List, [], ◌∷◌, ◌++◌, codes, map, slice_index, Option, Some, None, refl, sym, ap, append_assoc, arith, rules}
use Rattle.std.proofs.lemmas.Bool.Decides.{nat_tests}
use Rattle.std.proofs.lemmas.List.Elements.{All-from_recursion}
use Rattle.std.proofs.lemmas.List.Splits.{slice_split_none, slice_split_at}
use Rattle.std.specs.List.{AllByRecursion, slice_split}
use Rattle.std.specs.Fmt.{decimal, digits, digits_onto, digit_glyph}
use Rattle.hex.specs.Hex.{encode_lower, encode_with, lower_digits}
use Rattle.relay_base.specs.declared.words.Reason.{Reason}
use Rattle.relay_base.specs.declared.words.Reason.TheVariants as reason
use Rattle.relay_base.specs.declared.words.ReadFault.{ReadFault}
use Rattle.relay_base.specs.declared.words.ReadFault.TheVariants as fault
use Rattle.relay_base.specs.declared.words.Tell.{Tell}
use Rattle.relay_base.specs.declared.words.Tell.TheVariants as tell
use Rattle.relay_base.specs.declared.words.Lost.{Lost}
use Rattle.relay_base.specs.declared.words.Lost.TheVariants as lost
use Rattle.relay_base.specs.declared.words.Output.{Output}
use Rattle.relay_base.specs.declared.words.Output.TheVariants as output
use Rattle.relay_base.specs.declared.words.Stamp.{Stamp}
use Rattle.plant_core.specs.declared.answer.RouteCause.{RouteCause}
use Rattle.plant_core.specs.declared.answer.RouteCause.TheVariants as cause
use Rattle.plant_core.specs.declared.answer.Answer.{Answer}
use Rattle.plant_core.specs.declared.answer.Answer.TheVariants as answer
use Rattle.plant_core.specs.declared.entry.Asked.{Asked}
use Rattle.plant_core.specs.declared.entry.Entry.{Entry}
use Rattle.plant_core.specs.declared.entry.ControlEntry.{ControlEntry}
use Rattle.node_head.specs.Lines.{joined}
use Rattle.journal_text.specs.Print.{octets_text, optional_text, up_text, reason_text, tell_text, read_fault_text, lost_text, cause_text, answer_text, asked_text, published_text, stamp_text}
use Rattle.journal_text.specs.declared.book.Book.{Book}
use Rattle.capture_generator.specs.Counts.{outputs_in}
use Rattle.capture_generator.proofs.CaptureLemmas.{all-append}
use Rattle.book_output.specs.Print.{line_of_lane, line_of_control, line_of_entry, line_of_output, Heading, OfLane, OfEntry, lane_headings, kind_headings, headings_in, woven, book_lines}
use Rattle.book_output.specs.PrintLaw.{PrintIsInLines}
use Rattle.book_output.proofs.WritingLemmas.{print_is_written}

abbrev is_feed : ℕ → Bool
is_feed b = b == 10

-- ---- octets without a line feed

record IsLine (line : List ℕ) : Type 0 where
  each : AllByRecursion (λ b. is_feed b ≡ false) line

empty : IsLine []
empty = record { each = tt }

octet : (b : ℕ) (line : List ℕ) → is_feed b ≡ false → IsLine line → IsLine (b ∷ line)
octet b line h more = record { each = (h, more.each) }

both : (xs ys : List ℕ) → IsLine xs → IsLine ys → IsLine (xs ++ ys)
both [] ys h k = k
both (b ∷ xs) ys h k = octet b (xs ++ ys) h.each.0 (both xs ys (record { each = h.each.1 }) k)

either : (t : Bool) (xs ys : List ℕ) → IsLine xs → IsLine ys → IsLine (cond t xs ys)
either true xs ys h k = h
either false xs ys h k = k

-- ---- numbers and octets

glyph : (d : ℕ) → is_feed (digit_glyph false d) ≡ false
glyph d = of_test (nat_lt d 10)
  where
    of_test : (t : Bool) → is_feed (cond t (48 + d) (87 + d)) ≡ false
    of_test true = grind (arith, nat_tests)
    of_test false = grind (arith, nat_tests)

digits_line : (k n : ℕ) (behind : List ℕ) → IsLine behind → IsLine (digits_onto k 10 false n behind)
digits_line zero n behind h = h
digits_line (suc k) n behind h =
    let more : IsLine (digit_glyph false (n % 10) ∷ behind) = octet (digit_glyph false (n % 10)) behind (glyph (n % 10)) h in
    either (n / 10 == 0) _ _ more (digits_line k (n / 10) (digit_glyph false (n % 10) ∷ behind) more)

number : (n : ℕ) → IsLine (decimal n)
unfolding digits
number n = digits_line 64 n [] empty

at : (line : List ℕ) (k : ℕ) → IsLine line → is_feed (slice_index line k) ≡ false
at [] k h = refl
at (b ∷ line) zero h = h.each.0
at (b ∷ line) (suc k) h = at line k (record { each = h.each.1 })

table : IsLine lower_digits
table = search rules

hex : (bs : List ℕ) → IsLine (encode_lower bs)
unfolding encode_with
hex [] = empty
hex (b ∷ bs) = octet _ _ (at lower_digits (b / 16) table) (octet _ _ (at lower_digits (b % 16) table) (hex bs))

octets : (bs : List ℕ) → IsLine (octets_text bs)
octets [] = search rules
octets (b ∷ bs) = hex (b ∷ bs)

optional : (bs : Option (List ℕ)) → IsLine (optional_text bs)
optional None = octets []
optional (Some bs) = octets bs

-- ---- the lines

up : (b : Bool) → IsLine (up_text b)
up true = search rules
up false = search rules

reason_line : (r : Reason) → IsLine (reason_text r)
reason_line reason.Owner = search rules
reason_line _ = search rules

ruleset words = (octet, both, number, octets, optional, up, reason_line)

tell_line : (t : Tell) → IsLine (tell_text t)
tell_line (tell.No reason) = search words depth 30
tell_line _ = search words depth 30

read_fault_line : (f : ReadFault) → IsLine (read_fault_text f)
read_fault_line fault.Empty = search words depth 30
read_fault_line _ = search words depth 30

lost_line : (l : Lost) → IsLine (lost_text l)
lost_line (lost.Read fault) = read_fault_line fault
lost_line _ = search words depth 30

output_line : (o : Output) → IsLine (line_of_output o)
output_line (output.Sent point sls bytes) = search words depth 30
output_line (output.Told ssn tell) = search (words, tell_line) depth 30
output_line (output.Lost lost) = search (words, lost_line) depth 30

cause_line : (c : RouteCause) → IsLine (cause_text c)
cause_line cause.NoNature = search words depth 30
cause_line _ = search words depth 30

answer_line : (a : Answer) → IsLine (answer_text a)
answer_line (answer.Refused cause local) = search (words, cause_line) depth 30
answer_line _ = search words depth 30

asked_line : (a : Option Asked) → IsLine (asked_text a)
asked_line None = empty
asked_line (Some asked) = search (words, answer_line) depth 30

published_line : (p : Option ℕ) → IsLine (published_text p)
published_line None = empty
published_line (Some edition) = search words depth 30

stamp_line : (s : Stamp) → IsLine (stamp_text s)
stamp_line s = search words depth 30

-- ---- headings, and the outputs under them

abbrev IsHeading : Heading → Type 0
IsHeading (OfLane line) = IsLine line
IsHeading (OfEntry line) = IsLine line

abbrev AreHeadings : List Heading → Type 0
AreHeadings headings = AllByRecursion IsHeading headings

entry_headings : {E : Type 0} (line : E → List ℕ) → ((e : E) → IsLine (line e)) → (entries : List E) → AreHeadings (map OfEntry (map line entries))
entry_headings line h [] = tt
entry_headings line h (e ∷ entries) = (h e, entry_headings line h entries)

lane_line : (name : List ℕ) (n : ℕ) → IsLine name → IsLine (line_of_lane name n)
lane_line name n h =
    both (codes "= " ++ name ++ codes " ") (decimal n) (both (codes "= " ++ name) (codes " ") (both (codes "= ") name (search words) h) (search words)) (number n)

control_line : (e : ControlEntry) → IsLine (line_of_control e)
control_line e = both (stamp_text e.stamp) (published_text e.published) (stamp_line e.stamp) (published_line e.published)

entry_line : (e : Entry) → IsLine (line_of_entry e)
entry_line e = both (stamp_text e.stamp) (asked_text e.asked) (stamp_line e.stamp) (asked_line e.asked)

kind_lines : (name : List ℕ) (number : ℕ) (lanes : List (List Entry)) → IsLine name → AreHeadings (kind_headings name number lanes)
kind_lines name number [] h = tt
kind_lines name number (lane ∷ more) h = (
  lane_line name number h,
  all-append IsHeading (map OfEntry (map line_of_entry lane)) (kind_headings name (number + 1) more) (entry_headings line_of_entry entry_line lane) (kind_lines name (number + 1) more h),
)

book_headings : (book : Book) → AreHeadings (headings_in book)
book_headings book =
    let control = lane_headings (codes "= control") (map line_of_control book.control) in
    let conns = kind_headings (codes "conn") 0 book.conns in
    let units = kind_headings (codes "data") 0 book.units in
    let first : AreHeadings control = (search words depth 12, entry_headings line_of_control control_line book.control) in
    let second : AreHeadings conns = kind_lines (codes "conn") 0 book.conns (search words) in
    let third : AreHeadings units = kind_lines (codes "data") 0 book.units (search words) in
    all-append IsHeading (control ++ conns) units (all-append IsHeading control conns first second) third

output_lines : (outs : List Output) → AllByRecursion IsLine (map line_of_output outs)
output_lines [] = tt
output_lines (o ∷ outs) = (output_line o, output_lines outs)

woven_lines : (headings : List Heading) (outputs : List (List Output)) → AreHeadings headings → AllByRecursion IsLine (woven headings outputs)
woven_lines [] outputs h = tt
woven_lines (OfLane line ∷ more) outputs h = (h.0, woven_lines more outputs h.1)
woven_lines (OfEntry line ∷ more) [] h = (h.0, woven_lines more [] h.1)
woven_lines (OfEntry line ∷ more) (outs ∷ outputs) h =
    (h.0, all-append IsLine (map line_of_output outs) (woven more outputs) (output_lines outs) (woven_lines more outputs h.1))

-- ---- lines that are joined are cut again

joined_cut : (ls : List (List ℕ)) → AllByRecursion IsLine ls → slice_split is_feed (joined ls) ≡ ls ++ [] ∷ []
joined_cut [] h = slice_split_none is_feed [] (All-from_recursion (λ b. is_feed b ≡ false) [] tt)
joined_cut (line ∷ more) h =
    ap (slice_split is_feed) (append_assoc line (10 ∷ []) (joined more))
    ∙ slice_split_at is_feed line 10 (joined more) (All-from_recursion (λ b. is_feed b ≡ false) line h.0.each) refl
    ∙ ap (λ l. line ∷ l) (joined_cut more h.1)

pub print_is_in_lines : PrintIsInLines
print_is_in_lines book = record {
  written = sym (print_is_written book);
  cut = joined_cut (book_lines book) (woven_lines (headings_in book) (outputs_in book) (book_headings book));
}
