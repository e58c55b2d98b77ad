-- The lines of entries.
use Rattle.std.proofs.Common.{◌≡◌, ◌∙◌, ℕ, ◌^◌, ◌<◌, ◌==◌, ◌&&◌, Bool, true, cond, List, [], ◌∷◌, ◌++◌, codes, Option, Some, None, option_and_then, refl, ap, append_assoc, append-nil, arith, not}
use Rattle.std.specs.Fmt.{decimal}
use Rattle.std.specs.List.{join_with_byte}
use Rattle.relay_base.specs.declared.words.Stamp.{Stamp}
use Rattle.plant_core.specs.declared.answer.RouteCause.{RouteCause}
use Rattle.plant_core.specs.declared.answer.RouteCause.TheVariants as cause
use Rattle.plant_core.specs.declared.answer.Answer.{Answer}
use Rattle.plant_core.specs.declared.answer.Answer.TheVariants as answer
use Rattle.plant_core.specs.declared.entry.Asked.{Asked}
use Rattle.journal_text.specs.Print.{spaced, cause_text, answer_text, asked_text, published_text, stamp_text}
use Rattle.journal_form.specs.Words.{parted, words, is_number}
use Rattle.journal_form.specs.Headings.{RoutingWords, EntryWords, is_cause, is_answer, edition_of, routing_of, stamped_of, entry_with, entry_in, heading_of}
use Rattle.printable_law.specs.Written as written
use Rattle.printable_law.specs.Written.{IsWritable, AreWritable, of_stamp, of_answer, of_asked, of_published, of_heading, of_control_heading}
use Rattle.printable_law.specs.Printed.{way_of, value_of, routing_words, entry_words}
use Rattle.printable_law.specs.FormLaw.{HeadingsHaveForm}
use Rattle.printable_law.proofs.FormWords.{is_without, AreWithout, all_both, joined_parted}
use Rattle.printable_law.proofs.Fields.{number_is, number_without}

-- ---- the stamp

abbrev parts_of : Stamp → List (List ℕ)
parts_of s = decimal s.phase ∷ decimal s.link ∷ decimal s.line ∷ []

stamp_joined : (s : Stamp) → stamp_text s ≡ join_with_byte 46 (parts_of s)
stamp_joined s =
    let phase = decimal s.phase in
    let link = decimal s.link in
    let line = decimal s.line in
    append_assoc (phase ++ 46 ∷ [] ++ link) (46 ∷ []) line ∙ append_assoc (phase ++ 46 ∷ []) link (46 ∷ line) ∙ append_assoc phase (46 ∷ []) (link ++ 46 ∷ line)

stamp_parted : (s : Stamp) → parted 46 (stamp_text s) ≡ parts_of s
stamp_parted s =
    ap (parted 46) (stamp_joined s)
    ∙ joined_parted 46 (decimal s.phase) (decimal s.link ∷ decimal s.line ∷ []) (number_without 46 s.phase (omega arith), (number_without 46 s.link (omega arith), (number_without 46 s.line (omega arith), tt)))

stamp_dark : (s : Stamp) → is_without 32 (stamp_text s) ≡ true
stamp_dark s =
    let dot : List ℕ = 46 ∷ [] in
    let p : (b : ℕ) → Bool = λ b. not (b == 32) in
    let number : (n : ℕ) → is_without 32 (decimal n) ≡ true = λ n. number_without 32 n (omega arith) in
    let front : is_without 32 (decimal s.phase ++ dot) ≡ true = all_both p (decimal s.phase) dot (number s.phase) refl in
    let link : is_without 32 (decimal s.phase ++ dot ++ decimal s.link) ≡ true = all_both p (decimal s.phase ++ dot) (decimal s.link) front (number s.link) in
    let more : is_without 32 (decimal s.phase ++ dot ++ decimal s.link ++ dot) ≡ true = all_both p (decimal s.phase ++ dot ++ decimal s.link) dot link refl in
    all_both p (decimal s.phase ++ dot ++ decimal s.link ++ dot) (decimal s.line) more (number s.line)

three : (a b c : Bool) → a ≡ true → b ≡ true → c ≡ true → (a && b && c) ≡ true
three a b c h k l = rw (h, k, l) refl

stamp_of_parts : (s : Stamp) (asked : Option RoutingWords) (published : Option (List ℕ)) → AreWritable (of_stamp s)
    → stamped_of (parts_of s) asked published ≡ Some (record { phase = decimal s.phase; link = decimal s.link; line = decimal s.line; asked = asked; published = published })
stamp_of_parts s asked published h =
    let w : EntryWords = record { phase = decimal s.phase; link = decimal s.link; line = decimal s.line; asked = asked; published = published } in
    ap (λ t. cond t (Some w) None) (three (is_number (decimal s.phase)) (is_number (decimal s.link)) (is_number (decimal s.line)) (number_is s.phase h.0) (number_is s.link h.1.0) (number_is s.line h.1.1.0))

-- ---- the words behind it

edition_is : (n : ℕ) → n < 10 ^ 64 → edition_of (101 ∷ decimal n) ≡ Some (decimal n)
edition_is n h = ap (λ t. cond t (Some (decimal n)) None) (number_is n h)

cause_is : (c : RouteCause) → is_cause (cause_text c) ≡ true
cause_is cause.NoNature = refl
cause_is _ = refl

cause_dark : (c : RouteCause) → is_without 32 (cause_text c) ≡ true
cause_dark cause.NoNature = refl
cause_dark _ = refl

answer_is : (a : Answer) → AreWritable (of_answer a) → is_answer (way_of a) (value_of a) ≡ true
answer_is (answer.Local ssn) h = number_is ssn h.0
answer_is (answer.Forward dpc rewrite hop) h = number_is dpc h.0
answer_is (answer.Refused cause local) h = cause_is cause

value_dark : (a : Answer) → is_without 32 (value_of a) ≡ true
value_dark (answer.Local ssn) = number_without 32 ssn (omega arith)
value_dark (answer.Forward dpc rewrite hop) = number_without 32 dpc (omega arith)
value_dark (answer.Refused cause local) = cause_dark cause

way_dark : (a : Answer) → is_without 32 (way_of a) ≡ true
way_dark (answer.Local ssn) = refl
way_dark (answer.Forward dpc rewrite hop) = refl
way_dark (answer.Refused cause local) = refl

routing_is : (a : Asked) → AreWritable (of_asked (Some a)) → routing_of (101 ∷ decimal a.edition) (way_of a.answer) (value_of a.answer) ≡ Some (routing_words a)
routing_is a h =
    ap (λ e. option_and_then (λ digits. cond (is_answer (way_of a.answer) (value_of a.answer)) (Some (record { edition = digits; way = way_of a.answer; value = value_of a.answer })) None) e) (edition_is a.edition h.0)
    ∙ ap (λ t. cond t (Some (routing_words a)) None) (answer_is a.answer h.1)

-- ---- the lines

bare : (s : Stamp) → AreWritable (of_stamp s) → heading_of (stamp_text s) ≡ Some (entry_words s None None)
unfolding heading_of
bare s h =
    ap entry_in (joined_parted 32 (stamp_text s) [] (stamp_dark s, tt))
    ∙ ap (λ parts. stamped_of parts None None) (stamp_parted s) ∙ stamp_of_parts s None None h

asked_line : (s : Stamp) (a : Asked) → AreWritable (of_stamp s) → AreWritable (of_asked (Some a)) → heading_of (stamp_text s ++ asked_text (Some a)) ≡ Some (entry_words s (Some a) None)
unfolding heading_of
asked_line s a h k =
    let edition = 101 ∷ decimal a.edition in
    let more = edition ∷ way_of a.answer ∷ value_of a.answer ∷ [] in
    let dark : AreWithout 32 (stamp_text s ∷ more) = (stamp_dark s, (number_without 32 a.edition (omega arith), (way_dark a.answer, (value_dark a.answer, tt)))) in
    ap (λ l. entry_in (words (stamp_text s ++ l))) (asked_joined a)
    ∙ ap entry_in (joined_parted 32 (stamp_text s) more dark)
    ∙ ap (λ parts. entry_with parts more) (stamp_parted s)
    ∙ ap (λ r. option_and_then (λ asked. stamped_of (parts_of s) (Some asked) None) r) (routing_is a k)
    ∙ stamp_of_parts s (Some (routing_words a)) None h
  where
    answer_joined : (b : Answer) → answer_text b ≡ spaced (way_of b ∷ value_of b ∷ [])
    answer_joined (answer.Local ssn) = refl
    answer_joined (answer.Forward dpc rewrite hop) = refl
    answer_joined (answer.Refused cause local) = refl

    asked_joined : (a : Asked) → asked_text (Some a) ≡ 32 ∷ spaced ((101 ∷ decimal a.edition) ∷ way_of a.answer ∷ value_of a.answer ∷ [])
    asked_joined a = ap (λ l. 32 ∷ 101 ∷ (decimal a.edition ++ 32 ∷ l)) (answer_joined a.answer)

published_line : (s : Stamp) (n : ℕ) → AreWritable (of_stamp s) → n < 10 ^ 64 → heading_of (stamp_text s ++ published_text (Some n)) ≡ Some (entry_words s None (Some n))
unfolding heading_of
published_line s n h k =
    let more = codes "new" ∷ (101 ∷ decimal n) ∷ [] in
    let dark : AreWithout 32 (stamp_text s ∷ more) = (stamp_dark s, (refl, (number_without 32 n (omega arith), tt))) in
    ap entry_in (joined_parted 32 (stamp_text s) more dark)
    ∙ ap (λ parts. entry_with parts more) (stamp_parted s)
    ∙ ap (λ r. option_and_then (λ published. stamped_of (parts_of s) None (Some published)) r) (edition_is n k)
    ∙ stamp_of_parts s None (Some (decimal n)) h

stamp_first : (s : Stamp) (more : List written.Written) → AreWritable (of_stamp s ++ more) → AreWritable (of_stamp s) × AreWritable more
stamp_first s more h = ((h.0, (h.1.0, (h.1.1.0, tt))), h.1.1.1)

entry_line : (s : Stamp) (asked : Option Asked) → AreWritable (of_stamp s) × AreWritable (of_asked asked) → heading_of (stamp_text s ++ asked_text asked) ≡ Some (entry_words s asked None)
entry_line s None h = ap heading_of (append-nil (stamp_text s)) ∙ bare s h.0
entry_line s (Some a) h = asked_line s a h.0 h.1

control_line : (s : Stamp) (published : Option ℕ) → AreWritable (of_stamp s) × AreWritable (of_published published)
    → heading_of (stamp_text s ++ published_text published) ≡ Some (entry_words s None published)
control_line s None h = ap heading_of (append-nil (stamp_text s)) ∙ bare s h.0
control_line s (Some n) h = published_line s n h.0 h.1.0

pub headings_have_form : HeadingsHaveForm
headings_have_form = record {
  entries = λ e h. entry_line e.stamp e.asked (stamp_first e.stamp (of_asked e.asked) h);
  controls = λ e h. control_line e.stamp e.published (stamp_first e.stamp (of_published e.published) h);
}
