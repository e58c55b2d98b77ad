-- The lines of a book, each with its line feed, are the texts of its entries one after another.
use Rattle.std.proofs.Common.{◌≡◌, ◌∙◌, ℕ, ◌+◌, List, [], ◌∷◌, ◌++◌, codes, map, refl, sym, ap, ap₂, append_assoc, append-nil}
use Rattle.std.proofs.lemmas.List.Concat.{flat_map-append}
use Rattle.std.specs.List.{flat_map}
use Rattle.relay_base.specs.declared.words.Output.{Output}
use Rattle.plant_core.specs.declared.entry.Entry.{Entry}
use Rattle.node_head.specs.Lines.{joined}
use Rattle.journal_text.specs.Print.{output_line, outs_text, controls_text, entries_text, lanes_text, book_text}
use Rattle.journal_text.specs.declared.book.Book.{Book}
use Rattle.capture_generator.specs.Counts.{journal_outputs}
use Rattle.book_output.specs.Print.{line_of_lane, line_of_control, line_of_entry, line_of_output, Heading, OfEntry, kind_headings, woven, print_of}

outputs_written : (outs : List Output) → joined (map line_of_output outs) ≡ outs_text outs
outputs_written [] = refl
outputs_written (o ∷ outs) = ap (λ l. output_line o ++ l) (outputs_written outs)

-- the text of an entry with this line and these outputs
abbrev text_under : List ℕ → List Output → List ℕ
text_under line outs = line ++ codes "\n" ++ outs_text outs

entry_written : (line : List ℕ) (outs : List Output) (more : List (List ℕ)) → joined (line ∷ (map line_of_output outs ++ more)) ≡ text_under line outs ++ joined more
entry_written line outs more =
    ap (λ l. line ++ codes "\n" ++ l) (flat_map-append (λ l. l ++ 10 ∷ []) (map line_of_output outs) more ∙ ap (λ l. l ++ joined more) (outputs_written outs))
    ∙ sym (append_assoc (line ++ codes "\n") (outs_text outs) (joined more))

-- the entries of a lane of any kind, and what follows
entries_written : {E : Type 0} (line : E → List ℕ) (outs : E → List Output) (entries : List E) (more : List Heading) (outputs : List (List Output))
    → joined (woven (map OfEntry (map line entries) ++ more) (map outs entries ++ outputs)) ≡ flat_map (λ e. text_under (line e) (outs e)) entries ++ joined (woven more outputs)
entries_written line outs [] more outputs = refl
entries_written line outs (e ∷ entries) more outputs =
    let text = text_under (line e) (outs e) in
    entry_written (line e) (outs e) (woven (map OfEntry (map line entries) ++ more) (map outs entries ++ outputs))
    ∙ ap (λ l. text ++ l) (entries_written line outs entries more outputs)
    ∙ sym (append_assoc text (flat_map (λ e. text_under (line e) (outs e)) entries) (joined (woven more outputs)))

-- the lanes of a kind, and what follows
lanes_written : (name : List ℕ) (number : ℕ) (lanes : List (List Entry)) (more : List Heading) (outputs : List (List Output))
    → joined (woven (kind_headings name number lanes ++ more) (flat_map journal_outputs lanes ++ outputs)) ≡ lanes_text name number lanes ++ joined (woven more outputs)
lanes_written name number [] more outputs = refl
lanes_written name number (lane ∷ lanes) more outputs =
    let line = line_of_lane name number ++ codes "\n" in
    let behind = kind_headings name (number + 1) lanes in
    let rest = flat_map journal_outputs lanes in
    let text = lanes_text name (number + 1) lanes in
    let last = joined (woven more outputs) in
    ap (λ l. line ++ l) (ap₂ (λ h o. joined (woven h o)) (append_assoc (map OfEntry (map line_of_entry lane)) behind more) (append_assoc (journal_outputs lane) rest outputs)
    ∙ entries_written line_of_entry (λ e. e.outs) lane (behind ++ more) (rest ++ outputs)
    ∙ ap (λ l. entries_text lane ++ l) (lanes_written name (number + 1) lanes more outputs))
    ∙ sym (append_assoc (line ++ entries_text lane) text last ∙ append_assoc line (entries_text lane) (text ++ last))

pub print_is_written : (book : Book) → print_of book ≡ book_text book
print_is_written book =
    let line = codes "= control\n" in
    let conns = kind_headings (codes "conn") 0 book.conns in
    let units = kind_headings (codes "data") 0 book.units in
    let of_conns = flat_map journal_outputs book.conns in
    let of_units = flat_map journal_outputs book.units in
    let first = controls_text book.control in
    let second = lanes_text (codes "conn") 0 book.conns in
    let third = lanes_text (codes "data") 0 book.units in
    let last : joined (woven units of_units) ≡ third =
    ap₂ (λ h o. joined (woven h o)) (sym (append-nil units)) (sym (append-nil of_units)) ∙ lanes_written (codes "data") 0 book.units [] [] ∙ append-nil third in
    ap (λ l. line ++ l) (
    ap₂ (λ h o. joined (woven h o)) (append_assoc (map OfEntry (map line_of_control book.control)) conns units) (append_assoc (map (λ e. e.outs) book.control) of_conns of_units)
    ∙ entries_written line_of_control (λ e. e.outs) book.control (conns ++ units) (of_conns ++ of_units)
    ∙ ap (λ l. first ++ l) (lanes_written (codes "conn") 0 book.conns units of_units ∙ ap (λ l. second ++ l) last)
    )
    ∙ sym (append_assoc (line ++ first) second third ∙ append_assoc line first (second ++ third))
