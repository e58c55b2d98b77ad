-- What the code puts together are the messages of all outputs.
use Rattle.std.proofs.Common.{◌≡◌, ◌∙◌, ℕ, List, [], ◌∷◌, ◌++◌, map, refl, sym, ap, append_assoc}
use Rattle.std.proofs.lemmas.List.Concat.{flat_map-append}
use Rattle.std.specs.List.{flat_map}
use Rattle.relay_base.specs.declared.words.Output.{Output}
use Rattle.plant_core.specs.declared.entry.Entry.{Entry}
use Rattle.journal_text.specs.declared.book.Book.{Book}
use Rattle.capture_generator.specs.Counts.{journal_outputs, outputs_in}
use Rattle.book_output.specs.Sending.{frames_of_outs, sent_frames}
use Rattle.book_output.specs.Inner.Pushing.{control_frames, journal_frames, lanes_frames}

-- the outputs of entries, one entry after another
of_entries : {X : Type 0} (f : List Output → List ℕ) (outs : X → List Output) (xs : List X) → flat_map f (map outs xs) ≡ flat_map (λ x. f (outs x)) xs
of_entries f outs [] = refl
of_entries f outs (x ∷ xs) = ap (λ l. f (outs x) ++ l) (of_entries f outs xs)

of_lanes : (own : ℕ) (lanes : List (List Entry)) → flat_map (frames_of_outs own) (flat_map journal_outputs lanes) ≡ lanes_frames own lanes
of_lanes own [] = refl
of_lanes own (journal ∷ lanes) =
    flat_map-append (frames_of_outs own) (journal_outputs journal) (flat_map journal_outputs lanes)
    ∙ ap (λ l. l ++ flat_map (frames_of_outs own) (flat_map journal_outputs lanes)) (of_entries (frames_of_outs own) (λ (e : Entry). e.outs) journal)
    ∙ ap (λ l. journal_frames own journal ++ l) (of_lanes own lanes)

pub book_frames : (own : ℕ) (book : Book) → (control_frames own book.control ++ lanes_frames own book.conns) ++ lanes_frames own book.units ≡ sent_frames own book
book_frames own book =
    let control = map (λ e. e.outs) book.control in
    let conns = flat_map journal_outputs book.conns in
    let units = flat_map journal_outputs book.units in
    sym (flat_map-append (frames_of_outs own) (control ++ conns) units
    ∙ ap (λ l. l ++ flat_map (frames_of_outs own) units) (flat_map-append (frames_of_outs own) control conns)
    ∙ ap (λ l. (l ++ flat_map (frames_of_outs own) conns) ++ flat_map (frames_of_outs own) units) (of_entries (frames_of_outs own) (λ e. e.outs) book.control)
    ∙ ap (λ l. (control_frames own book.control ++ l) ++ flat_map (frames_of_outs own) units) (of_lanes own book.conns)
    ∙ ap (λ l. (control_frames own book.control ++ lanes_frames own book.conns) ++ l) (of_lanes own book.units))
