-- A journal with one entry more.
use Rattle.std.proofs.Common.{◌≡◌, ℕ, List, [], ◌∷◌, ◌++◌, refl, ap, ◌∙◌, append-nil}
use Rattle.std.specs.Prelude.{flat_map}
use Rattle.std.proofs.lemmas.List.Concat.{flat_map-append}
use Rattle.plant_core.specs.declared.entry.Entry.{Entry}
use Rattle.section_model.specs.Lane.{Lane, Opening, openings_after, answer_of}
use Rattle.section_model.specs.Laws.{openings_from}
use Rattle.chain_step.specs.Run.{messages_in}

-- what it sends to a point
pub sent_more : (own to : ℕ) (journal : List Entry) (entry : Entry) → flat_map (λ (e : Entry). messages_in own to e.outs) (journal ++ entry ∷ []) ≡ flat_map (λ (e : Entry). messages_in own to e.outs) journal ++ messages_in own to entry.outs
sent_more own to journal entry =
    flat_map-append (λ (e : Entry). messages_in own to e.outs) journal (entry ∷ [])
    ∙ ap (λ more. flat_map (λ (e : Entry). messages_in own to e.outs) journal ++ more) (append-nil (messages_in own to entry.outs))

-- and the connections that it opens
pub openings_more : (lane : Lane) (openings : List Opening) (journal : List Entry) (entry : Entry) → openings_from lane openings (journal ++ entry ∷ []) ≡ openings_after lane (openings_from lane openings journal) entry.event (answer_of entry)
openings_more lane openings [] entry = refl
openings_more lane openings (e ∷ journal) entry = openings_more lane (openings_after lane openings e.event (answer_of e)) journal entry
