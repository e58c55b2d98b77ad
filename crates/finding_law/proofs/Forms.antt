-- A text in which no line breaks the form has lanes.
use Rattle.std.proofs.Common.{◌≡◌, ◌∙◌, ℕ, ◌+◌, ◌||◌, Bool, true, false, List, [], ◌∷◌, ◌++◌, length, drop, Option, Some, None, is_some, option_map, refl, sym, ap, ap₂, subst, arith, add-zero, append_assoc}
use Rattle.std.proofs.lemmas.List.{drop-drop}
use Rattle.std.specs.List.{flat_map}
use Rattle.std.specs.Cmp.Lexicographic.{same_text}
use Rattle.journal_form.specs.Words.{parted}
use Rattle.journal_form.specs.Outputs.{is_output_line}
use Rattle.journal_form.specs.Headings.{EntryWords, heading_of, is_entry_line}
use Rattle.journal_form.specs.Form.{Place, AtTop, InLane, InEntry, stands, begins_lane, lanes_behind, fault_at_end, first_fault, ended_lines, last_piece, form_fault}
use Rattle.journal_form.specs.Parts.{EntryPart, LanePart, outs_front, entry_front, entry_at, entries_size, AreEntries, IsLane, AreLanes, entry_lines, lines_of, HasForm}
use Rattle.journal_form.proofs.PartLemmas.{outs_no, outs_yes}

-- the entries of the lane that is open here, and the lanes behind them
record Goes (at : ℕ) (lines names : List (List ℕ)) : Type 0 where
  entries : List EntryPart
  lanes : List LanePart
  are : AreEntries at lines entries
  end : entry_at (at + entries_size entries) lines ≡ None
  stand : AreLanes (at + entries_size entries) lines names lanes
  whole : drop at lines ≡ flat_map entry_lines entries ++ flat_map lines_of lanes

-- the lines of outputs that stand here, and what stands behind them
record Outs (at : ℕ) (lines names : List (List ℕ)) : Type 0 where
  outs : List (List ℕ)
  are : outs_front (drop at lines) ≡ outs
  rest : Goes (at + length outs) lines names
  whole : drop at lines ≡ outs ++ drop (at + length outs) lines

next_line : (at : ℕ) (lines : List (List ℕ)) (line : List ℕ) (more : List (List ℕ)) → drop at lines ≡ line ∷ more → drop (at + 1) lines ≡ more
next_line at lines line more h = sym (drop-drop 1 at lines) ∙ ap (drop 1) h

no_entry : (at : ℕ) (lines : List (List ℕ)) (line : List ℕ) (more : List (List ℕ)) → drop at lines ≡ line ∷ more → heading_of line ≡ None → entry_at at lines ≡ None
no_entry at lines line more h e =
    ap (entry_front (at + 1)) h ∙ ap (λ o. option_map (λ w. record { number = at + 1; text = line; words = w; outs = outs_front more }) o) e

-- an entry stands here
entry_goes : (at : ℕ) (lines names : List (List ℕ)) (line : List ℕ) (more : List (List ℕ)) (w : EntryWords) → drop at lines ≡ line ∷ more → heading_of line ≡ Some w
    → Outs (at + 1) lines names → Goes at lines names
entry_goes at lines names line more w h e o =
    let part : EntryPart = record { number = at + 1; text = line; words = w; outs = o.outs } in
    let behind = next_line at lines line more h in
    let outs : outs_front more ≡ o.outs = ap outs_front (sym behind) ∙ o.are in
    let here : entry_at at lines ≡ Some part =
    ap (entry_front (at + 1)) h ∙ ap (λ x. option_map (λ w. record { number = at + 1; text = line; words = w; outs = outs_front more }) x) e
    ∙ ap (λ (l : List (List ℕ)). Some (record { number = at + 1; text = line; words = w; outs = l })) outs in
    let place : (at + 1) + length o.outs ≡ at + (1 + length o.outs) = omega arith in
    let rest : Goes (at + (1 + length o.outs)) lines names = subst (λ n. Goes n lines names) place o.rest in
    let end : (at + (1 + length o.outs)) + entries_size rest.entries ≡ at + ((1 + length o.outs) + entries_size rest.entries) = omega arith in
    let lines_here : more ≡ o.outs ++ (flat_map entry_lines rest.entries ++ flat_map lines_of rest.lanes) =
    sym behind ∙ o.whole ∙ ap (λ l. o.outs ++ l) (ap (λ n. drop n lines) place ∙ rest.whole) in
    record {
      entries = part ∷ rest.entries;
      lanes = rest.lanes;
      are = (here, rest.are);
      end = ap (λ n. entry_at n lines) (sym end) ∙ rest.end;
      stand = subst (λ n. AreLanes n lines names rest.lanes) end rest.stand;
      whole = h ∙ ap (λ l. line ∷ l) (lines_here ∙ sym (append_assoc o.outs (flat_map entry_lines rest.entries) (flat_map lines_of rest.lanes)));
    }

-- the line of the next lane stands here
lane_goes : (at : ℕ) (lines names : List (List ℕ)) (line : List ℕ) (more : List (List ℕ)) → drop at lines ≡ line ∷ more → heading_of line ≡ None → begins_lane names line ≡ true
    → Goes (at + 1) lines (lanes_behind names) → Goes at lines names
lane_goes at lines [] line more h e b g = absurd cc
lane_goes at lines (name ∷ names) line more h e b g =
    let text : line ≡ name = same_text line name (sym b) in
    let behind = next_line at lines line more h in
    let lane : LanePart = record { number = at + 1; text = name; entries = g.entries } in
    let place : (at + 1) + entries_size g.entries ≡ at + (1 + entries_size g.entries) = omega arith in
    let here : drop at lines ≡ name ∷ drop (at + 1) lines = h ∙ ap₂ (λ (l : List ℕ) (m : List (List ℕ)). l ∷ m) text (sym behind) in
    let is : IsLane at lines name lane = record { number = refl; text = refl; line = here; entries = g.are; end = ap (λ n. entry_at n lines) (sym place) ∙ g.end } in
    let stand : AreLanes at lines (name ∷ names) (lane ∷ g.lanes) = (is, subst (λ n. AreLanes n lines names g.lanes) place g.stand) in
    record {
      entries = [];
      lanes = lane ∷ g.lanes;
      are = tt;
      end = ap (λ n. entry_at n lines) (add-zero at) ∙ no_entry at lines line more h e;
      stand = subst (λ n. AreLanes n lines (name ∷ names) (lane ∷ g.lanes)) (sym (add-zero at)) stand;
      whole = here ∙ ap (λ l. name ∷ l) g.whole;
    }

no_lanes : (at : ℕ) (lines names : List (List ℕ)) (n : ℕ) (rest : List ℕ) → drop at lines ≡ [] → fault_at_end names n rest ≡ None → Goes at lines names
no_lanes at lines [] n rest h k = record {
  entries = [];
  lanes = [];
  are = tt;
  end = ap (λ n. entry_at n lines) (add-zero at) ∙ ap (entry_front (at + 1)) h;
  stand = tt;
  whole = h;
}
no_lanes at lines (name ∷ names) n rest h k = absurd cc

goes_on : (lanes : List (List ℕ)) (place : Place) (n : ℕ) (rest line : List ℕ) (more : List (List ℕ)) → stands place line ≡ true
    → first_fault lanes place n rest (line ∷ more) ≡ first_fault lanes InEntry (n + 1) rest more
goes_on lanes place n rest line more h = rw (h, first_fault) refl

-- the line of the next lane, where nothing else stands
record Begins (names : List (List ℕ)) (n : ℕ) (rest line : List ℕ) (more : List (List ℕ)) : Type 0 where
  begins : begins_lane names line ≡ true
  sound : first_fault (lanes_behind names) InLane (n + 1) rest more ≡ None

begins_here : (names : List (List ℕ)) (place : Place) (n : ℕ) (rest line : List ℕ) (more : List (List ℕ)) → stands place line ≡ false
    → first_fault names place n rest (line ∷ more) ≡ None → Begins names n rest line more
begins_here names place n rest line more e h = of_test (begins_lane names line) refl
  where
    arms : Bool → Option ℕ
    arms t = elim t [ true ↦ first_fault (lanes_behind names) InLane (n + 1) rest more | false ↦ Some n ]

    of_test : (t : Bool) → begins_lane names line ≡ t → Begins names n rest line more
    of_test true b = record { begins = b; sound = sym (rw (e, b, first_fault) refl) ∙ h }
    of_test false b = let fault : first_fault names place n rest (line ∷ more) ≡ Some n = rw (e, b, first_fault) refl in absurd cc

no_heading : (o : Option EntryWords) → is_some o ≡ false → o ≡ None
no_heading None h = refl
no_heading (Some w) h = absurd cc

-- no line of an output stands here
none_out : (at : ℕ) (lines names : List (List ℕ)) → outs_front (drop at lines) ≡ [] → Goes at lines names → Outs at lines names
none_out at lines names h g = record {
  outs = [];
  are = h;
  rest = subst (λ n. Goes n lines names) (sym (add-zero at)) g;
  whole = ap (λ n. drop n lines) (sym (add-zero at));
}

one_out : (at : ℕ) (lines names : List (List ℕ)) (line : List ℕ) (more : List (List ℕ)) → drop at lines ≡ line ∷ more → is_output_line line ≡ true → Outs (at + 1) lines names → Outs at lines names
one_out at lines names line more h t o =
    let behind = next_line at lines line more h in
    let place : (at + 1) + length o.outs ≡ at + length (line ∷ o.outs) = omega arith in
    record {
      outs = line ∷ o.outs;
      are = ap outs_front h ∙ outs_yes line more t ∙ ap (λ l. line ∷ l) (ap outs_front (sym behind) ∙ o.are);
      rest = subst (λ n. Goes n lines names) place o.rest;
      whole = h ∙ ap (λ l. line ∷ l) (sym behind ∙ o.whole ∙ ap (λ n. o.outs ++ drop n lines) place);
    }

-- what is read of lines that are sound where they stand
record Reads (at : ℕ) (lines here : List (List ℕ)) : Type 0 where
  in_lane : (names : List (List ℕ)) (n : ℕ) (rest : List ℕ) → first_fault names InLane n rest here ≡ None → Goes at lines names
  in_entry : (names : List (List ℕ)) (n : ℕ) (rest : List ℕ) → first_fault names InEntry n rest here ≡ None → Outs at lines names

module _ (at : ℕ) (lines : List (List ℕ)) (line : List ℕ) (more : List (List ℕ)) (h : drop at lines ≡ line ∷ more) (later : Reads (at + 1) lines more) where
  entry_here : (names : List (List ℕ)) (place : Place) (n : ℕ) (rest : List ℕ) (w : EntryWords) → heading_of line ≡ Some w → stands place line ≡ true
      → first_fault names place n rest (line ∷ more) ≡ None → Goes at lines names
  entry_here names place n rest w e s k = entry_goes at lines names line more w h e (later.in_entry names (n + 1) rest (sym (goes_on names place n rest line more s) ∙ k))

  lane_here : (names : List (List ℕ)) (place : Place) (n : ℕ) (rest : List ℕ) → heading_of line ≡ None → stands place line ≡ false
      → first_fault names place n rest (line ∷ more) ≡ None → Goes at lines names
  lane_here names place n rest e s k =
      let b = begins_here names place n rest line more s k in
      lane_goes at lines names line more h e b.begins (later.in_lane (lanes_behind names) (n + 1) rest b.sound)

  of_lane : (names : List (List ℕ)) (n : ℕ) (rest : List ℕ) (o : Option EntryWords) → heading_of line ≡ o → first_fault names InLane n rest (line ∷ more) ≡ None → Goes at lines names
  of_lane names n rest (Some w) e k = entry_here names InLane n rest w e (ap is_some e) k
  of_lane names n rest None e k = lane_here names InLane n rest e (ap is_some e) k

  of_entry : (names : List (List ℕ)) (n : ℕ) (rest : List ℕ) (o : Option EntryWords) (t : Bool) → heading_of line ≡ o → is_output_line line ≡ t
      → first_fault names InEntry n rest (line ∷ more) ≡ None → Outs at lines names
  of_entry names n rest o true e t k =
      one_out at lines names line more h t (later.in_entry names (n + 1) rest (sym (goes_on names InEntry n rest line more (ap (λ b. is_entry_line line || b) t ∙ or_true (is_entry_line line))) ∙ k))
    where
      or_true : (b : Bool) → (b || true) ≡ true
      or_true true = refl
      or_true false = refl
  of_entry names n rest (Some w) false e t k =
      none_out at lines names (ap outs_front h ∙ outs_no line more t) (entry_here names InEntry n rest w e (ap (λ b. b || is_output_line line) (ap is_some e)) k)
  of_entry names n rest None false e t k =
      none_out at lines names (ap outs_front h ∙ outs_no line more t) (lane_here names InEntry n rest e (ap₂ (λ a b. a || b) (ap is_some e) t) k)

reads : (at : ℕ) (lines here : List (List ℕ)) → drop at lines ≡ here → Reads at lines here
reads at lines [] h = record {
  in_lane = λ names n rest k. no_lanes at lines names n rest h k;
  in_entry = λ names n rest k. none_out at lines names (ap outs_front h) (no_lanes at lines names n rest h k);
}
reads at lines (line ∷ more) h =
    let later = reads (at + 1) lines more (next_line at lines line more h) in
    record {
      in_lane = λ names n rest k. of_lane at lines line more h later names n rest (heading_of line) refl k;
      in_entry = λ names n rest k. of_entry at lines line more h later names n rest (heading_of line) (is_output_line line) refl refl k;
    }

-- nothing stands behind the last line feed
ends : (names : List (List ℕ)) (place : Place) (n : ℕ) (rest : List ℕ) (lines : List (List ℕ)) → first_fault names place n rest lines ≡ None → rest ≡ []
ends [] place n [] [] h = refl
ends [] place n (b ∷ bs) [] h = absurd cc
ends (name ∷ names) place n rest [] h = absurd cc
ends names place n rest (line ∷ more) h = of_stands (stands place line) refl (λ names' place' k. ends names' place' (n + 1) rest more k)
  where
    of_stands : (t : Bool) → stands place line ≡ t → ((names' : List (List ℕ)) (place' : Place) → first_fault names' place' (n + 1) rest more ≡ None → rest ≡ []) → rest ≡ []
    of_stands true s later = later names InEntry (sym (goes_on names place n rest line more s) ∙ h)
    of_stands false s later = later (lanes_behind names) InLane (begins_here names place n rest line more s h).sound

-- the lanes of a text
pub record HasLanes (names : List (List ℕ)) (text : List ℕ) : Type 0 where
  pub lanes : List LanePart
  pub have : HasForm names text lanes

record Stands (names lines : List (List ℕ)) : Type 0 where
  lanes : List LanePart
  are : AreLanes 0 lines names lanes
  whole : flat_map lines_of lanes ≡ lines

-- the first line is that of a lane
lanes_of : (names : List (List ℕ)) (n : ℕ) (rest : List ℕ) (lines : List (List ℕ)) → first_fault names AtTop n rest lines ≡ None → Stands names lines
lanes_of [] n rest [] h = record { lanes = []; are = tt; whole = refl }
lanes_of (name ∷ names) n rest [] h = absurd cc
lanes_of names n rest (line ∷ more) h =
    let b = begins_here names AtTop n rest line more refl h in
    of_names names b.begins ((reads 1 (line ∷ more) more refl).in_lane (lanes_behind names) (n + 1) rest b.sound)
  where
    of_names : (names : List (List ℕ)) → begins_lane names line ≡ true → Goes 1 (line ∷ more) (lanes_behind names) → Stands names (line ∷ more)
    of_names [] b g = absurd cc
    of_names (name ∷ names) b g =
        let text : line ≡ name = same_text line name (sym b) in
        let lane : LanePart = record { number = 1; text = name; entries = g.entries } in
        let place : 1 + entries_size g.entries ≡ 0 + (1 + entries_size g.entries) = omega arith in
        record {
          lanes = lane ∷ g.lanes;
          are = (
            record { number = refl; text = refl; line = ap (λ l. l ∷ more) text; entries = g.are; end = ap (λ n. entry_at n (line ∷ more)) (sym place) ∙ g.end },
            subst (λ n. AreLanes n (line ∷ more) names g.lanes) place g.stand,
          );
          whole = ap₂ (λ (l : List ℕ) (m : List (List ℕ)). l ∷ m) (sym text) (sym g.whole);
        }

pub has_lanes : (names : List (List ℕ)) (text : List ℕ) → form_fault names text ≡ None → HasLanes names text
unfolding form_fault
has_lanes names text h =
    let pieces = parted 10 text in
    let s = lanes_of names 1 (last_piece pieces) (ended_lines pieces) h in
    record {
      lanes = s.lanes;
      have = record { stand = s.are; whole = s.whole; end = ends names AtTop 1 (last_piece pieces) (ended_lines pieces) h; right = h };
    }
