-- Lanes, and the first line that breaks a form.
use Rattle.std.proofs.Common.{◌≡◌, ◌∙◌, ◌<◌, ◌≤◌, ◌+◌, ◌&&◌, ◌||◌, ℕ, zero, suc, Bool, true, false, List, [], ◌∷◌, ◌++◌, length, take, drop, get_or, Option, Some, None, Err, IfErr, option_map, is_some, refl, sym, ap, ap₂, subst, arith, add-one, add-zero, length-drop, drop-drop}
use Rattle.std.proofs.lemmas.Bool.{eqb-true, eq-eqb}
use Rattle.std.proofs.lemmas.List.{at_drop_more, take_more}
use Rattle.std.specs.Borrow.{Bor}
use Rattle.std.specs.declared.result.Result.{Result}
use Rattle.journal_form.specs.declared.parts.LaneForm.{LaneForm}
use Rattle.journal_form.specs.declared.parts.FormRefused.{FormRefused}
use Rattle.journal_form.specs.declared.parts.FormRefused.TheVariants.{Fault, Memory}
use Rattle.journal_form.specs.Words.{same}
use Rattle.journal_form.specs.Outputs.{is_output_line}
use Rattle.journal_form.specs.Headings.{EntryWords, heading_of, is_entry_line}
use Rattle.journal_form.specs.Form.{InLane, InEntry, stands, first_fault}
use Rattle.journal_form.specs.Parts.{EntryPart, LanePart, outs_front, entry_front, entry_at, entry_size, entries_size, lane_size, lanes_size, AreEntries, IsLane, AreLanes}
use Rattle.journal_form.specs.Inner.Seen.{texts, seen_lane, seen_lanes}
use Rattle.journal_form.specs.Inner.Reading.{front_is, place_of, HasLane, HasLanes, LacksLane, BreaksForm}
use Rattle.journal_form.proofs.PartLemmas.{line_at, outs_no, outs_yes}

-- ---- two texts that are the same

and_left : (s t : Bool) → (s && t) ≡ true → s ≡ true
and_left true t h = refl
and_left false t h = h

and_right : (s t : Bool) → (s && t) ≡ true → t ≡ true
and_right true t h = h
and_right false t h = cc

pub same_is : (a b : List ℕ) → same a b ≡ true → a ≡ b
same_is [] [] h = refl
same_is [] (y ∷ b) h = cc
same_is (x ∷ a) [] h = cc
same_is (x ∷ a) (y ∷ b) h = ap₂ (λ u v. u ∷ v) (eqb-true x y (and_left _ _ h)) (same_is a b (and_right _ _ h))

-- ---- the line of a lane at the front

front_nil : (lines : List (List ℕ)) (name : List ℕ) → length lines ≡ 0 → front_is lines name ≡ false
front_nil [] name h = refl
front_nil (line ∷ more) name h = absurd (omega (arith, h))

pub texts_length : (lines : List (Bor (List ℕ))) → length (texts lines) ≡ length lines
texts_length [] = refl
texts_length (line ∷ more) = omega (arith, texts_length more)

pub front_past : (lines : List (Bor (List ℕ))) (at : ℕ) (name : List ℕ) → length lines ≤ at → front_is (drop at (texts lines)) name ≡ false
front_past lines at name h = front_nil (drop at (texts lines)) name (omega (arith, length-drop at (texts lines), texts_length lines, h))

pub front_here : (lines : List (Bor (List ℕ))) (at : ℕ) (none : Bor (List ℕ)) (name : List ℕ) → at < length lines → front_is (drop at (texts lines)) name ≡ same (get_or lines at none).now name
front_here lines at none name h = ap (λ l. front_is l name) (line_at lines at none h)

-- ---- where no entry stands at the front, a line that breaks the form is no output either

none_is_entry : (n : ℕ) (line : List ℕ) (more : List (List ℕ)) → entry_front n (line ∷ more) ≡ None → is_entry_line line ≡ false
none_is_entry n line more is = of_heading (heading_of line) is
  where
    of_heading : (h : Option EntryWords) → option_map {U = EntryPart} (λ w. record { number = n; text = line; words = w; outs = outs_front more }) h ≡ None → is_some h ≡ false
    of_heading None k = refl
    of_heading (Some w) k = cc

pub stands_not : (k n : ℕ) (line : List ℕ) (more : List (List ℕ)) → (0 < k → entry_front n (line ∷ more) ≡ None) → stands (place_of k) line ≡ false
stands_not zero n line more h = refl
stands_not (suc k) n line more h = none_is_entry n line more (h (omega arith))

-- the fault is at the front
pub fault_here : (k n : ℕ) (name : List ℕ) (names : List (List ℕ)) (rest : List ℕ) (lines : List (List ℕ)) → (0 < k → entry_front n lines ≡ None) → front_is lines name ≡ false
    → first_fault (name ∷ names) (place_of k) n rest lines ≡ Some n
fault_here k n name names rest [] h is = refl
fault_here k n name names rest (line ∷ more) h is = rw (stands_not k n line more h, is, first_fault) refl

-- a lane begins at the front
lane_here : (k n : ℕ) (name : List ℕ) (names : List (List ℕ)) (rest line : List ℕ) (more : List (List ℕ)) → (0 < k → entry_front n (line ∷ more) ≡ None) → same line name ≡ true
    → first_fault (name ∷ names) (place_of k) n rest (line ∷ more) ≡ first_fault names InLane (n + 1) rest more
lane_here k n name names rest line more h is = rw (stands_not k n line more h, is, first_fault) refl

-- ---- the lines of outputs, of entries and of a lane break nothing

or_true : (t : Bool) → (t || true) ≡ true
or_true true = refl
or_true false = refl

or_false : (t : Bool) → (t || false) ≡ t
or_false true = refl
or_false false = refl

-- a line that isn't an output's stands under an entry as it does in the lane
settled : (names : List (List ℕ)) (n : ℕ) (rest line : List ℕ) (more : List (List ℕ)) → is_output_line line ≡ false
    → first_fault names InEntry n rest (line ∷ more) ≡ first_fault names InLane n rest (line ∷ more)
settled names n rest line more is =
    let alike : stands InEntry line ≡ stands InLane line = rw is (or_false (is_entry_line line)) in
    rw (alike, first_fault) refl

stood : (names : List (List ℕ)) (n : ℕ) (rest line : List ℕ) (more : List (List ℕ)) → is_output_line line ≡ true
    → first_fault names InEntry n rest (line ∷ more) ≡ first_fault names InEntry (n + 1) rest more
stood names n rest line more is =
    let stands_here : stands InEntry line ≡ true = rw is (or_true (is_entry_line line)) in
    rw (stands_here, first_fault) refl

-- from this number and these lines on
abbrev Behind : List (List ℕ) → ℕ → List ℕ → List (List ℕ) → Option ℕ
Behind names n rest lines = first_fault names InLane n rest lines

fault_outs : (names : List (List ℕ)) (n : ℕ) (rest : List ℕ) (lines : List (List ℕ))
    → first_fault names InEntry n rest lines ≡ Behind names (n + length (outs_front lines)) rest (drop (length (outs_front lines)) lines)
fault_outs names n rest [] = rw add-zero refl
fault_outs names n rest (line ∷ more) = of_test (is_output_line line) refl (fault_outs names (n + 1) rest more)
  where
    of_test : (t : Bool) → is_output_line line ≡ t
        → first_fault names InEntry (n + 1) rest more ≡ Behind names ((n + 1) + length (outs_front more)) rest (drop (length (outs_front more)) more)
        → first_fault names InEntry n rest (line ∷ more) ≡ Behind names (n + length (outs_front (line ∷ more))) rest (drop (length (outs_front (line ∷ more))) (line ∷ more))
    of_test true is h =
        let number : (n + 1) + length (outs_front more) ≡ n + length (line ∷ outs_front more) = omega arith in
        let outs : outs_front (line ∷ more) ≡ line ∷ outs_front more = outs_yes line more is in
        stood names n rest line more is ∙ h ∙ ap (λ k. Behind names k rest (drop (length (outs_front more)) more)) number
        ∙ ap (λ o. Behind names (n + length o) rest (drop (length o) (line ∷ more))) (sym outs)
    of_test false is h =
        let outs : outs_front (line ∷ more) ≡ [] = outs_no line more is in
        settled names n rest line more is ∙ ap (λ k. Behind names k rest (line ∷ more)) (sym (add-zero n))
        ∙ ap (λ o. Behind names (n + length o) rest (drop (length o) (line ∷ more))) (sym outs)

entered : (names : List (List ℕ)) (n : ℕ) (rest line : List ℕ) (more : List (List ℕ)) → is_entry_line line ≡ true
    → first_fault names InLane n rest (line ∷ more) ≡ first_fault names InEntry (n + 1) rest more
entered names n rest line more is = rw (is, first_fault) refl

fault_front : (names : List (List ℕ)) (n m : ℕ) (rest : List ℕ) (lines : List (List ℕ)) (e : EntryPart) → entry_front m lines ≡ Some e
    → Behind names n rest lines ≡ Behind names (n + entry_size e) rest (drop (entry_size e) lines)
fault_front names n m rest [] e is = cc
fault_front names n m rest (line ∷ more) e is = of_heading (heading_of line) refl is
  where
    of_heading : (h : Option EntryWords) → heading_of line ≡ h → option_map {U = EntryPart} (λ w. record { number = m; text = line; words = w; outs = outs_front more }) h ≡ Some e
        → Behind names n rest (line ∷ more) ≡ Behind names (n + entry_size e) rest (drop (entry_size e) (line ∷ more))
    of_heading None k g = cc
    of_heading (Some w) k g =
        let same : record { number = m; text = line; words = w; outs = outs_front more } ≡ e = cc in
        let is_entry : is_entry_line line ≡ true = ap is_some k in
        let size : suc (length (outs_front more)) ≡ 1 + length (outs_front more) = omega arith in
        let number : (n + 1) + length (outs_front more) ≡ n + (1 + length (outs_front more)) = omega arith in
        entered names n rest line more is_entry ∙ fault_outs names (n + 1) rest more
        ∙ ap (λ k. Behind names k rest (drop (length (outs_front more)) more)) number
        ∙ ap (λ k. Behind names (n + (1 + length (outs_front more))) rest (drop k (line ∷ more))) size
        ∙ ap (λ x. Behind names (n + entry_size x) rest (drop (entry_size x) (line ∷ more))) same

fault_entry : (names : List (List ℕ)) (at : ℕ) (rest : List ℕ) (lines : List (List ℕ)) (e : EntryPart) → entry_at at lines ≡ Some e
    → Behind names (at + 1) rest (drop at lines) ≡ Behind names ((at + entry_size e) + 1) rest (drop (at + entry_size e) lines)
fault_entry names at rest lines e is =
    let size = entry_size e in
    let number : (at + 1) + size ≡ (at + size) + 1 = omega arith in
    let place : drop size (drop at lines) ≡ drop (at + size) lines = drop-drop size at lines ∙ ap (λ k. drop k lines) (omega arith) in
    fault_front names (at + 1) (at + 1) rest (drop at lines) e is ∙ ap₂ (λ k l. Behind names k rest l) number place

fault_entries : (names : List (List ℕ)) (at : ℕ) (rest : List ℕ) (lines : List (List ℕ)) (es : List EntryPart) → AreEntries at lines es
    → Behind names (at + 1) rest (drop at lines) ≡ Behind names ((at + entries_size es) + 1) rest (drop (at + entries_size es) lines)
fault_entries names at rest lines [] h = rw add-zero refl
fault_entries names at rest lines (e ∷ es) h =
    let place : (at + entry_size e) + entries_size es ≡ at + (entry_size e + entries_size es) = omega arith in
    fault_entry names at rest lines e h.0 ∙ fault_entries names (at + entry_size e) rest lines es h.1
    ∙ ap (λ k. Behind names (k + 1) rest (drop k lines)) place

same_refl : (a : List ℕ) → same a a ≡ true
same_refl [] = refl
same_refl (x ∷ a) = rw (eq-eqb x x refl, same_refl a) refl

fault_lane : (k at : ℕ) (name : List ℕ) (names : List (List ℕ)) (rest : List ℕ) (lines : List (List ℕ)) (lane : LanePart) → (0 < k → entry_at at lines ≡ None) → IsLane at lines name lane
    → first_fault (name ∷ names) (place_of k) (at + 1) rest (drop at lines) ≡ Behind names ((at + lane_size lane) + 1) rest (drop (at + lane_size lane) lines)
fault_lane k at name names rest lines lane h is =
    let front : entry_at at lines ≡ entry_front (at + 1) (name ∷ drop (at + 1) lines) = ap (entry_front (at + 1)) is.line in
    let free : 0 < k → entry_front (at + 1) (name ∷ drop (at + 1) lines) ≡ None = λ p. sym front ∙ h p in
    let place : (at + 1) + entries_size lane.entries ≡ at + lane_size lane = omega arith in
    ap (first_fault (name ∷ names) (place_of k) (at + 1) rest) is.line
    ∙ lane_here k (at + 1) name names rest name (drop (at + 1) lines) free (same_refl name)
    ∙ fault_entries names (at + 1) rest lines lane.entries is.entries
    ∙ ap (λ n. Behind names (n + 1) rest (drop n lines)) place

-- ---- a lane that was read

pub HasLane-read : (lines : List (Bor (List ℕ))) (at : ℕ) (none : Bor (List ℕ)) (name : List ℕ) (entries : List EntryPart) (next : ℕ) → at < length lines
    → same (get_or lines at none).now name ≡ true → AreEntries (at + 1) (texts lines) entries → next ≡ at + 1 + entries_size entries → next ≤ length lines
    → entry_at next (texts lines) ≡ None → HasLane at (texts lines) name (record { number = at + 1; text = (get_or lines at none).now; entries = entries }) next
HasLane-read lines at none name entries next h is are place within end =
    let text : (get_or lines at none).now ≡ name = same_is (get_or lines at none).now name is in
    let next_is : next ≡ at + (1 + entries_size entries) = omega (arith, place) in
    record {
      stands = record {
        number = refl;
        text = text;
        line = line_at lines at none h ∙ ap (λ t. t ∷ drop (at + 1) (texts lines)) text;
        entries = are;
        end = subst (λ n. entry_at n (texts lines) ≡ None) next_is end;
      };
      place = next_is;
      within = omega (arith, within, texts_length lines);
    }

-- ---- the lanes that were read

pub HasLanes-none : (names lines : List (List ℕ)) → HasLanes names lines 0 [] 0
HasLanes-none names lines = record { stand = tt; place = refl; within = omega arith; end = λ p. absurd (omega (arith, p)); fault = λ rest. refl }

lanes_then : (at : ℕ) (lines names : List (List ℕ)) (lanes : List LanePart) (name : List ℕ) (lane : LanePart) → AreLanes at lines names lanes
    → IsLane (at + lanes_size lanes) lines name lane → AreLanes at lines (names ++ name ∷ []) (lanes ++ lane ∷ [])
lanes_then at lines [] [] name lane h k = (rw add-zero at k, tt)
lanes_then at lines [] (l ∷ lanes) name lane h k = absurd h
lanes_then at lines (n ∷ names) [] name lane h k = absurd h
lanes_then at lines (n ∷ names) (l ∷ lanes) name lane h k =
    let place : at + (lane_size l + lanes_size lanes) ≡ (at + lane_size l) + lanes_size lanes = omega arith in
    (h.0, lanes_then (at + lane_size l) lines names lanes name lane h.1 (subst (λ n. IsLane n lines name lane) place k))

lanes_size_then : (lanes : List LanePart) (lane : LanePart) → lanes_size (lanes ++ lane ∷ []) ≡ lanes_size lanes + lane_size lane
lanes_size_then [] lane = omega arith
lanes_size_then (l ∷ lanes) lane = omega (arith, lanes_size_then lanes lane)

place_next : (k : ℕ) → place_of (k + 1) ≡ InLane
place_next k = rw add-one refl

names_left : (names : List (List ℕ)) (k : ℕ) (name : List ℕ) → k < length names → name ≡ get_or names k name → drop k names ≡ name ∷ drop (k + 1) names
names_left names k name h is = at_drop_more (λ l. l) names k name h ∙ ap (λ n. n ∷ drop (k + 1) names) (sym is)

-- one more lane was read
pub HasLanes-then : (names lines : List (List ℕ)) (k : ℕ) (lanes : List LanePart) (at : ℕ) (name : List ℕ) (lane : LanePart) (next : ℕ) → k < length names → name ≡ get_or names k name
    → HasLanes names lines k lanes at → HasLane at lines name lane next → HasLanes names lines (k + 1) (lanes ++ lane ∷ []) next
HasLanes-then names lines k lanes at name lane next within is h read =
    let here : IsLane (0 + lanes_size lanes) lines name lane = subst (λ n. IsLane n lines name lane) (h.place ∙ omega arith) read.stands in
    let more : take (k + 1) names ≡ take k names ++ name ∷ [] = take_more names k name within ∙ ap (λ n. take k names ++ n ∷ []) (sym is) in
    let left : drop k names ≡ name ∷ drop (k + 1) names = names_left names k name within is in
    let size : lanes_size (lanes ++ lane ∷ []) ≡ lanes_size lanes + lane_size lane = lanes_size_then lanes lane in
    record {
      stand = subst (λ n. AreLanes 0 lines n (lanes ++ lane ∷ [])) (sym more) (lanes_then 0 lines (take k names) lanes name lane h.stand here);
      place = omega (arith, h.place, read.place, size);
      within = read.within;
      end = λ p. subst (λ n. entry_at n lines ≡ None) (sym read.place) read.stands.end;
      fault = λ rest.
          h.fault rest ∙ ap (λ l. first_fault l (place_of k) (at + 1) rest (drop at lines)) left
          ∙ fault_lane k at name (drop (k + 1) names) rest lines lane h.end read.stands
          ∙ ap₂ (λ p n. first_fault (drop (k + 1) names) p (n + 1) rest (drop n lines)) (sym (place_next k)) (sym read.place);
    }

-- a lane lacks
pub BreaksForm-at : (names lines : List (List ℕ)) (k : ℕ) (lanes : List LanePart) (at : ℕ) (name : List ℕ) (e : FormRefused) → k < length names → name ≡ get_or names k name
    → HasLanes names lines k lanes at → LacksLane at lines name e → BreaksForm names lines e
BreaksForm-at names lines k lanes at name Memory within is h lacks = tt
BreaksForm-at names lines k lanes at name (Fault n) within is h lacks = λ rest.
    h.fault rest ∙ ap (λ l. first_fault l (place_of k) (at + 1) rest (drop at lines)) (names_left names k name within is)
    ∙ fault_here k (at + 1) name (drop (k + 1) names) rest (drop at lines) h.end lacks.1 ∙ ap Some (sym lacks.0)

pub lanes-then : (lanes : List LaneForm) (lane : LaneForm) → seen_lanes (lanes ++ lane ∷ []) ≡ seen_lanes lanes ++ seen_lane lane ∷ []
lanes-then [] lane = refl
lanes-then (l ∷ lanes) lane = ap (λ m. seen_lane l ∷ m) (lanes-then lanes lane)

pub refused : {T : Type 0} (r : Result T FormRefused) (e : FormRefused) (P : FormRefused → Type 0) → r ≡ Err e → P e → IfErr r P
refused r e P is p = rw is p
