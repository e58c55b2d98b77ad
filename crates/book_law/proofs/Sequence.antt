-- The units of a key in a right book.
use Rattle.std.proofs.Common.{◌≡◌, ℕ, zero, suc, ◌+◌, ◌%◌, ◌<◌, true, false, List, [], ◌∷◌, ◌++◌, length, refl, sym, ap, ◌∙◌, subst, Some, arith, eq-eqb, ne_eqb, mod-lt}
use Rattle.std.specs.Prelude.{slice_get}
use Rattle.plant_core.specs.declared.entry.Entry.{Entry}
use Rattle.data_lane.specs.Legal.{IsDataJournal}
use Rattle.node_head.specs.declared.head.Head.{Head}
use Rattle.journal_text.specs.declared.book.Book.{Book}
use Rattle.capture_form.specs.Events.{Stamped}
use Rattle.capture_form.specs.Place.{place_of}
use Rattle.unit_law.proofs.Owning.{are_own}
use Rattle.right_book.specs.Own.{pairs_of}
use Rattle.right_book.specs.Heads.{lane_head_of}
use Rattle.right_book.specs.Placed.{in_data, taken, placed}
use Rattle.right_book.specs.Lanes.{LanesFrom, IsServed, data_kind}
use Rattle.right_book.specs.Right.{IsRight}
use Rattle.book_law.specs.SequenceLaw.{is_of_key, of_key, on_link, events_on, lane_of, SequenceLaw}
use Rattle.book_law.proofs.Links.{link_in_order}
use Rattle.book_law.proofs.Keys.{filter_within, filter_apart, link_taken, key_in}

-- what is said of each lane
lane_at : {A : Type 0} (P : ℕ → A → Type 0) (first n : ℕ) (lanes : List A) (lane : A) → LanesFrom P first lanes → slice_get lanes n ≡ Some lane → P (first + n) lane
lane_at P first n [] lane all is = absurd (cc)
lane_at P first zero (l ∷ lanes) lane all is =
    let same : l ≡ lane = cc in subst (λ k. P k lane) (omega arith) (subst (P first) same all.0)
lane_at P first (suc n) (l ∷ lanes) lane all is = subst (λ k. P k lane) (omega arith) (lane_at P (first + 1) n lanes lane all.1 is)

lane_of_number : {A : Type 0} (P : ℕ → A → Type 0) (n : ℕ) (lanes : List A) (lane : A) → LanesFrom P 0 lanes → slice_get lanes n ≡ Some lane → P n lane
lane_of_number P n lanes lane all is = subst (λ k. P k lane) (omega arith) (lane_at P 0 n lanes lane all is)

-- what a data lane has of a link
link_of : (head : Head) (phases : List (List Stamped)) (book : Book) (number : ℕ) (journal : List Entry) (link : ℕ) → IsRight head phases book
    → slice_get book.units number ≡ Some journal → on_link link (pairs_of journal) ≡ taken (in_data number) head (events_on phases link)
link_of head phases book number journal link right is =
    let served : IsServed data_kind head phases book.control number journal =
    lane_of_number (IsServed data_kind head phases book.control) number book.units journal right.served.units is in
    link_in_order link (placed (in_data number) head phases) (pairs_of journal) served.own ∙ link_taken (in_data number) head phases link

there : (lanes sls units : ℕ) → units ≡ lanes → 0 < lanes → sls % lanes < units
there lanes sls units are some = let within : sls % lanes < lanes = mod-lt sls some in omega (arith, within, are)

pub sequence : SequenceLaw
sequence head phases book point sls right =
    let key : (e : Stamped) → Stamped = of_key head point sls in
    record {
      there = λ some. there head.data_lanes sls (length book.units) right.lanes.units some;
      in_order = λ journal link is.
          ap key (link_of head phases book (lane_of head sls) journal link right is)
          ∙ filter_within (λ e. is_of_key head.point point sls e.1) (λ e. in_data (lane_of head sls) (place_of head e.1))
          (λ e. key_in head point sls (in_data (lane_of head sls)) true (eq-eqb (lane_of head sls) (lane_of head sls) refl) e.1) (events_on phases link);
      nowhere_else = λ number journal link other is.
          ap key (link_of head phases book number journal link right is)
          ∙ filter_apart (λ e. is_of_key head.point point sls e.1) (λ e. in_data number (place_of head e.1))
          (λ e. key_in head point sls (in_data number) false (ne_eqb (lane_of head sls) number (λ same. other (sym same))) e.1) (events_on phases link);
      own = λ number before entry after is alone.
          are_own.own (lane_head_of head) number before entry after
          (lane_of_number (IsDataJournal (lane_head_of head)) number book.units (before ++ entry ∷ after) right.legal.units is) alone;
    }
