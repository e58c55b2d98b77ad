-- The right books of phases whose events come one after another are equal.
use Rattle.std.proofs.Common.{◌≡◌, ℕ, ◌+◌, List, [], ◌∷◌, sym, ap, ◌∙◌, subst}
use Rattle.plant_core.specs.declared.entry.Entry.{Entry}
use Rattle.plant_core.specs.declared.entry.ControlEntry.{ControlEntry}
use Rattle.node_head.specs.declared.head.Head.{Head}
use Rattle.journal_text.specs.declared.book.Book.{Book}
use Rattle.data_lane.specs.Legal.{IsDataJournal}
use Rattle.section_model.specs.Journals.{IsConnJournal, lane_of}
use Rattle.capture_form.specs.Events.{Stamped}
use Rattle.right_book.specs.Own.{pairs_of}
use Rattle.right_book.specs.Heads.{lane_head_of}
use Rattle.right_book.specs.Lanes.{LanesFrom, IsServed, conn_kind, data_kind}
use Rattle.book_law.specs.OneBook.{OneRightBook}
use Rattle.book_law.proofs.Journals.{data_same, conn_same, lanes_same}
use Rattle.book_law.proofs.Places.{one_order, one_control}
use Rattle.book_law.proofs.Routings.{IsOfPhases, asks_before, are_asked, data_asks, conn_asks}

lanes_both : {A : Type 0} (P Q : ℕ → A → Type 0) (n : ℕ) (xs : List A) → LanesFrom P n xs → LanesFrom Q n xs → LanesFrom (λ k x. P k x × Q k x) n xs
lanes_both P Q n [] f g = tt
lanes_both P Q n (x ∷ xs) f g = ((f.0, g.0), lanes_both P Q (n + 1) xs f.1 g.1)

-- what a right book has of each lane
abbrev IsConn : Head → List (List Stamped) → List ControlEntry → ℕ → List Entry → Type 0
IsConn head phases control number journal = IsServed (conn_kind head) head phases control number journal × IsConnJournal (lane_head_of head) number journal

abbrev IsData : Head → List (List Stamped) → List ControlEntry → ℕ → List Entry → Type 0
IsData head phases control number journal = IsServed data_kind head phases control number journal × IsDataJournal (lane_head_of head) number journal

one_conn : (head : Head) (phases : List (List Stamped)) (control : List ControlEntry) (of : IsOfPhases head phases control) (number : ℕ) (xs ys : List Entry) → IsConn head phases control number xs → IsConn head phases control number ys → xs ≡ ys
one_conn head phases control of number xs ys f g =
    conn_same (asks_before (conn_kind head) head control) (lane_of (lane_head_of head) number) xs ys
    (are_asked (conn_kind head) head phases control number xs (conn_asks head) of f.0) (are_asked (conn_kind head) head phases control number ys (conn_asks head) of g.0) f.1 g.1
    (one_order ((conn_kind head).is_in number) head phases (pairs_of xs) (pairs_of ys) of.sequential f.0.own g.0.own)

one_data : (head : Head) (phases : List (List Stamped)) (control : List ControlEntry) (of : IsOfPhases head phases control) (number : ℕ) (xs ys : List Entry) → IsData head phases control number xs → IsData head phases control number ys → xs ≡ ys
one_data head phases control of number xs ys f g =
    data_same (asks_before data_kind head control) (lane_head_of head) number xs ys
    (are_asked data_kind head phases control number xs (data_asks head) of f.0) (are_asked data_kind head phases control number ys (data_asks head) of g.0) f.1 g.1
    (one_order (data_kind.is_in number) head phases (pairs_of xs) (pairs_of ys) of.sequential f.0.own g.0.own)

-- a book is its three parts
abbrev book : List ControlEntry → List (List Entry) → List (List Entry) → Book
book control conns units = record { control = control; conns = conns; units = units }

book_same : (x y : Book) → x.control ≡ y.control → x.conns ≡ y.conns → x.units ≡ y.units → x ≡ y
book_same x y a b c = ap (λ k. book k x.conns x.units) a ∙ ap (λ l. book y.control l x.units) b ∙ ap (λ u. book y.control y.conns u) c

pub one_right_book : OneRightBook
one_right_book head phases one other linked sequential f g =
    let control : one.control ≡ other.control = one_control head phases one.control other.control sequential f.served.control g.served.control f.legal.control g.legal.control in
    let of : IsOfPhases head phases one.control = record { linked = linked; sequential = sequential; own = f.served.control; legal = f.legal.control } in
    let conns : LanesFrom (IsServed (conn_kind head) head phases one.control) 0 other.conns =
    subst (λ c. LanesFrom (IsServed (conn_kind head) head phases c) 0 other.conns) (sym control) g.served.conns in
    let units : LanesFrom (IsServed data_kind head phases one.control) 0 other.units =
    subst (λ c. LanesFrom (IsServed data_kind head phases c) 0 other.units) (sym control) g.served.units in
    book_same one other control
    (lanes_same (IsConn head phases one.control) 0 one.conns other.conns (λ k. one_conn head phases one.control of k) (f.lanes.conns ∙ sym g.lanes.conns)
    (lanes_both (IsServed (conn_kind head) head phases one.control) (IsConnJournal (lane_head_of head)) 0 one.conns f.served.conns f.legal.conns)
    (lanes_both (IsServed (conn_kind head) head phases one.control) (IsConnJournal (lane_head_of head)) 0 other.conns conns g.legal.conns))
    (lanes_same (IsData head phases one.control) 0 one.units other.units (λ k. one_data head phases one.control of k) (f.lanes.units ∙ sym g.lanes.units)
    (lanes_both (IsServed data_kind head phases one.control) (IsDataJournal (lane_head_of head)) 0 one.units f.served.units f.legal.units)
    (lanes_both (IsServed data_kind head phases one.control) (IsDataJournal (lane_head_of head)) 0 other.units units g.legal.units))
