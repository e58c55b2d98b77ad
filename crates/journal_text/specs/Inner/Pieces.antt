-- The print of a book in pieces.
use Rattle.std.specs.Prelude.{◌≡◌, ℕ, List, ◌++◌, codes, OnOk}
use Rattle.std.specs.declared.result.Result.{Result}
use Rattle.std.specs.Fmt.{decimal}
use Rattle.std.specs.List.{flat_map}
use Rattle.journal_text.specs.declared.pieces.Piece.{Piece}
use Rattle.journal_text.specs.declared.pieces.Piece.TheVariants as piece
use Rattle.journal_text.specs.declared.book.Book.{Book}
use Rattle.journal_text.specs.Print.{controls_text, entries_text, lanes_text}

-- the line above a lane of a kind
abbrev pub above_text : List ℕ → ℕ → List ℕ
above_text name number = codes "= " ++ name ++ codes " " ++ decimal number ++ codes "\n"

abbrev pub piece_text : Piece → List ℕ
piece_text (piece.Control entries) = controls_text entries.now
piece_text (piece.Above name number) = above_text name.now number
piece_text (piece.Lane entries) = entries_text entries.now

abbrev pub pieces_text : List Piece → List ℕ
pieces_text pieces = flat_map piece_text pieces

-- pieces with this print follow, unless memory ran out
abbrev pub GoesOnWith : {U E : Type 0} → Result U E → List Piece → List Piece → List ℕ → Type 0
GoesOnWith result old new text = OnOk result (pieces_text new ≡ pieces_text old ++ text)

-- the print of all lanes
abbrev pub all_lanes_text : Book → List ℕ
all_lanes_text book = controls_text book.control ++ lanes_text (codes "conn") 0 book.conns ++ lanes_text (codes "data") 0 book.units
