-- Segments (Q.713, 3.17; Q.714, 4.1.1): which belong together, and where in their message they stand.
use Rattle.std.specs.Prelude.{ℕ, ◌%◌, ◌==◌, ◌&&◌, nat_le, Bool, List, drop, slice_index}
use Rattle.std.specs.Str.{bytes_eq}
use Rattle.reassembly.specs.declared.piece.Piece.{Piece}

-- what the segments of one message have in common: their origin, the calling address, and the segmentation local reference
pub record Key : Type 0 where
  pub opc : ℕ
  pub calling : List ℕ
  pub reference : List ℕ

abbrev pub key_of : Piece → Key
key_of piece = record { opc = piece.opc; calling = piece.calling; reference = drop 1 piece.segmentation }

abbrev pub same_key : Key → Key → Bool
same_key k l = k.opc == l.opc && (bytes_eq k.reference l.reference && bytes_eq k.calling l.calling)

-- bit 8 of the segmentation's first octet
abbrev pub is_first : Piece → Bool
is_first piece = nat_le 128 (slice_index piece.segmentation 0)

-- bits 4 to 1 of it: the number of segments behind this one
abbrev pub remaining : Piece → ℕ
remaining piece = slice_index piece.segmentation 0 % 16
