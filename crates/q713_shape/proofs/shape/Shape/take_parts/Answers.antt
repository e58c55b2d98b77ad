use Rattle.std.proofs.Common.{sym, arith}
use Rattle.q713_shape.specs.Parts.{format_of}
use Rattle.q713_shape.proofs.Whole.{values_of-empty, values_of-short}
use Rattle.q713_shape.proofs.shape.Shape.take_parts.Goals as goal

pub returns-then-is_empty : goal.returns-then-is_empty
returns-then-is_empty g c = values_of-empty (format_of c.args.self.now) c.args.bytes.now (sym c.if-is_empty.ensures)

pub returns-then-bytes-pointers_len : goal.returns-then-bytes-pointers_len
returns-then-bytes-pointers_len g c = values_of-short (format_of c.args.self.now) c.args.bytes.now (sym c.if-is_empty.ensures) (omega arith)
