-- The pointers of a message.
use Rattle.std.specs.Prelude.{◌≡◌, ℕ, ◌≤◌, ◌==◌, false, List, length}
use Rattle.q713_shape.specs.Format.{Format, place_behind_pointers}

-- a message has room for the pointers of its format
pub record HasPointers (format : Format) (b : List ℕ) : Type 0 where
  pub some : (length b == 0) ≡ false
  pub room : place_behind_pointers format ≤ length b
