-- Text put into a line. Assumes nothing.
use Rattle.std.specs.Prelude.{◌≡◌, ◌≤◌, ◌+◌}
use Rattle.seq.specs.Seq.{List, ℕ, length, sets}

-- the text, of at most `most` bytes, stands in t from a place on, where t was d before; r is the place behind it
pub record Put (text : List ℕ) (most : ℕ) (d : List ℕ) (at : ℕ) (t : List ℕ) (r : ℕ) : Type 0 where
  pub is : t ≡ sets d at text
  pub end : r ≡ at + length text
  pub kept : length t ≡ length d
  pub within : r ≤ at + most
