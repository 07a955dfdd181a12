-- A search:    for i in 0..n { if p(i) { return i } } return n
-- or, where only whether there is one is asked:    for i in 0..n { if p(i) { return true } } return false
-- Before turn k nothing below k has p. A search may start at any place before which there is nothing to find. Assumes nothing.
use Rattle.std.specs.Prelude.{◌≡◌, refl, ◌≤◌, ◌<◌, ◌+◌}
use Rattle.std.proofs.Common.{◌∙◌, arith}
use Rattle.seq.specs.Seq.{Bool, ℕ, least}

pub record Searching (p : ℕ → Bool) (n k : ℕ) : Type 0 where
  pub within : k ≤ n
  pub none : least p k ≡ k

module _ {p : ℕ → Bool} {n : ℕ} where
  pub search_starts : Searching p n 0
  search_starts = record { within = omega arith; none = refl }
