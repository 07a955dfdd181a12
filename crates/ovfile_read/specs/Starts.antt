-- What is worked out once for a whole file: where its edges and its faces start. And the table that the search for sound edge records keeps: the half-edges that follow another one so
-- far. Assumes nothing.
use Rattle.std.specs.Prelude.{◌≡◌, ◌<◌, ◌≤◌, ◌^◌}
use Rattle.seq.specs.Seq.{not, List, ℕ, eqb, length, get_or, the_some_below}
use Rattle.paper.specs.Ovfile.{Layout, edges_at, faces_at}
use Rattle.paper.specs.Reader.{counts_in}
use Rattle.ovfile.specs.Known.{Known}

pub record EdgesFrom (l : Layout) (s : List ℕ) (start : ℕ) : Type 0 where
  pub known : Known l
  pub at : start ≡ edges_at l (counts_in s)
  pub near : start < 2 ^ 32

pub record FacesFrom (l : Layout) (s : List ℕ) (start : ℕ) : Type 0 where
  pub known : Known l
  pub at : start ≡ faces_at l (counts_in s)
  pub near : start < 2 ^ 32

-- t has 0 in cell x, of n, exactly if no number below h has the key x
pub record Taken (key : ℕ → ℕ) (n h : ℕ) (t : List ℕ) : Type 0 where
  pub room : n ≤ length t
  pub at : (x : ℕ) → x < n → eqb (get_or t x 0) 0 ≡ not (the_some_below (λ j. eqb (key j) x) h)
