-- What the reader's fields give of bytes in which an overlay file stands: each number that fits its bytes, as it was written. Over any version's layout. Assumes nothing.
use Rattle.std.specs.Prelude.{◌≡◌, refl, ◌<◌, ◌∷◌, ◌+◌, ◌*◌, ◌/◌, ◌%◌, ◌^◌}
use Rattle.std.proofs.Common.{eq-eqb, eqb-true}
use Rattle.seq.specs.Seq.{true, List, [], ℕ, suc, eqb}
use Rattle.seq.specs.Tests.{and_both, and_parts}
use Rattle.paper.specs.Bytes.{ascii, byte_at, marked}
use Rattle.paper.specs.Tables.{Counts, Tables}
use Rattle.paper.specs.Ovfile.{Layout}
use Rattle.laws_file.specs.Bytes.{Stands}
use Rattle.laws_file.specs.Placed.{Placed}

-- a mark is there exactly where it stands
pub stands-marked : (m s : List ℕ) (i : ℕ) → Stands s i m → marked m s i ≡ true
stands-marked [] s i h = refl
stands-marked (b ∷ m) s i h = and_both {a = eqb (byte_at s i) b} (eq-eqb (byte_at s i) b h.0) (stands-marked m s (suc i) h.1)

pub marked-stands : (m s : List ℕ) (i : ℕ) → marked m s i ≡ true → Stands s i m
marked-stands [] s i e = tt
marked-stands (b ∷ m) s i e = let r = and_parts (eqb (byte_at s i) b) (marked m s (suc i)) e in (eqb-true (byte_at s i) b r.0, marked-stands m s (suc i) r.1)

module _ (version : ℕ) (l : Layout) (c : Counts) (t : Tables) (s : List ℕ) (P : Placed version l c t s) where
  -- ── mark, version and counts ──

  pub mark-read : marked (ascii "ZOV") s 0 ≡ true
  mark-read = stands-marked (ascii "ZOV") s 0 P.mark
