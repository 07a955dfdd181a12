-- The form of a file as the code judges it: the mark byte by byte. Assumes nothing.
use Rattle.std.specs.Prelude.{◌&&◌}
use mathlib.Core.Path.{◌≡◌, refl, ap}
use Rattle.seq.specs.Seq.{Bool, true, false, List, ℕ, eqb}
use Rattle.paper.specs.Bytes.{byte_at, ascii, marked}

pub mark_is : (s : List ℕ) → (eqb (byte_at s 0) 90 && (eqb (byte_at s 1) 79 && eqb (byte_at s 2) 86)) ≡ marked (ascii "ZOV") s 0
mark_is s = ap (λ (b : Bool). eqb (byte_at s 0) 90 && (eqb (byte_at s 1) 79 && b)) (alone (eqb (byte_at s 2) 86))
  where
    alone : (b : Bool) → b ≡ (b && true)
    alone true = refl
    alone false = refl
