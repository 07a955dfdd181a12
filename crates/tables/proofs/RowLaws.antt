-- What the loops that store rows lean on: a twin fits where its half-edge does, and a table that is laid and then wiped is padded. Assumes nothing.
use Rattle.std.specs.Prelude.{◌+◌, ◌*◌}
use mathlib.Core.Path.{◌≡◌, ◌∙◌, ap}
use Prim.Native.Nat.{◌≤◌}
use native.Mathlib.Omega.{arith}
use Rattle.seq.specs.Seq.{List, ℕ, length, rows, laid, padded, wiped}
use Rattle.seq.specs.Wiped.{wiped-laid}
use Rattle.paper.specs.Graph.{twin}
use Rattle.laws_graph.specs.Halves.{twin-half}

pub twin-le : (h : ℕ) → twin h ≤ h + 1
twin-le h = omega (arith, twin-half h)

-- t is d with n rows laid, and u is t wiped past them
pub laid-wiped : {A : Type 0} (z : A) (w n : ℕ) (f : ℕ → List A) (d : List A) {t u : List A} → ((k : ℕ) → length (f k) ≡ w) → w * n ≤ length d → t ≡ laid n f d
    → u ≡ wiped z (w * n) t → u ≡ padded z (length d) (rows f n)
laid-wiped z w n f d each h e q = q ∙ ap (wiped z (w * n)) e ∙ wiped-laid z w n f d each h
