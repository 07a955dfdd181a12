-- Tables of zeros, and lists laid over them: however long the table is, it has the list's cells. Assumes nothing.
use Rattle.std.specs.Prelude.{◌≡◌, refl, ◌≤◌, ◌-◌}
use Rattle.std.proofs.Common.{◌∙◌, ap, arith, length-append}
use Rattle.std.proofs.lemmas.List.{length-replicate}
use Rattle.seq.specs.Seq.{List, ℕ, length, replicate, over}
use Rattle.seq.specs.Wiped.{over_zeros}
use Rattle.overlay_graph.specs.Traced.{Blank, Zeroed}

pub blank_long : (n : ℕ) (t : List ℕ) → Blank n t → n ≤ length t
blank_long n t B = omega (arith, B.room, ap length B.is, length-replicate {A = ℕ} B.cells 0)

pub blank : (n cells : ℕ) → n ≤ cells → Blank n (replicate cells 0)
blank n cells h = record { cells = cells; room = h; is = refl }

pub zeroed_long : (xs t : List ℕ) → Zeroed xs t → length xs ≤ length t
zeroed_long xs t Z = omega (arith, ap length Z.is, length-append xs (replicate (Z.cells - length xs) 0))

-- what is laid over zeros
pub over_blank : (n : ℕ) (xs d t : List ℕ) → Blank n d → t ≡ over xs d → Zeroed xs t
over_blank n xs d t B e = record { cells = B.cells; is = e ∙ ap (over xs) B.is ∙ over_zeros 0 B.cells xs }
