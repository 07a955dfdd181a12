-- The edges through a stop, by tables (`Meets`), and how the cells of a table fall into parts. Assumes nothing.
use Rattle.std.specs.Prelude.{◌≡◌, ◌⊎◌, ◌≤◌, ◌<◌, ◌+◌, ◌-◌}
use Rattle.std.proofs.Common.{◌∙◌, ap, subst, inl, inr, arith}
use Rattle.std.proofs.Math.Decide.{dec_lt}
use Rattle.seq.specs.Seq.{List, ℤ, ℕ, get_or}
use Rattle.seq.specs.Terms.{Among}
use Rattle.seq.specs.Table.{table-among, among-table}
use Rattle.seq.specs.Search.{Stop, ScanStop}
use Rattle.paper.specs.Plane.{Pt}
use Rattle.overlay_sweep.specs.Numbers.{numbers_in}
use Rattle.overlay_sweep.specs.Sides.{right_at, on_at}
use Rattle.overlay_sweep.specs.Fans.{numbers_from, starts_in}

-- of c edges of the status st those in the cells a to b go through p, and those before have it on their right; of the e that wait in ws, from w on, those up to s start there
pub record Meets (cs : List ℤ) (e : ℕ) (ws st : List ℕ) (p : Pt) (c w a b s : ℕ) : Type 0 where
  pub west : Stop (right_at cs st p) c a
  pub through : ScanStop (on_at cs st p) c a b
  pub starts : ScanStop (λ i. starts_in cs p (get_or ws i 0)) e w s

-- ── parts of a table ──

module _ (t : List ℕ) (k : ℕ) where
  -- cell i is one of those from a to b
  pub cell_in : (a b i : ℕ) → a ≤ i → i < b → get_or t i 0 ≡ k → Among k (numbers_from t a (b - a))
  cell_in a b i h l e =
      let f : a + (i - a) ≡ i = omega arith in
      subst (λ (z : ℕ). Among z (numbers_from t a (b - a))) (ap (λ (j : ℕ). get_or t j 0) f ∙ e) (among-table (λ j. get_or t (a + j) 0) (b - a) (i - a) (omega arith))

  pub first_cells : (a c : ℕ) → a ≤ c → Among k (numbers_in t c) → Among k (numbers_in t a) ⊎ Among k (numbers_from t a (c - a))
  first_cells a c h m =
      let (i, l, e) = table-among (λ j. get_or t j 0) c k m in
      elim (dec_lt i a) [ yes q ↦ inl (subst (λ (z : ℕ). Among z (numbers_in t a)) e (among-table (λ j. get_or t j 0) a i q)) | no q ↦ inr (cell_in a c i (omega arith) l e) ]

  pub cells-part : (a b c : ℕ) → a ≤ b → b ≤ c → Among k (numbers_from t a (c - a)) → Among k (numbers_from t a (b - a)) ⊎ Among k (numbers_from t b (c - b))
  cells-part a b c h g m =
      let (i, l, e) = table-among (λ j. get_or t (a + j) 0) (c - a) k m in
      elim (dec_lt (a + i) b) [ yes q ↦ inl (cell_in a b (a + i) (omega arith) q e) | no q ↦ inr (cell_in b c (a + i) (omega arith) (omega arith) e) ]
