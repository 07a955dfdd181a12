-- Which way a half-edge goes, in flat tables: what the code computes, and that it is the definition's. Then a table of headings, rows of two. Assumes nothing.
use Rattle.std.specs.Prelude.{◌≡◌, ◌<◌, ◌∷◌, ◌+◌, ◌*◌, ◌/◌}
use Rattle.std.proofs.Common.{arith}
use Rattle.seq.specs.Seq.{Bool, cond, List, [], ℕ, ℤ, pos, cell}
use Rattle.paper.specs.Plane.{Vec, vec, opposite, before}
use Rattle.paper.specs.Graph.{twin, goes_up, heading}
use Rattle.laws_graph.specs.Halves.{twin_below}
use Rattle.graph.specs.Flat.{carrier_at, origin_at, start_at, flat_graph, Flat, Starts, Carried}
use Rattle.graph.specs.Laws.Decode.{flat-halves, flat_start, flat-upward}

abbrev pub the_up_at : List ℤ → List ℕ → ℕ → Bool
the_up_at ps os h = before (start_at ps os h) (start_at ps os (twin h))

abbrev pub heading_at : List ℤ → List ℕ → List ℤ → ℕ → Vec
heading_at ps os cs h = let u = (carrier_at cs (h / 2)).up in cond (the_up_at ps os h) u (opposite u)

-- ── a table of headings ──

abbrev pub heading_width : ℕ
heading_width = 2

-- a direction as a row
abbrev pub row : Vec → List ℤ
row u = u.x ∷ u.y ∷ []

-- the direction in row h
abbrev pub vec_at : List ℤ → ℕ → Vec
vec_at hs h = vec (cell (pos 0) 2 hs h 0) (cell (pos 0) 2 hs h 1)

-- the twin of one of the half-edges of e edges is one too
pub twin_under : (e h : ℕ) → h < 2 * e → twin h < 2 * e
twin_under e h l = let m = flat-halves [] [] [] 0 e in omega (arith, m, twin_below (flat_graph [] [] [] 0 e) h (omega arith))

-- ── the definition's ──

module _ (ps : List ℤ) (os : List ℕ) (cs : List ℤ) (n e : ℕ) (F : Flat ps os cs n e) where
  pub flat_starts : (h : ℕ) → h < 2 * e → Starts ps os h
  flat_starts h l =
      let v = F.origins.named h l in
      record { named = omega (arith, F.origins.long); row = omega (arith, F.points.long); near = F.points.near (origin_at os h) v }

  pub flat_ends : (k : ℕ) → k < e → Starts ps os (2 * k) × Starts ps os (2 * k + 1)
  flat_ends k l = (flat_starts (2 * k) (omega arith), flat_starts (2 * k + 1) (omega arith))

  pub flat-carried : (k : ℕ) → k < e → Carried cs k
  flat-carried k l = record { row = omega (arith, F.carriers.long); near = F.carriers.near k l }

  pub flat_up : (h : ℕ) → h < 2 * e → goes_up (flat_graph ps os cs n e) h ≡ the_up_at ps os h
  flat_up h l = λ i. before (flat_start ps os cs n e F.origins h l i) (flat_start ps os cs n e F.origins (twin h) (twin_under e h l) i)

  pub flat-heading : (h : ℕ) → h < 2 * e → heading (flat_graph ps os cs n e) h ≡ heading_at ps os cs h
  flat-heading h l = λ i. cond (flat_up h l i) (flat-upward ps os cs n e (h / 2) (omega arith) i) (opposite (flat-upward ps os cs n e (h / 2) (omega arith) i))
