-- What the graph of a file that passes rules 1 to 7 gives to the code over flat tables: its points and carriers are within 01's bounds, and every origin
-- names a vertex. Assumes nothing.
use Rattle.std.specs.Prelude.{◌∷◌, ◌+◌, ◌*◌, ◌/◌, ◌%◌, ◌+ℤ◌, ◌-ℤ◌}
use mathlib.Core.Bool.{Bool, true, false, cond}
use mathlib.Core.Path.{◌≡◌, sym, subst}
use Prim.Native.Nat.{◌≤◌, ◌<◌}
use native.Mathlib.Decide.{dec_lt}
use native.Mathlib.Nat.{le_trans}
use native.Mathlib.Omega.{arith}
use lib.Dec.{lit≤}
use Rattle.seq.specs.Seq.{List, [], ℕ, ℤ, nat_abs, neg_ℤ}
use Rattle.exact.specs.Abs.{abs-+, abs_neg}
use Rattle.exact.specs.Solve.{ring, reify}
use Rattle.paper.specs.Graph.{point, edge, origin}
use Rattle.paper.specs.Limits.{reach}
use Rattle.paper.specs.Map.{vertex_count, edges_in, origin_at, map_of}
use Rattle.paper.specs.Plane.{Vec, minus_v, whole, before, between}
use Rattle.plane.specs.Bounds.{numerators, span, Corner, Near, Edge}
use Rattle.map_check.specs.Laws.Kept.{Kept}
use Rattle.laws_graph.specs.Reading.{point_at, carrier_at_lem, origin_at_lem}

-- ── an edge between corners ──

there : (a b : ℤ) → a +ℤ (b -ℤ a) ≡ b
there a b = ring (a ∷ b ∷ []) (search reify depth 20) tt

back : (a b : ℤ) → nat_abs b ≤ reach → nat_abs (a +ℤ (b -ℤ a)) ≤ reach
back a b h = rw (there a b) h

apart : (a b : ℤ) → nat_abs a ≤ reach → nat_abs b ≤ reach → nat_abs (b -ℤ a) ≤ span
apart a b h l = omega (arith, abs-+ b (neg_ℤ a), abs_neg a)

straight : (a b : Vec) → Corner a → Corner b → Edge (record { foot = a; up = minus_v b a })
straight a b p q = record {
  foot_is = p;
  head_is = record { x_is = back a.x b.x q.x_is; y_is = back a.y b.y q.y_is };
  up_is = record { x_is = apart a.x b.x p.x_is q.x_is; y_is = apart a.y b.y p.y_is q.y_is };
}

either_way : (t : Bool) (a b : Vec) → Corner a → Corner b → Edge (cond t (record { foot = b; up = minus_v a b }) (record { foot = a; up = minus_v b a }))
either_way true a b p q = straight b a q p
either_way false a b p q = straight a b p q

between_edge : (a b : Vec) → Corner a → Corner b → Edge (between a b)
between_edge a b = either_way (before (whole b) (whole a)) a b

-- ── the map's graph ──

module _ (s : List ℕ) (kept : Kept s) where
  pub point-near : (v : ℕ) → v < vertex_count s → Near (point (map_of s).graph v)
  point-near v l =
      let c = kept.near v l in
      let far : reach ≤ numerators = lit≤ tt in
      subst Near (sym (point_at s v l)) (record { positive = record { lt = tt }; X-is = le_trans c.x_is far; Y-is = le_trans c.y_is far; D-is = lit≤ tt })

  pub carrier-edge : (k : ℕ) → k < edges_in s → Edge (edge (map_of s).graph k).carrier
  carrier-edge k l =
      let a = kept.from k l in
      let b = kept.to k l in
      subst Edge (sym (carrier_at_lem s k l a b)) (between_edge _ _ (kept.near (origin_at s (2 * k)) a) (kept.near (origin_at s (2 * k + 1)) b))

  -- the half-edge is 2k or 2k + 1
  named : (h : ℕ) → h < 2 * edges_in s → origin_at s h < vertex_count s
  named h l =
      elim (dec_lt 0 (h % 2)) [
        | yes o ↦ let e : 2 * (h / 2) + 1 ≡ h = omega arith in subst (λ (x : ℕ). origin_at s x < vertex_count s) e (kept.to (h / 2) (omega arith))
        | no o ↦ let e : 2 * (h / 2) ≡ h = omega arith in subst (λ (x : ℕ). origin_at s x < vertex_count s) e (kept.from (h / 2) (omega arith))
      ]

  pub origin-named : (h : ℕ) → h < 2 * edges_in s → origin (map_of s).graph h < vertex_count s
  origin-named h l = subst (λ (v : ℕ). v < vertex_count s) (sym (origin_at_lem s h l)) (named h l)
