-- The four steps over a graph whose points are equal where they are the same: `into` finds one vertex for each point, each edge is shrunk, repeated or kept, and each vertex
-- merged, bare or kept, one of the three. Assumes nothing.
use Rattle.std.specs.Prelude.{◌≡◌, refl, ◌⊎◌, ◌≤◌, ◌<◌, ◌&&◌, ◌||◌}
use Rattle.std.proofs.Common.{sym, ◌∙◌, ap, inl, inr, ⊎_elim, arith, ltb-false, le-ltb, eqb-true, eq-eqb}
use Rattle.std.proofs.Math.Decide.{dec_lt}
use Rattle.std.proofs.lemmas.Bool.{eqb-false}
use Rattle.seq.specs.Seq.{Bool, true, false, not, ℕ, eqb, the_some_below}
use Rattle.seq.specs.Tests.{never, or_l, or_r, or_cases, and_both, and_parts}
use Rattle.seq.proofs.Least.{least-le, least-holds, least_min, least_by, no_some, no_some_is}
use Rattle.seq.specs.Count.{one_of}
use Rattle.seq.specs.Select.{select_from_lem, select_has}
use Rattle.seq.specs.Collected.{in_witness, in_has}
use Rattle.paper.specs.Plane.{Pt, same}
use Rattle.paper.specs.Graph.{Graph, edge_count, point, edge}
use Rattle.paper.specs.Map.{doubled}
use Rattle.laws_plane.specs.Points.{same_self}
use Rattle.paper.specs.Mend.{into, from_now, to_now, shrunk, alike, repeated, kept_edge, kept_edges, ends_at, has_edge, bare}

-- ── edges: shrunk, repeated or kept ──

module _ (g : Graph) where
  edge_one : (a b : Bool) → one_of a (not a && b) (not (a || (not a && b))) ≡ true
  edge_one true b = refl
  edge_one false true = refl
  edge_one false false = refl

  pub edge_three : (k : ℕ) → one_of (shrunk g k) (repeated g k) (kept_edge g k) ≡ true
  edge_three k = edge_one (shrunk g k) (the_some_below (alike g k) k)

  keep-step : (a b : Bool) → not (a || (not a && b)) ≡ true → (a ≡ false) × (b ≡ false)
  keep-step true b e = never e
  keep-step false true e = never e
  keep-step false false e = (refl, refl)

  -- a kept edge has two ends, and none before it joins them
  pub kept_two : (k : ℕ) → kept_edge g k ≡ true → from_now g k ≡ to_now g k → ⊥
  kept_two k e = eqb-false (from_now g k) (to_now g k) (keep-step (shrunk g k) (the_some_below (alike g k) k) e).0

  pub kept_first : (k : ℕ) → kept_edge g k ≡ true → (j : ℕ) → j < k → alike g k j ≡ false
  kept_first k e = no_some_is (alike g k) k (keep-step (shrunk g k) (the_some_below (alike g k) k) e).1

  pub keeps-edge : (k : ℕ) → shrunk g k ≡ false → ((j : ℕ) → j < k → alike g k j ≡ false) → kept_edge g k ≡ true
  keeps-edge k e f = go (shrunk g k) (the_some_below (alike g k) k) e (no_some (alike g k) k f)
    where
      go : (a b : Bool) → a ≡ false → b ≡ false → not (a || (not a && b)) ≡ true
      go true b e f = never (sym e)
      go false true e f = never (sym f)
      go false false e f = refl

  -- two pairs of ends are alike one way round or the other
  pub alike_is : (k j : ℕ) → alike g k j ≡ true → ((from_now g k ≡ from_now g j) × (to_now g k ≡ to_now g j)) ⊎ ((from_now g k ≡ to_now g j) × (to_now g k ≡ from_now g j))
  alike_is k j e =
      ⊎_elim
      (λ f. let r = and_parts (eqb (from_now g k) (from_now g j)) (eqb (to_now g k) (to_now g j)) f in inl (eqb-true (from_now g k) (from_now g j) r.0, eqb-true (to_now g k) (to_now g j) r.1))
      (λ f. let r = and_parts (eqb (from_now g k) (to_now g j)) (eqb (to_now g k) (from_now g j)) f in inr (eqb-true (from_now g k) (to_now g j) r.0, eqb-true (to_now g k) (from_now g j) r.1))
      (or_cases (eqb (from_now g k) (from_now g j) && eqb (to_now g k) (to_now g j)) (eqb (from_now g k) (to_now g j) && eqb (to_now g k) (from_now g j)) e)

  pub is_alike : (k j : ℕ) → ((from_now g k ≡ from_now g j) × (to_now g k ≡ to_now g j)) ⊎ ((from_now g k ≡ to_now g j) × (to_now g k ≡ from_now g j)) → alike g k j ≡ true
  is_alike k j (inl (e, f)) = or_l (eqb (from_now g k) (to_now g j) && eqb (to_now g k) (from_now g j)) (and_both {a = eqb (from_now g k) (from_now g j)} (eq-eqb (from_now g k) (from_now g j) e) (eq-eqb (to_now g k) (to_now g j) f))
  is_alike k j (inr (e, f)) = or_r (eqb (from_now g k) (from_now g j) && eqb (to_now g k) (to_now g j)) (and_both {a = eqb (from_now g k) (to_now g j)} (eq-eqb (from_now g k) (to_now g j) e) (eq-eqb (to_now g k) (from_now g j) f))

  -- ── a vertex with an edge that is kept ──

  abbrev Ends : ℕ → ℕ → Type 0
  Ends v k = (v ≡ from_now g k) ⊎ (v ≡ to_now g k)

  pub has_is : (v : ℕ) → has_edge g (kept_edges g) v ≡ true → (k : ℕ) × (k < edge_count g) × (kept_edge g k ≡ true) × Ends v k
  has_is v e =
      let r = in_witness (ends_at g) v (kept_edges g) e in
      let k : ℕ = r.0 in
      let q = select_from_lem (kept_edge g) (edge_count g) k r.1 in
      (k, q.0, q.1, ⊎_elim (λ f. inl (eqb-true v (from_now g k) f)) (λ f. inr (eqb-true v (to_now g k) f)) (or_cases (eqb v (from_now g k)) (eqb v (to_now g k)) r.2))

  ends_step : (v k : ℕ) → Ends v k → ends_at g v k ≡ true
  ends_step v k (inl e) = or_l (eqb v (to_now g k)) (eq-eqb v (from_now g k) e)
  ends_step v k (inr e) = or_r (eqb v (from_now g k)) (eq-eqb v (to_now g k) e)

  pub is_has : (v k : ℕ) → k < edge_count g → kept_edge g k ≡ true → Ends v k → has_edge g (kept_edges g) v ≡ true
  is_has v k l e f = in_has (ends_at g) v k (kept_edges g) (select_has (kept_edge g) (edge_count g) k l e) (ends_step v k f)

  -- ── the lowest vertex at a point ──

  pub into-le : (v : ℕ) → into g v ≤ v
  into-le v = least-le (λ u. same (point g v) (point g u)) v

  -- not doubled, not merged
  pub into-self : (v : ℕ) → doubled g v ≡ false → into g v ≡ v
  into-self v e = omega (arith, into-le v, ltb-false (into g v) v e)

  pub self-into : (v : ℕ) → into g v ≡ v → doubled g v ≡ false
  self-into v e = le-ltb (into g v) v (omega arith)

  module _ (equal : (u v : ℕ) → same (point g u) (point g v) ≡ true → point g u ≡ point g v) where
    -- merging moves no corner
    pub into-point : (v : ℕ) → point g (into g v) ≡ point g v
    into-point v =
        elim (dec_lt (into g v) v) [
          | yes q ↦ sym (equal v (into g v) (least-holds (λ u. same (point g v) (point g u)) v q))
          | no q ↦ let e : into g v ≡ v = omega (arith, into-le v) in ap (point g) e
        ]

    pub into_is : (v r : ℕ) → r ≤ v → ((k : ℕ) → k < r → same (point g v) (point g k) ≡ false) → point g r ≡ point g v → into g v ≡ r
    into_is v r l f e = least_by (λ u. same (point g v) (point g u)) v r l f (λ q. ap (same (point g v)) e ∙ same_self (point g v))

    one_way : (u v : ℕ) → u ≤ v → point g u ≡ point g v → into g v ≡ into g u
    one_way u v l e =
        into_is v (into g u) (omega (arith, into-le u))
        (λ k q. ap (λ (p : Pt). same p (point g k)) (sym e) ∙ least_min (λ w. same (point g u) (point g w)) u k q)
        (into-point u ∙ e)

    -- vertices at one point are merged into one
    pub into-eq : (u v : ℕ) → point g u ≡ point g v → into g u ≡ into g v
    into-eq u v e = elim (dec_lt u v) [ yes q ↦ sym (one_way u v (omega arith) e) | no q ↦ one_way v u (omega arith) (sym e) ]

    pub into-into : (v : ℕ) → into g (into g v) ≡ into g v
    into-into v = into-eq (into g v) v (into-point v)

    -- ── vertices: merged, bare or kept ──

    ends_into : (v k : ℕ) → Ends v k → into g v ≡ v
    ends_into v k (inl e) = rw e (into-into (edge g k).from)
    ends_into v k (inr e) = rw e (into-into (edge g k).to)

    -- a vertex with an edge is not merged
    pub has_self : (v : ℕ) → has_edge g (kept_edges g) v ≡ true → into g v ≡ v
    has_self v e = let r = has_is v e in ends_into v r.0 r.3

    vertex_one : (a b : Bool) → (b ≡ true → a ≡ false) → one_of a (not (a || b)) b ≡ true
    vertex_one true true f = never (sym (f refl))
    vertex_one true false f = refl
    vertex_one false true f = refl
    vertex_one false false f = refl

    pub vertex_three : (v : ℕ) → one_of (doubled g v) (bare g (kept_edges g) v) (has_edge g (kept_edges g) v) ≡ true
    vertex_three v = vertex_one (doubled g v) (has_edge g (kept_edges g) v) (λ e. self-into v (has_self v e))
