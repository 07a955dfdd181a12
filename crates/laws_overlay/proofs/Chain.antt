-- Of Chain of specs/, what rests on its definitions.
use Rattle.std.specs.Prelude.{◌≡◌, ◌<◌, ◌-◌}
use Rattle.std.proofs.Common.{sym, ◌∙◌, ap, subst, arith}
use Rattle.std.proofs.Math.Decide.{dec_lt}
use Rattle.seq.specs.Seq.{Bool, true, false, List, some, ℕ, suc, length, get_or}
use Rattle.seq.specs.Terms.{Among}
use Rattle.seq.specs.Tests.{clash}
use Rattle.seq.specs.Least.{turning}
use Rattle.paper.specs.Plane.{Pt, whole, head, before}
use Rattle.paper.specs.Graph.{point_in}
use Rattle.paper.specs.Map.{Map}
use Rattle.paper.specs.Pieces.{layer, edges_of}
use Rattle.laws_plane.specs.Points.{before_irr}
use Rattle.laws_plane.specs.Edges.{On, on_foot, on_head, seg_up}
use Rattle.laws_graph.specs.Plane.{upward_up}
use Rattle.laws_map.specs.Keeps.{seg, edges}
use Rattle.laws_overlay.specs.Maps.{AllKeep}
use Rattle.laws_overlay.specs.Vertices.{foot-there, head-there}
use Rattle.laws_overlay.specs.Places.{places, number, at_before}
use Rattle.laws_overlay.specs.Links.{Runs, along_from, along_has, along_asc, link-neighbours}
use Rattle.laws_overlay.specs.Sources.{source_at}
use Rattle.laws_overlay.specs.Pieces.{piece_at}
use Rattle.laws_overlay.proofs.Pieces.{piece_of_lem, piece_at_lem}
use Rattle.laws_overlay.specs.Chain.{vs, l, asc_first, asc_last, asc_link, Chain, Turns}

-- ── the vertices on an edge ──

module _ (ms : List Map) (K : AllKeep ms) (i k : ℕ) (li : i < length ms) (lk : k < edges (layer ms i)) where
  rise : before (whole (seg (layer ms i) k).foot) (whole (head (seg (layer ms i) k))) ≡ true
  rise = seg_up (seg (layer ms i) k) (upward_up (layer ms i).graph (K i li).plane k lk)

  -- the numbers of the two ends
  foot-number : (v : ℕ) × (v < length (vs ms K i k li lk)) × (point_in (vs ms K i k li lk) v ≡ whole (seg (layer ms i) k).foot)
  foot-number = number (vs ms K i k li lk) (places ms K) (whole (seg (layer ms i) k).foot) (foot-there ms K i k li lk)

  head-number : (v : ℕ) × (v < length (vs ms K i k li lk)) × (point_in (vs ms K i k li lk) v ≡ whole (head (seg (layer ms i) k)))
  head-number = number (vs ms K i k li lk) (places ms K) (whole (head (seg (layer ms i) k))) (head-there ms K i k li lk)

  foot_in : Among foot-number.0 (l ms K i k li lk)
  foot_in =
      let (v, b, e) = foot-number in
      along_has (vs ms K i k li lk) (layer ms i).graph k v b (subst (On (seg (layer ms i) k)) (sym e) (on_foot (seg (layer ms i) k) (upward_up (layer ms i).graph (K i li).plane k lk)))

  head_in : Among head-number.0 (l ms K i k li lk)
  head_in =
      let (v, b, e) = head-number in
      along_has (vs ms K i k li lk) (layer ms i).graph k v b (subst (On (seg (layer ms i) k)) (sym e) (on_head (seg (layer ms i) k) (upward_up (layer ms i).graph (K i li).plane k lk)))

  -- none on the edge is before the one or after the other
  no_lower : (w : ℕ) → Among w (l ms K i k li lk) → w < foot-number.0 → ⊥
  no_lower w j h =
      let (v, b, e) = foot-number in
      clash (subst (λ (p : Pt). before (point_in (vs ms K i k li lk) w) p ≡ true) e (at_before (vs ms K i k li lk) (places ms K) w v h b)) (along_from (vs ms K i k li lk) (layer ms i).graph k w j).1.low

  no_upper : (w : ℕ) → Among w (l ms K i k li lk) → head-number.0 < w → ⊥
  no_upper w j h =
      let (v, b, e) = head-number in
      clash (subst (λ (p : Pt). before p (point_in (vs ms K i k li lk) w) ≡ true) e (at_before (vs ms K i k li lk) (places ms K) v w h (along_from (vs ms K i k li lk) (layer ms i).graph k w j).0))
      (along_from (vs ms K i k li lk) (layer ms i).graph k w j).1.high

  starts : point_in (vs ms K i k li lk) (get_or (l ms K i k li lk) 0 0) ≡ whole (seg (layer ms i) k).foot
  starts = ap (point_in (vs ms K i k li lk)) (asc_first (l ms K i k li lk) (along_asc (vs ms K i k li lk) (layer ms i).graph k) foot-number.0 foot_in no_lower) ∙ foot-number.2

  ends : point_in (vs ms K i k li lk) (get_or (l ms K i k li lk) (length (l ms K i k li lk) - 1) 0) ≡ whole (head (seg (layer ms i) k))
  ends = ap (point_in (vs ms K i k li lk)) (asc_last (l ms K i k li lk) (along_asc (vs ms K i k li lk) (layer ms i).graph k) head-number.0 head_in no_upper) ∙ head-number.2

  two_there : 1 < length (l ms K i k li lk)
  two_there =
      elim (dec_lt 1 (length (l ms K i k li lk))) [
        | yes q ↦ q
        | no q ↦ let t : length (l ms K i k li lk) - 1 ≡ 0 = omega arith in
            absurd (clash rise ((λ i. before (sym (starts) i) (sym (ends) i)) ∙ ap (λ (n : ℕ). before (point_in (vs ms K i k li lk) (get_or (l ms K i k li lk) 0 0)) (point_in (vs ms K i k li lk) (get_or (l ms K i k li lk) n 0))) t ∙ before_irr (point_in (vs ms K i k li lk) (get_or (l ms K i k li lk) 0 0))))
      ]

  runs : (j : ℕ) → suc j < length (l ms K i k li lk) → Runs ms (vs ms K i k li lk) i k (get_or (l ms K i k li lk) j 0) (get_or (l ms K i k li lk) (suc j) 0)
  runs j b = record {
    in_list = li;
    of_map = lk;
    near = link-neighbours (vs ms K i k li lk) (layer ms i).graph k (get_or (l ms K i k li lk) j 0) (get_or (l ms K i k li lk) (suc j) 0) (asc_link (l ms K i k li lk) (along_asc (vs ms K i k li lk) (layer ms i).graph k) j b);
  }

  pub chain : Chain ms i k (l ms K i k li lk)
  chain = record {
    two = two_there;
    first = starts;
    last = ends;
    piece = λ j b. let (r, c, x, y) = piece_of_lem ms K (vs ms K i k li lk) (places ms K) i k (get_or (l ms K i k li lk) j 0) (get_or (l ms K i k li lk) (suc j) 0) (runs j b) in (
      r,
      c,
      x,
      y,
      (piece_at_lem ms K (vs ms K i k li lk) (places ms K) r c).all i k
          (subst (λ (z : ℕ). Runs ms (vs ms K i k li lk) i k z (piece_at (edges_of ms (vs ms K i k li lk)) r).hi) (sym x) (subst (λ (z : ℕ). Runs ms (vs ms K i k li lk) i k (get_or (l ms K i k li lk) j 0) z) (sym y) (runs j b))),
    );
  }

  -- a test that fails at the lower end and holds at the upper: on some piece it does so too
  pub turning-piece : (t : Pt → Bool) → t (whole (seg (layer ms i) k).foot) ≡ false → t (whole (head (seg (layer ms i) k))) ≡ true → Turns ms i k t
  turning-piece t e f =
      let (j, b, x, y) = turning (λ j. t (point_in (vs ms K i k li lk) (get_or (l ms K i k li lk) j 0))) (length (l ms K i k li lk) - 1) (ap t starts ∙ e) (ap t ends ∙ f) in
      go j x y (chain.piece j (omega arith))
    where
      go : (j : ℕ) → t (point_in (vs ms K i k li lk) (get_or (l ms K i k li lk) j 0)) ≡ false → t (point_in (vs ms K i k li lk) (get_or (l ms K i k li lk) (suc j) 0)) ≡ true → (r : ℕ) × (r < length (edges_of ms (vs ms K i k li lk))) × ((piece_at (edges_of ms (vs ms K i k li lk)) r).lo ≡ get_or (l ms K i k li lk) j 0)
          × ((piece_at (edges_of ms (vs ms K i k li lk)) r).hi ≡ get_or (l ms K i k li lk) (suc j) 0) × (source_at (piece_at (edges_of ms (vs ms K i k li lk)) r).sources i ≡ some k) → Turns ms i k t
      go j x y (r, c, lo, hi, s) = record { piece = r; below = c; source = s; at_low = ap (λ (v : ℕ). t (point_in (vs ms K i k li lk) v)) lo ∙ x; at_high = ap (λ (v : ℕ). t (point_in (vs ms K i k li lk) v)) hi ∙ y }
