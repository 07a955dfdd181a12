-- Of Inside of specs/, what rests on its definitions.
use Rattle.std.specs.Prelude.{◌≡◌, refl, ◌<◌, ◌<ℤ◌}
use Rattle.std.proofs.Common.{sym, ◌∙◌, ap, subst, inl, inr, arith}
use Rattle.std.proofs.Math.Decide.{ℕ_discrete}
use Rattle.exact.specs.Order.{Tri, lt, eq, gt, tri, <→≢}
use Rattle.exact.specs.Lowest.{lowest, lowest_x, lowest_y}
use Rattle.seq.specs.Seq.{true, false, List, some, ℕ, length, pos}
use Rattle.seq.specs.Terms.{Among}
use Rattle.seq.specs.Tests.{not-true}
use Rattle.paper.specs.Plane.{Pt, Seg, whole, head, cross, before, same, the_left_by}
use Rattle.paper.specs.Graph.{edge_count, point, point_in, edge}
use Rattle.paper.specs.Map.{Map}
use Rattle.paper.specs.Pieces.{layer, vertices_of, edges_of}
use Rattle.laws_plane.specs.Cone.{UpV}
use Rattle.laws_plane.specs.Points.{is_same, same_sym, before_same, same_before, before_asym, before_le, le_before}
use Rattle.laws_plane.specs.Ends.{0<1}
use Rattle.laws_plane.specs.Angles.{cross-self, cross-swap_0}
use Rattle.laws_plane.specs.Sides.{left_foot, left_head}
use Rattle.laws_plane.specs.Edges.{On, IsEnd, on_same}
use Rattle.laws_plane.specs.Lines.{one_line}
use Rattle.laws_plane.specs.Crossing.{crossing-there, crossing-touch}
use Rattle.laws_graph.specs.Plane.{upward_up}
use Rattle.laws_map.specs.Keeps.{seg, edges, vertices}
use Rattle.laws_overlay.specs.Maps.{AllKeep}
use Rattle.laws_overlay.specs.Vertices.{vertex_has, foot-there, head-there}
use Rattle.laws_overlay.specs.Places.{places, before_at, number}
use Rattle.laws_overlay.specs.Links.{Neighbours}
use Rattle.laws_overlay.specs.Sources.{source_at}
use Rattle.laws_overlay.specs.OneLine.{none_between}
use Rattle.laws_overlay.specs.Pieces.{piece_at}
use Rattle.laws_overlay.specs.Net.{from_is, to_is, Lies}
use Rattle.laws_overlay.proofs.Net.{lies, near, carrier_up, sourced}
use Rattle.laws_overlay.specs.Inside.{carrier_at, vs, overlaid, low_at, high_at, Between, low_real, high_real}

module _ (ms : List Map) (K : AllKeep ms) (k : ℕ) (l : k < edge_count (overlaid ms)) where
  abbrev f : Seg
  f = carrier_at ms k

  n : Neighbours (vs ms K k l) (carrier_at ms k) (edge (overlaid ms) k).from (edge (overlaid ms) k).to
  n = near ms K (vs ms K k l) (places ms K) k l

  -- ── no vertex ──

  -- no vertex of the overlay on the piece's line stands strictly inside it
  pub vertex_off : (x : Pt) → Among x (vertices_of ms) → the_left_by (carrier_at ms k) x ≡ pos 0 → before (low_at ms k) x ≡ true → before x (high_at ms k) ≡ true → ⊥
  vertex_off x i on a b =
      let (w, lw, e) = number (vs ms K k l) (places ms K) x i in
      let from = (edge (overlaid ms) k).from in
      let to = (edge (overlaid ms) k).to in
      none_between (vs ms K k l) (places ms K) f from w to n (ap (the_left_by f) e ∙ on)
      (before_at (vs ms K k l) (places ms K) from w (omega (arith, n.rises, n.below)) lw (subst (λ (z : Pt). before (low_at ms k) z ≡ true) (sym e) a))
      (before_at (vs ms K k l) (places ms K) w to lw n.below (subst (λ (z : Pt). before z (high_at ms k) ≡ true) (sym e) b))

  -- so no vertex of a map
  pub map-vertex_off : (i v : ℕ) → i < length ms → v < vertices (layer ms i) → the_left_by (carrier_at ms k) (point (layer ms i).graph v) ≡ pos 0 →
      before (low_at ms k) (point (layer ms i).graph v) ≡ true → before (point (layer ms i).graph v) (high_at ms k) ≡ true → ⊥
  map-vertex_off i v li lv = vertex_off (point (layer ms i).graph v) (vertex_has ms K (point (layer ms i).graph v) (inl (record { layer_of = i; vertex = v; in_list = li; below = lv; is = refl })))

  -- a point on the piece that is a vertex by other numbers
  same_off : (x q : Pt) → Among x (vertices_of ms) → pos 0 <ℤ x.D → same x q ≡ true → Between ms k q → On (carrier_at ms k) q → ⊥
  same_off x q i hx s b o =
      let t = same_sym x q s in
      vertex_off x i (on_same f q x b.real hx t o).line (before_same q x (low_at ms k) b.real hx (low_real ms K k l) t ∙ b.past) (same_before q x (high_at ms k) b.real hx (high_real ms K k l) t ∙ b.under)

  -- ── no edge that crosses ──

  module _ (i t : ℕ) (li : i < length ms) (le : t < edges (layer ms i)) where
    abbrev e : Seg
    e = seg (layer ms i) t

    ue : UpV e.up
    ue = upward_up (layer ms i).graph (K i li).plane t le

    pub lo_off : before (low_at ms k) (whole (seg (layer ms i) t).foot) ≡ true → before (whole (seg (layer ms i) t).foot) (high_at ms k) ≡ true → the_left_by (carrier_at ms k) (whole (seg (layer ms i) t).foot) ≡ pos 0 → ⊥
    lo_off a b on = vertex_off (whole e.foot) (foot-there ms K i t li le) on a b

    pub hi_off : before (low_at ms k) (whole (head (seg (layer ms i) t))) ≡ true → before (whole (head (seg (layer ms i) t))) (high_at ms k) ≡ true → the_left_by (carrier_at ms k) (whole (head (seg (layer ms i) t))) ≡ pos 0 → ⊥
    hi_off a b on = vertex_off (whole (head e)) (head-there ms K i t li le) on a b

    -- an end of an edge is a vertex
    end_off : (q : Pt) → Between ms k q → On f q → IsEnd e q → ⊥
    end_off q b o (inl s) = same_off (whole e.foot) q (foot-there ms K i t li le) 0<1 s b o
    end_off q b o (inr s) = same_off (whole (head e)) q (head-there ms K i t li le) 0<1 s b o

    -- an edge of another map than the carrier's: a crossing
    crossing_off : (j s : ℕ) (lj : j < length ms) (ls : s < edges (layer ms j)) → (j ≡ i → ⊥) → f ≡ seg (layer ms j) s → (cross (seg (layer ms j) s).up e.up ≡ pos 0 → ⊥) →
        (q : Pt) → Between ms k q → On e q → On f q → ⊥
    crossing_off j s lj ls d c w q b oe o =
        let g = seg (layer ms j) s in
        let ug = upward_up (layer ms j).graph (K j lj).plane s ls in
        let x = lowest q.X q.Y q.D in
        let r = crossing-touch g e ug ue x (crossing-there g e ug ue q w b.real (subst (λ (z : Seg). On z q) c o) oe) in
        same_off x q
        (vertex_has ms K x (inr (record { first_layer = j; second-layer = i; first_edge = s; second-edge = t; first_in = lj; second_in = li; differ = d; first_below = ls; second_below = le; touch = r })))
        r.lowest_p.positive (is_same x q (lowest_x q.X q.Y q.D b.real) (lowest_y q.X q.Y q.D b.real)) b o

    -- an edge of the carrier's map: a common end
    shared_off : (s : ℕ) (ls : s < edges (layer ms i)) → f ≡ seg (layer ms i) s → (cross (seg (layer ms i) s).up e.up ≡ pos 0 → ⊥) → (q : Pt) → Between ms k q → On e q → On f q → ⊥
    shared_off s ls c w q b oe o =
        elim (ℕ_discrete t s) [
          | yes x ↦ w (ap (λ (y : ℕ). cross (seg (layer ms i) s).up (seg (layer ms i) y).up) x ∙ cross-self (seg (layer ms i) s).up)
          | no x ↦ end_off q b o ((K i li).share t s le ls x q b.real oe (subst (λ (z : Seg). On z q) c o)).0
        ]

    pub no_meet : (cross (carrier_at ms k).up (seg (layer ms i) t).up ≡ pos 0 → ⊥) → (q : Pt) → Between ms k q → On (seg (layer ms i) t) q → On (carrier_at ms k) q → ⊥
    no_meet w q b oe o = go (lies ms K (vs ms K k l) (places ms K) k l)
      where
        turned : (z : Seg) → f ≡ z → cross z.up e.up ≡ pos 0 → ⊥
        turned z c p = w (ap (λ (y : Seg). cross y.up e.up) c ∙ p)

        go : Lies ms (vs ms K k l) k → ⊥
        go L =
            let j = L.layer_of in
            let s = L.source in
            elim (ℕ_discrete j i) [
              | yes x ↦
                  let ls : s < edges (layer ms i) = subst (λ (y : ℕ). s < edges (layer ms y)) x L.runs.of_map in
                  let c : f ≡ seg (layer ms i) s = L.along ∙ ap (λ (y : ℕ). seg (layer ms y) s) x in
                  shared_off s ls c (turned (seg (layer ms i) s) c) q b oe o
              | no x ↦ crossing_off j s L.runs.in_list L.runs.of_map x L.along (turned (seg (layer ms j) s) L.along) q b oe o
            ]

    -- ── an edge with a point inside covers the piece ──

    module _ (q : Pt) (b : Between ms k q) (oe : On (seg (layer ms i) t) q) (o : On (carrier_at ms k) q) where
      parallel : cross f.up e.up ≡ pos 0
      parallel = go (tri (pos 0) (cross f.up e.up))
        where
          go : Tri (pos 0) (cross f.up e.up) → cross f.up e.up ≡ pos 0
          go (lt h) = absurd (no_meet (λ z. <→≢ h (sym z)) q b oe o)
          go (eq z) = sym z
          go (gt h) = absurd (no_meet (λ z. <→≢ h z) q b oe o)

      uf : UpV f.up
      uf = carrier_up ms K (vs ms K k l) (places ms K) k l

      on_e : (x : Pt) → the_left_by f x ≡ pos 0 → the_left_by e x ≡ pos 0
      on_e x p = one_line f e q x uf b.real (cross-swap_0 f.up e.up parallel) o.line oe.line p

      on_f : (x : Pt) → the_left_by e x ≡ pos 0 → the_left_by f x ≡ pos 0
      on_f x p = one_line e f q x ue b.real parallel oe.line o.line p

      foot_low : before (low_at ms k) (whole e.foot) ≡ false
      foot_low =
          not-true (before (low_at ms k) (whole e.foot))
          (λ p. lo_off p (le_before (whole e.foot) q (high_at ms k) 0<1 b.real (high_real ms K k l) oe.low b.under) (on_f (whole e.foot) (left_foot e)))

      head_high : before (whole (head e)) (high_at ms k) ≡ false
      head_high =
          not-true (before (whole (head e)) (high_at ms k))
          (λ p. hi_off (before_le (low_at ms k) q (whole (head e)) (low_real ms K k l) b.real 0<1 b.past oe.high) p (on_f (whole (head e)) (left_head e)))

      neighbours : Neighbours (vs ms K k l) e (edge (overlaid ms) k).from (edge (overlaid ms) k).to
      neighbours = record {
        rises = n.rises;
        below = n.below;
        on_lo = record {
          line = on_e (low_at ms k) n.on_lo.line;
          low = foot_low;
          high = before_asym (low_at ms k) (whole (head e)) (before_le (low_at ms k) q (whole (head e)) (low_real ms K k l) b.real 0<1 b.past oe.high);
        };
        on_hi = record {
          line = on_e (high_at ms k) n.on_hi.line;
          low = before_asym (whole e.foot) (high_at ms k) (le_before (whole e.foot) q (high_at ms k) 0<1 b.real (high_real ms K k l) oe.low b.under);
          high = head_high;
        };
        none = λ w x y z. none_between (vs ms K k l) (places ms K) f (edge (overlaid ms) k).from w (edge (overlaid ms) k).to n (on_f (point_in (vs ms K k l) w) z.line) x y;
      }

      -- it is the piece's source in its map
      pub covered : source_at (piece_at (edges_of ms (vertices_of ms)) k).sources i ≡ some t
      covered =
          let m : Neighbours (vs ms K k l) e (piece_at (edges_of ms (vs ms K k l)) k).lo (piece_at (edges_of ms (vs ms K k l)) k).hi =
          subst (λ (x : ℕ). Neighbours (vs ms K k l) e x (piece_at (edges_of ms (vs ms K k l)) k).hi) (from_is ms (vs ms K k l) k) (subst (λ (x : ℕ). Neighbours (vs ms K k l) e (edge (overlaid ms) k).from x) (to_is ms (vs ms K k l) k) neighbours) in
          (sourced ms K (vs ms K k l) (places ms K) k l).all i t (record { in_list = li; of_map = le; near = m })
