-- Of NetPlane of specs/, what rests on its definitions.
use Rattle.std.specs.Prelude.{◌≡◌, ◌<◌, ◌/◌}
use Rattle.std.proofs.Common.{sym, ◌∙◌, ap, subst, arith}
use Rattle.seq.specs.Seq.{Bool, true, false, cond, not, List, ℕ, length, pos}
use Rattle.seq.specs.Tests.{clash}
use Rattle.paper.specs.Plane.{Pt, Vec, opposite, cross, rises, before, the_left_by}
use Rattle.paper.specs.Graph.{edge_count, the_half_count, point_in, edge, twin, origin, start, goes_up, upward, heading, left_of}
use Rattle.paper.specs.Map.{Map}
use Rattle.laws_plane.specs.Cone.{up_rises, up_nonzero, rises-opposite}
use Rattle.laws_plane.specs.Angles.{SameWay, cross-opposite}
use Rattle.laws_graph.specs.Halves.{half_below}
use Rattle.laws_graph.specs.Plane.{Plane}
use Rattle.laws_graph.specs.Nearest.{Clear}
use Rattle.laws_overlay.specs.Maps.{AllKeep}
use Rattle.laws_overlay.specs.Places.{Places, at_real, at_same, before_at}
use Rattle.laws_overlay.specs.Links.{Neighbours}
use Rattle.laws_overlay.proofs.OneLine.{same_upper, same_lower, overlap}
use Rattle.laws_overlay.specs.Net.{net_of, Goes, up, down}
use Rattle.laws_overlay.proofs.Net.{near, carrier_up, low_is, high_is, goes}
use Rattle.laws_overlay.specs.NetPlane.{g, k, lk, edge-number}

module _ (ms : List Map) (K : AllKeep ms) (vs : List Pt) (O : Places vs) where
  -- ── a half-edge ──

  module _ (h : ℕ) (l : h < the_half_count (net_of ms vs)) where
    starts : origin (g ms K vs O) h < length vs
    starts = go (goes ms K vs O h l)
      where
        go : Goes ms K vs O h → origin (g ms K vs O) h < length vs
        go (up q a b u) = omega (arith, (near ms K vs O (k ms K vs O h l) (lk ms K vs O h l)).rises, (near ms K vs O (k ms K vs O h l) (lk ms K vs O h l)).below)
        go (down q a b u) = omega (arith, (near ms K vs O (k ms K vs O h l) (lk ms K vs O h l)).below)

    moves : origin (g ms K vs O) h ≡ origin (g ms K vs O) (twin h) → ⊥
    moves e = go (goes ms K vs O h l)
      where
        go : Goes ms K vs O h → ⊥
        go (up q a b u) = omega (arith, (near ms K vs O (k ms K vs O h l) (lk ms K vs O h l)).rises)
        go (down q a b u) = omega (arith, (near ms K vs O (k ms K vs O h l) (lk ms K vs O h l)).rises)

    on_line : left_of (g ms K vs O) (start (g ms K vs O) h) (h / 2) ≡ pos 0
    on_line = go (goes ms K vs O h l)
      where
        go : Goes ms K vs O h → left_of (g ms K vs O) (start (g ms K vs O) h) (h / 2) ≡ pos 0
        go (up q a b u) = ap (λ (v : ℕ). left_of (g ms K vs O) (point_in vs v) (k ms K vs O h l)) a ∙ (near ms K vs O (k ms K vs O h l) (lk ms K vs O h l)).on_lo.line
        go (down q a b u) = ap (λ (v : ℕ). left_of (g ms K vs O) (point_in vs v) (k ms K vs O h l)) a ∙ (near ms K vs O (k ms K vs O h l) (lk ms K vs O h l)).on_hi.line

  -- ── two half-edges with one origin ──

  module _ (h r : ℕ) (lh : h < the_half_count (net_of ms vs)) (lr : r < the_half_count (net_of ms vs)) (o : origin (net_of ms vs) h ≡ origin (net_of ms vs) r) where
    abbrev i : ℕ
    i = h / 2

    abbrev j : ℕ
    j = r / 2

    li : i < edge_count (g ms K vs O)
    li = half_below (g ms K vs O) h lh

    lj : j < edge_count (g ms K vs O)
    lj = half_below (g ms K vs O) r lr

    -- both up: one lower end, so one upper
    ups : (edge (g ms K vs O) i).from ≡ (edge (g ms K vs O) j).from → cross (upward (g ms K vs O) i) (upward (g ms K vs O) j) ≡ pos 0 → i ≡ j
    ups e c =
        edge-number ms K vs O i j li lj e
        (same_upper vs O (edge (g ms K vs O) i).carrier (edge (g ms K vs O) j).carrier (carrier_up ms K vs O i li) (carrier_up ms K vs O j lj) c (edge (g ms K vs O) j).from (edge (g ms K vs O) i).to (edge (g ms K vs O) j).to
        (subst (λ (v : ℕ). Neighbours vs (edge (g ms K vs O) i).carrier v (edge (g ms K vs O) i).to) e (near ms K vs O i li)) (near ms K vs O j lj))

    -- both down: one upper end, so one lower
    downs : (edge (g ms K vs O) i).to ≡ (edge (g ms K vs O) j).to → cross (upward (g ms K vs O) i) (upward (g ms K vs O) j) ≡ pos 0 → i ≡ j
    downs e c =
        edge-number ms K vs O i j li lj
        (same_lower vs O (edge (g ms K vs O) i).carrier (edge (g ms K vs O) j).carrier (carrier_up ms K vs O i li) (carrier_up ms K vs O j lj) c (edge (g ms K vs O) j).to (edge (g ms K vs O) i).from (edge (g ms K vs O) j).from
        (subst (λ (v : ℕ). Neighbours vs (edge (g ms K vs O) i).carrier (edge (g ms K vs O) i).from v) e (near ms K vs O i li)) (near ms K vs O j lj)) e

    climbs : (k : ℕ) → k < edge_count (g ms K vs O) → (rises (upward (g ms K vs O) k) ≡ true) × (rises (opposite (upward (g ms K vs O) k)) ≡ false)
    climbs k l =
        let u = up_rises (upward (g ms K vs O) k) (carrier_up ms K vs O k l) in
        (u, rises-opposite (upward (g ms K vs O) k) (up_nonzero (upward (g ms K vs O) k) (carrier_up ms K vs O k l)) ∙ ap not u)

    headed : (x : ℕ) {c : Bool} → goes_up (g ms K vs O) x ≡ c → heading (g ms K vs O) x ≡ cond c (upward (g ms K vs O) (x / 2)) (opposite (upward (g ms K vs O) (x / 2)))
    headed x e = ap (λ (c : Bool). cond c (upward (g ms K vs O) (x / 2)) (opposite (upward (g ms K vs O) (x / 2)))) e

    apart : SameWay (heading (g ms K vs O) h) (heading (g ms K vs O) r) → h ≡ r
    apart w = go (goes ms K vs O h lh) (goes ms K vs O r lr)
      where
        parallel : {x y : Vec} → heading (g ms K vs O) h ≡ x → heading (g ms K vs O) r ≡ y → cross x y ≡ pos 0
        parallel e f = sym (λ i. cross (e i) (f i)) ∙ w.parallel

        half : {x y : Vec} → heading (g ms K vs O) h ≡ x → heading (g ms K vs O) r ≡ y → rises x ≡ rises y
        half e f = sym (ap rises e) ∙ w.half ∙ ap rises f

        go : Goes ms K vs O h → Goes ms K vs O r → h ≡ r
        go (up p a b u) (up q c d v) = let e = ups (sym a ∙ o ∙ c) (parallel (headed h u) (headed r v)) in omega arith
        go (up p a b u) (down q c d v) = absurd (clash (climbs i li).0 (half (headed h u) (headed r v) ∙ (climbs j lj).1))
        go (down p a b u) (up q c d v) = absurd (clash (climbs j lj).0 (sym (half (headed h u) (headed r v)) ∙ (climbs i li).1))
        go (down p a b u) (down q c d v) =
            let e = downs (sym a ∙ o ∙ c) (sym (cross-opposite (upward (g ms K vs O) i) (upward (g ms K vs O) j)) ∙ parallel (headed h u) (headed r v)) in omega arith

  -- ── the graph ──

  pub net-plane : Plane (net_of ms vs)
  net-plane = record {
    real = λ v l. at_real vs O v;
    distinct = at_same vs O;
    starts = starts;
    moves = moves;
    rising = λ k l. up_rises (upward (g ms K vs O) k) (carrier_up ms K vs O k l);
    on_line = on_line;
    apart = apart;
  }

  -- two edges on one line of which each starts before the other ends are one
  pub net-clear : Clear (net_of ms vs)
  net-clear k r lk lr c on a b =
      let n = near ms K vs O k lk in
      let m = near ms K vs O r lr in
      let x : (edge (g ms K vs O) k).from < (edge (g ms K vs O) r).to = before_at vs O (edge (g ms K vs O) k).from (edge (g ms K vs O) r).to (omega (arith, n.rises, n.below)) m.below
      (sym (λ i. before (low_is ms K vs O k lk i) (high_is ms K vs O r lr i)) ∙ a) in
      let y : (edge (g ms K vs O) r).from < (edge (g ms K vs O) k).to = before_at vs O (edge (g ms K vs O) r).from (edge (g ms K vs O) k).to (omega (arith, m.rises, m.below)) n.below
      (sym (λ i. before (low_is ms K vs O r lr i) (high_is ms K vs O k lk i)) ∙ b) in
      let (e, f) = overlap vs O (edge (g ms K vs O) k).carrier (edge (g ms K vs O) r).carrier (carrier_up ms K vs O k lk) (carrier_up ms K vs O r lr) c (edge (g ms K vs O) k).from (edge (g ms K vs O) k).to (edge (g ms K vs O) r).from (edge (g ms K vs O) r).to n m
      (ap (the_left_by (edge (g ms K vs O) k).carrier) (sym (low_is ms K vs O r lr)) ∙ on) x y in
      edge-number ms K vs O k r lk lr e f
