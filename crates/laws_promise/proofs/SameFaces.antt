-- Tables that keep (a) to (d) of Defined (c, t), beside those that hold the defined overlay (d, u): the same walks, hole walks, faces, and rows of faces. Assumes nothing.
use Rattle.std.specs.Prelude.{◌≡◌, ◌<◌, ◌≤◌, ◌-◌, ◌+◌, ◌*◌, ◌/◌}
use Rattle.std.proofs.Math.Path.{refl}
use Rattle.std.proofs.Common.{sym, ◌∙◌, ap, subst, inl, inr, arith}
use Rattle.seq.specs.Seq.{Bool, true, false, cond, List, ℕ, zero, suc, length, get_or, or_zero}
use Rattle.seq.specs.Terms.{Among}
use Rattle.seq.specs.Tests.{clash}
use Rattle.seq.specs.Members.{at_among, among_at}
use Rattle.seq.specs.SameRows.{same_count, same_at}
use Rattle.seq.specs.Pairs.{pairs_at}
use Rattle.paper.specs.Plane.{Pt, Vec, nowhere, before, less_angle}
use Rattle.paper.specs.Graph.{Graph, walk, followers, hole_look}
use Rattle.paper.specs.Map.{Map}
use Rattle.paper.specs.Pieces.{layer, Piece, vertices_of, edges_of}
use Rattle.paper.specs.Faces.{walks_of, hole_at}
use Rattle.paper.specs.Tables.{Counts, Tables, origin_of, face_cell}
use Rattle.paper.specs.Tables as T
use Rattle.laws_graph.specs.Plane.{Plane}
use Rattle.laws_graph.specs.Walks.{along_sym, along-trans}
use Rattle.laws_graph.specs.Faces.{Facing, outer_number, face_same}
use Rattle.laws_graph.proofs.Faces.{face-unique, outer-face}
use Rattle.laws_overlay.specs.Maps.{AllKeep}
use Rattle.laws_overlay.specs.Inside.{overlaid}
use Rattle.laws_promise.specs.Defined.{the_from_at, way_at, OnWalk, least_of, graph_in, VertexRows, Near, EdgeRows, HalfRows, Hole, Least, Labelled, FaceRows}
use Rattle.laws_promise.specs.Rows.{Pieced}
use Rattle.laws_promise.specs.Held.{Held, overlay-pieced}
use Rattle.laws_promise.specs.Looking.{Looks}
use Rattle.laws_promise.proofs.Looks.{looks-once}
use Rattle.laws_promise.proofs.Labels.{labelled-once}
use Rattle.laws_promise.proofs.FaceRows.{hole-look}
use Rattle.laws_promise.specs.Ways.{in_net, of_net}
use Rattle.laws_promise.specs.Graphs.{on_along, along_on, on_below, is_hole}
use Rattle.laws_promise.proofs.Graphs.{graph_is, hole-held}
use Rattle.laws_promise.proofs.SameEdges.{near_to, near_back, half_d, from_same, way_same, graph_same, edges-agree, origin-agrees, followers-agree}

less_asym : (x y : ℕ) → x < y → y < x → ⊥
less_asym x y a b = omega arith

module _ (ms : List Map) (K : AllKeep ms) (c : Counts) (t : Tables) (X : VertexRows ms c t) (E : EdgeRows ms c t) (S : HalfRows c t) (A : FaceRows ms c t)
    (d : Counts) (u : Tables) (W : VertexRows ms d u) (F : EdgeRows ms d u) (R : HalfRows d u) (B : FaceRows ms d u) (H : Held ms d u) where
  abbrev g : Graph
  g = overlaid ms

  abbrev n : ℕ
  n = length ms

  abbrev ps : List Piece
  ps = edges_of ms (vertices_of ms)

  N : Pieced ms (edges_of ms (vertices_of ms)) (overlaid ms)
  N = overlay-pieced ms K

  abbrev P : Plane (overlaid ms)
  P = N.plane

  to : {h : ℕ} → h < 2 * c.edges → h < 2 * d.edges
  to = half_d ms c t X E S d u W F R

  back : {h : ℕ} → h < 2 * d.edges → h < 2 * c.edges
  back {h} = subst (λ (z : ℕ). h < 2 * z) (sym (edges-agree ms c t X E S d u W F R))

  -- ── walks ──

  walk_to : (h k : ℕ) → OnWalk c t h k → OnWalk d u h k
  walk_to h k i = subst (λ (nx : List ℕ). Among k (walk nx h)) (followers-agree ms c t X E S d u W F R) i

  walk_back : (h k : ℕ) → OnWalk d u h k → OnWalk c t h k
  walk_back h k i = subst (λ (nx : List ℕ). Among k (walk nx h)) (sym (followers-agree ms c t X E S d u W F R)) i

  least_to : (h : ℕ) → Least c t h → Least d u h
  least_to h f k i = f k (walk_back h k i)

  least_back : (h : ℕ) → Least d u h → Least c t h
  least_back h f k i = f k (walk_to h k i)

  module _ (h : ℕ) (l : h < 2 * d.edges) where
    below : (k : ℕ) → OnWalk d u h k → k < 2 * c.edges
    below k i = back (on_below ms ps g N d u H h l k i)

    hole_to : Hole c t h → Hole d u h
    hole_to o =
        let m = o.maker in
        let i = walk_to h m o.on in
        record {
          maker = m;
          on = i;
          smallest = λ k j. sym (λ x. before (from_same ms c t X E S d u W F R k (below k j) x) (from_same ms c t X E S d u W F R m (below m i) x)) ∙ o.smallest k (walk_back h k j);
          greatest = λ r lr q.
              sym (λ x. less_angle (way_same ms c t X E S d u W F R m (below m i) x) (way_same ms c t X E S d u W F R r (back lr) x))
              ∙ o.greatest r (back lr) (origin-agrees ms c t X E S d u W F R r (back lr) ∙ q ∙ sym (origin-agrees ms c t X E S d u W F R m (below m i)));
        }

    hole_back : Hole d u h → Hole c t h
    hole_back o =
        let m = o.maker in
        let i = o.on in
        record {
          maker = m;
          on = walk_back h m i;
          smallest = λ k j. (λ x. before (from_same ms c t X E S d u W F R k (below k (walk_to h k j)) x) (from_same ms c t X E S d u W F R m (below m i) x)) ∙ o.smallest k (walk_to h k j);
          greatest = λ r lr q.
              (λ x. less_angle (way_same ms c t X E S d u W F R m (below m i) x) (way_same ms c t X E S d u W F R r lr x))
              ∙ o.greatest r (to lr) (sym (origin-agrees ms c t X E S d u W F R r lr) ∙ q ∙ origin-agrees ms c t X E S d u W F R m (below m i));
        }

    -- two least half-edges of one walk are one
    one_least : (x y : ℕ) → OnWalk d u h x → OnWalk d u h y → Least d u x → Least d u y → x ≡ y
    one_least x y i j a b =
        let lx = on_below ms ps g N d u H h l x i in
        let ly = on_below ms ps g N d u H h l y j in
        let p : x ≤ y = a y (along_on ms ps g N d u H x lx y (along-trans g P (along_sym g P (in_net ms ps g N d u H l) (on_along ms ps g N d u H h l x i)) (on_along ms ps g N d u H h l y j))) in
        let q : y ≤ x = b x (along_on ms ps g N d u H y ly x (along-trans g P (along_sym g P (in_net ms ps g N d u H l) (on_along ms ps g N d u H h l y j)) (on_along ms ps g N d u H h l x i))) in
        omega arith

    itself : OnWalk d u h h
    itself = along_on ms ps g N d u H h l h (0, refl)

  -- ── the outer walks' least half-edges ──

  from_outer : (f : ℕ) → suc f < c.faces → (e : ℕ) × (suc e < d.faces) × (least_of n u (suc e) ≡ least_of n t (suc f))
  from_outer f l =
      let x = least_of n t (suc f) in
      let lx : x < 2 * d.edges = to (A.least_below (suc f) (omega arith) l) in
      let o : Hole d u x → ⊥ = λ h. A.least-outer (suc f) (omega arith) l (hole_back x lx h) in
      let (z, i) = B.outer-face x lx o in
      pack x lx (least_to x (A.least-least (suc f) (omega arith) l)) (T.face_of u x) refl z i (R.face_below x lx)
    where
      pack : (x : ℕ) → x < 2 * d.edges → Least d u x → (k : ℕ) → T.face_of u x ≡ k → 0 < T.face_of u x → OnWalk d u x (least_of n u (T.face_of u x)) → T.face_of u x < d.faces
          → (e : ℕ) × (suc e < d.faces) × (least_of n u (suc e) ≡ x)
      pack x lx a zero q z i b = absurd (omega arith)
      pack x lx a (suc e) q z i b = (
        e,
        subst (λ (k : ℕ). k < d.faces) q b,
        ap (least_of n u) (sym q) ∙ one_least x lx (least_of n u (T.face_of u x)) x i (itself x lx) (B.least-least (T.face_of u x) z b) a,
      )

  to_outer : (e : ℕ) → suc e < d.faces → (f : ℕ) × (suc f < c.faces) × (least_of n t (suc f) ≡ least_of n u (suc e))
  to_outer e l =
      let y = least_of n u (suc e) in
      let ly : y < 2 * d.edges = B.least_below (suc e) (omega arith) l in
      let o : Hole c t y → ⊥ = λ h. B.least-outer (suc e) (omega arith) l (hole_to y ly h) in
      let (z, i) = A.outer-face y (back ly) o in
      pack y ly (B.least-least (suc e) (omega arith) l) (T.face_of t y) refl z i (S.face_below y (back ly))
    where
      pack : (y : ℕ) → y < 2 * d.edges → Least d u y → (k : ℕ) → T.face_of t y ≡ k → 0 < T.face_of t y → OnWalk c t y (least_of n t (T.face_of t y)) → T.face_of t y < c.faces
          → (f : ℕ) × (suc f < c.faces) × (least_of n t (suc f) ≡ y)
      pack y ly a zero q z i b = absurd (omega arith)
      pack y ly a (suc f) q z i b = (
        f,
        subst (λ (k : ℕ). k < c.faces) q b,
        ap (least_of n t) (sym q)
            ∙ one_least y ly (least_of n t (T.face_of t y)) y (walk_to y (least_of n t (T.face_of t y)) i) (itself y ly) (least_to (least_of n t (T.face_of t y)) (A.least-least (T.face_of t y) z b)) a,
      )

  abbrev leasts : Tables → ℕ → ℕ
  leasts x f = least_of n x (suc f)

  counts_same : c.faces - 1 ≡ d.faces - 1
  counts_same =
      same_count ◌<◌ less_asym (c.faces - 1) (d.faces - 1) (leasts t) (leasts u)
      (λ i j a b. A.numbered (suc i) (suc j) (omega arith) (omega arith) (omega arith)) (λ i j a b. B.numbered (suc i) (suc j) (omega arith) (omega arith) (omega arith))
      (λ f l. let (e, b, q) = from_outer f (omega arith) in (e, omega arith, q)) (λ e l. let (f, b, q) = to_outer e (omega arith) in (f, omega arith, q))

  pub faces_same : c.faces ≡ d.faces
  faces_same = omega (arith, counts_same, A.outside-there, B.outside-there)

  pub least_same : (f : ℕ) → f < c.faces → least_of n t f ≡ least_of n u f
  least_same zero l = A.outside-least ∙ sym B.outside-least
  least_same (suc f) l =
      same_at ◌<◌ less_asym (c.faces - 1) (d.faces - 1) (leasts t) (leasts u)
      (λ i j a b. A.numbered (suc i) (suc j) (omega arith) (omega arith) (omega arith)) (λ i j a b. B.numbered (suc i) (suc j) (omega arith) (omega arith) (omega arith))
      (λ f l. let (e, b, q) = from_outer f (omega arith) in (e, omega arith, q)) (λ e l. let (f, b, q) = to_outer e (omega arith) in (f, omega arith, q))
      f (omega arith)

  -- ── the face of a half-edge ──

  -- of an outer walk it is the one that holds its least half-edge
  outer_same : (h : ℕ) → h < 2 * c.edges → (Hole c t h → ⊥) → T.face_of t h ≡ T.face_of u h
  outer_same h l o =
      let (z, i) = A.outer-face h l o in
      let f = T.face_of t h in
      let b : f < c.faces = S.face_below h l in
      let y = least_of n t f in
      let ly : y < 2 * d.edges = on_below ms ps g N d u H h (to l) y (walk_to h y i) in
      let q : T.face_of u y ≡ f = ap (T.face_of u) (least_same f b) ∙ B.least-face f z (subst (λ (k : ℕ). f < k) faces_same b) in
      sym q ∙ H.face_at_lem y ly ∙ face_same g P h y (in_net ms ps g N d u H (to l)) (on_along ms ps g N d u H h (to l) y (walk_to h y i)) ∙ sym (H.face_at_lem h (to l))

  facing : Facing (overlaid ms) (T.face_of t)
  unfolding hole_to
  facing h b = go (hole_at (walks_of g) h) refl
    where
      l : h < 2 * d.edges
      l = of_net ms ps g N d u H b

      same_graph : graph_in ms c t ≡ overlaid ms
      same_graph = graph_same ms c t X E S d u W F R ∙ graph_is ms ps g N d u H

      -- what is seen by the words is what the definition sees
      hole-seen : Hole c t h → T.face_of t h ≡ or_zero (T.face_of t) (hole_look g (followers g) h)
      hole-seen o =
          let (s, looks, e) = A.hole-face h (back l) o in
          let m = o.maker in
          let q : the_from_at t m ≡ the_from_at u m = from_same ms c t X E S d u W F R m (below h l m (walk_to h m o.on)) in
          let here : Looks (overlaid ms) (the_from_at u m) nowhere s = subst (λ (p : Pt). Looks g p nowhere s) q (subst (λ (x : Graph). Looks x (the_from_at t m) nowhere s) same_graph looks) in
          e ∙ ap (or_zero (T.face_of t)) (looks-once g (the_from_at u m) nowhere s (hole_look g (followers g) h) here (hole-look ms K ps g N d u H h l (hole_to h l o)))

      go : (x : Bool) → hole_at (walks_of g) h ≡ x → T.face_of t h ≡ cond x (or_zero (T.face_of t) (hole_look g (followers g) h)) (outer_number g h)
      go true e = hole-seen (hole_back h l (is_hole ms ps g N d u H h l e))
      go false e = outer_same h (back l) (λ o. clash (hole-held ms ps g N d u H h l (hole_to h l o)) e) ∙ H.face_at_lem h l ∙ outer-face g P h b e

  pub face-cell_same : (h : ℕ) → h < 2 * c.edges → T.face_of t h ≡ T.face_of u h
  face-cell_same h l = face-unique g P (T.face_of t) facing h (in_net ms ps g N d u H (to l)) ∙ sym (H.face_at_lem h (to l))

  -- ── the rows of faces ──

  -- a label by the one tables is a label by the other
  module _ (i h : ℕ) (l : h < 2 * c.edges) where
    low_same : origin_of t (2 * (h / 2)) ≡ origin_of u (2 * (h / 2))
    low_same = origin-agrees ms c t X E S d u W F R (2 * (h / 2)) (omega arith)

    high_same : origin_of t (2 * (h / 2) + 1) ≡ origin_of u (2 * (h / 2) + 1)
    high_same = origin-agrees ms c t X E S d u W F R (2 * (h / 2) + 1) (omega arith)

    near_over : (j : ℕ) → Near ms c t i j (origin_of t (2 * (h / 2))) (origin_of t (2 * (h / 2) + 1)) → Near ms d u i j (origin_of u (2 * (h / 2))) (origin_of u (2 * (h / 2) + 1))
    near_over j n =
        subst (λ (x : ℕ). Near ms d u i j x (origin_of u (2 * (h / 2) + 1))) low_same (subst (λ (y : ℕ). Near ms d u i j (origin_of t (2 * (h / 2))) y) high_same
        (near_to ms c t X E S d u W F R i j (origin_of t (2 * (h / 2))) (origin_of t (2 * (h / 2) + 1)) n))

    near_over_back : (j : ℕ) → Near ms d u i j (origin_of u (2 * (h / 2))) (origin_of u (2 * (h / 2) + 1)) → Near ms c t i j (origin_of t (2 * (h / 2))) (origin_of t (2 * (h / 2) + 1))
    near_over_back j n =
        subst (λ (x : ℕ). Near ms c t i j x (origin_of t (2 * (h / 2) + 1))) (sym low_same) (subst (λ (y : ℕ). Near ms c t i j (origin_of u (2 * (h / 2))) y) (sym high_same)
        (near_back ms c t X E S d u W F R i j (origin_of u (2 * (h / 2))) (origin_of u (2 * (h / 2) + 1)) n))

    labelled_to : (x : ℕ) → Labelled ms c t i h x → Labelled ms d u i h x
    labelled_to x (inl L) = inl (record { edge = L.edge; half = L.half; near = near_over L.edge L.near; of_edge = L.of_edge; one_way = L.one_way; label_is = L.label_is })
    labelled_to x (inr L) = inr (record {
      off = λ j n. L.off j (near_over_back j n);
      seen = L.seen;
      looks = subst (λ (v : Vec). Looks (layer ms i).graph (the_from_at u (2 * (h / 2))) v L.seen) (way_same ms c t X E S d u W F R (2 * (h / 2)) (omega arith))
          (subst (λ (p : Pt). Looks (layer ms i).graph p (way_at t (2 * (h / 2))) L.seen) (from_same ms c t X E S d u W F R (2 * (h / 2)) (omega arith)) L.looks);
      label_is = L.label_is;
    })

  pub label_same : (f i : ℕ) → f < c.faces → i < length ms → face_cell n t f i ≡ face_cell n u f i
  label_same zero i l b = A.outside-label i b ∙ sym (B.outside-label i b)
  label_same (suc f) i l b =
      labelled-once ms K d u F i x b (to lx) (face_cell n t (suc f) i) (face_cell n u (suc f) i)
      (labelled_to i x lx (face_cell n t (suc f) i) (A.label_is (suc f) i (omega arith) l b))
      (subst (λ (h : ℕ). Labelled ms d u i h (face_cell n u (suc f) i)) (sym (least_same (suc f) l)) (B.label_is (suc f) i (omega arith) (subst (λ (k : ℕ). suc f < k) faces_same l) b))
    where
      x : ℕ
      x = least_of n t (suc f)

      lx : x < 2 * c.edges
      lx = A.least_below (suc f) (omega arith) l

  pub holes-agree : (f : ℕ) → f < c.faces → face_cell n t f (n + 1) ≡ face_cell n u f (n + 1)
  holes-agree f l =
      let p = A.holes f l in
      let q = B.holes f (subst (λ (k : ℕ). f < k) faces_same l) in
      p.counted ∙ same_count ◌<◌ less_asym (length p.leads) (length q.leads) (λ i. get_or p.leads i 0) (λ i. get_or q.leads i 0) (pairs_at ◌<◌ p.leads 0 p.rising) (pairs_at ◌<◌ q.leads 0 q.rising)
      (λ i b. let (lh, a, o, e) = p.each (get_or p.leads i 0) (at_among p.leads i 0 b) in
      among_at (get_or p.leads i 0) q.leads 0 (q.all (get_or p.leads i 0) (to lh) (least_to (get_or p.leads i 0) a) (hole_to (get_or p.leads i 0) (to lh) o) (sym (face-cell_same (get_or p.leads i 0) lh) ∙ e)))
      (λ i b. let (lh, a, o, e) = q.each (get_or q.leads i 0) (at_among q.leads i 0 b) in
      among_at (get_or q.leads i 0) p.leads 0 (p.all (get_or q.leads i 0) (back lh) (least_back (get_or q.leads i 0) a) (hole_back (get_or q.leads i 0) lh o) (face-cell_same (get_or q.leads i 0) (back lh) ∙ e)))
      ∙ sym q.counted
