-- Of FaceRows of specs/, what rests on its definitions.
use Rattle.std.specs.Prelude.{◌≡◌, refl, ◌<◌, ◌&&◌, ◌*◌, ◌/◌}
use Rattle.std.proofs.Common.{sym, ◌∙◌, ap, subst, inr, not-suc-le-zero, arith, eq-eqb, eqb-true}
use Rattle.std.proofs.lemmas.List.{get_or-replicate}
use Rattle.seq.specs.Seq.{true, false, not, List, Option, none, some, ℕ, zero, suc, eqb, length, get_or, count, select, or_zero}
use Rattle.seq.specs.Tests.{clash, and_both, and_parts, was-false}
use Rattle.seq.specs.Count.{count-ext}
use Rattle.seq.specs.Select.{select_from_lem, select_has, select_asc, select-nth, length-select}
use Rattle.seq.specs.Table.{table_at}
use Rattle.seq.specs.Pairs.{pairs_at}
use Rattle.paper.specs.Plane.{Pt, nowhere}
use Rattle.paper.specs.Graph.{Graph, the_half_count, point, followers, smallest, hole_look}
use Rattle.paper.specs.Map.{Map}
use Rattle.paper.specs.Pieces.{layer, Piece}
use Rattle.paper.specs.Faces.{walks_of, lead_at, hole_at, leads_hole, leads_outer, label_in, face_in, Overlay, overlay_by, labels_of, holes_of}
use Rattle.paper.specs.Tables.{Counts, Tables, face_cell}
use Rattle.paper.specs.Tables as T
use Rattle.laws_graph.specs.Plane.{Plane, real_at}
use Rattle.laws_graph.specs.Walks.{lead-along}
use Rattle.laws_graph.specs.Seen.{hole-sees-smaller}
use Rattle.laws_graph.specs.Faces.{face_of, face-row, face_below}
use Rattle.laws_graph.proofs.Faces.{outer-face, hole-face, face-onto}
use Rattle.laws_overlay.specs.Maps.{AllKeep}
use Rattle.laws_overlay.specs.Sources.{source_at}
use Rattle.laws_overlay.specs.Pieces.{piece_at}
use Rattle.laws_promise.specs.Defined.{the_from_at, OnWalk, least_of, graph_in, Hole, Least, Holes, Labelled, FaceRows}
use Rattle.laws_promise.specs.Rows.{Pieced, Rows}
use Rattle.laws_promise.specs.Looking.{Looks}
use Rattle.laws_promise.proofs.Looks.{west-looks}
use Rattle.laws_promise.proofs.Labels.{label-found}
use Rattle.laws_promise.specs.Ways.{from_start, in_net, of_net}
use Rattle.laws_promise.specs.Graphs.{maker_low, on_below, along_on, least-lead, lead_is_least, is_hole}
use Rattle.laws_promise.proofs.Graphs.{graph_is, hole-held, outer_at}
use Rattle.laws_promise.specs.FaceRows.{hole_of}

-- ── parts of the definition ──

module _ (ms : List Map) (ps : List Piece) (g : Graph) where
  -- the labels of a half-edge, one by one
  label_by_lem : (h i : ℕ) → i < length ms → get_or (labels_of ms (overlay_by ps (walks_of g)) h) i 0 ≡ label_in (layer ms i) g h (source_at (piece_at ps (h / 2)).sources i)
  label_by_lem h i l = table_at (λ i. label_in (layer ms i) g h (source_at (piece_at ps (h / 2)).sources i)) (length ms) i 0 l

  holes-count : (f : ℕ) → holes_of (overlay_by ps (walks_of g)) f ≡ count (hole_of ms ps g f) (the_half_count g)
  holes-count f =
      count-ext (λ h. leads_hole (walks_of g) h && eqb (get_or (overlay_by ps (walks_of g)).face h 0) f) (hole_of ms ps g f) (the_half_count g)
      (λ h l. ap (λ (x : ℕ). leads_hole (walks_of g) h && eqb x f) (table_at (face_in (walks_of g) (length g.points)) (the_half_count g) h 0 l))

module _ (ms : List Map) (K : AllKeep ms) (ps : List Piece) (g : Graph) (N : Pieced ms ps g) (c : Counts) (t : Tables) (H : Rows ms ps g c t) where
  abbrev o : Overlay
  o = overlay_by ps (walks_of g)

  abbrev n : ℕ
  n = length ms

  abbrev P : Plane g
  P = N.plane

  abbrev outers : List ℕ
  outers = select (leads_outer (walks_of g)) (the_half_count g)

  -- ── the pair of a half-edge ──

  pub pair-labelled : (h i : ℕ) → h < 2 * c.edges → i < length ms → Labelled ms c t i h (get_or (labels_of ms (overlay_by ps (walks_of g)) h) i 0)
  pair-labelled h i l b = subst (Labelled ms c t i h) (sym (label_by_lem ms ps g h i b)) (label-found ms K ps g N c t H i h b l)

  -- ── the least outer half-edge of face f + 1 ──

  module _ (f : ℕ) (l : suc f < c.faces) where
    in_outers : f < length outers
    in_outers = omega (arith, H.faces-are)

    abbrev x : ℕ
    x = get_or outers f 0

    least_is : least_of n t (suc f) ≡ x
    least_is = H.least_at (suc f) l

    nth : (x < the_half_count g) × (leads_outer (walks_of g) x ≡ true) × (count (leads_outer (walks_of g)) x ≡ f)
    nth = select-nth (leads_outer (walks_of g)) (the_half_count g) f 0 (omega (arith, in_outers, length-select (leads_outer (walks_of g)) (the_half_count g)))

    x_below : x < 2 * c.edges
    x_below = of_net ms ps g N c t H nth.0

    leads : (lead_at (walks_of g) x ≡ x) × (hole_at (walks_of g) x ≡ false)
    leads =
        let r = and_parts (eqb (lead_at (walks_of g) x) x) (not (hole_at (walks_of g) x)) nth.1 in
        (eqb-true (lead_at (walks_of g) x) x r.0, was-false (hole_at (walks_of g) x) r.1)

    -- of the half-edge in the row
    at : (Q : ℕ → Type 0) → Q x → Q (least_of n t (suc f))
    at Q q = subst Q (sym least_is) q

    below_at : least_of n t (suc f) < 2 * c.edges
    below_at = at (λ h. h < 2 * c.edges) x_below

    least_at : Least c t (least_of n t (suc f))
    least_at = at (Least c t) (lead_is_least ms ps g N c t H x x_below leads.0)

    outer-here : Hole c t (least_of n t (suc f)) → ⊥
    outer-here = at (λ h. Hole c t h → ⊥) (λ o. clash (hole-held ms ps g N c t H x x_below o) leads.1)

    face-here : T.face_of t (least_of n t (suc f)) ≡ suc f
    face-here = at (λ h. T.face_of t h ≡ suc f) (H.face_at_lem x x_below ∙ (face-onto g P f in_outers).1)

    label-here : (i : ℕ) → i < length ms → Labelled ms c t i (least_of n t (suc f)) (face_cell n t (suc f) i)
    label-here i b =
        let e : face_cell n t (suc f) i ≡ get_or (labels_of ms o x) i 0 = H.label_at_lem (suc f) i l b in
        at (λ h. Labelled ms c t i h (face_cell n t (suc f) i)) (subst (Labelled ms c t i x) (sym e) (pair-labelled x i x_below b))

  -- a face other than 0 is f + 1
  of_face : (Q : ℕ → Type 0) → ((f : ℕ) → suc f < c.faces → Q (suc f)) → (f : ℕ) → 0 < f → f < c.faces → Q f
  of_face Q q zero a b = absurd (not-suc-le-zero a)
  of_face Q q (suc f) a b = q f b

  -- ── outer walks ──

  outer-walk : (h : ℕ) → h < 2 * c.edges → (Hole c t h → ⊥) → (0 < T.face_of t h) × OnWalk c t h (least_of n t (T.face_of t h))
  outer-walk h l o = (
    omega (arith, here),
    subst (OnWalk c t h) (sym (ap (least_of n t) here ∙ least_is r below ∙ face-row g P h lh outer)) (along_on ms ps g N c t H h l (lead_at (walks_of g) h) (lead-along g P h lh)),
  )
    where
      lh : h < the_half_count g
      lh = in_net ms ps g N c t H l

      outer : hole_at (walks_of g) h ≡ false
      outer = outer_at ms ps g N c t H h l o

      r : ℕ
      r = count (leads_outer (walks_of g)) (lead_at (walks_of g) h)

      here : T.face_of t h ≡ suc r
      here = H.face_at_lem h l ∙ outer-face g P h lh outer

      below : suc r < c.faces
      below = omega (arith, H.faces-are, outer-face g P h lh outer, face_below g P h lh)

  -- ── hole walks ──

  or_zero_lem : (o : Option ℕ) → ((x : ℕ) → o ≡ some x → T.face_of t x ≡ face_of g x) → or_zero (face_of g) o ≡ or_zero (T.face_of t) o
  or_zero_lem none f = refl
  or_zero_lem (some x) f = sym (f x refl)

  -- what is seen from the walk's smallest vertex
  pub hole-look : (h : ℕ) → h < 2 * c.edges → (o : Hole c t h) → Looks g (the_from_at t o.maker) nowhere (hole_look g (followers g) h)
  hole-look h l o =
      let m = o.maker in
      let v = smallest g (followers g) h in
      let p : the_from_at t m ≡ point g v = from_start ms ps g N c t H m (on_below ms ps g N c t H h l m o.on) ∙ ap (point g) (sym (maker_low ms ps g N c t H h l o)) in
      subst (λ (q : Pt). Looks g q nowhere (hole_look g (followers g) h)) (sym p) (west-looks g P (point g v) (real_at g P v) N.clear nowhere (inr refl))

  hole-walk : (h : ℕ) → h < 2 * c.edges → (o : Hole c t h) → (s : Option ℕ) × Looks (graph_in ms c t) (the_from_at t o.maker) nowhere s × (T.face_of t h ≡ or_zero (T.face_of t) s)
  hole-walk h l o = (
    hole_look g (followers g) h,
    subst (λ (x : Graph). Looks x (the_from_at t o.maker) nowhere (hole_look g (followers g) h)) (sym (graph_is ms ps g N c t H)) (hole-look h l o),
    H.face_at_lem h l ∙ hole-face g P h lh (hole-held ms ps g N c t H h l o)
        ∙ or_zero_lem (hole_look g (followers g) h) (λ x e. H.face_at_lem x (of_net ms ps g N c t H (hole-sees-smaller g P h x lh e).0)),
  )
    where
      lh : h < the_half_count g
      lh = in_net ms ps g N c t H l

  holes_of_lem : (f : ℕ) → f < c.faces → Holes ms c t f
  holes_of_lem f l = record {
    leads = select (hole_of ms ps g f) (the_half_count g);
    rising = select_asc (hole_of ms ps g f) (the_half_count g);
    counted = H.holes_at f l ∙ holes-count ms ps g f ∙ sym (length-select (hole_of ms ps g f) (the_half_count g));
    each = λ h i. let (b, e) = select_from_lem (hole_of ms ps g f) (the_half_count g) h i in
        let lh : h < 2 * c.edges = of_net ms ps g N c t H b in
        let r = and_parts (leads_hole (walks_of g) h) (eqb (face_of g h) f) e in
        let q = and_parts (eqb (lead_at (walks_of g) h) h) (hole_at (walks_of g) h) r.0 in (
          lh,
          lead_is_least ms ps g N c t H h lh (eqb-true (lead_at (walks_of g) h) h q.0),
          is_hole ms ps g N c t H h lh q.1,
          H.face_at_lem h lh ∙ eqb-true (face_of g h) f r.1,
        );
    all = λ h lh a o e.
        select_has (hole_of ms ps g f) (the_half_count g) h (in_net ms ps g N c t H lh)
        (and_both {a = leads_hole (walks_of g) h} {b = eqb (face_of g h) f}
        (and_both {a = eqb (lead_at (walks_of g) h) h} {b = hole_at (walks_of g) h} (eq-eqb (lead_at (walks_of g) h) h (least-lead ms ps g N c t H h lh a)) (hole-held ms ps g N c t H h lh o))
        (eq-eqb (face_of g h) f (sym (H.face_at_lem h lh) ∙ e)));
  }

  -- ── in order ──

  rising : (e f : ℕ) → 0 < e → e < f → f < c.faces → least_of n t e < least_of n t f
  rising zero f a h l = absurd (not-suc-le-zero a)
  rising (suc e) zero a h l = absurd (not-suc-le-zero h)
  rising (suc e) (suc f) a h l =
      let le : suc e < c.faces = omega arith in
      omega (arith, least_is e le, least_is f l, pairs_at ◌<◌ outers 0 (select_asc (leads_outer (walks_of g)) (the_half_count g)) e f (omega arith) (in_outers f l))

  pub face-rows : FaceRows ms c t
  face-rows = record {
    outside-there = omega (arith, H.faces-are);
    outside-label = λ i b. H.label_at_lem 0 i (omega (arith, H.faces-are)) b ∙ get_or-replicate n i 0 0 b;
    outside-least = H.least_at 0 (omega (arith, H.faces-are));
    least_below = of_face (λ f. least_of n t f < 2 * c.edges) below_at;
    least-least = of_face (λ f. Least c t (least_of n t f)) least_at;
    least-outer = of_face (λ f. Hole c t (least_of n t f) → ⊥) outer-here;
    least-face = of_face (λ f. T.face_of t (least_of n t f) ≡ f) face-here;
    numbered = rising;
    outer-face = outer-walk;
    hole-face = hole-walk;
    label_is = λ f i a b. of_face (λ f. i < length ms → Labelled ms c t i (least_of n t f) (face_cell n t f i)) (λ f l. label-here f l i) f a b;
    holes = holes_of_lem;
  }
