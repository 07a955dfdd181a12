-- The label of a half-edge in a map in 01's words (`Labelled` of Defined): the definition's label has them, in tables that hold a graph of pieces (`label-found`), and no second label does, in tables that keep (b) of
-- Defined (`labelled-once`). Assumes nothing.
use Rattle.std.specs.Prelude.{◌≡◌, refl, ◌<◌, ◌+◌, ◌*◌, ◌/◌}
use Rattle.std.proofs.Common.{sym, ◌∙◌, ap, subst, inl, inr, arith}
use Rattle.seq.specs.Seq.{Bool, true, false, cond, not, List, Option, none, some, ℕ, length, or_zero}
use Rattle.seq.specs.Tests.{clash}
use Rattle.paper.specs.Plane.{Pt, Vec, dir, opposite}
use Rattle.paper.specs.Graph.{Graph, edge_count, the_half_count, even, twin, start, low, goes_up, upward, heading, east_side, west}
use Rattle.paper.specs.Map.{Map, label}
use Rattle.paper.specs.Pieces.{layer, Piece}
use Rattle.paper.specs.Faces.{label_in}
use Rattle.paper.specs.Tables.{Counts, Tables, origin_of, source_cell, the_plus_one}
use Rattle.laws_plane.specs.Angles.{SameWay}
use Rattle.laws_graph.specs.Halves.{even_double, half_first, twin_first, Which, first, second, which}
use Rattle.laws_graph.specs.Plane.{Plane, up_ends, upward_up, ends_real, goes_up-twin, heading-along}
use Rattle.laws_graph.specs.East.{east-half, east_down, west-half, west_up}
use Rattle.laws_looks.proofs.Ordered.{keeps-clear}
use Rattle.laws_overlay.specs.Maps.{AllKeep}
use Rattle.laws_overlay.specs.Sources.{source_at}
use Rattle.laws_overlay.specs.Pieces.{piece_at}
use Rattle.laws_promise.specs.Looking.{Looks}
use Rattle.laws_promise.proofs.Looks.{looks-once, west-looks, looks-along}
use Rattle.laws_promise.specs.Defined.{the_from_at, way_at, Near, EdgeRows, LabelAlong, LabelSeen, Labelled}
use Rattle.laws_promise.specs.Rows.{Pieced, Rows}
use Rattle.laws_promise.proofs.Nears.{cell-near, near-cell}
use Rattle.laws_promise.specs.Ways.{in_net, from_start, way_is}

-- ── no second label ──

-- of the two half-edges of an edge one goes up
one_half : (g : Graph) → Plane g → (r s : ℕ) → r < the_half_count g → s < the_half_count g → r / 2 ≡ s / 2 → goes_up g r ≡ goes_up g s → r ≡ s
one_half g P r s lr ls e f = go (which r) (which s)
  where
    turned : (a b : ℕ) → a < the_half_count g → b ≡ twin a → goes_up g a ≡ goes_up g b → ⊥
    turned a b l t u = both (goes_up g a) (u ∙ ap (goes_up g) t ∙ goes_up-twin g P a l)
      where
        both : (x : Bool) → x ≡ not x → ⊥
        both true e = clash refl e
        both false e = clash e refl

    go : Which r → Which s → r ≡ s
    go (first a) (first b) = omega arith
    go (first a) (second b) = absurd (turned r s lr (b ∙ ap (λ (k : ℕ). 2 * k + 1) (sym e) ∙ sym (twin_first (r / 2)) ∙ ap twin (sym a)) f)
    go (second a) (first b) = absurd (turned s r ls (a ∙ ap (λ (k : ℕ). 2 * k + 1) e ∙ sym (twin_first (s / 2)) ∙ ap twin (sym b)) (sym f))
    go (second a) (second b) = omega arith

module _ (ms : List Map) (K : AllKeep ms) (c : Counts) (t : Tables) (E : EdgeRows ms c t) (i h : ℕ) (li : i < length ms) (l : h < 2 * c.edges) where
  half : h / 2 < c.edges
  half = omega arith

  one_along : (x y : ℕ) → LabelAlong ms c t i h x → LabelAlong ms c t i h y → x ≡ y
  one_along x y A B =
      let p = E.source-there (h / 2) i A.edge half A.near in
      let q = E.source-there (h / 2) i B.edge half B.near in
      let e : A.edge ≡ B.edge = omega arith in
      let f : A.half ≡ B.half = one_half (layer ms i).graph (K i li).plane A.half B.half (omega (arith, A.near.of_map, A.of_edge)) (omega (arith, B.near.of_map, B.of_edge))
      (A.of_edge ∙ e ∙ sym B.of_edge) (A.one_way ∙ sym B.one_way) in
      A.label_is ∙ ap (label (layer ms i)) f ∙ sym B.label_is

  pub labelled-once : (x y : ℕ) → Labelled ms c t i h x → Labelled ms c t i h y → x ≡ y
  labelled-once x y (inl A) (inl B) = one_along x y A B
  labelled-once x y (inl A) (inr B) = absurd (B.off A.edge A.near)
  labelled-once x y (inr A) (inl B) = absurd (A.off B.edge B.near)
  labelled-once x y (inr A) (inr B) =
      A.label_is ∙ ap (or_zero (label (layer ms i))) (looks-once (layer ms i).graph (the_from_at t (2 * (h / 2))) (way_at t (2 * (h / 2))) A.seen B.seen A.looks B.looks) ∙ sym B.label_is

-- ── the definition's label ──

module _ (ms : List Map) (K : AllKeep ms) (ps : List Piece) (g : Graph) (N : Pieced ms ps g) (c : Counts) (t : Tables) (H : Rows ms ps g c t) (i h : ℕ) (li : i < length ms) (l : h < 2 * c.edges) where
  abbrev m : Map
  m = layer ms i

  abbrev k : ℕ
  k = h / 2

  P : Plane g
  P = N.plane

  Q : Plane (layer ms i).graph
  Q = (K i li).plane

  lk : h / 2 < c.edges
  lk = omega arith

  l2 : 2 * (h / 2) < 2 * c.edges
  l2 = omega (arith, lk)

  in_g : h / 2 < edge_count g
  in_g = subst (λ (n : ℕ). k < n) H.edges_are lk

  -- half-edge 2k goes up, from the lower end
  goes_up_lem : goes_up g (2 * k) ≡ true
  goes_up_lem = N.goes (2 * k) (in_net ms ps g N c t H l2) ∙ even_double k

  low_at_lem : low g k ≡ the_from_at t (2 * k)
  low_at_lem = ap (low g) (sym (half_first k)) ∙ (up_ends g (2 * k) goes_up_lem).0 ∙ sym (from_start ms ps g N c t H (2 * k) l2)

  way-along : SameWay (upward g k) (way_at t (2 * k))
  way-along =
      subst (SameWay (upward g k)) (sym (way_is ms ps g N c t H (2 * k) l2))
      (subst (λ (u : Vec). SameWay u (dir (start g (2 * k)) (start g (twin (2 * k))))) headed (heading-along g P (2 * k) (in_net ms ps g N c t H l2)))
    where
      headed : heading g (2 * k) ≡ upward g k
      headed = (λ j. cond (goes_up_lem j) (upward g (half_first k j)) (opposite (upward g (half_first k j))))

  source-cell : source_cell (length ms) t k i ≡ the_plus_one (source_at (piece_at (ps) k).sources i)
  source-cell = H.source_at_lem k i lk li

  -- along edge j of the map
  along : (j : ℕ) → Near ms c t i j (origin_of t (2 * k)) (origin_of t (2 * k + 1)) → LabelAlong ms c t i h (label_in m g h (some j))
  along j n = record {
    edge = j;
    half = cond (even h) (twin (east_side m.graph j)) (east_side m.graph j);
    near = n;
    of_edge = of_edge (even h);
    one_way = one_way (even h);
    label_is = refl;
  }
    where
      of_edge : (b : Bool) → cond b (twin (east_side m.graph j)) (east_side m.graph j) / 2 ≡ j
      of_edge true = west-half m.graph j
      of_edge false = east-half m.graph j

      one_way : (b : Bool) → goes_up m.graph (cond b (twin (east_side m.graph j)) (east_side m.graph j)) ≡ b
      one_way true = west_up m.graph Q j n.of_map
      one_way false = east_down m.graph Q j n.of_map

  -- along none
  seen : source_at (piece_at (ps) k).sources i ≡ none → LabelSeen ms c t i h (label_in m g h none)
  seen e = record {
    off = λ j n. omega (arith, near-cell ms ps g N c t H k lk i j n, source-cell ∙ ap the_plus_one e);
    seen = west m.graph (low g k) (upward g k);
    looks = subst (λ (p : Pt). Looks m.graph p (way_at t (2 * k)) (west m.graph (low g k) (upward g k))) low_at_lem
        (looks-along m.graph Q (low g k) (upward g k) (way_at t (2 * k)) (upward_up g P k in_g) way-along (west m.graph (low g k) (upward g k))
        (west-looks m.graph Q (low g k) (ends_real g P k).0 (keeps-clear m (K i li)) (upward g k) (inl (P.rising k in_g))));
    label_is = refl;
  }

  pub label-found : Labelled ms c t i h (label_in (layer ms i) g h (source_at (piece_at (ps) (h / 2)).sources i))
  label-found = go (source_at (piece_at (ps) k).sources i) refl
    where
      go : (s : Option ℕ) → source_at (piece_at (ps) k).sources i ≡ s → Labelled ms c t i h (label_in m g h s)
      go (some j) e = inl (along j (cell-near ms ps g N c t H k lk i j li (source-cell ∙ ap the_plus_one e)))
      go none e = inr (seen e)
