-- The labels that the code finds are the definition's: of the half-edges and faces of the overlay of the points and pieces in tables, in the maps that the layers
-- hold. Assumes nothing.
use Rattle.std.specs.Prelude.{◌≡◌, ◌≤◌, ◌<◌, ◌∷◌, ◌++◌, ◌+◌, ◌*◌, ◌-◌, ◌/◌, ◌%◌}
use Rattle.std.proofs.Math.Path.{refl, ap}
use Rattle.std.proofs.Common.{sym, ◌∙◌, subst, inl, inr, arith}
use Rattle.seq.specs.Seq.{List, [], Option, none, some, ℕ, zero, suc, length, get_or, replicate, ℤ, rows, table, cell, select, filled, padded}
use Rattle.seq.specs.Terms.{Reach}
use Rattle.seq.specs.Filled.{filled_at}
use Rattle.seq.specs.Rows.{rows_ext}
use Rattle.seq.specs.Table.{length-table, table_at, table-ext, table_const}
use Rattle.seq.specs.Select.{select_from_lem}
use Rattle.seq.specs.Members.{at_among}
use Rattle.seq.specs.Wiped.{padded_at}
use Rattle.paper.specs.Limits.{maps}
use Rattle.paper.specs.Graph.{Graph, edge_count, the_half_count, followers, start, low, upward, twin}
use Rattle.paper.specs.Map.{Map}
use Rattle.paper.specs.Pieces.{Piece, layer}
use Rattle.paper.specs.Faces.{Overlay, label_in, net, sources_of, leads_outer, holes_of}
use Rattle.paper.specs.Tables.{face_row}
use Rattle.laws_graph.specs.Halves.{even_double, half_first}
use Rattle.laws_graph.specs.Plane.{up_ends}
use Rattle.laws_graph.specs.Walks.{Along, along_below}
use Rattle.laws_graph.specs.Follow.{followers-length}
use Rattle.laws_file.specs.Agree.{padded-cell}
use Rattle.graph.specs.Flat.{start_at, carrier_at}
use Rattle.graph.specs.Laws.Decode.{flat-edges, flat-upward, flat_start}
use Rattle.graph.specs.Heading.{twin_under, flat_starts, flat-carried}
use Rattle.overlay_cut.specs.PieceRows.{minus_one, piece_at, no_piece}
use Rattle.overlay_cut.specs.Net.{the_source_in}
use Rattle.tables.specs.Rows.{face_by}
use Rattle.overlay_maps.specs.Label.{label_by, stored, label_by_lem}
use Rattle.overlay_maps.specs.Held.{Held, held_map, held_maps, edge_start}
use Rattle.overlay_maps.specs.Layers.{Layers}
use Rattle.overlay_graph.specs.Laws.Standing.{layer_is, held-edges, held-count}
use Rattle.overlay_graph.specs.Cut.{Cut, overlay_in, Drawable, DrawableCut}
use Rattle.overlay_graph.specs.Traced.{NetBy, Zeroed}
use Rattle.overlay_graph.specs.Laws.Tracing.{walked}
use Rattle.overlay_graph.specs.Laws.Zeros.{zeroed_long}
use Rattle.overlay_pairs.specs.Labels.{half_label, face_label, label_cell, outer_of, Labelled, OnWalk, Walked, Beside, Agreeing, Readable, twin-label}

-- the label of face f in map i: "Face 0 is the outside, pair (0, 0)", another has that of its least outer half-edge
abbrev pub label_of : List Map → Overlay → ℕ → ℕ → ℕ
label_of ms o i zero = 0
label_of ms o i (suc f) = let h = get_or o.outers f 0 in label_in (layer ms i) (net o) h (get_or (sources_of o (h / 2)) i none)

-- the tables of the overlay of the points and pieces in c, within 01's limits: its net, its followers, and its outer walks
pub record Outlined (l : Layers) (c : Cut) (origins : List ℕ) (carriers : List ℤ) (next outers : List ℕ) (count : ℕ) : Type 0 where
  pub held : Held l
  pub cut : DrawableCut (held_maps l) c
  pub net_by : NetBy (overlay_in (held_maps l) c) c origins carriers
  pub next_is : Zeroed (overlay_in (held_maps l) c).walks.next next
  pub outers_is : Zeroed (overlay_in (held_maps l) c).outers outers
  pub count_is : count ≡ length (overlay_in (held_maps l) c).outers

-- and the hole walks of each face
pub record Whole (l : Layers) (c : Cut) (origins : List ℕ) (carriers : List ℤ) (next outers holes : List ℕ) (count : ℕ) : Type 0 where
  pub outlined : Outlined l c origins carriers next outers count
  pub holes_is : Zeroed (table (holes_of (overlay_in (held_maps l) c)) (suc count)) holes

-- the rows of the first n faces
abbrev pub face_rows : Layers → Cut → ℕ → List ℕ
face_rows l c n = rows (face_row (held_maps l) (overlay_in (held_maps l) c)) n

-- ── a stored source ──

stored_back : (n : ℕ) → stored (minus_one n) ≡ n
stored_back zero = refl
stored_back (suc n) = refl

most : (n e : ℕ) (o : Option ℕ) → minus_one n ≡ o → ((k : ℕ) → o ≡ some k → k < e) → n ≤ e
most zero e o q f = omega arith
most (suc n) e o q f = f n (sym q)

-- ── a cell of a table that is filled ──

at : (x : List ℕ) (g : ℕ → ℕ) (n : ℕ) (d : List ℕ) → x ≡ filled n g d → (f : ℕ) → f < n → get_or x f 0 ≡ g f
at x g n d e f q = ap (λ (y : List ℕ). get_or y f 0) e ∙ filled_at g n f d 0 q

-- ── half-edges ──

module _ (l : Layers) (c : Cut) (os : List ℕ) (bs : List ℤ) (next outers : List ℕ) (count : ℕ) (O : Outlined l c os bs next outers count) where
  abbrev ms : List Map
  ms = held_maps l

  abbrev o : Overlay
  o = overlay_in ms c

  abbrev D : Drawable ms o
  D = O.cut.drawable

  edges_are : edge_count (net o) ≡ c.edges
  edges_are = ap edge_count (sym O.net_by.net_is) ∙ flat-edges c.points os bs c.vertices c.edges

  module _ (k : ℕ) (b : k < c.edges) where
    within : k < edge_count (net o)
    within = omega (arith, edges_are)

    source_is : (i : ℕ) → i < maps → get_or (sources_of o k) i none ≡ minus_one (the_source_in c.pieces k i)
    unfolding overlay_in
    source_is i h = ap (λ (p : Piece). get_or p.sources i none) (table_at (piece_at c.pieces) c.edges k no_piece b) ∙ table_at (λ j. minus_one (the_source_in c.pieces k j)) maps i none h

    -- the stored source is the definition's, and names an edge of its map
    source-stored : (i : ℕ) → i < maps → the_source_in c.pieces k i ≡ stored (get_or (sources_of o k) i none)
    source-stored i h = sym (ap stored (source_is i h) ∙ stored_back (the_source_in c.pieces k i))

    source-most : (i : ℕ) → i < maps → the_source_in c.pieces k i ≤ edge_start l (i + 1) - edge_start l i
    source-most i h =
        most (the_source_in c.pieces k i) (edge_start l (i + 1) - edge_start l i) _ (sym (source_is i h))
        (λ r e. omega (arith, held-edges l O.held i h, D.sources i k r (omega (arith, held-count l)) within e))

    -- "its lower end", and the upward direction
    low_at_lem : start_at c.points os (2 * k) ≡ low (net o) k
    low_at_lem =
        sym (flat_start c.points os bs c.vertices c.edges O.net_by.flat.origins (2 * k) (omega arith))
        ∙ ap (λ (g : Graph). start g (2 * k)) O.net_by.net_is
        ∙ sym (up_ends (net o) (2 * k) (D.goes (2 * k) (omega (arith, within)) ∙ even_double k)).0 ∙ ap (low (net o)) (half_first k)

    up_at : (carrier_at bs k).up ≡ upward (net o) k
    up_at = sym (flat-upward c.points os bs c.vertices c.edges k b) ∙ ap (λ (g : Graph). upward g k) O.net_by.net_is

  -- the label of half-edge h in map i
  label_is : (i h : ℕ) → i < maps → h < 2 * c.edges → half_label (held_map l i) c.points os bs c.pieces i h ≡ label_in (layer ms i) (net o) h (get_or (sources_of o (h / 2)) i none)
  label_is i h b q =
      let k : ℕ = h / 2 in
      let r : k < c.edges = omega arith in
      (λ j. label_by (sym (layer_is l i b) j) h (low_at_lem k r j) (up_at k r j) (source-stored k r i b j))
      ∙ label_by_lem (layer ms i) (net o) h (get_or (sources_of o k) i none)

  -- ── along a walk ──

  halves_are : the_half_count (net o) ≡ 2 * c.edges
  halves_are = omega (arith, edges_are)

  -- by the table of followers as by the definition's
  next_at : (x : ℕ) → get_or next x 0 ≡ get_or (followers (net o)) x 0
  next_at x =
      let Z = O.next_is in
      ap (λ (t : List ℕ). get_or t x 0) (Z.is ∙ ap (padded 0 Z.cells) (sym (walked ms c (net o) refl))) ∙ padded-cell 0 Z.cells (followers (net o)) x

  next_long : 2 * c.edges ≤ length next
  next_long = omega (arith, zeroed_long o.walks.next next O.next_is, ap length (walked ms c (net o) refl), followers-length (net o) D.plane, halves_are)

  module _ (h : ℕ) (q : h < 2 * c.edges) (x : ℕ) (a : OnWalk next h x) where
    within_walk : h < the_half_count (net o)
    within_walk = omega (arith, halves_are)

    along : Along (net o) h x
    along = subst (λ (f : ℕ → ℕ). Reach f h x) (λ j y. next_at y j) a

    walk_below : x < 2 * c.edges
    walk_below = omega (arith, along_below (net o) D.plane within_walk along, halves_are)

    -- the label in map i is one along the walk
    walk_same : (i : ℕ) → i < maps → half_label (held_map l i) c.points os bs c.pieces i x ≡ half_label (held_map l i) c.points os bs c.pieces i h
    walk_same i b =
        let of-half : ℕ → ℕ → ℕ = λ y j. label_in (layer ms j) (net o) y (get_or (sources_of o (y / 2)) j none) in
        let li : i < length ms = omega (arith, held-count l) in
        label_is i x b walk_below ∙ sym (table_at (of-half x) (length ms) i 0 li) ∙ ap (λ (t : List ℕ). get_or t i 0) (sym (D.labels h x within_walk along))
        ∙ table_at (of-half h) (length ms) i 0 li ∙ sym (label_is i h b q)

  labelled_at : (i h : ℕ) → i < maps → h < 2 * c.edges → Labelled c.points os bs c.pieces i (edge_start l (i + 1) - edge_start l i) h
  labelled_at i h b q =
      let k : h / 2 < c.edges = omega arith in
      let F = O.net_by.flat in
      record {
        placed = record {
          of_maps = b;
          starts = flat_starts c.points os bs c.vertices c.edges F (2 * (h / 2)) (omega arith);
          carried = flat-carried c.points os bs c.vertices c.edges F (h / 2) k;
          row = omega (arith, O.cut.pieces_long);
        };
        source-most = source-most (h / 2) k i b;
      }

  walks : (h : ℕ) → h < 2 * c.edges → Walked next c.pieces h
  walks h q = record { follows = λ x a. omega (arith, walk_below h q x a, next_long); row = λ x a. omega (arith, walk_below h q x a, O.cut.pieces_long) }

  -- beside h: on its walk, or on that of its twin
  module _ (i h : ℕ) (b : i < maps) (q : h < 2 * c.edges) where
    twin_below : twin h < 2 * c.edges
    twin_below = twin_under c.edges h q

    beside-labelled : (x : ℕ) → Beside c.pieces next i h x → Labelled c.points os bs c.pieces i (edge_start l (i + 1) - edge_start l i) x
    beside-labelled x (inl a) = labelled_at i x b (walk_below h q x a)
    beside-labelled x (inr a) = labelled_at i x b (walk_below (twin h) twin_below x a.1)

    beside_same : (x : ℕ) → Beside c.pieces next i h x → half_label (held_map l i) c.points os bs c.pieces i x ≡ half_label (held_map l i) c.points os bs c.pieces i h
    beside_same x (inl a) = walk_same h q x a i b
    beside_same x (inr a) = walk_same (twin h) twin_below x a.1 i b ∙ twin-label (held_map l i) c.points os bs c.pieces i h a.0

    agreeing : Agreeing (held_map l i) c.points os bs c.pieces next i (edge_start l (i + 1) - edge_start l i) h
    agreeing = record { few = omega (arith, q, O.cut.few_edges); walked = walks h q; behind = walks (twin h) twin_below; labelled = beside-labelled; same = beside_same }

  -- ── faces ──

  outer_at : (f : ℕ) → f < count → get_or outers f 0 ≡ get_or o.outers f 0
  outer_at f b = ap (λ (x : List ℕ). get_or x f 0) O.outers_is.is ∙ padded_at 0 O.outers_is.cells f o.outers 0 (omega (arith, O.count_is))

  outers-are : o.outers ≡ select (leads_outer o.walks) (the_half_count (net o))
  unfolding overlay_in
  outers-are = refl

  outer_below : (f : ℕ) → f < count → get_or outers f 0 < 2 * c.edges
  outer_below f b =
      let p = leads_outer o.walks in
      let n = the_half_count (net o) in
      let e : get_or outers f 0 ≡ get_or (select p n) f 0 = outer_at f b ∙ ap (λ (x : List ℕ). get_or x f 0) outers-are in
      let q = (select_from_lem p n (get_or (select p n) f 0) (at_among (select p n) f 0 (omega (arith, O.count_is, ap length outers-are)))).0 in
      omega (arith, e, q, edges_are)

  -- what the code reads is there
  pub outers_long : count ≤ length outers
  outers_long = omega (arith, O.count_is, zeroed_long o.outers outers O.outers_is)

  pub readable : (i f : ℕ) → i < maps → f < count + 1 → Readable l c.points os bs c.pieces next outers i f
  readable i zero b q = tt
  readable i (suc f) b q = let r : f < count = omega arith in (omega (arith, outers_long), agreeing i (get_or outers f 0) b (outer_below f r))

  label_at_lem : (i f : ℕ) → i < maps → f < count + 1 → face_label (held_map l i) c.points os bs c.pieces i outers f ≡ label_of ms o i f
  label_at_lem i zero b q = refl
  label_at_lem i (suc f) b q =
      let r : f < count = omega arith in
      label_is i (get_or outers f 0) b (outer_below f r) ∙ ap (λ (h : ℕ). label_in (layer ms i) (net o) h (get_or (sources_of o (h / 2)) i none)) (outer_at f r)

  -- in the table that is filled with them, the label of face f in map i
  pub labels-are : (labels d : List ℕ) → labels ≡ filled (maps * (count + 1)) (label_cell l c.points os bs c.pieces outers) d →
      (f : ℕ) → f < count + 1 → (i : ℕ) → i < maps → cell 0 maps labels f i ≡ label_of (held_maps l) (overlay_in (held_maps l) c) i f
  labels-are labels d e f q i b =
      let j : ℕ = maps * f + i in
      let row : j / maps ≡ f = omega arith in
      let place : j % maps ≡ i = omega arith in
      at labels (label_cell l c.points os bs c.pieces outers) (maps * (count + 1)) d e j (omega arith)
      ∙ (λ k. face_label (held_map l (place k)) c.points os bs c.pieces (place k) outers (row k)) ∙ label_at_lem i f b q

-- ── the rows of the faces ──

module _ (l : Layers) (c : Cut) (os : List ℕ) (bs : List ℤ) (next outers holes : List ℕ) (count : ℕ) (W : Whole l c os bs next outers holes count) where
  abbrev held : List Map
  held = held_maps l

  abbrev drawn : Overlay
  drawn = overlay_in (held_maps l) c

  pub holes_long : count + 1 ≤ length holes
  holes_long =
      let counts = table (holes_of drawn) (suc count) in
      omega (arith, zeroed_long counts holes W.holes_is, length-table (holes_of drawn) (suc count))

  holes_at : (f : ℕ) → f < count + 1 → get_or holes f 0 ≡ holes_of drawn f
  holes_at f q =
      ap (λ (x : List ℕ). get_or x f 0) W.holes_is.is ∙ padded_at 0 W.holes_is.cells f (table (holes_of drawn) (suc count)) 0 (omega (arith, length-table (holes_of drawn) (suc count)))
      ∙ table_at (holes_of drawn) (suc count) f 0 (omega arith)

  -- labels, and two columns, filled face by face
  module _ (labels outer counts d₁ d₂ d₃ : List ℕ) (labels-are-filled : labels ≡ filled (maps * (count + 1)) (label_cell l c.points os bs c.pieces outers) d₁)
      (outer-is : outer ≡ filled (count + 1) (outer_of outers) d₂) (counts-are : counts ≡ filled (count + 1) (λ f. get_or holes f 0) d₃) where
    counted : (f : ℕ) → f < count + 1 → get_or counts f 0 ≡ holes_of drawn f
    counted f q = at counts (λ x. get_or holes x 0) (count + 1) d₃ counts-are f q ∙ holes_at f q

    labelled : (f : ℕ) → f < count + 1 → (i : ℕ) → i < maps → cell 0 maps labels f i ≡ label_of held drawn i f
    labelled = labels-are l c os bs next outers count W.outlined labels d₁ labels-are-filled

    row-labels : (f : ℕ) → f < count + 1 → table (cell 0 maps labels f) maps ≡ table (λ i. label_of held drawn i f) maps
    row-labels f q = table-ext (cell 0 maps labels f) (λ i. label_of held drawn i f) maps (labelled f q)

    row_is : (f : ℕ) → f < count + 1 → face_by labels outer counts f ≡ face_row held drawn f
    row_is zero q =
        let e = at outer (outer_of outers) (count + 1) d₂ outer-is 0 q in
        λ i. (row-labels 0 q ∙ table_const 0 maps ∙ ap (λ (n : ℕ). replicate n 0) (sym (held-count l))) i ++ (e i ∷ counted 0 q i ∷ [])
    row_is (suc f) q =
        let e = at outer (outer_of outers) (count + 1) d₂ outer-is (suc f) q ∙ outer_at l c os bs next outers count W.outlined f (omega arith) in
        λ i. (row-labels (suc f) q ∙ ap (table (λ i. label_of held drawn i (suc f))) (sym (held-count l))) i ++ (e i ∷ counted (suc f) q i ∷ [])

    pub rows_are : rows (face_by labels outer counts) (count + 1) ≡ rows (face_row held drawn) (count + 1)
    rows_are = rows_ext (face_by labels outer counts) (face_row held drawn) (count + 1) row_is
