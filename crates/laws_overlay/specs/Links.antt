-- The pieces of one edge: they go between neighbours among the vertices on it, and every two neighbours have one. First the links between neighbours of a rising list of
-- numbers; then of the list of vertices on an edge; then the pieces of all edges of all maps, before they are put in order. Assumes nothing.
use Rattle.std.specs.Prelude.{refl, ◌<◌, ◌∷◌}
use Rattle.std.proofs.Common.{inl, inr, arith}
use Rattle.seq.specs.Seq.{Bool, List, [], Option, ℕ, length, rows}
use Rattle.seq.specs.Terms.{Among, Asc}
use Rattle.seq.specs.Select.{select_from_lem, select_has, select_asc}
use Rattle.paper.specs.Plane.{Pt, Seg, on_seg}
use Rattle.paper.specs.Graph.{Graph, point_in, edge}
use Rattle.paper.specs.Map.{Map}
use Rattle.paper.specs.Pieces.{layer, Piece, links, links_from, along, pieces_of}
use Rattle.laws_plane.specs.Edges.{On, on_is, is_on}
use Rattle.laws_map.specs.Keeps.{seg, edges}

-- ── between neighbours of a rising list of numbers ──

abbrev pub piece_of : ℕ → ℕ → List (Option ℕ) → Piece
piece_of v w s = record { lo = v; hi = w; sources = s }

pub record Link (l : List ℕ) (v w : ℕ) : Type 0 where
  pub rises : v < w
  pub lower : Among v l
  pub upper : Among w l
  pub none : (x : ℕ) → Among x l → v < x → x < w → ⊥

module _ (s : List (Option ℕ)) where
  has_step : (v : ℕ) (l : List ℕ) → Asc (v ∷ l) → (x y : ℕ) → x < y → Among x (v ∷ l) → Among y (v ∷ l) → ((z : ℕ) → Among z (v ∷ l) → x < z → z < y → ⊥) → Among (piece_of x y s) (links_from s v l)
  has_step v [] a x y h (inl e) (inl f) n = absurd (omega arith)
  has_step v [] a x y h (inl e) (inr j) n = absurd j
  has_step v [] a x y h (inr i) j n = absurd i
  has_step v (w ∷ ws) a x y h (inl e) (inl f) n = absurd (omega arith)
  has_step v (w ∷ ws) a x y h (inl e) (inr (inl f)) n = inl (λ i. piece_of (e i) (f i) s)
  has_step v (w ∷ ws) a x y h (inl e) (inr (inr j)) n = absurd (n w (inr (inl refl)) (omega (arith, a.0 w (inl refl))) (a.1.0 y j))
  has_step v (w ∷ ws) a x y h (inr i) (inl f) n = absurd (omega (arith, a.0 x i))
  has_step v (w ∷ ws) a x y h (inr i) (inr j) n = inr (has_step w ws a.1 x y h i j (λ z k. n z (inr k)))

  -- and every two neighbours have one
  pub link_has : (l : List ℕ) → Asc l → (x y : ℕ) → Link l x y → Among (piece_of x y s) (links s l)
  link_has [] a x y k = absurd k.lower
  link_has (v ∷ vs) a x y k = has_step v vs a x y k.rises k.lower k.upper k.none

-- ── between neighbouring vertices on an edge ──

-- vertices lo and hi are neighbours on the edge s: both are on it, and none between them is
pub record Neighbours (vs : List Pt) (s : Seg) (lo hi : ℕ) : Type 0 where
  pub rises : lo < hi
  pub below : hi < length vs
  pub on_lo : On s (point_in vs lo)
  pub on_hi : On s (point_in vs hi)
  pub none : (w : ℕ) → lo < w → w < hi → On s (point_in vs w) → ⊥

module _ (vs : List Pt) (g : Graph) (k : ℕ) where
  abbrev c : Seg
  c = (edge g k).carrier

  abbrev the_on_edge : ℕ → Bool
  the_on_edge v = on_seg c (point_in vs v)

  -- the vertices on an edge are exactly those that lie on it, rising
  pub along_from : (v : ℕ) → Among v (along vs g k) → (v < length vs) × On c (point_in vs v)
  along_from v i = let (l, e) = select_from_lem the_on_edge (length vs) v i in (l, on_is c (point_in vs v) e)

  pub along_has : (v : ℕ) → v < length vs → On c (point_in vs v) → Among v (along vs g k)
  along_has v l o = select_has the_on_edge (length vs) v l (is_on c (point_in vs v) o)

  pub along_asc : Asc (along vs g k)
  along_asc = select_asc the_on_edge (length vs)

  pub link-neighbours : (lo hi : ℕ) → Link (along vs g k) lo hi → Neighbours vs c lo hi
  link-neighbours lo hi r = record {
    rises = r.rises;
    below = (along_from hi r.upper).0;
    on_lo = (along_from lo r.lower).1;
    on_hi = (along_from hi r.upper).1;
    none = λ w h l o. r.none w (along_has w (omega (arith, (along_from hi r.upper).0)) o) h l;
  }

  pub neighbours-link : (lo hi : ℕ) → Neighbours vs c lo hi → Link (along vs g k) lo hi
  neighbours-link lo hi n = record {
    rises = n.rises;
    lower = along_has lo (omega (arith, n.rises, n.below)) n.on_lo;
    upper = along_has hi n.below n.on_hi;
    none = λ w i h l. n.none w h l (along_from w i).1;
  }

-- ── the pieces of all edges, as they come ──

abbrev pub cut_out : List Map → List Pt → List Piece
cut_out ms vs = rows (pieces_of ms vs) (length ms)

-- edge k of map i has lo and hi as neighbours
pub record Runs (ms : List Map) (vs : List Pt) (i k lo hi : ℕ) : Type 0 where
  pub in_list : i < length ms
  pub of_map : k < edges (layer ms i)
  pub near : Neighbours vs (seg (layer ms i) k) lo hi
