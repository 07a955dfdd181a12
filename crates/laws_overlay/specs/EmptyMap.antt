-- An empty map put anywhere into the list of maps changes no vertex (`empty-vertices`) and no edge of the overlay's graph (`empty-graph`), and so no follower, walk or face; each
-- piece has one source more, none, at its place (`empty-pieces`). Of any list of maps, whether they keep the rules or not. Assumes nothing.
use Rattle.std.specs.Prelude.{◌≡◌, refl, ◌<◌, ◌≤◌, ◌∷◌, ◌++◌}
use Rattle.std.proofs.Common.{sym, ◌∙◌, ap, arith, ne_eqb}
use Rattle.seq.specs.Seq.{Bool, true, false, cond, List, [], map, Option, none, some, ℕ, zero, suc, eqb, length, rows, insert_by}
use Rattle.seq.specs.Tests.{eqb_iff}
use Rattle.seq.specs.Rows.{rows_ext, rows_none, map_rows}
use Rattle.seq.specs.Put.{put, length-put, put_before, put-own, put_past, table-put, rows-put}
use Rattle.paper.specs.Plane.{Pt}
use Rattle.paper.specs.Graph.{Graph, edge_count}
use Rattle.paper.specs.Map.{Map, empty}
use Rattle.paper.specs.Pieces.{layer, crossed_by, crossings, the_in_order, vertices_of, Piece, only, merged, joined, earlier, pieces_in_order, links_from, links, along, pieces_of, edges_of, carrier_of, edge_of}
use Rattle.laws_overlay.specs.Links.{cut_out}
use Rattle.laws_overlay.specs.Net.{net_of}
use Rattle.laws_overlay.specs.Inside.{overlaid}

-- ── layers ──

-- the list with an empty map at place a
abbrev pub with_empty : ℕ → List Map → List Map
with_empty a ms = put a empty ms

module _ (ms : List Map) (a : ℕ) (h : a ≤ length ms) where
  abbrev more : List Map
  more = with_empty a ms

  abbrev g : ℕ → Graph
  g i = (layer ms i).graph

  abbrev g' : ℕ → Graph
  g' i = (layer more i).graph

  pub one_more : length (with_empty a ms) ≡ suc (length ms)
  one_more = length-put a empty ms h

  pub layer_before : (i : ℕ) → i < a → layer (with_empty a ms) i ≡ layer ms i
  layer_before i l = put_before a empty ms empty i l

  pub layer-own : layer (with_empty a ms) a ≡ empty
  layer-own = put-own a empty ms empty h

  pub layer_past : (i : ℕ) → a ≤ i → layer (with_empty a ms) (suc i) ≡ layer ms i
  layer_past i l = put_past a empty ms empty i l

  -- ── vertices ──

  same_corners : rows (λ i. (g' i).points) (length more) ≡ rows (λ i. (g i).points) (length ms)
  same_corners =
      ap (rows (λ i. (g' i).points)) one_more
      ∙ rows-put a (λ i. (g i).points) (λ i. (g' i).points) (λ i l. ap (λ (m : Map). m.graph.points) (layer_before i l)) (ap (λ (m : Map). m.graph.points) layer-own)
      (λ i l. ap (λ (m : Map). m.graph.points) (layer_past i l)) (length ms) h

  -- with an empty map there is no crossing
  first_empty : (b : Graph) → crossed_by (g' a) b ≡ []
  first_empty b = ap (λ (m : Map). crossed_by m.graph b) layer-own

  second_empty : (b : Graph) → crossed_by b (g' a) ≡ []
  second_empty b = ap (λ (m : Map). crossed_by b m.graph) layer-own ∙ rows_none (edge_count b)

  both : {k m n r : Map} → k ≡ m → n ≡ r → crossed_by k.graph n.graph ≡ crossed_by m.graph r.graph
  both p q = λ x. crossed_by (p x).graph (q x).graph

  same_crossings : crossings more ≡ crossings ms
  same_crossings = ap (rows (λ j. rows (λ i. crossed_by (g' i) (g' j)) j)) one_more ∙ rows-put a (λ j. rows (λ i. crossed_by (g i) (g j)) j) (λ j. rows (λ i. crossed_by (g' i) (g' j)) j) below own past (length ms) h
    where
      below : (j : ℕ) → j < a → rows (λ i. crossed_by (g' i) (g' j)) j ≡ rows (λ i. crossed_by (g i) (g j)) j
      below j l = rows_ext (λ i. crossed_by (g' i) (g' j)) (λ i. crossed_by (g i) (g j)) j (λ i k. both (layer_before i (omega arith)) (layer_before j l))

      own : rows (λ i. crossed_by (g' i) (g' a)) a ≡ []
      own = rows_ext (λ i. crossed_by (g' i) (g' a)) (λ i. []) a (λ i k. second_empty (g' i)) ∙ rows_none a

      past : (j : ℕ) → a ≤ j → rows (λ i. crossed_by (g' i) (g' (suc j))) (suc j) ≡ rows (λ i. crossed_by (g i) (g j)) j
      past j l =
          rows-put a (λ i. crossed_by (g i) (g j)) (λ i. crossed_by (g' i) (g' (suc j))) (λ i k. both (layer_before i k) (layer_past j l)) (first_empty (g' (suc j)))
          (λ i k. both (layer_past i k) (layer_past j l)) j l

  pub empty-vertices : vertices_of (with_empty a ms) ≡ vertices_of ms
  empty-vertices = λ i. the_in_order (same_corners i ++ same_crossings i)

-- ── sources ──

merged-put : (a : ℕ) (ss ts : List (Option ℕ)) → merged (put a none ss) (put a none ts) ≡ put a none (merged ss ts)
merged-put zero ss ts = refl
merged-put (suc a) [] ts = refl
merged-put (suc a) (s ∷ ss) [] = refl
merged-put (suc a) (none ∷ ss) (t ∷ ts) = ap (λ (r : List (Option ℕ)). t ∷ r) (merged-put a ss ts)
merged-put (suc a) (some k ∷ ss) (t ∷ ts) = ap (λ (r : List (Option ℕ)). some k ∷ r) (merged-put a ss ts)

carrier-put : (a : ℕ) (ms : List Map) (ss : List (Option ℕ)) → carrier_of (put a empty ms) (put a none ss) ≡ carrier_of ms ss
carrier-put zero ms ss = refl
carrier-put (suc a) [] ss = refl
carrier-put (suc a) (m ∷ ms) [] = refl
carrier-put (suc a) (m ∷ ms) (none ∷ ss) = carrier-put a ms ss
carrier-put (suc a) (m ∷ ms) (some k ∷ ss) = refl

module _ (a n i k : ℕ) (h : a ≤ n) where
  abbrev own : ℕ → ℕ → Option ℕ
  own i j = cond (eqb j i) (some k) none

  not_own : (i' : ℕ) → (a ≡ i' → ⊥) → own i' a ≡ none
  not_own i' d = ap (λ (c : Bool). cond c (some k) none) (ne_eqb a i' d)

  only_by : (i' : ℕ) → (a ≡ i' → ⊥) → ((j : ℕ) → j < a → own i' j ≡ own i j) → ((j : ℕ) → a ≤ j → own i' (suc j) ≡ own i j) → only (suc n) i' k ≡ put a none (only n i k)
  only_by i' d below past = sym (ap (λ (x : Option ℕ). put a x (only n i k)) (sym (not_own i' d)) ∙ table-put a n h (own i) (own i') below past)

  only_before : i < a → only (suc n) i k ≡ put a none (only n i k)
  only_before l = only_by i (λ e. omega arith) (λ j q. refl) (λ j q. ap (λ (c : Bool). cond c (some k) none) (eqb_iff (suc j) i j i (λ e. absurd (omega arith)) (λ e. absurd (omega arith))))

  only_past : a ≤ i → only (suc n) (suc i) k ≡ put a none (only n i k)
  only_past l =
      only_by (suc i) (λ e. omega arith) (λ j q. ap (λ (c : Bool). cond c (some k) none) (eqb_iff j (suc i) j i (λ e. absurd (omega arith)) (λ e. absurd (omega arith))))
      (λ j q. ap (λ (c : Bool). cond c (some k) none) (eqb_iff (suc j) (suc i) j i (λ e. omega arith) (λ e. omega arith)))

-- ── pieces ──

-- a piece with one source more, none, at place a
abbrev pub with_none : ℕ → Piece → Piece
with_none a q = record { lo = q.lo; hi = q.hi; sources = put a none q.sources }

module _ (a : ℕ) where
  links_from_put : (s : List (Option ℕ)) (v : ℕ) (l : List ℕ) → links_from (put a none s) v l ≡ map (with_none a) (links_from s v l)
  links_from_put s v [] = refl
  links_from_put s v (w ∷ ws) = ap (λ (r : List Piece). record { lo = v; hi = w; sources = put a none s } ∷ r) (links_from_put s w ws)

  links-put : (s : List (Option ℕ)) (l : List ℕ) → links (put a none s) l ≡ map (with_none a) (links s l)
  links-put s [] = refl
  links-put s (v ∷ vs) = links_from_put s v vs

  joined-put : (p q : Piece) → joined (with_none a p) (with_none a q) ≡ with_none a (joined p q)
  joined-put p q = λ i. record { lo = p.lo; hi = p.hi; sources = merged-put a p.sources q.sources i }

  -- the order goes by the ends
  insert-step : (p q : Piece) (qs r : List Piece) (c d : Bool) → insert_by earlier joined (with_none a p) (map (with_none a) qs) ≡ map (with_none a) r →
      cond c (with_none a p ∷ with_none a q ∷ map (with_none a) qs) (cond d (with_none a q ∷ insert_by earlier joined (with_none a p) (map (with_none a) qs)) (joined (with_none a p) (with_none a q) ∷ map (with_none a) qs))
      ≡ map (with_none a) (cond c (p ∷ q ∷ qs) (cond d (q ∷ r) (joined p q ∷ qs)))
  insert-step p q qs r true d ih = refl
  insert-step p q qs r false true ih = ap (λ (l : List Piece). with_none a q ∷ l) ih
  insert-step p q qs r false false ih = ap (λ (z : Piece). z ∷ map (with_none a) qs) (joined-put p q)

  insert-put : (p : Piece) (qs : List Piece) → insert_by earlier joined (with_none a p) (map (with_none a) qs) ≡ map (with_none a) (insert_by earlier joined p qs)
  insert-put p [] = refl
  insert-put p (q ∷ qs) = insert-step p q qs (insert_by earlier joined p qs) (earlier p q) (earlier q p) (insert-put p qs)

  order-put : (l : List Piece) → pieces_in_order (map (with_none a) l) ≡ map (with_none a) (pieces_in_order l)
  order-put [] = refl
  order-put (p ∷ ps) = ap (insert_by earlier joined (with_none a p)) (order-put ps) ∙ insert-put p (pieces_in_order ps)

-- the edges of the graph do not know of the source that is none
pub edges_same : (a : ℕ) (ms : List Map) (l : List Piece) → map (edge_of (with_empty a ms)) (map (with_none a) l) ≡ map (edge_of ms) l
edges_same a ms [] = refl
edges_same a ms (p ∷ ps) = λ i. record { from = p.lo; to = p.hi; carrier = carrier-put a ms p.sources i } ∷ edges_same a ms ps i

module _ (ms : List Map) (a : ℕ) (h : a ≤ length ms) (vs : List Pt) where
  -- the pieces of a graph as the map of number i of n
  abbrev cut_by : ℕ → ℕ → Graph → List Piece
  cut_by n i x = rows (λ k. links (only n i k) (along vs x k)) (edge_count x)

  cut-put : (i i' : ℕ) (x : Graph) → ((k : ℕ) → only (suc (length ms)) i' k ≡ put a none (only (length ms) i k)) → cut_by (suc (length ms)) i' x ≡ map (with_none a) (cut_by (length ms) i x)
  cut-put i i' x e =
      rows_ext (λ k. links (only (suc (length ms)) i' k) (along vs x k)) (λ k. map (with_none a) (links (only (length ms) i k) (along vs x k))) (edge_count x)
      (λ k l. ap (λ (s : List (Option ℕ)). links s (along vs x k)) (e k) ∙ links-put a (only (length ms) i k) (along vs x k))
      ∙ sym (map_rows (with_none a) (λ k. links (only (length ms) i k) (along vs x k)) (edge_count x))

  same_cut : cut_out (with_empty a ms) vs ≡ map (with_none a) (cut_out ms vs)
  same_cut =
      ap (λ (n : ℕ). rows (λ i. cut_by n i (layer (with_empty a ms) i).graph) n) (one_more ms a h)
      ∙ rows-put a (λ i. map (with_none a) (pieces_of ms vs i)) (λ i. cut_by (suc (length ms)) i (layer (with_empty a ms) i).graph)
      (λ i l. ap (λ (m : Map). cut_by (suc (length ms)) i m.graph) (layer_before ms a h i l) ∙ cut-put i i (layer ms i).graph (λ k. only_before a (length ms) i k h l))
      (ap (λ (m : Map). cut_by (suc (length ms)) a m.graph) (layer-own ms a h))
      (λ i l. ap (λ (m : Map). cut_by (suc (length ms)) (suc i) m.graph) (layer_past ms a h i l) ∙ cut-put i (suc i) (layer ms i).graph (λ k. only_past a (length ms) i k h l))
      (length ms) h
      ∙ sym (map_rows (with_none a) (pieces_of ms vs) (length ms))

  pub empty-pieces : edges_of (with_empty a ms) vs ≡ map (with_none a) (edges_of ms vs)
  empty-pieces = ap pieces_in_order same_cut ∙ order-put a (cut_out ms vs)

  -- ── the graph ──

  pub empty-net : net_of (with_empty a ms) vs ≡ net_of ms vs
  empty-net = λ i. record { points = vs; edges = (ap (map (edge_of (with_empty a ms))) empty-pieces ∙ edges_same a ms (edges_of ms vs)) i }

-- the overlay's graph is the same
pub empty-graph : (ms : List Map) (a : ℕ) → a ≤ length ms → overlaid (with_empty a ms) ≡ overlaid ms
empty-graph ms a h = ap (net_of (with_empty a ms)) (empty-vertices ms a h) ∙ empty-net ms a h (vertices_of ms)
