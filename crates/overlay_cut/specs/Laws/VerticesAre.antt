-- The points that are collected are the overlay's vertices: put in order they are `vertices_of` the maps that the tables hold, and where the table is full the
-- overlay has at least as many vertices as it has rows. The maps keep the rules: where edges in one line touch is a corner then. Assumes nothing.
use Rattle.std.specs.Prelude.{◌≡◌, refl, ◌≤◌, ◌<◌, ℤ, ◌++◌}
use Rattle.std.proofs.Common.{sym, ◌∙◌, ap, subst, inl, inr, ⊎_elim, arith}
use Rattle.exact.specs.Lowest.{Pt, Lowest}
use Rattle.seq.specs.Seq.{List, [], ℕ, length, rows, collect}
use Rattle.seq.specs.Terms.{Among, Every}
use Rattle.seq.specs.Members.{among-++, ++-among, every_in, in_every}
use Rattle.seq.specs.Table.{length-table}
use Rattle.seq.specs.Rows.{rows-among}
use Rattle.seq.specs.Collected.{collect-distinct, collect_from, collect_has}
use Rattle.seq.specs.Inserted.{in_order_same}
use Rattle.seq.specs.ByHalves.{length-sorted}
use Rattle.paper.specs.Plane.{before}
use Rattle.paper.specs.Map.{Map}
use Rattle.paper.specs.Pieces.{layer, the_in_order, vertices_of}
use Rattle.laws_overlay.specs.Maps.{AllKeep, points-lowest}
use Rattle.laws_meet.specs.Collect.{met_in, vertices_by_lem}
use Rattle.graph.specs.Flat.{the_point_at}
use Rattle.overlay_cut.specs.Capped.{Cap, whole, cap-whole, cap_full, collect_in-cap}
use Rattle.overlay_cut.specs.Points.{points_of, equal, equal_is, Once, once-clear, asym, trans, one_point}
use Rattle.overlay_cut.specs.Crossed.{cross_all}
use Rattle.overlay_cut.specs.Collecting.{gathered}
use Rattle.overlay_cut.specs.Laws.Holds.{Holds}
use Rattle.overlay_cut.specs.Laws.CrossedAre.{met_in_lowest, crossed_from, crossed_has}

-- the n points in a table, put in order, are the vertices of the overlay
pub record Vertices (ms : List Map) (out : List ℤ) (n : ℕ) : Type 0 where
  pub once : Once (points_of out n)
  pub ordered : the_in_order (points_of out n) ≡ vertices_of ms
  pub many : n ≡ length (vertices_of ms)

-- a list put in order is as long
pub length-ordered : (l : List Pt) → Once l → length (the_in_order l) ≡ length l
length-ordered l o = length-sorted before (λ p q. q) (λ p q. refl) l (once-clear l o.lowest o.once)

module _ {ms : List Map} {corners : List ℤ} {c : ℕ} {cs : List ℤ} {st : List ℕ} (H : Holds ms corners c cs st) (K : AllKeep ms) where
  -- what the tables say, and what the definition says
  abbrev found : List Pt
  found = points_of corners c ++ cross_all cs st

  abbrev defined : List Pt
  defined = rows (λ i. (layer ms i).graph.points) (length ms) ++ met_in ms

  found_from : (z : Pt) → Among z found → Among z defined
  found_from z i =
      ++-among z (rows (λ i. (layer ms i).graph.points) (length ms)) (met_in ms)
      (⊎_elim (λ j. inl (subst (Among z) H.corners-are j)) (λ j. inr (crossed_from H z j)) (among-++ z (points_of corners c) (cross_all cs st) i))

  found_has : (z : Pt) → Among z defined → Among z found
  found_has z i =
      ++-among z (points_of corners c) (cross_all cs st)
      (⊎_elim (λ j. inl (subst (Among z) (sym H.corners-are) j)) (λ j. inr (crossed_has H z j)) (among-++ z (rows (λ i. (layer ms i).graph.points) (length ms)) (met_in ms) i))

  -- all are in lowest terms
  defined_low : Every Lowest defined
  defined_low =
      in_every Lowest defined
      (λ z i. ⊎_elim (λ j. low z j) (λ j. met_low z j) (among-++ z (rows (λ i. (layer ms i).graph.points) (length ms)) (met_in ms) i))
    where
      low : (z : Pt) → Among z (rows (λ i. (layer ms i).graph.points) (length ms)) → Lowest z
      low z a = let r = rows-among (λ i. (layer ms i).graph.points) (length ms) z a in every_in Lowest (layer ms r.0).graph.points (points-lowest (layer ms r.0) (K r.0 r.1)) z r.2

      met_low : (z : Pt) → Among z (met_in ms) → Lowest z
      met_low z a = met_in_lowest ms K z a

  found_low : Every Lowest found
  found_low = in_every Lowest found (λ z i. every_in Lowest defined defined_low z (found_from z i))

  -- ── collected ──

  abbrev pub each : List Pt
  each = collect equal [] found

  each_from : (z : Pt) → Among z each → Among z found
  each_from z i = ⊎_elim (λ j. absurd j) (λ j. j) (collect_from equal z [] found i)

  pub each_once : Once each
  each_once = record { lowest = in_every Lowest each (λ z i. every_in Lowest found found_low z (each_from z i)); once = collect-distinct equal [] found tt }

  -- put in order they are the vertices
  pub each_ordered : the_in_order each ≡ vertices_of ms
  each_ordered =
      in_order_same before (λ p q. q) (λ p q. refl) Lowest one_point trans asym each defined each_once.lowest defined_low
      (λ z i. found_from z (each_from z i))
      (λ z i. collect_has equal Lowest (λ p q a b. equal_is p q) z [] found (λ y j. absurd j) found_low (found_has z i))
      ∙ vertices_by_lem ms K

  pub each_many : length each ≡ length (vertices_of ms)
  each_many = sym (length-ordered each each_once) ∙ ap length each_ordered

  -- ── in a table with room for so many ──

  module _ (room : ℕ) (out : List ℤ) (n : ℕ) (e : points_of out n ≡ gathered room [] found) where
    cap : Cap room (points_of out n) each
    cap = subst (λ (l : List Pt). Cap room l each) (sym e) (collect_in-cap equal room [] [] found (whole refl (omega arith)))

    -- they are the vertices, if the table is not full
    pub vertices-are : n < room → Vertices ms out n
    vertices-are h =
        let q : points_of out n ≡ each = cap-whole cap (omega (arith, length-table (the_point_at out) n)) in
        record {
          once = subst Once (sym q) each_once;
          ordered = ap the_in_order q ∙ each_ordered;
          many = sym (length-table (the_point_at out) n) ∙ ap length q ∙ each_many;
        }

    -- and otherwise the overlay has as many or more
    pub vertices_over : room ≤ n → room ≤ length (vertices_of ms)
    vertices_over h = omega (arith, cap_full cap (omega (arith, length-table (the_point_at out) n)), each_many)
