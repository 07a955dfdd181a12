-- Of Looks of specs/, what rests on its definitions.
use Rattle.std.specs.Prelude.{◌≡◌, true, false, ℕ, ◌<◌, pos, ◌≤ℤ◌, ◌<ℤ◌}
use Rattle.std.proofs.Common.{sym, ◌∙◌, ap}
use Rattle.std.proofs.Math.Option.{Option, none, some}
use Rattle.exact.specs.Sign.{sgn}
use Rattle.seq.specs.Terms.{Top}
use Rattle.paper.specs.Plane.{Pt, Vec, cross, the_left_by}
use Rattle.paper.specs.Graph.{Graph, edge_count, upward, nearer, east_side}
use Rattle.paper.specs.Graph as Gr
use Rattle.paper.specs.Map.{Map}
use Rattle.laws_graph.specs.West.{candidate, Sees, west-sees}
use Rattle.laws_map.specs.Keeps.{edges}
use Rattle.laws_labels.specs.Lawful.{Lawful}
use Rattle.laws_labels.specs.Spans.{span}
use Rattle.laws_labels.specs.Near.{near}
use Rattle.laws_labels.specs.Cuts.{above}
use Rattle.laws_labels.specs.Pot.{Jumps, pot}
use Rattle.laws_labels.specs.Edges.{good}
use Rattle.laws_labels.specs.Moves.{pot-ext}
use Rattle.laws_labels.specs.Across.{across}
use Rattle.laws_labels.proofs.Across.{look-across}
use Rattle.laws_labels.specs.Covers.{Covers}
use Rattle.laws_labels.specs.Star.{the_left_in}
use Rattle.laws_labels.proofs.Looks.{k, s, F, side_as, turn_as, not_nearer, piece-span, good-span, counts, counted-piece, down_right, east_left, unseen}
use Rattle.laws_labels.specs.Looks.{seen_in}

-- ── the tests of 01 by signs ──

module _ (O : Graph) (m : Map) (K : Lawful m) (C : Covers O m) (p : Pt) (hp : pos 0 <ℤ p.D) (d : Vec) (hd : pos 0 ≤ℤ d.y) where
  -- ── an edge of m that is counted lies along a piece that O counts ──

  module _ (j : ℕ) (lj : j < edges m) (wj : Jumps m j) (cj : above false p d (span m j) ≡ true) where
    -- and where that is not nearer than W, it lies west of the right of W
    not_nearer_as : (W : ℕ) → nearer O p (k O m K C p hp d hd j lj wj cj) W ≡ false → near true (sgn (the_left_by (s O m K C p hp d hd j lj wj cj) (across (F O m K C p hp d hd W) p))) (sgn (cross (upward O W) (s O m K C p hp d hd j lj wj cj).up)) ≡ true
    not_nearer_as W e = sym (λ i. near true (side_as O m K C p hp d hd j lj wj cj (across (F O m K C p hp d hd W) p) i) (turn_as O m K C p hp d hd j lj wj cj (upward O W) i)) ∙ not_nearer O p (k O m K C p hp d hd j lj wj cj) W e

  -- ── what is seen ──

  pub seen : (W : ℕ) → Top (candidate O p d) (nearer O p) (edge_count O) W → pot m (above false p d) ≡ the_left_in m O (east_side O W)
  seen W t =
      pot-ext m (above false p d) (above true (across (F O m K C p hp d hd W) p) (upward O W)) (λ j l v.
      look-across p hp d hd (piece-span O m K C p hp d hd W t.is) (good-span O m K C p hp d hd W t.is) (counts O m K C p hp d hd W t.is) (span m j) (good m K j l) (λ e. not_nearer_as j l v e W (t.none_better (k O m K C p hp d hd j l v e) (counted-piece O m K C p hp d hd j l v e))))
      ∙ down_right O m K C p hp d hd W t.is ∙ sym (east_left O m K C p hp d hd W t.is)

  seen_by : (o : Option ℕ) → Sees O p d o → pot m (above false p d) ≡ seen_in m O o
  seen_by none n = unseen O m K C p hp d hd n
  seen_by (some h) (W, t, e) = seen W t ∙ ap (the_left_in m O) e

  pub looked : pot m (above false p d) ≡ seen_in m O (Gr.west O p d)
  looked = seen_by (Gr.west O p d) (west-sees O C.plane p hp d)
