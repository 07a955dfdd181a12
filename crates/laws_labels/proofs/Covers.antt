-- Of Covers of specs/, what rests on its definitions.
use Rattle.std.specs.Prelude.{◌≡◌, refl, Bool, true, false, not, ◌&&◌, ℕ, ◌<◌, pos, ◌<ℤ◌}
use Rattle.std.proofs.Common.{sym, ◌∙◌, ap, subst}
use Rattle.exact.specs.Tests.{clash, and_parts}
use Rattle.seq.specs.Seq.{length}
use Rattle.paper.specs.Plane.{Pt, Vec, opposite, cross, before, same, the_left_by}
use Rattle.paper.specs.Graph.{Graph, edge_count, point, edge, origin, low, high, upward, east_side}
use Rattle.paper.specs.Map.{Map}
use Rattle.laws_plane.specs.Cone.{up_rises, up_nonzero}
use Rattle.laws_plane.specs.Points.{neither}
use Rattle.laws_plane.specs.Angles.{SameWay, same_way-opposite}
use Rattle.laws_graph.specs.Plane.{upward_up}
use Rattle.laws_graph.specs.East.{east_below, east-start, east-heading, west_side, west_below, west-start, west-heading}
use Rattle.laws_map.specs.Keeps.{seg, edges}
use Rattle.laws_labels.specs.Lawful.{Lawful}
use Rattle.laws_labels.specs.Spans.{span}
use Rattle.laws_labels.specs.Cuts.{Leaves}
use Rattle.laws_labels.specs.Pot.{Jumps}
use Rattle.laws_labels.specs.Sector.{arrow}
use Rattle.laws_labels.specs.Covers.{PieceAt, Out, Covers}

-- ── an edge that leaves a vertex leaves it along a half-edge ──

module _ (O : Graph) (m : Map) (K : Lawful m) (C : Covers O m) (z : ℕ) (lz : z < length O.points) (j : ℕ) (lj : j < edges m) (wj : Jumps m j) where
  abbrev v : Pt
  v = point O z

  up_way : (k : ℕ) → k < edge_count O → cross (upward O k) (seg m j).up ≡ pos 0 → SameWay (upward O k) (seg m j).up
  up_way k l p = record { parallel = p; half = C.plane.rising k l ∙ sym (up_rises (seg m j).up (upward_up m.graph K.plane j lj)) }

  -- the piece starts at v
  up_out : PieceAt O (seg m j) v true → Out O z (seg m j).up
  up_out p =
      let k = p.piece in
      let l = p.below in
      let r = and_parts (not (before v (low O k))) (before v (high O k)) p.reaches in
      record {
        half = west_side O k;
        below = west_below O k l;
        leaves = C.plane.distinct (origin O (west_side O k)) z (C.plane.starts (west_side O k) (west_below O k l)) lz (ap (λ (x : Pt). same x v) (west-start O C.plane k l) ∙ at k l p.on (before (low O k) v) (before v (low O k)) refl refl r.0 r.1);
        along = subst (λ (u : Vec). SameWay u (seg m j).up) (sym (west-heading O C.plane k l)) (up_way k l p.parallel);
      }
    where
      at : (k : ℕ) → k < edge_count O → the_left_by (edge O k).carrier v ≡ pos 0 → (a b : Bool) → before (low O k) v ≡ a → before v (low O k) ≡ b → not b ≡ true → before v (high O k) ≡ true → same (low O k) v ≡ true
      at k l o a true x y n u = absurd (clash n refl)
      at k l o true false x y n u = absurd (C.no_inside z k lz l o x u)
      at k l o false false x y n u = neither (low O k) v x y

  -- or ends there
  down_out : PieceAt O (seg m j) v false → Out O z (opposite (seg m j).up)
  down_out p =
      let k = p.piece in
      let l = p.below in
      let r = and_parts (before (low O k) v) (not (before (high O k) v)) p.reaches in
      record {
        half = east_side O k;
        below = east_below O k l;
        leaves = C.plane.distinct (origin O (east_side O k)) z (C.plane.starts (east_side O k) (east_below O k l)) lz (ap (λ (x : Pt). same x v) (east-start O C.plane k l) ∙ at k l p.on (before v (high O k)) (before (high O k) v) refl refl r.0 r.1);
        along = subst (λ (u : Vec). SameWay u (opposite (seg m j).up)) (sym (east-heading O C.plane k l))
            (same_way-opposite (upward O k) (seg m j).up (up_nonzero (upward O k) (upward_up O C.plane k l)) (up_nonzero (seg m j).up (upward_up m.graph K.plane j lj)) (up_way k l p.parallel));
      }
    where
      at : (k : ℕ) → k < edge_count O → the_left_by (edge O k).carrier v ≡ pos 0 → (a b : Bool) → before v (high O k) ≡ a → before (high O k) v ≡ b → before (low O k) v ≡ true → not b ≡ true → same (high O k) v ≡ true
      at k l o a true x y u n = absurd (clash n refl)
      at k l o true false x y u n = absurd (C.no_inside z k lz l o u x)
      at k l o false false x y u n = neither (high O k) v y x

  pub left_along : pos 0 <ℤ v.D → (b : Bool) → Leaves v b (span m j) → Out O z (arrow b (seg m j).up)
  left_along h true o = up_out (C.piece_at_lem j lj wj v h true o)
  left_along h false o = down_out (C.piece_at_lem j lj wj v h false o)
