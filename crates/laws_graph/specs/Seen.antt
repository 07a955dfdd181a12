-- What a hole walk sees. Strictly west of p an edge's lower end is before p; what is seen arrives there; so its walk has a smaller smallest vertex than the
-- hole walk, and following what is seen comes to an end. Assumes nothing.
use Rattle.std.specs.Prelude.{◌≡◌, ◌<◌, ◌<ℤ◌, ◌∷◌, ◌-ℤ◌, ◌*ℤ◌}
use Rattle.std.proofs.Common.{sym, ◌∙◌, ap, subst}
use Rattle.seq.specs.Seq.{true, false, [], some, ℕ, ℤ, pos, negsuc, neg_ℤ}
use Rattle.seq.specs.Tests.{never, and_parts}
use Rattle.exact.specs.Solve.{ring, reify}
use Rattle.exact.specs.Order.{0<-*, 0<-neg}
use Rattle.exact.specs.Mul.{≡-by₂, 0<-by, 0<-cancel, drop-zero}
use Rattle.exact.specs.Sign.{Sign, is_neg, Sg, is_neg_lem, is_zer_lem, is_plus_lem, sg}
use Rattle.paper.specs.Plane.{Pt, Vec, nowhere, dir, cross, before, below}
use Rattle.paper.specs.Graph.{Graph, edge_count, the_half_count, point, edge, twin, origin, start, low, upward, follower, followers, smallest, at_height, left_of, westward, west, hole_look}
use Rattle.laws_plane.specs.Cone.{above, level, UpV}
use Rattle.laws_plane.specs.Points.{up_before, le_before}
use Rattle.laws_plane.specs.Sides.{left_chord}
use Rattle.laws_graph.specs.Plane.{Plane, real_at, ends_real, ends_on}
use Rattle.laws_graph.specs.Follow.{follower-origin}
use Rattle.laws_graph.specs.Walks.{along-step}
use Rattle.laws_graph.specs.Holes.{smallest_first}
use Rattle.laws_graph.specs.East.{east_below, east-end}
use Rattle.laws_graph.specs.West.{Sees, height_is, height-steep, nowhere-westward, west-sees}

-- ── strictly west of p ──

-- where (dx, dy) is level only one of the two products is left
level-turn : (ux uy dx dy c : ℤ) → ux *ℤ dy -ℤ uy *ℤ dx ≡ c → dy ≡ pos 0 → uy *ℤ dx ≡ neg_ℤ c
level-turn ux uy dx dy c e f = ≡-by₂ e (negsuc 0) f ux (ring (ux ∷ uy ∷ dx ∷ dy ∷ c ∷ []) (search reify depth 20) tt)

module _ (g : Graph) (P : Plane g) where
  module _ (p : Pt) (hp : pos 0 <ℤ p.D) (k : ℕ) (l : k < edge_count g) (e : at_height g p k ≡ true) (w : left_of g p k <ℤ pos 0) where
    abbrev way : Vec
    way = dir (low g k) p

    -- p lies to the right, seen from the lower end
    turn : cross (upward g k) way ≡ (low g k).D *ℤ left_of g p k
    turn = left_chord (edge g k).carrier (low g k) p ∙ drop-zero (low g k).D p.D (left_of g p k) (left_of g (low g k) k) (ends_on g P k l).0

    east : way.y ≡ pos 0 → pos 0 <ℤ way.x
    east f =
        0<-cancel (upward g k).y way.x (height-steep g P p hp k l e)
        (0<-by (level-turn (upward g k).x (upward g k).y way.x way.y ((low g k).D *ℤ left_of g p k) turn f ∙ neg_out (low g k).D (left_of g p k))
        (0<-* (ends_real g P k).0 (0<-neg (left_of g p k) w)))
      where
        neg_out : (a b : ℤ) → neg_ℤ (a *ℤ b) ≡ a *ℤ neg_ℤ b
        neg_out a b = ring (a ∷ b ∷ []) (search reify depth 20) tt

    -- the lower end of an edge that at the height of p lies west of p is before p
    pub west_low : before (low g k) p ≡ true
    west_low = up_before (low g k) p (go (sg way.y) (height_is g p k e).0)
      where
        go : {s : Sign} → Sg way.y s → is_neg s ≡ false → UpV way
        go (is_neg_lem h) f = never (sym f)
        go (is_zer_lem h) f = level h (east h)
        go (is_plus_lem h) f = above h

  -- ── what is seen ──

  -- the half-edge seen strictly west of p is one, and its walk has a smallest vertex before p
  pub seen-smaller : (p : Pt) → pos 0 <ℤ p.D → (x : ℕ) → west g p nowhere ≡ some x → (x < the_half_count g) × (before (point g (smallest g (followers g) x)) p ≡ true)
  seen-smaller p hp x e = go (subst (Sees g p nowhere) e (west-sees g P p hp nowhere))
    where
      go : Sees g p nowhere (some x) → (x < the_half_count g) × (before (point g (smallest g (followers g) x)) p ≡ true)
      go (k, t, f) =
          let l : x < the_half_count g = subst (λ (h : ℕ). h < the_half_count g) f (east_below g k t.is.below) in
          let c = and_parts (at_height g p k) (westward g p nowhere k) t.is.has in
          let arrives : start g (follower g x) ≡ low g k = ap (point g) (follower-origin g P x) ∙ ap (λ (h : ℕ). start g (twin h)) (sym f) ∙ east-end g P k t.is.below in
          let near : before (start g (follower g x)) p ≡ true = ap (λ (q : Pt). before q p) arrives ∙ west_low p hp k t.is.below c.0 (nowhere-westward g p k c.1) in (
            l,
            le_before (point g (smallest g (followers g) x)) (start g (follower g x)) p (real_at g P (smallest g (followers g) x)) (real_at g P (origin g (follower g x))) hp
                (smallest_first g P x l (follower g x) (along-step g P x l)) near,
          )

  -- what a hole walk sees starts at a smaller vertex than the hole walk's own smallest
  pub hole-sees-smaller : (h x : ℕ) → h < the_half_count g → hole_look g (followers g) h ≡ some x →
      (x < the_half_count g) × (before (point g (smallest g (followers g) x)) (point g (smallest g (followers g) h)) ≡ true)
  hole-sees-smaller h x l e = seen-smaller (point g (smallest g (followers g) h)) (real_at g P (smallest g (followers g) h)) x e
