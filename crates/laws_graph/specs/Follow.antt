-- Followers of a plane graph: a follower leaves from where its half-edge arrives, no two half-edges have the same follower, and no outgoing half-edge
-- lies between a half-edge's twin and its follower, clockwise. So the followers are a permutation of the half-edges, and the predecessor is its inverse
-- both ways. Then the half-edge of greatest angle out of a vertex. Assumes nothing.
use Rattle.std.specs.Prelude.{◌≡◌, ◌<◌}
use Rattle.std.proofs.Common.{sym, ◌∙◌, ap, subst, arith, eqb-true}
use Rattle.seq.specs.Seq.{Bool, ℕ, length, get_or, position}
use Rattle.seq.specs.Terms.{Has, BestIs, Ranked, Injects, step}
use Rattle.seq.specs.Tests.{not-false}
use Rattle.seq.specs.Best.{best_is}
use Rattle.seq.specs.Table.{length-table, table_at}
use Rattle.seq.specs.Cyclic.{prev-group, prev_below, prev-inj}
use Rattle.seq.proofs.Perm.{onto}
use Rattle.seq.proofs.Position.{position_is}
use Rattle.seq.specs.Downward.{Downward, previous_downward}
use Rattle.paper.specs.Plane.{less_angle}
use Rattle.paper.specs.Graph.{Graph, the_half_count, twin, origin, heading, follower, followers, leaves, greatest_out}
use Rattle.laws_plane.specs.Angles.{angle_irr, neither_less}
use Rattle.laws_plane.proofs.Angles.{angle_trans}
use Rattle.laws_graph.specs.Halves.{twin-once, twin_below}
use Rattle.laws_graph.specs.Plane.{Plane, heading-moves}

-- the angle of h is less than that of r
abbrev pub lesser : Graph → ℕ → ℕ → Bool
lesser g h r = less_angle (heading g h) (heading g r)

-- going clockwise from t, r is the first half-edge out of t's origin
abbrev pub Clockwise : Graph → ℕ → ℕ → Type 0
Clockwise g t r = Downward (origin g) (lesser g) (the_half_count g) t r

module _ (g : Graph) (P : Plane g) where
  -- the half-edges out of one vertex are in a strict total order by angle
  pub ranked : Ranked (origin g) (lesser g) (the_half_count g)
  ranked = record {
    irr = λ x l. angle_irr (heading g x);
    trans = λ x y z lx ly lz d e. angle_trans (heading g x) (heading g y) (heading g z) (heading-moves g P x lx) (heading-moves g P y ly) (heading-moves g P z lz);
    total = λ x y lx ly e d p. not-false (lesser g y x) (λ q. d (P.apart x y lx ly e (neither_less (heading g x) (heading g y) p q)));
  }

  -- ── followers ──

  -- it leaves from where h arrives
  pub follower-origin : (h : ℕ) → origin g (follower g h) ≡ origin g (twin h)
  follower-origin h = prev-group (origin g) (lesser g) (the_half_count g) ranked (twin h)

  pub follower_below : (h : ℕ) → h < the_half_count g → follower g h < the_half_count g
  follower_below h l = prev_below (origin g) (lesser g) (the_half_count g) ranked (twin h) (twin_below g h l)

  pub follower-once : (h k : ℕ) → h < the_half_count g → k < the_half_count g → follower g h ≡ follower g k → h ≡ k
  follower-once h k l m e = twin-once h k (prev-inj (origin g) (lesser g) (the_half_count g) ranked (twin h) (twin k) (twin_below g h l) (twin_below g k m) e)

  -- no outgoing half-edge lies between, clockwise
  pub follower_clockwise : (h : ℕ) → h < the_half_count g → Clockwise g (twin h) (follower g h)
  follower_clockwise h l = previous_downward (origin g) (lesser g) (the_half_count g) ranked (twin h) (twin_below g h l)

  -- ── the list of followers ──

  pub followers-length : length (followers g) ≡ the_half_count g
  followers-length = length-table (follower g) (the_half_count g)

  pub followers_at : (h : ℕ) → h < the_half_count g → get_or (followers g) h 0 ≡ follower g h
  followers_at h l = table_at (follower g) (the_half_count g) h 0 l

  pub to_list : {h : ℕ} → h < the_half_count g → h < length (followers g)
  to_list {h} l = subst (λ (n : ℕ). h < n) (sym followers-length) l

  pub of_list : {h : ℕ} → h < length (followers g) → h < the_half_count g
  of_list {h} l = subst (λ (n : ℕ). h < n) followers-length l

  -- the followers are a permutation of the half-edges: none is followed twice
  pub followers_inject : Injects (step (followers g)) (length (followers g))
  followers_inject = record {
    into = λ x l. to_list (subst (λ (y : ℕ). y < the_half_count g) (sym (followers_at x (of_list l))) (follower_below x (of_list l)));
    once = λ x y l m e. follower-once x y (of_list l) (of_list m) (sym (followers_at x (of_list l)) ∙ e ∙ followers_at y (of_list m));
  }

  -- and each is followed
  pub follower-onto : (h : ℕ) → h < the_half_count g → (k : ℕ) × (k < the_half_count g) × (follower g k ≡ h)
  follower-onto h l =
      let r = onto (step (followers g)) (length (followers g)) followers_inject h (to_list l) in
      let m : r.0 < the_half_count g = of_list r.1 in
      (r.0, m, sym (followers_at r.0 m) ∙ r.2)

  -- ── the predecessor: where h stands in the list of followers ──

  pub predecessor-follower : (h : ℕ) → h < the_half_count g → position (follower g h) (followers g) ≡ h
  predecessor-follower h l =
      position_is (follower g h) (followers g) h (to_list l) (followers_at h l)
      (λ j m e. omega (arith, follower-once j h (omega arith) l (sym (followers_at j (omega arith)) ∙ e)))

  pub follower-predecessor : (h : ℕ) → h < the_half_count g → follower g (position h (followers g)) ≡ h
  follower-predecessor h l =
      let r = follower-onto h l in
      let e : position h (followers g) ≡ r.0 = ap (λ (x : ℕ). position x (followers g)) (sym r.2) ∙ predecessor-follower r.0 r.1 in
      ap (follower g) e ∙ r.2

  pub predecessor_below : (h : ℕ) → h < the_half_count g → position h (followers g) < the_half_count g
  predecessor_below h l =
      let r = follower-onto h l in
      let e : position h (followers g) ≡ r.0 = ap (λ (x : ℕ). position x (followers g)) (sym r.2) ∙ predecessor-follower r.0 r.1 in
      subst (λ (x : ℕ). x < the_half_count g) (sym e) r.1

  -- ── the half-edge of greatest angle out of a vertex ──

  module _ (v : ℕ) where
    out_is_lem : {h : ℕ} → Has (leaves g v) (the_half_count g) h → origin g h ≡ v
    out_is_lem {h} o = eqb-true (origin g h) v o.has

    -- it has a greater angle than every other; and there is none only where none leaves v
    pub greatest_is : BestIs (leaves g v) (λ h r. lesser g r h) (the_half_count g) (greatest_out g v)
    greatest_is = best_is (leaves g v) (λ h r. lesser g r h) (the_half_count g) (record {
      trans = λ x y z hx hy hz p q. ranked.trans z y x hz.below hy.below hx.below (out_is_lem hz ∙ sym (out_is_lem hy)) (out_is_lem hy ∙ sym (out_is_lem hx)) q p;
      total = λ x y hx hy d p. ranked.total y x hy.below hx.below (out_is_lem hy ∙ sym (out_is_lem hx)) (λ e. d (sym e)) p;
    })
