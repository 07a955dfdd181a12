-- Two graphs that differ only in their carriers, which lie on one line for each edge (`Alike`): followers, walks, what a look sees, hole walks and faces are the same, as the
-- definitions ask only for signs. So it does not matter which of several input edges carries a piece. Assumes nothing.
use Rattle.std.specs.Prelude.{◌≡◌, refl, ◌<◌, neg_ℤ, ◌&&◌, ◌+◌, ◌*◌, ◌/◌}
use Rattle.std.proofs.Common.{sym, ◌∙◌, ap, arith}
use Rattle.exact.specs.Sign.{sgn, is_plus, pick, neg_s, sgn-negℤ}
use Rattle.seq.specs.Seq.{Bool, true, false, cond, not, List, Option, Option·getD, Option·map, ℕ, zero, suc, eqb, get_or, count, table, best, best_of, among, leader, or_zero}
use Rattle.seq.specs.Table.{table-ext}
use Rattle.seq.specs.BestLoop.{best-ext}
use Rattle.paper.specs.Plane.{Pt, Vec, nowhere, opposite, cross, before, below, lower, upper, less_angle, the_left_by}
use Rattle.paper.specs.Graph.{Graph, edge_count, the_half_count, point_in, point, edge, even, twin, origin, start, low, high, goes_up, upward, heading, sooner, leaves, follower, followers, walk, smallest, greatest_out, hole_walk, at_height, westward, nearer, east_side, west, hole_look}
use Rattle.paper.specs.Faces.{walks_of, lead_at, hole_at, leads_hole, leads_outer, face_in}
use Rattle.laws_graph.specs.Halves.{half_below, twin_below}
use Rattle.laws_overlay.specs.Rays.{Ray, ray-opposite, ray-cross, rays_cross, rays_angle, Carry, carry_left, carry-nearer}

pub record Alike (g g' : Graph) : Type 0 where
  pub points : g'.points ≡ g.points
  pub count : edge_count g' ≡ edge_count g
  pub from : (k : ℕ) → (edge g' k).from ≡ (edge g k).from
  pub to : (k : ℕ) → (edge g' k).to ≡ (edge g k).to
  pub carry : (k : ℕ) → k < edge_count g → Carry (edge g k).carrier (edge g' k).carrier

module _ (g g' : Graph) (A : Alike g g') where
  -- ── places ──

  halves : the_half_count g' ≡ the_half_count g
  halves = ap (λ (n : ℕ). 2 * n) A.count

  point_same : (v : ℕ) → point g' v ≡ point g v
  point_same v = ap (λ (ps : List Pt). point_in ps v) A.points

  pub origin_same : (h : ℕ) → origin g' h ≡ origin g h
  origin_same h = λ i. cond (even h) (A.from (h / 2) i) (A.to (h / 2) i)

  start_same : (h : ℕ) → start g' h ≡ start g h
  start_same h = λ i. point_in (A.points i) (origin_same h i)

  pub low_same : (k : ℕ) → low g' k ≡ low g k
  low_same k = λ i. lower (start_same (2 * k) i) (start_same (2 * k + 1) i)

  high_same : (k : ℕ) → high g' k ≡ high g k
  high_same k = λ i. upper (start_same (2 * k) i) (start_same (2 * k + 1) i)

  goes_up_same : (h : ℕ) → goes_up g' h ≡ goes_up g h
  goes_up_same h = λ i. before (start_same h i) (start_same (twin h) i)

  -- ── followers ──

  heading-ray : (h : ℕ) → h < the_half_count g → Ray (heading g h) (heading g' h)
  heading-ray h l = go (goes_up g h) (goes_up g' h) (goes_up_same h)
    where
      r : Ray (upward g (h / 2)) (upward g' (h / 2))
      r = (A.carry (h / 2) (half_below g h l)).ray

      go : (c d : Bool) → d ≡ c → Ray (cond c (upward g (h / 2)) (opposite (upward g (h / 2)))) (cond d (upward g' (h / 2)) (opposite (upward g' (h / 2))))
      go true true e = r
      go true false e = absurd (let z : ◌≡◌ {A = ℕ} 0 1 = cc in omega arith)
      go false true e = absurd (let z : ◌≡◌ {A = ℕ} 0 1 = cc in omega arith)
      go false false e = ray-opposite (upward g (h / 2)) (upward g' (h / 2)) r

  angle_same : (h r : ℕ) → h < the_half_count g → r < the_half_count g → less_angle (heading g' h) (heading g' r) ≡ less_angle (heading g h) (heading g r)
  angle_same h r lh lr = rays_angle (heading g h) (heading g' h) (heading g r) (heading g' r) (heading-ray h lh) (heading-ray r lr)

  sooner_same : (t h r : ℕ) → t < the_half_count g → h < the_half_count g → r < the_half_count g → sooner g' t h r ≡ sooner g t h r
  sooner_same t h r lt lh lr = λ i. cond (angle_same h t lh lt i) (cond (angle_same r t lr lt i) (angle_same r h lr lh i) true) (cond (angle_same r t lr lt i) false (angle_same r h lr lh i))

  leaves_same : (v h : ℕ) → leaves g' v h ≡ leaves g v h
  leaves_same v h = ap (λ (o : ℕ). eqb o v) (origin_same h)

  pub follower_same : (h : ℕ) → h < the_half_count g → follower g' h ≡ follower g h
  follower_same h l =
      let t = twin h in
      ap (λ (o : Option ℕ). Option·getD o t)
      ((λ i. best (λ x. leaves g' (origin_same t i) x && not (eqb x t)) (sooner g' t) (halves i))
      ∙ best-ext (λ x. leaves g' (origin g t) x && not (eqb x t)) (λ x. leaves g (origin g t) x && not (eqb x t)) (sooner g' t) (sooner g t) (the_half_count g)
      (λ x m. ap (λ (c : Bool). c && not (eqb x t)) (leaves_same (origin g t) x)) (λ x y lx ly. sooner_same t x y (twin_below g h l) lx ly))

  pub followers_same : followers g' ≡ followers g
  followers_same = ap (table (follower g')) halves ∙ table-ext (follower g') (follower g) (the_half_count g) follower_same

  -- ── hole walks ──

  smallest_same : (nx : List ℕ) (h : ℕ) → smallest g' nx h ≡ smallest g nx h
  smallest_same nx h =
      ap (origin g') (λ i. best_of (λ x y. before (start_same x i) (start_same y i)) h (walk nx h)) ∙ origin_same (best_of (λ x y. before (start g x) (start g y)) h (walk nx h))

  greatest_same : (v : ℕ) → greatest_out g' v ≡ greatest_out g v
  greatest_same v =
      ap (best (leaves g' v) (λ h r. less_angle (heading g' r) (heading g' h))) halves
      ∙ best-ext (leaves g' v) (leaves g v) (λ h r. less_angle (heading g' r) (heading g' h)) (λ h r. less_angle (heading g r) (heading g h)) (the_half_count g)
      (λ h l. leaves_same v h) (λ h r lh lr. angle_same r h lr lh)

  pub hole_same : (nx : List ℕ) (h : ℕ) → hole_walk g' nx h ≡ hole_walk g nx h
  hole_same nx h = ap (λ (o : Option ℕ). among o (walk nx h)) (ap (greatest_out g') (smallest_same nx h) ∙ greatest_same (smallest g nx h))

  -- ── looks ──

  height_same : (p : Pt) (k : ℕ) → at_height g' p k ≡ at_height g p k
  height_same p k = λ i. not (below p (low_same k i)) && below p (high_same k i)

  westward_same : (p : Pt) (d : Vec) (k : ℕ) → k < edge_count g → westward g' p d k ≡ westward g p d k
  westward_same p d k l =
      let s = (edge g k).carrier in
      let t = (edge g' k).carrier in
      let c = A.carry k l in
      let turn : sgn (cross d t.up) ≡ sgn (cross d s.up) = ray-cross d s.up t.up c.ray in
      let side : sgn (neg_ℤ (the_left_by t p)) ≡ sgn (neg_ℤ (the_left_by s p)) = sgn-negℤ (the_left_by t p) ∙ ap neg_s (carry_left s t c p) ∙ sym (sgn-negℤ (the_left_by s p)) in
      λ i. is_plus (pick (side i) (turn i))

  nearer_same : (p : Pt) (k r : ℕ) → k < edge_count g → r < edge_count g → nearer g' p k r ≡ nearer g p k r
  nearer_same p k r lk lr =
      let c = A.carry k lk in
      let e = A.carry r lr in
      λ i. is_plus (pick (carry-nearer (edge g k).carrier (edge g r).carrier (edge g' k).carrier (edge g' r).carrier c e p i) (rays_cross (upward g k) (upward g' k) (upward g r) (upward g' r) c.ray e.ray i))

  east_side_same : (k : ℕ) → east_side g' k ≡ east_side g k
  east_side_same k = ap (λ (c : Bool). cond c (2 * k + 1) (2 * k)) (goes_up_same (2 * k))

  pub west_same : (p : Pt) (d : Vec) → west g' p d ≡ west g p d
  west_same p d =
      (λ i. Option·map (λ k. east_side_same k i) (best (λ k. height_same p k i && westward g' p d k) (nearer g' p) (A.count i)))
      ∙ ap (Option·map (east_side g)) (best-ext (λ k. at_height g p k && westward g' p d k) (λ k. at_height g p k && westward g p d k) (nearer g' p) (nearer g p) (edge_count g)
      (λ k l. ap (λ (c : Bool). at_height g p k && c) (westward_same p d k l)) (nearer_same p))

  hole_look_same : (nx : List ℕ) (h : ℕ) → hole_look g' nx h ≡ hole_look g nx h
  hole_look_same nx h = (λ i. west g' (point_in (A.points i) (smallest_same nx h i)) nowhere) ∙ west_same (point g (smallest g nx h)) nowhere

  -- ── walks and faces ──

  pub leads_same : (walks_of g').lead ≡ (walks_of g).lead
  leads_same = λ i. table (λ h. leader (followers_same i) h) (halves i)

  pub holes_same : (walks_of g').hole ≡ (walks_of g).hole
  holes_same = (λ i. table (hole_walk g' (followers_same i)) (halves i)) ∙ table-ext (hole_walk g' (followers g)) (hole_walk g (followers g)) (the_half_count g) (λ h l. hole_same (followers g) h)

  lead_at_lem : (h : ℕ) → lead_at (walks_of g') h ≡ lead_at (walks_of g) h
  lead_at_lem h = ap (λ (l : List ℕ). get_or l h 0) leads_same

  hole_at_lem : (h : ℕ) → hole_at (walks_of g') h ≡ hole_at (walks_of g) h
  hole_at_lem h = ap (λ (l : List Bool). get_or l h false) holes_same

  pub leads_outer_same : (h : ℕ) → leads_outer (walks_of g') h ≡ leads_outer (walks_of g) h
  leads_outer_same h = λ i. eqb (lead_at_lem h i) h && not (hole_at_lem h i)

  pub leads_hole_same : (h : ℕ) → leads_hole (walks_of g') h ≡ leads_hole (walks_of g) h
  leads_hole_same h = λ i. eqb (lead_at_lem h i) h && hole_at_lem h i

  pub face_same : (n h : ℕ) → face_in (walks_of g') n h ≡ face_in (walks_of g) n h
  face_same zero h = refl
  face_same (suc n) h =
      (λ i. cond (hole_at_lem h i) (or_zero (λ x. face_same n x i) (hole_look g' (followers_same i) h)) (suc (count (λ k. leads_outer_same k i) (lead_at_lem h i))))
      ∙ ap (λ (o : Option ℕ). cond (hole_at (walks_of g) h) (or_zero (face_in (walks_of g) n) o) (suc (count (leads_outer (walks_of g)) (lead_at (walks_of g) h)))) (hole_look_same (followers g) h)
