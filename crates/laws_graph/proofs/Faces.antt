-- Of Faces of specs/, what rests on its definitions.
use Rattle.std.specs.Prelude.{◌≡◌, ◌≤◌, ◌<◌}
use Rattle.std.proofs.Common.{sym, ◌∙◌, ap, not-suc-le-zero, arith, eqb-true}
use Rattle.seq.specs.Seq.{Bool, true, false, cond, not, ℕ, zero, suc, eqb, length, get_or, count, select, or_zero}
use Rattle.seq.specs.Tests.{and_parts, was-false}
use Rattle.seq.specs.Count.{count-once}
use Rattle.seq.specs.Select.{length-select, select-nth}
use Rattle.paper.specs.Graph.{Graph, the_half_count, followers, smallest, hole_look}
use Rattle.paper.specs.Faces.{walks_of, lead_at, hole_at, leads_outer}
use Rattle.laws_graph.specs.Plane.{Plane}
use Rattle.laws_graph.specs.Walks.{Along, lead_one}
use Rattle.laws_graph.specs.Holes.{smallest_below}
use Rattle.laws_graph.specs.Rank.{rank_below}
use Rattle.laws_graph.specs.Faces.{depth, Facing, face_of, face-fuel, outer_number, or_zero_same, seen-depth, lead-leads}

module _ (g : Graph) (P : Plane g) where
  -- ── the bound is never used up ──

  depth_below : (h : ℕ) → h < the_half_count g → depth g P h < length g.points
  depth_below h l = rank_below g P (smallest g (followers g) h) (smallest_below g P h l)

  -- faces obey their recursion
  pub face_is : Facing g (face_of g)
  face_is h l = face-fuel g P (length g.points) (suc (length g.points)) h l (depth_below h l) (omega (arith, depth_below h l))

  unique_by : (f f' : ℕ → ℕ) → Facing g f → Facing g f' → (i h : ℕ) → h < the_half_count g → depth g P h < i → f h ≡ f' h
  unique_by f f' F F' zero h l a = absurd (not-suc-le-zero a)
  unique_by f f' F F' (suc i) h l a =
      F h l
      ∙ ap (λ (r : ℕ). cond (hole_at (walks_of g) h) r (outer_number g h))
      (or_zero_same f f' (hole_look g (followers g) h) (λ x e. unique_by f f' F F' i x (seen-depth g P h x l e).0 (omega (arith, (seen-depth g P h x l e).1))))
      ∙ sym (F' h l)

  -- and nothing else does
  pub face-unique : (f : ℕ → ℕ) → Facing g f → (h : ℕ) → h < the_half_count g → f h ≡ face_of g h
  face-unique f F h l = unique_by f (face_of g) F face_is (suc (depth g P h)) h l (omega arith)

  -- ── outer walks ──

  -- "Each outer walk makes one face, numbered from 1 by the walk's least half-edge number"
  pub outer-face : (h : ℕ) → h < the_half_count g → hole_at (walks_of g) h ≡ false → face_of g h ≡ outer_number g h
  outer-face h l o = face_is h l ∙ ap (λ (c : Bool). cond c (or_zero (face_of g) (hole_look g (followers g) h)) (outer_number g h)) o

  -- "The hole belongs to the face of the half-edge seen, or to face 0"
  pub hole-face : (h : ℕ) → h < the_half_count g → hole_at (walks_of g) h ≡ true → face_of g h ≡ or_zero (face_of g) (hole_look g (followers g) h)
  hole-face h l o = face_is h l ∙ ap (λ (c : Bool). cond c (or_zero (face_of g) (hole_look g (followers g) h)) (outer_number g h)) o

  -- two outer half-edges of one face are on one walk
  pub outer_one : (h k : ℕ) → h < the_half_count g → k < the_half_count g → hole_at (walks_of g) h ≡ false → hole_at (walks_of g) k ≡ false → face_of g h ≡ face_of g k → Along g h k
  outer_one h k lh lk oh ok e =
      let q : outer_number g h ≡ outer_number g k = sym (outer-face h lh oh) ∙ e ∙ outer-face k lk ok in
      lead_one g P h k lh lk
      (count-once (leads_outer (walks_of g)) (lead_at (walks_of g) h) (lead_at (walks_of g) k) (lead-leads g P h lh oh) (lead-leads g P k lk ok) (omega arith))

  -- ── every face is that of an outer walk, or 0 ──

  -- and each but 0 is that of the outer walk whose least half-edge stands there
  pub face-onto : (f : ℕ) → f < length (select (leads_outer (walks_of g)) (the_half_count g)) →
      (get_or (select (leads_outer (walks_of g)) (the_half_count g)) f 0 < the_half_count g) × (face_of g (get_or (select (leads_outer (walks_of g)) (the_half_count g)) f 0) ≡ suc f)
  face-onto f l = go (select-nth (leads_outer (walks_of g)) (the_half_count g) f 0 (omega (arith, length-select (leads_outer (walks_of g)) (the_half_count g))))
    where
      h : ℕ
      h = get_or (select (leads_outer (walks_of g)) (the_half_count g)) f 0

      go : (h < the_half_count g) × (leads_outer (walks_of g) h ≡ true) × (count (leads_outer (walks_of g)) h ≡ f) → (h < the_half_count g) × (face_of g h ≡ suc f)
      go (m, o, c) =
          let r = and_parts (eqb (lead_at (walks_of g) h) h) (not (hole_at (walks_of g) h)) o in
          (m, outer-face h m (was-false (hole_at (walks_of g) h) r.1) ∙ ap (λ (x : ℕ). suc (count (leads_outer (walks_of g)) x)) (eqb-true (lead_at (walks_of g) h) h r.0) ∙ ap suc c)
