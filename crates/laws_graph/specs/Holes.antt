-- The smallest vertex and the kind of a walk of a plane graph: both are the same all along it. In order: the smallest vertex is where a half-edge of the
-- walk starts, and none of it starts at a smaller; hole walk or outer walk; and in a hole walk exactly one half-edge makes it one: that of greatest angle
-- out of the smallest vertex. Assumes nothing.
use Rattle.std.specs.Prelude.{◌≡◌, refl, ◌<◌, ◌∷◌}
use Rattle.std.proofs.Common.{sym, ◌∙◌, ap, subst, inl, inr}
use Rattle.seq.specs.Seq.{Bool, true, false, List, [], Option, some, ℕ, length, best_of, among}
use Rattle.seq.specs.Terms.{Among, Best, BestIs}
use Rattle.seq.specs.Tests.{bool-ext}
use Rattle.seq.specs.Members.{among_one, in_every}
use Rattle.seq.specs.BestOf.{best_of_in, best_of-top}
use Rattle.seq.specs.Position.{among-elem, among_some}
use Rattle.paper.specs.Plane.{before}
use Rattle.paper.specs.Graph.{Graph, the_half_count, point, origin, start, follower, followers, walk, smallest, leaves, greatest_out, hole_walk, makes_hole}
use Rattle.paper.specs.Faces.{walks_of, hole_at}
use Rattle.laws_plane.specs.Points.{before_irr, before_trans, neither}
use Rattle.laws_graph.specs.Plane.{Plane, real_at}
use Rattle.laws_graph.specs.Follow.{lesser, greatest_is}
use Rattle.laws_graph.specs.Walks.{Along, along-step, along-trans, along_below, along_sym, along-walk, walk-along, hole_is}

-- x starts at a smaller vertex than y
abbrev earlier : Graph → ℕ → ℕ → Bool
earlier g x y = before (start g x) (start g y)

some_among : (x : ℕ) (o : Option ℕ) (ys : List ℕ) → o ≡ some x → Among x ys → among o ys ≡ true
some_among x o ys e i = subst (λ (p : Option ℕ). among p ys ≡ true) (sym e) (among-elem x ys i)

module _ (g : Graph) (P : Plane g) where
  -- ── the smallest vertex ──

  module _ (h : ℕ) (l : h < the_half_count g) where
    abbrev first : ℕ
    first = best_of (earlier g) h (walk (followers g) h)

    first_along : Along g h first
    first_along = go (best_of_in (earlier g) h (walk (followers g) h))
      where
        go : Among first (h ∷ walk (followers g) h) → Along g h first
        go (inl e) = (0, sym e)
        go (inr i) = walk-along g P h l first i

    -- a half-edge of the walk starts there
    pub smallest-start : (k : ℕ) × Along g h k × (origin g k ≡ smallest g (followers g) h)
    smallest-start = (first, first_along, refl)

    -- and none of it at a smaller vertex
    pub smallest_first : (k : ℕ) → Along g h k → before (start g k) (point g (smallest g (followers g) h)) ≡ false
    smallest_first k a =
        best_of-top (earlier g) (λ x. Unit {0}) (λ x u. before_irr (start g x))
        (λ x y z u v w. before_trans (start g x) (start g y) (start g z) (real_at g P (origin g x)) (real_at g P (origin g y)) (real_at g P (origin g z)))
        h (walk (followers g) h) tt (in_every (λ x. Unit {0}) (walk (followers g) h) (λ x j. tt)) k (inr (along-walk g P h l k a))

    pub smallest_below : smallest g (followers g) h < length g.points
    smallest_below = P.starts first (along_below g P l first_along)

    -- what has both is the smallest vertex
    pub smallest_is : (k : ℕ) → Along g h k → ((j : ℕ) → Along g h j → before (start g j) (start g k) ≡ false) → smallest g (followers g) h ≡ origin g k
    smallest_is k a least =
        P.distinct (smallest g (followers g) h) (origin g k) smallest_below (P.starts k (along_below g P l a))
        (neither (point g (smallest g (followers g) h)) (start g k) (least first first_along) (smallest_first k a))

  -- it is the same all along
  pub smallest_same : (h k : ℕ) → h < the_half_count g → Along g h k → smallest g (followers g) k ≡ smallest g (followers g) h
  smallest_same h k l a =
      let s = smallest-start h l in
      let m = along_below g P l a in
      smallest_is k m s.0 (along-trans g P (along_sym g P l a) s.1)
      (λ j b. subst (λ (v : ℕ). before (start g j) (point g v) ≡ false) (sym s.2) (smallest_first h l j (along-trans g P a b)))
      ∙ s.2

  pub smallest-step : (h : ℕ) → h < the_half_count g → smallest g (followers g) (follower g h) ≡ smallest g (followers g) h
  smallest-step h l = smallest_same h (follower g h) l (along-step g P h l)

  -- ── hole walk or outer walk ──

  among_same : (h k : ℕ) → h < the_half_count g → Along g h k → (o : Option ℕ) → among o (walk (followers g) k) ≡ true → among o (walk (followers g) h) ≡ true
  among_same h k l a o e =
      let r = among_some o (walk (followers g) k) e in
      some_among r.0 o (walk (followers g) h) r.1 (along-walk g P h l r.0 (along-trans g P a (walk-along g P k (along_below g P l a) r.0 r.2)))

  -- the kind is the same all along
  pub hole_same : (h k : ℕ) → h < the_half_count g → Along g h k → hole_walk g (followers g) k ≡ hole_walk g (followers g) h
  hole_same h k l a =
      let o = greatest_out g (smallest g (followers g) h) in
      ap (λ (v : ℕ). among (greatest_out g v) (walk (followers g) k)) (smallest_same h k l a)
      ∙ bool-ext (among o (walk (followers g) k)) (among o (walk (followers g) h)) (among_same h k l a o) (among_same k h (along_below g P l a) (along_sym g P l a) o)

  pub hole-step : (h : ℕ) → h < the_half_count g → hole_walk g (followers g) (follower g h) ≡ hole_walk g (followers g) h
  hole-step h l = hole_same h (follower g h) l (along-step g P h l)

  pub hole_at_same : (h k : ℕ) → h < the_half_count g → Along g h k → hole_at (walks_of g) k ≡ hole_at (walks_of g) h
  hole_at_same h k l a = hole_is g P k (along_below g P l a) ∙ hole_same h k l a ∙ sym (hole_is g P h l)

  -- ── what makes a walk a hole walk ──

  pub makes-greatest : (h : ℕ) → makes_hole g (followers g) h ≡ true → greatest_out g (smallest g (followers g) h) ≡ some h
  makes-greatest h e =
      let r = among_some (greatest_out g (smallest g (followers g) h)) (h ∷ []) e in
      r.1 ∙ ap some (among_one r.0 h r.2)

  pub greatest-makes : (h : ℕ) → greatest_out g (smallest g (followers g) h) ≡ some h → makes_hole g (followers g) h ≡ true
  greatest-makes h e = some_among h (greatest_out g (smallest g (followers g) h)) (h ∷ []) e (inl refl)

  -- it leaves the smallest vertex with the greatest angle of all that do
  pub makes-best : (h : ℕ) → makes_hole g (followers g) h ≡ true → Best (leaves g (smallest g (followers g) h)) (λ k r. lesser g r k) (the_half_count g) h
  makes-best h e =
      subst (λ (o : Option ℕ). BestIs (leaves g (smallest g (followers g) h)) (λ k r. lesser g r k) (the_half_count g) o) (makes-greatest h e)
      (greatest_is g P (smallest g (followers g) h))

  -- the walk that it is on is a hole walk
  pub makes-hole : (h : ℕ) → h < the_half_count g → makes_hole g (followers g) h ≡ true → hole_walk g (followers g) h ≡ true
  makes-hole h l e = some_among h (greatest_out g (smallest g (followers g) h)) (walk (followers g) h) (makes-greatest h e) (inl refl)

  -- and on a hole walk there is exactly one
  pub hole-makes : (h : ℕ) → h < the_half_count g → hole_walk g (followers g) h ≡ true →
      (x : ℕ) × Along g h x × (makes_hole g (followers g) x ≡ true) × ((y : ℕ) → Along g h y → makes_hole g (followers g) y ≡ true → y ≡ x)
  hole-makes h l e =
      let v = smallest g (followers g) h in
      let r = among_some (greatest_out g v) (walk (followers g) h) e in
      let x = r.0 in
      let a = walk-along g P h l x r.2 in (
        x,
        a,
        greatest-makes x (ap (greatest_out g) (smallest_same h x l a) ∙ r.1),
        λ y b f. once x y r.1 (ap (greatest_out g) (sym (smallest_same h y l b)) ∙ makes-greatest y f),
      )
    where
      once : (x y : ℕ) → greatest_out g (smallest g (followers g) h) ≡ some x → greatest_out g (smallest g (followers g) h) ≡ some y → y ≡ x
      once x y p q = cc
