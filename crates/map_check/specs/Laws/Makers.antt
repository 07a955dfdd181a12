-- The half-edge that makes its walk a hole walk, by the tests that the code makes: in a plane graph it is the one that has the greatest angle out of its origin and
-- on whose walk no half-edge starts at a smaller vertex. Assumes nothing.
use Rattle.std.specs.Prelude.{◌≡◌, refl, ◌<◌, ◌&&◌, ◌∷◌}
use Rattle.std.proofs.Common.{sym, ◌∙◌, ap, subst, inl, inr, eqb-true, eq-eqb}
use Rattle.std.proofs.Math.Decide.{ℕ_discrete}
use Rattle.seq.specs.Seq.{Bool, true, false, not, List, [], Option, none, some, Option·getD, ℕ, eqb, length, get_or, the_some_below, walk_from}
use Rattle.seq.specs.Terms.{Among, Has, BestIs}
use Rattle.seq.specs.Tests.{bool-ext, clash, not-true, and_both, and_parts, was-false}
use Rattle.seq.proofs.Least.{no_some, no_some_is}
use Rattle.seq.specs.Cyclic.{asym}
use Rattle.paper.specs.Limits.{absent}
use Rattle.paper.specs.Plane.{before, less_angle}
use Rattle.paper.specs.Graph.{Graph, the_half_count, point, origin, start, heading, followers, walk, smallest, leaves, greatest_out, makes_hole}
use Rattle.laws_plane.specs.Points.{before_irr}
use Rattle.laws_graph.specs.Plane.{Plane}
use Rattle.laws_graph.specs.Follow.{lesser, ranked, greatest_is}
use Rattle.laws_graph.specs.Walks.{along-walk, walk-along}
use Rattle.laws_graph.specs.Holes.{smallest_is, smallest_first, makes-best, greatest-makes}
use Rattle.map_check.specs.Labels.{the_none_of}

-- ── no element has p ──

pub none_of : (p : ℕ → Bool) (xs : List ℕ) → ((x : ℕ) → Among x xs → p x ≡ false) → the_none_of p xs ≡ true
none_of p [] f = refl
none_of p (x ∷ xs) f = and_both (ap not (f x (inl refl))) (none_of p xs (λ y a. f y (inr a)))

pub none_of_is : (p : ℕ → Bool) (xs : List ℕ) → the_none_of p xs ≡ true → (x : ℕ) → Among x xs → p x ≡ false
none_of_is p [] e x a = absurd a
none_of_is p (y ∷ ys) e x (inl q) = ap p q ∙ was-false (p y) (and_parts (not (p y)) (the_none_of p ys) e).0
none_of_is p (y ∷ ys) e x (inr a) = none_of_is p ys (and_parts (not (p y)) (the_none_of p ys) e).1 x a

pub none_of_ext : (p q : ℕ → Bool) (xs : List ℕ) → ((x : ℕ) → Among x xs → p x ≡ q x) → the_none_of p xs ≡ the_none_of q xs
none_of_ext p q [] f = refl
none_of_ext p q (x ∷ xs) f = λ i. not (f x (inl refl) i) && none_of_ext p q xs (λ y a. f y (inr a)) i

-- ── what makes a walk a hole walk ──

-- x leaves from where h does, with a greater angle; x starts at a smaller vertex
abbrev pub greater : Graph → ℕ → ℕ → Bool
greater g h x = eqb (origin g x) (origin g h) && less_angle (heading g h) (heading g x)

abbrev pub earlier : Graph → ℕ → ℕ → Bool
earlier g h x = before (start g x) (start g h)

-- what follows h on its walk
abbrev pub after : Graph → ℕ → List ℕ
after g h = walk_from (followers g) h (length (followers g)) (get_or (followers g) h 0)

abbrev pub maker : Graph → ℕ → Bool
maker g h = not (the_some_below (greater g h) (the_half_count g)) && the_none_of (earlier g h) (after g h)

module _ (g : Graph) (P : Plane g) (h : ℕ) (l : h < the_half_count g) where
  leaves-own : Has (leaves g (origin g h)) (the_half_count g) h
  leaves-own = record { below = l; has = eq-eqb (origin g h) (origin g h) refl }

  -- where the tests hold, the origin is the walk's smallest vertex, and h the half-edge of greatest angle out of it
  smallest-own : the_none_of (earlier g h) (after g h) ≡ true → smallest g (followers g) h ≡ origin g h
  smallest-own e = smallest_is g P h l h (0, refl) (λ j a. by j (along-walk g P h l j a))
    where
      by : (j : ℕ) → Among j (walk (followers g) h) → before (start g j) (start g h) ≡ false
      by j (inl q) = subst (λ (x : ℕ). before (start g x) (start g h) ≡ false) (sym q) (before_irr (start g h))
      by j (inr a) = none_of_is (earlier g h) (after g h) e j a

  greatest-own : the_some_below (greater g h) (the_half_count g) ≡ false → (o : Option ℕ) → BestIs (leaves g (origin g h)) (λ k r. lesser g r k) (the_half_count g) o → o ≡ some h
  greatest-own e none B = absurd (B h leaves-own)
  greatest-own e (some s) B =
      elim (ℕ_discrete h s) [
        | yes q ↦ ap some (sym q)
        | no q ↦ absurd (clash (and_both B.is.has (B.beats h leaves-own q)) (no_some_is (greater g h) (the_half_count g) e s B.is.below))
      ]

  -- so the one of greatest angle out of the origin of h is h exactly if none out of it has a greater one
  top_none : (o : Option ℕ) → BestIs (leaves g (origin g h)) (λ k r. lesser g r k) (the_half_count g) o → eqb (Option·getD o absent) h ≡ true → the_some_below (greater g h) (the_half_count g) ≡ false
  top_none none B e = absurd (B h leaves-own)
  top_none (some s) B e =
      no_some (greater g h) (the_half_count g)
      (λ k b. not-true (greater g h k) (λ t. beats k b (and_parts (eqb (origin g k) (origin g h)) (lesser g h k) t)))
    where
      own : s ≡ h
      own = eqb-true s h e

      beats : (k : ℕ) → k < the_half_count g → (eqb (origin g k) (origin g h) ≡ true) × (lesser g h k ≡ true) → ⊥
      beats k b t =
          elim (ℕ_discrete k h) [
            | yes q ↦ clash t.1 (subst (λ (x : ℕ). lesser g h x ≡ false) (sym q) ((ranked g P).irr h l))
            | no q ↦ asym (origin g) (lesser g) (the_half_count g) (ranked g P) h k l b (sym (eqb-true (origin g k) (origin g h) t.0)) t.1
                (subst (λ (x : ℕ). lesser g k x ≡ true) own (B.beats k (record { below = b; has = t.0 }) (λ z. q (z ∙ own))))
          ]

  pub top_is : eqb (Option·getD (greatest_out g (origin g h)) absent) h ≡ not (the_some_below (greater g h) (the_half_count g))
  top_is =
      bool-ext (eqb (Option·getD (greatest_out g (origin g h)) absent) h) (not (the_some_below (greater g h) (the_half_count g)))
      (λ e. ap not (top_none (greatest_out g (origin g h)) (greatest_is g P (origin g h)) e))
      (λ e. ap (λ (o : Option ℕ). eqb (Option·getD o absent) h) (greatest-own (was-false (the_some_below (greater g h) (the_half_count g)) e) (greatest_out g (origin g h)) (greatest_is g P (origin g h)))
      ∙ eq-eqb h h refl)

  maker-makes : maker g h ≡ true → makes_hole g (followers g) h ≡ true
  maker-makes e =
      let r = and_parts (not (the_some_below (greater g h) (the_half_count g))) (the_none_of (earlier g h) (after g h)) e in
      let o = greatest-own (was-false (the_some_below (greater g h) (the_half_count g)) r.0) (greatest_out g (origin g h)) (greatest_is g P (origin g h)) in
      greatest-makes g P h (ap (greatest_out g) (smallest-own r.1) ∙ o)

  -- the half-edge that makes its walk a hole walk leaves from its smallest vertex
  pub makes-smallest : makes_hole g (followers g) h ≡ true → smallest g (followers g) h ≡ origin g h
  makes-smallest e = sym (eqb-true (origin g h) (smallest g (followers g) h) (makes-best g P h e).is.has)

  makes-maker : makes_hole g (followers g) h ≡ true → maker g h ≡ true
  makes-maker e =
      and_both (ap not (no_some (greater g h) (the_half_count g) (λ k b. not-true (greater g h k) (λ t. beaten k b (and_parts (eqb (origin g k) (origin g h)) (lesser g h k) t)))))
      (none_of (earlier g h) (after g h)
      (λ x a. subst (λ (v : ℕ). before (start g x) (point g v) ≡ false) (makes-smallest e) (smallest_first g P h l x (walk-along g P h l x (inr a)))))
    where
      beaten : (k : ℕ) → k < the_half_count g → (eqb (origin g k) (origin g h) ≡ true) × (lesser g h k ≡ true) → ⊥
      beaten k b t =
          let o = eqb-true (origin g k) (origin g h) t.0 in
          elim (ℕ_discrete k h) [
            | yes q ↦ clash t.1 (subst (λ (x : ℕ). lesser g h x ≡ false) (sym q) ((ranked g P).irr h l))
            | no q ↦ asym (origin g) (lesser g) (the_half_count g) (ranked g P) h k l b (sym o) t.1
                ((makes-best g P h e).beats k (record { below = b; has = eq-eqb (origin g k) (smallest g (followers g) h) (o ∙ sym (makes-smallest e)) }) q)
          ]

  pub maker_is : maker g h ≡ makes_hole g (followers g) h
  maker_is = bool-ext (maker g h) (makes_hole g (followers g) h) maker-makes makes-maker
