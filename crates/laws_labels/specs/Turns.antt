-- How many half-edges leave the same origin as h at a greater angle: none exactly if h has the greatest angle; and where there are some, the next one
-- counter-clockwise, the twin of h's predecessor, has fewer. Assumes nothing.
use Rattle.std.specs.Prelude.{◌≡◌, Bool, true, ◌&&◌, ℕ, ◌<◌, eqb}
use Rattle.std.proofs.Common.{sym, ◌∙◌, ap, subst, arith, eqb-true, eq-eqb}
use Rattle.seq.specs.Seq.{count, position}
use Rattle.seq.specs.Tests.{clash, not-true, and_both, and_parts}
use Rattle.seq.specs.Count.{count_none, count_below, count-fewer}
use Rattle.seq.specs.Downward.{inner, wrap}
use Rattle.paper.specs.Graph.{Graph, the_half_count, twin, origin, follower, followers}
use Rattle.laws_graph.specs.Halves.{twin-twin, twin_below}
use Rattle.laws_graph.specs.Plane.{Plane}
use Rattle.laws_graph.specs.Follow.{lesser, Clockwise, ranked, follower-origin, follower_clockwise, predecessor_below, follower-predecessor}

-- k leaves where h does, at a greater angle
abbrev greater : Graph → ℕ → ℕ → Bool
greater g h k = eqb (origin g k) (origin g h) && lesser g h k

abbrev pub greater_count : Graph → ℕ → ℕ
greater_count g h = count (greater g h) (the_half_count g)

module _ (g : Graph) (P : Plane g) where
  abbrev N : ℕ
  N = the_half_count g

  is_greater : (h k : ℕ) → origin g k ≡ origin g h → lesser g h k ≡ true → greater g h k ≡ true
  is_greater h k o e = and_both (eq-eqb (origin g k) (origin g h) o) e

  greater_is : (h k : ℕ) → greater g h k ≡ true → (origin g k ≡ origin g h) × (lesser g h k ≡ true)
  greater_is h k e = let r = and_parts (eqb (origin g k) (origin g h)) (lesser g h k) e in (eqb-true (origin g k) (origin g h) r.0, r.1)

  -- where none is counted, none is greater
  pub none_greater : (h : ℕ) → greater_count g h ≡ 0 → (k : ℕ) → k < N → origin g k ≡ origin g h → lesser g h k ≡ true → ⊥
  none_greater h z k l o e = omega (arith, count_below (greater g h) N k l (is_greater h k o e))

  -- those greater than k are greater than h, and k is one more
  fewer : (h k : ℕ) → h < N → k < N → origin g k ≡ origin g h → lesser g h k ≡ true → greater_count g k < greater_count g h
  fewer h k l j o e =
      count-fewer (greater g k) (greater g h) N k
      (λ x i b. let r = greater_is k x b in is_greater h x (r.0 ∙ o) ((ranked g P).trans h k x l j i (sym o) (sym r.0) e r.1))
      j (not-true (greater g k k) (λ b. clash (greater_is k k b).1 ((ranked g P).irr k j))) (is_greater h k o e)

  pub next_turn : (h : ℕ) → h < N → 0 < greater_count g h →
      (k : ℕ) × (k < N) × (origin g k ≡ origin g h) × (greater_count g k < greater_count g h) × (follower g (twin k) ≡ h)
  next_turn h l some = (k, lk, o, by (subst (Clockwise g k) f (follower_clockwise g P a la)), ap (follower g) (twin-twin a) ∙ f)
    where
      a : ℕ
      a = position h (followers g)

      la : a < N
      la = predecessor_below g P h l

      f : follower g a ≡ h
      f = follower-predecessor g P h l

      k : ℕ
      k = twin a

      lk : k < N
      lk = twin_below g a la

      o : origin g k ≡ origin g h
      o = sym (follower-origin g P a) ∙ ap (origin g) f

      by : Clockwise g k h → greater_count g k < greater_count g h
      by (inner e n) = fewer h k l lk o e
      by (wrap n top) = absurd (omega (arith, count_none (greater g h) N (λ x j. not-true (greater g h x) (λ b. let r = greater_is h x b in top x j (r.0 ∙ sym o) r.1))))
