-- Walks of a plane graph. In order: what following comes to (`Along`), which goes both ways; a walk closes, holds what following comes to and nothing
-- twice; its least half-edge (`lead_at`) is the same all along it, and different on different walks. So each half-edge is in exactly one closed walk
-- (`one_walk`). Assumes nothing.
use Rattle.std.specs.Prelude.{◌≡◌, refl, ◌≤◌, ◌<◌, ◌+◌, ◌-◌}
use Rattle.std.proofs.Common.{sym, ◌∙◌, ap, subst, arith}
use Rattle.std.proofs.Math.Decide.{dec_lt}
use Rattle.seq.specs.Seq.{false, ℕ, zero, suc, length, leader}
use Rattle.seq.specs.Terms.{Among, iter, orbit, Reach, step, turns}
use Rattle.seq.specs.Table.{table_at}
use Rattle.seq.specs.Perm.{iter-+, reach-trans, iter-into, iter-once}
use Rattle.seq.proofs.Perm.{comes_back, not_before, reach_sym}
use Rattle.seq.proofs.Walks.{walk_is, on_walk, walk_on, leader-reach, leader-le, leader-step}
use Rattle.paper.specs.Graph.{Graph, the_half_count, follower, followers, walk, hole_walk}
use Rattle.paper.specs.Faces.{walks_of, lead_at, hole_at}
use Rattle.laws_graph.specs.Plane.{Plane}
use Rattle.laws_graph.specs.Follow.{followers_at, followers_inject, follower_below, to_list, of_list}

-- following from h comes to k
abbrev pub Along : Graph → ℕ → ℕ → Type 0
Along g h k = Reach (step (followers g)) h k

module _ (g : Graph) (P : Plane g) where
  -- ── along ──

  pub along-step : (h : ℕ) → h < the_half_count g → Along g h (follower g h)
  along-step h l = (1, followers_at g P h l)

  pub along-trans : {h k j : ℕ} → Along g h k → Along g k j → Along g h j
  along-trans a b = reach-trans (step (followers g)) a b

  pub along_below : {h k : ℕ} → h < the_half_count g → Along g h k → k < the_half_count g
  along_below {h} {k} l a =
      subst (λ (x : ℕ). x < the_half_count g) a.1 (of_list g P (iter-into (step (followers g)) (length (followers g)) (followers_inject g P) a.0 h (to_list g P l)))

  -- and comes back
  pub along_sym : {h k : ℕ} → h < the_half_count g → Along g h k → Along g k h
  along_sym {h} {k} l a =
      subst (λ (x : ℕ). Along g x h) a.1 (reach_sym (step (followers g)) (length (followers g)) (followers_inject g P) a.0 h (to_list g P l))

  -- what is the same at the follower is the same all along
  pub along_same : {A : Type 0} (f : ℕ → A) → ((h : ℕ) → h < the_half_count g → f (follower g h) ≡ f h) → {h k : ℕ} → h < the_half_count g → Along g h k → f k ≡ f h
  along_same f s {h} {k} l a = ap f (sym a.1) ∙ go a.0
    where
      go : (j : ℕ) → f (iter (step (followers g)) j h) ≡ f h
      go zero = refl
      go (suc j) =
          let m = along_below l (j, refl) in
          ap f (followers_at g P (iter (step (followers g)) j h) m) ∙ s (iter (step (followers g)) j h) m ∙ go j

  -- ── walks ──

  module _ (h : ℕ) (l : h < the_half_count g) where
    -- a walk closes: it is h and its followers up to the one whose follower is h
    pub walk-closes : (walk (followers g) h ≡ orbit (step (followers g)) (suc (turns (followers g) h)) h) × (follower g (iter (step (followers g)) (turns (followers g) h) h) ≡ h)
    walk-closes = (
      walk_is (followers g) (followers_inject g P) h (to_list g P l),
      sym (followers_at g P (iter (step (followers g)) (turns (followers g) h) h) (along_below l (turns (followers g) h, refl)))
          ∙ comes_back (step (followers g)) (length (followers g)) (followers_inject g P) h (to_list g P l),
    )

    pub along-walk : (k : ℕ) → Along g h k → Among k (walk (followers g) h)
    along-walk = on_walk (followers g) (followers_inject g P) h (to_list g P l)

    pub walk-along : (k : ℕ) → Among k (walk (followers g) h) → Along g h k
    walk-along = walk_on (followers g) (followers_inject g P) h (to_list g P l)

    returns : (i j : ℕ) → i < j → j < suc (turns (followers g) h) → iter (step (followers g)) i h ≡ iter (step (followers g)) j h → ⊥
    returns i j q m e =
        let f = step (followers g) in
        let n = length (followers g) in
        let I = followers_inject g P in
        let s : j ≡ i + suc (j - suc i) = omega arith in
        not_before f n I h (to_list g P l) (j - suc i) (omega arith)
        (sym (iter-once f n I i h (iter f (suc (j - suc i)) h) (to_list g P l) (iter-into f n I (suc (j - suc i)) h (to_list g P l))
        (e ∙ ap (λ (k : ℕ). iter f k h) s ∙ iter-+ f i (suc (j - suc i)) h)))

    -- and holds no half-edge twice
    pub walk-once : (i j : ℕ) → i < suc (turns (followers g) h) → j < suc (turns (followers g) h) → iter (step (followers g)) i h ≡ iter (step (followers g)) j h → i ≡ j
    walk-once i j p q e =
        elim (dec_lt i j) [
          | yes s ↦ absurd (returns i j s q e)
          | no s ↦ elim (dec_lt j i) [ yes t ↦ absurd (returns j i t p (sym e)) | no t ↦ omega arith ]
        ]

  -- ── the least half-edge of a walk ──

  pub lead_is : (h : ℕ) → h < the_half_count g → lead_at (walks_of g) h ≡ leader (followers g) h
  lead_is h l = table_at (leader (followers g)) (the_half_count g) h 0 l

  -- it is on the walk
  pub lead-along : (h : ℕ) → h < the_half_count g → Along g h (lead_at (walks_of g) h)
  lead-along h l = subst (λ (x : ℕ). Along g h x) (sym (lead_is h l)) (leader-reach (followers g) (followers_inject g P) h (to_list g P l))

  pub lead_below : (h : ℕ) → h < the_half_count g → lead_at (walks_of g) h < the_half_count g
  lead_below h l = along_below l (lead-along h l)

  -- none on the walk is less
  pub lead-least : (h k : ℕ) → h < the_half_count g → Along g h k → lead_at (walks_of g) h ≤ k
  lead-least h k l a = subst (λ (x : ℕ). x ≤ k) (sym (lead_is h l)) (leader-le (followers g) (followers_inject g P) h (to_list g P l) k a)

  -- it is the same all along
  pub lead-step : (h : ℕ) → h < the_half_count g → lead_at (walks_of g) (follower g h) ≡ lead_at (walks_of g) h
  lead-step h l =
      lead_is (follower g h) (follower_below g P h l) ∙ ap (leader (followers g)) (sym (followers_at g P h l))
      ∙ leader-step (followers g) (followers_inject g P) h (to_list g P l) ∙ sym (lead_is h l)

  pub lead_same : (h k : ℕ) → h < the_half_count g → Along g h k → lead_at (walks_of g) k ≡ lead_at (walks_of g) h
  lead_same h k l a = along_same (lead_at (walks_of g)) lead-step l a

  -- a walk's least half-edge is its own
  pub lead-lead : (h : ℕ) → h < the_half_count g → lead_at (walks_of g) (lead_at (walks_of g) h) ≡ lead_at (walks_of g) h
  lead-lead h l = lead_same h (lead_at (walks_of g) h) l (lead-along h l)

  -- and two with the same least half-edge are on one walk
  pub lead_one : (h k : ℕ) → h < the_half_count g → k < the_half_count g → lead_at (walks_of g) h ≡ lead_at (walks_of g) k → Along g h k
  lead_one h k l m e = along-trans (lead-along h l) (subst (λ (x : ℕ). Along g x k) (sym e) (along_sym m (lead-along k m)))

  -- each half-edge is in exactly one closed walk
  pub one_walk : (h : ℕ) → h < the_half_count g →
      Among h (walk (followers g) (lead_at (walks_of g) h))
      × ((m : ℕ) → m < the_half_count g → lead_at (walks_of g) m ≡ m → Among h (walk (followers g) m) → m ≡ lead_at (walks_of g) h)
  one_walk h l = (
    along-walk (lead_at (walks_of g) h) (lead_below h l) h (along_sym l (lead-along h l)),
    λ m b e i. sym e ∙ sym (lead_same m h b (walk-along m b h i)),
  )

  -- ── the kind of a walk ──

  pub hole_is : (h : ℕ) → h < the_half_count g → hole_at (walks_of g) h ≡ hole_walk g (followers g) h
  hole_is h l = table_at (hole_walk g (followers g)) (the_half_count g) h false l
