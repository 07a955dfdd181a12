-- Of Pot of specs/, what rests on its definitions.
use Rattle.std.specs.Prelude.{◌≡◌, refl, Bool, true, false, cond, [], ◌∷◌, ℕ, ◌+◌, ◌*◌, eqb, ℤ, pos, ◌+ℤ◌, ◌-ℤ◌, ◌*ℤ◌}
use Rattle.std.proofs.Math.Path.{sym}
use Rattle.std.proofs.Common.{◌∙◌, ap}
use Rattle.std.proofs.Math.IntN.{+ℤ_comm, +ℤ_invr}
use Rattle.exact.specs.Solve.{ring, reify, sub-zero→}
use Rattle.seq.specs.Seq.{position}
use Rattle.seq.specs.Terms.{sum, upto, ind, Injects}
use Rattle.seq.specs.Sum.{upto-<, sum-ext, sum-pairs, sum--}
use Rattle.seq.proofs.Sum.{sum_perm}
use Rattle.paper.specs.Graph.{Graph, twin, origin, goes_up, follower, followers, east_side}
use Rattle.paper.specs.Map.{Map}
use Rattle.laws_graph.specs.Halves.{twin_first, twin-second, twin_below}
use Rattle.laws_graph.specs.Follow.{follower-origin, follower_below, predecessor-follower}
use Rattle.laws_graph.specs.East.{east_below, west_side}
use Rattle.laws_map.specs.Keeps.{edges, halves, vertices}
use Rattle.laws_labels.specs.Lawful.{Lawful}
use Rattle.laws_labels.specs.Cut.{weight_at, Balanced}
use Rattle.laws_labels.specs.Pot.{lab, low_end, jump, the_high_end}

-- ── balance ──

module _ (m : Map) (K : Lawful m) where
  abbrev g : Graph
  g = m.graph

  following : Injects (follower g) (halves m)
  following = record {
    into = follower_below g K.plane;
    once = λ h k l r e. sym (predecessor-follower g K.plane h l) ∙ ap (λ (x : ℕ). position x (followers g)) e ∙ predecessor-follower g K.plane k r;
  }

  module _ (z : ℕ) where
    -- is z where h starts; where it arrives
    abbrev from : ℕ → ℤ
    from h = ind (eqb (origin g h) z)

    abbrev to : ℕ → ℤ
    to h = ind (eqb (origin g (twin h)) z)

    leave-arrive : sum (upto (halves m)) (λ h. from h *ℤ lab m h) ≡ sum (upto (halves m)) (λ h. to h *ℤ lab m h)
    leave-arrive =
        sym (sum_perm (follower g) (halves m) following (λ h. from h *ℤ lab m h))
        ∙ sum-ext (upto (halves m)) (λ h i. λ t. ind (eqb (follower-origin g K.plane h t) z) *ℤ pos (K.one_label h (upto-< (halves m) i) t))

    -- what leaves, and what arrives, along edge k
    abbrev out : ℕ → ℤ
    out k = from (2 * k) *ℤ lab m (2 * k) +ℤ from (2 * k + 1) *ℤ lab m (2 * k + 1)

    abbrev inn : ℕ → ℤ
    inn k = from (2 * k + 1) *ℤ lab m (2 * k) +ℤ from (2 * k) *ℤ lab m (2 * k + 1)

    abbrev the_at_low : ℕ → ℤ
    the_at_low k = ind (eqb (low_end m k) z) *ℤ jump m k

    abbrev the_at_high : ℕ → ℤ
    the_at_high k = ind (eqb (the_high_end m k) z) *ℤ jump m k

    -- of the half-edges u and d, whichever goes up
    pair : (u d : ℕ) → (from d *ℤ lab m u +ℤ from u *ℤ lab m d) -ℤ (from u *ℤ lab m u +ℤ from d *ℤ lab m d) ≡ from u *ℤ (lab m d -ℤ lab m u) -ℤ from d *ℤ (lab m d -ℤ lab m u)
    pair u d = law (from u) (from d) (lab m u) (lab m d)
      where
        law : (a b x y : ℤ) → (b *ℤ x +ℤ a *ℤ y) -ℤ (a *ℤ x +ℤ b *ℤ y) ≡ a *ℤ (y -ℤ x) -ℤ b *ℤ (y -ℤ x)
        law a b x y = ring (a ∷ b ∷ x ∷ y ∷ []) (search reify depth 20) tt

    share_by : (k u d : ℕ) → (inn k -ℤ out k ≡ (from d *ℤ lab m u +ℤ from u *ℤ lab m d) -ℤ (from u *ℤ lab m u +ℤ from d *ℤ lab m d)) → twin d ≡ u →
        inn k -ℤ out k ≡ from (twin d) *ℤ (lab m d -ℤ lab m (twin d)) -ℤ from d *ℤ (lab m d -ℤ lab m (twin d))
    share_by k u d e t = e ∙ pair u d ∙ sym (λ i. from (t i) *ℤ (lab m d -ℤ lab m (t i)) -ℤ from d *ℤ (lab m d -ℤ lab m (t i)))

    share : (k : ℕ) → inn k -ℤ out k ≡ the_at_low k -ℤ the_at_high k
    share k = go (goes_up g (2 * k))
      where
        go : (c : Bool) → let d = cond c (2 * k + 1) (2 * k) in inn k -ℤ out k ≡ from (twin d) *ℤ (lab m d -ℤ lab m (twin d)) -ℤ from d *ℤ (lab m d -ℤ lab m (twin d))
        go true = share_by k (2 * k) (2 * k + 1) refl (twin-second k)
        go false = share_by k (2 * k + 1) (2 * k) (λ i. +ℤ_comm (from (2 * k + 1) *ℤ lab m (2 * k)) (from (2 * k) *ℤ lab m (2 * k + 1)) i -ℤ +ℤ_comm (from (2 * k) *ℤ lab m (2 * k)) (from (2 * k + 1) *ℤ lab m (2 * k + 1)) i) (twin_first k)

    arrives : sum (upto (edges m)) inn ≡ sum (upto (halves m)) (λ h. to h *ℤ lab m h)
    arrives =
        sum-ext (upto (edges m)) (λ k i. λ t. ind (eqb (origin g (sym (twin_first k) t)) z) *ℤ lab m (2 * k) +ℤ ind (eqb (origin g (sym (twin-second k) t)) z) *ℤ lab m (2 * k + 1))
        ∙ sym (sum-pairs (edges m) (λ h. to h *ℤ lab m h))

    balance : weight_at (edges m) (jump m) (low_end m) z ≡ weight_at (edges m) (jump m) (the_high_end m) z
    unfolding weight_at
    balance =
        let es = upto (edges m) in
        sub-zero→ (sum es the_at_low) (sum es the_at_high)
        (sym (sum-- es the_at_low the_at_high) ∙ sum-ext es (λ k i. sym (share k)) ∙ sum-- es inn out
        ∙ (λ t. arrives t -ℤ (sym (sum-pairs (edges m) (λ h. from h *ℤ lab m h)) ∙ leave-arrive) t)
        ∙ +ℤ_invr (sum (upto (halves m)) (λ h. to h *ℤ lab m h)))

  -- the jumps are weights for the cut lemma
  pub balanced : Balanced (edges m) (vertices m) (low_end m) (the_high_end m) (jump m)
  balanced = record {
    low-< = λ k l. K.plane.starts (west_side g k) (twin_below g (east_side g k) (east_below g k l));
    high-< = λ k l. K.plane.starts (east_side g k) (east_below g k l);
    balance = balance;
  }
