-- Of Labels of specs/, what rests on its definitions.
use Rattle.std.specs.Prelude.{◌≡◌, refl, Bool, true, false, not, [], ◌∷◌, ℕ, ◌/◌, ◌<◌, eqb, ℤ, pos, ◌-ℤ◌, ◌≤ℤ◌, ◌<ℤ◌}
use Rattle.std.proofs.Common.{sym, ◌∙◌, ap, eqb-true, eq-eqb}
use Rattle.std.proofs.Math.Option.{Option, none, some}
use Rattle.std.proofs.Math.Decide.{ℕ_discrete}
use Rattle.std.proofs.Math.IntN.{+ℤ_invr}
use Rattle.std.specs.Int.Signed.{≤ℤ_refl}
use Rattle.exact.specs.Solve.{ring, reify, sub-zero→}
use Rattle.exact.specs.Mul.{≡-by₁}
use Rattle.exact.specs.Tests.{and_parts}
use Rattle.seq.specs.Seq.{or_zero}
use Rattle.seq.specs.Terms.{Has, BestIs}
use Rattle.paper.specs.Plane.{Pt, Vec, nowhere, before}
use Rattle.paper.specs.Graph.{point, twin, origin, start, goes_up, upward, follower, followers, smallest, leaves, greatest_out, at_height, westward, east_side}
use Rattle.paper.specs.Graph as Gr
use Rattle.paper.specs.Map.{Map, label}
use Rattle.laws_plane.specs.Points.{neither}
use Rattle.laws_graph.specs.Halves.{twin-twin, twin_below, half_below}
use Rattle.laws_graph.specs.Plane.{real_at, goes_up-twin}
use Rattle.laws_graph.specs.Follow.{lesser, greatest_is}
use Rattle.laws_graph.specs.Walks.{along_below, along_same}
use Rattle.laws_graph.specs.Holes.{smallest-start, smallest_first, smallest_below, greatest-makes}
use Rattle.laws_graph.specs.East.{east-half, east_down, east_below, east_is, west_side, west_below, west-start}
use Rattle.laws_graph.specs.West.{candidate, Sees, west-sees, nowhere-westward}
use Rattle.laws_graph.specs.Seen.{west_low}
use Rattle.laws_graph.specs.Rank.{rank, rank_less}
use Rattle.laws_map.specs.Keeps.{seg, edges, halves}
use Rattle.laws_labels.specs.Lawful.{Lawful}
use Rattle.laws_labels.specs.Spans.{span}
use Rattle.laws_labels.specs.Cuts.{lo, above, at_left}
use Rattle.laws_labels.specs.Pot.{lab, west, east, pot}
use Rattle.laws_labels.specs.Edges.{at_high}
use Rattle.laws_labels.proofs.Moves.{pot-slide, pot-sides}
use Rattle.laws_labels.specs.Covers.{self-covers}
use Rattle.laws_labels.specs.Star.{the_left_in}
use Rattle.laws_labels.proofs.Star.{followed}
use Rattle.laws_labels.specs.Looks.{seen_in}
use Rattle.laws_labels.proofs.LooksSeen.{looked}
use Rattle.laws_labels.proofs.Holes.{strict_left}
use Rattle.laws_labels.specs.Descent.{descent}
use Rattle.laws_labels.specs.Turns.{greater_count, none_greater, next_turn}
use Rattle.laws_labels.specs.Labels.{g, west-pot}

module _ (m : Map) (K : Lawful m) where
  -- label less potential
  abbrev off : ℕ → ℤ
  off h = lab m h -ℤ the_left_in m (g m K) h

  -- ── it is the same at the follower, and at the twin ──

  along : (h : ℕ) → h < halves m → off (follower (g m K) h) ≡ off h
  along h l = λ i. pos (K.one_label h l i) -ℤ followed (g m K) m K (self-covers m K) h l i

  module _ (k : ℕ) (l : k < edges m) where
    pub east-pot : the_left_in m (g m K) (east_side (g m K) k) ≡ pot m (above true (lo (span m k)) (seg m k).up)
    east-pot = (λ i. pot m (at_left (at_high m K k l i) (east_down (g m K) K.plane k l i) (upward (g m K) (east-half (g m K) k i)))) ∙ pot-slide m K true k l

    sides : the_left_in m (g m K) (east_side (g m K) k) -ℤ the_left_in m (g m K) (west_side (g m K) k) ≡ east m k -ℤ west m k
    sides = (λ i. east-pot i -ℤ (west-pot m K k l) i) ∙ pot-sides m K k l

    across-edge : off (west_side (g m K) k) ≡ off (east_side (g m K) k)
    across-edge = law (the_left_in m (g m K) (east_side (g m K) k)) (the_left_in m (g m K) (west_side (g m K) k)) (east m k) (west m k) sides
      where
        law : (a b e w : ℤ) → a -ℤ b ≡ e -ℤ w → w -ℤ b ≡ e -ℤ a
        law a b e w h = ≡-by₁ h (pos 1) (ring (a ∷ b ∷ e ∷ w ∷ []) (search reify depth 20) tt)

  -- h goes down
  across_down : (h : ℕ) → h < halves m → goes_up (g m K) h ≡ false → off (twin h) ≡ off h
  across_down h l d = let e = east_is (g m K) K.plane h l d in ap (λ (x : ℕ). off (twin x)) (sym e) ∙ across-edge (h / 2) (half_below (g m K) h l) ∙ ap off e

  across : (h : ℕ) → h < halves m → off (twin h) ≡ off h
  across h l = go (goes_up (g m K) h) refl
    where
      go : (b : Bool) → goes_up (g m K) h ≡ b → off (twin h) ≡ off h
      go false d = across_down h l d
      go true u = sym (ap off (sym (twin-twin h)) ∙ across_down (twin h) (twin_below (g m K) h l) (goes_up-twin (g m K) K.plane h l ∙ ap not u))

  -- ── the greatest angle at its origin ──

  abbrev rk : ℕ → ℕ
  rk h = rank (g m K) (origin (g m K) h)

  abbrev Below : ℕ → Type 0
  Below h = (k : ℕ) → k < halves m → rk k < rk h → off k ≡ pos 0

  lower : (h k : ℕ) → h < halves m → k < halves m → before (start (g m K) k) (start (g m K) h) ≡ true → rk k < rk h
  lower h k l j e = rank_less (g m K) K.plane (origin (g m K) k) (origin (g m K) h) (K.plane.starts k j) e

  goes_down : (h : ℕ) → h < halves m → goes_up (g m K) h ≡ false → Below h → off h ≡ pos 0
  goes_down h l d ih =
      sym (across h l)
      ∙ ih (twin h) (twin_below (g m K) h l) (lower h (twin h) l (twin_below (g m K) h l)
      (ap (λ (x : ℕ). before (start (g m K) (twin h)) (start (g m K) x)) (sym (twin-twin h)) ∙ goes_up-twin (g m K) K.plane h l ∙ ap not d))

  -- the label of what is seen is right where the half-edges that can be seen are
  seen_right : (p : Pt) → pos 0 <ℤ p.D → (d : Vec) → pos 0 ≤ℤ d.y → (o : Option ℕ) → Sees (g m K) p d o →
      ((W : ℕ) → Has (candidate (g m K) p d) (edges m) W → off (east_side (g m K) W) ≡ pos 0) → pos (or_zero (label m) o) ≡ seen_in m (g m K) o
  seen_right p hp d hd none n r = refl
  seen_right p hp d hd (some x) (W, t, e) r = ap (lab m) (sym e) ∙ sub-zero→ (lab m (east_side (g m K) W)) (the_left_in m (g m K) (east_side (g m K) W)) (r W t.is) ∙ ap (the_left_in m (g m K)) e

  seen-label : (p : Pt) → pos 0 <ℤ p.D → (d : Vec) → pos 0 ≤ℤ d.y → ((W : ℕ) → Has (candidate (g m K) p d) (edges m) W → off (east_side (g m K) W) ≡ pos 0) →
      pos (or_zero (label m) (Gr.west (g m K) p d)) ≡ pot m (above false p d)
  seen-label p hp d hd r = seen_right p hp d hd (Gr.west (g m K) p d) (west-sees (g m K) K.plane p hp d) r ∙ sym (looked (g m K) m K (self-covers m K) p hp d hd)

  -- an edge strictly west of where h starts starts lower
  west_right : (h : ℕ) → h < halves m → Below h → (W : ℕ) → Has (candidate (g m K) (start (g m K) h) nowhere) (edges m) W → off (east_side (g m K) W) ≡ pos 0
  west_right h l ih W c =
      let v = start (g m K) h in
      let r = and_parts (at_height (g m K) v W) (westward (g m K) v nowhere W) c.has in
      let starts : before (start (g m K) (west_side (g m K) W)) v ≡ true = ap (λ (p : Pt). before p v) (west-start (g m K) K.plane W c.below)
      ∙ west_low (g m K) K.plane v (real_at (g m K) K.plane (origin (g m K) h)) W c.below r.0 (nowhere-westward (g m K) v W r.1) in
      sym (across-edge W c.below) ∙ ih (west_side (g m K) W) (west_below (g m K) W c.below) (lower h (west_side (g m K) W) l (west_below (g m K) W c.below) starts)

  module _ (h : ℕ) (l : h < halves m) (u : goes_up (g m K) h ≡ true) (z : greater_count (g m K) h ≡ 0) where
    module _ (s : smallest (g m K) (followers (g m K)) h ≡ origin (g m K) h) where
      greatest : greatest_out (g m K) (smallest (g m K) (followers (g m K)) h) ≡ some h
      greatest = ap (greatest_out (g m K)) s ∙ go (greatest_out (g m K) (origin (g m K) h)) (greatest_is (g m K) K.plane (origin (g m K) h))
        where
          at : eqb (origin (g m K) h) (origin (g m K) h) ≡ true
          at = eq-eqb (origin (g m K) h) (origin (g m K) h) refl

          go : (o : Option ℕ) → BestIs (leaves (g m K) (origin (g m K) h)) (λ x y. lesser (g m K) y x) (halves m) o → o ≡ some h
          go none b = absurd (b h (record { below = l; has = at }))
          go (some r) b =
              elim (ℕ_discrete h r) [
                | yes q ↦ ap some (sym q)
                | no q ↦ absurd (none_greater (g m K) K.plane h z r b.is.below (eqb-true (origin (g m K) r) (origin (g m K) h) b.is.has) (b.beats h (record { below = l; has = at }) q))
              ]

      -- its label is what is seen strictly west, and so is its potential
      hole_right : Below h → off h ≡ pos 0
      hole_right ih =
          let hv = real_at (g m K) K.plane (origin (g m K) h) in
          (λ i. (ap pos (K.hole-label h l (greatest-makes (g m K) K.plane h greatest) ∙ ap (λ (v : ℕ). or_zero (label m) (Gr.west (g m K) (point (g m K) v) nowhere)) s)
          ∙ seen-label (start (g m K) h) hv nowhere (≤ℤ_refl (pos 0)) (west_right h l ih)) i -ℤ strict_left (g m K) m K (self-covers m K) h l u (none_greater (g m K) K.plane h z) i)
          ∙ +ℤ_invr (pot m (above false (start (g m K) h) nowhere))

    goes_up_lem : Below h → off h ≡ pos 0
    goes_up_lem ih = go (before (point (g m K) v) (start (g m K) h)) refl
      where
        v : ℕ
        v = smallest (g m K) (followers (g m K)) h

        go : (b : Bool) → before (point (g m K) v) (start (g m K) h) ≡ b → off h ≡ pos 0
        go true e =
            let (k, a, o) = smallest-start (g m K) K.plane h l in
            let j = along_below (g m K) K.plane l a in
            sym (along_same (g m K) K.plane off along l a) ∙ ih k j (lower h k l j (ap (λ (x : ℕ). before (point (g m K) x) (start (g m K) h)) o ∙ e))
        go false e = hole_right (K.plane.distinct v (origin (g m K) h) (smallest_below (g m K) K.plane h l) (K.plane.starts h l) (neither (point (g m K) v) (start (g m K) h) e (smallest_first (g m K) K.plane h l h (0, refl)))) ih

  -- ── the theorems ──

  right : (h : ℕ) → h < halves m → off h ≡ pos 0
  right = descent (halves m) rk (greater_count (g m K)) (λ h. off h ≡ pos 0)
      (λ h l p. let (k, j, o, a, f) = next_turn (g m K) K.plane h l p in
      (k, j, ap (rank (g m K)) o, a, λ q. ap off (sym f) ∙ along (twin k) (twin_below (g m K) k j) ∙ across k j ∙ q))
      (λ h l z ih. by h l z ih (goes_up (g m K) h) refl)
    where
      by : (h : ℕ) → h < halves m → greater_count (g m K) h ≡ 0 → Below h → (b : Bool) → goes_up (g m K) h ≡ b → off h ≡ pos 0
      by h l z ih true u = goes_up_lem h l u z ih
      by h l z ih false d = goes_down h l d ih

  pub theorem_A : (h : ℕ) → h < halves m → pos (label m h) ≡ pot m (at_left (start (g m K) h) (goes_up (g m K) h) (upward (g m K) (h / 2)))
  theorem_A h l = sub-zero→ (lab m h) (the_left_in m (g m K) h) (right h l)

  -- and so on the two sides of every edge
  pub west_is : (k : ℕ) → k < edges m → west m k ≡ pot m (above false (lo (span m k)) (seg m k).up)
  west_is k l = theorem_A (west_side (g m K) k) (west_below (g m K) k l) ∙ west-pot m K k l

  pub east-label : (k : ℕ) → k < edges m → east m k ≡ pot m (above true (lo (span m k)) (seg m k).up)
  east-label k l = theorem_A (east_side (g m K) k) (east_below (g m K) k l) ∙ east-pot k l

  pub theorem_B : (p : Pt) → pos 0 <ℤ p.D → (d : Vec) → pos 0 ≤ℤ d.y → pos (or_zero (label m) (Gr.west (g m K) p d)) ≡ pot m (above false p d)
  theorem_B p hp d hd = seen-label p hp d hd (λ W c. right (east_side (g m K) W) (east_below (g m K) W c.below))
