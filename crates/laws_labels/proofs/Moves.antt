-- Of Moves of specs/, what rests on its definitions.
use Rattle.std.specs.Prelude.{◌≡◌, refl, Bool, true, false, not, ◌&&◌, ℕ, ◌<◌, eqb, pos, ◌-ℤ◌, ◌<ℤ◌}
use Rattle.std.proofs.Math.Path.{sym}
use Rattle.std.proofs.Common.{◌∙◌, ap, subst, eq-eqb, ne_eqb}
use Rattle.std.proofs.Math.Decide.{ℕ_discrete}
use Rattle.std.proofs.Math.IntN.{+ℤ_invr}
use Rattle.exact.specs.Sign.{zer, sgn, is_zer}
use Rattle.exact.specs.Tests.{clash, and_parts}
use Rattle.exact.specs.Signs.{zero_is}
use Rattle.seq.specs.Terms.{ind}
use Rattle.paper.specs.Plane.{Pt, Vec, Seg, nowhere, cross, before, same, the_left_by}
use Rattle.paper.specs.Graph.{point}
use Rattle.paper.specs.Map.{Map}
use Rattle.laws_plane.specs.Points.{before_irr, neither}
use Rattle.laws_plane.specs.Angles.{cross-self}
use Rattle.laws_map.specs.Keeps.{seg, edges}
use Rattle.laws_labels.specs.Lawful.{Lawful}
use Rattle.laws_labels.specs.Spans.{Span, span, InsideSpan}
use Rattle.laws_labels.specs.Cut.{Φ-one, cut}
use Rattle.laws_labels.specs.Near.{near, near_off}
use Rattle.laws_labels.specs.Cuts.{lo, hi, above, under, Leaves, above_same}
use Rattle.laws_labels.proofs.Cuts.{above_agree, under_agree}
use Rattle.laws_labels.specs.Slide.{left_of}
use Rattle.laws_labels.proofs.Slide.{slide}
use Rattle.laws_labels.specs.Clear.{Within, Clear, apart}
use Rattle.laws_labels.proofs.Through.{through, strict_both}
use Rattle.laws_labels.specs.Pot.{jump, Jumps, pot, low_end}
use Rattle.laws_labels.proofs.Pot.{balanced}
use Rattle.laws_labels.specs.Edges.{good, at_low, at_high, clear, no_through, one_start}
use Rattle.laws_labels.specs.Moves.{pot-ext, C, f}

-- ── any map ──

module _ (m : Map) where
  module _ (p : Pt) (on on' : Bool) (d d' : Vec) where
    pub pot_above : ((k : ℕ) → k < edges m → Jumps m k → Leaves p true (span m k) → near on zer (sgn (cross d (seg m k).up)) ≡ near on' zer (sgn (cross d' (seg m k).up))) →
        pot m (above on p d) ≡ pot m (above on' p d')
    pot_above h = pot-ext m (above on p d) (above on' p d') (λ k l j. above_agree p (span m k) on on' d d' (h k l j))

    pub pot_under : ((k : ℕ) → k < edges m → Jumps m k → Leaves p false (span m k) → near on zer (sgn (cross (seg m k).up d)) ≡ near on' zer (sgn (cross (seg m k).up d'))) →
        pot m (under on p d) ≡ pot m (under on' p d')
    pot_under h = pot-ext m (under on p d) (under on' p d') (λ k l j. under_agree p (span m k) on on' d d' (h k l j))

-- ── a map that keeps the rules ──

module _ (m : Map) (K : Lawful m) where
  pub pot_same : (p q : Pt) → pos 0 <ℤ p.D → pos 0 <ℤ q.D → same p q ≡ true → (on : Bool) (d : Vec) → pot m (above on q d) ≡ pot m (above on p d)
  pot_same p q a b o on d = pot-ext m (above on q d) (above on p d) (λ k l j. above_same p q a b o on d (span m k) (good m K k l))

  -- the cut lemma for a test on points
  pub pot-cut : (C₁ C₂ : Span → Bool) (Z : Pt → Bool) →
      ((k : ℕ) → k < edges m → ind (C₂ (span m k)) -ℤ ind (C₁ (span m k)) ≡ ind (Z (lo (span m k))) -ℤ ind (Z (hi (span m k)))) → pot m C₂ ≡ pot m C₁
  unfolding pot
  pot-cut C₁ C₂ Z h =
      cut (balanced m K) (λ k. C₁ (span m k)) (λ k. C₂ (span m k)) (λ z. Z (point m.graph z))
      (λ k l. h k l ∙ sym (λ i. ind (Z (at_low m K k l i)) -ℤ ind (Z (at_high m K k l i))))

  pub pot-piece : (on : Bool) (f : Seg) (p r : Pt) → Within f p r → ((k : ℕ) → k < edges m → Clear f p r (span m k)) → pot m (under on r f.up) ≡ pot m (above on p f.up)
  pot-piece on f p r w c =
      pot-cut (above on p f.up) (under on r f.up) (left_of p r f)
      (λ k l. slide f p r (span m k) w.segment (good m K k l) on (apart f p r (span m k) w (good m K k l) (c k l)))

  pub pot-slide : (on : Bool) (i : ℕ) → i < edges m → pot m (under on (hi (span m i)) (seg m i).up) ≡ pot m (above on (lo (span m i)) (seg m i).up)
  pot-slide on i l = pot-piece on (seg m i) (lo (span m i)) (hi (span m i)) (K.within i l) (λ j k. clear m K i j l k)

  pub pot-through : (v : Pt) → pos 0 <ℤ v.D → pot m (above true v nowhere) ≡ pot m (under true v nowhere)
  pot-through v d = pot-cut (under true v nowhere) (above true v nowhere) (same v) (λ k l. through v d (span m k) (good m K k l))

  pub pot-strict : (v : Pt) → pos 0 <ℤ v.D → pot m (above false v nowhere) ≡ pot m (under false v nowhere)
  pot-strict v d = pot-ext m (above false v nowhere) (under false v nowhere) (λ k l j. strict_both v d (span m k) (good m K k l))

  -- ── the two sides of an edge ──

  module _ (i : ℕ) (l : i < edges m) where
    itself : (on : Bool) → C m K i l on i ≡ on
    unfolding above
    itself on t = (not (before_irr (lo (f m K i l)) t) && (good m K i l).climbs t) && near on (sgn ((good m K i l).p_on t)) (sgn (cross-self (f m K i l).line.up t))

    -- an edge that leaves the lower end starts there
    starts : (j : ℕ) → j < edges m → Leaves (lo (f m K i l)) true (span m j) → same (lo (f m K i l)) (lo (span m j)) ≡ true
    starts j k o =
        let r = and_parts (not (before (lo (f m K i l)) (lo (span m j)))) (before (lo (f m K i l)) (hi (span m j))) o.reaches in
        go (before (lo (f m K i l)) (lo (span m j))) (before (lo (span m j)) (lo (f m K i l))) refl refl r.0 r.1
      where
        go : (a b : Bool) → before (lo (f m K i l)) (lo (span m j)) ≡ a → before (lo (span m j)) (lo (f m K i l)) ≡ b → not a ≡ true → before (lo (f m K i l)) (hi (span m j)) ≡ true → same (lo (f m K i l)) (lo (span m j)) ≡ true
        go true b x y n u = absurd (clash n refl)
        go false true x y n u =
            absurd (no_through m K (low_end m i) j ((balanced m K).low-< i l) k
            (subst (InsideSpan (span m j)) (sym (at_low m K i l)) (record { line = zero_is (the_left_by (seg m j) (lo (f m K i l))) (ap is_zer o.on); low = y; high = u })))
        go false false x y n u = neither (lo (f m K i l)) (lo (span m j)) x y

    only-itself : (j : ℕ) → j < edges m → ind (C m K i l true j) -ℤ ind (C m K i l false j) ≡ ind (eqb j i)
    only-itself j k =
        elim (ℕ_discrete j i) [
          | yes e ↦ (λ t. ind (C m K i l true (e t)) -ℤ ind (C m K i l false (e t))) ∙ (λ t. ind (itself true t) -ℤ ind (itself false t)) ∙ ap ind (sym (eq-eqb j i e))
          | no d ↦ ap (λ (b : Bool). ind b -ℤ ind (C m K i l false j)) (one d) ∙ +ℤ_invr (ind (C m K i l false j)) ∙ ap ind (sym (ne_eqb j i d))
        ]
      where
        one : (j ≡ i → ⊥) → C m K i l true j ≡ C m K i l false j
        one d =
            above_agree (lo (f m K i l)) (span m j) true false (f m K i l).line.up (f m K i l).line.up
            (λ o. near_off (sgn (cross (f m K i l).line.up (seg m j).up)) (λ z. d (sym (one_start m K i j l k (starts j k o) (zero_is (cross (f m K i l).line.up (seg m j).up) (ap is_zer z))))))

    pub pot-sides : pot m (above true (lo (f m K i l)) (f m K i l).line.up) -ℤ pot m (above false (lo (f m K i l)) (f m K i l).line.up) ≡ jump m i
    unfolding pot
    pot-sides = Φ-one (edges m) (jump m) (C m K i l false) (C m K i l true) i l only-itself
