-- Which vertices are on an edge: in rows in point order a point is found by halves, and an edge whose ends stand there has on it those from one end to the other that lie on its
-- line. Before that, how a point is compared with a corner and with a line. Assumes nothing.
use Rattle.std.specs.Prelude.{◌≡◌, refl, [], ◌∷◌, ◌≤◌, ◌<◌, ℤ, pos, ◌-ℤ◌, ◌*ℤ◌, ◌<ℤ◌, ◌+◌}
use Rattle.std.proofs.Common.{sym, ◌∙◌, ap, subst, add-one, arith}
use Rattle.std.specs.Int.Signed.{lt_z}
use Rattle.exact.specs.Ring.{*ℤ-1}
use Rattle.exact.specs.Order.{zomega, sq}
use Rattle.exact.specs.Solve.{ring, reify}
use Rattle.exact.specs.Sign.{Sign, sgn, is_neg, is_zer, pick, Sg, is_neg_lem, is_zer_lem, is_plus_lem, sg}
use Rattle.exact.specs.Tests.{eq_z, lt-sign, eq-sign}
use Rattle.seq.specs.Seq.{List, ℕ, least, select}
use Rattle.seq.specs.Terms.{Among}
use Rattle.seq.specs.Table.{table-among}
use Rattle.seq.specs.Range.{select_none}
use Rattle.seq.specs.Halves.{Lasts, Rises, reached, place-lasts}
use Rattle.seq.proofs.Halves.{place_found}
use Rattle.paper.specs.Plane.{Pt, Vec, Seg, whole, head, before, the_left_by, on_seg}
use Rattle.laws_plane.specs.Points.{before_trans, before_asymmetric}
use Rattle.laws_cut.specs.Between.{the_on_line, below_off, within_on, along-upto}
use Rattle.graph.specs.Flat.{Points, the_point_at, carrier_at}
use Rattle.overlay_cut.specs.Points.{points_of}

-- the first n rows stand in point order
pub record InRowOrder (ps : List ℤ) (n : ℕ) : Type 0 where
  pub rises : Rises before (the_point_at ps) n

-- both ends of s stand there
pub record EndsIn (ps : List ℤ) (n : ℕ) (s : Seg) : Type 0 where
  pub low : Among (whole s.foot) (points_of ps n)
  pub high : Among (whole (head s)) (points_of ps n)

-- the lower in row a and the upper in row z
pub record Span (ps : List ℤ) (n : ℕ) (s : Seg) (a z : ℕ) : Type 0 where
  pub low : a < n
  pub high : z < n
  pub foot_at : the_point_at ps a ≡ whole s.foot
  pub head_at : the_point_at ps z ≡ whole (head s)

-- those of e edges do
pub record Ended (ps : List ℤ) (n : ℕ) (cs : List ℤ) (e : ℕ) : Type 0 where
  pub ends : (k : ℕ) → k < e → EndsIn ps n (carrier_at cs k)

-- ── a point and a corner ──

module _ (p : Pt) (a : Vec) where
  -- as high as the corner, and not
  pub corner-level : p.Y ≡ a.y *ℤ p.D → lt_z p.X (a.x *ℤ p.D) ≡ before p (whole a)
  corner-level e = go (p.Y *ℤ pos 1 -ℤ a.y *ℤ p.D) zero
    where
      zero : p.Y *ℤ pos 1 -ℤ a.y *ℤ p.D ≡ pos 0
      zero = ap (λ (z : ℤ). z -ℤ a.y *ℤ p.D) (*ℤ-1 p.Y ∙ e) ∙ zomega ((a.y *ℤ p.D) ∷ []) {A = a.y *ℤ p.D -ℤ a.y *ℤ p.D ≡ pos 0} (search sq depth 20) (omega arith)

      go : (z : ℤ) → z ≡ pos 0 → lt_z p.X (a.x *ℤ p.D) ≡ is_neg (pick (sgn z) (sgn (p.X *ℤ pos 1 -ℤ a.x *ℤ p.D)))
      go z q = lt-sign p.X (a.x *ℤ p.D) ∙ (λ i. is_neg (pick (sgn (sym q i)) (sgn (sym (*ℤ-1 p.X) i -ℤ a.x *ℤ p.D))))

  pub corner-apart : (p.Y ≡ a.y *ℤ p.D → ⊥) → lt_z p.Y (a.y *ℤ p.D) ≡ before p (whole a)
  corner-apart f = lt-sign p.Y (a.y *ℤ p.D) ∙ go (sgn (p.X *ℤ pos 1 -ℤ a.x *ℤ p.D)) (sg (p.Y -ℤ a.y *ℤ p.D)) ∙ (λ i. is_neg (pick (sgn (sym (*ℤ-1 p.Y) i -ℤ a.y *ℤ p.D)) (sgn (p.X *ℤ pos 1 -ℤ a.x *ℤ p.D))))
    where
      go : {s : Sign} (t : Sign) → Sg (p.Y -ℤ a.y *ℤ p.D) s → is_neg s ≡ is_neg (pick s t)
      go t (is_neg_lem h) = refl
      go t (is_zer_lem h) = absurd (f (zomega (p.Y ∷ (a.y *ℤ p.D) ∷ []) {A = p.Y -ℤ a.y *ℤ p.D ≡ pos 0 → p.Y ≡ a.y *ℤ p.D} (search sq depth 20) (omega arith) h))
      go t (is_plus_lem h) = refl

-- ── a point and a line ──

module _ (s : Seg) (p : Pt) where
  -- how far along across the direction of s, times the D of p: the point, and the lower end
  abbrev across : ℤ
  across = s.up.x *ℤ p.Y -ℤ s.up.y *ℤ p.X

  abbrev level : ℤ
  level = (s.up.x *ℤ s.foot.y -ℤ s.up.y *ℤ s.foot.x) *ℤ p.D

  by_across : the_left_by s p ≡ across -ℤ level
  by_across = ring (s.foot.x ∷ s.foot.y ∷ s.up.x ∷ s.up.y ∷ p.X ∷ p.Y ∷ p.D ∷ []) (search reify depth 20) tt

  pub line_yes : s.up.x *ℤ p.Y -ℤ s.up.y *ℤ p.X ≡ (s.up.x *ℤ s.foot.y -ℤ s.up.y *ℤ s.foot.x) *ℤ p.D → the_left_by s p ≡ pos 0
  line_yes e = by_across ∙ none across level e
    where
      none : (a b : ℤ) → a ≡ b → a -ℤ b ≡ pos 0
      none a b q = zomega (a ∷ b ∷ []) {A = a ≡ b → a -ℤ b ≡ pos 0} (search sq depth 20) (omega arith) q

  pub line_no : (s.up.x *ℤ p.Y -ℤ s.up.y *ℤ p.X ≡ (s.up.x *ℤ s.foot.y -ℤ s.up.y *ℤ s.foot.x) *ℤ p.D → ⊥) → the_left_by s p ≡ pos 0 → ⊥
  line_no f e = f (some across level (sym by_across ∙ e))
    where
      some : (a b : ℤ) → a -ℤ b ≡ pos 0 → a ≡ b
      some a b q = zomega (a ∷ b ∷ []) {A = a -ℤ b ≡ pos 0 → a ≡ b} (search sq depth 20) (omega arith) q

  -- the test of the machine
  pub line_test : eq_z across level ≡ the_on_line s p
  line_test = eq-sign across level ∙ ap (λ (z : ℤ). is_zer (sgn z)) (sym by_across)

-- ── a point's place ──

module _ (ps : List ℤ) (n : ℕ) (R : InRowOrder ps n) where
  -- found by halves
  pub place_last : Points ps n → (p : Pt) → pos 0 <ℤ p.D → Lasts (reached before (the_point_at ps) p) n
  place_last near p h = place-lasts before (the_point_at ps) n p R.rises (λ q. pos 0 <ℤ q.D) (λ a b c x y z. before_trans a b c x y z) (λ v l. (near.near v l).positive) h

  -- a point that stands in the rows stands there
  pub stands_at : (p : Pt) → Among p (points_of ps n) → (r : ℕ) → r ≡ least (reached before (the_point_at ps) p) n → (r < n) × (the_point_at ps r ≡ p)
  stands_at p i r e =
      let (k, l, f) = table-among (the_point_at ps) n p i in
      let q : k ≡ r = sym (e ∙ place_found before (the_point_at ps) n p R.rises before_asymmetric k l f) in
      (subst (λ (j : ℕ). j < n) q l, ap (the_point_at ps) (sym q) ∙ f)

  -- the rows of an edge's ends
  pub spans : (s : Seg) → EndsIn ps n s → (a z : ℕ) (u w : Vec) → a ≡ least (reached before (the_point_at ps) (whole u)) n → u ≡ s.foot → z ≡ least (reached before (the_point_at ps) (whole w)) n → w ≡ head s → Span ps n s a z
  spans s E a z u w e f g h =
      let (l, p) = stands_at (whole s.foot) E.low a (e ∙ ap (λ (q : Vec). least (reached before (the_point_at ps) (whole q)) n) f) in
      let (k, q) = stands_at (whole (head s)) E.high z (g ∙ ap (λ (q : Vec). least (reached before (the_point_at ps) (whole q)) n) h) in
      record { low = l; high = k; foot_at = p; head_at = q }

  -- ── the vertices on an edge ──

  module _ {s : Seg} {a z : ℕ} (S : Span ps n s a z) where
    pub span-upto : select (λ v. on_seg s (the_point_at ps v)) n ≡ select (λ v. on_seg s (the_point_at ps v)) (z + 1)
    span-upto =
        along-upto (the_point_at ps) n R.rises s a z S.low S.high S.foot_at S.head_at
        ∙ ap (select (λ v. on_seg s (the_point_at ps v))) (sym (add-one z))

    pub span_none : (v : ℕ) → v ≤ a → select (λ v. on_seg s (the_point_at ps v)) v ≡ []
    span_none v l =
        select_none (λ v. on_seg s (the_point_at ps v)) v
        (λ k q. below_off (the_point_at ps) n R.rises s a z S.low S.high S.foot_at S.head_at k (omega arith))

    pub span-line : (v : ℕ) → a ≤ v → v < z + 1 → on_seg s (the_point_at ps v) ≡ the_on_line s (the_point_at ps v)
    span-line v l k = within_on (the_point_at ps) n R.rises s a z S.low S.high S.foot_at S.head_at v l (omega arith)

-- fewer edges
pub ended-part : {ps : List ℤ} {n : ℕ} {cs : List ℤ} {e : ℕ} → Ended ps n cs e → (d : ℕ) → d ≤ e → Ended ps n cs d
ended-part E d l = record { ends = λ k h. E.ends k (omega arith) }
