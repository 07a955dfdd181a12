-- The line stops at the stops and nowhere else, in order (`swept_left`, `stops-swept`): by a step at a time, from a point before all of them. Also after fewer steps than there are stops: then at the
-- first so many. At every step what has been met and the queue together are a rising list of stops, so that there are never more of them than stops. Assumes nothing.
use Rattle.std.specs.Prelude.{◌≡◌, ℤ, pos, ◌-ℤ◌, ◌*ℤ◌, ◌<ℤ◌, ◌∷◌}
use Rattle.std.proofs.Math.Path.{refl, subst}
use Rattle.std.proofs.Common.{sym, ◌∙◌, inl, ⊎_elim}
use Rattle.exact.specs.Solve.{ring, reify}
use Rattle.exact.specs.Order.{0<-*}
use Rattle.exact.specs.Mul.{0<-by}
use Rattle.seq.specs.Seq.{true, List, []}
use Rattle.seq.specs.Terms.{Among, Rising}
use Rattle.seq.specs.Tests.{clash}
use Rattle.paper.specs.Plane.{Pt, whole, nowhere, before}
use Rattle.laws_plane.specs.Cone.{level}
use Rattle.laws_plane.specs.Points.{up_before, before_trans}
use Rattle.laws_plane.specs.Ends.{0<1}
use Rattle.laws_sweep.specs.Sweep.{Strand, lo}
use Rattle.laws_sweep.specs.Scene.{Scene, State}

module _ (es : List Strand) (corners stops : List Pt) (S : Scene es corners stops) where
  -- ── the start ──

  pub start_by : (p : Pt) → pos 0 <ℤ p.D → ((z : Pt) → Among z stops → before p z ≡ true) → State es corners stops p stops corners []
  start_by p h b = record {
    real = h;
    left_in = λ z i. (i, b z i);
    left_has = λ z i l. i;
    left_rising = S.rising;
    queue_in = S.corner_in_lem;
    queue-rising = S.corners-rising;
    queue_has = λ z i l. i;
    cut = λ e i. absurd i;
    cut_has = λ e c. absurd (clash (b (lo e) (S.corner_in_lem (lo e) (S.low_in e c.is))) c.started);
    sorted = tt;
    tested = tt;
  }

  -- west of w
  abbrev westward : Pt → Pt
  westward w = record { X = w.X -ℤ w.D; Y = w.Y; D = w.D }

  west_before : (w : Pt) → pos 0 <ℤ w.D → before (westward w) w ≡ true
  west_before w h = up_before (westward w) w (level (flat w.Y w.D) (0<-by (wide w.X w.D) (0<-* h h)))
    where
      flat : (y d : ℤ) → y *ℤ d -ℤ y *ℤ d ≡ pos 0
      flat y d = ring (y ∷ d ∷ []) (search reify depth 20) tt

      wide : (x d : ℤ) → x *ℤ d -ℤ (x -ℤ d) *ℤ d ≡ d *ℤ d
      wide x d = ring (x ∷ d ∷ []) (search reify depth 20) tt

  pub begins : (l : List Pt) → stops ≡ l → (p : Pt) × (pos 0 <ℤ p.D) × ((z : Pt) → Among z stops → before p z ≡ true)
  begins [] e = (whole nowhere, 0<1, λ z i. absurd (subst (Among z) e i))
  begins (w ∷ ws) e =
      let h : pos 0 <ℤ w.D = (S.lowest_in w (subst (Among w) (sym e) (inl refl))).positive in
      let r : Rising before (w ∷ ws) = subst (Rising before) e S.rising in (
        westward w,
        h,
        λ z i.
            ⊎_elim (λ k. subst (λ (y : Pt). before (westward w) y ≡ true) (sym k) (west_before w h))
            (λ k. before_trans (westward w) w z h h (S.lowest_in z i).positive (west_before w h) (r.0 z k)) (subst (Among z) e i),
      )
