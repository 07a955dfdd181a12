-- Which edges go through the next stop v of the line: those in the middle part of the status and those that start there (`through_on`, `start_on`), and no others (`on_through`). So a line that stops at
-- v has before it every edge that v lies on. Assumes nothing.
use Rattle.std.specs.Prelude.{◌≡◌, ◌⊎◌, ◌∷◌, ◌++◌}
use Rattle.std.proofs.Common.{sym, ◌∙◌, ap, subst, inl, inr, ⊎_elim}
use Rattle.exact.specs.Sign.{sgn, is_neg}
use Rattle.exact.specs.Signs.{zer_is}
use Rattle.seq.specs.Seq.{true, List, ℤ}
use Rattle.seq.specs.Terms.{Among}
use Rattle.seq.specs.Members.{++-among}
use Rattle.seq.specs.Tests.{never}
use Rattle.seq.specs.Search.{lead-trail, lead_has, trail}
use Rattle.paper.specs.Plane.{Pt, same, the_left_by}
use Rattle.laws_plane.specs.Points.{same_self, same_equal}
use Rattle.laws_plane.specs.Ends.{corner-lowest}
use Rattle.laws_plane.specs.Edges.{On, on_foot}
use Rattle.laws_sweep.specs.Sweep.{Strand, lo, right, on, starts_at, west_of, through, east_of}
use Rattle.laws_sweep.specs.Scene.{Scene, Cut, State}
use Rattle.laws_sweep.specs.Next.{v_lowest, is_0, on_at_lem, through-cut}
use Rattle.laws_sweep.specs.Waiting.{Waiting}
use Rattle.laws_sweep.specs.Turn.{side}

module _ (es : List Strand) (corners stops : List Pt) (S : Scene es corners stops) (p : Pt) (v : Pt) (vs rest : List Pt) (s : List Strand) (I : State es corners stops p (v ∷ vs) (v ∷ rest) s)
    (w : List Strand) (L : Waiting es p w) where
  abbrev R : List Strand
  R = trail (right v) s

  -- the three parts of the status
  pub parts : west_of v s ++ (through v s ++ east_of v s) ≡ s
  parts = ap (λ (l : List Strand). west_of v s ++ l) (lead-trail (on v) R) ∙ lead-trail (right v) s

  through_in : (z : Strand) → Among z (through v s) → Among z s
  through_in z i = subst (Among z) parts (++-among z (west_of v s) (through v s ++ east_of v s) (inr (++-among z (through v s) (east_of v s) (inl i))))

  -- ── those that go through it ──

  pub through_on : (z : Strand) → Among z (through v s) → On z.seg v
  through_on z i = on_at_lem es corners stops S p v vs (v ∷ rest) s I z (I.cut z (through_in z i)) (is_0 (the_left_by z.seg v) (zer_is (side v z) (lead_has (on v) R z i)))

  pub start_on : (z : Strand) → Among z es → starts_at v z ≡ true → On z.seg v
  start_on z i b =
      let e : lo z ≡ v = same_equal (lo z) v (corner-lowest z.seg.foot) (v_lowest es corners stops S p v vs (v ∷ rest) s I) b in
      subst (On z.seg) e (on_foot z.seg (S.rises z i))

  -- ── and no others ──

  pub west_off : (z : Strand) → Among z (west_of v s) → On z.seg v → ⊥
  west_off z i o = never (ap (λ (k : ℤ). is_neg (sgn k)) (sym o.line) ∙ lead_has (right v) s z i)

  -- one through v starts there, or the line cuts it
  pub on_next : (z : Strand) → Among z es → On z.seg v → (starts_at v z ≡ true) ⊎ Cut es p z
  on_next z i o =
      ⊎_elim (λ e. inl (subst (λ (q : Pt). same (lo z) q ≡ true) e (same_self (lo z)))) (λ c. inr c) (through-cut es corners stops S p v vs (v ∷ rest) s I z i o)
