-- Of Through of specs/, what rests on its definitions.
use Rattle.std.specs.Prelude.{◌≡◌, ◌⊎◌, ◌∷◌, ◌++◌}
use Rattle.std.proofs.Common.{sym, ◌∙◌, ap, subst, inl, inr, ⊎_elim}
use Rattle.exact.specs.Sign.{sgn, is_zer}
use Rattle.seq.specs.Seq.{true, List, ℤ}
use Rattle.seq.specs.Terms.{Among}
use Rattle.seq.specs.Members.{among-++}
use Rattle.seq.specs.Tests.{never}
use Rattle.paper.specs.Plane.{Pt}
use Rattle.laws_plane.specs.Edges.{On}
use Rattle.laws_sweep.specs.Sweep.{Strand, starts_at, west_of, through, east_of}
use Rattle.laws_sweep.specs.Scene.{Scene, State}
use Rattle.laws_sweep.specs.Waiting.{Waiting}
use Rattle.laws_sweep.proofs.Step.{step-turn}
use Rattle.laws_sweep.specs.Through.{parts, on_next, west_off}

module _ (es : List Strand) (corners stops : List Pt) (S : Scene es corners stops) (p : Pt) (v : Pt) (vs rest : List Pt) (s : List Strand) (I : State es corners stops p (v ∷ vs) (v ∷ rest) s)
    (w : List Strand) (L : Waiting es p w) where
  -- ── and no others ──

  pub east_off : (z : Strand) → Among z (east_of v s) → On z.seg v → ⊥
  east_off z i o = never (ap is_zer (sym ((step-turn es corners stops S p v vs rest s I w L).east_is z i)) ∙ ap (λ (k : ℤ). is_zer (sgn k)) o.line)

  pub on_through : (z : Strand) → Among z es → On z.seg v → (starts_at v z ≡ true) ⊎ Among z (through v s)
  on_through z i o = ⊎_elim (λ b. inl b) (λ c. inr (middle (among-++ z (west_of v s) (through v s ++ east_of v s) (subst (Among z) (sym (parts es corners stops S p v vs rest s I w L)) (I.cut_has z c))))) (on_next es corners stops S p v vs rest s I w L z i o)
    where
      middle : Among z (west_of v s) ⊎ Among z (through v s ++ east_of v s) → Among z (through v s)
      middle (inl j) = absurd (west_off es corners stops S p v vs rest s I w L z j o)
      middle (inr j) = ⊎_elim (λ k. k) (λ k. absurd (east_off z k o)) (among-++ z (through v s) (east_of v s) j)
