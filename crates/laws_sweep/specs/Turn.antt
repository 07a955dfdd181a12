-- A step of the sweep keeps its state (`turned`), however it is made: the line goes from p to the next stop v, and the edges through v are exchanged for those that leave it upward. `Turn` is what
-- a step has to bring about. In order: that; what the line cuts just above v; the new order; the new queue; the neighbours. Assumes nothing.
use Rattle.std.specs.Prelude.{◌≡◌, ◌⊎◌, ◌<ℤ◌, ◌∷◌, ◌++◌}
use Rattle.std.proofs.Common.{◌∙◌}
use Rattle.exact.specs.Sign.{Sign, neg, zer, plus, sgn}
use Rattle.seq.specs.Seq.{true, List, pos}
use Rattle.seq.specs.Terms.{Among, Rising, Pairs}
use Rattle.seq.specs.Pairs.{Touching, pairs-map, first, last}
use Rattle.paper.specs.Plane.{Pt, before, the_left_by}
use Rattle.laws_sweep.specs.Gap.{Upto}
use Rattle.laws_sweep.specs.Sweep.{Strand, the_goes_on, starts_at}
use Rattle.laws_sweep.specs.Scene.{Scene, Tested, WestAt, Cut, State, reaches}
use Rattle.laws_sweep.specs.Next.{v_ahead, v_real, v_free}
use Rattle.laws_sweep.specs.Slots.{Wide}
use Rattle.laws_sweep.specs.Queue.{Joint}

abbrev pub side : Pt → Strand → Sign
side v e = sgn (the_left_by e.seg v)

-- the step to v, from the queue v ∷ rest and the status s: west of v, through it, east of it, leaving it; the new queue
pub record Turn (es : List Strand) (v : Pt) (rest : List Pt) (s W H E M : List Strand) (Q : List Pt) : Type 0 where
  pub parts : W ++ (H ++ E) ≡ s
  pub west_is : (z : Strand) → Among z W → side v z ≡ neg
  pub through_is : (z : Strand) → Among z H → side v z ≡ zer
  pub east_is : (z : Strand) → Among z E → side v z ≡ plus
  -- what leaves v goes on there or starts there, and stands in a fan
  pub leaves : (z : Strand) → Among z M → (Among z H × (the_goes_on v z ≡ true)) ⊎ (Among z es × (starts_at v z ≡ true))
  pub stays : (z : Strand) → Among z H → the_goes_on v z ≡ true → Among z M
  pub starts : (z : Strand) → Among z es → starts_at v z ≡ true → Among z M
  pub fanned : Pairs Wide M
  -- the queue is the rest with what new neighbours have ahead
  pub queue-rising : Rising before Q
  pub queue_from : (z : Pt) → Among z Q → Among z rest ⊎ (Joint v W (M ++ E) z ⊎ Joint v M E z)
  pub queue-keeps : (z : Pt) → Among z rest → Among z Q
  pub west-tested : Touching (Tested v Q) (last W) (first (M ++ E))
  pub east-tested : Touching (Tested v Q) (last M) (first E)

-- ── the order of the status at v ──

module _ (es : List Strand) (corners stops : List Pt) (S : Scene es corners stops) (p : Pt) (v : Pt) (vs queue : List Pt) (s : List Strand) (I : State es corners stops p (v ∷ vs) queue s) where
  pub upto_v : Pairs (λ e f. Upto v e.seg f.seg) s
  upto_v =
      pairs-map (WestAt p) (λ e f. Upto v e.seg f.seg) s
      (λ x y i j w. reaches es corners stops S p I.real v (v_real es corners stops S p v vs queue s I) (v_ahead es corners stops S p v vs queue s I) (v_free es corners stops S p v vs queue s I) x y (I.cut x i) (I.cut y j) w) I.sorted

module _ (es : List Strand) (corners stops : List Pt) (S : Scene es corners stops) (p : Pt) (v : Pt) (vs rest : List Pt) (s : List Strand) (I : State es corners stops p (v ∷ vs) (v ∷ rest) s) (W H E M : List Strand) (Q : List Pt) (T : Turn es v rest s W H E M Q) where
  -- ── what the line cuts just above v ──

  -- through v, and cut above it
  pub record Leaves (z : Strand) : Type 0 where
    pub cut : Cut es v z
    pub line : the_left_by z.seg v ≡ pos 0
