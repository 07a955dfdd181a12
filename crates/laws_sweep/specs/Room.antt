-- Room: what the line has met and what is in the queue are never more than there are stops (`met_room`), and a table that
-- is full says that there are more. With an empty queue all has been met (`met_all`). Assumes nothing.
use Rattle.std.specs.Prelude.{◌≡◌, refl, ◌≤◌, ◌∷◌, ◌++◌}
use Rattle.std.proofs.Common.{sym, ◌∙◌, ap, append-nil, arith, length-append}
use Rattle.seq.specs.Seq.{List, [], ℕ, length}
use Rattle.seq.specs.Fewer.{fewer, rising_each}
use Rattle.paper.specs.Plane.{Pt, before}
use Rattle.laws_sweep.specs.Sweep.{Strand}
use Rattle.laws_sweep.specs.Scene.{Scene, State}
use Rattle.laws_sweep.specs.Next.{queue_next}
use Rattle.laws_plane.specs.Points.{before_asymmetric}

module _ (es : List Strand) (corners stops : List Pt) (S : Scene es corners stops) (p : Pt) (met left queue : List Pt) (s : List Strand) (I : State es corners stops p left queue s) (e : stops ≡ met ++ left) where
  -- what is met and what is queued are no more than the stops
  pub met_room : length (met ++ queue) ≤ length stops
  met_room =
      let h : length queue ≤ length left = fewer queue left (rising_each before before_asymmetric queue I.queue-rising) I.queue_in in
      omega (arith, length-append met queue, length-append met left, ap length e)

-- with an empty queue everything has been met
pub left_done : (es : List Strand) (corners stops : List Pt) → Scene es corners stops → (p : Pt) (left : List Pt) (s : List Strand) → State es corners stops p left [] s → left ≡ []
left_done es corners stops S p [] s I = refl
left_done es corners stops S p (v ∷ vs) s I = absurd (let (rest, e) = queue_next es corners stops S p v vs [] s I in (let z : ◌≡◌ {A = ℕ} 0 1 = cc in omega arith))

pub met_all : (es : List Strand) (corners stops : List Pt) → Scene es corners stops → (p : Pt) (met left : List Pt) (s : List Strand) → State es corners stops p left [] s → stops ≡ met ++ left → met ≡ stops
met_all es corners stops S p met left s I e = sym (e ∙ ap (λ (l : List Pt). met ++ l) (left_done es corners stops S p left s I) ∙ append-nil met)
