-- Of Stops of specs/, what rests on its definitions.
use Rattle.std.specs.Prelude.{◌≡◌, ◌-ℤ◌, ◌*ℤ◌, ◌<ℤ◌, ◌∷◌}
use Rattle.std.proofs.Math.Path.{refl, ap, subst}
use Rattle.std.proofs.Common.{◌∙◌}
use Rattle.seq.specs.Seq.{List, [], ℕ, zero, suc, take}
use Rattle.seq.specs.Search.{trail}
use Rattle.seq.specs.Slotted.{slots}
use Rattle.paper.specs.Plane.{Pt}
use Rattle.laws_sweep.specs.Sweep.{Strand, lo, starts_at, sooner, status, found, put, sweep}
use Rattle.laws_sweep.specs.Scene.{Scene, State}
use Rattle.laws_sweep.specs.Next.{queue_next, queue-done}
use Rattle.laws_sweep.specs.Waiting.{Waiting, waits, waits_on}
use Rattle.laws_sweep.proofs.Step.{stepped}
use Rattle.laws_sweep.specs.Stops.{begins, start_by}

module _ (es : List Strand) (corners stops : List Pt) (S : Scene es corners stops) where
  -- ── a step at a time ──

  pub swept_left : (n : ℕ) (p : Pt) (left queue : List Pt) (s w : List Strand) → State es corners stops p left queue s → Waiting es p w → sweep n w queue s ≡ take n left
  unfolding sweep
  swept_left zero p left queue s w I L = refl
  swept_left (suc n) p [] queue s w I L = ap (λ (q : List Pt). sweep (suc n) w q s) (queue-done es corners stops p queue s I)
  swept_left (suc n) p (v ∷ vs) queue s w I L =
      let (rest, e) = queue_next es corners stops S p v vs queue s I in
      let J = subst (λ (q : List Pt). State es corners stops p (v ∷ vs) q s) e I in
      ap (λ (q : List Pt). sweep (suc n) w q s) e
      ∙ ap (λ (l : List Pt). v ∷ l)
      (swept_left n v vs (put (found w v s) rest) (status w v s) (trail (starts_at v) w) (stepped es corners stops S p v vs rest s J w L) (waits_on es corners stops S p v vs (v ∷ rest) s J w L))

  -- ── the start ──

  -- the line stops at the first n stops
  pub stops-swept : (n : ℕ) → sweep n (slots sooner [] es) corners [] ≡ take n stops
  stops-swept n =
      let (p, h, b) = begins es corners stops S stops refl in
      swept_left n p stops corners [] (slots sooner [] es) (start_by es corners stops S p h b) (waits es p (λ z i. b (lo z) (S.corner_in_lem (lo z) (S.low_in z i))))
