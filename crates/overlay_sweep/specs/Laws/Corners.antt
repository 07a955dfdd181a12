-- The corners put into the queue, the last first. Assumes nothing.
use Rattle.std.specs.Prelude.{◌≡◌, refl, ◌≤◌, ◌<◌, ◌∷◌, ◌-◌, ◌*◌}
use Rattle.std.proofs.Common.{sym, ◌∙◌, ap, arith, drop-cons}
use Rattle.std.proofs.Math.Seq.{drop-length}
use Rattle.exact.specs.Lowest.{Pt}
use Rattle.seq.specs.Seq.{List, ℕ, suc, ℤ, length, drop}
use Rattle.seq.specs.Table.{length-table, table_at}
use Rattle.graph.specs.Flat.{the_point_at}
use Rattle.plane.specs.Bounds.{Near}
use Rattle.overlay_cut.specs.Rooms.{vertex_rows}
use Rattle.overlay_cut.specs.Points.{points_of, no_point}
use Rattle.overlay_sweep.specs.Queue.{queue_of, queued}
use Rattle.overlay_sweep.specs.Ahead.{Queued, queued_none, queued_one, queued_on, requeued}

-- t is what the loop has made of t₀ where it is down to row v
pub record Cornered (cr : List ℤ) (c : ℕ) (t₀ t : List ℤ) (n v : ℕ) : Type 0 where
  pub within : v ≤ c
  pub kept : length t ≡ length t₀
  pub is : Queued (drop v (points_of cr c)) t₀ 0 t n

module _ {cr : List ℤ} {c : ℕ} {t₀ : List ℤ} where
  pub cornered_starts : 4 * vertex_rows ≤ length t₀ → Cornered cr c t₀ t₀ 0 c
  cornered_starts h = record {
    within = omega arith;
    kept = refl;
    is = requeued (sym (ap (λ (k : ℕ). drop k (points_of cr c)) (sym (length-table (the_point_at cr) c)) ∙ drop-length (points_of cr c)))
        (queued_none t₀ 0 (record { points = record { long = omega arith; near = λ v l. absurd (omega arith) }; room = h; rising = tt }));
  }

  pub cornered_turns : {t u : List ℤ} {n v r : ℕ} (q : Pt) → Cornered cr c t₀ t n v → 0 < v → q ≡ the_point_at cr (v - 1) → Near q → length u ≡ length t → queue_of u r ≡ queued vertex_rows q (queue_of t n) → Cornered cr c t₀ u r (v - 1)
  cornered_turns {t} {u} {n} {v} {r} q C h e near k f =
      let within = C.within in
      let s : suc (v - 1) ≡ v = omega arith in
      record {
        within = omega arith;
        kept = k ∙ C.kept;
        is = requeued
            (sym
            (drop-cons (points_of cr c) (v - 1) no_point (omega (arith, length-table (the_point_at cr) c))
            ∙ (λ i. (table_at (the_point_at cr) c (v - 1) no_point (omega arith) ∙ sym e) i ∷ drop (s i) (points_of cr c))))
            (queued_on C.is (queued_one t u n r q C.is.rows near k f));
      }

  pub cornered_ends : {t : List ℤ} {n v : ℕ} → Cornered cr c t₀ t n v → v ≤ 0 → Queued (points_of cr c) t₀ 0 t n
  cornered_ends {t} {n} {v} C h = let e : v ≡ 0 = omega arith in requeued (ap (λ (k : ℕ). drop k (points_of cr c)) e) C.is
