-- The crossing of two neighbours, if it is ahead, put into the queue. Assumes nothing.
use Rattle.std.specs.Prelude.{◌≡◌, refl, ◌≤◌, ◌<◌, ◌∷◌, ◌++◌, ◌+◌, ◌-◌, ◌*◌}
use Rattle.std.proofs.Common.{sym, ◌∙◌, ap, subst, ⊎_elim, arith}
use Rattle.std.proofs.Math.Decide.{dec_lt}
use Rattle.exact.specs.Lowest.{Pt}
use Rattle.seq.specs.Seq.{Bool, true, false, cond, List, [], ℕ, ℤ, least, ltb, eqb, length, optional, insert_by}
use Rattle.seq.specs.Terms.{Among, Rising, Ordered, Transitive}
use Rattle.seq.specs.Members.{in_every}
use Rattle.seq.specs.Sorted.{insert-ordered, ordered-rising, rising-ordered}
use Rattle.laws_plane.specs.Points.{before_trans}
use Rattle.seq.specs.Inserted.{kept_from}
use Rattle.paper.specs.Plane.{Seg, before, crossing}
use Rattle.plane.specs.Bounds.{Near}
use Rattle.graph.specs.Flat.{Points, the_point_at, carrier_at}
use Rattle.overlay_cut.specs.Capped.{capped_less, capped_full, put_all, put_all-++, insert_slow}
use Rattle.overlay_cut.specs.Rooms.{vertex_rows}
use Rattle.seq.specs.Kept.{kept}
use Rattle.overlay_cut.specs.Cuts.{start_of}
use Rattle.paper.specs.Limits.{maps}
use Rattle.laws_sweep.specs.Sweep.{Strand, ahead}
use Rattle.seq.specs.Halves.{Lasts}
use Rattle.overlay_sweep.specs.Falling.{length-falling, falling_first, falling-among, among-falling, falling-rises}
use Rattle.overlay_sweep.specs.Queue.{the_before_at, queue_of, queued}

-- the map that edge k is of: the first whose edges end after it; and the edge
abbrev pub the_map_at : List ℕ → ℕ → ℕ
the_map_at starts k = least (λ m. ltb k (start_of starts (m + 1))) maps

abbrev pub strand_at : List ℤ → List ℕ → ℕ → Strand
strand_at cs starts k = record { of = the_map_at starts k; seg = carrier_at cs k }

-- the queue: n rows of points, the last the first in point order, with room for as many as the overlay may have
pub record Room (t : List ℤ) (n : ℕ) : Type 0 where
  pub points : Points t n
  pub room : 4 * vertex_rows ≤ length t
  pub rising : Rising before (queue_of t n)

-- points put into the queue, as far as there is room
abbrev pub queued_all : List Pt → List Pt → List Pt
queued_all xs l = put_all before (λ q r. r) vertex_rows l xs

-- the first r rows of u are those of t with the points xs in their places, and are points
pub record Queued (xs : List Pt) (t : List ℤ) (n : ℕ) (u : List ℤ) (r : ℕ) : Type 0 where
  pub rows : Room u r
  pub is : queue_of u r ≡ queued_all xs (queue_of t n)

pub queued_none : (t : List ℤ) (n : ℕ) → Room t n → Queued [] t n t n
queued_none t n h = record { rows = h; is = refl }

pub requeued : {xs ys : List Pt} {t : List ℤ} {n : ℕ} {u : List ℤ} {r : ℕ} → xs ≡ ys → Queued xs t n u r → Queued ys t n u r
requeued {xs} {ys} {t} {n} {u} {r} e q = subst (λ (l : List Pt). Queued l t n u r) e q

-- one after the other
pub queued_on : {xs ys : List Pt} {t : List ℤ} {n : ℕ} {u : List ℤ} {r : ℕ} {v : List ℤ} {k : ℕ} → Queued xs t n u r → Queued ys u r v k → Queued (ys ++ xs) t n v k
queued_on {xs} {ys} {t} {n} f g = record { rows = g.rows; is = g.is ∙ ap (queued_all ys) f.is ∙ sym (put_all-++ before (λ q r. r) vertex_rows (queue_of t n) ys xs) }

trans : Transitive before Near
trans x y z lx ly lz = before_trans x y z lx.positive ly.positive lz.positive

-- without its next stop
pub room_less : {t : List ℤ} {n : ℕ} → Room t n → 0 < n → Room t (n - 1)
room_less {t} {n} h l = record {
  points = record { long = omega (arith, h.points.long); near = λ v k. h.points.near v (omega arith) };
  room = h.room;
  rising = (subst (Rising before) (falling_first (the_point_at t) n l) h.rising).1;
}

-- where a row comes before q, those from there on do: each point has its place
pub room_lasts : (t : List ℤ) (n : ℕ) → Room t n → (q : Pt) → Near q → Lasts (the_before_at t q) n
room_lasts t n h q near i j l k f =
    trans (the_point_at t j) (the_point_at t i) q (h.points.near j k) (h.points.near i (omega arith)) near (falling-rises before (the_point_at t) n h.rising i j l k) f

module _ (t u : List ℤ) (n r : ℕ) (q : Pt) (h : Room t n) (near : Near q) (kept : length u ≡ length t) (e : queue_of u r ≡ queued vertex_rows q (queue_of t n)) where
  all_near : (z : Pt) → Among z (queue_of u r) → Near z
  all_near z i =
      elim (dec_lt n vertex_rows) [
        | yes l ↦ ⊎_elim (λ f. subst Near (sym f) near) old (kept_from before (λ q r. r) (λ p r. refl) q z (queue_of t n)
            (subst (Among z) (e ∙ capped_less vertex_rows (insert_by before (λ q r. r) q) (queue_of t n) (omega (arith, length-falling (the_point_at t) n))) i))
        | no l ↦ old (subst (Among z) (e ∙ capped_full vertex_rows (insert_by before (λ q r. r) q) (queue_of t n) (omega (arith, length-falling (the_point_at t) n))) i)
      ]
    where
      old : Among z (queue_of t n) → Near z
      old j = let (c, s, f) = falling-among (the_point_at t) n z j in subst Near f (h.points.near c s)

  count : 4 * r ≤ length u
  count =
      let lt = length-falling (the_point_at t) n in
      let lu = length-falling (the_point_at u) r in
      let long = h.points.long in let room = h.room in
      elim (dec_lt n vertex_rows) [
        | yes l ↦ omega (arith, (insert_slow before (λ q r. r) q).slowly (queue_of t n), ap length (e ∙ capped_less vertex_rows (insert_by before (λ q r. r) q) (queue_of t n) (omega (arith, lt))), lt, lu)
        | no l ↦ omega (arith, ap length (e ∙ capped_full vertex_rows (insert_by before (λ q r. r) q) (queue_of t n) (omega (arith, lt))), lt, lu)
      ]

  rises : Rising before (queue_of u r)
  rises =
      elim (dec_lt n vertex_rows) [
        | yes l ↦ ordered-rising before Near trans (queue_of u r) (in_every Near (queue_of u r) all_near)
            (subst (Ordered before) (sym (e ∙ capped_less vertex_rows (insert_by before (λ q r. r) q) (queue_of t n) (omega (arith, length-falling (the_point_at t) n))))
            (insert-ordered before (λ q r. r) q (record { after = λ y r u v e. e; ahead = λ r y u v e. e }) (queue_of t n) (rising-ordered before (queue_of t n) h.rising)))
        | no l ↦ subst (Rising before) (sym (e ∙ capped_full vertex_rows (insert_by before (λ q r. r) q) (queue_of t n) (omega (arith, length-falling (the_point_at t) n)))) h.rising
      ]

  pub queued_one : Queued (q ∷ []) t n u r
  queued_one =
      let room = h.room in
      record { rows = record { points = record { long = count; near = λ v l. all_near (the_point_at u v) (among-falling (the_point_at u) r v l) }; room = omega arith; rising = rises }; is = e }

-- ── what is ahead ──

module _ (p : Pt) (s t : Seg) where
  abbrev pub cross_ahead : List Pt
  cross_ahead = kept (before p) (optional (crossing s t))

pub ahead_same : (p : Pt) (e f : Strand) → eqb e.of f.of ≡ true → ahead p e f ≡ []
ahead_same p e f h = ap (λ (b : Bool). cond b [] (cross_ahead p e.seg f.seg)) h

pub ahead_other : (p : Pt) (e f : Strand) → eqb e.of f.of ≡ false → ahead p e f ≡ cross_ahead p e.seg f.seg
ahead_other p e f h = ap (λ (b : Bool). cond b [] (cross_ahead p e.seg f.seg)) h
