-- The queue: points in falling order in a table, so that the next stop of the line is its last row (`queue_of`). A point's place is the first row that comes before it (`Place`); with the rows
-- from there on moved up by one and the point stored, the queue has it too (`queue_new`). Assumes nothing.
use Rattle.std.specs.Prelude.{◌≡◌, refl, ◌≤◌, ◌<◌, ◌∷◌, ◌+◌, ◌-◌, ◌*◌}
use Rattle.std.proofs.Common.{sym, ◌∙◌, ap, subst, add-one, arith}
use Rattle.std.proofs.Math.Decide.{dec_lt}
use Rattle.exact.specs.Lowest.{Pt}
use Rattle.seq.specs.Seq.{Bool, true, false, not, List, [], ℕ, suc, ℤ, pos, length, get_or, cell, row_stored, insert_by}
use Rattle.seq.specs.Tests.{clash, was-true, was-false}
use Rattle.seq.specs.Halves.{Lasts, Halving}
use Rattle.paper.specs.Plane.{before}
use Rattle.laws_plane.specs.Points.{before_asym}
use Rattle.graph.specs.Flat.{the_point_at}
use Rattle.overlay_cut.specs.Capped.{capped, capped_less, capped_full}
use Rattle.seq.specs.Loops.Lifting.{lifted}
use Rattle.seq.specs.RowInserted.{cell_below, cell_new, cell-moved}
use Rattle.overlay_cut.specs.Points.{read-ext}
use Rattle.overlay_sweep.specs.Falling.{falling, length-falling, falling-insert, falling_old}

-- the points in n rows, the last first
abbrev pub queue_of : List ℤ → ℕ → List Pt
queue_of t n = falling (the_point_at t) n

-- row j comes before p
abbrev pub the_before_at : List ℤ → Pt → ℕ → Bool
the_before_at t p j = before (the_point_at t j) p

-- a is the first of n rows that comes before p, or n: those below do not, and those from there on do
pub record Place (t : List ℤ) (p : Pt) (n a : ℕ) : Type 0 where
  pub within : a ≤ n
  pub behind : (k : ℕ) → k < a → the_before_at t p k ≡ false
  pub ahead : (k : ℕ) → a ≤ k → k < n → the_before_at t p k ≡ true

-- a search by halves ends there
pub place_by_lem : (t : List ℤ) (p : Pt) (n : ℕ) → Lasts (the_before_at t p) n → {a b : ℕ} → Halving (the_before_at t p) n a b → b ≤ a → Place t p n a
place_by_lem t p n up {a} {b} h l =
    let e : b ≡ a = omega (arith, h.ordered) in
    let at : a < n → the_before_at t p a ≡ true = λ q. subst (λ (k : ℕ). the_before_at t p k ≡ true) e (h.holds (omega arith)) in
    record {
      within = omega (arith, h.within);
      behind = h.fails;
      ahead = λ k r q. elim (dec_lt a k) [ yes s ↦ up a k s q (at (omega arith)) | no s ↦ let f : a ≡ k = omega arith in subst (λ (j : ℕ). the_before_at t p j ≡ true) f (at (omega arith)) ];
    }

-- whether p stands in the row below its place a: where it does not come before that row
pub data Stands (t : List ℤ) (a : ℕ) (p : Pt) : Bool → Type 0 where
  there : 0 < a → before p (the_point_at t (a - 1)) ≡ false → Stands t a p true
  not_there : (0 < a → before p (the_point_at t (a - 1)) ≡ true) → Stands t a p false

pub stands_by : (t : List ℤ) (a : ℕ) (p : Pt) → 0 < a → (b : Bool) → b ≡ not (before p (the_point_at t (a - 1))) → Stands t a p b
stands_by t a p h true e = there h (was-false (before p (the_point_at t (a - 1))) (sym e))
stands_by t a p h false e = not_there (λ l. was-true (before p (the_point_at t (a - 1))) (sym e))

pub stands_yes : (t : List ℤ) (a : ℕ) (p : Pt) (b : Bool) → Stands t a p b → b ≡ true → (0 < a) × (before p (the_point_at t (a - 1)) ≡ false)
stands_yes t a p true (there h e) f = (h, e)
stands_yes t a p false (not_there g) f = absurd (clash f refl)

pub stands_no : (t : List ℤ) (a : ℕ) (p : Pt) (b : Bool) → Stands t a p b → b ≡ false → 0 < a → before p (the_point_at t (a - 1)) ≡ true
stands_no t a p true (there h e) f = absurd (clash refl f)
stands_no t a p false (not_there g) f = g

-- with p in its place, each point once, where there is room
abbrev pub queued : ℕ → Pt → List Pt → List Pt
queued cap p l = capped cap (insert_by before (λ q r. r) p) l

-- a point as a row, with any number in the spare cell
abbrev pub row_of : Pt → ℤ → List ℤ
row_of p h = p.X ∷ p.Y ∷ p.D ∷ h ∷ []

module _ (cap : ℕ) (t : List ℤ) (n : ℕ) (p : Pt) where
  long : length (queue_of t n) ≡ n
  long = length-falling (the_point_at t) n

  pub queue_full : cap ≤ n → queue_of t n ≡ queued cap p (queue_of t n)
  queue_full h = sym (capped_full cap (insert_by before (λ q r. r) p) (queue_of t n) (omega (arith, long)))

  module _ (few : n < cap) (r : ℕ) (s : Place t p n r) where
    less : insert_by before (λ q r. r) p (queue_of t n) ≡ queued cap p (queue_of t n)
    less = sym (capped_less cap (insert_by before (λ q r. r) p) (queue_of t n) (omega (arith, long)))

    -- it is there
    pub queue_old : 0 < r → before p (the_point_at t (r - 1)) ≡ false → queue_of t n ≡ queued cap p (queue_of t n)
    queue_old h e = sym (falling_old before before_asym p (the_point_at t) n r s.within h s.ahead (s.behind (r - 1) (omega arith)) e) ∙ less

    -- it is not
    module _ (new : 0 < r → before p (the_point_at t (r - 1)) ≡ true) (room : 4 * n + 4 ≤ length t) where
      pub queue_new : (u v : List ℤ) (q : Pt) (h : ℤ) → q ≡ p → u ≡ lifted (4 * r) (4 * n) 4 t → v ≡ row_stored 4 u r (row_of q h) → queue_of v (n + 1) ≡ queued cap p (queue_of t n)
      queue_new u v q h f g e =
          ap (λ (w : List ℤ). queue_of w (n + 1)) (e ∙ (λ i. row_stored 4 (g i) r (row_of (f i) h)))
          ∙ ap (queue_of w) (add-one n) ∙ falling-insert before before_asym p (the_point_at t) (the_point_at w) n r s.within
          (λ k l. read-ext (cells_of w k) (cells_of t k) (λ j o. cell_below 4 t n r vs refl s.within room k j (pos 0) o l))
          (read-ext (cells_of w r) (λ j. get_or vs j (pos 0)) (λ j o. cell_new 4 t n r vs refl s.within room j (pos 0) o))
          (λ k l m. read-ext (cells_of w (suc k)) (cells_of t k) (λ j o. cell-moved 4 t n r vs refl s.within room k j (pos 0) o l m)) s.ahead new ∙ less
        where
          vs : List ℤ
          vs = row_of p h

          w : List ℤ
          w = row_stored 4 (lifted (4 * r) (4 * n) 4 t) r vs

          cells_of : List ℤ → ℕ → ℕ → ℤ
          cells_of l k j = cell (pos 0) 4 l k j
