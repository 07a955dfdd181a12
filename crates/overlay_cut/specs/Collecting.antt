-- Points collected in a table: whether one stands there, one appended where it is new and there is room, and loops that collect lists end to end (`Gathering`).
-- Assumes nothing.
use Rattle.std.specs.Prelude.{◌≡◌, refl, ◌≤◌, ◌<◌, ℤ, pos, ◌∷◌, ◌++◌, ◌+◌, ◌*◌}
use Rattle.std.proofs.Common.{sym, ◌∙◌, ap, arith}
use Rattle.exact.specs.Lowest.{Pt}
use Rattle.seq.specs.Seq.{Bool, true, false, List, [], ℕ, length, get_or, cell, rows, the_some_below, row_stored, is_in, fresh}
use Rattle.seq.proofs.Least.{some_ext}
use Rattle.seq.specs.Collected.{fresh_old, fresh_new}
use Rattle.seq.proofs.Collected.{in_some}
use Rattle.seq.specs.Table.{length-table, table_at, table_more, table-ext}
use Rattle.seq.specs.Rows.{rows_more}
use Rattle.graph.specs.Flat.{the_point_at}
use Rattle.seq.specs.Cells.{row_same, row_other}
use Rattle.overlay_cut.specs.Capped.{capped_less, capped_full, collect_in, collect_in-++, collect_in-le}
use Rattle.overlay_cut.specs.Points.{points_of, no_point, equal, point_row, read-ext}

-- points collected in a table with room for cap of them
abbrev pub gathered : ℕ → List Pt → List Pt → List Pt
gathered cap l ps = collect_in equal cap l ps

-- ── whether a point stands in one of n rows ──

abbrev pub stands_among : List ℤ → ℕ → Pt → Bool
stands_among t n p = is_in equal p (points_of t n)

pub among-rows : (t : List ℤ) (n : ℕ) (p : Pt) → stands_among t n p ≡ the_some_below (λ k. equal p (the_point_at t k)) n
among-rows t n p =
    in_some equal p (points_of t n) no_point
    ∙ ap (the_some_below (λ k. equal p (get_or (points_of t n) k no_point))) (length-table (the_point_at t) n)
    ∙ some_ext (λ k. equal p (get_or (points_of t n) k no_point)) (λ k. equal p (the_point_at t k)) n (λ k h. ap (equal p) (table_at (the_point_at t) n k no_point h))

-- ── one point more ──

-- the row stored after the last
pub row_appended : (t : List ℤ) (n : ℕ) (p : Pt) → 4 * n + 4 ≤ length t → points_of (row_stored 4 t n (point_row p)) (n + 1) ≡ points_of t n ++ (p ∷ [])
row_appended t n p h =
    let u = row_stored 4 t n (point_row p) in
    table_more (the_point_at u) n
    ∙ (λ i. table-ext (the_point_at u) (the_point_at t) n
    (λ k l. read-ext (λ j. cell (pos 0) 4 u k j) (λ j. cell (pos 0) 4 t k j) (λ j q. row_other 4 t n (point_row p) refl k j (pos 0) q (λ e. omega arith))) i
    ++ (read-ext (λ j. cell (pos 0) 4 u n j) (λ j. get_or (point_row p) j (pos 0)) (λ j q. row_same 4 t n (point_row p) refl j (pos 0) q h) i ∷ []))

module _ (cap : ℕ) (t : List ℤ) (n : ℕ) (p : Pt) where
  abbrev one : List Pt → List Pt
  one l = fresh equal l p

  pub append_full : cap ≤ n → points_of t n ≡ gathered cap (points_of t n) (p ∷ [])
  append_full h = sym (capped_full cap one (points_of t n) (omega (arith, length-table (the_point_at t) n)))

  less : n < cap → one (points_of t n) ≡ gathered cap (points_of t n) (p ∷ [])
  less h = sym (capped_less cap one (points_of t n) (omega (arith, length-table (the_point_at t) n)))

  pub append_old : (b : Bool) → n < cap → b ≡ stands_among t n p → b ≡ true → points_of t n ≡ gathered cap (points_of t n) (p ∷ [])
  append_old b h d e = sym (fresh_old equal (points_of t n) p (sym d ∙ e)) ∙ less h

  pub append_new : (b : Bool) (u : List ℤ) (q : Pt) → n < cap → 4 * n + 4 ≤ length t → b ≡ stands_among t n p → b ≡ false → q ≡ p → u ≡ row_stored 4 t n (point_row q)
      → points_of u (n + 1) ≡ gathered cap (points_of t n) (p ∷ [])
  append_new b u q h room d e f g =
      (λ i. points_of ((g ∙ ap (λ (x : Pt). row_stored 4 t n (point_row x)) f) i) (n + 1)) ∙ row_appended t n p room ∙ sym (fresh_new equal (points_of t n) p (sym d ∙ e)) ∙ less h

-- ── lists end to end ──

-- t, with n points, is what a loop that collects f 0, f 1, .. f (e - 1) has made of d, with m points, before turn k
pub record Gathering (cap : ℕ) (f : ℕ → List Pt) (e : ℕ) (d : List ℤ) (m : ℕ) (t : List ℤ) (n k : ℕ) : Type 0 where
  pub turn : k ≤ e
  pub kept : length t ≡ length d
  pub within : n ≤ cap
  pub is : points_of t n ≡ gathered cap (points_of d m) (rows f k)

pub count_within : (cap : ℕ) (t u : List ℤ) (n m : ℕ) (ps : List Pt) → n ≤ cap → points_of u m ≡ gathered cap (points_of t n) ps → m ≤ cap
count_within cap t u n m ps h e =
    omega (arith, collect_in-le equal cap (points_of t n) ps (omega (arith, length-table (the_point_at t) n)), ap length e, length-table (the_point_at u) m)

module _ {cap : ℕ} {f : ℕ → List Pt} {e : ℕ} {d : List ℤ} {m : ℕ} where
  pub gather_starts : m ≤ cap → Gathering cap f e d m d m 0
  gather_starts h = record { turn = omega arith; kept = refl; within = h; is = refl }

  module _ {t : List ℤ} {n k : ℕ} (r : Gathering cap f e d m t n k) where
    pub gather_turns : {u : List ℤ} {j : ℕ} → k < e → length u ≡ length t → points_of u j ≡ gathered cap (points_of t n) (f k) → Gathering cap f e d m u j (k + 1)
    gather_turns {u} {j} h l q = record {
      turn = omega arith;
      kept = l ∙ r.kept;
      within = count_within cap t u n j (f k) r.within q;
      is = q ∙ ap (λ (x : List Pt). gathered cap x (f k)) r.is ∙ sym (collect_in-++ equal cap (points_of d m) (rows f k) (f k)) ∙ ap (gathered cap (points_of d m)) (sym (rows_more f k));
    }

    pub gather_ends : e ≤ k → points_of t n ≡ gathered cap (points_of d m) (rows f e)
    gather_ends h = let q : k ≡ e = omega (arith, r.turn) in r.is ∙ ap (λ (j : ℕ). gathered cap (points_of d m) (rows f j)) q
