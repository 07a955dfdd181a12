-- The ends of the pieces that stay marked:    for k in 0..m { if p(k) { t[f(k).lo] = 1; t[f(k).hi] = 1 } }
-- Before turn k a cell is 1 exactly if its number is an end of a piece below k that has p. Then counts and lists by marks. Assumes nothing.
use Rattle.std.specs.Prelude.{◌≡◌, refl, ◌≤◌, ◌<◌, set, ◌||◌, ◌∷◌, ◌++◌, ◌+◌}
use Rattle.std.proofs.Common.{sym, ◌∙◌, ap, arith, eq-eqb, ne_eqb, length-set, get_or-set_same, get_or-set_other}
use Rattle.std.proofs.lemmas.List.{map-append}
use Rattle.std.proofs.Math.Decide.{ℕ_discrete}
use Rattle.seq.specs.Seq.{Bool, true, false, List, [], map, ℕ, eqb, ltb, length, get_or, select}
use Rattle.seq.specs.Tests.{bool-ext}
use Rattle.seq.specs.Members.{at_among, among_at}
use Rattle.seq.proofs.Least.{some_has, some_witness}
use Rattle.seq.specs.Kept.{the_some_of, some_end, some_of, some_from}
use Rattle.seq.specs.Select.{select_more, select-skip}
use Rattle.seq.specs.Filled.{Holds}
use Rattle.paper.specs.Pieces.{Piece}
use Rattle.paper.specs.Melt.{is_end}
use Rattle.overlay_cut.specs.PieceRows.{no_piece}
use Rattle.thin.specs.Thinned.{flag, marked, Ends}

-- ── an end of one of the pieces ──

abbrev ends : ℕ → Piece → Bool
ends v p = eqb p.lo v || eqb p.hi v

end_some : (ps : List Piece) (v : ℕ) → is_end ps v ≡ the_some_of (ends v) ps
end_some ps v =
    bool-ext (is_end ps v) (the_some_of (ends v) ps)
    (λ e. let (k, l, q) = some_witness (λ k. ends v (get_or ps k no_piece)) (length ps) e in some_of (ends v) ps (get_or ps k no_piece) (at_among ps k no_piece l) q)
    (λ e. let (z, i, q) = some_from (ends v) ps e in let (k, l, g) = among_at z ps no_piece i in
    some_has (λ k. ends v (get_or ps k no_piece)) (length ps) k l (ap (ends v) g ∙ q))

-- one piece more
end_more : (ps : List Piece) (p : Piece) (v : ℕ) → is_end (ps ++ (p ∷ [])) v ≡ (is_end ps v || (eqb p.lo v || eqb p.hi v))
end_more ps p v = end_some (ps ++ (p ∷ [])) v ∙ some_end (ends v) ps p ∙ ap (λ (b : Bool). b || ends v p) (sym (end_some ps v))

-- ── a mark stored ──

mark_one : (t : List ℕ) (x v : ℕ) (b : Bool) → x < length t → get_or t v 0 ≡ flag b → get_or (set t x 1) v 0 ≡ flag (b || eqb x v)
mark_one t x v b l e =
    elim (ℕ_discrete x v) [
      | yes q ↦ ap (get_d_of (set t x 1)) (sym q) ∙ get_or-set_same t x 1 0 l ∙ sym (ap (λ (c : Bool). flag (b || c)) (eq-eqb x v q) ∙ or_true b)
      | no q ↦ get_or-set_other t x v 1 0 (λ r. q (sym r)) ∙ e ∙ sym (ap (λ (c : Bool). flag (b || c)) (ne_eqb x v q) ∙ or_none b)
    ]
  where
    get_d_of : List ℕ → ℕ → ℕ
    get_d_of u i = get_or u i 0

    or_true : (b : Bool) → flag (b || true) ≡ 1
    or_true true = refl
    or_true false = refl

    or_none : (b : Bool) → flag (b || false) ≡ flag b
    or_none true = refl
    or_none false = refl

or_assoc : (a b c : Bool) → ((a || b) || c) ≡ (a || (b || c))
or_assoc true b c = refl
or_assoc false b c = refl

-- in a longer table too the ends have cells
pub ends_more : {pieces : List ℕ} {n m k : ℕ} → Ends pieces n k → n ≤ m → Ends pieces m k
ends_more e h = record { row = e.row; lower = omega (arith, e.lower); upper = omega (arith, e.upper) }

-- t is what the loop has made of d before turn k
pub record Marking (p : ℕ → Bool) (f : ℕ → Piece) (n m : ℕ) (d t : List ℕ) (k : ℕ) : Type 0 where
  pub room : n ≤ length d
  pub within : k ≤ m
  pub kept : length t ≡ length d
  pub at : (v : ℕ) → v < n → get_or t v 0 ≡ flag (is_end (map f (select p k)) v)

module _ {p : ℕ → Bool} {f : ℕ → Piece} {n m : ℕ} {d : List ℕ} where
  pub mark_starts : Holds (λ v. 0) d n → Marking p f n m d d 0
  mark_starts h = record { room = h.long; within = omega arith; kept = refl; at = h.at }

  module _ {t : List ℕ} {k : ℕ} (r : Marking p f n m d t k) where
    pub mark-takes : {u : List ℕ} → k < m → p k ≡ true → (f k).lo < n → (f k).hi < n → u ≡ set (set t (f k).lo 1) (f k).hi 1 → Marking p f n m d u (k + 1)
    mark-takes {u} l e a b q = record {
      room = r.room;
      within = omega arith;
      kept = ap length q ∙ length-set (set t (f k).lo 1) (f k).hi 1 ∙ length-set t (f k).lo 1 ∙ r.kept;
      at = λ v h. ap (λ (x : List ℕ). get_or x v 0) q
          ∙ mark_one (set t (f k).lo 1) (f k).hi v (is_end (map f (select p k)) v || eqb (f k).lo v) (omega (arith, length-set t (f k).lo 1, r.kept, r.room))
          (mark_one t (f k).lo v (is_end (map f (select p k)) v) (omega (arith, r.kept, r.room)) (r.at v h))
          ∙ ap flag (or_assoc (is_end (map f (select p k)) v) (eqb (f k).lo v) (eqb (f k).hi v) ∙ sym (end_more (map f (select p k)) (f k) v)
          ∙ ap (λ (ps : List Piece). is_end ps v) (sym (ap (map f) (select_more p k e) ∙ map-append f (select p k) (k ∷ []))));
    }

    pub mark-skips : k < m → p k ≡ false → Marking p f n m d t (k + 1)
    mark-skips l e = record {
      room = r.room;
      within = omega arith;
      kept = r.kept;
      at = λ v h. r.at v h ∙ ap (λ (s : List ℕ). flag (is_end (map f s) v)) (sym (select-skip p k e));
    }

    pub mark_ends : m ≤ k → Holds (λ v. flag (is_end (map f (select p m)) v)) t n
    mark_ends l = let q : k ≡ m = omega (arith, r.within) in
        record { long = omega (arith, r.kept, r.room); at = λ v h. r.at v h ∙ ap (λ (j : ℕ). flag (is_end (map f (select p j)) v)) q }

-- ── by marks ──

flag-test : (b : Bool) → ltb 0 (flag b) ≡ b
flag-test true = refl
flag-test false = refl

pub marked_is : (used : ℕ → Bool) (marks : List ℕ) (n : ℕ) → Holds (λ v. flag (used v)) marks n → (v : ℕ) → v < n → marked marks v ≡ used v
marked_is used marks n h v l = ap (ltb 0) (h.at v l) ∙ flag-test (used v)
