-- The year's table: strictly sorted by pair, a row for each pair that occurs and no other, with at least one sheet, no more sheets than faces; and the faces of all rows add up to the
-- faces of all sheets, those of the rows that are gaps to the gaps. Assumes nothing.
use Rattle.std.specs.Prelude.{◌≡◌, refl, ◌≤◌, ◌∷◌, ◌+◌}
use Rattle.std.proofs.Common.{sym, ◌∙◌, ap, subst, inl, inr, le_refl, arith, length-append}
use Rattle.seq.specs.Seq.{Bool, true, false, cond, List, [], ℕ, suc, length, is_in}
use Rattle.seq.specs.Terms.{Among, Rising}
use Rattle.seq.specs.Members.{among-map, map-among, among-gather, gather-among}
use Rattle.seq.specs.PairOrder.{pair_before, same_pair, same_pair_is, is_same_pair, not_same, same_pair-self, pair-irr}
use Rattle.seq.specs.HowMany.{how_many, many-le, many-++, many_some}
use Rattle.seq.specs.Total.{total, total_ext, total-zero, total-+, total-map}
use Rattle.seq.specs.Pairs.{map-pairs}
use Rattle.paper.specs.Year.{Pair, gap_pair, all_faces, Row, row_of, sorted_pairs, year_rows, year_gaps}
use Rattle.laws_year.specs.Pairs.{sorted-rising, sorted_from, sorted_has, in_among, among_in}

abbrev pub row_before : Row → Row → Bool
row_before a b = pair_before a.pair b.pair

-- a face of one of the sheets
pub face_of_lem : (p : Pair) (f : List Pair) (fs : List (List Pair)) → Among f fs → Among p f → Among p (all_faces fs)
face_of_lem p f fs i j = among-gather (λ (x : List Pair). x) p f fs i j

pub of_face : (p : Pair) (fs : List (List Pair)) → Among p (all_faces fs) → (f : List Pair) × Among f fs × Among p f
of_face p fs i = gather-among (λ (x : List Pair). x) p fs i

module _ (fs : List (List Pair)) where
  -- ── which rows there are ──

  pub row_is : (r : Row) → Among r (year_rows fs) → Among r.pair (all_faces fs) × (r ≡ row_of fs r.pair)
  row_is r i =
      let z = map-among (row_of fs) r (sorted_pairs (all_faces fs)) i in
      let e : z.0 ≡ r.pair = ap (λ (x : Row). x.pair) z.2 in
      (subst (λ (p : Pair). Among p (all_faces fs)) e (sorted_from (all_faces fs) z.0 z.1), sym z.2 ∙ ap (row_of fs) e)

  pub is_row : (p : Pair) → Among p (all_faces fs) → Among (row_of fs p) (year_rows fs)
  is_row p i = among-map (row_of fs) p (sorted_pairs (all_faces fs)) (sorted_has (all_faces fs) p i)

  -- "sorted by pair", each pair once
  pub rows-rise : Rising row_before (year_rows fs)
  rows-rise = map-pairs (row_of fs) (λ p q. pair_before p q ≡ true) (λ a b. row_before a b ≡ true) (sorted_pairs (all_faces fs)) (λ p q i j e. e) (sorted-rising (all_faces fs))

-- ── sheets and faces of a pair ──

-- a sheet has a pair on at least as many faces as it counts for it: once
sheet-step : (p : Pair) (f : List Pair) (c : Bool) (s t : ℕ) → is_in same_pair p f ≡ c → s ≤ t → cond c (suc s) s ≤ how_many (same_pair p) f + t
sheet-step p f true s t e h = omega (arith, many_some (same_pair p) f p (in_among p f e) (same_pair-self p))
sheet-step p f false s t e h = omega arith

pub sheets-le-faces : (p : Pair) (fs : List (List Pair)) → how_many (is_in same_pair p) fs ≤ how_many (same_pair p) (all_faces fs)
sheets-le-faces p [] = le_refl 0
sheets-le-faces p (f ∷ fs) = rw (many-++ (same_pair p) f (all_faces fs)) (sheet-step p f (is_in same_pair p f) (how_many (is_in same_pair p) fs) (how_many (same_pair p) (all_faces fs)) refl (sheets-le-faces p fs))

module _ (fs : List (List Pair)) (r : Row) (i : Among r (year_rows fs)) where
  pub row-sheets : (1 ≤ r.sheets) × (r.sheets ≤ r.faces) × (r.sheets ≤ length fs) × (r.faces ≤ length (all_faces fs))
  row-sheets =
      let (a, e) = row_is fs r i in
      let p : Pair = r.pair in
      let (f, j, k) = of_face p fs a in
      rw e (many_some (is_in same_pair p) fs f j (among_in p f k), sheets-le-faces p fs, many-le (is_in same_pair p) fs, many-le (same_pair p) (all_faces fs))

-- ── the faces add up ──

-- 1 for the pair q itself
abbrev here : Pair → Pair → ℕ
here q p = cond (same_pair p q) 1 0

none_here : (q : Pair) (l : List Pair) → (Among q l → ⊥) → total (here q) l ≡ 0
none_here q [] h = refl
none_here q (p ∷ ps) h = rw (not_same p q (λ e. h (inl (sym e))), none_here q ps (λ i. h (inr i)))

-- in a rising list a pair stands once
once-here : (q : Pair) (l : List Pair) → Rising pair_before l → Among q l → total (here q) l ≡ 1
once-here q [] h i = absurd i
once-here q (p ∷ ps) h (inl e) = rw (is_same_pair p q (sym e), none_here q ps (λ j. pair-irr q (subst (λ (z : Pair). pair_before z q ≡ true) (sym e) (h.0 q j))))
once-here q (p ∷ ps) h (inr i) =
    rw (not_same p q (λ e. pair-irr q (subst (λ (z : Pair). pair_before z q ≡ true) e (h.0 q i)))) (omega (arith, once-here q ps h.1 i))

-- a face of pair q that passes the test w, counted at the rows of pairs that pass it
face-step : (w : Pair → Bool) (p q : Pair) (r : ℕ) (c : Bool) → same_pair p q ≡ c → cond (w p) (cond c (suc r) r) 0 ≡ cond c (cond (w q) 1 0) 0 + cond (w p) r 0
face-step w p q r true e = ap (λ (z : Pair). cond (w z) (suc r) 0) (same_pair_is p q e) ∙ go (w q) ∙ ap (λ (z : Pair). cond (w q) 1 0 + cond (w z) r 0) (sym (same_pair_is p q e))
  where
    go : (b : Bool) → cond b (suc r) 0 ≡ cond b 1 0 + cond b r 0
    go true = omega arith
    go false = refl
face-step w p q r false e = omega arith

either-zero : (c : Bool) → ◌≡◌ {A = ℕ} (cond c 0 0) 0
either-zero true = refl
either-zero false = refl

-- what a face adds over all rows
face-adds : (w : Bool) (q : Pair) (l : List Pair) → Rising pair_before l → Among q l → total (λ p. cond (same_pair p q) (cond w 1 0) 0) l ≡ cond w 1 0
face-adds true q l h i = once-here q l h i
face-adds false q l h i = total_ext (λ p. cond (same_pair p q) 0 0) (λ p. 0) l (λ p. either-zero (same_pair p q)) ∙ total-zero l

many-step : (c : Bool) (r : ℕ) → cond c 1 0 + r ≡ cond c (suc r) r
many-step true r = omega arith
many-step false r = omega arith

-- each face of x that passes w is counted at its pair
adds_up : (w : Pair → Bool) (l : List Pair) → Rising pair_before l → (x : List Pair) → ((q : Pair) → Among q x → Among q l)
    → total (λ p. cond (w p) (how_many (same_pair p) x) 0) l ≡ how_many w x
adds_up w l h [] f = total_ext (λ p. cond (w p) 0 0) (λ p. 0) l (λ p. either-zero (w p)) ∙ total-zero l
adds_up w l h (q ∷ x) f =
    total_ext (λ p. cond (w p) (how_many (same_pair p) (q ∷ x)) 0) (λ p. cond (same_pair p q) (cond (w q) 1 0) 0 + cond (w p) (how_many (same_pair p) x) 0) l
    (λ p. face-step w p q (how_many (same_pair p) x) (same_pair p q) refl)
    ∙ total-+ (λ p. cond (same_pair p q) (cond (w q) 1 0) 0) (λ p. cond (w p) (how_many (same_pair p) x) 0) l
    ∙ (λ i. face-adds (w q) q l h (f q (inl refl)) i + adds_up w l h x (λ z j. f z (inr j)) i)
    ∙ many-step (w q) (how_many w x)

all_many : (x : List Pair) → how_many (λ p. true) x ≡ length x
all_many [] = refl
all_many (q ∷ x) = ap suc (all_many x)

module _ (fs : List (List Pair)) where
  by_rows : (w : Pair → Bool) → total (λ (r : Row). cond (w r.pair) r.faces 0) (year_rows fs) ≡ how_many w (all_faces fs)
  by_rows w =
      total-map (row_of fs) (λ (r : Row). cond (w r.pair) r.faces 0) (sorted_pairs (all_faces fs))
      ∙ adds_up w (sorted_pairs (all_faces fs)) (sorted-rising (all_faces fs)) (all_faces fs) (λ q i. sorted_has (all_faces fs) q i)

  -- the faces of all rows are all the faces other than 0
  pub faces-sum : total (λ (r : Row). r.faces) (year_rows fs) ≡ length (all_faces fs)
  faces-sum = by_rows (λ p. true) ∙ all_many (all_faces fs)

  -- the gaps are the faces of the rows with zone 0 and a block
  pub gaps-sum : total (λ (r : Row). cond (gap_pair r.pair) r.faces 0) (year_rows fs) ≡ year_gaps fs
  gaps-sum = by_rows gap_pair

-- and those are the faces of each sheet, added up
pub all_faces-sum : (fs : List (List Pair)) → length (all_faces fs) ≡ total (λ (f : List Pair). length f) fs
all_faces-sum [] = refl
all_faces-sum (f ∷ fs) = length-append f (all_faces fs) ∙ ap (λ (r : ℕ). length f + r) (all_faces-sum fs)
