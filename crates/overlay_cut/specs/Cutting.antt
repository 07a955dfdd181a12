-- The pieces of input edges put into a table, the last first: what is left to put in, put into the table, gives the whole. First the loop over the vertices on
-- an edge; then loops over edges, and over maps. Assumes nothing.
use Rattle.std.specs.Prelude.{◌≡◌, refl, ◌≤◌, ◌<◌, ◌∷◌, ◌++◌, ◌-◌}
use Rattle.std.proofs.Common.{sym, ◌∙◌, ap, append_assoc, append-nil, arith, lt-ltb, le-ltb}
use Rattle.seq.specs.Seq.{Bool, true, false, cond, List, [], Option, ℕ, suc, ltb, select, rows, insert_by}
use Rattle.paper.specs.Pieces.{Piece, links, links_from, earlier, joined}
use Rattle.overlay_cut.specs.Capped.{capped, put_all, put_all-++}
use Rattle.overlay_cut.specs.Links.{pieced}

-- pieces put into a table with room for cap of them
abbrev pub puts : ℕ → List Piece → List Piece → List Piece
puts cap l ps = put_all earlier joined cap l ps

-- the vertex above, of n, where there is one
abbrev pub upper : ℕ → ℕ → List ℕ
upper n w = cond (ltb w n) (w ∷ []) []

-- ── links ──

from_join : (s : List (Option ℕ)) (u : ℕ) (l : List ℕ) (v : ℕ) (ws : List ℕ) → links_from s u (l ++ (v ∷ ws)) ≡ links_from s u (l ++ (v ∷ [])) ++ links_from s v ws
from_join s u [] v ws = refl
from_join s u (x ∷ l) v ws = ap (λ (r : List Piece). record { lo = u; hi = x; sources = s } ∷ r) (from_join s x l v ws)

-- the links of a list in two parts, with one vertex in both
pub links-join : (s : List (Option ℕ)) (l : List ℕ) (v : ℕ) (ws : List ℕ) → links s (l ++ (v ∷ ws)) ≡ links s (l ++ (v ∷ [])) ++ links_from s v ws
links-join s [] v ws = refl
links-join s (x ∷ l) v ws = from_join s x l v ws

-- the link to the vertex above, where there is none and where there is one
module _ (cap n next v : ℕ) (s : List (Option ℕ)) (l : List Piece) where
  pub link_none : n ≤ next → l ≡ puts cap l (links_from s v (upper n next))
  link_none h = sym (rw (le-ltb next n h))

  pub link_one : next < n → capped cap (insert_by earlier joined (record { lo = v; hi = next; sources = s })) l ≡ puts cap l (links_from s v (upper n next))
  link_one h = sym (rw (lt-ltb next n h))

-- ── an edge: vertices that are on it from the last down; `next` is the one above, or n ──

pub record Linking (cap n : ℕ) (on : ℕ → Bool) (s : List (Option ℕ)) (total : List Piece) (t : List ℕ) (c v next : ℕ) : Type 0 where
  pub low : v ≤ n
  pub above : next ≤ n
  pub is : puts cap (pieced t c) (links s (select on v ++ upper n next)) ≡ total

module _ (cap n : ℕ) (on : ℕ → Bool) (s : List (Option ℕ)) where
  -- from the row on from which none is on it
  pub link_starts : (t : List ℕ) (c r : ℕ) → r ≤ n → select on n ≡ select on r → Linking cap n on s (puts cap (pieced t c) (links s (select on n))) t c r n
  link_starts t c r l q =
      let e : select on r ++ upper n n ≡ select on n = rw (le-ltb n n (omega arith)) (append-nil (select on r) ∙ sym q) in
      record {
        low = l;
        above = omega arith;
        is = ap (λ (l : List ℕ). puts cap (pieced t c) (links s l)) e;
      }

  module _ {total : List Piece} {t : List ℕ} {c v next : ℕ} (r : Linking cap n on s total t c v next) where
    -- one that is not on it
    pub link-skips : 0 < v → on (v - 1) ≡ false → Linking cap n on s total t c (v - 1) next
    link-skips h e =
        let q : suc (v - 1) ≡ v = omega arith in
        let f : select on (suc (v - 1)) ≡ select on (v - 1) = rw e in
        record {
          low = omega (arith, r.low);
          above = r.above;
          is = ap (λ (l : List ℕ). puts cap (pieced t c) (links s (l ++ upper n next))) (sym f ∙ ap (select on) q) ∙ r.is;
        }

    -- one that is, linked to the one above
    pub link_turns : (u : List ℕ) (d : ℕ) → 0 < v → on (v - 1) ≡ true → pieced u d ≡ puts cap (pieced t c) (links_from s (v - 1) (upper n next))
        → Linking cap n on s total u d (v - 1) (v - 1)
    link_turns u d h e k =
        let q : suc (v - 1) ≡ v = omega arith in
        let f : select on (suc (v - 1)) ≡ select on (v - 1) ++ ((v - 1) ∷ []) = rw e in
        let g : upper n (v - 1) ≡ (v - 1) ∷ [] = rw (lt-ltb (v - 1) n (omega (arith, r.low))) in
        let a : select on v ++ upper n next ≡ select on (v - 1) ++ ((v - 1) ∷ upper n next) =
        ap (λ (l : List ℕ). l ++ upper n next) (ap (select on) (sym q) ∙ f) ∙ append_assoc (select on (v - 1)) ((v - 1) ∷ []) (upper n next) in
        record {
          low = omega (arith, r.low);
          above = omega (arith, r.low);
          is = ap (λ (l : List ℕ). puts cap (pieced u d) (links s (select on (v - 1) ++ l))) g
              ∙ ap (λ (l : List Piece). puts cap l (links s (select on (v - 1) ++ ((v - 1) ∷ [])))) k
              ∙ sym (put_all-++ earlier joined cap (pieced t c) (links s (select on (v - 1) ++ ((v - 1) ∷ []))) (links_from s (v - 1) (upper n next)))
              ∙ ap (puts cap (pieced t c)) (sym (links-join s (select on (v - 1)) (v - 1) (upper n next)) ∙ ap (links s) (sym a)) ∙ r.is;
        }

    -- down to the row below which none is
    pub link_ends : select on v ≡ [] → pieced t c ≡ total
    link_ends h =
        ap (puts cap (pieced t c)) (sym (one (ltb next n)))
        ∙ ap (λ (l : List ℕ). puts cap (pieced t c) (links s (l ++ upper n next))) (sym h) ∙ r.is
      where
        one : (b : Bool) → links s (cond b (next ∷ []) []) ≡ []
        one true = refl
        one false = refl

-- ── rows of pieces, the last row first ──

pub record Cutting (cap : ℕ) (f : ℕ → List Piece) (total : List Piece) (t : List ℕ) (c k : ℕ) : Type 0 where
  pub is : puts cap (pieced t c) (rows f k) ≡ total

module _ (cap : ℕ) (f : ℕ → List Piece) where
  pub cut_starts : (t : List ℕ) (c k : ℕ) → Cutting cap f (puts cap (pieced t c) (rows f k)) t c k
  cut_starts t c k = record { is = refl }

  module _ {total : List Piece} {t : List ℕ} {c k : ℕ} (r : Cutting cap f total t c k) where
    pub cut_turns : (u : List ℕ) (d : ℕ) → 0 < k → pieced u d ≡ puts cap (pieced t c) (f (k - 1)) → Cutting cap f total u d (k - 1)
    cut_turns u d h e =
        let q : suc (k - 1) ≡ k = omega arith in
        record {
          is = ap (λ (l : List Piece). puts cap l (rows f (k - 1))) e ∙ sym (put_all-++ earlier joined cap (pieced t c) (rows f (k - 1)) (f (k - 1)))
              ∙ ap (λ (j : ℕ). puts cap (pieced t c) (rows f j)) q ∙ r.is;
        }

    pub cut_ends : k ≤ 0 → pieced t c ≡ total
    cut_ends h = let q : 0 ≡ k = omega arith in ap (λ (j : ℕ). puts cap (pieced t c) (rows f j)) q ∙ r.is
