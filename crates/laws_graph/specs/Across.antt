-- Where edges cross the height of a point p, and what the tests of a look say of it. In order: an edge is at the height of p exactly if one of its ends is
-- above p and the other is not; the point of an edge at that height (`across`) is on the edge's line; `westward` is "lie west of p, or go through or start at
-- p with an upward direction of greater angle", and `nearer` is "the greatest x at that height; among equals, the smallest upward angle", said of these
-- points. Assumes nothing.
use Rattle.std.specs.Prelude.{◌≡◌, refl, ◌<ℤ◌, ◌&&◌, ◌||◌, ◌∷◌, ◌+◌, ◌*◌, ◌+ℤ◌, ◌-ℤ◌, ◌*ℤ◌}
use Rattle.std.proofs.Common.{sym, ◌∙◌, ap}
use Rattle.seq.specs.Seq.{Bool, true, false, cond, not, [], ℕ, ℤ, pos, neg_ℤ}
use Rattle.seq.specs.Tests.{clash, not-true}
use Rattle.exact.specs.Solve.{ring, reify}
use Rattle.exact.specs.Order.{0<-*}
use Rattle.exact.specs.Sign.{Sign, neg, zer, plus, sgn, is_neg, is_zer, is_plus, neg_s, pick, lex_s, sgn-negℤ}
use Rattle.exact.specs.Signs.{sgn-scale}
use Rattle.paper.specs.Plane.{Pt, Vec, dir, cross, rises, order, before, same, below, less_angle}
use Rattle.paper.specs.Graph.{Graph, edge, start, upward, at_height, left_of, westward, nearer}
use Rattle.laws_plane.specs.Ends.{below_before, before_below, below_level}
use Rattle.laws_graph.specs.West.{ahead}

-- ── at a height ──

-- of two tests of which the first implies the second
differ_by : (a b : Bool) → (a ≡ true → b ≡ true) → (not a && b) ≡ cond a (not b) b
differ_by true true f = refl
differ_by true false f = absurd (clash (f refl) refl)
differ_by false b f = refl

differ-swap : (a b : Bool) → cond a (not b) b ≡ cond b (not a) a
differ-swap true true = refl
differ-swap true false = refl
differ-swap false true = refl
differ-swap false false = refl

module _ (p a b : Pt) (hp : pos 0 <ℤ p.D) (ha : pos 0 <ℤ a.D) (hb : pos 0 <ℤ b.D) where
  between_by : (c : Bool) → before b a ≡ c → (not (below p (cond c b a)) && below p (cond c a b)) ≡ cond (below p a) (not (below p b)) (below p b)
  between_by true e = differ_by (below p b) (below p a) (λ f. below_level p b a hp hb ha f (before_below b a e)) ∙ differ-swap (below p b) (below p a)
  between_by false e = differ_by (below p a) (below p b) (λ f. below_level p a b hp ha hb f (not-true (below b a) (λ q. clash (below_before b a q) e)))

-- an edge is at the height of p exactly if one of its ends is above p and the other is not
pub height_between : (g : Graph) (p : Pt) (k : ℕ) → pos 0 <ℤ p.D → pos 0 <ℤ (start g (2 * k)).D → pos 0 <ℤ (start g (2 * k + 1)).D →
    at_height g p k ≡ cond (below p (start g (2 * k))) (not (below p (start g (2 * k + 1)))) (below p (start g (2 * k + 1)))
height_between g p k hp ha hb = between_by p (start g (2 * k)) (start g (2 * k + 1)) hp ha hb (before (start g (2 * k + 1)) (start g (2 * k))) refl

-- ── the point of edge k at the height of p ──

abbrev pub across : Graph → Pt → ℕ → Pt
across g p k = record { X = p.X *ℤ (upward g k).y +ℤ left_of g p k; Y = p.Y *ℤ (upward g k).y; D = p.D *ℤ (upward g k).y }

pub across-real : (g : Graph) (p : Pt) (k : ℕ) → pos 0 <ℤ p.D → pos 0 <ℤ (upward g k).y → pos 0 <ℤ (across g p k).D
across-real g p k h u = 0<-* h u

-- it is on the line of k
pub across_on : (g : Graph) (p : Pt) (k : ℕ) → left_of g (across g p k) k ≡ pos 0
across_on g p k = let s = (edge g k).carrier in go s.foot.x s.foot.y s.up.x s.up.y p.X p.Y p.D
  where
    go : (fx fy ux uy x y d : ℤ) →
        ux *ℤ (y *ℤ uy -ℤ fy *ℤ (d *ℤ uy)) -ℤ uy *ℤ ((x *ℤ uy +ℤ (ux *ℤ (y -ℤ fy *ℤ d) -ℤ uy *ℤ (x -ℤ fx *ℤ d))) -ℤ fx *ℤ (d *ℤ uy)) ≡ pos 0
    go fx fy ux uy x y d = ring (fx ∷ fy ∷ ux ∷ uy ∷ x ∷ y ∷ d ∷ []) (search reify depth 20) tt

-- and at the height of p
pub across-level : (g : Graph) (p : Pt) (k : ℕ) → (dir p (across g p k)).y ≡ pos 0
across-level g p k = go p.Y p.D (upward g k).y
  where
    go : (y d u : ℤ) → (y *ℤ u) *ℤ d -ℤ y *ℤ (d *ℤ u) ≡ pos 0
    go y d u = ring (y ∷ d ∷ u ∷ []) (search reify depth 20) tt

-- ── the tests, of these points ──

-- how the point of k stands to p
pub across_order : (g : Graph) (p : Pt) (k : ℕ) → pos 0 <ℤ p.D → order (across g p k) p ≡ sgn (left_of g p k)
across_order g p k h = (λ i. lex_s (across-level g p k i) (go p.X p.D (upward g k).y (left_of g p k) i)) ∙ sgn-scale (left_of g p k) p.D h
  where
    go : (x d u l : ℤ) → (x *ℤ u +ℤ l) *ℤ d -ℤ x *ℤ (d *ℤ u) ≡ d *ℤ l
    go x d u l = ring (x ∷ d ∷ u ∷ l ∷ []) (search reify depth 20) tt

-- and how the points of two edges stand to each other
pub across-orders : (g : Graph) (p : Pt) (k r : ℕ) → pos 0 <ℤ p.D → order (across g p r) (across g p k) ≡ neg_s (sgn (ahead g p k r))
across-orders g p k r h =
    (λ i. lex_s (level p.Y p.D (upward g k).y (upward g r).y i) (go p.X p.D (upward g k).y (upward g r).y (left_of g p k) (left_of g p r) i))
    ∙ sgn-scale (neg_ℤ (ahead g p k r)) p.D h ∙ sgn-negℤ (ahead g p k r)
  where
    level : (y d u v : ℤ) → (y *ℤ v) *ℤ (d *ℤ u) -ℤ (y *ℤ u) *ℤ (d *ℤ v) ≡ pos 0
    level y d u v = ring (y ∷ d ∷ u ∷ v ∷ []) (search reify depth 20) tt

    go : (x d u v l m : ℤ) → (x *ℤ v +ℤ m) *ℤ (d *ℤ u) -ℤ (x *ℤ u +ℤ l) *ℤ (d *ℤ v) ≡ d *ℤ neg_ℤ (l *ℤ v -ℤ m *ℤ u)
    go x d u v l m = ring (x ∷ d ∷ u ∷ v ∷ l ∷ m ∷ []) (search reify depth 20) tt

west_by_lem : (s t : Sign) → is_plus (pick (neg_s s) t) ≡ (is_neg s || (is_zer s && is_plus t))
west_by_lem neg t = refl
west_by_lem zer t = refl
west_by_lem plus t = refl

near_by : (s t : Sign) → is_plus (pick s t) ≡ (is_neg (neg_s s) || (is_zer (neg_s s) && is_plus t))
near_by neg t = refl
near_by zer t = refl
near_by plus t = refl

-- both rise: the turn decides
turn_by : (u v : Vec) → rises u ≡ true → rises v ≡ true → less_angle u v ≡ is_plus (sgn (cross u v))
turn_by u v e f = (λ i. cond (e i) (not (f i) || is_plus (sgn (cross u v))) (not (f i) && is_plus (sgn (cross u v))))

module _ (g : Graph) (p : Pt) (hp : pos 0 <ℤ p.D) (k : ℕ) (ku : rises (upward g k) ≡ true) where
  -- "lie west of p, or go through or start at p with an upward direction of greater angle than" d
  pub westward-across : (d : Vec) → rises d ≡ true → westward g p d k ≡ (before (across g p k) p || (same (across g p k) p && less_angle d (upward g k)))
  westward-across d du =
      ap (λ (s : Sign). is_plus (pick s (sgn (cross d (upward g k))))) (sgn-negℤ (left_of g p k))
      ∙ west_by_lem (sgn (left_of g p k)) (sgn (cross d (upward g k)))
      ∙ sym (λ i. is_neg (across_order g p k hp i) || (is_zer (across_order g p k hp i) && turn_by d (upward g k) du ku i))

  -- "the greatest x at that height; among equals, the smallest upward angle"
  pub nearer-across : (r : ℕ) → rises (upward g r) ≡ true →
      nearer g p k r ≡ (before (across g p r) (across g p k) || (same (across g p r) (across g p k) && less_angle (upward g k) (upward g r)))
  nearer-across r ru =
      near_by (sgn (ahead g p k r)) (sgn (cross (upward g k) (upward g r)))
      ∙ sym (λ i. is_neg (across-orders g p k r hp i) || (is_zer (across-orders g p k r hp i) && turn_by (upward g k) (upward g r) ku ru i))
