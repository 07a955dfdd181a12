-- Rules 5 to 7: on the tables into which a file's map is read the tests are those of the map, so that the least place is the same (`parts-read`). Then the tests
-- as the code makes them, one after the other. Assumes nothing.
use Rattle.std.specs.Prelude.{◌∷◌, ◌&&◌, ◌||◌, ◌+◌, ◌*◌, ◌-ℤ◌, ◌*ℤ◌}
use mathlib.Core.Path.{◌≡◌, refl, sym, ap, ◌∙◌}
use Prim.Native.Nat.{◌≤◌, ◌<◌}
use native.Mathlib.Omega.{arith}
use borrow.Author.Tests.{lt-ltb, le-ltb, le-leb, lt-leb}
use Rattle.seq.specs.Least.{least-ext}
use Rattle.seq.proofs.Least.{some_ext}
use Rattle.seq.specs.Seq.{Bool, zero, suc, negsuc, [], true, false, List, ℕ, ltb, leb, eqb, length, ℤ, pos, nat_abs, least}
use Rattle.exact.specs.Mach.{eq_z}
use Rattle.exact.specs.Sign.{sgn, is_zer, lex_s}
use Rattle.exact.specs.Solve.{ring, reify}
use Rattle.exact.specs.Tests.{eq-sign, eq_t, t_eq, not-true}
use Rattle.paper.specs.Graph.{Graph, point, edge_count}
use Rattle.paper.specs.Limits.{reach}
use Rattle.paper.specs.Map.{vertex_count, edges_in, corner_at, map_of, too_far, doubled, bad_ends, part_faults}
use Rattle.paper.specs.Plane.{Pt, Vec, vec, whole, same}
use Rattle.paper.specs.Refusal.{given}
use Rattle.laws_graph.specs.Halves.{origin_first, origin-second}
use Rattle.laws_graph.specs.Reading.{points-count, edges-count, point_at}
use Rattle.map_check.specs.Parts.{corner_in, far_at, lies_on, doubled_at, bad_ends_at, part_faults_at}
use Rattle.map_check.specs.Held.{MapRead}

-- ── the map's tests are those of the tables ──

module _ {s : List ℕ} {ps : List ℤ} {os ls : List ℕ} (R : MapRead s ps os ls) where
  abbrev g : Graph
  g = (map_of s).graph

  pub corner-read : (v : ℕ) → v < vertex_count s → corner_in ps v ≡ corner_at s v
  corner-read v l = let q = R.point_is v l ∙ point_at s v l in λ i. vec (q i).X (q i).Y

  pub far-read : (v : ℕ) → v < vertex_count s → far_at ps v ≡ too_far g v
  far-read v l = ap (λ (p : Pt). ltb reach (nat_abs p.X) || ltb reach (nat_abs p.Y)) (R.point_is v l)

  pub lies-read : (v u : ℕ) → v < vertex_count s → u < vertex_count s → lies_on ps v u ≡ same (point g v) (point g u)
  lies-read v u l m = (λ i. same (whole (corner-read v l i)) (whole (corner-read u m i))) ∙ (λ i. same (sym (point_at s v l) i) (sym (point_at s u m) i))

  pub doubled-read : (v : ℕ) → v < vertex_count s → doubled_at ps v ≡ doubled g v
  doubled-read v l = some_ext (lies_on ps v) (λ u. same (point g v) (point g u)) v (λ u m. lies-read v u l (omega arith))

  ends_read : (k : ℕ) → k < edges_in s → bad_ends_at os (vertex_count s) k ≡ bad_ends g k
  ends_read k l =
      let n = points-count s in
      let a = R.origin_is (2 * k) (omega arith) ∙ origin_first k g in
      let b = R.origin_is (2 * k + 1) (omega arith) ∙ origin-second k g in
      λ i. (leb (sym n i) (a i) || leb (sym n i) (b i)) || eqb (a i) (b i)

  -- rule r at its least place
  pub at_place : (r n m : ℕ) (p q : ℕ → Bool) → ((k : ℕ) → k < n → p k ≡ q k) → m ≡ n → given r (least p n) (ltb (least p n) n) ≡ given r (least q m) (ltb (least q m) m)
  at_place r n m p q f e = ap (λ (k : ℕ). given r k (ltb k n)) (least-ext p q n f) ∙ ap (λ (k : ℕ). given r (least q k) (ltb (least q k) k)) (sym e)

  pub parts-read : part_faults_at ps os (vertex_count s) (edges_in s) ≡ part_faults (map_of s).graph
  parts-read =
      let five = at_place 5 (vertex_count s) (length g.points) (far_at ps) (too_far g) far-read (points-count s) in
      let six = at_place 6 (vertex_count s) (length g.points) (doubled_at ps) (doubled g) doubled-read (points-count s) in
      let seven = at_place 7 (edges_in s) (edge_count g) (bad_ends_at os (vertex_count s)) (bad_ends g) ends_read (edges-count s) in
      λ i. five i ∷ six i ∷ seven i ∷ []

-- ── 5, one coordinate after the other ──

pub beyond : (k x : ℕ) (b : Bool) → k < x → true ≡ (ltb k x || b)
beyond k x b h = rw (lt-ltb k x h)

pub within : (k x : ℕ) (b : Bool) → x ≤ k → b ≡ (ltb k x || b)
within k x b h = rw (le-ltb k x h)

-- ── 6, one coordinate after the other ──

zer_both : (y x : ℤ) → is_zer (lex_s y x) ≡ (is_zer (sgn y) && is_zer (sgn x))
zer_both (pos zero) x = refl
zer_both (pos (suc n)) x = refl
zer_both (negsuc n) x = refl

-- the test of one coordinate, as `same` makes it
eq-zer : (a b : ℤ) → is_zer (sgn (a *ℤ pos 1 -ℤ b *ℤ pos 1)) ≡ eq_z a b
eq-zer a b = ap (λ (z : ℤ). is_zer (sgn z)) (ones a b) ∙ sym (eq-sign a b)
  where
    ones : (a b : ℤ) → a *ℤ pos 1 -ℤ b *ℤ pos 1 ≡ a -ℤ b
    ones a b = ring (a ∷ b ∷ []) (search reify depth 20) tt

same_whole : (a b : Vec) → same (whole a) (whole b) ≡ (eq_z a.y b.y && eq_z a.x b.x)
same_whole a b = zer_both (a.y *ℤ pos 1 -ℤ b.y *ℤ pos 1) (a.x *ℤ pos 1 -ℤ b.x *ℤ pos 1) ∙ (λ i. eq-zer a.y b.y i && eq-zer a.x b.x i)

module _ (a b : Vec) where
  pub other_y : (a.y ≡ b.y → ⊥) → false ≡ same (whole a) (whole b)
  other_y f = sym (same_whole a b ∙ ap (λ (t : Bool). t && eq_z a.x b.x) (not-true (eq_z a.y b.y) (λ e. f (eq_t a.y b.y e))))

  pub by_x : a.y ≡ b.y → eq_z a.x b.x ≡ same (whole a) (whole b)
  by_x e = sym (same_whole a b ∙ ap (λ (t : Bool). t && eq_z a.x b.x) (t_eq e))

-- ── 7, one test after the other ──

module _ (n a b : ℕ) where
  pub no_from : n ≤ a → true ≡ ((leb n a || leb n b) || eqb a b)
  no_from h = rw (le-leb n a h)

  pub no_to : a < n → n ≤ b → true ≡ ((leb n a || leb n b) || eqb a b)
  no_to h l = rw (lt-leb n a h, le-leb n b l)

  pub by_ends : a < n → b < n → eqb a b ≡ ((leb n a || leb n b) || eqb a b)
  by_ends h l = rw (lt-leb n a h, lt-leb n b l)
