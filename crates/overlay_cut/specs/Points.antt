-- A table of points as a list of points, and how a row is read and stored; points in lowest terms, each once, and their order; what the merge of two halves asks.
-- Assumes nothing.
use Rattle.std.specs.Prelude.{◌≡◌, refl, ◌≤◌, ◌<◌, ℤ, pos, ◌&&◌, ◌∷◌, ◌+◌, ◌*◌}
use Rattle.std.proofs.Common.{sym, subst, arith}
use Rattle.exact.specs.Tests.{eq_z, eq_t, t_eq, not-true, clash, and_parts}
use Rattle.exact.specs.Lowest.{Pt, pt, Lowest}
use Rattle.seq.specs.Seq.{Bool, true, false, List, [], ℕ, length, table}
use Rattle.seq.specs.Terms.{Among, Every, Distinct, Transitive, Asymmetric}
use Rattle.seq.specs.Members.{every_in}
use Rattle.seq.specs.Table.{among-table, table-among}
use Rattle.seq.specs.ByHalves.{Clear, InHalves}
use Rattle.paper.specs.Plane.{before, whole, nowhere}
use Rattle.plane.specs.Bounds.{Near}
use Rattle.laws_plane.specs.Points.{before_asym, before_trans, same_point}
use Rattle.graph.specs.Flat.{the_point_at, Points, NearAt}

-- the points in the first n rows
abbrev pub points_of : List ℤ → ℕ → List Pt
points_of ps n = table (the_point_at ps) n

-- the k points from row a on
abbrev pub points_from : List ℤ → ℕ → ℕ → List Pt
points_from ps a k = table (λ i. the_point_at ps (a + i)) k

-- what is read past the end
abbrev pub no_point : Pt
no_point = whole nowhere

-- the same three numbers: in lowest terms, the same point
abbrev pub equal : Pt → Pt → Bool
equal p q = eq_z p.X q.X && (eq_z p.Y q.Y && eq_z p.D q.D)

pub equal_is : (p q : Pt) → equal p q ≡ true → p ≡ q
equal_is p q e =
    let x = and_parts (eq_z p.X q.X) (eq_z p.Y q.Y && eq_z p.D q.D) e in
    let y = and_parts (eq_z p.Y q.Y) (eq_z p.D q.D) x.1 in
    let ex = eq_t p.X q.X x.0 in
    let ey = eq_t p.Y q.Y y.0 in
    let ed = eq_t p.D q.D y.1 in
    λ i. pt (ex i) (ey i) (ed i)

pub is_equal : (p q : Pt) → p ≡ q → equal p q ≡ true
is_equal p q e =
    let ex : eq_z p.X q.X ≡ true = t_eq (λ i. (e i).X) in
    let ey : eq_z p.Y q.Y ≡ true = t_eq (λ i. (e i).Y) in
    let ed : eq_z p.D q.D ≡ true = t_eq (λ i. (e i).D) in
    rw (ex, ey, ed)

-- what is read of a row of four numbers
abbrev pub read_point : (ℕ → ℤ) → Pt
read_point f = pt (f 0) (f 1) (f 2)

pub read-ext : (f g : ℕ → ℤ) → ((j : ℕ) → j < 4 → f j ≡ g j) → read_point f ≡ read_point g
read-ext f g h = λ i. pt (h 0 (omega arith) i) (h 1 (omega arith) i) (h 2 (omega arith) i)

-- a point as a row, with nothing in the spare cell
abbrev pub point_row : Pt → List ℤ
point_row p = p.X ∷ p.Y ∷ p.D ∷ pos 0 ∷ []

-- number by number, as the code compares them
module _ (p q : Pt) where
  pub equal-third : p.X ≡ q.X → p.Y ≡ q.Y → eq_z p.D q.D ≡ equal p q
  equal-third e f = let x : eq_z p.X q.X ≡ true = t_eq e in let y : eq_z p.Y q.Y ≡ true = t_eq f in sym (rw (x, y))

  pub equal-second : p.X ≡ q.X → (p.Y ≡ q.Y → ⊥) → false ≡ equal p q
  equal-second e f = let x : eq_z p.X q.X ≡ true = t_eq e in let y = not-true (eq_z p.Y q.Y) (λ g. f (eq_t p.Y q.Y g)) in sym (rw (x, y))

  pub equal_first : (p.X ≡ q.X → ⊥) → false ≡ equal p q
  equal_first e = let x = not-true (eq_z p.X q.X) (λ g. e (eq_t p.X q.X g)) in sym (rw x)

-- points in lowest terms, each once
pub record Once (l : List Pt) : Type 0 where
  pub lowest : Every Lowest l
  pub once : Distinct equal l

pub asym : Asymmetric before
asym p q e f = clash f (before_asym p q e)

pub trans : Transitive before Lowest
trans p q r a b c e f = before_trans p q r a.positive b.positive c.positive e f

pub one_point : (p q : Pt) → Lowest p → Lowest q → before p q ≡ false → before q p ≡ false → p ≡ q
one_point p q a b e f = same_point p q a b e f

-- no two are alike
pub once-clear : (l : List Pt) → Every Lowest l → Distinct equal l → Clear before l
once-clear [] h k = tt
once-clear (p ∷ ps) h k = (λ z i e. go z (every_in Lowest ps h.1 z i) (k.0 z i) e (before z p) refl, once-clear ps h.1 k.1)
  where
    go : (z : Pt) → Lowest z → equal z p ≡ false → before p z ≡ false → (b : Bool) → before z p ≡ b → before z p ≡ true
    go z l n e true f = f
    go z l n e false f = absurd (clash (is_equal z p (same_point z p l h.0 f e)) n)

-- ── what the ordering by halves asks ──

-- two halves, each in point order, and no point in them twice
abbrev pub TwoOrdered : List Pt → List Pt → Type 0
TwoOrdered l m = InHalves before Lowest l m

-- row k, where it is one of n
pub record Next (ps : List ℤ) (k n : ℕ) : Type 0 where
  pub long : 4 * n ≤ length ps
  pub near : k < n → NearAt ps k

-- ── bounds by members ──

pub points_near : (ps : List ℤ) (n : ℕ) → Points ps n → (p : Pt) → Among p (points_of ps n) → Near p
points_near ps n h p i = let r = table-among (the_point_at ps) n p i in subst Near r.2 (h.near r.0 r.1)

pub points_by : (ps : List ℤ) (n : ℕ) → 4 * n ≤ length ps → ((p : Pt) → Among p (points_of ps n) → Near p) → Points ps n
points_by ps n l h = record { long = l; near = λ v q. h (the_point_at ps v) (among-table (the_point_at ps) n v q) }
