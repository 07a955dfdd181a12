-- What the number for C tells is the answer: where counts, numbers, maps, places and other edges have 16 bits and a refusal's number is not 0, two answers that one number tells are
-- one (`told-means` of tables, `told-map-means` of a map's check, `told-length-means` of a file). Assumes nothing.
use Rattle.std.specs.Prelude.{◌≡◌, ◌<◌, ◌+◌, ◌*◌}
use Rattle.std.proofs.Common.{ap, arith}
use Rattle.seq.specs.Seq.{ℕ}
use Rattle.paper.specs.Refusal.{Refusal, Answer, done, refused}
use Rattle.paper.specs.Tables.{Counts}
use Rattle.bonnetewe.specs.Told.{four, told, told_map, told_length}

-- what is counted is small, or the refusal has a number and all of it is small
abbrev pub Sound : {A : Type 0} → (A → Type 0) → Answer A → Type 0
Sound P (done a) = P a
Sound P (refused r) = (0 < r.number) × (r.number < 65536) × (r.map < 65536) × (r.place < 65536) × (r.other < 65536)

-- ── one number tells one answer ──

apart : (a x b y : ℕ) → a < 65536 → b < 65536 → a + 65536 * x ≡ b + 65536 * y → (a ≡ b) × (x ≡ y)
apart a x b y h l e = (omega (arith, h, l, e), omega (arith, h, l, e))

module _ (a b c d p q r s : ℕ) (ha : a < 65536) (hb : b < 65536) (hc : c < 65536) (hp : p < 65536) (hq : q < 65536) (hr : r < 65536) (e : four a b c d ≡ four p q r s) where
  abbrev one : (a ≡ p) × (b + 65536 * (c + 65536 * d) ≡ q + 65536 * (r + 65536 * s))
  one = apart a (b + 65536 * (c + 65536 * d)) p (q + 65536 * (r + 65536 * s)) ha hp e

  abbrev two : (b ≡ q) × (c + 65536 * d ≡ r + 65536 * s)
  two = apart b (c + 65536 * d) q (r + 65536 * s) hb hq one.1

  -- each of the four numbers
  pub four-apart : (a ≡ p) × (b ≡ q) × (c ≡ r) × (d ≡ s)
  four-apart = let three = apart c d r s hc hr two.1 in (one.0, two.0, three.0, three.1)

refusals : (r s : Refusal) → r.number ≡ s.number → r.map ≡ s.map → r.place ≡ s.place → r.other ≡ s.other → r ≡ s
refusals r s n m k j = λ i. record { number = n i; map = m i; place = k i; other = j i }

abbrev pub CountsFit : Counts → Type 0
CountsFit c = (c.vertices < 65536) × (c.edges < 65536) × (c.faces < 65536)

pub told-means : (a b : Answer Counts) → Sound CountsFit a → Sound CountsFit b → told a ≡ told b → a ≡ b
told-means (done c) (done k) (v, w, f) (x, y, g) e =
    let t = four-apart 0 c.vertices c.edges c.faces 0 k.vertices k.edges k.faces (omega arith) v w (omega arith) x y e in
    λ i. done (record { vertices = t.1 i; edges = t.2 i; faces = t.3 i })
told-means (done c) (refused s) (v, w, f) (o, n, m, k, j) e =
    absurd (let t = four-apart 0 c.vertices c.edges c.faces s.number s.map s.place s.other (omega arith) v w n m k e in omega (arith, t.0, o))
told-means (refused r) (done c) (o, n, m, k, j) (v, w, f) e =
    absurd (let t = four-apart r.number r.map r.place r.other 0 c.vertices c.edges c.faces n m k (omega arith) v w e in omega (arith, t.0, o))
told-means (refused r) (refused s) (o, n, m, k, j) (p, x, y, z, i) e =
    let t = four-apart r.number r.map r.place r.other s.number s.map s.place s.other n m k x y z e in
    ap refused (refusals r s t.0 t.1 t.2 t.3)

abbrev pub PairFits : ℕ × ℕ → Type 0
PairFits c = (c.0 < 65536) × (c.1 < 65536)

pub told-map-means : (a b : Answer (ℕ × ℕ)) → Sound PairFits a → Sound PairFits b → told_map a ≡ told_map b → a ≡ b
told-map-means (done c) (done k) (v, w) (x, y) e =
    let t = four-apart 0 c.0 c.1 0 0 k.0 k.1 0 (omega arith) v w (omega arith) x y e in
    λ i. done (t.1 i, t.2 i)
told-map-means (done c) (refused s) (v, w) (o, n, m, k, j) e =
    absurd (let t = four-apart 0 c.0 c.1 0 s.number s.map s.place s.other (omega arith) v w n m k e in omega (arith, t.0, o))
told-map-means (refused r) (done c) (o, n, m, k, j) (v, w) e =
    absurd (let t = four-apart r.number r.map r.place r.other 0 c.0 c.1 0 n m k (omega arith) v w e in omega (arith, t.0, o))
told-map-means (refused r) (refused s) (o, n, m, k, j) (p, x, y, z, i) e =
    let t = four-apart r.number r.map r.place r.other s.number s.map s.place s.other n m k x y z e in
    ap refused (refusals r s t.0 t.1 t.2 t.3)

pub told-length-means : (a b : Answer ℕ) → Sound (λ n. Unit {0}) a → Sound (λ n. Unit {0}) b → told_length a ≡ told_length b → a ≡ b
told-length-means (done n) (done k) h l e = ap done (omega (arith, e))
told-length-means (done c) (refused s) h (o, n, m, k, j) e = absurd (omega (arith, o, n, e))
told-length-means (refused r) (done c) (o, n, m, k, j) h e = absurd (omega (arith, o, n, e))
told-length-means (refused r) (refused s) (o, n, m, k, j) (p, x, y, z, i) e =
    let t = four-apart r.number r.map r.place r.other s.number s.map s.place s.other n m k x y z e in
    ap refused (refusals r s t.0 t.1 t.2 t.3)
