-- Rows that are no edges between corners (`strays_at`), as the code finds them; and that where there is none the rows are `Carriers`, and the other way round (`kept-carriers`, `carriers-kept`). Assumes nothing.
use Rattle.std.specs.Prelude.{◌≡◌, ◌≤◌, ◌<◌, ◌||◌, ◌*◌, ◌+ℤ◌}
use Rattle.std.proofs.Common.{sym, ◌∙◌, ap, ltb-false, lt-ltb, le-ltb}
use Rattle.seq.specs.Seq.{Bool, true, false, List, ℕ, length, ltb, the_some_below, ℤ, nat_abs}
use Rattle.seq.specs.Tests.{or_l, or_false}
use Rattle.seq.proofs.Least.{no_some, no_some_is}
use Rattle.paper.specs.Limits.{reach}
use Rattle.paper.specs.Plane.{Seg}
use Rattle.plane.specs.Bounds as Bounds
use Rattle.plane.specs.Bounds.{span}
use Rattle.graph.specs.Flat.{carrier_at, Carriers}

-- one coordinate: of the lower end x, and the way u
abbrev pub strays_by : ℤ → ℤ → Bool
strays_by x u = ltb reach (nat_abs x) || (ltb span (nat_abs u) || ltb reach (nat_abs (x +ℤ u)))

abbrev pub strays : Seg → Bool
strays s = strays_by s.foot.x s.up.x || strays_by s.foot.y s.up.y

abbrev pub strays_at : List ℤ → ℕ → Bool
strays_at rs i = strays (carrier_at rs i)

-- ── a coordinate, test by test ──

module _ (x u : ℤ) where
  pub strays_low : reach < nat_abs x → true ≡ strays_by x u
  strays_low h = sym (or_l (ltb span (nat_abs u) || ltb reach (nat_abs (x +ℤ u))) (lt-ltb reach (nat_abs x) h))

  module _ (l : nat_abs x ≤ reach) where
    passed : strays_by x u ≡ (ltb span (nat_abs u) || ltb reach (nat_abs (x +ℤ u)))
    passed = ap (λ (b : Bool). b || (ltb span (nat_abs u) || ltb reach (nat_abs (x +ℤ u)))) (le-ltb reach (nat_abs x) l)

    pub strays-way : span < nat_abs u → true ≡ strays_by x u
    strays-way h = sym (passed ∙ or_l (ltb reach (nat_abs (x +ℤ u))) (lt-ltb span (nat_abs u) h))

    pub strays_high : nat_abs u ≤ span → ltb reach (nat_abs (x +ℤ u)) ≡ strays_by x u
    strays_high h = sym (passed ∙ ap (λ (b : Bool). b || ltb reach (nat_abs (x +ℤ u))) (le-ltb span (nat_abs u) h))

  fits_by : strays_by x u ≡ false → (nat_abs x ≤ reach) × (nat_abs u ≤ span) × (nat_abs (x +ℤ u) ≤ reach)
  fits_by e =
      let a = or_false (ltb reach (nat_abs x)) (ltb span (nat_abs u) || ltb reach (nat_abs (x +ℤ u))) e in
      let b = or_false (ltb span (nat_abs u)) (ltb reach (nat_abs (x +ℤ u))) a.1 in
      (ltb-false reach (nat_abs x) a.0, ltb-false span (nat_abs u) b.0, ltb-false reach (nat_abs (x +ℤ u)) b.1)

  by_fits : nat_abs x ≤ reach → nat_abs u ≤ span → nat_abs (x +ℤ u) ≤ reach → strays_by x u ≡ false
  by_fits a b c = passed a ∙ (λ i. le-ltb span (nat_abs u) b i || le-ltb reach (nat_abs (x +ℤ u)) c i)

-- ── rows ──

pub strays_first : (rs : List ℤ) (i : ℕ) (b : Bool) → b ≡ strays_by (carrier_at rs i).foot.x (carrier_at rs i).up.x → b ≡ true → true ≡ strays_at rs i
strays_first rs i b e t = sym (or_l (strays_by (carrier_at rs i).foot.y (carrier_at rs i).up.y) (sym e ∙ t))

pub strays-second : (rs : List ℤ) (i : ℕ) (b c : Bool) → b ≡ strays_by (carrier_at rs i).foot.x (carrier_at rs i).up.x → b ≡ false → c ≡ strays_by (carrier_at rs i).foot.y (carrier_at rs i).up.y → c ≡ strays_at rs i
strays-second rs i b c e f g = g ∙ ap (λ (x : Bool). x || strays_by (carrier_at rs i).foot.y (carrier_at rs i).up.y) (sym f ∙ e)

edge_kept : (s : Seg) → strays s ≡ false → Bounds.Edge s
edge_kept s e =
    let o = or_false (strays_by s.foot.x s.up.x) (strays_by s.foot.y s.up.y) e in
    let (a, b, c) = fits_by s.foot.x s.up.x o.0 in
    let (p, q, r) = fits_by s.foot.y s.up.y o.1 in
    record { foot_is = record { x_is = a; y_is = p }; head_is = record { x_is = c; y_is = r }; up_is = record { x_is = b; y_is = q } }

kept-edge : (s : Seg) → Bounds.Edge s → strays s ≡ false
kept-edge s E =
    λ i. by_fits s.foot.x s.up.x E.foot_is.x_is E.up_is.x_is E.head_is.x_is i || by_fits s.foot.y s.up.y E.foot_is.y_is E.up_is.y_is E.head_is.y_is i

pub kept-carriers : (rs : List ℤ) (e : ℕ) → 4 * e ≤ length rs → the_some_below (strays_at rs) e ≡ false → Carriers rs e
kept-carriers rs e l h = record { long = l; near = λ k b. edge_kept (carrier_at rs k) (no_some_is (strays_at rs) e h k b) }

pub carriers-kept : (rs : List ℤ) (e : ℕ) → Carriers rs e → the_some_below (strays_at rs) e ≡ false
carriers-kept rs e C = no_some (strays_at rs) e (λ k b. kept-edge (carrier_at rs k) (C.near k b))
