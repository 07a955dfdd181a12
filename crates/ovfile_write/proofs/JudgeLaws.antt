-- Refusals 5 and 21 as the code finds them: whether a number fits its bytes, by its magnitude; the least outgoing half-edges from a table; and what is known
-- of a vertex that is not refused. Assumes nothing.
use Rattle.std.specs.Prelude.{◌&&◌, ◌*◌, ◌/◌, ◌^◌, ◌-ℤ◌}
use mathlib.Core.Path.{◌≡◌, refl, ◌∙◌, ap}
use Prim.Native.Nat.{◌≤◌, ◌<◌}
use native.Mathlib.Omega.{arith}
use borrow.Author.Tests.{ltb-true, not-false}
use lib.Signed.{◌≤ℤ◌, ◌<ℤ◌}
use mir.Syntax.{w64}
use mir.Val.{SFits, of_z}
use Rattle.seq.specs.Seq.{true, false, not, List, [], ℕ, leb, ltb, eqb, length, get_or, ℤ, pos, negsuc, nat_abs, least}
use Rattle.seq.specs.Least.{least-ext}
use Rattle.seq.specs.Tests.{clash, and_parts}
use Rattle.exact.specs.Order.{pos≮0}
use Rattle.exact.specs.Mach.{trn_sfits, eqb_is}
use Rattle.exact.specs.Tests.{eq-sign}
use Rattle.paper.specs.Limits.{absent, overlay_vertices, coordinate_bytes, denominator_bytes}
use Rattle.paper.specs.Plane.{is_zer, sgn}
use Rattle.paper.specs.Bytes.{the_fits_signed, fits_unsigned}
use Rattle.paper.specs.Tables.{Counts}
use Rattle.paper.specs.Writer.{bad_vertex}
use Rattle.tables.specs.Values.{tables_by}
use Rattle.ovfile.specs.Values.{layout}
use Rattle.ovfile.specs.Firsts.{column, FirstPlaces}
use Rattle.ovfile.proofs.SoundLaws.{first_at_lem}
use Rattle.ovfile_write.specs.Judged.{vertex_at, bad_vertex_by, LeastStarts, VertexFits}

-- ── numbers that fit, by their magnitude ──

module _ (w : ℕ) where
  pub signed_low : (z : ℤ) → pos 0 ≤ℤ z → ltb (nat_abs z) (256 ^ w / 2) ≡ the_fits_signed w z
  signed_low (pos n) h = refl
  signed_low (negsuc n) h = absurd h.le

  pub signed_high : (z : ℤ) → z <ℤ pos 0 → leb (nat_abs z) (256 ^ w / 2) ≡ the_fits_signed w z
  signed_high (pos n) h = absurd (pos≮0 n h)
  signed_high (negsuc n) h = refl

  pub unsigned_low : (z : ℤ) → pos 0 ≤ℤ z → ltb (nat_abs z) (256 ^ w) ≡ fits_unsigned w z
  unsigned_low (pos n) h = refl
  unsigned_low (negsuc n) h = absurd h.le

  pub unsigned_high : (z : ℤ) → z <ℤ pos 0 → false ≡ fits_unsigned w z
  unsigned_high (pos n) h = absurd (pos≮0 n h)
  unsigned_high (negsuc n) h = refl

  signed_fits : (z : ℤ) → the_fits_signed w z ≡ true → nat_abs z ≤ 256 ^ w
  signed_fits (pos n) e = omega (arith, ltb-true n (256 ^ w / 2) e)
  signed_fits (negsuc n) e = omega (arith, ltb-true n (256 ^ w / 2) e)

  unsigned_fits : (z : ℤ) → fits_unsigned w z ≡ true → nat_abs z ≤ 256 ^ w
  unsigned_fits (pos n) e = omega (arith, ltb-true n (256 ^ w) e)
  unsigned_fits (negsuc n) e = absurd (clash e refl)

-- ── two numbers of 64 bits, by their bits ──

pub same_number : (x y : ℤ) {a b : ℤ} → SFits w64 x → SFits w64 y → x ≡ a → y ≡ b → eqb (of_z w64 x) (of_z w64 y) ≡ is_zer (sgn (a -ℤ b))
same_number x y f g p q = eqb_is w64 (trn_sfits {x = x} f) (trn_sfits {x = y} g) tt ∙ eq-sign x y ∙ (λ i. is_zer (sgn (p i -ℤ q i)))

-- ── the least outgoing half-edges ──

pub starts_by : (hs : List ℕ) {n : ℕ} {d t : List ℕ} → FirstPlaces (column hs 0) n d t → overlay_vertices ≤ length t → ((v : ℕ) → v < overlay_vertices → get_or d v 0 ≡ absent) → LeastStarts hs n t
starts_by hs r b none = record { at = λ v l. first_at_lem (column hs 0) r v absent (omega arith) (none v l) }

module _ (c : Counts) (vs : List ℤ) (hs : List ℕ) where
  pub by_table : {t : List ℕ} → LeastStarts hs (2 * c.edges) t → c.vertices ≤ overlay_vertices → least (bad_vertex_by vs t) c.vertices ≡ least (bad_vertex layout c (tables_by vs hs [] [])) c.vertices
  by_table {t} r b =
      least-ext (bad_vertex_by vs t) (bad_vertex layout c (tables_by vs hs [] [])) c.vertices
      (λ v l. ap (λ (h : ℕ). not (the_fits_signed coordinate_bytes (vertex_at vs v 0) && (the_fits_signed coordinate_bytes (vertex_at vs v 1) && (fits_unsigned denominator_bytes (vertex_at vs v 2) && is_zer (sgn (vertex_at vs v 3 -ℤ pos h))))))
      (r.at v (omega arith)))

  -- a vertex that is not refused fits
  pub good_fits : (v : ℕ) → bad_vertex layout c (tables_by vs hs [] []) v ≡ false → VertexFits vs v
  good_fits v e =
      let x = and_parts (the_fits_signed coordinate_bytes (vertex_at vs v 0)) _ (not-false _ e) in
      let y = and_parts (the_fits_signed coordinate_bytes (vertex_at vs v 1)) _ x.1 in
      let d = and_parts (fits_unsigned denominator_bytes (vertex_at vs v 2)) _ y.1 in
      record { x = signed_fits coordinate_bytes (vertex_at vs v 0) x.0; y = signed_fits coordinate_bytes (vertex_at vs v 1) y.0; d = unsigned_fits denominator_bytes (vertex_at vs v 2) d.0 }
