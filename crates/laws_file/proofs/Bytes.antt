-- Of Bytes of specs/, what rests on its definitions.
use Rattle.std.specs.Prelude.{◌≡◌, ◌<◌, ◌∷◌, ◌+◌, ◌*◌, ◌-◌, ◌/◌, ◌%◌, ◌^◌}
use Rattle.std.proofs.Common.{◌∙◌, ap, arith, ltb-true, le-ltb}
use Rattle.seq.specs.Seq.{true, false, List, [], ℕ, suc, ℤ, pos, negsuc}
use Rattle.paper.specs.Bytes.{signed_at, le_signed, the_fits_signed}
use Rattle.laws_file.specs.Bytes.{Stands, signed_by, number_of, some_numbers}

-- ── what is written is read ──

module _ (w : ℕ) (s : List ℕ) (i : ℕ) where
  -- a number that fits
  pub signed_of : (z : ℤ) → the_fits_signed w z ≡ true → Stands s i (le_signed w z) → signed_at w s i ≡ z
  signed_of (pos n) f b =
      let h : n < 256 ^ w / 2 = ltb-true n (256 ^ w / 2) f in
      signed_by w s i n true f (number_of w n s i (omega arith) b)
  signed_of (negsuc n) f b =
      let h : n < 256 ^ w / 2 = ltb-true n (256 ^ w / 2) f in
      let m : ℕ = 256 ^ w - suc n in
      let back : 256 ^ w - suc m ≡ n = omega arith in
      signed_by w s i m false (le-ltb m (256 ^ w / 2) (omega arith)) (number_of w m s i (omega (arith, some_numbers w)) b) ∙ ap negsuc back
