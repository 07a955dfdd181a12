-- Numbers and marks in files, "low byte first". Assumes nothing.
use Rattle.std.specs.Prelude.{◌&&◌, ◌∷◌, ◌+◌, ◌*◌, ◌-◌, ◌/◌, ◌%◌, ◌^◌}
use Prim.Native.Char.{code}
use Prim.Native.String as Str
use Prim.Native.String.{String}
use Rattle.std.specs.Int.Signed.{mag}
use Rattle.seq.specs.Seq.{Bool, true, false, cond, List, [], ℕ, zero, suc, ltb, eqb, get_or, ℤ, pos, negsuc}

-- a text as its bytes; it has no character past 127
abbrev pub ascii : String → List ℕ
ascii Str.[] = []
ascii (Str.◌∷◌ c s) = code c ∷ ascii s

-- ── reading ──

abbrev pub byte_at : List ℕ → ℕ → ℕ
byte_at s i = get_or s i 0

-- the bytes from i on begin with a mark
abbrev pub marked : List ℕ → List ℕ → ℕ → Bool
marked [] s i = true
marked (c ∷ cs) s i = eqb (byte_at s i) c && marked cs s (suc i)

-- the number in the w bytes at i
abbrev pub number : ℕ → List ℕ → ℕ → ℕ
number zero s i = 0
number (suc w) s i = byte_at s i + 256 * number w s (suc i)

abbrev pub u16 : List ℕ → ℕ → ℕ
u16 s i = number 2 s i

-- the signed number there, two's complement
abbrev pub signed_at : ℕ → List ℕ → ℕ → ℤ
signed_at w s i = let n = number w s i in cond (ltb n (256 ^ w / 2)) (pos n) (negsuc (256 ^ w - suc n))

-- ── writing ──

-- n in w bytes
abbrev pub le : ℕ → ℕ → List ℕ
le zero n = []
le (suc w) n = n % 256 ∷ le w (n / 256)

-- a signed number in w bytes, two's complement
abbrev pub le_signed : ℕ → ℤ → List ℕ
le_signed w (pos n) = le w n
le_signed w (negsuc n) = le w (256 ^ w - suc n)

abbrev pub the_fits_signed : ℕ → ℤ → Bool
the_fits_signed w z = ltb (mag z) (256 ^ w / 2)

abbrev pub fits_unsigned : ℕ → ℤ → Bool
fits_unsigned w (pos n) = ltb n (256 ^ w)
fits_unsigned w (negsuc n) = false
