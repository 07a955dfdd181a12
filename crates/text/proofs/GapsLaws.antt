-- Counting the gaps: before turn f the gaps among the faces 1 to f - 1 are counted. Assumes nothing.
use Rattle.std.specs.Prelude.{◌+◌, ◌*◌, ◌-◌}
use mathlib.Core.Path.{◌≡◌, refl, ◌∙◌, ap, subst}
use Prim.Native.Nat.{◌≤◌, ◌<◌}
use native.Mathlib.Omega.{arith}
use mir.Val.{bool_byte}
use Rattle.seq.specs.Seq.{List, Bool, true, false, ℕ, suc, cond, get_or}
use Rattle.paper.specs.Limits.{maps}
use Rattle.paper.specs.Tables.{face_width}
use Rattle.paper.specs.Listing.{is_gap}
use Rattle.seq.specs.Loops.Selecting.{Counting, count_turns}

-- face f is a gap, by its row
abbrev pub gap_at : List ℕ → ℕ → Bool
gap_at fs f = is_gap (get_or fs (face_width maps * f + 0) 0) (get_or fs (face_width maps * f + 1) 0)

-- the faces from 1 on
abbrev pub gap_behind : List ℕ → ℕ → Bool
gap_behind fs f = gap_at fs (suc f)

pub gaps-turn : (fs : List ℕ) {n found f r : ℕ} → Counting (gap_behind fs) (n - 1) found (f - 1) → 1 ≤ f → f < n → r ≡ found + cond (gap_at fs f) 1 0
    → Counting (gap_behind fs) (n - 1) r (f + 1 - 1)
gaps-turn fs {n} {found} {f} {r} k from h e =
    let s : f ≡ suc (f - 1) = omega arith in
    let z : f - 1 + 1 ≡ f + 1 - 1 = omega arith in
    subst (Counting (gap_behind fs) (n - 1) r) z (count_turns k (gap_behind fs (f - 1)) (omega arith) refl (e ∙ ap (λ (x : ℕ). found + cond (gap_at fs x) 1 0) s))

-- ── one face ──

-- the number that the code adds
pub byte_is : (b : Bool) → bool_byte b ≡ cond b 1 0
byte_is true = refl
byte_is false = refl

pub byte_most : (b : Bool) → bool_byte b ≤ 1
byte_most true = omega arith
byte_most false = omega arith
