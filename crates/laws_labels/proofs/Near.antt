-- Of Near of specs/, what rests on its definitions.
use Rattle.std.specs.Prelude.{◌≡◌, refl, Bool, ◌&&◌, T, ℤ, pos}
use Rattle.exact.specs.Sign.{Sign, neg, zer, plus, sgn, Sg, is_neg_lem, is_zer_lem, is_plus_lem, sg, is_plus, neg_s, sums, NotOpposite, NotSame}
use Rattle.laws_labels.specs.Near.{near}

-- ── a move along a segment ──

-- an edge that ends (or starts) strictly between the two heights, at a point with the sign u against the segment; s is its sign at the segment's end that it spans
end-near : (on : Bool) (x y : ℤ) {s u : Sign} (k : Sign) → Sg x s → Sg y u → T (sums s u k) → (y ≡ pos 0 → ⊥) → NotSame x y → near on s k ≡ is_plus u
end-near on x y k (is_neg_lem p) (is_neg_lem q) w z n = absurd (n.nn p q)
end-near on x y k (is_neg_lem p) (is_zer_lem q) w z n = absurd (z q)
end-near on x y k (is_neg_lem p) (is_plus_lem q) w z n = refl
end-near on x y neg (is_zer_lem p) (is_neg_lem q) w z n = refl
end-near on x y zer (is_zer_lem p) (is_neg_lem q) w z n = absurd w
end-near on x y plus (is_zer_lem p) (is_neg_lem q) w z n = absurd w
end-near on x y k (is_zer_lem p) (is_zer_lem q) w z n = absurd (z q)
end-near on x y neg (is_zer_lem p) (is_plus_lem q) w z n = absurd w
end-near on x y zer (is_zer_lem p) (is_plus_lem q) w z n = absurd w
end-near on x y plus (is_zer_lem p) (is_plus_lem q) w z n = refl
end-near on x y k (is_plus_lem p) (is_neg_lem q) w z n = refl
end-near on x y k (is_plus_lem p) (is_zer_lem q) w z n = absurd (z q)
end-near on x y k (is_plus_lem p) (is_plus_lem q) w z n = absurd (n.pp p q)

pub near-end : (on : Bool) (x y k : ℤ) → T (sums (sgn x) (sgn y) (sgn k)) → (y ≡ pos 0 → ⊥) → NotSame x y → near on (sgn x) (sgn k) ≡ is_plus (sgn y)
near-end on x y k w z n = end-near on x y (sgn k) (sg x) (sg y) w z n

-- an edge that spans both heights; x and y are its `the_left_by` at the two ends
span-near : (on : Bool) (x y : ℤ) {s u : Sign} (k : Sign) → Sg x s → Sg y u → T (sums u k s) → NotOpposite x y → near on s k ≡ near on u (neg_s k)
span-near on x y k (is_neg_lem p) (is_neg_lem q) w n = refl
span-near on x y neg (is_neg_lem p) (is_zer_lem q) w n = refl
span-near on x y zer (is_neg_lem p) (is_zer_lem q) w n = absurd w
span-near on x y plus (is_neg_lem p) (is_zer_lem q) w n = absurd w
span-near on x y k (is_neg_lem p) (is_plus_lem q) w n = absurd (n.np p q)
span-near on x y neg (is_zer_lem p) (is_neg_lem q) w n = absurd w
span-near on x y zer (is_zer_lem p) (is_neg_lem q) w n = absurd w
span-near on x y plus (is_zer_lem p) (is_neg_lem q) w n = refl
span-near on x y neg (is_zer_lem p) (is_zer_lem q) w n = absurd w
span-near on x y zer (is_zer_lem p) (is_zer_lem q) w n = refl
span-near on x y plus (is_zer_lem p) (is_zer_lem q) w n = absurd w
span-near on x y neg (is_zer_lem p) (is_plus_lem q) w n = refl
span-near on x y zer (is_zer_lem p) (is_plus_lem q) w n = absurd w
span-near on x y plus (is_zer_lem p) (is_plus_lem q) w n = absurd w
span-near on x y k (is_plus_lem p) (is_neg_lem q) w n = absurd (n.pn p q)
span-near on x y neg (is_plus_lem p) (is_zer_lem q) w n = absurd w
span-near on x y zer (is_plus_lem p) (is_zer_lem q) w n = absurd w
span-near on x y plus (is_plus_lem p) (is_zer_lem q) w n = refl
span-near on x y k (is_plus_lem p) (is_plus_lem q) w n = refl

pub near-span : (on : Bool) (x y k : ℤ) → T (sums (sgn y) (sgn k) (sgn x)) → NotOpposite x y → near on (sgn x) (sgn k) ≡ near on (sgn y) (neg_s (sgn k))
near-span on x y k w n = span-near on x y (sgn k) (sg x) (sg y) w n
