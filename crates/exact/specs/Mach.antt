-- Signed machine arithmetic: what answers a need of i64 code in a line. A signed local holds bits, so a need speaks of  toZ w64 (ofZ w64 x),  what the
-- machine reads back, nested as the operations are. `Tr x` says that such a term x is a plain integer z with |z| ≤ B. `search tr` makes one of a term of
-- + − × / % and casts, from the bounds  natAbs a ≤ B  of its atoms among the hypotheses and the fields of `c`, or bound by a `let`. Then:
--     fits (search tr depth 20) tt : SFits w x            B is computed, and is below 2^63 by `tt`
--     plain (search tr depth 20) tt : x ≡ z               z is x with every toZ (ofZ _) gone
--     atmost (search tru depth 20) tt : natAbs x ≤ K      and `under` for <
--     taken e (search trb depth 20) tt : T (ltZ z z')     of a test's equation e : ltZ x x' ≡ true; `left` of one ≡ false; under ltZ-yes, ltZ-no, leZ-yes, le_z_no
--     test (search trb depth 20) tt : ltZ x x' ≡ ltZ z z'
--     eq_yes w64 e (search trbits depth 20) (search trbits depth 20) tt : z ≡ z'     of a test's e : ofZ w64 x ≡ ofZ w64 x'; `eq_no` of its negation
--     divisor w64 y (search tr depth 20) tt h : 0 < ofZ w64 y     of h : y ≡ pos 0 → ⊥; with `fits` this is all that y ≠ 0 under / and % asks
--     cast-u w64 w16 x (search tr depth 20) tt h          x as u16, of h : pos 0 ≤ℤ x, as  T (nonNeg x) × Fits w16 (natAbs x)  of what the machine reads
-- The sets: tr; trs and trbs, where an atom has no bound but its type's range (an i16 as an i64); trn, with numbers cast from unsigned ones (a u16 or u32 as
-- an i64); tru, of natAbs; trbits, of the bits. Worked has an example of each.
-- In Terms, Flags and Bits, whose names are passed on, and those of Abs. Assumes nothing.
pub use Rattle.exact.specs.Abs.{abs_neg, abs-+, abs-*, abs-0-, abs-hi, abs-lo, abs_of, bd-+, bd-*, bd_quot, bd-rem}
pub use Rattle.exact.specs.Tests.{holds, fails, true_of, false_of, eq_z, eq_z→, →eq_z}
pub use Rattle.exact.specs.Terms.{sfits-abs, Tr, ◌&◌, &-l, &-r, tr-+, tr-*, tr_neg, tr_quot, tr_rem, tr_pos, tr_negsuc, tr_atom, tr-atom<, back_is, tr_back, tr_sfits, tr, trs, fits, plain}
pub use Rattle.exact.specs.Flags.{cond_yes, cond_no, TrB, tr_lt, tr_le, tr_not, tr_non_neg, trb, trbs, test, taken, left, le_z_no}
pub use Rattle.exact.specs.Bits.{nat-is, tr_nat, trn, TrN, trn_of, trn_sfits, lit_is, lit_fits, trn_lit, eq_yes, eq_no, eqb_is, tr_eqb, tr_eqb64, tr_eqb32, tr_eqb16, trbits, divisor, TrU, tru_abs, tru, cast_u, under, atmost, cast_is, to_z_high}
