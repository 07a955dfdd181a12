-- Where bytes stand in a list, both ways: a part of what stands there stands at its place, and parts that stand at their places stand there together.
-- The parts are two lists end to end, rows of one width, and the fields of a record, all of w bytes. Assumes nothing.
use Rattle.std.specs.Prelude.{◌≡◌, ◌<◌, ◌∷◌, ◌++◌, ◌+◌, ◌*◌}
use Rattle.std.proofs.Common.{subst, sym, ◌∙◌, ap, suc-le-suc, add-zero, add-suc, suc-add, mul-zero, mul-suc, zero-add, not-suc-le-zero, le_of_suc-le-suc, add-one, arith, length-append, ext_get_or}
use Rattle.std.proofs.Math.Decide.{dec_lt}
use Rattle.std.proofs.Math.Seq.{get_or-append_seam, append_snoc}
use Rattle.seq.specs.Seq.{List, [], ℕ, zero, suc, length, get_or, rows, gather}
use Rattle.seq.specs.Rows.{length-rows}
use Rattle.paper.specs.Bytes.{byte_at, le}
use Rattle.laws_file.specs.Bytes.{Stands, length-le}

module _ (s : List ℕ) where
  -- ── two lists end to end ──

  pub front-stands : (i : ℕ) (a b : List ℕ) → Stands s i (a ++ b) → Stands s i a
  front-stands i [] b h = tt
  front-stands i (x ∷ a) b h = (h.0, front-stands (suc i) a b h.1)

  pub back_stands : (i : ℕ) (a b : List ℕ) → Stands s i (a ++ b) → Stands s (i + length a) b
  back_stands i [] b h = rw (add-zero i) h
  back_stands i (x ∷ a) b h = rw (add-suc i (length a), ← suc-add i (length a)) (back_stands (suc i) a b h.1)

  pub both_stand : (i : ℕ) (a b : List ℕ) → Stands s i a → Stands s (i + length a) b → Stands s i (a ++ b)
  both_stand i [] b h k = rw (add-zero i) at k
  both_stand i (x ∷ a) b h k = (h.0, both_stand (suc i) a b h.1 (rw (suc-add i (length a), ← add-suc i (length a)) k))

  -- ── rows of w bytes ──

  module _ (w : ℕ) (f : ℕ → List ℕ) (i : ℕ) where
    pub row-stands : (n k : ℕ) → ((j : ℕ) → j < n → length (f j) ≡ w) → k < n → Stands s i (rows f n) → Stands s (i + w * k) (f k)
    row-stands zero k each l h = absurd (not-suc-le-zero l)
    row-stands (suc n) k each l h =
        elim (dec_lt k n) [
          | yes q ↦ row-stands n k (λ j m. each j (omega arith)) q (front-stands i (rows f n) (f n) h)
          | no q ↦ let e : k ≡ n = omega arith in rw (e, ← length-rows w f n (λ j m. each j (omega arith))) (back_stands i (rows f n) (f n) h)
        ]

    pub rows-stand : (n : ℕ) → ((j : ℕ) → j < n → length (f j) ≡ w) → ((k : ℕ) → k < n → Stands s (i + w * k) (f k)) → Stands s i (rows f n)
    rows-stand zero each h = tt
    rows-stand (suc n) each h =
        both_stand i (rows f n) (f n) (rows-stand n (λ j m. each j (omega arith)) (λ k l. h k (omega arith)))
        (rw (length-rows w f n (λ j m. each j (omega arith))) (h n (omega arith)))

  -- ── the fields of a record ──

  module _ (w : ℕ) where
    first_field : (i : ℕ) → i + w * 0 ≡ i
    first_field i = rw (mul-zero w) (omega arith)

    next_field : (i x j : ℕ) → i + length (le w x) + w * j ≡ i + w * suc j
    next_field i x j = rw (length-le w x, mul-suc w j) (omega arith)

    pub field-stands : (fs : List ℕ) (i j : ℕ) → j < length fs → Stands s i (gather (le w) fs) → Stands s (i + w * j) (le w (get_or fs j 0))
    field-stands [] i j l h = absurd (not-suc-le-zero l)
    field-stands (x ∷ fs) i zero l h = rw (first_field i) (front-stands i (le w x) (gather (le w) fs) h)
    field-stands (x ∷ fs) i (suc j) l h =
        rw (← next_field i x j) (field-stands fs (i + length (le w x)) j (le_of_suc-le-suc l) (back_stands i (le w x) (gather (le w) fs) h))

    pub fields-stand : (fs : List ℕ) (i : ℕ) → ((j : ℕ) → j < length fs → Stands s (i + w * j) (le w (get_or fs j 0))) → Stands s i (gather (le w) fs)
    fields-stand [] i h = tt
    fields-stand (x ∷ fs) i h =
        both_stand i (le w x) (gather (le w) fs) (rw (first_field i) at (h 0 (omega arith)))
        (fields-stand fs (i + length (le w x)) (λ j l. rw (next_field i x j) (h (suc j) (suc-le-suc l))))

    pub length_fields : (fs : List ℕ) → length (gather (le w) fs) ≡ w * length fs
    length_fields [] = omega arith
    length_fields (x ∷ fs) = rw (length-append, length-le w x, length_fields fs, mul-suc w (length fs)) (omega arith)

-- ── a whole list ──

pub stands_after : (a s : List ℕ) → Stands (a ++ s) (length a) s
stands_after a [] = tt
stands_after a (x ∷ s) = (
  get_or-append_seam a x s 0,
  subst (λ (k : ℕ). Stands (a ++ (x ∷ s)) k s) one_more
      (subst (λ (t : List ℕ). Stands t (length (a ++ (x ∷ []))) s) (append_snoc a x s) (stands_after (a ++ (x ∷ [])) s)),
)
  where
    one_more : length (a ++ (x ∷ [])) ≡ suc (length a)
    one_more = rw (length-append a (x ∷ []), add-one (length a))

pub stands_self : (s : List ℕ) → Stands s 0 s
stands_self s = stands_after [] s

stands_at : (s t : List ℕ) (i j : ℕ) → Stands s i t → j < length t → byte_at s (i + j) ≡ get_or t j 0
stands_at s [] i j h l = absurd (not-suc-le-zero l)
stands_at s (x ∷ t) i zero h l = rw (add-zero i) h.0
stands_at s (x ∷ t) i (suc j) h l = rw (add-suc i j, ← suc-add i j) (stands_at s t (suc i) j h.1 (le_of_suc-le-suc l))

-- what stands in a list of its own length is the list
pub stands-whole : (s t : List ℕ) → length s ≡ length t → Stands s 0 t → s ≡ t
stands-whole s t e h = ext_get_or 0 s t e (λ j l. ap (byte_at s) (sym (zero-add j)) ∙ stands_at s t 0 j h (rw e at l))
