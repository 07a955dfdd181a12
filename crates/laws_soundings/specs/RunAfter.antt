-- Where the count stands after the bytes s, at once (`run_after`): a byte more gives where it stands after s and that byte (`after_byte`), and so does a batch (`after_batch`), so that any cut into batches gives what the
-- whole list gives (`after_all`). Assumes nothing.
use Rattle.std.specs.Prelude.{◌≡◌, refl, ◌≤◌, ◌<◌, ◌||◌, ◌∷◌, ◌++◌, ◌+◌, ◌-◌, ◌*◌, ◌/◌}
use Rattle.std.proofs.Common.{sym, ◌∙◌, ap, append_assoc, append-nil, arith, lt-ltb, le-ltb, ltb-true, ltb-false, length-append, length-take, length-drop, take-append-drop}
use Rattle.std.proofs.Math.Decide.{dec_lt}
use Rattle.std.proofs.lemmas.List.{drop-append-le}
use Rattle.std.proofs.Math.Seq.{drop-length}
use Rattle.seq.specs.Seq.{Bool, true, false, cond, List, [], gather, Option, none, some, ℕ, suc, ltb, length, take, drop, least, table, insert_by}
use Rattle.seq.specs.Total.{total}
use Rattle.seq.specs.Table.{table-ext}
use Rattle.seq.specs.Least.{least-ext}
use Rattle.seq.proofs.Least.{least-le}
use Rattle.seq.specs.Inserted.{insert-grows}
use Rattle.paper.specs.Limits.{overlay_faces, list_soundings}
use Rattle.paper.specs.Plane.{Vec}
use Rattle.paper.specs.Refusal.{Refusal}
use Rattle.paper.specs.Soundings.{Entry, lesser, added, once, tally, tally_from, soundings_in, sounding_at, far}
use Rattle.laws_soundings.specs.Tally.{tally-++}
use Rattle.laws_soundings.specs.Soundings.{sounding_before, at_past, far_before, far_past}
use Rattle.laws_soundings.specs.Reads.{total-++}
use Rattle.laws_soundings.specs.Run.{Look, Tallied, Run, halted, going, going_by, twelve, starts, capped, count_in, with_sounding, with_byte, next}

-- the labels of the first k soundings, and the edges read for them
abbrev pub tally_upto : Look → List ℕ → ℕ → List Entry
tally_upto m s k = tally (table (λ i. m.cell (sounding_at s i)) k)

abbrev pub reads_upto : Look → List ℕ → ℕ → ℕ
reads_upto m s k = total m.read (table (sounding_at s) k)

abbrev pub counts_upto : Look → List ℕ → ℕ → Option Tallied
counts_upto m s k = capped (tally_upto m s k) (reads_upto m s k)

abbrev pub first_far : List ℕ → ℕ
first_far s = least (far s) (soundings_in s)

abbrev pub run_after : Look → List ℕ → Run
run_after m s =
    cond (ltb list_soundings (soundings_in s)) (halted twelve)
    (going_by m (soundings_in s) (first_far s) (counts_upto m s (first_far s)) (drop (4 * soundings_in s) s))

-- ── one sounding more is counted ──

count-capped : (m : Look) (c : Vec) (t : List Entry) (q : ℕ) → count_in m c (capped t q) ≡ capped (insert_by lesser added (once (m.cell c)) t) (q + m.read c)
count-capped m c t q = by (ltb overlay_faces (length t)) refl
  where
    more : List Entry
    more = insert_by lesser added (once (m.cell c)) t

    by : (b : Bool) → ltb overlay_faces (length t) ≡ b → count_in m c (cond b none (some (record { entries = t; read = q }))) ≡ capped more (q + m.read c)
    by true e = let h = ltb-true overlay_faces (length t) e in sym (ap (λ (b : Bool). cond b none (some (record { entries = more; read = q + m.read c }))) (lt-ltb overlay_faces (length more) (omega (arith, insert-grows lesser added (once (m.cell c)) t))))
    by false e = refl

upto_more : (m : Look) (s : List ℕ) (k : ℕ) → count_in m (sounding_at s k) (counts_upto m s k) ≡ counts_upto m s (suc k)
upto_more m s k =
    count-capped m (sounding_at s k) (tally_upto m s k) (reads_upto m s k)
    ∙ (λ i. capped (sym (tally-++ [] (table (λ j. m.cell (sounding_at s j)) k) (m.cell (sounding_at s k) ∷ [])) i) (sym reads i))
  where
    reads : reads_upto m s (suc k) ≡ reads_upto m s k + m.read (sounding_at s k)
    reads = omega (arith, total-++ m.read (table (sounding_at s) k) (sounding_at s k ∷ []))

-- ── a byte more ──

module _ (m : Look) (s : List ℕ) (b : ℕ) where
  abbrev s' : List ℕ
  s' = s ++ (b ∷ [])

  abbrev n : ℕ
  n = soundings_in s

  abbrev k : ℕ
  k = first_far s

  abbrev rest : List ℕ
  rest = drop (4 * n) s

  abbrev whole : List ℕ
  whole = rest ++ (b ∷ [])

  longer : length s' ≡ length s + 1
  longer = length-append s (b ∷ [])

  within : 4 * n ≤ length s
  within = omega arith

  rest_long : length whole ≡ length s - 4 * n + 1
  rest_long = omega (arith, length-append rest (b ∷ []), length-drop (4 * n) s)

  rest_is : drop (4 * n) s' ≡ whole
  rest_is = drop-append-le (4 * n) s (b ∷ []) within

  far_same : least (far s') n ≡ k
  far_same = least-ext (far s') (far s) n (far_before s (b ∷ []) n within)

  counts_same : (j : ℕ) → j ≤ n → counts_upto m s' j ≡ counts_upto m s j
  counts_same j h =
      let e : (i : ℕ) → i < j → sounding_at s' i ≡ sounding_at s i = λ i l. sounding_before s (b ∷ []) n within i (omega arith) in
      λ t. capped (tally (table-ext (λ i. m.cell (sounding_at s' i)) (λ i. m.cell (sounding_at s i)) j (λ i l. ap m.cell (e i l)) t)) (total m.read (table-ext (sounding_at s') (sounding_at s) j e t))

  -- the sounding is not whole yet
  still : length s - 4 * n < 3 → going_by m n k (counts_upto m s k) whole ≡ going_by m (soundings_in s') (first_far s') (counts_upto m s' (first_far s')) (drop (4 * soundings_in s') s')
  still h =
      let e : n ≡ soundings_in s' = omega (arith, longer) in
      (λ t. going_by m n (sym far_same t) (sym (counts_same k (least-le (far s) n)) t) (sym rest_is t))
      ∙ (λ t. going_by m n (least (far s') n) (counts_upto m s' (sym far_same t)) (drop (4 * n) s'))
      ∙ (λ t. going_by m (e t) (least (far s') (e t)) (counts_upto m s' (least (far s') (e t))) (drop (4 * e t) s'))

  -- it is whole now
  module _ (h : length s - 4 * n ≡ 3) where
    one_more : soundings_in s' ≡ suc n
    one_more = omega (arith, longer)

    split : s' ≡ take (4 * n) s ++ whole
    split = ap (λ (x : List ℕ). x ++ (b ∷ [])) (sym (take-append-drop (4 * n) s)) ∙ append_assoc (take (4 * n) s) rest (b ∷ [])

    front : length (take (4 * n) s) ≡ 4 * n
    front = omega (arith, length-take (4 * n) s)

    no_more : n + 0 ≡ n
    no_more = omega arith

    new_at : sounding_at s' n ≡ sounding_at whole 0
    new_at = (λ t. sounding_at (split t) (sym no_more t)) ∙ at_past (take (4 * n) s) whole n front 0

    new_far : far s' n ≡ far whole 0
    new_far = (λ t. far (split t) (sym no_more t)) ∙ far_past (take (4 * n) s) whole n front 0

    none_left : drop (4 * suc n) s' ≡ []
    none_left = let e : 4 * suc n ≡ length s' = omega (arith, longer) in ap (λ (j : ℕ). drop j s') e ∙ drop-length s'

    abbrev past : Bool
    past = ltb k n || far whole 0

    -- by whether one before it, and whether it itself is too far
    stands : (c d : Bool) → ltb k n ≡ c → far whole 0 ≡ d →
        (cond (c || d) k (suc k) ≡ cond c k (cond d n (suc n))) × (cond (c || d) (counts_upto m s k) (count_in m (sounding_at whole 0) (counts_upto m s k)) ≡ counts_upto m s' (cond c k (cond d n (suc n))))
    stands true d e f = (refl, sym (counts_same k (least-le (far s) n)))
    stands false true e f =
        let q : k ≡ n = omega (arith, ltb-false k n e, least-le (far s) n) in
        (q, ap (counts_upto m s) q ∙ sym (counts_same n (omega arith)))
    stands false false e f =
        let q : k ≡ n = omega (arith, ltb-false k n e, least-le (far s) n) in
        (ap suc q, (λ t. count_in m (sym new_at t) (counts_upto m s (q t))) ∙ ap (count_in m (sounding_at s' n)) (sym (counts_same n (omega arith))) ∙ upto_more m s' n)

    far_is : first_far s' ≡ cond (ltb k n) k (cond (far whole 0) n (suc n))
    far_is =
        ap (least (far s')) one_more
        ∙ (λ t. cond (ltb (far_same t) n) (far_same t) (cond (new_far t) n (suc n)))

    counted : going_by m (suc n) (cond past k (suc k)) (cond past (counts_upto m s k) (count_in m (sounding_at whole 0) (counts_upto m s k))) []
        ≡ going_by m (soundings_in s') (first_far s') (counts_upto m s' (first_far s')) (drop (4 * soundings_in s') s')
    counted =
        let x = stands (ltb k n) (far whole 0) refl refl in
        (λ t. going_by m (suc n) (x.0 t) (x.1 t) (sym none_left t))
        ∙ (λ t. going_by m (sym one_more t) (sym far_is t) (counts_upto m s' (sym far_is t)) (drop (4 * sym one_more t) s'))

    sounding_more : with_sounding m n k (counts_upto m s k) whole ≡ run_after m s'
    sounding_more =
        elim (dec_lt n list_soundings) [
          | yes l ↦ ap (λ (c : Bool). cond c (going_by m (suc n) (cond past k (suc k)) (cond past (counts_upto m s k) (count_in m (sounding_at whole 0) (counts_upto m s k))) []) (halted twelve)) (lt-ltb n list_soundings l)
              ∙ counted
              ∙ sym (ap (λ (c : Bool). cond c (halted twelve) (going_by m (soundings_in s') (first_far s') (counts_upto m s' (first_far s')) (drop (4 * soundings_in s') s'))) (le-ltb list_soundings (soundings_in s') (omega (arith, one_more))))
          | no l ↦ ap (λ (c : Bool). cond c (going_by m (suc n) (cond past k (suc k)) (cond past (counts_upto m s k) (count_in m (sounding_at whole 0) (counts_upto m s k))) []) (halted twelve)) (le-ltb n list_soundings (omega arith))
              ∙ sym (ap (λ (c : Bool). cond c (halted twelve) (going_by m (soundings_in s') (first_far s') (counts_upto m s' (first_far s')) (drop (4 * soundings_in s') s'))) (lt-ltb list_soundings (soundings_in s') (omega (arith, one_more))))
        ]

  byte_more : soundings_in s ≤ list_soundings → cond (ltb (length whole) 4) (going_by m n k (counts_upto m s k) whole) (with_sounding m n k (counts_upto m s k) whole) ≡ run_after m s'
  byte_more l =
      elim (dec_lt (length s - 4 * n) 3) [
        | yes h ↦ ap (λ (c : Bool). cond c (going_by m n k (counts_upto m s k) whole) (with_sounding m n k (counts_upto m s k) whole)) (lt-ltb (length whole) 4 (omega (arith, rest_long)))
            ∙ still h
            ∙ sym (ap (λ (c : Bool). cond c (halted twelve) (going_by m (soundings_in s') (first_far s') (counts_upto m s' (first_far s')) (drop (4 * soundings_in s') s'))) (le-ltb list_soundings (soundings_in s') (omega (arith, longer))))
        | no h ↦ ap (λ (c : Bool). cond c (going_by m n k (counts_upto m s k) whole) (with_sounding m n k (counts_upto m s k) whole)) (le-ltb (length whole) 4 (omega (arith, rest_long)))
            ∙ sounding_more (omega arith)
      ]

  pub after_byte : with_byte (run_after m s) b ≡ run_after m (s ++ (b ∷ []))
  after_byte = by (ltb list_soundings n) refl
    where
      by : (c : Bool) → ltb list_soundings n ≡ c → with_byte (cond c (halted twelve) (going_by m n k (counts_upto m s k) rest)) b ≡ run_after m s'
      by true e = sym (ap (λ (c : Bool). cond c (halted twelve) (going_by m (soundings_in s') (first_far s') (counts_upto m s' (first_far s')) (drop (4 * soundings_in s') s'))) (lt-ltb list_soundings (soundings_in s') (omega (arith, longer, ltb-true list_soundings n e))))
      by false e = byte_more (ltb-false list_soundings n e)

-- ── a batch more, and batch after batch ──

pub after_batch : (m : Look) (s b : List ℕ) → next (run_after m s) b ≡ run_after m (s ++ b)
after_batch m s [] = ap (run_after m) (sym (append-nil s))
after_batch m s (x ∷ b) =
    ap (λ (r : Run). next r b) (after_byte m s x)
    ∙ after_batch m (s ++ (x ∷ [])) b ∙ ap (run_after m) (append_assoc s (x ∷ []) b)

-- a byte more at the end of a batch
pub next_more : (r : Run) (b : List ℕ) (x : ℕ) → next r (b ++ (x ∷ [])) ≡ with_byte (next r b) x
next_more r [] x = refl
next_more r (y ∷ b) x = next_more (with_byte r y) b x

-- two batches one after the other are one
pub next_on : (r : Run) (a b : List ℕ) → next (next r a) b ≡ next r (a ++ b)
next_on r [] b = refl
next_on r (x ∷ a) b = next_on (with_byte r x) a b

abbrev pub the_end_to_end : List (List ℕ) → List ℕ
the_end_to_end = gather (λ b. b)

abbrev pub next_all : Run → List (List ℕ) → Run
next_all r [] = r
next_all r (b ∷ bs) = next_all (next r b) bs

all_from : (m : Look) (s : List ℕ) (bs : List (List ℕ)) → next_all (run_after m s) bs ≡ run_after m (s ++ the_end_to_end bs)
all_from m s [] = ap (run_after m) (sym (append-nil s))
all_from m s (b ∷ bs) =
    ap (λ (r : Run). next_all r bs) (after_batch m s b)
    ∙ all_from m (s ++ b) bs ∙ ap (run_after m) (append_assoc s b (the_end_to_end bs))

pub after_all : (m : Look) (bs : List (List ℕ)) → next_all (starts m) bs ≡ run_after m (the_end_to_end bs)
after_all m bs = all_from m [] bs

-- what is refused stays so
pub halted-stays : (r : Refusal) (b : List ℕ) → next (halted r) b ≡ halted r
halted-stays r [] = refl
halted-stays r (x ∷ b) = halted-stays r b
