-- Text put into a line behind text. Assumes nothing.
use Rattle.std.specs.Prelude.{◌++◌, ◌+◌, ◌*◌}
use mathlib.Core.Path.{◌≡◌, refl, sym, ◌∙◌, ap}
use mathlib.Core.List.{append_assoc}
use Prim.Native.Nat.{◌≤◌}
use native.Mathlib.Nat.{zero-add}
use native.Mathlib.Omega.{arith}
use lib.ListN.{length-append}
use lib.Seq.{sets-eq, take_at}
use borrow.Author.Tests.{eq-eqb, ne_eqb}
use Rattle.seq.specs.Seq.{Bool, cond, List, [], ℕ, eqb, length, get_or, take, drop, sets, rows}
use Rattle.seq.specs.Over.{stored-behind}
use Rattle.seq.specs.Rows.{rows_more}
use Rattle.paper.specs.Bytes.{ascii}
use Rattle.paper.specs.Limits.{maps}
use Rattle.paper.specs.Tables.{Counts, face_width}
use Rattle.paper.specs.Listing.{decimal, counts_line}
use Rattle.text.specs.Line.{Put}
use Rattle.text.specs.Lines.{Line, least_text, labels_text, face_text, gaps_in, gaps_text, listing_text}

-- ── text behind text ──

pub put-behind : {xs ys d t u : List ℕ} {m n at k r : ℕ} → Put xs m d at t k → Put ys n t k u r → Put (xs ++ ys) (m + n) d at u r
put-behind {xs} {ys} {d} {t} {u} {m} {n} {at} {k} {r} p q =
    record {
      is = q.is ∙ ap (λ (s : List ℕ). sets s k ys) p.is ∙ ap (λ (j : ℕ). sets (sets d at xs) j ys) p.end ∙ stored-behind d at xs ys;
      end = omega (arith, p.end, q.end, length-append xs ys);
      kept = q.kept ∙ p.kept;
      within = omega (arith, p.within, q.within);
    }

-- the same text, said otherwise
pub put_as : {xs ys d t : List ℕ} {m n at r : ℕ} → Put xs m d at t r → xs ≡ ys → m ≤ n → Put ys n d at t r
put_as {xs} {ys} {d} {t} {m} {n} {at} {r} p e h =
    record { is = p.is ∙ ap (sets d at) e; end = p.end ∙ ap (λ (s : List ℕ). at + length s) e; kept = p.kept; within = omega (arith, p.within) }

-- a field behind text
pub put-field : (ys zs : List ℕ) {xs d t u : List ℕ} {m n at k r : ℕ} → Put xs m d at t k → Put (ys ++ zs) n t k u r → Put (xs ++ ys ++ zs) (m + n) d at u r
put-field ys zs {xs} p q = put_as (put-behind p q) (sym (append_assoc xs ys zs)) (omega arith)

-- a text put at the start of a line that is long enough
pub put-line : {text d t : List ℕ} {m most r : ℕ} → Put text m d 0 t r → m ≤ most → most ≤ length d → Line most text d t r
put-line {text} {d} {t} {m} {most} {r} p h l =
    let e : r ≡ length text = p.end ∙ zero-add (length text) in
    let s : take r t ≡ text = ap (take r) (p.is ∙ sets-eq text d 0 (omega (arith, p.within, e))) ∙ take_at text (drop (0 + length text) d) r (sym e) in
    record { all = p.is; is = s; end = e; within = omega (arith, p.within); counts = (omega (arith, p.within, p.kept), e ∙ sym (ap length s)) }

-- ── "least outer half-edge (`-` for face 0)" ──

pub least_none : (f h : ℕ) → f ≡ 0 → ascii " -" ≡ least_text f h
least_none f h e = sym (ap (λ (b : Bool). ascii " " ++ cond b (ascii "-") (decimal h)) (eq-eqb f 0 e))

pub least_some : (f h : ℕ) → (f ≡ 0 → ⊥) → ascii " " ++ decimal h ≡ least_text f h
least_some f h e = sym (ap (λ (b : Bool). ascii " " ++ cond b (ascii "-") (decimal h)) (ne_eqb f 0 e))

-- ── a face's line ──

abbrev face_fields : ℕ → ℕ → ℕ → ℕ → ℕ → List ℕ
face_fields f a b h o = labels_text f a b ++ ascii " " ++ cond (eqb f 0) (ascii "-") (decimal h) ++ ascii " " ++ decimal o ++ ascii "\n"

pub face-fields : (fs : List ℕ) (f : ℕ) {a b h o : ℕ}
    → a ≡ get_or fs (face_width maps * f + 0) 0 → b ≡ get_or fs (face_width maps * f + 1) 0 → h ≡ get_or fs (face_width maps * f + maps) 0 → o ≡ get_or fs (face_width maps * f + (maps + 1)) 0
    → face_fields f a b h o ≡ face_text fs f
face-fields fs f {a} {b} {h} {o} ea eb eh eo =
    let at : ℕ → ℕ = λ j. get_or fs (face_width maps * f + j) 0 in
    ap (λ (x : ℕ). face_fields f x b h o) ea ∙ ap (λ (x : ℕ). face_fields f (at 0) x h o) eb
    ∙ ap (λ (x : ℕ). face_fields f (at 0) (at 1) x o) eh ∙ ap (face_fields f (at 0) (at 1) (at maps)) eo

-- ── lines one behind the other ──

pub put_none : (d : List ℕ) (at : ℕ) → Put [] 0 d at d at
put_none d at = record { is = refl; end = omega arith; kept = refl; within = omega arith }

-- one face's line more
pub put-face_more : (fs : List ℕ) (f : ℕ) {d t u : List ℕ} {at k r : ℕ}
    → Put (rows (face_text fs) f) (64 * f) d at t k → Put (face_text fs f) 64 t k u r → Put (rows (face_text fs) (f + 1)) (64 * (f + 1)) d at u r
put-face_more fs f p q = put_as (put-behind p q) (sym (rows_more (face_text fs) f)) (omega arith)

pub put-faces_all : (fs : List ℕ) {f n : ℕ} {d t : List ℕ} {at k : ℕ}
    → Put (rows (face_text fs) f) (64 * f) d at t k → f ≤ n → n ≤ f → Put (rows (face_text fs) n) (64 * n) d at t k
put-faces_all fs {f} {n} p l h = let e : f ≡ n = omega arith in put_as p (ap (rows (face_text fs)) e) (omega arith)

-- the counts, the faces and the gaps are the listing
pub listing-parts : (c : Counts) (fs : List ℕ) → counts_line c ++ rows (face_text fs) c.faces ++ gaps_text (gaps_in fs c.faces) ≡ listing_text c fs
listing-parts c fs =
    let head = counts_line c ++ rows (face_text fs) c.faces in
    let number = decimal (gaps_in fs c.faces) in
    sym (append_assoc head (ascii "gaps " ++ number) (ascii "\n")) ∙ ap (λ (s : List ℕ). s ++ ascii "\n") (sym (append_assoc head (ascii "gaps ") number))
