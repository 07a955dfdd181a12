-- The best of each key, from a table of `none`:    for i in 0..m { if t[key(i)] == none || b(i, t[key(i)]) { t[key(i)] = i } }
-- Before turn i cell v has the best by b of the numbers below i whose key is v, or `none`, which is no number below m. Assumes nothing.
use Rattle.std.specs.Prelude.{◌≡◌, refl, ◌≤◌, ◌<◌, set, ◌+◌}
use Rattle.std.proofs.Common.{sym, ◌∙◌, ap, arith, eqb-true, eq-eqb, ne_eqb, length-set}
use Rattle.seq.specs.Seq.{Bool, List, ℕ, eqb, length, get_or, filled}
use Rattle.seq.specs.Best.{best_has}
use Rattle.seq.specs.Filled.{filled_at, length-filled, filled_is, filled-set, filled-twice}
use Rattle.seq.specs.Pick.{pick, better, Away, turn_yes, turn_no, pick_some}

module _ (key : ℕ → ℕ) (b : ℕ → ℕ → Bool) where
  abbrev pub has_key : ℕ → ℕ → Bool
  has_key v k = eqb (key k) v

  -- the best of the first i numbers whose key is v, none where there is none
  abbrev pub chosen_or : ℕ → ℕ → ℕ → ℕ
  chosen_or none i v = pick (has_key v) b none i

  keys-away : (none i v : ℕ) → i ≤ none → Away (has_key v) b none i
  keys-away none i v l k h q = omega (arith, h.below)

  -- it is one of them
  chosen_has : (none i v r : ℕ) → r ≡ chosen_or none i v → (r ≡ none → ⊥) → (r < i) × (key r ≡ v)
  chosen_has none i v r e f =
      let q = pick_some (has_key v) b none i (λ z. f (e ∙ z)) in
      let w = best_has (has_key v) b i (chosen_or none i v) q in
      (omega (arith, w.below), ap key e ∙ eqb-true (key (chosen_or none i v)) v w.has)

-- t is what the loop has made of d before turn i; the keys are below n
pub record Choosing (key : ℕ → ℕ) (b : ℕ → ℕ → Bool) (none m n : ℕ) (d t : List ℕ) (i : ℕ) : Type 0 where
  pub room : n ≤ length d
  pub within : i ≤ m
  pub kept : length t ≡ length d
  pub is : t ≡ filled n (chosen_or key b none i) d

module _ {key : ℕ → ℕ} {b : ℕ → ℕ → Bool} {none m n : ℕ} {d : List ℕ} where
  pub choose_starts : (o : List ℕ) → n ≤ length o → d ≡ filled n (λ v. none) o → Choosing key b none m n d d 0
  choose_starts o l e =
      let k : length d ≡ length o = ap length e ∙ length-filled (λ v. none) n o l in
      record {
        room = omega arith;
        within = omega arith;
        kept = refl;
        is = filled_is (chosen_or key b none 0) n d d (omega arith) refl (λ x q. ap (λ (y : List ℕ). get_or y x 0) e ∙ filled_at (λ v. none) n x o 0 q) (λ x q c. refl);
      }

  module _ {t : List ℕ} {i : ℕ} (r : Choosing key b none m n d t i) where
    choose-cell : (v : ℕ) → v < n → get_or t v 0 ≡ chosen_or key b none i v
    choose-cell v l = ap (λ (y : List ℕ). get_or y v 0) r.is ∙ filled_at (chosen_or key b none i) n v d 0 l

    -- what stands in a cell is a number below i of that key
    pub choose_has : (v : ℕ) → v < n → (get_or t v 0 ≡ none → ⊥) → (get_or t v 0 < i) × (key (get_or t v 0) ≡ v)
    choose_has v l f = chosen_has key b none i v (get_or t v 0) (choose-cell v l) f

    pub choose_turns : {v s : ℕ} → i < m → m ≤ none → v ≡ key i → v < n → s ≡ better b none i (get_or t v 0) → Choosing key b none m n d (set t v s) (i + 1)
    choose_turns {v} {s} l small e q f =
        record {
          room = r.room;
          within = omega arith;
          kept = length-set t v s ∙ r.kept;
          is = filled-set (chosen_or key b none i) (chosen_or key b none (i + 1)) n v s d t r.room r.is q
              (turn_yes (has_key key b v) b none i (get_or t v 0) s (keys-away key b none i v (omega arith)) (eq-eqb (key i) v (sym e)) (choose-cell v q) f)
              (λ k m f. turn_no (has_key key b k) b none i (chosen_or key b none i k) (chosen_or key b none i k) (keys-away key b none i k (omega arith)) (ne_eqb (key i) k (λ z. f (sym z ∙ sym e))) refl refl);
        }

    pub choose_ends : (o : List ℕ) → m ≤ i → n ≤ length o → d ≡ filled n (λ v. none) o → t ≡ filled n (chosen_or key b none m) o
    choose_ends o l k e =
        let s : i ≡ m = omega (arith, r.within) in
        r.is ∙ ap (λ (j : ℕ). filled n (chosen_or key b none j) d) s ∙ ap (filled n (chosen_or key b none m)) e ∙ filled-twice (chosen_or key b none m) (λ v. none) n o k
