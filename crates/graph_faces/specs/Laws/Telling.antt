-- What is known of each walk, told turn by turn: at the least half-edges alone is anything stored. Assumes nothing.
use Rattle.std.specs.Prelude.{◌≡◌, refl, ◌≤◌, ◌<◌, set, ◌&&◌, ◌+◌}
use Rattle.std.proofs.Common.{sym, ◌∙◌, ap, subst, arith, eq-eqb, ne_eqb, length-set, get_or-set_same, get_or-set_other}
use Rattle.std.proofs.Math.Decide.{ℕ_discrete}
use Rattle.seq.specs.Seq.{Bool, true, false, cond, not, List, ℕ, length, get_or}
use Rattle.seq.specs.Loops.Selecting.{Selecting, select-takes, select-skips}
use Rattle.graph_faces.specs.Kinds.{Known, hole_of, outer_lead}

-- t is what the loop has made of d before half-edge h
pub record Telling (f : ℕ → ℕ) (ls : List ℕ) (m : ℕ) (d t : List ℕ) (h : ℕ) : Type 0 where
  pub room : m ≤ length d
  pub within : h ≤ m
  pub kept : length t ≡ length d
  pub at : (x : ℕ) → x < h → get_or ls x 0 ≡ x → get_or t x 0 ≡ f x

module _ {f : ℕ → ℕ} {ls : List ℕ} {m : ℕ} {d : List ℕ} where
  pub tell_starts : m ≤ length d → Telling f ls m d d 0
  tell_starts l = record { room = l; within = omega arith; kept = refl; at = λ x b. absurd (omega arith) }

  module _ {t : List ℕ} {h : ℕ} (r : Telling f ls m d t h) (l : h < m) where
    -- h is the least of its walk
    pub tell-takes : {v : ℕ} → v ≡ f h → Telling f ls m d (set t h v) (h + 1)
    tell-takes {v} q = record { room = r.room; within = omega arith; kept = length-set t h v ∙ r.kept; at = at_by }
      where
        at_by : (x : ℕ) → x < h + 1 → get_or ls x 0 ≡ x → get_or (set t h v) x 0 ≡ f x
        at_by x b e =
            elim (ℕ_discrete x h) [
              | yes s ↦ ap (λ (y : ℕ). get_or (set t h v) y 0) s ∙ get_or-set_same t h v 0 (omega (arith, r.room, r.kept)) ∙ q ∙ ap f (sym s)
              | no s ↦ get_or-set_other t h x v 0 s ∙ r.at x (omega arith) e
            ]

    -- it is not
    pub tell-skips : (get_or ls h 0 ≡ h → ⊥) → Telling f ls m d t (h + 1)
    tell-skips n = record { room = r.room; within = omega arith; kept = r.kept; at = at_by }
      where
        at_by : (x : ℕ) → x < h + 1 → get_or ls x 0 ≡ x → get_or t x 0 ≡ f x
        at_by x b e =
            elim (ℕ_discrete x h) [
              | yes s ↦ absurd (n (subst (λ (y : ℕ). get_or ls y 0 ≡ y) s e))
              | no s ↦ r.at x (omega arith) e
            ]

  pub tell_ends : {t : List ℕ} {h : ℕ} → Telling f ls m d t h → m ≤ h → Known f ls t m
  tell_ends r l = record { long = omega (arith, r.room, r.kept); at = λ x b. r.at x (omega arith) }

-- ── the least half-edges of the outer walks ──

module _ (ls ts : List ℕ) {m : ℕ} {d t : List ℕ} {c h : ℕ} (r : Selecting (outer_lead ls ts) m d t c h) (l : h < m) where
  -- h is the least half-edge of its walk: an outer walk is stored and counted
  pub outer_turns : get_or ls h 0 ≡ h → {u : List ℕ} {k : ℕ} → u ≡ cond (hole_of ls ts h) t (set t c h) → k ≡ cond (hole_of ls ts h) c (c + 1) → Selecting (outer_lead ls ts) m d u k (h + 1)
  outer_turns e {u} {k} p q = go (hole_of ls ts h) refl p q
    where
      is : {o : Bool} → hole_of ls ts h ≡ o → outer_lead ls ts h ≡ not o
      is w = λ i. eq-eqb (get_or ls h 0) h e i && not (w i)

      go : (o : Bool) → hole_of ls ts h ≡ o → u ≡ cond o t (set t c h) → k ≡ cond o c (c + 1) → Selecting (outer_lead ls ts) m d u k (h + 1)
      go true w a b = rw (a, b) (select-skips r l (is w))
      go false w a b = rw (a, b) (select-takes r l (is w))

  -- it is not
  pub outer-skips : (get_or ls h 0 ≡ h → ⊥) → Selecting (outer_lead ls ts) m d t c (h + 1)
  outer-skips n = select-skips r l (ap (λ (b : Bool). b && not (hole_of ls ts h)) (ne_eqb (get_or ls h 0) h n))
