-- The least half-edge of each walk, as the code finds it: each walk is walked once, from its least half-edge, which is stored in each of its cells (`marks`).
-- In order: one walk, turn by turn; then all of them. Assumes nothing.
use Rattle.std.specs.Prelude.{◌≡◌, refl, ◌≤◌, ◌<◌, set, ◌∷◌, ◌+◌, ◌-◌}
use Rattle.std.proofs.Common.{sym, ◌∙◌, ap, subst, inl, inr, arith, lt-ltb, le-ltb, ltb-true, ltb-false, length-set, get_or-set_same, get_or-set_other, get_or-take, length-take-le}
use Rattle.std.proofs.Math.Decide.{ℕ_discrete}
use Rattle.seq.specs.Seq.{Bool, true, false, cond, List, [], ℕ, suc, ltb, length, get_or, take, walk_from, walk, leader, filled}
use Rattle.seq.specs.Terms.{Among, Injects, step}
use Rattle.seq.specs.Tests.{bool-ext}
use Rattle.seq.specs.Perm.{iter-into}
use Rattle.seq.specs.Filled.{filled_at, filled_past, length-filled, filled_is, filled-twice}
use Rattle.seq.specs.Walks.{walk-done, walk_next}
use Rattle.seq.proofs.Walks.{on_walk, walk_on, leader-reach, leader-le, leader_below, leader_same, leader_one}
use Rattle.paper.specs.Limits.{absent}

-- ── one walk ──

-- v stored in each of the cells xs
abbrev pub marks : List ℕ → ℕ → List ℕ → List ℕ
marks [] v d = d
marks (x ∷ xs) v d = marks xs v (set d x v)

pub length-marks : (xs : List ℕ) (v : ℕ) (d : List ℕ) → length (marks xs v d) ≡ length d
length-marks [] v d = refl
length-marks (x ∷ xs) v d = length-marks xs v (set d x v) ∙ length-set d x v

-- a cell that is not among them, and one that is
pub marks_out : (xs : List ℕ) (v : ℕ) (d : List ℕ) (y : ℕ) → (Among y xs → ⊥) → get_or (marks xs v d) y 0 ≡ get_or d y 0
marks_out [] v d y f = refl
marks_out (x ∷ xs) v d y f = marks_out xs v (set d x v) y (λ a. f (inr a)) ∙ get_or-set_other d x y v 0 (λ e. f (inl e))

marks-keep : (xs : List ℕ) (v : ℕ) (d : List ℕ) (y : ℕ) → y < length d → get_or d y 0 ≡ v → get_or (marks xs v d) y 0 ≡ v
marks-keep [] v d y l e = e
marks-keep (x ∷ xs) v d y l e =
    marks-keep xs v (set d x v) y (rw (length-set d x v) l)
    (elim (ℕ_discrete y x) [
      | yes s ↦ ap (λ (z : ℕ). get_or (set d x v) z 0) s ∙ get_or-set_same d x v 0 (omega arith)
      | no s ↦ get_or-set_other d x y v 0 s ∙ e
    ])

pub marks_in : (xs : List ℕ) (v : ℕ) (d : List ℕ) (y : ℕ) → y < length d → Among y xs → get_or (marks xs v d) y 0 ≡ v
marks_in [] v d y l a = absurd a
marks_in (x ∷ xs) v d y l (inl e) =
    marks-keep xs v (set d x v) y (rw (length-set d x v) l) (ap (λ (z : ℕ). get_or (set d x v) z 0) e ∙ get_or-set_same d x v 0 (omega arith))
marks_in (x ∷ xs) v d y l (inr a) = marks_in xs v (set d x v) y (rw (length-set d x v) l) a

-- what follows h on its walk
abbrev pub after : List ℕ → ℕ → List ℕ
after nx h = walk_from nx h (length nx) (get_or nx h 0)

-- t is what the loop along the walk of h, with h itself marked in d, has made of d where it is at x, with so many steps left
pub record Marking (nx : List ℕ) (h : ℕ) (d t : List ℕ) (x left : ℕ) : Type 0 where
  pub below : x < length nx
  pub within : left ≤ length nx
  pub kept : length t ≡ length d
  pub rest : marks (walk_from nx h left x) h t ≡ marks (after nx h) h d

module _ (nx : List ℕ) (h : ℕ) (d : List ℕ) where
  pub mark_starts : (y n : ℕ) → y ≡ get_or nx h 0 → y < length nx → n ≡ length nx → Marking nx h d d y n
  mark_starts y n e l q = record { below = l; within = omega arith; kept = refl; rest = λ i. marks (walk_from nx h (q i) (e i)) h d }

  pub mark_turns : {t : List ℕ} {x left : ℕ} → Marking nx h d t x left → 0 < left → (x ≡ h → ⊥) → (y : ℕ) → y ≡ get_or nx x 0 → y < length nx → Marking nx h d (set t x h) y (left - 1)
  mark_turns {t} {x} {left} r p f y e l =
      let s : left ≡ suc (left - 1) = omega arith in
      record {
        below = l;
        within = omega (arith, r.within);
        kept = length-set t x h ∙ r.kept;
        rest = ap (λ (z : ℕ). marks (walk_from nx h (left - 1) z) h (set t x h)) e ∙ ap (λ (xs : List ℕ). marks xs h t) (sym (walk_next nx h (left - 1) x f))
            ∙ ap (λ (n : ℕ). marks (walk_from nx h n x) h t) (sym s) ∙ r.rest;
      }

  -- back at h, or with no step left
  pub mark_back : {t : List ℕ} {x left : ℕ} → Marking nx h d t x left → x ≡ h → t ≡ marks (after nx h) h d
  mark_back {t} {x} {left} r e = ap (λ (xs : List ℕ). marks xs h t) (sym (walk-done nx h left x e)) ∙ r.rest

  pub mark_ends : {t : List ℕ} {x left : ℕ} → Marking nx h d t x left → left ≤ 0 → t ≡ marks (after nx h) h d
  mark_ends {t} {x} {left} r l = let z : 0 ≡ left = omega arith in ap (λ (n : ℕ). marks (walk_from nx h n x) h t) z ∙ r.rest

-- ── the first cells of a table as a list ──

-- the first m cells hold each of the numbers below m once
pub record Permutes (t : List ℕ) (m : ℕ) : Type 0 where
  pub long : m ≤ length t
  pub once : Injects (step (take m t)) (length (take m t))

module _ (t : List ℕ) (m : ℕ) (P : Permutes t m) where
  pub length_front : length (take m t) ≡ m
  length_front = length-take-le m t P.long

  pub front_at : (x : ℕ) → x < m → get_or t x 0 ≡ get_or (take m t) x 0
  front_at x l = sym (get_or-take m t x 0 l)

  pub front_below : (x : ℕ) → x < m → get_or t x 0 < m
  front_below x l = omega (arith, length_front, front_at x l, P.once.into x (omega (arith, length_front)))

-- ── all walks ──

-- the least half-edge of x's walk, where it is below h
abbrev pub led : List ℕ → ℕ → ℕ → ℕ
led nx h x = cond (ltb (leader nx x) h) (leader nx x) absent

-- t is what the loop has made of d before half-edge h
pub record Leading (nx d t : List ℕ) (h : ℕ) : Type 0 where
  pub room : length nx ≤ length d
  pub within : h ≤ length nx
  pub kept : length t ≡ length d
  pub is : t ≡ filled (length nx) (led nx h) d

module _ (nx : List ℕ) (I : Injects (step nx) (length nx)) (small : length nx ≤ absent) (d : List ℕ) where
  -- before the first turn nothing is known
  pub lead_starts : (o : List ℕ) → length nx ≤ length o → d ≡ filled (length nx) (λ x. absent) o → Leading nx d d 0
  lead_starts o l e =
      let k : length d ≡ length o = ap length e ∙ length-filled (λ x. absent) (length nx) o l in
      record {
        room = omega arith;
        within = omega arith;
        kept = refl;
        is = filled_is (led nx 0) (length nx) d d (omega arith) refl
            (λ x b. ap (λ (y : List ℕ). get_or y x 0) e ∙ filled_at (λ x. absent) (length nx) x o 0 b ∙ sym (ap (λ (c : Bool). cond c (leader nx x) absent) (le-ltb (leader nx x) 0 (omega arith))))
            (λ x b c. refl);
      }

  module _ (t : List ℕ) (h : ℕ) (r : Leading nx d t h) (l : h < length nx) where
    cell : (x : ℕ) → x < length nx → get_or t x 0 ≡ led nx h x
    cell x b = ap (λ (y : List ℕ). get_or y x 0) r.is ∙ filled_at (led nx h) (length nx) x d 0 b

    past : (x : ℕ) → length nx ≤ x → get_or t x 0 ≡ get_or d x 0
    past x b = ap (λ (y : List ℕ). get_or y x 0) r.is ∙ filled_past (led nx h) (length nx) x d 0 b

    -- the least half-edge of h's own walk is h, or below it
    own : leader nx h ≤ h
    own = leader-le nx I h l h (0, refl)

    leads-itself : get_or t h 0 ≡ absent → leader nx h ≡ h
    leads-itself e = go (ltb (leader nx h) h) refl
      where
        go : (c : Bool) → ltb (leader nx h) h ≡ c → leader nx h ≡ h
        go true q =
            let w : led nx h h ≡ leader nx h = ap (λ (c : Bool). cond c (leader nx h) absent) q in
            omega (arith, sym w ∙ sym (cell h l) ∙ e, ltb-true (leader nx h) h q)
        go false q = omega (arith, own, ltb-false (leader nx h) h q)

    led_before : (get_or t h 0 ≡ absent → ⊥) → leader nx h < h
    led_before f = go (ltb (leader nx h) h) refl
      where
        go : (c : Bool) → ltb (leader nx h) h ≡ c → leader nx h < h
        go true q = ltb-true (leader nx h) h q
        go false q = absurd (f (cell h l ∙ ap (λ (c : Bool). cond c (leader nx h) absent) q))

    -- what is not of the walk that h leads stays as it is
    stays : (x : ℕ) → (leader nx x ≡ h → ⊥) → led nx h x ≡ led nx (h + 1) x
    stays x f =
        ap (λ (c : Bool). cond c (leader nx x) absent)
        (bool-ext (ltb (leader nx x) h) (ltb (leader nx x) (h + 1)) (λ e. lt-ltb (leader nx x) (h + 1) (omega (arith, ltb-true (leader nx x) h e)))
        (λ e. lt-ltb (leader nx x) h (omega (arith, ltb-true (leader nx x) (h + 1) e))))

    -- h is of a walk that is known
    pub lead-skips : (get_or t h 0 ≡ absent → ⊥) → Leading nx d t (h + 1)
    lead-skips f =
        record {
          room = r.room;
          within = omega arith;
          kept = r.kept;
          is = filled_is (led nx (h + 1)) (length nx) d t r.room r.kept (λ x b. cell x b ∙ stays x (other x b)) (λ x b c. past x b);
        }
      where
        other : (x : ℕ) → x < length nx → leader nx x ≡ h → ⊥
        other x b e =
            let w = leader-reach nx I x b in
            let q : leader nx h ≡ leader nx x = ap (leader nx) (sym e ∙ sym w.1) ∙ leader_same nx I w.0 x b in
            omega (arith, led_before f)

    -- h leads a walk that is not known yet
    pub lead-marks : get_or t h 0 ≡ absent → Leading nx d (marks (walk nx h) h t) (h + 1)
    lead-marks e =
        record {
          room = r.room;
          within = omega arith;
          kept = length-marks (walk nx h) h t ∙ r.kept;
          is = filled_is (led nx (h + 1)) (length nx) d (marks (walk nx h) h t) r.room (length-marks (walk nx h) h t ∙ r.kept) low high;
        }
      where
        on : (x : ℕ) → Among x (walk nx h) → (x < length nx) × (leader nx x ≡ h)
        on x a =
            let w = walk_on nx I h l x a in (
              subst (λ (y : ℕ). y < length nx) w.1 (iter-into (step nx) (length nx) I w.0 h l),
              ap (leader nx) (sym w.1) ∙ leader_same nx I w.0 h l ∙ leads-itself e,
            )

        low : (x : ℕ) → x < length nx → get_or (marks (walk nx h) h t) x 0 ≡ led nx (h + 1) x
        low x b =
            elim (ℕ_discrete (leader nx x) h) [
              | yes q ↦ marks_in (walk nx h) h t x (omega (arith, r.room, r.kept)) (on_walk nx I h l x (leader_one nx I h x l b (leads-itself e ∙ sym q)))
                  ∙ sym q ∙ sym (ap (λ (c : Bool). cond c (leader nx x) absent) (lt-ltb (leader nx x) (h + 1) (omega arith)))
              | no q ↦ marks_out (walk nx h) h t x (λ a. q (on x a).1) ∙ cell x b ∙ stays x q
            ]

        high : (x : ℕ) → length nx ≤ x → x < length d → get_or (marks (walk nx h) h t) x 0 ≡ get_or d x 0
        high x b c = marks_out (walk nx h) h t x (λ a. omega (arith, (on x a).0)) ∙ past x b

  -- all are known
  pub lead_ends : {t : List ℕ} {h : ℕ} → Leading nx d t h → length nx ≤ h → (o : List ℕ) → length nx ≤ length o → d ≡ filled (length nx) (λ x. absent) o → t ≡ filled (length nx) (leader nx) o
  lead_ends {t} {h} r l o k e = all ∙ ap (filled (length nx) (leader nx)) e ∙ filled-twice (leader nx) (λ x. absent) (length nx) o k
    where
      all : t ≡ filled (length nx) (leader nx) d
      all = filled_is (leader nx) (length nx) d t r.room r.kept
          (λ x b. ap (λ (y : List ℕ). get_or y x 0) r.is ∙ filled_at (led nx h) (length nx) x d 0 b
          ∙ ap (λ (c : Bool). cond c (leader nx x) absent) (lt-ltb (leader nx x) h (omega (arith, leader_below nx I x b))))
          (λ x b c. ap (λ (y : List ℕ). get_or y x 0) r.is ∙ filled_past (led nx h) (length nx) x d 0 b)
