-- A vertex remembered: what a node more makes of the threads; of two steps, one after the other; of threads of the vertices below it. Assumes nothing.
use Rattle.std.specs.Prelude.{◌≡◌, refl, ◌≤◌, ◌<◌, set, ◌||◌, ◌∷◌, ◌+◌, ◌-◌, ◌*◌}
use Rattle.std.proofs.Common.{sym, ◌∙◌, ap, subst, add-one, arith, eqb-true, eq-eqb, ne_eqb, length-set, get_or-set_same, get_or-set_other}
use Rattle.std.proofs.Math.Decide.{ℕ_discrete, dec_lt}
use Rattle.seq.specs.Seq.{Bool, true, false, cond, List, ℕ, ℤ, eqb, length, get_or}
use Rattle.paper.specs.Plane.{on_seg}
use Rattle.graph.specs.Flat.{the_point_at, carrier_at}
use Rattle.overlay_cut.specs.Threads.{down, along, thread, thread_of, Chains, Threaded, ThreadedIf, heads, topped, named_in, Remembered, RememberedIf}
use Rattle.overlay_cut.specs.Laws.Threading.{along-enough, along_same, topped-once, topped_is, topped_new, down_under, down_ext, named_more, named_none}

-- ── one edge ──

module _ {e t : ℕ} {last ns : List ℕ} (C : Chains e last ns t) (k v : ℕ) where
  -- the thread starts with v already
  pub remembered_old : heads v (thread_of last ns k) ≡ true → Remembered e v (λ j. eqb k j) last ns last ns t
  remembered_old h = record { chains = C; is = λ j l. by j (eqb k j) refl }
    where
      by : (j : ℕ) (b : Bool) → eqb k j ≡ b → thread_of last ns j ≡ cond b (topped v (thread_of last ns j)) (thread_of last ns j)
      by j true q = sym (topped_is v (thread_of last ns j) (ap (λ (i : ℕ). heads v (thread_of last ns i)) (sym (eqb-true k j q)) ∙ h))
      by j false q = refl

  module _ (below : k < e) (in_last : k < length last) (in-nodes : 2 * t + 1 < length ns) where
    abbrev x : ℕ
    x = get_or last k 0

    abbrev last' : List ℕ
    last' = set last k (t + 1)

    abbrev one : List ℕ
    one = set ns (2 * t) v

    abbrev ns' : List ℕ
    ns' = set one (2 * t + 1) x

    old_cell : (i : ℕ) → i < 2 * t → get_or ns' i 0 ≡ get_or ns i 0
    old_cell i h = get_or-set_other one (2 * t + 1) i x 0 (λ q. omega arith) ∙ get_or-set_other ns (2 * t) i v 0 (λ q. omega arith)

    new_vertex : get_or ns' (2 * t) 0 ≡ v
    new_vertex = get_or-set_other one (2 * t + 1) (2 * t) x 0 (λ q. omega arith) ∙ get_or-set_same ns (2 * t) v 0 (omega arith)

    new_link : get_or ns' (2 * t + 1) 0 ≡ x
    new_link = get_or-set_same one (2 * t + 1) x 0 (omega (arith, length-set ns (2 * t) v))

    old_thread : (y : ℕ) → y ≤ t → thread ns' y ≡ thread ns y
    old_thread y h = along_same ns ns' t C.falls old_cell y y h

    new_thread : thread ns' (t + 1) ≡ v ∷ thread ns x
    new_thread =
        ap (thread ns') (add-one t) ∙ (λ i. new_vertex i ∷ along ns' t (new_link i))
        ∙ ap (λ (l : List ℕ). v ∷ l) (along_same ns ns' t C.falls old_cell t x (C.lasts k below) ∙ along-enough ns t C.falls t x x (C.lasts k below) (C.lasts k below) (omega arith))

    last_same : get_or last' k 0 ≡ t + 1
    last_same = get_or-set_same last k (t + 1) 0 in_last

    last_other : (j : ℕ) → (j ≡ k → ⊥) → get_or last' j 0 ≡ get_or last j 0
    last_other j q = get_or-set_other last k j (t + 1) 0 q

    chains_new : Chains e last' ns' (t + 1)
    chains_new = record {
      falls = λ r h. elim (dec_lt r t) [
        | yes q ↦ omega (arith, old_cell (2 * r + 1) (omega arith), C.falls r q)
        | no q ↦ let f : r ≡ t = omega arith in omega (arith, ap (λ (i : ℕ). get_or ns' (2 * i + 1) 0) f, new_link, C.lasts k below)
      ];
      lasts = λ j h. elim (ℕ_discrete j k) [
        | yes q ↦ omega (arith, ap (λ (i : ℕ). get_or last' i 0) q, last_same)
        | no q ↦ omega (arith, last_other j q, C.lasts j h)
      ];
    }

    -- it does not
    pub remembered_new : heads v (thread_of last ns k) ≡ false → (ks ms : List ℕ) → ks ≡ set last k (t + 1) → ms ≡ set (set ns (2 * t) v) (2 * t + 1) (get_or last k 0) → Remembered e v (λ j. eqb k j) last ns ks ms (t + 1)
    remembered_new h ks ms f g =
        subst (λ (a : List ℕ). Remembered e v (λ j. eqb k j) last ns a ms (t + 1)) (sym f) (subst (λ (b : List ℕ). Remembered e v (λ j. eqb k j) last ns last' b (t + 1)) (sym g) (record {
          chains = chains_new;
          is = λ j l. elim (ℕ_discrete j k) [ yes q ↦ here j q | no q ↦ other j l q ];
        }))
      where
        here : (j : ℕ) → j ≡ k → thread_of last' ns' j ≡ cond (eqb k j) (topped v (thread_of last ns j)) (thread_of last ns j)
        here j q =
            ap (λ (i : ℕ). thread_of last' ns' i) q ∙ ap (thread ns') last_same ∙ new_thread ∙ sym (topped_new v (thread_of last ns k) h)
            ∙ ap (λ (i : ℕ). topped v (thread_of last ns i)) (sym q) ∙ sym (ap (λ (b : Bool). cond b (topped v (thread_of last ns j)) (thread_of last ns j)) (eq-eqb k j (sym q)))

        other : (j : ℕ) → j < e → (j ≡ k → ⊥) → thread_of last' ns' j ≡ cond (eqb k j) (topped v (thread_of last ns j)) (thread_of last ns j)
        other j l q =
            ap (thread ns') (last_other j q) ∙ old_thread (get_or last j 0) (C.lasts j l)
            ∙ sym (ap (λ (b : Bool). cond b (topped v (thread_of last ns j)) (thread_of last ns j)) (ne_eqb k j (λ r. q (sym r))))

-- ── one step, and two ──

-- of no edge
pub remembered_none : {e t : ℕ} {last ns : List ℕ} (v : ℕ) (named : ℕ → Bool) → Chains e last ns t → ((k : ℕ) → named k ≡ false) → Remembered e v named last ns last ns t
remembered_none {last = last} {ns} v named C h = record { chains = C; is = λ k l. sym (ap (λ (b : Bool). cond b (topped v (thread_of last ns k)) (thread_of last ns k)) (h k)) }

pub remembered_both : {e v t t' : ℕ} {f g : ℕ → Bool} {a b a' b' a'' b'' : List ℕ} → Remembered e v f a b a' b' t → Remembered e v g a' b' a'' b'' t' → Remembered e v (λ k. f k || g k) a b a'' b'' t'
remembered_both {v = v} {f = f} {g} {a} {b} R S = record { chains = S.chains; is = λ k l. S.is k l ∙ ap (λ (z : List ℕ). cond (g k) (topped v z) z) (R.is k l) ∙ by (f k) (g k) (thread_of a b k) }
  where
    by : (p q : Bool) (l : List ℕ) → cond q (topped v (cond p (topped v l) l)) (cond p (topped v l) l) ≡ cond (p || q) (topped v l) l
    by true true l = topped-once v l
    by true false l = refl
    by false q l = refl

-- the same test by another name
pub remembered_as : {e v t : ℕ} {f : ℕ → Bool} (g : ℕ → Bool) {a b a' b' : List ℕ} → ((k : ℕ) → f k ≡ g k) → Remembered e v f a b a' b' t → Remembered e v g a b a' b' t
remembered_as {v = v} g {a} {b} h R = record { chains = R.chains; is = λ k l. R.is k l ∙ ap (λ (p : Bool). cond p (topped v (thread_of a b k)) (thread_of a b k)) (h k) }

pub remembered_both_if : {e room v t t' t'' : ℕ} {f g : ℕ → Bool} {a b a' b' a'' b'' : List ℕ} → RememberedIf e room v f a b t a' b' t' → RememberedIf e room v g a' b' t' a'' b'' t'' → RememberedIf e room v (λ k. f k || g k) a b t a'' b'' t''
remembered_both_if R S = record { was = λ h. R.was (S.was h); now = λ h. remembered_both (R.now (S.was h)) (S.now h) }

-- ── cell after cell ──

module _ (e room v : ℕ) (cells : List ℕ) (a : ℕ) where
  pub all_starts : (last ns : List ℕ) (t : ℕ) → (t < room → Chains e last ns t) → RememberedIf e room v (named_in cells a (a - a)) last ns t last ns t
  all_starts last ns t C = record { was = λ h. h; now = λ h. remembered_none v (named_in cells a (a - a)) (C h) (λ k. named_none cells a k) }

  pub all_turns : {last ns last' ns' last'' ns'' : List ℕ} {t t' t'' : ℕ} (i : ℕ) → a ≤ i → RememberedIf e room v (named_in cells a (i - a)) last ns t last' ns' t'
      → RememberedIf e room v (λ j. eqb (get_or cells i 0) j) last' ns' t' last'' ns'' t'' → RememberedIf e room v (named_in cells a (i + 1 - a)) last ns t last'' ns'' t''
  all_turns i h R S =
      let B = remembered_both_if R S in
      record { was = B.was; now = λ q. remembered_as (named_in cells a (i + 1 - a)) (λ k. sym (named_more cells a i k h)) (B.now q) }

-- ── threads of the vertices below i ──

-- of none
pub threads_none : (ps cs : List ℤ) (e : ℕ) (last ns : List ℕ) → ((k : ℕ) → k < e → get_or last k 0 ≡ 0) → Threaded ps cs e last ns 0 0
threads_none ps cs e last ns z = record { chains = record { falls = λ r h. absurd (omega arith); lasts = λ k h. omega (arith, z k h) }; is = λ k h. ap (thread ns) (z k h) }

-- they speak of the points below i alone
pub threads-points : {ps qs cs : List ℤ} {e : ℕ} {last ns : List ℕ} {t i : ℕ} → ((v : ℕ) → v < i → the_point_at ps v ≡ the_point_at qs v) → Threaded ps cs e last ns t i → Threaded qs cs e last ns t i
threads-points {ps} {qs} {cs} {i = i} h T = record { chains = T.chains; is = λ k l. T.is k l ∙ down_ext (λ v. on_seg (carrier_at cs k) (the_point_at ps v)) (λ v. on_seg (carrier_at cs k) (the_point_at qs v)) i (λ v q. ap (on_seg (carrier_at cs k)) (h v q)) }

-- vertex i, remembered of the edges that it is on
pub threads-step : {ps cs : List ℤ} {e : ℕ} {last ns : List ℕ} {t i : ℕ} {named : ℕ → Bool} {last' ns' : List ℕ} {t' : ℕ} → Threaded ps cs e last ns t i → Remembered e i named last ns last' ns' t'
    → ((k : ℕ) → k < e → named k ≡ on_seg (carrier_at cs k) (the_point_at ps i)) → Threaded ps cs e last' ns' t' (i + 1)
threads-step {ps} {cs} {e} {last} {ns} {t} {i} {named} T R h = record {
  chains = R.chains;
  is = λ k l.
      let on : ℕ → Bool = λ v. on_seg (carrier_at cs k) (the_point_at ps v) in
      R.is k l ∙ ap (λ (z : List ℕ). cond (named k) (topped i z) z) (T.is k l)
      ∙ ap (λ (z : List ℕ). cond (named k) z (down on i)) (topped_new i (down on i) (down_under on i i (omega arith)))
      ∙ ap (λ (b : Bool). cond b (i ∷ down on i) (down on i)) (h k l) ∙ ap (down on) (sym (add-one i));
}

-- while they are kept
pub threads-step_if : {ps cs : List ℤ} {e room : ℕ} {last ns : List ℕ} {t i : ℕ} {named : ℕ → Bool} {last' ns' : List ℕ} {t' : ℕ} → ThreadedIf ps cs e last ns room t i → RememberedIf e room i named last ns t last' ns' t'
    → ((k : ℕ) → k < e → named k ≡ on_seg (carrier_at cs k) (the_point_at ps i)) → ThreadedIf ps cs e last' ns' room t' (i + 1)
threads-step_if T R h = λ q. threads-step (T (R.was q)) (R.now q) h
