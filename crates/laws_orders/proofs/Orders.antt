-- Of Orders of specs/, what rests on its definitions.
use Rattle.std.specs.Prelude.{◌≡◌, ◌<◌, ◌∷◌, ◌++◌, ◌-◌}
use Rattle.std.proofs.Common.{sym, ◌∙◌, ap, subst, arith}
use Rattle.seq.specs.Seq.{List, none, some, ℕ, suc, length, get_or, []}
use Rattle.paper.specs.Refusal.{Refusal, refused, answer}
use Rattle.paper.specs.Map.{fault}
use Rattle.paper.specs.Lent.{Lengths, zero_tables}
use Rattle.paper.specs.Overlay.{lent}
use Rattle.laws_orders.specs.Orders.{named, first_named, FilesRenumbered}

-- ── in another order ──

module _ (l : Lengths) (fs gs : List (List ℕ)) (to back : ℕ → ℕ) (R : FilesRenumbered fs gs to back) where
  in_gs : {i : ℕ} → i < length fs → i < length gs
  in_gs {i} b = subst (λ (n : ℕ). i < n) (sym R.count) b

  -- "If just one map is bad, the refusal names the other map number"
  module _ (i : ℕ) (r : Refusal) (li : i < length fs) (only : (j : ℕ) → j < length fs → (j ≡ i → ⊥) → fault (get_or fs j []) ≡ none) (bad : fault (get_or fs i []) ≡ some r) where
    good-there : (j : ℕ) → j < to i → fault (get_or gs j []) ≡ none
    good-there j b =
        let lj : j < length fs = omega (arith, R.to_in i li) in
        ap fault (ap (λ (x : ℕ). get_or gs x []) (sym (R.to_back j lj)) ∙ R.same (back j) (R.back_in j lj))
        ∙ only (back j) (R.back_in j lj) (λ e. differ j b (sym (R.to_back j lj) ∙ ap to e))
      where
        differ : (j : ℕ) → j < to i → j ≡ to i → ⊥
        differ j b e = omega arith

    pub orders-bad : ((lent l fs).answer ≡ refused (named (suc i) r)) × ((lent l gs).answer ≡ refused (named (suc (to i)) r)) × ((lent l fs).tables ≡ zero_tables l) × ((lent l gs).tables ≡ zero_tables l)
    orders-bad =
        let a = first_named l fs i r li (λ j b. only j (omega arith) (λ e. omega arith)) bad in
        let b = first_named l gs (to i) r (in_gs (R.to_in i li)) good-there (ap fault (R.same i li) ∙ bad) in
        (a.0, b.0, a.1, b.1)
