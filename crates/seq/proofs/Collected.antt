-- Of Collected of specs/, what rests on its definitions.
use Rattle.std.specs.Prelude.{◌≡◌, ◌⊎◌, ◌≤◌, ◌∷◌, ◌++◌, ◌+◌}
use Rattle.std.proofs.Common.{sym, subst}
use Rattle.seq.specs.Seq.{Bool, true, List, [], length, get_or, the_some_below, is_in}
use Rattle.seq.specs.Tests.{bool-ext}
use Rattle.seq.specs.Members.{at_among, among_at}
use Rattle.seq.proofs.Least.{some_has, some_witness}
use Rattle.seq.specs.Collected.{in_witness, in_has}

module _ {A : Type 0} (same : A → A → Bool) where
  -- ── is_in ──

  -- it is the search over the list's cells
  pub in_some : (x : A) (l : List A) (d : A) → is_in same x l ≡ the_some_below (λ k. same x (get_or l k d)) (length l)
  in_some x l d =
      bool-ext (is_in same x l) (the_some_below (λ k. same x (get_or l k d)) (length l))
      (λ e. let r = in_witness {A = A} same x l e in let s = among_at r.0 l d r.1 in
      some_has (λ k. same x (get_or l k d)) (length l) s.0 s.1 (subst (λ (w : A). same x w ≡ true) (sym s.2) r.2))
      (λ e. let r = some_witness (λ k. same x (get_or l k d)) (length l) e in in_has {A = A} same x (get_or l r.0 d) l (at_among l r.0 d r.1) r.2)
