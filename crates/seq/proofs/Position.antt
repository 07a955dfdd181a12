-- Of Position of specs/, what rests on its definitions.
use Rattle.std.specs.Prelude.{◌≡◌, ◌<◌, ◌≤◌, ◌∷◌}
use Rattle.std.proofs.Common.{sym, ◌∙◌, eq-eqb, ne_eqb}
use Rattle.seq.specs.Seq.{List, [], ℕ, length, get_or, position, least}
use Rattle.seq.specs.Terms.{the_stands_at}
use Rattle.seq.proofs.Least.{least_by, least_is}
use Rattle.seq.specs.Position.{position-le, position_first, position_at}

-- ── a search over the cells ──

module _ (x : ℕ) where
  -- so it is what a search finds
  pub position-least : (ys : List ℕ) → least (the_stands_at x ys) (length ys) ≡ position x ys
  position-least ys =
      least_by (the_stands_at x ys) (length ys) (position x ys) (position-le x ys)
      (λ k h. ne_eqb x (get_or ys k 0) (λ e. (position_first x) ys 0 k h (sym e)))
      (λ h. eq-eqb x (get_or ys (position x ys) 0) (sym (position_at x ys 0 h)))

  -- x stands at k and nowhere before
  pub position_is : (ys : List ℕ) (k : ℕ) → k < length ys → get_or ys k 0 ≡ x → ((j : ℕ) → j < k → get_or ys j 0 ≡ x → ⊥) → position x ys ≡ k
  position_is ys k h e nowhere =
      sym (position-least ys)
      ∙ least_is (the_stands_at x ys) (length ys) k h (λ j l. ne_eqb x (get_or ys j 0) (λ q. nowhere j l (sym q))) (eq-eqb x (get_or ys k 0) (sym e))
