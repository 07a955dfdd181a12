-- Of Loops.Searching of specs/, what rests on its definitions.
use Rattle.std.specs.Prelude.{◌≡◌, ◌≤◌, ◌<◌, ◌+◌}
use Rattle.std.proofs.Common.{sym, ◌∙◌, ap, arith}
use Rattle.seq.specs.Seq.{Bool, true, false, ℕ, least, the_some_below}
use Rattle.seq.specs.Least.{least_more, some_none}
use Rattle.seq.proofs.Least.{least-found, some_has}
use Rattle.seq.specs.Loops.Searching.{Searching}

module _ {p : ℕ → Bool} {n : ℕ} where
  module _ {k : ℕ} (r : Searching p n k) where
    pub search_turns : k < n → p k ≡ false → Searching p n (k + 1)
    search_turns l e = record { within = omega arith; none = least_more p k r.none e }

    pub search_finds : k < n → p k ≡ true → k ≡ least p n
    search_finds l e = sym (least-found p n k l r.none e)

    all : n ≤ k → least p n ≡ n
    all l = let e : k ≡ n = omega (arith, r.within) in ap (least p) (sym e) ∙ r.none ∙ e

    pub search_ends : n ≤ k → n ≡ least p n
    search_ends l = sym (all l)

    -- ── whether there is one ──

    pub search_has : k < n → p k ≡ true → true ≡ the_some_below p n
    search_has l e = sym (some_has p n k l e)

    pub search_lacks : n ≤ k → false ≡ the_some_below p n
    search_lacks l = sym (some_none p n (all l))
