-- Of SixOrders of specs/, what rests on its definitions.
use Rattle.std.specs.Prelude.{◌≡◌, refl, ◌<◌, ◌∷◌}
use Rattle.std.proofs.Common.{arith}
use Rattle.seq.specs.Seq.{List, [], ℕ, zero, suc, length, get_or}
use Rattle.paper.specs.Limits.{maps}
use Rattle.paper.specs.Sample.{empty_file}
use Rattle.paper.specs.Tables.{Tables}
use Rattle.paper.specs.Lent.{Lengths}
use Rattle.laws_orders.specs.Orders.{FilesRenumbered}
use Rattle.laws_orders.specs.FromCheck.{Good, passes-good}
use Rattle.laws_orders.specs.TwoMaps.{empty-passes}
use Rattle.tables.specs.Answers as code
use Rattle.tables.specs.Promise.{Promised}
use Rattle.laws_exchange.specs.AnyOrder.{exchanged-answer, exchanged-done, exchanged_room, exchanged-bad, first_handed_in}
use Rattle.laws_exchange.specs.SixOrders.{place_in, stands_in, arranged, Order, abc, acb, bac, bca, cab, cba, ThreeExchanged, TwoExchanged}

-- ── three files ──

-- of each of three
module _ (P : ℕ → Type 0) (p : P 0) (q : P 1) (r : P 2) where
  each : (i : ℕ) → i < maps → P i
  each zero b = p
  each (suc zero) b = q
  each (suc (suc zero)) b = r
  each (suc (suc (suc i))) b = absurd (omega arith)

module _ (a b c : List ℕ) where
  module _ (o : Order) where
    abbrev to : ℕ → ℕ
    to = place_in o

    abbrev back : ℕ → ℕ
    back = stands_in o

    abbrev gs : List (List ℕ)
    gs = arranged o a b c

    by_order : length gs ≡ maps → (to 0 < maps) × (to 1 < maps) × (to 2 < maps) → (back 0 < maps) × (back 1 < maps) × (back 2 < maps) →
        (back (to 0) ≡ 0) × (back (to 1) ≡ 1) × (back (to 2) ≡ 2) → (to (back 0) ≡ 0) × (to (back 1) ≡ 1) × (to (back 2) ≡ 2) →
        (get_or gs (to 0) [] ≡ a) × (get_or gs (to 1) [] ≡ b) × (get_or gs (to 2) [] ≡ c) → FilesRenumbered (a ∷ b ∷ c ∷ []) gs to back
    by_order n (t0, t1, t2) (b0, b1, b2) (x0, x1, x2) (y0, y1, y2) (s0, s1, s2) = record {
      count = n;
      to_in = each (λ i. to i < maps) t0 t1 t2;
      back_in = each (λ i. back i < maps) b0 b1 b2;
      back_to = each (λ i. back (to i) ≡ i) x0 x1 x2;
      to_back = each (λ i. to (back i) ≡ i) y0 y1 y2;
      same = each (λ i. get_or gs (to i) [] ≡ get_or (a ∷ b ∷ c ∷ []) i []) s0 s1 s2;
    }

  -- each of the six is an order of a, b and c
  pub six-orders : (o : Order) → FilesRenumbered (a ∷ b ∷ c ∷ []) (arranged o a b c) (place_in o) (stands_in o)
  six-orders abc = by_order abc refl (omega arith, omega arith, omega arith) (omega arith, omega arith, omega arith) (refl, refl, refl) (refl, refl, refl) (refl, refl, refl)
  six-orders acb = by_order acb refl (omega arith, omega arith, omega arith) (omega arith, omega arith, omega arith) (refl, refl, refl) (refl, refl, refl) (refl, refl, refl)
  six-orders bac = by_order bac refl (omega arith, omega arith, omega arith) (omega arith, omega arith, omega arith) (refl, refl, refl) (refl, refl, refl) (refl, refl, refl)
  six-orders bca = by_order bca refl (omega arith, omega arith, omega arith) (omega arith, omega arith, omega arith) (refl, refl, refl) (refl, refl, refl) (refl, refl, refl)
  six-orders cab = by_order cab refl (omega arith, omega arith, omega arith) (omega arith, omega arith, omega arith) (refl, refl, refl) (refl, refl, refl) (refl, refl, refl)
  six-orders cba = by_order cba refl (omega arith, omega arith, omega arith) (omega arith, omega arith, omega arith) (refl, refl, refl) (refl, refl, refl) (refl, refl, refl)

-- "Ask 11 then holds for every order of the maps"
pub every-order : (l : Lengths) (a b c : List ℕ) (o : Order) (r s : code.Answer) (t u : Tables) → Promised l (a ∷ b ∷ c ∷ []) r t → Promised l (arranged o a b c) s u → ThreeExchanged l a b c o r s t u
every-order l a b c o r s t u one two =
    let R = six-orders a b c o in
    record {
      answers = exchanged-answer l (a ∷ b ∷ c ∷ []) (arranged o a b c) (place_in o) (stands_in o) R r s t u one two;
      same = exchanged-done l (a ∷ b ∷ c ∷ []) (arranged o a b c) (place_in o) (stands_in o) R r s t u one two;
      room = exchanged_room l (a ∷ b ∷ c ∷ []) (arranged o a b c) (place_in o) (stands_in o) R r s t u one two;
      one_bad = exchanged-bad l (a ∷ b ∷ c ∷ []) (arranged o a b c) (place_in o) (stands_in o) R r s t u one two;
      several_bad = first_handed_in l (a ∷ b ∷ c ∷ []) (arranged o a b c) (place_in o) (stands_in o) R r s t u one two;
    }

-- ── two files, the third map empty ──

empty-good : Good empty_file
empty-good = passes-good empty_file empty-passes

module _ (l : Lengths) (a b : List ℕ) (r s : code.Answer) (t u : Tables) (one : Promised l (a ∷ b ∷ empty_file ∷ []) r t) (two : Promised l (b ∷ a ∷ empty_file ∷ []) s u) where
  E : ThreeExchanged l a b empty_file bac r s t u
  E = every-order l a b empty_file bac r s t u one two

  pub two_exchanged : TwoExchanged l a b r s t u
  two_exchanged = record {
    answers = λ g h. E.answers (all_good g h);
    same = E.same;
    room = E.room;
    first_bad = λ q e g. E.one_bad 0 q (record { in_list = omega arith; refuses = e; others = but_first g });
    second-bad = λ q g e. E.one_bad 1 q (record { in_list = omega arith; refuses = e; others = but-second g });
    both_bad = λ q p e f.
        E.several_bad 0 0 q p (record { in_list = omega arith; good_before = λ j b. absurd (omega arith); refuses = e })
        (record { in_list = omega arith; good_before = λ j b. absurd (omega arith); refuses = f });
  }
    where
      all_good : Good a → Good b → (j : ℕ) → j < maps → Good (get_or (a ∷ b ∷ empty_file ∷ []) j [])
      all_good g h = each (λ j. Good (get_or (a ∷ b ∷ empty_file ∷ []) j [])) g h empty-good

      but_first : Good b → (j : ℕ) → j < maps → (j ≡ 0 → ⊥) → Good (get_or (a ∷ b ∷ empty_file ∷ []) j [])
      but_first g zero l d = absurd (d refl)
      but_first g (suc zero) l d = g
      but_first g (suc (suc zero)) l d = empty-good
      but_first g (suc (suc (suc j))) l d = absurd (omega arith)

      but-second : Good a → (j : ℕ) → j < maps → (j ≡ 1 → ⊥) → Good (get_or (a ∷ b ∷ empty_file ∷ []) j [])
      but-second g zero l d = g
      but-second g (suc zero) l d = absurd (d refl)
      but-second g (suc (suc zero)) l d = empty-good
      but-second g (suc (suc (suc j))) l d = absurd (omega arith)
