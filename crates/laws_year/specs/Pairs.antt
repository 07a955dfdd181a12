-- Pairs sorted: in strict order, with the members that they had; and whether a pair is in a list. Assumes nothing.
use Rattle.std.specs.Prelude.{◌≡◌, refl}
use Rattle.std.proofs.Common.{sym, subst}
use Rattle.seq.specs.Seq.{true, false, List, is_in}
use Rattle.seq.specs.Terms.{Among, Every, Rising}
use Rattle.seq.specs.Members.{in_every}
use Rattle.seq.specs.Inserted.{in_order_from, in_order_has, in_order-rising, in_order_same}
use Rattle.seq.specs.Collected.{in_witness, in_has}
use Rattle.seq.specs.PairOrder.{pair_before, same_pair, Any, pair_one, pair-trans, pair-asym, same_pair_is, same_pair-self}
use Rattle.paper.specs.Year.{Pair, sorted_pairs}

abbrev keep : Pair → Pair → Pair
keep p q = q

any : (l : List Pair) → Every Any l
any l = in_every Any l (λ x i. tt)

one : (x y : Pair) → Any x → Any y → pair_before x y ≡ false → pair_before y x ≡ false → x ≡ y
one x y a b e f = pair_one x y e f

pub sorted-rising : (l : List Pair) → Rising pair_before (sorted_pairs l)
sorted-rising l = in_order-rising pair_before keep (λ p q. refl) Any one pair-trans l (any l)

pub sorted_from : (l : List Pair) (p : Pair) → Among p (sorted_pairs l) → Among p l
sorted_from l p i = in_order_from pair_before keep (λ p q. refl) l p i

pub sorted_has : (l : List Pair) (p : Pair) → Among p l → Among p (sorted_pairs l)
sorted_has l p i = in_order_has pair_before keep (λ p q. refl) Any one l (any l) p i

pub sorted_same : (l m : List Pair) → ((z : Pair) → Among z l → Among z m) → ((z : Pair) → Among z m → Among z l) → sorted_pairs l ≡ sorted_pairs m
sorted_same l m f g = in_order_same pair_before keep (λ p q. refl) Any one pair-trans pair-asym l m (any l) (any m) f g

-- ── a pair in a list ──

pub in_among : (p : Pair) (l : List Pair) → is_in same_pair p l ≡ true → Among p l
in_among p l e = let r = in_witness same_pair p l e in subst (λ (q : Pair). Among q l) (sym (same_pair_is p r.0 r.2)) r.1

pub among_in : (p : Pair) (l : List Pair) → Among p l → is_in same_pair p l ≡ true
among_in p l i = in_has same_pair p p l i (same_pair-self p)
