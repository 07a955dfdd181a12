-- Ask 6, over a list of map files: "The overlay still accepts arbitrary bytes and now gets its refusals from the check, with the same numbers, places and order". The check refuses for rules 1 to 10 and names no
-- map (`check-rules`). All files are good, or one is the first that is bad (`good_or_bad`). Where one is bad the overlay refuses with what the check says of the first such file, its map number put in, and all
-- tables are zero (`check-refuses`); a refusal of the overlay for a rule from 1 to 10 is always that (`refused_by_check`, and back: `by_check-refused`). Where all are good room alone decides (`good_room`), and a
-- refusal is for rule 11 and of no map; no refusal is a third thing (`refused_for`). Assumes nothing.
use Rattle.std.specs.Prelude.{◌≡◌, refl, ◌⊎◌, ◌<◌, ◌≤◌}
use Rattle.std.proofs.Common.{◌∙◌, ap, inl, inr, not-suc-le-zero, arith}
use Rattle.std.proofs.Math.Decide.{ℕ_discrete}
use Rattle.seq.specs.Seq.{List, [], Option, none, some, ℕ, zero, suc, length, get_or}
use Rattle.paper.specs.Refusal.{Refusal, done, refused, first_of, answer}
use Rattle.paper.specs.Map.{vertex_count, edges_in, fault, check}
use Rattle.paper.specs.Faces.{overlay_of}
use Rattle.paper.specs.Tables.{Counts, counts_of, tables_of}
use Rattle.paper.specs.Lent.{Lengths, outcome, room_in, room_faults}
use Rattle.paper.specs.Overlay.{lent}
use Rattle.laws_refusals.specs.Refusals.{done_none, refused_some}
use Rattle.laws_map.specs.Refused.{fault-keeps}
use Rattle.laws_overlay.specs.Files.{AllPass, maps_of}
use Rattle.laws_orders.specs.Orders.{named, all_pass_room}

-- ── the check of one file ──

-- the check answers with counts
abbrev pub Good : List ℕ → Type 0
Good s = (n : ℕ × ℕ) × (check s ≡ done n)

module _ (s : List ℕ) where
  abbrev counts : ℕ × ℕ
  counts = (vertex_count s, edges_in s)

  -- "or with rules 1 to 10"; "An operation that does not take two or more maps answers with map 0"
  pub check-rules : (r : Refusal) → check s ≡ refused r → (1 ≤ r.number) × (r.number ≤ 10) × (r.map ≡ 0)
  check-rules r e =
      fault-keeps s (λ q. (1 ≤ q.number) × (q.number ≤ 10) × (q.map ≡ 0)) (λ n k low high d. (low, high, refl)) (omega arith, omega arith, refl) r (refused_some counts r (fault s) e)

  pub good-passes : Good s → fault s ≡ none
  good-passes (n, e) = (done_none counts n (fault s) e).0

  pub passes-good : fault s ≡ none → Good s
  passes-good e = (counts, ap (answer counts) e)

-- ── the first bad file ──

abbrev pub AllGood : List (List ℕ) → Type 0
AllGood fs = (i : ℕ) → i < length fs → Good (get_or fs i [])

-- file i is the first that the check refuses, and r is what it says
pub record FirstBad (fs : List (List ℕ)) (i : ℕ) (r : Refusal) : Type 0 where
  pub in_list : i < length fs
  pub good_before : (j : ℕ) → j < i → Good (get_or fs j [])
  pub refuses : check (get_or fs i []) ≡ refused r

module _ (fs : List (List ℕ)) where
  abbrev Bad : Type 0
  Bad = (i : ℕ) × (r : Refusal) × FirstBad fs i r

  abbrev GoodBelow : ℕ → Type 0
  GoodBelow n = (i : ℕ) → i < n → Good (get_or fs i [])

  one_more : (n : ℕ) (f : Option Refusal) → n < length fs → fault (get_or fs n []) ≡ f → GoodBelow n → GoodBelow (suc n) ⊎ Bad
  one_more n none l e h = inl (λ i b. elim (ℕ_discrete i n) [ yes q ↦ passes-good (get_or fs i []) (ap (λ (k : ℕ). fault (get_or fs k [])) q ∙ e) | no q ↦ h i (omega arith) ])
  one_more n (some r) l e h = inr (n, r, record { in_list = l; good_before = h; refuses = ap (answer (vertex_count (get_or fs n []), edges_in (get_or fs n []))) e })

  below : (n : ℕ) → n ≤ length fs → GoodBelow n ⊎ Bad
  below zero l = inl (λ i b. absurd (not-suc-le-zero b))
  below (suc n) l = go (below n (omega arith))
    where
      go : GoodBelow n ⊎ Bad → GoodBelow (suc n) ⊎ Bad
      go (inl h) = one_more n (fault (get_or fs n [])) (omega arith) refl h
      go (inr b) = inr b

  pub good_or_bad : AllGood fs ⊎ ((i : ℕ) × (r : Refusal) × FirstBad fs i r)
  good_or_bad = below (length fs) (omega arith)

-- ── the overlay ──

-- the refusal q is what the check says of the first bad file, its map number put in
pub record ByCheck (fs : List (List ℕ)) (q : Refusal) : Type 0 where
  pub file : ℕ
  pub said : Refusal
  pub first : FirstBad fs file said
  pub same : q ≡ named (suc file) said

-- the refusal q is for room, of files that are all good
pub record ForRoom (fs : List (List ℕ)) (q : Refusal) : Type 0 where
  pub good : AllGood fs
  pub number : q.number ≡ 11
  pub map : q.map ≡ 0
  pub other : q.other ≡ 0

module _ (l : Lengths) (fs : List (List ℕ)) where
  abbrev pub defined : Counts
  defined = counts_of (overlay_of (maps_of fs))

  all_pass : AllGood fs → AllPass fs
  all_pass G i b = good-passes (get_or fs i []) (G i b)

  -- where all are good nothing is left but room
  pub good_room : AllGood fs → lent l fs ≡ outcome l (counts_of (overlay_of (maps_of fs))) (tables_of (maps_of fs) (overlay_of (maps_of fs))) (first_of (room_faults (room_in (length fs) l) (counts_of (overlay_of (maps_of fs)))))
  good_room G = ap (outcome l defined (tables_of (maps_of fs) (overlay_of (maps_of fs)))) (all_pass_room l fs (all_pass G))
