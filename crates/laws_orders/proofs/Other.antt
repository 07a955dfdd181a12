-- The other edge in a refusal of the overlay (02, Ask 2), over a list of map files: refused with 8 it names a map, and the other edge is that map's, the least that clashes with the place (`overlay_8`);
-- refused with any other number, room included, there is none (`overlay_other_none`). Assumes nothing.
use Rattle.std.specs.Prelude.{◌≡◌, ◌⊎◌, ◌<◌}
use Rattle.std.proofs.Common.{sym, ◌∙◌, ap, subst, inl, inr, arith}
use Rattle.seq.specs.Seq.{List, [], some, ℕ, suc, length, get_or}
use Rattle.paper.specs.Refusal.{Refusal, refused}
use Rattle.paper.specs.Map.{map_of, vertex_count, edges_in, fault}
use Rattle.paper.specs.Lent.{Lengths}
use Rattle.paper.specs.Overlay.{lent}
use Rattle.laws_refusals.specs.Refusals.{refused_some}
use Rattle.laws_meet.specs.Other.{OtherEdge, other_none}
use Rattle.laws_meet.proofs.Other.{refused_8}
use Rattle.laws_orders.specs.FromCheck.{ByCheck, ForRoom}
use Rattle.laws_orders.proofs.CheckRefused.{refused_for}

module _ (l : Lengths) (fs : List (List ℕ)) (q : Refusal) (e : (lent l fs).answer ≡ refused q) where
  -- the check's refusal of the file that is named
  said : (C : ByCheck fs q) → fault (get_or fs C.file []) ≡ some C.said
  said C = let s = get_or fs C.file [] in refused_some (vertex_count s, edges_in s) C.said (fault s) C.first.refuses

  same_number : (C : ByCheck fs q) → q.number ≡ C.said.number
  same_number C = ap (λ (r : Refusal). r.number) C.same

  pub overlay_8 : q.number ≡ 8 → (i : ℕ) × (q.map ≡ suc i) × (i < length fs) × OtherEdge (map_of (get_or fs i [])).graph q.place q.other
  overlay_8 n = go (refused_for l fs q e)
    where
      go : ByCheck fs q ⊎ ForRoom fs q → (i : ℕ) × (q.map ≡ suc i) × (i < length fs) × OtherEdge (map_of (get_or fs i [])).graph q.place q.other
      go (inr R) = absurd (omega (arith, R.number, n))
      go (inl C) =
          let (_, _, E) = refused_8 (get_or fs C.file []) C.said (said C) (sym (same_number C) ∙ n) in
          (C.file, ap (λ (r : Refusal). r.map) C.same, C.first.in_list, subst (λ (r : Refusal). OtherEdge (map_of (get_or fs C.file [])).graph r.place r.other) (sym C.same) E)

  pub overlay_other_none : (q.number ≡ 8 → ⊥) → q.other ≡ 0
  overlay_other_none d = go (refused_for l fs q e)
    where
      go : ByCheck fs q ⊎ ForRoom fs q → q.other ≡ 0
      go (inr R) = R.other
      go (inl C) = ap (λ (r : Refusal). r.other) C.same ∙ other_none (get_or fs C.file []) C.said (said C) (λ n. d (same_number C ∙ n))
