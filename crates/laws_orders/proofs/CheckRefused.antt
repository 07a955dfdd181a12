-- Of FromCheck of specs/, what rests on its definitions.
use Rattle.std.specs.Prelude.{◌≡◌, refl, ◌⊎◌, ◌<◌, ◌≤◌}
use Rattle.std.proofs.Common.{sym, ◌∙◌, ap, inl, inr, arith}
use Rattle.seq.specs.Seq.{List, [], ℕ, ltb, length, get_or}
use Rattle.paper.specs.Refusal.{Refusal, refused, first_of, answer}
use Rattle.paper.specs.Tables.{Counts}
use Rattle.paper.specs.Lent.{Lengths, Outcome, room_in, room_faults}
use Rattle.paper.specs.Overlay.{lent}
use Rattle.laws_refusals.specs.Refusals.{Keeps, beside-keeps, first_keeps, keeps_some, refused_some}
use Rattle.laws_orders.specs.FromCheck.{defined, AllGood, ForRoom, good_room, FirstBad, ByCheck, good_or_bad, check-rules}
use Rattle.laws_orders.proofs.FromCheck.{check-refuses}

-- ── the overlay ──

module _ (l : Lengths) (fs : List (List ℕ)) where
  abbrev room : Counts
  room = room_in (length fs) l

  abbrev OfRoom : Refusal → Type 0
  OfRoom r = (r.number ≡ 11) × (r.map ≡ 0) × (r.other ≡ 0)

  room_keeps : Keeps OfRoom (first_of (room_faults room (defined l fs)))
  room_keeps =
      first_keeps OfRoom (room_faults room (defined l fs)) (
        beside-keeps OfRoom 11 1 0 (ltb room.vertices (defined l fs).vertices) (refl, refl, refl),
        (
          beside-keeps OfRoom 11 2 0 (ltb room.edges (defined l fs).edges) (refl, refl, refl),
          (beside-keeps OfRoom 11 3 0 (ltb room.faces (defined l fs).faces) (refl, refl, refl), tt),
        ),
      )

  module _ (q : Refusal) (e : (lent l fs).answer ≡ refused q) where
    for_room : AllGood fs → ForRoom fs q
    for_room G =
        let a : answer (defined l fs) (first_of (room_faults room (defined l fs))) ≡ refused q = sym (ap (λ (o : Outcome). o.answer) (good_room l fs G)) ∙ e in
        let (eleven, no-map, no_other) = keeps_some OfRoom (first_of (room_faults room (defined l fs))) q room_keeps (refused_some (defined l fs) q (first_of (room_faults room (defined l fs))) a) in
        record { good = G; number = eleven; map = no-map; other = no_other }

    by_check : (i : ℕ) (r : Refusal) → FirstBad fs i r → ByCheck fs q
    by_check i r F = record { file = i; said = r; first = F; same = let a = sym e ∙ (check-refuses l fs i r F).0 in cc }

    -- a refusal is the check's or for room: no third
    pub refused_for : ByCheck fs q ⊎ ForRoom fs q
    refused_for = go (good_or_bad fs)
      where
        go : AllGood fs ⊎ ((i : ℕ) × (r : Refusal) × FirstBad fs i r) → ByCheck fs q ⊎ ForRoom fs q
        go (inl G) = inr (for_room G)
        go (inr (i, r, F)) = inl (by_check i r F)

  -- the overlay refuses for a rule from 1 to 10 exactly with what the check says of the first bad file
  pub refused_by_check : (q : Refusal) → (lent l fs).answer ≡ refused q → q.number ≤ 10 → ByCheck fs q
  refused_by_check q e b = go (refused_for q e)
    where
      go : ByCheck fs q ⊎ ForRoom fs q → ByCheck fs q
      go (inl C) = C
      go (inr R) = absurd (omega (arith, R.number, b))

  pub by_check-refused : (q : Refusal) → ByCheck fs q → ((lent l fs).answer ≡ refused q) × (1 ≤ q.number) × (q.number ≤ 10)
  by_check-refused q C =
      let (low, high, _) = check-rules (get_or fs C.file []) C.said C.first.refuses in
      let n : q.number ≡ C.said.number = ap (λ (x : Refusal). x.number) C.same in
      ((check-refuses l fs C.file C.said C.first).0 ∙ ap refused (sym C.same), omega (arith, low, n), omega (arith, high, n))
