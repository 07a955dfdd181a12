-- Of OneFace of specs/, what rests on its definitions.
use Rattle.std.specs.Prelude.{◌≡◌, refl, Bool, true, false, ℕ, zero, suc, ◌<◌}
use Rattle.std.proofs.Common.{sym, ◌∙◌, ap, not-suc-le-zero, arith}
use Rattle.std.proofs.Math.Option.{Option, none, some}
use Rattle.seq.specs.Seq.{or_zero}
use Rattle.paper.specs.Graph.{Graph, the_half_count, followers, smallest, hole_look}
use Rattle.paper.specs.Faces.{walks_of, hole_at}
use Rattle.paper.specs.Map.{Map}
use Rattle.laws_graph.specs.Walks.{lead-along, along_same, hole_is}
use Rattle.laws_graph.specs.Holes.{smallest_below}
use Rattle.laws_graph.specs.Seen.{hole-sees-smaller}
use Rattle.laws_graph.specs.Rank.{rank, rank_less}
use Rattle.laws_graph.specs.Faces.{face_of, face-row}
use Rattle.laws_graph.proofs.Faces.{outer-face, hole-face}
use Rattle.laws_labels.specs.Lawful.{Lawful}
use Rattle.laws_labels.specs.Covers.{Covers}
use Rattle.laws_labels.specs.Star.{the_left_in}
use Rattle.laws_labels.proofs.Star.{followed}
use Rattle.laws_labels.specs.Looks.{seen_in}
use Rattle.laws_labels.proofs.Holes.{hole_left}
use Rattle.laws_labels.specs.OneFace.{held_in}

module _ (O : Graph) (m : Map) (K : Lawful m) (C : Covers O m) where
  abbrev depth : ℕ → ℕ
  depth h = rank O (smallest O (followers O) h)

  outer-held : (h : ℕ) → h < the_half_count O → hole_at (walks_of O) h ≡ false → the_left_in m O h ≡ held_in m O (face_of O h)
  outer-held h l e =
      sym (along_same O C.plane (the_left_in m O) (followed O m K C) l (lead-along O C.plane h l))
      ∙ ap (the_left_in m O) (sym (face-row O C.plane h l e))
      ∙ sym (ap (held_in m O) (outer-face O C.plane h l e))

  below : (n h : ℕ) → h < the_half_count O → depth h < n → the_left_in m O h ≡ held_in m O (face_of O h)
  below zero h l a = absurd (not-suc-le-zero a)
  below (suc n) h l a = go (hole_at (walks_of O) h) refl (λ x j b. below n x j b)
    where
      seen : (o : Option ℕ) → hole_look O (followers O) h ≡ o → ((x : ℕ) → x < the_half_count O → depth x < n → the_left_in m O x ≡ held_in m O (face_of O x)) → seen_in m O o ≡ held_in m O (or_zero (face_of O) o)
      seen none e ih = refl
      seen (some x) e ih =
          let (j, b) = hole-sees-smaller O C.plane h x l e in
          ih x j (omega (arith, rank_less O C.plane (smallest O (followers O) x) (smallest O (followers O) h) (smallest_below O C.plane x j) b))

      go : (c : Bool) → hole_at (walks_of O) h ≡ c → ((x : ℕ) → x < the_half_count O → depth x < n → the_left_in m O x ≡ held_in m O (face_of O x)) → the_left_in m O h ≡ held_in m O (face_of O h)
      go false e ih = outer-held h l e
      go true e ih =
          hole_left O m K C h l (sym (hole_is O C.plane h l) ∙ e)
          ∙ seen (hole_look O (followers O) h) refl ih
          ∙ sym (ap (held_in m O) (hole-face O C.plane h l e))

  pub one_face : (h : ℕ) → h < the_half_count O → the_left_in m O h ≡ held_in m O (face_of O h)
  one_face h l = below (suc (depth h)) h l (omega arith)
