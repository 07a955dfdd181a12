-- The tables of headings and followers made from a graph in flat tables: what the search for disagreeing labels asks of them, and that it finds what rule 10
-- says. Assumes nothing.
use Rattle.std.specs.Prelude.{◌≡◌, ◌≤◌, ◌<◌, ◌*◌}
use Rattle.std.proofs.Common.{sym, ap, ◌∙◌, subst, arith}
use Rattle.seq.specs.Filled.{length-filled, filled_at, Holds, filled-holds, holds-ext}
use Rattle.seq.specs.Least.{least-ext}
use Rattle.seq.specs.Seq.{List, ℕ, length, get_or, ℤ, least, filled, laid}
use Rattle.paper.specs.Limits.{map_edges}
use Rattle.paper.specs.Graph.{Graph, heading, follower, followers}
use Rattle.paper.specs.Map.{disagrees}
use Rattle.laws_graph.specs.Plane.{Plane}
use Rattle.graph.specs.Flat.{flat_graph, Flat, Numbers}
use Rattle.graph.specs.Heading.{row}
use Rattle.graph.specs.Follow.{Headings, follower_at, follower_under, flat-follower, heads-laid, headings-laid}
use Rattle.graph.specs.Stars.{greatest_at, Apart, flat-apart}
use Rattle.map_check.specs.Labels.{disagrees_at, Linked}
use Rattle.map_check.specs.Held.{flat_map}
use Rattle.map_check.specs.Laws.Disagree.{flat-disagrees}

module _ {ps : List ℤ} {os : List ℕ} {cs : List ℤ} {n e : ℕ} (F : Flat ps os cs n e) (few : e ≤ map_edges) where
  abbrev g : Graph
  g = flat_graph ps os cs n e

  module _ (hs dh : List ℤ) (roomy : 2 * (2 * e) ≤ length dh) (made : hs ≡ laid (2 * e) (λ h. row (heading g h)) dh) where
    pub made-headings : Headings hs (2 * e)
    made-headings = headings-laid ps os cs n e hs dh roomy made F

    pub made-apart : Plane g → Apart os hs (2 * e)
    made-apart P = flat-apart ps os cs n e P hs (heads-laid ps os cs n e hs dh roomy made)

    module _ (nx dn : List ℕ) (room : 2 * e ≤ length dn) (is : nx ≡ filled (2 * e) (follower_at os hs (2 * e)) dn)
        (gs dg : List ℕ) (wide : n ≤ length dg) (tops : gs ≡ filled n (greatest_at os hs (2 * e)) dg) where
      next_at : (h : ℕ) → h < 2 * e → get_or nx h 0 ≡ follower_at os hs (2 * e) h
      next_at h l = ap (λ (t : List ℕ). get_or t h 0) is ∙ filled_at (follower_at os hs (2 * e)) (2 * e) h dn 0 l

      made_next : Numbers nx (2 * e) (2 * e)
      made_next = record {
        long = omega (arith, room, ap length is, length-filled (follower_at os hs (2 * e)) (2 * e) dn room);
        named = λ h l. subst (λ (x : ℕ). x < 2 * e) (sym (next_at h l)) (follower_under os hs e h l);
      }

      holds-tops : Holds (greatest_at os hs (2 * e)) gs n
      holds-tops = filled-holds (greatest_at os hs (2 * e)) gs dg n wide tops

      pub made-linked : (ls : List ℕ) → 2 * e ≤ length ls → Linked ps os cs ls gs nx n e
      made-linked ls l = record { flat = F; few = omega arith; labels = l; heads = holds-tops.long; next = made_next }

      holds-followers : Holds (follower g) nx (2 * e)
      holds-followers =
          holds-ext (follower_at os hs (2 * e)) (follower g) nx (2 * e) (flat-follower ps os cs n e hs (heads-laid ps os cs n e hs dh roomy made))
          (filled-holds (follower_at os hs (2 * e)) nx dn (2 * e) room is)

      pub found-disagrees : Plane g → (ls : List ℕ) (r : ℕ) → r ≡ least (disagrees_at ps os cs ls gs nx n e) (2 * e) → r ≡ least (disagrees (flat_map ps os cs ls n e) (followers g)) (2 * e)
      found-disagrees P ls r q =
          q ∙ least-ext (disagrees_at ps os cs ls gs nx n e) (disagrees (flat_map ps os cs ls n e) (followers g)) (2 * e)
          (λ h l. flat-disagrees ps os cs n e F P hs (heads-laid ps os cs n e hs dh roomy made) gs holds-tops nx holds-followers h l ls)
