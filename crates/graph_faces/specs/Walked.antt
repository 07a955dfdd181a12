-- What the tables of walks are of a plane graph. In order: the followers' table permutes the half-edges; the leaders are the definition's; the half-edge of
-- greatest angle out of each vertex; the low half-edge of a walk starts at its smallest vertex; so `top_of`, the half-edge of greatest angle out of the smallest
-- vertex of h's walk, says what that vertex is, whether the walk is a hole walk and which half-edge makes it one. Assumes nothing.
use Rattle.std.specs.Prelude.{◌≡◌, refl, ◌<◌, ◌<ℤ◌, ◌∷◌, ◌*◌}
use Rattle.std.proofs.Common.{sym, ◌∙◌, ap, subst, inl, arith, eqb-true, eq-eqb}
use Rattle.seq.specs.Seq.{true, List, [], Option, none, some, Option·getD, ℕ, eqb, length, take, among, leader, best, ℤ}
use Rattle.seq.specs.Terms.{Has, BestIs, Injects, step}
use Rattle.seq.specs.Tests.{bool-ext}
use Rattle.seq.specs.BestLoop.{best-ext}
use Rattle.seq.specs.Position.{among-elem, elem-among}
use Rattle.seq.specs.Members.{among_one}
use Rattle.seq.specs.Loops.Choosing.{has_key}
use Rattle.paper.specs.Limits.{absent}
use Rattle.paper.specs.Plane.{less_angle}
use Rattle.paper.specs.Graph.{Graph, the_half_count, origin, follower, followers, walk, smallest, leaves, heading, greatest_out, makes_hole}
use Rattle.paper.specs.Faces.{walks_of, lead_at, hole_at}
use Rattle.laws_graph.specs.Plane.{Plane}
use Rattle.laws_graph.specs.Follow.{followers_inject, lesser, greatest_is}
use Rattle.laws_graph.specs.Walks.{lead_is, lead_same, lead_one, along-walk, walk-along, along_below, hole_is}
use Rattle.laws_graph.specs.Holes.{smallest-start}
use Rattle.graph.specs.Flat.{origin_at, flat_graph, Flat}
use Rattle.graph.specs.Laws.Decode.{flat-halves, flat_origin}
use Rattle.seq.specs.Filled.{Holds, front-table}
use Rattle.graph.specs.Follow.{Heads}
use Rattle.graph_faces.specs.Lead.{Permutes}
use Rattle.graph.specs.Stars.{greater_at, greatest_at}

-- the half-edge of greatest angle out of the smallest vertex of h's walk
abbrev pub top_of : Graph → ℕ → ℕ
top_of g h = Option·getD (greatest_out g (smallest g (followers g) h)) absent

module _ (g : Graph) (P : Plane g) where
  -- ── the table of followers ──

  module _ (t : List ℕ) (H : Holds (follower g) t (the_half_count g)) where
    pub front-followers : take (the_half_count g) t ≡ followers g
    front-followers = front-table (follower g) t (the_half_count g) H

    pub next_permutes : Permutes t (the_half_count g)
    next_permutes = record { long = H.long; once = subst (λ (x : List ℕ). Injects (step x) (length x)) (sym front-followers) (followers_inject g P) }

    pub front-leader : (h : ℕ) → h < the_half_count g → leader (take (the_half_count g) t) h ≡ lead_at (walks_of g) h
    front-leader h l = ap (λ (x : List ℕ). leader x h) front-followers ∙ sym (lead_is g P h l)

  -- ── what top_of says ──

  module _ (h : ℕ) (l : h < the_half_count g) where
    top_by : (o : Option ℕ) → BestIs (leaves g (smallest g (followers g) h)) (λ k r. lesser g r k) (the_half_count g) o → (o ≡ some (Option·getD o absent)) × Has (leaves g (smallest g (followers g) h)) (the_half_count g) (Option·getD o absent)
    top_by none b = absurd (let s = smallest-start g P h l in b s.0 (record { below = along_below g P l s.1; has = eq-eqb (origin g s.0) (smallest g (followers g) h) s.2 }))
    top_by (some r) b = (refl, b.is)

    -- there is one, since a half-edge of the walk leaves its smallest vertex
    pub top-greatest : greatest_out g (smallest g (followers g) h) ≡ some (top_of g h)
    top-greatest = (top_by (greatest_out g (smallest g (followers g) h)) (greatest_is g P (smallest g (followers g) h))).0

    top_has : Has (leaves g (smallest g (followers g) h)) (the_half_count g) (top_of g h)
    top_has = (top_by (greatest_out g (smallest g (followers g) h)) (greatest_is g P (smallest g (followers g) h))).1

    pub top_below : top_of g h < the_half_count g
    top_below = top_has.below

    -- it starts at the smallest vertex
    pub top-origin : origin g (top_of g h) ≡ smallest g (followers g) h
    top-origin = eqb-true (origin g (top_of g h)) (smallest g (followers g) h) top_has.has

    -- "a hole walk exactly if it holds" it
    hole_yes : eqb (lead_at (walks_of g) (top_of g h)) (lead_at (walks_of g) h) ≡ true → among (some (top_of g h)) (walk (followers g) h) ≡ true
    hole_yes e = among-elem (top_of g h) (walk (followers g) h) (along-walk g P h l (top_of g h) (lead_one g P h (top_of g h) l top_below (sym (eqb-true _ _ e))))

    yes_hole : among (some (top_of g h)) (walk (followers g) h) ≡ true → eqb (lead_at (walks_of g) (top_of g h)) (lead_at (walks_of g) h) ≡ true
    yes_hole e = eq-eqb (lead_at (walks_of g) (top_of g h)) (lead_at (walks_of g) h) (lead_same g P h (top_of g h) l (walk-along g P h l (top_of g h) (elem-among (top_of g h) (walk (followers g) h) e)))

    pub top-hole : eqb (lead_at (walks_of g) (top_of g h)) (lead_at (walks_of g) h) ≡ hole_at (walks_of g) h
    top-hole =
        bool-ext (eqb (lead_at (walks_of g) (top_of g h)) (lead_at (walks_of g) h)) (among (some (top_of g h)) (walk (followers g) h)) hole_yes yes_hole
        ∙ ap (λ (o : Option ℕ). among o (walk (followers g) h)) (sym top-greatest) ∙ sym (hole_is g P h l)

    -- the half-edge that makes its walk a hole walk
    pub top-makes : eqb (top_of g h) h ≡ makes_hole g (followers g) h
    top-makes =
        bool-ext (eqb (top_of g h) h) (among (some (top_of g h)) (h ∷ [])) (λ e. among-elem (top_of g h) (h ∷ []) (inl (eqb-true (top_of g h) h e)))
        (λ e. eq-eqb (top_of g h) h (among_one (top_of g h) h (elem-among (top_of g h) (h ∷ []) e)))
        ∙ ap (λ (o : Option ℕ). among o (h ∷ [])) (sym top-greatest)

-- ── from the flat tables ──

module _ (ps : List ℤ) (os : List ℕ) (cs : List ℤ) (n e : ℕ) (F : Flat ps os cs n e) where
  abbrev pub g : Graph
  g = flat_graph ps os cs n e

  pub flat-greatest : (hs : List ℤ) → Heads ps os cs n e hs → (v : ℕ) → greatest_at os hs (2 * e) v ≡ Option·getD (greatest_out g v) absent
  flat-greatest hs H v =
      ap (λ (o : Option ℕ). Option·getD o absent)
      (best-ext (has_key (λ h. origin_at os h) (greater_at hs) v) (leaves g v) (greater_at hs) (λ h r. less_angle (heading g r) (heading g h)) (2 * e)
      (λ k b. ap (λ (x : ℕ). eqb x v) (sym (flat_origin ps os cs n e k b)))
      (λ j k a b. λ i. less_angle (H k b i) (H j a i))
      ∙ ap (best (leaves g v) (λ h r. less_angle (heading g r) (heading g h))) (sym (flat-halves ps os cs n e)))

  module _ (P : Plane g) (ls : List ℕ) (L : Holds (lead_at (walks_of g)) ls (2 * e)) (h : ℕ) (l : h < 2 * e) where
    pub below : h < the_half_count g
    below = omega (arith, flat-halves ps os cs n e)
