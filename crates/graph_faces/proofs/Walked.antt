-- Of Walked of specs/, what rests on its definitions.
use Rattle.std.specs.Prelude.{◌≡◌, refl, ◌<◌, ◌<ℤ◌, ◌∷◌, ◌*◌}
use Rattle.std.proofs.Common.{sym, ◌∙◌, ap, arith, eqb-true, eq-eqb}
use Rattle.seq.specs.Seq.{Bool, true, List, [], Option, none, some, Option·getD, ℕ, eqb, get_or, best, ℤ, pos}
use Rattle.seq.specs.Terms.{Has, TopIs, Strict}
use Rattle.seq.specs.Best.{best-top}
use Rattle.paper.specs.Limits.{absent}
use Rattle.paper.specs.Plane.{before}
use Rattle.paper.specs.Graph.{the_half_count, origin, followers, smallest, greatest_out}
use Rattle.paper.specs.Faces.{walks_of, lead_at}
use Rattle.laws_plane.specs.Points.{before_irr, before_trans}
use Rattle.laws_graph.specs.Plane.{Plane}
use Rattle.laws_graph.specs.Walks.{Along, lead_below, lead_same, lead_one, along_below}
use Rattle.laws_graph.specs.Holes.{smallest_is, smallest_below}
use Rattle.graph.specs.Flat.{origin_at, start_at, Flat}
use Rattle.graph.specs.Laws.Decode.{flat-points, flat-halves, flat_origin, flat_start}
use Rattle.seq.specs.Filled.{Holds}
use Rattle.graph_faces.specs.Turns.{earlier_at, low_at, top_at}
use Rattle.graph_faces.specs.Walked.{g, below, top_of}

-- ── from the flat tables ──

module _ (ps : List ℤ) (os : List ℕ) (cs : List ℤ) (n e : ℕ) (F : Flat ps os cs n e) where
  module _ (P : Plane (g ps os cs n e F)) (ls : List ℕ) (L : Holds (lead_at (walks_of (g ps os cs n e F))) ls (2 * e)) (h : ℕ) (l : h < 2 * e) where
    -- of the half-edges with h's leader
    abbrev mates : ℕ → Bool
    mates x = eqb (get_or ls x 0) (lead_at (walks_of (g ps os cs n e F)) h)

    order : Strict mates (earlier_at ps os) (2 * e)
    order = record {
      irr = λ x b. before_irr (start_at ps os x);
      trans = λ x y z bx by bz. before_trans (start_at ps os x) (start_at ps os y) (start_at ps os z) (real x bx.below) (real y by.below) (real z bz.below);
    }
      where
        real : (x : ℕ) → x < 2 * e → pos 0 <ℤ (start_at ps os x).D
        real x b = (F.points.near (origin_at os x) (F.origins.named x b)).positive

    mate : (x : ℕ) → x < 2 * e → mates x ≡ true → Along (g ps os cs n e F) h x
    mate x b q =
        let k : x < the_half_count (g ps os cs n e F) = omega (arith, flat-halves ps os cs n e) in
        lead_one (g ps os cs n e F) P h x (below ps os cs n e F P ls L h l) k (sym (sym (L.at x b) ∙ eqb-true (get_or ls x 0) (lead_at (walks_of (g ps os cs n e F)) h) q))

    along-mate : (x : ℕ) → Along (g ps os cs n e F) h x → Has mates (2 * e) x
    along-mate x a =
        let b : x < 2 * e = omega (arith, along_below (g ps os cs n e F) P (below ps os cs n e F P ls L h l) a, flat-halves ps os cs n e) in
        record { below = b; has = eq-eqb (get_or ls x 0) (lead_at (walks_of (g ps os cs n e F)) h) (L.at x b ∙ lead_same (g ps os cs n e F) P h x (below ps os cs n e F P ls L h l) a) }

    low_by : (o : Option ℕ) → TopIs mates (earlier_at ps os) (2 * e) o → (Option·getD o absent < 2 * e) × (origin (g ps os cs n e F) (Option·getD o absent) ≡ smallest (g ps os cs n e F) (followers (g ps os cs n e F)) h)
    low_by none t = absurd (t h (along-mate h (0, refl)))
    low_by (some x) t = (
      t.is.below,
      sym (smallest_is (g ps os cs n e F) P h (below ps os cs n e F P ls L h l) x (mate x t.is.below t.is.has)
          (λ j a. let m = along-mate j a in
          (λ i. before (flat_start ps os cs n e F.origins j m.below i) (flat_start ps os cs n e F.origins x t.is.below i)) ∙ t.none_better j m)),
    )

    -- the low half-edge of h's walk is one of the half-edges, and starts at the smallest vertex
    pub low_origin : (low_at ps os ls (2 * e) (lead_at (walks_of (g ps os cs n e F)) h) < 2 * e) × (origin (g ps os cs n e F) (low_at ps os ls (2 * e) (lead_at (walks_of (g ps os cs n e F)) h)) ≡ smallest (g ps os cs n e F) (followers (g ps os cs n e F)) h)
    low_origin = low_by (best mates (earlier_at ps os) (2 * e)) (best-top mates (earlier_at ps os) (2 * e) order)

    -- so the tables give the half-edge of greatest angle out of it
    pub flat-top : (lo gs : List ℕ) → Holds (low_at ps os ls (2 * e)) lo (2 * e) → Holds (λ v. Option·getD (greatest_out (g ps os cs n e F) v) absent) gs n → top_at os ls lo gs h ≡ top_of (g ps os cs n e F) h
    flat-top lo gs O G =
        let r = low_origin in
        let m : lead_at (walks_of (g ps os cs n e F)) h < 2 * e = omega (arith, lead_below (g ps os cs n e F) P h (below ps os cs n e F P ls L h l), flat-halves ps os cs n e) in
        let v : origin_at os (get_or lo (get_or ls h 0) 0) ≡ smallest (g ps os cs n e F) (followers (g ps os cs n e F)) h =
        ap (origin_at os) (ap (λ (x : ℕ). get_or lo x 0) (L.at h l) ∙ O.at (lead_at (walks_of (g ps os cs n e F)) h) m) ∙ sym (flat_origin ps os cs n e _ r.0) ∙ r.1 in
        ap (λ (x : ℕ). get_or gs x 0) v ∙ G.at (smallest (g ps os cs n e F) (followers (g ps os cs n e F)) h) (omega (arith, smallest_below (g ps os cs n e F) P h (below ps os cs n e F P ls L h l), flat-points ps os cs n e))

    -- and each cell that is read is there
    pub low_cell : (lo : List ℕ) → Holds (low_at ps os ls (2 * e)) lo (2 * e) → get_or lo (get_or ls h 0) 0 < 2 * e
    low_cell lo O =
        let m : lead_at (walks_of (g ps os cs n e F)) h < 2 * e = omega (arith, lead_below (g ps os cs n e F) P h (below ps os cs n e F P ls L h l), flat-halves ps os cs n e) in
        let q : get_or lo (get_or ls h 0) 0 ≡ low_at ps os ls (2 * e) (lead_at (walks_of (g ps os cs n e F)) h) = ap (λ (x : ℕ). get_or lo x 0) (L.at h l) ∙ O.at (lead_at (walks_of (g ps os cs n e F)) h) m in
        omega (arith, low_origin.0)
