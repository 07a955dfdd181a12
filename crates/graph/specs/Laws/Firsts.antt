-- What the first places are of a graph: in the origins, each vertex's least outgoing half-edge; in the followers, each half-edge's predecessor. Assumes nothing.
use Rattle.std.specs.Prelude.{◌≡◌, ◌<◌, ◌*◌}
use Rattle.std.proofs.Common.{sym, ◌∙◌, ap, arith, lt-ltb}
use Rattle.seq.specs.Seq.{Bool, cond, List, ℕ, eqb, ltb, length, get_or, least, position, ℤ}
use Rattle.seq.specs.Terms.{the_stands_at}
use Rattle.seq.specs.Tests.{eqb_swap}
use Rattle.seq.specs.Least.{least-ext}
use Rattle.seq.proofs.Position.{position-least}
use Rattle.paper.specs.Limits.{absent}
use Rattle.paper.specs.Graph.{Graph, the_half_count, leaves, follower, followers}
use Rattle.paper.specs.Tables.{least_half}
use Rattle.laws_graph.specs.Plane.{Plane}
use Rattle.laws_graph.specs.Follow.{followers-length, followers_at, predecessor_below}
use Rattle.graph.specs.Flat.{origin_at, flat_graph}
use Rattle.graph.specs.Laws.Decode.{flat-halves, flat_origin}
use Rattle.seq.specs.Filled.{Holds}
use Rattle.graph.specs.Places.{first_place}

-- "its least outgoing half-edge", "65,535 if none"
pub place-least : (ps : List ℤ) (os : List ℕ) (cs : List ℤ) (n e v : ℕ) → first_place os (2 * e) absent v ≡ least_half (leaves (flat_graph ps os cs n e) v) (the_half_count (flat_graph ps os cs n e))
place-least ps os cs n e v =
    let g = flat_graph ps os cs n e in
    let m = flat-halves ps os cs n e in
    let s : least (λ k. eqb (origin_at os k) v) (2 * e) ≡ least (leaves g v) (2 * e) =
    least-ext (λ k. eqb (origin_at os k) v) (leaves g v) (2 * e) (λ k l. ap (λ (x : ℕ). eqb x v) (sym (flat_origin ps os cs n e k l))) in
    ap (λ (h : ℕ). cond (ltb h (2 * e)) h absent) s ∙ ap (λ (j : ℕ). least_half (leaves g v) j) (sym m)

-- of what stands in a list, in a table that begins with the list: its position
pub place-position : (ys t : List ℕ) (none x : ℕ) → Holds (λ i. get_or ys i 0) t (length ys) → position x ys < length ys → first_place t (length ys) none x ≡ position x ys
place-position ys t none x h l =
    let s : least (λ k. eqb (get_or t k 0) x) (length ys) ≡ position x ys =
    least-ext (λ k. eqb (get_or t k 0) x) (the_stands_at x ys) (length ys) (λ k b. ap (λ (y : ℕ). eqb y x) (h.at k b) ∙ eqb_swap (get_or ys k 0) x) ∙ position-least x ys in
    ap (λ (r : ℕ). cond (ltb r (length ys)) r none) s ∙ ap (λ (c : Bool). cond c (position x ys) none) (lt-ltb (position x ys) (length ys) l)

-- "The predecessor is the inverse": where h stands in the list of followers
pub place-predecessor : (g : Graph) → Plane g → (t : List ℕ) (none h : ℕ) → Holds (follower g) t (the_half_count g) → h < the_half_count g → first_place t (the_half_count g) none h ≡ position h (followers g)
place-predecessor g P t none h H l =
    let m = followers-length g P in
    ap (λ (j : ℕ). first_place t j none h) (sym m)
    ∙ place-position (followers g) t none h
    (record { long = omega (arith, H.long); at = λ i b. H.at i (omega arith) ∙ sym (followers_at g P i (omega arith)) }) (omega (arith, predecessor_below g P h l))
