-- Guards against two of 01's slips, as laws of the definitions: an edge is split at every vertex on it, and an upper end is never counted when
-- looking west. Assumes nothing.
use Rattle.std.specs.Prelude.{◌≡◌, refl, ◌<◌, ◌&&◌, ◌∷◌}
use Rattle.std.proofs.Common.{sym, arith}
use Rattle.seq.specs.Seq.{Bool, true, false, not, List, [], Option, ℕ, zero, suc, length, get_or}
use Rattle.paper.specs.Plane.{Pt, Sign, pick, neg, zer, plus, sgn, is_neg, is_zer, same, below, dir}
use Rattle.paper.specs.Graph.{Graph, high, low, at_height}
use Rattle.paper.specs.Pieces.{Piece, links, links_from}

-- "Splitting an edge only at its first crossing": between each two neighbours of the vertices on an edge there is a piece
links_from_at : (s : List (Option ℕ)) (v : ℕ) (ws : List ℕ) (d : Piece) (i : ℕ) → i < length ws →
    get_or (links_from s v ws) i d ≡ record { lo = get_or (v ∷ ws) i 0; hi = get_or ws i 0; sources = s }
links_from_at s v [] d i h = absurd (omega arith)
links_from_at s v (w ∷ ws) d zero h = refl
links_from_at s v (w ∷ ws) d (suc i) h = links_from_at s w ws d i (omega arith)

pub links_at : (s : List (Option ℕ)) (vs : List ℕ) (d : Piece) (i : ℕ) → suc i < length vs →
    get_or (links s vs) i d ≡ record { lo = get_or vs i 0; hi = get_or vs (suc i) 0; sources = s }
links_at s [] d i h = absurd (omega arith)
links_at s (v ∷ vs) d i h = links_from_at s v vs d i (omega arith)

-- "Counting an edge's upper end as well as its lower end when looking west": from an upper end the edge is no candidate
level : (s t : Sign) → is_zer (pick s t) ≡ true → is_neg s ≡ false
level neg t e = sym e
level zer t e = refl
level plus t e = refl

no_more : (a b : Bool) → b ≡ false → (a && b) ≡ false
no_more true b e = e
no_more false b e = refl

pub upper-end-unseen : (g : Graph) (p : Pt) (k : ℕ) → same p (high g k) ≡ true → at_height g p k ≡ false
upper-end-unseen g p k e = no_more (not (below p (low g k))) (below p (high g k)) (level (sgn (dir (high g k) p).y) (sgn (dir (high g k) p).x) e)
