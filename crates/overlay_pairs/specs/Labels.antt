-- The label in a map of a half-edge and of a face of the overlay, from the flat tables that the code has of the overlay; what the code reads along the walk of a
-- half-edge and of its twin; and the place of a half-edge, which is what the code looks up of it. Assumes nothing.
use Rattle.std.specs.Prelude.{◌≡◌, refl, ◌⊎◌, ◌≤◌, ◌<◌, ◌&&◌, ◌+◌, ◌*◌, ◌-◌, ◌/◌, ◌%◌}
use Rattle.std.proofs.Common.{sym, ◌∙◌, ap, subst, inl, inr, arith}
use Rattle.seq.specs.Seq.{List, Option·map, ℕ, zero, suc, length, get_or, ℤ, best, or_zero}
use Rattle.seq.specs.Terms.{Reach, step}
use Rattle.seq.specs.Perm.{reach-trans}
use Rattle.paper.specs.Limits.{maps, absent}
use Rattle.paper.specs.Graph.{edge_count, twin, at_height, westward, nearer, east_side}
use Rattle.paper.specs.Map.{Map, label}
use Rattle.laws_graph.specs.Halves.{twin-half}
use Rattle.plane.specs.Values.{pt_of, vec_of}
use Rattle.plane.specs.Bounds.{Direction, Near}
use Rattle.graph.specs.Flat.{start_at, carrier_at, Starts, Carried}
use Rattle.graph.specs.Laws.Decode.{flat-edges}
use Rattle.overlay_cut.specs.PieceRows.{piece_width}
use Rattle.overlay_cut.specs.Net.{the_source_in}
use Rattle.overlay_maps.specs.Label.{own_label, label_by}
use Rattle.overlay_maps.specs.Place.{label_at, part_at}
use Rattle.overlay_maps.specs.Standing.{Stands, standing}
use Rattle.overlay_maps.specs.Layers.{Layers}
use Rattle.overlay_maps.specs.Held.{Held, held_map, edge_start}
use Rattle.overlay_maps.specs.declared.label.Place.{Place}
use Rattle.overlay_maps.specs.declared.label.Part.{Part}

-- half-edge h, in map m that is number i: from the lower end of its edge, the upward direction, and the stored source
abbrev pub half_label : Map → List ℤ → List ℕ → List ℤ → List ℕ → ℕ → ℕ → ℕ
half_label m ps os cs pieces i h = label_by m h (start_at ps os (2 * (h / 2))) (carrier_at cs (h / 2)).up (the_source_in pieces (h / 2) i)

-- face f, where outers are the least outer half-edges of the faces other than 0
abbrev pub face_label : Map → List ℤ → List ℕ → List ℤ → List ℕ → ℕ → List ℕ → ℕ → ℕ
face_label m ps os cs pieces i outers zero = 0
face_label m ps os cs pieces i outers (suc f) = half_label m ps os cs pieces i (get_or outers f 0)

-- in a table with a row for each face and in it a cell for each map that the layers hold
abbrev pub label_cell : Layers → List ℤ → List ℕ → List ℤ → List ℕ → List ℕ → ℕ → ℕ
label_cell l ps os cs pieces outers j = face_label (held_map l (j % maps)) ps os cs pieces (j % maps) outers (j / maps)

-- "that number (65,535 for face 0)"
abbrev pub outer_of : List ℕ → ℕ → ℕ
outer_of outers zero = absent
outer_of outers (suc f) = get_or outers f 0

-- ── what the code reads ──

-- of half-edge h the edge's lower end, its carrier, and its source in map i
pub record Placed (ps : List ℤ) (os : List ℕ) (cs : List ℤ) (pieces : List ℕ) (i h : ℕ) : Type 0 where
  pub of_maps : i < maps
  pub starts : Starts ps os (2 * (h / 2))
  pub carried : Carried cs (h / 2)
  pub row : piece_width * (h / 2) + piece_width ≤ length pieces

-- the source is one of e edges
pub record Labelled (ps : List ℤ) (os : List ℕ) (cs : List ℤ) (pieces : List ℕ) (i e h : ℕ) : Type 0 where
  pub placed : Placed ps os cs pieces i h
  pub source-most : the_source_in pieces (h / 2) i ≤ e

-- following from half-edge h comes to x, by the table of followers
abbrev pub OnWalk : List ℕ → ℕ → ℕ → Type 0
OnWalk next h x = Reach (step next) h x

-- and on to its follower
pub walk_turns : (next : List ℕ) (h x : ℕ) → OnWalk next h x → OnWalk next h (get_or next x 0)
walk_turns next h x a = reach-trans (step next) a (1, refl)

-- of each half-edge of the walk of h the follower, and the row of its edge
pub record Walked (next pieces : List ℕ) (h : ℕ) : Type 0 where
  pub follows : (x : ℕ) → OnWalk next h x → x < length next
  pub row : (x : ℕ) → OnWalk next h x → piece_width * (x / 2) + piece_width ≤ length pieces

-- x is on the walk of h, and is h itself where it has no source in map i
pub record Sourced (pieces next : List ℕ) (i h x : ℕ) : Type 0 where
  pub on_walk : OnWalk next h x
  pub itself : the_source_in pieces (x / 2) i ≡ 0 → x ≡ h

pub sourced-itself : (pieces next : List ℕ) (i h : ℕ) → Sourced pieces next i h h
sourced-itself pieces next i h = record { on_walk = (0, refl); itself = λ none. refl }

-- x is on the walk of h, or on that of its twin where h has no source in map i
abbrev pub Beside : List ℕ → List ℕ → ℕ → ℕ → ℕ → Type 0
Beside pieces next i h x = OnWalk next h x ⊎ ((the_source_in pieces (h / 2) i ≡ 0) × OnWalk next (twin h) x)

pub beside-itself : (pieces next : List ℕ) (i h : ℕ) → Beside pieces next i h h
beside-itself pieces next i h = inl (0, refl)

pub beside-twin : (pieces next : List ℕ) (i h x y : ℕ) → Sourced pieces next i h x → the_source_in pieces (x / 2) i ≡ 0 → OnWalk next (twin h) y → Beside pieces next i h y
beside-twin pieces next i h x y s none a = inr (subst (λ (z : ℕ). the_source_in pieces (z / 2) i ≡ 0) (s.itself none) none, a)

-- of each half-edge beside h all that its label in map i is found from, with one label on them all: that of h
pub record Agreeing (m : Map) (ps : List ℤ) (os : List ℕ) (cs : List ℤ) (pieces next : List ℕ) (i e h : ℕ) : Type 0 where
  pub few : h ≤ absent
  pub walked : Walked next pieces h
  pub behind : Walked next pieces (twin h)
  pub labelled : (x : ℕ) → Beside pieces next i h x → Labelled ps os cs pieces i e x
  pub same : (x : ℕ) → Beside pieces next i h x → half_label m ps os cs pieces i x ≡ half_label m ps os cs pieces i h

-- of face f its least outer half-edge, where it is not face 0
abbrev pub Labels : Map → List ℤ → List ℕ → List ℤ → List ℕ → List ℕ → ℕ → ℕ → List ℕ → ℕ → Type 0
Labels m ps os cs pieces next i e outers zero = Unit
Labels m ps os cs pieces next i e outers (suc f) = (f < length outers) × Agreeing m ps os cs pieces next i e (get_or outers f 0)

-- how many edges map i has, by where each map's edges start
abbrev pub edges_of : List ℕ → ℕ → ℕ
edges_of es i = get_or es (i + 1) 0 - get_or es i 0

-- in map i of those that the layers hold
abbrev pub Readable : Layers → List ℤ → List ℕ → List ℤ → List ℕ → List ℕ → List ℕ → ℕ → ℕ → Type 0
Readable l ps os cs pieces next outers i f = Labels (held_map l i) ps os cs pieces next i (edge_start l (i + 1) - edge_start l i) outers f

-- ── the place of a half-edge ──

pub record PlaceIs (ps : List ℤ) (os : List ℕ) (cs : List ℤ) (pieces : List ℕ) (i h : ℕ) (p : Place) : Type 0 where
  pub half_is : p.half ≡ h
  pub source_is : p.source ≡ the_source_in pieces (h / 2) i
  pub low_is : pt_of p.low ≡ start_at ps os (2 * (h / 2))
  pub up_is : vec_of p.up ≡ (carrier_at cs (h / 2)).up
  pub near : Near (pt_of p.low)
  pub direction : Direction (vec_of p.up)

module _ (ps : List ℤ) (os : List ℕ) (cs : List ℤ) (pieces : List ℕ) (i : ℕ) (p : Place) where
  pub placed-label : (m : Map) (h : ℕ) → PlaceIs ps os cs pieces i h p → label_at m p ≡ half_label m ps os cs pieces i h
  placed-label m h q = λ j. label_by m (q.half_is j) (q.low_is j) (q.up_is j) (q.source_is j)

-- ── the part that map i stands in ──

module _ (l : Layers) (H : Held l) (i : ℕ) (b : i < maps) (p : Part) (e : p ≡ part_at l.vertices l.edges i) where
  pub part-stands : Stands l.corners l.origins l.carriers l.labels p.v p.w p.a p.b
  part-stands = subst (λ (x : Part). Stands l.corners l.origins l.carriers l.labels x.v x.w x.a x.b) (sym e) (H.stands i b)

  pub part-map : standing l.corners l.origins l.carriers l.labels p.v p.w p.a p.b ≡ held_map l i
  part-map = ap (λ (x : Part). standing l.corners l.origins l.carriers l.labels x.v x.w x.a x.b) e

  pub part-edges : p.b - p.a ≡ edge_start l (i + 1) - edge_start l i
  part-edges = ap (λ (x : Part). x.b - x.a) e

-- ── by the source ──

module _ (m : Map) (ps : List ℤ) (os : List ℕ) (cs : List ℤ) (pieces : List ℕ) (i h : ℕ) where
  -- where there is one, the label of that edge on that side
  pub own-half : (k : ℕ) → the_source_in pieces (h / 2) i ≡ suc k → own_label m h k ≡ half_label m ps os cs pieces i h
  own-half k e = ap (label_by m h (start_at ps os (2 * (h / 2))) (carrier_at cs (h / 2)).up) (sym e)

  -- where there is none, one label on both sides
  pub twin-label : the_source_in pieces (h / 2) i ≡ 0 → half_label m ps os cs pieces i (twin h) ≡ half_label m ps os cs pieces i h
  twin-label none =
      let q = twin-half h in
      let by : ℕ → ℕ → ℕ = λ x. label_by m x (start_at ps os (2 * (h / 2))) (carrier_at cs (h / 2)).up in
      (λ j. label_by m (twin h) (start_at ps os (2 * q j)) (carrier_at cs (q j)).up (the_source_in pieces (q j) i)) ∙ ap (by (twin h)) none ∙ sym (ap (by h) none)

  -- in a map with no edges nothing is seen
  pub bare-half : edge_count m.graph ≡ 0 → the_source_in pieces (h / 2) i ≡ 0 → half_label m ps os cs pieces i h ≡ 0
  bare-half bare none =
      let g = m.graph in
      let p = start_at ps os (2 * (h / 2)) in
      let d = (carrier_at cs (h / 2)).up in
      ap (label_by m h p d) none ∙ ap (λ (n : ℕ). or_zero (label m) (Option·map (east_side g) (best (λ k. at_height g p k && westward g p d k) (nearer g p) n))) bare

-- no edge stands between where map i starts and where the next does
pub bare-map : (l : Layers) (i : ℕ) → edge_start l i ≡ edge_start l (i + 1) → edge_count (held_map l i).graph ≡ 0
bare-map l i e = let none : edge_start l (i + 1) - edge_start l i ≡ 0 = omega (arith, e) in flat-edges _ _ _ _ _ ∙ none

pub bare-label : (m : Map) (ps : List ℤ) (os : List ℕ) (cs : List ℤ) (pieces next : List ℕ) (i e : ℕ) (outers : List ℕ) (f : ℕ) → edge_count m.graph ≡ 0 → e ≡ 0 →
    Labels m ps os cs pieces next i e outers f → 0 ≡ face_label m ps os cs pieces i outers f
bare-label m ps os cs pieces next i e outers zero bare q l = refl
bare-label m ps os cs pieces next i e outers (suc f) bare q l =
    let h = get_or outers f 0 in
    let least = (l.1.labelled h (beside-itself pieces next i h)).source-most in
    sym (bare-half m ps os cs pieces i h bare (omega (arith, least, q)))

-- ── by whether it is face 0 ──

module _ (ps : List ℤ) (os : List ℕ) (cs : List ℤ) (pieces : List ℕ) (i : ℕ) (outers : List ℕ) where
  pub outside-label : (m : Map) (f : ℕ) → f ≡ 0 → 0 ≡ face_label m ps os cs pieces i outers f
  outside-label m f q = ap (face_label m ps os cs pieces i outers) (sym q)

module _ (ps : List ℤ) (os : List ℕ) (cs : List ℤ) (pieces : List ℕ) (i : ℕ) (outers : List ℕ) where
  pub inner-label : (m : Map) (f : ℕ) → (f ≡ 0 → ⊥) → half_label m ps os cs pieces i (get_or outers (f - 1) 0) ≡ face_label m ps os cs pieces i outers f
  inner-label m f q = let w : f ≡ suc (f - 1) = omega arith in ap (face_label m ps os cs pieces i outers) (sym w)

  pub inner : (m : Map) (next : List ℕ) (e f : ℕ) → (f ≡ 0 → ⊥) → Labels m ps os cs pieces next i e outers f → (f - 1 < length outers) × Agreeing m ps os cs pieces next i e (get_or outers (f - 1) 0)
  inner m next e f q l = let w : f ≡ suc (f - 1) = omega arith in subst (Labels m ps os cs pieces next i e outers) w l

pub outside-outer : (outers : List ℕ) (f : ℕ) → f ≡ 0 → absent ≡ outer_of outers f
outside-outer outers f q = ap (outer_of outers) (sym q)

pub inner-outer : (outers : List ℕ) (f : ℕ) → (f ≡ 0 → ⊥) → get_or outers (f - 1) 0 ≡ outer_of outers f
inner-outer outers f q = let w : f ≡ suc (f - 1) = omega arith in ap (outer_of outers) (sym w)
