-- Hole walks, outer walks and faces as the code finds them, over the tables of walks: ls the least half-edges, ts the half-edges of greatest angle out of smallest
-- vertices, ks at least half-edges what is known of the walk: what a hole walk sees, the number of an outer walk. Assumes nothing.
use Rattle.std.specs.Prelude.{◌≡◌, ◌≤◌, ◌<◌, ◌&&◌, ◌-◌}
use Rattle.std.proofs.Common.{sym, ◌∙◌, ap, arith, eq-eqb, ne_eqb}
use Rattle.seq.specs.Seq.{Bool, true, false, cond, not, List, Option·getD, ℕ, zero, suc, eqb, length, get_or, count, ℤ}
use Rattle.paper.specs.Limits.{absent}
use Rattle.paper.specs.Plane.{nowhere}
use Rattle.paper.specs.Graph.{west}
use Rattle.graph.specs.Flat.{the_point_at, origin_at, flat_graph, Numbers}

-- what is read of half-edge h is there
pub record Kinded (ls ts : List ℕ) (h : ℕ) : Type 0 where
  pub lead-row : h < length ls
  pub top-row : h < length ts
  pub top-lead : get_or ts h 0 < length ls

-- h is of a hole walk
abbrev pub hole_of : List ℕ → List ℕ → ℕ → Bool
hole_of ls ts h = eqb (get_or ls (get_or ts h 0) 0) (get_or ls h 0)

-- h is the least half-edge of an outer walk; of a hole walk
abbrev pub outer_lead : List ℕ → List ℕ → ℕ → Bool
outer_lead ls ts h = eqb (get_or ls h 0) h && not (hole_of ls ts h)

abbrev pub hole_lead : List ℕ → List ℕ → ℕ → Bool
hole_lead ls ts h = eqb (get_or ls h 0) h && hole_of ls ts h

-- the number that an outer walk with the least half-edge h has
abbrev pub outer_number : List ℕ → List ℕ → ℕ → ℕ
outer_number ls ts h = suc (count (outer_lead ls ts) h)

-- what is seen strictly west from vertex v
abbrev pub seen_from : List ℤ → List ℕ → List ℤ → ℕ → ℕ → ℕ → ℕ
seen_from ps os cs n e v = Option·getD (west (flat_graph ps os cs n e) (the_point_at ps v) nowhere) absent

-- what is known of the walk that h is the least half-edge of: of a hole walk what it sees, of an outer walk that it has the number c
abbrev pub known_with : List ℤ → List ℕ → List ℤ → ℕ → ℕ → List ℕ → List ℕ → ℕ → ℕ → ℕ
known_with ps os cs n e ls ts h c = cond (hole_of ls ts h) (seen_from ps os cs n e (origin_at os (get_or ts h 0))) c

abbrev pub known_by : List ℤ → List ℕ → List ℤ → ℕ → ℕ → List ℕ → List ℕ → ℕ → ℕ
known_by ps os cs n e ls ts h = known_with ps os cs n e ls ts h (outer_number ls ts h)

-- the table ks has f at the least half-edge of each walk, of m half-edges
pub record Known (f : ℕ → ℕ) (ls ks : List ℕ) (m : ℕ) : Type 0 where
  pub long : m ≤ length ks
  pub at : (h : ℕ) → h < m → get_or ls h 0 ≡ h → get_or ks h 0 ≡ f h

-- the tables that the faces of m half-edges are read from: each number that is read names a half-edge, or is absent
pub record Faced (ls ts ks : List ℕ) (m : ℕ) : Type 0 where
  pub lead : Numbers ls m m
  pub top : Numbers ts m m
  pub long : m ≤ length ks
  pub seen : (h : ℕ) → h < m → hole_of ls ts h ≡ true → (get_or ks (get_or ls h 0) 0 ≡ absent → ⊥) → get_or ks (get_or ls h 0) 0 < m

pub faced_kinded : {ls ts ks : List ℕ} {m : ℕ} → Faced ls ts ks m → (h : ℕ) → h < m → Kinded ls ts h
faced_kinded r h l = record { lead-row = omega (arith, r.lead.long); top-row = omega (arith, r.top.long); top-lead = omega (arith, r.top.named h l, r.lead.long) }

-- from x on, through hole walks, in at most so many looks
abbrev pub face_from : List ℕ → List ℕ → List ℕ → ℕ → ℕ → ℕ
face_from ls ts ks zero x = 0
face_from ls ts ks (suc n) x =
    let s = get_or ks (get_or ls x 0) 0 in
    let r = face_from ls ts ks n s in
    cond (hole_of ls ts x) (cond (eqb s absent) 0 r) s

-- a turn of the loop that looks on: an outer walk; a hole walk that sees the outside; one that sees half-edge s; no look left
module _ (ls ts ks : List ℕ) (x left : ℕ) where
  abbrev s : ℕ
  s = get_or ks (get_or ls x 0) 0

  face-step : 0 < left → face_from ls ts ks left x ≡ cond (hole_of ls ts x) (cond (eqb s absent) 0 (face_from ls ts ks (left - 1) s)) s
  face-step l = let q : left ≡ suc (left - 1) = omega arith in ap (λ (k : ℕ). face_from ls ts ks k x) q

  pub face-outer : 0 < left → hole_of ls ts x ≡ false → get_or ks (get_or ls x 0) 0 ≡ face_from ls ts ks left x
  face-outer l e = sym (face-step l ∙ ap (λ (c : Bool). cond c (cond (eqb s absent) 0 (face_from ls ts ks (left - 1) s)) s) e)

  face-hole : 0 < left → hole_of ls ts x ≡ true → {c : Bool} → eqb s absent ≡ c → face_from ls ts ks left x ≡ cond c 0 (face_from ls ts ks (left - 1) s)
  face-hole l e {c} q = face-step l ∙ (λ i. cond (e i) (cond (q i) 0 (face_from ls ts ks (left - 1) s)) s)

  pub face-outside : 0 < left → hole_of ls ts x ≡ true → get_or ks (get_or ls x 0) 0 ≡ absent → 0 ≡ face_from ls ts ks left x
  face-outside l e q = sym (face-hole l e (eq-eqb s absent q))

  pub face_on : 0 < left → hole_of ls ts x ≡ true → (get_or ks (get_or ls x 0) 0 ≡ absent → ⊥) → face_from ls ts ks left x ≡ face_from ls ts ks (left - 1) (get_or ks (get_or ls x 0) 0)
  face_on l e q = face-hole l e (ne_eqb s absent q)

  pub face_none : left ≤ 0 → 0 ≡ face_from ls ts ks left x
  face_none l = let z : 0 ≡ left = omega arith in ap (λ (k : ℕ). face_from ls ts ks k x) z

-- the hole walks of face f among m half-edges with the faces of
abbrev pub holes_in : List ℕ → List ℕ → (ℕ → ℕ) → ℕ → ℕ → ℕ
holes_in ls ts of m f = count (λ h. hole_lead ls ts h && eqb (of h) f) m
