-- What the tables of faces are of a plane graph: hole walks and outer walks, the numbers of the outer walks, what hole walks see, and so the face of every half-edge
-- and the hole walks of every face, are the definition's. Assumes nothing.
use Rattle.std.specs.Prelude.{◌≡◌, refl, ◌≤◌, ◌<◌, ◌&&◌, ◌+◌, ◌*◌}
use Rattle.std.proofs.Common.{sym, ◌∙◌, ap, subst, add-one, arith, eq-eqb, ne_eqb}
use Rattle.seq.specs.Seq.{Bool, true, false, cond, not, List, Option, none, some, Option·getD, ℕ, zero, suc, eqb, length, get_or, count, select, table, over, filled, or_zero, ℤ}
use Rattle.seq.specs.Count.{count-ext}
use Rattle.seq.specs.Select.{select-ext, length-select}
use Rattle.seq.specs.Table.{table_at}
use Rattle.seq.specs.Filled.{filled-ext, Holds}
use Rattle.paper.specs.Limits.{absent}
use Rattle.paper.specs.Plane.{Pt, nowhere}
use Rattle.paper.specs.Graph.{Graph, the_half_count, point, followers, smallest, west, hole_look}
use Rattle.paper.specs.Faces.{walks_of, lead_at, hole_at, leads_hole, leads_outer, face_in, holes_of}
use Rattle.laws_graph.specs.Plane.{Plane}
use Rattle.laws_graph.specs.West.{look_below}
use Rattle.laws_graph.specs.Walks.{lead-along, lead_below, lead-lead}
use Rattle.laws_graph.specs.Holes.{smallest_same, hole_at_same}
use Rattle.laws_graph.specs.Faces.{face_below}
use Rattle.graph.specs.Flat.{the_point_at, origin_at, start_at, flat_graph, Flat, Numbers}
use Rattle.graph.specs.Laws.Decode.{flat-points, flat-halves, flat_start}
use Rattle.graph_faces.specs.Walked.{top_of, top_below, top-origin, top-hole}
use Rattle.graph_faces.specs.Linked.{faces_of}
use Rattle.graph_faces.specs.Kinds.{Kinded, Faced, Known, hole_of, outer_lead, hole_lead, outer_number, seen_from, known_by, face_from, holes_in}

module _ (ps : List ℤ) (os : List ℕ) (cs : List ℤ) (n e : ℕ) (F : Flat ps os cs n e) (P : Plane (flat_graph ps os cs n e)) (small : 2 * e ≤ absent) where
  abbrev g : Graph
  g = flat_graph ps os cs n e

  halves : the_half_count g ≡ 2 * e
  halves = flat-halves ps os cs n e

  -- ── hole walks and outer walks ──

  module _ (ls ts : List ℕ) (L : Holds (lead_at (walks_of g)) ls (2 * e)) (T : Holds (top_of g) ts (2 * e)) where
    pub tops-numbers : Numbers ts (2 * e) (2 * e)
    tops-numbers = record { long = T.long; named = λ h l. omega (arith, halves, T.at h l, top_below g P h (omega (arith, halves))) }

    pub kinds : (h : ℕ) → h < 2 * e → Kinded ls ts h
    kinds h l = record { lead-row = omega (arith, L.long); top-row = omega (arith, T.long); top-lead = omega (arith, tops-numbers.named h l, L.long) }

    pub hole_of_lem : (h : ℕ) → h < 2 * e → hole_of ls ts h ≡ hole_at (walks_of g) h
    hole_of_lem h l =
        let k : h < the_half_count g = omega (arith, halves) in
        let t : top_of g h < 2 * e = omega (arith, halves, top_below g P h k) in
        (λ i. eqb ((ap (λ (x : ℕ). get_or ls x 0) (T.at h l) ∙ L.at (top_of g h) t) i) (L.at h l i)) ∙ top-hole g P h k

    pub outer-lead : (h : ℕ) → h < 2 * e → outer_lead ls ts h ≡ leads_outer (walks_of g) h
    outer-lead h l = λ i. eqb (L.at h l i) h && not (hole_of_lem h l i)

    pub hole-lead : (h : ℕ) → h < 2 * e → hole_lead ls ts h ≡ leads_hole (walks_of g) h
    hole-lead h l = λ i. eqb (L.at h l i) h && hole_of_lem h l i

    pub outer-count : (h : ℕ) → h ≤ 2 * e → count (outer_lead ls ts) h ≡ count (leads_outer (walks_of g)) h
    outer-count h l = count-ext (outer_lead ls ts) (leads_outer (walks_of g)) h (λ k b. outer-lead k (omega arith))

    pub outer-select : select (outer_lead ls ts) (2 * e) ≡ select (leads_outer (walks_of g)) (the_half_count g)
    outer-select = select-ext (outer_lead ls ts) (leads_outer (walks_of g)) (2 * e) outer-lead ∙ ap (select (leads_outer (walks_of g))) (sym halves)

    pub count-flat : (c : ℕ) → c ≡ count (outer_lead ls ts) (2 * e) → c ≡ length (faces_of g).outers
    count-flat c q = q ∙ outer-count (2 * e) (omega arith) ∙ ap (count (leads_outer (walks_of g))) (sym halves) ∙ sym (length-select (leads_outer (walks_of g)) (the_half_count g))

    pub outers-flat : (d t : List ℕ) → t ≡ over (select (outer_lead ls ts) (2 * e)) d → t ≡ over (faces_of g).outers d
    outers-flat d t is = is ∙ ap (λ (l : List ℕ). over l d) outer-select

    -- ── what is known of each walk ──

    module _ (ks : List ℕ) (K : Known (known_by ps os cs n e ls ts) ls ks (2 * e)) where
      module _ (h : ℕ) (l : h < 2 * e) where
        abbrev lead : ℕ
        lead = lead_at (walks_of g) h

        under : h < the_half_count g
        under = omega (arith, halves)

        lead_under : lead < 2 * e
        lead_under = omega (arith, halves, lead_below g P h under)

        -- it is read at the least half-edge
        known_of : {o : Bool} → hole_at (walks_of g) h ≡ o → get_or ks (get_or ls h 0) 0 ≡ cond o (seen_from ps os cs n e (origin_at os (get_or ts lead 0))) (outer_number ls ts lead)
        known_of q =
            ap (λ (x : ℕ). get_or ks x 0) (L.at h l) ∙ K.at lead lead_under (L.at lead lead_under ∙ lead-lead g P h under)
            ∙ ap (λ (c : Bool). cond c (seen_from ps os cs n e (origin_at os (get_or ts lead 0))) (outer_number ls ts lead)) (hole_of_lem lead lead_under ∙ hole_at_same g P h lead under (lead-along g P h under) ∙ q)

        -- the number of an outer walk
        pub number_of : hole_at (walks_of g) h ≡ false → get_or ks (get_or ls h 0) 0 ≡ suc (count (leads_outer (walks_of g)) (lead_at (walks_of g) h))
        number_of o = known_of o ∙ ap suc (outer-count lead (omega (arith, lead_under)))

        from : the_point_at ps (origin_at os (get_or ts lead 0)) ≡ point g (smallest g (followers g) h)
        from =
            let k : lead < the_half_count g = omega (arith, halves, lead_under) in
            let t : top_of g lead < 2 * e = omega (arith, halves, top_below g P lead k) in
            ap (start_at ps os) (T.at lead lead_under) ∙ sym (flat_start ps os cs n e F.origins (top_of g lead) t)
            ∙ ap (point g) (top-origin g P lead k ∙ smallest_same g P h lead under (lead-along g P h under))

        -- what a hole walk sees
        pub seen_of : hole_at (walks_of g) h ≡ true → get_or ks (get_or ls h 0) 0 ≡ Option·getD (hole_look g (followers g) h) absent
        seen_of o = known_of o ∙ ap (λ (p : Pt). Option·getD (west g p nowhere) absent) from

      seen_under : (h y : ℕ) → hole_look g (followers g) h ≡ some y → y < 2 * e
      seen_under h y q = omega (arith, halves, look_below g (point g (smallest g (followers g) h)) nowhere y q)

      -- what is not absent is a half-edge
      half_by : (o : Option ℕ) → ((y : ℕ) → o ≡ some y → y < 2 * e) → (Option·getD o absent ≡ absent → ⊥) → Option·getD o absent < 2 * e
      half_by none b f = absurd (f refl)
      half_by (some y) b f = b y refl

      seen-half : (h : ℕ) → h < 2 * e → hole_of ls ts h ≡ true → (get_or ks (get_or ls h 0) 0 ≡ absent → ⊥) → get_or ks (get_or ls h 0) 0 < 2 * e
      seen-half h l q f =
          let s = seen_of h l (sym (hole_of_lem h l) ∙ q) in
          subst (λ (x : ℕ). x < 2 * e) (sym s) (half_by (hole_look g (followers g) h) (seen_under h) (λ z. f (s ∙ z)))

      pub faced : Numbers ls (2 * e) (2 * e) → Faced ls ts ks (2 * e)
      faced A = record { lead = A; top = tops-numbers; long = K.long; seen = seen-half }

      -- ── faces ──

      on : (k : ℕ) (o : Option ℕ) → ((y : ℕ) → o ≡ some y → face_from ls ts ks k y ≡ face_in (walks_of g) k y) → ((y : ℕ) → o ≡ some y → y < 2 * e)
          → cond (eqb (Option·getD o absent) absent) 0 (face_from ls ts ks k (Option·getD o absent)) ≡ or_zero (face_in (walks_of g) k) o
      on k none ih b = ap (λ (c : Bool). cond c 0 (face_from ls ts ks k absent)) (eq-eqb absent absent refl)
      on k (some y) ih b =
          ap (λ (c : Bool). cond c 0 (face_from ls ts ks k y)) (ne_eqb y absent (λ q. omega (arith, b y refl, small))) ∙ ih y refl

      -- one look, by the kind of h's walk
      face_by_lem : (k h : ℕ) → h < 2 * e → ((y : ℕ) → y < 2 * e → face_from ls ts ks k y ≡ face_in (walks_of g) k y) → (c : Bool) → hole_at (walks_of g) h ≡ c
          → cond (hole_of ls ts h) (cond (eqb (get_or ks (get_or ls h 0) 0) absent) 0 (face_from ls ts ks k (get_or ks (get_or ls h 0) 0))) (get_or ks (get_or ls h 0) 0)
          ≡ cond c (or_zero (face_in (walks_of g) k) (hole_look g (followers g) h)) (suc (count (leads_outer (walks_of g)) (lead_at (walks_of g) h)))
      face_by_lem k h l ih true o =
          ap (λ (c : Bool). cond c (cond (eqb (get_or ks (get_or ls h 0) 0) absent) 0 (face_from ls ts ks k (get_or ks (get_or ls h 0) 0))) (get_or ks (get_or ls h 0) 0)) (hole_of_lem h l ∙ o)
          ∙ ap (λ (x : ℕ). cond (eqb x absent) 0 (face_from ls ts ks k x)) (seen_of h l o)
          ∙ on k (hole_look g (followers g) h) (λ y q. ih y (seen_under h y q)) (seen_under h)
      face_by_lem k h l ih false o =
          ap (λ (c : Bool). cond c (cond (eqb (get_or ks (get_or ls h 0) 0) absent) 0 (face_from ls ts ks k (get_or ks (get_or ls h 0) 0))) (get_or ks (get_or ls h 0) 0)) (hole_of_lem h l ∙ o)
          ∙ number_of h l o

      -- the same looks, one by one
      pub face_from_lem : (k h : ℕ) → h < 2 * e → face_from ls ts ks k h ≡ face_in (walks_of g) k h
      face_from_lem zero h l = refl
      face_from_lem (suc k) h l = face_by_lem k h l (λ y b. face_from_lem k y b) (hole_at (walks_of g) h) refl

      -- with as many looks as there are vertices
      pub face-flat : (h : ℕ) → h < 2 * e → face_from ls ts ks n h ≡ face_in (walks_of g) (length g.points) h
      face-flat h l = face_from_lem n h l ∙ ap (λ (k : ℕ). face_in (walks_of g) k h) (sym (flat-points ps os cs n e))

      pub face-filled : (d t : List ℕ) → t ≡ filled (2 * e) (face_from ls ts ks n) d → t ≡ filled (2 * e) (face_in (walks_of g) (length g.points)) d
      face-filled d t is = is ∙ filled-ext (face_from ls ts ks n) (face_in (walks_of g) (length g.points)) (2 * e) d face-flat

      -- each is one of the faces
      pub face_under : (h : ℕ) → h < 2 * e → face_from ls ts ks n h < suc (count (outer_lead ls ts) (2 * e))
      face_under h l =
          omega (arith, face-flat h l, face_below g P h (omega (arith, halves)), length-select (leads_outer (walks_of g)) (the_half_count g), outer-count (2 * e) (omega arith), ap (count (leads_outer (walks_of g))) halves)

      -- ── the hole walks of a face ──

      holes-flat : (f : ℕ) → holes_in ls ts (face_from ls ts ks n) (2 * e) f ≡ holes_of (faces_of g) f
      holes-flat f =
          count-ext (λ h. hole_lead ls ts h && eqb (face_from ls ts ks n h) f) (λ h. leads_hole (walks_of g) h && eqb (get_or (table (face_in (walks_of g) (length g.points)) (the_half_count g)) h 0) f) (2 * e)
          (λ h l. λ i. hole-lead h l i && eqb ((face-flat h l ∙ sym (table_at (face_in (walks_of g) (length g.points)) (the_half_count g) h 0 (omega (arith, halves)))) i) f)
          ∙ ap (count (λ h. leads_hole (walks_of g) h && eqb (get_or (table (face_in (walks_of g) (length g.points)) (the_half_count g)) h 0) f)) (sym halves)

      pub holes-filled : (c : ℕ) (d t : List ℕ) → t ≡ filled (c + 1) (holes_in ls ts (face_from ls ts ks n) (2 * e)) d → t ≡ over (table (holes_of (faces_of g)) (suc c)) d
      holes-filled c d t is =
          is ∙ filled-ext (holes_in ls ts (face_from ls ts ks n) (2 * e)) (holes_of (faces_of g)) (c + 1) d (λ f l. holes-flat f) ∙ ap (λ (j : ℕ). filled j (holes_of (faces_of g)) d) (add-one c)
