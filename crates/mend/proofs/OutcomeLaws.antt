-- What comes out, as the code finds it: rules 1 to 4 on the header, 5 and 7 on the tables, then the two rooms; and that the tables are ready. Assumes nothing.
use Rattle.std.specs.Prelude.{◌||◌, ◌∷◌, ◌+◌, ◌*◌, ◌-◌, ◌/◌}
use mathlib.Core.Path.{◌≡◌, sym, ◌∙◌, ap}
use Prim.Native.Nat.{◌≤◌, ◌<◌}
use native.Mathlib.Omega.{arith}
use borrow.Author.Tests.{ltb-false}
use lib.Seq.{get_or-take}
use Rattle.seq.specs.Seq.{Bool, true, false, cond, List, [], Option, none, some, ℕ, leb, ltb, length, get_or, ℤ, nat_abs, count, filled, padded}
use Rattle.seq.specs.Filled.{Holds, filled-holds, holds-ext}
use Rattle.seq.specs.Least.{least-ext}
use Rattle.paper.specs.Graph.{Graph, edge_count, point, edge, even, origin}
use Rattle.paper.specs.Limits.{reach}
use Rattle.paper.specs.Map.{map_of, doubled, vertex_count, edges_in, vertex_place, form_faults, too_far}
use Rattle.paper.specs.Mend.{into, shrunk, repeated, kept_edges, has_edge, no_vertex, entries, mended, mend_fault, mending_by, mend}
use Rattle.paper.specs.Plane.{Pt, same}
use Rattle.paper.specs.Refusal.{Refusal, given, first_of, done}
use Rattle.laws_graph.specs.Halves.{origin_first, origin-second}
use Rattle.laws_graph.specs.Reading.{points-count, edges-count}
use Rattle.laws_refusals.specs.Refusals.{nothing, given_none, first_none, first_some}
use Rattle.map_check.specs.Held.{MapRead}
use Rattle.map_check.specs.Parts.{far_at, lies_on, Corners}
use Rattle.map_check.proofs.PartsLaws.{corner-read, far-read, lies-read, at_place}
use Rattle.mend.specs.Answers.{all_zero}
use Rattle.mend.specs.Ready.{Ready}
use Rattle.mend.specs.Steps.{into_at, merged_in, now_in, shrunk_in, repeated_in, edge_step, step_is, has_in, vertex_step, no_vertex_at, table_faults, map_faults, file_faults}
use Rattle.mend.specs.Stored.{file_in, the_list_count, list_in, Counted}
use Rattle.mend.proofs.ByteLaws.{file_long}
use Rattle.mend.proofs.StepLaws.{edge-step-here, has_here}
use Rattle.mend.proofs.TableLaws.{can-mend, file_is, list_is, list_count, entries-many}

-- ── the file is refused ──

-- 11, places 4 and 5
abbrev pub rooms : ℕ → ℕ → ℕ → ℕ → List (Option Refusal)
rooms n l long many = given 11 4 (ltb n long) ∷ given 11 5 (ltb (l / 2) many) ∷ []

pub mend-unread : (n l : ℕ) (s : List ℕ) (x : Refusal) → first_of (file_faults s) ≡ some x → all_zero n l x ≡ mend n l s
mend-unread n l s x e =
    let m = map_of s in
    let f = first_some (file_faults s) (rooms n l (length (mended m)) (length (entries m.graph))) e in
    λ i. mending_by n l (mended m) (entries m.graph) (sym f i)

-- 1 to 4
pub mend_unformed : (n l : ℕ) (s : List ℕ) (x : Refusal) → first_of (form_faults s) ≡ some x → all_zero n l x ≡ mend n l s
mend_unformed n l s x e = mend-unread n l s x (first_some (form_faults s) (map_faults s) e)

-- 5 and 7 of the tables are those of the map
module _ {s : List ℕ} {ps : List ℤ} {os ls : List ℕ} (R : MapRead s ps os ls) where
  abbrev g : Graph
  g = (map_of s).graph

  ends_read : (k : ℕ) → k < edges_in s → no_vertex_at os (vertex_count s) k ≡ no_vertex (map_of s).graph k
  ends_read k l =
      let n = points-count s in
      let a = R.origin_is (2 * k) (omega arith) ∙ origin_first k g in
      let b = R.origin_is (2 * k + 1) (omega arith) ∙ origin-second k g in
      λ i. leb (sym n i) (a i) || leb (sym n i) (b i)

  pub faults-read : table_faults ps os (vertex_count s) (edges_in s) ≡ map_faults s
  faults-read =
      let five = at_place R 5 (vertex_count s) (length g.points) (far_at ps) (too_far g) (far-read R) (points-count s) in
      let seven = at_place R 7 (edges_in s) (edge_count g) (no_vertex_at os (vertex_count s)) (no_vertex g) ends_read (edges-count s) in
      λ i. five i ∷ seven i ∷ []

  -- as the code finds them, of a file that passes rules 1 to 4
  pub faults-found : (n e : ℕ) → n ≡ vertex_count s → e ≡ edges_in s → first_of (form_faults s) ≡ none → first_of (table_faults ps os n e) ≡ first_of (file_faults s)
  faults-found n e ne ee form = (λ i. first_of (table_faults ps os (ne i) (ee i))) ∙ ap first_of faults-read ∙ sym (first_none (form_faults s) (map_faults s) form)

  -- ── the tables are ready ──

  into-read : (v : ℕ) → v < vertex_count s → into_at ps v ≡ into (map_of s).graph v
  into-read v l = least-ext (lies_on ps v) (λ u. same (point g v) (point g u)) v (λ u m. lies-read R v u l (omega arith))

  module _ (good : first_of (file_faults s) ≡ none) where
    near : (v : ℕ) → v < vertex_count s → (nat_abs (point (map_of s).graph v).X ≤ reach) × (nat_abs (point (map_of s).graph v).Y ≤ reach)
    near v l = let M = can-mend s good in (M.x_near v (omega (arith, points-count s)), M.y_near v (omega (arith, points-count s)))

    pub corners-near : Corners ps (vertex_count s)
    corners-near = record {
      long = R.points_long;
      near = λ v l. record {
        x_is = omega (arith, ap (λ (p : Pt). nat_abs p.X) (R.point_is v l), (near v l).0);
        y_is = omega (arith, ap (λ (p : Pt). nat_abs p.Y) (R.point_is v l), (near v l).1);
      };
    }

    origin_below : (h : ℕ) → h < 2 * edges_in s → origin (map_of s).graph h < vertex_count s
    origin_below h l = go (even h)
      where
        go : (c : Bool) → cond c (edge (map_of s).graph (h / 2)).from (edge (map_of s).graph (h / 2)).to < vertex_count s
        go true = omega (arith, (can-mend s good).from_below (h / 2) (omega (arith, edges-count s)), points-count s)
        go false = omega (arith, (can-mend s good).to_below (h / 2) (omega (arith, edges-count s)), points-count s)

    pub is_ready : (is di t dt es de vs ns dn : List ℕ) (v k n e : ℕ) → n ≡ vertex_count s → e ≡ edges_in s
        → is ≡ filled n (into_at ps) di → t ≡ filled (2 * e) (now_in is os) dt → es ≡ filled e (λ j. edge_step (shrunk_in t j) (repeated_in t j)) de
        → Holds (λ u. vertex_step (has_in t es e u) (merged_in is u)) vs n → ns ≡ filled n (count (step_is vs 0)) dn → v ≡ count (step_is vs 0) n → k ≡ count (step_is es 0) e
        → n ≤ length di → 2 * e ≤ length dt → e ≤ length de → n ≤ length dn → Ready s ps ls t ns vs es v k
    is_ready is di t dt es de vs ns dn v k n e ne ee ei et es-is vs-are en ve ke li lt le ln =
        let I = holds-ext (into_at ps) (into g) is (vertex_count s) into-read
        (filled-holds (into_at ps) is di (vertex_count s) (omega arith) (ei ∙ (λ i. filled (ne i) (into_at ps) di))) in
        let T = holds-ext (now_in is os) (λ h. into g (origin g h)) t (2 * edges_in s)
        (λ h l. ap (λ (u : ℕ). get_or is u 0) (R.origin_is h l) ∙ I.at (origin g h) (origin_below h l))
        (filled-holds (now_in is os) t dt (2 * edges_in s) (omega arith) (et ∙ (λ i. filled (2 * ee i) (now_in is os) dt))) in
        let C = can-mend s good in
        let E = holds-ext (λ j. edge_step (shrunk_in t j) (repeated_in t j)) (λ j. edge_step (shrunk g j) (repeated g j)) es (edges_in s) (edge-step-here s C t T)
        (filled-holds (λ j. edge_step (shrunk_in t j) (repeated_in t j)) es de (edges_in s) (omega arith) (es-is ∙ (λ i. filled (ee i) (λ j. edge_step (shrunk_in t j) (repeated_in t j)) de))) in
        let W = holds-ext (λ u. vertex_step (has_in t es (edges_in s) u) (merged_in is u)) (λ u. vertex_step (has_edge g (kept_edges g) u) (doubled g u)) vs (vertex_count s)
        (λ u l i. vertex_step (has_here s C t T es E u i) (ltb (I.at u l i) u)) (coe 0 1 (i. Holds (λ u. vertex_step (has_in t es (ee i) u) (merged_in is u)) vs (ne i)) vs-are) in
        record {
          good = good;
          corners = corners-near;
          corner_is = corner-read R;
          labels = record { long = R.labels_long; at = λ h l. sym (get_or-take (2 * edges_in s) ls h 0 l) ∙ ap (λ (xs : List ℕ). get_or xs h 0) R.labels-are };
          ends = T;
          edge-steps = E;
          vertex-steps = W;
          numbers = filled-holds (count (step_is vs 0)) ns dn (vertex_count s) (omega arith) (en ∙ (λ i. filled (ne i) (count (step_is vs 0)) dn));
          counted = record { vertices_long = W.long; edges_long = E.long; vertices = ve ∙ (λ i. count (step_is vs 0) (ne i)); edges = ke ∙ (λ i. count (step_is es 0) (ee i)) };
        }

-- ── room ──

pub room_both : (n l long many : ℕ) → first_of (rooms n l long many) ≡ none → (long ≤ n) × (many ≤ l / 2)
room_both n l long many e =
    let q = nothing (rooms n l long many) e in
    (ltb-false n long (given_none 11 4 (ltb n long) q.0), ltb-false (l / 2) many (given_none 11 5 (ltb (l / 2) many) q.1.0))

-- of a file with n vertices and e edges, into x bytes and l numbers
module _ (s : List ℕ) (ps : List ℤ) (ls t ns vs es : List ℕ) (v k : ℕ) (R : Ready s ps ls t ns vs es v k) (n e : ℕ) (ne : n ≡ vertex_count s) (ee : e ≡ edges_in s)
    (x l long many : ℕ) (le : long ≡ vertex_place v + 8 * k) (me : many ≡ (n - v) + (e - k)) where
  long_is : long ≡ length (mended (map_of s))
  long_is = le ∙ sym (file_long ps ls t ns vs es (vertex_count s) (edges_in s) v k R.counted) ∙ ap length (file_is s ps ls t ns vs es v k R)

  many_is : many ≡ length (entries (map_of s).graph)
  many_is = me ∙ (λ i. (ne i - v) + (ee i - k)) ∙ entries-many s ps ls t ns vs es v k R

  pub counted-here : Counted vs es n e v k
  counted-here = coe 0 1 (i. Counted vs es (sym ne i) (sym ee i) v k) R.counted

  pub corners-here : Corners ps n
  corners-here = coe 0 1 (i. Corners ps (sym ne i)) R.corners

  pub list_room : many ≤ l / 2 → 2 * the_list_count vs es n e ≤ l
  list_room h =
      let a : the_list_count vs es n e ≡ many = (λ i. the_list_count vs es (ne i) (ee i)) ∙ list_count s ps ls t ns vs es v k R ∙ sym many_is in
      omega (arith, a, h)

  fault_is : mend_fault x l s (length (mended (map_of s))) (length (entries (map_of s).graph)) ≡ first_of (rooms x l long many)
  fault_is =
      first_none (file_faults s) (rooms x l (length (mended (map_of s))) (length (entries (map_of s).graph))) R.good
      ∙ (λ i. first_of (rooms x l (sym long_is i) (sym many_is i)))

  pub mend-refused : (r : Refusal) → first_of (rooms x l long many) ≡ some r → all_zero x l r ≡ mend x l s
  mend-refused r q = λ i. mending_by x l (mended (map_of s)) (entries (map_of s).graph) (sym (fault_is ∙ q) i)

  pub mend-done : first_of (rooms x l long many) ≡ none → record { answer = done (long, many); file = padded 0 x (file_in ps ls t ns vs es n e); list = padded 0 l (list_in vs es n e) } ≡ mend x l s
  mend-done q =
      let f = (λ i. file_in ps ls t ns vs es (ne i) (ee i)) ∙ file_is s ps ls t ns vs es v k R in
      let b = (λ i. list_in vs es (ne i) (ee i)) ∙ list_is s ps ls t ns vs es v k R in
      (λ i. record { answer = done (long_is i, many_is i); file = padded 0 x (f i); list = padded 0 l (b i) })
      ∙ (λ i. mending_by x l (mended (map_of s)) (entries (map_of s).graph) (sym (fault_is ∙ q) i))
