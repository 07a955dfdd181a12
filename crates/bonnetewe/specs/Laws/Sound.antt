-- Every answer that check, overlay, read and write can give is sound: a refusal's number is not 0, and it, its map, its place, its other edge and all counts have 16 bits, whatever the bytes,
-- the lengths and the counts are. So one number that a C function answers is one answer, and nothing is asked (`check-means`, `overlay-means`, `read-means`, `write-means`). Assumes nothing.
use Rattle.std.specs.Prelude.{◌≡◌, refl, ◌<◌, ◌≤◌, ◌||◌, ◌∷◌, ◌++◌}
use Rattle.std.proofs.Common.{sym, ◌∙◌, arith, ltb-false}
use Rattle.seq.specs.Seq.{Bool, true, false, not, List, [], Option, none, some, ℕ, ltb, eqb, length, least, the_some_below}
use Rattle.seq.specs.Tests.{or_false}
use Rattle.seq.specs.Terms.{Every}
use Rattle.seq.proofs.Least.{least-le}
use Rattle.paper.specs.Limits.{maps, map_vertices, map_edges, map_head, overlay_head}
use Rattle.paper.specs.Bytes.{ascii, marked, u16}
use Rattle.paper.specs.Graph.{Graph, edge_count, the_half_count, followers}
use Rattle.paper.specs.Refusal.{Refusal, beside, given, first_at, first_of, the_of_map, answer}
use Rattle.paper.specs.Map.{Map, map_of, map_length, vertex_count, edges_in, form_faults, too_far, doubled, bad_ends, part_faults, clashes, clashing, clash_place, clash_other, lonely, disagrees, net_faults, fault, check}
use Rattle.paper.specs.Faces.{overlay_of}
use Rattle.paper.specs.Tables.{Counts, Tables, counts_of}
use Rattle.paper.specs.Lent.{Lengths, lengths_of, room_in, room_faults}
use Rattle.paper.specs.Overlay.{map_faults, overlay}
use Rattle.paper.specs.Ovfile.{Layout, layouts, layout_of, file_length, sound_edge, over}
use Rattle.paper.specs.Reader.{counts_in, head_faults, numbers, tables_in, read}
use Rattle.paper.specs.Writer.{bad_vertex, bad_edge, write_fault, write}
use Rattle.laws_refusals.specs.Refusals.{Nothing, nothing, given_none}
use Rattle.laws_refusals.specs.Room.{Fits, not_over, room_none}
use Rattle.laws_graph.specs.Reading.{points-count, edges-count}
use Rattle.bonnetewe.specs.Told.{told_map, Told, ToldFile}
use Rattle.bonnetewe.specs.Laws.Means.{Sound, CountsFit, PairFits, told-means, told-map-means, told-length-means}

-- ── refusals that fit ──

-- a refusal has a number, and all of it has 16 bits
abbrev pub FitBy : Option Refusal → Type 0
FitBy none = Unit {0}
FitBy (some r) = (0 < r.number) × (r.number < 65536) × (r.map < 65536) × (r.place < 65536) × (r.other < 65536)

-- nothing is refused, or such a refusal is given
pub record Fit (f : Option Refusal) : Type 0 where
  pub by : FitBy f

beside_fits : (r k j : ℕ) (b : Bool) → 0 < r → r < 65536 → k < 65536 → j < 65536 → Fit (beside r k j b)
beside_fits r k j true p q l h = record { by = (p, q, omega arith, l, h) }
beside_fits r k j false p q l h = record { by = tt }

pub given_fits : (r k : ℕ) (b : Bool) → 0 < r → r < 65536 → k < 65536 → Fit (given r k b)
given_fits r k b p q l = beside_fits r k 0 b p q l (omega arith)

-- a place below a bound that fits
pub at_fits : (r : ℕ) (p : ℕ → Bool) (n : ℕ) → 0 < r → r < 65536 → n < 65536 → Fit (first_at r p n)
at_fits r p n z q l = given_fits r (least p n) (ltb (least p n) n) z q (omega (arith, least-le p n, l))

first_fits : (rs : List (Option Refusal)) → Every Fit rs → Fit (first_of rs)
first_fits [] h = record { by = tt }
first_fits (none ∷ rs) h = first_fits rs h.1
first_fits (some r ∷ rs) h = h.0

-- what comes behind rules is looked at only where none of them is broken
pub then_fits : (xs ys : List (Option Refusal)) → Every Fit xs → (Nothing xs → Every Fit ys) → Fit (first_of (xs ++ ys))
then_fits [] ys h g = first_fits ys (g tt)
then_fits (none ∷ xs) ys h g = then_fits xs ys h.1 (λ n. g (refl, n))
then_fits (some r ∷ xs) ys h g = h.0

pub of_fits : (m : ℕ) (r : Option Refusal) → m < 65536 → Fit r → Fit (the_of_map m r)
of_fits m none l h = record { by = tt }
of_fits m (some r) l h = let (z, n, _, k, j) = h.by in record { by = (z, n, l, k, j) }

pub sound_by : {A : Type 0} (P : A → Type 0) (a : A) (f : Option Refusal) → Fit f → (f ≡ none → P a) → Sound P (answer a f)
sound_by P a none h g = g refl
sound_by P a (some r) h g = h.by

-- the last part of rules that are all kept is kept
behind : (xs ys : List (Option Refusal)) → Nothing (xs ++ ys) → Nothing ys
behind [] ys n = n
behind (x ∷ xs) ys n = behind xs ys n.1

front : (xs ys : List (Option Refusal)) → Nothing (xs ++ ys) → Nothing xs
front [] ys n = tt
front (x ∷ xs) ys n = (n.0, front xs ys n.1)

-- a rule of a number from 1 to 21, with a place of at most 4
pub rule_fits : (r k : ℕ) (b : Bool) → 0 < r → r ≤ 21 → k ≤ 4 → Fit (given r k b)
rule_fits r k b z q l = given_fits r k b z (omega (arith, q)) (omega (arith, l))

-- the same of the first of at most 4,000 places
pub place_fits : (r : ℕ) (p : ℕ → Bool) (n : ℕ) → 0 < r → r ≤ 21 → n ≤ 4000 → Fit (first_at r p n)
place_fits r p n z q l = at_fits r p n z (omega (arith, q)) (omega (arith, l))

-- ── one map ──

module _ (s : List ℕ) where
  abbrev map_in : Map
  map_in = map_of s

  abbrev many : Bool
  many = ltb map_vertices (vertex_count s) || ltb map_edges (edges_in s)

  -- "V ≤ 200, E ≤ 300" where no rule of the form is broken
  pub small : Nothing (form_faults s) → (vertex_count s ≤ map_vertices) × (edges_in s ≤ map_edges)
  small n =
      let o = or_false (ltb map_vertices (vertex_count s)) (ltb map_edges (edges_in s)) (given_none 3 0 many n.1.1.0) in
      (ltb-false map_vertices (vertex_count s) o.0, ltb-false map_edges (edges_in s) o.1)

  pub form_fits : Every Fit (form_faults s)
  form_fits = (
    rule_fits 1 0 (ltb (length s) map_head || not (marked (ascii "ZMP") s 0)) (omega arith) (omega arith) (omega arith),
    (
      rule_fits 2 0 (not (eqb (u16 s 3) 1)) (omega arith) (omega arith) (omega arith),
      (
        rule_fits 3 0 many (omega arith) (omega arith) (omega arith),
        (rule_fits 4 0 (not (eqb (length s) (map_length s))) (omega arith) (omega arith) (omega arith), tt),
      ),
    ),
  )

  rest_fits : Nothing (form_faults s) → Every Fit (part_faults map_in.graph ++ net_faults map_in)
  rest_fits n =
      let g = map_in.graph in
      let v : length g.points ≤ 4000 = omega (arith, points-count s, (small n).0) in
      let e : edge_count g ≤ 2000 = omega (arith, edges-count s, (small n).1) in (
        place_fits 5 (too_far g) (length g.points) (omega arith) (omega arith) v,
        (
          place_fits 6 (doubled g) (length g.points) (omega arith) (omega arith) v,
          (
            place_fits 7 (bad_ends g) (edge_count g) (omega arith) (omega arith) (omega (arith, e)),
            (
              beside_fits 8 (clash_place g) (clash_other g) (the_some_below (clashing g) (edge_count g)) (omega arith) (omega arith)
                  (omega (arith, e, least-le (clashing g) (edge_count g))) (omega (arith, e, least-le (clashes g (clash_place g)) (edge_count g))),
              (
                place_fits 9 (lonely g) (length g.points) (omega arith) (omega arith) v,
                (place_fits 10 (disagrees map_in (followers g)) (the_half_count g) (omega arith) (omega arith) (omega (arith, e)), tt),
              ),
            ),
          ),
        ),
      )

  pub fault_fits : Fit (fault s)
  unfolding fault
  fault_fits = then_fits (form_faults s) (part_faults map_in.graph ++ net_faults map_in) form_fits rest_fits

  counts-small : fault s ≡ none → PairFits (vertex_count s, edges_in s)
  unfolding fault
  counts-small e =
      let rest = part_faults map_in.graph ++ net_faults map_in in
      let l = small (front (form_faults s) rest (nothing (form_faults s ++ rest) e)) in
      (omega (arith, l.0), omega (arith, l.1))

  pub check_sound : Sound PairFits (check s)
  check_sound = sound_by PairFits (vertex_count s, edges_in s) (fault s) fault_fits counts-small

-- ── the lent tables ──

room_fits : (room c : Counts) → Every Fit (room_faults room c)
room_fits room c = (
  rule_fits 11 1 (ltb room.vertices c.vertices) (omega arith) (omega arith) (omega arith),
  (
    rule_fits 11 2 (ltb room.edges c.edges) (omega arith) (omega arith) (omega arith),
    (rule_fits 11 3 (ltb room.faces c.faces) (omega arith) (omega arith) (omega arith), tt),
  ),
)

fits_small : (l : Lengths) (c : Counts) → Fits (room_in maps l) c → CountsFit c
fits_small l c F = (omega (arith, F.vertices), omega (arith, F.edges), omega (arith, F.faces))

module _ (l : Lengths) (a b c : List ℕ) where
  abbrev counted : Counts
  counted = counts_of (overlay_of (map_of a ∷ map_of b ∷ map_of c ∷ []))

  abbrev of_maps : List (Option Refusal)
  of_maps = map_faults (a ∷ b ∷ c ∷ [])

  -- of the maps, then of room
  pub laid_fits : Fit (first_of (map_faults (a ∷ b ∷ c ∷ []) ++ room_faults (room_in maps l) (counts_of (overlay_of (map_of a ∷ map_of b ∷ map_of c ∷ [])))))
  laid_fits =
      then_fits of_maps (room_faults (room_in maps l) counted) (of_fits 1 (fault a) (omega arith) (fault_fits a), (of_fits 2 (fault b) (omega arith) (fault_fits b), (of_fits 3 (fault c) (omega arith) (fault_fits c), tt)))
      (λ n. room_fits (room_in maps l) counted)

  pub overlay-sound : Sound CountsFit (overlay l a b c).answer
  overlay-sound =
      let room = room_in maps l in
      let rs = of_maps ++ room_faults room counted in
      sound_by CountsFit counted (first_of rs)
      laid_fits
      (λ e. fits_small l counted (room_none room counted (behind of_maps (room_faults room counted) (nothing rs e))))

module _ (l : Lengths) (s : List ℕ) where
  abbrev lay : Layout
  lay = layout_of layouts (u16 s 3)

  abbrev heads : List (Option Refusal)
  heads = head_faults (length layouts) lay s

  abbrev unsound : ℕ → Bool
  unsound k = not (sound_edge maps (counts_in s) (tables_in maps lay s) k)

  head_fits : Every Fit heads
  head_fits = (
    rule_fits 1 0 (ltb (length s) overlay_head || not (marked (ascii "ZOV") s 0)) (omega arith) (omega arith) (omega arith),
    (
      rule_fits 2 0 (eqb (u16 s 3) 0 || ltb (length layouts) (u16 s 3)) (omega arith) (omega arith) (omega arith),
      (
        rule_fits 3 0 (over numbers (counts_in s)) (omega arith) (omega arith) (omega arith),
        (rule_fits 4 0 (not (eqb (length s) (file_length lay (counts_in s)))) (omega arith) (omega arith) (omega arith), tt),
      ),
    ),
  )

  -- no count is over its number where no rule of the head is broken
  numbered : Nothing heads → (counts_in s).edges ≤ 4000
  numbered n = omega (arith, (not_over numbers (counts_in s) (given_none 3 0 (over numbers (counts_in s)) n.1.1.0)).edges)

  pub read-sound : Sound CountsFit (read l s).answer
  read-sound =
      let room = room_in maps l in
      let c = counts_in s in
      let rest = first_at 21 unsound c.edges ∷ room_faults room c in
      sound_by CountsFit c (first_of (heads ++ rest))
      (then_fits heads rest head_fits (λ n. (place_fits 21 unsound c.edges (omega arith) (omega arith) (numbered n), room_fits room c)))
      (λ e. fits_small l c (room_none room c (behind heads rest (nothing (heads ++ rest) e)).1))

-- ── the file ──

module _ (n : ℕ) (c : Counts) (t : Tables) where
  abbrev newest : Layout
  newest = layout_of layouts (length layouts)

  abbrev room_of : Counts
  room_of = room_in maps (lengths_of t)

  pub write-sound : Sound (λ (m : ℕ). Unit {0}) (write n c t).answer
  write-sound =
      let big = over room_of c in
      let full = ltb n (file_length newest c) in
      let rest = first_at 5 (bad_vertex newest c t) c.vertices ∷ first_at 21 (bad_edge maps c t) c.edges ∷ given 11 4 full ∷ [] in
      let within : Nothing (given 3 0 big ∷ []) → (c.vertices ≤ 4000) × (c.edges ≤ 4000) =
      λ h. let F = not_over room_of c (given_none 3 0 big h.0) in (omega (arith, F.vertices), omega (arith, F.edges)) in
      sound_by (λ (m : ℕ). Unit {0}) (file_length newest c) (write_fault newest n (lengths_of t) c t)
      (then_fits (given 3 0 big ∷ []) rest (rule_fits 3 0 big (omega arith) (omega arith) (omega arith), tt)
      (λ h. (
        place_fits 5 (bad_vertex newest c t) c.vertices (omega arith) (omega arith) (within h).0,
        (place_fits 21 (bad_edge maps c t) c.edges (omega arith) (omega arith) (within h).1, (rule_fits 11 4 full (omega arith) (omega arith) (omega arith), tt)),
      )))
      (λ e. tt)

-- ── one number, one answer ──

-- of bonnetewe_check: whatever the two files are
pub check-means : (s z : List ℕ) {r : ℕ} → r ≡ told_map (check s) → r ≡ told_map (check z) → check s ≡ check z
check-means s z e f = told-map-means (check s) (check z) (check_sound s) (check_sound z) (sym e ∙ f)

-- of bonnetewe_overlay: whatever the files, the lent tables' lengths and what is in them
pub overlay-means : (l k : Lengths) (a b c x y z : List ℕ) {t u : Tables} {r : ℕ} → Told (overlay l a b c) t r → Told (overlay k x y z) u r → (overlay l a b c).answer ≡ (overlay k x y z).answer
overlay-means l k a b c x y z p q = told-means _ _ (overlay-sound l a b c) (overlay-sound k x y z) (sym p.answer ∙ q.answer)

-- of bonnetewe_read
pub read-means : (l k : Lengths) (s z : List ℕ) {t u : Tables} {r : ℕ} → Told (read l s) t r → Told (read k z) u r → (read l s).answer ≡ (read k z).answer
read-means l k s z p q = told-means _ _ (read-sound l s) (read-sound k z) (sym p.answer ∙ q.answer)

-- of bonnetewe_write: whatever the counts, the tables and the buffers are
pub write-means : (n m : ℕ) (c d : Counts) (t u : Tables) {x y : List ℕ} {r : ℕ} → ToldFile (write n c t) x r → ToldFile (write m d u) y r → (write n c t).answer ≡ (write m d u).answer
write-means n m c d t u p q = told-length-means _ _ (write-sound n c t) (write-sound m d u) (sym p.answer ∙ q.answer)
