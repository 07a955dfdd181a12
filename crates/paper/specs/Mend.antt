-- Mending digitised maps (02, Ask 9): the four steps, the list of what was done, the mended file, and all that comes out. Assumes nothing.
use Rattle.std.specs.Prelude.{◌&&◌, ◌||◌, ◌∷◌, ◌++◌, ◌+◌, ◌*◌, ◌/◌}
use Rattle.seq.specs.Seq.{Bool, not, List, [], map, Option, ℕ, leb, ltb, eqb, length, get_or, least, the_some_below, select, rows, position, is_in, gather, padded}
use Rattle.paper.specs.Plane.{Vec, vec, same}
use Rattle.paper.specs.Graph.{edge_count, point, edge, Graph}
use Rattle.paper.specs.Bytes.{ascii, le, le_signed}
use Rattle.paper.specs.Refusal.{given, first_at, first_of, answer, unless_refused, Refusal, Answer}
use Rattle.paper.specs.Map.{map_of, label, form_faults, too_far, doubled, Map}

-- ── the four steps; edges and vertices keep their original numbers ──

-- 1 "a vertex on another is merged into the one of lowest number": the lowest at the same point. Merged is what is `doubled`, by rule 6's test
abbrev pub into : Graph → ℕ → ℕ
into g v = least (λ u. same (point g v) (point g u)) v

-- the ends of edge k after step 1
abbrev pub from_now : Graph → ℕ → ℕ
from_now g k = into g (edge g k).from

abbrev pub to_now : Graph → ℕ → ℕ
to_now g k = into g (edge g k).to

-- 2 "an edge whose ends are now the same is dropped"
abbrev pub shrunk : Graph → ℕ → Bool
shrunk g k = eqb (from_now g k) (to_now g k)

-- 3 "an edge that joins the same two vertices as an earlier one is dropped, whichever way it runs"
abbrev pub alike : Graph → ℕ → ℕ → Bool
alike g k j =
    (eqb (from_now g k) (from_now g j) && eqb (to_now g k) (to_now g j))
    || (eqb (from_now g k) (to_now g j) && eqb (to_now g k) (from_now g j))

abbrev pub repeated : Graph → ℕ → Bool
repeated g k = not (shrunk g k) && the_some_below (alike g k) k

abbrev pub kept_edge : Graph → ℕ → Bool
kept_edge g k = not (shrunk g k || repeated g k)

abbrev pub kept_edges : Graph → List ℕ
kept_edges g = select (kept_edge g) (edge_count g)

-- 4 "a vertex without an edge is dropped": one of the edges ks ends at v. "A merged vertex is listed once only, as merged"
abbrev pub ends_at : Graph → ℕ → ℕ → Bool
ends_at g v k = eqb v (from_now g k) || eqb v (to_now g k)

abbrev pub has_edge : Graph → List ℕ → ℕ → Bool
has_edge g ks v = is_in (ends_at g) v ks

abbrev pub bare : Graph → List ℕ → ℕ → Bool
bare g ks v = not (doubled g v || has_edge g ks v)

-- "and the rest close up in order": the new number of a kept vertex is its place in this list
abbrev pub kept_vertices : Graph → List ℕ
kept_vertices g = let ks = kept_edges g in select (has_edge g ks) (length g.points)

-- ── the list: "Each list entry has the step and the original number; entries stand by step, then number" ──

abbrev pub listed : ℕ → List ℕ → List (ℕ × ℕ)
listed step = map (λ i. (step, i))

abbrev pub entries : Graph → List (ℕ × ℕ)
entries g = let ks = kept_edges g in
    listed 1 (select (doubled g) (length g.points))
    ++ listed 2 (select (shrunk g) (edge_count g))
    ++ listed 3 (select (repeated g) (edge_count g))
    ++ listed 4 (select (bare g ks) (length g.points))

-- ── the mended file ──

-- "x, y as signed 16-bit"
abbrev pub corner_bytes : Vec → List ℕ
corner_bytes a = le_signed 2 a.x ++ le_signed 2 a.y

-- a map file of v vertices at c 0, c 1, .. and e edges with the four numbers f 0, f 1, ..
unfoldable pub map_file : ℕ → ℕ → (ℕ → Vec) → (ℕ → List ℕ) → List ℕ
map_file v e c f =
    ascii "ZMP" ++ gather (le 2) (1 ∷ v ∷ e ∷ [])
    ++ rows (λ i. corner_bytes (c i)) v
    ++ rows (λ i. gather (le 2) (f i)) e

-- "No corner that stays moves and no kept label changes": vs are the kept vertices
abbrev pub corner_of : Graph → ℕ → Vec
corner_of g v = vec (point g v).X (point g v).Y

abbrev pub edge_row : Map → List ℕ → ℕ → List ℕ
edge_row m vs k = let g = m.graph in
    position (from_now g k) vs ∷ position (to_now g k) vs ∷ label m (2 * k) ∷ label m (2 * k + 1) ∷ []

abbrev pub mended : Map → List ℕ
mended m = let g = m.graph in let ks = kept_edges g in let vs = kept_vertices g in
    map_file (length vs) (length ks) (λ i. corner_of g (get_or vs i 0)) (λ i. edge_row m vs (get_or ks i 0))

-- ── refusals and what comes out ──

-- "7 only for an end that names no vertex"
abbrev pub no_vertex : Graph → ℕ → Bool
no_vertex g k = let n = length g.points in leb n (edge g k).from || leb n (edge g k).to

-- the numbers of one entry in the lent list
abbrev pub entry_width : ℕ
entry_width = 2

-- "1 to 5 as before, 7 .., and 11 with place 4 for a lent file too short, then place 5 for a list too short": a file of `long` bytes and a list of
-- `many` entries, into n bytes and l numbers
abbrev pub mend_fault : ℕ → ℕ → List ℕ → ℕ → ℕ → Option Refusal
mend_fault n l s long many = let g = (map_of s).graph in
    first_of (form_faults s ++ (
    first_at 5 (too_far g) (length g.points)
    ∷ first_at 7 (no_vertex g) (edge_count g)
    ∷ given 11 4 (ltb n long)
    ∷ given 11 5 (ltb (l / entry_width) many)
    ∷ []))

-- the file's length and the number of entries, the file and the list
pub record Mending : Type 0 where
  pub answer : Answer (ℕ × ℕ)
  pub file : List ℕ
  pub list : List ℕ

-- "with file and list left all zero" where it is refused; past the file and the list all is zero
abbrev pub mending_by : ℕ → ℕ → List ℕ → List (ℕ × ℕ) → Option Refusal → Mending
mending_by n l file es r = record {
  answer = answer (length file, length es) r;
  file = unless_refused (padded 0 n file) (padded 0 n []) r;
  list = unless_refused (padded 0 l (gather (λ e. e.0 ∷ e.1 ∷ []) es)) (padded 0 l []) r;
}

abbrev pub mend : ℕ → ℕ → List ℕ → Mending
mend n l s = let m = map_of s in let file = mended m in let es = entries m.graph in
    mending_by n l file es (mend_fault n l s (length file) (length es))
