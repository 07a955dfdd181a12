-- Where edges of the tables meet is where edges of different maps meet, by the point of each meeting: the two lists have the same members, each in lowest
-- terms. Assumes nothing.
use Rattle.std.specs.Prelude.{◌≡◌, refl, ◌<◌, ℤ, ◌+◌}
use Rattle.std.proofs.Common.{sym, ◌∙◌, ap, subst, arith}
use Rattle.exact.specs.Lowest.{Pt, Lowest}
use Rattle.seq.specs.Seq.{List, ℕ, length, rows, optional}
use Rattle.seq.specs.Terms.{Among}
use Rattle.seq.specs.Members.{among_one}
use Rattle.seq.specs.Rows.{among-rows, rows-among}
use Rattle.paper.specs.Limits.{maps}
use Rattle.paper.specs.Plane.{Seg}
use Rattle.paper.specs.Meeting.{Meeting, apart, touching, crossing, sharing, meeting, point_of}
use Rattle.laws_plane.specs.Cone.{UpV}
use Rattle.laws_graph.specs.Plane.{upward_up}
use Rattle.laws_overlay.specs.Maps.{AllKeep}
use Rattle.laws_meet.specs.Uses.{touching_is, crossed_is}
use Rattle.laws_meet.specs.Collect.{met_at, met, met_in}
use Rattle.paper.specs.Graph.{Graph, edge}
use Rattle.paper.specs.Map.{Map}
use Rattle.paper.specs.Pieces.{layer}
use Rattle.graph.specs.Flat.{carrier_at}
use Rattle.overlay_cut.specs.Cuts.{start_of, edges_from}
use Rattle.overlay_cut.specs.Crossed.{cross_row, cross_part, cross_all}
use Rattle.overlay_cut.specs.Laws.Holds.{Holds, edges_in, edges_from_lem, starts_before, owner}

-- ── the point of a meeting is in lowest terms ──

module _ (s t : Seg) (us : UpV s.up) (ut : UpV t.up) (p : Pt) where
  met-lowest : (m : Meeting) → meeting s t ≡ m → Among p (optional (point_of m)) → Lowest p
  met-lowest apart e i = absurd i
  met-lowest (touching q) e i = subst Lowest (sym (among_one p q i)) (touching_is s t us ut q e).0.lowest_p
  met-lowest (crossing q) e i = subst Lowest (sym (among_one p q i)) (crossed_is s t us ut q e).0.lowest_p
  met-lowest sharing e i = absurd i

pub met_in_lowest : (ms : List Map) → AllKeep ms → (z : Pt) → Among z (met_in ms) → Lowest z
met_in_lowest ms K z a =
    let m = rows-among (λ j. rows (λ i. met (g i) (g j)) j) (length ms) z a in
    let i = rows-among (λ i. met (g i) (g m.0)) m.0 z m.2 in
    let j = rows-among (λ j. rows (met_at (g i.0) (g m.0) j) (edges_in ms m.0)) (edges_in ms i.0) z i.2 in
    let k = rows-among (met_at (g i.0) (g m.0) j.0) (edges_in ms m.0) z j.2 in
    let s = (edge (g i.0) j.0).carrier in
    let t = (edge (g m.0) k.0).carrier in
    met-lowest s t (upward_up (g i.0) (K i.0 (omega (arith, i.1, m.1))).plane j.0 j.1) (upward_up (g m.0) (K m.0 m.1).plane k.0 k.1) z (meeting s t) refl k.2
  where
    g : ℕ → Graph
    g i = (layer ms i).graph

-- ── the same members ──

module _ {ms : List Map} {corners : List ℤ} {c : ℕ} {cs : List ℤ} {st : List ℕ} (H : Holds ms corners c cs st) where
  abbrev part : ℕ → ℕ → List Pt
  part j i = met (layer ms i).graph (layer ms j).graph

  pub crossed_from : (z : Pt) → Among z (cross_all cs st) → Among z (met_in ms)
  crossed_from z a =
      let m = rows-among (cross_part cs st) maps z a in
      let k = rows-among (λ k. cross_row cs (start_of st m.0) (carrier_at cs (start_of st m.0 + k))) (edges_from st m.0) z m.2 in
      let j = rows-among (λ j. optional (point_of (meeting (carrier_at cs j) (carrier_at cs (start_of st m.0 + k.0))))) (start_of st m.0) z k.2 in
      let o = owner H m.0 j.0 (omega (arith, m.1)) j.1 in
      let n : k.0 < edges_in ms m.0 = omega (arith, k.1, edges_from_lem H m.0 m.1) in
      let s : carrier_at cs j.0 ≡ (edge (layer ms o.map).graph o.number).carrier = ap (carrier_at cs) o.is ∙ H.carriers-are o.map o.number (omega (arith, o.earlier, m.1)) o.below in
      let t = H.carriers-are m.0 k.0 m.1 n in
      among-rows (λ j. rows (part j) j) (length ms) m.0 z (omega (arith, m.1, H.count))
      (among-rows (part m.0) m.0 o.map z o.earlier
      (among-rows (λ j. rows (met_at (layer ms o.map).graph (layer ms m.0).graph j) (edges_in ms m.0)) (edges_in ms o.map) o.number z o.below
      (among-rows (met_at (layer ms o.map).graph (layer ms m.0).graph o.number) (edges_in ms m.0) k.0 z n
      (subst (λ (l : List Pt). Among z l) (λ i. optional (point_of (meeting (s i) (t i)))) j.2))))

  pub crossed_has : (z : Pt) → Among z (met_in ms) → Among z (cross_all cs st)
  crossed_has z a =
      let m = rows-among (λ j. rows (part j) j) (length ms) z a in
      let h : m.0 < maps = omega (arith, m.1, H.count) in
      let i = rows-among (part m.0) m.0 z m.2 in
      let j = rows-among (λ j. rows (met_at (layer ms i.0).graph (layer ms m.0).graph j) (edges_in ms m.0)) (edges_in ms i.0) z i.2 in
      let k = rows-among (met_at (layer ms i.0).graph (layer ms m.0).graph j.0) (edges_in ms m.0) z j.2 in
      let s = H.carriers-are i.0 j.0 (omega (arith, i.1)) j.1 in
      let t = H.carriers-are m.0 k.0 h k.1 in
      among-rows (cross_part cs st) maps m.0 z h
      (among-rows (λ k. cross_row cs (start_of st m.0) (carrier_at cs (start_of st m.0 + k))) (edges_from st m.0) k.0 z (omega (arith, k.1, edges_from_lem H m.0 h))
      (among-rows (λ j. optional (point_of (meeting (carrier_at cs j) (carrier_at cs (start_of st m.0 + k.0))))) (start_of st m.0) (start_of st i.0 + j.0) z
      (starts_before H m.0 i.0 j.0 (omega (arith, h)) i.1 j.1)
      (subst (λ (l : List Pt). Among z l) (sym (λ u. optional (point_of (meeting (s u) (t u))))) k.2)))
