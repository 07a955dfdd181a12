-- What the sweep's answer says of maps: where the tables hold the edges and the corners of maps that keep the rules, what it asks is met (`maps-given`), and its rows are their vertices
-- (`maps-swept`). Assumes nothing.
use Rattle.std.specs.Prelude.{◌≡◌, ◌≤◌, ◌<◌, ◌*◌}
use Rattle.std.proofs.Common.{sym, ◌∙◌, ap, subst, arith, take_all, length-take-le}
use Rattle.std.proofs.Math.Decide.{dec_lt}
use Rattle.seq.specs.Seq.{List, [], ℤ, ℕ, length, take}
use Rattle.seq.specs.Table.{length-table}
use Rattle.paper.specs.Limits.{maps}
use Rattle.paper.specs.Plane.{Pt}
use Rattle.paper.specs.Map.{Map}
use Rattle.paper.specs.Pieces.{the_in_order, vertices_of}
use Rattle.laws_overlay.specs.Maps.{AllKeep}
use Rattle.graph.specs.Flat.{Points, Carriers, the_point_at}
use Rattle.overlay_cut.specs.Rooms.{vertex_rows}
use Rattle.overlay_cut.specs.Points.{points_of}
use Rattle.seq.specs.Slotted.{slots}
use Rattle.laws_sweep.specs.Sweep.{Strand, sooner, sweep, strands_of, corners_of}
use Rattle.laws_sweep.specs.Scene.{Scene}
use Rattle.laws_sweep.specs.Maps.{maps-scene}
use Rattle.laws_sweep.proofs.Maps.{swept_first}
use Rattle.overlay_sweep.specs.Turned.{fan_room}
use Rattle.overlay_sweep.specs.Between.{edges_in, Outcome, all, more}
use Rattle.overlay_sweep.specs.Loop.{stops_in, Given}

-- the first of a list, or all of it
outcome_all : (l : List Pt) (t : List ℤ) (r : ℕ) → Outcome (take vertex_rows l) t r → Outcome l t r
outcome_all l t r (all h e) =
    elim (dec_lt (length l) vertex_rows) [
      | yes q ↦ all h (e ∙ take_all vertex_rows l (omega arith))
      | no q ↦ absurd (omega (arith, ap length e, length-take-le vertex_rows l (omega arith), length-table (the_point_at t) r))
    ]
outcome_all l t r (more h e) =
    elim (dec_lt (length l) vertex_rows) [
      | yes q ↦ absurd (omega (arith, ap length (take_all vertex_rows l (omega arith))))
      | no q ↦ more h (omega arith)
    ]

module _ (ms : List Map) (K : AllKeep ms) (cs : List ℤ) (e : ℕ) (starts : List ℕ) (cr : List ℤ) (k : ℕ) (edges : edges_in cs e starts ≡ strands_of ms) (corners : the_in_order (points_of cr k) ≡ corners_of ms) where
  pub maps-given : (out : List ℤ) → Carriers cs e → Points cr k → maps < length starts → e ≤ fan_room → 4 * vertex_rows ≤ length out → Given cs e starts cr k out
  maps-given out c p l f r = record {
    stops = vertices_of ms;
    scene = subst (λ (l : List Strand). Scene l (the_in_order (points_of cr k)) (vertices_of ms)) (sym edges) (subst (λ (l : List Pt). Scene (strands_of ms) l (vertices_of ms)) (sym corners) (maps-scene ms K));
    carriers = c;
    corners = p;
    starts_long = l;
    few = f;
    room = r;
  }

  pub maps-swept : (t : List ℤ) (r : ℕ) → Outcome (stops_in cs e starts cr k) t r → Outcome (vertices_of ms) t r
  maps-swept t r o =
      outcome_all (vertices_of ms) t r
      (subst (λ (l : List Pt). Outcome l t r) ((λ i. sweep vertex_rows (slots sooner [] (edges i)) (corners i) []) ∙ swept_first ms K vertex_rows) o)
