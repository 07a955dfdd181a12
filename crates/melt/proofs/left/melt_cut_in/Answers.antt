-- `melt::left::melt_cut_in` meets its contract. First what is known from the start; then the needs, call by call. Assumes nothing.
use Rattle.std.specs.Prelude.{◌+◌, ◌*◌}
use mathlib.Core.Path.{◌∙◌, ap}
use Prim.Native.Nat.{◌≤◌}
use native.Mathlib.Omega.{arith}
use lib.ListN.{length, length-replicate}
use Rattle.seq.specs.Seq.{List, ℕ, ℤ, replicate, pos}
use Rattle.paper.specs.Limits.{overlay_vertices, overlay_edges}
use Rattle.paper.specs.Map.{Map}
use Rattle.paper.specs.Tables.{Counts}
use Rattle.paper.specs.Lent.{Lengths, lengths_of}
use Rattle.laws_graph.specs.Plane.{Plane}
use Rattle.graph.specs.Flat.{flat_graph}
use Rattle.graph_faces.specs.Linked.{faces_of}
use Rattle.tables.specs.Values.{tables_by}
use Rattle.overlay_maps.specs.Layers.{Layers}
use Rattle.overlay_maps.specs.Given.{the_layers}
use Rattle.overlay_maps.specs.Held.{held_maps}
use Rattle.overlay_graph.specs.Cut.{Cut, overlay_in}
use Rattle.overlay_graph.specs.Given.{the_cut}
use Rattle.overlay_graph.specs.Traced.{NetBy, FacesOver, FacesBy}
use Rattle.overlay_graph.specs.Laws.Zeros.{blank, zeroed_long}
use Rattle.overlay_graph.specs.Laws.Tracing.{net-planar, faces_by}
use Rattle.melt.specs.Laws.Judged.{room_refused, room_done, faces_over, faces-fit}
use Rattle.melt.proofs.left.melt_cut_in.Given.{Over}
use Rattle.melt.proofs.left.melt_cut_in.Goals as goal
use Rattle.melt.proofs.left.melt_cut_in.Goals.{Start}

-- ── what is known ──
module _ (g : Over) (s : Start g) where
  abbrev l : Layers
  l = the_layers s.args.layers

  abbrev ms : List Map
  ms = held_maps l

  abbrev k : Cut
  k = the_cut s.args.cut

  abbrev lent : Lengths
  lent = let a = s.args in lengths_of (tables_by a.vertices.now a.halves.now a.sources.now a.faces.now)

  few : k.vertices ≤ overlay_vertices
  few = s.requires.ready.drawable.few_vertices

  short : k.edges ≤ overlay_edges
  short = s.requires.ready.drawable.few_edges

  module _ (os : List ℕ) (bs : List ℤ) (N : NetBy (overlay_in ms k) k os bs) where
    planar : Plane (flat_graph k.points os bs k.vertices k.edges)
    planar = net-planar ms k s.requires.ready.drawable os bs N

    -- followers and faces, in tables that were zero
    faced : (next face outers holes : List ℕ) (n : ℕ) → FacesOver (faces_of (flat_graph k.points os bs k.vertices k.edges)) (replicate g.row.H 0) (replicate g.row.H 0) (replicate g.row.H 0) (replicate g.row.F 0) next face outers holes n → FacesBy (overlay_in ms k) next face outers holes n
    faced =
        let z = s.requires.rooms in
        let e = 2 * k.edges in
        faces_by ms k s.requires.ready.drawable os bs N _ _ _ _ e e e (e + 1) (blank e g.row.H z.0) (blank e g.row.H z.0) (blank e g.row.H z.0) (blank (e + 1) g.row.F (omega (arith, z.2)))

-- ── the needs ──
pub lay_net-requires : goal.lay_net-requires
lay_net-requires g c =
    let p = c.requires in
    record { fact_1 = p.ready.held; fact_2 = p.ready.drawable; fact_3 = (omega (arith, p.rooms.0, length-replicate {A = ℕ} g.row.H 0), omega (arith, p.rooms.1, length-replicate {A = ℤ} g.row.C (pos 0))) }

pub walk_net-count-requires : goal.walk_net-count-requires
walk_net-count-requires g c =
    let s = (goal.at.walk_net-count-requires g c).Start in
    let z = s.requires.rooms in
    let b = c.lay_net in
    let h : 2 * s.args.cut.edges ≤ length (replicate g.row.H 0) = omega (arith, z.0, length-replicate {A = ℕ} g.row.H 0) in record {
      fact_1 = b.ensures.flat;
      fact_2 = (few g s, short g s);
      fact_3 = planar g s b.new.ends b.new.lines b.ensures;
      fact_4 = (h, h, h, omega (arith, z.2, length-replicate {A = ℕ} g.row.F 0));
    }

pub melt_faces-requires : goal.melt_faces-requires
melt_faces-requires g c =
    let s = (goal.at.melt_faces-requires g c).Start in
    let p = s.requires in
    let b = c.lay_net in
    let w = c.walk_net-count in
    let room = ap (λ (n : Counts). n.faces) c.room_in-room.ensures in
    let left = c.if-room-count.false in
    let f = faced g s b.new.ends b.new.lines b.ensures w.new.next w.new.face w.new.outers w.new.holes w.result w.ensures in
    let long = p.rooms in
    let most : w.result ≤ g.row.H = omega (arith, f.count_is, zeroed_long (overlay_in (ms g s) (k g s)).outers w.new.outers f.outers_is, w.auto.outers, length-replicate {A = ℕ} g.row.H 0) in record {
      fact_1 = p.cut_of;
      fact_2 = record { held = p.ready.held; cut = p.ready.drawable; net_by = b.ensures; next_is = f.next_is; outers_is = f.outers_is; count_is = f.count_is };
      fact_3 = f.face_is;
      fact_4 = p.ready.within;
      fact_5 = (omega (arith, room, left), long.3 w.result most (omega (arith, room, left)), long.4, long.5, omega (arith, long.6));
    }

pub returns-then-room-count : goal.returns-then-room-count
returns-then-room-count g c =
    let s = (goal.at.returns-then-room-count g c).Start in
    let b = c.lay_net in
    let w = c.walk_net-count in
    let room = ap (λ (n : Counts). n.faces) c.room_in-room.ensures in
    let f = faced g s b.new.ends b.new.lines b.ensures w.new.next w.new.face w.new.outers w.new.holes w.result w.ensures in
    c.refuse.ensures ∙ room_refused (ms g s) (lent g s) _ (faces_over (ms g s) (k g s) s.requires.cut_of (few g s) (short g s) (lent g s) s.requires.ready.within w.result f.count_is (omega (arith, room, c.if-room-count.true)))

pub returns : goal.returns
returns g c =
    let s = (goal.at.returns g c).Start in
    let b = c.lay_net in
    let w = c.walk_net-count in
    let room = ap (λ (n : Counts). n.faces) c.room_in-room.ensures in
    let f = faced g s b.new.ends b.new.lines b.ensures w.new.next w.new.face w.new.outers w.new.holes w.result w.ensures in
    c.melt_faces.ensures ∙ room_done (ms g s) (lent g s) (faces-fit (ms g s) (k g s) s.requires.cut_of (few g s) (short g s) (lent g s) s.requires.ready.within w.result f.count_is (omega (arith, room, c.if-room-count.false)))
