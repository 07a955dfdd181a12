-- What the code's tables of maps are in the definitions: all maps, one map, and the part of all that one map stands in. Assumes nothing.
use Rattle.std.specs.Prelude.{◌≡◌, ◌≤◌, ◌*◌, ◌-◌}
use Rattle.std.proofs.Common.{arith}
use Rattle.seq.specs.Seq.{List, ℕ, length, ℤ}
use Rattle.paper.specs.Limits.{absent}
use Rattle.paper.specs.Map.{Map}
use Rattle.graph.specs.Flat.{Flat, flat_graph}
use Rattle.map_check.specs.Held.{flat_map}
use Rattle.overlay_maps.specs.Ended.{Ended}
use Rattle.overlay_maps.specs.Layers.{Layers, layers_by}
use Rattle.overlay_maps.specs.Standing.{Stands, cells, length-cells}
use Rattle.overlay_maps.specs.declared.tables.Layers.{Layers as LentLayers}
use Rattle.overlay_maps.specs.declared.tables.FlatMap.{FlatMap}
use Rattle.overlay_maps.specs.declared.label.Part.{Part}

abbrev pub the_layers : LentLayers → Layers
the_layers l = layers_by l.vertices.now l.edges.now l.corners.now l.origins.now l.carriers.now l.labels.now

-- ── one map ──

pub record MapTables : Type 0 where
  pub points : List ℤ
  pub origins : List ℕ
  pub carriers : List ℤ
  pub labels : List ℕ
  pub vertices : ℕ
  pub edges : ℕ

abbrev pub the_tables : FlatMap → MapTables
the_tables m = record { points = m.points.now; origins = m.origins.now; carriers = m.carriers.now; labels = m.labels.now; vertices = m.vertices; edges = m.edges }

abbrev pub map_in : MapTables → Map
map_in t = flat_map t.points t.origins t.carriers t.labels t.vertices t.edges

-- the tables of a graph whose edges run from the lower end to the upper, and a label for each of its half-edges
pub record Legible (t : MapTables) : Type 0 where
  pub flat : Flat t.points t.origins t.carriers t.vertices t.edges
  pub ended : Ended (flat_graph t.points t.origins t.carriers t.vertices t.edges)
  pub few : 2 * t.edges ≤ absent
  pub labels_in : 2 * t.edges ≤ length t.labels

-- ── the part of all maps' tables that one map stands in ──

abbrev pub part_tables : Layers → Part → MapTables
part_tables l q = record {
  points = cells l.corners (4 * q.v) (4 * q.w);
  origins = cells l.origins (2 * q.a) (2 * q.b);
  carriers = cells l.carriers (4 * q.a) (4 * q.b);
  labels = cells l.labels (2 * q.a) (2 * q.b);
  vertices = q.w - q.v;
  edges = q.b - q.a;
}

abbrev pub StandsAt : Layers → Part → Type 0
StandsAt l q = Stands l.corners l.origins l.carriers l.labels q.v q.w q.a q.b

pub legible_part : (l : Layers) (q : Part) → StandsAt l q → Legible (part_tables l q)
legible_part l q s =
    let n = length-cells l.labels (2 * q.a) (2 * q.b) s.labels_in in
    record { flat = s.flat; ended = s.ended; few = omega (arith, s.few); labels_in = omega (arith, n) }
