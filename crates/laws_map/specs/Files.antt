-- A file that passes holds a map that keeps the rules: `passes-keeps`. Its counts and coordinates are within 01's limits (`Form` and `Rules`, by Passes).
-- Assumes nothing.
use Rattle.std.proofs.Common.{sym, ◌∙◌, ap}
use Rattle.seq.specs.Seq.{List, ℕ}
use Rattle.paper.specs.Map.{Map, label, map_of}
use Rattle.laws_plane.specs.NoClash.{common-end}
use Rattle.laws_graph.specs.Laid.{foot_low, head_high, carrier_up}
use Rattle.laws_graph.specs.Corners.{Corners, corners-plane}
use Rattle.laws_graph.specs.Follow.{followers_at}
use Rattle.laws_graph.specs.Rules.{file-laid}
use Rattle.laws_map.specs.Keeps.{seg, Keeps}
use Rattle.laws_map.specs.Rules.{Rules}

-- the map in a file that keeps rules 6 to 8 is a graph in corners
pub file-corners : (s : List ℕ) → Rules (map_of s) → Corners (map_of s).graph
file-corners s R = record { laid = file-laid s R.single (λ k l. (R.from_below k l, R.to_below k l, R.two_ends k l)); no_clash = R.no_clash }

-- a map in corners that keeps rules 5 to 10
pub rules-keep : (m : Map) → Corners m.graph → Rules m → Keeps m
rules-keep m C R = record {
  plane = corners-plane m.graph C;
  foot_is = foot_low m.graph C.laid;
  head_is = head_high m.graph C.laid;
  share = λ i j l k d. common-end (seg m i) (seg m j) (carrier_up m.graph C.laid i l) (carrier_up m.graph C.laid j k) (R.no_clash i j l k d);
  used = R.used;
  one_label = λ h l. ap (label m) (sym (followers_at m.graph (corners-plane m.graph C) h l)) ∙ sym (R.one_label h l);
  hole-label = R.hole-label;
}
