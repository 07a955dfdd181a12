-- The numbers of 01 and of the requests, each once: limits and byte widths. Everything else is defined from them. Assumes nothing.
use Rattle.std.specs.Prelude.{ℕ, ◌*◌}

-- "V ≤ 200, E ≤ 300"; "Raise the coordinate range to −16,000 to 16,000" (02, Ask 7)
abbrev pub map_vertices : ℕ
map_vertices = 200

abbrev pub map_edges : ℕ
map_edges = 300

abbrev pub reach : ℕ
reach = 16000

-- "D may then reach 2,048,000,000": the cross product of two directions, each number of which is at most twice the reach
abbrev pub denominators : ℕ
denominators = 2 * (2 * reach * (2 * reach))

-- "The overlay has at most 1,000 vertices, 2,000 edges (4,000 half-edges) and 1,334 faces"
abbrev pub overlay_vertices : ℕ
overlay_vertices = 1000

abbrev pub overlay_edges : ℕ
overlay_edges = 2000

abbrev pub overlay_faces : ℕ
overlay_faces = 1334

-- the bytes before the first vertex, of a map file and of an overlay file
abbrev pub map_head : ℕ
map_head = 9

abbrev pub overlay_head : ℕ
overlay_head = 11

-- "X and Y in five bytes each (two's complement) and D in four (unsigned)"; "overlay files get version 2 with six bytes each" (02, Ask 7)
abbrev pub first_coordinate_bytes : ℕ
first_coordinate_bytes = 5

abbrev pub coordinate_bytes : ℕ
coordinate_bytes = 6

abbrev pub denominator_bytes : ℕ
denominator_bytes = 4

-- "Two map files go in", and "Bed type comes as a third map" (02, Ask 13)
abbrev pub maps : ℕ
maps = 3

-- "65,535 for face 0", "65,535 if none": no half-edge
abbrev pub absent : ℕ
absent = 65535

-- "whole millimetres from −20,000 to 20,000" (02, Ask 5)
abbrev pub gauge_reach : ℕ
gauge_reach = 20000

-- "more than 65,535 soundings" (02, Ask 3)
abbrev pub list_soundings : ℕ
list_soundings = 65535

-- "up to 400 overlay files", "more than 500 pairs" (02, Ask 14)
abbrev pub year_files : ℕ
year_files = 400

abbrev pub year_pairs : ℕ
year_pairs = 500
