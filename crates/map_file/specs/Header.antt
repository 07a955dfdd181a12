-- A map file's header: "Mark `ZMP`, then .. version (1), vertex count V, edge count E". Assumes nothing.
use Rattle.seq.specs.Seq.{List, ℕ}
use Rattle.paper.specs.Bytes.{ascii, marked, u16}
use Rattle.paper.specs.Map.{vertex_count, edges_in}
use Rattle.map_file.specs.declared.reader.Header.{Header}

abbrev pub header_of : List ℕ → Header
header_of s = record { mark = marked (ascii "ZMP") s 0; version = u16 s 3; vertices = vertex_count s; edges = edges_in s }
