-- Tables that have the counted rows and no more, laid into longer ones with zeros past them: they are as long as was asked (`padded-lengths`), their counted rows are the tables
-- (`padded-counted`), and the writer accepts them where it asks nothing more of the rows (`padded-writes`). Of n maps. Assumes nothing.
use Rattle.std.specs.Prelude.{◌≡◌, ◌<◌, ◌≤◌}
use Rattle.std.proofs.Common.{sym, ◌∙◌, ap, subst, arith}
use Rattle.seq.specs.Seq.{ℕ, pos}
use Rattle.seq.specs.Wiped.{length-padded}
use Rattle.paper.specs.Tables.{Counts, Tables}
use Rattle.paper.specs.Lent.{Lengths, room_in, lengths_of, padded_tables}
use Rattle.paper.specs.Ovfile.{Layout, file_length}
use Rattle.laws_refusals.specs.Room.{Fits}
use Rattle.laws_file.specs.Agree.{bad-edge_same, bad-vertex_same, padded-agree}
use Rattle.laws_roundtrip.specs.Sound.{GoodEdge, edge_is, is_edge, GoodVertex, vertex_is, is_vertex}
use Rattle.laws_roundtrip.specs.Accepts.{Writes}
use Rattle.laws_roundtrip.specs.ReadCells.{exact_lengths}
use Rattle.laws_roundtrip.specs.Counted.{counted, room_rows, agree-counted}

module _ (n : ℕ) (ls : Lengths) (c : Counts) (u : Tables) (e : lengths_of u ≡ exact_lengths n c) (R : Fits (room_in n ls) c) where
  pub padded-lengths : lengths_of (padded_tables ls u) ≡ ls
  padded-lengths =
      let r = room_rows n c ls R in
      λ i. record {
        vertices = length-padded (pos 0) ls.vertices u.vertices (omega (arith, r.vertices, ap (λ (x : Lengths). x.vertices) e)) i;
        halves = length-padded 0 ls.halves u.halves (omega (arith, r.halves, ap (λ (x : Lengths). x.halves) e)) i;
        sources = length-padded 0 ls.sources u.sources (omega (arith, r.sources, ap (λ (x : Lengths). x.sources) e)) i;
        faces = length-padded 0 ls.faces u.faces (omega (arith, r.faces, ap (λ (x : Lengths). x.faces) e)) i;
      }

  pub padded_room : Fits (room_in n (lengths_of (padded_tables ls u))) c
  padded_room = subst (λ (x : Lengths). Fits (room_in n x) c) (sym padded-lengths) R

  pub padded-counted : counted n c (padded_tables ls u) ≡ u
  padded-counted =
      let A = padded-agree n c ls u in
      sym (agree-counted n c u (padded_tables ls u)
      (record {
        vertices = λ v j b m. sym (A.vertices v j b m);
        halves = λ h j b m. sym (A.halves h j b m);
        sources = λ k i b m. sym (A.sources k i b m);
        faces = λ f j b m. sym (A.faces f j b m);
      })
      e (room_rows n c (lengths_of (padded_tables ls u)) padded_room))

-- into a buffer of n bytes
pub padded-writes : (l : Layout) (n : ℕ) (ls : Lengths) (c : Counts) (u : Tables) → lengths_of u ≡ exact_lengths l.maps c → Fits (room_in l.maps ls) c
    → ((v : ℕ) → v < c.vertices → GoodVertex l c u v) → ((k : ℕ) → k < c.edges → GoodEdge l.maps c u k) → file_length l c ≤ n → Writes l n (lengths_of (padded_tables ls u)) c (padded_tables ls u)
padded-writes l n ls c u e R G E m =
    let t = padded_tables ls u in
    let A = padded-agree l.maps c ls u in
    record {
      room = padded_room l.maps ls c u e R;
      vertex = λ v b. vertex_is l c t v (bad-vertex_same l.maps c t u A l v b ∙ is_vertex l c u v (G v b));
      edge = λ k b. edge_is l.maps c t k (bad-edge_same l.maps c t u A k b ∙ is_edge l.maps c u k (E k b));
      enough = m;
    }
