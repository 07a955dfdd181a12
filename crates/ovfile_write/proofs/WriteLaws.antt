-- The writer's refusals as the code finds them: the counts first, then vertices, edges and the buffer, and what is known where nothing is refused.
-- Assumes nothing.
use Rattle.std.specs.Prelude.{◌∷◌}
use mathlib.Core.Path.{◌≡◌, sym}
use Prim.Native.Nat.{◌≤◌}
use native.Mathlib.Omega.{arith}
use borrow.Author.Tests.{ltb-false}
use Rattle.seq.specs.Seq.{List, [], ℕ, Option, none, some, ltb, length, ℤ, padded}
use Rattle.paper.specs.Limits.{maps, overlay_vertices, overlay_edges}
use Rattle.paper.specs.Refusal.{Refusal, given, first_at, answer, unless_refused, done, refused}
use Rattle.paper.specs.Tables.{Counts, Tables}
use Rattle.paper.specs.Lent.{Lengths, room_in, lengths_of}
use Rattle.paper.specs.Ovfile.{layouts, over, file_length, overlay_file}
use Rattle.paper.specs.Writer.{bad_vertex, bad_edge, write_fault, write}
use Rattle.laws_refusals.specs.Refusals.{nothing, given_none, least_none_is}
use Rattle.laws_refusals.specs.Room.{not_over}
use Rattle.tables.specs.Values.{tables_by}
use Rattle.ovfile.specs.Values.{layout}
use Rattle.ovfile_write.specs.Judged.{VerticesFit}
use Rattle.ovfile_write.proofs.JudgeLaws.{good_fits}

-- 3, and 5, 21 and 11
abbrev pub too_many : Lengths → Counts → Option Refusal
too_many ls c = given 3 0 (over (room_in maps ls) c)

abbrev pub others : ℕ → Counts → Tables → List (Option Refusal)
others n c t = first_at 5 (bad_vertex layout c t) c.vertices ∷ first_at 21 (bad_edge maps c t) c.edges ∷ given 11 4 (ltb n (file_length layout c)) ∷ []

pub within : (ls : Lengths) (c : Counts) → too_many ls c ≡ none → (c.vertices ≤ overlay_vertices) × (c.edges ≤ overlay_edges)
within ls c e =
    let f = not_over (room_in maps ls) c (given_none 3 0 (over (room_in maps ls) c) e) in
    (omega (arith, f.vertices), omega (arith, f.edges))

-- ── where nothing is refused ──

module _ (n : ℕ) (c : Counts) (vs : List ℤ) (hs ss fs : List ℕ) where
  abbrev tables : Tables
  tables = tables_by vs hs ss fs

  abbrev fault : Option Refusal
  fault = write_fault layout n (lengths_of tables) c tables

  pub all_fit : fault ≡ none → VerticesFit vs c.vertices
  all_fit e =
      let r = (nothing (too_many (lengths_of tables) c ∷ others n c tables) e).1.0 in
      record { at = λ v l. good_fits c vs hs v (least_none_is 5 (bad_vertex layout c tables) c.vertices r v l) }

  pub room_enough : fault ≡ none → file_length layout c ≤ n
  room_enough e =
      let r = (nothing (too_many (lengths_of tables) c ∷ others n c tables) e).1.1.1.0 in
      ltb-false n (file_length layout c) (given_none 11 4 (ltb n (file_length layout c)) r)

  -- ── what comes out ──

  pub write_done : fault ≡ none → record { answer = done (file_length layout c); buffer = padded 0 n (overlay_file (length layouts) layout c tables) } ≡ write n c tables
  write_done e i = record {
    answer = answer (file_length layout c) (sym e i);
    buffer = unless_refused (padded 0 n (overlay_file (length layouts) layout c tables)) (padded 0 n []) (sym e i);
  }

  pub write-refused : (r : Refusal) → fault ≡ some r → record { answer = refused r; buffer = padded 0 n [] } ≡ write n c tables
  write-refused r e i = record {
    answer = answer (file_length layout c) (sym e i);
    buffer = unless_refused (padded 0 n (overlay_file (length layouts) layout c tables)) (padded 0 n []) (sym e i);
  }
