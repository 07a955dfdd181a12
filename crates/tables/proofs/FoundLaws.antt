-- The overlay edge record in tables with room for the edge, and without: from five stored numbers it is the definition's. Assumes nothing.
use Rattle.std.specs.Prelude.{◌&&◌, ◌+◌, ◌*◌}
use mathlib.Core.Path.{◌≡◌, sym, ◌∙◌, ap}
use Prim.Native.Nat.{◌<◌}
use native.Mathlib.Nat.{add-zero}
use native.Mathlib.Omega.{arith}
use borrow.Author.Tests.{lt-ltb}
use Rattle.seq.specs.Seq.{Bool, cond, List, [], Option, none, Option·map, ℕ, length, get_or, cell}
use Rattle.paper.specs.Limits.{maps}
use Rattle.paper.specs.Tables.{half_width}
use Rattle.paper.specs.Lent.{edge_room}
use Rattle.paper.specs.Record.{edge_record, source_by, OverlayEdge}
use Rattle.tables.specs.Values.{tables_by, lengths_by}
use Rattle.tables.specs.Found.{all_numbers, edge_with, record_by}

module _ (hs ss : List ℕ) (k : ℕ) where
  -- the record, where the tables have room for the edge or not
  abbrev record_if : Bool → Option OverlayEdge
  record_if t = let a = cell 0 maps ss k 0 in let b = cell 0 maps ss k 1 in let c = cell 0 maps ss k 2 in
      cond (t && all_numbers a b c) (Option·map (edge_with (cell 0 half_width hs (2 * k) 0) (cell 0 half_width hs (2 * k + 1) 0)) (source_by a b c)) none

  abbrev stored : Option OverlayEdge
  stored = record_by (get_or hs (half_width * (2 * k)) 0) (get_or hs (half_width * (2 * k) + half_width) 0) (get_or ss (maps * k) 0) (get_or ss (maps * k + 1) 0) (get_or ss (maps * k + 2) 0)

  pub record_there : k < edge_room maps (lengths_by 0 (length hs) (length ss) 0) → stored ≡ edge_record (tables_by [] hs ss []) k
  record_there h =
      let two : half_width * (2 * k) + half_width ≡ half_width * (2 * k + 1) + 0 = omega arith in
      let a = sym (add-zero (half_width * (2 * k))) in
      let b = sym (add-zero (maps * k)) in
      (λ i. record_by (get_or hs (a i) 0) (get_or hs (two i) 0) (get_or ss (b i) 0) (get_or ss (maps * k + 1) 0) (get_or ss (maps * k + 2) 0))
      ∙ ap record_if (sym (lt-ltb k (edge_room maps (lengths_by 0 (length hs) (length ss) 0)) h))
