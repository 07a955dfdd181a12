-- Of Delivered of specs/, what rests on its definitions.
use Rattle.std.specs.Prelude.{◌≡◌, refl, ◌<◌, ◌≤◌, ◌∷◌, ◌+◌, ◌*◌, ◌^◌}
use Rattle.std.proofs.Common.{sym, subst, arith}
use Rattle.std.proofs.Math.Nat.{min-le_right}
use Rattle.exact.specs.Digits.{past_rows}
use Rattle.seq.specs.Seq.{List, [], none, ℕ, zero, suc}
use Rattle.paper.specs.Limits.{maps, overlay_edges}
use Rattle.paper.specs.Refusal.{done}
use Rattle.paper.specs.Map.{map_of, fault}
use Rattle.paper.specs.Pieces.{layer}
use Rattle.paper.specs.Tables.{Counts, Tables}
use Rattle.paper.specs.Lent.{Lengths, lengths_of, edge_room, room_in}
use Rattle.paper.specs.Overlay.{overlay}
use Rattle.laws_graph.specs.Reading.{edges-count}
use Rattle.laws_map.specs.Keeps.{edges}
use Rattle.laws_map.proofs.Passes.{passes-form}
use Rattle.laws_labels.specs.Done.{three_pass}
use Rattle.laws_refusals.specs.Room.{Fits}
use Rattle.laws_file.specs.Bytes.{Bytes}
use Rattle.tables.specs.Answers as code
use Rattle.std.specs.Prelude.{Ok}
use Rattle.tables.specs.Values.{answer_of}
use Rattle.tables.specs.Promise.{Promised}
use Rattle.laws_promise.specs.Demands.{counts_for}
use Rattle.laws_promise.specs.Defined.{EdgeRecords, Defined}
use Rattle.laws_promise.proofs.Records.{edge-records}
use Rattle.laws_promise.proofs.Promised.{done_is-defined, passes_is-defined}
use Rattle.laws_promise.proofs.Unique.{defined-overlay}
use Rattle.laws_promise.proofs.Written.{overlay-written, overlay_read}
use Rattle.laws_promise.specs.Delivered.{Delivered, answer}

module _ (l : Lengths) (a b z : List ℕ) (c : Counts) (t : Tables) (D : Defined l (a ∷ b ∷ z ∷ []) c t) where
  few : (s : List ℕ) → fault s ≡ none → edges (map_of s) ≤ 256 ^ 2
  few s p = omega (arith, edges-count s, (passes-form s p).few_edges)

  few_in : (i : ℕ) → i < maps → edges (layer (map_of a ∷ map_of b ∷ map_of z ∷ []) i) ≤ 256 ^ 2
  few_in zero q = few a (D.passes 0 q)
  few_in (suc zero) q = few b (D.passes 1 q)
  few_in (suc (suc zero)) q = few z (D.passes 2 q)
  few_in (suc (suc (suc i))) q = absurd (omega arith)

  room : c.edges ≤ edge_room maps (lengths_of t)
  room = subst (λ (x : Lengths). c.edges ≤ edge_room maps x) (sym D.lengths) (omega (arith, D.room.edges, min-le_right overlay_edges (edge_room maps l)))

  pub defined-records : EdgeRecords (map_of a ∷ map_of b ∷ map_of z ∷ []) c t
  defined-records =
      edge-records (map_of a) (map_of b) (map_of z) c t D.edges room few_in
      (λ k i p q. D.zeros.sources (maps * k + i) (past_rows maps c.edges k i p))

  module _ (A : Bytes a) (B : Bytes b) (Z : Bytes z) where
    kept : Promised l (a ∷ b ∷ z ∷ []) (Ok (record { vertices = c.vertices; edges = c.edges; faces = c.faces })) t
    kept = sym (defined-overlay l (a ∷ b ∷ z ∷ []) c t D)

    pub defined_delivered : Delivered l a b z c t
    defined_delivered = record {
      defined = D;
      records = defined-records;
      written = overlay-written l a b z A B Z (answer l a b z c t D A B Z) t kept c refl;
      read_back = overlay_read l a b z A B Z (answer l a b z c t D A B Z) t kept c refl;
    }

module _ (l : Lengths) (a b z : List ℕ) (A : Bytes a) (B : Bytes b) (Z : Bytes z) (r : code.Answer) (t : Tables) (promise : Promised l (a ∷ b ∷ z ∷ []) r t) where
  -- whenever it is done
  pub done_is_delivered : (c : Counts) → answer_of r ≡ done c → Delivered l a b z c t
  done_is_delivered c e = defined_delivered l a b z c t (done_is-defined l (a ∷ b ∷ z ∷ []) r t promise c e) A B Z

  -- with no premise but the three checks and room
  pub passes_is_delivered : fault a ≡ none → fault b ≡ none → fault z ≡ none → Fits (room_in maps l) (counts_for (a ∷ b ∷ z ∷ [])) →
      (answer_of r ≡ done (counts_for (a ∷ b ∷ z ∷ []))) × Delivered l a b z (counts_for (a ∷ b ∷ z ∷ [])) t
  passes_is_delivered pa pb pz F =
      let d = (passes_is-defined l (a ∷ b ∷ z ∷ []) r t promise (three_pass a b z pa pb pz) F).0 in
      (d, done_is_delivered (counts_for (a ∷ b ∷ z ∷ [])) d)

-- and back: what keeps it is what the operation promises, so no second counts and tables do
pub delivered_overlay : (l : Lengths) (a b z : List ℕ) (c : Counts) (t : Tables) → Delivered l a b z c t → overlay l a b z ≡ record { answer = done c; tables = t }
delivered_overlay l a b z c t D = defined-overlay l (a ∷ b ∷ z ∷ []) c t D.defined
