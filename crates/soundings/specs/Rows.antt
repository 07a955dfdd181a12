-- Two maps' edges laid for looks, as the code holds them: rows with their labels (`Rows`), and the look in them (`look_by`). Of files that pass it is the look in their maps (`ready-look`). Assumes nothing.
use Rattle.std.specs.Prelude.{◌≡◌, ◌≤◌, ◌∷◌, ◌+◌, ◌*◌}
use Rattle.std.proofs.Common.{sym, ◌∙◌, ap, add-zero, arith}
use Rattle.seq.specs.Seq.{List, [], ℕ, length, ℤ, or_zero}
use Rattle.seq.proofs.Least.{least-le}
use Rattle.paper.specs.Limits.{map_edges}
use Rattle.paper.specs.Plane.{Vec}
use Rattle.paper.specs.Map.{map_of, label, edges_in}
use Rattle.laws_soundings.specs.Run.{Look, look_in}
use Rattle.graph.specs.Flat.{Carriers}
use Rattle.looks.specs.Rails.{above_at, rail_label, rails_read}
use Rattle.looks.specs.Railed.{railed-label, railed-read}
use Rattle.soundings_count.specs.Entries.{pair_width}
use Rattle.soundings.specs.Labels.{both_maps}
use Rattle.soundings.specs.Laid.{Ready}

-- e rows are edges between corners, with a label each
pub record Rows (rs : List ℤ) (es : List ℕ) (e : ℕ) : Type 0 where
  pub few : e ≤ map_edges
  pub carriers : Carriers rs e
  pub labelled : e ≤ length es

abbrev pub look_by : List ℤ → List ℕ → ℕ → List ℤ → List ℕ → ℕ → Look
look_by rs es e rs2 es2 f = record { cell = λ c. rail_label rs es e c ∷ rail_label rs2 es2 f c ∷ []; read = λ c. rails_read rs e c + rails_read rs2 f c }

-- the edges that are read for one sounding, at most: all edges of both maps
abbrev pub most_read : ℕ
most_read = pair_width * map_edges

pub look_few : {rs : List ℤ} {es : List ℕ} {e : ℕ} {rs2 : List ℤ} {es2 : List ℕ} {f : ℕ} → Rows rs es e → Rows rs2 es2 f → (c : Vec) → rails_read rs e c + rails_read rs2 f c ≤ most_read
look_few {rs} {es} {e} {rs2} {es2} {f} R S c = omega (arith, least-le (above_at rs c) e, least-le (above_at rs2 c) f, R.few, S.few)

-- ── of files that pass ──

pub ready-rows : {s : List ℕ} {rs : List ℤ} {es : List ℕ} → Ready s rs es → Rows rs es (edges_in s)
ready-rows R = record { few = R.few; carriers = R.railed.carriers; labelled = R.railed.labelled }

pub ready-look : {a b : List ℕ} {rs : List ℤ} {es : List ℕ} {rs2 : List ℤ} {es2 : List ℕ} → Ready a rs es → Ready b rs2 es2 → look_by rs es (edges_in a) rs2 es2 (edges_in b) ≡ look_in (both_maps a b)
ready-look {a} {b} {rs} {es} {rs2} {es2} R S =
    λ i. record {
      cell = λ c. railed-label (map_of a).graph (label (map_of a)) (edges_in a) rs es R.railed c i ∷ railed-label (map_of b).graph (label (map_of b)) (edges_in b) rs2 es2 S.railed c i ∷ [];
      read = λ c. railed-read (map_of a).graph (label (map_of a)) (edges_in a) rs es R.railed c i + (railed-read (map_of b).graph (label (map_of b)) (edges_in b) rs2 es2 S.railed c ∙ sym (add-zero _)) i;
    }
