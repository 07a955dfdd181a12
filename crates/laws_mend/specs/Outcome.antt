-- What comes out of `mend`. A clean file, so one that passes, comes out the same with an empty list (`clean-mend`, `passes-mend`); the mended file is clean, so it is refused with 8 or 10 or not
-- at all, and mending it again changes nothing (`done-clean`, `done-refusal`, `mend-again`); what is kept and what is listed is as 02 says (`done-mends`); what is refused is all zero; and how much
-- room is always enough. Assumes nothing.
use Rattle.std.proofs.Math.Seq.{take-append_seam}
use Rattle.std.specs.Prelude.{◌≡◌, refl, ◌⊎◌, ◌≤◌, ◌∷◌, ◌+◌, ◌-◌, ◌++◌}
use Rattle.std.proofs.Common.{sym, ◌∙◌, ap, arith}
use Rattle.seq.specs.Seq.{List, [], Option, none, ℕ, length, get_or, take, replicate, gather, padded}
use Rattle.paper.specs.Limits.{map_vertices, map_edges}
use Rattle.paper.specs.Graph.{Graph}
use Rattle.paper.specs.Refusal.{Refusal, done, refused, answer}
use Rattle.paper.specs.Map.{map_of, fault}
use Rattle.laws_file.specs.Bytes.{Bytes}
use Rattle.paper.specs.Mend.{kept_edges, kept_vertices, entries, corner_of, edge_row, mended, mend_fault, mending_by, mend, Mending}
use Rattle.laws_mend.specs.MapFile.{file-bytes}
use Rattle.laws_mend.specs.Clean.{Clean, passes-clean, Mendable}
use Rattle.laws_mend.specs.Same.{clean-entries, clean_same}
use Rattle.laws_mend.specs.Kept.{equal-points, mended-clean, mended-vertices, mended-edges}
use Rattle.laws_mend.specs.Listed.{vertex-balance, edge-balance, entries-count}
use Rattle.laws_graph.specs.Reading.{points-count, edges-count}
use Rattle.laws_refusals.specs.Refusals.{done_none, refused_some}
use Rattle.laws_mend.specs.Faults.{Room, fault_is, is_fault}

-- ── a clean file ──

-- the same file, an empty list
abbrev pub unchanged : ℕ → ℕ → List ℕ → Mending
unchanged n l s = record { answer = done (length s, 0); file = padded 0 n s; list = padded 0 l [] }

pub clean-mend : (n l : ℕ) (s : List ℕ) → Bytes s → Clean s → length s ≤ n → mend n l s ≡ unchanged n l s
clean-mend n l s B K h =
    ap (λ (f : List ℕ). mending_by n l f (entries (map_of s).graph) (mend_fault n l s (length f) (length (entries (map_of s).graph)))) (clean_same s K B)
    ∙ ap (λ (es : List (ℕ × ℕ)). mending_by n l s es (mend_fault n l s (length s) (length es))) (clean-entries s K)
    ∙ ap (mending_by n l s []) (is_fault n l s (length s) 0 K.mendable (record { file = h; list = omega arith }))

-- "A file that passes the check comes out byte for byte the same with an empty list"
pub passes-mend : (n l : ℕ) (s : List ℕ) → Bytes s → fault s ≡ none → length s ≤ n → mend n l s ≡ unchanged n l s
passes-mend n l s B e h = clean-mend n l s B (passes-clean s e) h

-- ── what is done ──

take-front : (t r : List ℕ) → take (length t) (t ++ r) ≡ t
take-front [] r = refl
take-front (x ∷ t) r = ap (λ (z : List ℕ). x ∷ z) (take-front t r)

-- "with file and list left all zero"
pub refused-zero : (n l : ℕ) (s : List ℕ) (x : Refusal) → (mend n l s).answer ≡ refused x → mend n l s ≡ record { answer = refused x; file = padded 0 n []; list = padded 0 l [] }
refused-zero n l s x e =
    let file : List ℕ = mended (map_of s) in
    let es : List (ℕ × ℕ) = entries (map_of s).graph in
    ap (mending_by n l file es) (refused_some (length file, length es) x (mend_fault n l s (length file) (length es)) e)

-- done, with a bytes and b entries
module _ (n l : ℕ) (s : List ℕ) (B : Bytes s) (a b : ℕ) (d : (mend n l s).answer ≡ done (a, b)) where
  abbrev whole : List ℕ
  whole = mended (map_of s)

  abbrev lst : List (ℕ × ℕ)
  lst = entries (map_of s).graph

  abbrev fl : Option Refusal
  fl = mend_fault n l s (length (mended (map_of s))) (length (entries (map_of s).graph))

  inv : (mend_fault n l s (length (mended (map_of s))) (length (entries (map_of s).graph)) ≡ none) × (◌≡◌ {A = ℕ × ℕ} (length (mended (map_of s)), length (entries (map_of s).graph)) (a, b))
  inv = done_none (length whole, length lst) (a, b) fl d

  facts : Mendable s × Room n l (length (mended (map_of s))) (length (entries (map_of s).graph))
  facts = fault_is n l s (length whole) (length lst) inv.0

  pub done-mendable : Mendable s
  done-mendable = facts.0

  -- the first a bytes are the mended file, and the list its entries
  pub done-mended : take a (mend n l s).file ≡ mended (map_of s)
  done-mended =
      ap (λ (r : Option Refusal). take a (mending_by n l whole lst r).file) inv.0
      ∙ ap (λ (x : ℕ × ℕ). take x.0 (padded 0 n whole)) (sym inv.1) ∙ take-append_seam whole (replicate (n - length whole) 0)

  pub done-list : (mend n l s).list ≡ padded 0 l (gather (λ e. e.0 ∷ e.1 ∷ []) (entries (map_of s).graph))
  done-list = ap (λ (r : Option Refusal). (mending_by n l whole lst r).list) inv.0

  pub done-count : b ≡ length (entries (map_of s).graph)
  done-count = ap (λ (x : ℕ × ℕ). x.1) (sym inv.1)

  pub done-bytes : Bytes (take a (mend n l s).file)
  done-bytes = rw done-mended (file-bytes (length (kept_vertices (map_of s).graph)) (length (kept_edges (map_of s).graph)) (λ i. corner_of (map_of s).graph (get_or (kept_vertices (map_of s).graph) i 0))
      (λ i. edge_row (map_of s) (kept_vertices (map_of s).graph) (get_or (kept_edges (map_of s).graph) i 0)))

  pub done-clean : Clean (take a (mend n l s).file)
  done-clean = rw done-mended (mended-clean s done-mendable B)

  -- mending a mended file changes nothing and lists nothing
  pub mend-again : (j : ℕ) → mend n j (take a (mend n l s).file) ≡ record { answer = done (a, 0); file = (mend n l s).file; list = padded 0 j [] }
  mend-again j =
      clean-mend n j (take a (mend n l s).file) done-bytes done-clean (rw done-mended facts.1.file)
      ∙ (λ i. record { answer = done (long i, 0); file = same i; list = padded 0 j [] })
    where
      long : length (take a (mend n l s).file) ≡ a
      long = ap length done-mended ∙ ap (λ (x : ℕ × ℕ). x.0) inv.1

      same : padded 0 n (take a (mend n l s).file) ≡ (mend n l s).file
      same = ap (padded 0 n) done-mended ∙ ap (λ (r : Option Refusal). (mending_by n l whole lst r).file) (sym inv.0)

-- ── room that is always enough ──

-- the mended file is no longer than the file, and there are no more entries than vertices and edges
pub mended_short : (s : List ℕ) → Mendable s → Bytes s → length (mended (map_of s)) ≤ length s
mended_short s M B =
    let g : Graph = (map_of s).graph in
    let K = mended-clean s M B in
    omega (arith, K.mendable.form.length_is, M.form.length_is, mended-vertices s M B, mended-edges s M B, points-count s, edges-count s, vertex-balance g (equal-points s), edge-balance g)

pub entries_few : (s : List ℕ) → Mendable s → length (entries (map_of s).graph) ≤ map_vertices + map_edges
entries_few s M =
    let g : Graph = (map_of s).graph in
    omega (arith, entries-count g, vertex-balance g (equal-points s), edge-balance g, points-count s, edges-count s, M.form.few_vertices, M.form.few_edges)
