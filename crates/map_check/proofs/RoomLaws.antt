-- Room for the map of a file: how many rows need room (`stored_all`, `stored_within`); more room (`room_within`); tables for any map have room for the map of any file (`any_room`);
-- cleared tables. Assumes nothing.
use Rattle.std.specs.Prelude.{◌*◌}
use mathlib.Core.Path.{◌≡◌, refl, ap}
use Prim.Native.Nat.{◌≤◌}
use native.Mathlib.Omega.{arith}
use lib.ListN.{length-replicate}
use Rattle.seq.specs.Seq.{Option, none, some, List, ℕ, replicate, ℤ, pos}
use Rattle.paper.specs.Limits.{map_vertices, map_edges}
use Rattle.paper.specs.Refusal.{Refusal, first_of}
use Rattle.paper.specs.Map.{vertex_count, edges_in, form_faults}
use Rattle.map_check.specs.Held.{MapRoom, unless_refused, stored}
use Rattle.map_check.proofs.KeptLaws.{few_vertices, few_edges}

-- ── rows that need room ──

unless_within : (o : Option Refusal) (n limit : ℕ) → (o ≡ none → n ≤ limit) → unless_refused o n ≤ limit
unless_within none n limit h = h refl
unless_within (some r) n limit h = omega arith

module _ (count : List ℕ → ℕ) (s : List ℕ) where
  -- all, where rules 1 to 4 find nothing
  pub stored_all : first_of (form_faults s) ≡ none → stored count s ≡ count s
  unfolding stored
  stored_all form = ap (λ (o : Option Refusal). unless_refused o (count s)) form

  pub stored_within : (limit : ℕ) → (first_of (form_faults s) ≡ none → count s ≤ limit) → stored count s ≤ limit
  unfolding stored
  stored_within limit h = unless_within (first_of (form_faults s)) (count s) limit h

  pub stored-counted : stored count s ≤ count s
  stored-counted = stored_within (count s) (λ form. omega arith)

module _ (s : List ℕ) where
  pub few_stored-vertices : stored vertex_count s ≤ map_vertices
  few_stored-vertices = stored_within vertex_count s map_vertices (few_vertices s)

  pub few_stored-edges : stored edges_in s ≤ map_edges
  few_stored-edges = stored_within edges_in s map_edges (few_edges s)

-- ── room ──

pub room_within : {v e n m : ℕ} {ps : List ℤ} {os : List ℕ} {cs : List ℤ} {ls : List ℕ} → MapRoom n m ps os cs ls → v ≤ n → e ≤ m → MapRoom v e ps os cs ls
room_within R p q = record { corners = omega (arith, R.corners); origins = omega (arith, R.origins); carriers = omega (arith, R.carriers); labels = omega (arith, R.labels) }

pub any_room : (s : List ℕ) {ps : List ℤ} {os : List ℕ} {cs : List ℤ} {ls : List ℕ} → MapRoom map_vertices map_edges ps os cs ls → MapRoom (stored vertex_count s) (stored edges_in s) ps os cs ls
any_room s R = room_within R (few_stored-vertices s) (few_stored-edges s)

pub cleared_room : (v e : ℕ) → MapRoom v e (replicate (4 * v) (pos 0)) (replicate (2 * e) 0) (replicate (4 * e) (pos 0)) (replicate (2 * e) 0)
cleared_room v e = record {
  corners = omega (arith, length-replicate (4 * v) (pos 0));
  origins = omega (arith, length-replicate {A = ℕ} (2 * e) 0);
  carriers = omega (arith, length-replicate (4 * e) (pos 0));
  labels = omega (arith, length-replicate {A = ℕ} (2 * e) 0);
}
