-- A digitised square with every trifle that 02 names, mended: what comes out is the square of S12, byte for byte, with the list of what was done. Then each refusal for
-- room, by one too short, and which of two faults is named. Assumes nothing.
use Rattle.std.specs.Prelude.{◌≡◌, refl, ◌∷◌, ◌++◌}
use Rattle.seq.specs.Seq.{true, List, [], ℕ}
use Rattle.paper.specs.Refusal.{given, answer, done, Answer}
use Rattle.paper.specs.Sample.{at, arc, map_file, zone}
use Rattle.paper.specs.Mend as mending
use Rattle.paper.specs.Mend.{mend}

-- vertices 4, 6 and 7 lie on 1, 0 and 0; edge 4 has no length once they are merged, edge 6 never had one; edge 5 is edge 0 the other way; vertex 2 has no edge
abbrev pub damaged : List ℕ
damaged =
    map_file (at 0 0 ∷ at 4 0 ∷ at 9 9 ∷ at 4 4 ∷ at 4 0 ∷ at 0 4 ∷ at 0 0 ∷ at 0 0 ∷ [])
    (arc 0 1 1 0 ∷ arc 4 3 1 0 ∷ arc 3 5 1 0 ∷ arc 5 7 1 0 ∷ arc 6 0 5 5 ∷ arc 1 0 8 9 ∷ arc 3 3 2 2 ∷ [])

pub damaged-mended : mend 59 16 damaged ≡ record {
  answer = done (57, 7);
  file = zone 0 0 4 1 ++ (0 ∷ 0 ∷ []);
  list = 1 ∷ 4 ∷ 1 ∷ 6 ∷ 1 ∷ 7 ∷ 2 ∷ 4 ∷ 2 ∷ 6 ∷ 3 ∷ 5 ∷ 4 ∷ 2 ∷ 0 ∷ 0 ∷ [];
}
unfolding mending.map_file
damaged-mended = refl

-- edge 1 names vertex 2, of which there is none; and vertex 1 is too far east as well
abbrev pub unnamed : ℕ → List ℕ
unnamed x = map_file (at 0 0 ∷ at x 0 ∷ []) (arc 0 1 0 0 ∷ arc 1 2 0 0 ∷ [])

abbrev answered : ℕ → ℕ → List ℕ → Answer (ℕ × ℕ)
answered n l s = (mend n l s).answer

pub damaged-refused : ◌≡◌ {A = List (Answer (ℕ × ℕ))}
    (answered 56 13 damaged ∷ answered 57 13 damaged ∷ answered 57 14 damaged ∷ answered 0 0 (unnamed 9) ∷ answered 0 0 (unnamed 30000) ∷ [])
    (answer (0, 0) (given 11 4 true) ∷ answer (0, 0) (given 11 5 true) ∷ done (57, 7) ∷ answer (0, 0) (given 7 1 true) ∷ answer (0, 0) (given 5 1 true) ∷ [])
unfolding mending.map_file
damaged-refused = refl
