-- Of Capped of specs/, what rests on its definitions.
use Rattle.std.specs.Prelude.{◌≡◌, refl, ◌⊎◌, ◌≤◌, ◌<◌, ◌&&◌, ◌∷◌, ◌+◌}
use Rattle.std.proofs.Common.{sym, ◌∙◌, ap, subst, inl, inr, arith, ltb-true, ltb-false}
use Rattle.seq.specs.Seq.{Bool, true, false, cond, List, [], none, some, ℕ, suc, ltb, length}
use Rattle.seq.specs.HowMany.{how_many}
use Rattle.paper.specs.Limits.{year_files, year_pairs}
use Rattle.paper.specs.Year.{Pair, gap_pair, Sheet, year_answer}
use Rattle.laws_year.specs.Step.{Tally, add_face, add_faces, State, start, or_first, add_read, add_unread, add_file, year_from}
use Rattle.laws_year.specs.Tallies.{face-grows}
use Rattle.laws_year.proofs.Run.{state-answer}
use Rattle.laws_year.specs.Capped.{Capped, Keeps, cap_face, capped, cap_faces, Agrees, cap_read, cap_unread, cap_file, CappedState, cap_from, cap_answer, cap_start, agrees-answer, start-agrees}

-- ── they agree with the tallies of all pairs ──

module _ (n : ℕ) where
  cap-step : (k : Capped) (ts new : List Tally) (c : Bool) → ltb year_pairs (length new) ≡ c → Keeps (cond c (record { tallies = ts; over = true }) (record { tallies = new; over = false })) new
  cap-step k ts new true e = inr (refl, ltb-true year_pairs (length new) e)
  cap-step k ts new false e = inl (refl, refl, ltb-false year_pairs (length new) e)

  face-keeps : (k : Capped) (ts : List Tally) (p : Pair) → Keeps k ts → Keeps (cap_face n k p) (add_face n ts p)
  face-keeps k ts p (inl (o, e, l)) =
      rw o (subst (λ (x : List Tally). Keeps (capped k.tallies (add_face n x p)) (add_face n ts p)) (sym e) (cap-step k k.tallies (add_face n ts p) (ltb year_pairs (length (add_face n ts p))) refl))
  face-keeps k ts p (inr (o, l)) = rw o (inr (refl, omega (arith, face-grows n ts p)))

  faces-keep : (k : Capped) (ts : List Tally) (ps : List Pair) → Keeps k ts → Keeps (cap_faces n k ps) (add_faces n ts ps)
  faces-keep k ts [] h = h
  faces-keep k ts (p ∷ ps) h = faces-keep (cap_face n k p) (add_face n ts p) ps (face-keeps k ts p h)

module _ (st : CappedState) (full : State) (A : Agrees st full) where
  read-agrees : (x : Sheet) → Agrees (cap_read st x) (add_read full x)
  read-agrees none = record { table = A.table; gaps = A.gaps; files = ap suc A.files; bad = λ i. or_first (A.bad i) (A.files i) }
  read-agrees (some ps) = record {
    table = subst (λ (k : ℕ). Keeps (cap_faces (suc k) st.table ps) (add_faces (suc full.files) full.tallies ps)) (sym A.files) (faces-keep (suc full.files) st.table full.tallies ps A.table);
    gaps = ap (λ (k : ℕ). k + how_many gap_pair ps) A.gaps;
    files = ap suc A.files;
    bad = A.bad;
  }

  unread-agrees : Agrees (cap_unread st) (add_unread full)
  unread-agrees = record { table = A.table; gaps = A.gaps; files = ap suc A.files; bad = A.bad }

  pub file-agrees : (x : Sheet) → Agrees (cap_file st x) (add_file full x)
  file-agrees x = subst (λ (k : ℕ). Agrees (cond (ltb k year_files) (cap_read st x) (cap_unread st)) (add_file full x)) (sym A.files) (go (ltb full.files year_files))
    where
      go : (c : Bool) → Agrees (cond c (cap_read st x) (cap_unread st)) (cond c (add_read full x) (add_unread full))
      go true = read-agrees x
      go false = unread-agrees

pub from_agrees : (st : CappedState) (full : State) (xs : List Sheet) → Agrees st full → Agrees (cap_from st xs) (year_from full xs)
from_agrees st full [] A = A
from_agrees st full (x ∷ xs) A = from_agrees (cap_file st x) (add_file full x) xs (file-agrees st full A x)

-- ── and so the answer is the same ──

pub capped-answer : (xs : List Sheet) (zones blocks : List ℕ) → cap_answer (cap_from cap_start xs) zones blocks ≡ year_answer xs zones blocks
capped-answer xs zones blocks = agrees-answer (cap_from cap_start xs) (year_from start xs) zones blocks (from_agrees cap_start start xs start-agrees) ∙ state-answer xs zones blocks
