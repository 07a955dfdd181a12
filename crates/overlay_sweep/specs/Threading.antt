-- A stop remembered of the edges through it (`Threading`): the cells name exactly the edges that it is on (`named_on`). So the threads of the stops below i become those of the stops below i + 1
-- (`spun_turns`). Assumes nothing.
use Rattle.std.specs.Prelude.{◌≡◌, refl, ◌⊎◌, ◌≤◌, ◌<◌, ◌||◌, ◌+◌, ◌-◌, ◌*◌}
use Rattle.std.proofs.Common.{sym, ◌∙◌, ap, subst, inl, inr, ⊎_elim, arith}
use Rattle.seq.specs.Seq.{Bool, true, List, ℤ, pos, ℕ, length, get_or, cell, row_stored}
use Rattle.seq.specs.Terms.{Among}
use Rattle.seq.specs.Table.{among-table, table-among}
use Rattle.seq.specs.Cells.{row_same, row_other}
use Rattle.seq.specs.Tests.{bool-ext, or_l, or_r, or_cases}
use Rattle.paper.specs.Plane.{Pt, on_seg}
use Rattle.laws_plane.specs.Edges.{On, on_is, is_on}
use Rattle.graph.specs.Flat.{the_point_at, carrier_at}
use Rattle.overlay_cut.specs.Points.{point_row, read-ext}
use Rattle.overlay_cut.specs.Threads.{Chains, ThreadedIf, Spools, named_in, RememberedIf}
use Rattle.overlay_cut.specs.Laws.Threading.{named_in_lem, in_named}
use Rattle.overlay_cut.specs.Laws.Remembering.{threads_none, threads-points, threads-step_if}
use Rattle.overlay_sweep.specs.Fans.{numbers_from}
use Rattle.overlay_sweep.specs.Meets.{Meets}

-- the edges that stand in the cells a to b of st or w to s of ws
abbrev pub at_stop : List ℕ → ℕ → ℕ → List ℕ → ℕ → ℕ → ℕ → Bool
at_stop st a b ws w s k = named_in st a (b - a) k || named_in ws w (s - w) k

-- tables for threads, with room for so many nodes, of which t are in use
pub record Wound (e room : ℕ) (last ns : List ℕ) (t : ℕ) : Type 0 where
  pub spools : Spools e room last ns
  pub chains : t < room → Chains e last ns t
  pub within : t ≤ room

-- stop v, at p, remembered of the edges that the tables have there
pub record Threading (cs : List ℤ) (e room v : ℕ) (ws st : List ℕ) (p : Pt) (c w s : ℕ) (last ns : List ℕ) (t : ℕ) (last' ns' : List ℕ) (t' : ℕ) : Type 0 where
  pub from : ℕ
  pub to : ℕ
  pub meets : Meets cs e ws st p c w from to s
  pub remembered : RememberedIf e room v (at_stop st from to ws w s) last ns t last' ns' t'
  pub within : t' ≤ room

named-among : (t : List ℕ) (a n k : ℕ) → named_in t a n k ≡ true → Among k (numbers_from t a n)
named-among t a n k h = let (i, l, q) = in_named t a n k h in subst (λ (z : ℕ). Among z (numbers_from t a n)) q (among-table (λ j. get_or t (a + j) 0) n i l)

among-named : (t : List ℕ) (a n k : ℕ) → Among k (numbers_from t a n) → named_in t a n k ≡ true
among-named t a n k h = let (i, l, q) = table-among (λ j. get_or t (a + j) 0) n k h in named_in_lem t a n k i l q

-- the cells name k exactly if p is on it
pub named_on : (cs : List ℤ) (st ws : List ℕ) (a b w s k : ℕ) (p : Pt) → (Among k (numbers_from st a (b - a)) ⊎ Among k (numbers_from ws w (s - w)) → On (carrier_at cs k) p)
    → (On (carrier_at cs k) p → Among k (numbers_from st a (b - a)) ⊎ Among k (numbers_from ws w (s - w))) → at_stop st a b ws w s k ≡ on_seg (carrier_at cs k) p
named_on cs st ws a b w s k p f g =
    bool-ext (at_stop st a b ws w s k) (on_seg (carrier_at cs k) p)
    (λ h. is_on (carrier_at cs k) p (f (⊎_elim (λ i. inl (named-among st a (b - a) k i)) (λ i. inr (named-among ws w (s - w) k i)) (or_cases (named_in st a (b - a) k) (named_in ws w (s - w) k) h))))
    (λ h. ⊎_elim (λ i. or_l (named_in ws w (s - w) k) (among-named st a (b - a) k i)) (λ i. or_r (named_in st a (b - a) k) (among-named ws w (s - w) k i)) (g (on_is (carrier_at cs k) p h)))

-- tables as long as they were
pub spools-kept : {e room : ℕ} {last ns last' ns' : List ℕ} → Spools e room last ns → length last' ≡ length last → length ns' ≡ length ns → Spools e room last' ns'
spools-kept S a b = let edges = S.edges in let nodes = S.nodes in record { edges = omega arith; nodes = omega arith; few = S.few }

-- ── from stop to stop ──

-- no stop is on a thread yet, and there is room for so many nodes
pub record Unthreaded (e room : ℕ) (last ns : List ℕ) : Type 0 where
  pub spools : Spools e room last ns
  pub none : (k : ℕ) → k < e → get_or last k 0 ≡ 0

-- the threads of the stops below i, in m nodes, in tables made of last₀ and ns₀
pub record Spun (cs : List ℤ) (e room : ℕ) (last₀ last ns₀ ns : List ℕ) (out : List ℤ) (m i : ℕ) : Type 0 where
  pub spools : Spools e room last ns
  pub within : m ≤ room
  pub kept_l : length last ≡ length last₀
  pub kept_n : length ns ≡ length ns₀
  pub threads : ThreadedIf out cs e last ns room m i

pub spun_starts : (cs : List ℤ) (e room : ℕ) (last ns : List ℕ) (out : List ℤ) → Unthreaded e room last ns → Spun cs e room last last ns ns out 0 0
spun_starts cs e room last ns out U = record { spools = U.spools; within = omega arith; kept_l = refl; kept_n = refl; threads = λ h. threads_none out cs e last ns U.none }

-- a row stored
module _ (t : List ℤ) (n : ℕ) (p : Pt) where
  stored_below : (v : ℕ) → v < n → the_point_at t v ≡ the_point_at (row_stored 4 t n (point_row p)) v
  stored_below v h =
      read-ext (λ j. cell (pos 0) 4 t v j) (λ j. cell (pos 0) 4 (row_stored 4 t n (point_row p)) v j) (λ j q. sym (row_other 4 t n (point_row p) refl v j (pos 0) q (λ e. omega arith)))

  stored_at : 4 * n + 4 ≤ length t → the_point_at (row_stored 4 t n (point_row p)) n ≡ p
  stored_at h = read-ext (λ j. cell (pos 0) 4 (row_stored 4 t n (point_row p)) n j) (λ j. get_or (point_row p) j (pos 0)) (λ j q. row_same 4 t n (point_row p) refl j (pos 0) q h)

module _ {cs : List ℤ} {e room : ℕ} {ws st : List ℕ} {p : Pt} {c w s : ℕ} {last₀ last ns₀ ns : List ℕ} {out : List ℤ} {m i : ℕ} {last' ns' : List ℕ} {m' : ℕ} (S : Spun cs e room last₀ last ns₀ ns out m i)
    (T : Threading cs e room i ws st p c w s last ns m last' ns' m') where
  abbrev out' : List ℤ
  out' = row_stored 4 out i (point_row p)

  stepped : 4 * i + 4 ≤ length out → ((k : ℕ) → k < e → at_stop st T.from T.to ws w s k ≡ on_seg (carrier_at cs k) p) → ThreadedIf out' cs e last' ns' room m' (i + 1)
  stepped h f =
      threads-step_if {ps = out'} {cs = cs} {e = e} {room = room} {last = last} {ns = ns} {t = m} {i = i} {named = at_stop st T.from T.to ws w s} {last' = last'} {ns' = ns'} {t' = m'}
      (λ q. threads-points {ps = out} {qs = out'} (stored_below out i p) (S.threads q)) T.remembered (λ k l. f k l ∙ ap (on_seg (carrier_at cs k)) (sym (stored_at out i p h)))

  pub spun_turns : 4 * i + 4 ≤ length out → ((k : ℕ) → k < e → at_stop st T.from T.to ws w s k ≡ on_seg (carrier_at cs k) p) → (u : List ℤ) → u ≡ out' → length last' ≡ length last → length ns' ≡ length ns
      → Spun cs e room last₀ last' ns₀ ns' u m' (i + 1)
  spun_turns h f u o a b = record {
    spools = spools-kept S.spools a b;
    within = T.within;
    kept_l = a ∙ S.kept_l;
    kept_n = b ∙ S.kept_n;
    threads = subst (λ (x : List ℤ). ThreadedIf x cs e last' ns' room m' (i + 1)) (sym o) (stepped h f);
  }
