-- The pieces of an edge put into a table along its thread, the last first: what is left to put in, put into the table, gives the whole. Then threads of the vertices on each edge: the pieces along
-- them are those of the edges. Assumes nothing.
use Rattle.std.specs.Prelude.{◌≡◌, refl, ◌≤◌, ◌<◌, ◌∷◌, ◌++◌, ◌+◌, ◌-◌, ◌*◌}
use Rattle.std.proofs.Common.{sym, ◌∙◌, ap, subst, append_assoc, append-nil, arith, lt-ltb, le-ltb}
use Rattle.seq.specs.Seq.{Bool, true, false, cond, List, [], Option, ℕ, zero, suc, ℤ, ltb, get_or, select}
use Rattle.seq.specs.Rows.{rows_ext}
use Rattle.paper.specs.Limits.{maps}
use Rattle.paper.specs.Plane.{on_seg}
use Rattle.paper.specs.Pieces.{Piece, only, links, links_from, earlier, joined}
use Rattle.graph.specs.Flat.{the_point_at, carrier_at}
use Rattle.overlay_cut.specs.Capped.{put_all-++}
use Rattle.overlay_cut.specs.Links.{pieced}
use Rattle.overlay_cut.specs.Cutting.{puts, upper, links-join}
use Rattle.overlay_cut.specs.Cuts.{Starts, start_of, edges_from, cut_row, cut_part, cut_all, part_within}
use Rattle.overlay_cut.specs.Threads.{down, thread, Threaded, Spools, rising, Under, Thread, Strung, thread_row, thread_part, thread_all}
use Rattle.overlay_cut.specs.Laws.Threading.{along-enough}

-- ── along a thread ──

-- the vertices of l are left to link; `next` is the one above, or n
pub record Stringing (cap n : ℕ) (s : List (Option ℕ)) (total : List Piece) (t : List ℕ) (c : ℕ) (l : List ℕ) (next : ℕ) : Type 0 where
  pub is : puts cap (pieced t c) (links s (rising l ++ upper n next)) ≡ total

module _ (cap n : ℕ) (s : List (Option ℕ)) where
  pub string_starts : (t : List ℕ) (c : ℕ) (l : List ℕ) → Stringing cap n s (puts cap (pieced t c) (links s (rising l))) t c l n
  string_starts t c l =
      let e : rising l ++ upper n n ≡ rising l = rw (le-ltb n n (omega arith)) (append-nil (rising l)) in
      record { is = ap (λ (z : List ℕ). puts cap (pieced t c) (links s z)) e }

  module _ {total : List Piece} {t : List ℕ} {c : ℕ} {l : List ℕ} {next : ℕ} (r : Stringing cap n s total t c l next) where
    -- the next of them, linked to the one above
    pub string_turns : (v : ℕ) (rest : List ℕ) (u : List ℕ) (d : ℕ) → l ≡ v ∷ rest → v < n → pieced u d ≡ puts cap (pieced t c) (links_from s v (upper n next)) → Stringing cap n s total u d rest v
    string_turns v rest u d q h k =
        let g : upper n v ≡ v ∷ [] = rw (lt-ltb v n h) in
        let a : rising l ++ upper n next ≡ rising rest ++ (v ∷ upper n next) = ap (λ (z : List ℕ). rising z ++ upper n next) q ∙ append_assoc (rising rest) (v ∷ []) (upper n next) in
        record {
          is = ap (λ (z : List ℕ). puts cap (pieced u d) (links s (rising rest ++ z))) g ∙ ap (λ (z : List Piece). puts cap z (links s (rising rest ++ (v ∷ [])))) k
              ∙ sym (put_all-++ earlier joined cap (pieced t c) (links s (rising rest ++ (v ∷ []))) (links_from s v (upper n next)))
              ∙ ap (puts cap (pieced t c)) (sym (links-join s (rising rest) v (upper n next)) ∙ ap (links s) (sym a)) ∙ r.is;
        }

    -- none is left
    pub string_ends : l ≡ [] → pieced t c ≡ total
    string_ends h =
        ap (puts cap (pieced t c)) (sym (one (ltb next n))) ∙ ap (λ (z : List ℕ). puts cap (pieced t c) (links s (rising z ++ upper n next))) (sym h) ∙ r.is
      where
        one : (b : Bool) → links s (cond b (next ∷ []) []) ≡ []
        one true = refl
        one false = refl

-- a thread ends at link 0
pub thread_ends : (ns : List ℕ) (x : ℕ) → x ≤ 0 → thread ns x ≡ []
thread_ends ns x h = let e : x ≡ 0 = omega arith in ap (thread ns) e

module _ {ns : List ℕ} {x n : ℕ} (T : Thread ns x n) where
  -- its vertex, and the thread from the next link on
  pub thread_next : 0 < x → thread ns x ≡ get_or ns (2 * (x - 1)) 0 ∷ thread ns (get_or ns (2 * (x - 1) + 1) 0)
  thread_next h =
      let e : x ≡ suc (x - 1) = omega arith in
      let y = get_or ns (2 * (x - 1) + 1) 0 in
      let f = T.falls (x - 1) (omega arith) in
      ap (thread ns) e ∙ ap (λ (z : List ℕ). get_or ns (2 * (x - 1)) 0 ∷ z) (along-enough ns x T.falls (x - 1) y y (omega arith) (omega arith) (omega arith))

  pub next_falls : 0 < x → get_or ns (2 * (x - 1) + 1) 0 < x
  next_falls h = omega (arith, T.falls (x - 1) (omega arith))

  under_next : 0 < x → Under n (get_or ns (2 * (x - 1)) 0 ∷ thread ns (get_or ns (2 * (x - 1) + 1) 0))
  under_next h = subst (Under n) (thread_next h) T.under

  pub next_under : 0 < x → get_or ns (2 * (x - 1)) 0 < n
  next_under h = (under_next h).0

  pub next_thread : 0 < x → Thread ns (get_or ns (2 * (x - 1) + 1) 0) n
  next_thread h = record { falls = λ r l. T.falls r (omega (arith, next_falls h)); long = omega (arith, next_falls h, T.long); under = (under_next h).1 }

-- ── the vertices on the edges ──

rising_down : (on : ℕ → Bool) (n : ℕ) → rising (down on n) ≡ select on n
rising_down on zero = refl
rising_down on (suc n) = by (on n) (rising_down on n)
  where
    by : (b : Bool) → rising (down on n) ≡ select on n → rising (cond b (n ∷ down on n) (down on n)) ≡ cond b (select on n ++ (n ∷ [])) (select on n)
    by true r = ap (λ (l : List ℕ). l ++ (n ∷ [])) r
    by false r = r

down_below : (on : ℕ → Bool) (i n : ℕ) → i ≤ n → Under n (down on i)
down_below on zero n h = tt
down_below on (suc i) n h = by (on i) (down_below on i n (omega arith))
  where
    by : (b : Bool) → Under n (down on i) → Under n (cond b (i ∷ down on i) (down on i))
    by true r = (omega arith, r)
    by false r = r

module _ {ps cs : List ℤ} {e : ℕ} {last ns : List ℕ} {t n : ℕ} (T : Threaded ps cs e last ns t n) where
  pub threads-strung : {room : ℕ} → Spools e room last ns → t < room → Strung e n last ns
  threads-strung S h = record {
    edges = S.edges;
    threads = λ k l. record {
      falls = λ r q. T.chains.falls r (omega (arith, T.chains.lasts k l));
      long = omega (arith, T.chains.lasts k l, S.nodes);
      under = subst (Under n) (sym (T.is k l)) (down_below (λ v. on_seg (carrier_at cs k) (the_point_at ps v)) n n (omega arith));
    };
  }

  thread-row : (a m k : ℕ) → a + k < e → thread_row last ns a m k ≡ cut_row ps n cs a m k
  thread-row a m k h = ap (λ (l : List ℕ). links (only maps m k) l) (ap rising (T.is (a + k) h) ∙ rising_down (λ v. on_seg (carrier_at cs (a + k)) (the_point_at ps v)) n)

  pub threads_all : {st : List ℕ} → Starts st cs → e ≡ start_of st maps → thread_all last ns st ≡ cut_all ps n cs st
  threads_all {st} S q =
      rows_ext (thread_part last ns st) (cut_part ps n cs st) maps
      (λ m l. rows_ext (thread_row last ns (start_of st m) m) (cut_row ps n cs (start_of st m) m) (edges_from st m) (λ k h. thread-row (start_of st m) m k (omega (arith, part_within S m l))))

-- the first of the edges
pub strung-part : {e n : ℕ} {last ns : List ℕ} → Strung e n last ns → (d : ℕ) → d ≤ e → Strung d n last ns
strung-part S d h = record { edges = omega (arith, S.edges); threads = λ k l. S.threads k (omega arith) }
