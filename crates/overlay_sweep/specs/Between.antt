-- Between two stops of the line: what holds (`Between`), that a turn keeps it (`between_turns`), that the next search may be made (`between_steady`), which edges the next stop is on (`between_met`), and what is known at the end (`Outcome`). Assumes nothing.
use Rattle.std.specs.Prelude.{◌≡◌, refl, ◌≤◌, ◌<◌, ◌∷◌, ◌++◌, ◌+◌, ◌-◌, ◌*◌}
use Rattle.std.proofs.Common.{sym, ◌∙◌, ap, subst, append_assoc, arith, length-append, take_all, length-take-le}
use Rattle.std.proofs.Math.Decide.{dec_lt}
use Rattle.seq.specs.Seq.{List, [], ℤ, ℕ, length, get_or, table, insert_by, row_stored}
use Rattle.seq.specs.Terms.{Among}
use Rattle.seq.specs.Members.{among-map}
use Rattle.seq.specs.Table.{length-table, table-ext, among-table}
use Rattle.paper.specs.Plane.{Pt, before, on_seg}
use Rattle.graph.specs.Flat.{the_point_at, carrier_at}
use Rattle.overlay_cut.specs.Capped.{Cap, whole, capped-step, insert_slow, cap-whole, cap_full}
use Rattle.overlay_cut.specs.Rooms.{vertex_rows}
use Rattle.overlay_cut.specs.Points.{points_of, point_row}
use Rattle.overlay_cut.specs.Collecting.{row_appended}
use Rattle.seq.specs.Slotted.{slots}
use Rattle.laws_sweep.specs.Sweep.{Strand, lo, sooner, sweep, put, found}
use Rattle.seq.specs.Search.{Steady}
use Rattle.laws_sweep.specs.Stops.{start_by, begins}
use Rattle.laws_sweep.proofs.Stops.{stops-swept}
use Rattle.laws_sweep.specs.Room.{met_room, met_all}
use Rattle.laws_sweep.specs.Scene.{Scene, State}
use Rattle.laws_sweep.specs.Waiting.{Waiting, waits, waits_on}
use Rattle.laws_sweep.specs.Next.{v_ahead, v_real, queue_next, queue-done}
use Rattle.laws_sweep.proofs.Step.{stepped}
use Rattle.overlay_sweep.specs.Numbers.{numbers_in}
use Rattle.overlay_sweep.specs.Fans.{numbers_from}
use Rattle.overlay_sweep.specs.Falling.{falling_first, length-falling}
use Rattle.overlay_sweep.specs.Queue.{queue_of}
use Rattle.overlay_sweep.specs.Ahead.{strand_at, queued_all}
use Rattle.overlay_sweep.specs.Sides.{right_at, sooner_at}
use Rattle.overlay_sweep.specs.Laws.Mapped.{slots_map}
use Rattle.overlay_sweep.specs.Turned.{strands_in, Turned, turned_at}
use Rattle.overlay_sweep.specs.Meets.{Meets}
use Rattle.overlay_sweep.specs.Numbered.{Numbered, numbered_starts, numbered_turns, met_on, on_met}
use Rattle.overlay_sweep.specs.Threading.{at_stop, named_on}
use Rattle.overlay_sweep.specs.Laws.Met.{right_steady}

-- the edges of the tables
abbrev pub edges_in : List ℤ → ℕ → List ℕ → List Strand
edges_in cs e starts = strands_in cs starts (table (λ i. i) e)

cap-put : (xs l : List Pt) → length l ≤ vertex_rows → Cap vertex_rows (queued_all xs l) (put xs l)
cap-put [] l h = whole refl h
cap-put (x ∷ xs) l h = capped-step vertex_rows (insert_by before (λ q r. r) x) (insert_slow before (λ q r. r) x) (queued_all xs l) (put xs l) (cap-put xs l h)

-- what the sweep answers: all of l, or that there are more than the overlay may have
pub data Outcome (l : List Pt) (t : List ℤ) (r : ℕ) : Type 0 where
  all : r < vertex_rows → points_of t r ≡ l → Outcome l t r
  more : r ≡ vertex_rows → vertex_rows ≤ length l → Outcome l t r

module _ (cs : List ℤ) (e : ℕ) (starts : List ℕ) (corners stops : List Pt) (S : Scene (edges_in cs e starts) corners stops) (ws : List ℕ) where
  abbrev es : List Strand
  es = edges_in cs e starts

  in_es : (k : ℕ) → k < e → Among (strand_at cs starts k) es
  in_es k l = among-map (strand_at cs starts) k (table (λ i. i) e) (among-table (λ i. i) e k l)

  -- before stop i, the line at p
  pub record Between (st : List ℕ) (c w : ℕ) (t : List ℤ) (n : ℕ) (out : List ℤ) (i : ℕ) : Type 0 where
    pub p : Pt
    pub met : List Pt
    pub left : List Pt
    pub queue : List Pt
    pub state : State es corners stops p left queue (strands_in cs starts (numbers_in st c))
    pub waiting : Waiting es p (strands_in cs starts (numbers_from ws w (e - w)))
    pub met_is : stops ≡ met ++ left
    pub met-rows : points_of out i ≡ met
    pub numbered : Numbered cs e starts ws p st c w
    pub rows : Cap vertex_rows (queue_of t n) queue

  -- the next stop is the last row
  module _ (st : List ℕ) (c : ℕ) (t : List ℤ) (n : ℕ) (more : 0 < n) where
    abbrev s : List Strand
    s = strands_in cs starts (numbers_in st c)

    module _ (p : Pt) (left queue : List Pt) (I : State es corners stops p left queue s) (r : queue_of t n ≡ queue) where
      rows_at : the_point_at t (n - 1) ∷ queue_of t (n - 1) ≡ queue
      rows_at = sym (falling_first (the_point_at t) n more) ∙ r

      none_left : left ≡ [] → ⊥
      none_left f =
          let J = subst (λ (l : List Pt). State es corners stops p l queue s) f I in
          omega (arith, ap length (rows_at ∙ queue-done es corners stops p queue s J))

    module _ (p v : Pt) (vs queue : List Pt) (I : State es corners stops p (v ∷ vs) queue s) (r : queue_of t n ≡ queue) where
      pub next : (rest : List Pt) × (queue ≡ v ∷ rest)
      next = queue_next es corners stops S p v vs queue s I

      both : the_point_at t (n - 1) ∷ queue_of t (n - 1) ≡ v ∷ next.0
      both = rows_at p (v ∷ vs) queue I r ∙ next.1

      pub at_v : the_point_at t (n - 1) ≡ v
      at_v = cc both

      pub rest_is : queue_of t (n - 1) ≡ next.0
      rest_is = cc both

      pub next_state : State es corners stops p (v ∷ vs) (v ∷ queue_of t (n - 1)) s
      next_state = subst (λ (l : List Pt). State es corners stops p (v ∷ vs) (v ∷ l) s) (sym rest_is) (subst (λ (l : List Pt). State es corners stops p (v ∷ vs) l s) next.1 I)

  module _ (st st' : List ℕ) (c w c' w' : ℕ) (t u : List ℤ) (n n' : ℕ) (out : List ℤ) (i : ℕ) (few : n < vertex_rows) (more : 0 < n) (room : 4 * i + 4 ≤ length out)
      (z : Pt) (at-z : z ≡ the_point_at t (n - 1)) (T : Turned cs e starts z ws st c w t (n - 1) st' c' w' u n') (out' : List ℤ) (o : out' ≡ row_stored 4 out i (point_row z)) where
    abbrev q : List Strand
    q = strands_in cs starts (numbers_from ws w (e - w))

    step : (p : Pt) (met left queue : List Pt) → State es corners stops p left queue (s st c t n more) → Waiting es p q → stops ≡ met ++ left → points_of out i ≡ met → Numbered cs e starts ws p st c w → queue_of t n ≡ queue → Between st' c' w' u n' out' (i + 1)
    step p met [] queue I L f k N r = absurd (none_left st c t n more p [] queue I r refl)
    step p met (v ∷ vs) queue I L f k N r = record {
      p = v;
      met = met ++ (v ∷ []);
      left = vs;
      queue = put F rest;
      state = state';
      waiting = waiting';
      met_is = f ∙ sym (append_assoc met (v ∷ []) vs);
      met-rows = ap (λ (l : List ℤ). points_of l (i + 1)) o ∙ row_appended out i z room ∙ (λ j. k j ++ (is_v j ∷ []));
      numbered = numbered_turns cs e starts ws p v I.real (v_real es corners stops S p v vs queue (s st c t n more) I) (v_ahead es corners stops S p v vs queue (s st c t n more) I) M
          (λ x y. (state'.cut x y).started) (λ x y. (waiting'.from x y).1) N;
      rows = subst (λ (l : List Pt). Cap vertex_rows l (put F rest)) (sym M.points_is.is) (cap-put F rest (omega (arith, length-falling (the_point_at t) (n - 1))));
    }
      where
        is_v : z ≡ v
        is_v = at-z ∙ at_v st c t n more p v vs queue I r

        rest : List Pt
        rest = queue_of t (n - 1)

        J : State es corners stops p (v ∷ vs) (v ∷ rest) (s st c t n more)
        J = next_state st c t n more p v vs queue I r

        M : Turned cs e starts v ws st c w t (n - 1) st' c' w' u n'
        M = turned_at is_v T

        F : List Pt
        F = found q v (s st c t n more)

        state' : State es corners stops v vs (put F rest) (strands_in cs starts (numbers_in st' c'))
        state' = subst (λ (l : List Strand). State es corners stops v vs (put F rest) l) (sym M.status_is) (stepped es corners stops S p v vs rest (s st c t n more) J q L)

        waiting' : Waiting es v (strands_in cs starts (numbers_from ws w' (e - w')))
        waiting' = subst (Waiting es v) (sym M.waits_is) (waits_on es corners stops S p v vs (v ∷ rest) (s st c t n more) J q L)

    pub between_turns : Between st c w t n out i → Between st' c' w' u n' out' (i + 1)
    between_turns B = step B.p B.met B.left B.queue B.state B.waiting B.met_is B.met-rows B.numbered (cap-whole B.rows (omega (arith, length-falling (the_point_at t) n)))

  -- the search by halves may be made
  module _ (st : List ℕ) (c w : ℕ) (t : List ℤ) (n : ℕ) (out : List ℤ) (i : ℕ) (few : n < vertex_rows) (more : 0 < n) where
    steady_by_left : (p : Pt) (left queue : List Pt) → State es corners stops p left queue (s st c t n more) → queue_of t n ≡ queue → Steady (right_at cs st (the_point_at t (n - 1))) c
    steady_by_left p [] queue I r = absurd (none_left st c t n more p [] queue I r refl)
    steady_by_left p (v ∷ vs) queue I r =
        subst (λ (x : Pt). Steady (right_at cs st x) c) (sym (at_v st c t n more p v vs queue I r)) (right_steady cs starts st c es corners stops S p v vs queue I)

    pub between_steady : Between st c w t n out i → Steady (right_at cs st (the_point_at t (n - 1))) c
    between_steady B = steady_by_left B.p B.left B.queue B.state (cap-whole B.rows (omega (arith, length-falling (the_point_at t) n)))

    -- the edges that the tables have at the next stop are those that it is on
    module _ (a b x : ℕ) (M : Meets cs e ws st (the_point_at t (n - 1)) c w a b x) (k : ℕ) (l : k < e) where
      met_by_left : (p : Pt) (left queue : List Pt) → State es corners stops p left queue (s st c t n more) → Waiting es p (strands_in cs starts (numbers_from ws w (e - w))) → Numbered cs e starts ws p st c w → queue_of t n ≡ queue
          → at_stop st a b ws w x k ≡ on_seg (carrier_at cs k) (the_point_at t (n - 1))
      met_by_left p [] queue I L N r = absurd (none_left st c t n more p [] queue I r refl)
      met_by_left p (v ∷ vs) queue I L N r =
          let f = at_v st c t n more p v vs queue I r in
          let J = next_state st c t n more p v vs queue I r in
          let D = subst (λ (y : Pt). Meets cs e ws st y c w a b x) f M in
          named_on cs st ws a b w x k v (met_on cs e starts ws es in_es corners stops S p v vs (queue_of t (n - 1)) st c w a b x J L N D k l)
          (on_met cs e starts ws es in_es corners stops S p v vs (queue_of t (n - 1)) st c w a b x J L N D k l) ∙ ap (on_seg (carrier_at cs k)) (sym f)

      pub between_met : Between st c w t n out i → at_stop st a b ws w x k ≡ on_seg (carrier_at cs k) (the_point_at t (n - 1))
      between_met B = met_by_left B.p B.left B.queue B.state B.waiting B.numbered (cap-whole B.rows (omega (arith, length-falling (the_point_at t) n)))

  -- ── the start and the end ──

  pub between_starts : (st : List ℕ) (t : List ℤ) (n : ℕ) (out : List ℤ) → numbers_in ws e ≡ slots (sooner_at cs) [] (table (λ i. i) e) → Cap vertex_rows (queue_of t n) corners → Between st 0 0 t n out 0
  between_starts st t n out h r =
      let (p, l, b) = begins es corners stops S stops refl in
      let k : e - 0 ≡ e = omega arith in
      let f : strands_in cs starts (numbers_from ws 0 (e - 0)) ≡ slots sooner [] es =
      ap (λ (j : ℕ). strands_in cs starts (numbers_from ws 0 j)) k
      ∙ ap (strands_in cs starts) (table-ext (λ i. get_or ws (0 + i) 0) (λ i. get_or ws i 0) e (λ i l. let q : 0 + i ≡ i = omega arith in ap (λ (j : ℕ). get_or ws j 0) q) ∙ h)
      ∙ slots_map (strand_at cs starts) sooner [] (table (λ i. i) e) in
      record {
        p = p;
        met = [];
        left = stops;
        queue = corners;
        state = start_by es corners stops S p l b;
        waiting = subst (Waiting es p) (sym f) (waits es p (λ z i. b (lo z) (S.corner_in_lem (lo z) (S.low_in z i))));
        met_is = refl;
        met-rows = refl;
        numbered = numbered_starts cs e starts ws p st (λ k l. b (lo (strand_at cs starts k)) (S.corner_in_lem (lo (strand_at cs starts k)) (S.low_in (strand_at cs starts k) (in_es k l)))) h;
        rows = r;
      }

  module _ {st : List ℕ} {c w : ℕ} {t : List ℤ} {n : ℕ} {out : List ℤ} {i : ℕ} (B : Between st c w t n out i) where
    -- what has been met and what is known are different stops
    known : length B.met + length B.queue ≤ length stops
    known =
        omega (arith, length-append B.met B.queue, met_room es corners stops S B.p B.met B.left B.queue (strands_in cs starts (numbers_in st c)) B.state B.met_is)

    count : length B.met ≡ i
    count = ap length (sym B.met-rows) ∙ length-table (the_point_at out) i

    between_full : vertex_rows ≤ n + i → vertex_rows ≤ length stops
    between_full h =
        elim (dec_lt n vertex_rows) [
          | yes q ↦ omega (arith, known, count, ap length (cap-whole B.rows (omega (arith, length-falling (the_point_at t) n))), length-falling (the_point_at t) n)
          | no q ↦ omega (arith, known, cap_full B.rows (omega (arith, length-falling (the_point_at t) n)))
        ]

    all_met : n ≤ 0 → points_of out i ≡ stops
    all_met h =
        let z : n ≡ 0 = omega arith in
        let none : B.queue ≡ [] = sym (cap-whole B.rows (omega (arith, length-falling (the_point_at t) n))) ∙ ap (queue_of t) z in
        let I = subst (λ (l : List Pt). State es corners stops B.p B.left l (strands_in cs starts (numbers_in st c))) none B.state in
        B.met-rows ∙ met_all es corners stops S B.p B.met B.left (strands_in cs starts (numbers_in st c)) I B.met_is

    pub between_ends : n ≤ 0 → i < vertex_rows → Outcome (sweep vertex_rows (slots sooner [] es) corners []) out i
    between_ends h few =
        subst (λ (l : List Pt). Outcome l out i) (sym (stops-swept es corners stops S vertex_rows))
        (all few (all_met h ∙ sym (take_all vertex_rows stops (omega (arith, ap length (all_met h), length-table (the_point_at out) i)))))

    pub between_stops : vertex_rows ≤ n + i → Outcome (sweep vertex_rows (slots sooner [] es) corners []) out vertex_rows
    between_stops h =
        subst (λ (l : List Pt). Outcome l out vertex_rows) (sym (stops-swept es corners stops S vertex_rows)) (more refl (omega (arith, length-take-le vertex_rows stops (between_full h))))
