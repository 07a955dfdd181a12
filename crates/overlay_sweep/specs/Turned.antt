-- A turn of the line, by tables: the numbers in the tables are strands (`strand_at`), and what the code makes of the tables is what the definition makes of the lists of strands.
-- Assumes nothing.
use Rattle.std.specs.Prelude.{◌≡◌, ◌⊎◌, ◌≤◌, ◌<◌, ◌++◌, ◌+◌, ◌-◌, ◌*◌}
use Rattle.std.proofs.Common.{sym, ◌∙◌, ap, subst, inl, inr, ⊎_elim, arith, drop-drop, length-take-le, take_at, drop_at}
use Rattle.std.proofs.lemmas.List.{map-append}
use Rattle.seq.specs.Seq.{true, List, [], map, ℤ, ℕ, length, get_or, take, drop, table}
use Rattle.seq.specs.Terms.{Among}
use Rattle.seq.specs.Members.{++-among, among-++}
use Rattle.seq.specs.Table.{length-table, table_at, table-ext, table-among, among-table}
use Rattle.paper.specs.Limits.{maps, map_edges}
use Rattle.paper.specs.Plane.{Pt}
use Rattle.graph.specs.Flat.{Numbers, Carriers}
use Rattle.seq.specs.Kept.{kept, kept_has}
use Rattle.seq.specs.Slotted.{slots, slots_has}
use Rattle.laws_sweep.specs.Sweep.{Strand, right, on, the_goes_on, starts_at, steeper, west_of, through, east_of, leaving, status, joint, found}
use Rattle.seq.specs.Search.{lead, trail, Stop, ScanStop, lead_at_lem}
use Rattle.overlay_sweep.specs.Numbers.{numbers_in}
use Rattle.overlay_sweep.specs.Sides.{right_at, on_at, steeper_at}
use Rattle.overlay_sweep.specs.Splice.{take-table, drop-table}
use Rattle.overlay_sweep.specs.Fans.{numbers_from, goes_at, starts_in, slots-++, Fanned}
use Rattle.overlay_sweep.specs.Meets.{first_cells, cells-part}
use Rattle.overlay_sweep.specs.Laws.Mapped.{kept_map, lead-map, trail-map, slots_map}
use Rattle.overlay_sweep.specs.Ahead.{strand_at, Queued, queued_on, requeued}
use Rattle.overlay_sweep.specs.Neighbours.{joint_at}

-- ── what a turn asks and brings about ──

-- the room for a fan
abbrev pub fan_room : ℕ
fan_room = maps * map_edges

-- the first c cells of st are the edges that the line cuts, those from w on of ws wait, and a fan has room
pub record Ready (cs : List ℤ) (e : ℕ) (starts ws st fan : List ℕ) (c w : ℕ) : Type 0 where
  pub carriers : Carriers cs e
  pub waits : Numbers ws e e
  pub named : Numbers st c e
  pub fewer : c ≤ w
  pub started : w ≤ e
  pub room : e ≤ length st
  pub fan_room_lem : e ≤ length fan
  pub starts_long : maps < length starts
  pub few : e ≤ fan_room

pub numbers-fewer : {xs : List ℕ} {m n k : ℕ} → Numbers xs m n → k ≤ m → Numbers xs k n
numbers-fewer h l = record { long = omega (arith, h.long); named = λ i j. h.named i (omega arith) }

-- ── the strands of a table ──

abbrev pub strands_in : List ℤ → List ℕ → List ℕ → List Strand
strands_in cs starts l = map (strand_at cs starts) l

-- the line at p: from the tables st and t to st' and u
pub record Turned (cs : List ℤ) (e : ℕ) (starts : List ℕ) (p : Pt) (ws st : List ℕ) (c w : ℕ) (t : List ℤ) (n : ℕ) (st' : List ℕ) (c' w' : ℕ) (u : List ℤ) (n' : ℕ) : Type 0 where
  pub named : Numbers st' c' e
  pub fewer : c' ≤ w'
  pub started : w' ≤ e
  pub status_is : strands_in cs starts (numbers_in st' c') ≡ status (strands_in cs starts (numbers_from ws w (e - w))) p (strands_in cs starts (numbers_in st c))
  pub waits_is : strands_in cs starts (numbers_from ws w' (e - w')) ≡ trail (starts_at p) (strands_in cs starts (numbers_from ws w (e - w)))
  -- the numbers: an edge that goes on stays, and one that waits does so still or has come in
  pub stays : (k : ℕ) → Among k (numbers_in st c) → goes_at cs p k ≡ true → Among k (numbers_in st' c')
  pub comes : (k : ℕ) → Among k (numbers_from ws w (e - w)) → Among k (numbers_in st' c') ⊎ Among k (numbers_from ws w' (e - w'))
  pub points_is : Queued (found (strands_in cs starts (numbers_from ws w (e - w))) p (strands_in cs starts (numbers_in st c))) t n u n'

pub turned_at : {cs : List ℤ} {e : ℕ} {starts : List ℕ} {p q : Pt} {ws st : List ℕ} {c w : ℕ} {t : List ℤ} {n : ℕ} {st' : List ℕ} {c' w' : ℕ} {u : List ℤ} {n' : ℕ}
    → p ≡ q → Turned cs e starts p ws st c w t n st' c' w' u n' → Turned cs e starts q ws st c w t n st' c' w' u n'
turned_at {cs} {e} {starts} {p} {q} {ws} {st} {c} {w} {t} {n} {st'} {c'} {w'} {u} {n'} h x = subst (λ (z : Pt). Turned cs e starts z ws st c w t n st' c' w' u n') h x

module _ (cs : List ℤ) (starts : List ℕ) (p : Pt) where
  abbrev g : ℕ → Strand
  g = strand_at cs starts

  -- ── the parts of the status and of those that wait ──

  module _ (st : List ℕ) (c a b : ℕ) (SW : Stop (right_at cs st p) c a) (SH : ScanStop (on_at cs st p) c a b) where
    abbrev N : List ℕ
    N = numbers_in st c

    abbrev S : List Strand
    S = map g N

    ac : a ≤ c
    ac = SW.within

    N-at : (i : ℕ) → i < c → get_or N i 0 ≡ get_or st i 0
    N-at i h = table_at (λ i. get_or st i 0) c i 0 h

    N-long : length N ≡ c
    N-long = length-table (λ i. get_or st i 0) c

    west-stop : Stop (λ i. right p (g (get_or N i 0))) (length N) a
    west-stop = record {
      within = omega (arith, ac, N-long);
      passed = λ i h. ap (λ (k : ℕ). right p (g k)) (N-at i (omega (arith, ac))) ∙ SW.passed i h;
      stops = λ h. let l : a < c = omega (arith, N-long) in ap (λ (k : ℕ). right p (g k)) (N-at a l) ∙ SW.stops l;
    }

    pub west-part : west_of p S ≡ map g (take a N)
    west-part = sym (lead-map g (right p) N) ∙ ap (map g) (lead_at_lem 0 (λ k. right p (g k)) N a west-stop).0

    rest_part : trail (right p) S ≡ map g (drop a N)
    rest_part = sym (trail-map g (right p) N) ∙ ap (map g) (lead_at_lem 0 (λ k. right p (g k)) N a west-stop).1

    abbrev R : List ℕ
    R = numbers_from st a (c - a)

    R-is : drop a N ≡ R
    R-is = drop-table (λ i. get_or st i 0) c a ac

    R-long : length R ≡ c - a
    R-long = length-table (λ i. get_or st (a + i) 0) (c - a)

    R-at : (i : ℕ) → i < c - a → get_or R i 0 ≡ get_or st (a + i) 0
    R-at i h = table_at (λ i. get_or st (a + i) 0) (c - a) i 0 h

    ab : a ≤ b
    ab = SH.scan.low

    bc : b ≤ c
    bc = SH.scan.within

    on_stop : Stop (λ i. on p (g (get_or R i 0))) (length R) (b - a)
    on_stop = record {
      within = omega (arith, ab, bc, R-long);
      passed = λ i h. ap (λ (k : ℕ). on p (g k)) (R-at i (omega (arith, bc, ab))) ∙ SH.scan.passed (a + i) (omega arith) (omega (arith, ab));
      stops = λ h. let l : b - a < c - a = omega (arith, R-long) in let e : a + (b - a) ≡ b = omega (arith, ab) in
          ap (λ (k : ℕ). on p (g k)) (R-at (b - a) l ∙ ap (λ (k : ℕ). get_or st k 0) e) ∙ SH.stops (omega (arith, ab));
    }

    pub through-part : through p S ≡ map g (numbers_from st a (b - a))
    through-part =
        ap (lead (on p)) (rest_part ∙ ap (map g) R-is) ∙ sym (lead-map g (on p) R) ∙ ap (map g) (lead_at_lem 0 (λ k. on p (g k)) R (b - a) on_stop).0
        ∙ ap (map g) (take-table (λ i. get_or st (a + i) 0) (c - a) (b - a) (omega (arith, ab, bc)))

    pub east-part : east_of p S ≡ map g (drop b N)
    east-part =
        let e : a + (b - a) ≡ b = omega (arith, ab) in
        ap (trail (on p)) (rest_part ∙ ap (map g) R-is) ∙ sym (trail-map g (on p) R) ∙ ap (map g) (lead_at_lem 0 (λ k. on p (g k)) R (b - a) on_stop).1
        ∙ ap (λ (l : List ℕ). map g (drop (b - a) l)) (sym R-is) ∙ ap (map g) (drop-drop (b - a) a N ∙ ap (λ (k : ℕ). drop k N) e)

    module _ (ws : List ℕ) (e w s : ℕ) (SS : ScanStop (λ i. starts_in cs p (get_or ws i 0)) e w s) where
      abbrev Q : List ℕ
      Q = numbers_from ws w (e - w)

      V-long : length Q ≡ e - w
      V-long = length-table (λ i. get_or ws (w + i) 0) (e - w)

      V-at : (i : ℕ) → i < e - w → get_or Q i 0 ≡ get_or ws (w + i) 0
      V-at i h = table_at (λ i. get_or ws (w + i) 0) (e - w) i 0 h

      w_s : w ≤ s
      w_s = SS.scan.low

      s_e : s ≤ e
      s_e = SS.scan.within

      start-stop : Stop (λ i. starts_at p (g (get_or Q i 0))) (length Q) (s - w)
      start-stop = record {
        within = omega (arith, w_s, s_e, V-long);
        passed = λ i h. ap (λ (k : ℕ). starts_at p (g k)) (V-at i (omega (arith, s_e, w_s))) ∙ SS.scan.passed (w + i) (omega arith) (omega (arith, w_s));
        stops = λ h. let l : s - w < e - w = omega (arith, V-long) in let f : w + (s - w) ≡ s = omega (arith, w_s) in
            ap (λ (k : ℕ). starts_at p (g k)) (V-at (s - w) l ∙ ap (λ (k : ℕ). get_or ws k 0) f) ∙ SS.stops (omega (arith, w_s));
      }

      pub start-part : lead (starts_at p) (map g Q) ≡ map g (numbers_from ws w (s - w))
      start-part =
          sym (lead-map g (starts_at p) Q) ∙ ap (map g) (lead_at_lem 0 (λ k. starts_at p (g k)) Q (s - w) start-stop).0
          ∙ ap (map g) (take-table (λ i. get_or ws (w + i) 0) (e - w) (s - w) (omega (arith, w_s, s_e)))

      pub wait-part : trail (starts_at p) (map g Q) ≡ map g (numbers_from ws s (e - s))
      wait-part =
          let f : e - w - (s - w) ≡ e - s = omega (arith, w_s, s_e) in
          sym (trail-map g (starts_at p) Q) ∙ ap (map g) (lead_at_lem 0 (λ k. starts_at p (g k)) Q (s - w) start-stop).1
          ∙ ap (map g) (drop-table (λ i. get_or ws (w + i) 0) (e - w) (s - w) (omega (arith, w_s, s_e)))
          ∙ ap (λ (k : ℕ). map g (table (λ i. get_or ws (w + (s - w + i)) 0) k)) f
          ∙ ap (map g) (table-ext (λ i. get_or ws (w + (s - w + i)) 0) (λ i. get_or ws (s + i) 0) (e - s) (λ i h. let k : w + (s - w + i) ≡ s + i = omega (arith, w_s) in ap (λ (j : ℕ). get_or ws j 0) k))

      -- the fan: those that go on, then those that start
      module _ (f₀ f₁ : List ℕ) (h : ℕ) (F₀ : Fanned cs e [] (kept (goes_at cs p) (numbers_from st a (b - a))) f₀ h) (F₁ : Fanned cs e (numbers_in f₀ h) (numbers_from ws w (s - w)) f₁ (h + (s - w))) where
        abbrev m : ℕ
        m = h + (s - w)

        abbrev M : List ℕ
        M = numbers_in f₁ m

        fan-part : leaving (map g Q) p S ≡ map g M
        fan-part =
            sym
            (ap (map g) (F₁.is ∙ ap (λ (l : List ℕ). slots (steeper_at cs) l (numbers_from ws w (s - w))) F₀.is ∙ sym (slots-++ (steeper_at cs) [] (kept (goes_at cs p) (numbers_from st a (b - a))) (numbers_from ws w (s - w))))
            ∙ slots_map g steeper [] (kept (goes_at cs p) (numbers_from st a (b - a)) ++ numbers_from ws w (s - w))
            ∙ ap (slots steeper []) (map-append g (kept (goes_at cs p) (numbers_from st a (b - a))) (numbers_from ws w (s - w)) ∙ (λ i. (kept_map g (the_goes_on p) (numbers_from st a (b - a)) ∙ ap (kept (the_goes_on p)) (sym through-part)) i ++ sym start-part i)))

        -- the status spliced
        module _ (st' : List ℕ) (E : numbers_in st' (a + m + (c - b)) ≡ take a N ++ (M ++ drop b N)) where
          abbrev cut : ℕ
          cut = a + m + (c - b)

          pub status-part : map g (numbers_in st' cut) ≡ status (map g Q) p S
          status-part = ap (map g) E ∙ map-append g (take a N) (M ++ drop b N) ∙ (λ i. sym west-part i ++ (map-append g M (drop b N) ∙ (λ j. sym fan-part j ++ sym east-part j)) i)

          -- its numbers
          spliced_in : (k : ℕ) → Among k (take a N) ⊎ (Among k M ⊎ Among k (drop b N)) → Among k (numbers_in st' cut)
          spliced_in k h = subst (Among k) (sym E) (++-among k (take a N) (M ++ drop b N) (⊎_elim (λ i. inl i) (λ i. inr (++-among k M (drop b N) i)) h))

          goes_in : (k : ℕ) → Among k (numbers_from st a (b - a)) → goes_at cs p k ≡ true → Among k M
          goes_in k i g =
              subst (Among k) (sym F₁.is)
              (slots_has (steeper_at cs) (numbers_in f₀ h) (numbers_from ws w (s - w)) k (inl (subst (Among k) (sym F₀.is) (slots_has (steeper_at cs) [] (kept (goes_at cs p) (numbers_from st a (b - a))) k (inr (kept_has (goes_at cs p) k (numbers_from st a (b - a)) i g))))))

          starts_in_lem : (k : ℕ) → Among k (numbers_from ws w (s - w)) → Among k M
          starts_in_lem k i = subst (Among k) (sym F₁.is) (slots_has (steeper_at cs) (numbers_in f₀ h) (numbers_from ws w (s - w)) k (inr i))

          stays_in : (k : ℕ) → Among k N → goes_at cs p k ≡ true → Among k (numbers_in st' cut)
          stays_in k i h =
              ⊎_elim (λ j. spliced_in k (inl (subst (Among k) (sym (take-table (λ i. get_or st i 0) c a ac)) j)))
              (λ j. ⊎_elim (λ l. spliced_in k (inr (inl (goes_in k l h)))) (λ l. spliced_in k (inr (inr (subst (Among k) (sym (drop-table (λ i. get_or st i 0) c b bc)) l)))) (cells-part st k a b c ab bc j))
              (first_cells st k a c ac i)

          comes_in : (k : ℕ) → Among k Q → Among k (numbers_in st' cut) ⊎ Among k (numbers_from ws s (e - s))
          comes_in k i = ⊎_elim (λ j. inl (spliced_in k (inr (inl (starts_in_lem k j))))) (λ j. inr j) (cells-part ws k w s e w_s s_e i)

          W-long : length (take a N) ≡ a
          W-long = length-take-le a N (omega (arith, ac, N-long))

          west-cells : numbers_from st' 0 (a - 0) ≡ take a N
          west-cells =
              let k : a - 0 ≡ a = omega arith in
              ap (numbers_from st' 0) k ∙ table-ext (λ i. get_or st' (0 + i) 0) (λ i. get_or st' i 0) a (λ i l. let q : 0 + i ≡ i = omega arith in ap (λ (j : ℕ). get_or st' j 0) q) ∙ sym (take-table (λ i. get_or st' i 0) cut a (omega arith)) ∙ ap (take a) E ∙ take_at (take a N) (M ++ drop b N) a W-long

          rest-cells : numbers_from st' a (cut - a) ≡ M ++ drop b N
          rest-cells = sym (drop-table (λ i. get_or st' i 0) cut a (omega arith)) ∙ ap (drop a) E ∙ drop_at (take a N) (M ++ drop b N) a W-long

          M-long : length M ≡ m
          M-long = length-table (λ i. get_or f₁ i 0) m

          fan-cells : numbers_from st' a (a + m - a) ≡ M
          fan-cells =
              let k : a + m - a ≡ m = omega arith in
              ap (numbers_from st' a) k ∙ sym (take-table (λ i. get_or st' (a + i) 0) (cut - a) m (omega arith)) ∙ ap (take m) rest-cells ∙ take_at M (drop b N) m M-long

          east-cells : numbers_from st' (a + m) (cut - (a + m)) ≡ drop b N
          east-cells =
              let k : cut - (a + m) ≡ cut - a - m = omega arith in
              ap (numbers_from st' (a + m)) k
              ∙ table-ext (λ i. get_or st' (a + m + i) 0) (λ i. get_or st' (a + (m + i)) 0) (cut - a - m) (λ i l. let q : a + m + i ≡ a + (m + i) = omega arith in ap (λ (j : ℕ). get_or st' j 0) q)
              ∙ sym (drop-table (λ i. get_or st' (a + i) 0) (cut - a) m (omega arith)) ∙ ap (drop m) rest-cells ∙ drop_at M (drop b N) m M-long

          found_part : joint_at cs starts p st' 0 a cut ++ joint_at cs starts p st' a (a + m) cut ≡ found (map g Q) p S
          found_part =
              λ i.
              joint p ((ap (map g) west-cells ∙ sym west-part) i) ((ap (map g) rest-cells ∙ map-append g M (drop b N) ∙ (λ j. sym fan-part j ++ sym east-part j)) i)
              ++ joint p ((ap (map g) fan-cells ∙ sym fan-part) i) ((ap (map g) east-cells ∙ sym east-part) i)

          module _ (named : Numbers st c e) where
            below : (z : ℕ) → Among z (take a N ++ (M ++ drop b N)) → z < e
            below z i = ⊎_elim old (λ j. ⊎_elim fan east (among-++ z M (drop b N) j)) (among-++ z (take a N) (M ++ drop b N) i)
              where
                old : Among z (take a N) → z < e
                old j = let (k, l, q) = table-among (λ i. get_or st i 0) a z (subst (Among z) (take-table (λ i. get_or st i 0) c a ac) j) in subst (λ (x : ℕ). x < e) q (named.named k (omega (arith, ac)))

                fan : Among z M → z < e
                fan j = let (k, l, q) = table-among (λ i. get_or f₁ i 0) m z j in subst (λ (x : ℕ). x < e) q (F₁.named.named k l)

                east : Among z (drop b N) → z < e
                east j = let (k, l, q) = table-among (λ i. get_or st (b + i) 0) (c - b) z (subst (Among z) (drop-table (λ i. get_or st i 0) c b bc) j) in subst (λ (x : ℕ). x < e) q (named.named (b + k) (omega (arith, bc)))

            pub cut-named : cut ≤ length st' → Numbers st' cut e
            cut-named long = record { long = long; named = λ i l. below (get_or st' i 0) (subst (Among (get_or st' i 0)) E (among-table (λ i. get_or st' i 0) cut i l)) }

          module _ {fan : List ℕ} (R : Ready cs e starts ws st fan c w) (few : h ≤ b - a) (kept : length st' ≡ length st) where
            fits : cut ≤ s
            fits = omega (arith, ab, bc, w_s, R.fewer)

            pub cut_room : Numbers st' cut e
            cut_room = cut-named R.named (omega (arith, fits, s_e, R.room))

            pub turn-made : {t u v : List ℤ} {n r q : ℕ} → Queued (joint_at cs starts p st' a (a + m) cut) t n u r → Queued (joint_at cs starts p st' 0 a cut) u r v q → Turned cs e starts p ws st c w t n st' cut s v q
            turn-made Q₁ Q₂ = record {
              named = cut_room;
              fewer = fits;
              started = s_e;
              status_is = status-part;
              waits_is = sym wait-part;
              stays = stays_in;
              comes = comes_in;
              points_is = requeued found_part (queued_on Q₁ Q₂);
            }

            pub cut_at : (k : ℕ) → k ≡ cut → Numbers st' k e
            cut_at k f = subst (λ (x : ℕ). Numbers st' x e) (sym f) cut_room

            pub turn_at : {t u v : List ℤ} {n r q : ℕ} (k : ℕ) → k ≡ cut → Queued (joint_at cs starts p st' a (a + m) k) t n u r → Queued (joint_at cs starts p st' 0 a k) u r v q → Turned cs e starts p ws st c w t n st' k s v q
            turn_at {t} {u} {v} {n} {r} {q} k f Q₁ Q₂ =
                subst (λ (x : ℕ). Turned cs e starts p ws st c w t n st' x s v q) (sym f)
                (turn-made (subst (λ (x : ℕ). Queued (joint_at cs starts p st' a (a + m) x) t n u r) f Q₁) (subst (λ (x : ℕ). Queued (joint_at cs starts p st' 0 a x) u r v q) f Q₂))
