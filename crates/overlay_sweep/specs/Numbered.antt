-- The numbers of the edges that the line cuts, and of those that wait (`Numbered`): State and Waiting speak of edges, and two of them might be alike; here every edge below e is named. A turn keeps it
-- (`numbered_turns`), and so the edges through the next stop are, number by number, those that the tables have there (`met_on`, `on_met`). Assumes nothing.
use Rattle.std.specs.Prelude.{◌≡◌, refl, ◌⊎◌, ◌<◌, ◌<ℤ◌, ◌∷◌, ◌-◌}
use Rattle.std.proofs.Common.{sym, ◌∙◌, ap, subst, inl, inr, ⊎_elim, arith}
use Rattle.seq.specs.Seq.{Bool, true, false, List, [], ℤ, pos, ℕ, get_or, map, table}
use Rattle.seq.specs.Terms.{Among}
use Rattle.seq.specs.Members.{among-map}
use Rattle.seq.specs.Table.{among-table}
use Rattle.seq.specs.Tests.{clash}
use Rattle.seq.specs.Search.{lead_has}
use Rattle.seq.specs.Slotted.{slots, slots_has}
use Rattle.paper.specs.Plane.{Pt, before}
use Rattle.laws_plane.specs.Points.{before_trans, before_le, same_sym, same_neither}
use Rattle.laws_plane.specs.Ends.{0<1}
use Rattle.laws_plane.specs.Edges.{On}
use Rattle.laws_sweep.specs.Sweep.{Strand, lo, hi, starts_at}
use Rattle.laws_sweep.specs.Scene.{Scene, Cut, State}
use Rattle.laws_sweep.specs.Next.{v_ahead, v_real}
use Rattle.laws_sweep.specs.Waiting.{Waiting, waits_on}
use Rattle.laws_sweep.specs.Through.{through_on, start_on, west_off, on_next}
use Rattle.laws_sweep.proofs.Through.{east_off}
use Rattle.graph.specs.Flat.{carrier_at}
use Rattle.overlay_sweep.specs.Numbers.{numbers_in}
use Rattle.overlay_sweep.specs.Sides.{sooner_at}
use Rattle.overlay_sweep.specs.Splice.{take-table, drop-table}
use Rattle.overlay_sweep.specs.Fans.{numbers_from}
use Rattle.overlay_sweep.specs.Meets.{Meets, first_cells, cells-part}
use Rattle.overlay_sweep.specs.Ahead.{strand_at}
use Rattle.overlay_sweep.specs.Turned.{strands_in, Turned, west-part, through-part, east-part, start-part, wait-part}

module _ (cs : List ℤ) (e : ℕ) (starts ws : List ℕ) where
  abbrev g : ℕ → Strand
  g = strand_at cs starts

  -- the line at p: the edges that it cuts stand in the first c cells of st, those that start after p in the cells of ws from w on
  pub record Numbered (p : Pt) (st : List ℕ) (c w : ℕ) : Type 0 where
    pub cuts : (k : ℕ) → k < e → before p (lo (g k)) ≡ false → before p (hi (g k)) ≡ true → Among k (numbers_in st c)
    pub waits : (k : ℕ) → k < e → before p (lo (g k)) ≡ true → Among k (numbers_from ws w (e - w))

  -- before the first stop all wait
  pub numbered_starts : (p : Pt) (st : List ℕ) → ((k : ℕ) → k < e → before p (lo (g k)) ≡ true) → numbers_in ws e ≡ slots (sooner_at cs) [] (table (λ i. i) e) → Numbered p st 0 0
  numbered_starts p st b h = record {
    cuts = λ k l s u. absurd (clash (b k l) s);
    waits = λ k l s. ⊎_elim (λ i. absurd i) (λ i. i)
        (first_cells ws k 0 e (omega arith) (subst (Among k) (sym h) (slots_has (sooner_at cs) [] (table (λ i. i) e) k (inr (among-table (λ i. i) e k l)))));
  }

  -- from p to v
  module _ (p v : Pt) (hp : pos 0 <ℤ p.D) (hv : pos 0 <ℤ v.D) (pv : before p v ≡ true) {st : List ℕ} {c w : ℕ} {t : List ℤ} {n : ℕ} {st' : List ℕ} {c' w' : ℕ} {u : List ℤ} {n' : ℕ}
      (T : Turned cs e starts v ws st c w t n st' c' w' u n') (cut : (z : Strand) → Among z (strands_in cs starts (numbers_in st' c')) → before v (lo z) ≡ false)
      (wait : (z : Strand) → Among z (strands_in cs starts (numbers_from ws w' (e - w'))) → before v (lo z) ≡ true) where
    pub numbered_turns : Numbered p st c w → Numbered v st' c' w'
    numbered_turns N = record {
      cuts = λ k l s u. cuts_by k l s u (before p (lo (g k))) refl;
      waits = λ k l s. ⊎_elim (λ i. absurd (clash s (cut (g k) (among-map g k (numbers_in st' c') i)))) (λ i. i) (T.comes k (N.waits k l (before_trans p v (lo (g k)) hp hv 0<1 pv s)));
    }
      where
        cuts_by : (k : ℕ) → k < e → before v (lo (g k)) ≡ false → before v (hi (g k)) ≡ true → (b : Bool) → before p (lo (g k)) ≡ b → Among k (numbers_in st' c')
        cuts_by k l s u true q = ⊎_elim (λ i. i) (λ i. absurd (clash (wait (g k) (among-map g k (numbers_from ws w' (e - w')) i)) s)) (T.comes k (N.waits k l q))
        cuts_by k l s u false q = T.stays k (N.cuts k l q (before_trans p v (hi (g k)) hp hv 0<1 pv u)) u

  -- ── the edges through the next stop ──

  module _ (es : List Strand) (in_es : (k : ℕ) → k < e → Among (g k) es) (corners stops : List Pt) (S : Scene es corners stops) (p v : Pt) (vs rest : List Pt) (st : List ℕ) (c w a b s : ℕ)
      (I : State es corners stops p (v ∷ vs) (v ∷ rest) (strands_in cs starts (numbers_in st c))) (L : Waiting es p (strands_in cs starts (numbers_from ws w (e - w)))) (N : Numbered p st c w)
      (M : Meets cs e ws st v c w a b s) where
    abbrev Z : List Strand
    Z = strands_in cs starts (numbers_in st c)

    abbrev Q : List Strand
    Q = strands_in cs starts (numbers_from ws w (e - w))

    abbrev Met : ℕ → Type 0
    Met k = Among k (numbers_from st a (b - a)) ⊎ Among k (numbers_from ws w (s - w))

    pub met_on : (k : ℕ) → k < e → Met k → On (carrier_at cs k) v
    met_on k l (inl i) =
        through_on es corners stops S p v vs rest Z I Q L (g k) (subst (Among (g k)) (sym (through-part cs starts v st c a b M.west M.through)) (among-map g k (numbers_from st a (b - a)) i))
    met_on k l (inr i) =
        start_on es corners stops S p v vs rest Z I Q L (g k) (in_es k l)
        (lead_has (starts_at v) Q (g k) (subst (Among (g k)) (sym (start-part cs starts v st c a b M.west M.through ws e w s M.starts)) (among-map g k (numbers_from ws w (s - w)) i)))

    started : (k : ℕ) → k < e → starts_at v (g k) ≡ true → Met k
    started k l h = ⊎_elim (λ i. inr i) later (cells-part ws k w s e M.starts.scan.low M.starts.scan.within (N.waits k l ahead))
      where
        ahead : before p (lo (g k)) ≡ true
        ahead = before_le p v (lo (g k)) I.real (v_real es corners stops S p v vs (v ∷ rest) Z I) 0<1 (v_ahead es corners stops S p v vs (v ∷ rest) Z I) (same_neither (lo (g k)) v h)

        later : Among k (numbers_from ws s (e - s)) → Met k
        later i =
            absurd (clash ((waits_on es corners stops S p v vs (v ∷ rest) Z I Q L).from (g k)
            (subst (Among (g k)) (sym (wait-part cs starts v st c a b M.west M.through ws e w s M.starts)) (among-map g k (numbers_from ws s (e - s)) i))).1 (same_neither v (lo (g k)) (same_sym (lo (g k)) v h)))

    crossed : (k : ℕ) → k < e → On (carrier_at cs k) v → Cut es p (g k) → Met k
    crossed k l o h =
        ⊎_elim west (λ i. ⊎_elim (λ j. inl j) east (cells-part st k a b c M.through.scan.low M.through.scan.within i))
        (first_cells st k a c M.west.within (N.cuts k l h.started h.unended))
      where
        west : Among k (numbers_in st a) → Met k
        west i =
            absurd (west_off es corners stops S p v vs rest Z I Q L (g k)
            (subst (Among (g k)) (sym (west-part cs starts v st c a b M.west M.through ∙ ap (map g) (take-table (λ i. get_or st i 0) c a M.west.within))) (among-map g k (numbers_in st a) i)) o)

        east : Among k (numbers_from st b (c - b)) → Met k
        east i =
            absurd (east_off es corners stops S p v vs rest Z I Q L (g k)
            (subst (Among (g k)) (sym (east-part cs starts v st c a b M.west M.through ∙ ap (map g) (drop-table (λ i. get_or st i 0) c b M.through.scan.within))) (among-map g k (numbers_from st b (c - b)) i)) o)

    pub on_met : (k : ℕ) → k < e → On (carrier_at cs k) v → Met k
    on_met k l o = ⊎_elim (started k l) (crossed k l o) (on_next es corners stops S p v vs rest Z I Q L (g k) (in_es k l) o)
