-- The overlay's tables are within the bounds that the graph code asks: every piece joins two of the n vertices, and every carrier is an edge between corners.
-- Assumes nothing.
use Rattle.std.specs.Prelude.{◌≡◌, refl, ◌≤◌, ◌<◌, ℤ, ◌∷◌, ◌+◌, ◌*◌, ◌-◌, ◌/◌, ◌%◌}
use Rattle.std.proofs.Common.{sym, ◌∙◌, ap, subst, inl, inr, ⊎_elim, arith}
use Rattle.std.proofs.Math.Decide.{dec_lt}
use Rattle.seq.specs.Seq.{Bool, true, false, cond, List, [], Option, ℕ, zero, suc, ltb, length, get_or, cell, laid, insert_by}
use Rattle.seq.specs.Terms.{Among}
use Rattle.seq.specs.Rows.{rows-among}
use Rattle.seq.specs.Select.{select_from_lem}
use Rattle.seq.specs.Table.{among-table}
use Rattle.seq.specs.Inserted.{insert_from}
use Rattle.seq.specs.Laid.{length-laid, laid_at}
use Rattle.paper.specs.Limits.{maps}
use Rattle.paper.specs.Plane.{on_seg}
use Rattle.paper.specs.Pieces.{Piece, links, links_from, earlier, joined}
use Rattle.plane.specs.Bounds as Bounds
use Rattle.graph.specs.Flat.{the_point_at, carrier_at, Numbers, Carriers}
use Rattle.overlay_cut.specs.PieceRows.{piece_at, pieces_in}
use Rattle.overlay_cut.specs.Cutting.{puts}
use Rattle.overlay_cut.specs.Cuts.{start_of, edges_from, the_on_edge, cut_row, cut_part, cut_all, Starts, part-carried}
use Rattle.overlay_cut.specs.Net.{ends_of, the_source_in, first_map, no_seg, the_edge_in, carrier_in, seg_row}
use Rattle.overlay_cut.specs.Laws.NetLaws.{row-stored, edge-there, edge-absent, carrier_none, carrier_some}

-- ── the ends of a piece ──

-- both ends are below n
pub record Ends (n : ℕ) (p : Piece) : Type 0 where
  pub lo_below : p.lo < n
  pub hi_below : p.hi < n

ends_from : (n : ℕ) (s : List (Option ℕ)) (v : ℕ) (l : List ℕ) → v < n → ((w : ℕ) → Among w l → w < n) → (p : Piece) → Among p (links_from s v l) → Ends n p
ends_from n s v [] h f p i = absurd i
ends_from n s v (w ∷ ws) h f p (inl e) = record { lo_below = subst (λ (q : Piece). q.lo < n) (sym e) h; hi_below = subst (λ (q : Piece). q.hi < n) (sym e) (f w (inl refl)) }
ends_from n s v (w ∷ ws) h f p (inr i) = ends_from n s w ws (f w (inl refl)) (λ x j. f x (inr j)) p i

ends_links : (n : ℕ) (s : List (Option ℕ)) (l : List ℕ) → ((w : ℕ) → Among w l → w < n) → (p : Piece) → Among p (links s l) → Ends n p
ends_links n s [] f p i = absurd i
ends_links n s (v ∷ l) f p i = ends_from n s v l (f v (inl refl)) (λ x j. f x (inr j)) p i

-- of every piece that is cut out
ends_cut : (ps : List ℤ) (n : ℕ) (cs : List ℤ) (st : List ℕ) (p : Piece) → Among p (cut_all ps n cs st) → Ends n p
ends_cut ps n cs st p i =
    let m = rows-among (cut_part ps n cs st) maps p i in
    let k = rows-among (cut_row ps n cs (start_of st m.0) m.0) (edges_from st m.0) p m.2 in
    let s = carrier_at cs (start_of st m.0 + k.0) in
    ends_links n _ (the_on_edge ps n s) (λ w j. (select_from_lem (λ v. on_seg s (the_point_at ps v)) n w j).0) p k.2

-- of every piece in the table
ends_step : (n cap : ℕ) (p : Piece) (l : List Piece) (b : Bool) → ltb (length l) cap ≡ b → Ends n p → ((q : Piece) → Among q l → Ends n q)
    → (q : Piece) → Among q (cond b (insert_by earlier joined p l) l) → Ends n q
ends_step n cap p l false e h f q i = f q i
ends_step n cap p l true e h f q i =
    ⊎_elim (λ g. subst (Ends n) (sym g) h)
    (λ j. ⊎_elim (λ k. f q k) (λ (y, _, g). subst (Ends n) (sym g) (record { lo_below = h.lo_below; hi_below = h.hi_below })) j)
    (insert_from earlier joined p q l i)

ends_puts : (n cap : ℕ) (ps : List Piece) → ((q : Piece) → Among q ps → Ends n q) → (q : Piece) → Among q (puts cap [] ps) → Ends n q
ends_puts n cap [] f q i = absurd i
ends_puts n cap (p ∷ ps) f q i =
    ends_step n cap p (puts cap [] ps) (ltb (length (puts cap [] ps)) cap) refl (f p (inl refl)) (ends_puts n cap ps (λ x j. f x (inr j))) q i

pub ends_below : (cap : ℕ) (ps : List ℤ) (n : ℕ) (cs : List ℤ) (st t : List ℕ) (e : ℕ) → pieces_in t e ≡ puts cap [] (cut_all ps n cs st) → (k : ℕ) → k < e → Ends n (piece_at t k)
ends_below cap ps n cs st t e q k h = ends_puts n cap (cut_all ps n cs st) (ends_cut ps n cs st) (piece_at t k) (subst (Among (piece_at t k)) q (among-table (piece_at t) e k h))

-- the table of origins names vertices
pub origins-named : (n : ℕ) (t : List ℕ) (e : ℕ) (os d : List ℕ) → 2 * e ≤ length d → os ≡ laid e (ends_of t) d → ((k : ℕ) → k < e → Ends n (piece_at t k)) → Numbers os (2 * e) n
origins-named n t e os d room o f = record { long = omega (arith, ap length o ∙ length-laid 2 (ends_of t) (λ i. refl) e d room); named = named }
  where
    at : (k j : ℕ) → k < e → j < 2 → get_or os (2 * k + j) 0 ≡ get_or (ends_of t k) j 0
    at k j h l = ap (λ (x : List ℕ). cell 0 2 x k j) o ∙ laid_at 2 (ends_of t) (λ i. refl) e k j d 0 h l

    either : (k j : ℕ) → k < e → j < 2 → get_or (ends_of t k) j 0 < n
    either k zero h l = (f k h).lo_below
    either k (suc zero) h l = (f k h).hi_below
    either k (suc (suc j)) h l = absurd (omega arith)

    named : (i : ℕ) → i < 2 * e → get_or os i 0 < n
    named i h =
        let q : 2 * (i / 2) + i % 2 ≡ i = omega arith in
        subst (λ (x : ℕ). x < n) (sym (at (i / 2) (i % 2) (omega arith) (omega arith)) ∙ ap (λ (k : ℕ). get_or os k 0) q) (either (i / 2) (i % 2) (omega arith) (omega arith))

-- ── carriers ──

none_near : Bounds.Edge no_seg
none_near = record {
  foot_is = record { x_is = omega arith; y_is = omega arith };
  head_is = record { x_is = omega arith; y_is = omega arith };
  up_is = record { x_is = omega arith; y_is = omega arith };
}

module _ {st : List ℕ} {cs : List ℤ} (S : Starts st cs) where
  edge-near : (m j : ℕ) → m < maps → Bounds.Edge (the_edge_in cs st m j)
  edge-near m j h =
      elim (dec_lt (start_of st m + j) (start_of st (m + 1))) [
        | yes l ↦ subst Bounds.Edge (edge-there cs st m j l) ((part-carried S m h).near (start_of st m + j) (omega (arith, S.rises m h)))
        | no l ↦ subst Bounds.Edge (edge-absent cs st m j (omega arith)) none_near
      ]

  pub carrier-near : (t : List ℕ) (k : ℕ) → Bounds.Edge (carrier_in t cs st k)
  carrier-near t k =
      elim (dec_lt (first_map t k) maps) [
        | yes h ↦ subst Bounds.Edge (carrier_some t cs st k h) (edge-near (first_map t k) (the_source_in t k (first_map t k) - 1) h)
        | no h ↦ subst Bounds.Edge (carrier_none t cs st k (omega arith)) none_near
      ]

  -- the table of carriers
  pub carriers-near : (t : List ℕ) (e : ℕ) (bs f : List ℤ) → 4 * e ≤ length f → bs ≡ laid e (λ k. seg_row (carrier_in t cs st k)) f → Carriers bs e
  carriers-near t e bs f room b = record {
    long = omega (arith, ap length b ∙ length-laid 4 (λ k. seg_row (carrier_in t cs st k)) (λ i. refl) e f room);
    near = λ k h. subst Bounds.Edge (sym (row-stored e bs f (λ k. carrier_in t cs st k) b k h)) (carrier-near t k);
  }
