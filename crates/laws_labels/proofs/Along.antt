-- Any point q of a piece p → r that the edges of a map stay clear of, with p ≤ q < r: the potential at the piece's left (`on` = false) or right (`on` = true) just
-- above q is that just above p. By a move from p to q (q need not be a vertex), and q is passed: nothing starts, ends or crosses there. `at_point` is the
-- case of an edge of the map itself. Assumes nothing.
use Rattle.std.specs.Prelude.{◌≡◌, refl, Bool, true, false, ◌&&◌, ℕ, ◌<◌, pos, ◌<ℤ◌}
use Rattle.std.proofs.Common.{sym, ◌∙◌, ap}
use Rattle.std.proofs.Math.Bool.{not}
use Rattle.exact.specs.Order.{<→≢}
use Rattle.exact.specs.Sign.{Sign, neg, zer, plus, sgn, is_neg, is_zer, is_plus, neg_s, Sg, is_neg_lem, is_zer_lem, is_plus_lem, sg}
use Rattle.exact.specs.Signs.{zero_is}
use Rattle.paper.specs.Plane.{Pt, Seg, whole, head, cross, order, before, same, the_left_by}
use Rattle.paper.specs.Map.{Map}
use Rattle.laws_plane.specs.Points.{after, before_asym, before_trans, le_before, before_le, neither, same_before, before_same}
use Rattle.laws_plane.specs.Ends.{0<1}
use Rattle.laws_plane.specs.Sides.{left_same-sign}
use Rattle.laws_map.specs.Keeps.{seg, edges}
use Rattle.laws_labels.specs.Lawful.{Lawful}
use Rattle.laws_labels.specs.Spans.{Span, span, Good}
use Rattle.laws_labels.specs.Near.{near}
use Rattle.laws_labels.specs.Cuts.{lo, hi, above, under}
use Rattle.laws_labels.specs.Clear.{Within, Clear}
use Rattle.laws_labels.specs.Pot.{pot}
use Rattle.laws_labels.specs.Edges.{good, clear}
use Rattle.laws_labels.specs.Moves.{pot-ext}
use Rattle.laws_labels.proofs.Moves.{pot_same, pot-piece}
use Rattle.laws_plane.specs.Angles.{turn-swap}

-- ── q is passed ──

-- a and b are the signs of q against the lower and the upper end of e, s that of q against e, k that of the turn: neither end is q, and where q is inside e there is no turn
pass-signs : (on : Bool) (a b s k : Sign) → (a ≡ zer → ⊥) → (b ≡ zer → ⊥) → (a ≡ plus → b ≡ neg → s ≡ zer → k ≡ zer) →
    ((is_plus a && not (is_plus b)) && near on s (neg_s k)) ≡ ((not (is_neg a) && is_neg b) && near on s k)
pass-signs on a zer s k m n h = absurd (n refl)
pass-signs on zer neg s k m n h = absurd (m refl)
pass-signs on zer plus s k m n h = absurd (m refl)
pass-signs on neg neg s k m n h = refl
pass-signs on neg plus s k m n h = refl
pass-signs on plus plus s k m n h = refl
pass-signs on plus neg neg k m n h = refl
pass-signs on plus neg plus k m n h = refl
pass-signs on plus neg zer k m n h = let z = h refl refl refl in ap (λ (k : Sign). near on zer (neg_s k)) z ∙ sym (ap (near on zer) z)

module _ (f : Seg) (p q r : Pt) (w : Within f p r) (hq : pos 0 <ℤ q.D) (on_f : the_left_by f q ≡ pos 0) (pq : before p q ≡ true) (qr : before q r ≡ true) (e : Span) (G : Good e) (c : Clear f p r e) where
  abbrev hp : pos 0 <ℤ p.D
  hp = w.segment.p_real

  abbrev hr : pos 0 <ℤ r.D
  hr = w.segment.r_real

  -- an end of e that is q would be inside the segment
  off : (x : Pt) → pos 0 <ℤ x.D → (before p x ≡ true → before x r ≡ true → the_left_by f x ≡ pos 0 → ⊥) → order q x ≡ zer → ⊥
  off x hx n o =
      let s : same q x ≡ true = ap is_zer o in
      n (before_same q x p hq hx hp s ∙ pq) (same_before q x r hq hx hr s ∙ qr) (zero_is (the_left_by f x) (ap is_zer (sym (left_same-sign f q x hq hx s) ∙ ap sgn on_f)))

  -- an edge through q lies along f
  no_turn : order q (lo e) ≡ plus → order q (hi e) ≡ neg → sgn (the_left_by e.line q) ≡ zer → sgn (cross f.up e.line.up) ≡ zer
  no_turn a b s = go (sg (cross f.up e.line.up))
    where
      meets : (cross f.up e.line.up ≡ pos 0 → ⊥) → ⊥
      meets n = c.no_meet n q hq
          record { line = zero_is (the_left_by e.line q) (ap is_zer s); low = ap is_neg a; high = before_asym q (hi e) (ap is_neg b) }
          record { line = on_f; low = before_asym (whole f.foot) q (le_before (whole f.foot) p q 0<1 hp hq w.bottom pq); high = before_asym q (whole (head f)) (before_le q r (whole (head f)) hq hr 0<1 qr w.top) }
          pq qr

      go : {t : Sign} → Sg (cross f.up e.line.up) t → t ≡ zer
      go (is_neg_lem h) = absurd (meets (λ z. <→≢ h z))
      go (is_zer_lem h) = refl
      go (is_plus_lem h) = absurd (meets (λ z. <→≢ h (sym z)))

  pub passed : (on : Bool) → under on q f.up e ≡ above on q f.up e
  unfolding above under
  passed on =
      (λ i. (after q (lo e) i && not (after q (hi e) i)) && near on (sgn (the_left_by e.line q)) (turn-swap f.up e.line.up i))
      ∙ pass-signs on (order q (lo e)) (order q (hi e)) (sgn (the_left_by e.line q)) (sgn (cross f.up e.line.up)) (off (lo e) G.p_real c.lo_off) (off (hi e) G.r_real c.hi_off) no_turn

-- ── along the piece ──

module _ (m : Map) (K : Lawful m) (f : Seg) (p r : Pt) (w : Within f p r) (cl : (k : ℕ) → k < edges m → Clear f p r (span m k))
    (q : Pt) (hq : pos 0 <ℤ q.D) (on_f : the_left_by f q ≡ pos 0) (pq : before q p ≡ false) (qr : before q r ≡ true) (on : Bool) where
  -- the edges stay clear of the shorter segment
  clear_to : (k : ℕ) → k < edges m → Clear f p q (span m k)
  clear_to k l =
      let c = cl k l in
      let hr = w.segment.r_real in
      record {
        lo_off = λ a b. c.lo_off a (before_trans (lo (span m k)) q r (good m K k l).p_real hq hr b qr);
        hi_off = λ a b. c.hi_off a (before_trans (hi (span m k)) q r (good m K k l).r_real hq hr b qr);
        no_meet = λ n x hx a b c₁ c₂. c.no_meet n x hx a b c₁ (before_trans x q r hx hq hr c₂ qr);
      }

  module _ (lq : before p q ≡ true) where
    within_to : Within f p q
    within_to = record {
      segment = record { p_real = w.segment.p_real; r_real = hq; rises = w.segment.rises; p_on = w.segment.p_on; r_on = on_f; climbs = lq };
      bottom = w.bottom;
      top = before_asym q (whole (head f)) (before_le q r (whole (head f)) hq w.segment.r_real 0<1 qr w.top);
    }

    by_slide : pot m (above on q f.up) ≡ pot m (above on p f.up)
    by_slide =
        sym (pot-ext m (under on q f.up) (above on q f.up) (λ k l j. passed f p q r w hq on_f lq qr (span m k) (good m K k l) (cl k l) on))
        ∙ pot-piece m K on f p q within_to clear_to

  pub at_piece : pot m (above on q f.up) ≡ pot m (above on p f.up)
  at_piece = go (before p q) refl
    where
      go : (b : Bool) → before p q ≡ b → pot m (above on q f.up) ≡ pot m (above on p f.up)
      go true e = by_slide e
      go false e = pot_same m K p q w.segment.p_real hq (neither p q e pq) on f.up

-- the piece is edge W of the map
pub at_point : (m : Map) (K : Lawful m) (W : ℕ) (l : W < edges m) (q : Pt) → pos 0 <ℤ q.D → the_left_by (seg m W) q ≡ pos 0 → before q (lo (span m W)) ≡ false → before q (hi (span m W)) ≡ true →
    (on : Bool) → pot m (above on q (seg m W).up) ≡ pot m (above on (lo (span m W)) (seg m W).up)
at_point m K W l q hq on-W a b on = at_piece m K (seg m W) (lo (span m W)) (hi (span m W)) (K.within W l) (λ j k. clear m K W j l k) q hq on-W a b on
