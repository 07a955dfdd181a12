-- Of LabelIn of specs/, what rests on its definitions.
use Rattle.std.specs.Prelude.{◌≡◌, refl, Bool, true, false, cond, ℕ, ◌/◌, ◌<◌, pos, ◌<ℤ◌}
use Rattle.std.proofs.Common.{sym, ◌∙◌, ap}
use Rattle.std.proofs.Math.Option.{Option, none, some}
use Rattle.exact.specs.Sign.{zer, sgn, is_zer, neg_s}
use Rattle.exact.specs.Signs.{zero_is}
use Rattle.paper.specs.Plane.{Pt, Vec, cross}
use Rattle.paper.specs.Graph.{Graph, edge_count, the_half_count, even, twin, low, goes_up, upward, east_side}
use Rattle.paper.specs.Map.{Map, label}
use Rattle.paper.specs.Faces.{label_in}
use Rattle.laws_plane.specs.Cone.{UpV, rises_up}
use Rattle.laws_graph.specs.Halves.{half_below}
use Rattle.laws_graph.specs.Plane.{up_ends, down_ends, upward_up}
use Rattle.laws_map.specs.Keeps.{seg, edges}
use Rattle.laws_labels.specs.Lawful.{Lawful}
use Rattle.laws_labels.specs.Spans.{span}
use Rattle.laws_labels.specs.Near.{near, near_off}
use Rattle.laws_labels.specs.Cuts.{lo, above, at_left, Leaves}
use Rattle.laws_labels.specs.Pot.{west, east, pot}
use Rattle.laws_labels.proofs.Moves.{pot_above}
use Rattle.laws_labels.proofs.Along.{at_point}
use Rattle.laws_labels.specs.Covers.{Covers}
use Rattle.laws_labels.specs.Star.{the_left_in}
use Rattle.laws_labels.proofs.Star.{along-piece}
use Rattle.laws_labels.proofs.Labels.{west_is, east-label, theorem_B}
use Rattle.laws_labels.specs.Files.{rises-level}
use Rattle.laws_plane.specs.Angles.{turn-swap}
use Rattle.laws_plane.specs.Parallel.{same_turn}
use Rattle.laws_labels.specs.LabelIn.{AlongEdge, Source, along, off}

module _ (O : Graph) (m : Map) (K : Lawful m) (C : Covers O m) (k : ℕ) (l : k < edge_count O) where
  abbrev p : Pt
  p = low O k

  abbrev u : Vec
  u = upward O k

  hp : pos 0 <ℤ p.D
  hp = (C.within k l).segment.p_real

  uu : UpV u
  uu = rises_up u (C.plane.rising k l)

  -- ── along an edge of m ──

  module _ (W : ℕ) (a : AlongEdge O m k W) where
    turned : (on : Bool) → pot m (above on p u) ≡ pot m (above on (lo (span m W)) (seg m W).up)
    turned on =
        pot_above m p on on u (seg m W).up (λ j i w o. ap (near on zer) (same j))
        ∙ at_point m K W a.below p hp a.on a.from_low a.to_high on
      where
        same : (j : ℕ) → sgn (cross u (seg m j).up) ≡ sgn (cross (seg m W).up (seg m j).up)
        same j = turn-swap (seg m j).up u ∙ ap neg_s (same_turn u (seg m W).up uu (upward_up m.graph K.plane W a.below) a.parallel (seg m j).up) ∙ sym (turn-swap (seg m j).up (seg m W).up)

    pub along-west : west m W ≡ pot m (above false p u)
    along-west = west_is m K W a.below ∙ sym (turned false)

    pub along-east : east m W ≡ pot m (above true p u)
    along-east = east-label m K W a.below ∙ sym (turned true)

  -- ── along none: both sides are alike ──

  off_sides : ((j : ℕ) → j < edges m → Leaves p true (span m j) → cross u (seg m j).up ≡ pos 0 → ⊥) → pot m (above true p u) ≡ pot m (above false p u)
  off_sides n = pot_above m p true false u u (λ j i w o. near_off (sgn (cross u (seg m j).up)) (λ z. n j i o (zero_is (cross u (seg m j).up) (ap is_zer z))))

-- ── the label of half-edge h ──

module _ (O : Graph) (m : Map) (K : Lawful m) (C : Covers O m) (h : ℕ) (l : h < the_half_count O) where
  abbrev e : ℕ
  e = h / 2

  le : e < edge_count O
  le = half_below O h l

  -- at its left, from the lower end of its edge
  left_up : goes_up O h ≡ true → the_left_in m O h ≡ pot m (above false (low O e) (upward O e))
  left_up t = (λ i. pot m (at_left (sym (up_ends O h t).0 i) (t i) (upward O e)))

  left_down : goes_up O h ≡ false → the_left_in m O h ≡ pot m (above true (low O e) (upward O e))
  left_down f = (λ i. pot m (at_left (sym (down_ends O C.plane h l f).0 i) (f i) (upward O e))) ∙ along-piece O m K C true e le

  -- 2k goes up, 2k + 1 down
  pub label_in_lem : goes_up O h ≡ even h → (o : Option ℕ) → Source O m e o → pos (label_in m O h o) ≡ the_left_in m O h
  label_in_lem up (some W) (along _ a) = go (even h) refl
    where
      go : (b : Bool) → even h ≡ b → pos (label m (cond b (twin (east_side m.graph W)) (east_side m.graph W))) ≡ the_left_in m O h
      go true t = along-west O m K C e le W a ∙ sym (left_up (up ∙ t))
      go false t = along-east O m K C e le W a ∙ sym (left_down (up ∙ t))
  label_in_lem up none (off n) =
      theorem_B m K (low O e) (C.within e le).segment.p_real (upward O e) (rises-level (upward O e) (C.plane.rising e le)) ∙ go (even h) refl
    where
      go : (b : Bool) → even h ≡ b → pot m (above false (low O e) (upward O e)) ≡ the_left_in m O h
      go true t = sym (left_up (up ∙ t))
      go false t = sym (off_sides O m K C e le n) ∙ sym (left_down (up ∙ t))
