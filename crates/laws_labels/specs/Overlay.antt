-- The overlay's graph covers each of its maps (`overlay-covers`): a piece has no vertex inside and no edge of a map that crosses it, and where an edge of a map leaves a
-- point, one of its pieces does. And the source that a piece names in a map is what it lies along there (`source_is`). Assumes nothing.
use Rattle.std.specs.Prelude.{◌≡◌, refl, ◌<◌}
use Rattle.std.proofs.Common.{sym, ◌∙◌, ap, subst, subst₂}
use Rattle.exact.specs.Sign.{is_zer}
use Rattle.exact.specs.Signs.{zero_is}
use Rattle.seq.specs.Seq.{Bool, true, false, not, List, Option, none, some, ℕ, length, pos}
use Rattle.seq.specs.Tests.{clash, and_both, and_parts, not-false, was-false}
use Rattle.seq.specs.Members.{at_among}
use Rattle.paper.specs.Plane.{Pt, Seg, whole, head, nowhere, cross, before, the_left_by}
use Rattle.paper.specs.Graph.{Graph, edge_count, point_in, edge, low, high, upward}
use Rattle.paper.specs.Map.{Map}
use Rattle.paper.specs.Pieces.{layer, vertices_of}
use Rattle.laws_plane.specs.Points.{before_asym}
use Rattle.laws_map.specs.Keeps.{seg, edges, Keeps}
use Rattle.laws_overlay.specs.Maps.{AllKeep}
use Rattle.laws_overlay.specs.Places.{places, at_real}
use Rattle.laws_overlay.specs.Links.{Neighbours}
use Rattle.laws_overlay.proofs.Net.{near, carrier_up, ends_before, low_is, high_is}
use Rattle.laws_overlay.proofs.NetPlane.{net-plane}
use Rattle.laws_overlay.specs.Inside.{overlaid, carrier_at, low_at, high_at}
use Rattle.laws_overlay.proofs.Inside.{vertex_off, lo_off, hi_off, no_meet}
use Rattle.laws_overlay.proofs.Round.{source-there, source_on, source-way}
use Rattle.laws_overlay.specs.Along.{sources_at, Through}
use Rattle.laws_overlay.proofs.Along.{source-line, source-span, piece-through, source_none}
use Rattle.laws_labels.specs.Spans.{Span, span}
use Rattle.laws_labels.specs.Cuts.{lo, hi, Leaves}
use Rattle.laws_labels.specs.Clear.{Within, Clear}
use Rattle.laws_labels.specs.Covers.{spans, PieceAt, Covers}
use Rattle.laws_labels.specs.LabelIn.{AlongEdge, Source, along, off}

-- an edge of a map, with its corners
abbrev whole-span : Seg → Span
whole-span e = record { line = e; bottom = whole e.foot; top = whole (head e) }

span_is : (m : Map) → Keeps m → (j : ℕ) → j < edges m → whole-span (seg m j) ≡ span m j
span_is m K j l = λ i. record { line = seg m j; bottom = K.foot_is j l i; top = K.head_is j l i }

module _ (ms : List Map) (K : AllKeep ms) where
  abbrev O : Graph
  O = overlaid ms

  abbrev vs : List Pt
  vs = vertices_of ms

  -- ── a piece ──

  module _ (k : ℕ) (l : k < edge_count (overlaid ms)) where
    at_low : low O k ≡ low_at ms k
    at_low = low_is ms K vs (places ms K) k l

    at_high : high O k ≡ high_at ms k
    at_high = high_is ms K vs (places ms K) k l

    n : Neighbours vs (carrier_at ms k) (edge O k).from (edge O k).to
    n = near ms K vs (places ms K) k l

    within : Within (carrier_at ms k) (low_at ms k) (high_at ms k)
    within = record {
      segment = record {
        p_real = at_real vs (places ms K) (edge O k).from;
        r_real = at_real vs (places ms K) (edge O k).to;
        rises = carrier_up ms K vs (places ms K) k l;
        p_on = n.on_lo.line;
        r_on = n.on_hi.line;
        climbs = ends_before ms K vs (places ms K) k l;
      };
      bottom = n.on_lo.low;
      top = n.on_hi.high;
    }

    clear : (i j : ℕ) → i < length ms → j < edges (layer ms i) → Clear (carrier_at ms k) (low_at ms k) (high_at ms k) (span (layer ms i) j)
    clear i j li lj = subst (Clear (carrier_at ms k) (low_at ms k) (high_at ms k)) (span_is (layer ms i) (K i li) j lj) record {
      lo_off = lo_off ms K k l i j li lj;
      hi_off = hi_off ms K k l i j li lj;
      no_meet = λ w q hq oe of a b. no_meet ms K k l i j li lj w q (record { real = hq; past = a; under = b }) (record { line = oe.line; low = oe.low; high = oe.high }) of;
    }

  -- ── where an edge of a map leaves a point, a piece does ──

  module _ (i j : ℕ) (li : i < length ms) (lj : j < edges (layer ms i)) (q : Pt) where
    abbrev e : Seg
    e = seg (layer ms i) j

    -- a piece of the edge, on which a test turns that says where q is
    turned : the_left_by e q ≡ pos 0 → (b : Bool) (t : Pt → Bool) → ((x y : Pt) → t x ≡ false → t y ≡ true → spans b q x y ≡ true) → Through ms i j t → (r : PieceAt O e q b) × (sources_at ms r.piece i ≡ some j)
    turned o b t s r =
        let k = r.piece in
        let l = r.below in (
          record {
            piece = k;
            below = l;
            parallel = (source-way ms K k l i j r.source).parallel;
            on = source-line ms K k l i j r.source q o;
            reaches = (λ z. spans b q (at_low k l z) (at_high k l z)) ∙ s (low_at ms k) (high_at ms k) r.at_low r.at_high;
          },
          r.source,
        )

    -- it has the edge as its source
    whole-piece : (b : Bool) → Leaves q b (whole-span e) → (r : PieceAt (overlaid ms) (seg (layer ms i) j) q b) × (sources_at ms r.piece i ≡ some j)
    whole-piece true o =
        let r = and_parts (not (before q (whole e.foot))) (before q (whole (head e))) o.reaches in
        turned (zero_is (the_left_by e q) (ap is_zer o.on)) true (before q) (λ x y u v. and_both {a = not (before q x)} (ap not u) v)
        (piece-through ms K i j li lj (before q) (was-false _ r.0) r.1)
    whole-piece false o =
        let r = and_parts (before (whole e.foot) q) (not (before (whole (head e)) q)) o.reaches in
        turned (zero_is (the_left_by e q) (ap is_zer o.on)) false (λ x. not (before x q)) (λ x y u v. and_both {a = before x q} (not-false (before x q) (λ z. clash (ap not z) u)) v)
        (piece-through ms K i j li lj (λ x. not (before x q)) (ap not r.0) r.1)

    pub piece-leaving : (b : Bool) → Leaves q b (span (layer ms i) j) → (r : PieceAt (overlaid ms) (seg (layer ms i) j) q b) × (sources_at ms r.piece i ≡ some j)
    piece-leaving b o = whole-piece b (subst (Leaves q b) (sym (span_is (layer ms i) (K i li) j lj)) o)

  -- ── the overlay covers its maps ──

  pub overlay-covers : (i : ℕ) → i < length ms → Covers (overlaid ms) (layer ms i)
  overlay-covers i li = record {
    plane = net-plane ms K vs (places ms K);
    within = λ k l. subst₂ (Within (carrier_at ms k)) (sym (at_low k l)) (sym (at_high k l)) (within k l);
    no_inside = λ z k lz l on a b. vertex_off ms K k l (point_in vs z) (at_among vs z (whole nowhere) lz) on
        (ap (λ (p : Pt). before p (point_in vs z)) (sym (at_low k l)) ∙ a) (ap (before (point_in vs z)) (sym (at_high k l)) ∙ b);
    clear = λ k j l lj. subst₂ (λ (x y : Pt). Clear (carrier_at ms k) x y (span (layer ms i) j)) (sym (at_low k l)) (sym (at_high k l)) (clear k l i j li lj);
    piece_at_lem = λ j lj w q hq b o. (piece-leaving i j li lj q b o).0;
  }

  -- ── the source of a piece is what it lies along ──

  module _ (i k : ℕ) (li : i < length ms) (l : k < edge_count (overlaid ms)) where
    abbrev m : Map
    m = layer ms i

    along-source : (W : ℕ) → sources_at ms k i ≡ some W → AlongEdge O m k W
    along-source W s =
        let a = (source_on ms K k l i W s).0 in
        let lW = (source-there ms K k l i W s).1 in
        record {
          below = lW;
          parallel = (source-way ms K k l i W s).parallel;
          on = ap (the_left_by (seg m W)) (at_low k l) ∙ a.line;
          from_low = ap (λ (p : Pt). before p (lo (span m W))) (at_low k l) ∙ ap (before (low_at ms k)) (sym ((K i li).foot_is W lW)) ∙ a.low;
          to_high = ap (λ (p : Pt). before p (hi (span m W))) (at_low k l) ∙ ap (before (low_at ms k)) (sym ((K i li).head_is W lW)) ∙ (source-span ms K k l i W s).0;
        }

    off_source : sources_at ms k i ≡ none → (j : ℕ) → j < edges m → Leaves (low O k) true (span m j) → cross (upward O k) (seg m j).up ≡ pos 0 → ⊥
    off_source s j lj o p =
        let q = subst (Leaves (low_at ms k) true) (sym (span_is m (K i li) j lj)) (subst (λ (x : Pt). Leaves x true (span m j)) (at_low k l) o) in
        let r = and_parts (not (before (low_at ms k) (whole (seg m j).foot))) (before (low_at ms k) (whole (head (seg m j)))) q.reaches in
        let on_line = zero_is (the_left_by (seg m j) (low_at ms k)) (ap is_zer q.on) in
        source_none ms K k l i s j (record {
          in_list = li;
          of_map = lj;
          on = record { line = on_line; low = was-false _ r.0; high = before_asym (low_at ms k) (whole (head (seg m j))) r.1 };
          goes = r.1;
        }) p

    pub source_is : Source (overlaid ms) (layer ms i) k (sources_at ms k i)
    source_is = go (sources_at ms k i) refl
      where
        go : (o : Option ℕ) → sources_at ms k i ≡ o → Source O m k o
        go none e = off (off_source e)
        go (some W) e = along W (along-source W e)
