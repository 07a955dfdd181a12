-- Of Pieces of specs/, what rests on its definitions.
use Rattle.std.specs.Prelude.{◌≡◌, ◌⊎◌, ◌<◌}
use Rattle.std.proofs.Common.{sym, ◌∙◌, ap, subst, inl, inr, ⊎_elim, ext_get_or}
use Rattle.seq.specs.Seq.{List, Option, none, some, ℕ, length}
use Rattle.seq.specs.Terms.{Among}
use Rattle.seq.specs.Members.{at_among, among_at}
use Rattle.seq.specs.Pairs.{rising-once}
use Rattle.seq.specs.Options.{option_cases}
use Rattle.paper.specs.Plane.{Pt}
use Rattle.paper.specs.Map.{Map}
use Rattle.paper.specs.Pieces.{Piece, only, joined, earlier, edges_of}
use Rattle.laws_overlay.specs.Maps.{AllKeep}
use Rattle.laws_overlay.specs.Places.{Places}
use Rattle.laws_overlay.specs.Links.{piece_of, cut_out, Runs}
use Rattle.laws_overlay.proofs.Links.{cut_from, cut_has}
use Rattle.laws_overlay.specs.Sources.{source_at, length-only, only-own, only_is, length_merged, merged_from, merged_first}
use Rattle.laws_overlay.specs.Order.{SameEnds, ends_same, ends_swap, order_all, Holds, order-holds}
use Rattle.laws_overlay.specs.Pieces.{Came, pieces-rising, edge-once, Sourced, piece_at, no_piece}

-- ── strictly in order ──

module _ (ms : List Map) (vs : List Pt) where
  -- ── every source is one ──

  cut-came : (q : Piece) → Among q (cut_out ms vs) → Came ms vs q
  cut-came q a =
      let n = length ms in
      let (i, k, o, r) = cut_from ms vs q a in
      record {
        width = ap length o ∙ length-only n i k;
        from = λ j s e. let (x, y) = only_is n i k j s (ap (λ (ss : List (Option ℕ)). source_at ss j) (sym o) ∙ e) in
            subst (λ (z : ℕ). Runs ms vs z s q.lo q.hi) (sym x) (subst (λ (z : ℕ). Runs ms vs i z q.lo q.hi) (sym y) r);
        one = (i, k, ap (λ (ss : List (Option ℕ)). source_at ss i) o ∙ only-own n i k r.in_list);
      }

  joined-came : (p q : Piece) → SameEnds p q → Came ms vs p → Came ms vs q → Came ms vs (joined p q)
  joined-came p q s a b = record {
    width = length_merged p.sources q.sources (a.width ∙ sym b.width) ∙ b.width;
    from = λ i k e. ⊎_elim (λ f. a.from i k f)
        (λ f. subst (λ (x : ℕ). Runs ms vs i k x p.hi) (sym s.low) (subst (λ (x : ℕ). Runs ms vs i k q.lo x) (sym s.high) (b.from i k f)))
        (merged_from p.sources q.sources i k e);
    one = let (i, k, e) = a.one in (i, k, merged_first p.sources q.sources i k e);
  }

  came : (q : Piece) → Among q (edges_of ms vs) → Came ms vs q
  came = order_all (Came ms vs) joined-came (cut_out ms vs) cut-came

  -- a piece for each two neighbours on an edge
  held : (i k lo hi : ℕ) → Runs ms vs i k lo hi → (z : Piece) × Among z (edges_of ms vs) × Holds (piece_of lo hi (only (length ms) i k)) z
  held i k lo hi r = order-holds (cut_out ms vs) (piece_of lo hi (only (length ms) i k)) (cut_has ms vs i k lo hi r)

-- ── no source is missing ──

module _ (ms : List Map) (K : AllKeep ms) (vs : List Pt) (O : Places vs) where
  module _ (q : Piece) (a : Among q (edges_of ms vs)) (i k : ℕ) (r : Runs ms vs i k q.lo q.hi) where
    -- what holds the piece of edge k is q
    found : (z : Piece) × Among z (edges_of ms vs) × Holds (piece_of q.lo q.hi (only (length ms) i k)) z → source_at q.sources i ≡ some k
    found (z, b, h) =
        let s : SameEnds z q = record { low = h.ends.low; high = h.ends.high } in
        let e : z ≡ q = rising-once earlier (edges_of ms vs) (pieces-rising ms vs) z q b a (ends_same z q s) (ends_same q z (ends_swap z q s)) in
        let (j, f) = h.fills i k (only-own (length ms) i k r.in_list) in
        let g : source_at q.sources i ≡ some j = ap (λ (x : Piece). source_at x.sources i) (sym e) ∙ f in
        g ∙ ap some (edge-once ms K vs O i j k q.lo q.hi ((came ms vs q a).from i j g) r)

    filled : source_at q.sources i ≡ some k
    filled = found (held ms vs i k q.lo q.hi r)

  -- a piece of the overlay is one
  pub piece_from : (q : Piece) → Among q (edges_of ms vs) → Sourced ms vs q
  piece_from q a = let c = came ms vs q a in record { width = c.width; from = c.from; all = filled q a; one = c.one }

  -- sources are determined by the ends
  sources-once : (p q : Piece) → SameEnds p q → Sourced ms vs p → Sourced ms vs q → p.sources ≡ q.sources
  sources-once p q s a b = ext_get_or none p.sources q.sources (a.width ∙ sym b.width) (λ i l. go i (option_cases (source_at p.sources i)) (option_cases (source_at q.sources i)))
    where
      to_q : (i k : ℕ) → Runs ms vs i k p.lo p.hi → Runs ms vs i k q.lo q.hi
      to_q i k r = subst (λ (x : ℕ). Runs ms vs i k x q.hi) s.low (subst (λ (x : ℕ). Runs ms vs i k p.lo x) s.high r)

      to_p : (i k : ℕ) → Runs ms vs i k q.lo q.hi → Runs ms vs i k p.lo p.hi
      to_p i k r = subst (λ (x : ℕ). Runs ms vs i k x p.hi) (sym s.low) (subst (λ (x : ℕ). Runs ms vs i k q.lo x) (sym s.high) r)

      go : (i : ℕ) → (source_at p.sources i ≡ none) ⊎ ((k : ℕ) × (source_at p.sources i ≡ some k)) → (source_at q.sources i ≡ none) ⊎ ((k : ℕ) × (source_at q.sources i ≡ some k)) → source_at p.sources i ≡ source_at q.sources i
      go i (inl e) (inl f) = e ∙ sym f
      go i (inr (k, e)) f = e ∙ sym (b.all i k (to_q i k (a.from i k e)))
      go i (inl e) (inr (k, f)) = a.all i k (to_p i k (b.from i k f)) ∙ sym f

  -- and what is one is there
  pub piece_has : (q : Piece) → Sourced ms vs q → Among q (edges_of ms vs)
  piece_has q b =
      let (i, k, e) = b.one in
      let (z, a, h) = held ms vs i k q.lo q.hi (b.from i k e) in
      let s : SameEnds z q = record { low = h.ends.low; high = h.ends.high } in
      let f : z.sources ≡ q.sources = sources-once z q s (piece_from z a) b in
      subst (λ (y : Piece). Among y (edges_of ms vs)) (λ i. record { lo = s.low i; hi = s.high i; sources = f i }) a

  -- ── by number ──

  pub piece_at_lem : (k : ℕ) → k < length (edges_of ms vs) → Sourced ms vs (piece_at (edges_of ms vs) k)
  piece_at_lem k l = piece_from (piece_at (edges_of ms vs) k) (at_among (edges_of ms vs) k no_piece l)

  -- two neighbours on an edge are the ends of a piece
  pub piece_of_lem : (i k lo hi : ℕ) → Runs ms vs i k lo hi → (r : ℕ) × (r < length (edges_of ms vs)) × ((piece_at (edges_of ms vs) r).lo ≡ lo) × ((piece_at (edges_of ms vs) r).hi ≡ hi)
  piece_of_lem i k lo hi r =
      let (z, a, h) = held ms vs i k lo hi r in
      let (n, l, e) = among_at z (edges_of ms vs) no_piece a in
      (n, l, ap (λ (y : Piece). y.lo) e ∙ h.ends.low, ap (λ (y : Piece). y.hi) e ∙ h.ends.high)

  -- lower < upper < the number of vertices
  pub piece_ends : (k : ℕ) → k < length (edges_of ms vs) → ((piece_at (edges_of ms vs) k).lo < (piece_at (edges_of ms vs) k).hi) × ((piece_at (edges_of ms vs) k).hi < length vs)
  piece_ends k l =
      let s = piece_at_lem k l in
      let (i, j, e) = s.one in
      let n = (s.from i j e).near in
      (n.rises, n.below)
