-- Dropping edges makes no more faces. A plane graph whose half-edges are labelled by their faces keeps rule 10 (`faced-lawful`), so its face numbers are potentials. Where s is a part of a neat graph g, g covers s
-- with these labels (`faced-covers`); so half-edges of s that lie in one face of g lie in one face of s, and in face 0 of s if they do in g (`faces-refine`). So s has no more faces than g (`fewer-faces`),
-- and the melted tables fit wherever the overlay's do (`melted-faces`). Ask 12 leans on it. Assumes nothing.
use Rattle.std.specs.Prelude.{◌≡◌, ◌<◌, ◌≤◌, ◌+◌, ◌*◌, ◌-◌, ◌||◌}
use Rattle.std.proofs.Math.Path.{refl}
use Rattle.std.proofs.Common.{sym, ◌∙◌, ap, subst, ⊎_elim, arith, eqb-true}
use Rattle.std.proofs.Math.Decide.{dec_lt}
use Rattle.exact.specs.Sign.{is_zer}
use Rattle.exact.specs.Signs.{zero_is}
use Rattle.exact.specs.Order.{pos-once}
use Rattle.seq.specs.Seq.{Bool, true, false, List, Option, none, some, ℕ, zero, suc, eqb, length, get_or, count, table, or_zero, pos}
use Rattle.seq.specs.Table.{table_at}
use Rattle.seq.specs.Perm.{pigeon}
use Rattle.seq.specs.Tests.{or_cases}
use Rattle.seq.proofs.Least.{some_witness}
use Rattle.paper.specs.Plane.{Pt, Seg, cross, the_left_by}
use Rattle.paper.specs.Graph.{Graph, Edge, edge_count, the_half_count, edge, origin, low, high, follower, followers, makes_hole, hole_look}
use Rattle.paper.specs.Map.{Map, label}
use Rattle.paper.specs.Pieces.{Piece}
use Rattle.paper.specs.Faces.{overlay_of}
use Rattle.paper.specs.Tables.{counts_of}
use Rattle.laws_plane.specs.Angles.{cross-self}
use Rattle.laws_graph.specs.Halves.{origin_first, origin-second}
use Rattle.laws_graph.specs.Plane.{Plane}
use Rattle.laws_graph.specs.Follow.{follower_below}
use Rattle.laws_graph.specs.Walks.{along-step, hole_is}
use Rattle.laws_graph.specs.Holes.{makes-hole}
use Rattle.laws_graph.specs.Seen.{hole-sees-smaller}
use Rattle.laws_graph.specs.Faces.{face_of, face_same, face_below}
use Rattle.laws_graph.proofs.Faces.{hole-face, face-onto}
use Rattle.laws_map.specs.Keeps.{seg}
use Rattle.laws_overlay.specs.Maps.{AllKeep}
use Rattle.laws_overlay.specs.Pieces.{piece_at}
use Rattle.laws_overlay.specs.Parts.{face-count}
use Rattle.laws_overlay.specs.Inside.{overlaid}
use Rattle.laws_labels.specs.Pot.{pot}
use Rattle.laws_labels.specs.Cuts.{at_left, Leaves}
use Rattle.laws_labels.specs.Spans.{Span, OnSpan, EndOf}
use Rattle.laws_labels.specs.Clear.{Within, Clear}
use Rattle.laws_labels.specs.Lawful.{Lawful}
use Rattle.laws_labels.specs.Covers.{spans, Covers}
use Rattle.laws_labels.proofs.Labels.{theorem_A}
use Rattle.laws_labels.specs.OneFace.{outers_of, held_in}
use Rattle.laws_labels.proofs.OneFace.{one_face}
use Rattle.laws_melt.specs.Part.{Part, old, old_below, start_old, up_old, upward_old, low_old, high_old, part-plane}
use Rattle.laws_melt.specs.Neat.{Neat, piece_span, neat_share, neat_clear, overlay_neat}
use Rattle.paper.specs.Melt.{kept_pieces, is_end, melted_graph, melted_of}
use Rattle.laws_melt.specs.Thin.{was, stood, stood-nth, edges_long, pieces_long, piece-was, melted-edge, melted-part}
use Rattle.laws_melt.specs.Melts.{was_half}

-- every vertex has an edge
abbrev Used : Graph → Type 0
Used s = (v : ℕ) → v < length s.points → (h : ℕ) × (h < the_half_count s) × (origin s h ≡ v)

-- a graph whose half-edges are labelled by their faces
abbrev pub faced : Graph → Map
faced s = record { graph = s; labels = table (face_of s) (the_half_count s) }

module _ (s : Graph) where
  label-face : (h : ℕ) → h < the_half_count s → label (faced s) h ≡ face_of s h
  label-face h l = table_at (face_of s) (the_half_count s) h 0 l

-- ── a part of a neat graph ──

module _ (g s : Graph) (N : Neat g) (Edge-of vertex_of_lem : ℕ → ℕ) (S : Part g s Edge-of vertex_of_lem) (U : Used s) where
  abbrev m : Map
  m = faced s

  P : Plane s
  P = part-plane g s Edge-of vertex_of_lem S N.plane

  -- an edge of s is one of g
  span_old : (k : ℕ) → k < edge_count s → piece_span s k ≡ piece_span g (Edge-of k)
  span_old k l = λ i. record { line = S.carrier_is k l i; bottom = low_old g s Edge-of vertex_of_lem S k l i; top = high_old g s Edge-of vertex_of_lem S k l i }

  one : (h : ℕ) → h < the_half_count s → label m (follower s h) ≡ label m h
  one h l = label-face s (follower s h) (follower_below s P h l) ∙ face_same s P h (follower s h) l (along-step s P h l) ∙ sym (label-face s h l)

  hole : (h : ℕ) → h < the_half_count s → makes_hole s (followers s) h ≡ true → label m h ≡ or_zero (label m) (hole_look s (followers s) h)
  hole h l e = label-face s h l ∙ hole-face s P h l (hole_is s P h l ∙ makes-hole s P h l e) ∙ seen (hole_look s (followers s) h) refl
    where
      seen : (o : Option ℕ) → hole_look s (followers s) h ≡ o → or_zero (face_of s) o ≡ or_zero (label m) o
      seen none q = refl
      seen (some x) q = sym (label-face s x (hole-sees-smaller s P h x l q).0)

  -- rule 10 holds of face numbers
  pub faced-lawful : Lawful (faced s)
  faced-lawful = record {
    plane = P;
    within = λ k l. subst (λ (e : Span). Within e.line e.bottom e.top) (sym (span_old k l)) (N.within (Edge-of k) (S.edge_below k l));
    share = λ i j li lj d q hq a b.
        let r = neat_share g N (Edge-of i) (Edge-of j) (S.edge_below i li) (S.edge_below j lj) (λ e. d (S.edge-once i j li lj e)) q hq
        (subst (λ (e : Span). OnSpan e q) (span_old i li) a) (subst (λ (e : Span). OnSpan e q) (span_old j lj) b) in
        (subst (λ (e : Span). EndOf e q) (sym (span_old i li)) r.0, subst (λ (e : Span). EndOf e q) (sym (span_old j lj)) r.1);
    used = U;
    one_label = one;
    hole-label = hole;
  }

  piece-self : (b : Bool) (q : Pt) (e : Span) → Leaves q b e → spans b q e.bottom e.top ≡ true
  piece-self true q e o = o.reaches
  piece-self false q e o = o.reaches

  pub faced-covers : Covers g (faced s)
  faced-covers = record {
    plane = N.plane;
    within = N.within;
    no_inside = N.no_inside;
    clear = λ k j l lj. subst (Clear (edge g k).carrier (low g k) (high g k)) (sym (span_old j lj)) (neat_clear g N k (Edge-of j) l (S.edge_below j lj));
    piece_at_lem = λ j lj w q hq b o.
        let o' = subst (Leaves q b) (span_old j lj) o in
        record {
          piece = Edge-of j;
          below = S.edge_below j lj;
          parallel = ap (λ (u : Seg). cross u.up (seg m j).up) (sym (S.carrier_is j lj)) ∙ cross-self (seg m j).up;
          on = zero_is (the_left_by (edge g (Edge-of j)).carrier q) (ap is_zer o'.on);
          reaches = piece-self b q (piece_span g (Edge-of j)) o';
        };
  }

  -- a face of g lies in one face of s
  pub faces-refine : (h : ℕ) → h < the_half_count s → pos (face_of s h) ≡ held_in (faced s) g (face_of g (old g s Edge-of vertex_of_lem S h))
  faces-refine h l =
      ap pos (sym (label-face s h l))
      ∙ theorem_A m faced-lawful h l
      ∙ (λ i. pot m (at_left (start_old g s Edge-of vertex_of_lem S h l i) (up_old g s Edge-of vertex_of_lem S h l i) (upward_old g s Edge-of vertex_of_lem S h l i)))
      ∙ one_face g m faced-lawful faced-covers (old g s Edge-of vertex_of_lem S h) (old_below g s Edge-of vertex_of_lem S h l)

  -- ── no more faces ──

  abbrev of_face : ℕ → ℕ
  of_face f = face_of g (old g s Edge-of vertex_of_lem S (get_or (outers_of s) f 0))

  module _ (f : ℕ) (lf : f < length (outers_of s)) where
    outer : (get_or (outers_of s) f 0 < the_half_count s) × (face_of s (get_or (outers_of s) f 0) ≡ suc f)
    outer = let r = face-onto s P f lf in (r.0, r.1)

    holds : pos (suc f) ≡ held_in m g (of_face f)
    holds = ap pos (sym outer.1) ∙ faces-refine (get_or (outers_of s) f 0) outer.0

    not_outside : of_face f ≡ 0 → ⊥
    not_outside e = let q = pos-once (suc f) 0 (holds ∙ ap (held_in m g) e) in omega arith

    in_faces : of_face f < suc (length (outers_of g))
    in_faces = face_below g N.plane (old g s Edge-of vertex_of_lem S (get_or (outers_of s) f 0)) (old_below g s Edge-of vertex_of_lem S (get_or (outers_of s) f 0) outer.0)

  less_one : (a b : ℕ) → (a ≡ 0 → ⊥) → (b ≡ 0 → ⊥) → a - 1 ≡ b - 1 → a ≡ b
  less_one zero b n w e = absurd (n refl)
  less_one (suc a) zero n w e = absurd (w refl)
  less_one (suc a) (suc b) n w e = omega arith

  below_one : (a n : ℕ) → (a ≡ 0 → ⊥) → a < suc n → a - 1 < n
  below_one zero n w l = absurd (w refl)
  below_one (suc a) n w l = omega arith

  pub fewer-faces : length (outers_of s) ≤ length (outers_of g)
  fewer-faces =
      elim (dec_lt (length (outers_of g)) (length (outers_of s))) [
        | yes q ↦ absurd (pigeon (length (outers_of g)) (λ f. of_face f - 1)
            (λ f l. below_one (of_face f) (length (outers_of g)) (not_outside f (omega arith)) (in_faces f (omega arith)))
            (λ f e l k w. let a : suc f ≡ suc e = pos-once (suc f) (suc e) (holds f (omega arith) ∙ ap (held_in m g) (less_one (of_face f) (of_face e) (not_outside f (omega arith)) (not_outside e (omega arith)) w) ∙ sym (holds e (omega arith))) in omega arith))
        | no q ↦ omega arith
      ]

-- ── the melted tables ──

module _ (ms : List Map) (K : AllKeep ms) where
  abbrev melted : Graph
  melted = melted_graph ms (overlay_of ms)

  abbrev kept : List Piece
  kept = kept_pieces ms (overlay_of ms)

  abbrev used : ℕ → Bool
  used = is_end kept

  vertex-used : Used melted
  vertex-used v l =
      let r = stood-nth ms K v l in
      let (k, lk, e) = some_witness (λ j. eqb (piece_at kept j).lo (stood ms K v) || eqb (piece_at kept j).hi (stood ms K v)) (length kept) r.1 in
      let b : k < edge_count melted = omega (arith, lk, edges_long ms K, pieces_long ms K) in
      ⊎_elim
      (λ t. (2 * k, omega arith, origin_first k melted ∙ ap (λ (x : Edge). x.from) (melted-edge ms K k b) ∙ ap (λ (p : Piece). count used p.lo) (sym (piece-was ms K k b)) ∙ ap (count used) (eqb-true (piece_at kept k).lo (stood ms K v) t) ∙ r.2))
      (λ t. (2 * k + 1, omega arith, origin-second k melted ∙ ap (λ (x : Edge). x.to) (melted-edge ms K k b) ∙ ap (λ (p : Piece). count used p.hi) (sym (piece-was ms K k b)) ∙ ap (count used) (eqb-true (piece_at kept k).hi (stood ms K v) t) ∙ r.2))
      (or_cases (eqb (piece_at kept k).lo (stood ms K v)) (eqb (piece_at kept k).hi (stood ms K v)) e)

  faces-are : (counts_of (melted_of ms)).faces ≡ suc (length (outers_of melted))
  unfolding melted_of
  faces-are = refl

  -- the melted tables have no more faces than the overlay's
  pub melted-faces : (counts_of (melted_of ms)).faces ≤ (counts_of (overlay_of ms)).faces
  melted-faces = omega (arith, faces-are, face-count ms, fewer-faces (overlaid ms) melted (overlay_neat ms K) (was ms K) (stood ms K) (melted-part ms K) vertex-used)

  -- kept half-edges of one face of the overlay are in one face of the melted tables
  pub melted-joins : (h k : ℕ) → h < the_half_count (melted_graph ms (overlay_of ms)) → k < the_half_count (melted_graph ms (overlay_of ms)) →
      face_of (overlaid ms) (was_half ms K h) ≡ face_of (overlaid ms) (was_half ms K k) → face_of (melted_graph ms (overlay_of ms)) h ≡ face_of (melted_graph ms (overlay_of ms)) k
  melted-joins h k l j e =
      let R = faces-refine (overlaid ms) melted (overlay_neat ms K) (was ms K) (stood ms K) (melted-part ms K) vertex-used in
      pos-once (face_of melted h) (face_of melted k) (R h l ∙ ap (held_in (faced melted) (overlaid ms)) e ∙ sym (R k j))
