-- Demand 3 over any graph in which maps are drawn (`Drawn`), in tables that hold its rows: each half-edge lies in exactly one closed walk, stepping back undoes stepping forward, half-edges of one walk and of one
-- face have the same labels, and they are what is stored for the face (`rows_agree`). So of the melted tables (`melted-agree`). Assumes nothing.
use Rattle.std.specs.Prelude.{◌≡◌, refl, ◌<◌, ◌*◌}
use Rattle.std.proofs.Common.{sym, ◌∙◌, ap, subst, arith}
use Rattle.std.proofs.lemmas.List.{length-replicate}
use Rattle.seq.specs.Seq.{List, ℕ, length, get_or, replicate, table, walk}
use Rattle.seq.specs.Terms.{Among, iter, step, turns}
use Rattle.seq.specs.Table.{length-table, table-ext, table_of}
use Rattle.paper.specs.Graph.{Graph, the_half_count, followers, follower}
use Rattle.paper.specs.Map.{Map}
use Rattle.paper.specs.Pieces.{Piece}
use Rattle.paper.specs.Faces.{Overlay, walks_of, lead_at, overlay_by, overlay_of, labels_of}
use Rattle.paper.specs.Tables.{Counts, Tables, face_cell, follower_of, predecessor_of, counts_of, tables_of}
use Rattle.paper.specs.Tables as T
use Rattle.paper.specs.Lent.{Lengths, padded_tables}
use Rattle.paper.specs.Melt.{melted_pieces, melted_graph, melted_of}
use Rattle.laws_graph.specs.Plane.{Plane}
use Rattle.laws_graph.specs.Follow.{followers_at, of_list, follower_below, predecessor_below, predecessor-follower, follower-predecessor}
use Rattle.laws_graph.specs.Walks.{along_below, walk-along, walk-closes, walk-once, lead_is, lead_below, lead-lead, one_walk}
use Rattle.laws_graph.specs.Faces.{face_below}
use Rattle.laws_overlay.specs.Maps.{AllKeep}
use Rattle.laws_overlay.specs.Cells.{face_labels}
use Rattle.laws_labels.specs.Drawn.{Drawn}
use Rattle.laws_labels.proofs.Drawn.{drawn-held, drawn-face, drawn-walk}
use Rattle.laws_labels.specs.Demand3.{followers_in, stored, Closes, OneWalk, Agrees}
use Rattle.laws_melt.specs.Melts.{melted-drawn}
use Rattle.laws_promise.specs.Rows.{Rows}
use Rattle.laws_melted.specs.Rows.{melted-rows}

-- ── a plane graph's walks ──

module _ (g : Graph) (P : Plane g) (h : ℕ) (l : h < the_half_count g) where
  abbrev nx : List ℕ
  nx = followers g

  closed : Closes (followers g) h
  closed =
      let x = iter (step nx) (turns nx h) h in
      record {
        more = turns nx h;
        is = (walk-closes g P h l).0;
        once = walk-once g P h l;
        back = followers_at g P x (along_below g P l (turns nx h, refl)) ∙ (walk-closes g P h l).1;
      }

module _ (g : Graph) (P : Plane g) (h : ℕ) (l : h < the_half_count g) where
  in_one_walk : OneWalk (followers g) h
  in_one_walk =
      let m = lead_at (walks_of g) h in
      let b = lead_below g P h l in
      record {
        least = m;
        its_own = sym (lead_is g P m b) ∙ lead-lead g P h l;
        on = (one_walk g P h l).0;
        closes = closed g P m b;
        only = λ k lk e i. let j = of_list g P lk in (one_walk g P h l).1 k j (lead_is g P k j ∙ e) i;
      }

-- ── tables that hold the rows of a drawn graph ──

module _ (ms : List Map) (K : AllKeep ms) (ps : List Piece) (g : Graph) (D : Drawn ms ps g) (c : Counts) (t : Tables) (R : Rows ms ps g c t) where
  abbrev o : Overlay
  o = overlay_by ps (walks_of g)

  abbrev n : ℕ
  n = length ms

  abbrev P : Plane g
  P = D.plane

  half_in : {h : ℕ} → h < 2 * c.edges → h < the_half_count g
  half_in {h} = subst (λ (z : ℕ). h < 2 * z) R.edges_are

  half_of : {h : ℕ} → h < the_half_count g → h < 2 * c.edges
  half_of {h} = subst (λ (z : ℕ). h < 2 * z) (sym R.edges_are)

  face-counted : (h : ℕ) → h < 2 * c.edges → T.face_of t h < c.faces
  face-counted h l = omega (arith, R.face_at_lem h l, R.faces-are, face_below g P h (half_in l))

  followers-are : followers_in c t ≡ followers g
  followers-are = table-ext (follower_of t) (follower g) (2 * c.edges) R.follower_at_lem ∙ ap (λ (z : ℕ). table (follower g) (2 * z)) R.edges_are

  -- what is stored for a face
  whole-table : (xs : List ℕ) → length xs ≡ n → table (λ i. get_or xs i 0) n ≡ xs
  whole-table xs e = ap (table (λ i. get_or xs i 0)) (sym e) ∙ table_of xs 0

  stored-labels : (f : ℕ) → f < c.faces → stored n t f ≡ table (λ i. get_or (face_labels ms o f) i 0) n
  stored-labels f l = table-ext (face_cell n t f) (λ i. get_or (face_labels ms o f) i 0) n (λ i li. R.label_at_lem f i l li)

  pub rows_agree : Agrees (length ms) c t (labels_of ms (overlay_by ps (walks_of g)))
  rows_agree = record {
    one_walk = λ h l. subst (λ (nx : List ℕ). OneWalk nx h) (sym followers-are) (in_one_walk g P h (half_in l));
    back = λ h l.
        ap (predecessor_of t) (R.follower_at_lem h l) ∙ R.predecessor_at (follower g h) (half_of (follower_below g P h (half_in l))) ∙ predecessor-follower g P h (half_in l);
    forth = λ h l.
        let e = R.predecessor_at h l in
        let b = half_of (predecessor_below g P h (half_in l)) in
        ap (follower_of t) e ∙ R.follower_at_lem _ b ∙ follower-predecessor g P h (half_in l);
    walk_pair = λ h k l i. drawn-walk ms K ps g D h k (half_in l) (walk-along g P h (half_in l) k (subst (λ (nx : List ℕ). Among k (walk nx h)) followers-are i));
    face-pair = λ h k l j e. drawn-face ms K ps g D h k (half_in l) (half_in j) (sym (R.face_at_lem h l) ∙ e ∙ R.face_at_lem k j);
    stored-pair = λ h l.
        stored-labels (T.face_of t h) (face-counted h l)
        ∙ ap (λ (f : ℕ). table (λ i. get_or (face_labels ms o f) i 0) n) (R.face_at_lem h l)
        ∙ ap (λ (xs : List ℕ). table (λ i. get_or xs i 0) n) (sym (drawn-held ms K ps g D h (half_in l))) ∙ whole-table (labels_of ms o h) (length-table _ n);
    outside = stored-labels 0 (omega (arith, R.faces-are)) ∙ whole-table (replicate n 0) (length-replicate n 0);
  }

-- ── the melted tables ──

module _ (ms : List Map) (K : AllKeep ms) (l : Lengths) where
  pub melted-agree : Agrees (length ms) (counts_of (melted_of ms)) (padded_tables l (tables_of ms (melted_of ms))) (labels_of ms (melted_of ms))
  unfolding melted_of
  melted-agree = rows_agree ms K (melted_pieces ms (overlay_of ms)) (melted_graph ms (overlay_of ms)) (melted-drawn ms K) _ _ (melted-rows ms K l)
