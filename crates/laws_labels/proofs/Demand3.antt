-- Of Demand3 of specs/, what rests on its definitions.
use Rattle.std.specs.Prelude.{◌≡◌, refl, ◌<◌, ◌*◌, ◌∷◌}
use Rattle.std.proofs.Common.{sym, ◌∙◌, ap, subst, arith}
use Rattle.std.proofs.lemmas.List.{length-map, length-replicate}
use Rattle.seq.specs.Seq.{List, [], none, ℕ, length, get_or, table, replicate, walk}
use Rattle.seq.specs.Terms.{Among, iter, step, turns}
use Rattle.seq.specs.Table.{length-table, table-ext, table_of}
use Rattle.paper.specs.Graph.{Graph, the_half_count, followers, follower}
use Rattle.paper.specs.Limits.{maps}
use Rattle.paper.specs.Map.{Map, map_of, fault}
use Rattle.paper.specs.Pieces.{vertices_of}
use Rattle.paper.specs.Refusal.{done}
use Rattle.paper.specs.Faces.{walks_of, lead_at, overlay_of, labels_of}
use Rattle.paper.specs.Tables.{Counts, Tables, face_cell, follower_of, predecessor_of, counts_of, tables_of}
use Rattle.paper.specs.Tables as T
use Rattle.paper.specs.Lent.{Lengths, room_in, padded_tables}
use Rattle.paper.specs.Overlay.{lent, overlay}
use Rattle.laws_graph.specs.Plane.{Plane}
use Rattle.laws_graph.specs.Follow.{followers_at, of_list}
use Rattle.laws_graph.specs.Walks.{along_below, walk-along, walk-closes, walk-once, lead_is, lead_below, lead-lead, one_walk}
use Rattle.laws_graph.specs.Faces.{face_of, face_below}
use Rattle.laws_overlay.specs.Maps.{AllKeep}
use Rattle.laws_overlay.specs.Places.{places}
use Rattle.laws_overlay.proofs.NetPlane.{net-plane}
use Rattle.laws_overlay.specs.Inside.{overlaid}
use Rattle.laws_overlay.specs.Cells.{face_labels, label-cell}
use Rattle.laws_overlay.specs.Parts.{face-count, made, face-cell_is, half_count, half-there}
use Rattle.laws_overlay.proofs.Parts.{follower_is}
use Rattle.laws_overlay.proofs.Named.{half-named}
use Rattle.laws_labels.proofs.Agree.{held-labels, face-labels, walk-labels}
use Rattle.laws_labels.specs.Done.{three_pass, passes-done, done-passes, done-counts, done-tables}
use Rattle.laws_refusals.specs.Room.{Fits}
use Rattle.laws_overlay.specs.Files.{AllPass, maps_of, files-keep}
use Rattle.laws_labels.specs.Demand3.{Closes, nx, OneWalk, followers_in, c, g, stored, n, Agrees, Holds, padded-holds, counted, triple_of}

-- ── a plane graph's walks ──

module _ (g : Graph) (P : Plane g) (h : ℕ) (l : h < the_half_count g) where
  closed : Closes (followers g) h
  closed =
      let x = iter (step (nx g P h l)) (turns (nx g P h l) h) h in
      record {
        more = turns (nx g P h l) h;
        is = (walk-closes g P h l).0;
        once = walk-once g P h l;
        back = followers_at g P x (along_below g P l (turns (nx g P h l) h, refl)) ∙ (walk-closes g P h l).1;
      }

module _ (g : Graph) (P : Plane g) (h : ℕ) (l : h < the_half_count g) where
  in_one_walk : OneWalk (followers g) h
  in_one_walk =
      let m = lead_at (walks_of g) h in
      let b = lead_below g P h l in
      record {
        least = m;
        its_own = sym (lead_is g P m b) ∙ lead-lead g P h l;
        on = (one_walk g P h l).0;
        closes = closed g P m b;
        only = λ k lk e i. let j = of_list g P lk in (one_walk g P h l).1 k j (lead_is g P k j ∙ e) i;
      }

-- ── tables that hold the rows of the overlay ──

module _ (ms : List Map) where
  module _ (K : AllKeep ms) (t : Tables) (H : Holds ms t) where
    plane : Plane (overlaid ms)
    plane = net-plane ms K (vertices_of ms) (places ms K)

    followers-are : followers_in (c ms) t ≡ followers (g ms K t H)
    followers-are =
        table-ext (follower_of t) (follower (g ms K t H)) (2 * (c ms).edges) (λ h l. H.halves h 2 l (omega arith) ∙ follower_is ms h (half-there ms l) K)
        ∙ ap (table (follower (g ms K t H))) (half_count ms)

    face_at_lem : (h : ℕ) → h < 2 * (c ms).edges → T.face_of t h ≡ face_of (g ms K t H) h
    face_at_lem h l = H.halves h 4 l (omega arith) ∙ face-cell_is ms h (half-there ms l)

    labels_at : (f : ℕ) → f < (c ms).faces → stored (n ms) t f ≡ table (λ i. get_or (face_labels ms (overlay_of ms) f) i 0) (n ms)
    labels_at f l = table-ext (face_cell (n ms) t f) (λ i. get_or (face_labels ms (overlay_of ms) f) i 0) (n ms) (λ i li. H.faces f i l li ∙ label-cell ms (overlay_of ms) f i l li)

    whole-table : (xs : List ℕ) → length xs ≡ n ms → table (λ i. get_or xs i 0) (n ms) ≡ xs
    whole-table xs e = ap (table (λ i. get_or xs i 0)) (sym e) ∙ table_of xs 0

    pub agrees : Agrees (length ms) (counts_of (overlay_of ms)) t (labels_of ms (overlay_of ms))
    agrees = record {
      one_walk = λ h l. subst (λ (nx : List ℕ). OneWalk nx h) (sym followers-are) (in_one_walk (g ms K t H) plane h (half-there ms l));
      back = λ h l. let r = half-named ms K h l in
          ap (predecessor_of t) (H.halves h 2 l (omega arith)) ∙ H.halves (follower_of (made ms) h) 3 r.follower_below (omega arith) ∙ r.back;
      forth = λ h l. let r = half-named ms K h l in
          ap (follower_of t) (H.halves h 3 l (omega arith)) ∙ H.halves (predecessor_of (made ms) h) 2 r.predecessor_below (omega arith) ∙ r.forth;
      walk_pair = λ h k l i. walk-labels ms K h k (half-there ms l) (walk-along (g ms K t H) plane h (half-there ms l) k (subst (λ (nx : List ℕ). Among k (walk nx h)) followers-are i));
      face-pair = λ h k l j e. face-labels ms K h k (half-there ms l) (half-there ms j) (sym (face_at_lem h l) ∙ e ∙ face_at_lem k j);
      stored-pair = λ h l.
          ap (stored (n ms) t) (face_at_lem h l) ∙ labels_at (face_of (g ms K t H) h) (subst (λ (z : ℕ). face_of (g ms K t H) h < z) (sym (face-count ms)) (face_below (g ms K t H) plane h (half-there ms l)))
          ∙ ap (λ (xs : List ℕ). table (λ i. get_or xs i 0) (n ms)) (sym (held-labels ms K h (half-there ms l))) ∙ whole-table (labels_of ms (overlay_of ms) h) (length-table _ (n ms));
      outside = labels_at 0 (omega (arith, face-count ms)) ∙ whole-table (replicate (n ms) 0) (length-replicate (n ms) 0);
    }

-- ── the theorem ──

-- of any number of map files
pub labels-agree : (l : Lengths) (files : List (List ℕ)) (c : Counts) → (lent l files).answer ≡ done c → Agrees (length files) c (lent l files).tables (labels_of (maps_of files) (overlay_of (maps_of files)))
labels-agree l files c d =
    let ms = maps_of files in
    let K = files-keep files (done-passes l files c d) in
    let t = padded_tables l (tables_of ms (overlay_of ms)) in
    let r = agrees ms K t (padded-holds ms l) in
    subst (λ (u : Tables). Agrees (length files) c u (labels_of ms (overlay_of ms))) (sym (done-tables l files c d))
    (subst (λ (k : Counts). Agrees (length files) k t (labels_of ms (overlay_of ms))) (sym (done-counts l files c d))
    (subst (λ (n : ℕ). Agrees n (counts_of (overlay_of ms)) t (labels_of ms (overlay_of ms))) (length-map files map_of) r))

-- with no premise but the checks and room
pub passes-agree : (l : Lengths) (files : List (List ℕ)) → AllPass files → Fits (room_in (length files) l) (counts_of (overlay_of (maps_of files))) →
    ((lent l files).answer ≡ done (counts_of (overlay_of (maps_of files)))) × Agrees (length files) (counts_of (overlay_of (maps_of files))) (lent l files).tables (labels_of (maps_of files) (overlay_of (maps_of files)))
passes-agree l files P F =
    let d = passes-done l files P F in
    (d, labels-agree l files (counts_of (overlay_of (maps_of files))) d)

-- with no premise but the three checks and room
pub demand_3 : (l : Lengths) (a b c : List ℕ) → fault a ≡ none → fault b ≡ none → fault c ≡ none → Fits (room_in maps l) (counted a b c) →
    ((overlay l a b c).answer ≡ done (counted a b c)) × Agrees maps (counted a b c) (overlay l a b c).tables (triple_of a b c)
demand_3 l a b c pa pb pc F = passes-agree l (a ∷ b ∷ c ∷ []) (three_pass a b c pa pb pc) F
