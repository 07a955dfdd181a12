-- Of Drawn of specs/, what rests on its definitions.
use Rattle.std.specs.Prelude.{◌≡◌, refl, ◌<◌, ◌≤ℤ◌, ◌<ℤ◌, ◌/◌}
use Rattle.std.proofs.Common.{sym, ◌∙◌, ap, subst, arith}
use Rattle.exact.specs.Order.{pos-once}
use Rattle.seq.specs.Seq.{List, Option, none, some, ℕ, zero, suc, length, get_or, or_zero, pos}
use Rattle.seq.specs.Table.{table-ext, table_const}
use Rattle.paper.specs.Plane.{Pt, Vec}
use Rattle.paper.specs.Graph.{Graph, the_half_count, west, east_side}
use Rattle.paper.specs.Map.{Map, label}
use Rattle.paper.specs.Pieces.{layer, Piece}
use Rattle.paper.specs.Faces.{label_in, walks_of, overlay_by, labels_of}
use Rattle.laws_graph.specs.Halves.{half_below}
use Rattle.laws_graph.specs.East.{east_below}
use Rattle.laws_graph.specs.West.{Sees, west-sees}
use Rattle.laws_graph.specs.Walks.{Along, along_below, along_same}
use Rattle.laws_graph.specs.Faces.{face_of, face_below}
use Rattle.laws_graph.proofs.Faces.{face-onto}
use Rattle.laws_overlay.specs.Maps.{AllKeep}
use Rattle.laws_overlay.specs.Sources.{source_at}
use Rattle.laws_overlay.specs.Pieces.{piece_at}
use Rattle.laws_overlay.specs.Cells.{face_labels}
use Rattle.laws_labels.specs.Lawful.{Lawful, keeps-lawful}
use Rattle.laws_labels.specs.Star.{the_left_in}
use Rattle.laws_labels.proofs.Star.{followed}
use Rattle.laws_labels.specs.Looks.{seen_in}
use Rattle.laws_labels.proofs.LooksSeen.{looked}
use Rattle.laws_labels.proofs.Labels.{theorem_B}
use Rattle.laws_labels.specs.OneFace.{outers_of, held_in}
use Rattle.laws_labels.proofs.OneFace.{one_face}
use Rattle.laws_labels.proofs.LabelIn.{label_in_lem}
use Rattle.laws_labels.specs.Drawn.{seen_in_maps, seen_labels, Drawn}

module _ (ms : List Map) (K : AllKeep ms) (ps : List Piece) (g : Graph) (D : Drawn ms ps g) where
  lawful : (i : ℕ) → i < length ms → Lawful (layer ms i)
  lawful i li = keeps-lawful (layer ms i) (K i li)

  abbrev label_of : ℕ → ℕ → ℕ
  label_of i h = label_in (layer ms i) g h (source_at (piece_at ps (h / 2)).sources i)

  -- it is the map's potential at the left
  is_left : (i h : ℕ) → i < length ms → h < the_half_count g → pos (label_of i h) ≡ the_left_in (layer ms i) g h
  is_left i h li l =
      label_in_lem g (layer ms i) (lawful i li) (D.covers i li) h l (D.goes h l) (source_at (piece_at ps (h / 2)).sources i) (D.source i (h / 2) li (half_below g h l))

  held_at : (i h : ℕ) → i < length ms → h < the_half_count g → (f : ℕ) → face_of g h ≡ f → pos (label_of i h) ≡ held_in (layer ms i) g f
  held_at i h li l f e = is_left i h li l ∙ one_face g (layer ms i) (lawful i li) (D.covers i li) h l ∙ ap (held_in (layer ms i) g) e

  held_by : (h : ℕ) → h < the_half_count g → (f : ℕ) → face_of g h ≡ f → labels_of ms (overlay_by ps (walks_of g)) h ≡ face_labels ms (overlay_by ps (walks_of g)) f
  held_by h l zero e =
      table-ext (λ i. label_of i h) (λ i. 0) (length ms) (λ i li. pos-once (label_of i h) 0 (held_at i h li l 0 e)) ∙ table_const 0 (length ms)
  held_by h l (suc f) e =
      let x = get_or (outers_of g) f 0 in
      let (lx, q) = face-onto g D.plane f (omega (arith, face_below g D.plane h l)) in
      table-ext (λ i. label_of i h) (λ i. label_of i x) (length ms) (λ i li. pos-once (label_of i h) (label_of i x) (held_at i h li l (suc f) e ∙ sym (is_left i x li lx)))

  -- they are the labels of the face
  pub drawn-held : (h : ℕ) → h < the_half_count g → labels_of ms (overlay_by ps (walks_of g)) h ≡ face_labels ms (overlay_by ps (walks_of g)) (face_of g h)
  drawn-held h l = held_by h l (face_of g h) refl

  -- one face, the same labels
  pub drawn-face : (h k : ℕ) → h < the_half_count g → k < the_half_count g → face_of g h ≡ face_of g k → labels_of ms (overlay_by ps (walks_of g)) h ≡ labels_of ms (overlay_by ps (walks_of g)) k
  drawn-face h k l j e = drawn-held h l ∙ ap (face_labels ms (overlay_by ps (walks_of g))) e ∙ sym (drawn-held k j)

  -- one walk, the same labels
  pub drawn-walk : (h k : ℕ) → h < the_half_count g → Along g h k → labels_of ms (overlay_by ps (walks_of g)) h ≡ labels_of ms (overlay_by ps (walks_of g)) k
  drawn-walk h k l a =
      let j = along_below g D.plane l a in
      table-ext (λ i. label_of i h) (λ i. label_of i k) (length ms) (λ i li.
      pos-once (label_of i h) (label_of i k) (is_left i h li l ∙ sym (along_same g D.plane (the_left_in (layer ms i) g) (followed g (layer ms i) (lawful i li) (D.covers i li)) l a) ∙ sym (is_left i k li j)))

  -- ── what is seen ──

  module _ (p : Pt) (hp : pos 0 <ℤ p.D) (d : Vec) (hd : pos 0 ≤ℤ d.y) where
    abbrev in_map : ℕ → ℕ
    in_map i = or_zero (label (layer ms i)) (west (layer ms i).graph p d)

    in_both : (i : ℕ) → i < length ms → pos (in_map i) ≡ seen_in (layer ms i) g (west g p d)
    in_both i li = theorem_B (layer ms i) (lawful i li) p hp d hd ∙ looked g (layer ms i) (lawful i li) (D.covers i li) p hp d hd

    seen_by : (s : Option ℕ) → Sees g p d s → ((i : ℕ) → i < length ms → pos (in_map i) ≡ seen_in (layer ms i) g s) → seen_in_maps ms p d ≡ seen_labels ms (overlay_by ps (walks_of g)) s
    seen_by none n e = table-ext in_map (λ i. 0) (length ms) (λ i li. pos-once (in_map i) 0 (e i li)) ∙ table_const 0 (length ms)
    seen_by (some h) (W, t, q) e =
        table-ext in_map (λ i. label_of i h) (length ms) (λ i li. pos-once (in_map i) (label_of i h) (e i li ∙ sym (is_left i h li (below q))))
      where
        below : east_side g W ≡ h → h < the_half_count g
        below q = subst (λ (x : ℕ). x < the_half_count g) q (east_below g W t.is.below)

    pub drawn-seen : seen_in_maps ms p d ≡ seen_labels ms (overlay_by ps (walks_of g)) (west g p d)
    drawn-seen = seen_by (west g p d) (west-sees g D.plane p hp d) in_both
