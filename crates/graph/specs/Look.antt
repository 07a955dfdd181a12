-- Looking west in flat tables: what the code computes, and that it is the definition's. What a look answers, in the definition's terms. Assumes nothing.
use Rattle.std.specs.Prelude.{◌≡◌, ◌<◌, ◌<ℤ◌, ◌&&◌, ◌+◌, ◌*◌, ◌-ℤ◌, ◌*ℤ◌}
use Rattle.std.proofs.Common.{sym, ◌∙◌, ap, arith}
use Rattle.seq.specs.Seq.{Bool, cond, not, List, Option, none, some, Option·map, ℕ, ℤ, pos, neg_ℤ, best, get_or, or_zero}
use Rattle.seq.specs.Best.{best_has}
use Rattle.seq.specs.BestLoop.{best-ext}
use Rattle.paper.specs.Plane.{Pt, Vec, Seg, vec, cross, rises, below, the_left_by}
use Rattle.paper.specs.Graph.{Graph, at_height, nearer, east_side, west}
use Rattle.laws_graph.specs.West.{candidate}
use Rattle.laws_graph.specs.Across.{height_between}
use Rattle.plane.specs.Bounds.{Near}
use Rattle.graph.specs.Flat.{carrier_at, origin_at, start_at, flat_graph, Flat}
use Rattle.graph.specs.Laws.Decode.{flat-edges, flat_start, flat-upward, flat_left}
use Rattle.graph.specs.Heading.{the_up_at, flat_up}
use Rattle.std.specs.declared.option.Option as Std
use Rattle.std.specs.declared.option.Option.TheVariants.{None, Some}

-- ── what is answered ──

-- the edge, or the half-edge, that is seen; "With no candidate, the outside is seen"
abbrev pub the_seen_of : Std.Option ℕ → Option ℕ
the_seen_of (Some k) = some k
the_seen_of None = none

-- ── the tests ──

-- one end of edge k is above p, and the other is not
abbrev pub height_at : List ℤ → List ℕ → Pt → ℕ → Bool
height_at ps os p k = let b = below p (start_at ps os (2 * k + 1)) in cond (below p (start_at ps os (2 * k))) (not b) b

-- the edge s lies west of p, or goes through p with an upward direction of greater angle than d
abbrev pub westward_of : Seg → Pt → Vec → Bool
westward_of s p d = rises (vec (cross d s.up) (neg_ℤ (the_left_by s p)))

-- at the height of p the edge s lies east of t, or meets it there and has the smaller upward angle
abbrev pub nearer_of : Seg → Seg → Pt → Bool
nearer_of s t p = rises (vec (cross s.up t.up) (the_left_by s p *ℤ t.up.y -ℤ the_left_by t p *ℤ s.up.y))

abbrev pub candidate_at : List ℤ → List ℕ → List ℤ → Pt → Vec → ℕ → Bool
candidate_at ps os cs p d k = height_at ps os p k && westward_of (carrier_at cs k) p d

abbrev pub nearer_at : List ℤ → Pt → ℕ → ℕ → Bool
nearer_at cs p k r = nearer_of (carrier_at cs k) (carrier_at cs r) p

abbrev pub east_at : List ℤ → List ℕ → ℕ → ℕ
east_at ps os k = cond (the_up_at ps os (2 * k)) (2 * k + 1) (2 * k)

-- the label of what is seen from p along d, of the labels of half-edges; or 0 "where the outside is seen"
abbrev pub seen_label : Graph → List ℕ → Pt → Vec → ℕ
seen_label g ls p d = or_zero (λ x. get_or ls x 0) (west g p d)

-- ── the definition's ──

module _ (ps : List ℤ) (os : List ℕ) (cs : List ℤ) (n e : ℕ) (F : Flat ps os cs n e) (p : Pt) (N : Near p) where
  start-near : (h : ℕ) → h < 2 * e → pos 0 <ℤ (start_at ps os h).D
  start-near h l = (F.points.near (origin_at os h) (F.origins.named h l)).positive

  pub flat-height : (k : ℕ) → k < e → height_at ps os p k ≡ at_height (flat_graph ps os cs n e) p k
  flat-height k l =
      let g = flat_graph ps os cs n e in
      let a = flat_start ps os cs n e F.origins (2 * k) (omega arith) in
      let b = flat_start ps os cs n e F.origins (2 * k + 1) (omega arith) in
      (λ i. cond (below p (sym a i)) (not (below p (sym b i))) (below p (sym b i)))
      ∙ sym (height_between g p k N.positive (rw a (start-near (2 * k) (omega arith))) (rw b (start-near (2 * k + 1) (omega arith))))

  pub flat-candidate : (d : Vec) (k : ℕ) → k < e → candidate_at ps os cs p d k ≡ candidate (flat_graph ps os cs n e) p d k
  flat-candidate d k l =
      λ i. flat-height k l i && rises (vec (cross d (sym (flat-upward ps os cs n e k l) i)) (neg_ℤ (sym (flat_left ps os cs n e p k l) i)))

  pub flat-nearer : (k r : ℕ) → k < e → r < e → nearer_at cs p k r ≡ nearer (flat_graph ps os cs n e) p k r
  flat-nearer k r l m =
      let u = sym (flat-upward ps os cs n e k l) in
      let v = sym (flat-upward ps os cs n e r m) in
      let a = sym (flat_left ps os cs n e p k l) in
      let b = sym (flat_left ps os cs n e p r m) in
      λ i. rises (vec (cross (u i) (v i)) (a i *ℤ (v i).y -ℤ b i *ℤ (u i).y))

  pub flat-best : (d : Vec) → best (candidate_at ps os cs p d) (nearer_at cs p) e ≡ best (candidate (flat_graph ps os cs n e) p d) (nearer (flat_graph ps os cs n e) p) e
  flat-best d =
      best-ext (candidate_at ps os cs p d) (candidate (flat_graph ps os cs n e) p d) (nearer_at cs p) (nearer (flat_graph ps os cs n e) p) e (flat-candidate d) flat-nearer

  pub flat-west : (d : Vec) → Option·map (east_side (flat_graph ps os cs n e)) (best (candidate (flat_graph ps os cs n e) p d) (nearer (flat_graph ps os cs n e) p) e) ≡ west (flat_graph ps os cs n e) p d
  flat-west d = let g = flat_graph ps os cs n e in ap (λ (m : ℕ). Option·map (east_side g) (best (candidate g p d) (nearer g p) m)) (sym (flat-edges ps os cs n e))

pub flat-east : (ps : List ℤ) (os : List ℕ) (cs : List ℤ) (n e : ℕ) → Flat ps os cs n e → (k : ℕ) → k < e → east_at ps os k ≡ east_side (flat_graph ps os cs n e) k
flat-east ps os cs n e F k l = ap (λ (c : Bool). cond c (2 * k + 1) (2 * k)) (sym (flat_up ps os cs n e F (2 * k) (omega arith)))

-- the edge that is seen is one of the e edges, and what is seen is its east side
module _ (ps : List ℤ) (os : List ℕ) (cs : List ℤ) (n e : ℕ) (F : Flat ps os cs n e) (p : Pt) (N : Near p) (d : Vec) (k : ℕ) (q : best (candidate (flat_graph ps os cs n e) p d) (nearer (flat_graph ps os cs n e) p) e ≡ some k) where
  pub seen_below : k < e
  seen_below = (best_has (candidate (flat_graph ps os cs n e) p d) (nearer (flat_graph ps os cs n e) p) e k q).below

  pub seen-east : some (east_at ps os k) ≡ west (flat_graph ps os cs n e) p d
  seen-east =
      ap some (flat-east ps os cs n e F k seen_below) ∙ ap (Option·map (east_side (flat_graph ps os cs n e))) (sym q) ∙ flat-west ps os cs n e F p N d
