-- An edge whose ends both come after a vertex, or neither does, is not strictly west of it: where the points rise this is told by vertex numbers (`one_side_none`). Assumes nothing.
use Rattle.std.specs.Prelude.{◌≡◌, ◌≤◌, ◌<◌, ◌&&◌, ◌+◌, ◌*◌}
use Rattle.std.proofs.Common.{sym, ◌∙◌, ap, arith}
use Rattle.std.specs.Int.Signed.{lt_z}
use Rattle.seq.specs.Seq.{Bool, true, false, cond, not, List, ℕ, ltb, ℤ, pos}
use Rattle.seq.specs.Tests.{never}
use Rattle.paper.specs.Limits.{absent}
use Rattle.paper.specs.Plane.{Pt, nowhere, before, lower, upper}
use Rattle.paper.specs.Graph.{Graph, low, high, left_of}
use Rattle.laws_graph.specs.Plane.{Plane}
use Rattle.laws_fast.specs.Looks.{order-candidate}
use Rattle.graph.specs.Flat.{the_point_at, origin_at, start_at, flat_graph, Flat}
use Rattle.graph.specs.Laws.Decode.{flat-edges, flat_start}
use Rattle.graph.specs.Look.{candidate_at, flat-candidate}
use Rattle.graph.specs.Rising.{Rises, RisesIf, number_before}

-- tables that hole walks look in: those of a plane graph of n points and e edges, whose points rise where c says so
pub record Sighted (ps : List ℤ) (os : List ℕ) (cs : List ℤ) (n e : ℕ) (c : Bool) : Type 0 where
  pub flat : Flat ps os cs n e
  pub small : 2 * e ≤ absent
  pub plane : Plane (flat_graph ps os cs n e)
  pub rises : RisesIf c ps n

-- both ends of edge k have numbers after v, or neither has
abbrev pub the_one_side : List ℕ → ℕ → ℕ → Bool
the_one_side os k v = let to = ltb v (origin_at os (2 * k + 1)) in cond (ltb v (origin_at os (2 * k))) to (not to)

-- p is before both ends or before none: then it is not between them
between_no : (p a b : Pt) (c x y : Bool) → before p a ≡ x → before p b ≡ y → cond x y (not y) ≡ true → (not (before p (cond c b a)) && before p (cond c a b)) ≡ false
between_no p a b true true true ea eb e = ap (λ (z : Bool). not z && before p a) eb
between_no p a b true true false ea eb e = never e
between_no p a b true false true ea eb e = never e
between_no p a b true false false ea eb e = λ i. not (eb i) && ea i
between_no p a b false true true ea eb e = ap (λ (z : Bool). not z && before p b) ea
between_no p a b false true false ea eb e = never e
between_no p a b false false true ea eb e = never e
between_no p a b false false false ea eb e = λ i. not (ea i) && eb i

module _ (ps : List ℤ) (os : List ℕ) (cs : List ℤ) (n e : ℕ) (F : Flat ps os cs n e) (P : Plane (flat_graph ps os cs n e)) (R : Rises ps n) (k : ℕ) (l : k < e) (v : ℕ) (b : v < n) where
  abbrev g : Graph
  g = flat_graph ps os cs n e

  abbrev p : Pt
  p = the_point_at ps v

  -- which ends come after p
  after : (h : ℕ) → h < 2 * e → before p (start_at ps os h) ≡ ltb v (origin_at os h)
  after h m = sym (number_before ps n R v (origin_at os h) b (F.origins.named h m))

  parted : the_one_side os k v ≡ true → (not (before p (low g k)) && before p (high g k)) ≡ false
  parted q =
      let s = flat_start ps os cs n e F.origins (2 * k) (omega arith) in
      let t = flat_start ps os cs n e F.origins (2 * k + 1) (omega arith) in
      (λ i. not (before p (lower (s i) (t i))) && before p (upper (s i) (t i)))
      ∙ between_no p (start_at ps os (2 * k)) (start_at ps os (2 * k + 1)) (before (start_at ps os (2 * k + 1)) (start_at ps os (2 * k))) (ltb v (origin_at os (2 * k))) (ltb v (origin_at os (2 * k + 1)))
      (after (2 * k) (omega arith)) (after (2 * k + 1) (omega arith)) q

  pub one_side_none : the_one_side os k v ≡ true → candidate_at ps os cs (the_point_at ps v) nowhere k ≡ false
  one_side_none q =
      flat-candidate ps os cs n e F p (F.points.near v b) nowhere k l
      ∙ order-candidate g P p (F.points.near v b).positive k (omega (arith, flat-edges ps os cs n e))
      ∙ ap (λ (c : Bool). c && lt_z (left_of g p k) (pos 0)) (parted q)
