-- What it gives that two edges that go up do not clash, as rule 8 of a map says of any two: a point on both is an end of both (`common-end`); no point inside the one is on the other, in particular no
-- end and no crossing; they are not the same edge; and where they have a foot or a head in common, they go different ways. Assumes nothing.
use Rattle.std.specs.Prelude.{◌≡◌, true, false, ◌⊎◌, pos, ◌<ℤ◌}
use Rattle.std.proofs.Common.{sym, ◌∙◌, ap, inl, inr}
use Rattle.std.proofs.Math.Option.{some}
use Rattle.exact.specs.Lowest.{Pt}
use Rattle.exact.specs.Tests.{clash as no_both}
use Rattle.paper.specs.Plane.{Vec, Seg, cross, head, whole, before, same, the_left_by, less_angle, clash, crossing}
use Rattle.laws_plane.specs.Cone.{UpV}
use Rattle.laws_plane.specs.Points.{same_self}
use Rattle.laws_plane.specs.Ends.{0<1}
use Rattle.laws_plane.specs.Angles.{Turn, less, same as same_way, more, turned}
use Rattle.laws_plane.specs.Sides.{left_foot, left_head}
use Rattle.laws_plane.specs.Edges.{On, Inside, IsEnd, inside_on, on_where, seg_up, end_not_inside}
use Rattle.laws_plane.specs.Crossing.{crossing-touch}
use Rattle.laws_plane.specs.Clash.{Clash, overlap-clash, foot_in, head_in, equal, way-clash, shares-clash, clash-swap}

-- one of two that go up and are not parallel has the lesser angle
pub up_turned : (u v : Vec) → (cross u v ≡ pos 0 → ⊥) → (less_angle u v ≡ true) ⊎ (less_angle v u ≡ true)
up_turned u v n = go (turned u v)
  where
    go : Turn u v → (less_angle u v ≡ true) ⊎ (less_angle v u ≡ true)
    go (less e) = inl e
    go (same_way w) = absurd (n w.parallel)
    go (more e) = inr e

-- what does not clash is clear of the inside of the first
module _ (s t : Seg) (us : UpV s.up) (ut : UpV t.up) (c : clash s t ≡ false) where
  refused : Clash s t → ⊥
  refused w = no_both (way-clash s t w) c

  pub inside-clear : (q : Pt) → pos 0 <ℤ q.D → Inside s q → On t q → ⊥
  inside-clear q h i o = no_both (shares-clash s t us ut (record { at = q; real = h; first = inside_on s q i; second = o; no_end = λ a b. end_not_inside s q a i })) c

  pub foot-outside : Inside s (whole t.foot) → ⊥
  foot-outside i = refused (foot_in i)

  pub head-outside : Inside s (whole (head t)) → ⊥
  head-outside i = refused (head_in i)

  pub not_equal : s ≡ t → ⊥
  not_equal e =
      refused (equal (ap (λ (x : Seg). same (whole s.foot) (whole x.foot)) (sym e) ∙ same_self (whole s.foot))
      (ap (λ (x : Seg). same (whole (head s)) (whole (head x))) (sym e) ∙ same_self (whole (head s))))

  -- a point on both is an end of the first
  pub end_of_first : (q : Pt) → pos 0 <ℤ q.D → On s q → On t q → IsEnd s q
  end_of_first q h a b = go (on_where s q a)
    where
      go : Inside s q ⊎ IsEnd s q → IsEnd s q
      go (inl i) = absurd (inside-clear q h i b)
      go (inr e) = e

module _ (s t : Seg) (us : UpV s.up) (ut : UpV t.up) (c : clash s t ≡ false) where
  back : clash t s ≡ false
  back = clash-swap t s ut us ∙ c

  pub common-end : (q : Pt) → pos 0 <ℤ q.D → On s q → On t q → IsEnd s q × IsEnd t q
  common-end q h a b = (end_of_first s t us ut c q h a b, end_of_first t s ut us back q h b a)

  pub crossing-end : (p : Pt) → crossing s t ≡ some p → IsEnd s p × IsEnd t p
  crossing-end p e = let h = crossing-touch s t us ut p e in common-end p h.lowest_p.positive h.first h.second

  -- ── a common foot ──

  module _ (e : s.foot ≡ t.foot) where
    pub foot-turned : cross s.up t.up ≡ pos 0 → ⊥
    foot-turned z =
        refused s t us ut c (overlap-clash s t us ut (whole s.foot) 0<1 (left_foot s) (ap (λ (a : Vec). the_left_by t (whole a)) e ∙ left_foot t) z
        (ap (λ (a : Vec). before (whole a) (whole (head t))) e ∙ seg_up t ut) (ap (λ (a : Vec). before (whole a) (whole (head s))) (sym e) ∙ seg_up s us))

    pub foot_angle : (less_angle s.up t.up ≡ true) ⊎ (less_angle t.up s.up ≡ true)
    foot_angle = up_turned s.up t.up foot-turned

  -- ── a common head ──

  module _ (e : head s ≡ head t) where
    pub head-turned : cross s.up t.up ≡ pos 0 → ⊥
    head-turned z =
        refused s t us ut c (overlap-clash s t us ut (whole (head s)) 0<1 (left_head s) (ap (λ (a : Vec). the_left_by t (whole a)) e ∙ left_head t) z
        (ap (λ (a : Vec). before (whole s.foot) (whole a)) (sym e) ∙ seg_up s us) (ap (λ (a : Vec). before (whole t.foot) (whole a)) e ∙ seg_up t ut))

    pub head_angle : (less_angle s.up t.up ≡ true) ⊎ (less_angle t.up s.up ≡ true)
    head_angle = up_turned s.up t.up head-turned
