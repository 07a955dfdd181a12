-- `plane::crossings::cross_by` meets its contract: the definition turns as the code does. Assumes nothing.
use mathlib.Core.Path.{sym, ◌∙◌, subst, subst₂}
use lib.IntN.{ℤ, pos}
use lib.Signed.{◌<ℤ◌}
use Rattle.std.specs.declared.cmp.Ordering.TheVariants.{Less, Greater}
use Rattle.std.specs.Cmp.{int_ranked}
use Rattle.paper.specs.Plane.{cross_at}
use Rattle.plane.specs.Values.{seg_of}
use Rattle.plane.specs.Bounds.{Over}
use Rattle.plane.proofs.Machine.{back, number_back, turned_back}
use Rattle.plane.proofs.Crosses.{by_neg, by_plus, turned}
use Rattle.plane.proofs.crossings.cross_by.Goals as goal
use Rattle.plane.proofs.crossings.cross_by.Goals.{In-Greater, In-Less}

-- what the order told
negative : (c : In-Less) → c.args.d <ℤ pos 0
negative c = subst (λ (z : ℤ). z <ℤ pos 0) (number_back c.args.d c.requires.3) (int_ranked (back c.args.d) (pos 0) Less (sym c.in-Less.is ∙ c.cmp.ensures))

positive : (c : In-Greater) → pos 0 <ℤ c.args.d
positive c = subst (λ (z : ℤ). pos 0 <ℤ z) (number_back c.args.d c.requires.3) (int_ranked (back c.args.d) (pos 0) Greater (sym c.in-Greater.is ∙ c.cmp.ensures))

pub cross_at-requires : goal.cross_at-requires
cross_at-requires c =
    let a = c.args in
    let p = c.requires in
    let d = sym (turned_back a.d p.3) in
    (p.0, subst₂ Over (sym (turned_back a.n p.1)) d (turned a.n a.d p.1 p.3 (negative c)), subst₂ Over (sym (turned_back a.m p.2)) d (turned a.m a.d p.2 p.3 (negative c)))

pub returns-in-Less : goal.returns-in-Less
returns-in-Less c =
    let a = c.args in
    let p = c.requires in
    let s = seg_of a.s in
    record {
      is = c.cross_at.ensures.is ∙ (λ i. cross_at s (turned_back a.n p.1 i) (turned_back a.m p.2 i) (turned_back a.d p.3 i)) ∙ by_neg s a.n a.m a.d (negative (goal.at.returns-in-Less c).In-Less);
      near = c.cross_at.ensures.near;
    }

pub returns-in-Greater : goal.returns-in-Greater
returns-in-Greater c =
    let a = c.args in
    let p = c.requires in
    let s = seg_of a.s in
    record {
      is = c.cross_at-in-Greater.ensures.is ∙ (λ i. cross_at s (number_back a.n p.1 i) (number_back a.m p.2 i) (number_back a.d p.3 i)) ∙ by_plus s a.n a.m a.d (positive (goal.at.returns-in-Greater c).In-Greater);
      near = c.cross_at-in-Greater.ensures.near;
    }
