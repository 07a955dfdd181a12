-- `plane::crossings::cross_at` meets its contract: what `along` gives, in lowest terms, is the point of the definition. Assumes nothing.
use mathlib.Core.Path.{◌≡◌, refl, sym, ◌∙◌, ap, subst}
use mathlib.Core.Bool.{Bool, cond, ◌&&◌}
use lib.IntN.{ℤ}
use borrow.Author.Rules.{rules}
use Rattle.seq.specs.Seq.{none, some}
use Rattle.paper.specs.Plane.{Seg, within, cross_at}
use Rattle.plane.specs.Values.{seg_of, pt_of}
use Rattle.plane.specs.Bounds.{Near, Over}
use Rattle.plane.specs.Parameters.{point_along}
use Rattle.plane.proofs.Machine.{back, number_back, pt_back}
use Rattle.plane.proofs.Crosses.{lowest_of, near-lowest}
use Rattle.plane.proofs.crossings.cross_at.Goals as goal
use Rattle.plane.proofs.crossings.cross_at.Goals.{After-along-p, After-within, After-within-then-within, Start, Then-within, Then-within-2, else-within-via-then-within+else-within-2, else-within-via-else-within}

-- the definition, where it is known of the two parameters
by : (s : Seg) (n m d : ℤ) {a b : Bool} → a ≡ within n d → b ≡ within m d → cond (a && b) (some (lowest_of (point_along s n d))) none ≡ cross_at s n m d
by s n m d e f = λ i. cond (e i && f i) (some (lowest_of (point_along s n d))) none

-- the test of a parameter, as the machine makes it
told : (n d : ℤ) → Over n d → within (back n) (back d) ≡ within n d
told n d o = λ i. within (number_back n o.n_is i) (number_back d o.d_is i)

pub returns-then-within-2 : goal.returns-then-within-2
returns-then-within-2 c =
    let after-along : After-along-p = search rules in
    let then1 : Then-within = search rules in
    let after-within : After-within = search rules in
    let then2 : Then-within-2 = search rules in
    let after-within2 : After-within-then-within = search rules in
    let st : Start = search rules in
    let n = st.args.n in
    let d = st.args.d in
    let s = seg_of st.args.s in
    let p = after-along.along-p in
    let o = st.requires.1 in
    let first = sym then1.if-within.true ∙ after-within.within.ensures ∙ told n d o in
    let second = sym then2.if-within-2.true ∙ after-within2.within-then-within.ensures ∙ told st.args.m d st.requires.2 in
    let low : pt_of c.lowest-q.result ≡ lowest_of (pt_of p.result) = c.lowest-q.ensures ∙ ap lowest_of (pt_back p.result.x p.result.y p.result.d p.ensures.near) in
    let at : pt_of p.result ≡ point_along s n d = p.ensures.is ∙ (λ i. point_along s (number_back n o.n_is i) (number_back d o.d_is i)) in
    record { is = ap some (low ∙ ap lowest_of at) ∙ by s n st.args.m d first second; near = subst Near (sym low) (near-lowest (pt_of p.result) p.ensures.near) }

pub returns-else-within : goal.returns-else-within
returns-else-within c =
    let a = c.args in
    let first = c.within.ensures ∙ told a.n a.d c.requires.1 in
    elim c.else-within.branch [
      | else-within-via-then-within+else-within-2 w ↦
          record { is = by (seg_of a.s) a.n a.m a.d (sym w.if-within.true ∙ first) (sym w.if-within-2.false ∙ w.within-then-within.ensures ∙ told a.m a.d c.requires.2); near = tt }
      | else-within-via-else-within w ↦ record { is = by (seg_of a.s) a.n a.m a.d (sym w.if-within.false ∙ first) refl; near = tt }
    ]
