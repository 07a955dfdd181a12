-- Of Across of specs/, what rests on its definitions.
use Rattle.std.specs.Prelude.{◌≡◌, refl, Bool, true, false, not, ◌&&◌, [], ◌∷◌, T, ℤ, pos, neg_ℤ, ◌+ℤ◌, ◌-ℤ◌, ◌*ℤ◌, ◌≤ℤ◌, ◌<ℤ◌}
use Rattle.std.proofs.Common.{sym, ◌∙◌, ap, subst, arith}
use Rattle.exact.specs.Solve.{ring, reify}
use Rattle.exact.specs.Order.{zomega, sq, 0<-*, Tri, lt, eq, gt, tri, <→≢, ≤→≯, 0<→<}
use Rattle.exact.specs.Mul.{≡-by₁, 0<-cancel}
use Rattle.exact.specs.Sign.{Sign, neg, zer, plus, sgn, is_plus, neg_s, sums, sgn-sums, sgn-negℤ, plus→}
use Rattle.exact.specs.Tests.{never, clash, not-true, and_parts, and_both}
use Rattle.seq.specs.Tests.{bool-ext}
use Rattle.paper.specs.Plane.{Pt, Vec, Seg, dir, cross, before, below, the_left_by}
use Rattle.laws_plane.specs.Cone.{above as rising, level, UpV}
use Rattle.laws_plane.specs.Points.{before_up}
use Rattle.laws_plane.specs.Ends.{0<1, lt_below, below_before}
use Rattle.laws_plane.proofs.Angles.{turn-trans}
use Rattle.laws_plane.specs.Sides.{chord}
use Rattle.laws_labels.specs.Spans.{Span, Good}
use Rattle.laws_labels.specs.Near.{near}
use Rattle.laws_labels.specs.Cuts.{lo, hi, above}
use Rattle.laws_labels.specs.Height.{at_height_of, span-steep}
use Rattle.laws_labels.proofs.Height.{above_height, right_height}
use Rattle.laws_labels.specs.Across.{W, across, across_left, across_below, across-line}

-- ── one edge ──

turned : (k : Sign) → T (is_plus k) → near false zer k ≡ true
turned neg t = absurd t
turned zer t = absurd t
turned plus t = refl

-- w, kw: of W at p and against d; s, k': of e at p and against d; t: of e at q; k: of e against W
seen-signs : (w kw s t k k' : Sign) → near false w kw ≡ true → T (sums s (neg_s w) t) → (kw ≡ plus → T (sums kw k k')) → near true t k ≡ true → near false s k' ≡ true
seen-signs plus kw s t k k' h a b n = never h
seen-signs neg kw neg t k k' h a b n = refl
seen-signs neg kw zer neg k k' h a b n = absurd a
seen-signs neg kw zer zer k k' h a b n = absurd a
seen-signs neg kw zer plus k k' h a b n = never n
seen-signs neg kw plus neg k k' h a b n = absurd a
seen-signs neg kw plus zer k k' h a b n = absurd a
seen-signs neg kw plus plus k k' h a b n = never n
seen-signs zer neg s t k k' h a b n = never h
seen-signs zer zer s t k k' h a b n = never h
seen-signs zer plus neg t k k' h a b n = refl
seen-signs zer plus zer neg k k' h a b n = absurd a
seen-signs zer plus zer plus k k' h a b n = absurd a
seen-signs zer plus zer zer neg k' h a b n = never n
seen-signs zer plus zer zer zer k' h a b n = turned k' (b refl)
seen-signs zer plus zer zer plus k' h a b n = turned k' (b refl)
seen-signs zer plus plus neg k k' h a b n = absurd a
seen-signs zer plus plus zer k k' h a b n = absurd a
seen-signs zer plus plus plus k k' h a b n = never n

-- a direction that does not fall, and has one that climbs on its left, rises
left_rises : (d u : Vec) → pos 0 ≤ℤ d.y → pos 0 <ℤ u.y → pos 0 <ℤ cross d u → UpV d
left_rises d u h uy c = go (tri (pos 0) d.y)
  where
    flat : d.y ≡ pos 0 → cross d u ≡ u.y *ℤ d.x
    flat z = ≡-by₁ z (neg_ℤ u.x) (ring (d.x ∷ d.y ∷ u.x ∷ u.y ∷ []) (search reify depth 20) tt)

    go : Tri (pos 0) d.y → UpV d
    go (lt l) = rising l
    go (eq z) = level (sym z) (0<-cancel u.y d.x uy (subst (λ (t : ℤ). pos 0 <ℤ t) (flat (sym z)) c))
    go (gt l) = absurd (≤→≯ h l)

module _ (p : Pt) (hp : pos 0 <ℤ p.D) (d : Vec) (hd : pos 0 ≤ℤ d.y) (VW : Span) (uW : Good VW) (counts : above false p d VW ≡ true) where
  counted : (at_height_of p VW ≡ true) × (near false (sgn (the_left_by (W p hp d hd VW uW counts) p)) (sgn (cross d (W p hp d hd VW uW counts).up)) ≡ true)
  counted = and_parts (at_height_of p VW) (near false (sgn (the_left_by (W p hp d hd VW uW counts) p)) (sgn (cross d (W p hp d hd VW uW counts).up))) (sym (above_height p d VW uW hd) ∙ counts)

  steep : pos 0 <ℤ (W p hp d hd VW uW counts).up.y
  steep = span-steep p VW uW hp counted.0

  abbrev q : Pt
  q = across (W p hp d hd VW uW counts) p

  module _ (e : Span) (ue : Good e) where
    sides : pos 0 <ℤ e.line.up.y → T (sums (sgn (the_left_by e.line p)) (neg_s (sgn (the_left_by (W p hp d hd VW uW counts) p))) (sgn (the_left_by e.line q)))
    sides h =
        subst (λ (s : Sign). T (sums (sgn (the_left_by e.line p)) s (sgn (the_left_by e.line q)))) (sgn-negℤ (the_left_by (W p hp d hd VW uW counts) p))
        (sgn-sums (W p hp d hd VW uW counts).up.y e.line.up.y (pos 1) (the_left_by e.line p) (neg_ℤ (the_left_by (W p hp d hd VW uW counts) p)) (the_left_by e.line q) steep h 0<1
        (law (W p hp d hd VW uW counts).up.y e.line.up.y (the_left_by e.line p) (the_left_by (W p hp d hd VW uW counts) p) (the_left_by e.line q) (across_left (W p hp d hd VW uW counts) p e.line)))
      where
        law : (a b x y z : ℤ) → z ≡ x *ℤ a -ℤ y *ℤ b → a *ℤ x +ℤ b *ℤ neg_ℤ y ≡ pos 1 *ℤ z
        law a b x y z h = ≡-by₁ h (neg_ℤ (pos 1)) (ring (a ∷ b ∷ x ∷ y ∷ z ∷ []) (search reify depth 20) tt)

    same_height : at_height_of p e ≡ at_height_of q e
    same_height i = not (sym (across_below (W p hp d hd VW uW counts) p steep (lo e)) i) && sym (across_below (W p hp d hd VW uW counts) p steep (hi e)) i

    abbrev here : Bool
    here = near false (sgn (the_left_by e.line p)) (sgn (cross d e.line.up))

    abbrev there : Bool
    there = near true (sgn (the_left_by e.line q)) (sgn (cross (W p hp d hd VW uW counts).up e.line.up))

    pub look-across : (above false p d e ≡ true → there ≡ true) → above false p d e ≡ above true q (W p hp d hd VW uW counts).up e
    look-across nearest =
        above_height p d e ue hd ∙ go (at_height_of p e) refl ∙ ap (λ (b : Bool). b && there) same_height ∙ sym (right_height q (W p hp d hd VW uW counts).up e ue steep)
      where
        back : at_height_of p e ≡ true → there ≡ true → here ≡ true
        back h n = seen-signs (sgn (the_left_by (W p hp d hd VW uW counts) p)) (sgn (cross d (W p hp d hd VW uW counts).up)) (sgn (the_left_by e.line p)) (sgn (the_left_by e.line q)) (sgn (cross (W p hp d hd VW uW counts).up e.line.up)) (sgn (cross d e.line.up)) counted.1
            (sides (span-steep p e ue hp h)) (λ k. turn-trans d (W p hp d hd VW uW counts).up e.line.up (left_rises d (W p hp d hd VW uW counts).up hd steep (plus→ k)) uW.rises ue.rises) n

        go : (b : Bool) → at_height_of p e ≡ b → (b && here) ≡ (b && there)
        go false h = refl
        go true h = bool-ext here there (λ t. nearest (above_height p d e ue hd ∙ and_both h t)) (back h)

-- ── the point on its edge ──

-- along a line that climbs, what comes before is below
pub lower_below : (W : Seg) → pos 0 <ℤ W.up.y → (x z : Pt) → the_left_by W x ≡ pos 0 → the_left_by W z ≡ pos 0 → before x z ≡ true → below x z ≡ true
lower_below W steep x z a b e = lt_below x z (0<→< (x.Y *ℤ z.D) (z.Y *ℤ x.D) (go (before_up x z e)))
  where
    flat : (ux uy x y : ℤ) → y ≡ pos 0 → ux *ℤ y -ℤ uy *ℤ x ≡ pos 0 → pos 0 ≡ uy *ℤ x
    flat ux uy x y z c = zomega (ux ∷ uy ∷ x ∷ y ∷ []) {A = ux *ℤ y ≡ pos 0 → ux *ℤ y -ℤ uy *ℤ x ≡ pos 0 → pos 0 ≡ uy *ℤ x} (search sq depth 20) (omega arith) (≡-by₁ z ux (ring (ux ∷ y ∷ []) (search reify depth 20) tt)) c

    go : UpV (dir x z) → pos 0 <ℤ (dir x z).y
    go (rising h) = h
    go (level y h) = absurd (<→≢ (0<-* steep h) (flat W.up.x W.up.y (dir x z).x (dir x z).y y (chord W x z a b)))

-- between two points of its line that stand at the heights of an edge, p at its height
module _ (W : Seg) (steep : pos 0 <ℤ W.up.y) (p : Pt) (z : Pt) (on : the_left_by W z ≡ pos 0) where
  pub across_after : below p z ≡ false → before (across W p) z ≡ false
  across_after h = not-true (before (across W p) z) (λ e. clash (sym (across_below W p steep z) ∙ lower_below W steep (across W p) z (across-line W p) on e) h)

  pub across_before : below p z ≡ true → before (across W p) z ≡ true
  across_before h = below_before (across W p) z (across_below W p steep z ∙ h)
