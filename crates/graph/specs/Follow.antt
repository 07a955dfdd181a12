-- Followers, from a table of origins and a table of headings: what the code computes, and that it is the definition's. Assumes nothing.
use Rattle.std.specs.Prelude.{◌≡◌, refl, ◌≤◌, ◌<◌, ◌&&◌, ◌+◌, ◌*◌, ◌/◌}
use Rattle.std.proofs.Common.{sym, ◌∙◌, ap, subst, arith}
use Rattle.seq.specs.Seq.{Bool, true, false, cond, not, List, Option, Option·getD, ℕ, eqb, length, get_or, ℤ, pos, best, cell, laid, filled}
use Rattle.exact.specs.Mach.{tru, atmost}
use Rattle.seq.specs.BestLoop.{best-ext}
use Rattle.seq.specs.Filled.{filled-ext}
use Rattle.seq.specs.Laid.{length-laid, laid_at}
use Rattle.paper.specs.Plane.{Vec, vec, opposite, less_angle}
use Rattle.paper.specs.Graph.{twin, origin, leaves, heading, sooner, follower}
use Rattle.plane.specs.Bounds.{Direction}
use Rattle.graph.specs.Flat.{origin_at, carrier_at, flat_graph, Flat, EdgeAt}
use Rattle.graph.specs.Laws.Decode.{flat-halves, flat_origin}
use Rattle.graph.specs.Heading.{the_up_at, row, vec_at, twin_under, flat-heading}
use Rattle.seq.specs.Pick.{pick, pick_below}

-- ── a table of headings ──

-- half-edge h has a heading
pub record Headed (hs : List ℤ) (h : ℕ) : Type 0 where
  pub row : 2 * h + 2 ≤ length hs
  pub near : Direction (vec_at hs h)

-- the headings of m half-edges
pub record Headings (hs : List ℤ) (m : ℕ) : Type 0 where
  pub long : 2 * m ≤ length hs
  pub near : (h : ℕ) → h < m → Direction (vec_at hs h)

pub headed : (hs : List ℤ) (m h : ℕ) → Headings hs m → h < m → Headed hs h
headed hs m h H l = record { row = omega (arith, H.long); near = H.near h l }

-- ── followers ──

-- going clockwise from the direction t, h comes before r
abbrev pub sooner_of : Vec → Vec → Vec → Bool
sooner_of t h r = let hl = less_angle h t in let rl = less_angle r t in let hr = less_angle r h in
    cond hl (cond rl hr true) (cond rl false hr)

abbrev pub sooner_at : List ℤ → ℕ → ℕ → ℕ → Bool
sooner_at hs t h r = sooner_of (vec_at hs t) (vec_at hs h) (vec_at hs r)

-- x leaves from where t does, and is another half-edge
abbrev pub besides : List ℕ → ℕ → ℕ → Bool
besides os t x = eqb (origin_at os x) (origin_at os t) && not (eqb x t)

abbrev pub follower_at : List ℕ → List ℤ → ℕ → ℕ → ℕ
follower_at os hs m h = let t = twin h in pick (besides os t) (sooner_at hs t) t m

-- a follower is one of the half-edges
pub follower_under : (os : List ℕ) (hs : List ℤ) (e h : ℕ) → h < 2 * e → follower_at os hs (2 * e) h < 2 * e
follower_under os hs e h l = pick_below (besides os (twin h)) (sooner_at hs (twin h)) (twin h) (2 * e) (2 * e) (twin_under e h l) (omega arith)

-- ── the definition's ──

-- a heading stays within the bounds of a direction
turned : (u : Vec) (c : Bool) → Direction u → Direction (cond c u (opposite u))
turned u true d = d
turned u false d = record { x_is = atmost (search tru depth 20) tt; y_is = atmost (search tru depth 20) tt }

heading-near : (ps : List ℤ) (os : List ℕ) (cs : List ℤ) (k : ℕ) (c : Bool) → EdgeAt cs k → Direction (cond c (carrier_at cs k).up (opposite (carrier_at cs k).up))
heading-near ps os cs k c E = turned (carrier_at cs k).up c E.up_is

module _ (ps : List ℤ) (os : List ℕ) (cs : List ℤ) (n e : ℕ) where
  -- the table holds the headings of the graph
  abbrev pub Heads : List ℤ → Type 0
  Heads hs = (h : ℕ) → h < 2 * e → vec_at hs h ≡ heading (flat_graph ps os cs n e) h

  module _ (hs : List ℤ) (H : Heads hs) (h : ℕ) (l : h < 2 * e) where
    pub flat-follower : follower_at os hs (2 * e) h ≡ follower (flat_graph ps os cs n e) h
    flat-follower =
        let g = flat_graph ps os cs n e in
        let t = twin h in
        let lt = twin_under e h l in
        ap (λ (o : Option ℕ). Option·getD o t)
        (best-ext (besides os t) (λ x. leaves g (origin g t) x && not (eqb x t)) (sooner_at hs t) (sooner g t) (2 * e)
        (λ k b. λ i. eqb (sym (flat_origin ps os cs n e k b) i) (sym (flat_origin ps os cs n e t lt) i) && not (eqb k t))
        (λ j k a b. λ i. sooner_of (H t lt i) (H j a i) (H k b i))
        ∙ ap (best (λ x. leaves g (origin g t) x && not (eqb x t)) (sooner g t)) (sym (flat-halves ps os cs n e)))

  -- the table that `headings` makes
  module _ (hs d : List ℤ) (room : 2 * (2 * e) ≤ length d) (is : hs ≡ laid (2 * e) (λ h. row (heading (flat_graph ps os cs n e) h)) d) where
    pub heads-laid : Heads hs
    heads-laid h l = ap (λ (t : List ℤ). vec_at t h) is ∙ (λ i. vec (at 0 (omega arith) i) (at 1 (omega arith) i))
      where
        at : (j : ℕ) → j < 2 → cell (pos 0) 2 (laid (2 * e) (λ h. row (heading (flat_graph ps os cs n e) h)) d) h j ≡ get_or (row (heading (flat_graph ps os cs n e) h)) j (pos 0)
        at j b = laid_at 2 (λ h. row (heading (flat_graph ps os cs n e) h)) (λ k. refl) (2 * e) h j d (pos 0) l b

    pub headings-laid : Flat ps os cs n e → Headings hs (2 * e)
    headings-laid F =
        record {
          long = omega (arith, room, ap length is, length-laid 2 (λ h. row (heading (flat_graph ps os cs n e) h)) (λ k. refl) (2 * e) d room);
          near = λ h l. subst Direction (sym (heads-laid h l ∙ flat-heading ps os cs n e F h l)) (heading-near ps os cs (h / 2) (the_up_at ps os h) (F.carriers.near (h / 2) (omega arith)));
        }

-- and the table of followers made from it
pub followers-flat : (ps : List ℤ) (os : List ℕ) (cs : List ℤ) (n e : ℕ) (hs : List ℤ) → Heads ps os cs n e hs → (d : List ℕ)
    → filled (2 * e) (follower_at os hs (2 * e)) d ≡ filled (2 * e) (follower (flat_graph ps os cs n e)) d
followers-flat ps os cs n e hs H d = filled-ext (follower_at os hs (2 * e)) (follower (flat_graph ps os cs n e)) (2 * e) d (flat-follower ps os cs n e hs H)
