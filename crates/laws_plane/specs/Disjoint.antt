-- Edges that no point lies on both of (`Disjoint`): they do not clash (`disjoint_clash`) and do not cross (`disjoint_crossing`). Assumes nothing.
use Rattle.std.specs.Prelude.{◌≡◌, refl, false, pos, ◌<ℤ◌}
use Rattle.std.proofs.Math.Option.{Option, none, some}
use Rattle.exact.specs.Lowest.{Pt}
use Rattle.exact.specs.Tests.{not-true}
use Rattle.paper.specs.Plane.{Seg, clash, crossing}
use Rattle.laws_plane.specs.Cone.{UpV}
use Rattle.laws_plane.specs.Edges.{On}
use Rattle.laws_plane.specs.Crossing.{crossing-touch}
use Rattle.laws_plane.specs.Clash.{clash-shares}

-- no point lies on both
abbrev pub Disjoint : Seg → Seg → Type 0
Disjoint s t = (p : Pt) → pos 0 <ℤ p.D → On s p → On t p → ⊥

pub disjoint_swap : (s t : Seg) → Disjoint s t → Disjoint t s
disjoint_swap s t d p h a b = d p h b a

module _ (s t : Seg) (us : UpV s.up) (ut : UpV t.up) (d : Disjoint s t) where
  pub disjoint_clash : clash s t ≡ false
  disjoint_clash = not-true (clash s t) (λ e. let h = clash-shares s t us ut e in d h.at h.real h.first h.second)

  pub disjoint_crossing : crossing s t ≡ none
  disjoint_crossing = go (crossing s t) refl
    where
      go : (o : Option Pt) → crossing s t ≡ o → o ≡ none
      go none e = refl
      go (some p) e = let h = crossing-touch s t us ut p e in absurd (d p h.lowest_p.positive h.first h.second)
