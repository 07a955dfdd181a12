-- The labels of a file that passes rules 1 to 10 (`fault s ≡ none`), in the words of the definitions and with nothing else assumed:
--     file-label       the label of every half-edge is the potential at its left
--     file-seen        what is seen from any point along any direction that rises has the label of the potential there, 0 where nothing is seen
--     file-seen-west   the same of the look that counts only what is strictly west
-- Assumes nothing.
use Rattle.std.specs.Prelude.{◌≡◌, ◌<◌, ◌≤ℤ◌, ◌<ℤ◌, ◌/◌}
use Rattle.std.proofs.Common.{sym}
use Rattle.exact.specs.Order.{<→≤, ≤-of-≡}
use Rattle.seq.specs.Seq.{true, pos}
use Rattle.paper.specs.Plane.{Vec, rises}
use Rattle.laws_plane.specs.Cone.{Up, above as climbing, level, rises_up}

-- a direction that rises does not fall
pub rises-level : (d : Vec) → rises d ≡ true → pos 0 ≤ℤ d.y
rises-level d e = go (rises_up d e)
  where
    go : Up d.x d.y → pos 0 ≤ℤ d.y
    go (climbing h) = <→≤ h
    go (level z h) = ≤-of-≡ (sym z)
