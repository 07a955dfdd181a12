-- Of FromCheck of specs/, what rests on its definitions.
use Rattle.std.specs.Prelude.{◌≡◌, ◌⊎◌, ◌<◌, ◌≤◌}
use Rattle.std.proofs.Common.{◌∙◌}
use Rattle.seq.specs.Seq.{List, [], ℕ, suc, get_or}
use Rattle.paper.specs.Refusal.{Refusal, refused, answer}
use Rattle.paper.specs.Map.{vertex_count, edges_in, fault}
use Rattle.paper.specs.Lent.{Lengths, zero_tables}
use Rattle.paper.specs.Overlay.{lent}
use Rattle.laws_refusals.specs.Refusals.{refused_some}
use Rattle.laws_orders.specs.Orders.{named, first_named}
use Rattle.laws_orders.specs.FromCheck.{FirstBad, good-passes}

-- ── the overlay ──

module _ (l : Lengths) (fs : List (List ℕ)) where
  -- "with the same numbers, places and order": where file i is the first bad one
  pub check-refuses : (i : ℕ) (r : Refusal) → FirstBad fs i r → ((lent l fs).answer ≡ refused (named (suc i) r)) × ((lent l fs).tables ≡ zero_tables l)
  check-refuses i r F =
      first_named l fs i r F.in_list (λ j b. good-passes (get_or fs j []) (F.good_before j b))
      (refused_some (vertex_count (get_or fs i []), edges_in (get_or fs i [])) r (fault (get_or fs i [])) F.refuses)
