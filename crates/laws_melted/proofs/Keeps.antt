-- Of Keeps of specs/, what rests on its definitions.
use Rattle.std.specs.Prelude.{◌≡◌, ◌<◌, ◌*◌}
use Rattle.std.proofs.Common.{sym, subst}
use Rattle.seq.specs.Seq.{List, ℕ, length}
use Rattle.paper.specs.Refusal.{done}
use Rattle.paper.specs.Tables.{Counts, Tables}
use Rattle.paper.specs.Lent.{Lengths}
use Rattle.laws_overlay.specs.Files.{maps_of, maps-count}
use Rattle.laws_labels.specs.Demand3.{Agrees}
use Rattle.laws_promise.specs.Held.{Held}
use Rattle.laws_promise.specs.Demands.{counts_for, pair_for}
use Rattle.laws_promise.specs.Promised.{held}
use Rattle.tables.specs.Answers as code
use Rattle.tables.specs.Values.{answer_of}
use Rattle.tables.specs.Promise.{Promised, PromisedMelted}
use Rattle.laws_melted.specs.Kept.{Kept, rows-kept}
use Rattle.laws_melted.specs.Keeps.{ms, O, keep, melted-hold, melted-agrees}

-- ── beside the overlay's ──

module _ (k l : Lengths) (files : List (List ℕ)) (q r : code.Answer) (u t : Tables) (overlay : Promised k files q u) (d : Counts) (e : answer_of q ≡ done d)
    (promise : PromisedMelted l files r t) (c : Counts) (f : answer_of r ≡ done c) where
  overlay-hold : Held (maps_of files) d u
  overlay-hold =
      subst (λ (x : Counts). Held (ms k l files q r u t overlay d e promise c f) x u) (sym (O k l files q r u t overlay d e promise c f).counts-are)
      (subst (λ (x : Tables). Held (ms k l files q r u t overlay d e promise c f) (counts_for files) x) (sym (O k l files q r u t overlay d e promise c f).tables-are) (held files (O k l files q r u t overlay d e promise c f).passes k))

  pub melted-keeps : Kept (length files) d u c t
  melted-keeps =
      subst (λ (n : ℕ). Kept n d u c t) (maps-count files)
      (rows-kept (ms k l files q r u t overlay d e promise c f) (keep k l files q r u t overlay d e promise c f) d u overlay-hold (subst (λ (n : ℕ). Agrees n d u (pair_for files)) (sym (maps-count files)) (O k l files q r u t overlay d e promise c f).agrees)
      c t (melted-hold l files r t promise c f) (melted-agrees l files r t promise c f))
