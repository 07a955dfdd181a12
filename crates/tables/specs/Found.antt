-- The overlay edge record in the definitions' terms, and from five stored numbers. Assumes nothing.
use Rattle.std.specs.Prelude as std
use Rattle.std.specs.Prelude.{◌∷◌, ◌^◌, Some, None}
use Rattle.seq.specs.Seq.{Bool, cond, [], Option, none, some, Option·map, ℕ, zero, suc, leb, get_or, all_below}
use Rattle.paper.specs.Limits.{maps}
use Rattle.paper.specs.Record as paper
use Rattle.tables.specs.declared.edge_record.Source.{Source}
use Rattle.tables.specs.declared.edge_record.Source.TheVariants.{First, Second, Both, Third, FirstThird, SecondThird, All}
use Rattle.tables.specs.declared.edge_record.OverlayEdge.{OverlayEdge}

abbrev pub source_from : Source → paper.Source
source_from (First j) = paper.first j
source_from (Second k) = paper.second k
source_from (Both j k) = paper.both j k
source_from (Third l) = paper.third l
source_from (FirstThird j l) = paper.first_third j l
source_from (SecondThird k l) = paper.second_third k l
source_from (All j k l) = paper.all j k l

abbrev pub edge_from : OverlayEdge → paper.OverlayEdge
edge_from e = record { lower = e.lower; upper = e.upper; source = source_from e.source }

-- the record, or "absent"
abbrev pub found_of : std.Option OverlayEdge → Option paper.OverlayEdge
found_of (Some e) = some (edge_from e)
found_of None = none

-- the source, if there is one
abbrev pub source_found : std.Option Source → Option paper.Source
source_found (Some s) = some (source_from s)
source_found None = none

-- ── from three stored sources, each an edge number + 1 or 0 ──

-- each of them is a number of 16 bits + 1, or 0
abbrev pub all_numbers : ℕ → ℕ → ℕ → Bool
all_numbers a b c = all_below (λ i. leb (get_or (a ∷ b ∷ c ∷ []) i 0) (256 ^ 2)) maps

-- the edge number of one of them, if it is there
abbrev pub number_of : ℕ → std.Option ℕ
number_of zero = None
number_of (suc n) = Some n

abbrev pub edge_with : ℕ → ℕ → paper.Source → paper.OverlayEdge
edge_with lower upper s = record { lower = lower; upper = upper; source = s }

-- of an edge between lower and upper with the stored sources a, b and c
abbrev pub record_by : ℕ → ℕ → ℕ → ℕ → ℕ → Option paper.OverlayEdge
record_by lower upper a b c = cond (all_numbers a b c) (Option·map (edge_with lower upper) (paper.source_by a b c)) none
