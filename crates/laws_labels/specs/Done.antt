-- When the overlay of a list of map files is done: exactly where each file passes rules 1 to 10 and there is room (`done-passes`, `done_fits`, `passes-done`). Then the counts
-- are those of the defined overlay (`done-counts`), and the lent tables hold its tables, with zeros past them (`done-tables`). Three files that pass are a list that passes (`three_pass`). Assumes nothing.
use Rattle.std.specs.Prelude.{◌≡◌, ◌∷◌, ◌++◌}
use Rattle.std.proofs.Common.{sym, ◌∙◌, ap, inl, inr, ⊎_elim, arith}
use Rattle.seq.specs.Seq.{List, [], Option, none, ℕ, zero, suc, length, get_or}
use Rattle.seq.specs.Terms.{Among}
use Rattle.seq.specs.Members.{among-++, ++-among, every_in, in_every}
use Rattle.seq.specs.Table.{among-table, table-among}
use Rattle.paper.specs.Refusal.{Refusal, done, the_of_map, first_of, answer, unless_refused}
use Rattle.paper.specs.Map.{Map, fault}
use Rattle.paper.specs.Faces.{overlay_of}
use Rattle.paper.specs.Tables.{Counts, counts_of, tables_of}
use Rattle.paper.specs.Lent.{Lengths, room_in, room_faults, padded_tables, zero_tables}
use Rattle.paper.specs.Overlay.{map_faults, lent}
use Rattle.laws_refusals.specs.Refusals.{Nothing, nothing, is_nothing, of_none, done_none}
use Rattle.laws_refusals.specs.Room.{Fits, room_none, none_room}
use Rattle.laws_overlay.specs.Files.{AllPass, maps_of}

-- of three files
pub three_pass : (a b c : List ℕ) → fault a ≡ none → fault b ≡ none → fault c ≡ none → AllPass (a ∷ b ∷ c ∷ [])
three_pass a b c pa pb pc zero i = pa
three_pass a b c pa pb pc (suc zero) i = pb
three_pass a b c pa pb pc (suc (suc zero)) i = pc
three_pass a b c pa pb pc (suc (suc (suc k))) i = absurd (omega arith)

module _ (l : Lengths) (files : List (List ℕ)) where
  abbrev ms : List Map
  ms = maps_of files

  abbrev defined : Counts
  defined = counts_of (overlay_of ms)

  abbrev room : Counts
  room = room_in (length files) l

  abbrev chain : List (Option Refusal)
  chain = map_faults files ++ room_faults room defined

  abbrev of_file : ℕ → Option Refusal
  of_file i = the_of_map (suc i) (fault (get_or files i []))

  -- ── done where each passes and there is room ──

  pub passes-done : AllPass files → Fits (room_in (length files) l) (counts_of (overlay_of (maps_of files))) → (lent l files).answer ≡ done (counts_of (overlay_of (maps_of files)))
  passes-done P F = ap (answer defined) (is_nothing chain (in_every (λ r. r ≡ none) chain none_among))
    where
      none_among : (r : Option Refusal) → Among r chain → r ≡ none
      none_among r a =
          ⊎_elim (λ b. let (i, li, e) = table-among of_file (length files) r b in sym e ∙ ap (the_of_map (suc i)) (P i li))
          (λ b. every_in (λ r. r ≡ none) (room_faults room defined) (none_room room defined F) r b) (among-++ r (map_faults files) (room_faults room defined) a)

  -- ── and only there ──

  module _ (c : Counts) (d : (lent l files).answer ≡ done c) where
    nothing-given : (first_of chain ≡ none) × (defined ≡ c)
    nothing-given = done_none defined c (first_of chain) d

    all_none : Nothing chain
    all_none = nothing chain nothing-given.0

    pub done-passes : AllPass files
    done-passes i li =
        of_none (suc i) (fault (get_or files i [])) (every_in (λ r. r ≡ none) chain all_none (of_file i)
        (++-among (of_file i) (map_faults files) (room_faults room defined) (inl (among-table of_file (length files) i li))))

    pub done_fits : Fits (room_in (length files) l) (counts_of (overlay_of (maps_of files)))
    done_fits =
        room_none room defined (in_every (λ r. r ≡ none) (room_faults room defined)
        (λ r a. every_in (λ r. r ≡ none) chain all_none r (++-among r (map_faults files) (room_faults room defined) (inr a))))

    pub done-counts : c ≡ counts_of (overlay_of (maps_of files))
    done-counts = sym nothing-given.1

    pub done-tables : (lent l files).tables ≡ padded_tables l (tables_of (maps_of files) (overlay_of (maps_of files)))
    done-tables = ap (unless_refused (padded_tables l (tables_of ms (overlay_of ms))) (zero_tables l)) nothing-given.0
