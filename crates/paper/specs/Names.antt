-- The lists of names (02, Ask 14): which list ends well, and which part of a list is the name for a label. A byte past the end counts as 0. Assumes nothing.
use Rattle.std.specs.Prelude.{◌+◌}
use Rattle.seq.specs.Seq.{Bool, cond, List, Option, none, some, Option·getD, ℕ, zero, suc, leb, eqb, length, take, drop}
use Rattle.paper.specs.Bytes.{byte_at, u16}

-- an entry at i: "label as unsigned 16-bit, low byte first, then length byte, name"
abbrev pub name_start : ℕ → ℕ
name_start i = i + 3

abbrev pub name_length : List ℕ → ℕ → ℕ
name_length s i = byte_at s (i + 2)

abbrev pub entry_end : List ℕ → ℕ → ℕ
entry_end s i = name_start i + name_length s i

-- it ends within the list
abbrev pub entry_fits : List ℕ → ℕ → Bool
entry_fits s i = leb (entry_end s i) (length s)

-- from an entry's start at i on, at most n entries: the list does not end "inside an entry"
abbrev pub whole_from : ℕ → List ℕ → ℕ → Bool
whole_from zero s i = eqb i (length s)
whole_from (suc n) s i = let r = whole_from n s (entry_end s i) in cond (entry_fits s i) r (eqb i (length s))

abbrev pub whole_names : List ℕ → Bool
whole_names s = whole_from (length s) s 0

-- a part of a list: where it starts, and how long it is
pub record Part : Type 0 where
  pub start : ℕ
  pub size : ℕ

abbrev pub part : ℕ → ℕ → Part
part i n = record { start = i; size = n }

-- "The first entry for a label counts": from i on, at most n entries; an entry that the list ends inside is none
abbrev pub name_from : ℕ → List ℕ → ℕ → ℕ → Option Part
name_from zero s label i = none
name_from (suc n) s label i = let r = name_from n s label (entry_end s i) in
    cond (entry_fits s i) (cond (eqb (u16 s i) label) (some (part (name_start i) (name_length s i))) r) none

-- "nothing where the list lacks the label": the empty part at its start
abbrev pub name_part : List ℕ → ℕ → Part
name_part s label = Option·getD (name_from (length s) s label 0) (part 0 0)

-- "taken as that very part of its list"
abbrev pub part_of : List ℕ → Part → List ℕ
part_of s p = take p.size (drop p.start s)

-- "the zone's name, or the block's name where the zone label is 0": of two lists, labels, or parts the one that counts
abbrev pub of_two {ℓ} : {A : Type ℓ} → ℕ → A → A → A
of_two zone zones blocks = cond (eqb zone 0) blocks zones

abbrev pub shown_part : List ℕ → List ℕ → ℕ → ℕ → Part
shown_part zones blocks zone block = of_two zone (name_part zones zone) (name_part blocks block)

abbrev pub shown_name : List ℕ → List ℕ → ℕ → ℕ → List ℕ
shown_name zones blocks zone block = part_of (of_two zone zones blocks) (shown_part zones blocks zone block)
