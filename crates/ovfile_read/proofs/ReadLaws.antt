-- The reader's refusals as the code finds them: the form first, then the edges and the room, and what is known of a file that is not refused. Assumes nothing.
use Rattle.std.specs.Prelude.{◌∷◌, ◌++◌}
use mathlib.Core.Path.{◌≡◌, sym, ap, ◌∙◌}
use Prim.Native.Nat.{◌≤◌}
use native.Mathlib.Omega.{arith}
use borrow.Author.Tests.{ltb-false}
use Rattle.seq.specs.Seq.{Bool, not, List, ℕ, Option, none, some, length}
use Rattle.paper.specs.Limits.{maps}
use Rattle.paper.specs.Bytes.{u16}
use Rattle.paper.specs.Refusal.{Refusal, first_at, first_of, done, refused}
use Rattle.paper.specs.Lent.{Lengths, room_in, room_faults, padded_tables, zero_tables, outcome}
use Rattle.paper.specs.Ovfile.{Layout, layouts, over, sound_edge, layout_of}
use Rattle.paper.specs.Reader.{counts_in, tables_in, numbers, head_faults, read_fault, read}
use Rattle.laws_refusals.specs.Refusals.{nothing, is_nothing, given_none, first_none}
use Rattle.laws_refusals.specs.Room.{not_over}
use Rattle.ovfile_read.specs.Filled.{Within, Roomy}

-- the layout that the file's version names
abbrev pub layout_in : List ℕ → Layout
layout_in s = layout_of layouts (u16 s 3)

abbrev pub unsound_in : Layout → List ℕ → ℕ → Bool
unsound_in l s k = not (sound_edge maps (counts_in s) (tables_in maps l s) k)

-- 21 and 11
abbrev pub body_in : Layout → List ℕ → Lengths → List (Option Refusal)
body_in l s ls = first_at 21 (unsound_in l s) (counts_in s).edges ∷ room_faults (room_in maps ls) (counts_in s)

-- what the rest of a file is refused for, where its form is right
pub judged : (s t : List ℕ) (ls : Lengths) (l : Layout) {r : Option Refusal} → t ≡ s → l ≡ layout_in t → first_of (head_faults (length layouts) (layout_in s) s) ≡ none
    → r ≡ first_of (body_in l t ls) → r ≡ read_fault maps (length layouts) (layout_in s) ls s (tables_in maps (layout_in s) s)
judged s t ls l e q h g =
    g ∙ (λ i. first_of (body_in ((q ∙ ap layout_in e) i) (e i) ls)) ∙ sym (first_none (head_faults (length layouts) (layout_in s) s) (body_in (layout_in s) s ls) h)

module _ (s : List ℕ) where
  -- ── a file whose form is right ──

  abbrev form : List (Option Refusal)
  form = head_faults (length layouts) (layout_in s) s

  pub right_counts : first_of form ≡ none → Within (counts_in s)
  right_counts h =
      let f = not_over numbers (counts_in s) (given_none 3 0 (over numbers (counts_in s)) (nothing form h).1.1.0) in
      record { vertices = f.vertices; edges = f.edges; faces = f.faces }

  -- ── a file that is not refused ──

  module _ (ls : Lengths) where
    abbrev rest : List (Option Refusal)
    rest = body_in (layout_in s) s ls

    abbrev pub fault : Option Refusal
    fault = read_fault maps (length layouts) (layout_in s) ls s (tables_in maps (layout_in s) s)

    pub form_right : fault ≡ none → first_of form ≡ none
    form_right e = let n = nothing (form ++ rest) e in is_nothing form (n.0, (n.1.0, (n.1.1.0, (n.1.1.1.0, tt))))

    pub room_enough : fault ≡ none → Roomy (counts_in s) ls
    room_enough e =
        let n = (nothing (form ++ rest) e).1.1.1.1.1 in
        let c = counts_in s in
        let r = room_in maps ls in
        let v : c.vertices ≤ r.vertices = ltb-false r.vertices c.vertices (given_none 11 1 _ n.0) in
        let w : c.edges ≤ r.edges = ltb-false r.edges c.edges (given_none 11 2 _ n.1.0) in
        let f : c.faces ≤ r.faces = ltb-false r.faces c.faces (given_none 11 3 _ n.1.1.0) in
        record { vertices = omega arith; halves = omega arith; sources = omega arith; faces = omega arith }

    -- ── what comes out ──

    pub read_done : (t : List ℕ) (l : Layout) → t ≡ s → l ≡ layout_in t → fault ≡ none → record { answer = done (counts_in t); tables = padded_tables ls (tables_in maps l t) } ≡ read ls s
    read_done t l e q n =
        (λ i. record { answer = done (counts_in (e i)); tables = padded_tables ls (tables_in maps ((q ∙ ap layout_in e) i) (e i)) })
        ∙ (λ i. outcome ls (counts_in s) (tables_in maps (layout_in s) s) (sym n i))

    pub read-refused : (r : Refusal) → fault ≡ some r → record { answer = refused r; tables = zero_tables ls } ≡ read ls s
    read-refused r e = λ i. outcome ls (counts_in s) (tables_in maps (layout_in s) s) (sym e i)
