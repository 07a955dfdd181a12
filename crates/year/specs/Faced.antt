-- The pairs of a file, as its faces store them, and the loops over them: faces added to the table of pairs, gaps counted. Assumes nothing.
use Rattle.std.specs.Prelude.{◌≡◌, refl, ◌≤◌, ◌<◌, ◌∷◌, ◌+◌, ◌-◌}
use Rattle.std.proofs.Common.{sym, ◌∙◌, ap, subst, add-one, arith, eq-eqb, ne_eqb}
use Rattle.seq.specs.Seq.{cond, List, [], ℕ, suc, length, table}
use Rattle.seq.specs.Table.{length-table, table_more}
use Rattle.paper.specs.Limits.{overlay_faces}
use Rattle.paper.specs.Ovfile.{Layout}
use Rattle.paper.specs.Reader.{stored_label}
use Rattle.seq.specs.HowMany.{how_many}
use Rattle.paper.specs.Year.{Pair, gap_pair}
use Rattle.laws_year.specs.Capped.{Capped, cap_face, cap_faces}
use Rattle.seq.specs.HowMany.{many-++, many-le}
use Rattle.year.specs.Risen.{InOrder, faces-ordered}
use Rattle.year.specs.Kept.{kept, most, Few, few_more, faces_few, faces-snoc}

-- a file's faces other than 0
abbrev pub others : ℕ
others = overlay_faces - 1

-- numbers to which so many can be added in 32 bits
abbrev pub roomy : ℕ
roomy = most - others

-- of a file the pair of face f + 1, as it is stored, and of the first n faces other than 0
abbrev pub pair_from : Layout → List ℕ → ℕ → Pair
pair_from lo s f = (stored_label lo s (suc f) 0, stored_label lo s (suc f) 1)

abbrev pub pairs_from : Layout → List ℕ → ℕ → List Pair
pairs_from lo s n = table (pair_from lo s) n

pair_read : (lo : Layout) (s : List ℕ) (f zone block : ℕ) → zone ≡ stored_label lo s (f + 1) 0 → block ≡ stored_label lo s (f + 1) 1 → (zone, block) ≡ pair_from lo s f
pair_read lo s f zone block e g = λ i. ((e ∙ ap (λ (k : ℕ). stored_label lo s k 0) (add-one f)) i, (g ∙ ap (λ (k : ℕ). stored_label lo s k 1) (add-one f)) i)

-- ── gaps ──

pub gap_none : (block zone : ℕ) → (zone ≡ 0 → ⊥) → ◌≡◌ {A = ℕ} 0 (cond (gap_pair (zone, block)) 1 0)
gap_none block zone q = sym (rw (ne_eqb zone 0 q))

pub gap-bare : (block zone : ℕ) → zone ≡ 0 → block ≡ 0 → ◌≡◌ {A = ℕ} 0 (cond (gap_pair (zone, block)) 1 0)
gap-bare block zone e g = sym (rw (eq-eqb zone 0 e, eq-eqb block 0 g))

pub gap_one : (block zone : ℕ) → zone ≡ 0 → (block ≡ 0 → ⊥) → ◌≡◌ {A = ℕ} 1 (cond (gap_pair (zone, block)) 1 0)
gap_one block zone e q = sym (rw (eq-eqb zone 0 e, ne_eqb block 0 q))

pub record Gapping (lo : Layout) (s : List ℕ) (n total f : ℕ) : Type 0 where
  pub within : f ≤ n
  pub few : total ≤ f
  pub is : total ≡ how_many gap_pair (pairs_from lo s f)

pub gap_starts : (lo : Layout) (s : List ℕ) (n : ℕ) → Gapping lo s n 0 0
gap_starts lo s n = record { within = omega arith; few = omega arith; is = refl }

pub gap_turns : {lo : Layout} {s : List ℕ} {n total f : ℕ} → Gapping lo s n total f → (g zone block : ℕ) → f < n → g ≡ cond (gap_pair (zone, block)) 1 0
    → zone ≡ stored_label lo s (f + 1) 0 → block ≡ stored_label lo s (f + 1) 1 → Gapping lo s n (total + g) (f + 1)
gap_turns {lo} {s} {n} {total} {f} r g zone block h e z b =
    let q : total + g ≡ how_many gap_pair (pairs_from lo s (f + 1)) =
    (λ i. r.is i + (e ∙ ap (λ (p : Pair). cond (gap_pair p) 1 0) (pair_read lo s f zone block z b)) i)
    ∙ sym (ap (how_many gap_pair) (table_more (pair_from lo s) f) ∙ many-++ gap_pair (pairs_from lo s f) (pair_from lo s f ∷ [])) in
    record { within = omega arith; few = omega (arith, q, many-le gap_pair (pairs_from lo s (f + 1)), length-table (pair_from lo s) (f + 1)); is = q }

pub gap_ends : {lo : Layout} {s : List ℕ} {n total f : ℕ} → Gapping lo s n total f → n ≤ f → total ≡ how_many gap_pair (pairs_from lo s n)
gap_ends {lo} {s} {n} {total} {f} r h = let e : f ≡ n = omega (arith, r.within) in r.is ∙ ap (λ (k : ℕ). how_many gap_pair (pairs_from lo s k)) e

-- ── faces added ──

pub record Adding (lo : Layout) (s : List ℕ) (n file : ℕ) (rows₀ : List ℕ) (pairs : ℕ) (rows : List ℕ) (total f : ℕ) : Type 0 where
  pub within : f ≤ n
  pub long : length rows ≡ length rows₀
  pub is : kept rows total ≡ cap_faces file (kept rows₀ pairs) (pairs_from lo s f)

pub add_starts : (lo : Layout) (s : List ℕ) (n file : ℕ) (rows : List ℕ) (pairs : ℕ) → Adding lo s n file rows pairs rows pairs 0
add_starts lo s n file rows pairs = record { within = omega arith; long = refl; is = refl }

module _ {lo : Layout} {s : List ℕ} {n file : ℕ} {rows₀ : List ℕ} {pairs : ℕ} {rows : List ℕ} {total f : ℕ} (r : Adding lo s n file rows₀ pairs rows total f) where
  pub add_few : n ≤ others → Few roomy (kept rows₀ pairs).tallies → Few most (kept rows total).tallies
  add_few h g =
      subst (λ (c : Capped). Few most c.tallies) (sym r.is)
      (few_more (length (pairs_from lo s f) + roomy) most (cap_faces file (kept rows₀ pairs) (pairs_from lo s f)).tallies (omega (arith, r.within, length-table (pair_from lo s) f)) (faces_few roomy file (kept rows₀ pairs) (pairs_from lo s f) g))

  pub add-ordered : InOrder (kept rows₀ pairs).tallies → InOrder (kept rows total).tallies
  add-ordered o = subst (λ (c : Capped). InOrder c.tallies) (sym r.is) (faces-ordered file (kept rows₀ pairs) (pairs_from lo s f) o)

  pub add_turns : (u : List ℕ) (m zone block : ℕ) → f < n → length u ≡ length rows
      → zone ≡ stored_label lo s (f + 1) 0 → block ≡ stored_label lo s (f + 1) 1 → kept u m ≡ cap_face file (kept rows total) (zone, block) → Adding lo s n file rows₀ pairs u m (f + 1)
  add_turns u m zone block h l z b e = record {
    within = omega arith;
    long = l ∙ r.long;
    is = e ∙ (λ i. cap_face file (r.is i) (pair_read lo s f zone block z b i)) ∙ sym (ap (cap_faces file (kept rows₀ pairs)) (table_more (pair_from lo s) f) ∙ faces-snoc file (kept rows₀ pairs) (pairs_from lo s f) (pair_from lo s f));
  }

  pub add_ends : n ≤ f → kept rows total ≡ cap_faces file (kept rows₀ pairs) (pairs_from lo s n)
  add_ends h = let e : f ≡ n = omega (arith, r.within) in r.is ∙ ap (λ (k : ℕ). cap_faces file (kept rows₀ pairs) (pairs_from lo s k)) e
