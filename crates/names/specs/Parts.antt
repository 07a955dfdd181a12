-- A reference that is "that very part of its list": where it points and what it holds. No second place or content meets that, and it is as long as the part says. Assumes nothing.
use Rattle.std.specs.Prelude.{◌≡◌, refl, ◌≤◌, ◌+◌}
use Rattle.std.proofs.Common.{sym, ◌∙◌, ap, arith, length-drop, length-take-le}
use Rattle.std.specs.Borrow.{Bor}
use Rattle.seq.specs.Seq.{Bool, true, false, cond, List, ℕ, eqb, length, drop}
use Rattle.paper.specs.Names.{Part, part_of, name_part, of_two, shown_part, shown_name}
use Rattle.laws_year.specs.NameLaws.{part_within}

-- r points into s, as many bytes on as the part's start, and holds as many bytes of it as the part is long
pub record IsPart (s r : Bor (List ℕ)) (p : Part) : Type 0 where
  pub there : r.ref_ptr ≡ (s.ref_ptr.0, s.ref_ptr.1 + p.start)
  pub is : r.now ≡ part_of s.now p

-- no second outcome meets it
pub one_part : (s r t : Bor (List ℕ)) (p : Part) → IsPart s r p → IsPart s t p → (r.ref_ptr ≡ t.ref_ptr) × (r.now ≡ t.now)
one_part s r t p h k = (h.there ∙ sym k.there, h.is ∙ sym k.is)

part-size : (s r : Bor (List ℕ)) (p : Part) → p.start + p.size ≤ length s.now → IsPart s r p → length r.now ≡ p.size
part-size s r p l h = ap length h.is ∙ length-take-le p.size (drop p.start s.now) (omega (arith, length-drop p.start s.now))

-- ── which of the two lists ──

module _ (zs bs r : Bor (List ℕ)) (zone block : ℕ) where
  pub of_block : eqb zone 0 ≡ true → IsPart bs r (name_part bs.now block) → IsPart (of_two zone zs bs) r (shown_part zs.now bs.now zone block)
  of_block e h = rw e h

  pub of_zone : eqb zone 0 ≡ false → IsPart zs r (name_part zs.now zone) → IsPart (of_two zone zs bs) r (shown_part zs.now bs.now zone block)
  of_zone e h = rw e h

  inside : (c : Bool) → (cond c (name_part bs.now block) (name_part zs.now zone)).start + (cond c (name_part bs.now block) (name_part zs.now zone)).size ≤ length (cond c bs zs).now
  inside true = part_within bs.now block
  inside false = part_within zs.now zone

  held : (c : Bool) → (cond c bs zs).now ≡ cond c bs.now zs.now
  held true = refl
  held false = refl

  -- the name is as long as its part, and its bytes are those that are printed
  pub shown-size : IsPart (of_two zone zs bs) r (shown_part zs.now bs.now zone block) → length r.now ≡ (shown_part zs.now bs.now zone block).size
  shown-size h = part-size (of_two zone zs bs) r (shown_part zs.now bs.now zone block) (inside (eqb zone 0)) h

  pub shown-bytes : IsPart (of_two zone zs bs) r (shown_part zs.now bs.now zone block) → r.now ≡ shown_name zs.now bs.now zone block
  shown-bytes h = h.is ∙ ap (λ (s : List ℕ). part_of s (shown_part zs.now bs.now zone block)) (held (eqb zone 0))
