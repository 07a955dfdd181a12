-- Edges laid for looks: rows of an edge's lower end and the way to its upper end, in the order of lower ends. What a look from a corner asks of a row, how many rows it reads (`rails_read`), what it sees
-- (`rail_seen`) and the label of that (`rail_label`); and what the loop holds before a turn (`Reading`). Assumes nothing.
use Rattle.std.specs.Prelude.{◌≡◌, refl, ◌≤◌, ◌<◌, ◌&&◌, ◌∷◌, ◌+◌, ◌*◌}
use Rattle.std.proofs.Common.{sym, ◌∙◌, ap, arith, lt-ltb, le-ltb}
use Rattle.seq.specs.Seq.{Bool, true, false, cond, List, [], Option, none, some, Option·getD, ℕ, ltb, get_or, ℤ, least, best, or_zero}
use Rattle.seq.specs.Least.{least_more}
use Rattle.seq.proofs.Least.{least_min, least_by, least-le}
use Rattle.seq.specs.Best.{best_has}
use Rattle.seq.specs.Pick.{pick, better, pick-turn, pick_below}
use Rattle.paper.specs.Plane.{Vec, Seg, head, whole, below}
use Rattle.paper.specs.Soundings.{east}
use Rattle.plane.specs.Bounds.{span}
use Rattle.graph.specs.Flat.{carrier_at}
use Rattle.graph.specs.Look.{westward_of, nearer_of}
use Rattle.looks.specs.declared.reading.Looked.{Looked}

-- how far to the left or right of an edge a corner lies
abbrev pub whole_lefts : ℕ
whole_lefts = 2 * (span * span)

-- an edge as a row
abbrev pub seg_row : Seg → List ℤ
seg_row s = s.foot.x ∷ s.foot.y ∷ s.up.x ∷ s.up.y ∷ []

-- the edge s starts higher than c
abbrev pub above : Vec → Seg → Bool
above c s = below (whole c) (whole s.foot)

-- its upper end is higher than c, and it lies west of c or goes through it
abbrev pub passes : Vec → Seg → Bool
passes c s = below (whole c) (whole (head s)) && westward_of s (whole c) east

-- at the height of c it lies east of t, or meets it there and has the smaller upward angle
abbrev pub closer : Vec → Seg → Seg → Bool
closer c s t = nearer_of s t (whole c)

abbrev pub above_at : List ℤ → Vec → ℕ → Bool
above_at rs c i = above c (carrier_at rs i)

abbrev pub passes_at : List ℤ → Vec → ℕ → Bool
passes_at rs c i = passes c (carrier_at rs i)

abbrev pub closer_at : List ℤ → Vec → ℕ → ℕ → Bool
closer_at rs c i j = closer c (carrier_at rs i) (carrier_at rs j)

-- "takes them from the start and stops at the first whose lower end is higher than the sounding": how many of e are read
abbrev pub rails_read : List ℤ → ℕ → Vec → ℕ
rails_read rs e c = least (above_at rs c) e

-- the nearest of those
abbrev pub rail_seen : List ℤ → ℕ → Vec → Option ℕ
rail_seen rs e c = best (passes_at rs c) (closer_at rs c) (rails_read rs e c)

-- its label, of labels in the same order; or 0 "where the outside is seen"
abbrev pub rail_label : List ℤ → List ℕ → ℕ → Vec → ℕ
rail_label rs es e c = or_zero (λ i. get_or es i 0) (rail_seen rs e c)

-- what is answered
pub record Looks (rs : List ℤ) (e : ℕ) (c : Vec) (l : Looked) : Type 0 where
  pub read_is : l.read ≡ rails_read rs e c
  pub rail_is : l.rail ≡ Option·getD (rail_seen rs e c) e

-- either side of edge k is one of 2e
pub side_below : (c : Bool) (k : ℕ) {e : ℕ} → k < e → cond c (2 * k + 1) (2 * k) < 2 * e
side_below true k l = omega arith
side_below false k l = omega arith

-- ── the loop ──

-- what it holds: no edge of the first i starts above, and r is the nearest of them
pub record Reading (rs : List ℤ) (e : ℕ) (c : Vec) (r i : ℕ) : Type 0 where
  pub upto : i ≤ e
  pub unread : least (above_at rs c) i ≡ i
  pub seen : r ≡ pick (passes_at rs c) (closer_at rs c) e i

module _ (rs : List ℤ) (e : ℕ) (c : Vec) where
  pub read_starts : Reading rs e c e 0
  read_starts = record { upto = omega arith; unread = refl; seen = refl }

  module _ {r i : ℕ} (k : Reading rs e c r i) where
    pub read-le : r ≤ e
    read-le = omega (arith, k.seen, pick_below (passes_at rs c) (closer_at rs c) e i (e + 1) (omega arith) (omega (arith, k.upto)))

    pub read_turns : (s : ℕ) → i < e → above_at rs c i ≡ false → s ≡ cond (passes_at rs c i) (better (closer_at rs c) e i r) r → Reading rs e c s (i + 1)
    read_turns s l q z = record {
      upto = omega arith;
      unread = least_more (above_at rs c) i k.unread q;
      seen = z ∙ ap (λ (x : ℕ). cond (passes_at rs c i) (better (closer_at rs c) e i x) x) k.seen ∙ sym (pick-turn (passes_at rs c) (closer_at rs c) e i (λ j h w. omega (arith, h.below)));
    }

    pub read_ends : (i < e → above_at rs c i ≡ true) → (x : Looked) → x.rail ≡ r → x.read ≡ i → Looks rs e c x
    read_ends q x s z =
        let many : rails_read rs e c ≡ i = least_by (above_at rs c) e i k.upto (λ j l. least_min (above_at rs c) i j (omega (arith, k.unread))) q in
        record { read_is = z ∙ sym many; rail_is = s ∙ k.seen ∙ ap (λ (n : ℕ). Option·getD (best (passes_at rs c) (closer_at rs c) n) e) (sym many) }

-- ── the label ──

module _ (rs : List ℤ) (es : List ℕ) (e : ℕ) (c : Vec) where
  abbrev label_of : ℕ → ℕ
  label_of r = cond (ltb r e) (get_or es r 0) 0

  label_by_lem : (o : Option ℕ) → rail_seen rs e c ≡ o → label_of (Option·getD o e) ≡ or_zero (λ i. get_or es i 0) o
  label_by_lem none q = ap (λ (b : Bool). cond b (get_or es e 0) 0) (le-ltb e e (omega arith))
  label_by_lem (some i) q = ap (λ (b : Bool). cond b (get_or es i 0) 0) (lt-ltb i e (omega (arith, (best_has (passes_at rs c) (closer_at rs c) (rails_read rs e c) i q).below, least-le (above_at rs c) e)))

  pub seen-label : (l : Looked) → Looks rs e c l → cond (ltb l.rail e) (get_or es l.rail 0) 0 ≡ rail_label rs es e c
  seen-label l L = ap label_of L.rail_is ∙ label_by_lem (rail_seen rs e c) refl
