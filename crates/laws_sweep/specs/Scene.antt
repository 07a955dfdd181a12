-- What the sweep is over and what it keeps. `Scene`: edges that go up, their corners, and the points at which the line is to stop, of which each is a corner or the crossing of edges of two
-- maps; edges of one map meet in ends only. `State`: the line stands at p, and has before it the points `left`; the queue has some of these, every corner ahead among them; the status has the
-- edges that start at p or below and end above it, in their order just above p; and the crossing of two neighbours, if it is ahead, is in the queue.
-- In order: the two; a point by its lowest numbers; `reaches`: with no stop strictly between p and v, the order of the status is the order up to v. Assumes nothing.
use Rattle.std.specs.Prelude.{◌≡◌, ◌⊎◌, ◌<ℤ◌}
use Rattle.std.proofs.Common.{sym, ◌∙◌}
use Rattle.seq.specs.Seq.{true, false, List, some, pos}
use Rattle.seq.specs.Terms.{Among, Rising, Pairs, Chain}
use Rattle.seq.specs.Tests.{not-true}
use Rattle.exact.specs.Lowest.{lowest, lowest_is, lowest_x, lowest_y}
use Rattle.paper.specs.Plane.{Pt, cross, before, same, the_left_by, crossing}
use Rattle.laws_plane.specs.Cone.{UpV}
use Rattle.laws_plane.specs.Points.{LowestP, is_same, same_before, before_same, before_asym, le_before, before_le}
use Rattle.laws_plane.specs.Ends.{0<1}
use Rattle.laws_plane.specs.Angles.{cross-swap_0}
use Rattle.laws_plane.specs.Edges.{On, IsEnd}
use Rattle.laws_plane.specs.Crossing.{Touch}
use Rattle.laws_sweep.specs.Gap.{West, Upto, Between, carried}
use Rattle.laws_sweep.specs.Sweep.{Strand, lo, hi}

abbrev pub Parallel : Strand → Strand → Type 0
Parallel e f = cross e.seg.up f.seg.up ≡ pos 0

-- v is where edges of two different maps cross
pub record Crosses (es : List Strand) (v : Pt) : Type 0 where
  pub one : Strand
  pub other : Strand
  pub one_in : Among one es
  pub other_in : Among other es
  pub differ : one.of ≡ other.of → ⊥
  pub touch : Touch one.seg other.seg v

pub record Scene (es : List Strand) (corners stops : List Pt) : Type 0 where
  pub rises : (e : Strand) → Among e es → UpV e.seg.up
  pub low_in : (e : Strand) → Among e es → Among (lo e) corners
  pub high_in : (e : Strand) → Among e es → Among (hi e) corners
  pub corner_in_lem : (v : Pt) → Among v corners → Among v stops
  pub lowest_in : (v : Pt) → Among v stops → LowestP v
  pub rising : Rising before stops
  pub corners-rising : Rising before corners
  -- a stop is a corner or a crossing, and where two edges that are not parallel meet is a stop
  pub from : (v : Pt) → Among v stops → Among v corners ⊎ Crosses es v
  pub meet_in : (e f : Strand) → Among e es → Among f es → (Parallel e f → ⊥) → (q : Pt) → pos 0 <ℤ q.D → On e.seg q → On f.seg q → Among (lowest q.X q.Y q.D) stops
  -- edges of one map that are not parallel meet in an end only
  pub one_map : (e f : Strand) → Among e es → Among f es → e.of ≡ f.of → (Parallel e f → ⊥) → (q : Pt) → pos 0 <ℤ q.D → On e.seg q → On f.seg q → IsEnd e.seg q

-- the crossing of e and f, if it is ahead of p, is in the queue
abbrev pub Tested : Pt → List Pt → Strand → Strand → Type 0
Tested p queue e f = (e.of ≡ f.of → ⊥) → (q : Pt) → crossing e.seg f.seg ≡ some q → before p q ≡ true → Among q queue

abbrev pub WestAt : Pt → Strand → Strand → Type 0
WestAt p e f = West p e.seg f.seg

-- the line cuts e just above p
pub record Cut (es : List Strand) (p : Pt) (e : Strand) : Type 0 where
  pub is : Among e es
  pub started : before p (lo e) ≡ false
  pub unended : before p (hi e) ≡ true

pub record State (es : List Strand) (corners stops : List Pt) (p : Pt) (left queue : List Pt) (s : List Strand) : Type 0 where
  pub real : pos 0 <ℤ p.D
  pub left_in : (z : Pt) → Among z left → Among z stops × (before p z ≡ true)
  pub left_has : (z : Pt) → Among z stops → before p z ≡ true → Among z left
  pub left_rising : Rising before left
  pub queue_in : (z : Pt) → Among z queue → Among z left
  pub queue-rising : Rising before queue
  pub queue_has : (z : Pt) → Among z corners → before p z ≡ true → Among z queue
  pub cut : (e : Strand) → Among e s → Cut es p e
  pub cut_has : (e : Strand) → Cut es p e → Among e s
  pub sorted : Pairs (WestAt p) s
  pub tested : Chain (Tested p queue) s

-- ── a point by its lowest numbers ──

module _ (q : Pt) (h : pos 0 <ℤ q.D) where
  pub lowest_same : same q (lowest q.X q.Y q.D) ≡ true
  lowest_same = is_same q (lowest q.X q.Y q.D) (sym (lowest_x q.X q.Y q.D h)) (sym (lowest_y q.X q.Y q.D h))

  pub lowest-real : pos 0 <ℤ (lowest q.X q.Y q.D).D
  lowest-real = (lowest_is q.X q.Y q.D h).positive

-- ── up to the next stop ──

module _ (es : List Strand) (corners stops : List Pt) (S : Scene es corners stops) where
  -- no stop is strictly between p and v
  abbrev pub Free : Pt → Pt → Type 0
  Free p v = (z : Pt) → Among z stops → before p z ≡ true → before z v ≡ true → ⊥

  module _ (p : Pt) (hp : pos 0 <ℤ p.D) (v : Pt) (hv : pos 0 <ℤ v.D) (b : before p v ≡ true) (free : Free p v) where
    -- an edge that the line cuts does not end before v
    pub past : (e : Strand) → Cut es p e → before (hi e) v ≡ false
    past e c = not-true (before (hi e) v) (λ h. free (hi e) (S.corner_in_lem (hi e) (S.high_in e c.is)) c.unended h)

    on_between : (e : Strand) → Cut es p e → (q : Pt) → pos 0 <ℤ q.D → the_left_by e.seg q ≡ pos 0 → before p q ≡ true → before q v ≡ true → On e.seg q
    on_between e c q h l pq qv = record {
      line = l;
      low = before_asym (lo e) q (le_before (lo e) p q 0<1 hp h c.started pq);
      high = before_asym q (hi e) (before_le q v (hi e) h hv 0<1 qv (past e c));
    }

    none_between : (e f : Strand) → Cut es p e → Cut es p f → (Parallel e f → ⊥) → Between e.seg f.seg p v → ⊥
    none_between e f ce cf n m =
        let q = m.at in
        let h = m.real in
        let z = lowest q.X q.Y q.D in
        free z (S.meet_in e f ce.is cf.is n q h (on_between e ce q h m.first m.from_p m.to_r) (on_between f cf q h m.second m.from_p m.to_r))
        (before_same q z p h (lowest-real q h) hp (lowest_same q h) ∙ m.from_p) (same_before q z v h (lowest-real q h) hv (lowest_same q h) ∙ m.to_r)

    -- the order of the status holds up to v
    pub reaches : (e f : Strand) → Cut es p e → Cut es p f → WestAt p e f → Upto v e.seg f.seg
    reaches e f ce cf w = carried e.seg f.seg p v hp hv b (λ n m. none_between e f ce cf (λ z. n (cross-swap_0 e.seg.up f.seg.up z)) m) w
