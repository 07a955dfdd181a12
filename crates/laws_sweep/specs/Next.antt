-- No crossing is missed: the next stop of the line is the first point of the queue (`queue_next`). It is a corner, or edges e and f of two maps cross there; then both are in the status, and by the
-- sides of that point so is everything between them in the status through it; of neighbours there, two of one map would end there, two of different maps have been tested, so that the point is in the
-- queue, unless all of them are parallel, which e and f are not. Assumes nothing.
use Rattle.std.specs.Prelude.{◌≡◌, refl, ◌⊎◌, ◌<ℤ◌, ◌∷◌, ◌++◌}
use Rattle.std.proofs.Common.{sym, ◌∙◌, ap, subst, inl, inr, ⊎_elim}
use Rattle.std.proofs.Math.Decide.{ℕ_discrete}
use Rattle.exact.specs.Order.{Tri, lt, eq, gt, tri, <→≢}
use Rattle.exact.specs.Sign.{Sign, neg, zer, plus, sgn, is_zer}
use Rattle.exact.specs.Signs.{zero_is}
use Rattle.seq.specs.Seq.{Bool, true, false, List, [], ℤ, pos}
use Rattle.seq.specs.Terms.{Among, Rising, Pairs, Chain}
use Rattle.seq.specs.Members.{++-among, among-++, among_one}
use Rattle.seq.specs.Tests.{clash, never}
use Rattle.seq.specs.Pairs.{pairs-parts, chain-parts, chain-map, linked, apart_in, stretch}
use Rattle.paper.specs.Plane.{Pt, cross, head, before, the_left_by}
use Rattle.laws_plane.specs.Cone.{up_nonzero}
use Rattle.laws_plane.specs.Points.{LowestP, before_irr, before_asym, same_point, same_equal, le_before, before_le}
use Rattle.laws_plane.specs.Ends.{0<1, corner-lowest}
use Rattle.laws_plane.specs.Angles.{cross-swap_0, parallel-trans}
use Rattle.laws_plane.specs.Edges.{On, IsEnd}
use Rattle.laws_plane.specs.Crossing.{touch-crossing}
use Rattle.laws_sweep.specs.Gap.{at_most, upto-sides}
use Rattle.laws_sweep.specs.Sweep.{Strand, lo, hi}
use Rattle.laws_sweep.specs.Scene.{Parallel, Crosses, Scene, Tested, WestAt, Cut, State, Free, past, reaches}

-- ── signs ──

-- 0 ≤ s ≤ 0
squeezed : (s : Sign) → at_most zer s ≡ true → at_most s zer ≡ true → s ≡ zer
squeezed neg a b = never a
squeezed zer a b = refl
squeezed plus a b = never b

pub is_0 : (z : ℤ) → sgn z ≡ zer → z ≡ pos 0
is_0 z e = zero_is z (ap is_zer e)

module _ (es : List Strand) (corners stops : List Pt) (S : Scene es corners stops) (p : Pt) (v : Pt) (vs queue : List Pt) (s : List Strand) (I : State es corners stops p (v ∷ vs) queue s) where
  pub v_stop : Among v stops
  v_stop = (I.left_in v (inl refl)).0

  pub v_ahead : before p v ≡ true
  v_ahead = (I.left_in v (inl refl)).1

  pub v_lowest : LowestP v
  v_lowest = S.lowest_in v v_stop

  pub v_real : pos 0 <ℤ v.D
  v_real = v_lowest.positive

  -- a stop ahead is v or comes after it
  pub first_left : (z : Pt) → Among z (v ∷ vs) → before z v ≡ false
  first_left z (inl e) = ap (λ (w : Pt). before w v) e ∙ before_irr v
  first_left z (inr i) = before_asym v z (I.left_rising.0 z i)

  pub v_free : Free es corners stops S p v
  v_free z i a b = clash b (first_left z (I.left_has z i a))

  -- a corner that is v is in the queue
  corner-queue : (z : Pt) → Among z corners → z ≡ v → Among v queue
  corner-queue z i e = subst (λ (w : Pt). Among w queue) e (I.queue_has z i (ap (before p) e ∙ v_ahead))

  end-queue : (e : Strand) → Among e es → IsEnd e.seg v → Among v queue
  end-queue e i (inl h) = corner-queue (lo e) (S.low_in e i) (same_equal (lo e) v (corner-lowest e.seg.foot) v_lowest h)
  end-queue e i (inr h) = corner-queue (hi e) (S.high_in e i) (same_equal (hi e) v (corner-lowest (head e.seg)) v_lowest h)

  -- an edge that the line cuts, with v on its line, goes through v
  pub on_at_lem : (e : Strand) → Cut es p e → the_left_by e.seg v ≡ pos 0 → On e.seg v
  on_at_lem e c l = record {
    line = l;
    low = before_asym (lo e) v (le_before (lo e) p v 0<1 I.real v_real c.started v_ahead);
    high = past es corners stops S p I.real v v_real v_ahead v_free e c;
  }

  -- ── neighbours through v ──

  abbrev Settled : Strand → Strand → Type 0
  Settled e f = Among v queue ⊎ Parallel e f

  settle : (e f : Strand) → Cut es p e → Cut es p f → the_left_by e.seg v ≡ pos 0 → the_left_by f.seg v ≡ pos 0 → Tested p queue e f → Settled e f
  settle e f ce cf le lf t = go (tri (pos 0) (cross e.seg.up f.seg.up))
    where
      turned : (Parallel e f → ⊥) → Settled e f
      turned n = inl (elim (ℕ_discrete e.of f.of) [
        | yes o ↦ end-queue e ce.is (S.one_map e f ce.is cf.is o n v v_real (on_at_lem e ce le) (on_at_lem f cf lf))
        | no o ↦ t o v (touch-crossing e.seg f.seg (S.rises e ce.is) (S.rises f cf.is) v
            (record { turned = n; lowest_p = v_lowest; first = on_at_lem e ce le; second = on_at_lem f cf lf })) v_ahead
      ])

      go : Tri (pos 0) (cross e.seg.up f.seg.up) → Settled e f
      go (lt l) = turned (λ z. <→≢ l (sym z))
      go (eq z) = inr (sym z)
      go (gt l) = turned (λ z. <→≢ l z)

  settled-trans : (a b c : Strand) → Among b es → Settled a b → Settled b c → Settled a c
  settled-trans a b c i (inl q) h = inl q
  settled-trans a b c i (inr x) (inl q) = inl q
  settled-trans a b c i (inr x) (inr y) = inr (parallel-trans a.seg.up b.seg.up c.seg.up (up_nonzero b.seg.up (S.rises b i)) x y)

  -- ── e before f in the status, both through v ──

  sides : (e f : Strand) → Cut es p e → Cut es p f → WestAt p e f → at_most (sgn (the_left_by e.seg v)) (sgn (the_left_by f.seg v)) ≡ true
  sides e f ce cf w = upto-sides e.seg f.seg (S.rises e ce.is) (S.rises f cf.is) v (reaches es corners stops S p I.real v v_real v_ahead v_free e f ce cf w)

  module _ (e f : Strand) (a m c : List Strand) (is : s ≡ a ++ (e ∷ (m ++ (f ∷ c)))) (le : the_left_by e.seg v ≡ pos 0) (lf : the_left_by f.seg v ≡ pos 0) where
    part_in : (z : Strand) → Among z (e ∷ (m ++ (f ∷ []))) → Among z s
    part_in z i =
        subst (Among z) (sym is) (++-among z a (e ∷ (m ++ (f ∷ c))) (inr (subst (Among z) (sym (stretch e m f c)) (++-among z (e ∷ (m ++ (f ∷ []))) c (inl i)))))

    cut_in : (z : Strand) → Among z (e ∷ (m ++ (f ∷ []))) → Cut es p z
    cut_in z i = I.cut z (part_in z i)

    pairs_in_lem : Pairs (WestAt p) (e ∷ (m ++ (f ∷ c)))
    pairs_in_lem = (pairs-parts (WestAt p) a (e ∷ (m ++ (f ∷ c))) (subst (Pairs (WestAt p)) is I.sorted)).1

    chain_in : Chain (Tested p queue) (e ∷ (m ++ (f ∷ [])))
    chain_in =
        (chain-parts (Tested p queue) (e ∷ (m ++ (f ∷ []))) c
        (subst (Chain (Tested p queue)) (stretch e m f c) (chain-parts (Tested p queue) a (e ∷ (m ++ (f ∷ c))) (subst (Chain (Tested p queue)) is I.tested)).1)).0

    -- everything between them is through v
    mid_on : (z : Strand) → Among z m → the_left_by z.seg v ≡ pos 0
    mid_on z i =
        let ez : Cut es p z = cut_in z (inr (++-among z m (f ∷ []) (inl i))) in
        let ee : Cut es p e = cut_in e (inl refl) in
        let ef : Cut es p f = cut_in f (inr (++-among f m (f ∷ []) (inr (inl refl)))) in
        let w : WestAt p e z = pairs_in_lem.0 z (++-among z m (f ∷ c) (inl i)) in
        let x : WestAt p z f = (pairs-parts (WestAt p) m (f ∷ c) pairs_in_lem.1).2 z f i (inl refl) in
        is_0 (the_left_by z.seg v) (squeezed (sgn (the_left_by z.seg v))
        (ap (λ (k : ℤ). at_most (sgn k) (sgn (the_left_by z.seg v))) (sym le) ∙ sides e z ee ez w)
        (ap (λ (k : ℤ). at_most (sgn (the_left_by z.seg v)) (sgn k)) (sym lf) ∙ sides z f ez ef x))

    all_on : (z : Strand) → Among z (e ∷ (m ++ (f ∷ []))) → the_left_by z.seg v ≡ pos 0
    all_on z (inl h) = ap (λ (k : Strand). the_left_by k.seg v) h ∙ le
    all_on z (inr i) = ⊎_elim (mid_on z) (λ j. ap (λ (k : Strand). the_left_by k.seg v) (among_one z f j) ∙ lf) (among-++ z m (f ∷ []) i)

    both : Settled e f
    both =
        linked Settled e m f (λ x y z i. settled-trans x y z (cut_in y (inr (++-among y m (f ∷ []) (inl i)))).is)
        (chain-map (Tested p queue) Settled (e ∷ (m ++ (f ∷ []))) (λ x y i j t. settle x y (cut_in x i) (cut_in y j) (all_on x i) (all_on y j) t) chain_in)

  -- ── the next stop is in the queue ──

  -- an edge through v starts there, or the line cuts it already
  pub through-cut : (e : Strand) → Among e es → On e.seg v → (lo e ≡ v) ⊎ Cut es p e
  through-cut e i o = go (before p (lo e)) refl
    where
      go : (b : Bool) → before p (lo e) ≡ b → (lo e ≡ v) ⊎ Cut es p e
      go true b = inl (same_point (lo e) v (corner-lowest e.seg.foot) v_lowest (first_left (lo e) (I.left_has (lo e) (S.corner_in_lem (lo e) (S.low_in e i)) b)) o.low)
      go false b = inr (record { is = i; started = b; unended = before_le p v (hi e) I.real v_real 0<1 v_ahead o.high })

  crossed-queue : Crosses es v → Among v queue
  crossed-queue x = go (through-cut e x.one_in x.touch.first) (through-cut f x.other_in x.touch.second)
    where
      e : Strand
      e = x.one

      f : Strand
      f = x.other

      le : the_left_by e.seg v ≡ pos 0
      le = x.touch.first.line

      lf : the_left_by f.seg v ≡ pos 0
      lf = x.touch.second.line

      no : Parallel e f → ⊥
      no = x.touch.turned

      go : (lo e ≡ v) ⊎ Cut es p e → (lo f ≡ v) ⊎ Cut es p f → Among v queue
      go (inl h) k = corner-queue (lo e) (S.low_in e x.one_in) h
      go (inr ce) (inl h) = corner-queue (lo f) (S.low_in f x.other_in) h
      go (inr ce) (inr cf) =
          ⊎_elim (λ (a, m, c, is). ⊎_elim (λ q. q) (λ z. absurd (no z)) (both e f a m c is le lf))
          (λ (a, m, c, is). ⊎_elim (λ q. q) (λ z. absurd (no (cross-swap_0 f.seg.up e.seg.up z))) (both f e a m c is lf le))
          (apart_in s e f (I.cut_has e ce) (I.cut_has f cf) (λ h. x.differ (ap (λ (k : Strand). k.of) h)))

  pub next_queue : Among v queue
  next_queue = ⊎_elim (λ i. corner-queue v i refl) crossed-queue (S.from v v_stop)

  -- and it is the first
  pub queue_next : (rest : List Pt) × (queue ≡ v ∷ rest)
  queue_next = go queue refl next_queue
    where
      go : (q : List Pt) → queue ≡ q → Among v q → (rest : List Pt) × (queue ≡ v ∷ rest)
      go [] e i = absurd i
      go (w ∷ ws) e i =
          let r : Rising before (w ∷ ws) = subst (Rising before) e I.queue-rising in
          let wl : before w v ≡ false = first_left w (I.queue_in w (subst (Among w) (sym e) (inl refl))) in
          let k : v ≡ w = ⊎_elim (λ h. h) (λ j. absurd (clash (r.0 v j) wl)) i in
          (ws, e ∙ ap (λ (z : Pt). z ∷ ws) (sym k))

-- with no stop ahead the queue is empty
pub queue-done : (es : List Strand) (corners stops : List Pt) (p : Pt) (queue : List Pt) (s : List Strand) → State es corners stops p [] queue s → queue ≡ []
queue-done es corners stops p [] s I = refl
queue-done es corners stops p (w ∷ ws) s I = absurd (I.queue_in w (inl refl))
