-- Of Turn of specs/, what rests on its definitions.
use Rattle.std.specs.Prelude.{◌≡◌, refl, ◌⊎◌, ◌<ℤ◌, ◌∷◌, ◌++◌}
use Rattle.std.proofs.Common.{sym, ◌∙◌, ap, subst, inl, inr, ⊎_elim}
use Rattle.exact.specs.Lowest.{lowest-fixed}
use Rattle.exact.specs.Sign.{Sign, neg, zer, plus, sgn, is_zer, Sg, sg}
use Rattle.exact.specs.Signs.{not_less_is}
use Rattle.seq.specs.Seq.{Bool, true, false, List, pos}
use Rattle.seq.specs.Terms.{Among, Pairs, Chain}
use Rattle.seq.specs.Members.{++-among, among-++}
use Rattle.seq.specs.Tests.{clash, never, not-false}
use Rattle.seq.specs.Pairs.{pairs-parts, parts-pairs, chain-parts, parts-chain, every-chain, pairs-map, chain-map, first}
use Rattle.paper.specs.Plane.{Pt, head, before, same, the_left_by}
use Rattle.laws_plane.specs.Cone.{UpV}
use Rattle.laws_plane.specs.Points.{LowestP, before_irr, before_asym, before_trans, same_self, same_point, same_equal, same_sym, same_neither, le_before}
use Rattle.laws_plane.specs.Ends.{0<1, corner-lowest}
use Rattle.laws_plane.specs.Sides.{left_foot, left_head}
use Rattle.laws_plane.specs.Edges.{On, seg_up}
use Rattle.laws_plane.specs.Crossing.{crossing-touch, crossing-only}
use Rattle.laws_sweep.specs.Gap.{apart, Upto, at_most, upto-sides, Parted, right_on, right_left, on_left, parted-gap, through-west, upto-west, spread}
use Rattle.laws_sweep.specs.Sweep.{Strand, lo, hi, the_goes_on, starts_at}
use Rattle.laws_sweep.specs.Scene.{Scene, Tested, WestAt, Cut, State, Free, past}
use Rattle.laws_sweep.specs.Next.{v_ahead, v_lowest, v_real, first_left, v_free, is_0}
use Rattle.laws_sweep.specs.Slots.{Wide}
use Rattle.laws_sweep.specs.Queue.{Found, Joint}
use Rattle.laws_sweep.specs.Turn.{side, upto_v, Leaves, Turn}

-- ── the order of the status at v ──

module _ (es : List Strand) (corners stops : List Pt) (S : Scene es corners stops) (p : Pt) (v : Pt) (vs queue : List Pt) (s : List Strand) (I : State es corners stops p (v ∷ vs) queue s) where
  -- v is no further to the left of an edge than of a later one: so a search by halves finds the parts
  pub sides_v : Pairs (λ e f. at_most (side v e) (side v f) ≡ true) s
  sides_v =
      pairs-map (λ e f. Upto v e.seg f.seg) (λ e f. at_most (side v e) (side v f) ≡ true) s
      (λ x y i j w. upto-sides x.seg y.seg (S.rises x (I.cut x i).is) (S.rises y (I.cut y j).is) v w) (upto_v es corners stops S p v vs queue s I)

module _ (es : List Strand) (corners stops : List Pt) (S : Scene es corners stops) (p : Pt) (v : Pt) (vs rest : List Pt) (s : List Strand) (I : State es corners stops p (v ∷ vs) (v ∷ rest) s) (W H E M : List Strand) (Q : List Pt) (T : Turn es v rest s W H E M Q) where
  abbrev hv : pos 0 <ℤ v.D
  hv = v_real es corners stops S p v vs (v ∷ rest) s I

  abbrev lv : LowestP v
  lv = v_lowest es corners stops S p v vs (v ∷ rest) s I

  abbrev pv : before p v ≡ true
  pv = v_ahead es corners stops S p v vs (v ∷ rest) s I

  free : Free es corners stops S p v
  free = v_free es corners stops S p v vs (v ∷ rest) s I

  none_before : (z : Pt) → Among z stops → before p z ≡ true → before z v ≡ false
  none_before z i b = first_left es corners stops S p v vs (v ∷ rest) s I z (I.left_has z i b)

  -- ── the three parts of the status ──

  abbrev UptoV : Strand → Strand → Type 0
  UptoV e f = Upto v e.seg f.seg

  upto : Pairs UptoV (W ++ (H ++ E))
  upto = subst (Pairs UptoV) (sym T.parts) (upto_v es corners stops S p v vs (v ∷ rest) s I)

  W-in : (z : Strand) → Among z W → Among z s
  W-in z i = subst (Among z) T.parts (++-among z W (H ++ E) (inl i))

  H-in : (z : Strand) → Among z H → Among z s
  H-in z i = subst (Among z) T.parts (++-among z W (H ++ E) (inr (++-among z H E (inl i))))

  E-in : (z : Strand) → Among z E → Among z s
  E-in z i = subst (Among z) T.parts (++-among z W (H ++ E) (inr (++-among z H E (inr i))))

  where_in : (z : Strand) → Among z s → Among z W ⊎ (Among z H ⊎ Among z E)
  where_in z i = ⊎_elim (λ j. inl j) (λ j. inr (among-++ z H E j)) (among-++ z W (H ++ E) (subst (Among z) (sym T.parts) i))

  -- ── what the line cuts just above v ──

  off_by : (z : Strand) {k : Sign} → side v z ≡ k → (k ≡ zer → ⊥) → the_left_by z.seg v ≡ pos 0 → ⊥
  off_by z e n h = n (sym e ∙ ap sgn h)

  neg-zer : neg ≡ zer → ⊥
  neg-zer e = never (ap is_zer e)

  plus-zer : plus ≡ zer → ⊥
  plus-zer e = never (ap is_zer e)

  started_v : (z : Strand) → Cut es p z → before v (lo z) ≡ false
  started_v z c = before_asym (lo z) v (le_before (lo z) p v 0<1 I.real hv c.started pv)

  -- one that does not go through v goes on
  off_cut : (z : Strand) → Cut es p z → (the_left_by z.seg v ≡ pos 0 → ⊥) → Cut es v z
  off_cut z c n = record {
    is = c.is;
    started = started_v z c;
    unended = not-false (before v (hi z)) (λ b. n (ap (the_left_by z.seg) (sym (same_point (hi z) v (corner-lowest (head z.seg)) lv (past es corners stops S p I.real v hv pv free z c) b)) ∙ left_head z.seg));
  }

  W-cut : (z : Strand) → Among z W → Cut es v z
  W-cut z i = off_cut z (I.cut z (W-in z i)) (off_by z (T.west_is z i) neg-zer)

  E-cut : (z : Strand) → Among z E → Cut es v z
  E-cut z i = off_cut z (I.cut z (E-in z i)) (off_by z (T.east_is z i) plus-zer)

  H-leaves : (z : Strand) → Among z H → the_goes_on v z ≡ true → Leaves es corners stops S p v vs rest s I W H E M Q T z
  H-leaves z i b =
      let c = I.cut z (H-in z i) in
      record { cut = record { is = c.is; started = started_v z c; unended = b }; line = is_0 (the_left_by z.seg v) (T.through_is z i) }

  starts_leaves : (z : Strand) → Among z es → starts_at v z ≡ true → Leaves es corners stops S p v vs rest s I W H E M Q T z
  starts_leaves z i b =
      let e : lo z ≡ v = same_equal (lo z) v (corner-lowest z.seg.foot) lv b in
      record {
        cut = record { is = i; started = subst (λ (w : Pt). before w (lo z) ≡ false) e (before_irr (lo z)); unended = subst (λ (w : Pt). before w (hi z) ≡ true) e (seg_up z.seg (S.rises z i)) };
        line = ap (the_left_by z.seg) (sym e) ∙ left_foot z.seg;
      }

  M-leaves : (z : Strand) → Among z M → Leaves es corners stops S p v vs rest s I W H E M Q T z
  M-leaves z i = ⊎_elim (λ r. H-leaves z r.0 r.1) (λ r. starts_leaves z r.0 r.1) (T.leaves z i)

  new_cut : (z : Strand) → Among z (W ++ (M ++ E)) → Cut es v z
  new_cut z i = ⊎_elim (W-cut z) (λ j. ⊎_elim (λ k. (M-leaves z k).cut) (E-cut z) (among-++ z M E j)) (among-++ z W (M ++ E) i)

  in_M : (z : Strand) → Among z M → Among z (W ++ (M ++ E))
  in_M z i = ++-among z W (M ++ E) (inr (++-among z M E (inl i)))

  new_has : (z : Strand) → Cut es v z → Among z (W ++ (M ++ E))
  new_has z c = go (before p (lo z)) refl
    where
      old : (Among z W ⊎ (Among z H ⊎ Among z E)) → Among z (W ++ (M ++ E))
      old (inl i) = ++-among z W (M ++ E) (inl i)
      old (inr (inl i)) = in_M z (T.stays z i c.unended)
      old (inr (inr i)) = ++-among z W (M ++ E) (inr (++-among z M E (inr i)))

      go : (b : Bool) → before p (lo z) ≡ b → Among z (W ++ (M ++ E))
      go true b =
          let e : lo z ≡ v = same_point (lo z) v (corner-lowest z.seg.foot) lv (none_before (lo z) (S.corner_in_lem (lo z) (S.low_in z c.is)) b) c.started in
          in_M z (T.starts z c.is (subst (λ (w : Pt). same (lo z) w ≡ true) e (same_self (lo z))))
      go false b = old (where_in z (I.cut_has z (record { is = c.is; started = b; unended = before_trans p v (hi z) I.real hv 0<1 pv c.unended })))

  -- ── the new order ──

  up_of : (z : Strand) → Cut es v z → UpV z.seg.up
  up_of z c = S.rises z c.is

  sg_by : (z : Strand) {k : Sign} → side v z ≡ k → Sg (the_left_by z.seg v) k
  sg_by z e = subst (Sg (the_left_by z.seg v)) e (sg (the_left_by z.seg v))

  parted : (x y : Strand) {j k : Sign} → Cut es v x → Cut es v y → side v x ≡ j → side v y ≡ k → Parted j k → WestAt v x y
  parted x y cx cy e f h = apart (parted-gap x.seg y.seg (up_of x cx) (up_of y cy) v (sg_by x e) (sg_by y f) h)

  W-pairs : Pairs (WestAt v) W
  W-pairs =
      pairs-map UptoV (WestAt v) W (λ x y i j h. upto-west x.seg y.seg (up_of x (W-cut x i)) (up_of y (W-cut y j)) v (off_by x (T.west_is x i) neg-zer) h)
      (pairs-parts UptoV W (H ++ E) upto).0

  E-pairs : Pairs (WestAt v) E
  E-pairs =
      pairs-map UptoV (WestAt v) E (λ x y i j h. upto-west x.seg y.seg (up_of x (E-cut x i)) (up_of y (E-cut y j)) v (off_by x (T.east_is x i) plus-zer) h)
      (pairs-parts UptoV H E (pairs-parts UptoV W (H ++ E) upto).1).1

  M-side : (z : Strand) → Among z M → side v z ≡ zer
  M-side z i = ap sgn (M-leaves z i).line

  M-pairs : Pairs (WestAt v) M
  M-pairs =
      pairs-map Wide (WestAt v) M
      (λ x y i j h. through-west x.seg y.seg (up_of x (M-leaves x i).cut) (up_of y (M-leaves y j).cut) v (M-leaves x i).line (M-leaves y j).line (not_less_is (spread x.seg y.seg) h))
      T.fanned

  new_sorted : Pairs (WestAt v) (W ++ (M ++ E))
  new_sorted =
      parts-pairs (WestAt v) W (M ++ E) W-pairs
      (parts-pairs (WestAt v) M E M-pairs E-pairs (λ x y i j. parted x y (M-leaves x i).cut (E-cut y j) (M-side x i) (T.east_is y j) on_left))
      (λ x y i j. ⊎_elim (λ k. parted x y (W-cut x i) (M-leaves y k).cut (T.west_is x i) (M-side y k) right_on) (λ k. parted x y (W-cut x i) (E-cut y k) (T.west_is x i) (T.east_is y k) right_left) (among-++ y M E j))

  -- ── the new queue ──

  -- a stop after v
  after_in : (z : Pt) → Among z stops → before v z ≡ true → Among z vs
  after_in z i b =
      ⊎_elim (λ e. absurd (clash b (ap (before v) e ∙ before_irr v))) (λ j. j)
      (I.left_has z i (before_trans p v z I.real hv (S.lowest_in z i).positive pv b))

  -- one of the queue after v
  later-rest : (z : Pt) → Among z (v ∷ rest) → before v z ≡ true → Among z rest
  later-rest z (inl e) b = absurd (clash b (ap (before v) e ∙ before_irr v))
  later-rest z (inr i) b = i

  found-stop : (e f : Strand) → Among e es → Among f es → (z : Pt) → Found v e f z → Among z stops
  found-stop e f i j z h =
      let t = crossing-touch e.seg f.seg (S.rises e i) (S.rises f j) z h.is in
      subst (λ (w : Pt). Among w stops) (lowest-fixed z t.lowest_p) (S.meet_in e f i j t.turned z t.lowest_p.positive t.first t.second)

  joint_in : (l r : List Strand) → ((z : Strand) → Among z l → Cut es v z) → ((z : Strand) → Among z r → Cut es v z) → (z : Pt) → Joint v l r z → Among z vs
  joint_in l r cl cr z k =
      after_in z (found-stop k.one k.other (cl k.one k.one_in).is (cr k.other k.other_in).is z k.found) k.found.later

  ME-cut : (z : Strand) → Among z (M ++ E) → Cut es v z
  ME-cut z j = ⊎_elim (λ k. (M-leaves z k).cut) (E-cut z) (among-++ z M E j)

  vs-stop : (z : Pt) → Among z vs → Among z stops
  vs-stop z i = (I.left_in z (inr i)).0

  rest_in : (z : Pt) → Among z rest → Among z vs
  rest_in z i =
      let b : before v z ≡ true = I.queue-rising.0 z i in
      ⊎_elim (λ e. absurd (clash b (ap (before v) e ∙ before_irr v))) (λ j. j) (I.queue_in z (inr i))

  queue_in : (z : Pt) → Among z Q → Among z vs
  queue_in z i = ⊎_elim (rest_in z) (λ k. ⊎_elim (joint_in W (M ++ E) W-cut ME-cut z) (joint_in M E (λ x k. (M-leaves x k).cut) E-cut z) k) (T.queue_from z i)

  -- ── neighbours ──

  old_tested : (e f : Strand) → Cut es v e → Cut es v f → Tested p (v ∷ rest) e f → Tested v Q e f
  old_tested e f ce cf t o q c b =
      let h = (crossing-touch e.seg f.seg (up_of e ce) (up_of f cf) q c).lowest_p.positive in
      T.queue-keeps q (later-rest q (t o q c (before_trans p v q I.real hv h pv b)) b)

  leaves_on : (z : Strand) → Leaves es corners stops S p v vs rest s I W H E M Q T z → On z.seg v
  leaves_on z h = record { line = h.line; low = h.cut.started; high = before_asym v (hi z) h.cut.unended }

  -- two that leave v cross there and not ahead
  M-tested : (e f : Strand) → Leaves es corners stops S p v vs rest s I W H E M Q T e → Leaves es corners stops S p v vs rest s I W H E M Q T f → Tested v Q e f
  M-tested e f he hf o q c b =
      absurd (clash b (same_neither v q (same_sym q v (crossing-only e.seg f.seg (up_of e he.cut) (up_of f hf.cut) q v c (leaves_on e he) (leaves_on f hf)))))

  s_tested : Chain (Tested p (v ∷ rest)) (W ++ (H ++ E))
  s_tested = subst (Chain (Tested p (v ∷ rest))) (sym T.parts) I.tested

  new_tested : Chain (Tested v Q) (W ++ (M ++ E))
  new_tested =
      parts-chain (Tested v Q) W (M ++ E)
      (chain-map (Tested p (v ∷ rest)) (Tested v Q) W (λ x y i j t. old_tested x y (W-cut x i) (W-cut y j) t) (chain-parts (Tested p (v ∷ rest)) W (H ++ E) s_tested).0)
      (parts-chain (Tested v Q) M E (every-chain (Tested v Q) M (λ x y i j. M-tested x y (M-leaves x i) (M-leaves y j)))
      (chain-map (Tested p (v ∷ rest)) (Tested v Q) E (λ x y i j t. old_tested x y (E-cut x i) (E-cut y j) t) (chain-parts (Tested p (v ∷ rest)) H E (chain-parts (Tested p (v ∷ rest)) W (H ++ E) s_tested).1).1)
      T.east-tested)
      T.west-tested

  pub turned : State es corners stops v vs Q (W ++ (M ++ E))
  turned = record {
    real = hv;
    left_in = λ z i. (vs-stop z i, I.left_rising.0 z i);
    left_has = after_in;
    left_rising = I.left_rising.1;
    queue_in = queue_in;
    queue-rising = T.queue-rising;
    queue_has = λ z i b. T.queue-keeps z (later-rest z (I.queue_has z i (before_trans p v z I.real hv (S.lowest_in z (S.corner_in_lem z i)).positive pv b)) b);
    cut = new_cut;
    cut_has = new_has;
    sorted = new_sorted;
    tested = new_tested;
  }
