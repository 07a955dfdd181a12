-- The step of `sweep` is a turn (`step-turn`), so it keeps the state (`stepped`): the status falls into three parts by the sides of v, since those rise along it. Assumes nothing.
use Rattle.std.specs.Prelude.{◌≡◌, refl, ◌⊎◌, ◌∷◌, ◌++◌}
use Rattle.std.proofs.Common.{sym, ◌∙◌, ap, subst, inl, inr, ⊎_elim}
use Rattle.exact.specs.Sign.{Sign, neg, zer, plus, is_neg, is_zer}
use Rattle.exact.specs.Signs.{plus_is, neg_is, zer_is}
use Rattle.seq.specs.Seq.{true, false, List, []}
use Rattle.seq.specs.Terms.{Among, Pairs}
use Rattle.seq.specs.Members.{++-among, among-++}
use Rattle.seq.specs.Tests.{never}
use Rattle.seq.specs.Search.{lead-trail, lead_has, trail_has, lead, trail}
use Rattle.seq.specs.Kept.{kept_from, kept_has, kept}
use Rattle.seq.specs.Pairs.{pairs-parts, pairs-map}
use Rattle.seq.specs.Slotted.{slots_from, slots_has}
use Rattle.paper.specs.Plane.{Pt}
use Rattle.laws_plane.specs.Cone.{UpV}
use Rattle.laws_plane.specs.Points.{LowestP}
use Rattle.laws_plane.specs.Crossing.{crossing-touch}
use Rattle.laws_sweep.specs.Gap.{at_most}
use Rattle.laws_sweep.specs.Sweep.{Strand, right, on, the_goes_on, starts_at, steeper, west_of, through, east_of, leaving, status, joint, put, found}
use Rattle.laws_sweep.specs.Scene.{Scene, State}
use Rattle.laws_sweep.specs.Slots.{fan-pairs}
use Rattle.laws_sweep.specs.Waiting.{Waiting, starting, starting_has}
use Rattle.laws_sweep.specs.Queue.{put_from, put_keeps, put_has, put-rising, joint_from, joint-tested}
use Rattle.laws_sweep.specs.Turn.{side, Turn}
use Rattle.laws_sweep.proofs.Turn.{sides_v, turned}

-- ── signs ──

not_right : (s t : Sign) → at_most s t ≡ true → is_neg s ≡ false → is_neg t ≡ false
not_right neg t h e = never (sym e)
not_right zer neg h e = never h
not_right zer zer h e = refl
not_right zer plus h e = refl
not_right plus neg h e = never h
not_right plus zer h e = never h
not_right plus plus h e = refl

not_on : (s t : Sign) → at_most s t ≡ true → is_neg s ≡ false → is_zer s ≡ false → is_zer t ≡ false
not_on neg t h e f = never (sym e)
not_on zer t h e f = never (sym f)
not_on plus neg h e f = refl
not_on plus zer h e f = never h
not_on plus plus h e f = refl

module _ (es : List Strand) (corners stops : List Pt) (S : Scene es corners stops) (p : Pt) (v : Pt) (vs rest : List Pt) (s : List Strand) (I : State es corners stops p (v ∷ vs) (v ∷ rest) s)
    (w : List Strand) (L : Waiting es p w) where
  abbrev W : List Strand
  W = west_of v s

  abbrev R : List Strand
  R = trail (right v) s

  abbrev H : List Strand
  H = through v s

  abbrev E : List Strand
  E = east_of v s

  abbrev M : List Strand
  M = leaving w v s

  abbrev Q : List Pt
  Q = put (found w v s) rest

  -- ── the three parts of the status ──

  abbrev AtMost : Strand → Strand → Type 0
  AtMost e f = at_most (side v e) (side v f) ≡ true

  sides : Pairs AtMost s
  sides = sides_v es corners stops S p v vs (v ∷ rest) s I

  parts : W ++ R ≡ s
  parts = lead-trail (right v) s

  parts' : H ++ E ≡ R
  parts' = lead-trail (on v) R

  R-in : (z : Strand) → Among z R → Among z s
  R-in z i = subst (Among z) parts (++-among z W R (inr i))

  H-in : (z : Strand) → Among z H → Among z s
  H-in z i = R-in z (subst (Among z) parts' (++-among z H E (inl i)))

  E-in-R : (z : Strand) → Among z E → Among z R
  E-in-R z i = subst (Among z) parts' (++-among z H E (inr i))

  R-pairs : Pairs AtMost R
  R-pairs = (pairs-parts AtMost W R (subst (Pairs AtMost) (sym parts) sides)).1

  R-side : (z : Strand) → Among z R → is_neg (side v z) ≡ false
  R-side = trail_has (right v) s (pairs-map AtMost (λ x y. right v x ≡ false → right v y ≡ false) s (λ x y i j h. not_right (side v x) (side v y) h) sides)

  E-side : (z : Strand) → Among z E → side v z ≡ plus
  E-side z i =
      plus_is (side v z) (R-side z (E-in-R z i))
      (trail_has (on v) R (pairs-map AtMost (λ x y. on v x ≡ false → on v y ≡ false) R (λ x y i j h. not_on (side v x) (side v y) h (R-side x i)) R-pairs) z i)

  -- ── the fan ──

  abbrev U : List Strand
  U = kept (the_goes_on v) H ++ lead (starts_at v) w

  M-from : (z : Strand) → Among z U → (Among z H × (the_goes_on v z ≡ true)) ⊎ (Among z es × (starts_at v z ≡ true))
  M-from z i = ⊎_elim (λ j. inl (kept_from (the_goes_on v) z H j)) (λ j. inr (starting es corners stops S p v vs (v ∷ rest) s I w L z j)) (among-++ z (kept (the_goes_on v) H) (lead (starts_at v) w) i)

  U-up : (z : Strand) → Among z U → UpV z.seg.up
  U-up z i = S.rises z (⊎_elim (λ r. (I.cut z (H-in z r.0)).is) (λ r. r.0) (M-from z i))

  in_M : (z : Strand) → Among z (kept (the_goes_on v) H) ⊎ Among z (lead (starts_at v) w) → Among z M
  in_M z i = slots_has steeper [] U z (inr (++-among z (kept (the_goes_on v) H) (lead (starts_at v) w) i))

  fan_from : (z : Strand) → Among z M → Among z U
  fan_from z i = ⊎_elim (λ k. absurd k) (λ k. k) (slots_from steeper [] U z i)

  -- ── the queue ──

  abbrev J : List Pt
  J = found w v s

  in_es : (z : Strand) → Among z (W ++ (M ++ E)) → Among z es
  in_es z i = ⊎_elim (λ j. (I.cut z (subst (Among z) parts (++-among z W R (inl j)))).is) (λ j. in_ME z j) (among-++ z W (M ++ E) i)
    where
      in_ME : (z : Strand) → Among z (M ++ E) → Among z es
      in_ME z j =
          ⊎_elim (λ k. ⊎_elim (λ r. (I.cut z (H-in z r.0)).is) (λ r. r.0) (M-from z (fan_from z k))) (λ k. (I.cut z (R-in z (E-in-R z k))).is) (among-++ z M E j)

  joint_low : (l r : List Strand) → ((z : Strand) → Among z l → Among z es) → ((z : Strand) → Among z r → Among z es) → (z : Pt) → Among z (joint v l r) → LowestP z
  joint_low l r cl cr z i =
      let k = joint_from v l r z i in
      (crossing-touch k.one.seg k.other.seg (S.rises k.one (cl k.one k.one_in)) (S.rises k.other (cr k.other k.other_in)) z k.found.is).lowest_p

  pub J-low : (z : Pt) → Among z J → LowestP z
  J-low z i =
      ⊎_elim (joint_low W (M ++ E) (λ z j. in_es z (++-among z W (M ++ E) (inl j))) (λ z j. in_es z (++-among z W (M ++ E) (inr j))) z)
      (joint_low M E (λ z j. in_es z (++-among z W (M ++ E) (inr (++-among z M E (inl j))))) (λ z j. in_es z (++-among z W (M ++ E) (inr (++-among z M E (inr j))))) z)
      (among-++ z (joint v W (M ++ E)) (joint v M E) i)

  rest_low : (z : Pt) → Among z rest → LowestP z
  rest_low z i = S.lowest_in z (I.left_in z (I.queue_in z (inr i))).0

  J-in : (z : Pt) → Among z (joint v W (M ++ E)) ⊎ Among z (joint v M E) → Among z Q
  J-in z i = put_has J rest J-low rest_low z (++-among z (joint v W (M ++ E)) (joint v M E) i)

  pub step-turn : Turn es v rest s W H E M Q
  step-turn = record {
    parts = ap (λ (l : List Strand). W ++ l) parts' ∙ parts;
    west_is = λ z i. neg_is (side v z) (lead_has (right v) s z i);
    through_is = λ z i. zer_is (side v z) (lead_has (on v) R z i);
    east_is = E-side;
    leaves = λ z i. M-from z (fan_from z i);
    stays = λ z i b. in_M z (inl (kept_has (the_goes_on v) z H i b));
    starts = λ z i b. in_M z (inr (starting_has es corners stops S p v vs (v ∷ rest) s I w L z i b));
    fanned = fan-pairs U U-up;
    queue-rising = put-rising J rest J-low rest_low I.queue-rising.1;
    queue_from = λ z i. ⊎_elim (λ j. inr (⊎_elim (λ k. inl (joint_from v W (M ++ E) z k)) (λ k. inr (joint_from v M E z k)) (among-++ z (joint v W (M ++ E)) (joint v M E) j))) (λ j. inl j) (put_from J rest z i);
    queue-keeps = put_keeps J rest;
    west-tested = joint-tested v W (M ++ E) Q (λ z i. J-in z (inl i));
    east-tested = joint-tested v M E Q (λ z i. J-in z (inr i));
  }

  pub stepped : State es corners stops v vs Q (status w v s)
  stepped = turned es corners stops S p v vs rest s I W H E M Q step-turn
