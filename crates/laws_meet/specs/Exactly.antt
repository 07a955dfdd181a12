-- No answer but `meeting s t` has its meaning (`means-only`), so that each answer is given exactly where it holds (`meeting_is`, `is_meeting`). Which edge is named first does not matter (`meeting-swap`).
-- Assumes nothing.
use Rattle.std.specs.Prelude.{◌≡◌, refl, ◌⊎◌}
use Rattle.std.proofs.Common.{sym, ◌∙◌, ap, subst, inl, inr}
use Rattle.exact.specs.Lowest.{Pt}
use Rattle.exact.specs.Tests.{clash as no_both}
use Rattle.paper.specs.Plane.{Seg}
use Rattle.laws_plane.specs.Cone.{UpV}
use Rattle.laws_plane.specs.Points.{same_neither, same_equal, same_before}
use Rattle.laws_plane.specs.Edges.{Inside, IsEnd, end_not_inside}
use Rattle.paper.specs.Meeting.{Meeting, touching, crossing as crossed, meeting}
use Rattle.laws_meet.specs.Means.{Only, Two, Means, is_separate, is_touching, is_crossed, is_sharing, meeting-means}

-- ── no answer but one ──

module _ (s t : Seg) where
  -- of two different points on both, one is not the only one
  only_two : (p : Pt) → Only s t p → Two s t → ⊥
  only_two p o w =
      let a = o.only w.low w.low_real w.low_first w.low_second in
      let b = o.only w.high w.high_real w.high_first w.high_second in
      no_both w.differ (same_before p w.low w.high o.lowest_p.positive w.low_real w.high_real a ∙ same_neither p w.high b)

  one : (p q : Pt) → Only s t p → Only s t q → p ≡ q
  one p q a b = same_equal p q a.lowest_p b.lowest_p (a.only q b.lowest_p.positive b.first b.second)

  -- what is an end of one is not inside both
  end-inside : (p q : Pt) → p ≡ q → IsEnd s p ⊎ IsEnd t p → Inside s q → Inside t q → ⊥
  end-inside p q e (inl a) i j = end_not_inside s p a (subst (Inside s) (sym e) i)
  end-inside p q e (inr a) i j = end_not_inside t p a (subst (Inside t) (sym e) j)

  -- by the two meanings
  same_answer : {m n : Meeting} → Means s t m → Means s t n → m ≡ n
  same_answer (is_separate f) (is_separate g) = refl
  same_answer (is_separate f) (is_touching q o e) = absurd (f q o.lowest_p.positive o.first o.second)
  same_answer (is_separate f) (is_crossed q o i j) = absurd (f q o.lowest_p.positive o.first o.second)
  same_answer (is_separate f) (is_sharing w) = absurd (f w.low w.low_real w.low_first w.low_second)
  same_answer (is_touching p o e) (is_separate f) = absurd (f p o.lowest_p.positive o.first o.second)
  same_answer (is_touching p o e) (is_touching q r f) = ap touching (one p q o r)
  same_answer (is_touching p o e) (is_crossed q r i j) = absurd (end-inside p q (one p q o r) e i j)
  same_answer (is_touching p o e) (is_sharing w) = absurd (only_two p o w)
  same_answer (is_crossed p o i j) (is_separate f) = absurd (f p o.lowest_p.positive o.first o.second)
  same_answer (is_crossed p o i j) (is_touching q r e) = absurd (end-inside q p (one q p r o) e i j)
  same_answer (is_crossed p o i j) (is_crossed q r k l) = ap crossed (one p q o r)
  same_answer (is_crossed p o i j) (is_sharing w) = absurd (only_two p o w)
  same_answer (is_sharing w) (is_separate f) = absurd (f w.low w.low_real w.low_first w.low_second)
  same_answer (is_sharing w) (is_touching q o e) = absurd (only_two q o w)
  same_answer (is_sharing w) (is_crossed q o i j) = absurd (only_two q o w)
  same_answer (is_sharing w) (is_sharing v) = refl

  pub means-only : (m n : Meeting) → Means s t m → Means s t n → m ≡ n
  means-only m n a b = same_answer a b

-- ── which is named first does not matter ──

only-swap : (s t : Seg) (p : Pt) → Only s t p → Only t s p
only-swap s t p o = record { lowest_p = o.lowest_p; first = o.second; second = o.first; only = λ q h a b. o.only q h b a }

end-swap : (s t : Seg) (p : Pt) → IsEnd s p ⊎ IsEnd t p → IsEnd t p ⊎ IsEnd s p
end-swap s t p (inl a) = inr a
end-swap s t p (inr a) = inl a

two_swap : (s t : Seg) → Two s t → Two t s
two_swap s t w = record {
  low = w.low;
  high = w.high;
  low_real = w.low_real;
  high_real = w.high_real;
  differ = w.differ;
  low_first = w.low_second;
  low_second = w.low_first;
  high_first = w.high_second;
  high_second = w.high_first;
}

turned : (s t : Seg) {m : Meeting} → Means s t m → Means t s m
turned s t (is_separate f) = is_separate (λ q h a b. f q h b a)
turned s t (is_touching p o e) = is_touching p (only-swap s t p o) (end-swap s t p e)
turned s t (is_crossed p o i j) = is_crossed p (only-swap s t p o) j i
turned s t (is_sharing w) = is_sharing (two_swap s t w)

pub means-swap : (s t : Seg) (m : Meeting) → Means s t m → Means t s m
means-swap s t m h = turned s t h

-- ── exactly ──

module _ (s t : Seg) (us : UpV s.up) (ut : UpV t.up) where
  pub meeting_is : (m : Meeting) → meeting s t ≡ m → Means s t m
  meeting_is m e = subst (Means s t) e (meeting-means s t us ut)

  pub is_meeting : (m : Meeting) → Means s t m → meeting s t ≡ m
  is_meeting m h = means-only s t (meeting s t) m (meeting-means s t us ut) h

  pub meeting-swap : meeting s t ≡ meeting t s
  meeting-swap = is_meeting (meeting t s) (means-swap t s (meeting t s) (meeting-means t s ut us))
