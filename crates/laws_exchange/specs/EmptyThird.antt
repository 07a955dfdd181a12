-- "The two-map overlay is the one with an empty third map, third labels all 0" (02, Ask 13), from the overlay's promise alone (`Promised`, crates/tables/specs/Promise.antt): what comes out for two files, r and t, and what
-- comes out for the same two with the empty map third, q and u, in tables with the same room (`SameRoom`; for every lengths there are such, `narrower_room`). The definition's side: TwoMaps of laws_orders. Assumes nothing.
use Rattle.std.specs.Prelude.{◌≡◌, ◌∷◌, ◌++◌}
use Rattle.std.proofs.Common.{sym, ◌∙◌, ap, subst}
use Rattle.seq.specs.Seq.{List, [], ℕ}
use Rattle.paper.specs.Refusal.{Refusal, done, refused}
use Rattle.paper.specs.Sample.{empty_file}
use Rattle.paper.specs.Tables.{Counts, Tables}
use Rattle.paper.specs.Lent.{Lengths, Outcome, zero_tables}
use Rattle.paper.specs.Overlay.{lent}
use Rattle.laws_orders.specs.TwoMaps as laws
use Rattle.laws_orders.specs.TwoMaps.{SameRoom, OneMore}
use Rattle.laws_orders.proofs.TwoMaps.{two_maps}
use Rattle.laws_promise.specs.Demands.{pair_for}
use Rattle.tables.specs.Answers as code
use Rattle.tables.specs.Values.{answer_of}
use Rattle.tables.specs.Promise.{Promised}

-- of the files a and b: r and t come out of the two-map overlay, in tables of the lengths k; q and u of the three-map overlay with an empty third map, in tables of the lengths l
pub record EmptyThird (k l : Lengths) (a b : List ℕ) (r q : code.Answer) (t u : Tables) : Type 0 where
  -- the same answer, counts or refusal
  pub answers : answer_of q ≡ answer_of r
  -- the same vertices and half-edges, whole tables
  pub vertices : u.vertices ≡ t.vertices
  pub halves : u.halves ≡ t.halves
  -- where it is done, in each row of sources and of faces one cell more, 0
  pub cells : (c : Counts) → answer_of r ≡ done c → OneMore 2 c t u
  -- "third labels all 0": those of a half-edge, and one more
  pub labels : (h : ℕ) → pair_for (a ∷ b ∷ empty_file ∷ []) h ≡ pair_for (a ∷ b ∷ []) h ++ (0 ∷ [])
  -- where it is refused, zeros
  pub zeros : (x : Refusal) → answer_of r ≡ refused x → (t ≡ zero_tables k) × (u ≡ zero_tables l)

module _ (k l : Lengths) (R : SameRoom 2 k l) (a b : List ℕ) (r q : code.Answer) (t u : Tables) (two : Promised k (a ∷ b ∷ []) r t) (three : Promised l (a ∷ b ∷ empty_file ∷ []) q u) where
  T : laws.TwoMaps k l a b
  T = two_maps k l R a b

  answer_two : answer_of r ≡ (lent k (a ∷ b ∷ [])).answer
  answer_two = ap (λ (o : Outcome). o.answer) two

  answer_three : answer_of q ≡ (lent l (a ∷ b ∷ empty_file ∷ [])).answer
  answer_three = ap (λ (o : Outcome). o.answer) three

  tables_two : t ≡ (lent k (a ∷ b ∷ [])).tables
  tables_two = ap (λ (o : Outcome). o.tables) two

  tables_three : u ≡ (lent l (a ∷ b ∷ empty_file ∷ [])).tables
  tables_three = ap (λ (o : Outcome). o.tables) three

  pub empty-third : EmptyThird k l a b r q t u
  empty-third = record {
    answers = answer_three ∙ T.answers ∙ sym answer_two;
    vertices = ap (λ (x : Tables). x.vertices) tables_three ∙ T.vertices ∙ sym (ap (λ (x : Tables). x.vertices) tables_two);
    halves = ap (λ (x : Tables). x.halves) tables_three ∙ T.halves ∙ sym (ap (λ (x : Tables). x.halves) tables_two);
    cells = λ c e.
        subst (λ (x : Tables). OneMore 2 c x u) (sym tables_two) (subst (λ (x : Tables). OneMore 2 c (lent k (a ∷ b ∷ [])).tables x) (sym tables_three) (T.cells c (sym answer_two ∙ e)));
    labels = T.labels;
    zeros = λ x e. let z = T.zeros x (sym answer_two ∙ e) in (tables_two ∙ z.0, tables_three ∙ z.1);
  }
