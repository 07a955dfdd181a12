-- Half-edges of tables whose edge records are all sound: origins and faces are below their counts, followers are below the half-edge count and none is taken twice. So each
-- half-edge is followed from exactly one, which is where it stands in the list of followers. Assumes nothing.
use Rattle.std.specs.Prelude.{◌≡◌, ◌<◌, ◌+◌, ◌*◌, ◌/◌, ◌%◌}
use Rattle.std.proofs.Common.{sym, ◌∙◌, ap, subst, arith}
use Rattle.std.proofs.Math.Decide.{dec_lt}
use Rattle.seq.specs.Seq.{List, ℕ, get_or, table, position}
use Rattle.seq.specs.Terms.{Injects}
use Rattle.seq.proofs.Perm.{onto}
use Rattle.seq.proofs.Position.{position_is}
use Rattle.seq.specs.Table.{length-table, table_at}
use Rattle.paper.specs.Tables.{origin_of, follower_of, predecessor_of, face_of, Counts, Tables}
use Rattle.laws_roundtrip.specs.Sound.{SoundHalf, SoundEdge, GoodHalf}

-- what holds of both half-edges of every edge holds of every half-edge
pub by_edges : (P : ℕ → Type 0) (n : ℕ) → ((k : ℕ) → k < n → P (2 * k)) → ((k : ℕ) → k < n → P (2 * k + 1)) → (h : ℕ) → h < 2 * n → P h
by_edges P n a b h l =
    elim (dec_lt (h % 2) 1) [
      | yes q ↦ let e : 2 * (h / 2) ≡ h = omega arith in subst P e (a (h / 2) (omega arith))
      | no q ↦ let e : 2 * (h / 2) + 1 ≡ h = omega arith in subst P e (b (h / 2) (omega arith))
    ]

module _ (n : ℕ) (c : Counts) (t : Tables) (S : (k : ℕ) → k < c.edges → SoundEdge n c t k) where
  pub origin_below : (h : ℕ) → h < 2 * c.edges → origin_of t h < c.vertices
  origin_below = by_edges (λ h. origin_of t h < c.vertices) c.edges (λ k b. omega (arith, (S k b).rises, (S k b).upper_below)) (λ k b. (S k b).upper_below)

  pub face_below : (h : ℕ) → h < 2 * c.edges → face_of t h < c.faces
  face_below = by_edges (λ h. face_of t h < c.faces) c.edges (λ k b. (S k b).left_face_lem) (λ k b. (S k b).right_face_lem)

  pub half-sound : (h : ℕ) → h < 2 * c.edges → SoundHalf c t h
  half-sound = by_edges (SoundHalf c t) c.edges (λ k b. (S k b).there) (λ k b. (S k b).back)

  -- no half-edge is taken twice
  pub followers_inject : Injects (follower_of t) (2 * c.edges)
  followers_inject = record {
    into = λ h l. (half-sound h l).below;
    once = λ x y l m e. elim (dec_lt x y) [
      | yes q ↦ absurd ((half-sound y m).first x q e)
      | no q ↦ elim (dec_lt y x) [ yes r ↦ absurd ((half-sound x l).first y r (sym e)) | no r ↦ omega arith ]
    ];
  }

  -- ── the list of followers ──

  abbrev followers_of : List ℕ
  followers_of = table (follower_of t) (2 * c.edges)

  module _ (h : ℕ) where
    -- what h follows is where it stands in the list
    stands-once : (k : ℕ) → k < 2 * c.edges → follower_of t k ≡ h → position h (table (follower_of t) (2 * c.edges)) ≡ k
    stands-once k l e =
        let at : (j : ℕ) → j < 2 * c.edges → get_or followers_of j 0 ≡ follower_of t j = λ j b. table_at (follower_of t) (2 * c.edges) j 0 b in
        position_is h followers_of k (omega (arith, length-table (follower_of t) (2 * c.edges))) (at k l ∙ e)
        (λ j b q. (half-sound k l).first j b (sym (at j (omega arith)) ∙ q ∙ sym e))

    -- the predecessor that the writer asks for is the one worked out
    pub predecessor-position : GoodHalf c t h → position h (table (follower_of t) (2 * c.edges)) ≡ predecessor_of t h
    predecessor-position G = stands-once (predecessor_of t h) G.predecessor_below G.forth

    module _ (l : h < 2 * c.edges) where
      -- and there is one
      pub position_below : position h (table (follower_of t) (2 * c.edges)) < 2 * c.edges
      position_below = let (k, b, e) = onto (follower_of t) (2 * c.edges) followers_inject h l in subst (λ (x : ℕ). x < 2 * c.edges) (sym (stands-once k b e)) b

      pub position-follows : follower_of t (position h (table (follower_of t) (2 * c.edges))) ≡ h
      position-follows = let (k, b, e) = onto (follower_of t) (2 * c.edges) followers_inject h l in ap (follower_of t) (stands-once k b e) ∙ e
