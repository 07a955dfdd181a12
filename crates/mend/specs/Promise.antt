-- What 02 says of mending, over what comes out in the lent file and the lent list of any operation that keeps the promise: f and x of n bytes and l numbers, with the
-- answer m. Refused, all is zero; a file that passes the check comes out the same; done, the mended file is refused with 8 or 10 or not at all, mending it again
-- changes nothing, and the list tells all. Assumes nothing.
use Rattle.std.specs.Prelude.{◌≡◌, ◌⊎◌, ◌≤◌, ◌∷◌, Result}
use Rattle.std.proofs.Common.{sym, ◌∙◌, ap, subst}
use Rattle.seq.specs.Seq.{List, [], none, some, ℕ, length, take, gather, padded}
use Rattle.paper.specs.Map.{map_of, fault}
use Rattle.paper.specs.Mend as paper
use Rattle.paper.specs.Mend.{mend, entries}
use Rattle.paper.specs.Refusal.{Refusal, done, refused}
use Rattle.laws_file.specs.Bytes.{Bytes}
use Rattle.laws_mend.specs.Mends.{Mends}
use Rattle.laws_mend.specs.Outcome.{passes-mend, refused-zero, done-list, done-count, mend-again}
use Rattle.laws_mend.proofs.Outcome.{done-refusal, done-mends}
use Rattle.mend.specs.declared.answer.Mending.{Mending}
use Rattle.map_file.specs.declared.refusal.Refusal as code
use Rattle.mend.specs.Answers.{answer_of, mending_of}

-- the operation's promise
abbrev pub Promised : ℕ → ℕ → List ℕ → Result Mending code.Refusal → List ℕ → List ℕ → Type 0
Promised n l s m f x = mending_of m f x ≡ mend n l s

module _ (n l : ℕ) (s : List ℕ) (m : Result Mending code.Refusal) (f x : List ℕ) (promise : Promised n l s m f x) where
  file_is : f ≡ (mend n l s).file
  file_is = ap (λ (o : paper.Mending). o.file) promise

  list_is : x ≡ (mend n l s).list
  list_is = ap (λ (o : paper.Mending). o.list) promise

  answer_is : (mend n l s).answer ≡ answer_of m
  answer_is = sym (ap (λ (o : paper.Mending). o.answer) promise)

  -- "with file and list left all zero"
  pub refused_is-zero : (r : Refusal) → answer_of m ≡ refused r → (f ≡ padded 0 n []) × (x ≡ padded 0 l [])
  refused_is-zero r e =
      let z = refused-zero n l s r (answer_is ∙ e) in
      (file_is ∙ ap (λ (o : paper.Mending). o.file) z, list_is ∙ ap (λ (o : paper.Mending). o.list) z)

  -- every number of the file is a byte
  module _ (B : Bytes s) where
    -- "A file that passes the check comes out byte for byte the same with an empty list"
    pub passed_is_same : fault s ≡ none → length s ≤ n → (answer_of m ≡ done (length s, 0)) × (f ≡ padded 0 n s) × (x ≡ padded 0 l [])
    passed_is_same e h =
        let z = passes-mend n l s B e h in
        (sym answer_is ∙ ap (λ (o : paper.Mending). o.answer) z, file_is ∙ ap (λ (o : paper.Mending). o.file) z, list_is ∙ ap (λ (o : paper.Mending). o.list) z)

    -- done, with a bytes and b entries
    module _ (a b : ℕ) (d : answer_of m ≡ done (a, b)) where
      -- "a mended file is never refused with 6, 7 or 9", nor with 1 to 5: with 8 or 10, or not at all
      pub mended-refusal : (fault (take a f) ≡ none) ⊎ ((r : Refusal) × (fault (take a f) ≡ some r) × ((r.number ≡ 8) ⊎ (r.number ≡ 10)))
      mended-refusal = subst (λ (t : List ℕ). (fault (take a t) ≡ none) ⊎ ((r : Refusal) × (fault (take a t) ≡ some r) × ((r.number ≡ 8) ⊎ (r.number ≡ 10)))) (sym file_is) (done-refusal n l s B a b (answer_is ∙ d))

      -- mending it again changes nothing and lists nothing
      pub mended-again : (j : ℕ) → mend n j (take a f) ≡ record { answer = done (a, 0); file = f; list = padded 0 j [] }
      mended-again j = subst (λ (t : List ℕ). mend n j (take a t) ≡ record { answer = done (a, 0); file = t; list = padded 0 j [] }) (sym file_is) (mend-again n l s B a b (answer_is ∙ d) j)

      -- the list has b entries, and with them the file is as 02 says: corners, labels and ends stay, and what is not listed is in the file
      pub mended-tells : (es : List (ℕ × ℕ)) × (length es ≡ b) × (x ≡ padded 0 l (gather (λ e. e.0 ∷ e.1 ∷ []) es)) × Mends s (take a f) es
      mended-tells = (
        entries (map_of s).graph,
        sym (done-count n l s B a b (answer_is ∙ d)),
        list_is ∙ done-list n l s B a b (answer_is ∙ d),
        subst (λ (t : List ℕ). Mends s (take a t) (entries (map_of s).graph)) (sym file_is) (done-mends n l s B a b (answer_is ∙ d)),
      )
