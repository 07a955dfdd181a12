-- All that comes out of mending is determined by its promise: two answers with two files and two lists that keep it are one. Assumes nothing.
use Rattle.std.specs.Prelude.{◌≡◌, refl, Result, Ok, Err}
use Rattle.std.proofs.Common.{sym, ◌∙◌, ap}
use Rattle.seq.specs.Seq.{List, ℕ}
use Rattle.seq.specs.Unique.{determined}
use Rattle.paper.specs.Refusal.{Answer, done, refused}
use Rattle.paper.specs.Mend as paper
use Rattle.paper.specs.Mend.{mend}
use Rattle.mend.specs.declared.answer.Mending.{Mending}
use Rattle.map_file.specs.declared.refusal.Refusal as code
use Rattle.mend.specs.Answers.{answer_of, mending_of}

abbrev answer_back : Answer (ℕ × ℕ) → Result Mending code.Refusal
answer_back (done m) = Ok (record { length = m.0; entries = m.1 })
answer_back (refused r) = Err (record { number = r.number; map = r.map; place = r.place; other = r.other })

there_and_back : (a : Result Mending code.Refusal) → answer_back (answer_of a) ≡ a
there_and_back (Ok m) = refl
there_and_back (Err r) = refl

pub answer-once : (a b : Result Mending code.Refusal) → answer_of a ≡ answer_of b → a ≡ b
answer-once a b e = sym (there_and_back a) ∙ ap answer_back e ∙ there_and_back b

pub mend-unique : (n l : ℕ) (s : List ℕ) (a b : Result Mending code.Refusal) (f g x y : List ℕ) → mending_of a f x ≡ mend n l s → mending_of b g y ≡ mend n l s → (a ≡ b) × (f ≡ g) × (x ≡ y)
mend-unique n l s a b f g x y e h =
    let d = determined (mend n l) s (mending_of a f x) (mending_of b g y) e h in
    (answer-once a b (ap (λ (m : paper.Mending). m.answer) d), ap (λ (m : paper.Mending). m.file) d, ap (λ (m : paper.Mending). m.list) d)
