-- "Ask 11 then holds for every order of the maps" (02, Ask 13): the six orders of three map files (`Order`, `arranged`), each an order as AnyOrder asks for it (`six-orders`), so that everything there holds of each (`ThreeExchanged`, `every-order`). Then two maps
-- handed in the other way round, with the empty map third, in the customer's words (`TwoExchanged`, `two_exchanged`). Assumes nothing.
use Rattle.std.specs.Prelude.{◌≡◌, ◌<◌, ◌∷◌}
use Rattle.seq.specs.Seq.{List, [], ℕ, suc, get_or}
use Rattle.paper.specs.Limits.{maps}
use Rattle.paper.specs.Refusal.{Refusal, done, refused}
use Rattle.paper.specs.Map.{check}
use Rattle.paper.specs.Tables.{Counts, Tables}
use Rattle.paper.specs.Lent.{Lengths, zero_tables}
use Rattle.laws_orders.specs.Orders.{named}
use Rattle.laws_orders.specs.FromCheck.{Good, AllGood, FirstBad}
use Rattle.tables.specs.Answers as code
use Rattle.tables.specs.Values.{answer_of}
use Rattle.laws_exchange.specs.AnyOrder.{Exchanged, JustBad}

-- ── three files ──

-- by which of the files a, b and c is handed in first, second and third
pub data Order : Type 0 where
  abc : Order
  acb : Order
  bac : Order
  bca : Order
  cab : Order
  cba : Order

abbrev pub arranged : Order → List ℕ → List ℕ → List ℕ → List (List ℕ)
arranged abc a b c = a ∷ b ∷ c ∷ []
arranged acb a b c = a ∷ c ∷ b ∷ []
arranged bac a b c = b ∷ a ∷ c ∷ []
arranged bca a b c = b ∷ c ∷ a ∷ []
arranged cab a b c = c ∷ a ∷ b ∷ []
arranged cba a b c = c ∷ b ∷ a ∷ []

-- x for 0, y for 1, z for 2
abbrev pub placed : ℕ → ℕ → ℕ → ℕ → ℕ
placed x y z i = get_or (x ∷ y ∷ z ∷ []) i 0

-- where a, b and c stand then
abbrev pub place_in : Order → ℕ → ℕ
place_in abc = placed 0 1 2
place_in acb = placed 0 2 1
place_in bac = placed 1 0 2
place_in bca = placed 2 0 1
place_in cab = placed 1 2 0
place_in cba = placed 2 1 0

-- and which of them stands first, second and third
abbrev pub stands_in : Order → ℕ → ℕ
stands_in abc = placed 0 1 2
stands_in acb = placed 0 2 1
stands_in bac = placed 1 0 2
stands_in bca = placed 1 2 0
stands_in cab = placed 2 0 1
stands_in cba = placed 2 1 0

-- three maps handed in in the order o: r and t come out of a, b and c, s and u of the other order, in lent tables of the same lengths l
pub record ThreeExchanged (l : Lengths) (a b c : List ℕ) (o : Order) (r s : code.Answer) (t u : Tables) : Type 0 where
  pub answers : AllGood (a ∷ b ∷ c ∷ []) → answer_of s ≡ answer_of r
  pub same : (n : Counts) → answer_of r ≡ done n → (answer_of s ≡ done n) × Exchanged maps (place_in o) n t u
  pub room : (q : Refusal) → answer_of r ≡ refused q → q.number ≡ 11 → (answer_of s ≡ refused q) × (t ≡ zero_tables l) × (u ≡ zero_tables l)
  pub one_bad : (i : ℕ) (q : Refusal) → JustBad (a ∷ b ∷ c ∷ []) i q →
      (answer_of r ≡ refused (named (suc i) q)) × (answer_of s ≡ refused (named (suc (place_in o i)) q)) × (t ≡ zero_tables l) × (u ≡ zero_tables l)
  pub several_bad : (i j : ℕ) (q p : Refusal) → FirstBad (a ∷ b ∷ c ∷ []) i q → FirstBad (arranged o a b c) j p →
      (answer_of r ≡ refused (named (suc i) q)) × (answer_of s ≡ refused (named (suc j) p)) × (t ≡ zero_tables l) × (u ≡ zero_tables l)

-- ── two files, the third map empty ──

-- "Two offices load the maps in opposite order": r and t come out of a, b and the empty map, s and u of b, a and the empty map, in lent tables of the same lengths l
pub record TwoExchanged (l : Lengths) (a b : List ℕ) (r s : code.Answer) (t u : Tables) : Type 0 where
  -- "For two valid maps and the same room": the same answer
  pub answers : Good a → Good b → answer_of s ≡ answer_of r
  -- "exchanging them must give the same vertices, followers and faces, with only the sources and the labels of each pair exchanged": 0 for 1 and 1 for 0
  pub same : (c : Counts) → answer_of r ≡ done c → (answer_of s ≡ done c) × Exchanged maps (place_in bac) c t u
  -- "a refusal for room is the same too"
  pub room : (q : Refusal) → answer_of r ≡ refused q → q.number ≡ 11 → (answer_of s ≡ refused q) × (t ≡ zero_tables l) × (u ≡ zero_tables l)
  -- "If just one map is bad, the refusal names the other map number"
  pub first_bad : (q : Refusal) → check a ≡ refused q → Good b → (answer_of r ≡ refused (named 1 q)) × (answer_of s ≡ refused (named 2 q)) × (t ≡ zero_tables l) × (u ≡ zero_tables l)
  pub second-bad : (q : Refusal) → Good a → check b ≡ refused q → (answer_of r ≡ refused (named 2 q)) × (answer_of s ≡ refused (named 1 q)) × (t ≡ zero_tables l) × (u ≡ zero_tables l)
  -- "and if both are bad the first one handed in is named"
  pub both_bad : (q p : Refusal) → check a ≡ refused q → check b ≡ refused p → (answer_of r ≡ refused (named 1 q)) × (answer_of s ≡ refused (named 1 p)) × (t ≡ zero_tables l) × (u ≡ zero_tables l)
