-- What the writer and the reader accept, as facts: false-or refuses exactly where these hold (`write_is`, `is_write`, `read_is`, `is_read`). Of a version's layout, and of
-- tables of n maps. Assumes nothing.
use Rattle.std.specs.Prelude.{◌≡◌, ◌<◌, ◌≤◌, ◌||◌, ◌∷◌, ◌++◌}
use Rattle.std.proofs.Common.{ap, arith, ltb-false, le-ltb, eqb-true, eq-eqb, ne_eqb}
use Rattle.std.proofs.lemmas.Bool.{eqb-false}
use Rattle.seq.specs.Seq.{Bool, true, not, List, [], Option, none, ℕ, length, ltb, eqb}
use Rattle.seq.specs.Tests.{or_false, false_or, was-true}
use Rattle.paper.specs.Limits.{overlay_head}
use Rattle.paper.specs.Bytes.{ascii, marked, u16}
use Rattle.paper.specs.Refusal.{Refusal, given, first_at}
use Rattle.paper.specs.Tables.{Counts, Tables}
use Rattle.paper.specs.Lent.{Lengths, room_in, room_faults}
use Rattle.paper.specs.Ovfile.{Layout, file_length, sound_edge, over}
use Rattle.paper.specs.Writer.{bad_vertex, bad_edge, write_fault}
use Rattle.paper.specs.Reader.{counts_in, numbers, head_faults, read_fault}
use Rattle.laws_roundtrip.specs.Sound.{SoundEdge, sound_is, is_sound, GoodEdge, edge_is, is_edge, GoodVertex, vertex_is, is_vertex}
use Rattle.laws_refusals.specs.Refusals.{nothing, is_nothing, given_none, none_given, least_none_is, none_least}
use Rattle.laws_refusals.specs.Room.{Fits, not_over, over_not}

-- ── the writer, into a buffer of n bytes ──

pub record Writes (l : Layout) (n : ℕ) (ls : Lengths) (c : Counts) (t : Tables) : Type 0 where
  pub room : Fits (room_in l.maps ls) c
  pub vertex : (v : ℕ) → v < c.vertices → GoodVertex l c t v
  pub edge : (k : ℕ) → k < c.edges → GoodEdge l.maps c t k
  pub enough : file_length l c ≤ n

module _ (l : Layout) (n : ℕ) (ls : Lengths) (c : Counts) (t : Tables) where
  abbrev write_rules : List (Option Refusal)
  write_rules = given 3 0 (over (room_in l.maps ls) c) ∷ first_at 5 (bad_vertex l c t) c.vertices ∷ first_at 21 (bad_edge l.maps c t) c.edges ∷ given 11 4 (ltb n (file_length l c)) ∷ []

  pub write_is : write_fault l n ls c t ≡ none → Writes l n ls c t
  write_is e =
      let (a, (b, (d, (f, _)))) = nothing write_rules e in
      record {
        room = not_over (room_in l.maps ls) c (given_none 3 0 (over (room_in l.maps ls) c) a);
        vertex = λ v m. vertex_is l c t v (least_none_is 5 (bad_vertex l c t) c.vertices b v m);
        edge = λ k m. edge_is l.maps c t k (least_none_is 21 (bad_edge l.maps c t) c.edges d k m);
        enough = ltb-false n (file_length l c) (given_none 11 4 (ltb n (file_length l c)) f);
      }

  pub is_write : Writes l n ls c t → write_fault l n ls c t ≡ none
  is_write W = is_nothing write_rules (
    none_given 3 0 (over (room_in l.maps ls) c) (over_not (room_in l.maps ls) c W.room),
    (
      none_least 5 (bad_vertex l c t) c.vertices (λ v m. is_vertex l c t v (W.vertex v m)),
      (
        none_least 21 (bad_edge l.maps c t) c.edges (λ k m. is_edge l.maps c t k (W.edge k m)),
        (none_given 11 4 (ltb n (file_length l c)) (le-ltb n (file_length l c) W.enough), tt),
      ),
    ),
  )

-- ── the reader, of so many versions ──

pub record Reads (n versions : ℕ) (l : Layout) (ls : Lengths) (s : List ℕ) (t : Tables) : Type 0 where
  pub long : overlay_head ≤ length s
  pub mark : marked (ascii "ZOV") s 0 ≡ true
  pub version : 0 < u16 s 3
  pub known : u16 s 3 ≤ versions
  pub within : Fits numbers (counts_in s)
  pub exact : length s ≡ file_length l (counts_in s)
  pub sound : (k : ℕ) → k < (counts_in s).edges → SoundEdge n (counts_in s) t k
  pub room : Fits (room_in n ls) (counts_in s)

module _ (n versions : ℕ) (l : Layout) (ls : Lengths) (s : List ℕ) (t : Tables) where
  abbrev c : Counts
  c = counts_in s

  abbrev has : Bool
  has = marked (ascii "ZOV") s 0

  abbrev unsound : ℕ → Bool
  unsound k = not (sound_edge n c t k)

  abbrev right : Bool
  right = eqb (length s) (file_length l c)

  abbrev read_rules : List (Option Refusal)
  read_rules = head_faults versions l s ++ (first_at 21 unsound c.edges ∷ room_faults (room_in n ls) c)

  pub read_is : read_fault n versions l ls s t ≡ none → Reads n versions l ls s t
  read_is e =
      let (m, (v, (o, (x, (u, (rv, (re, (rf, _)))))))) = nothing read_rules e in
      let (ml, mm) = or_false (ltb (length s) overlay_head) (not has) (given_none 1 0 (ltb (length s) overlay_head || not has) m) in
      let (vz, vk) = or_false (eqb (u16 s 3) 0) (ltb versions (u16 s 3)) (given_none 2 0 (eqb (u16 s 3) 0 || ltb versions (u16 s 3)) v) in
      record {
        long = ltb-false (length s) overlay_head ml;
        mark = was-true has mm;
        version = omega (arith, eqb-false (u16 s 3) 0 vz);
        known = ltb-false versions (u16 s 3) vk;
        within = not_over numbers c (given_none 3 0 (over numbers c) o);
        exact = eqb-true (length s) (file_length l c) (was-true right (given_none 4 0 (not right) x));
        sound = λ k b. sound_is n c t k (was-true (sound_edge n c t k) (least_none_is 21 unsound c.edges u k b));
        room = record {
          vertices = ltb-false (room_in n ls).vertices c.vertices (given_none 11 1 (ltb (room_in n ls).vertices c.vertices) rv);
          edges = ltb-false (room_in n ls).edges c.edges (given_none 11 2 (ltb (room_in n ls).edges c.edges) re);
          faces = ltb-false (room_in n ls).faces c.faces (given_none 11 3 (ltb (room_in n ls).faces c.faces) rf);
        };
      }

  pub is_read : Reads n versions l ls s t → read_fault n versions l ls s t ≡ none
  is_read R = is_nothing read_rules (
    none_given 1 0 (ltb (length s) overlay_head || not has) (false_or (le-ltb (length s) overlay_head R.long) (ap not R.mark)),
    (
      none_given 2 0 (eqb (u16 s 3) 0 || ltb versions (u16 s 3)) (false_or (ne_eqb (u16 s 3) 0 (λ z. omega (arith, R.version))) (le-ltb versions (u16 s 3) R.known)),
      (
        none_given 3 0 (over numbers c) (over_not numbers c R.within),
        (
          none_given 4 0 (not right) (ap not (eq-eqb (length s) (file_length l c) R.exact)),
          (
            none_least 21 unsound c.edges (λ k b. ap not (is_sound n c t k (R.sound k b))),
            (
              none_given 11 1 (ltb (room_in n ls).vertices c.vertices) (le-ltb (room_in n ls).vertices c.vertices R.room.vertices),
              (
                none_given 11 2 (ltb (room_in n ls).edges c.edges) (le-ltb (room_in n ls).edges c.edges R.room.edges),
                (none_given 11 3 (ltb (room_in n ls).faces c.faces) (le-ltb (room_in n ls).faces c.faces R.room.faces), tt),
              ),
            ),
          ),
        ),
      ),
    ),
  )
