-- The loop over the stops: what it starts from (`Begun`), keeps (`Looping`) and ends with (`loop_ends`, `loop-stops`); what the sweep asks of the tables (`Given`), the stops by the
-- definition (`stops_in`) and what it answers (`SweptTo`). Assumes nothing.
use Rattle.std.specs.Prelude.{◌≡◌, refl, ◌≤◌, ◌<◌, ◌+◌, ◌-◌, ◌*◌}
use Rattle.std.proofs.Common.{sym, ◌∙◌, ap, subst, arith}
use Rattle.seq.specs.Seq.{List, [], ℤ, ℕ, length, table, row_stored}
use Rattle.seq.specs.Search.{Steady}
use Rattle.seq.specs.Slotted.{slots}
use Rattle.paper.specs.Limits.{maps}
use Rattle.paper.specs.Plane.{Pt, before, on_seg}
use Rattle.paper.specs.Pieces.{the_in_order}
use Rattle.graph.specs.Flat.{Points, Carriers, Numbers, the_point_at, carrier_at}
use Rattle.overlay_cut.specs.Capped.{Cap, cap-le, put_all_cap}
use Rattle.overlay_cut.specs.Rooms.{vertex_rows}
use Rattle.overlay_cut.specs.Points.{points_of, point_row}
use Rattle.overlay_cut.specs.Threads.{ThreadedIf}
use Rattle.laws_sweep.specs.Sweep.{sooner, sweep}
use Rattle.laws_sweep.specs.Scene.{Scene}
use Rattle.overlay_sweep.specs.Numbers.{numbers_in}
use Rattle.overlay_sweep.specs.Falling.{length-falling}
use Rattle.overlay_sweep.specs.Queue.{queue_of}
use Rattle.overlay_sweep.specs.Ahead.{Room, Queued}
use Rattle.overlay_sweep.specs.Sides.{right_at, sooner_at}
use Rattle.overlay_sweep.specs.Turned.{fan_room, Ready, Turned}
use Rattle.overlay_sweep.specs.Meets.{Meets}
use Rattle.overlay_sweep.specs.Threading.{Threading, Spun, spun_turns}
use Rattle.overlay_sweep.specs.Between.{edges_in, Outcome, Between, between_turns, between_steady, between_met, between_starts, between_ends, between_stops}

-- ── the loop ──

-- before the first stop
pub record Begun (cs : List ℤ) (e : ℕ) (starts : List ℕ) (cr : List ℤ) (k : ℕ) (ws st fan : List ℕ) (t out : List ℤ) (n : ℕ) : Type 0 where
  pub stops : List Pt
  pub scene : Scene (edges_in cs e starts) (the_in_order (points_of cr k)) stops
  pub ready : Ready cs e starts ws st fan 0 0
  pub waits_is : numbers_in ws e ≡ slots (sooner_at cs) [] (table (λ i. i) e)
  pub room : Room t n
  pub out_room : 4 * vertex_rows ≤ length out
  pub rows : Cap vertex_rows (queue_of t n) (the_in_order (points_of cr k))

pub record Looping (cs : List ℤ) (e : ℕ) (starts : List ℕ) (cr : List ℤ) (k : ℕ) (ws st₀ st fan₀ fan : List ℕ) (t₀ t out₀ out : List ℤ) (c w n i : ℕ) : Type 0 where
  pub stops : List Pt
  pub scene : Scene (edges_in cs e starts) (the_in_order (points_of cr k)) stops
  pub ready : Ready cs e starts ws st fan c w
  pub room : Room t n
  pub few : i < vertex_rows
  pub out_room : 4 * vertex_rows ≤ length out
  pub kept_s : length st ≡ length st₀
  pub kept_f : length fan ≡ length fan₀
  pub kept_t : length t ≡ length t₀
  pub kept_o : length out ≡ length out₀
  pub between : Between cs e starts (the_in_order (points_of cr k)) stops scene ws st c w t n out i

module _ {cs : List ℤ} {e : ℕ} {starts : List ℕ} {cr : List ℤ} {k : ℕ} {ws : List ℕ} where
  pub loop_starts : (st fan : List ℕ) (t out : List ℤ) (n : ℕ) → Begun cs e starts cr k ws st fan t out n → Looping cs e starts cr k ws st st fan fan t t out out 0 0 n 0
  loop_starts st fan t out n B = record {
    stops = B.stops;
    scene = B.scene;
    ready = B.ready;
    room = B.room;
    few = omega arith;
    out_room = B.out_room;
    kept_s = refl;
    kept_f = refl;
    kept_t = refl;
    kept_o = refl;
    between = between_starts cs e starts (the_in_order (points_of cr k)) B.stops B.scene ws st t n out B.waits_is B.rows;
  }

  module _ {st₀ st fan₀ fan : List ℕ} {t₀ t out₀ out : List ℤ} {c w n i : ℕ} (L : Looping cs e starts cr k ws st₀ st fan₀ fan t₀ t out₀ out c w n i) where
    pub loop-known : n ≤ vertex_rows
    loop-known = omega (arith, cap-le L.between.rows, length-falling (the_point_at t) n)

    pub loop-steady : n < vertex_rows → 0 < n → Steady (right_at cs st (the_point_at t (n - 1))) c
    loop-steady few h = between_steady cs e starts (the_in_order (points_of cr k)) L.stops L.scene ws st c w t n out i few h L.between

    pub loop_turns : n + i < vertex_rows → 0 < n → (p : Pt) → p ≡ the_point_at t (n - 1) → (st' fan' : List ℕ) (c' w' : ℕ) (u out' : List ℤ) (n' : ℕ) → Turned cs e starts p ws st c w t (n - 1) st' c' w' u n' → out' ≡ row_stored 4 out i (point_row p)
        → length st' ≡ length st → length fan' ≡ length fan → length u ≡ length t → length out' ≡ length out → Looping cs e starts cr k ws st₀ st' fan₀ fan' t₀ u out₀ out' c' w' n' (i + 1)
    loop_turns few h p f st' fan' c' w' u out' n' T o a b d g =
        let r = L.ready in
        let room = r.room in let fan_room_lem = r.fan_room_lem in let out_room = L.out_room in
        record {
          stops = L.stops;
          scene = L.scene;
          ready = record {
            carriers = r.carriers;
            waits = r.waits;
            named = T.named;
            fewer = T.fewer;
            started = T.started;
            room = omega arith;
            fan_room_lem = omega arith;
            starts_long = r.starts_long;
            few = r.few;
          };
          room = T.points_is.rows;
          few = omega arith;
          out_room = omega arith;
          kept_s = a ∙ L.kept_s;
          kept_f = b ∙ L.kept_f;
          kept_t = d ∙ L.kept_t;
          kept_o = g ∙ L.kept_o;
          between = between_turns cs e starts (the_in_order (points_of cr k)) L.stops L.scene ws st st' c w c' w' t u n n' out i (omega arith) h (omega arith) p f T out' o L.between;
        }

    -- stop i is on the edges that the tables have there, so it joins their threads
    pub loop-spins : n + i < vertex_rows → 0 < n → (p : Pt) → p ≡ the_point_at t (n - 1) → {room : ℕ} {last₀ last ns₀ ns : List ℕ} {m : ℕ} → Spun cs e room last₀ last ns₀ ns out m i → {s : ℕ} {last' ns' : List ℕ} {m' : ℕ}
        → Threading cs e room i ws st p c w s last ns m last' ns' m' → (out' : List ℤ) → out' ≡ row_stored 4 out i (point_row p) → length last' ≡ length last → length ns' ≡ length ns → Spun cs e room last₀ last' ns₀ ns' out' m' (i + 1)
    loop-spins few h p f {room} {last₀} {last} {ns₀} {ns} {m} U {s} {last'} {ns'} {m'} T out' o a b =
        spun_turns U T (omega (arith, L.few, L.out_room))
        (λ j l. between_met cs e starts (the_in_order (points_of cr k)) L.stops L.scene ws st c w t n out i (omega arith) h T.from T.to s (subst (λ (x : Pt). Meets cs e ws st x c w T.from T.to s) f T.meets) j l L.between
        ∙ ap (on_seg (carrier_at cs j)) (sym f)) out' o a b

    pub loop_ends : n ≤ 0 → Outcome (sweep vertex_rows (slots sooner [] (edges_in cs e starts)) (the_in_order (points_of cr k)) []) out i
    loop_ends h = between_ends cs e starts (the_in_order (points_of cr k)) L.stops L.scene ws L.between h L.few

    pub loop-stops : vertex_rows ≤ n + i → Outcome (sweep vertex_rows (slots sooner [] (edges_in cs e starts)) (the_in_order (points_of cr k)) []) out vertex_rows
    loop-stops h = between_stops cs e starts (the_in_order (points_of cr k)) L.stops L.scene ws L.between h

-- ── all of it ──

-- the stops by the definition, as many as the table has rows
abbrev pub stops_in : List ℤ → ℕ → List ℕ → List ℤ → ℕ → List Pt
stops_in cs e starts cr k = sweep vertex_rows (slots sooner [] (edges_in cs e starts)) (the_in_order (points_of cr k)) []

-- what the sweep answers: the stops, and the threads of the edges
pub record SweptTo (cs : List ℤ) (e : ℕ) (starts : List ℕ) (cr : List ℤ) (k room : ℕ) (out : List ℤ) (r : ℕ) (last ns : List ℕ) (m : ℕ) : Type 0 where
  pub stops : Outcome (stops_in cs e starts cr k) out r
  pub threads : ThreadedIf out cs e last ns room m r

-- what the sweep asks of the tables
pub record Given (cs : List ℤ) (e : ℕ) (starts : List ℕ) (cr : List ℤ) (k : ℕ) (out : List ℤ) : Type 0 where
  pub stops : List Pt
  pub scene : Scene (edges_in cs e starts) (the_in_order (points_of cr k)) stops
  pub carriers : Carriers cs e
  pub corners : Points cr k
  pub starts_long : maps < length starts
  pub few : e ≤ fan_room
  pub room : 4 * vertex_rows ≤ length out

pub begun : (cs : List ℤ) (e : ℕ) (starts : List ℕ) (cr : List ℤ) (k : ℕ) (out : List ℤ) → Given cs e starts cr k out → (ws st fan : List ℕ) → Numbers ws e e → numbers_in ws e ≡ slots (sooner_at cs) [] (table (λ i. i) e)
    → length st ≡ fan_room → length fan ≡ fan_room → (t₀ t : List ℤ) (n : ℕ) → Queued (points_of cr k) t₀ 0 t n → Begun cs e starts cr k ws st fan t out n
begun cs e starts cr k out G ws st fan N W l m t₀ t n Q =
    let few = G.few in
    record {
      stops = G.stops;
      scene = G.scene;
      ready = record {
        carriers = G.carriers;
        waits = N;
        named = record { long = omega arith; named = λ i h. absurd (omega arith) };
        fewer = omega arith;
        started = omega arith;
        room = omega arith;
        fan_room_lem = omega arith;
        starts_long = G.starts_long;
        few = few;
      };
      waits_is = W;
      room = Q.rows;
      out_room = G.room;
      rows = subst (λ (x : List Pt). Cap vertex_rows x (the_in_order (points_of cr k))) (sym Q.is) (put_all_cap before (λ q r. r) vertex_rows (points_of cr k));
    }
