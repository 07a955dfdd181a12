-- `soundings::batch::add` meets its contract: what is refused or not sound stays as it is. Assumes nothing.
use mathlib.Core.Path.{◌≡◌, sym, ◌∙◌}
use Prim.Native.Nat.{◌*◌}
use native.Mathlib.Omega.{arith}
use borrow.Author.Rules.{rules}
use lib.ListN.{length}
use Rattle.seq.specs.Seq.{true}
use Rattle.paper.specs.Limits.{map_edges}
use Rattle.soundings.specs.Rows.{Rows}
use Rattle.soundings.specs.Sound.{sound}
use Rattle.soundings.specs.Fits.{sound-rows, sound_fits, stays-bad, stays-unsound, goes_on}
use Rattle.soundings.specs.declared.state.Count.{Count}
use Rattle.soundings.proofs.batch.add.Goals as goal
use Rattle.soundings.proofs.batch.add.Goals.{then-count-eq0+then-sound, else-count-eq0, else-count-eq0-via-then-count-eq0+else-sound, else-count-eq0-via-else-count-eq0}

-- the rows of both maps of a count that is sound
both : (x : Count) → length x.rails ≡ 4 * map_edges → length x.easts ≡ map_edges → length x.rails2 ≡ 4 * map_edges → length x.easts2 ≡ map_edges
    → sound x.rails x.edges x.rails2 x.edges2 x.labels x.counts x.progress ≡ true → Rows x.rails x.easts x.edges × Rows x.rails2 x.easts2 x.edges2
both x r e s f h =
    sound-rows x.rails x.easts x.edges x.rails2 x.easts2 x.edges2 x.labels x.counts x.progress h (record { rows = omega (arith, r); labels = omega (arith, e) }) (record { rows = omega (arith, s); labels = omega (arith, f) })

pub invariant_of-maps : goal.invariant_of-maps
invariant_of-maps c = record { rows = (both c.args.count (search rules) (search rules) (search rules) (search rules) (sym c.sound.ensures ∙ c.if-sound.true)).0 }

pub invariant_of-maps-then-sound : goal.invariant_of-maps-then-sound
invariant_of-maps-then-sound c = record { rows = (both c.args.count (search rules) (search rules) (search rules) (search rules) (sym c.sound.ensures ∙ c.if-sound.true)).1 }

pub add_bytes-requires : goal.add_bytes-requires
add_bytes-requires c =
    let x = c.args.count in
    let h = sym c.sound.ensures ∙ c.if-sound.true in
    let r = both x (search rules) (search rules) (search rules) (search rules) h in
    sound_fits x.rails x.easts x.edges x.rails2 x.easts2 x.edges2 x.labels x.counts x.progress x.bytes h r.0 r.1

pub returns : goal.returns
returns c =
    let x = c.args.count in
    let b = c.args.batch.now in
    elim c.if-count-eq0.branch [
      | then-count-eq0+then-sound w ↦
          let y = w.add_bytes in
          let h = sym w.sound.ensures ∙ w.if-sound.true in
          let r = both x (search rules) (search rules) (search rules) (search rules) h in
          let four : length y.new.t.bytes ≡ 4 = y.new.t.four in
          rw w.t-is (goes_on x.rails x.easts x.edges x.rails2 x.easts2 x.edges2 x.bytes x.labels x.counts y.new.t.bytes y.new.t.labels y.new.t.counts x.progress y.new.t.progress b r.0 r.1 (omega (arith, four)) h
          (sound_fits x.rails x.easts x.edges x.rails2 x.easts2 x.edges2 x.labels x.counts x.progress x.bytes h r.0 r.1) y.ensures)
      | else-count-eq0 w ↦
          elim w.else-count-eq0.branch [
            | else-count-eq0-via-then-count-eq0+else-sound v ↦
                rw w.t-is (stays-unsound x.rails x.easts x.edges x.rails2 x.easts2 x.edges2 x.labels x.counts x.progress x.bytes b v.if-count-eq0.true (sym v.sound.ensures ∙ v.if-sound.false))
            | else-count-eq0-via-else-count-eq0 v ↦
                rw w.t-is (stays-bad x.rails x.easts x.edges x.rails2 x.easts2 x.edges2 x.labels x.counts x.progress x.bytes b v.if-count-eq0.false)
          ]
    ]
