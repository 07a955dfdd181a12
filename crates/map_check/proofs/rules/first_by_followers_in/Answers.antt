-- `map_check::rules::first_by_followers_in` meets its contract. Assumes nothing.
use native.Mathlib.Omega.{arith}
use Rattle.map_check.specs.Laws.LinkedLaws.{made-headings, made-apart, made-linked, found-disagrees}
use Rattle.map_check.proofs.rules.first_by_followers_in.Goals as goal

pub follow_stars-requires : goal.follow_stars-requires
follow_stars-requires c =
    let few = c.requires.fact_2 in
    let room = c.requires.fact_5 in
    let ways = c.headings.ensures in
    record {
      origins = c.requires.fact_1.origins;
      headings = made-headings c.requires.fact_1 few _ _ room.0 ways;
      apart = made-apart c.requires.fact_1 few _ _ room.0 ways c.requires.fact_4;
      small = omega (arith, few);
      long_heads = room.1;
      long_next = room.2;
    }

pub first_disagreeing-requires : goal.first_disagreeing-requires
first_disagreeing-requires c =
    let room = c.requires.fact_5 in
    made-linked c.requires.fact_1 c.requires.fact_2 _ _ room.0 c.headings.ensures _ _ room.2 c.follow_stars.ensures.next _ _ room.1 c.follow_stars.ensures.greatest
    c.args.labels.now c.requires.fact_3

pub returns : goal.returns
returns c =
    let room = c.requires.fact_5 in
    found-disagrees c.requires.fact_1 c.requires.fact_2 _ _ room.0 c.headings.ensures _ _ room.2 c.follow_stars.ensures.next _ _ room.1 c.follow_stars.ensures.greatest
    c.requires.fact_4 c.args.labels.now _ c.first_disagreeing.ensures
