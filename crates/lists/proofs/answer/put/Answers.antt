-- `lists::answer::put` meets its contract. Assumes nothing.
use mathlib.Core.Path.{sym, ap}
use Rattle.tables.specs.Values.{answer_of}
use Rattle.lists.specs.Laws.Room.{line_as, roomy_as}
use Rattle.lists.proofs.answer.put.Goals as goal

pub listing-requires : goal.listing-requires
listing-requires c =
    roomy_as (sym (ap answer_of c.in-Ok.is)) c.requires

pub returns-in-Ok : goal.returns-in-Ok
returns-in-Ok c =
    line_as c.args.faces.now (ap answer_of c.in-Ok.is) c.listing.ensures

pub returns-in-Err : goal.returns-in-Err
returns-in-Err c =
    line_as c.args.faces.now (ap answer_of c.in-Err.is) c.refused_listing.ensures
