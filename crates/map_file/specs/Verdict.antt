-- What a check of the code says in 01's terms: "If the answer is an enum, a definition provides this paper's number and values for each of its
-- cases. The promises use that definition". Assumes nothing.
use Rattle.std.specs.Prelude.{Result, Ok, Err}
use Rattle.seq.specs.Seq.{Option, none, some}
use Rattle.paper.specs.Refusal as paper
use Rattle.map_file.specs.declared.refusal.Refusal.{Refusal}

-- "a refusal with number, map and place", and the other edge
abbrev pub refusal_of : Refusal → paper.Refusal
refusal_of r = record { number = r.number; map = r.map; place = r.place; other = r.other }

-- nothing is refused, or this is; whatever a call gives that is not refused
abbrev pub verdict : {T : Type 0} → Result T Refusal → Option paper.Refusal
verdict (Ok x) = none
verdict (Err r) = some (refusal_of r)
