-- What is answered of eight numbers, in the terms of the definition. Assumes nothing.
use Rattle.std.specs.Prelude.{Result, Ok, Err}
use Rattle.paper.specs.Meeting as Meetings
use Rattle.paper.specs.Refusal.{Answer, done, refused}
use Rattle.plane.specs.Values.{meeting_of}
use Rattle.map_file.specs.Verdict.{refusal_of}
use Rattle.map_file.specs.declared.refusal.Refusal.{Refusal}
use Rattle.plane.specs.declared.kinds.Meeting.{Meeting}

-- how the edges meet, or the refusal with its number, map, place and no other edge
abbrev pub answer_of : Result Meeting Refusal → Answer Meetings.Meeting
answer_of (Ok m) = done (meeting_of m)
answer_of (Err r) = refused (refusal_of r)
