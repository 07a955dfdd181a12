-- `text::edges::source_field` meets its contract. Assumes nothing.
use mathlib.Core.Path.{sym, ap}
use native.Mathlib.Omega.{arith}
use Rattle.seq.specs.Seq.{List, ℕ}
use Rattle.tables.specs.declared.edge_record.Source.{Source}
use Rattle.tables.specs.Found.{source_from}
use Rattle.text.specs.Lines.{source_text}
use Rattle.text.proofs.LineLaws.{put_as}
use Rattle.text.proofs.edges.source_field.Goals as goal

abbrev text_of : Source → List ℕ
text_of s = source_text (source_from s)

pub returns-in-First : goal.returns-in-First
returns-in-First c =
    put_as c.field.ensures (sym (ap text_of c.in-First.is)) (omega arith)

pub returns-in-Second : goal.returns-in-Second
returns-in-Second c =
    put_as c.field-in-Second.ensures (sym (ap text_of c.in-Second.is)) (omega arith)

pub returns-in-Both : goal.returns-in-Both
returns-in-Both c =
    put_as c.two_field.ensures (sym (ap text_of c.in-Both.is)) (omega arith)

pub returns-in-Third : goal.returns-in-Third
returns-in-Third c =
    put_as c.field-in-Third.ensures (sym (ap text_of c.in-Third.is)) (omega arith)

pub returns-in-FirstThird : goal.returns-in-FirstThird
returns-in-FirstThird c =
    put_as c.two_field-in-FirstThird.ensures (sym (ap text_of c.in-FirstThird.is)) (omega arith)

pub returns-in-SecondThird : goal.returns-in-SecondThird
returns-in-SecondThird c =
    put_as c.two_field-in-SecondThird.ensures (sym (ap text_of c.in-SecondThird.is)) (omega arith)

pub returns-in-All : goal.returns-in-All
returns-in-All c =
    put_as c.all_field.ensures (sym (ap text_of c.in-All.is)) (omega arith)
