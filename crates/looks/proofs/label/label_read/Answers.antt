-- `looks::label::label_read` meets its contract. Assumes nothing.
use mathlib.Core.Path.{◌∙◌}
use Rattle.plane.specs.Values.{vec_of}
use Rattle.looks.specs.Rails.{seen-label}
use Rattle.looks.proofs.label.label_read.Goals as goal

pub returns : goal.returns
returns c =
    let a = c.args in
    let l = c.look_read-looked in
    record { same = c.label_seen-label.ensures ∙ seen-label a.rails.now a.easts.now a.e (vec_of a.c) l.result l.ensures; read = l.ensures.read_is }
