-- `ovfile_read::reader::read` meets its contract. Assumes nothing.
use mathlib.Core.Path.{◌≡◌, sym, ap, subst, ◌∙◌}
use Rattle.seq.specs.Seq.{List, ℕ, length}
use Rattle.paper.specs.Refusal.{done}
use Rattle.paper.specs.Reader.{counts_in}
use Rattle.map_file.specs.Verdict.{verdict}
use Rattle.tables.specs.Values.{lengths_by, counts_of}
use Rattle.ovfile.specs.Values.{layout_from}
use Rattle.ovfile_read.specs.Filled.{Roomy}
use Rattle.ovfile_read.proofs.ReadLaws.{room_enough, read_done}
use Rattle.ovfile_read.proofs.reader.read.Goals as goal

pub fill-requires : goal.fill-requires
fill-requires c =
    let a = c.args in
    let h = c.in-Ok.ensures.same in
    let ls = lengths_by (length a.vertices.now) (length a.halves.now) (length a.sources.now) (length a.faces.now) in
    let e : c.in-Ok.stored.file.now ≡ a.file.now = λ i. (h i).now in
    subst (λ (s : List ℕ). Roomy (counts_in s) ls) (sym e) (room_enough a.file.now ls (sym c.judge.ensures.told ∙ ap verdict c.in-Ok.is))

pub returns-in-Ok : goal.returns-in-Ok
returns-in-Ok c =
    let a = c.args in
    let st = c.in-Ok.stored in
    let h = c.in-Ok.ensures.same in
    let ls = lengths_by (length a.vertices.now) (length a.halves.now) (length a.sources.now) (length a.faces.now) in
    let counted : counts_of st.counts ≡ counts_in st.file.now = λ i. record { vertices = st.vertices_counted i; edges = st.edges_counted i; faces = st.faces_counted i } in
    (λ i. record { answer = done (counted i); tables = c.fill.ensures i })
    ∙ read_done a.file.now ls st.file.now (layout_from st.layout) (λ i. (h i).now) (λ i. record { coordinate = st.bytes_named i; maps = st.maps_named i }) (sym c.judge.ensures.told ∙ ap verdict c.in-Ok.is)
