use Rattle.file_names.proofs.NameReading.{file_found}
use Rattle.file_names.proofs.read_names.segment_in.Goals as goal

pub returns-clause-all : goal.returns-clause-all
returns-clause-all c = λ n is.
    rw (c.or-3.ensures, c.or-2.ensures, c.or.ensures)
    (file_found c.args.name.now c.marked.result c.marked-2.result c.marked-3.result c.live_segment.result c.marked.ensures.some c.marked-2.ensures.some c.marked-3.ensures.some
    c.marked.ensures.all c.marked-2.ensures.all c.marked-3.ensures.all c.live_segment.ensures.all n is)
