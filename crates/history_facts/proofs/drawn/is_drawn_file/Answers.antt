use Rattle.std.proofs.Common.{ℕ}
use Rattle.file_names.specs.Names.{IsFileOfSegment}
use Rattle.history_facts.proofs.DrawnLemmas.{drawn_where, drawn_nowhere}
use Rattle.history_facts.proofs.drawn.is_drawn_file.Goals as goal

pub returns-in-Some : goal.returns-in-Some
returns-in-Some c = λ past shows.
    drawn_where (λ (seg : ℕ). IsFileOfSegment seg c.args.name.now) past c.in-Some.seg c.is_drawn.result (c.is_drawn.ensures past shows) c.in-Some.ensures.some c.in-Some.ensures.all

pub returns-in-None : goal.returns-in-None
returns-in-None c = λ past shows. drawn_nowhere (λ (seg : ℕ). IsFileOfSegment seg c.args.name.now) past c.in-None.ensures.all
