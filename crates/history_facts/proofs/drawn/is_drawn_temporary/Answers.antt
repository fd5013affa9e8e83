use Rattle.std.proofs.Common.{ℕ}
use Rattle.file_names.specs.Names.{IsTemporaryOfSegment}
use Rattle.history_facts.proofs.DrawnLemmas.{drawn_where, drawn_nowhere}
use Rattle.history_facts.proofs.drawn.is_drawn_temporary.Goals as goal

pub returns-in-Some : goal.returns-in-Some
returns-in-Some c = λ past shows.
    drawn_where (λ (seg : ℕ). IsTemporaryOfSegment seg c.args.name.now) past c.in-Some.seg c.is_drawn.result (c.is_drawn.ensures past shows) c.in-Some.ensures.some c.in-Some.ensures.all

pub returns-in-None : goal.returns-in-None
returns-in-None c = λ past shows. drawn_nowhere (λ (seg : ℕ). IsTemporaryOfSegment seg c.args.name.now) past c.in-None.ensures.all
