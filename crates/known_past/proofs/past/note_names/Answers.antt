use Rattle.std.proofs.Common.{◌∷◌, reverse}
use Rattle.std.proofs.lemmas.Result.{on_ok_weaker}
use Rattle.known_past.proofs.KnownLaws.{names_next}
use Rattle.known_past.proofs.past.note_names.Goals as goal

pub returns : goal.returns
returns c =
    let past = reverse c.args.before.now in
    let shows = c.generation_of-generation.ensures (c.args.entry.now ∷ past) c.requires.numbers in
    on_ok_weaker c.note_drawn.result (names_next past c.args.entry.now c.generation_of-generation.result c.args.drawn.now c.note_drawn.new.drawn shows c.requires.drawn) c.note_drawn.ensures
