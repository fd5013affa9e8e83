use Rattle.postings_plain.specs.Rows.{first_positions}
use Rattle.query_eval.specs.Places.{AreSameFrom}
use Rattle.query_eval.proofs.ReaderLemmas.{same_start, same_later, same_on}
use Rattle.query_eval.proofs.phrase.PhraseWord.has.Goals as goal
use Rattle.query_eval.proofs.phrase.PhraseWord.has.Goals.{then-is_past, else-is_past}

pub invariant_of-self : goal.invariant_of-self
invariant_of-self c here =
    let s = c.if-is_past.self-inside in
    let same : AreSameFrom c.args.place s.places (first_positions s.hits) = elim c.if-is_past.branch [
      | then-is_past w ↦ rw w.self-inside-is (same_start c.args.place w.of-self-inside.result (first_positions c.self.inside.hits) w.of-self-inside.ensures)
      | else-is_past w ↦ rw w.self-inside-is (same_later c.self.inside.least c.args.place c.self.inside.places (first_positions c.self.inside.hits) (c.self.invariant (c.is_past.ensures.here w.if-is_past.false)) (c.is_past.ensures.least w.if-is_past.false))
    ] in
    same_on c.args.place s.places c.has.new.self (first_positions s.hits) same c.has.ensures.left
