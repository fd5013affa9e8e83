use Rattle.std.proofs.Common.{sym, subst}
use Rattle.documents.specs.Documents.{documents_in}
use Rattle.history_points.specs.Kept.{KeepAllHits}
use Rattle.history_points.proofs.KeptLaws.{told_there, texts_ascend}
use Rattle.history_points.proofs.searched.SearchedTexts.kept_answer.Goals as goal

pub returns-in-Some : goal.returns-in-Some
returns-in-Some c =
    let texts = c.args.self.now.texts in
    let found = c.find.ensures (documents_in texts) (subst (KeepAllHits (documents_in texts)) (sym c.as_slice.ensures.value) c.requires.kept) in
    let has = rw c.in-Some.is at found in
    told_there (documents_in texts) c.args.query.now c.in-Some.ranks.now c.answer_of.result (texts_ascend texts c.requires.ordered) has c.answer_of.ensures
