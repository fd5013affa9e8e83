use Rattle.std.proofs.Common.{rules, sym, List, ℕ}
use Rattle.std.specs.BTreeSet.{contains}
use Rattle.documents.specs.Documents.{key_cmp}
use Rattle.documents.specs.Words.{words_of}
use Rattle.segment_steps.proofs.CutRows.{none_among, nothing_contains}
use Rattle.segment_steps.proofs.cut.has_word_among.Goals as goal

pub returns-then-is_empty : goal.returns-then-is_empty
returns-then-is_empty c =
    let among = c.args.among.now in
    sym (none_among (contains key_cmp among) (words_of c.args.text.now) (λ (q : List ℕ). nothing_contains among q (c.is_empty.ensures.0 (search rules))))
