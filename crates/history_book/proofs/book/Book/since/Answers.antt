use Rattle.std.proofs.Common.{◌∙◌, drop, reverse, sym, ap, ℕ}
use Rattle.history_rules.specs.declared.entry.Entry.{Entry}
use Rattle.std.specs.Prelude.{List}
use Rattle.history_rules.specs.Faults.{has_file_fault}
use Rattle.history_book.proofs.WholeLaws.{faults_since, starts_within}
use Rattle.history_book.proofs.book.Book.since.Goals as goal

pub entries_from-requires : goal.entries_from-requires
entries_from-requires c = starts_within _ c.args.at _ c.entries.result.now c.entries.ensures c.is_legal.ensures.legal c.is_legal.ensures.turns c.requires _ c.before-before.ensures

pub returns : goal.returns
returns c = λ n. ap (λ (es : List Entry). has_file_fault n c.args.at (reverse es)) c.entries_from.ensures
    ∙ faults_since _ c.args.at _ c.entries.result.now c.entries.ensures c.is_legal.ensures.legal c.is_legal.ensures.turns c.requires _ c.before-before.ensures n
