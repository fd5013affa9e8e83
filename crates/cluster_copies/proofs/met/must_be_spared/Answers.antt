use Rattle.std.proofs.Common.{ℕ, ◌≢◌, None, inl, inr, subst, sym}
use Rattle.history_rules.specs.Rules.{IsLineWhole}
use Rattle.history_tables.specs.Begins.{open_line}
use Rattle.history_book.specs.Log.{Log, printed}
use Rattle.cluster_copies.proofs.met.must_be_spared.Goals as goal

pub returns-then-comes_whole : goal.returns-then-comes_whole
returns-then-comes_whole c = inl (c.comes_whole.ensures.whole c.if-comes_whole.true)

pub must_be_whole-requires : goal.must_be_whole-requires
must_be_whole-requires c = subst (λ (l : Log). open_line c.args.row.job.at (printed l) ≢ None) (sym c.book.ensures.log) c.requires.line

pub returns : goal.returns
returns c = inr (subst (λ (x : ℕ × Log). IsLineWhole x.0 (printed x.1) c.args.row.job.at) (λ i. (c.book.ensures.nodes i, c.book.ensures.log i)) c.in_ok-must_be_whole.ensures)
