use Rattle.std.proofs.Common.{◌∙◌, ap, sym}
use Rattle.history_book.specs.Log.{printed}
use Rattle.cluster_state.specs.Copies.{is_copy_start}
use Rattle.cluster_copies.proofs.JobEnds.{start_is}
use Rattle.cluster_copies.proofs.transfers.starts_as_copy.Goals as goal

pub returns-in-Copying : goal.returns-in-Copying
returns-in-Copying c = sym (ap is_copy_start (start_is c.args.at (printed c.args.book.now.log) c.in-Some.begun _ (sym c.line.ensures ∙ c.in-Some.is) c.in-Copying.is))

pub returns-in-Publishing : goal.returns-in-Publishing
returns-in-Publishing c = sym (ap is_copy_start (start_is c.args.at (printed c.args.book.now.log) c.in-Some.begun _ (sym c.line.ensures ∙ c.in-Some.is) c.in-Publishing.is))

pub returns-in-Settling : goal.returns-in-Settling
returns-in-Settling c = sym (ap is_copy_start (start_is c.args.at (printed c.args.book.now.log) c.in-Some.begun _ (sym c.line.ensures ∙ c.in-Some.is) c.in-Settling.is))

pub returns-in-Searching : goal.returns-in-Searching
returns-in-Searching c = sym (ap is_copy_start (start_is c.args.at (printed c.args.book.now.log) c.in-Some.begun _ (sym c.line.ensures ∙ c.in-Some.is) c.in-Searching.is))

pub returns-in-Asking : goal.returns-in-Asking
returns-in-Asking c = sym (ap is_copy_start (start_is c.args.at (printed c.args.book.now.log) c.in-Some.begun _ (sym c.line.ensures ∙ c.in-Some.is) c.in-Asking.is))

pub returns-in-Committing : goal.returns-in-Committing
returns-in-Committing c = sym (ap is_copy_start (start_is c.args.at (printed c.args.book.now.log) c.in-Some.begun _ (sym c.line.ensures ∙ c.in-Some.is) c.in-Committing.is))
