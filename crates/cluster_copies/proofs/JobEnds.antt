-- How the line of a job started, and that a primary runs while it goes on.
use Rattle.std.proofs.Common.{◌≡◌, ◌≢◌, ℕ, Bool, Some, None, refl, ap, ◌∙◌, sym, subst}
use Rattle.nrt_base.specs.declared.numbers.At.{At}
use Rattle.history_rules.specs.Nodes.{Past, primary_of}
use Rattle.history_rules.specs.Lines.{start_entry, SourceSurvives}
use Rattle.history_rules.specs.Legal.{IsLegalPast}
use Rattle.history_tables.specs.declared.jobs.JobRow.{JobRow}
use Rattle.history_tables.specs.declared.lines.BegunLine.{BegunLine}
use Rattle.history_tables.specs.declared.lines.Start.{Start}
use Rattle.history_tables.specs.Begins.{event_of, open_line}
use Rattle.history_book.specs.Log.{Log, printed}
use Rattle.merge_tasks.specs.Merging.{Sheet}
use Rattle.history_book.specs.Jobs.{LaneJobShows}
use Rattle.history_book.proofs.LineLaws.{open_started}
use Rattle.history_book.proofs.ReignLaws.{reigns_on}
use Rattle.history_book.proofs.JobLaws.{source_runs}
use Rattle.cluster_state.specs.Run.{Rest, Run}

-- so one runs while it has not crashed since
pub source_on : (size : ℕ) (past : Past) (row : JobRow) → IsLegalPast size past → LaneJobShows size past row → SourceSurvives past row.job.at → primary_of past ≢ None
source_on size past row legal s source none =
    let ran = source_runs size past row.job.at row.job.node.0 row.job.version.0 legal (start_entry row.job.at past) refl s.started in
    ran (sym (reigns_on size row.job.at past legal ran source.source).primary ∙ none)

-- how an open line started
pub start_is : (at : At) (past : Past) (b : BegunLine) (s : Start) → open_line at past ≡ Some b → b.start ≡ s → start_entry at past ≡ Some (event_of s)
start_is at past b s is same = (open_started at past b is).entry ∙ ap (λ (x : Start). Some (event_of x)) same

-- the same in the terms of a call
pub source_ends : {X : Type 0} (r : Run) (ended : Bool) (b : Sheet) (row : JobRow) → {left : Rest} → record { ended = ended; nodes = b.nodes; log = b.log; rest = left } ≡ r → IsLegalPast b.nodes (printed b.log) → LaneJobShows b.nodes (printed b.log) row
    → SourceSurvives (printed r.log) row.job.at → primary_of (printed r.log) ≡ None → X
source_ends r ended b row view legal s source none =
    let log : b.log ≡ r.log = ap (λ (x : Run). x.log) view in
    absurd (source_on b.nodes (printed b.log) row legal s (subst (λ (l : Log). SourceSurvives (printed l) row.job.at) (sym log) source) (ap (λ (l : Log). primary_of (printed l)) log ∙ none))
