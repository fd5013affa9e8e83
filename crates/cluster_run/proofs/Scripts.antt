-- The history that the run of a script leaves, and what it tells of inner work.
use Rattle.std.proofs.Common.{◌≡◌, None, refl, sym, ap, subst}
use Rattle.history_rules.specs.declared.entry.History.{History}
use Rattle.script_serving.specs.declared.script.Script.{Script}
use Rattle.script_serving.specs.Serves.{Serves}
use Rattle.history_book.specs.Told.{IsTold}
use Rattle.lane_threads.specs.Idle.{NoneIsTold}
use Rattle.lane_threads.specs.Firsts.{FirstIsTold}
use Rattle.lane_threads.specs.Phases.{IsHistoryOf}
use Rattle.lane_threads.specs.declared.run.Setup.{Setup}
use Rattle.lane_threads.specs.Lanes.{setup_of}
use Rattle.cluster_site.specs.Sites.{SiteRun, is_logged}
use Rattle.cluster_state.specs.Run.{Run}
use Rattle.cluster_run.specs.Running.{history_of, TellsInner}

-- the history that was left serves the script
pub left_serves : (script : Script) (s : SiteRun) (r : Run) → record { nodes = s.run.nodes; log = is_logged s } ≡ setup_of script → ((h : History) → IsHistoryOf script.nodes s.run.log h → Serves script h) → r ≡ s.run
    → Serves script (history_of r)
left_serves script s r setup serves is =
    subst (λ (x : Run). Serves script (history_of x)) (sym is) (serves (history_of s.run) (record { nodes = ap (λ (x : Setup). x.nodes) setup; entries = refl }))

-- what it tells of inner work is so
pub left_tells : (script : Script) (s : SiteRun) (r : Run) → IsTold r.log → NoneIsTold script s.run.log → FirstIsTold script None s.run.log → r ≡ s.run → TellsInner script r.log
left_tells script s r told none first is = record {
  told = told;
  none = subst (λ (x : Run). NoneIsTold script x.log) (sym is) none;
  first = subst (λ (x : Run). FirstIsTold script None x.log) (sym is) first;
}
