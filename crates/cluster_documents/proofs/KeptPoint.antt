-- What a publish that ends leaves of what callers are told beside the log.
use Rattle.std.proofs.Common.{◌≡◌, ◌+◌, ◌∷◌, ℕ, suc, Bool, false, List, Some, Option, map, max, refl, ap, ◌∙◌, sym, arith}
use Rattle.disk_model.specs.Disk.{Name, Cells}
use Rattle.disk_model.specs.Faults.{Plans}
use Rattle.nrt_base.specs.declared.numbers.At.{At}
use Rattle.nrt_base.specs.declared.numbers.Gen.{Gen}
use Rattle.nrt_base.specs.declared.numbers.Version.{Version}
use Rattle.history_rules.specs.declared.entry.Event.TheVariants.{Published}
use Rattle.history_rules.specs.Nodes.{newest_version}
use Rattle.history_book.specs.Log.{Log, printed, shown}
use Rattle.merge_tasks.specs.Board.{Board}
use Rattle.merge_tasks.specs.Merging.{Sheet}
use Rattle.cluster_nodes.specs.declared.nodes.NodePlace.{NodePlace}
use Rattle.cluster_nodes.specs.Places.{place_of}
use Rattle.cluster_state.specs.Run.{Rest, Run, KeepsRest}
use Rattle.cluster_state.specs.Met.{with_met}
use Rattle.cluster_state.specs.Keeping.{KeepsButPoint}
use Rattle.cluster_state.specs.CallsLeft.{place_calls, with_own, calls_in}
use Rattle.cluster_state.specs.JobsIn.{place_files, jobs_in}
use Rattle.cluster_state.specs.MergedCopies.{place_copies, copies_in}
use Rattle.cluster_state.specs.Sizes.{sizes_in}
use Rattle.cluster_state.proofs.Frames.{PutsBack}
use Rattle.cluster_state.proofs.FileFrames.{put_one}
use Rattle.cluster_state.proofs.RestKept.{map_same}
use Rattle.cluster_state.proofs.KeptOthers.{told_one}
use Rattle.cluster_documents.proofs.MetWords.{met_newest}

-- where all is as before, it is so but for a new point
pub all_point : (old new : Run) → KeepsRest old new → KeepsButPoint old new
all_point old new kept = record {
  rest = kept ∙ λ i. record old.rest { cut = (sym cut) i; sizes = (sym sizes) i; plans = new.rest.plans; names = new.rest.names };
  still = λ same. kept;
}
  where
    cut : new.rest.cut ≡ old.rest.cut
    cut = ap (λ (x : Rest). x.cut) kept

    sizes : new.rest.sizes ≡ old.rest.sizes
    sizes = ap (λ (x : Rest). x.sizes) kept

-- a publish that ended with its point has a new version
pub new_version : (at : At) (g : Gen) (v : Version) (olds news : List (ℕ × ℕ)) (was behind now : Log) → now ≡ shown at (Published g v) ∷ with_met false at 1 olds news behind → behind ≡ was → v.0 ≡ newest_version (printed was) + 1
    → newest_version (printed now) ≡ newest_version (printed was) → ⊥
new_version at g v olds news was behind now is same next still =
    let met = met_newest at olds news behind (with_met false at 1 olds news behind) refl in
    let before : newest_version (printed behind) ≡ newest_version (printed was) = ap (λ (l : Log). newest_version (printed l)) same in
    let last : newest_version (printed now) ≡ max (newest_version (printed (with_met false at 1 olds news behind))) v.0 = ap (λ (l : Log). newest_version (printed l)) is in
    absurd (omega (arith, met, before, last, next, still))

module _ {D : Type 0} (cells : D → Cells) where
  -- the primary's place tells the same, but for its sizes
  pub put_point : (r : Run) (b0 : Sheet) (board : Board) (carries : List Bool) (old mid new : List (Option (NodePlace D))) (n : ℕ) (x y : NodePlace D) {ended cut : Bool} {plans later : List Plans} {named names : List (List Name)}
      → record { ended = ended; nodes = b0.nodes; log = b0.log; rest = record { calls_left = calls_in carries old; cut = b0.cut; sizes = sizes_in old; jobs = jobs_in old; copies = copies_in old; tasks = board; plans = plans; names = named } } ≡ r
      → PutsBack cells old mid new n x → place_of old n ≡ Some y → place_calls (Some x) ≡ place_calls (Some y) → place_files (Some x) ≡ place_files (Some y) → place_copies (Some x) ≡ place_copies (Some y)
      → record { calls_left = calls_in carries new; cut = cut; sizes = sizes_in new; jobs = jobs_in new; copies = copies_in new; tasks = board; plans = later; names = names } ≡ record r.rest { cut = cut; sizes = sizes_in new; plans = later; names = names }
  put_point r b0 board carries old mid new n x y {ended} {cut} {plans} {later} {named} {names} view put there calls files copies =
      (λ i. record { calls_left = (ap (with_own carries) (each place_calls calls)) i; cut = cut; sizes = sizes_in new; jobs = (each place_files files) i; copies = (each place_copies copies) i; tasks = board; plans = later; names = names })
      ∙ ap (λ (x : Run). record x.rest { cut = cut; sizes = sizes_in new; plans = later; names = names }) view
    where
      each : {X : Type 0} (f : Option (NodePlace D) → X) → f (Some x) ≡ f (Some y) → map f new ≡ map f old
      each f is = map_same f old new (put.again ∙ put.count) (λ k. told_one f n x y old new there (put_one cells n x old mid new put) is (suc k))
