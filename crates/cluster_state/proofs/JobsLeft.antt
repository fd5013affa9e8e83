-- What callers see of the files of jobs, place by place.
use Rattle.std.proofs.Common.{◌≡◌, ℕ, zero, suc, List, Some, None, Option, refl, ap, ◌∙◌, sym}
use Rattle.std.specs.Prelude.{unwrap_or, option_map}
use Rattle.std.specs.List.{slice_get}
use Rattle.std.proofs.lemmas.Option.{slice_get-map}
use Rattle.cluster_nodes.specs.declared.nodes.NodePlace.{NodePlace}
use Rattle.cluster_nodes.specs.Places.{place_of, unwrapped}
use Rattle.cluster_state.specs.Run.{JobFiles, Run, no_files, files_at}
use Rattle.cluster_state.specs.JobsIn.{place_files, jobs_in}

module _ {D : Type 0} where
  told : (o : Option (Option (NodePlace D))) → unwrap_or (option_map place_files o) no_files ≡ place_files (unwrapped o)
  told None = refl
  told (Some place) = refl

  -- those at a node are those of what stands in its place
  pub files_are : (n : ℕ) (r : Run) (places : List (Option (NodePlace D))) → r.rest.jobs ≡ jobs_in places → files_at n r ≡ place_files (place_of places n)
  files_are zero r places is = refl
  files_are (suc k) r places is =
      ap (λ (l : List JobFiles). unwrap_or (slice_get l k) no_files) is ∙ (ap (λ (o : Option JobFiles). unwrap_or o no_files) (slice_get-map place_files places k) ∙ told (slice_get places k))

-- in the terms of a call, whose cluster has this state
pub jobs_was : (r x : Run) → x ≡ r → r.rest.jobs ≡ x.rest.jobs
jobs_was r x view = sym (ap (λ (y : Run). y.rest.jobs) view)

-- they are seen alike where they are as before
pub files_same : (n : ℕ) (r x : Run) → x.rest.jobs ≡ r.rest.jobs → files_at n x ≡ files_at n r
files_same zero r x is = refl
files_same (suc k) r x is = ap (λ (l : List JobFiles). unwrap_or (slice_get l k) no_files) is
