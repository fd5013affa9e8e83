-- How many calls of its directory the commit in flight at a node still needs, and those of the line that carries an older one to its end.
use Rattle.std.specs.Prelude.{ℕ, ◌+◌, ◌-◌, Bool, true, false, List, [], ◌∷◌, map, get_or, Option, Some, None}
use Rattle.commit_steps.specs.declared.stage.Stage.{Stage}
use Rattle.commit_steps.specs.declared.stage.Stage.TheVariants.{Begun, Synced, Written, Pending, Named, Renamed}
use Rattle.commit_steps.specs.declared.stage.CommitBook.{CommitBook}
use Rattle.cluster_nodes.specs.declared.nodes.NodePlace.{NodePlace}
use Rattle.cluster_nodes.specs.Places.{disk_of}

-- the calls that a commit in this state still needs: none where none is in flight
abbrev pub stage_calls : Option Stage → ℕ
stage_calls None = 0
stage_calls (Some (Begun s)) = 6
stage_calls (Some (Synced s)) = 5
stage_calls (Some (Written s)) = 4
stage_calls (Some (Pending s)) = 3
stage_calls (Some (Named s)) = 2
stage_calls (Some (Renamed s)) = 1

-- the same of a node's book: none where the node is down
abbrev pub book_calls : Option CommitBook → ℕ
book_calls None = 0
book_calls (Some book) = stage_calls book.stage

-- six calls more of the commit that a line has still to begin, while it carries an older one to its end
abbrev pub own_calls : Bool → ℕ
own_calls true = 6
own_calls false = 0

-- the line at this node has its own commit still to begin
abbrev pub has_own : ℕ → List Bool → Bool
has_own n carries = get_or carries (n - 1) false

-- these calls, with those of own commits where they are still to begin
abbrev pub with_own : List Bool → List ℕ → List ℕ
with_own carries [] = []
with_own [] (k ∷ calls) = k ∷ calls
with_own (c ∷ carries) (k ∷ calls) = (k + own_calls c) ∷ with_own carries calls

module _ {D : Type 0} where
  -- the same of the node in a place
  abbrev pub place_calls : Option (NodePlace D) → ℕ
  place_calls None = 0
  place_calls (Some place) = book_calls (disk_of place.node).book

  -- the same of each node, in order, where these have a line whose own commit is still to begin
  abbrev pub calls_in : List Bool → List (Option (NodePlace D)) → List ℕ
  calls_in carries places = with_own carries (map place_calls places)
