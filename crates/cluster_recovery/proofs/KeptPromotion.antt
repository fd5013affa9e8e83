-- What callers are told beside the log where a replica became the primary.
use Rattle.std.proofs.Common.{◌≡◌, ◌∙◌, ◌==◌, ℕ, suc, Bool, false, List, [], map, Some, None, Option, Result, Ok, Err, refl, ap, sym, if◌then◌else◌}
use Rattle.std.specs.Prelude.{OnOk}
use Rattle.std.proofs.lemmas.Bool.{eq-eqb}
use Rattle.nrt_base.specs.declared.numbers.Gen.{Gen}
use Rattle.nrt_base.specs.declared.numbers.Version.{Version}
use Rattle.disk_model.specs.Disk.{Name, Cells}
use Rattle.disk_model.specs.Faults.{Plans}
use Rattle.commit_steps.specs.declared.stage.CommitBook.{CommitBook}
use Rattle.segment_steps.specs.Starting.{size_by}
use Rattle.index_primary.specs.declared.states.Merging.{Merging}
use Rattle.index_primary.specs.Merges.{merge_inputs}
use Rattle.history_rules.specs.declared.cause.Cause.{Cause}
use Rattle.history_rules.specs.Nodes.{IsNode, is_at, primary_of}
use Rattle.history_book.specs.Log.{Log, printed}
use Rattle.merge_tasks.specs.Board.{Board}
use Rattle.cluster_nodes.specs.declared.nodes.Node.TheVariants.{Primary, Replica}
use Rattle.cluster_nodes.specs.declared.nodes.NodePlace.{NodePlace}
use Rattle.cluster_nodes.specs.Places.{place_of}
use Rattle.cluster_nodes.specs.Promoting.{PromotesIn}
use Rattle.cluster_state.specs.CallsLeft.{stage_calls, place_calls, with_own, calls_in}
use Rattle.cluster_state.specs.JobsIn.{place_files, jobs_in}
use Rattle.cluster_state.specs.MergedCopies.{place_copies, copies_in}
use Rattle.cluster_state.specs.Met.{ClusterStands}
use Rattle.cluster_state.specs.NamesIn.{names_in}
use Rattle.cluster_state.specs.PlansIn.{place_plans, plans_in}
use Rattle.cluster_state.specs.Run.{Rest, Run, KeepsRest}
use Rattle.cluster_state.specs.Sizes.{sizes_in}
use Rattle.cluster_state.proofs.JobsLeft.{files_are}
use Rattle.cluster_state.proofs.KeptOthers.{told_apart, told_one, merged_are}
use Rattle.cluster_state.proofs.MetStands.{plans_are}
use Rattle.cluster_state.proofs.NodeDirs.{names_apart}
use Rattle.cluster_state.proofs.RestKept.{map_same}
use Rattle.cluster_state.proofs.SizesTold.{sizes_at}
use Rattle.cluster_recovery.specs.Promotions.{HasSizesOf, PromotesRest, PromoteTells}
use Rattle.cluster_recovery.proofs.KeptCrash.{vacant_copies}

module _ {D : Type 0} (cells : D → Cells) (planned : D → Plans) (names : D → List Name) (r now : Run) (carries : List Bool) (cut after : Bool) (board : Board) (old new : List (Option (NodePlace D)))
    (was : record { calls_left = calls_in carries old; cut = cut; sizes = sizes_in old; jobs = jobs_in old; copies = copies_in old; tasks = board; plans = plans_in planned old; names = names_in names old } ≡ r.rest)
    (is : record { calls_left = calls_in carries new; cut = after; sizes = sizes_in new; jobs = jobs_in new; copies = copies_in new; tasks = board; plans = plans_in planned new; names = names_in names new } ≡ now.rest) (same : after ≡ cut)
    (n : ℕ) (g : Gen) (forced : Version) (b : PromotesIn cells g forced n old new) (log : Log) (size : ℕ) (stand : ClusterStands cells size old cut board log) (none : primary_of (printed log) ≡ None) where
  abbrev before : NodePlace D
  before = record { node = Replica b.at.parts; held = b.at.held }

  abbrev left : NodePlace D
  left = record { node = Primary b.primary; held = b.at.held }

  there : place_of new n ≡ Some left
  there = b.moves.there n ∙ ap (λ (t : Bool). if t then Some left else place_of old n) (eq-eqb n n refl)

  calls_same : (m : ℕ) → place_calls (place_of new m) ≡ place_calls (place_of old m)
  calls_same = told_one place_calls n left before old new b.at.there b.moves (ap (λ (c : CommitBook). stage_calls c.stage) b.becomes.commits)

  copies_same : (m : ℕ) → place_copies (place_of new m) ≡ place_copies (place_of old m)
  copies_same = told_one place_copies n left before old new b.at.there b.moves (sym (vacant_copies cells log size cut board old stand none n) ∙ ap place_copies b.at.there)

  no_copies : (m : ℕ) → place_copies (place_of new m) ≡ []
  no_copies m = copies_same m ∙ vacant_copies cells log size cut board old stand none m

  kept : now.rest ≡ record r.rest { sizes = now.rest.sizes; jobs = now.rest.jobs; plans = now.rest.plans; names = now.rest.names }
  kept =
      let calls : calls_in carries new ≡ calls_in carries old = ap (with_own carries) (map_same place_calls old new b.moves.count (λ k. calls_same (suc k))) in
      let copies : copies_in new ≡ copies_in old = map_same place_copies old new b.moves.count (λ k. copies_same (suc k)) in
      sym is
      ∙ ((λ i. record { calls_left = calls i; cut = same i; sizes = sizes_in new; jobs = jobs_in new; copies = copies i; tasks = board; plans = plans_in planned new; names = names_in names new })
      ∙ (λ i. record (was i) { sizes = (is i).sizes; jobs = (is i).jobs; plans = (is i).plans; names = (is i).names }))

  sized : ClusterStands cells now.nodes new now.rest.cut now.rest.tasks now.log → IsNode now.nodes n → ((m : ℕ) → (n == m) ≡ false → is_at (primary_of (printed now.log)) m ≡ false) → HasSizesOf cells n now
  sized stands node others = record {
    places = new;
    stands = stands;
    primary = b.primary;
    held = b.at.held;
    there = there;
    sizes =
        sym (ap (λ (x : Rest). x.sizes) is)
        ∙ (sizes_at cells now.log now.nodes n new b.primary b.at.held node there others stands.0 ∙ ap (λ (ms : List Merging). map (size_by (merge_inputs ms)) b.primary.infos.segs) b.becomes.merges);
  }

  pub promoted_rest : ClusterStands cells now.nodes new now.rest.cut now.rest.tasks now.log → IsNode now.nodes n → ((m : ℕ) → (n == m) ≡ false → is_at (primary_of (printed now.log)) m ≡ false) → PromotesRest cells n r now
  promoted_rest stands node others = record {
    rest = kept;
    cut = sym (ap (λ (x : Rest). x.cut) is) ∙ (same ∙ (stand.2.vacant none).0);
    sizes = sized stands node others;
    here = files_are n now new (sym (ap (λ (x : Rest). x.jobs) is)) ∙ ap place_files there;
    copies = λ m. merged_are m now new (sym (ap (λ (x : Rest). x.copies) is)) ∙ no_copies m;
    files = λ m apart. files_are m now new (sym (ap (λ (x : Rest). x.jobs) is)) ∙ (told_apart place_files n left old new b.moves m apart ∙ sym (files_are m r old (sym (ap (λ (x : Rest). x.jobs) was))));
    plans = λ m apart. plans_are planned m now new (sym (ap (λ (x : Rest). x.plans) is)) ∙ (told_apart (place_plans planned) n left old new b.moves m apart ∙ sym (plans_are planned m r old (sym (ap (λ (x : Rest). x.plans) was))));
    names = names_apart names n r now old new (sym (ap (λ (x : Rest). x.names) was)) (sym (ap (λ (x : Rest). x.names) is)) (told_apart (λ o. o) n left old new b.moves);
  }

-- ---- a line that is refused

pub unpromoted_rest : {D T E : Type 0} (cells : D → Cells) (cause : Cause) (result : Result T E) (n : ℕ) (old new : Run) → OnOk result (KeepsRest old new) → OnOk result (new.rest.plans ≡ old.rest.plans) → OnOk result (new.rest.names ≡ old.rest.names)
    → OnOk result (PromoteTells cells (Some cause) n old new)
unpromoted_rest cells cause (Ok x) n old new same plans names = same ∙ λ i. record old.rest { plans = plans i; names = names i }
unpromoted_rest cells cause (Err e) n old new same plans names = tt
