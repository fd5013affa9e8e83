use Rattle.std.proofs.Common.{◌≡◌, ◌∙◌, [], ◌∷◌, ℕ, false, Some, ap, refl, sym, subst, arith, map, true≢false}
use Rattle.nrt_base.specs.declared.numbers.Version.{Version}
use Rattle.history_rules.specs.declared.cause.Cause.TheVariants.{DiskFault}
use Rattle.history_rules.specs.declared.entry.Event.TheVariants.{Copying, Refused}
use Rattle.history_rules.specs.Nodes.{newest_version}
use Rattle.history_rules.specs.Lines.{entries_of_line, is_answered}
use Rattle.history_rules.specs.Legal.{KeepsRule}
use Rattle.history_book.specs.Log.{Log, printed, shown, kept}
use Rattle.history_book.specs.Turns.{InTurn}
use Rattle.history_book.specs.declared.inner.Inner.TheVariants.{JobBegun}
use Rattle.cluster_nodes.specs.declared.went.Went.{Went}
use Rattle.cluster_nodes.specs.Went.{ByWent}
use Rattle.cluster_nodes.specs.JobPlaces.{AltersIn, BeginsIn}
use Rattle.cluster_state.specs.Run.{Run}
use Rattle.cluster_state.specs.Copies.{newest_of}
use Rattle.cluster_state.specs.Met.{met_in, with_met, ArePlanned}
use Rattle.cluster_state.proofs.Ledgers.{asked_of, fresh_of, told_of, unbegun_of}
use Rattle.cluster_state.proofs.MergingPaths.{two_parts, three_parts}
use Rattle.cluster_state.proofs.MergingStill.{stand_shown, stand_kept, all_keep}
use Rattle.cluster_state.proofs.MetStands.{on_any, behind, run_behind, met_as_told, now_behind, fails_as_told}
use Rattle.cluster_copies.proofs.CopyPaths.{can_begin, copy_path, copy_turn, copy_begun}
use Rattle.cluster_copies.proofs.TakingOver.{taken_by}
use Rattle.cluster_copies.proofs.JobMerges.{begun_stand}
use Rattle.cluster_copies.proofs.Calls.{call_of, ledger_room, can_tell, met_stands, altered_files, CopyCall, copy_unbegun, copy_starts, copy_primary, copy_behind, copy_older, copy_newest, copy_node, copy_source, copy_rule, copy_fails, copy_fail_turn, no_copy_path}
use Rattle.cluster_state.proofs.KeptOthers.{all_kept, but_job}
use Rattle.cluster_copies.proofs.KeptJobs.{altered_tells, begun_tells}
use Rattle.cluster_copies.proofs.copies.begin_copy.Goals as goal

pub is_fresh-requires : goal.is_fresh-requires
is_fresh-requires g c = asked_of (λ (l : Log). entries_of_line c.args.at (printed l) ≡ []) c.cluster.view_is c.book-book.ensures.log c.requires.fresh

pub begin_in-requires : goal.begin_in-requires
begin_in-requires g c = can_begin g.D.Dir.cells c.args.cluster.now _ _ _ _ c.args.p c.args.n c.cluster.view_is c.requires.running (two_parts c.cluster.invariant) c.requires.source c.requires.node c.requires.primary c.requires.replica c.requires.behind

pub must_be_planned-requires-clause-count : goal.must_be_planned-requires-clause-count
must_be_planned-requires-clause-count g c =
    (ledger_room g.D.Dir.cells g.D.FaultDir.planned c.args.cluster.now c.cluster.inside.ledger c.met_before.new.ledger c.cluster.inside.places.items c.cluster.inside.tasks 2 c.cluster.view_is c.requires.running c.cluster.invariant c.in_ok-before.ensures.nodes c.as_slice-met.ensures.value c.in_ok-before.ensures.met c.in_ok-before.ensures.room c.in_ok-before.ensures.few).count ∙ sym c.book.ensures.nodes

pub must_be_planned-requires-clause-places : goal.must_be_planned-requires-clause-places
must_be_planned-requires-clause-places g c =
    c.in_ok-begun.ensures.count ∙ ((ledger_room g.D.Dir.cells g.D.FaultDir.planned c.args.cluster.now c.cluster.inside.ledger c.met_before.new.ledger c.cluster.inside.places.items c.cluster.inside.tasks 2 c.cluster.view_is c.requires.running c.cluster.invariant c.in_ok-before.ensures.nodes c.as_slice-met.ensures.value c.in_ok-before.ensures.met c.in_ok-before.ensures.room c.in_ok-before.ensures.few).nodes ∙ sym c.book.ensures.nodes)

pub note_copying-requires-clause-tells : goal.note_copying-requires-clause-tells
note_copying-requires-clause-tells g c =
    can_tell g.D.FaultDir.planned 2 c.begin_in.new.places.items (ledger_room g.D.Dir.cells g.D.FaultDir.planned c.args.cluster.now c.cluster.inside.ledger c.met_before.new.ledger c.cluster.inside.places.items c.cluster.inside.tasks 2 c.cluster.view_is c.requires.running c.cluster.invariant c.in_ok-before.ensures.nodes c.as_slice-met.ensures.value c.in_ok-before.ensures.met c.in_ok-before.ensures.room c.in_ok-before.ensures.few) (omega arith) c.in_ok-begun.ensures.count
    (subst (λ (l : Log). ArePlanned 1 c.as_slice-met.result.now (map (met_in g.D.FaultDir.planned) c.begin_in.new.places.items) (printed l)) c.book.ensures.log c.in_ok-must_be_planned.ensures)
    (subst (λ (l : Log). is_answered c.args.at (printed l) ≡ false) (sym c.in_ok-before.ensures.log) (fresh_of c.book-book.ensures.log c.is_fresh.ensures).replied)

pub note_copying-requires-clause-rule : goal.note_copying-requires-clause-rule
note_copying-requires-clause-rule g c =
    let k : CopyCall g.D.Dir.cells c.args.cluster.now c.cluster.inside.ledger c.met_before.new.ledger c.cluster.inside.places.items c.cluster.inside.tasks c.args.at c.args.p c.args.n (record { 0 = c.newest.result }) = record {
      call = call_of c.cluster.view_is c.requires.running c.cluster.invariant c.in_ok-before.ensures.log c.in_ok-before.ensures.nodes c.in_ok-before.ensures.cut;
      unbegun = unbegun_of (fresh_of c.book-book.ensures.log c.is_fresh.ensures);
      node_p = c.requires.source;
      node = c.requires.node;
      primary = c.requires.primary;
      replica = c.requires.replica;
      behind = c.requires.behind;
      older = c.requires.older;
      newest = told_of c.book-book.ensures.log newest_version c.newest.ensures;
    } in
    copy_rule k c.as_slice-met.result.now (map (met_in g.D.FaultDir.planned) c.begin_in.new.places.items)

pub note_copying-requires-clause-turn : goal.note_copying-requires-clause-turn
note_copying-requires-clause-turn g c =
    let k : CopyCall g.D.Dir.cells c.args.cluster.now c.cluster.inside.ledger c.met_before.new.ledger c.cluster.inside.places.items c.cluster.inside.tasks c.args.at c.args.p c.args.n (record { 0 = c.newest.result }) = record {
      call = call_of c.cluster.view_is c.requires.running c.cluster.invariant c.in_ok-before.ensures.log c.in_ok-before.ensures.nodes c.in_ok-before.ensures.cut;
      unbegun = unbegun_of (fresh_of c.book-book.ensures.log c.is_fresh.ensures);
      node_p = c.requires.source;
      node = c.requires.node;
      primary = c.requires.primary;
      replica = c.requires.replica;
      behind = c.requires.behind;
      older = c.requires.older;
      newest = told_of c.book-book.ensures.log newest_version c.newest.ensures;
    } in
    copy_starts k c.as_slice-met.result.now (map (met_in g.D.FaultDir.planned) c.begin_in.new.places.items)

pub note_copying-requires-in-Failed-clause-tells : goal.note_copying-requires-in-Failed-clause-tells
note_copying-requires-in-Failed-clause-tells g c =
    can_tell g.D.FaultDir.planned 2 c.begin_in.new.places.items (ledger_room g.D.Dir.cells g.D.FaultDir.planned c.args.cluster.now c.cluster.inside.ledger c.met_before.new.ledger c.cluster.inside.places.items c.cluster.inside.tasks 2 c.cluster.view_is c.requires.running c.cluster.invariant c.in_ok-before.ensures.nodes c.as_slice-met.ensures.value c.in_ok-before.ensures.met c.in_ok-before.ensures.room c.in_ok-before.ensures.few) (omega arith) c.in_ok-begun.ensures.count
    (subst (λ (l : Log). ArePlanned 1 c.as_slice-met.result.now (map (met_in g.D.FaultDir.planned) c.begin_in.new.places.items) (printed l)) c.book.ensures.log c.in_ok-must_be_planned.ensures)
    (subst (λ (l : Log). is_answered c.args.at (printed l) ≡ false) (sym c.in_ok-before.ensures.log) (fresh_of c.book-book.ensures.log c.is_fresh.ensures).replied)

pub note_copying-requires-in-Failed-clause-rule : goal.note_copying-requires-in-Failed-clause-rule
note_copying-requires-in-Failed-clause-rule g c =
    let k : CopyCall g.D.Dir.cells c.args.cluster.now c.cluster.inside.ledger c.met_before.new.ledger c.cluster.inside.places.items c.cluster.inside.tasks c.args.at c.args.p c.args.n (record { 0 = c.newest.result }) = record {
      call = call_of c.cluster.view_is c.requires.running c.cluster.invariant c.in_ok-before.ensures.log c.in_ok-before.ensures.nodes c.in_ok-before.ensures.cut;
      unbegun = unbegun_of (fresh_of c.book-book.ensures.log c.is_fresh.ensures);
      node_p = c.requires.source;
      node = c.requires.node;
      primary = c.requires.primary;
      replica = c.requires.replica;
      behind = c.requires.behind;
      older = c.requires.older;
      newest = told_of c.book-book.ensures.log newest_version c.newest.ensures;
    } in
    copy_rule k c.as_slice-met.result.now (map (met_in g.D.FaultDir.planned) c.begin_in.new.places.items)

pub note_copying-requires-in-Failed-clause-turn : goal.note_copying-requires-in-Failed-clause-turn
note_copying-requires-in-Failed-clause-turn g c =
    let k : CopyCall g.D.Dir.cells c.args.cluster.now c.cluster.inside.ledger c.met_before.new.ledger c.cluster.inside.places.items c.cluster.inside.tasks c.args.at c.args.p c.args.n (record { 0 = c.newest.result }) = record {
      call = call_of c.cluster.view_is c.requires.running c.cluster.invariant c.in_ok-before.ensures.log c.in_ok-before.ensures.nodes c.in_ok-before.ensures.cut;
      unbegun = unbegun_of (fresh_of c.book-book.ensures.log c.is_fresh.ensures);
      node_p = c.requires.source;
      node = c.requires.node;
      primary = c.requires.primary;
      replica = c.requires.replica;
      behind = c.requires.behind;
      older = c.requires.older;
      newest = told_of c.book-book.ensures.log newest_version c.newest.ensures;
    } in
    copy_starts k c.as_slice-met.result.now (map (met_in g.D.FaultDir.planned) c.begin_in.new.places.items)

pub keep-requires-clause-turn : goal.keep-requires-clause-turn
keep-requires-clause-turn g c =
    let k : CopyCall g.D.Dir.cells c.args.cluster.now c.cluster.inside.ledger c.met_before.new.ledger c.cluster.inside.places.items c.cluster.inside.tasks c.args.at c.args.p c.args.n (record { 0 = c.newest.result }) = record {
      call = call_of c.cluster.view_is c.requires.running c.cluster.invariant c.in_ok-before.ensures.log c.in_ok-before.ensures.nodes c.in_ok-before.ensures.cut;
      unbegun = unbegun_of (fresh_of c.book-book.ensures.log c.is_fresh.ensures);
      node_p = c.requires.source;
      node = c.requires.node;
      primary = c.requires.primary;
      replica = c.requires.replica;
      behind = c.requires.behind;
      older = c.requires.older;
      newest = told_of c.book-book.ensures.log newest_version c.newest.ensures;
    } in (
      refl,
      copy_turn (run_behind c.args.at c.as_slice-met.result.now (map (met_in g.D.FaultDir.planned) c.begin_in.new.places.items) c.met_before.new.ledger c.args.cluster.now) (behind c.args.at c.as_slice-met.result.now (map (met_in g.D.FaultDir.planned) c.begin_in.new.places.items) c.met_before.new.ledger) (behind c.args.at c.as_slice-met.result.now (map (met_in g.D.FaultDir.planned) c.begin_in.new.places.items) c.met_before.new.ledger) c.note_copying.new.ledger c.args.at c.args.n (record { 0 = c.newest.result }) refl refl c.note_copying.ensures.log c.note_copying.ensures.nodes
          (copy_node k c.as_slice-met.result.now (map (met_in g.D.FaultDir.planned) c.begin_in.new.places.items)) (copy_newest k c.as_slice-met.result.now (map (met_in g.D.FaultDir.planned) c.begin_in.new.places.items)) (copy_older k c.as_slice-met.result.now (map (met_in g.D.FaultDir.planned) c.begin_in.new.places.items)),
    )

pub invariant_of-cluster-in-Done : goal.invariant_of-cluster-in-Done
invariant_of-cluster-in-Done g c =
    let k : CopyCall g.D.Dir.cells c.args.cluster.now c.cluster.inside.ledger c.met_before.new.ledger c.cluster.inside.places.items c.cluster.inside.tasks c.args.at c.args.p c.args.n (record { 0 = c.newest.result }) = record {
      call = call_of c.cluster.view_is c.requires.running c.cluster.invariant c.in_ok-before.ensures.log c.in_ok-before.ensures.nodes c.in_ok-before.ensures.cut;
      unbegun = unbegun_of (fresh_of c.book-book.ensures.log c.is_fresh.ensures);
      node_p = c.requires.source;
      node = c.requires.node;
      primary = c.requires.primary;
      replica = c.requires.replica;
      behind = c.requires.behind;
      older = c.requires.older;
      newest = told_of c.book-book.ensures.log newest_version c.newest.ensures;
    } in
    let st = met_stands k.call c.args.at c.as_slice-met.result.now (map (met_in g.D.FaultDir.planned) c.begin_in.new.places.items) in
    let b = (subst (λ (x : Went ℕ). ByWent (λ number. BeginsIn g.D.Dir.cells c.args.p.0 c.args.n.0 number c.cluster.inside.places.items c.begin_in.new.places.items) (AltersIn g.D.Dir.cells c.args.p.0 c.cluster.inside.places.items c.begin_in.new.places.items) x) c.in-Done.is c.in_ok-begun.ensures.went) in
    let begun = stand_shown c.cluster.inside.tasks c.cluster.inside.places.items c.begin_in.new.places.items (behind c.args.at c.as_slice-met.result.now (map (met_in g.D.FaultDir.planned) c.begin_in.new.places.items) c.met_before.new.ledger) (behind c.args.at c.as_slice-met.result.now (map (met_in g.D.FaultDir.planned) c.begin_in.new.places.items) c.met_before.new.ledger) c.note_copying.new.ledger c.args.at (Copying c.args.n (record { 0 = c.newest.result })) refl refl refl c.note_copying.ensures.log c.note_copying.ensures.nodes c.note_copying.ensures.cut refl
    (begun_stand g.D.Dir.cells (run_behind c.args.at c.as_slice-met.result.now (map (met_in g.D.FaultDir.planned) c.begin_in.new.places.items) c.met_before.new.ledger c.args.cluster.now) c.args.cluster.now.ended (behind c.args.at c.as_slice-met.result.now (map (met_in g.D.FaultDir.planned) c.begin_in.new.places.items) c.met_before.new.ledger) c.cluster.inside.places.items c.begin_in.new.places.items c.args.p c.args.n c.in-Done.job refl c.requires.running (λ e. (st.0, st.1)) (copy_source k c.as_slice-met.result.now (map (met_in g.D.FaultDir.planned) c.begin_in.new.places.items)) (copy_node k c.as_slice-met.result.now (map (met_in g.D.FaultDir.planned) c.begin_in.new.places.items)) (copy_primary k c.as_slice-met.result.now (map (met_in g.D.FaultDir.planned) c.begin_in.new.places.items)) b) st.2 in
    λ running. three_parts
    (copy_path g.D.Dir.cells (run_behind c.args.at c.as_slice-met.result.now (map (met_in g.D.FaultDir.planned) c.begin_in.new.places.items) c.met_before.new.ledger c.args.cluster.now) c.args.cluster.now.ended (behind c.args.at c.as_slice-met.result.now (map (met_in g.D.FaultDir.planned) c.begin_in.new.places.items) c.met_before.new.ledger) (behind c.args.at c.as_slice-met.result.now (map (met_in g.D.FaultDir.planned) c.begin_in.new.places.items) c.met_before.new.ledger) c.note_copying.new.ledger c.keep.new.self c.cluster.inside.places.items c.begin_in.new.places.items c.args.at c.args.p c.args.n (record { 0 = c.newest.result }) c.in-Done.job
    refl c.requires.running (λ e. (st.0, st.1)) refl refl c.note_copying.ensures.log c.note_copying.ensures.nodes c.note_copying.ensures.legal c.note_copying.ensures.turns c.keep.ensures.log c.keep.ensures.nodes c.files_last.ensures
    (copy_unbegun k c.as_slice-met.result.now (map (met_in g.D.FaultDir.planned) c.begin_in.new.places.items)) (copy_rule k c.as_slice-met.result.now (map (met_in g.D.FaultDir.planned) c.begin_in.new.places.items)) (copy_source k c.as_slice-met.result.now (map (met_in g.D.FaultDir.planned) c.begin_in.new.places.items)) (copy_node k c.as_slice-met.result.now (map (met_in g.D.FaultDir.planned) c.begin_in.new.places.items)) (copy_primary k c.as_slice-met.result.now (map (met_in g.D.FaultDir.planned) c.begin_in.new.places.items)) (copy_behind k c.as_slice-met.result.now (map (met_in g.D.FaultDir.planned) c.begin_in.new.places.items)) (copy_older k c.as_slice-met.result.now (map (met_in g.D.FaultDir.planned) c.begin_in.new.places.items)) b)
    (stand_kept c.cluster.inside.tasks c.begin_in.new.places.items c.begin_in.new.places.items c.note_copying.new.ledger c.keep.new.self (JobBegun c.args.at.line c.args.n c.in-Done.job (Some (record { 0 = c.newest.result })) (Some c.args.at)) c.keep.ensures.log c.keep.ensures.nodes c.keep.ensures.cut refl
    (all_keep _ c.cluster.inside.tasks _ _ _ begun) begun)

pub returns-in-Done-clause-ok : goal.returns-in-Done-clause-ok
returns-in-Done-clause-ok g c =
    copy_begun c.args.cluster.now _ _ c.args.at c.args.n (record { 0 = c.newest.result }) c.in-Done.job refl
    (c.keep.ensures.nodes ∙ (c.note_copying.ensures.nodes ∙ (c.in_ok-before.ensures.nodes ∙ ap (λ (r : Run). r.nodes) c.cluster.view_is))) c.requires.node
    (ap (λ (k : ℕ). let v : Version = record { 0 = k } in v) (told_of c.book-book.ensures.log newest_version c.newest.ensures ∙ ap (λ (r : Run). newest_version (printed r.log)) c.cluster.view_is))
    (c.keep.ensures.log ∙ ap (λ (l : Log). kept (JobBegun c.args.at.line c.args.n c.in-Done.job (Some (record { 0 = c.newest.result })) (Some c.args.at)) ∷ l)
    (c.note_copying.ensures.log ∙ ap (λ (l : Log). shown c.args.at (Copying c.args.n (record { 0 = c.newest.result })) ∷ l) (met_as_told g.D.FaultDir.planned c.cluster.inside.places.items c.begin_in.new.places.items c.args.cluster.now _ c.cluster.inside.ledger c.met_before.new.ledger c.args.at c.as_slice-met.result.now (map (met_in g.D.FaultDir.planned) c.begin_in.new.places.items)
    c.cluster.view_is c.in_ok-before.ensures.log (c.as_slice-met.ensures.value ∙ c.in_ok-before.ensures.met) refl refl refl)))
    (taken_by g.D.Dir.cells c.args.cluster.now _ _ c.cluster.inside.ledger c.cluster.inside.places.items c.begin_in.new.places.items c.args.p c.args.n c.in-Done.job c.cluster.view_is c.requires.running (two_parts c.cluster.invariant) c.files_last.ensures refl refl c.requires.source c.requires.node (subst (λ (x : Went ℕ). ByWent (λ number. BeginsIn g.D.Dir.cells c.args.p.0 c.args.n.0 number c.cluster.inside.places.items c.begin_in.new.places.items) (AltersIn g.D.Dir.cells c.args.p.0 c.cluster.inside.places.items c.begin_in.new.places.items) x) c.in-Done.is c.in_ok-begun.ensures.went))

pub returns-in-Done-clause-rest : goal.returns-in-Done-clause-rest
returns-in-Done-clause-rest g c =
    but_job c.args.cluster.now _ _ _ _ _ _ _ c.cluster.inside.places.items c.begin_in.new.places.items (ap (λ (x : Run). x.rest) c.cluster.view_is) refl (c.keep.ensures.cut ∙ (c.note_copying.ensures.cut ∙ c.in_ok-before.ensures.cut)) c.args.n.0
    (begun_tells g.D.Dir.cells c.args.p.0 c.args.n.0 c.in-Done.job c.cluster.inside.places.items c.begin_in.new.places.items (subst (λ (x : Went ℕ). ByWent (λ number. BeginsIn g.D.Dir.cells c.args.p.0 c.args.n.0 number c.cluster.inside.places.items c.begin_in.new.places.items) (AltersIn g.D.Dir.cells c.args.p.0 c.cluster.inside.places.items c.begin_in.new.places.items) x) c.in-Done.is c.in_ok-begun.ensures.went))

pub must_have_risen-requires : goal.must_have_risen-requires
must_have_risen-requires g c =
    let r = ledger_room g.D.Dir.cells g.D.FaultDir.planned c.args.cluster.now c.cluster.inside.ledger c.met_before.new.ledger c.cluster.inside.places.items c.cluster.inside.tasks 2 c.cluster.view_is c.requires.running c.cluster.invariant c.in_ok-before.ensures.nodes c.as_slice-met.ensures.value c.in_ok-before.ensures.met c.in_ok-before.ensures.room c.in_ok-before.ensures.few in
    c.in_ok-begun.ensures.count ∙ (r.nodes ∙ sym r.count)

pub show-requires-clause-rule : goal.show-requires-clause-rule
show-requires-clause-rule g c =
    let k : CopyCall g.D.Dir.cells c.args.cluster.now c.cluster.inside.ledger c.met_before.new.ledger c.cluster.inside.places.items c.cluster.inside.tasks c.args.at c.args.p c.args.n (record { 0 = c.newest.result }) = record {
      call = call_of c.cluster.view_is c.requires.running c.cluster.invariant c.in_ok-before.ensures.log c.in_ok-before.ensures.nodes c.in_ok-before.ensures.cut;
      unbegun = unbegun_of (fresh_of c.book-book.ensures.log c.is_fresh.ensures);
      node_p = c.requires.source;
      node = c.requires.node;
      primary = c.requires.primary;
      replica = c.requires.replica;
      behind = c.requires.behind;
      older = c.requires.older;
      newest = told_of c.book-book.ensures.log newest_version c.newest.ensures;
    } in
    subst (λ (x : ℕ × Log). KeepsRule x.0 (printed x.1) c.args.at (Refused DiskFault)) (λ i. (sym c.note_copying-in-Failed.ensures.nodes i, sym c.note_copying-in-Failed.ensures.log i)) (copy_fails k c.as_slice-met.result.now (map (met_in g.D.FaultDir.planned) c.begin_in.new.places.items) c.in_ok-must_have_risen-in-Failed.ensures)

pub show-requires-clause-turn : goal.show-requires-clause-turn
show-requires-clause-turn g c =
    let k : CopyCall g.D.Dir.cells c.args.cluster.now c.cluster.inside.ledger c.met_before.new.ledger c.cluster.inside.places.items c.cluster.inside.tasks c.args.at c.args.p c.args.n (record { 0 = c.newest.result }) = record {
      call = call_of c.cluster.view_is c.requires.running c.cluster.invariant c.in_ok-before.ensures.log c.in_ok-before.ensures.nodes c.in_ok-before.ensures.cut;
      unbegun = unbegun_of (fresh_of c.book-book.ensures.log c.is_fresh.ensures);
      node_p = c.requires.source;
      node = c.requires.node;
      primary = c.requires.primary;
      replica = c.requires.replica;
      behind = c.requires.behind;
      older = c.requires.older;
      newest = told_of c.book-book.ensures.log newest_version c.newest.ensures;
    } in
    subst (λ (l : Log). InTurn (printed l) c.args.at (Refused DiskFault)) (sym c.note_copying-in-Failed.ensures.log) (copy_fail_turn k c.as_slice-met.result.now (map (met_in g.D.FaultDir.planned) c.begin_in.new.places.items))

pub invariant_of-cluster-in-Failed : goal.invariant_of-cluster-in-Failed
invariant_of-cluster-in-Failed g c =
    let k : CopyCall g.D.Dir.cells c.args.cluster.now c.cluster.inside.ledger c.met_before.new.ledger c.cluster.inside.places.items c.cluster.inside.tasks c.args.at c.args.p c.args.n (record { 0 = c.newest.result }) = record {
      call = call_of c.cluster.view_is c.requires.running c.cluster.invariant c.in_ok-before.ensures.log c.in_ok-before.ensures.nodes c.in_ok-before.ensures.cut;
      unbegun = unbegun_of (fresh_of c.book-book.ensures.log c.is_fresh.ensures);
      node_p = c.requires.source;
      node = c.requires.node;
      primary = c.requires.primary;
      replica = c.requires.replica;
      behind = c.requires.behind;
      older = c.requires.older;
      newest = told_of c.book-book.ensures.log newest_version c.newest.ensures;
    } in
    λ running. no_copy_path k c.as_slice-met.result.now (map (met_in g.D.FaultDir.planned) c.begin_in.new.places.items) c.show.new.self c.begin_in.new.places.items c.note_copying-in-Failed.ensures.legal c.note_copying-in-Failed.ensures.turns c.in_ok-must_have_risen-in-Failed.ensures
    (c.show.ensures.log ∙ ap (λ (l : Log). shown c.args.at (Refused DiskFault) ∷ l) c.note_copying-in-Failed.ensures.log) (c.show.ensures.nodes ∙ c.note_copying-in-Failed.ensures.nodes) (c.show.ensures.cut ∙ c.note_copying-in-Failed.ensures.cut) (subst (λ (x : Went ℕ). ByWent (λ number. BeginsIn g.D.Dir.cells c.args.p.0 c.args.n.0 number c.cluster.inside.places.items c.begin_in.new.places.items) (AltersIn g.D.Dir.cells c.args.p.0 c.cluster.inside.places.items c.begin_in.new.places.items) x) c.in-Failed.is c.in_ok-begun.ensures.went)

pub returns-clause-ok : goal.returns-clause-ok
returns-clause-ok g c =
    record {
      now = now_behind g.D.FaultDir.planned c.cluster.inside.places.items c.begin_in.new.places.items c.args.cluster.now _ c.cluster.inside.ledger c.met_before.new.ledger c.show.new.self c.args.at c.as_slice-met.result.now (map (met_in g.D.FaultDir.planned) c.begin_in.new.places.items)
          (λ l. shown c.args.at (Refused DiskFault) ∷ shown c.args.at (Copying c.args.n (newest_of (printed c.args.cluster.now.log))) ∷ l) c.cluster.view_is c.in_ok-before.ensures.log c.in_ok-before.ensures.nodes
          (c.show.ensures.log ∙ (ap (λ (l : Log). shown c.args.at (Refused DiskFault) ∷ l) c.note_copying-in-Failed.ensures.log
          ∙ ap (λ (x : Version). shown c.args.at (Refused DiskFault) ∷ shown c.args.at (Copying c.args.n x) ∷ with_met false c.args.at 1 c.as_slice-met.result.now (map (met_in g.D.FaultDir.planned) c.begin_in.new.places.items) c.met_before.new.ledger.log) (ap (λ (k : ℕ). let v : Version = record { 0 = k } in v) (told_of c.book-book.ensures.log newest_version c.newest.ensures ∙ ap (λ (r : Run). newest_version (printed r.log)) c.cluster.view_is)))) (c.show.ensures.nodes ∙ c.note_copying-in-Failed.ensures.nodes) (c.as_slice-met.ensures.value ∙ c.in_ok-before.ensures.met) refl refl refl;
      files = altered_files c.args.cluster.now _ c.cluster.inside.places.items c.begin_in.new.places.items (sym (ap (λ (r : Run). r.rest.jobs) c.cluster.view_is)) refl g.D.Dir.cells c.args.p.0 c.args.n.0 (subst (λ (x : Went ℕ). ByWent (λ number. BeginsIn g.D.Dir.cells c.args.p.0 c.args.n.0 number c.cluster.inside.places.items c.begin_in.new.places.items) (AltersIn g.D.Dir.cells c.args.p.0 c.cluster.inside.places.items c.begin_in.new.places.items) x) c.in-Failed.is c.in_ok-begun.ensures.went);
      failed = record {
        p = c.args.p;
        primary = c.requires.primary;
        risen = fails_as_told g.D.FaultDir.planned c.cluster.inside.places.items c.begin_in.new.places.items c.args.cluster.now _ c.cluster.inside.ledger c.args.p c.as_slice-met.result.now (map (met_in g.D.FaultDir.planned) c.begin_in.new.places.items) c.cluster.view_is
            (c.as_slice-met.ensures.value ∙ c.in_ok-before.ensures.met) refl refl refl c.in_ok-must_have_risen-in-Failed.ensures;
      };
    }

pub returns-clause-rest : goal.returns-clause-rest
returns-clause-rest g c =
    all_kept c.args.cluster.now (record { ended = false; nodes = c.show.new.self.nodes; log = c.show.new.self.log; rest = _ }) _ _ _ _ _ _ c.cluster.inside.places.items c.begin_in.new.places.items (ap (λ (x : Run). x.rest) c.cluster.view_is) refl (c.show.ensures.cut ∙ (c.note_copying-in-Failed.ensures.cut ∙ c.in_ok-before.ensures.cut))
    (altered_tells g.D.Dir.cells c.args.p.0 c.cluster.inside.places.items c.begin_in.new.places.items (subst (λ (x : Went ℕ). ByWent (λ number. BeginsIn g.D.Dir.cells c.args.p.0 c.args.n.0 number c.cluster.inside.places.items c.begin_in.new.places.items) (AltersIn g.D.Dir.cells c.args.p.0 c.cluster.inside.places.items c.begin_in.new.places.items) x) c.in-Failed.is c.in_ok-begun.ensures.went))

pub invariant_of-cluster : goal.invariant_of-cluster
invariant_of-cluster g c =
    λ ended. absurd (true≢false ended)

pub returns-in_err-before-clause-err : goal.returns-in_err-before-clause-err
returns-in_err-before-clause-err g c =
    on_any c.from_residual.result (record { ended = refl; nodes = c.met_before.ensures.nodes ∙ ap (λ (x : Run). x.nodes) c.cluster.view_is; log = c.met_before.ensures.log ∙ ap (λ (x : Run). x.log) c.cluster.view_is })

pub invariant_of-cluster-in_err-begun : goal.invariant_of-cluster-in_err-begun
invariant_of-cluster-in_err-begun g c =
    λ ended. absurd (true≢false ended)

pub returns-in_err-begun-clause-err : goal.returns-in_err-begun-clause-err
returns-in_err-begun-clause-err g c =
    on_any c.from_residual-in_err-begun.result (record { ended = refl; nodes = c.in_ok-before.ensures.nodes ∙ ap (λ (x : Run). x.nodes) c.cluster.view_is; log = c.in_ok-before.ensures.log ∙ ap (λ (x : Run). x.log) c.cluster.view_is })

pub invariant_of-cluster-in_err-must_be_planned : goal.invariant_of-cluster-in_err-must_be_planned
invariant_of-cluster-in_err-must_be_planned g c =
    λ ended. absurd (true≢false ended)

pub returns-in_err-must_be_planned-clause-err : goal.returns-in_err-must_be_planned-clause-err
returns-in_err-must_be_planned-clause-err g c =
    on_any c.from_residual-in_err-must_be_planned.result (record { ended = refl; nodes = c.in_ok-before.ensures.nodes ∙ ap (λ (x : Run). x.nodes) c.cluster.view_is; log = c.in_ok-before.ensures.log ∙ ap (λ (x : Run). x.log) c.cluster.view_is })

pub invariant_of-cluster-in_err-must_have_risen-in-Failed : goal.invariant_of-cluster-in_err-must_have_risen-in-Failed
invariant_of-cluster-in_err-must_have_risen-in-Failed g c =
    λ ended. absurd (true≢false ended)

pub returns-in_err-must_have_risen-in-Failed-clause-err : goal.returns-in_err-must_have_risen-in-Failed-clause-err
returns-in_err-must_have_risen-in-Failed-clause-err g c =
    on_any c.from_residual-in_err-must_have_risen-in-Failed.result (record { ended = refl; nodes = c.in_ok-before.ensures.nodes ∙ ap (λ (x : Run). x.nodes) c.cluster.view_is; log = c.in_ok-before.ensures.log ∙ ap (λ (x : Run). x.log) c.cluster.view_is })
