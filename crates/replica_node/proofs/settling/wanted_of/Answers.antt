use Rattle.std.proofs.Common.{◌≡◌, ◌∙◌, Some, Bor, sym, ap}
use Rattle.std.specs.Option.{option_map}
use Rattle.copy_state.specs.declared.state.CopyState.{CopyState}
use Rattle.copy_job.specs.Jobs.{Job}
use Rattle.replica_node.specs.Merges.{copy_at}
use Rattle.replica_node.proofs.Wanted.{wanted_first, wanted_segment}
use Rattle.replica_node.proofs.settling.wanted_of.Goals as goal

pub unreachable-requires-in_default-first : goal.unreachable-requires-in_default-first
unreachable-requires-in_default-first g c =
    let looked : copy_at c.args.job c.args.parts.now.copies.running ≡ Some c.in-Some.copy.now = sym c.copy.ensures ∙ ap (option_map (λ (b : Bor Job). b.now)) c.in-Some.is in
    let files : c.deref.result.now ≡ c.in-Some.copy.now.want.files = c.deref.ensures.value ∙ c.in_ok-files.ensures ∙ c.as_slice.ensures ∙ ap (λ (w : CopyState). w.files) c.want.ensures in
    wanted_first g.D.Dir.cells c.args.parts.now c.requires.whole c.args.job c.in-Some.copy.now looked c.deref.result.now files (sym c.in_default-first.ensures.value)

pub unreachable-requires-in_default-segment_of_file : goal.unreachable-requires-in_default-segment_of_file
unreachable-requires-in_default-segment_of_file g c =
    let looked : copy_at c.args.job c.args.parts.now.copies.running ≡ Some c.in-Some.copy.now = sym c.copy.ensures ∙ ap (option_map (λ (b : Bor Job). b.now)) c.in-Some.is in
    let files : c.deref.result.now ≡ c.in-Some.copy.now.want.files = c.deref.ensures.value ∙ c.in_ok-files.ensures ∙ c.as_slice.ensures ∙ ap (λ (w : CopyState). w.files) c.want.ensures in
    let s = wanted_segment g.D.Dir.cells c.args.parts.now c.requires.whole c.args.job c.in-Some.copy.now looked c.deref.result.now files c.in-Some-first.first.now (sym c.in-Some-first.ensures.value) in
    c.in_default-segment_of_file.not-Some s.0 (c.segment_of_file.ensures.all s.0 s.1)
