use Rattle.std.proofs.Common.{◌≡◌, ◌∙◌, refl, ap, sym, subst, arith, length, List, [], Some}
use Rattle.copy_state.specs.States.{meta_names}
use Rattle.copy_job.specs.Jobs.{Job}
use Rattle.file_deleter.proofs.Keeping.{moves_refl}
use Rattle.replica_node.specs.Merges.{running_names, AreCopiesApart}
use Rattle.replica_node.proofs.Merging.{apart_without}
use Rattle.replica_node.specs.Overlapping.{copies_beside, first_overlapping}
use Rattle.replica_node.proofs.Overlaps.{first_runs, fewer_without, beside_without, none_beside, counted_here, counted_without, moved_without}
use Rattle.replica_node.proofs.overlapping.end_overlapping.Goals as goal

pub loop-number-init : goal.loop-number-init
loop-number-init g c = record {
  rest = refl;
  apart = c.requires.apart;
  counted = c.requires.counted;
  moves = moves_refl [] (running_names c.args.running.now) c.args.files.now (g.D.Dir.cells c.args.dir.now);
  later = omega arith;
}

pub take-copy-requires : goal.take-copy-requires
take-copy-requires g c = first_runs (meta_names c.args.wanted.now) c.loop-number.running c.in-Some.number (ap (first_overlapping (meta_names c.args.wanted.now)) (sym c.items.ensures) ∙ sym c.first_copying.ensures ∙ c.in-Some.is)

pub end-requires : goal.end-requires
end-requires g c = counted_here c.in-Some.number c.loop-number.running c.take-copy.result c.loop-number.files (sym c.take-copy.ensures.copy) c.loop-number.invariant.counted

pub loop-number-preserved : goal.loop-number-preserved
loop-number-preserved g c =
    let names = meta_names c.args.wanted.now in
    let first : first_overlapping names c.loop-number.running ≡ Some c.in-Some.number = ap (first_overlapping names) (sym c.items.ensures) ∙ sym c.first_copying.ensures ∙ c.in-Some.is in
    record {
      rest = ap (copies_beside names) c.take-copy.ensures.rest ∙ beside_without names c.loop-number.running c.in-Some.number c.loop-number.invariant.apart first ∙ c.loop-number.invariant.rest;
      apart = subst AreCopiesApart (sym c.take-copy.ensures.rest) (apart_without c.in-Some.number c.loop-number.running c.loop-number.invariant.apart);
      counted = counted_without c.in-Some.number c.loop-number.running c.take-copy.new.self c.take-copy.result c.loop-number.files c.end.new.files _ _ (sym c.take-copy.ensures.copy) c.take-copy.ensures.rest c.loop-number.invariant.counted c.end.ensures.lets_go;
      moves = moved_without c.args.running.now c.in-Some.number c.loop-number.running c.take-copy.new.self c.take-copy.result c.args.files.now c.loop-number.files c.end.new.files (g.D.Dir.cells c.args.dir.now) (g.D.Dir.cells c.loop-number.dir) (g.D.Dir.cells c.end.new.dir)
          (sym c.take-copy.ensures.copy) c.take-copy.ensures.rest c.loop-number.invariant.moves c.end.ensures.lets_go;
      later = omega (arith, c.loop-number.invariant.later, c.end.ensures.later);
    }

pub loop-number-smaller : goal.loop-number-smaller
loop-number-smaller g c =
    let names = meta_names c.args.wanted.now in
    let first : first_overlapping names c.loop-number.running ≡ Some c.in-Some.number = ap (first_overlapping names) (sym c.items.ensures) ∙ sym c.first_copying.ensures ∙ c.in-Some.is in
    let few = fewer_without c.in-Some.number c.loop-number.running (first_runs names c.loop-number.running c.in-Some.number first) in
    omega (arith, few, ap (λ (cs : List Job). length cs) c.take-copy.ensures.rest)

pub returns-clause-rest : goal.returns-clause-rest
returns-clause-rest g c =
    let names = meta_names c.args.wanted.now in
    sym (none_beside names c.loop-number.running (ap (first_overlapping names) (sym c.items.ensures) ∙ sym c.in_default.ensures)) ∙ c.loop-number.invariant.rest
