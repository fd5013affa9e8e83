use Rattle.std.proofs.Common.{◌≡◌, ◌∙◌, ◌≤◌, true, sym, ap, subst, arith, List, All, take}
use Rattle.std.proofs.lemmas.List.{take_all}
use Rattle.disk_model.specs.Disk.{Name, is_among}
use Rattle.file_deleter.specs.Holdings.{count_of, times}
use Rattle.file_deleter.specs.Moves.{KeepsFiles, LetsGo}
use Rattle.index_primary.specs.Written.{names_of, ReadsSo}
use Rattle.segment_steps.specs.Given.{File}
use Rattle.index_primary.proofs.Writing.{free_at, counts_more, keeps_more, reads_more, keeps_back}
use Rattle.index_primary.proofs.write.write_all.Goals as goal

pub write_one-requires : goal.write_one-requires
write_one-requires g c = free_at c.args.made.now c.loop-i.i c.index-made-i.result c.loop-i-test.true c.index-made-i.is c.args.files.now c.loop-i.files
    (subst (λ (ns : List Name). (q : Name) → is_among ns q ≡ true → count_of c.args.files.now q ≡ 0) c.requires.names c.requires.fresh)
    (subst (λ (ns : List Name). (q : Name) → times ns q ≤ 1) c.requires.names c.requires.once) c.loop-i.invariant.counts

pub loop-i-preserved : goal.loop-i-preserved
loop-i-preserved g c = record {
  within = omega arith;
  counts = counts_more c.args.made.now c.loop-i.i c.index-made-i.result c.loop-i-test.true c.index-made-i.is c.args.files.now c.loop-i.files c.write_one.new.files c.loop-i.invariant.counts c.in-Ok.ensures.creates.counts;
  keeps = keeps_more c.args.made.now c.loop-i.i c.index-made-i.result c.loop-i-test.true c.index-made-i.is c.args.files.now c.loop-i.files c.write_one.new.files (g.D.Dir.cells c.args.dir.now) (g.D.Dir.cells c.loop-i.dir) (g.D.Dir.cells c.write_one.new.dir)
      c.loop-i.invariant.counts c.loop-i.invariant.keeps c.in-Ok.ensures.creates;
  reads = reads_more c.args.made.now c.loop-i.i c.index-made-i.result c.loop-i-test.true c.index-made-i.is c.args.files.now c.loop-i.files c.write_one.new.files (g.D.Dir.cells c.loop-i.dir) (g.D.Dir.cells c.write_one.new.dir)
      c.in-Ok.ensures.creates c.loop-i.invariant.counts c.loop-i.invariant.reads;
  later = omega (arith, c.in-Ok.ensures.later, c.loop-i.invariant.later);
}

pub release-requires : goal.release-requires
release-requires g c = record {
  each = λ q.
      let e : times (take c.loop-i.i c.args.names.now) q ≡ times (take c.loop-i.i (names_of c.args.made.now)) q = ap (λ (ns : List Name). times (take c.loop-i.i ns) q) c.requires.names in
      omega (arith, e, c.in-Err.ensures.creates.same q, c.loop-i.invariant.counts q);
}

pub returns-in-Err-clause-same : goal.returns-in-Err-clause-same
returns-in-Err-clause-same g c = λ q.
    let e : times (take c.loop-i.i c.args.names.now) q ≡ times (take c.loop-i.i (names_of c.args.made.now)) q = ap (λ (ns : List Name). times (take c.loop-i.i ns) q) c.requires.names in
    omega (arith, e, c.release.ensures.lets_go.counts q, c.in-Err.ensures.creates.same q, c.loop-i.invariant.counts q)

pub returns-in-Err-clause-only : goal.returns-in-Err-clause-only
returns-in-Err-clause-only g c = c.in-Err.ensures.in_whole (c.loop-i.invariant.keeps.whole c.requires.whole)

pub returns-in-Err-clause-later : goal.returns-in-Err-clause-later
returns-in-Err-clause-later g c = omega (arith, c.release.ensures.later, c.in-Err.ensures.later, c.loop-i.invariant.later)

pub returns-in-Err-clause-keeps : goal.returns-in-Err-clause-keeps
returns-in-Err-clause-keeps g c =
    subst (λ (ns : List Name). KeepsFiles ns c.args.files.now c.release.new.self (g.D.Dir.cells c.args.dir.now) (g.D.Dir.cells c.release.new.dir)) (sym c.requires.names)
    (keeps_back (names_of c.args.made.now) (take c.loop-i.i (names_of c.args.made.now)) c.args.files.now c.write_one.new.files c.release.new.self (g.D.Dir.cells c.args.dir.now) (g.D.Dir.cells c.write_one.new.dir) (g.D.Dir.cells c.release.new.dir)
    (λ q. c.in-Err.ensures.creates.same q ∙ c.loop-i.invariant.counts q)
    (keeps_more c.args.made.now c.loop-i.i c.index-made-i.result c.loop-i-test.true c.index-made-i.is c.args.files.now c.loop-i.files c.write_one.new.files (g.D.Dir.cells c.args.dir.now) (g.D.Dir.cells c.loop-i.dir) (g.D.Dir.cells c.write_one.new.dir)
    c.loop-i.invariant.counts c.loop-i.invariant.keeps c.in-Err.ensures.creates)
    (subst (λ (ns : List Name). LetsGo (take c.loop-i.i ns) c.write_one.new.files c.release.new.self (g.D.Dir.cells c.write_one.new.dir) (g.D.Dir.cells c.release.new.dir)) c.requires.names c.release.ensures.lets_go))

pub returns-clause-keeps : goal.returns-clause-keeps
returns-clause-keeps g c = subst (λ (ns : List Name). KeepsFiles ns c.args.files.now c.loop-i.files (g.D.Dir.cells c.args.dir.now) (g.D.Dir.cells c.loop-i.dir)) (sym c.requires.names) c.loop-i.invariant.keeps

pub returns-clause-reads : goal.returns-clause-reads
returns-clause-reads g c = subst (λ (fs : List File). All (ReadsSo (g.D.Dir.cells c.loop-i.dir)) fs) (take_all c.loop-i.i c.args.made.now c.loop-i-test.false) c.loop-i.invariant.reads
