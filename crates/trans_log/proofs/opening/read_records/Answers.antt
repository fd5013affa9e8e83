use Rattle.std.proofs.Common.{◌+◌, ◌∷◌, [], List, length, rules, arith, subst, sym, ap, ◌∙◌}
use Rattle.std.proofs.lemmas.List.{length-append}
use Rattle.disk_model.specs.Disk.{Name, Cells, reads_of}
use Rattle.codec_frame.specs.declared.frame.FileFault.{FileFault}
use Rattle.trans_log.specs.declared.log.LogFault.TheVariants.{Broken}
use Rattle.trans_log.specs.declared.record.LogOp.{LogOp}
use Rattle.trans_log.specs.Logs.{Numbered, HasRecord}
use Rattle.trans_log.specs.Opening.{IsLogCutOff, IsFaultOrCutOff, IsRefusedAt, SaysRecord, SaysRecords}
use Rattle.trans_log.proofs.LogFound.{err_from, err_and_from, broken_here, passed_more, says_records, record_at, read_more}
use Rattle.trans_log.proofs.opening.read_records.Goals as goal

pub returns-in_err-entry-clause-err : goal.returns-in_err-entry-clause-err
returns-in_err-entry-clause-err g c =
    err_from (SaysRecords (reads_of (g.D.Dir.cells c.args.dir.now))) c.from_residual.result c.in_err-entry.field-0.0 (search rules)
    (says_records (reads_of (g.D.Dir.cells c.args.dir.now)) c.loop-index.records.items (c.loop-index.index + 1) c.in_err-entry.field-0.0 (omega (arith, c.loop-index-test.true, c.ranges.last)) (omega (arith, c.loop-index.invariant.len)) c.loop-index.invariant.reads
    (subst (λ (cs : Cells). SaysRecord (reads_of cs) (c.loop-index.index + 1) c.in_err-entry.field-0.0) c.loop-index.invariant.cells c.in_err-entry.ensures.err))

pub returns-in_err-entry-clause-whole : goal.returns-in_err-entry-clause-whole
returns-in_err-entry-clause-whole g c rs le each =
    let has = record_at (reads_of (g.D.Dir.cells c.args.dir.now)) rs c.args.last c.loop-index.index le each c.loop-index-test.true in
    err_from IsLogCutOff c.from_residual.result c.in_err-entry.field-0.0 (search rules)
    (c.in_err-entry.ensures.whole has.0 (subst (λ (cs : Cells). HasRecord (reads_of cs) (c.loop-index.index + 1) has.0) (sym c.loop-index.invariant.cells) has.1))

pub returns-in_err-entry-clause-broken : goal.returns-in_err-entry-clause-broken
returns-in_err-entry-clause-broken g c name fault b lt =
    err_and_from (IsFaultOrCutOff (Broken name fault)) c.from_residual.result c.in_err-entry.field-0.0 (search rules)
    (broken_here (reads_of (g.D.Dir.cells c.args.dir.now)) c.loop-index.index name fault b c.in_err-entry.field-0.0 (c.loop-index.invariant.passed name fault b)
    (subst (λ (cs : Cells). (r : LogOp) → HasRecord (reads_of cs) (c.loop-index.index + 1) r → IsLogCutOff c.in_err-entry.field-0.0) c.loop-index.invariant.cells c.in_err-entry.ensures.whole)
    (subst (λ (cs : Cells). (q : Name) (f : FileFault) → IsRefusedAt (reads_of cs) (c.loop-index.index + 1) q f → IsFaultOrCutOff (Broken q f) c.in_err-entry.field-0.0) c.loop-index.invariant.cells
    c.in_err-entry.ensures.refused))

pub loop-index-preserved : goal.loop-index-preserved
loop-index-preserved g c = record {
  len = omega (arith, ap (λ (rs : List LogOp). length rs) c.in_ok-put.ensures.ok, length-append c.loop-index.records.items (c.in_ok-entry.entry ∷ []), c.loop-index.invariant.len);
  reads = subst (λ (rs : List LogOp). Numbered (HasRecord (reads_of (g.D.Dir.cells c.args.dir.now))) 0 rs) (sym c.in_ok-put.ensures.ok)
      (read_more (reads_of (g.D.Dir.cells c.args.dir.now)) c.loop-index.records.items c.in_ok-entry.entry (c.loop-index.index + 1) (omega (arith, c.loop-index.invariant.len)) c.loop-index.invariant.reads
      (subst (λ (cs : Cells). HasRecord (reads_of cs) (c.loop-index.index + 1) c.in_ok-entry.entry) c.loop-index.invariant.cells c.in_ok-entry.ensures.ok));
  passed = λ name fault b.
      passed_more (reads_of (g.D.Dir.cells c.args.dir.now)) c.loop-index.index name fault b (c.loop-index.invariant.passed name fault b)
      (subst (λ (cs : Cells). (q : Name) (f : FileFault) → IsRefusedAt (reads_of cs) (c.loop-index.index + 1) q f → ⊥) c.loop-index.invariant.cells c.in_ok-entry.ensures.refused);
  cells = c.read_record.ensures.cells ∙ c.loop-index.invariant.cells;
  later = omega (arith, c.read_record.ensures.later, c.loop-index.invariant.later);
  calm = λ none. c.read_record.ensures.calm (c.loop-index.invariant.calm none);
}

pub returns-clause-broken : goal.returns-clause-broken
returns-clause-broken g c name fault b lt = absurd (omega (arith, c.loop-index.invariant.passed name fault b, lt))
