use Rattle.std.proofs.Common.{refl, ◌∙◌}
use Rattle.std.specs.Prelude.{◌⊎◌}
use Rattle.disk_model.specs.Disk.{reads_of}
use Rattle.file_names.specs.Names.{part_name_of}
use Rattle.file_names.specs.declared.composed.SegPart.TheVariants.{Docs, Post, Info}
use Rattle.index_check.specs.Answers.{IsCutShort}
use Rattle.index_check.specs.Segments.{LacksFile}
use Rattle.index_check.proofs.Loads.{absent_at, there_at, live_absent_at, live_at, refused_for, no_docs, no_post, no_info, no_live_file, live_given}
use Rattle.index_check.proofs.files.load_parts.Goals as goal

pub returns-in_err-docs-clause-fault : goal.returns-in_err-docs-clause-fault
returns-in_err-docs-clause-fault g c =
    let first = g.D.Dir.cells c.args.dir.now in
    let r = c.args.record.now in
    let e = c.in_err-docs.field-0.0 in
    refused_for (λ f. IsCutShort f ⊎ LacksFile (reads_of first) r f) c.from_residual.result e c.from_residual.ensures.1
    (no_docs (reads_of first) r e (absent_at first first c.part_name.result (part_name_of r.seg.0 Docs) e refl c.part_name.ensures.name c.in_err-docs.ensures.fault))

pub returns-in_err-post-clause-fault : goal.returns-in_err-post-clause-fault
returns-in_err-post-clause-fault g c =
    let first = g.D.Dir.cells c.args.dir.now in
    let r = c.args.record.now in
    let e = c.in_err-post.field-0.0 in
    refused_for (λ f. IsCutShort f ⊎ LacksFile (reads_of first) r f) c.from_residual-in_err-post.result e c.from_residual-in_err-post.ensures.1
    (no_post (reads_of first) r c.in_ok-docs.docs (there_at first first c.part_name.result (part_name_of r.seg.0 Docs) c.in_ok-docs.docs refl c.part_name.ensures.name c.in_ok-docs.ensures.bytes) e
    (absent_at first (g.D.Dir.cells c.load.new.dir) c.part_name-2.result (part_name_of r.seg.0 Post) e c.in_ok-docs.ensures.cells c.part_name-2.ensures.name c.in_err-post.ensures.fault))

pub returns-in_err-info-clause-fault : goal.returns-in_err-info-clause-fault
returns-in_err-info-clause-fault g c =
    let first = g.D.Dir.cells c.args.dir.now in
    let r = c.args.record.now in
    let e = c.in_err-info.field-0.0 in
    refused_for (λ f. IsCutShort f ⊎ LacksFile (reads_of first) r f) c.from_residual-in_err-info.result e c.from_residual-in_err-info.ensures.1
    (no_info (reads_of first) r c.in_ok-docs.docs (there_at first first c.part_name.result (part_name_of r.seg.0 Docs) c.in_ok-docs.docs refl c.part_name.ensures.name c.in_ok-docs.ensures.bytes)
    c.in_ok-post.post (there_at first (g.D.Dir.cells c.load.new.dir) c.part_name-2.result (part_name_of r.seg.0 Post) c.in_ok-post.post c.in_ok-docs.ensures.cells c.part_name-2.ensures.name c.in_ok-post.ensures.bytes) e
    (absent_at first (g.D.Dir.cells c.load-2.new.dir) c.part_name-3.result (part_name_of r.seg.0 Info) e (c.in_ok-post.ensures.cells ∙ c.in_ok-docs.ensures.cells) c.part_name-3.ensures.name c.in_err-info.ensures.fault))

pub returns-in_err-live-clause-fault : goal.returns-in_err-live-clause-fault
returns-in_err-live-clause-fault g c =
    let first = g.D.Dir.cells c.args.dir.now in
    let r = c.args.record.now in
    let e = c.in_err-live.field-0.0 in
    let second = c.in_ok-post.ensures.cells ∙ c.in_ok-docs.ensures.cells in
    refused_for (λ f. IsCutShort f ⊎ LacksFile (reads_of first) r f) c.from_residual-in_err-live.result e c.from_residual-in_err-live.ensures.1
    (no_live_file (reads_of first) r c.in_ok-docs.docs (there_at first first c.part_name.result (part_name_of r.seg.0 Docs) c.in_ok-docs.docs refl c.part_name.ensures.name c.in_ok-docs.ensures.bytes)
    c.in_ok-post.post (there_at first (g.D.Dir.cells c.load.new.dir) c.part_name-2.result (part_name_of r.seg.0 Post) c.in_ok-post.post c.in_ok-docs.ensures.cells c.part_name-2.ensures.name c.in_ok-post.ensures.bytes)
    c.in_ok-info.info (there_at first (g.D.Dir.cells c.load-2.new.dir) c.part_name-3.result (part_name_of r.seg.0 Info) c.in_ok-info.info second c.part_name-3.ensures.name c.in_ok-info.ensures.bytes) e
    (live_absent_at first (g.D.Dir.cells c.load-3.new.dir) r e (c.in_ok-info.ensures.cells ∙ second) c.in_err-live.ensures.fault))

pub returns-clause-parts : goal.returns-clause-parts
returns-clause-parts g c =
    let first = g.D.Dir.cells c.args.dir.now in
    let r = c.args.record.now in
    let second = c.in_ok-post.ensures.cells ∙ c.in_ok-docs.ensures.cells in
    record {
      docs = there_at first first c.part_name.result (part_name_of r.seg.0 Docs) c.in_ok-docs.docs refl c.part_name.ensures.name c.in_ok-docs.ensures.bytes;
      post = there_at first (g.D.Dir.cells c.load.new.dir) c.part_name-2.result (part_name_of r.seg.0 Post) c.in_ok-post.post c.in_ok-docs.ensures.cells c.part_name-2.ensures.name c.in_ok-post.ensures.bytes;
      info = there_at first (g.D.Dir.cells c.load-2.new.dir) c.part_name-3.result (part_name_of r.seg.0 Info) c.in_ok-info.info second c.part_name-3.ensures.name c.in_ok-info.ensures.bytes;
      live = live_at first (g.D.Dir.cells c.load-3.new.dir) r c.in_ok-live.live (c.in_ok-info.ensures.cells ∙ second) c.in_ok-live.ensures.live;
    }

pub returns-clause-live_file : goal.returns-clause-live_file
returns-clause-live_file g c = live_given (reads_of (g.D.Dir.cells c.load-3.new.dir)) c.args.record.now c.in_ok-live.live c.in_ok-live.ensures.live
