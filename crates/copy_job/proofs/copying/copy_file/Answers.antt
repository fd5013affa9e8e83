use Rattle.std.proofs.Common.{◌∙◌, ap, refl, subst}
use Rattle.std.proofs.Common.{length}
use Rattle.nrt_base.specs.Causes.{Rose}
use Rattle.codec_frame.specs.Bytes.{AreBytes}
use Rattle.copy_job.proofs.Arrivals.{long_enough, taken, turned_down, arrived_shows, by_fate_taken, by_fate_turned_down}
use Rattle.copy_job.proofs.copying.copy_file.Goals as goal

pub returns-in_ok-bytes-in-None-clause-part : goal.returns-in_ok-bytes-in-None-clause-part
returns-in_ok-bytes-in-None-clause-part g c =
    let t = taken (g.L.Link.altered c.begin.new.self) _ c.args.source.now c.as_slice-2.result.now c.in_ok-bytes.bytes.items _ _ c.args.meta.now.checksum _ c.in_ok-begin.ensures.file c.as_slice-2.ensures.value (long_enough c.args.source.now c.args.meta.now c.requires.meta) c.requires.checksum
    c.requires.meta.checksum (subst AreBytes c.as_slice.ensures c.size_of.ensures.fits) c.in-None.ensures.fits c.in_ok-begin.ensures.altered c.in_ok-bytes.ensures.received (c.size_of.ensures.size ∙ ap length c.as_slice.ensures) c.in-None.ensures.difference in
    record { name_is = refl; bytes_are = c.in_ok-bytes-in-None.ensures ∙ t.0; meta_is = c.in_ok-meta-in-None.ensures }

pub returns-in_ok-bytes-in-None-clause-causes : goal.returns-in_ok-bytes-in-None-clause-causes
returns-in_ok-bytes-in-None-clause-causes g c =
    let t = taken (g.L.Link.altered c.begin.new.self) _ c.args.source.now c.as_slice-2.result.now c.in_ok-bytes.bytes.items _ _ c.args.meta.now.checksum _ c.in_ok-begin.ensures.file c.as_slice-2.ensures.value (long_enough c.args.source.now c.args.meta.now c.requires.meta) c.requires.checksum
    c.requires.meta.checksum (subst AreBytes c.as_slice.ensures c.size_of.ensures.fits) c.in-None.ensures.fits c.in_ok-begin.ensures.altered c.in_ok-bytes.ensures.received (c.size_of.ensures.size ∙ ap length c.as_slice.ensures) c.in-None.ensures.difference in
    (c.in_ok-bytes.ensures.faults ∙ c.in_ok-begin.ensures.faults, t.1 ∙ c.begin.ensures.damages)

pub returns-in_ok-bytes-in-None-clause-fate : goal.returns-in_ok-bytes-in-None-clause-fate
returns-in_ok-bytes-in-None-clause-fate g c =
    let t = taken (g.L.Link.altered c.begin.new.self) _ c.args.source.now c.as_slice-2.result.now c.in_ok-bytes.bytes.items _ _ c.args.meta.now.checksum _ c.in_ok-begin.ensures.file c.as_slice-2.ensures.value (long_enough c.args.source.now c.args.meta.now c.requires.meta) c.requires.checksum
    c.requires.meta.checksum (subst AreBytes c.as_slice.ensures c.size_of.ensures.fits) c.in-None.ensures.fits c.in_ok-begin.ensures.altered c.in_ok-bytes.ensures.received (c.size_of.ensures.size ∙ ap length c.as_slice.ensures) c.in-None.ensures.difference in
    by_fate_taken (g.L.Link.fate c.args.link.now) c.args.source.now (g.L.Link.altered c.begin.new.self) _ c.in_ok-begin.ensures.fate t.2

pub returns-in-Some-clause-causes : goal.returns-in-Some-clause-causes
returns-in-Some-clause-causes g c =
    let t = turned_down (g.L.Link.altered c.begin.new.self) _ c.args.source.now c.as_slice-2.result.now c.in_ok-bytes.bytes.items _ _ c.args.meta.now.checksum _ c.in_ok-begin.ensures.file c.as_slice-2.ensures.value (long_enough c.args.source.now c.args.meta.now c.requires.meta) c.requires.checksum
    c.requires.meta.checksum (subst AreBytes c.as_slice.ensures c.size_of.ensures.fits) c.in-Some.ensures.fits c.in_ok-begin.ensures.altered c.in_ok-bytes.ensures.received (c.size_of.ensures.size ∙ ap length c.as_slice.ensures) c.in-Some.found c.in-Some.ensures.difference in
    (c.in_ok-bytes.ensures.faults ∙ c.in_ok-begin.ensures.faults, subst (λ d. Rose d (g.L.Link.damages c.receive.new.link)) c.begin.ensures.damages t.1, refl, refl, c.in-Some.ensures.difference.0)

pub returns-in-Some-clause-fate : goal.returns-in-Some-clause-fate
returns-in-Some-clause-fate g c =
    let t = turned_down (g.L.Link.altered c.begin.new.self) _ c.args.source.now c.as_slice-2.result.now c.in_ok-bytes.bytes.items _ _ c.args.meta.now.checksum _ c.in_ok-begin.ensures.file c.as_slice-2.ensures.value (long_enough c.args.source.now c.args.meta.now c.requires.meta) c.requires.checksum
    c.requires.meta.checksum (subst AreBytes c.as_slice.ensures c.size_of.ensures.fits) c.in-Some.ensures.fits c.in_ok-begin.ensures.altered c.in_ok-bytes.ensures.received (c.size_of.ensures.size ∙ ap length c.as_slice.ensures) c.in-Some.found c.in-Some.ensures.difference in
    by_fate_turned_down (g.L.Link.fate c.args.link.now) c.args.source.now (g.L.Link.altered c.begin.new.self) c.args.name.now c.args.meta.now.checksum c.in-Some.found c.in_ok-begin.ensures.fate t.0

pub returns-in-Some-clause-found : goal.returns-in-Some-clause-found
returns-in-Some-clause-found g c =
    arrived_shows (g.L.Link.altered c.begin.new.self) (g.L.Link.altered c.receive.new.link) _ c.args.source.now c.as_slice-2.result.now c.in_ok-bytes.bytes.items _ _ c.args.meta.now.checksum _ c.in-Some.found
    c.in_ok-begin.ensures.file c.as_slice-2.ensures.value c.in_ok-bytes.ensures.received (c.size_of.ensures.size ∙ ap length c.as_slice.ensures) c.receive.ensures.altered c.in-Some.ensures.difference
