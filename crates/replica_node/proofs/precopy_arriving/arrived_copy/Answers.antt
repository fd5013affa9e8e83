use Rattle.std.proofs.Common.{subst, ◌<◌}
use Rattle.std.specs.Prelude.{Some, Option, IfSome, ◌≡◌}
use Rattle.std.proofs.lemmas.Result.{on_ok_weaker}
use Rattle.file_deleter.specs.Holdings.{times}
use Rattle.copy_state.specs.States.{meta_in}
use Rattle.copy_job.specs.Jobs.{Job, with_part}
use Rattle.replica_node.specs.Merges.{copy_at, copies_with}
use Rattle.replica_node.proofs.Came.{takes_all, comes_whole, comes_sourced, comes_held, comes_ok, comes_err, comes_reads, comes_appears, comes_stays, comes_standing, some_at, some_here}
use Rattle.replica_node.proofs.precopy_arriving.arrived_copy.Goals as goal

pub arrived-requires-clause-takes : goal.arrived-requires-clause-takes
arrived-requires-clause-takes g c = takes_all g.D.Dir.cells c.args.parts.now c.requires.whole c.args.job c.args.part c.requires.missing c.requires.wanted

pub returns-clause-whole : goal.returns-clause-whole
returns-clause-whole g c =
    let p = c.args.parts.now in
    let f = some_at (copy_at c.args.job p.copies.running) c.requires.runs c.arrived.ensures.copy in
    let missing = subst (λ (o : Option Job). IfSome o (λ k. 0 < times k.missing c.args.part.name)) f.1 c.requires.missing in
    let wanted = subst (λ (o : Option Job). IfSome o (λ k. meta_in k.want.files c.args.part.name ≡ Some c.args.part.meta)) f.1 c.requires.wanted in
    comes_whole g.D.Dir.cells p c.requires.whole c.args.job f.0 f.1 c.args.part.name missing c.arrived.new.dir c.arrived.new.files f.2.copy c.args.part.bytes c.args.part.meta c.requires.meta wanted c.arrived.result f.2.is c.arrived.new.self f.2.all

pub returns-clause-sourced : goal.returns-clause-sourced
returns-clause-sourced g c =
    let p = c.args.parts.now in
    let f = some_at (copy_at c.args.job p.copies.running) c.requires.runs c.arrived.ensures.copy in
    let missing = subst (λ (o : Option Job). IfSome o (λ k. 0 < times k.missing c.args.part.name)) f.1 c.requires.missing in
    let wanted = subst (λ (o : Option Job). IfSome o (λ k. meta_in k.want.files c.args.part.name ≡ Some c.args.part.meta)) f.1 c.requires.wanted in
    comes_sourced g.D.Dir.cells p c.requires.whole c.args.job f.0 f.1 c.args.part.name missing c.arrived.new.dir c.arrived.new.files f.2.copy c.args.part.bytes c.args.part.meta c.requires.meta wanted c.arrived.result f.2.is c.arrived.new.self f.2.all

pub returns-clause-held : goal.returns-clause-held
returns-clause-held g c =
    let p = c.args.parts.now in
    let f = some_at (copy_at c.args.job p.copies.running) c.requires.runs c.arrived.ensures.copy in
    let missing = subst (λ (o : Option Job). IfSome o (λ k. 0 < times k.missing c.args.part.name)) f.1 c.requires.missing in
    let wanted = subst (λ (o : Option Job). IfSome o (λ k. meta_in k.want.files c.args.part.name ≡ Some c.args.part.meta)) f.1 c.requires.wanted in
    comes_held g.D.Dir.cells p c.requires.whole c.args.job f.0 f.1 c.args.part.name missing c.arrived.new.dir c.arrived.new.files f.2.copy c.args.part.bytes c.args.part.meta c.requires.meta wanted c.arrived.result f.2.is c.arrived.new.self f.2.all

pub returns-clause-ok : goal.returns-clause-ok
returns-clause-ok g c =
    let p = c.args.parts.now in
    let f = some_at (copy_at c.args.job p.copies.running) c.requires.runs c.arrived.ensures.copy in
    let missing = subst (λ (o : Option Job). IfSome o (λ k. 0 < times k.missing c.args.part.name)) f.1 c.requires.missing in
    let wanted = subst (λ (o : Option Job). IfSome o (λ k. meta_in k.want.files c.args.part.name ≡ Some c.args.part.meta)) f.1 c.requires.wanted in
    on_ok_weaker c.arrived.result (some_here (λ k. record p.copies { running = c.arrived.new.self } ≡ record p.copies { running = copies_with c.args.job (with_part k c.args.part.name) p.copies.running }) (copy_at c.args.job p.copies.running) f.0 f.1) (comes_ok g.D.Dir.cells p c.requires.whole c.args.job f.0 f.1 c.args.part.name missing c.arrived.new.dir c.arrived.new.files f.2.copy c.args.part.bytes c.args.part.meta c.requires.meta wanted c.arrived.result f.2.is c.arrived.new.self f.2.all)

pub returns-clause-err : goal.returns-clause-err
returns-clause-err g c =
    let p = c.args.parts.now in
    let f = some_at (copy_at c.args.job p.copies.running) c.requires.runs c.arrived.ensures.copy in
    let missing = subst (λ (o : Option Job). IfSome o (λ k. 0 < times k.missing c.args.part.name)) f.1 c.requires.missing in
    let wanted = subst (λ (o : Option Job). IfSome o (λ k. meta_in k.want.files c.args.part.name ≡ Some c.args.part.meta)) f.1 c.requires.wanted in
    comes_err g.D.Dir.cells p c.requires.whole c.args.job f.0 f.1 c.args.part.name missing c.arrived.new.dir c.arrived.new.files f.2.copy c.args.part.bytes c.args.part.meta c.requires.meta wanted c.arrived.result f.2.is c.arrived.new.self f.2.all

pub returns-clause-reads : goal.returns-clause-reads
returns-clause-reads g c =
    let p = c.args.parts.now in
    let f = some_at (copy_at c.args.job p.copies.running) c.requires.runs c.arrived.ensures.copy in
    let missing = subst (λ (o : Option Job). IfSome o (λ k. 0 < times k.missing c.args.part.name)) f.1 c.requires.missing in
    let wanted = subst (λ (o : Option Job). IfSome o (λ k. meta_in k.want.files c.args.part.name ≡ Some c.args.part.meta)) f.1 c.requires.wanted in
    comes_reads g.D.Dir.cells p c.requires.whole c.args.job f.0 f.1 c.args.part.name missing c.arrived.new.dir c.arrived.new.files f.2.copy c.args.part.bytes c.args.part.meta c.requires.meta wanted c.arrived.result f.2.is

pub returns-clause-standing : goal.returns-clause-standing
returns-clause-standing g c =
    let p = c.args.parts.now in
    let f = some_at (copy_at c.args.job p.copies.running) c.requires.runs c.arrived.ensures.copy in
    let missing = subst (λ (o : Option Job). IfSome o (λ k. 0 < times k.missing c.args.part.name)) f.1 c.requires.missing in
    let wanted = subst (λ (o : Option Job). IfSome o (λ k. meta_in k.want.files c.args.part.name ≡ Some c.args.part.meta)) f.1 c.requires.wanted in
    comes_standing g.D.Dir.cells p c.requires.whole c.args.job f.0 f.1 c.args.part.name missing c.arrived.new.dir c.arrived.new.files f.2.copy c.args.part.bytes c.args.part.meta c.requires.meta wanted c.arrived.result f.2.is c.arrived.new.self f.2.all

pub returns-clause-appears : goal.returns-clause-appears
returns-clause-appears g c =
    let p = c.args.parts.now in
    let f = some_at (copy_at c.args.job p.copies.running) c.requires.runs c.arrived.ensures.copy in
    let missing = subst (λ (o : Option Job). IfSome o (λ k. 0 < times k.missing c.args.part.name)) f.1 c.requires.missing in
    let wanted = subst (λ (o : Option Job). IfSome o (λ k. meta_in k.want.files c.args.part.name ≡ Some c.args.part.meta)) f.1 c.requires.wanted in
    comes_appears g.D.Dir.cells p c.requires.whole c.args.job f.0 f.1 c.args.part.name missing c.arrived.new.dir c.arrived.new.files f.2.copy c.args.part.bytes c.args.part.meta c.requires.meta wanted c.arrived.result f.2.is

pub returns-clause-stays : goal.returns-clause-stays
returns-clause-stays g c =
    let p = c.args.parts.now in
    let f = some_at (copy_at c.args.job p.copies.running) c.requires.runs c.arrived.ensures.copy in
    let missing = subst (λ (o : Option Job). IfSome o (λ k. 0 < times k.missing c.args.part.name)) f.1 c.requires.missing in
    let wanted = subst (λ (o : Option Job). IfSome o (λ k. meta_in k.want.files c.args.part.name ≡ Some c.args.part.meta)) f.1 c.requires.wanted in
    comes_stays g.D.Dir.cells p c.requires.whole c.args.job f.0 f.1 c.args.part.name missing c.arrived.new.dir c.arrived.new.files f.2.copy c.args.part.bytes c.args.part.meta c.requires.meta wanted c.arrived.result f.2.is
