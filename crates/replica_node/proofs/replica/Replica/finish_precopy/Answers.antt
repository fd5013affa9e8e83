use Rattle.std.proofs.Common.{◌≡◌, ◌∙◌, sym, ap, arith}
use Rattle.file_deleter.specs.Holdings.{count_of}
use Rattle.replica_node.specs.declared.parts.ReplicaParts.{ReplicaParts}
use Rattle.replica_node.specs.Merges.{copy_at}
use Rattle.replica_node.proofs.Came.{some_at}
use Rattle.replica_node.proofs.Finishes.{same_fault, still_whole, holds_then, runs_mid, complete_mid, files_mid, own_mid, ended_mid, still_mid, settled_mid, reads_mid}
use Rattle.replica_node.proofs.replica.Replica.finish_precopy.Goals as goal

pub settle_copy-requires-clause-runs : goal.settle_copy-requires-clause-runs
settle_copy-requires-clause-runs g c =
    let p = c.self.inside.parts in
    let f = some_at (copy_at c.args.job p.copies.running) (rw (← c.self.view_is) at c.requires.runs) c.in-Ok-place_copy.ensures.places in
    runs_mid g.D.Dir.cells p c.place_copy.new.parts c.args.job f.0 f.1 _ f.2

pub settle_copy-requires-clause-complete : goal.settle_copy-requires-clause-complete
settle_copy-requires-clause-complete g c =
    let p = c.self.inside.parts in
    let f = some_at (copy_at c.args.job p.copies.running) (rw (← c.self.view_is) at c.requires.runs) c.in-Ok-place_copy.ensures.places in
    complete_mid g.D.Dir.cells p c.place_copy.new.parts c.args.job f.0 f.1 _ f.2 (rw (← c.self.view_is) at c.requires.complete)

pub settle_copy-requires-clause-own : goal.settle_copy-requires-clause-own
settle_copy-requires-clause-own g c =
    let p = c.self.inside.parts in
    let f = some_at (copy_at c.args.job p.copies.running) (rw (← c.self.view_is) at c.requires.runs) c.in-Ok-place_copy.ensures.places in
    own_mid g.D.Dir.cells p c.place_copy.new.parts c.args.job f.0 f.1 _ f.2 f.2.all

pub settle_copy-requires-clause-files : goal.settle_copy-requires-clause-files
settle_copy-requires-clause-files g c =
    let p = c.self.inside.parts in
    let f = some_at (copy_at c.args.job p.copies.running) (rw (← c.self.view_is) at c.requires.runs) c.in-Ok-place_copy.ensures.places in
    files_mid g.D.Dir.cells p c.place_copy.new.parts c.args.job f.0 f.1 _ f.2 c.in-Ok.files.items c.in-Ok.ensures

pub give_up-requires-clause-runs : goal.give_up-requires-clause-runs
give_up-requires-clause-runs g c =
    let p = c.self.inside.parts in
    let f = some_at (copy_at c.args.job p.copies.running) (rw (← c.self.view_is) at c.requires.runs) c.in-Err.ensures.places in
    runs_mid g.D.Dir.cells p c.place_copy.new.parts c.args.job f.0 f.1 _ f.2

pub returns-in_default-clause-memory : goal.returns-in_default-clause-memory
returns-in_default-clause-memory g c = rw (← c.self.view_is)
    (λ is.
    still_whole c.self.inside.parts c.args.job)

pub returns-clause-held : goal.returns-clause-held
returns-clause-held g c = rw (← c.self.view_is)
    (let p = c.self.inside.parts in
    holds_then p c.place_copy.new.parts c.settle_copy.new.parts (copy_at c.args.job p.copies.running) c.place_copy.ensures.held
    (λ q. let same : count_of c.settle_copy.new.parts.files q ≡ count_of c.place_copy.new.parts.files q = ap (λ (x : ReplicaParts g.row.D.Denot). count_of x.files q) c.settle_copy.ensures.others in omega (arith, same)))

pub returns-clause-ok : goal.returns-clause-ok
returns-clause-ok g c = rw (← c.self.view_is)
    (let p = c.self.inside.parts in
    let f = some_at (copy_at c.args.job p.copies.running) (rw (← c.self.view_is) at c.requires.runs) c.in-Ok-place_copy.ensures.places in
    settled_mid g.D.Dir.cells p c.place_copy.new.parts c.args.job f.0 f.1 _ f.2 f.2.all c.settle_copy.new.parts c.in-Ok-settle_copy.ensures.ok)

pub returns-clause-reads : goal.returns-clause-reads
returns-clause-reads g c = rw (← c.self.view_is)
    (let p = c.self.inside.parts in
    let f = some_at (copy_at c.args.job p.copies.running) (rw (← c.self.view_is) at c.requires.runs) c.in-Ok-place_copy.ensures.places in
    reads_mid g.D.Dir.cells p c.place_copy.new.parts c.args.job f.0 f.1 _ f.2 f.2.all c.settle_copy.new.parts (ap (λ (x : ReplicaParts g.row.D.Denot). x.dir) c.settle_copy.ensures.others))

pub returns-in-Err-settle_copy-clause-held : goal.returns-in-Err-settle_copy-clause-held
returns-in-Err-settle_copy-clause-held g c = rw (← c.self.view_is)
    (let p = c.self.inside.parts in
    holds_then p c.place_copy.new.parts c.settle_copy.new.parts (copy_at c.args.job p.copies.running) c.place_copy.ensures.held
    (λ q. let same : count_of c.settle_copy.new.parts.files q ≡ count_of c.place_copy.new.parts.files q = ap (λ (x : ReplicaParts g.row.D.Denot). count_of x.files q) c.settle_copy.ensures.others in omega (arith, same)))

pub returns-in-Err-settle_copy-clause-memory : goal.returns-in-Err-settle_copy-clause-memory
returns-in-Err-settle_copy-clause-memory g c = rw (← c.self.view_is)
    (λ is.
    let p = c.self.inside.parts in
    let f = some_at (copy_at c.args.job p.copies.running) (rw (← c.self.view_is) at c.requires.runs) c.in-Ok-place_copy.ensures.places in
    still_mid g.D.Dir.cells p c.place_copy.new.parts c.args.job f.0 f.1 _ f.2 c.settle_copy.new.parts c.in-Err-settle_copy.ensures.err)

pub returns-in-Err-clause-held : goal.returns-in-Err-clause-held
returns-in-Err-clause-held g c = rw (← c.self.view_is)
    (let p = c.self.inside.parts in
    holds_then p c.place_copy.new.parts c.give_up.new.parts (copy_at c.args.job p.copies.running) c.place_copy.ensures.held c.give_up.ensures.back.fewer)

pub returns-in-Err-clause-failed_ends : goal.returns-in-Err-clause-failed_ends
returns-in-Err-clause-failed_ends g c = rw (← c.self.view_is)
    (λ is.
    let p = c.self.inside.parts in
    let f = some_at (copy_at c.args.job p.copies.running) (rw (← c.self.view_is) at c.requires.runs) c.in-Err.ensures.places in
    ended_mid g.D.Dir.cells p c.place_copy.new.parts c.args.job f.0 f.1 _ f.2 c.give_up.new.parts (c.give_up.ensures.failed (sym c.give_up.ensures.same ∙ same_fault _ _ c.give_up.result _ is)))

pub returns-in-Err-clause-memory : goal.returns-in-Err-clause-memory
returns-in-Err-clause-memory g c = rw (← c.self.view_is)
    (λ is.
    let p = c.self.inside.parts in
    let f = some_at (copy_at c.args.job p.copies.running) (rw (← c.self.view_is) at c.requires.runs) c.in-Err.ensures.places in
    still_mid g.D.Dir.cells p c.place_copy.new.parts c.args.job f.0 f.1 _ f.2 c.give_up.new.parts (ap (λ (x : ReplicaParts g.row.D.Denot). x.copies) (c.give_up.ensures.memory (sym c.give_up.ensures.same ∙ same_fault _ _ c.give_up.result _ is))))
