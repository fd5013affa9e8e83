use Rattle.std.proofs.Common.{◌||◌, List, ◌∷◌, [], false, refl, sym, ap, subst, ◌∙◌, arith, true≢false}
use Rattle.std.specs.List.{remove}
use Rattle.disk_model.specs.Disk.{Name, is_among}
use Rattle.file_deleter.specs.Removals.{directory_of}
use Rattle.file_deleter.specs.Tally.{IsInOrder}
use Rattle.file_deleter.proofs.NameLemmas.{same_self}
use Rattle.file_deleter.proofs.Removing.{tries_one, one_stays, one_gone, one_untouched}
use Rattle.file_deleter.proofs.Sounding.{was_among, among_no_more, among_others, order_removed}
use Rattle.file_deleter.proofs.tally.Tally.retry.Goals as goal

pub returns-in_default-clause-done : goal.returns-in_default-clause-done
returns-in_default-clause-done g c = c.in_default.ensures

pub returns-then-stays-clause-retried : goal.returns-then-stays-clause-retried
returns-then-stays-clause-retried g c =
    let at = c.in-Some.ensures in
    let was = was_among c.args.self.now.counts.entries c.args.self.now.due.items c.in-Some.place c.args.name.now c.requires.sound.order at.0 at.1 in
    let r = one_stays _ _ _ c.if-stays.ensures in
    record {
      counts = λ q. refl;
      tries = tries_one c.args.name.now (c.args.name.now ∷ []) (directory_of g.D.Dir.cells g.D.Dir.plans g.D.Dir.faults c.args.dir.now) (directory_of g.D.Dir.cells g.D.Dir.plans g.D.Dir.faults c.stays.new.dir)
          (is_among c.args.self.now.due.items) (is_among c.args.self.now.due.items) r was (was ∙ sym (ap (λ b. b || false) (same_self c.args.name.now))) (λ q a. refl);
      others = λ q a. (refl, one_untouched _ _ _ _ r q a);
    }

pub returns-clause-sound : goal.returns-clause-sound
returns-clause-sound g c =
    let at = c.in-Some.ensures in
    record {
      order = subst (λ (ns : List Name). IsInOrder c.args.self.now.counts.entries ns) (sym {A = List Name} c.remove.ensures.items) (order_removed c.args.self.now.counts.entries c.args.self.now.due.items c.in-Some.place c.args.name.now c.requires.sound.order at.0 at.1);
      room = record { counts = c.requires.sound.room.counts; due = omega (arith, c.requires.sound.room.due); fallen = c.requires.sound.room.fallen };
      fallen = c.requires.sound.fallen;
    }

pub returns-clause-retried : goal.returns-clause-retried
returns-clause-retried g c =
    let at = c.in-Some.ensures in
    let was = was_among c.args.self.now.counts.entries c.args.self.now.due.items c.in-Some.place c.args.name.now c.requires.sound.order at.0 at.1 in
    let none = among_no_more c.args.self.now.counts.entries c.args.self.now.due.items c.in-Some.place c.args.name.now c.requires.sound.order at.0 at.1 in
    let r = one_gone _ _ _ c.if-stays.ensures in
    rw c.remove.ensures.items (record {
      counts = λ q. refl;
      tries = tries_one c.args.name.now [] (directory_of g.D.Dir.cells g.D.Dir.plans g.D.Dir.faults c.args.dir.now) (directory_of g.D.Dir.cells g.D.Dir.plans g.D.Dir.faults c.stays.new.dir)
          (is_among c.args.self.now.due.items) (is_among (remove c.args.self.now.due.items c.in-Some.place)) r was none
          (among_others c.args.self.now.counts.entries c.args.self.now.due.items c.in-Some.place c.args.name.now c.requires.sound.order at.0 at.1);
      others = λ q a. (among_others c.args.self.now.counts.entries c.args.self.now.due.items c.in-Some.place c.args.name.now c.requires.sound.order at.0 at.1 q a, one_untouched _ _ _ _ r q a);
    })

pub returns-clause-done : goal.returns-clause-done
returns-clause-done g c =
    let at = c.in-Some.ensures in
    rw c.remove.ensures.items (among_no_more c.args.self.now.counts.entries c.args.self.now.due.items c.in-Some.place c.args.name.now c.requires.sound.order at.0 at.1)

pub returns-then-stays-clause-idle : goal.returns-then-stays-clause-idle
returns-then-stays-clause-idle g c = λ clear. absurd (true≢false (sym (was_among c.args.self.now.counts.entries c.args.self.now.due.items c.in-Some.place c.args.name.now c.requires.sound.order c.in-Some.ensures.0 c.in-Some.ensures.1) ∙ clear))

pub returns-clause-idle : goal.returns-clause-idle
returns-clause-idle g c = λ clear. absurd (true≢false (sym (was_among c.args.self.now.counts.entries c.args.self.now.due.items c.in-Some.place c.args.name.now c.requires.sound.order c.in-Some.ensures.0 c.in-Some.ensures.1) ∙ clear))
