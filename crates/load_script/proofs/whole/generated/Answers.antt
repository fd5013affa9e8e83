use Rattle.std.proofs.Common.{arith}
use Rattle.load_script.proofs.LoadForm.{form_of}
use Rattle.load_script.proofs.LoadLines.{next_turn, generated_is}
use Rattle.load_script.proofs.whole.generated.Goals as goal

pub loop-i-preserved : goal.loop-i-preserved
loop-i-preserved c = record {
  lines = next_turn c.loop-i.i c.loop-i.lines.items c.push_turn.new.lines.items c.loop-i.invariant.lines c.in_ok-push_turn.ensures.adds;
  few = (let few = c.loop-i.invariant.few in let more = c.in_ok-push_turn.ensures.count in omega (arith, few, more));
}

pub returns-clause-script : goal.returns-clause-script
returns-clause-script c = generated_is c.args.n c.loop-i.i _ c.loop-i.lines.items c.in_ok-last.last.items c.in_ok-phase_of.field-0 c.in_ok-phase_of-2.field-0 c.new-phases.result.items c.push.new.self.items c.push-2.new.self.items c.from_vec.result
    c.loop-i.invariant.lines (let test = c.loop-i-test.false in let end = c.loop-i.auto.i-end in omega (arith, test, end)) c.in_ok-last.ensures
    (let len = c.len.ensures in let few = c.loop-i.invariant.few in let most = c.requires.most in let test = c.loop-i-test.false in let end = c.loop-i.auto.i-end in omega (arith, len, few, most, test, end))
    c.in_ok-phase_of.ensures c.in_ok-phase_of-2.ensures c.new-phases.ensures.items c.in_ok-push.ensures.items c.in_ok-push-2.ensures.items c.from_vec.ensures

pub returns-clause-form : goal.returns-clause-form
returns-clause-form c = form_of c.args.n _ c.requires.most (returns-clause-script c)
