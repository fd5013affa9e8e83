use Rattle.std.proofs.Common.{◌∷◌, [], ◌∙◌, ℕ, ap, arith}
use Rattle.std.specs.Prelude.{map}
use Rattle.std.proofs.lemmas.List.{take_all}
use Rattle.copy_state.specs.States.{meta_names}
use Rattle.node_tests.proofs.Copying.{none_short, letters_short, one_letter_more}
use Rattle.node_tests.proofs.takeovers.state_of.Goals as goal

pub loop-letter-init : goal.loop-letter-init
loop-letter-init c = ap meta_names c.new-files.ensures

pub loop-letter-preserved : goal.loop-letter-preserved
loop-letter-preserved c =
    ap meta_names c.in_ok-push.ensures.ok
    ∙ one_letter_more c.loop-letter.files c.in_ok-name.name c.in_ok-own.own c.args.letters.now c.loop-letter.letter-index c.loop-letter-test.true c.in_ok-name.ensures c.loop-letter.invariant

pub returns : goal.returns
returns c = record {
  infos = _;
  spelled = c.in_ok-infos.ensures;
  files = letters_short c.args.letters.now c.loop-letter.files c.requires
      (c.loop-letter.invariant ∙ ap (map (λ (b : ℕ). b ∷ [])) (take_all c.loop-letter.letter-index c.args.letters.now (omega arith)));
  completed = none_short c.new-2.result c.new-2.ensures;
}
