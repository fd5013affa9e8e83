use Rattle.std.proofs.Common.{ℕ, List, sym, subst}
use Rattle.std.specs.Prelude.{IfOk, MatchOption}
use Rattle.script_text.specs.Grammar.{SpellsScript}
use Rattle.nrt_commands.specs.declared.nodes.NodeText.{NodeText}
use Rattle.nrt_commands.specs.NodeTexts.{IsNodeText, HasNoText}
use Rattle.nrt_commands.proofs.nodes.node_text.Goals as goal

pub returns-in_ok-image-in-Image : goal.returns-in_ok-image-in-Image
returns-in_ok-image-in-Image g c = λ bytes grammar.
    subst (λ (kind : NodeText). IsNodeText kind bytes c.args.n.0 c.in_ok-image-in-Image.image.items) (sym c.in-Image.is) (c.in_ok-image-in-Image.ensures bytes grammar)

pub returns-in-Frames : goal.returns-in-Frames
returns-in-Frames g c = subst
    (λ (kind : NodeText).
    IfOk c.run_copy.result
    (λ found. (bytes : List ℕ) → SpellsScript bytes c.args.script.now → MatchOption found (HasNoText kind bytes c.args.n.0) (λ text. IsNodeText kind bytes c.args.n.0 text.items)))
    (sym c.in-Frames.is) c.run_copy.ensures
