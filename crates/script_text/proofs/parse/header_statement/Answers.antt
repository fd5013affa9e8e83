use Rattle.std.proofs.Common.{◌∷◌, List, ℕ, sym, ◌∙◌, ap}
use Rattle.std.specs.Prelude.{codes}
use Rattle.std.specs.Cmp.Lexicographic.{same_text}
use Rattle.script_text.specs.Grammar.{words_in}
use Rattle.script_text.proofs.parse.header_statement.Goals as goal

pub returns-then-is_word : goal.returns-then-is_word
returns-then-is_word c = record {
  next = c.in_ok-statement.ensures;
  words =
      c.in_ok-word.ensures.words
      ∙ ap (λ (w : List ℕ). w ∷ words_in c.in_ok-word.behind.now) (sym (same_text (c.args.name.now) c.in_ok-word.word.now (sym (sym c.is_word.ensures ∙ c.if-is_word.true))));
}
