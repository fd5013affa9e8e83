use Rattle.std.proofs.Common.{◌≡◌, ◌++◌, ◌∷◌, [], ap, sym, ◌∙◌}
use Rattle.std.specs.Option.{option_to_list}
use Rattle.script_text.proofs.DropLemmas.{taken_word, never_taken}
use Rattle.script_text.proofs.command.read_drop.Goals as goal

pub unreachable-requires : goal.unreachable-requires
unreachable-requires c =
    never_taken c.args.written.now c.in_ok-words.field-0.len c.in_ok-words.field-0.items (sym c.is_letters.ensures ∙ c.if-not-is_letters.false) c.in_ok-words.ensures (sym c.in_ok-words.field-0.ok.0) c.in-None.ensures.cases.0

pub returns : goal.returns
returns c =
    taken_word c.args.written.now c.in-Some.word c.in_ok-words.field-0.items c.pop.new.self.items (sym c.is_letters.ensures ∙ c.if-not-is_letters.false)
    c.in_ok-words.ensures c.in-Some.ensures.items
