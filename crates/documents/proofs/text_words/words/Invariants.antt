use Rattle.std.proofs.Common.{◌≡◌, drop, ◌++◌, IsTrue}
use Rattle.std.specs.List.{list_all}
use Rattle.nrt_base.specs.Bytes.{is_word_byte}
use Rattle.documents.specs.Words.{words_after, words_of}
use Rattle.documents.proofs.text_words.words.Given as goal

abbrev pub invariant-loop-b : goal.invariant-loop-b
invariant-loop-b l = record {
  told : l.words.items ++ words_after l.run.items (drop l.b-index l.text) ≡ words_of l.text;
  run : IsTrue (list_all is_word_byte l.run.items);
}
