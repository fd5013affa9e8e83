use Rattle.std.proofs.Common.{arith, refl}
use Rattle.script_text.specs.Refused.{text, nothing}
use Rattle.script_text.specs.Grammar.{words_in}
use Rattle.script_text.specs.Reading.{front_of}
use Rattle.script_text.proofs.WordLemmas.{word_is_full}
use Rattle.script_text.proofs.CommandLemmas.{some_words, plain_read, fault_read, search_read, ask_read, delete_read, drop_read}
use Rattle.script_text.proofs.command.read_command.Goals as goal

pub read_doc-requires-clause-word : goal.read_doc-requires-clause-word
read_doc-requires-clause-word c =
    word_is_full c.args.line.now (front_of c.args.name) (words_in c.args.rest.now) c.first_words-words.result.first.now c.requires.printable c.requires.front c.first_words-words.ensures.first
    (some_words text (words_in c.args.rest.now) refl (rw c.in-Put.is at c.requires.counted))

pub read_key-requires : goal.read_key-requires
read_key-requires c = record {
  word =
      word_is_full c.args.line.now (front_of c.args.name) (words_in c.args.rest.now) c.first_words-words.result.first.now c.requires.printable c.requires.front c.first_words-words.ensures.first
      (some_words nothing (words_in c.args.rest.now) refl (rw c.in-Delete.is at c.requires.counted));
}

pub returns-in_ok-read_key-in-Delete : goal.returns-in_ok-read_key-in-Delete
returns-in_ok-read_key-in-Delete c =
    rw c.in-Delete.is
    (delete_read c.args.nodes c.args.line.now (words_in c.args.rest.now) c.in_ok-read_key-in-Delete.field-0 (rw c.in-Delete.is at c.requires.counted)
    (rw c.first_words-words.ensures.first at c.in_ok-read_key-in-Delete.ensures))

pub returns-in_ok-read_drop-in-Drop : goal.returns-in_ok-read_drop-in-Drop
returns-in_ok-read_drop-in-Drop c =
    rw c.in-Drop.is
    (drop_read c.args.nodes c.args.line.now (words_in c.args.rest.now) c.in_ok-read_drop-in-Drop.field-0 (rw c.in-Drop.is at c.requires.counted)
    (rw c.first_words-words.ensures.first at c.in_ok-read_drop-in-Drop.ensures))

pub returns-in-Search : goal.returns-in-Search
returns-in-Search c =
    rw c.in-Search.is
    (search_read c.args.nodes (omega (arith, c.ranges.nodes.fits)) c.args.line.now (words_in c.args.rest.now) c.read_search.result (rw c.in-Search.is at c.requires.counted)
    (rw c.first_words-words.ensures.first at c.read_search.ensures))

pub returns-in-Ask : goal.returns-in-Ask
returns-in-Ask c =
    rw c.in-Ask.is
    (ask_read c.args.nodes c.args.line.now (words_in c.args.rest.now) c.read_ask.result (rw c.in-Ask.is at c.requires.counted)
    (rw c.first_words-words.ensures.first at c.read_ask.ensures))

pub returns-in-Plain : goal.returns-in-Plain
returns-in-Plain c =
    rw (c.in-Plain.is, c.in_range.ensures, c.read_plain.ensures, c.first_words-words.ensures.first, c.first_words-words.ensures.second, c.first_words-words.ensures.third)
    (plain_read c.args.nodes (omega (arith, c.ranges.nodes.fits)) c.in-Plain.plain c.args.line.now (words_in c.args.rest.now) (rw c.in-Plain.is at c.requires.counted))

pub returns-in-Fault : goal.returns-in-Fault
returns-in-Fault c =
    rw (c.in-Fault.is, c.in_range-in-Fault.ensures, c.read_fault.ensures, c.first_words-words.ensures.first, c.first_words-words.ensures.second, c.first_words-words.ensures.third)
    (fault_read c.args.nodes (omega (arith, c.ranges.nodes.fits)) c.in-Fault.kind c.args.line.now (words_in c.args.rest.now) (rw c.in-Fault.is at c.requires.counted))
