-- What is read of a line of a lane is right, and is the line that the statement spells.
use Rattle.std.proofs.Common.{◌≡◌, ◌<◌, ℕ, Bool, true, false, List, ◌∷◌, ◌++◌, refl, ap, ◌∙◌, sym, arith, Some}
use Rattle.std.specs.Prelude.{◌&&◌, codes, bytes_eq}
use Rattle.std.specs.Fmt.{decimal}
use Rattle.std.specs.Option.{option_map}
use Rattle.std.proofs.lemmas.Option.{none-some, same_Some}
use Rattle.std.proofs.lemmas.Bool.{and_from}
use Rattle.nrt_base.specs.Bytes.{is_between}
use Rattle.nrt_base.specs.declared.numbers.LaneNo.{LaneNo}
use Rattle.script_text.specs.declared.counted.Counted.{Counted}
use Rattle.script_serving.specs.declared.script.LineCommand.{LineCommand}
use Rattle.script_text.specs.declared.shapes.Name.{Name}
use Rattle.script_text.specs.Grammar.{Statement, words_in, rest_behind, SpellsLine}
use Rattle.script_text.specs.Refused.{command, lane_line, later, is_digits, asked, is_unknown, is_miscounted, is_number_in, is_asked_in_range, asks_query, has_room, IsRight, shape_of, is_printable}
use Rattle.script_text.specs.Reading.{front_of, lane_named, IsCommandOf}
use Rattle.script_text.proofs.NumberLemmas.{number_case}
use Rattle.script_text.proofs.CauseLemmas.{lane_form, no_cause}

-- a word that was read as a lane is that lane
record ReadsLane (word : List ℕ) (n : ℕ) : Type 0 where
  number_in : is_number_in 1 8 word ≡ true
  spelled : decimal n ≡ word
  within : is_between 1 8 n ≡ true

lane_reads : (word : List ℕ) (lane : LaneNo) → lane_named word ≡ Some lane → ReadsLane word lane.0
lane_reads word lane =
    number_case 1 8 word (omega arith) (λ o. option_map to_lane o ≡ Some lane → ReadsLane word lane.0)
    (λ m is spelled within e.
    let same : m ≡ lane.0 = ap (λ (x : LaneNo). x.0) (same_Some (to_lane m) lane e) in
    record { number_in = is; spelled = ap decimal (sym same) ∙ spelled; within = ap (is_between 1 8) (sym same) ∙ within })
    (λ other e. absurd (none-some lane e))
  where
    to_lane : ℕ → LaneNo
    to_lane n = record { 0 = n }

-- a line whose command was read
pub line_read : (size : ℕ) (log : Bool) (before : Counted) (statement : Statement) (lane_word : List ℕ) (words : List (List ℕ)) (lane : LaneNo) (n : Name) (rest : List (List ℕ)) (read : LineCommand)
    → is_printable statement.line ≡ true → words_in statement.line ≡ lane_word ∷ words
    → bytes_eq (codes "join") lane_word ≡ false → is_digits lane_word ≡ true
    → command (shape_of n) rest ≡ asked words → words ≡ front_of n ++ rest → is_miscounted (command (shape_of n) rest) ≡ false → has_room log before (words_in statement.line) ≡ true
    → lane_named lane_word ≡ Some lane → IsCommandOf size n statement.line rest read
    → IsRight (later size log) before statement × SpellsLine size statement (record { at = record { lane = lane; line = record { 0 = statement.number } }; command = read })
line_read size log before statement lane_word words lane n rest read printable split other digits asks front counted room at is = (
  no_cause (later size log) before statement (lane_line size lane_word words) (lane_form size log statement lane_word words split other digits) printable refl
      (ap is_unknown (sym asks)) (ap is_miscounted (sym asks) ∙ counted) in_range (λ fault asking. is.no_fault fault (ap asks_query asks ∙ asking)),
  record {
    printable = printable;
    number = refl;
    lane = facts.within;
    words = is.ends lane.0 (split ∙ (ap (λ (w : List ℕ). w ∷ words) (sym facts.spelled) ∙ ap (λ (ws : List (List ℕ)). decimal lane.0 ∷ ws) front));
    ranges = is.ranges;
  },
)
  where
    facts : ReadsLane lane_word lane.0
    facts = lane_reads lane_word lane at

    in_range : ((is_number_in 1 8 lane_word && is_asked_in_range size (rest_behind 3 statement.line) (asked words)) && has_room log before (words_in statement.line)) ≡ true
    in_range =
        and_from (is_number_in 1 8 lane_word && is_asked_in_range size (rest_behind 3 statement.line) (asked words)) (has_room log before (words_in statement.line))
        (and_from (is_number_in 1 8 lane_word) (is_asked_in_range size (rest_behind 3 statement.line) (asked words)) facts.number_in
        (ap (is_asked_in_range size (rest_behind 3 statement.line)) (sym asks) ∙ is.in_range))
        room
