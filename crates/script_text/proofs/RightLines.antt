-- A statement that spells a line is right at its place.
use Rattle.std.proofs.Common.{◌≡◌, ℕ, ◌<◌, ◌≤◌, List, [], ◌∷◌, length, take, true, false, refl, ap, ◌∙◌, subst, arith}
use Rattle.std.specs.Prelude.{Bool, ◌&&◌, ◌^◌, ◌-◌, nat_le, codes, bytes_eq}
use Rattle.std.specs.List.{list_all}
use Rattle.std.specs.Fmt.{decimal}
use Rattle.std.proofs.lemmas.Bool.{false≢true, le-leb, le-ltb, lt-leb, eq-eqb, and_from, and_parts, or_right}
use Rattle.nrt_base.specs.Bytes.{is_between, is_key, is_key_byte, is_text, is_text_byte, is_word, is_word_byte}
use Rattle.nrt_base.proofs.Plain.{between_high}
use Rattle.documents.specs.declared.query.Query.{Query}
use Rattle.history_rules.specs.declared.cause.FaultPlan.{FaultPlan}
use Rattle.history_rules.specs.declared.cause.FaultPlan.TheVariants.{Link, Damage, Disk, Stop}
use Rattle.documents.specs.Matching.{is_well_formed}
use Rattle.text_query.specs.declared.fault.QueryFault.TheVariants.{Empty}
use Rattle.text_query.specs.Answers.{Parses}
use Rattle.text_query.proofs.FaultLemmas.{parses_no_fault}
use Rattle.script_text.specs.declared.counted.Counted.{Counted}
use Rattle.script_serving.specs.declared.script.Force.{Force}
use Rattle.script_serving.specs.declared.script.Force.TheVariants.{Auto, Exactly}
use Rattle.script_serving.specs.declared.script.Line.{Line}
use Rattle.script_serving.specs.declared.script.LineCommand.{LineCommand}
use Rattle.script_serving.specs.declared.script.LineCommand.TheVariants.{Put, Delete, Drop, Publish, Copy, Settle, Search, Open, Ask, Close, Commit, Crash, Reopen, Promote, Merge, Drain, Files, Fault}
use Rattle.script_serving.specs.Form.{is_plan, is_force, is_command}
use Rattle.script_text.specs.Grammar.{Statement, words_in, rest_behind, force_word, command_words, IsQueryText, Ends, SpellsLine}
use Rattle.history_rules.specs.Faults.{plan_words}
use Rattle.script_text.specs.Refused.{is_number_in, Kind, number as number_kind, node as node_kind, force as force_kind, key as key_kind, letters as letters_kind, nothing, text as text_tail, query as query_tail, Shape, shape as shape_with, command, asked, is_kind, are_kinds, is_short, is_too_few_or_many, lane_line, Place, has_room, IsRight}
use Rattle.script_text.proofs.NumberLaws.{number_in, digits_of-decimal, is_digits-decimal}
use Rattle.script_text.proofs.WordLaws.{words_after, nothing_behind}
use Rattle.script_text.proofs.RightForms.{AreRight, right_lane, right_by_form, IsBehind, lane_form, log_behind}
use Rattle.script_text.proofs.DropLemmas.{letters_written}

-- a command without a text or a query, of this shape
plain : (size : ℕ) (shape : Shape) (behind words : List (List ℕ)) (rest : List ℕ) → asked words ≡ command shape behind → shape.tail ≡ nothing
    → length shape.words ≡ length behind → are_kinds size shape.words behind ≡ true → AreRight size words rest
plain size shape behind words rest asks tail counted kinds =
    let same : is_too_few_or_many nothing (length shape.words) (length behind) ≡ false = not_miscounted (length shape.words) (length behind) counted in
    record {
      shape = shape;
      behind = behind;
      asks = asks;
      counted = rw tail same;
      kinds = kinds;
      short = rw tail refl;
      searched = λ searches. absurd (false≢true (rw tail at searches));
    }
  where
    not_miscounted : (n m : ℕ) → n ≡ m → is_too_few_or_many nothing n m ≡ false
    not_miscounted n m e = rw (eq-eqb n m e) refl

one_kind : (size : ℕ) (kind : Kind) (word : List ℕ) (words : List (List ℕ)) → is_kind size kind word ≡ true → are_kinds size (kind ∷ []) (word ∷ words) ≡ true
one_kind size kind word words h = and_from (is_kind size kind word) true h refl

two_kinds : (size : ℕ) (kind next : Kind) (word other : List ℕ) → is_kind size kind word ≡ true → is_kind size next other ≡ true
    → are_kinds size (kind ∷ next ∷ []) (word ∷ other ∷ []) ≡ true
two_kinds size kind next word other h k = and_from (is_kind size kind word) (are_kinds size (next ∷ []) (other ∷ [])) h (one_kind size next other [] k)

three_kinds : (size : ℕ) (kind next last : Kind) (word other third : List ℕ) → is_kind size kind word ≡ true → is_kind size next other ≡ true → is_kind size last third ≡ true
    → are_kinds size (kind ∷ next ∷ last ∷ []) (word ∷ other ∷ third ∷ []) ≡ true
three_kinds size kind next last word other third h k l =
    and_from (is_kind size kind word) (are_kinds size (next ∷ last ∷ []) (other ∷ third ∷ [])) h (two_kinds size next last other third k l)

-- a key is short enough
key_is : (size : ℕ) (word : List ℕ) → is_key word ≡ true → is_kind size key_kind word ≡ true
key_is size word h =
    let parts = and_parts (is_between 1 64 (length word)) (list_all is_key_byte word) h in
    le-leb (length word) 64 (between_high 1 64 (length word) parts.0)

number_is : (size low high n : ℕ) → high < 2 ^ 64 → is_between low high n ≡ true → is_kind size (number_kind low high) (decimal n) ≡ true
number_is size low high n narrow h = number_in low high n (omega (arith, between_high low high n h)) h

force_is : (size : ℕ) (force : Force) → is_force force ≡ true → is_kind size force_kind (force_word force) ≡ true
force_is size Auto h = refl
force_is size (Exactly f) h =
    or_right (bytes_eq (codes "auto") (decimal f)) (is_number_in 0 (2 ^ 64 - 1) (decimal f))
    (number_in 0 (2 ^ 64 - 1) f (omega (arith, between_high 0 (2 ^ 64 - 1) f h)) h)

word_range : (word : List ℕ) → is_word word && nat_le (length word) 64 ≡ true → is_between 1 64 (length word) ≡ true
word_range word h =
    let parts = and_parts (is_word word) (nat_le (length word) 64) h in
    and_from (nat_le 1 (length word)) (nat_le (length word) 64) (and_parts (nat_le 1 (length word)) (list_all is_word_byte word) parts.0).0 parts.1

-- three words in front
pub three_words : (words : List (List ℕ)) (a b c : List ℕ) → take 3 words ≡ a ∷ b ∷ c ∷ [] → words ≡ a ∷ b ∷ c ∷ words_after 3 words
three_words [] a b c e = cc
three_words (x ∷ []) a b c e = cc
three_words (x ∷ y ∷ []) a b c e = cc
three_words (x ∷ y ∷ z ∷ words) a b c e = cc

no_query : (text : List ℕ) (query : Query) → Parses text query → text ≡ [] → ⊥
no_query text query parses e = parses_no_fault [] query Empty (subst (λ (t : List ℕ). Parses t query) e parses) refl

-- where a query stands behind three words, there is a fourth
fourth_word : (line : List ℕ) (query : Query) (words : List (List ℕ)) (word : List ℕ) → words_after 3 (words_in line) ≡ words → Parses (rest_behind 3 line) query
    → is_too_few_or_many query_tail 1 (length (word ∷ words)) ≡ false
fourth_word line query [] word e parses = absurd (no_query (rest_behind 3 line) query parses (nothing_behind 3 line e))
fourth_word line query (next ∷ words) word e parses = lt-leb (length (word ∷ next ∷ words)) 1 (omega arith)

-- the words behind the lane of a line
record IsRightLine (size : ℕ) (line : List ℕ) (lane : ℕ) : Type 0 where
  words : List (List ℕ)
  are : words_in line ≡ decimal lane ∷ words
  right : AreRight size words (rest_behind 3 line)

module _ (size : ℕ) (small : size ≤ 16) where
  node_is : (n : ℕ) → is_between 1 size n ≡ true → is_kind size node_kind (decimal n) ≡ true
  node_is n h = number_in 1 size n (omega (arith, between_high 1 size n h)) h

  -- a search of a query, behind a command of one number
  searching : (line : List ℕ) (shape : Shape) (name word : List ℕ) (query : Query)
      → asked (name ∷ word ∷ words_after 3 (words_in line)) ≡ command shape (word ∷ words_after 3 (words_in line)) → shape.tail ≡ query_tail → length shape.words ≡ 1
      → are_kinds size shape.words (word ∷ words_after 3 (words_in line)) ≡ true → IsQueryText (rest_behind 3 line) query
      → AreRight size (name ∷ word ∷ words_after 3 (words_in line)) (rest_behind 3 line)
  searching line shape name word query asks tail one kinds text =
      let counted : is_too_few_or_many query_tail 1 (length (word ∷ words_after 3 (words_in line))) ≡ false = fourth_word line query (words_after 3 (words_in line)) word refl text.1 in
      let short : is_short query_tail (rest_behind 3 line) ≡ true = le-leb (length (rest_behind 3 line)) 4096 text.0 in
      record {
        shape = shape;
        behind = word ∷ words_after 3 (words_in line);
        asks = asks;
        counted = rw (tail, one) counted;
        kinds = kinds;
        short = rw tail short;
        searched = λ searches. record { query = query; parses = text.1 };
      }

  right_fault : (n : ℕ) (plan : FaultPlan) (rest : List ℕ) → is_between 1 size n ≡ true → is_plan plan ≡ true → AreRight size (codes "fault" ∷ plan_words n plan) rest
  right_fault n (Link k) rest h p =
      plain size (shape_with (codes "link") (node_kind ∷ number_kind 1 1000000 ∷ []) nothing) (decimal n ∷ decimal k ∷ []) (codes "fault" ∷ plan_words n (Link k)) rest refl refl refl
      (two_kinds size node_kind (number_kind 1 1000000) (decimal n) (decimal k) (node_is n h) (number_is size 1 1000000 k (omega arith) p))
  right_fault n (Damage k at) rest h p =
      let parts = and_parts (is_between 1 1000000 k) (is_between 0 (2 ^ 32 - 1) at) p in
      plain size (shape_with (codes "damage") (node_kind ∷ number_kind 1 1000000 ∷ number_kind 0 (2 ^ 32 - 1) ∷ []) nothing) (decimal n ∷ decimal k ∷ decimal at ∷ [])
      (codes "fault" ∷ plan_words n (Damage k at)) rest refl refl refl
      (three_kinds size node_kind (number_kind 1 1000000) (number_kind 0 (2 ^ 32 - 1)) (decimal n) (decimal k) (decimal at)
      (node_is n h) (number_is size 1 1000000 k (omega arith) parts.0) (number_is size 0 (2 ^ 32 - 1) at (omega arith) parts.1))
  right_fault n (Disk k) rest h p =
      plain size (shape_with (codes "disk") (node_kind ∷ number_kind 1 1000000 ∷ []) nothing) (decimal n ∷ decimal k ∷ []) (codes "fault" ∷ plan_words n (Disk k)) rest refl refl refl
      (two_kinds size node_kind (number_kind 1 1000000) (decimal n) (decimal k) (node_is n h) (number_is size 1 1000000 k (omega arith) p))
  right_fault n (Stop k) rest h p =
      plain size (shape_with (codes "stop") (node_kind ∷ number_kind 1 1000000 ∷ []) nothing) (decimal n ∷ decimal k ∷ []) (codes "fault" ∷ plan_words n (Stop k)) rest refl refl refl
      (two_kinds size node_kind (number_kind 1 1000000) (decimal n) (decimal k) (node_is n h) (number_is size 1 1000000 k (omega arith) p))

  -- a line of a command whose words are all there are
  whole_line : (c : LineCommand) (line : List ℕ) (lane : ℕ) → words_in line ≡ decimal lane ∷ command_words c → AreRight size (command_words c) (rest_behind 3 line) → IsRightLine size line lane
  whole_line c line lane e right = record { words = command_words c; are = e; right = right }

  -- a command of one word behind its name
  one_word : (shape : Shape) (kind : Kind) (c : LineCommand) (line : List ℕ) (lane : ℕ) (word : List ℕ) → words_in line ≡ decimal lane ∷ command_words c
      → asked (command_words c) ≡ command shape (word ∷ []) → shape.tail ≡ nothing → shape.words ≡ kind ∷ [] → is_kind size kind word ≡ true → IsRightLine size line lane
  one_word shape kind c line lane word e asks tail kinds h =
      whole_line c line lane e (plain size shape (word ∷ []) (command_words c) (rest_behind 3 line) asks tail (ap length kinds) (rw kinds (one_kind size kind word [] h)))

  right_command : (c : LineCommand) (line : List ℕ) (lane : ℕ) → Ends c line lane → is_command size c ≡ true → IsRightLine size line lane
  right_command (Put doc) line lane ends ranges =
      let parts = and_parts (is_key doc.key) (is_text doc.text) ranges in
      let short : nat_le (length doc.text) 4096 ≡ true = (and_parts (nat_le (length doc.text) 4096) (list_all is_text_byte doc.text) parts.1).0 in
      record {
        words = codes "put" ∷ doc.key ∷ words_after 3 (words_in line);
        are = three_words (words_in line) (decimal lane) (codes "put") doc.key ends.0;
        right = record {
          shape = shape_with (codes "put") (key_kind ∷ []) text_tail;
          behind = doc.key ∷ words_after 3 (words_in line);
          asks = refl;
          counted = le-ltb (length (doc.key ∷ words_after 3 (words_in line))) 1 (omega arith);
          kinds = one_kind size key_kind doc.key (words_after 3 (words_in line)) (key_is size doc.key parts.0);
          short = ap (λ (t : List ℕ). nat_le (length t) 4096) ends.1 ∙ short;
          searched = λ searches. absurd (false≢true searches);
        };
      }
  right_command (Delete key) line lane ends ranges =
      one_word (shape_with (codes "delete") (key_kind ∷ []) nothing) key_kind (Delete key) line lane key ends refl refl refl (key_is size key ranges)
  right_command (Drop word) line lane ends ranges =
      record {
        words = codes "drop" ∷ ends.written ∷ [];
        are = ends.words;
        right = plain size (shape_with (codes "drop") (letters_kind ∷ []) nothing) (ends.written ∷ []) (codes "drop" ∷ ends.written ∷ []) (rest_behind 3 line) refl refl refl
            (one_kind size letters_kind ends.written [] (letters_written size ends.written word ends.letters ends.only (word_range word ranges)));
      }
  right_command Publish line lane ends ranges =
      whole_line Publish line lane ends (plain size (shape_with (codes "publish") [] nothing) [] (command_words Publish) (rest_behind 3 line) refl refl refl refl)
  right_command (Copy n) line lane ends ranges =
      one_word (shape_with (codes "copy") (node_kind ∷ []) nothing) node_kind (Copy n) line lane (decimal n.0) ends refl refl refl (node_is n.0 ranges)
  right_command Settle line lane ends ranges =
      whole_line Settle line lane ends (plain size (shape_with (codes "settle") [] nothing) [] (command_words Settle) (rest_behind 3 line) refl refl refl refl)
  right_command (Search n query) line lane ends ranges =
      let node = (and_parts (is_between 1 size n.0) (is_well_formed query) ranges).0 in
      record {
        words = codes "search" ∷ decimal n.0 ∷ words_after 3 (words_in line);
        are = three_words (words_in line) (decimal lane) (codes "search") (decimal n.0) ends.0;
        right = searching line (shape_with (codes "search") (node_kind ∷ []) query_tail) (codes "search") (decimal n.0) query refl refl refl
            (one_kind size node_kind (decimal n.0) (words_after 3 (words_in line)) (node_is n.0 node)) ends.1;
      }
  right_command (Open n t) line lane ends ranges =
      let parts = and_parts (is_between 1 size n.0) (is_between 1 9999 t.0) ranges in
      whole_line (Open n t) line lane ends
      (plain size (shape_with (codes "open") (node_kind ∷ number_kind 1 9999 ∷ []) nothing) (decimal n.0 ∷ decimal t.0 ∷ []) (command_words (Open n t)) (rest_behind 3 line) refl refl refl
      (two_kinds size node_kind (number_kind 1 9999) (decimal n.0) (decimal t.0) (node_is n.0 parts.0) (number_is size 1 9999 t.0 (omega arith) parts.1)))
  right_command (Ask t query) line lane ends ranges =
      let ticket = (and_parts (is_between 1 9999 t.0) (is_well_formed query) ranges).0 in
      record {
        words = codes "ask" ∷ decimal t.0 ∷ words_after 3 (words_in line);
        are = three_words (words_in line) (decimal lane) (codes "ask") (decimal t.0) ends.0;
        right = searching line (shape_with (codes "ask") (number_kind 1 9999 ∷ []) query_tail) (codes "ask") (decimal t.0) query refl refl refl
            (one_kind size (number_kind 1 9999) (decimal t.0) (words_after 3 (words_in line)) (number_is size 1 9999 t.0 (omega arith) ticket)) ends.1;
      }
  right_command (Close t) line lane ends ranges =
      one_word (shape_with (codes "close") (number_kind 1 9999 ∷ []) nothing) (number_kind 1 9999) (Close t) line lane (decimal t.0) ends refl refl refl (number_is size 1 9999 t.0 (omega arith) ranges)
  right_command (Commit n) line lane ends ranges =
      one_word (shape_with (codes "commit") (node_kind ∷ []) nothing) node_kind (Commit n) line lane (decimal n.0) ends refl refl refl (node_is n.0 ranges)
  right_command (Crash n pick) line lane ends ranges =
      let parts = and_parts (is_between 1 size n.0) (is_between 0 (2 ^ 64 - 1) pick) ranges in
      whole_line (Crash n pick) line lane ends
      (plain size (shape_with (codes "crash") (node_kind ∷ number_kind 0 (2 ^ 64 - 1) ∷ []) nothing) (decimal n.0 ∷ decimal pick ∷ []) (command_words (Crash n pick)) (rest_behind 3 line) refl refl refl
      (two_kinds size node_kind (number_kind 0 (2 ^ 64 - 1)) (decimal n.0) (decimal pick) (node_is n.0 parts.0) (number_is size 0 (2 ^ 64 - 1) pick (omega arith) parts.1)))
  right_command (Reopen n) line lane ends ranges =
      one_word (shape_with (codes "reopen") (node_kind ∷ []) nothing) node_kind (Reopen n) line lane (decimal n.0) ends refl refl refl (node_is n.0 ranges)
  right_command (Promote n force) line lane ends ranges =
      let parts = and_parts (is_between 1 size n.0) (is_force force) ranges in
      whole_line (Promote n force) line lane ends
      (plain size (shape_with (codes "promote") (node_kind ∷ force_kind ∷ []) nothing) (decimal n.0 ∷ force_word force ∷ []) (command_words (Promote n force)) (rest_behind 3 line) refl refl refl
      (two_kinds size node_kind force_kind (decimal n.0) (force_word force) (node_is n.0 parts.0) (force_is size force parts.1)))
  right_command (Merge factor) line lane ends ranges =
      one_word (shape_with (codes "merge") (number_kind 2 16 ∷ []) nothing) (number_kind 2 16) (Merge factor) line lane (decimal factor) ends refl refl refl (number_is size 2 16 factor (omega arith) ranges)
  right_command (Drain most) line lane ends ranges =
      one_word (shape_with (codes "drain") (number_kind 1 1000 ∷ []) nothing) (number_kind 1 1000) (Drain most) line lane (decimal most) ends refl refl refl (number_is size 1 1000 most (omega arith) ranges)
  right_command (Files n) line lane ends ranges =
      one_word (shape_with (codes "files") (node_kind ∷ []) nothing) node_kind (Files n) line lane (decimal n.0) ends refl refl refl (node_is n.0 ranges)
  right_command (Fault n plan) line lane ends ranges =
      let parts = and_parts (is_between 1 size n.0) (is_plan plan) ranges in
      whole_line (Fault n plan) line lane ends (right_fault n.0 plan (rest_behind 3 line) parts.0 parts.1)

  -- a statement that spells a line is right behind the first
  pub right_spelled : (place : Place) (log : Bool) (before : Counted) (statement : Statement) (line : Line) → IsBehind place size log → SpellsLine size statement line
      → has_room log before (words_in statement.line) ≡ true → IsRight place before statement
  right_spelled place log before statement line behind spells room =
      let lane = line.at.lane.0 in
      let narrow : lane < 2 ^ 64 = omega (arith, between_high 1 8 lane spells.lane) in
      let found = right_command line.command statement.line lane spells.words spells.ranges in
      right_by_form place before statement (lane_line size (decimal lane) found.words)
      (lane_form place size log statement (decimal lane) found.words behind found.are (digits_of-decimal lane narrow) (is_digits-decimal lane narrow))
      (right_lane size (decimal lane) found.words statement.line (number_in 1 8 lane narrow spells.lane) found.right) spells.printable
      (ap (λ (b : Bool). has_room b before (words_in statement.line)) (log_behind place size log behind) ∙ room)
