-- What is read of a command's words is the command that they spell.
use Rattle.std.proofs.Common.{◌≡◌, ◌<◌, ◌≤◌, ◌-◌, ◌^◌, ℕ, zero, suc, Bool, true, false, List, [], ◌∷◌, ◌++◌, length, take, refl, ap, ◌∙◌, sym, arith, Option, Some, None, Result, Ok, Err}
use Rattle.std.specs.Prelude.{◌&&◌, nat_le, codes, MatchOption, bytes_eq}
use Rattle.std.specs.Fmt.{decimal}
use Rattle.std.specs.List.{list_all}
use Rattle.std.specs.Cmp.Lexicographic.{same_text}
use Rattle.std.specs.Option.{option_map, option_and_then}
use Rattle.std.proofs.Math.Bool.{and-true}
use Rattle.std.proofs.lemmas.Option.{none-some, same_Some}
use Rattle.std.proofs.lemmas.Bool.{false≢true, leb-true, and_from, and_left, and_right, and_parts}
use Rattle.std.proofs.lemmas.Bool.Decides.{nat_tests}
use Rattle.nrt_base.specs.Bytes.{is_between, is_key, is_key_byte, is_text, is_text_byte, is_word}
use Rattle.nrt_base.specs.declared.doc.Doc.{Doc}
use Rattle.nrt_base.specs.declared.numbers.NodeNo.{NodeNo}
use Rattle.nrt_base.specs.declared.numbers.TicketNo.{TicketNo}
use Rattle.history_rules.specs.declared.cause.FaultKind.{FaultKind}
use Rattle.history_rules.specs.declared.cause.FaultKind.TheVariants as kind
use Rattle.history_rules.specs.declared.cause.FaultPlan.TheVariants as plan
use Rattle.documents.specs.Matching.{is_well_formed}
use Rattle.documents.specs.Words.{is_alphanumeric}
use Rattle.script_text.specs.declared.fault.LineFault.TheVariants.{NoNodes, Word, Count, Range, Query as RefusedQuery, Text}
use Rattle.script_text.specs.declared.fault.Refusal.{Refusal}
use Rattle.script_text.specs.declared.fault.Refusal.TheVariants as refusal
use Rattle.script_serving.specs.declared.script.Force.{Force}
use Rattle.script_serving.specs.declared.script.Force.TheVariants.{Auto, Exactly}
use Rattle.script_serving.specs.declared.script.LineCommand.{LineCommand}
use Rattle.script_serving.specs.declared.script.LineCommand.TheVariants as asks
use Rattle.script_text.specs.declared.shapes.Plain.{Plain}
use Rattle.script_text.specs.declared.shapes.Plain.TheVariants as plain
use Rattle.script_text.specs.declared.shapes.Name.{Name}
use Rattle.script_text.specs.declared.shapes.Name.TheVariants as named
use Rattle.script_serving.specs.Form.{is_command, is_force}
use Rattle.script_text.specs.Grammar.{words_in, rest_behind, command_words, force_word, Ends, word_at}
use Rattle.script_text.specs.Refused.{Kind, number, node, force, Tail, nothing, text, query, command, is_number_in, is_kind, are_kinds, is_short, is_too_few_or_many, is_asked_in_range, asks_query, plain_shape, fault_shape, shape_of}
use Rattle.script_text.specs.Reading.{number_within, node_named, ticket_named, force_named, front_of, plain_command, plan_of, fault_command, in_range, has_short_rest, IsDocRead, IsKeyRead, IsDropRead, IsSearchRead, IsAskRead, IsCommandOf, IsCommandRead}
use Rattle.script_text.proofs.DropLemmas.{word_length}
use Rattle.script_text.proofs.NumberLemmas.{number_case}
use Rattle.script_text.proofs.ShapeLemmas.{plain_tail, plain_few, fault_tail, fault_few}

-- a command of these kinds of words, which nothing follows, was read of three words
record Plainly (size : ℕ) (kinds : List Kind) (front words : List (List ℕ)) (read : LineCommand) : Type 0 where
  kinds_hold : are_kinds size kinds words ≡ true
  spelled : command_words read ≡ front ++ take (length kinds) words
  ends : (line : List ℕ) (lane : ℕ) → words_in line ≡ decimal lane ∷ command_words read → Ends read line lane
  ranges : is_command size read ≡ true

abbrev IsReadOf : ℕ → List Kind → List (List ℕ) → List (List ℕ) → Option LineCommand → Type 0
IsReadOf size kinds front words read = MatchOption read (are_kinds size kinds words ≡ false) (Plainly size kinds front words)

-- a command with one number
module _ (size low high : ℕ) (kind : Kind) (same : (word : List ℕ) → is_kind size kind word ≡ is_number_in low high word) (small : high < 2 ^ 64)
    (front : List (List ℕ)) (out : Option ℕ → Option LineCommand) (make : ℕ → LineCommand) (made : (n : ℕ) → out (Some n) ≡ Some (make n)) (none : out None ≡ None)
    (words : (n : ℕ) → command_words (make n) ≡ front ++ (decimal n ∷ []))
    (ends : (n : ℕ) (line : List ℕ) (lane : ℕ) → words_in line ≡ decimal lane ∷ command_words (make n) → Ends (make n) line lane)
    (ranges : (n : ℕ) → is_between low high n ≡ true → is_command size (make n) ≡ true) where
  one_number : (a b c : List ℕ) → IsReadOf size (kind ∷ []) front (a ∷ b ∷ c ∷ []) (out (number_within low high a))
  one_number a b c =
      number_case low high a small (λ o. IsReadOf size (kind ∷ []) front (a ∷ b ∷ c ∷ []) (out o))
      (λ n is spelled within.
      let read : Plainly size (kind ∷ []) front (a ∷ b ∷ c ∷ []) (make n) = record {
        kinds_hold = ap (λ t. t && true) (same a ∙ is);
        spelled = words n ∙ ap (λ (w : List ℕ). front ++ (w ∷ [])) spelled;
        ends = ends n;
        ranges = ranges n within;
      } in
      rw (made n) read)
      (λ other. let fails : are_kinds size (kind ∷ []) (a ∷ b ∷ c ∷ []) ≡ false = ap (λ t. t && true) (same a ∙ other) in rw none fails)

-- a command with a node and a number
module _ (size low high : ℕ) (kind : Kind) (same : (word : List ℕ) → is_kind size kind word ≡ is_number_in low high word) (few : size < 2 ^ 64) (small : high < 2 ^ 64)
    (front : List (List ℕ)) (out : Option ℕ → Option ℕ → Option LineCommand) (make : ℕ → ℕ → LineCommand)
    (made : (n k : ℕ) → out (Some n) (Some k) ≡ Some (make n k)) (none : (o : Option ℕ) → out None o ≡ None) (no_number : (n : ℕ) → out (Some n) None ≡ None)
    (words : (n k : ℕ) → command_words (make n k) ≡ front ++ (decimal n ∷ decimal k ∷ []))
    (ends : (n k : ℕ) (line : List ℕ) (lane : ℕ) → words_in line ≡ decimal lane ∷ command_words (make n k) → Ends (make n k) line lane)
    (ranges : (n k : ℕ) → is_between 1 size n ≡ true → is_between low high k ≡ true → is_command size (make n k) ≡ true) where
  two_numbers : (a b c : List ℕ) → IsReadOf size (node ∷ kind ∷ []) front (a ∷ b ∷ c ∷ []) (out (number_within 1 size a) (number_within low high b))
  two_numbers a b c =
      number_case 1 size a few (λ o. IsReadOf size (node ∷ kind ∷ []) front (a ∷ b ∷ c ∷ []) (out o (number_within low high b)))
      (λ n is spelled within.
      number_case low high b small (λ o. IsReadOf size (node ∷ kind ∷ []) front (a ∷ b ∷ c ∷ []) (out (Some n) o))
      (λ k is' spelled' within'.
      let read : Plainly size (node ∷ kind ∷ []) front (a ∷ b ∷ c ∷ []) (make n k) = record {
        kinds_hold = and_from (is_number_in 1 size a) (is_kind size kind b && true) is (ap (λ t. t && true) (same b ∙ is'));
        spelled = words n k ∙ (ap (λ (w : List ℕ). front ++ (w ∷ decimal k ∷ [])) spelled ∙ ap (λ (w : List ℕ). front ++ (a ∷ w ∷ [])) spelled');
        ends = ends n k;
        ranges = ranges n k within within';
      } in
      rw (made n k) read)
      (λ other.
      let fails : are_kinds size (node ∷ kind ∷ []) (a ∷ b ∷ c ∷ []) ≡ false =
      and_right (is_number_in 1 size a) (is_kind size kind b && true) (ap (λ t. t && true) (same b ∙ other)) in
      rw (no_number n) fails))
      (λ other.
      let fails : are_kinds size (node ∷ kind ∷ []) (a ∷ b ∷ c ∷ []) ≡ false = and_left (is_number_in 1 size a) (is_kind size kind b && true) other in
      rw (none (number_within low high b)) fails)

abbrev to_node : Option ℕ → Option NodeNo
to_node o = option_map (λ n. record { 0 = n }) o

abbrev to_ticket : Option ℕ → Option TicketNo
to_ticket o = option_map (λ n. record { 0 = n }) o

-- a forced version is read as it is spelled
force_case : (word : List ℕ) (P : Option Force → Type 0)
    → ((f : Force) → is_kind 0 force word ≡ true → force_word f ≡ word → is_force f ≡ true → P (Some f)) → (is_kind 0 force word ≡ false → P None) → P (force_named word)
force_case word P held other = by_test (bytes_eq (codes "auto") word) refl
  where
    by_test : (t : Bool) → bytes_eq (codes "auto") word ≡ t → P (force_named word)
    by_test true e = rw e (held Auto (rw e refl) (same_text (codes "auto") word (sym e)) refl)
    by_test false e =
        rw e
        (number_case 0 (2 ^ 64 - 1) word (omega arith) (λ o. P (option_map (λ n. Exactly n) o))
        (λ n is spelled within. held (Exactly n) (rw (e, is) refl) spelled within)
        (λ no_number. other (rw (e, no_number) refl)))

promote_is : (size : ℕ) → size < 2 ^ 64 → (a b c : List ℕ) → IsReadOf size (node ∷ force ∷ []) (codes "promote" ∷ []) (a ∷ b ∷ c ∷ []) (plain_command size plain.Promote a b c)
promote_is size few a b c =
    number_case 1 size a few
    (λ o. IsReadOf size (node ∷ force ∷ []) (codes "promote" ∷ []) (a ∷ b ∷ c ∷ []) (option_and_then (λ n. option_map (λ f. asks.Promote n f) (force_named b)) (to_node o)))
    (λ n is spelled within.
    force_case b (λ o. IsReadOf size (node ∷ force ∷ []) (codes "promote" ∷ []) (a ∷ b ∷ c ∷ []) (option_map (λ f. asks.Promote (record { 0 = n }) f) o))
    (λ f is' spelled' within'. record {
      kinds_hold = and_from (is_number_in 1 size a) (is_kind size force b && true) is (ap (λ t. t && true) is');
      spelled = ap (λ (w : List ℕ). codes "promote" ∷ w ∷ force_word f ∷ []) spelled ∙ ap (λ (w : List ℕ). codes "promote" ∷ a ∷ w ∷ []) spelled';
      ends = λ line lane h. h;
      ranges = and_from (is_between 1 size n) (is_force f) within within';
    })
    (λ fails. and_right (is_number_in 1 size a) (is_kind size force b && true) (ap (λ t. t && true) fails)))
    (λ fails. and_left (is_number_in 1 size a) (is_kind size force b && true) fails)

-- what is read of the words of a command that is read without memory
plain_is : (size : ℕ) → size < 2 ^ 64 → (p : Plain) (a b c : List ℕ)
    → IsReadOf size (plain_shape p).words ((plain_shape p).name ∷ []) (a ∷ b ∷ c ∷ []) (plain_command size p a b c)
plain_is size few plain.Publish a b c = record { kinds_hold = refl; spelled = refl; ends = λ line lane h. h; ranges = refl }
plain_is size few plain.Settle a b c = record { kinds_hold = refl; spelled = refl; ends = λ line lane h. h; ranges = refl }
plain_is size few plain.Copy a b c =
    one_number size 1 size node (λ word. refl) few (codes "copy" ∷ []) (λ o. option_map (λ n. asks.Copy n) (to_node o)) (λ n. asks.Copy (record { 0 = n })) (λ n. refl) refl
    (λ n. refl) (λ n line lane h. h) (λ n h. h) a b c
plain_is size few plain.Commit a b c =
    one_number size 1 size node (λ word. refl) few (codes "commit" ∷ []) (λ o. option_map (λ n. asks.Commit n) (to_node o)) (λ n. asks.Commit (record { 0 = n })) (λ n. refl) refl
    (λ n. refl) (λ n line lane h. h) (λ n h. h) a b c
plain_is size few plain.Reopen a b c =
    one_number size 1 size node (λ word. refl) few (codes "reopen" ∷ []) (λ o. option_map (λ n. asks.Reopen n) (to_node o)) (λ n. asks.Reopen (record { 0 = n })) (λ n. refl) refl
    (λ n. refl) (λ n line lane h. h) (λ n h. h) a b c
plain_is size few plain.Files a b c =
    one_number size 1 size node (λ word. refl) few (codes "files" ∷ []) (λ o. option_map (λ n. asks.Files n) (to_node o)) (λ n. asks.Files (record { 0 = n })) (λ n. refl) refl
    (λ n. refl) (λ n line lane h. h) (λ n h. h) a b c
plain_is size few plain.Close a b c =
    one_number size 1 9999 (number 1 9999) (λ word. refl) (omega arith) (codes "close" ∷ []) (λ o. option_map (λ t. asks.Close t) (to_ticket o)) (λ n. asks.Close (record { 0 = n })) (λ n. refl) refl
    (λ n. refl) (λ n line lane h. h) (λ n h. h) a b c
plain_is size few plain.Merge a b c =
    one_number size 2 16 (number 2 16) (λ word. refl) (omega arith) (codes "merge" ∷ []) (λ o. option_map (λ n. asks.Merge n) o) (λ n. asks.Merge n) (λ n. refl) refl
    (λ n. refl) (λ n line lane h. h) (λ n h. h) a b c
plain_is size few plain.Drain a b c =
    one_number size 1 1000 (number 1 1000) (λ word. refl) (omega arith) (codes "drain" ∷ []) (λ o. option_map (λ n. asks.Drain n) o) (λ n. asks.Drain n) (λ n. refl) refl
    (λ n. refl) (λ n line lane h. h) (λ n h. h) a b c
plain_is size few plain.Open a b c =
    two_numbers size 1 9999 (number 1 9999) (λ word. refl) few (omega arith) (codes "open" ∷ [])
    (λ o u. option_and_then (λ n. option_map (λ t. asks.Open n t) (to_ticket u)) (to_node o)) (λ n t. asks.Open (record { 0 = n }) (record { 0 = t }))
    (λ n k. refl) (λ o. refl) (λ n. refl) (λ n k. refl) (λ n k line lane h. h) (λ n k h g. and_from (is_between 1 size n) (is_between 1 9999 k) h g) a b c
plain_is size few plain.Crash a b c =
    two_numbers size 0 (2 ^ 64 - 1) (number 0 (2 ^ 64 - 1)) (λ word. refl) few (omega arith) (codes "crash" ∷ [])
    (λ o u. option_and_then (λ n. option_map (λ pick. asks.Crash n pick) u) (to_node o)) (λ n k. asks.Crash (record { 0 = n }) k)
    (λ n k. refl) (λ o. refl) (λ n. refl) (λ n k. refl) (λ n k line lane h. h) (λ n k h g. and_from (is_between 1 size n) (is_between 0 (2 ^ 64 - 1) k) h g) a b c
plain_is size few plain.Promote a b c = promote_is size few a b c

abbrev damage_kinds : List Kind
damage_kinds = node ∷ number 1 1000000 ∷ number 0 (2 ^ 32 - 1) ∷ []

abbrev damage_front : List (List ℕ)
damage_front = codes "fault" ∷ codes "damage" ∷ []

-- what is read of the words of a planned fault
fault_is : (size : ℕ) → size < 2 ^ 64 → (k : FaultKind) (a b c : List ℕ)
    → IsReadOf size (fault_shape k).words (codes "fault" ∷ (fault_shape k).name ∷ []) (a ∷ b ∷ c ∷ []) (fault_command size k a b c)
fault_is size few kind.Link a b c =
    two_numbers size 1 1000000 (number 1 1000000) (λ word. refl) few (omega arith) (codes "fault" ∷ codes "link" ∷ [])
    (λ o u. option_and_then (λ n. option_map (λ p. asks.Fault n p) (option_map (λ k. plan.Link k) u)) (to_node o)) (λ n k. asks.Fault (record { 0 = n }) (plan.Link k))
    (λ n k. refl) (λ o. refl) (λ n. refl) (λ n k. refl) (λ n k line lane h. h) (λ n k h g. and_from (is_between 1 size n) (is_between 1 1000000 k) h g) a b c
fault_is size few kind.Disk a b c =
    two_numbers size 1 1000000 (number 1 1000000) (λ word. refl) few (omega arith) (codes "fault" ∷ codes "disk" ∷ [])
    (λ o u. option_and_then (λ n. option_map (λ p. asks.Fault n p) (option_map (λ k. plan.Disk k) u)) (to_node o)) (λ n k. asks.Fault (record { 0 = n }) (plan.Disk k))
    (λ n k. refl) (λ o. refl) (λ n. refl) (λ n k. refl) (λ n k line lane h. h) (λ n k h g. and_from (is_between 1 size n) (is_between 1 1000000 k) h g) a b c
fault_is size few kind.Stop a b c =
    two_numbers size 1 1000000 (number 1 1000000) (λ word. refl) few (omega arith) (codes "fault" ∷ codes "stop" ∷ [])
    (λ o u. option_and_then (λ n. option_map (λ p. asks.Fault n p) (option_map (λ k. plan.Stop k) u)) (to_node o)) (λ n k. asks.Fault (record { 0 = n }) (plan.Stop k))
    (λ n k. refl) (λ o. refl) (λ n. refl) (λ n k. refl) (λ n k line lane h. h) (λ n k h g. and_from (is_between 1 size n) (is_between 1 1000000 k) h g) a b c
fault_is size few kind.Damage a b c =
    number_case 1 size a few (λ o. IsReadOf size damage_kinds damage_front (a ∷ b ∷ c ∷ []) (option_and_then (λ n. option_map (λ p. asks.Fault n p) (plan_of kind.Damage b c)) (to_node o)))
    (λ n is spelled within.
    number_case 1 1000000 b (omega arith)
    (λ o. IsReadOf size damage_kinds damage_front (a ∷ b ∷ c ∷ []) (option_map (λ p. asks.Fault (record { 0 = n }) p) (option_and_then (λ k. option_map (λ at. plan.Damage k at) (number_within 0 (2 ^ 32 - 1) c)) o)))
    (λ k is' spelled' within'.
    number_case 0 (2 ^ 32 - 1) c (omega arith) (λ o. IsReadOf size damage_kinds damage_front (a ∷ b ∷ c ∷ []) (option_map (λ p. asks.Fault (record { 0 = n }) p) (option_map (λ at. plan.Damage k at) o)))
    (λ at is'' spelled'' within''. record {
      kinds_hold = and_from (is_number_in 1 size a) (is_number_in 1 1000000 b && (is_number_in 0 (2 ^ 32 - 1) c && true)) is
          (and_from (is_number_in 1 1000000 b) (is_number_in 0 (2 ^ 32 - 1) c && true) is' (ap (λ t. t && true) is''));
      spelled = ap (λ (w : List ℕ). damage_front ++ (w ∷ decimal k ∷ decimal at ∷ [])) spelled
          ∙ (ap (λ (w : List ℕ). damage_front ++ (a ∷ w ∷ decimal at ∷ [])) spelled' ∙ ap (λ (w : List ℕ). damage_front ++ (a ∷ b ∷ w ∷ [])) spelled'');
      ends = λ line lane h. h;
      ranges = and_from (is_between 1 size n) (is_between 1 1000000 k && is_between 0 (2 ^ 32 - 1) at) within (and_from (is_between 1 1000000 k) (is_between 0 (2 ^ 32 - 1) at) within' within'');
    })
    (λ fails.
    and_right (is_number_in 1 size a) (is_number_in 1 1000000 b && (is_number_in 0 (2 ^ 32 - 1) c && true))
    (and_right (is_number_in 1 1000000 b) (is_number_in 0 (2 ^ 32 - 1) c && true) (ap (λ t. t && true) fails))))
    (λ fails.
    and_right (is_number_in 1 size a) (is_number_in 1 1000000 b && (is_number_in 0 (2 ^ 32 - 1) c && true))
    (and_left (is_number_in 1 1000000 b) (is_number_in 0 (2 ^ 32 - 1) c && true) fails)))
    (λ fails. and_left (is_number_in 1 size a) (is_number_in 1 1000000 b && (is_number_in 0 (2 ^ 32 - 1) c && true)) fails)

-- three words at least hold all that are counted
counted_words : (words : List (List ℕ)) (n : ℕ) → length words ≡ n → n ≤ 3 → take n (word_at 0 words ∷ word_at 1 words ∷ word_at 2 words ∷ []) ≡ words
counted_words [] zero e few = refl
counted_words [] (suc n) e few = absurd (omega arith)
counted_words (a ∷ []) n e few = rw (sym e) refl
counted_words (a ∷ b ∷ []) n e few = rw (sym e) refl
counted_words (a ∷ b ∷ c ∷ []) n e few = rw (sym e) refl
counted_words (a ∷ b ∷ c ∷ d ∷ words) n e few = absurd (omega arith)

-- words past the kinds do not matter
kinds_of_front : (size : ℕ) (kinds : List Kind) (words : List (List ℕ)) → are_kinds size kinds (take (length kinds) words) ≡ are_kinds size kinds words
kinds_of_front size [] words = refl
kinds_of_front size (kind ∷ kinds) [] = refl
kinds_of_front size (kind ∷ kinds) (word ∷ words) = ap (λ t. is_kind size kind word && t) (kinds_of_front size kinds words)

-- as many words as are wanted
exact : (wanted found : ℕ) → is_too_few_or_many nothing wanted found ≡ false → found ≡ wanted
exact wanted found e = grind (arith, nat_tests)

-- a command that nothing follows is read as it is spelled
simply : (size : ℕ) (n : Name) (line : List ℕ) (words : List (List ℕ)) (read : Option LineCommand)
    → (shape_of n).tail ≡ nothing → length (shape_of n).words ≤ 3
    → is_too_few_or_many (shape_of n).tail (length (shape_of n).words) (length words) ≡ false
    → IsReadOf size (shape_of n).words (front_of n) (word_at 0 words ∷ word_at 1 words ∷ word_at 2 words ∷ []) read
    → IsCommandRead size n line words (in_range read)
simply size n line words read tail few counted = by_read read
  where
    same : take (length (shape_of n).words) (word_at 0 words ∷ word_at 1 words ∷ word_at 2 words ∷ []) ≡ words
    same = counted_words words (length (shape_of n).words) (exact (length (shape_of n).words) (length words) (ap (λ t. is_too_few_or_many t (length (shape_of n).words) (length words)) (sym tail) ∙ counted)) few

    kinds : are_kinds size (shape_of n).words words ≡ are_kinds size (shape_of n).words (word_at 0 words ∷ word_at 1 words ∷ word_at 2 words ∷ [])
    kinds = ap (are_kinds size (shape_of n).words) (sym same) ∙ kinds_of_front size (shape_of n).words (word_at 0 words ∷ word_at 1 words ∷ word_at 2 words ∷ [])

    in_range_is : (t : Bool) → are_kinds size (shape_of n).words (word_at 0 words ∷ word_at 1 words ∷ word_at 2 words ∷ []) ≡ t → is_asked_in_range size (rest_behind 3 line) (command (shape_of n) words) ≡ t
    in_range_is t e = ap (λ u. are_kinds size (shape_of n).words words && is_short u (rest_behind 3 line)) tail ∙ (and-true (are_kinds size (shape_of n).words words) ∙ (kinds ∙ e))

    by_read : (read : Option LineCommand) → IsReadOf size (shape_of n).words (front_of n) (word_at 0 words ∷ word_at 1 words ∷ word_at 2 words ∷ []) read
        → IsCommandRead size n line words (in_range read)
    by_read None h = in_range_is false h
    by_read (Some made) h = record {
      in_range = in_range_is true h.kinds_hold;
      no_fault = λ fault asks is. absurd (false≢true (sym (ap asks_tail tail) ∙ asks));
      ends = λ lane e. h.ends line lane (e ∙ ap (λ ws. decimal lane ∷ ws) (ap (λ ws. front_of n ++ ws) (sym same) ∙ sym h.spelled));
      ranges = h.ranges;
    }
      where
        asks_tail : Tail → Bool
        asks_tail t = asks_query (command (record { name = (shape_of n).name; words = (shape_of n).words; tail = t }) words)

-- what is read of a command without memory
pub plain_read : (size : ℕ) → size < 2 ^ 64 → (p : Plain) (line : List ℕ) (words : List (List ℕ))
    → is_too_few_or_many (shape_of (named.Plain p)).tail (length (shape_of (named.Plain p)).words) (length words) ≡ false
    → IsCommandRead size (named.Plain p) line words (in_range (plain_command size p (word_at 0 words) (word_at 1 words) (word_at 2 words)))
plain_read size few p line words counted =
    simply size (named.Plain p) line words (plain_command size p (word_at 0 words) (word_at 1 words) (word_at 2 words)) (plain_tail p) (plain_few p) counted
    (plain_is size few p (word_at 0 words) (word_at 1 words) (word_at 2 words))

-- what is read of a planned fault
pub fault_read : (size : ℕ) → size < 2 ^ 64 → (k : FaultKind) (line : List ℕ) (words : List (List ℕ))
    → is_too_few_or_many (shape_of (named.Fault k)).tail (length (shape_of (named.Fault k)).words) (length words) ≡ false
    → IsCommandRead size (named.Fault k) line words (in_range (fault_command size k (word_at 0 words) (word_at 1 words) (word_at 2 words)))
fault_read size few k line words counted =
    simply size (named.Fault k) line words (fault_command size k (word_at 0 words) (word_at 1 words) (word_at 2 words)) (fault_tail k) (fault_few k) counted
    (fault_is size few k (word_at 0 words) (word_at 1 words) (word_at 2 words))

-- a word that was read as a number is that number
record Reads (low high : ℕ) (word : List ℕ) (n : ℕ) : Type 0 where
  number_in : is_number_in low high word ≡ true
  spelled : decimal n ≡ word
  within : is_between low high n ≡ true

node_reads : (size : ℕ) → size < 2 ^ 64 → (word : List ℕ) (n : NodeNo) → node_named size word ≡ Some n → Reads 1 size word n.0
node_reads size few word n =
    number_case 1 size word few (λ o. to_node o ≡ Some n → Reads 1 size word n.0)
    (λ m is spelled within e.
    let same : m ≡ n.0 = ap (λ (x : NodeNo). x.0) (same_Some (record { 0 = m }) n e) in
    record { number_in = is; spelled = ap decimal (sym same) ∙ spelled; within = ap (is_between 1 size) (sym same) ∙ within })
    (λ other e. absurd (none-some n e))

ticket_reads : (word : List ℕ) (t : TicketNo) → ticket_named word ≡ Some t → Reads 1 9999 word t.0
ticket_reads word t =
    number_case 1 9999 word (omega arith) (λ o. to_ticket o ≡ Some t → Reads 1 9999 word t.0)
    (λ m is spelled within e.
    let same : m ≡ t.0 = ap (λ (x : TicketNo). x.0) (same_Some (record { 0 = m }) t e) in
    record { number_in = is; spelled = ap decimal (sym same) ∙ spelled; within = ap (is_between 1 9999) (sym same) ∙ within })
    (λ other e. absurd (none-some t e))

-- what is read of a search at a node
pub search_read : (size : ℕ) → size < 2 ^ 64 → (line : List ℕ) (words : List (List ℕ)) (read : Result LineCommand Refusal)
    → is_too_few_or_many query 1 (length words) ≡ false → IsSearchRead size line (word_at 0 words) read → IsCommandRead size named.Search line words read
search_read size few line [] read counted h = absurd (false≢true (sym counted))
search_read size few line (word ∷ words) (Ok read) counted (n, q, at, is, parses) =
    let facts = node_reads size few word n at in
    let made : IsCommandOf size named.Search line (word ∷ words) (asks.Search n q) = record {
      in_range = and_from (is_number_in 1 size word && true) (has_short_rest line) (ap (λ t. t && true) facts.number_in) parses.0;
      no_fault = λ fault asking. parses.3 fault;
      ends = λ lane e.
          (ap (take 3) e ∙ ap (λ (w : List ℕ). decimal lane ∷ codes "search" ∷ w ∷ []) (sym facts.spelled), (leb-true (length (rest_behind 3 line)) 4096 parses.0, parses.1));
      ranges = and_from (is_between 1 size n.0) (is_well_formed q) facts.within parses.2;
    } in
    rw is made
search_read size few line (word ∷ words) (Err refusal.Memory) counted h = h
search_read size few line (word ∷ words) (Err (refusal.Cause Range)) counted h = ap (λ t. t && has_short_rest line) (and-true (is_number_in 1 size word)) ∙ h
search_read size few line (word ∷ words) (Err (refusal.Cause (RefusedQuery fault))) counted h =
    (ap (λ t. t && has_short_rest line) (and-true (is_number_in 1 size word)) ∙ h.0, refl, h.1)
search_read size few line (word ∷ words) (Err (refusal.Cause NoNodes)) counted h = h
search_read size few line (word ∷ words) (Err (refusal.Cause Word)) counted h = h
search_read size few line (word ∷ words) (Err (refusal.Cause Count)) counted h = h
search_read size few line (word ∷ words) (Err (refusal.Cause Text)) counted h = h

-- what is read of a search at a ticket
pub ask_read : (size : ℕ) (line : List ℕ) (words : List (List ℕ)) (read : Result LineCommand Refusal)
    → is_too_few_or_many query 1 (length words) ≡ false → IsAskRead line (word_at 0 words) read → IsCommandRead size named.Ask line words read
ask_read size line [] read counted h = absurd (false≢true (sym counted))
ask_read size line (word ∷ words) (Ok read) counted (t, q, at, is, parses) =
    let facts = ticket_reads word t at in
    let made : IsCommandOf size named.Ask line (word ∷ words) (asks.Ask t q) = record {
      in_range = and_from (is_number_in 1 9999 word && true) (has_short_rest line) (ap (λ t. t && true) facts.number_in) parses.0;
      no_fault = λ fault asking. parses.3 fault;
      ends = λ lane e.
          (ap (take 3) e ∙ ap (λ (w : List ℕ). decimal lane ∷ codes "ask" ∷ w ∷ []) (sym facts.spelled), (leb-true (length (rest_behind 3 line)) 4096 parses.0, parses.1));
      ranges = and_from (is_between 1 9999 t.0) (is_well_formed q) facts.within parses.2;
    } in
    rw is made
ask_read size line (word ∷ words) (Err refusal.Memory) counted h = h
ask_read size line (word ∷ words) (Err (refusal.Cause Range)) counted h = ap (λ t. t && has_short_rest line) (and-true (is_number_in 1 9999 word)) ∙ h
ask_read size line (word ∷ words) (Err (refusal.Cause (RefusedQuery fault))) counted h =
    (ap (λ t. t && has_short_rest line) (and-true (is_number_in 1 9999 word)) ∙ h.0, refl, h.1)
ask_read size line (word ∷ words) (Err (refusal.Cause NoNodes)) counted h = h
ask_read size line (word ∷ words) (Err (refusal.Cause Word)) counted h = h
ask_read size line (word ∷ words) (Err (refusal.Cause Count)) counted h = h
ask_read size line (word ∷ words) (Err (refusal.Cause Text)) counted h = h

length_of_key : (word : List ℕ) → is_key word ≡ true → nat_le (length word) 64 ≡ true
length_of_key word e = (and_parts (nat_le 1 (length word)) (nat_le (length word) 64) (and_parts (is_between 1 64 (length word)) (list_all is_key_byte word) e).0).1

length_of_text : (rest : List ℕ) → is_text rest ≡ true → nat_le (length rest) 4096 ≡ true
length_of_text rest e = (and_parts (nat_le (length rest) 4096) (list_all is_text_byte rest) e).0

-- what is read of a put
pub put_read : (size : ℕ) (line : List ℕ) (words : List (List ℕ)) (doc : Doc)
    → is_too_few_or_many text 1 (length words) ≡ false → IsDocRead line (word_at 0 words) (Ok doc) → IsCommandOf size named.Put line words (asks.Put doc)
put_read size line [] doc counted h = absurd (false≢true (sym counted))
put_read size line (word ∷ words) doc counted (key_is, text_is, is_k, is_t) = record {
  in_range = and_from (nat_le (length word) 64 && true) (has_short_rest line) (ap (λ t. t && true) (length_of_key word is_k)) (length_of_text (rest_behind 3 line) is_t);
  no_fault = λ fault asking is. absurd (false≢true asking);
  ends = λ lane e. (ap (take 3) e ∙ ap (λ (w : List ℕ). decimal lane ∷ codes "put" ∷ w ∷ []) (sym key_is), sym text_is);
  ranges = and_from (is_key doc.key) (is_text doc.text) (ap is_key key_is ∙ is_k) (ap is_text text_is ∙ is_t);
}

-- what is read of a deletion
pub delete_read : (size : ℕ) (line : List ℕ) (words : List (List ℕ)) (taken : List ℕ)
    → is_too_few_or_many nothing 1 (length words) ≡ false → IsKeyRead (word_at 0 words) (Ok taken) → IsCommandOf size named.Delete line words (asks.Delete taken)
delete_read size line [] taken counted h = absurd (false≢true (sym counted))
delete_read size line (word ∷ []) taken counted (key_is, is_k) = record {
  in_range = ap (λ t. (t && true) && true) (length_of_key word is_k);
  no_fault = λ fault asking is. absurd (false≢true asking);
  ends = λ lane e. e ∙ ap (λ (w : List ℕ). decimal lane ∷ codes "delete" ∷ w ∷ []) (sym key_is);
  ranges = ap is_key key_is ∙ is_k;
}
delete_read size line (word ∷ other ∷ words) taken counted h = absurd (grind (arith, nat_tests))

-- what is read of a word to drop
pub drop_read : (size : ℕ) (line : List ℕ) (words : List (List ℕ)) (taken : List ℕ)
    → is_too_few_or_many nothing 1 (length words) ≡ false → IsDropRead (word_at 0 words) (Ok taken) → IsCommandOf size named.Drop line words (asks.Drop taken)
drop_read size line [] taken counted h = absurd (false≢true (sym counted))
drop_read size line (word ∷ []) taken counted (is, only, kind) =
    let parts = and_parts (is_between 1 64 (length word)) (list_all is_alphanumeric word) is in
    record {
      in_range = ap (λ t. (t && true) && true) is;
      no_fault = λ fault asking is. absurd (false≢true asking);
      ends = λ lane e. record { written = word; words = e; letters = parts.1; only = only };
      ranges = and_from (is_word taken) (nat_le (length taken) 64) kind
          (ap (λ (n : ℕ). nat_le n 64) (word_length word taken parts.1 only) ∙ (and_parts (nat_le 1 (length word)) (nat_le (length word) 64) parts.0).1);
    }
drop_read size line (word ∷ other ∷ words) taken counted h = absurd (grind (arith, nat_tests))

-- a command that wants a word has one
pub some_words : (tail : Tail) (words : List (List ℕ)) → is_too_few_or_many tail 1 0 ≡ true → is_too_few_or_many tail 1 (length words) ≡ false → 0 < length words
some_words tail [] missing counted = absurd (false≢true (sym counted ∙ missing))
some_words tail (word ∷ words) missing counted = omega arith
