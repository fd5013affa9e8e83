-- Lines that were put one behind the other.
use Rattle.std.proofs.Common.{◌≡◌, ◌≤◌, ◌<◌, ◌+◌, ◌^◌, ◌%◌, ◌&&◌, ℕ, zero, suc, Bool, true, false, List, [], ◌∷◌, ◌++◌, length, length-append, codes, refl, ap, ◌∙◌, sym, subst, arith, append_assoc}
use Rattle.std.specs.Prelude.{nat_le, IsTrue}
use Rattle.std.specs.List.{list_all}
use Rattle.std.specs.Fmt.{decimal}
use Rattle.std.proofs.lemmas.Bool.{and_parts, and_from}
use Rattle.std.proofs.lemmas.Bool.Decides.{nat_tests}
use Rattle.std.proofs.lemmas.List.Folds.{list_all-append}
use Rattle.std.proofs.lemmas.Fmt.{length-decimal-le}
use Rattle.nrt_base.specs.Bytes.{is_between, is_key_byte, is_text_byte, is_key, is_text}
use Rattle.documents.specs.declared.query.Query.{Query}
use Rattle.script_text.specs.Refused.{is_digit}
use Rattle.script_text.proofs.NumberLaws.{digits_of-decimal}
use Rattle.script_serving.specs.declared.script.Line.{Line}
use Rattle.script_serving.specs.declared.script.LineCommand.{LineCommand}
use Rattle.script_serving.specs.declared.script.LineCommand.TheVariants.{Search}
use Rattle.script_serving.specs.declared.script.Phase.{Phase}
use Rattle.script_serving.specs.declared.script.Script.{Script}
use Rattle.script_text.specs.Grammar.{phase_of}
use Rattle.load_script.specs.Generated.{load_lane, load_key, load_text, load_commands, load_lines, lines_numbered, last_commands, generated_script, AddsLines}

pub length_numbered : (n lane : ℕ) (cs : List LineCommand) → length (lines_numbered n lane cs) ≡ length cs
length_numbered n lane [] = refl
length_numbered n lane (c ∷ cs) = let rest = length_numbered (n + 1) lane cs in omega (arith, rest)

numbered_append : (n lane : ℕ) (xs ys : List LineCommand) → lines_numbered n lane (xs ++ ys) ≡ lines_numbered n lane xs ++ lines_numbered (n + length xs) lane ys
numbered_append n lane [] ys = ap (λ (k : ℕ). lines_numbered k lane ys) (let e : n ≡ n + 0 = omega arith in e)
numbered_append n lane (x ∷ xs) ys =
    λ i. record { at = record { lane = record { 0 = lane }; line = record { 0 = n } }; command = x }
    ∷ (numbered_append (n + 1) lane xs ys ∙ ap (λ (k : ℕ). lines_numbered (n + 1) lane xs ++ lines_numbered k lane ys) (let e : n + 1 + length xs ≡ n + suc (length xs) = omega arith in e)) i

-- two pushes in a row
pub adds_then : (first lane : ℕ) (xs ys : List LineCommand) (a b c : List Line) → AddsLines first lane xs a b → AddsLines first lane ys b c → AddsLines first lane (xs ++ ys) a c
adds_then first lane xs ys a b c one two =
    let more : length b ≡ length a + length xs = ap length one ∙ (length-append a (lines_numbered (first + length a) lane xs) ∙ ap (λ (k : ℕ). length a + k) (length_numbered (first + length a) lane xs)) in
    two
    ∙ (ap (λ (ls : List Line). ls ++ lines_numbered (first + length b) lane ys) one
    ∙ (append_assoc a (lines_numbered (first + length a) lane xs) (lines_numbered (first + length b) lane ys)
    ∙ ap (λ (ls : List Line). a ++ ls)
    (ap (λ (k : ℕ). lines_numbered (first + length a) lane xs ++ lines_numbered k lane ys) (let e : first + length b ≡ first + length a + length xs = omega (arith, more) in e)
    ∙ sym (numbered_append (first + length a) lane xs ys))))

-- a search of this query
pub search_added : (first : ℕ) (a b : List Line) (query q : Query) → query ≡ q → AddsLines first 1 (Search (record { 0 = 3 }) query ∷ []) a b → AddsLines first 1 (Search (record { 0 = 3 }) q ∷ []) a b
search_added first a b query q is adds = subst (λ (x : Query). AddsLines first 1 (Search (record { 0 = 3 }) x ∷ []) a b) is adds

-- those that came behind none
pub adds_all : (first lane : ℕ) (cs : List LineCommand) (none new : List Line) → none ≡ [] → AddsLines first lane cs none new → new ≡ lines_numbered first lane cs
adds_all first lane cs none new is adds =
    subst (λ (ls : List Line). new ≡ ls ++ lines_numbered (first + length ls) lane cs) is adds ∙ ap (λ (k : ℕ). lines_numbered k lane cs) (let e : first + 0 ≡ first = omega arith in e)

-- one turn more
pub next_turn : (i : ℕ) (lines new : List Line) → lines ≡ load_lines i → AddsLines 3 (load_lane (i + 1)) (load_commands (i + 1)) lines new → new ≡ load_lines (i + 1)
next_turn i lines new is adds =
    let next : i + 1 ≡ suc i = omega arith in
    (adds ∙ λ j. is j ++ lines_numbered (3 + length (is j)) (load_lane (next j)) (load_commands (next j))) ∙ ap load_lines (sym next)

-- the whole script
pub generated_is : (n i first : ℕ) (lines last : List Line) (one two : Phase) (none single both phases : List Phase) → lines ≡ load_lines i → i ≡ n → last ≡ lines_numbered first 1 last_commands → first ≡ length lines + 4
    → one ≡ phase_of lines → two ≡ phase_of last → none ≡ [] → single ≡ none ++ one ∷ [] → both ≡ single ++ two ∷ [] → phases ≡ both
    → ◌≡◌ {A = Script} (record { nodes = 3; workers = 2; log = false; phases = phases }) (generated_script n)
generated_is n i first lines last one two none single both phases turned ended lasts count is_one is_two empty pushed again whole =
    let all : lines ≡ load_lines n = turned ∙ ap load_lines ended in
    let many : length lines ≡ length (load_lines n) = ap length all in
    let from : first ≡ 4 + length (load_lines n) = omega (arith, count, many) in
    let first_phase : one ≡ phase_of (load_lines n) = is_one ∙ ap phase_of all in
    let second_phase : two ≡ phase_of (lines_numbered (4 + length (load_lines n)) 1 last_commands) = is_two ∙ ap phase_of (lasts ∙ ap (λ (k : ℕ). lines_numbered k 1 last_commands) from) in
    let list : phases ≡ one ∷ two ∷ [] = whole ∙ (again ∙ ap (λ (ps : List Phase). ps ++ two ∷ []) (pushed ∙ ap (λ (ps : List Phase). ps ++ one ∷ []) empty)) in
    ap (λ (ps : List Phase). record { nodes = 3; workers = 2; log = false; phases = ps }) (list ∙ (λ j. first_phase j ∷ second_phase j ∷ []))

-- ---- keys and texts

all_wider : (p q : ℕ → Bool) (xs : List ℕ) → ((b : ℕ) → p b ≡ true → q b ≡ true) → list_all p xs ≡ true → list_all q xs ≡ true
all_wider p q [] step is = refl
all_wider p q (x ∷ xs) step is = let parts = and_parts (p x) (list_all p xs) is in and_from (q x) (list_all q xs) (step x parts.0) (all_wider p q xs step parts.1)

digit_in : (low high b : ℕ) → low ≤ 48 → 57 ≤ high → is_digit b ≡ true → is_between low high b ≡ true
digit_in low high b less more is =
    let parts = and_parts (nat_le 48 b) (nat_le b 57) is in
    let first = parts.0 in
    let last = parts.1 in
    and_from (nat_le low b) (nat_le b high) (grind (arith, nat_tests)) (grind (arith, nat_tests))

short_key : (k : ℕ) → k ≤ 10 → is_between 1 64 (suc k) ≡ true
short_key k low = and_from (nat_le 1 (suc k)) (nat_le (suc k) 64) (grind (arith, nat_tests)) (grind (arith, nat_tests))

pub key_is : (i : ℕ) → i < 2 ^ 32 → IsTrue (is_key (load_key i))
key_is i small =
    let few : length (decimal i) ≤ 10 = length-decimal-le 10 i (omega arith) (omega (arith, small)) (omega (arith, small)) in
    and_from (is_between 1 64 (suc (length (decimal i)))) (list_all is_key_byte (decimal i)) (short_key (length (decimal i)) few)
    (all_wider is_digit is_key_byte (decimal i) (λ b is. digit_in 33 126 b (omega arith) (omega arith) is) (digits_of-decimal i (omega (arith, small))))

text_digits : (n : ℕ) → n < 2 ^ 64 → list_all is_text_byte (decimal n) ≡ true
text_digits n small = all_wider is_digit is_text_byte (decimal n) (λ b is. digit_in 32 126 b (omega arith) (omega arith) is) (digits_of-decimal n small)

all_both : (xs ys : List ℕ) → list_all is_text_byte xs ≡ true → list_all is_text_byte ys ≡ true → list_all is_text_byte (xs ++ ys) ≡ true
all_both xs ys one two = list_all-append is_text_byte xs ys ∙ and_from (list_all is_text_byte xs) (list_all is_text_byte ys) one two

text_of : (a b : ℕ) → a < 7 → b < 11 → IsTrue (is_text (codes "doc a" ++ (decimal a ++ (codes " b" ++ decimal b))))
text_of a b low less =
    let one : length (decimal a) ≤ 1 = length-decimal-le 1 a (omega arith) (omega (arith, low)) (omega (arith, low)) in
    let two : length (decimal b) ≤ 2 = length-decimal-le 2 b (omega arith) (omega (arith, less)) (omega (arith, less)) in
    let whole : length (decimal a ++ (codes " b" ++ decimal b)) ≡ length (decimal a) + length (codes " b" ++ decimal b) = length-append (decimal a) (codes " b" ++ decimal b) in
    let few : length (codes "doc a" ++ (decimal a ++ (codes " b" ++ decimal b))) ≤ 4096 = omega (arith, one, two, whole) in
    and_from (nat_le (length (codes "doc a" ++ (decimal a ++ (codes " b" ++ decimal b)))) 4096) (list_all is_text_byte (codes "doc a" ++ (decimal a ++ (codes " b" ++ decimal b))))
    (grind (arith, nat_tests, few))
    (all_both (codes "doc a") (decimal a ++ (codes " b" ++ decimal b)) refl (all_both (decimal a) (codes " b" ++ decimal b) (text_digits a (omega (arith, low))) (all_both (codes " b") (decimal b) refl (text_digits b (omega (arith, less))))))

pub text_is : (i : ℕ) → IsTrue (is_text (load_text i))
text_is i = text_of (i % 7) (i % 11) (omega arith) (omega arith)
