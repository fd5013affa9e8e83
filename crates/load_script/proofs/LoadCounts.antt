-- How many lines stand before the join of the generated script.
use Rattle.std.proofs.Common.{◌≡◌, ◌+◌, ◌∙◌, ℕ, zero, suc, Bool, true, false, List, [], ◌∷◌, ◌++◌, length, length-append, refl, arith}
use Rattle.std.specs.Prelude.{◌%◌, ◌/◌, ◌-◌, ◌==◌, if◌then◌else◌}
use Rattle.std.proofs.lemmas.Bool.Decides.{nat_tests}
use Rattle.script_serving.specs.declared.script.Line.{Line}
use Rattle.script_serving.specs.declared.script.LineCommand.{LineCommand}
use Rattle.script_serving.specs.declared.script.LineCommand.TheVariants.{Delete, Publish, Copy, Merge}
use Rattle.load_script.specs.Generated.{load_lane, load_key, at_multiple, load_commands, load_lines, lines_numbered}
use Rattle.load_script.proofs.LoadLines.{length_numbered}

tens : (i : ℕ) (c : LineCommand) → length (at_multiple 10 (suc i) c) + i / 10 ≡ suc i / 10
tens i c = by_test (suc i % 10 == 0) refl
  where
    by_test : (b : Bool) → suc i % 10 == 0 ≡ b → length (if b then c ∷ [] else []) + i / 10 ≡ suc i / 10
    by_test true e = grind (arith, nat_tests)
    by_test false e = grind (arith, nat_tests)

fifties : (i : ℕ) (c : LineCommand) → length (at_multiple 50 (suc i) c) + i / 50 ≡ suc i / 50
fifties i c = by_test (suc i % 50 == 0) refl
  where
    by_test : (b : Bool) → suc i % 50 == 0 ≡ b → length (if b then c ∷ [] else []) + i / 50 ≡ suc i / 50
    by_test true e = grind (arith, nat_tests)
    by_test false e = grind (arith, nat_tests)

hundreds : (i : ℕ) (c : LineCommand) → length (at_multiple 100 (suc i) c) + i / 100 ≡ suc i / 100
hundreds i c = by_test (suc i % 100 == 0) refl
  where
    by_test : (b : Bool) → suc i % 100 == 0 ≡ b → length (if b then c ∷ [] else []) + i / 100 ≡ suc i / 100
    by_test true e = grind (arith, nat_tests)
    by_test false e = grind (arith, nat_tests)

two_hundreds : (i : ℕ) (c : LineCommand) → length (at_multiple 200 (suc i) c) + i / 200 ≡ suc i / 200
two_hundreds i c = by_test (suc i % 200 == 0) refl
  where
    by_test : (b : Bool) → suc i % 200 == 0 ≡ b → length (if b then c ∷ [] else []) + i / 200 ≡ suc i / 200
    by_test true e = grind (arith, nat_tests)
    by_test false e = grind (arith, nat_tests)

turn_length : (i : ℕ) → length (load_commands (suc i)) + (i / 10 + i / 50 + i / 100 + i / 200) ≡ 1 + (suc i / 10 + suc i / 50 + suc i / 100 + suc i / 200)
turn_length i =
    let deletes : List LineCommand = at_multiple 10 (suc i) (Delete (load_key (suc i - 4))) in
    let publishes : List LineCommand = at_multiple 50 (suc i) Publish in
    let copies : List LineCommand = at_multiple 100 (suc i) (Copy (record { 0 = 2 })) in
    let merges : List LineCommand = at_multiple 200 (suc i) (Merge 4) in
    let one = length-append deletes (publishes ++ (copies ++ merges)) in
    let two = length-append publishes (copies ++ merges) in
    let three = length-append copies merges in
    let d = tens i (Delete (load_key (suc i - 4))) in
    let p = fifties i Publish in
    let c = hundreds i (Copy (record { 0 = 2 })) in
    let m = two_hundreds i (Merge 4) in
    let whole : length (load_commands (suc i)) ≡ suc (length (deletes ++ (publishes ++ (copies ++ merges)))) = refl in
    omega (arith, one, two, three, d, p, c, m, whole)

-- each document is put, and at greater multiples there is a line more
pub load_length : (n : ℕ) → length (load_lines n) ≡ n + n / 10 + n / 50 + n / 100 + n / 200
load_length zero = refl
load_length (suc i) =
    let lines : List Line = lines_numbered (3 + length (load_lines i)) (load_lane (suc i)) (load_commands (suc i)) in
    let whole = length-append (load_lines i) lines in
    let more = length_numbered (3 + length (load_lines i)) (load_lane (suc i)) (load_commands (suc i)) in
    let turn = turn_length i in
    let before = load_length i in
    omega (arith, whole, more, turn, before)

pub line_count : (n m : ℕ) → m ≡ n + n / 10 + n / 50 + n / 100 + n / 200 → m ≡ length (load_lines n)
line_count n m is = let all = load_length n in omega (arith, is, all)
