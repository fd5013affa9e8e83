-- Bytes spell one script at most.
use Rattle.std.proofs.Common.{◌≡◌, ℕ, ◌<◌, ◌≤◌, Bool, List, [], ◌∷◌, true, false, refl, ap, ◌∙◌, sym, subst, arith, inl, inr, map}
use Rattle.std.specs.Prelude.{◌^◌, codes, bytes_eq}
use Rattle.std.specs.Fmt.{decimal}
use Rattle.std.proofs.lemmas.Bool.{false≢true, both_ways}
use Rattle.nrt_base.proofs.Plain.{between_high}
use Rattle.script_serving.specs.declared.script.Line.{Line}
use Rattle.script_serving.specs.declared.script.Phase.{Phase}
use Rattle.script_serving.specs.declared.script.Script.{Script}
use Rattle.script_text.specs.Grammar.{Statement, statements_of, words_in, IsJoin, word_at, IsNodesHeader, IsWorkersHeader, IsLogHeader, SpellsLine, SpellsPhases, SpellsLogged, SpellsBody, SpellsStatements, phase_of}
use Rattle.script_text.specs.Refused.{value_of}
use Rattle.script_text.specs.Exact.{OneScript}
use Rattle.script_text.proofs.NumberLaws.{value_of-decimal, digits_of-decimal, other_word}
use Rattle.script_text.proofs.OneLine.{lane_first, one_line}

-- the statement begins with a lane
abbrev BeginsWithLane : Statement → Type 0
BeginsWithLane statement = (lane : ℕ) × (lane < 2 ^ 64) × (word_at 0 (words_in statement.line) ≡ decimal lane)

lane_begins : (size : ℕ) (statement : Statement) (line : Line) → SpellsLine size statement line → BeginsWithLane statement
lane_begins size statement line spells =
    (line.at.lane.0, omega (arith, between_high 1 8 line.at.lane.0 spells.lane), lane_first size statement line spells)

-- a line of a lane is no join
not_join : (statement : Statement) → BeginsWithLane statement → IsJoin statement → ⊥
not_join statement (lane, narrow, e) is =
    let other : bytes_eq (codes "join") (decimal lane) ≡ false = other_word 106 (codes "oin") (decimal lane) refl (digits_of-decimal lane narrow) in
    let same : bytes_eq (codes "join") (decimal lane) ≡ true = ap (bytes_eq (codes "join")) (sym e ∙ ap (word_at 0) is) in
    both_ways (bytes_eq (codes "join") (decimal lane)) other same

not_workers : (statement : Statement) (workers : ℕ) → BeginsWithLane statement → IsWorkersHeader statement workers → ⊥
not_workers statement workers (lane, narrow, e) header =
    let other : bytes_eq (codes "workers") (decimal lane) ≡ false = other_word 119 (codes "orkers") (decimal lane) refl (digits_of-decimal lane narrow) in
    let same : bytes_eq (codes "workers") (decimal lane) ≡ true = ap (bytes_eq (codes "workers")) (sym e ∙ ap (word_at 0) header.0) in
    both_ways (bytes_eq (codes "workers") (decimal lane)) other same

not_log : (statement : Statement) → BeginsWithLane statement → IsLogHeader statement → ⊥
not_log statement (lane, narrow, e) header =
    let other : bytes_eq (codes "log") (decimal lane) ≡ false = other_word 108 (codes "og") (decimal lane) refl (digits_of-decimal lane narrow) in
    let same : bytes_eq (codes "log") (decimal lane) ≡ true = ap (bytes_eq (codes "log")) (sym e ∙ ap (word_at 0) header) in
    both_ways (bytes_eq (codes "log") (decimal lane)) other same

join_not_log : (statement : Statement) → IsJoin statement → IsLogHeader statement → ⊥
join_not_log statement is header =
    let same : codes "join" ≡ codes "log" = ap (word_at 0) (sym is ∙ header) in
    false≢true (ap (bytes_eq (codes "log")) same)

log_not_workers : (statement : Statement) (workers : ℕ) → IsLogHeader statement → IsWorkersHeader statement workers → ⊥
log_not_workers statement workers is header =
    let same : codes "log" ≡ codes "workers" = ap (word_at 0) (sym is ∙ header.0) in
    false≢true (ap (bytes_eq (codes "workers")) same)

join_not_workers : (statement : Statement) (workers : ℕ) → IsJoin statement → IsWorkersHeader statement workers → ⊥
join_not_workers statement workers is header =
    let same : codes "join" ≡ codes "workers" = ap (word_at 0) (sym is ∙ header.0) in
    false≢true (ap (bytes_eq (codes "workers")) same)

module _ (size : ℕ) (small : size ≤ 16) where
  -- statements spell one list of phases at most
  one_phases : (statements : List Statement) (phases others : List (List Line)) → SpellsPhases size statements phases → SpellsPhases size statements others → phases ≡ others
  one_phases [] [] others spells too = absurd spells
  one_phases [] (phase ∷ []) [] spells too = absurd too
  one_phases [] (phase ∷ []) (other ∷ []) spells too = ap (λ (p : List Line). p ∷ []) (spells ∙ sym too)
  one_phases [] (phase ∷ []) (other ∷ next ∷ others) spells too = absurd too
  one_phases [] (phase ∷ next ∷ phases) others spells too = absurd spells
  one_phases (statement ∷ statements) [] others spells too = absurd spells
  one_phases (statement ∷ statements) (phase ∷ phases) [] spells too = absurd too
  one_phases (statement ∷ statements) ([] ∷ phases) ([] ∷ others) spells too = ap (λ (ps : List (List Line)). [] ∷ ps) (one_phases statements phases others spells.1 too.1)
  one_phases (statement ∷ statements) ([] ∷ phases) ((line ∷ other) ∷ others) spells too =
      absurd (not_join statement (lane_begins size statement line too.0) spells.0)
  one_phases (statement ∷ statements) ((line ∷ phase) ∷ phases) ([] ∷ others) spells too =
      absurd (not_join statement (lane_begins size statement line spells.0) too.0)
  one_phases (statement ∷ statements) ((line ∷ phase) ∷ phases) ((next ∷ other) ∷ others) spells too =
      let lines : line ≡ next = one_line size statement line next small spells.0 too.0 in
      let rest : phase ∷ phases ≡ other ∷ others = one_phases statements (phase ∷ phases) (other ∷ others) spells.1 too.1 in
      cc

  -- what spells phases is no header of the workers
  no_header : (statement : Statement) (statements : List Statement) (phases : List (List Line)) (workers : ℕ) → SpellsPhases size (statement ∷ statements) phases
      → IsWorkersHeader statement workers → ⊥
  no_header statement statements [] workers spells header = spells
  no_header statement statements ([] ∷ phases) workers spells header = join_not_workers statement workers spells.0 header
  no_header statement statements ((line ∷ phase) ∷ phases) workers spells header = not_workers statement workers (lane_begins size statement line spells.0) header

  -- what spells phases is no header of a log
  no_log : (statement : Statement) (statements : List Statement) (phases : List (List Line)) → SpellsPhases size (statement ∷ statements) phases → IsLogHeader statement → ⊥
  no_log statement statements [] spells header = spells
  no_log statement statements ([] ∷ phases) spells header = join_not_log statement spells.0 header
  no_log statement statements ((line ∷ phase) ∷ phases) spells header = not_log statement (lane_begins size statement line spells.0) header

  -- what spells a log and phases is no header of the workers
  no_workers : (log : Bool) (statement : Statement) (statements : List Statement) (phases : List (List Line)) (workers : ℕ) → SpellsLogged size log (statement ∷ statements) phases
      → IsWorkersHeader statement workers → ⊥
  no_workers log statement statements phases workers (inl spells) header = log_not_workers statement workers spells.1 header
  no_workers log statement statements phases workers (inr spells) header = no_header statement statements phases workers spells.1 header

  -- statements spell a log or none, and one list of phases at most
  one_logged : (statements : List Statement) (log other : Bool) (phases more : List (List Line)) → SpellsLogged size log statements phases → SpellsLogged size other statements more
      → (log ≡ other) × (phases ≡ more)
  one_logged [] log other phases more spells too = (spells.0 ∙ sym too.0, spells.1 ∙ sym too.1)
  one_logged (statement ∷ statements) log other phases more (inl spells) (inl too) =
      (spells.0 ∙ sym too.0, one_phases statements phases more spells.2 too.2)
  one_logged (statement ∷ statements) log other phases more (inl spells) (inr too) = absurd (no_log statement statements more too.1 spells.1)
  one_logged (statement ∷ statements) log other phases more (inr spells) (inl too) = absurd (no_log statement statements phases spells.1 too.1)
  one_logged (statement ∷ statements) log other phases more (inr spells) (inr too) =
      (spells.0 ∙ sym too.0, one_phases (statement ∷ statements) phases more spells.1 too.1)

  -- the statements behind the first spell one number of workers, a log or none, and one list of phases at most
  one_body : (statements : List Statement) (workers others : ℕ) (log other : Bool) (phases more : List (List Line)) → SpellsBody size workers log statements phases → SpellsBody size others other statements more
      → (workers ≡ others) × (log ≡ other) × (phases ≡ more)
  one_body [] workers others log other phases more spells too = let rest = one_logged [] log other phases more spells.1 too.1 in (spells.0 ∙ sym too.0, rest.0, rest.1)
  one_body (statement ∷ statements) workers others log other phases more (inl spells) (inl too) =
      let words : decimal workers ≡ decimal others = ap (word_at 1) (sym spells.0.0 ∙ too.0.0) in
      let rest = one_logged statements log other phases more spells.1 too.1 in
      (sym (value_of-decimal workers (omega (arith, spells.0.1))) ∙ (ap value_of words ∙ value_of-decimal others (omega (arith, too.0.1))), rest.0, rest.1)
  one_body (statement ∷ statements) workers others log other phases more (inl spells) (inr too) = absurd (no_workers other statement statements more workers too.1 spells.0)
  one_body (statement ∷ statements) workers others log other phases more (inr spells) (inl too) = absurd (no_workers log statement statements phases others spells.1 too.0)
  one_body (statement ∷ statements) workers others log other phases more (inr spells) (inr too) =
      let rest = one_logged (statement ∷ statements) log other phases more spells.1 too.1 in (spells.0 ∙ sym too.0, rest.0, rest.1)

-- a header says one number of nodes
one_number : (statement : Statement) (nodes others : ℕ) → IsNodesHeader statement nodes → IsNodesHeader statement others → nodes ≡ others
one_number statement nodes others header too =
    let words : decimal nodes ≡ decimal others = ap (word_at 1) (sym header.0 ∙ too.0) in
    sym (value_of-decimal nodes (omega (arith, between_high 2 16 nodes header.1))) ∙ (ap value_of words ∙ value_of-decimal others (omega (arith, between_high 2 16 others too.1)))

-- the script of these parts
abbrev script_with : ℕ → ℕ → Bool → List Phase → Script
script_with nodes workers log phases = record { nodes = nodes; workers = workers; log = log; phases = phases }

same_scripts : (a b w v : ℕ) (l m : Bool) (p q : List Phase) → a ≡ b → w ≡ v → l ≡ m → p ≡ q → script_with a w l p ≡ script_with b v m q
same_scripts a b w v l m p q nodes workers logs phases =
    ap (λ (n : ℕ). script_with n w l p) nodes
    ∙ (ap (λ (n : ℕ). script_with b n l p) workers ∙ (ap (λ (log : Bool). script_with b v log p) logs ∙ ap (script_with b v m) phases))

one_of : (statements : List Statement) (first second : Script) → SpellsStatements statements first → SpellsStatements statements second → first ≡ second
one_of [] first second spells too = absurd spells
one_of (statement ∷ statements) first second spells too =
    let nodes : first.nodes ≡ second.nodes = one_number statement first.nodes second.nodes spells.0 too.0 in
    let body : SpellsBody first.nodes second.workers second.log statements too.1.0 = subst (λ (n : ℕ). SpellsBody n second.workers second.log statements too.1.0) (sym nodes) too.1.1 in
    let parts = one_body first.nodes (between_high 2 16 first.nodes spells.0.1) statements first.workers second.workers first.log second.log spells.1.0 too.1.0 spells.1.1 body in
    same_scripts first.nodes second.nodes first.workers second.workers first.log second.log first.phases second.phases nodes parts.0 parts.1
    (spells.1.2 ∙ (ap (map phase_of) parts.2 ∙ sym too.1.2))

-- bytes spell one script at most
pub one_script : OneScript
one_script bytes first second spells too = one_of (statements_of bytes) first second spells.statements too.statements
