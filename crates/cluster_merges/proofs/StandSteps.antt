-- What is true of merges once one has started, is written, is copied, or has been cut over.
use Rattle.std.proofs.Common.{◌≡◌, ◌≤◌, ◌+◌, ◌++◌, ◌==◌, ℕ, Bool, true, false, List, [], ◌∷◌, Some, None, Option, refl, ap, ◌∙◌, sym, subst, arith, if◌then◌else◌}
use Rattle.std.specs.Prelude.{not, IsSomeAnd}
use Rattle.std.specs.List.{All}
use Rattle.std.proofs.lemmas.Bool.{eqb-true}
use Rattle.std.proofs.lemmas.Bool.Decides.{nat_tests}
use Rattle.disk_model.specs.Disk.{Name}
use Rattle.seg_merge.specs.declared.task.Merged.{Merged}
use Rattle.copy_state.specs.declared.state.CopyState.{CopyState}
use Rattle.copy_state.specs.States.{meta_names, IsCopyState}
use Rattle.copy_job.specs.Jobs.{Job}
use Rattle.index_primary.specs.declared.states.Merging.{Merging}
use Rattle.index_primary.specs.declared.states.Out.{Out}
use Rattle.index_primary.specs.Merges.{merge_of, merges_with, merges_without}
use Rattle.index_primary.specs.States.{IsMetaIn}
use Rattle.history_tables.proofs.RowLemmas.{by_test}
use Rattle.history_book.specs.Log.{Log}
use Rattle.merge_tasks.specs.declared.tasks.OpenMerge.{OpenMerge}
use Rattle.merge_tasks.specs.declared.tasks.Spread.{Spread}
use Rattle.merge_tasks.specs.Board.{open_merge, spread_at, with_spread, without_merge, is_sent_in}
use Rattle.merge_tasks.proofs.BoardRows.{open_end, open_without, open_with}
use Rattle.cluster_nodes.specs.Outs.{one_like}
use Rattle.cluster_state.specs.Merging.{IsStateOfMerged, AreWrittenAlike, IsMergeOfRow, AreMergedAlike, out_at, spreads_like, IsSentCopy, AreSentCopies}

-- ---- the primary's merges by their numbers

pub merge_end : (ms : List Merging) (m : Merging) (seg : ℕ) → merge_of m.task.seg.0 ms ≡ None → merge_of seg (ms ++ m ∷ []) ≡ (if m.task.seg.0 == seg then Some m else merge_of seg ms)
merge_end [] m seg fresh = refl
merge_end (x ∷ ms) m seg fresh = ends (x.task.seg.0 == m.task.seg.0) refl fresh (merge_end ms m seg)
  where
    ends : (t : Bool) → (x.task.seg.0 == m.task.seg.0) ≡ t → (if t then Some x else merge_of m.task.seg.0 ms) ≡ None
        → (merge_of m.task.seg.0 ms ≡ None → merge_of seg (ms ++ m ∷ []) ≡ (if m.task.seg.0 == seg then Some m else merge_of seg ms))
        → (if x.task.seg.0 == seg then Some x else merge_of seg (ms ++ m ∷ [])) ≡ (if m.task.seg.0 == seg then Some m else if x.task.seg.0 == seg then Some x else merge_of seg ms)
    ends true is none more = absurd (cc)
    ends false is none more = let rest = more none in grind (arith, nat_tests, rest, is)

-- the merge of a number, once this was made of it
pub merge_made : (ms : List Merging) (merged : Merged) (names : List Name) (m : Merging) (seg : ℕ) → merge_of merged.files.seg.0 ms ≡ Some m
    → merge_of seg (merges_with merged names ms) ≡ (if merged.files.seg.0 == seg then Some (record m { merged = Some merged; names = names }) else merge_of seg ms)
merge_made [] merged names m seg is = absurd (cc)
merge_made (x ∷ ms) merged names m seg is =
    by_test (x.task.seg.0 == merged.files.seg.0) (λ b. (x.task.seg.0 == merged.files.seg.0) ≡ b → (if b then Some x else merge_of merged.files.seg.0 ms) ≡ Some m
    → merge_of seg (if b then record x { merged = Some merged; names = names } ∷ ms else x ∷ merges_with merged names ms)
    ≡ (if merged.files.seg.0 == seg then Some (record m { merged = Some merged; names = names }) else if x.task.seg.0 == seg then Some x else merge_of seg ms))
    (λ here e is. let same : x ≡ m = cc in let all : Some (record x { merged = Some merged; names = names }) ≡ Some (record m { merged = Some merged; names = names }) = ap (λ (z : Merging). Some (record z { merged = Some merged; names = names })) same in
    grind (arith, nat_tests, e, all))
    (λ apart e is. let rest = merge_made ms merged names m seg is in grind (arith, nat_tests, e, rest))
    refl is

-- a merge has its number
pub merge_numbered : (ms : List Merging) (seg : ℕ) (m : Merging) → merge_of seg ms ≡ Some m → m.task.seg.0 ≡ seg
merge_numbered [] seg m is = absurd (cc)
merge_numbered (x ∷ ms) seg m is =
    by_test (x.task.seg.0 == seg) (λ b. (x.task.seg.0 == seg) ≡ b → (if b then Some x else merge_of seg ms) ≡ Some m → m.task.seg.0 ≡ seg)
    (λ here e is. let same : x ≡ m = cc in sym (ap (λ (z : Merging). z.task.seg.0) same) ∙ eqb-true x.task.seg.0 seg e)
    (λ apart e is. merge_numbered ms seg m is)
    refl is

-- the merges without one: the others stay
pub merge_other : (ms : List Merging) (seg s : ℕ) → (seg == s) ≡ false → merge_of s (merges_without seg ms) ≡ merge_of s ms
merge_other [] seg s apart = refl
merge_other (x ∷ ms) seg s apart =
    by_test (x.task.seg.0 == seg) (λ b. (x.task.seg.0 == seg) ≡ b → merge_of s (if b then ms else x ∷ merges_without seg ms) ≡ (if x.task.seg.0 == s then Some x else merge_of s ms))
    (λ here e. let away : (x.task.seg.0 == s) ≡ false = off x.task.seg.0 e in sym (ap (λ (b : Bool). if b then Some x else merge_of s ms) away))
    (λ other e. ap (λ (o : Option Merging). if x.task.seg.0 == s then Some x else o) (merge_other ms seg s apart))
    refl
  where
    off : (k : ℕ) → (k == seg) ≡ true → (k == s) ≡ false
    off k e = grind (arith, nat_tests, e, apart)

-- ---- rows of the board beside the primary's merges

-- a merge has started
pub alike_begun : (log : Log) (ms : List Merging) (rows : List OpenMerge) (m : Merging) (row : OpenMerge) → row.seg.0 ≡ m.task.seg.0 → IsMergeOfRow log m row → open_merge row.seg.0 rows ≡ None
    → ((seg : ℕ) → AreMergedAlike log (merge_of seg ms) (open_merge seg rows)) → (seg : ℕ) → AreMergedAlike log (merge_of seg (ms ++ m ∷ [])) (open_merge seg (rows ++ row ∷ []))
alike_begun log ms rows m row same is fresh alike seg =
    subst (λ (o : Option Merging). AreMergedAlike log o (open_merge seg (rows ++ row ∷ []))) (sym (merge_end ms m seg (unmade (merge_of m.task.seg.0 ms) refl)))
    (subst (λ (o : Option OpenMerge). AreMergedAlike log (if m.task.seg.0 == seg then Some m else merge_of seg ms) o) (sym (open_end rows row seg fresh ∙ ap (λ (k : ℕ). if k == seg then Some row else open_merge seg rows) same))
    (by (m.task.seg.0 == seg)))
  where
    unmade : (o : Option Merging) → merge_of m.task.seg.0 ms ≡ o → merge_of m.task.seg.0 ms ≡ None
    unmade None e = e
    unmade (Some x) e = absurd (clash x (subst (λ (p : Option OpenMerge). AreMergedAlike log (merge_of m.task.seg.0 ms) p) (ap (λ (k : ℕ). open_merge k rows) (sym same) ∙ fresh) (alike m.task.seg.0)) e)
      where
        clash : (x : Merging) → AreMergedAlike log (merge_of m.task.seg.0 ms) None → merge_of m.task.seg.0 ms ≡ Some x → ⊥
        clash x alone e = subst (λ (o : Option Merging). AreMergedAlike log o None) e alone

    by : (b : Bool) → AreMergedAlike log (if b then Some m else merge_of seg ms) (if b then Some row else open_merge seg rows)
    by true = is
    by false = alike seg

-- its files are written
pub alike_written : (log : Log) (ms : List Merging) (rows : List OpenMerge) (merged : Merged) (names : List Name) (m : Merging) (row : OpenMerge) (s : Spread) → merge_of merged.files.seg.0 ms ≡ Some m → open_merge merged.files.seg.0 rows ≡ Some row
    → IsStateOfMerged merged s → ((seg : ℕ) → AreMergedAlike log (merge_of seg ms) (open_merge seg rows)) → (seg : ℕ)
    → AreMergedAlike log (merge_of seg (merges_with merged names ms)) (open_merge seg (with_spread merged.files.seg.0 (Some s) rows))
alike_written log ms rows merged names m row s found there of_state alike seg =
    subst (λ (o : Option Merging). AreMergedAlike log o (open_merge seg (with_spread merged.files.seg.0 (Some s) rows))) (sym (merge_made ms merged names m seg found))
    (subst (λ (o : Option OpenMerge). AreMergedAlike log (if merged.files.seg.0 == seg then Some (record m { merged = Some merged; names = names }) else merge_of seg ms) o) (sym (open_with rows merged.files.seg.0 (Some s) row there seg))
    (by (merged.files.seg.0 == seg)))
  where
    was : IsMergeOfRow log m row
    was = subst (λ (o : Option Merging). AreMergedAlike log o (Some row)) found (subst (λ (o : Option OpenMerge). AreMergedAlike log (merge_of merged.files.seg.0 ms) o) there (alike merged.files.seg.0))

    by : (b : Bool) → AreMergedAlike log (if b then Some (record m { merged = Some merged; names = names }) else merge_of seg ms) (if b then Some (record row { spread = Some s }) else open_merge seg rows)
    by true = record { inputs = was.inputs; task = was.task; written = of_state }
    by false = alike seg

-- its copies go on: the copy state is the same
pub alike_copied : (log : Log) (ms : List Merging) (rows : List OpenMerge) (seg : ℕ) (row : OpenMerge) (s t : Spread) → open_merge seg rows ≡ Some row → row.spread ≡ Some s → t.state ≡ s.state
    → ((n : ℕ) → AreMergedAlike log (merge_of n ms) (open_merge n rows)) → (n : ℕ) → AreMergedAlike log (merge_of n ms) (open_merge n (with_spread seg (Some t) rows))
alike_copied log ms rows seg row s t there some same alike n =
    subst (λ (o : Option OpenMerge). AreMergedAlike log (merge_of n ms) o) (sym (open_with rows seg (Some t) row there n)) (by (seg == n) refl)
  where
    of_row : (o : Option Merging) → AreMergedAlike log o (Some row) → AreMergedAlike log o (Some (record row { spread = Some t }))
    of_row None alone = absurd alone
    of_row (Some m) is = record { inputs = is.inputs; task = is.task; written = written m.merged (subst (λ (x : Option Spread). AreWrittenAlike m.merged x) some is.written) }
      where
        written : (o : Option Merged) → AreWrittenAlike o (Some s) → AreWrittenAlike o (Some t)
        written None alone = absurd alone
        written (Some merged) is = record {
          names = ap (λ (c : CopyState). meta_names c.files) same ∙ is.names;
          metas = λ reads written. subst (λ (c : CopyState). All (IsMetaIn reads) c.files) (sym same) (is.metas reads written);
          copy = subst IsCopyState (sym same) is.copy;
        }

    by : (b : Bool) → (seg == n) ≡ b → AreMergedAlike log (merge_of n ms) (if b then Some (record row { spread = Some t }) else open_merge n rows)
    by true here = of_row (merge_of n ms) (subst (λ (o : Option OpenMerge). AreMergedAlike log (merge_of n ms) o) (ap (λ (k : ℕ). open_merge k rows) (sym (eqb-true seg n here)) ∙ there) (alike n))
    by false apart = alike n

-- it has been cut over
pub alike_closed : (log : Log) (ms : List Merging) (rows : List OpenMerge) (seg : ℕ) → merge_of seg (merges_without seg ms) ≡ None → ((n : ℕ) → AreMergedAlike log (merge_of n ms) (open_merge n rows))
    → (n : ℕ) → AreMergedAlike log (merge_of n (merges_without seg ms)) (open_merge n (without_merge seg rows))
alike_closed log ms rows seg gone alike n =
    subst (λ (o : Option OpenMerge). AreMergedAlike log (merge_of n (merges_without seg ms)) o) (sym (open_without rows seg n)) (by (seg == n) refl)
  where
    by : (b : Bool) → (seg == n) ≡ b → AreMergedAlike log (merge_of n (merges_without seg ms)) (if b then None else open_merge n rows)
    by true here = subst (λ (o : Option Merging). AreMergedAlike log o None) (sym (ap (λ (k : ℕ). merge_of k (merges_without seg ms)) (sym (eqb-true seg n here)) ∙ gone)) tt
    by false apart = subst (λ (o : Option Merging). AreMergedAlike log o (open_merge n rows)) (sym (merge_other ms seg n apart)) (alike n)

-- ---- copies that run

-- rows that keep what copies rest on: each that was sent is sent still, of the same copy state
pub sent_still : (rows new : List OpenMerge) (n : ℕ) (running : List Job)
    → ((seg k : ℕ) (s : Spread) → spread_at (open_merge seg rows) ≡ Some s → is_sent_in n k s.left ≡ true → IsSomeAnd (spread_at (open_merge seg new)) (λ t. (is_sent_in n k t.left ≡ true) × (t.state ≡ s.state)))
    → AreSentCopies rows n running → AreSentCopies new n running
sent_still rows new n running keeps sent k c at = let was = sent k c at in by was (spread_at (open_merge was.seg new)) refl (keeps was.seg k was.spread was.row was.sent)
  where
    by : (was : IsSentCopy rows n k c) (o : Option Spread) → spread_at (open_merge was.seg new) ≡ o → IsSomeAnd o (λ t. (is_sent_in n k t.left ≡ true) × (t.state ≡ was.spread.state)) → IsSentCopy new n k c
    by was None e none = absurd none
    by was (Some t) e is = record { seg = was.seg; spread = t; row = e; sent = is.0; want = was.want ∙ sym is.1 }

-- ---- copy states of merges

pub spreads_end : (s : Out) (rows : List OpenMerge) (r : OpenMerge) → spreads_like s (rows ++ r ∷ []) ≡ spreads_like s rows + one_like s (out_at r.spread)
spreads_end s [] r = omega arith
spreads_end s (q ∷ rows) r = let rest = spreads_end s rows r in omega (arith, rest)

pub spreads_with : (s : Out) (rows : List OpenMerge) (seg : ℕ) (spread : Option Spread) (r : OpenMerge) → open_merge seg rows ≡ Some r
    → spreads_like s (with_spread seg spread rows) + one_like s (out_at r.spread) ≡ spreads_like s rows + one_like s (out_at spread)
spreads_with s [] seg spread r is = absurd (cc)
spreads_with s (q ∷ rows) seg spread r is =
    by_test (q.seg.0 == seg) (λ b. (if b then Some q else open_merge seg rows) ≡ Some r
    → spreads_like s (if b then record q { spread = spread } ∷ rows else q ∷ with_spread seg spread rows) + one_like s (out_at r.spread) ≡ spreads_like s (q ∷ rows) + one_like s (out_at spread))
    (λ here is. let same : q ≡ r = cc in let one : one_like s (out_at q.spread) ≡ one_like s (out_at r.spread) = ap (λ (z : OpenMerge). one_like s (out_at z.spread)) same in omega (arith, one))
    (λ apart is. let rest = spreads_with s rows seg spread r is in omega (arith, rest))
    is

spreads_no_more : (s : Out) (rows : List OpenMerge) (seg : ℕ) → spreads_like s (without_merge seg rows) ≤ spreads_like s rows
spreads_no_more s [] seg = omega arith
spreads_no_more s (r ∷ rows) seg =
    let rest = spreads_no_more s rows seg in
    elim (r.seg.0 == seg) as (λ b. spreads_like s (if not b then r ∷ without_merge seg rows else without_merge seg rows) ≤ spreads_like s (r ∷ rows)) [ true ↦ omega (arith, rest) | false ↦ omega (arith, rest) ]

pub spreads_without : (s : Out) (rows : List OpenMerge) (seg : ℕ) (r : OpenMerge) → open_merge seg rows ≡ Some r → spreads_like s (without_merge seg rows) + one_like s (out_at r.spread) ≤ spreads_like s rows
spreads_without s [] seg r is = absurd (cc)
spreads_without s (q ∷ rows) seg r is =
    by_test (q.seg.0 == seg) (λ b. (if b then Some q else open_merge seg rows) ≡ Some r → spreads_like s (if not b then q ∷ without_merge seg rows else without_merge seg rows) + one_like s (out_at r.spread) ≤ spreads_like s (q ∷ rows))
    (λ here is. let same : q ≡ r = cc in let one : one_like s (out_at q.spread) ≡ one_like s (out_at r.spread) = ap (λ (z : OpenMerge). one_like s (out_at z.spread)) same in let rest = spreads_no_more s rows seg in omega (arith, one, rest))
    (λ apart is. let rest = spreads_without s rows seg r is in omega (arith, rest))
    is
