-- The changes of what the memory disk holds are those of a directory's cells.
use Rattle.std.proofs.Common.{◌≡◌, ℕ, zero, suc, ◌-◌, All, subst, Bool, true, false, ◌||◌, cond, is_some, is_none, List, [], ◌∷◌, ◌++◌, length, Some, slice_get, Result, Ok, Err, refl, sym, ap, ◌∙◌, true≢false}
use Rattle.std.proofs.lemmas.List.Folds.{list_any-append}
use Rattle.std.proofs.lemmas.List.Elements.{All-head, All-tail}
use Rattle.disk_model.specs.declared.dir.DirFault.{DirFault}
use Rattle.disk_model.specs.declared.dir.DirFault.TheVariants.{Memory, Missing, Exists, Failed}
use Rattle.disk_model.specs.Disk as model
use Rattle.disk_model.specs.Disk.{Name, Content, Cell, Cells, same, put, is_content, left_by, may_leave, is_among}
use Rattle.disk_model.proofs.CellLemmas.{same_true}
use Rattle.disk_memory.specs.declared.state.State.{State}
use Rattle.disk_memory.specs.declared.state.State.TheVariants.{Absent, Loose, Synced}
use Rattle.disk_memory.specs.declared.state.Outcome.{Outcome}
use Rattle.disk_memory.specs.declared.state.Outcome.TheVariants.{Gone, Exactly, Any}
use Rattle.disk_memory.specs.Held.{Held, content_of, has_file, is_synced, outcome_of, may_be, is_same, is_some_same, ends_with, gain, past_of, cell, set_to, with_outcome, synced, held_flushed}
use Rattle.disk_memory.specs.Table.{Table, cells_of, table_after_write, table_after_remove, table_after_rename, table_after_sync, table_after_sync_names}

-- the outcome of a state may be what is left by it
pub left_of : (state : State) (c : Content) → may_be (outcome_of state) c ≡ left_by (content_of state) (is_synced state) c
left_of Absent c = refl
left_of (Loose bytes) c = refl
left_of (Synced bytes) c = refl

-- outcomes that are the same may be the same contents
same_may_be : (a b : Outcome) → is_same a b ≡ true → (c : Content) → may_be a c ≡ may_be b c
same_may_be Gone Gone e c = refl
same_may_be Gone (Exactly bytes) e c = absurd (true≢false (sym e))
same_may_be Gone (Any bytes) e c = absurd (true≢false (sym e))
same_may_be (Exactly bytes) Gone e c = absurd (true≢false (sym e))
same_may_be (Exactly bytes) (Exactly other) e c = ap (λ (b : List ℕ). is_content (Some b) c) (same_true bytes other e)
same_may_be (Exactly bytes) (Any other) e c = absurd (true≢false (sym e))
same_may_be (Any bytes) Gone e c = absurd (true≢false (sym e))
same_may_be (Any bytes) (Exactly other) e c = absurd (true≢false (sym e))
same_may_be (Any bytes) (Any other) e c = refl

-- an outcome that is there already adds nothing
there_already : (past : List Outcome) (i : ℕ) (o : Outcome) → is_some_same (slice_get past i) o ≡ true → (c : Content) → past_of past c ≡ (past_of past c || may_be o c)
there_already [] i o e c = absurd (true≢false (sym e))
there_already (x ∷ past) zero o e c = front (may_be x c) (may_be o c) (past_of past c) (same_may_be x o e c)
  where
    front : (a b rest : Bool) → a ≡ b → (a || rest) ≡ ((a || rest) || b)
    front true b rest h = refl
    front false true rest h = absurd (true≢false (sym h))
    front false false true h = refl
    front false false false h = refl
there_already (x ∷ past) (suc i) o e c = behind (may_be x c) (past_of past c) (may_be o c) (there_already past i o e c)
  where
    behind : (a rest b : Bool) → rest ≡ (rest || b) → (a || rest) ≡ ((a || rest) || b)
    behind true rest b h = refl
    behind false rest b h = h

-- what is gained is the outcome
gained : (past : List Outcome) (o : Outcome) (c : Content) → past_of (gain past o) c ≡ (past_of past c || may_be o c)
gained past o c = by (ends_with past o) refl
  where
    or-false : (a b : Bool) → (a || (b || false)) ≡ (a || b)
    or-false true b = refl
    or-false false true = refl
    or-false false false = refl

    by : (t : Bool) → ends_with past o ≡ t → past_of (cond t past (past ++ o ∷ [])) c ≡ (past_of past c || may_be o c)
    by true e = there_already past (length past - 1) o e c
    by false e = list_any-append (λ x. may_be x c) past (o ∷ []) ∙ or-false (past_of past c) (may_be o c)

-- ---- of one name
-- a state is set
set_cell : (state : State) (h : Held) → cell (set_to state h) ≡ record { now = content_of state; synced = is_synced state; past = may_leave (cell h) }
set_cell state h = λ i. record { now = content_of state; synced = is_synced state; past = λ c. (gained h.past (outcome_of h.state) c ∙ ap (λ b. past_of h.past c || b) (left_of h.state c)) i }

-- an outcome is gained
outcome_cell : (o : Outcome) (h : Held) (left : Content → Bool) → ((c : Content) → may_be o c ≡ left c)
    → cell (with_outcome o h) ≡ record { now = content_of h.state; synced = is_synced h.state; past = λ c. past_of h.past c || left c }
outcome_cell o h left is = λ i. record { now = content_of h.state; synced = is_synced h.state; past = λ c. (gained h.past o c ∙ ap (λ b. past_of h.past c || b) (is c)) i }

synced_content : (state : State) → content_of (synced state) ≡ content_of state
synced_content Absent = refl
synced_content (Loose bytes) = refl
synced_content (Synced bytes) = refl

synced_synced : (state : State) → is_some (content_of state) ≡ true → is_synced (synced state) ≡ true
synced_synced Absent e = e
synced_synced (Loose bytes) e = refl
synced_synced (Synced bytes) e = refl

flushed_cell : (h : Held) → has_file h ≡ true → cell (held_flushed h) ≡ model.flushed (cell h)
flushed_cell h there = λ i. record { now = synced_content h.state i; synced = synced_synced h.state there i; past = past_of h.past }

-- ---- of the directory
put_cells : (table : Table) (name : Name) (h : Held) (c : Cell) → cell h ≡ c → cells_of (put table name h) ≡ put (cells_of table) name c
put_cells table name h c e = λ i q. (by (same name q) q ∙ ap (λ k. cond (same name q) k (cell (table q))) e) i
  where
    by : (t : Bool) (q : Name) → cell (cond t h (table q)) ≡ cond t (cell h) (cell (table q))
    by true q = refl
    by false q = refl

module _ {T : Type 0} where
  pub written_cells : (table : Table) (name : Name) (bytes : List ℕ) (r : Result T DirFault) → cells_of (table_after_write table name bytes r) ≡ model.after_write (cells_of table) name bytes r
  written_cells table name bytes (Ok x) = put_cells table name _ _ (set_cell (Loose bytes) (table name))
  written_cells table name bytes (Err Failed) = put_cells table name _ _ (outcome_cell (Any bytes) (table name) is_some (λ c. refl))
  written_cells table name bytes (Err Memory) = refl
  written_cells table name bytes (Err Missing) = refl
  written_cells table name bytes (Err Exists) = refl

  pub removed_cells : (table : Table) (name : Name) (r : Result T DirFault) → cells_of (table_after_remove table name r) ≡ model.after_remove (cells_of table) name r
  removed_cells table name (Ok x) = put_cells table name _ _ (set_cell Absent (table name))
  removed_cells table name (Err Failed) = put_cells table name _ _ (outcome_cell Gone (table name) is_none (λ c. refl))
  removed_cells table name (Err Memory) = refl
  removed_cells table name (Err Missing) = refl
  removed_cells table name (Err Exists) = refl

  pub renamed_cells : (table : Table) (from to : Name) (r : Result T DirFault) → cells_of (table_after_rename table from to r) ≡ model.after_rename (cells_of table) from to r
  renamed_cells table from to (Ok x) =
      put_cells (put table to (set_to (table from).state (table to))) from _ _ (set_cell Absent (table from))
      ∙ ap (λ (cells : Cells). put cells from (model.removed (cell (table from)))) (put_cells table to _ _ (set_cell (table from).state (table to)))
  renamed_cells table from to (Err Failed) =
      put_cells (put table to (with_outcome (outcome_of (table from).state) (table to))) from _ _ (outcome_cell Gone (table from) is_none (λ c. refl))
      ∙ ap (λ (cells : Cells). put cells from (model.half_removed (cell (table from)))) (put_cells table to _ _ (outcome_cell (outcome_of (table from).state) (table to) (left_by (content_of (table from).state) (is_synced (table from).state)) (left_of (table from).state)))
  renamed_cells table from to (Err Memory) = refl
  renamed_cells table from to (Err Missing) = refl
  renamed_cells table from to (Err Exists) = refl

  pub settled_cells : (table : Table) (r : Result T DirFault) → cells_of (table_after_sync_names table r) ≡ model.after_sync_names (cells_of table) r
  settled_cells table (Ok x) = refl
  settled_cells table (Err e) = refl

-- a fact of each of the names is one of a name among them
one_among : (P : Name → Type 0) (x q : Name) (rest t : Bool) → same x q ≡ t → P x → (rest ≡ true → P q) → (t || rest) ≡ true → P q
one_among P x q rest true is here later e = subst P (same_true x q is) here
one_among P x q rest false is here later e = later e

all_among : (P : Name → Type 0) (names : List Name) (q : Name) → All P names → is_among names q ≡ true → P q
all_among P [] q every e = absurd (true≢false (sym e))
all_among P (x ∷ names) q every e = one_among P x q (is_among names q) (same x q) refl (All-head P x names every) (all_among P names q (All-tail P x names every)) e

pub synced_cells : {T : Type 0} (table : Table) (names : List Name) (r : Result T DirFault) → All (λ q. is_some (content_of (table q).state) ≡ true) names
    → cells_of (table_after_sync table names r) ≡ model.after_sync (cells_of table) names r
synced_cells table names (Err e) every = refl
synced_cells table names (Ok x) every = λ i q. by q (is_among names q) refl i
  where
    by : (q : Name) (t : Bool) → is_among names q ≡ t → cell (cond t (held_flushed (table q)) (table q)) ≡ cond t (model.flushed (cell (table q))) (cell (table q))
    by q true e = flushed_cell (table q) (all_among (λ (k : Name). is_some (content_of (table k).state) ≡ true) names q every e)
    by q false e = refl
