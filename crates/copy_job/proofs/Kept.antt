-- What a job's calls keep of it.
use Rattle.std.proofs.Common.{◌≡◌, ℕ, suc, ◌+◌, ◌<◌, ◌≤◌, Bool, true, false, not, List, [], ◌∷◌, ◌++◌, length, filter, Option, Some, None, Result, Ok, Err, refl, sym, ap, subst, ◌∙◌, cond, arith, is_some, is_none, All, length-append}
use Rattle.std.specs.Prelude.{OnOk, OnErr}
use Rattle.std.proofs.lemmas.List.Elements.{All-head, All-tail}
use Rattle.std.specs.List.Sorted.{IsStrictlySortedBy}
use Rattle.std.specs.Ordering.{nat_cmp}
use Rattle.std.specs.Cmp.Lexicographic.{slice_cmp}
use Rattle.std.proofs.lemmas.List.Kept.{IsStrictlySortedBy-filter}
use Rattle.nrt_base.proofs.Plain.{sorted_none}
use Rattle.disk_model.specs.Disk.{Name, Cells, same}
use Rattle.disk_model.specs.declared.dir.DirFault.{DirFault}
use Rattle.disk_model.proofs.CellLemmas.{same_true}
use Rattle.file_deleter.specs.Holdings.{Holdings, times}
use Rattle.file_deleter.specs.Moves.{Creates, MovesCounts}
use Rattle.file_deleter.proofs.NameLemmas.{times-cons, times_one, times-append, once}
use Rattle.copy_state.specs.declared.meta.FileMetaData.{FileMetaData}
use Rattle.copy_state.specs.States.{meta_names, meta_in}
use Rattle.copy_job.specs.declared.part.JobPart.{JobPart}
use Rattle.copy_job.specs.declared.fault.JobFault.{JobFault}
use Rattle.copy_job.specs.Parts.{present_names, own_names, insert_part, parts_below}
use Rattle.copy_job.specs.Placing.{Places}
use Rattle.file_names.specs.Names.{temp_name_of}
use Rattle.copy_job.specs.Jobs.{Job, IsJob, job_names, with_part, unheld_names, held_names}
use Rattle.copy_job.proofs.Ascending.{sorted_put}
use Rattle.copy_job.proofs.Placings.{own_to}
use Rattle.copy_job.proofs.Naming.{length-present_names, times-own_insert, times-present_insert, length-insert}

-- the names are at least as many as the parts
pub names_suffice : (names reused : List Name) (parts : List JobPart) → names ≡ reused ++ present_names parts → length parts ≤ length names
names_suffice names reused parts e = omega (arith, ap length e, length-append reused (present_names parts), length-present_names parts)

-- ---- a job whose parts are placed
own_by : (old new : Holdings) (before after : Cells) (parts now : List JobPart) → (count : ℕ) → Places count parts now old new before after → own_names now ≡ own_names parts
own_by old new before after parts now count h = ap own_names h.parts_are ∙ own_to parts count

pub own_placed : (r : Result (Unit {0}) JobFault) (old new : Holdings) (before after : Cells) (parts now : List JobPart) → OnOk r (Places (length parts) parts now old new before after)
    → OnErr r ((count : ℕ) × Places count parts now old new before after) → own_names now ≡ own_names parts
own_placed (Ok done) old new before after parts now ok err = own_by old new before after parts now (length parts) ok
own_placed (Err fault) old new before after parts now ok err = own_by old new before after parts now err.0 err.1

pub job_placed : (j : Job) (parts : List JobPart) → own_names parts ≡ own_names j.parts → IsJob j → IsJob (record j { parts = parts })
job_placed j parts e h = record {
  state = h.state;
  each = λ q. ap (λ (ns : List Name). times j.missing q + times ns q + times j.reused q) e ∙ h.each q;
  lacking = h.lacking;
  ascending = subst (IsStrictlySortedBy (slice_cmp nat_cmp)) (sym e) h.ascending;
}

-- ---- a job that begins
both : (held : List (Name × FileMetaData)) (names : List Name) (q : Name) → times (unheld_names held names) q + 0 + times (held_names held names) q ≡ times names q
both held [] q = refl
both held (x ∷ xs) q = by (both held xs q) (meta_in held x) refl
  where
    by : times (unheld_names held xs) q + 0 + times (held_names held xs) q ≡ times xs q → (o : Option FileMetaData) → meta_in held x ≡ o → times (unheld_names held (x ∷ xs)) q + 0 + times (held_names held (x ∷ xs)) q ≡ times (x ∷ xs) q
    by rest None e =
        let a : unheld_names held (x ∷ xs) ≡ x ∷ unheld_names held xs = ap (λ (o : Option FileMetaData). cond (is_none o) (x ∷ unheld_names held xs) (unheld_names held xs)) e in
        let b : held_names held (x ∷ xs) ≡ held_names held xs = ap (λ (o : Option FileMetaData). cond (is_some o) (x ∷ held_names held xs) (held_names held xs)) e in
        omega (arith, ap (λ (ns : List Name). times ns q) a, ap (λ (ns : List Name). times ns q) b, times-cons x (unheld_names held xs) q, times-cons x xs q, rest)
    by rest (Some m) e =
        let a : unheld_names held (x ∷ xs) ≡ unheld_names held xs = ap (λ (o : Option FileMetaData). cond (is_none o) (x ∷ unheld_names held xs) (unheld_names held xs)) e in
        let b : held_names held (x ∷ xs) ≡ x ∷ held_names held xs = ap (λ (o : Option FileMetaData). cond (is_some o) (x ∷ held_names held xs) (held_names held xs)) e in
        omega (arith, ap (λ (ns : List Name). times ns q) a, ap (λ (ns : List Name). times ns q) b, times-cons x (held_names held xs) q, times-cons x xs q, rest)

pub begun_lacking : (held : List (Name × FileMetaData)) (names missing : List Name) → missing ≡ unheld_names held names → IsStrictlySortedBy (slice_cmp nat_cmp) names → IsStrictlySortedBy (slice_cmp nat_cmp) missing
begun_lacking held names missing is up = subst (IsStrictlySortedBy (slice_cmp nat_cmp)) (sym is) (IsStrictlySortedBy-filter (slice_cmp nat_cmp) (λ q. is_none (meta_in held q)) names up)

pub begun_ascending : (parts : List JobPart) → parts ≡ [] → IsStrictlySortedBy (slice_cmp nat_cmp) (own_names parts)
begun_ascending parts none = subst (λ (ps : List JobPart). IsStrictlySortedBy (slice_cmp nat_cmp) (own_names ps)) (sym none) (sorted_none (slice_cmp nat_cmp))

pub begun_each : (held : List (Name × FileMetaData)) (names missing reused : List Name) (parts : List JobPart) → parts ≡ [] → missing ≡ unheld_names held names → reused ≡ held_names held names
    → (q : Name) → times missing q + times (own_names parts) q + times reused q ≡ times names q
begun_each held names missing reused parts none a b q =
    let c : times (own_names parts) q ≡ 0 = ap (λ (ps : List JobPart). times (own_names ps) q) none in
    omega (arith, ap (λ (ns : List Name). times ns q) a, ap (λ (ns : List Name). times ns q) b, c, both held names q)

-- ---- a part that arrives
-- what holds of each name holds of one that is among them
of_each : (P : Name → Type 0) (names : List Name) (q : Name) → All P names → 0 < times names q → P q
of_each P [] q all some = absurd (omega (arith, some))
of_each P (x ∷ xs) q all some = by (of_each P xs q (All-tail P x xs all)) (same x q) refl
  where
    by : (0 < times xs q → P q) → (b : Bool) → same x q ≡ b → P q
    by rest true e = subst P (same_true x q e) (All-head P x xs all)
    by rest false e = rest (let z : times (x ∷ xs) q ≡ 0 + times xs q = times-cons x xs q ∙ ap (λ b. cond b 1 0 + times xs q) e in omega (arith, z, some))

pub short_missing : (j : Job) (name : Name) → IsJob j → 0 < times j.missing name → length name ≤ 46
short_missing j name h some = of_each (λ q. length q ≤ 46) (meta_names j.want.files) name h.state.files.short (omega (arith, h.each name, some))

-- a name is left out wherever it stands, and the others are left as they are
two : (d : Bool) (k m n here there : ℕ) → here ≡ 1 + m → there ≡ cond d 1 0 + n → k + cond d m 0 ≡ n → {all : ℕ} → all ≡ k + cond d here 0 → all ≡ there
two true k m n here there a b c e = omega (arith, a, b, c, e)
two false k m n here there a b c e = omega (arith, a, b, c, e)

pub left_out : (names : List Name) (name q : Name) → times (filter (λ x. not (same x name)) names) q + cond (same name q) (times names name) 0 ≡ times names q
left_out [] name q = by (same name q)
  where
    by : (b : Bool) → 0 + cond b 0 0 ≡ 0
    by true = refl
    by false = refl
left_out (x ∷ xs) name q = by (left_out xs name q) (same x name) refl (same name q) refl
  where
    kept : List Name
    kept = filter (λ y. not (same y name)) xs

    by : times kept q + cond (same name q) (times xs name) 0 ≡ times xs q → (b : Bool) → same x name ≡ b → (d : Bool) → same name q ≡ d
        → times (filter (λ y. not (same y name)) (x ∷ xs)) q + cond (same name q) (times (x ∷ xs) name) 0 ≡ times (x ∷ xs) q
    by rest true e d f =
        let drops : times (filter (λ y. not (same y name)) (x ∷ xs)) q ≡ times kept q = ap (λ b. times (cond (not b) (x ∷ kept) kept) q) e in
        let here : times (x ∷ xs) name ≡ 1 + times xs name = times-cons x xs name ∙ ap (λ b. cond b 1 0 + times xs name) e in
        let there : times (x ∷ xs) q ≡ cond d 1 0 + times xs q = times-cons x xs q ∙ ap (λ (n : Name). cond (same n q) 1 0 + times xs q) (same_true x name e) ∙ ap (λ b. cond b 1 0 + times xs q) f in
        two d (times kept q) (times xs name) (times xs q) (times (x ∷ xs) name) (times (x ∷ xs) q) here there (subst (λ b. times kept q + cond b (times xs name) 0 ≡ times xs q) f rest)
        (subst (λ b. times (filter (λ y. not (same y name)) (x ∷ xs)) q + cond b (times (x ∷ xs) name) 0 ≡ times kept q + cond d (times (x ∷ xs) name) 0) (sym f) (ap (λ n. n + cond d (times (x ∷ xs) name) 0) drops))
    by rest false e d f =
        let keeps : times (filter (λ y. not (same y name)) (x ∷ xs)) q ≡ cond (same x q) 1 0 + times kept q = ap (λ b. times (cond (not b) (x ∷ kept) kept) q) e ∙ times-cons x kept q in
        let here : times (x ∷ xs) name ≡ 0 + times xs name = times-cons x xs name ∙ ap (λ b. cond b 1 0 + times xs name) e in
        let same_here : cond (same name q) (times (x ∷ xs) name) 0 ≡ cond (same name q) (times xs name) 0 = ap (λ n. cond (same name q) n 0) (here ∙ (let z : 0 + times xs name ≡ times xs name = omega arith in z)) in
        omega (arith, keeps, same_here, times-cons x xs q, rest)

-- a name that a job lacks stands once among those
once_missing : (j : Job) (name : Name) → IsJob j → 0 < times j.missing name → times j.missing name ≡ 1
once_missing j name h some = omega (arith, h.each name, some, once (meta_names j.want.files) name h.state.files.ascending)

pub job_arrived : (j : Job) (p : JobPart) (missing : List Name) (parts : List JobPart) → IsJob j → 0 < times j.missing p.own → missing ≡ filter (λ q. not (same q p.own)) j.missing → parts ≡ insert_part p j.parts
    → IsJob (record j { missing = missing; parts = parts })
job_arrived j p missing parts h some m_is p_is = record {
  state = h.state;
  each = each;
  lacking = subst (IsStrictlySortedBy (slice_cmp nat_cmp)) (sym m_is) (IsStrictlySortedBy-filter (slice_cmp nat_cmp) (λ q. not (same q p.own)) j.missing h.lacking);
  ascending = subst (λ (ps : List JobPart). IsStrictlySortedBy (slice_cmp nat_cmp) (own_names ps)) (sym p_is)
      (sorted_put p j.parts (omega (arith, h.each p.own, some, once (meta_names j.want.files) p.own h.state.files.ascending)) h.ascending);
}
  where
    each : (q : Name) → times missing q + times (own_names parts) q + times j.reused q ≡ times (meta_names j.want.files) q
    each q =
        let a : times missing q + cond (same p.own q) 1 0 ≡ times j.missing q =
        ap (λ (ns : List Name). times ns q + cond (same p.own q) 1 0) m_is
        ∙ ap (λ n. times (filter (λ x. not (same x p.own)) j.missing) q + cond (same p.own q) n 0) (sym (once_missing j p.own h some)) ∙ left_out j.missing p.own q in
        let b : times (own_names parts) q ≡ times (own_names j.parts) q + cond (same p.own q) 1 0 =
        ap (λ (ps : List JobPart). times (own_names ps) q) p_is ∙ times-own_insert p j.parts q in
        omega (arith, a, b, h.each q)

pub moves_arrived : (done : Unit {0}) (bytes : List ℕ) (old new : Holdings) (before after : Cells) (reused : List Name) (parts now : List JobPart) (p : JobPart)
    → Creates {T = Unit {0}} {E = DirFault} p.now bytes old new before after (Ok done) → now ≡ insert_part p parts
    → MovesCounts (p.now ∷ []) (present_names parts ++ reused) (present_names now ++ reused) old new before after
moves_arrived done bytes old new before after reused parts now p c parts_are = record {
  balance = λ q.
      let a : times (present_names now) q ≡ times (present_names parts) q + cond (same p.now q) 1 0 = ap (λ (ps : List JobPart). times (present_names ps) q) parts_are ∙ times-present_insert p parts q in
      omega (arith, a, c.counts q, times_one p.now q, times-append (present_names parts) reused q, times-append (present_names now) reused q);
  keeps = c.keeps;
}

-- the job has one part more
pub part_added : (was j : Job) (name now : Name) (missing : List Name) (parts : List JobPart) → was ≡ j → now ≡ temp_name_of name was.number → missing ≡ filter (λ q. not (same q name)) was.missing
    → parts ≡ insert_part (record { own = name; now = now }) was.parts → record was { missing = missing; parts = parts } ≡ with_part j name
part_added was j name now missing parts is temp m p =
    let one : record was { missing = missing; parts = parts } ≡ with_part was name =
    (let e : parts ≡ insert_part (record { own = name; now = temp_name_of name was.number }) was.parts = p ∙ ap (λ (n : Name). insert_part (record { own = name; now = n }) was.parts) temp in
    λ i. record was { missing = m i; parts = e i }) in
    one ∙ ap (λ (x : Job). with_part x name) is

pub moves_added : (was j : Job) (done : Unit {0}) (bytes : List ℕ) (old new : Holdings) (before after : Cells) (parts : List JobPart) (missing : List Name) (name now : Name)
    → was ≡ j → now ≡ temp_name_of name was.number → Creates {T = Unit {0}} {E = DirFault} now bytes old new before after (Ok done) → parts ≡ insert_part (record { own = name; now = now }) was.parts
    → MovesCounts (temp_name_of name j.number ∷ []) (job_names j) (job_names (record was { missing = missing; parts = parts })) old new before after
moves_added was j done bytes old new before after parts missing name now is temp c p =
    let moves : MovesCounts (now ∷ []) (job_names was) (job_names (record was { missing = missing; parts = parts })) old new before after =
    moves_arrived done bytes old new before after was.reused was.parts parts (record { own = name; now = now }) c p in
    subst (λ (x : Job). MovesCounts (temp_name_of name x.number ∷ []) (job_names x) (job_names (record was { missing = missing; parts = parts })) old new before after) is
    (subst (λ (n : Name). MovesCounts (n ∷ []) (job_names was) (job_names (record was { missing = missing; parts = parts })) old new before after) temp moves)

-- ---- room for what is missing
-- a name that is left out is missed
pub length-left_out : (names : List Name) (name : Name) → length (filter (λ q. not (same q name)) names) + times names name ≡ length names
length-left_out [] name = refl
length-left_out (x ∷ xs) name = by (length-left_out xs name) (same x name) refl
  where
    kept : List Name
    kept = filter (λ q. not (same q name)) xs

    by : length kept + times xs name ≡ length xs → (b : Bool) → same x name ≡ b → length (filter (λ q. not (same q name)) (x ∷ xs)) + times (x ∷ xs) name ≡ length (x ∷ xs)
    by rest true e =
        let a : length (filter (λ q. not (same q name)) (x ∷ xs)) ≡ length kept = ap (λ b. length (cond (not b) (x ∷ kept) kept)) e in
        let c : times (x ∷ xs) name ≡ 1 + times xs name = times-cons x xs name ∙ ap (λ b. cond b 1 0 + times xs name) e in
        omega (arith, a, c, rest)
    by rest false e =
        let a : length (filter (λ q. not (same q name)) (x ∷ xs)) ≡ suc (length kept) = ap (λ b. length (cond (not b) (x ∷ kept) kept)) e in
        let c : times (x ∷ xs) name ≡ 0 + times xs name = times-cons x xs name ∙ ap (λ b. cond b 1 0 + times xs name) e in
        omega (arith, a, c, rest)

-- there is room for a part that is missing
pub has_room : (missing : List Name) (name : Name) (count room : ℕ) → 0 < times missing name → length missing + count ≤ room → count < room
has_room missing name count room some fits = omega (arith, some, fits, length-left_out missing name)

-- and there is room for the rest behind it
pub room_left : (missing now : List Name) (name : Name) (count next room room_now : ℕ) → 0 < times missing name → now ≡ filter (λ q. not (same q name)) missing → next ≡ count + 1 → room ≤ room_now
    → length missing + count ≤ room → length now + next ≤ room_now
room_left missing now name count next room room_now some is one more fits = omega (arith, some, ap length is, one, more, fits, length-left_out missing name)

pub one_longer : (p : JobPart) (parts now : List JobPart) → now ≡ insert_part p parts → length now ≡ length parts + 1
one_longer p parts now is = ap length is ∙ length-insert parts (parts_below p.own parts) p

-- the names of a job are as many as what it reuses and its parts
pub length-names : (names reused : List Name) (parts : List JobPart) → names ≡ reused ++ present_names parts → length names ≡ length reused + length parts
length-names names reused parts e = omega (arith, ap length e, length-append reused (present_names parts), length-present_names parts)
