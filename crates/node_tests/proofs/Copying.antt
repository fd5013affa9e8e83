-- What the files and the states of tests are.
use Rattle.std.proofs.Common.{◌≡◌, ◌≤◌, ◌<◌, ◌+◌, ℕ, true, Option, Some, None, is_some, cond, slice_get, List, [], ◌∷◌, ◌++◌, length, take, get_or, refl, sym, ap, subst, ◌∙◌, arith, lit≤, All, true≢false}
use Rattle.std.specs.Prelude.{codes, map}
use Rattle.std.specs.List.{AllByRecursion}
use Rattle.std.specs.declared.cmp.Ordering.{Ordering}
use Rattle.std.specs.declared.cmp.Ordering.TheVariants.{Less, Equal, Greater}
use Rattle.std.proofs.lemmas.List.{take_more, map-append}
use Rattle.std.specs.List.Sorted.{IsStrictlySortedBy}
use Rattle.std.specs.Ordering.{nat_cmp, ordering_then}
use Rattle.std.specs.Cmp.Lexicographic.{slice_cmp}
use Rattle.std.proofs.lemmas.List.Elements.{All-nil, All-cons}
use Rattle.nrt_base.proofs.Plain.{sorted_none}
use Rattle.codec_frame.specs.Bytes.{AreBytes}
use Rattle.codec_frame.specs.Frame.{Wanted, index_header, with_footer}
use Rattle.codec_frame.specs.Checking.{HasFooter}
use Rattle.codec_frame.proofs.FrameLaws.{framed_footer}
use Rattle.copy_state.specs.declared.meta.FileMetaData.{FileMetaData}
use Rattle.copy_state.specs.declared.state.CopyState.{CopyState}
use Rattle.copy_state.specs.States.{meta_names, meta_in, AreShortNames}
use Rattle.disk_model.specs.Disk.{Name, Cells, same}
use Rattle.disk_memory.specs.Held.{Held, untouched, cell}
use Rattle.disk_memory.specs.Table.{Table, cells_of}
use Rattle.file_deleter.specs.Holdings.{Holdings, times, IsWhole, AreCounted}
use Rattle.file_deleter.specs.Moves.{MovesCounts}
use Rattle.file_deleter.proofs.NameLemmas.{same_self, times-cons}
use Rattle.copy_job.specs.declared.part.JobKind.{JobKind}
use Rattle.copy_job.specs.Jobs.{Job, IsJob, job_names, held_names, begun_job}

abbrev documents : Wanted
documents = record { name = codes "NrtDocs"; min = 1; max = 1; id = None; suffix = [] }

pub made_footer : (start headed filled out bytes body id : List ℕ) → start ≡ [] → headed ≡ start ++ index_header (codes "NrtDocs") 1 id [] → filled ≡ headed ++ body → out ≡ with_footer filled → bytes ≡ out
    → length id ≡ 16 → AreBytes bytes → HasFooter bytes
made_footer start headed filled out bytes body id s h f o b size fits =
    framed_footer documents 1 id body bytes fits (record {
      whole = b ∙ o ∙ ap with_footer (f ∙ ap (λ (xs : List ℕ). xs ++ body) (h ∙ ap (λ (xs : List ℕ). xs ++ index_header (codes "NrtDocs") 1 id []) s));
      not_older = lit≤ tt;
      not_newer = lit≤ tt;
      id_length = size;
      id_wanted = tt;
    })

pub none_short : (names : List (List ℕ)) → names ≡ [] → AreShortNames names
none_short names e = subst AreShortNames (sym e) (record { ascending = sorted_none (slice_cmp nat_cmp); short = All-nil (λ q. length q ≤ 46) })

-- ---- names of one letter
letter_less : (a b : ℕ) (o : Ordering) → nat_cmp a b ≡ o → o ≡ Less → slice_cmp nat_cmp (a ∷ []) (b ∷ []) ≡ Less
letter_less a b Less e is = ap (λ (o : Ordering). ordering_then o Equal) e
letter_less a b Equal e is = absurd (cc)
letter_less a b Greater e is = absurd (cc)

all_less : (a : ℕ) (letters : List ℕ) → AllByRecursion (λ b. nat_cmp a b ≡ Less) letters → AllByRecursion (λ q. slice_cmp nat_cmp (a ∷ []) q ≡ Less) (map (λ (b : ℕ). b ∷ []) letters)
all_less a [] all = tt
all_less a (b ∷ letters) all = (letter_less a b (nat_cmp a b) refl all.0, all_less a letters all.1)

letters_up : (letters : List ℕ) → IsStrictlySortedBy nat_cmp letters → IsStrictlySortedBy (slice_cmp nat_cmp) (map (λ (b : ℕ). b ∷ []) letters)
unfolding IsStrictlySortedBy
letters_up [] up = tt
letters_up (a ∷ letters) up = (all_less a letters up.0, letters_up letters up.1)

letters_few : (letters : List ℕ) → All (λ (q : List ℕ). length q ≤ 46) (map (λ (b : ℕ). b ∷ []) letters)
letters_few [] = All-nil (λ (q : List ℕ). length q ≤ 46)
letters_few (a ∷ letters) = All-cons (λ (q : List ℕ). length q ≤ 46) (a ∷ []) (map (λ (b : ℕ). b ∷ []) letters) (lit≤ tt) (letters_few letters)

pub letters_short : (letters : List ℕ) (files : List (List ℕ × FileMetaData)) → IsStrictlySortedBy nat_cmp letters → meta_names files ≡ map (λ (b : ℕ). b ∷ []) letters → AreShortNames (meta_names files)
letters_short letters files up is = subst AreShortNames (sym is) (record { ascending = letters_up letters up; short = letters_few letters })

pub one_letter_more : (files : List (List ℕ × FileMetaData)) (name : List ℕ) (meta : FileMetaData) (letters : List ℕ) (i : ℕ) → i < length letters → name ≡ get_or letters i 0 ∷ [] → meta_names files ≡ map (λ (c : ℕ). c ∷ []) (take i letters)
    → meta_names (files ++ (name, meta) ∷ []) ≡ map (λ (c : ℕ). c ∷ []) (take (i + 1) letters)
one_letter_more files name meta letters i lt named was =
    map-append (λ (f : List ℕ × FileMetaData). f.0) files ((name, meta) ∷ []) ∙ ap (λ (ns : List (List ℕ)). ns ++ name ∷ []) was ∙ ap (λ (n : List ℕ). map (λ (c : ℕ). c ∷ []) (take i letters) ++ n ∷ []) named
    ∙ sym (ap (map (λ (c : ℕ). c ∷ [])) (take_more letters i 0 lt) ∙ map-append (λ (c : ℕ). c ∷ []) (take i letters) (get_or letters i 0 ∷ []))

-- ---- where nothing is held
none_held : (names : List Name) → held_names [] names ≡ []
none_held [] = refl
none_held (q ∷ names) = none_held names

pub begun_names : (number : ℕ) (kind : JobKind) (want : CopyState) (held : List (Name × FileMetaData)) → held ≡ [] → (j : Job) → j ≡ begun_job number kind want held → job_names j ≡ []
begun_names number kind want held none j is = ap job_names is ∙ ap (λ (h : List (Name × FileMetaData)). held_names h (meta_names want.files)) none ∙ none_held (meta_names want.files)

pub whole_empty : (table : Table) (files : Holdings) → ((q : Name) → table q ≡ untouched) → files ≡ record { counts = []; due = []; room = 0 } → IsWhole (cells_of table) files
whole_empty table files none is = subst (IsWhole (cells_of table)) (sym is) (record { names = λ q. ap (λ (h : Held). is_some (cell h).now) (none q); apart = λ q due. absurd (true≢false (sym due)) })

-- what a job holds is counted after a part came, as before
pub counted_moved : (was now names : List Name) (old new : Holdings) (a b : Cells) → AreCounted was old → MovesCounts names was now old new a b → AreCounted now new
counted_moved was now names old new a b counted moves = record { each = λ q. omega (arith, counted.each q, moves.balance q) }

pub both_counted : (none had : List Name) (files : Holdings) → none ≡ [] → AreCounted had files → AreCounted (none ++ had) files
both_counted none had files is counted = subst (λ (ns : List Name). AreCounted (ns ++ had) files) (sym is) counted

pub none_counted : (names : List Name) (files : Holdings) → names ≡ [] → AreCounted names files
none_counted names files is = subst (λ (ns : List Name). AreCounted ns files) (sym is) (record { each = λ q. omega arith })
