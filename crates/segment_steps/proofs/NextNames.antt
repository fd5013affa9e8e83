-- The names that a publish writes, and those of the segments that it makes.
use Rattle.std.proofs.Common.{◌≡◌, ℕ, zero, suc, ◌⊎◌, inl, inr, Bool, true, false, cond, List, [], ◌∷◌, ◌++◌, map, Option, Some, None, refl, sym, ap, subst, ◌∙◌, arith}
use Rattle.std.specs.Prelude.{◌==◌}
use Rattle.std.specs.List.{AllZip, AllByRecursion, filter, Contains, flat_map}
use Rattle.std.proofs.lemmas.List.{map-append, append-nil}
use Rattle.std.proofs.lemmas.List.Concat.{flat_map-append}
use Rattle.std.proofs.lemmas.List.Elements.{Contains-append_left, Contains-append_right}
use Rattle.file_names.specs.Names.{part_name_of, live_name_of}
use Rattle.file_names.specs.declared.composed.SegPart.TheVariants.{Docs, Post, Info}
use Rattle.nrt_base.specs.declared.numbers.SegNo.{SegNo}
use Rattle.nrt_base.proofs.Plain.{contains_later}
use Rattle.disk_model.specs.Disk.{Name}
use Rattle.segment_infos.specs.declared.infos.SegRecord.{SegRecord}
use Rattle.segment_infos.specs.Files.{files_of_segment, live_files}
use Rattle.seg_merge.specs.Given.{Shown, SegFiles, File, record_of}
use Rattle.seg_merge.proofs.Given.{names_are}
use Rattle.segment_steps.specs.declared.flushing.FlushWork.{FlushWork}
use Rattle.segment_steps.specs.declared.next.NextSegments.{NextSegments}
use Rattle.segment_steps.specs.Next.{Turn, turns, next_live_gen, record_by, record_after, stays, staying, is_changed, IsLiveFileAfter, new_records, new_files, IsBuiltWork, IsNextOf}
use Rattle.segment_steps.proofs.PublishLaws.{here}

abbrev pub names_in : List File → List Name
names_in files = map (λ (f : File). f.0) files

-- each name is one of the first or one of the second
abbrev pub EachIn : List Name → List Name → List Name → Type 0
EachIn old written names = AllByRecursion (λ (name : Name). Contains old name ⊎ Contains written name) names

pub each_more : (old more written names : List Name) → EachIn old written names → EachIn (more ++ old) written names
each_more old more written [] all = tt
each_more old more written (n ∷ names) all = (moved all.0, each_more old more written names all.1)
  where
    moved : Contains old n ⊎ Contains written n → Contains (more ++ old) n ⊎ Contains written n
    moved (inl in') = inl (Contains-append_right more old n in')
    moved (inr in') = inr in'

pub each_append : (old written a b : List Name) → EachIn old written a → EachIn old written b → EachIn old written (a ++ b)
each_append old written [] b p q = q
each_append old written (n ∷ a) b p q = (p.0, each_append old written a b p.1 q)

pub all_old : (names old written : List Name) → ((n : Name) → Contains names n → Contains old n) → EachIn old written names
all_old [] old written in' = tt
all_old (n ∷ names) old written in' = (inl (in' n (here n names)), all_old names old written (λ m there. in' m (contains_later n m names there)))

all_written : (names old written : List Name) → ((n : Name) → Contains names n → Contains written n) → EachIn old written names
all_written [] old written in' = tt
all_written (n ∷ names) old written in' = (inr (in' n (here n names)), all_written names old written (λ m there. in' m (contains_later n m names there)))

-- ---- the files of a segment after its change

changed_names : (g : ℕ) (r : SegRecord) (live : List Bool) (old written : List Name) → ((n : Name) → Contains (files_of_segment r) n → Contains old n) → Contains written (live_name_of r.seg.0 (next_live_gen g r)) → EachIn old written (files_of_segment (record_by g r (Some live)))
changed_names g r live old written in' there =
    let n = r.seg.0 in
    let docs = part_name_of n Docs in
    let post = part_name_of n Post in
    let info = part_name_of n Info in (
      inl (in' docs (here docs (post ∷ info ∷ live_files r))),
      (
        inl (in' post (contains_later docs post (post ∷ info ∷ live_files r) (here post (info ∷ live_files r)))),
        (
          inl (in' info (contains_later docs info (post ∷ info ∷ live_files r) (contains_later post info (info ∷ live_files r) (here info (live_files r))))),
          last (next_live_gen g r == 0),
        ),
      ),
    )
  where
    last : (b : Bool) → EachIn old written (cond b [] (live_name_of r.seg.0 (next_live_gen g r) ∷ []))
    last true = tt
    last false = (inr there, tt)

pub names_step : (g : ℕ) (b : Bool) (r : SegRecord) (s : Shown) (c : Option (List Bool)) (ts : List Turn) (files : List File) (old written : List Name) → ((n : Name) → Contains (files_of_segment r) n → Contains old n)
    → ((f : File) → Contains files f → Contains written f.0) → AllZip (IsLiveFileAfter g) (filter is_changed (cond b ((r, (s, c)) ∷ ts) ts)) files
    → ((others : List File) → ((f : File) → Contains others f → Contains written f.0) → AllZip (IsLiveFileAfter g) (filter is_changed ts) others → EachIn old written (flat_map files_of_segment (map (record_after g) ts)))
    → EachIn old written (flat_map files_of_segment (map (record_after g) (cond b ((r, (s, c)) ∷ ts) ts)))
names_step g false r s c ts files old written in' there zip more = more files there zip
names_step g true r s None ts files old written in' there zip more = each_append old written (files_of_segment r) (flat_map files_of_segment (map (record_after g) ts)) (all_old (files_of_segment r) old written in') (more files there zip)
names_step g true r s (Some live) ts [] old written in' there zip more = absurd zip
names_step g true r s (Some live) ts (f ∷ files) old written in' there zip more =
    each_append old written (files_of_segment (record_by g r (Some live))) (flat_map files_of_segment (map (record_after g) ts))
    (changed_names g r live old written in' (subst (Contains written) zip.0.0 (there f (here f files))))
    (more files (λ x at. there x (contains_later f x files at)) zip.1)

kept_names : (g : ℕ) (held : List SegNo) (rs : List SegRecord) (ss : List Shown) (cs : List (Option (List Bool))) (files : List File) (old written : List Name) → ((n : Name) → Contains (flat_map files_of_segment rs) n → Contains old n)
    → ((f : File) → Contains files f → Contains written f.0) → AllZip (IsLiveFileAfter g) (filter is_changed (staying g held (turns rs ss cs))) files → EachIn old written (flat_map files_of_segment (map (record_after g) (staying g held (turns rs ss cs))))
kept_names g held [] ss cs files old written in' there zip = tt
kept_names g held (r ∷ rs) [] cs files old written in' there zip = tt
kept_names g held (r ∷ rs) (s ∷ ss) [] files old written in' there zip = tt
kept_names g held (r ∷ rs) (s ∷ ss) (c ∷ cs) files old written in' there zip =
    names_step g (stays g held (r, (s, c))) r s c (staying g held (turns rs ss cs)) files old written
    (λ n at. in' n (Contains-append_left (files_of_segment r) (flat_map files_of_segment rs) n at)) there zip
    (λ others they more. kept_names g held rs ss cs others old written (λ n at. in' n (Contains-append_right (files_of_segment r) (flat_map files_of_segment rs) n at)) they more)

pub new_names : (new : Option SegFiles) → IsBuiltWork new → flat_map files_of_segment (new_records new) ≡ names_in (new_files new)
new_names None is = refl
new_names (Some built) is =
    let r = record_of built.seg built.live in
    append-nil (files_of_segment r) ∙ sym (names_are r is.1.parts is.1.reads.live_file) ∙ sym (ap names_in is.1.named)

pub name_there : (files : List File) (f : File) → Contains files f → Contains (names_in files) f.0
name_there [] f (k, lt, e) = absurd (omega (arith, lt))
name_there (x ∷ files) f (zero, lt, e) = (0, omega arith, ap (λ (y : File). y.0) e)
name_there (x ∷ files) f (suc k, lt, e) = contains_later x.0 f.0 (names_in files) (name_there files f (k, omega (arith, lt), e))

-- EACH NAME of the next segments is one of the infos' or one of those that are written
pub names_are_there : (g : ℕ) (held : List SegNo) (rs : List SegRecord) (ss : List Shown) (work : FlushWork) (made : NextSegments) → IsBuiltWork work.files → IsNextOf g rs ss work held made
    → EachIn (flat_map files_of_segment rs) (names_in made.files) (flat_map files_of_segment made.records)
names_are_there g held rs ss work made built is =
    let old = flat_map files_of_segment rs in
    let written = names_in made.files in
    let kept = staying g held (turns rs ss work.live) in
    let whole : flat_map files_of_segment made.records ≡ flat_map files_of_segment (map (record_after g) kept) ++ flat_map files_of_segment (new_records work.files) =
    ap (flat_map files_of_segment) is.records_are ∙ flat_map-append files_of_segment (map (record_after g) kept) (new_records work.files) in
    let files : written ≡ names_in (new_files work.files) ++ names_in is.live_files = ap names_in is.files_are ∙ map-append (λ (f : File). f.0) (new_files work.files) is.live_files in
    subst (EachIn old written) (sym whole)
    (each_append old written (flat_map files_of_segment (map (record_after g) kept)) (flat_map files_of_segment (new_records work.files))
    (kept_names g held rs ss work.live is.live_files old written (λ n in'. in')
    (λ f in'. subst (λ (ns : List Name). Contains ns f.0) (sym files) (Contains-append_right (names_in (new_files work.files)) (names_in is.live_files) f.0 (name_there is.live_files f in'))) is.changes)
    (all_written (flat_map files_of_segment (new_records work.files)) old written (λ n in'.
    subst (λ (ns : List Name). Contains ns n) (sym files) (Contains-append_left (names_in (new_files work.files)) (names_in is.live_files) n (subst (λ (ns : List Name). Contains ns n) (new_names work.files built) in')))))

-- ---- which names are written

-- the live file of a segment of infos at the next live generation
pub record IsRaised (g : ℕ) (rs : List SegRecord) (name : Name) : Type 0 where
  pub of : SegRecord
  pub there : Contains rs of
  pub is : name ≡ live_name_of of.seg.0 (next_live_gen g of)

abbrev AreRaised : ℕ → List SegRecord → List File → Type 0
AreRaised g rs files = AllByRecursion (λ (f : File). IsRaised g rs f.0) files

raised_later : (g : ℕ) (r : SegRecord) (rs : List SegRecord) (files : List File) → AreRaised g rs files → AreRaised g (r ∷ rs) files
raised_later g r rs [] all = tt
raised_later g r rs (f ∷ files) all = (record { of = all.0.of; there = contains_later r all.0.of rs all.0.there; is = all.0.is }, raised_later g r rs files all.1)

raised_step : (g : ℕ) (b : Bool) (r : SegRecord) (rs : List SegRecord) (s : Shown) (c : Option (List Bool)) (ts : List Turn) (files : List File) → AllZip (IsLiveFileAfter g) (filter is_changed (cond b ((r, (s, c)) ∷ ts) ts)) files
    → ((others : List File) → AllZip (IsLiveFileAfter g) (filter is_changed ts) others → AreRaised g rs others) → AreRaised g (r ∷ rs) files
raised_step g false r rs s c ts files zip more = raised_later g r rs files (more files zip)
raised_step g true r rs s None ts files zip more = raised_later g r rs files (more files zip)
raised_step g true r rs s (Some live) ts [] zip more = tt
raised_step g true r rs s (Some live) ts (f ∷ files) zip more = (record { of = r; there = here r rs; is = zip.0.0 }, raised_later g r rs files (more files zip.1))

pub live_files_raised : (g : ℕ) (held : List SegNo) (rs : List SegRecord) (ss : List Shown) (cs : List (Option (List Bool))) (files : List File) → AllZip (IsLiveFileAfter g) (filter is_changed (staying g held (turns rs ss cs))) files → AreRaised g rs files
live_files_raised g held [] ss cs [] zip = tt
live_files_raised g held [] ss cs (f ∷ files) zip = absurd zip
live_files_raised g held (r ∷ rs) [] cs [] zip = tt
live_files_raised g held (r ∷ rs) [] cs (f ∷ files) zip = absurd zip
live_files_raised g held (r ∷ rs) (s ∷ ss) [] [] zip = tt
live_files_raised g held (r ∷ rs) (s ∷ ss) [] (f ∷ files) zip = absurd zip
live_files_raised g held (r ∷ rs) (s ∷ ss) (c ∷ cs) files zip = raised_step g (stays g held (r, (s, c))) r rs s c (staying g held (turns rs ss cs)) files zip (λ others more. live_files_raised g held rs ss cs others more)
