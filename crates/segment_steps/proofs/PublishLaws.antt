-- After a publish the infos have the segments that it made, and these are of the documents after its cut.
use Rattle.std.proofs.Common.{◌≡◌, ℕ, suc, ◌<◌, ◌≤◌, Bool, true, false, cond, ◌↔◌, ◌⊎◌, List, [], ◌∷◌, ◌++◌, length, map, Option, Some, None, IsSome, inl, inr, refl, sym, ap, subst, ◌∙◌, arith}
use Rattle.std.specs.Prelude.{nat_lt, ◌==◌}
use Rattle.std.specs.List.{All, AllZip, Contains, filter, flat_map}
use Rattle.std.proofs.lemmas.Bool.{ltb-false, or_parts, cases_lt}
use Rattle.std.proofs.lemmas.List.{append-nil, length-replicate}
use Rattle.std.proofs.lemmas.List.Concat.{flat_map-append}
use Rattle.std.proofs.lemmas.List.Elements.{All-nil, All-cons, All-head, All-tail, All-append, Contains-append_left, Contains-append_right}
use Rattle.file_names.specs.Names.{part_name_of, live_name_of}
use Rattle.file_names.specs.declared.composed.SegPart.TheVariants.{Docs, Post, Info}
use Rattle.nrt_base.specs.declared.doc.Doc.{Doc}
use Rattle.nrt_base.specs.declared.numbers.SegNo.{SegNo}
use Rattle.nrt_base.proofs.Plain.{contains_later}
use Rattle.disk_model.specs.Disk.{Name, Content}
use Rattle.documents.specs.declared.operation.Op.{Op}
use Rattle.documents.specs.Documents.{after_ops}
use Rattle.live_bits.specs.LiveRows.{live_rows, IsLiveFile}
use Rattle.segment_infos.specs.declared.infos.SegRecord.{SegRecord}
use Rattle.segment_infos.specs.declared.infos.Infos.{Infos}
use Rattle.segment_infos.specs.Files.{files_of_segment, live_files}
use Rattle.seg_merge.specs.Given.{Shown, shown_with, live_documents, live_documents_of, record_id, AreLiveRowsOf, IsSegmentOf, IsSound, IsLiveFileIn, IsSegmentIn, AreSegmentsOf, StandsWith, SegFiles, File, record_of, live_file_of, files_of, IsBuilt}
use Rattle.segment_steps.specs.declared.flushing.FlushTask.{FlushTask}
use Rattle.segment_steps.specs.declared.flushing.FlushWork.{FlushWork}
use Rattle.segment_steps.specs.declared.next.NextSegments.{NextSegments}
use Rattle.segment_steps.specs.Cut.{removed_by, puts_of, puts_live, lacking, live_left}
use Rattle.segment_steps.specs.Segments.{left_of, live_change, changed}
use Rattle.segment_steps.specs.Next.{IsNewOf, IsFlushOf, turns, Turn, next_live_gen, record_by, record_after, shown_after, stays, staying, is_changed, IsLiveFileAfter, new_records, new_files, AreReadBack, IsNextOf, AreReadSame}
use Rattle.segment_steps.proofs.Documents.{live_docs, puts_left}
use Rattle.segment_steps.proofs.Segments.{after_cut, segments_left, none_live, change_is, still_sound}

-- ---- lists side by side

pub AllZip-append : {A B : Type 0} (R : A → B → Type 0) (xs us : List A) (ys vs : List B) → AllZip R xs ys → AllZip R us vs → AllZip R (xs ++ us) (ys ++ vs)
AllZip-append R [] us [] vs a b = b
AllZip-append R [] us (y ∷ ys) vs a b = absurd a
AllZip-append R (x ∷ xs) us [] vs a b = absurd a
AllZip-append R (x ∷ xs) us (y ∷ ys) vs a b = (a.0, AllZip-append R xs us ys vs a.1 b)

pub here : {X : Type 0} (x : X) (xs : List X) → Contains (x ∷ xs) x
here x xs = (0, omega arith, refl)

All-front : {X : Type 0} (P : X → Type 0) (xs ys : List X) → All P (xs ++ ys) → All P xs
All-front P [] ys all = All-nil P
All-front P (x ∷ xs) ys all = All-cons P x xs (All-head P x (xs ++ ys) all) (All-front P xs ys (All-tail P x (xs ++ ys) all))

All-back : {X : Type 0} (P : X → Type 0) (xs ys : List X) → All P (xs ++ ys) → All P ys
All-back P [] ys all = all
All-back P (x ∷ xs) ys all = All-back P xs ys (All-tail P x (xs ++ ys) all)

-- ---- a segment whose files read the same, and one with a new live file

module _ (before after : Name → Content) where
  live_there : (r : SegRecord) (rest : List (List ℕ)) (live : Option (List ℕ)) → IsLiveFileIn before r live → AreReadSame before after (rest ++ live_files r) → IsLiveFileIn after r live
  live_there r rest None in' same = in'
  live_there r rest (Some bytes) in' same =
      (in'.0, same (live_name_of r.seg.0 r.live_gen) (Contains-append_right rest (live_files r) (live_name_of r.seg.0 r.live_gen) (named r.live_gen in'.0)) ∙ in'.1)
    where
      by_test : (n : ℕ) (b : Bool) → (n == 0) ≡ b → 0 < n → Contains (cond b [] (live_name_of r.seg.0 n ∷ [])) (live_name_of r.seg.0 n)
      by_test n false e lt = here (live_name_of r.seg.0 n) []
      by_test n true e lt = absurd (grind arith)

      named : (n : ℕ) → 0 < n → Contains (cond (n == 0) [] (live_name_of r.seg.0 n ∷ [])) (live_name_of r.seg.0 n)
      named n lt = by_test n (n == 0) refl lt

  docs_same : (r : SegRecord) → AreReadSame before after (files_of_segment r) → after (part_name_of r.seg.0 Docs) ≡ before (part_name_of r.seg.0 Docs)
  docs_same r same =
      let n = r.seg.0 in
      same (part_name_of n Docs) (here (part_name_of n Docs) (part_name_of n Post ∷ part_name_of n Info ∷ live_files r))

  post_same : (r : SegRecord) → AreReadSame before after (files_of_segment r) → after (part_name_of r.seg.0 Post) ≡ before (part_name_of r.seg.0 Post)
  post_same r same =
      let n = r.seg.0 in
      same (part_name_of n Post) (contains_later (part_name_of n Docs) (part_name_of n Post) (part_name_of n Post ∷ part_name_of n Info ∷ live_files r) (here (part_name_of n Post) (part_name_of n Info ∷ live_files r)))

  info_same : (r : SegRecord) → AreReadSame before after (files_of_segment r) → after (part_name_of r.seg.0 Info) ≡ before (part_name_of r.seg.0 Info)
  info_same r same =
      let n = r.seg.0 in
      same (part_name_of n Info)
      (contains_later (part_name_of n Docs) (part_name_of n Info) (part_name_of n Post ∷ part_name_of n Info ∷ live_files r)
      (contains_later (part_name_of n Post) (part_name_of n Info) (part_name_of n Info ∷ live_files r) (here (part_name_of n Info) (live_files r))))

  segment_stays : (r : SegRecord) (s : Shown) → IsSegmentIn before r s → AreReadSame before after (files_of_segment r) → IsSegmentIn after r s
  segment_stays r s is same =
      let n = r.seg.0 in
      record {
        parts = is.parts;
        files = record {
          docs = docs_same r same ∙ is.files.docs;
          post = post_same r same ∙ is.files.post;
          info = info_same r same ∙ is.files.info;
          live = live_there r (part_name_of n Docs ∷ part_name_of n Post ∷ part_name_of n Info ∷ []) is.parts.live is.files.live same;
        };
        segment = is.segment;
        live = is.live;
      }

  pub segments_stay : (rs : List SegRecord) (ss : List Shown) → AllZip (IsSegmentIn before) rs ss → AreReadSame before after (flat_map files_of_segment rs) → AllZip (IsSegmentIn after) rs ss
  segments_stay [] [] each same = tt
  segments_stay [] (s ∷ ss) each same = absurd each
  segments_stay (r ∷ rs) [] each same = absurd each
  segments_stay (r ∷ rs) (s ∷ ss) each same = (
    segment_stays r s each.0 (λ name in'. same name (Contains-append_left (files_of_segment r) (flat_map files_of_segment rs) name in')),
    segments_stay rs ss each.1 (λ name in'. same name (Contains-append_right (files_of_segment r) (flat_map files_of_segment rs) name in')),
  )

  -- a directory stands as long as the files of the infos read the same
  pub stands_kept : (infos : Infos) (segs : List Shown) (docs : List Doc) → StandsWith before infos segs docs → AreReadSame before after (flat_map files_of_segment infos.segs) → StandsWith after infos segs docs
  stands_kept infos segs docs stands same = record { each = segments_stay infos.segs segs stands.each same; stand = stands.stand }

  as_many : (bytes : Option (List ℕ)) (r : SegRecord) (live : List Bool) → AreLiveRowsOf bytes r live → length live ≡ r.rows
  as_many None r live is = ap length is ∙ length-replicate r.rows true
  as_many (Some bytes) r live is = is.1

  -- a segment whose live rows changed, with its new live file
  segment_changes : (r : SegRecord) (s : Shown) (g : ℕ) (live : List Bool) (file : File) → IsSegmentIn before r s → AreReadSame before after (files_of_segment r) → length live ≡ length s.live
      → file.0 ≡ live_name_of r.seg.0 (next_live_gen g r) → IsLiveFile (record_id r) (next_live_gen g r) live file.1 → after file.0 ≡ Some file.1 → IsSegmentIn after (record_by g r (Some live)) (shown_with s live)
  segment_changes r s g live file is same long named live_file reads =
      let n = r.seg.0 in
      record {
        parts = record { docs = is.parts.docs; post = is.parts.post; info = is.parts.info; live = Some file.1 };
        files = record {
          docs = docs_same r same ∙ is.files.docs;
          post = post_same r same ∙ is.files.post;
          info = info_same r same ∙ is.files.info;
          live = (omega arith, sym (ap after named) ∙ reads);
        };
        segment = record {
          docs = is.segment.docs;
          docs_rows = is.segment.docs_rows;
          format = is.segment.format;
          post = is.segment.post;
          post_rows = is.segment.post_rows;
          info = is.segment.info;
          live = (live_file, long ∙ as_many is.parts.live r s.live is.segment.live, refl);
        };
        live = refl;
      }

  -- ---- the segments that stay

  abbrev pub Reads : File → Type 0
  Reads file = after file.0 ≡ Some file.1

  abbrev IsAsLong : Shown → Option (List Bool) → Type 0
  IsAsLong s None = Unit {0}
  IsAsLong s (Some live) = length live ≡ length s.live

  module _ (g : ℕ) (held : List SegNo) where
    pub each_step : (b : Bool) (r : SegRecord) (s : Shown) (c : Option (List Bool)) (ts : List Turn) (files : List File) → IsSegmentIn before r s → AreReadSame before after (files_of_segment r) → IsAsLong s c
        → AllZip (IsLiveFileAfter g) (filter is_changed (cond b ((r, (s, c)) ∷ ts) ts)) files → All Reads files
        → ((others : List File) → AllZip (IsLiveFileAfter g) (filter is_changed ts) others → All Reads others → AllZip (IsSegmentIn after) (map (record_after g) ts) (map shown_after ts))
        → AllZip (IsSegmentIn after) (map (record_after g) (cond b ((r, (s, c)) ∷ ts) ts)) (map shown_after (cond b ((r, (s, c)) ∷ ts) ts))
    each_step false r s c ts files is same long zip reads more = more files zip reads
    each_step true r s None ts files is same long zip reads more = (segment_stays r s is same, more files zip reads)
    each_step true r s (Some live) ts [] is same long zip reads more = absurd zip
    each_step true r s (Some live) ts (file ∷ files) is same long zip reads more =
        (segment_changes r s g live file is same long zip.0.0 zip.0.1 (All-head Reads file files reads), more files zip.1 (All-tail Reads file files reads))

    pub sound_step : (b : Bool) (r : SegRecord) (s : Shown) (c : Option (List Bool)) (ts : List Turn) → IsSound s → All IsSound (map shown_after ts) → All IsSound (map shown_after (cond b ((r, (s, c)) ∷ ts) ts))
    sound_step false r s c ts sound all = all
    sound_step true r s None ts sound all = All-cons IsSound s (map shown_after ts) sound all
    sound_step true r s (Some live) ts sound all = All-cons IsSound (shown_with s live) (map shown_after ts) (still_sound s live sound) all

    count_after : (r : SegRecord) (s : Shown) (c : Option (List Bool)) → live_rows s.live ≡ r.live → live_rows (changed s c).live ≡ (record_by g r c).live
    count_after r s None e = e
    count_after r s (Some live) e = refl

    -- one that does not stay has no live row
    none_stays : (r : SegRecord) (s : Shown) (c : Option (List Bool)) → live_rows s.live ≡ r.live → stays g held (r, (s, c)) ≡ false → live_documents_of (changed s c) ≡ []
    none_stays r s c e gone =
        let none = ltb-false 0 (record_by g r c).live (or_parts (nat_lt 0 (record_by g r c).live) _ gone).0 in
        none_live (changed s c).docs (changed s c).live (omega (arith, count_after r s c e, none))

    pub documents_step : (b : Bool) (r : SegRecord) (s : Shown) (c : Option (List Bool)) (ts : List Turn) → stays g held (r, (s, c)) ≡ b → live_rows s.live ≡ r.live
        → live_documents (map shown_after (cond b ((r, (s, c)) ∷ ts) ts)) ≡ live_documents_of (changed s c) ++ live_documents (map shown_after ts)
    documents_step true r s c ts e count = refl
    documents_step false r s c ts e count = ap (λ (ds : List Doc). ds ++ live_documents (map shown_after ts)) (sym (none_stays r s c count e))

    module _ (gone : Doc → Bool) where
      abbrev kept : List SegRecord → List Shown → List Turn
      kept rs ss = staying g held (turns rs ss (map (live_change gone) ss))

      long_left : (docs : List Doc) (live : List Bool) → length (live_left gone docs live) ≡ length live
      long_left [] live = refl
      long_left (d ∷ docs) [] = refl
      long_left (d ∷ docs) (row ∷ live) = omega (arith, long_left docs live)

      change_long : (s : Shown) → IsAsLong s (live_change gone s)
      change_long s = by_test (live_rows (live_left gone s.docs s.live) == live_rows s.live)
        where
          by_test : (b : Bool) → IsAsLong s (cond b None (Some (live_left gone s.docs s.live)))
          by_test true = tt
          by_test false = long_left s.docs s.live

      each_after : (rs : List SegRecord) (ss : List Shown) (files : List File) → AllZip (IsSegmentIn before) rs ss → AreReadSame before after (flat_map files_of_segment rs)
          → AllZip (IsLiveFileAfter g) (filter is_changed (kept rs ss)) files → All Reads files → AllZip (IsSegmentIn after) (map (record_after g) (kept rs ss)) (map shown_after (kept rs ss))
      each_after [] [] files each same zip reads = tt
      each_after [] (s ∷ ss) files each same zip reads = absurd each
      each_after (r ∷ rs) [] files each same zip reads = absurd each
      each_after (r ∷ rs) (s ∷ ss) files each same zip reads =
          each_step (stays g held (r, (s, live_change gone s))) r s (live_change gone s) (kept rs ss) files each.0
          (λ name in'. same name (Contains-append_left (files_of_segment r) (flat_map files_of_segment rs) name in')) (change_long s) zip reads
          (λ others. each_after rs ss others each.1 (λ name in'. same name (Contains-append_right (files_of_segment r) (flat_map files_of_segment rs) name in')))

      sound_after : (rs : List SegRecord) (ss : List Shown) → All IsSound ss → All IsSound (map shown_after (kept rs ss))
      sound_after [] ss sound = All-nil IsSound
      sound_after (r ∷ rs) [] sound = All-nil IsSound
      sound_after (r ∷ rs) (s ∷ ss) sound =
          sound_step (stays g held (r, (s, live_change gone s))) r s (live_change gone s) (kept rs ss) (All-head IsSound s ss sound) (sound_after rs ss (All-tail IsSound s ss sound))

      documents_left : (rs : List SegRecord) (ss : List Shown) → AllZip (IsSegmentIn before) rs ss → live_documents (map shown_after (kept rs ss)) ≡ live_documents (map (left_of gone) ss)
      documents_left [] [] each = refl
      documents_left [] (s ∷ ss) each = absurd each
      documents_left (r ∷ rs) [] each = absurd each
      documents_left (r ∷ rs) (s ∷ ss) each =
          documents_step (stays g held (r, (s, live_change gone s))) r s (live_change gone s) (kept rs ss) refl each.0.live
          ∙ ap (λ (x : Shown). live_documents_of x ++ live_documents (map shown_after (kept rs ss))) (change_is gone s)
          ∙ ap (λ (ds : List Doc). live_documents_of (left_of gone s) ++ ds) (documents_left rs ss each.1)

  -- ---- the new segment

  new_live : (r : SegRecord) (live : Option (List ℕ)) → IsSome live ↔ (0 < r.live_gen) → All Reads (live_file_of r live) → IsLiveFileIn after r live
  new_live r None given reads = by_case (cases_lt 0 r.live_gen)
    where
      by_case : (0 < r.live_gen) ⊎ (r.live_gen ≤ 0) → r.live_gen ≡ 0
      by_case (inl lt) = let bad = given.1 lt in absurd cc
      by_case (inr le) = omega (arith, le)
  new_live r (Some bytes) given reads = (given.0 refl, All-head Reads (live_name_of r.seg.0 r.live_gen, bytes) [] reads)

  pub new_in : (r : SegRecord) (files : List File) (docs : List Doc) (live : List Bool) (b : IsBuilt r files docs live) (s : Shown) → All Reads files → IsSegmentOf b.parts r s → live_rows s.live ≡ r.live → IsSegmentIn after r s
  new_in r files docs live b s reads is count =
      let n = r.seg.0 in
      let parts = b.parts in
      let docs_file : File = (part_name_of n Docs, parts.docs) in
      let post_file : File = (part_name_of n Post, parts.post) in
      let info_file : File = (part_name_of n Info, parts.info) in
      let live = live_file_of r parts.live in
      let all : All Reads (files_of r parts) = subst (All Reads) b.named reads in
      let after_docs = All-tail Reads docs_file (post_file ∷ info_file ∷ live) all in
      let after_post = All-tail Reads post_file (info_file ∷ live) after_docs in
      record {
        parts = parts;
        files = record {
          docs = All-head Reads docs_file (post_file ∷ info_file ∷ live) all;
          post = All-head Reads post_file (info_file ∷ live) after_docs;
          info = All-head Reads info_file live after_post;
          live = new_live r parts.live b.reads.live_file (All-tail Reads info_file live after_post);
        };
        segment = is;
        live = count;
      }

  fresh_each : (seg : Option SegNo) (ops : List Op) (new : Option SegFiles) (fresh : List Shown) → IsNewOf seg ops new → AreReadBack new fresh → All Reads (new_files new) → AllZip (IsSegmentIn after) (new_records new) fresh
  fresh_each seg ops None fresh is back reads = subst (AllZip (IsSegmentIn after) []) (sym back) tt
  fresh_each None ops (Some built) fresh is back reads = absurd is
  fresh_each (Some seg) ops (Some built) fresh is back reads =
      let s = back.0 in
      let r = record_of built.seg built.live in
      subst (AllZip (IsSegmentIn after) (r ∷ [])) (sym back.1)
      (new_in r built.files (puts_of ops) built.live is.is s reads (back.2.segment (puts_of ops) is.is) (ap live_rows back.2.live), tt)

fresh_sound : (new : Option SegFiles) (fresh : List Shown) → AreReadBack new fresh → All IsSound fresh
fresh_sound None fresh back = subst (All IsSound) (sym back) (All-nil IsSound)
fresh_sound (Some built) fresh back = subst (All IsSound) (sym back.1) (All-cons IsSound back.0 [] back.2.sound (All-nil IsSound))

fresh_documents : (seg : Option SegNo) (ops : List Op) (new : Option SegFiles) (fresh : List Shown) → IsNewOf seg ops new → AreReadBack new fresh → live_documents fresh ≡ puts_left ops
fresh_documents seg ops None fresh is back = ap live_documents back ∙ sym (none_live (puts_of ops) (puts_live ops) is)
fresh_documents None ops (Some built) fresh is back = absurd is
fresh_documents (Some seg) ops (Some built) fresh is back =
    let s = back.0 in
    ap live_documents back.1 ∙ append-nil (live_documents_of s)
    ∙ ap (λ (ds : List Doc). live_docs ds s.live) (back.2.docs (puts_of ops) is.is) ∙ ap (live_docs (puts_of ops)) (back.2.live ∙ is.rows)

-- THE SEGMENTS OF A PUBLISH are of the documents after the cut, whatever the directory reads.
pub publish_stand : (before : Name → Content) (g : ℕ) (rs : List SegRecord) (segs : List Shown) (docs : List Doc) (task : FlushTask) (work : FlushWork) (held : List SegNo) (made : NextSegments)
    → AllZip (IsSegmentIn before) rs segs → AreSegmentsOf docs segs → task.segs ≡ segs → IsFlushOf task work → IsNextOf g rs segs work held made → AreSegmentsOf (after_ops docs task.ops) made.segs
publish_stand before g rs segs docs task work held made each stand same_segs flushed is =
    let gone = removed_by task.ops in
    let ts = staying g held (turns rs segs (map (live_change gone) segs)) in
    let live : work.live ≡ map (live_change gone) segs = flushed.live ∙ ap (map (live_change gone)) same_segs in
    let these : staying g held (turns rs segs work.live) ≡ ts = ap (λ (cs : List (Option (List Bool))). staying g held (turns rs segs cs)) live in
    let shown : made.segs ≡ map shown_after ts ++ is.fresh = is.segs_are ∙ ap (λ (xs : List Turn). map shown_after xs ++ is.fresh) these in
    let sound = All-append IsSound (map shown_after ts) is.fresh (sound_after before before g held gone rs segs stand.sound) (fresh_sound work.files is.fresh is.fresh_is) in
    let documents : live_documents (map shown_after ts ++ is.fresh) ≡ lacking gone (live_documents segs) ++ puts_left task.ops =
    flat_map-append live_documents_of (map shown_after ts) is.fresh
    ∙ ap (λ (ds : List Doc). ds ++ live_documents is.fresh) (documents_left before before g held gone rs segs each ∙ segments_left gone segs)
    ∙ ap (λ (ds : List Doc). lacking gone (live_documents segs) ++ ds) (fresh_documents task.seg task.ops work.files is.fresh flushed.files is.fresh_is) in
    subst (AreSegmentsOf (after_ops docs task.ops)) (sym shown) (after_cut docs segs (map shown_after ts ++ is.fresh) task.ops stand documents sound)

-- A PUBLISH: where the files that it writes are in the directory and those of the infos read as before, the next infos stand for the
-- documents after the cut.
pub publish_stands : (before after : Name → Content) (infos next : Infos) (segs : List Shown) (docs : List Doc) (task : FlushTask) (work : FlushWork) (held : List SegNo) (made : NextSegments)
    → StandsWith before infos segs docs → task.segs ≡ segs → IsFlushOf task work → IsNextOf infos.generation.0 infos.segs segs work held made → next.segs ≡ made.records
    → AreReadSame before after (flat_map files_of_segment infos.segs) → All (λ (file : File). after file.0 ≡ Some file.1) made.files
    → StandsWith after next made.segs (after_ops docs task.ops)
publish_stands before after infos next segs docs task work held made stands same_segs flushed is same_records same reads =
    let g = infos.generation.0 in
    let gone = removed_by task.ops in
    let ts = staying g held (turns infos.segs segs (map (live_change gone) segs)) in
    let live : work.live ≡ map (live_change gone) segs = flushed.live ∙ ap (map (live_change gone)) same_segs in
    let these : staying g held (turns infos.segs segs work.live) ≡ ts = ap (λ (cs : List (Option (List Bool))). staying g held (turns infos.segs segs cs)) live in
    let reads_all : All (Reads before after) (new_files work.files ++ is.live_files) = subst (All (Reads before after)) is.files_are reads in
    let zip : AllZip (IsLiveFileAfter g) (filter is_changed ts) is.live_files = subst (λ (xs : List Turn). AllZip (IsLiveFileAfter g) (filter is_changed xs) is.live_files) these is.changes in
    let old_each = each_after before after g held gone infos.segs segs is.live_files stands.each same zip (All-back (Reads before after) (new_files work.files) is.live_files reads_all) in
    let new_each = fresh_each before after task.seg task.ops work.files is.fresh flushed.files is.fresh_is (All-front (Reads before after) (new_files work.files) is.live_files reads_all) in
    let records : next.segs ≡ map (record_after g) ts ++ new_records work.files = same_records ∙ is.records_are ∙ ap (λ (xs : List Turn). map (record_after g) xs ++ new_records work.files) these in
    let shown : made.segs ≡ map shown_after ts ++ is.fresh = is.segs_are ∙ ap (λ (xs : List Turn). map shown_after xs ++ is.fresh) these in
    let sound = All-append IsSound (map shown_after ts) is.fresh (sound_after before after g held gone infos.segs segs stands.stand.sound) (fresh_sound work.files is.fresh is.fresh_is) in
    let documents : live_documents (map shown_after ts ++ is.fresh) ≡ lacking gone (live_documents segs) ++ puts_left task.ops =
    flat_map-append live_documents_of (map shown_after ts) is.fresh
    ∙ ap (λ (ds : List Doc). ds ++ live_documents is.fresh) (documents_left before after g held gone infos.segs segs stands.each ∙ segments_left gone segs)
    ∙ ap (λ (ds : List Doc). lacking gone (live_documents segs) ++ ds) (fresh_documents task.seg task.ops work.files is.fresh flushed.files is.fresh_is) in
    let both = AllZip-append (IsSegmentIn after) (map (record_after g) ts) (new_records work.files) (map shown_after ts) is.fresh old_each new_each in
    record {
      each = subst (λ (rs : List SegRecord). AllZip (IsSegmentIn after) rs made.segs) (sym records) (subst (AllZip (IsSegmentIn after) (map (record_after g) ts ++ new_records work.files)) (sym shown) both);
      stand = subst (AreSegmentsOf (after_ops docs task.ops)) (sym shown) (after_cut docs segs (map shown_after ts ++ is.fresh) task.ops stands.stand documents sound);
    }
