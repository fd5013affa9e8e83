-- What reading all files answers.
use Rattle.std.proofs.Common.{◌≡◌, ℕ, ◌<◌, ◌≤◌, Bool, List, Option, Result, Ok, Err, refl, sym, ap, subst, inl, inr, arith}
use Rattle.std.specs.Prelude.{◌⊎◌}
use Rattle.std.proofs.lemmas.Bool.{cases_order}
use Rattle.nrt_base.proofs.Plain.{ok_never_err, same_ok, same_err}
use Rattle.nrt_base.specs.declared.doc.Doc.{Doc}
use Rattle.codec_frame.specs.declared.frame.FileFault.{FileFault}
use Rattle.postings_plain.specs.Body.{FormattedEntries, IsRowCount}
use Rattle.postings_plain.proofs.RowCounts.{one_count}
use Rattle.segment_infos.specs.declared.info.SegInfo.{SegInfo}
use Rattle.segment_infos.specs.declared.infos.SegRecord.{SegRecord}
use Rattle.seg_reader.specs.declared.parts.SegParts.{SegParts}
use Rattle.seg_reader.specs.declared.parts.SegFile.{SegFile}
use Rattle.seg_reader.specs.declared.parts.SegFile.TheVariants.{Docs, Post, Info, Live}
use Rattle.seg_reader.specs.declared.parts.SegFault.{SegFault}
use Rattle.seg_reader.specs.declared.parts.SegFault.TheVariants.{Memory, File, Disagrees}
use Rattle.seg_reader.specs.declared.reading.Contents.{Contents}
use Rattle.seg_reader.specs.Faults.{HasFault, IsInGrammar, HaveContents, file_place, IsFirstOutside}
use Rattle.seg_reader.specs.Reading.{IsOr, IsLiveRead, IsRead}
use Rattle.seg_reader.proofs.Files.{Judged, DocsAnswers, PostAnswers, InfoAnswers, docs_judged, post_judged, info_judged, live_judged}

-- a file has one place in the order
same_part : (p q : SegFile) → file_place p ≡ file_place q → p ≡ q
same_part Docs Docs e = refl
same_part Docs Post e = absurd (omega arith)
same_part Docs Info e = absurd (omega arith)
same_part Docs Live e = absurd (omega arith)
same_part Post Docs e = absurd (omega arith)
same_part Post Post e = refl
same_part Post Info e = absurd (omega arith)
same_part Post Live e = absurd (omega arith)
same_part Info Docs e = absurd (omega arith)
same_part Info Post e = absurd (omega arith)
same_part Info Info e = refl
same_part Info Live e = absurd (omega arith)
same_part Live Docs e = absurd (omega arith)
same_part Live Post e = absurd (omega arith)
same_part Live Info e = absurd (omega arith)
same_part Live Live e = refl

pub in_grammar : (parts : SegParts) (r : SegRecord) (contents : Contents) → HaveContents parts r contents → (part : SegFile) → IsInGrammar parts r part
in_grammar parts r contents have Docs = (contents.docs, have.docs)
in_grammar parts r contents have Post = (contents.post, have.post)
in_grammar parts r contents have Info = (contents.info, have.info)
in_grammar parts r contents have Live = (contents.live, have.live)

-- the files up to this one were looked at
abbrev JudgedTo : SegParts → SegRecord → SegFile → Type 0
JudgedTo parts r part = (other : SegFile) → file_place other ≤ file_place part → Judged parts r other

same_fault : (p q : SegFile) (a b : FileFault) → p ≡ q → a ≡ b → ◌≡◌ {A = SegFault} (File p a) (File q b)
same_fault p q a b e f = cc

one_first : (parts : SegParts) (r : SegRecord) (part other : SegFile) (fault another : FileFault) → JudgedTo parts r part → IsFirstOutside parts r part fault → IsFirstOutside parts r other another
    → ◌≡◌ {A = SegFault} (File part fault) (File other another)
one_first parts r part other fault another judged first second = by_order (cases_order (file_place other) (file_place part))
  where
    by_order : (file_place other ≡ file_place part) ⊎ ((file_place other < file_place part) ⊎ (file_place part < file_place other)) → ◌≡◌ {A = SegFault} (File part fault) (File other another)
    by_order (inl h) =
        let same : other ≡ part = same_part other part h in
        let has : HasFault parts r part another = subst (λ (q : SegFile). HasFault parts r q another) same second.has in
        same_fault part other fault another (sym same) ((judged part (omega arith)).one fault another first.has has)
    by_order (inr (inl h)) = absurd ((judged other (omega arith)).apart (first.before other h) another second.has)
    by_order (inr (inr h)) = absurd ((judged part (omega arith)).apart (second.before part h) fault first.has)

split_file : (p q : SegFile) (a b : FileFault) → ◌≡◌ {A = SegFault} (File p a) (File q b) → (p ≡ q) × (a ≡ b)
split_file p q a b e = (cc, cc)

not_numbers : (p q : SegFile) (a : FileFault) (want found : ℕ) → ◌≡◌ {A = SegFault} (File p a) (Disagrees q want found) → ⊥
not_numbers p q a want found e = cc

refused : (parts : SegParts) (r : SegRecord) (part : SegFile) (fault : FileFault) → JudgedTo parts r part → IsFirstOutside parts r part fault → IsRead parts r (Err (File part fault))
refused parts r part fault judged first = record {
  value = λ contents e. absurd (ok_never_err _ _ (sym e));
  fault = λ other another e.
      let same = split_file part other fault another (same_err _ _ e) in
      subst (λ (q : SegFile). IsFirstOutside parts r q another) same.0 (subst (λ (f : FileFault). IsFirstOutside parts r part f) same.1 first);
  only = λ other want found e. not_numbers part other fault want found (same_err _ _ e);
  each_value = λ contents have. absurd ((judged part (omega arith)).apart (in_grammar parts r contents have part) fault first.has);
  each_fault = λ other another second. inr (ap Err (one_first parts r part other fault another judged first second));
}

-- ---- each place at which reading ends

module _ (parts : SegParts) (r : SegRecord) where
  pub docs_refused : (fault : FileFault) → DocsAnswers parts r (Err fault) → IsRead parts r (Err (File Docs fault))
  docs_refused fault d = refused parts r Docs fault judged (record { has = (d.fault fault).0 refl; before = before })
    where
      judged : JudgedTo parts r Docs
      judged Docs h = docs_judged parts r _ d
      judged Post h = absurd (omega arith)
      judged Info h = absurd (omega arith)
      judged Live h = absurd (omega arith)

      before : (other : SegFile) → file_place other < 1 → IsInGrammar parts r other
      before Docs h = absurd (omega arith)
      before Post h = absurd (omega arith)
      before Info h = absurd (omega arith)
      before Live h = absurd (omega arith)

  pub post_refused : (docs : List Doc) (fault : FileFault) → DocsAnswers parts r (Ok docs) → PostAnswers parts r (Err fault) → IsRead parts r (Err (File Post fault))
  post_refused docs fault d p = refused parts r Post fault judged (record { has = (p.fault fault).0 refl; before = before })
    where
      judged : JudgedTo parts r Post
      judged Docs h = docs_judged parts r _ d
      judged Post h = post_judged parts r _ p
      judged Info h = absurd (omega arith)
      judged Live h = absurd (omega arith)

      before : (other : SegFile) → file_place other < 2 → IsInGrammar parts r other
      before Docs h = (docs, (d.value docs).0 refl)
      before Post h = absurd (omega arith)
      before Info h = absurd (omega arith)
      before Live h = absurd (omega arith)

  pub info_refused : (docs : List Doc) (post : FormattedEntries) (fault : FileFault) → DocsAnswers parts r (Ok docs) → PostAnswers parts r (Ok post) → InfoAnswers parts r (Err fault) → IsRead parts r (Err (File Info fault))
  info_refused docs post fault d p i = refused parts r Info fault judged (record { has = (i.fault fault).0 refl; before = before })
    where
      judged : JudgedTo parts r Info
      judged Docs h = docs_judged parts r _ d
      judged Post h = post_judged parts r _ p
      judged Info h = info_judged parts r _ i
      judged Live h = absurd (omega arith)

      before : (other : SegFile) → file_place other < 3 → IsInGrammar parts r other
      before Docs h = (docs, (d.value docs).0 refl)
      before Post h = (post, (p.value post).0 refl)
      before Info h = absurd (omega arith)
      before Live h = absurd (omega arith)

  judged_all : (docs : List Doc) (post : FormattedEntries) (info : SegInfo) (live : Result (Option (List Bool)) SegFault) → DocsAnswers parts r (Ok docs) → PostAnswers parts r (Ok post) → InfoAnswers parts r (Ok info)
      → IsLiveRead parts.live r live → (part : SegFile) → Judged parts r part
  judged_all docs post info live d p i l Docs = docs_judged parts r _ d
  judged_all docs post info live d p i l Post = post_judged parts r _ p
  judged_all docs post info live d p i l Info = info_judged parts r _ i
  judged_all docs post info live d p i l Live = live_judged parts r live l

  pub no_memory : IsRead parts r (Err Memory)
  no_memory = record {
    value = λ contents e. absurd (ok_never_err _ _ (sym e));
    fault = λ part fault e. absurd (cc);
    only = λ part want found e. cc;
    each_value = λ contents have. inl refl;
    each_fault = λ part fault first. inl refl;
  }

  pub live_refused : (docs : List Doc) (post : FormattedEntries) (info : SegInfo) (e : SegFault) → DocsAnswers parts r (Ok docs) → PostAnswers parts r (Ok post) → InfoAnswers parts r (Ok info)
      → IsLiveRead parts.live r (Err e) → IsRead parts r (Err e)
  live_refused docs post info e d p i l = by_kind (l.only e refl)
    where
      before : (other : SegFile) → file_place other < 4 → IsInGrammar parts r other
      before Docs h = (docs, (d.value docs).0 refl)
      before Post h = (post, (p.value post).0 refl)
      before Info h = (info, (i.value info).0 refl)
      before Live h = absurd (omega arith)

      by_kind : (e ≡ Memory) ⊎ ((f : FileFault) × (e ≡ File Live f)) → IsRead parts r (Err e)
      by_kind (inl h) = subst (λ (x : SegFault). IsRead parts r (Err x)) (sym h) no_memory
      by_kind (inr (f, h)) =
          subst (λ (x : SegFault). IsRead parts r (Err x)) (sym h)
          (refused parts r Live f (λ part _. judged_all docs post info (Err e) d p i l part) (record { has = (l.fault f).0 (ap Err h); before = before }))

  same_contents : (docs docs2 : List Doc) (post post2 : FormattedEntries) (n n2 : ℕ) (info info2 : SegInfo) (live live2 : Option (List Bool)) → docs ≡ docs2 → post ≡ post2 → n ≡ n2 → info ≡ info2 → live ≡ live2
      → ◌≡◌ {A = Contents} (record { docs = docs; post = post; post_rows = n; info = info; live = live }) (record { docs = docs2; post = post2; post_rows = n2; info = info2; live = live2 })
  same_contents docs docs2 post post2 n n2 info info2 live live2 a b c d e = cc

  ok_of : (live other : Option (List Bool)) → IsOr (Ok live) (Ok other) → live ≡ other
  ok_of live other (inl e) = absurd (ok_never_err _ _ e)
  ok_of live other (inr e) = same_ok _ _ e

  pub read_whole : (docs : List Doc) (post : FormattedEntries) (n : ℕ) (info : SegInfo) (live : Option (List Bool)) → DocsAnswers parts r (Ok docs) → PostAnswers parts r (Ok post) → IsRowCount post.entries n → InfoAnswers parts r (Ok info)
      → IsLiveRead parts.live r (Ok live) → IsRead parts r (Ok (record { docs = docs; post = post; post_rows = n; info = info; live = live }))
  read_whole docs post n info live d p count i l = record {
    value = λ contents e. subst (HaveContents parts r) (same_ok _ _ e) have;
    fault = λ part fault e. absurd (ok_never_err _ _ e);
    only = λ part want found e. ok_never_err _ _ e;
    each_value = λ contents other. inr (ap Ok (one contents other));
    each_fault = λ part fault first. absurd ((judged_all docs post info (Ok live) d p i l part).apart (in_grammar parts r _ have part) fault first.has);
  }
    where
      have : HaveContents parts r (record { docs = docs; post = post; post_rows = n; info = info; live = live })
      have = record { docs = (d.value docs).0 refl; post = (p.value post).0 refl; post_rows = count; info = (i.value info).0 refl; live = l.value live refl }

      one : (contents : Contents) → HaveContents parts r contents → record { docs = docs; post = post; post_rows = n; info = info; live = live } ≡ contents
      one contents other =
          let same : post ≡ contents.post = same_ok _ _ ((p.value contents.post).1 other.post) in
          same_contents docs contents.docs post contents.post n contents.post_rows info contents.info live contents.live (same_ok _ _ ((d.value contents.docs).1 other.docs)) same
          (one_count post.entries n contents.post_rows count (subst (λ (x : FormattedEntries). IsRowCount x.entries contents.post_rows) (sym same) other.post_rows))
          (same_ok _ _ ((i.value contents.info).1 other.info)) (ok_of live contents.live (l.each_value contents.live other.live))
