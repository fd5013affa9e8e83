-- What reading a segment answers.
use Rattle.std.proofs.Common.{◌≡◌, ℕ, Bool, true, List, length, Option, Some, None, Result, Ok, Err, refl, sym, ap, subst, ◌∙◌, inl, inr}
use Rattle.std.proofs.lemmas.List.{length-replicate}
use Rattle.std.specs.Prelude.{◌⊎◌, replicate}
use Rattle.std.specs.List.{find}
use Rattle.nrt_base.proofs.Plain.{ok_never_err, same_ok, same_err}
use Rattle.nrt_base.specs.declared.doc.Doc.{Doc}
use Rattle.codec_frame.specs.declared.frame.FileFault.{FileFault}
use Rattle.postings_plain.specs.declared.format.Format.{Format}
use Rattle.postings_plain.specs.Postings.{format_number}
use Rattle.postings_plain.specs.Body.{in_format, IsRowCount}
use Rattle.segment_infos.specs.declared.info.SegInfo.{SegInfo}
use Rattle.segment_infos.specs.declared.infos.SegRecord.{SegRecord}
use Rattle.segment_infos.specs.SegmentInfo.{IsInfoFile}
use Rattle.seg_reader.specs.declared.parts.SegParts.{SegParts}
use Rattle.seg_reader.specs.declared.parts.SegFile.{SegFile}
use Rattle.seg_reader.specs.declared.parts.SegFault.{SegFault}
use Rattle.seg_reader.specs.declared.parts.SegFault.TheVariants.{Memory, File, Disagrees}
use Rattle.seg_reader.specs.declared.reading.Contents.{Contents}
use Rattle.seg_reader.specs.Shown.{Shown}
use Rattle.seg_reader.specs.Files.{record_id, info_of, AreLiveRowsOf, IsSegmentOf}
use Rattle.seg_reader.specs.Faults.{SaysLive, HaveContents, Number, number, differs, numbers_of, IsFirstDifference, IsSegmentFault}
use Rattle.seg_reader.specs.Reading.{IsOr, IsRead, IsLiveOrAll, compared, IsSegmentAnswer}
use Rattle.seg_reader.proofs.Numbers.{LiveAgrees, Agree, agree, agreeing}

-- ---- contents that agree are those of a segment

-- what contents show, with these live rows
abbrev pub shown_by : Contents → List Bool → Shown
shown_by contents live = record { docs = contents.docs; live = live; entries = contents.post.entries }

same_info : (seg seg2 rows rows2 format format2 : ℕ) → seg ≡ seg2 → rows ≡ rows2 → format ≡ format2
    → ◌≡◌ {A = SegInfo} (record { seg = record { 0 = seg }; rows = rows; format = format }) (record { seg = record { 0 = seg2 }; rows = rows2; format = format2 })
same_info seg seg2 rows rows2 format format2 a b c = cc

info_is : (format : Format) (r : SegRecord) (bytes : List ℕ) (info : SegInfo) → IsInfoFile (record_id r) info bytes → r.seg.0 ≡ info.seg.0 → r.rows ≡ info.rows → info.format ≡ format_number format → IsInfoFile (record_id r) (info_of format r) bytes
info_is format r bytes info is seg rows version =
    subst (λ (x : SegInfo). IsInfoFile (record_id r) x bytes) (same_info info.seg.0 r.seg.0 info.rows r.rows info.format (format_number format) (sym seg) (sym rows) version) is

live_is : (bytes : Option (List ℕ)) (r : SegRecord) (given : Option (List Bool)) (live : List Bool) → SaysLive bytes r given → LiveAgrees r given → IsLiveOrAll r.rows given live → AreLiveRowsOf bytes r live
live_is None r None live says agrees is = is
live_is None r (Some given) live says agrees is = absurd says
live_is (Some bytes) r None live says agrees is = absurd says
live_is (Some bytes) r (Some given) live says agrees is = subst (λ (x : List Bool). AreLiveRowsOf (Some bytes) r x) (sym is) (says, sym agrees.0, sym agrees.1)

segment_of : (parts : SegParts) (r : SegRecord) (contents : Contents) (live : List Bool) → HaveContents parts r contents → Agree r contents → IsLiveOrAll r.rows contents.live live
    → IsSegmentOf parts r (shown_by contents live)
segment_of parts r contents live have agrees is = record {
  docs = have.docs;
  docs_rows = sym agrees.docs;
  format = contents.post.format;
  post = have.post;
  post_rows = subst (IsRowCount contents.post.entries) (sym agrees.post) have.post_rows;
  info = info_is contents.post.format r parts.info contents.info have.info agrees.seg agrees.rows agrees.format;
  live = live_is parts.live r contents.live live have.live agrees.live is;
}

-- the live rows of the live file, where there is one
abbrev given_by : Option (List ℕ) → List Bool → Option (List Bool)
given_by None live = None
given_by (Some bytes) live = Some live

abbrev contents_of : SegParts → SegRecord → Format → Shown → Contents
contents_of parts r format shown = record { docs = shown.docs; post = in_format format shown.entries; post_rows = r.rows; info = info_of format r; live = given_by parts.live shown.live }

says_given : (bytes : Option (List ℕ)) (r : SegRecord) (live : List Bool) → AreLiveRowsOf bytes r live → SaysLive bytes r (given_by bytes live)
says_given None r live is = tt
says_given (Some bytes) r live is = is.0

agrees_given : (bytes : Option (List ℕ)) (r : SegRecord) (live : List Bool) → AreLiveRowsOf bytes r live → LiveAgrees r (given_by bytes live)
agrees_given None r live is = tt
agrees_given (Some bytes) r live is = (sym is.1, sym is.2)

is_given : (bytes : Option (List ℕ)) (r : SegRecord) (live : List Bool) → AreLiveRowsOf bytes r live → IsLiveOrAll r.rows (given_by bytes live) live
is_given None r live is = is
is_given (Some bytes) r live is = refl

have_contents : (parts : SegParts) (r : SegRecord) (shown : Shown) (is : IsSegmentOf parts r shown) → HaveContents parts r (contents_of parts r is.format shown)
have_contents parts r shown is = record { docs = is.docs; post = is.post; post_rows = is.post_rows; info = is.info; live = says_given parts.live r shown.live is.live }

contents_agree : (parts : SegParts) (r : SegRecord) (shown : Shown) (is : IsSegmentOf parts r shown) → Agree r (contents_of parts r is.format shown)
contents_agree parts r shown is = record { docs = sym is.docs_rows; post = refl; format = refl; seg = refl; rows = refl; live = agrees_given parts.live r shown.live is.live }

one_live : (rows : ℕ) (given : Option (List Bool)) (live other : List Bool) → IsLiveOrAll rows given live → IsLiveOrAll rows given other → live ≡ other
one_live rows None live other a b = a ∙ sym b
one_live rows (Some given) live other a b = a ∙ sym b

one_shown : (r : SegRecord) (contents others : Contents) (live other : List Bool) → contents ≡ others → IsLiveOrAll r.rows contents.live live → IsLiveOrAll r.rows others.live other
    → shown_by contents live ≡ shown_by others other
one_shown r contents others live other e a b =
    subst (λ (x : Contents). IsLiveOrAll r.rows x.live other → shown_by contents live ≡ shown_by x other) e
    (λ h. ap (shown_by contents) (one_live r.rows contents.live live other a h)) b

-- ---- each answer

got : {X : Type 0} (x y : X) → ◌⊎◌ (◌≡◌ {A = Result X SegFault} (Ok x) (Err Memory)) (◌≡◌ {A = Result X SegFault} (Ok x) (Ok y)) → x ≡ y
got x y (inl e) = absurd (ok_never_err _ _ e)
got x y (inr e) = same_ok _ _ e

never_both : {X : Type 0} (x : X) (fault : SegFault) → ◌⊎◌ (◌≡◌ {A = Result X SegFault} (Ok x) (Err Memory)) (◌≡◌ {A = Result X SegFault} (Ok x) (Err fault)) → ⊥
never_both x fault (inl e) = ok_never_err _ _ e
never_both x fault (inr e) = ok_never_err _ _ e

module _ (parts : SegParts) (r : SegRecord) where
  pub no_memory : IsSegmentAnswer parts r (Err Memory)
  no_memory = record {
    segment = λ shown e. absurd (ok_never_err _ _ (sym e));
    fault = λ fault e. inl (sym (same_err _ _ e));
    each_segment = λ shown is. inl refl;
    each_fault = λ fault is. inl refl;
  }

  -- reading answered a fault, and so does the whole
  pub refused : (fault : SegFault) → IsRead parts r (Err fault) → IsSegmentAnswer parts r (Err fault)
  refused fault k = record {
    segment = λ shown e. absurd (ok_never_err _ _ (sym e));
    fault = λ other e. subst (λ (x : SegFault). (x ≡ Memory) ⊎ IsSegmentFault parts r x) (same_err _ _ e) (own fault k);
    each_segment = λ shown is. memory_alone shown (contents_of parts r is.format shown) (k.each_value (contents_of parts r is.format shown) (have_contents parts r shown is));
    each_fault = by_fault;
  }
    where
      own : (e : SegFault) → IsRead parts r (Err e) → (e ≡ Memory) ⊎ IsSegmentFault parts r e
      own Memory k = inl refl
      own (File part f) k = inr (k.fault part f refl)
      own (Disagrees part want found) k = absurd (k.only part want found refl)

      memory_alone : (x : Shown) (c : Contents) → IsOr {X = Contents} (Err fault) (Ok c) → IsOr {X = Shown} (Err fault) (Ok x)
      memory_alone x c (inl e) = inl (ap Err (same_err _ _ e))
      memory_alone x c (inr e) = absurd (ok_never_err _ _ (sym e))

      same_here : (other : SegFault) → IsOr {X = Contents} (Err fault) (Err other) → IsOr {X = Shown} (Err fault) (Err other)
      same_here other (inl e) = inl (ap Err (same_err _ _ e))
      same_here other (inr e) = inr (ap Err (same_err _ _ e))

      memory_then : (other : SegFault) (c : Contents) → IsOr {X = Contents} (Err fault) (Ok c) → IsOr {X = Shown} (Err fault) (Err other)
      memory_then other c (inl e) = inl (ap Err (same_err _ _ e))
      memory_then other c (inr e) = absurd (ok_never_err _ _ (sym e))

      by_fault : (other : SegFault) → IsSegmentFault parts r other → IsOr {X = Shown} (Err fault) (Err other)
      by_fault Memory is = absurd is
      by_fault (File part f) is = same_here (File part f) (k.each_fault part f is)
      by_fault (Disagrees part want found) is = memory_then (Disagrees part want found) is.contents (k.each_value is.contents is.have)

  -- a number differs
  pub differing : (contents : Contents) (n : Number) → IsRead parts r (Ok contents) → find differs (numbers_of r contents) ≡ Some n → IsSegmentAnswer parts r (Err (Disagrees n.part n.want n.found))
  differing contents n k e = record {
    segment = λ shown f. absurd (ok_never_err _ _ (sym f));
    fault = λ fault f. inr (subst (IsSegmentFault parts r) (same_err _ _ f) (record { contents = contents; have = k.value contents refl; first = e }));
    each_segment = λ shown is. absurd (no_segment shown is);
    each_fault = by_fault;
  }
    where
      some_none : (x y : Option Number) → x ≡ y → x ≡ Some n → y ≡ None → ⊥
      some_none x y a b c = cc

      no_segment : (shown : Shown) → IsSegmentOf parts r shown → ⊥
      no_segment shown is =
          let same = got contents (contents_of parts r is.format shown) (k.each_value (contents_of parts r is.format shown) (have_contents parts r shown is)) in
          some_none _ _ (ap (λ (x : Contents). find differs (numbers_of r x)) same) e (agreeing r (contents_of parts r is.format shown) (contents_agree parts r shown is))

      joined : (x y : Option Number) (m : Number) → x ≡ y → x ≡ Some n → y ≡ Some m → n ≡ m
      joined x y m a b c = cc

      by_fault : (other : SegFault) → IsSegmentFault parts r other → IsOr {X = Shown} (Err (Disagrees n.part n.want n.found)) (Err other)
      by_fault Memory is = absurd is
      by_fault (File part f) is = absurd (never_both contents (File part f) (k.each_fault part f is))
      by_fault (Disagrees part want found) is =
          let same = got contents is.contents (k.each_value is.contents is.have) in
          let one = joined _ _ (number part want found) (ap (λ (x : Contents). find differs (numbers_of r x)) same) e is.first in
          inr (ap (λ (m : Number). Err (Disagrees m.part m.want m.found)) one)

  -- all is as infos want
  pub answered : (contents : Contents) (live : List Bool) → IsRead parts r (Ok contents) → find differs (numbers_of r contents) ≡ None → IsLiveOrAll r.rows contents.live live
      → IsSegmentAnswer parts r (Ok (shown_by contents live))
  answered contents live k e is = record {
    segment = λ shown f. subst (IsSegmentOf parts r) (same_ok _ _ f) (segment_of parts r contents live (k.value contents refl) (agree r contents e) is);
    fault = λ fault f. absurd (ok_never_err _ _ f);
    each_segment = λ shown other.
        let same = got contents (contents_of parts r other.format shown) (k.each_value (contents_of parts r other.format shown) (have_contents parts r shown other)) in
        inr (ap Ok (one_shown r contents (contents_of parts r other.format shown) live shown.live same is (is_given parts.live r shown.live other.live)));
    each_fault = by_fault;
  }
    where
      none_some : (x y : Option Number) (m : Number) → x ≡ y → x ≡ None → y ≡ Some m → ⊥
      none_some x y m a b c = cc

      by_fault : (other : SegFault) → IsSegmentFault parts r other → IsOr {X = Shown} (Ok (shown_by contents live)) (Err other)
      by_fault Memory is = absurd is
      by_fault (File part f) is = absurd (never_both contents (File part f) (k.each_fault part f is))
      by_fault (Disagrees part want found) is =
          let same = got contents is.contents (k.each_value is.contents is.have) in
          absurd (none_some _ _ (number part want found) (ap (λ (x : Contents). find differs (numbers_of r x)) same) e is.first)

-- ---- what the fields of a segment keep

live_length : (r : SegRecord) (given : Option (List Bool)) (live : List Bool) → LiveAgrees r given → IsLiveOrAll r.rows given live → length live ≡ r.rows
live_length r None live agrees is = ap length is ∙ length-replicate r.rows true
live_length r (Some given) live agrees is = ap length is ∙ sym agrees.0

pub kept : (parts : SegParts) (r : SegRecord) (contents : Contents) (live : List Bool) → IsRead parts r (Ok contents) → find differs (numbers_of r contents) ≡ None → IsLiveOrAll r.rows contents.live live
    → (length live ≡ length contents.docs) × IsRowCount contents.post.entries (length contents.docs)
kept parts r contents live k e is =
    let agrees = agree r contents e in (
      live_length r contents.live live agrees.live is ∙ agrees.docs,
      subst (IsRowCount contents.post.entries) (sym agrees.post ∙ agrees.docs) (k.value contents refl).post_rows,
    )

-- ---- what comparing answered

none_of : (found : Option Number) → Ok tt ≡ compared found → found ≡ None
none_of None e = refl
none_of (Some n) e = absurd (ok_never_err _ _ e)

some_of : (found : Option Number) (fault : SegFault) → Err fault ≡ compared found → (n : Number) × (found ≡ Some n) × (fault ≡ Disagrees n.part n.want n.found)
some_of None fault e = absurd (ok_never_err _ _ (sym e))
some_of (Some n) fault e = (n, refl, same_err _ _ e)

pub all_agree : (r : SegRecord) (contents : Contents) → Ok tt ≡ compared (find differs (numbers_of r contents)) → find differs (numbers_of r contents) ≡ None
all_agree r contents e = none_of _ e

pub one_differs : (parts : SegParts) (r : SegRecord) (contents : Contents) (fault : SegFault) → IsRead parts r (Ok contents) → Err fault ≡ compared (find differs (numbers_of r contents)) → IsSegmentAnswer parts r (Err fault)
one_differs parts r contents fault k e =
    let x = some_of (find differs (numbers_of r contents)) fault e in
    subst (λ (f : SegFault). IsSegmentAnswer parts r (Err f)) (sym x.2) (differing parts r contents x.0 k x.1)
