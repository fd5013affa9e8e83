-- What files show is one segment, and what a directory stands for is one list of documents.
use Rattle.std.proofs.Common.{◌≡◌, ℕ, ◌<◌, Bool, List, [], ◌∷◌, Option, Some, None, refl, sym, ap, subst, ◌∙◌, arith}
use Rattle.std.specs.List.{AllZip}
use Rattle.nrt_base.specs.declared.doc.Doc.{Doc}
use Rattle.disk_model.specs.Disk.{Name, Content}
use Rattle.nrt_base.proofs.Plain.{cons_from}
use Rattle.segment_infos.proofs.Given.{one_value_of}
use Rattle.docs_plain.proofs.FileLaws.{documents_kind}
use Rattle.postings_plain.specs.Postings.{Entry}
use Rattle.postings_plain.specs.Body.{FormattedEntries, in_format}
use Rattle.postings_plain.proofs.FileLaws.{one_post}
use Rattle.live_bits.proofs.FileLaws.{live_kind}
use Rattle.segment_infos.specs.declared.infos.SegRecord.{SegRecord}
use Rattle.segment_infos.specs.declared.infos.Infos.{Infos}
use Rattle.seg_reader.specs.declared.parts.SegParts.{SegParts}
use Rattle.seg_reader.specs.Shown.{Shown, AreLiveDocuments}
use Rattle.seg_reader.specs.Files.{record_id, AreLiveRowsOf, IsSegmentOf}
use Rattle.seg_reader.specs.Stands.{IsLiveFileIn, ArePartsIn, IsSegmentIn, StandsFor}
use Rattle.seg_reader.proofs.SortedLists.{one_live_list}

one_live : (bytes : Option (List ℕ)) (r : SegRecord) (live other : List Bool) → AreLiveRowsOf bytes r live → AreLiveRowsOf bytes r other → live ≡ other
one_live None r live other a b = a ∙ sym b
one_live (Some bytes) r live other a b = one_value_of (live_kind (record_id r) r.live_gen) bytes live other a.0 b.0

same_shown : (docs docs2 : List Doc) (live live2 : List Bool) (es es2 : List Entry) → docs ≡ docs2 → live ≡ live2 → es ≡ es2
    → ◌≡◌ {A = Shown} (record { docs = docs; live = live; entries = es }) (record { docs = docs2; live = live2; entries = es2 })
same_shown docs docs2 live live2 es es2 a b c = cc

-- files show one segment at most
pub one_segment : (parts : SegParts) (r : SegRecord) (shown other : Shown) → IsSegmentOf parts r shown → IsSegmentOf parts r other → shown ≡ other
one_segment parts r shown other a b =
    same_shown shown.docs other.docs shown.live other.live shown.entries other.entries (one_value_of (documents_kind (record_id r)) parts.docs shown.docs other.docs a.docs b.docs)
    (one_live parts.live r shown.live other.live a.live b.live) (ap (λ (x : FormattedEntries). x.entries) (one_post (record_id r) parts.post (in_format a.format shown.entries) (in_format b.format other.entries) a.post b.post))

-- ---- directories

module _ (reads : Name → Content) where
  same_some : (x y : List ℕ) (content : Content) → content ≡ Some x → content ≡ Some y → x ≡ y
  same_some x y content e f = cc

  one_live_file : (r : SegRecord) (a b : Option (List ℕ)) → IsLiveFileIn reads r a → IsLiveFileIn reads r b → a ≡ b
  one_live_file r None None x y = refl
  one_live_file r None (Some b) x y = absurd (omega (arith, x, y.0))
  one_live_file r (Some a) None x y = absurd (omega (arith, x.0, y))
  one_live_file r (Some a) (Some b) x y = ap Some (same_some a b _ x.1 y.1)

  same_parts : (docs docs2 post post2 info info2 : List ℕ) (live live2 : Option (List ℕ)) → docs ≡ docs2 → post ≡ post2 → info ≡ info2 → live ≡ live2
      → ◌≡◌ {A = SegParts} (record { docs = docs; post = post; info = info; live = live }) (record { docs = docs2; post = post2; info = info2; live = live2 })
  same_parts docs docs2 post post2 info info2 live live2 a b c d = cc

  pub one_parts : (r : SegRecord) (a b : SegParts) → ArePartsIn reads r a → ArePartsIn reads r b → a ≡ b
  one_parts r a b x y =
      same_parts a.docs b.docs a.post b.post a.info b.info a.live b.live (same_some _ _ _ x.docs y.docs) (same_some _ _ _ x.post y.post) (same_some _ _ _ x.info y.info) (one_live_file r a.live b.live x.live y.live)

  pub one_shown : (r : SegRecord) (a b : Shown) → IsSegmentIn reads r a → IsSegmentIn reads r b → a ≡ b
  one_shown r a b x y =
      let same = one_parts r x.parts y.parts x.files y.files in
      let first : IsSegmentOf y.parts r a = subst (λ (p : SegParts). IsSegmentOf p r a) same x.segment in
      one_segment y.parts r a b first y.segment

  pub one_segs : (records : List SegRecord) (a b : List Shown) → AllZip (IsSegmentIn reads) records a → AllZip (IsSegmentIn reads) records b → a ≡ b
  one_segs [] [] [] x y = refl
  one_segs [] [] (b ∷ bs) x y = absurd y
  one_segs [] (a ∷ as') b x y = absurd x
  one_segs (r ∷ rs) [] b x y = absurd x
  one_segs (r ∷ rs) (a ∷ as') [] x y = absurd y
  one_segs (r ∷ rs) (a ∷ as') (b ∷ bs) x y = cons_from a b as' bs (one_shown r a b x.0 y.0) (one_segs rs as' bs x.1 y.1)

  -- a directory stands for one list of documents at most
  pub one_list_of_documents : (infos : Infos) (docs others : List Doc) → StandsFor reads infos docs → StandsFor reads infos others → docs ≡ others
  one_list_of_documents infos docs others a b =
      let same = one_segs infos.segs a.segs b.segs a.stands.each b.stands.each in
      one_live_list b.segs docs others b.stands.stand.apart (subst (λ (segs : List Shown). AreLiveDocuments segs docs) same a.stands.stand.documents) b.stands.stand.documents
