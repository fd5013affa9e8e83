-- A segment that is read from the files that were built.
use Rattle.std.proofs.Common.{◌≡◌, List, Bool, Ok, Err, inl, inr, sym, subst}
use Rattle.nrt_base.specs.declared.doc.Doc.{Doc}
use Rattle.segment_infos.specs.declared.infos.SegRecord.{SegRecord}
use Rattle.seg_reader.specs.declared.parts.SegParts.{SegParts}
use Rattle.seg_reader.specs.declared.parts.SegFault.{SegFault}
use Rattle.seg_reader.specs.declared.parts.SegFault.TheVariants.{Memory}
use Rattle.seg_reader.specs.Shown.{Shown}
use Rattle.seg_reader.specs.Files.{IsSegmentOf}
use Rattle.seg_reader.specs.Reading.{IsOr}
use Rattle.seg_build.specs.Built.{File, shown_as, IsReadAs, IsBuilt}

answered : (read shown : Shown) → IsOr {X = Shown} (Ok read) (Ok shown) → read ≡ shown
answered read shown (inl none) = cc
answered read shown (inr is) = cc

-- what is read from the parts that were built, under the record, is what was built
pub what_is_read : (r s : SegRecord) (parts : SegParts) (files : List File) (docs : List Doc) (rows : List Bool) (read : Shown) → s ≡ r → (b : IsBuilt r files docs rows) → parts ≡ b.parts
    → ((shown : Shown) → IsSegmentOf parts s shown → IsOr {X = Shown} (Ok read) (Ok shown)) → (x : IsReadAs s parts docs rows) × (read ≡ shown_as docs rows x.entries)
what_is_read r s parts files docs rows read e b same each =
    let x = subst (λ (k : SegRecord). IsReadAs k parts docs rows) (sym e) (subst (λ (p : SegParts). IsReadAs r p docs rows) (sym same) b.reads) in
    (x, answered read (shown_as docs rows x.entries) (each (shown_as docs rows x.entries) x.segment))

refused : (fault : SegFault) (shown : Shown) → IsOr {X = Shown} (Err fault) (Ok shown) → fault ≡ Memory
refused fault shown (inl is) = cc
refused fault shown (inr none) = absurd (cc)

-- where it is not read, memory was wanting
pub why_unread : (r s : SegRecord) (parts : SegParts) (files : List File) (docs : List Doc) (rows : List Bool) (fault : SegFault) → s ≡ r → (b : IsBuilt r files docs rows) → parts ≡ b.parts
    → ((shown : Shown) → IsSegmentOf parts s shown → IsOr {X = Shown} (Err fault) (Ok shown)) → fault ≡ Memory
why_unread r s parts files docs rows fault e b same each =
    let x = subst (λ (k : SegRecord). IsReadAs k parts docs rows) (sym e) (subst (λ (p : SegParts). IsReadAs r p docs rows) (sym same) b.reads) in
    refused fault (shown_as docs rows x.entries) (each (shown_as docs rows x.entries) x.segment)
