-- A file of documents, as one of the framed files.
use Rattle.std.proofs.Common.{◌≡◌, ℕ, ◌^◌, ◌<◌, ◌++◌, List, [], length, refl, arith}
use Rattle.std.specs.Prelude.{codes}
use Rattle.body_forms.specs.Given.{IsFramed, index_header, with_footer, Framed}
use Rattle.body_forms.specs.File.{IsOneToOne, HasSmallBody}
use Rattle.body_forms.proofs.FileLaws.{IsFileKind, body_of, same_body, framed_file, of_each_body}
use Rattle.docs_plain.specs.Documents.{SpellsDocuments, documents_wanted}
use Rattle.docs_plain.specs.Rows.{docs_in}
use Rattle.docs_plain.proofs.BodyLaws.{one_list, one_body, reads_as_itself, IsBody}

pub documents_one_to_one : IsOneToOne SpellsDocuments
documents_one_to_one = record { one_value = one_list; one_spelling = one_body }

pub documents_kind : (id : List ℕ) → IsFileKind SpellsDocuments (documents_wanted id) id
documents_kind id = record { version = record { same = refl; small = omega arith }; one_to_one = documents_one_to_one; id_wanted = refl }

-- the body in the frame spells the documents that it is read as
pub own_docs : (a bytes : List ℕ) (frame : Framed) → a ≡ bytes → IsBody (body_of a frame) → SpellsDocuments (body_of bytes frame) (docs_in (body_of bytes frame))
own_docs a bytes frame e x = same_body (λ body. SpellsDocuments body (docs_in body)) a bytes frame e (reads_as_itself (body_of a frame) x.0 x.1)

pub file_framed : (id start head body out footed file : List ℕ) → length id ≡ 16 → start ≡ [] → head ≡ start ++ index_header (codes "NrtDocs") 1 id [] → out ≡ head ++ body
    → footed ≡ with_footer out → file ≡ footed → IsFramed (documents_wanted id) 1 id body file
file_framed id start head body out footed file len z e f g h = framed_file (documents_wanted id) id start head body out footed file (documents_kind id).version len refl z e f g h

pub small_file : (id file first : List ℕ) → IsFramed (documents_wanted id) 1 id first file → length first < 2 ^ 32 → HasSmallBody (documents_wanted id) id file
small_file id file first d h body f = of_each_body (documents_wanted id) id file first (λ body. length body < 2 ^ 32) (documents_kind id).version d h body f
