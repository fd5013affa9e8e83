-- The body of postings, their file, and what is asked of them.
use Rattle.std.specs.Prelude.{◌≡◌, ◌↔◌, ℕ, ◌+◌, ◌<◌, List, [], ◌∷◌, length, map, codes, Some, Result, Ok, Err}
use Rattle.std.specs.List.{All, AllPairs, Any, Contains}
use Rattle.std.specs.Cmp.Lexicographic.{slice_cmp}
use Rattle.std.specs.Ordering.{nat_cmp}
use Rattle.std.specs.declared.cmp.Ordering.{Ordering}
use Rattle.std.specs.declared.cmp.Ordering.TheVariants.{Less}
use Rattle.body_forms.specs.ItemTable.{IsItemTable}
use Rattle.body_forms.specs.File.{IsFile}
use Rattle.codec_frame.specs.Frame.{Wanted, IsFramedAs}
use Rattle.codec_frame.specs.Checking.{IsFirstFault}
use Rattle.codec_frame.specs.declared.frame.FrameFault.{FrameFault}
use Rattle.codec_frame.specs.declared.frame.FileFault.{FileFault}
use Rattle.codec_frame.specs.declared.frame.FileFault.TheVariants.{Frame, Body}
use Rattle.postings_plain.specs.declared.format.Format.{Format}
use Rattle.postings_plain.specs.Postings.{Hit, row_of, Entry, field_of, term_of, hits_of, format_number, entry, IsFileEntry}

-- what an entry is found by: its field, then the bytes of its term
abbrev pub heading_of : Entry → List ℕ
heading_of e = field_of e ∷ term_of e

-- headings stand in order by field, then by the bytes of the term
abbrev pub heading_order : List ℕ → List ℕ → Ordering
heading_order a b = slice_cmp nat_cmp a b

abbrev pub IsBefore : Entry → Entry → Type 0
IsBefore e f = heading_order (heading_of e) (heading_of f) ≡ Less

-- the bytes are the body of these entries in this format: a table of them, in ascending order, at least one
pub record SpellsPostings (format : Format) (body : List ℕ) (es : List Entry) : Type 0 where
  pub some : 0 < length es
  pub fit : All (IsFileEntry format) es
  pub ascend : AllPairs IsBefore es
  pub table : IsItemTable body (map (entry format) es)

-- what is wanted of a file of postings, where these are the least and the greatest version
abbrev pub versions_wanted : (min max : ℕ) (id : List ℕ) → Wanted
versions_wanted min max id = record { name = codes "NrtPostings"; min = min; max = max; id = Some id; suffix = [] }

-- what is wanted of a file of postings, in either format
abbrev pub postings_wanted : List ℕ → Wanted
postings_wanted id = versions_wanted 1 2 id

-- what is wanted of a file of postings in this format
abbrev pub format_wanted : Format → List ℕ → Wanted
format_wanted format id = versions_wanted (format_number format) (format_number format) id

-- what a file of postings says: the format that it is in, and its entries
pub record FormattedEntries : Type 0 where
  pub format : Format
  pub entries : List Entry

-- entries in a format
abbrev pub in_format : Format → List Entry → FormattedEntries
in_format format es = record { format = format; entries = es }

-- the bytes are the file of these entries in their format: their body, framed with the format's number as the version
abbrev pub IsPostingsFile : List ℕ → FormattedEntries → List ℕ → Type 0
IsPostingsFile id post bytes = IsFile (SpellsPostings post.format) (format_wanted post.format id) id post.entries bytes

-- Reading a file of postings, which takes no memory: what is answered is exactly what the file says; the frame's first fault is
-- told exactly; and exactly that the body is at fault.
pub record IsPostingsRead (id bytes : List ℕ) (result : Result FormattedEntries FileFault) : Type 0 where
  pub value : (post : FormattedEntries) → (result ≡ Ok post) ↔ IsPostingsFile id post bytes
  pub frame : (fault : FrameFault) → (result ≡ Err (Frame fault)) ↔ IsFirstFault (postings_wanted id) bytes fault
  pub body : (result ≡ Err Body) ↔ (IsFramedAs (postings_wanted id) bytes × ((post : FormattedEntries) → IsPostingsFile id post bytes → ⊥))

-- among the entries is the one of this field and this term, and it has these hits
abbrev pub HasEntry : List Entry → (field : ℕ) (term : List ℕ) → List Hit → Type 0
HasEntry es field term hits = Contains es (field, (term, hits))

-- no entry is of this field and this term
abbrev pub HasNoEntry : List Entry → (field : ℕ) (term : List ℕ) → Type 0
HasNoEntry es field term = (hits : List Hit) → HasEntry es field term hits → ⊥

-- n is one above the greatest row that a hit has
pub record IsRowCount (es : List Entry) (n : ℕ) : Type 0 where
  pub below : All (λ e. All (λ h. row_of h < n) (hits_of e)) es
  pub greatest : Any (λ e. Any (λ h. row_of h + 1 ≡ n) (hits_of e)) es
