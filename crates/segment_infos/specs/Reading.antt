-- How the fronts of bodies are read, and what reading a file of infos is to answer.
use Rattle.std.specs.Prelude.{◌≡◌, ℕ, ◌&&◌, ◌||◌, ◌==◌, ◌↔◌, nat_lt, nat_le, Bool, List, [], ◌∷◌, Option, Some, None, Result, Err, IfOk, if◌then◌else◌}
use Rattle.body_forms.specs.Given.{IsFramed, IsFirstFault, FrameFault, Frame, Body}
use Rattle.body_forms.specs.Format.{Read, ◌>>=◌, then_at, chain_at}
use Rattle.body_forms.specs.Numbers.{u32_at, u64_at}
use Rattle.segment_infos.specs.declared.info.SegInfo.{SegInfo}
use Rattle.segment_infos.specs.declared.infos.SegRecord.{SegRecord}
use Rattle.segment_infos.specs.declared.infos.Infos.{Infos}
use Rattle.segment_infos.specs.declared.reading.Head.{Head}
use Rattle.body_forms.specs.declared.read_fault.ReadFault.{ReadFault}
use Rattle.body_forms.specs.declared.read_fault.ReadFault.TheVariants.{File}
use Rattle.segment_infos.specs.Infos.{infos_wanted, IsInfosFile, IsOfNoInfos}

-- an info has a row, and its format is 1 or 2
abbrev pub is_info : (rows format : ℕ) → Bool
is_info rows format = nat_lt 0 rows && (nat_le 1 format && nat_le format 2)

-- what a segment's number, its rows and the bytes after them say of it: these are its format alone
abbrev pub info_from : (seg rows : ℕ) → List ℕ → Option SegInfo
info_from seg rows [] = None
info_from seg rows (format ∷ []) = if is_info rows format then Some (record { seg = record { 0 = seg }; rows = rows; format = format }) else None
info_from seg rows (format ∷ next ∷ rest) = None

-- what a whole body says of a segment, or nothing where it is not the body of an info file
unfoldable pub info_in : List ℕ → Option SegInfo
info_in body = u64_at body >>= λ seg. u32_at seg.1 >>= λ rows. info_from seg.0 rows.0 rows.1

-- the four numbers of a head, or of a record
abbrev pub Four : Type 0
Four = ℕ × (ℕ × (ℕ × ℕ))

-- the head of these numbers
abbrev pub head_from : Four → Head
head_from p = record { generation = record { 0 = p.0 }; version = record { 0 = p.1.0 }; counter = p.1.1.0; count = p.1.1.1 }

-- generation and version count from 1, and at most 256 segments follow
abbrev pub is_head : Head → Bool
is_head head = nat_lt 0 head.generation.0 && (nat_lt 0 head.version.0 && nat_le head.count 256)

-- the fields of infos before the segments, and how many segments follow
unfoldable pub head_at : List ℕ → Read Head
head_at bytes = then_at u64_at (λ _. then_at u64_at (λ _. then_at u32_at (λ _. u32_at))) bytes >>= λ x. if is_head (head_from x.0) then Some (head_from x.0, x.1) else None

-- the record of these numbers
abbrev pub record_from : Four → SegRecord
record_from p = record { seg = record { 0 = p.0 }; rows = p.1.0; live_gen = p.1.1.0; live = p.1.1.1 }

-- all rows are live, or fewer are and there is a live file
abbrev pub is_record : SegRecord → Bool
is_record r = (r.live == r.rows) || (nat_lt r.live r.rows && nat_lt 0 r.live_gen)

-- the record of a segment
unfoldable pub record_at : List ℕ → Read SegRecord
record_at bytes = then_at u64_at (λ _. then_at u32_at (λ _. then_at u64_at (λ _. u32_at))) bytes >>= λ x. if is_record (record_from x.0) then Some (record_from x.0, x.1) else None

-- so many records one after the other
unfoldable pub records_at : ℕ → List ℕ → Read (List SegRecord)
records_at count bytes = chain_at (λ (_ : Unit {0}). record_at) (λ _. tt) count tt bytes

-- what reading a file of infos is to answer, unless memory runs out
pub record IsDecoded (bytes : List ℕ) (result : Result Infos ReadFault) : Type 0 where
  pub value : IfOk result (λ infos. IsInfosFile infos bytes)
  pub frame : (fault : FrameFault) → (result ≡ Err (File (Frame fault))) ↔ IsFirstFault infos_wanted bytes fault
  pub unframed : (fault : FrameFault) → result ≡ Err (File (Frame fault)) → (version : ℕ) (id body : List ℕ) → IsFramed infos_wanted version id body bytes → ⊥
  pub body : result ≡ Err (File Body) → IsOfNoInfos bytes
