-- Files: the body of a value, framed.
use Rattle.std.specs.Prelude.{◌≡◌, ◌↔◌, ◌<◌, ◌^◌, ℕ, List, ◌++◌, length, Result, Ok, Err, IfOk}
use Rattle.codec_frame.specs.Frame.{Wanted, IsFramed, IsFramedAs}
use Rattle.codec_frame.specs.Checking.{IsFirstFault}
use Rattle.codec_frame.specs.declared.frame.FrameFault.{FrameFault}
use Rattle.codec_frame.specs.declared.frame.FileFault.{FileFault}
use Rattle.codec_frame.specs.declared.frame.FileFault.TheVariants.{Frame, Body}

-- the bytes are the file of a value with this id: a body that spells the value, framed as wanted
pub record IsFile {X : Type 0} (Spells : List ℕ → X → Type 0) (want : Wanted) (id : List ℕ) (x : X) (bytes : List ℕ) : Type 0 where
  pub body : List ℕ
  pub framed : IsFramed want want.min id body bytes
  pub spelled : Spells body x

-- bytes spell one value, and a value has one spelling
pub record IsOneToOne {X : Type 0} (Spells : List ℕ → X → Type 0) : Type 0 where
  pub one_value : (bytes : List ℕ) (x y : X) → Spells bytes x → Spells bytes y → x ≡ y
  pub one_spelling : (a b : List ℕ) (x : X) → Spells a x → Spells b x → a ≡ b

-- the bytes are framed as wanted, and their body spells no value that has their id
abbrev pub IsOfNoValue : {X : Type 0} → (List ℕ → X → Type 0) → Wanted → (X → List ℕ) → List ℕ → Type 0
IsOfNoValue {X} Spells want ids bytes = IsFramedAs want bytes × ((x : X) → IsFile Spells want (ids x) x bytes → ⊥)

-- A reader that may be out of memory: what it answers is the file's value, it tells exactly the frame's first fault, and
-- exactly that the body is at fault. `ids` gives each value the id of its file, and `told` each fault the reader's error.
pub record IsFileAnswer {X E : Type 0} (Spells : List ℕ → X → Type 0) (want : Wanted) (ids : X → List ℕ) (told : FileFault → E) (bytes : List ℕ) (result : Result X E) : Type 0 where
  pub value : IfOk result (λ x. IsFile Spells want (ids x) x bytes)
  pub frame : (fault : FrameFault) → (result ≡ Err (told (Frame fault))) ↔ IsFirstFault want bytes fault
  pub body : (result ≡ Err (told Body)) ↔ IsOfNoValue Spells want ids bytes

-- A reader that takes no memory: it answers a value exactly where the bytes are its file, and tells exactly the frame's
-- first fault, and exactly that the body is at fault. The id is given.
pub record IsFileRead {X : Type 0} (Spells : List ℕ → X → Type 0) (want : Wanted) (id : List ℕ) (bytes : List ℕ) (result : Result X FileFault) : Type 0 where
  pub value : (x : X) → (result ≡ Ok x) ↔ IsFile Spells want id x bytes
  pub frame : (fault : FrameFault) → (result ≡ Err (Frame fault)) ↔ IsFirstFault want bytes fault
  pub body : (result ≡ Err Body) ↔ IsOfNoValue Spells want (λ _. id) bytes

-- the body of the file with this id has fewer than 2^32 bytes
abbrev pub HasSmallBody : Wanted → List ℕ → List ℕ → Type 0
HasSmallBody want id bytes = (body : List ℕ) → IsFramed want want.min id body bytes → length body < 2 ^ 32

-- bytes that spell the value were added
pub record AddsSpelling {X : Type 0} (Spells : List ℕ → X → Type 0) (x : X) (old new : List ℕ) : Type 0 where
  pub body : List ℕ
  pub added : new ≡ old ++ body
  pub spelled : Spells body x
