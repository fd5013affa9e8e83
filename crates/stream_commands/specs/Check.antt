-- What the program promises of the image of a directory.
use Rattle.std.specs.Prelude.{ℕ, ◌≡◌, ◌⊎◌, List, [], ◌∷◌, take, codes, Option, None, IsSome}
use Rattle.std.specs.Io.KnownBytes.{Appends}
use Rattle.index_check.specs.Images.{IsNoImage}
use Rattle.index_check.specs.declared.checking.Checked.{Checked}
use Rattle.index_check.specs.Checks.{IsCheckOfImage}
use Rattle.stream_commands.specs.declared.status.Status.{Status}
use Rattle.stream_commands.specs.declared.status.Status.TheVariants.{Done, WriteFault, BadIndex, BadImage}
use Rattle.stream_commands.specs.Reads.{ReadWhole}

-- the row of words: `check`
abbrev pub IsCheck : List (List ℕ) → Type 0
IsCheck words = words ≡ codes "check" ∷ []

-- the bytes are the image of a directory that is right, and the sink gained the line of its check
pub record TellsRight (bytes : List ℕ) (before after : Option (List ℕ)) : Type 0 where
  pub checked : Checked
  pub is : IsCheckOfImage bytes checked
  pub right : checked.fault ≡ None
  pub written : Appends before after checked.line

-- the bytes are the image of a directory with which something is wrong, and the sink gained the line of its check
pub record TellsWrong (bytes : List ℕ) (before after : Option (List ℕ)) : Type 0 where
  pub checked : Checked
  pub is : IsCheckOfImage bytes checked
  pub wrong : IsSome checked.fault
  pub written : Appends before after checked.line

-- the bytes are the image of a directory, and the sink gained the front of the line of its check
pub record TellsInPart (bytes : List ℕ) (before after : Option (List ℕ)) : Type 0 where
  pub checked : Checked
  pub is : IsCheckOfImage bytes checked
  pub front : ℕ
  pub written : Appends before after (take front checked.line)

-- the answer to these bytes: that they are no image, or that their directory is right, or that it is not
pub record IsCheckAnswer (bytes : List ℕ) (answer : Status) : Type 0 where
  pub none : IsNoImage bytes → answer ≡ BadImage
  pub right : (checked : Checked) → IsCheckOfImage bytes checked → checked.fault ≡ None → (answer ≡ Done) ⊎ (answer ≡ WriteFault)
  pub wrong : (checked : Checked) → IsCheckOfImage bytes checked → IsSome checked.fault → (answer ≡ BadIndex) ⊎ (answer ≡ WriteFault)

-- the source was read to its end, what it gave is the image of a directory that is right, and the sink gained the line of its check
pub record RanCheck (left_before left_after held_before held_after : Option (List ℕ)) : Type 0 where
  pub bytes : List ℕ
  pub read : ReadWhole left_before left_after bytes
  pub tells : TellsRight bytes held_before held_after

-- the source was read to its end, what it gave is the image of a directory with which something is wrong, and the sink gained the line
pub record FoundWrong (left_before left_after held_before held_after : Option (List ℕ)) : Type 0 where
  pub bytes : List ℕ
  pub read : ReadWhole left_before left_after bytes
  pub tells : TellsWrong bytes held_before held_after

-- the source was read to its end, what it gave is the image of a directory, and the sink gained the front of the line
pub record RanCheckInPart (left_before left_after held_before held_after : Option (List ℕ)) : Type 0 where
  pub bytes : List ℕ
  pub read : ReadWhole left_before left_after bytes
  pub tells : TellsInPart bytes held_before held_after

-- the source was read to its end, and what it gave is no image
pub record GaveNoImage (before after : Option (List ℕ)) : Type 0 where
  pub bytes : List ℕ
  pub read : ReadWhole before after bytes
  pub none : IsNoImage bytes

-- the source was read to its end, and this is the answer to what it gave
pub record AnswersCheck (before after : Option (List ℕ)) (answer : Status) : Type 0 where
  pub bytes : List ℕ
  pub read : ReadWhole before after bytes
  pub given : IsCheckAnswer bytes answer
