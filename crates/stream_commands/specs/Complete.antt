-- When the program does all that it was asked for: source and sink did not fail, and what the source has left is as it should be.
use Rattle.std.specs.Prelude.{ℕ, ◌≡◌, ◌≤◌, ◌⊎◌, List, [], length, Option, Some}
use Rattle.script_serving.specs.declared.script.Script.{Script}
use Rattle.script_text.specs.Grammar.{SpellsScript}
use Rattle.wire_frames.specs.declared.message.Message.{Message}
use Rattle.wire_frames.specs.Streams.{AreMessagesOf}
use Rattle.index_check.specs.Images.{NamedFile, IsImageOf}
use Rattle.stream_commands.specs.declared.status.Status.{Status}
use Rattle.stream_commands.specs.declared.status.Status.TheVariants.{Done, Memory, BadIndex}
use Rattle.stream_commands.specs.Reads.{longest}

-- no read failed, and no write
pub record NoneFailed (reads_before reads_after writes_before writes_after : ℕ) : Type 0 where
  pub read : reads_after ≡ reads_before
  pub written : writes_after ≡ writes_before

-- a source has these bytes left, no more than are read
pub record Offers (left : Option (List ℕ)) (bytes : List ℕ) : Type 0 where
  pub is : left ≡ Some bytes
  pub within : length bytes ≤ longest

-- a source has a script left
pub record OffersScript (left : Option (List ℕ)) : Type 0 where
  pub bytes : List ℕ
  pub offered : Offers left bytes
  pub script : Script
  pub grammar : SpellsScript bytes script

-- a source has a stream of whole messages left
pub record OffersMessages (left : Option (List ℕ)) : Type 0 where
  pub bytes : List ℕ
  pub offered : Offers left bytes
  pub messages : List Message
  pub are : AreMessagesOf bytes messages []

-- a source has the image of a directory left
pub record OffersImage (left : Option (List ℕ)) : Type 0 where
  pub bytes : List ℕ
  pub offered : Offers left bytes
  pub files : List NamedFile
  pub image : IsImageOf bytes files

-- all was done, or memory ran out
abbrev pub IsDoneOrMemory : Status → Type 0
IsDoneOrMemory answer = (answer ≡ Done) ⊎ (answer ≡ Memory)

-- the directory was checked: it is right, or something is wrong with it; or memory ran out
abbrev pub IsCheckedOrMemory : Status → Type 0
IsCheckedOrMemory answer = (answer ≡ BadIndex) ⊎ IsDoneOrMemory answer
