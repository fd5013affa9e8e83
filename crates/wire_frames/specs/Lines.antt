-- The text of messages: a line for each.
use Rattle.std.specs.Prelude.{ℕ, List, [], ◌∷◌, ◌++◌, length, codes}
use Rattle.std.specs.Fmt.{decimal}
use Rattle.wire_frames.specs.declared.message.Message.{Message}
use Rattle.wire_frames.specs.declared.message.Message.TheVariants.{Notice, State, File, Completed, Chunk}

-- a word behind a space
abbrev pub spaced : List ℕ → List ℕ
spaced word = 32 ∷ word

-- what the line of a message says: what it is, and its numbers and its name
abbrev pub message_words : Message → List ℕ
message_words (Notice generation version) = codes "notice" ++ (spaced (decimal generation.0) ++ spaced (decimal version.0))
message_words (State version generation primary_gen files completed infos) =
    codes "state" ++ ((spaced (decimal version.0) ++ spaced (decimal generation)) ++ (spaced (decimal primary_gen.0)
    ++ (spaced (decimal files) ++ spaced (decimal completed))))
message_words (File name meta) = (codes "file" ++ spaced name) ++ spaced (decimal meta.length)
message_words (Completed name) = codes "completed" ++ spaced name
message_words (Chunk name at bytes) = (codes "chunk" ++ spaced name) ++ (spaced (decimal at) ++ spaced (decimal (length bytes)))

-- the line of a message
abbrev pub message_line : Message → List ℕ
message_line m = message_words m ++ 10 ∷ []
