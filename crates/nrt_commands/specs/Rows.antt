-- The words that the program knows.
use Rattle.std.specs.Prelude.{ℕ, ◌⊎◌, List}
use Rattle.nrt_commands.specs.Headline.{IsRun}
use Rattle.stream_commands.specs.Frames.{IsFrames}
use Rattle.stream_commands.specs.Check.{IsCheck}
use Rattle.nrt_commands.specs.Load.{IsLoad}
use Rattle.stream_commands.specs.Judge.{IsJudge}
use Rattle.stream_commands.specs.Pictures.{IsShowing}
use Rattle.nrt_commands.specs.NodeTexts.{IsImaging, IsSending}

-- the words are a row of the table: `run`, `frames`, `check`, `load N`, `judge`, `picture`, `picture svg`, `image N` or `send N`
abbrev pub IsKnownRow : List (List ℕ) → Type 0
IsKnownRow words = IsRun words ⊎ (IsFrames words ⊎ (IsCheck words ⊎ (IsLoad words ⊎ (IsJudge words ⊎ (IsShowing words ⊎ (IsImaging words ⊎ IsSending words))))))
