-- The rows of a segment that a cursor answers, and how often its words and phrases stand in them.
use Rattle.std.specs.Prelude.{ℕ, ◌+◌, Bool, true, false, ◌&&◌, ◌||◌, not, Option, Some, None}
use Rattle.query_eval.specs.declared.cursor.Cursor.{Cursor}
use Rattle.query_eval.specs.declared.cursor.Cursor.TheVariants.{Nothing, Every, Word, Phrase, Both', Either', Rest'}
use Rattle.query_eval.specs.Phrases.{phrase_in, phrase_times}
use Rattle.query_eval.specs.Rows.{has_row_at, times_at}

-- a cursor answers the row
abbrev pub answers : Cursor → ℕ → Bool
answers Nothing row = false
answers Every row = true
answers (Word rows) row = has_row_at rows row
answers (Phrase words) row = phrase_in words.items row
answers (Both' p first q second) row = answers first row && answers second row
answers (Either' p first q second) row = answers first row || answers second row
answers (Rest' p part) row = not (answers part row)

-- a cursor, or none, which leaves each row to the others
abbrev pub all_answer : Option Cursor → ℕ → Bool
all_answer None row = true
all_answer (Some cursor) row = answers cursor row

-- a cursor, or none, which answers no row
abbrev pub any_answers : Option Cursor → ℕ → Bool
any_answers None row = false
any_answers (Some cursor) row = answers cursor row

-- how often the words and phrases stand in the row, but for those that are not to match
abbrev pub rank_in : Cursor → ℕ → ℕ
rank_in Nothing row = 0
rank_in Every row = 0
rank_in (Word rows) row = times_at rows row
rank_in (Phrase words) row = phrase_times words.items row
rank_in (Both' p first q second) row = rank_in first row + rank_in second row
rank_in (Either' p first q second) row = rank_in first row + rank_in second row
rank_in (Rest' p part) row = 0

-- those of a cursor, or of none
abbrev pub rank_of_any : Option Cursor → ℕ → ℕ
rank_of_any None row = 0
rank_of_any (Some cursor) row = rank_in cursor row

-- how many cursors have parts: as many after a move as before
abbrev pub parted : Cursor → ℕ
parted Nothing = 0
parted Every = 0
parted (Word rows) = 0
parted (Phrase words) = 0
parted (Both' p first q second) = 1 + (parted first + parted second)
parted (Either' p first q second) = 1 + (parted first + parted second)
parted (Rest' p part) = 1 + parted part
