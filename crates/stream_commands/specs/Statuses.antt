-- The numbers that the program ends with, and those of the causes that it names.
use Rattle.std.specs.Prelude.{ℕ}
use Rattle.script_text.specs.declared.fault.LineFault.{LineFault}
use Rattle.script_text.specs.declared.fault.LineFault.TheVariants.{NoNodes, Word, Count, Range, Query, Text}
use Rattle.stream_commands.specs.declared.status.Status.{Status}
use Rattle.stream_commands.specs.declared.status.Status.TheVariants.{Done, Usage, BadScript, ReadFault, WriteFault, Memory, TooLarge, BadIndex, BadImage, BadStream, BadReport, NoSuchNode, NoCopy}

-- the exit status of an answer
abbrev pub exit_status : Status → ℕ
exit_status Done = 0
exit_status Usage = 2
exit_status (BadScript n cause) = 3
exit_status ReadFault = 4
exit_status WriteFault = 5
exit_status Memory = 6
exit_status TooLarge = 7
exit_status BadIndex = 8
exit_status BadImage = 9
exit_status (BadStream k) = 10
exit_status BadReport = 11
exit_status NoSuchNode = 12
exit_status NoCopy = 13

-- the number of the cause for which a line is refused
abbrev pub cause_number : LineFault → ℕ
cause_number NoNodes = 1
cause_number Word = 2
cause_number Count = 3
cause_number Range = 4
cause_number (Query fault) = 5
cause_number Text = 6
