-- The exit status of each end, and its text.
use Rattle.std.specs.Prelude.{ℕ, List, [], ◌++◌, codes, decimal}
use Rattle.kd_lines.specs.declared.end.End.{End}
use Rattle.kd_lines.specs.declared.end.End.TheVariants.{Done, BadWords, ReadFault, WriteFault, BadFrame, TooMuchInput, OutOfMemory, BadLine}

-- the number that the program ends with
abbrev pub exit_code : End → ℕ
exit_code Done = 0
exit_code BadWords = 2
exit_code ReadFault = 3
exit_code WriteFault = 4
exit_code (BadFrame at) = 5
exit_code TooMuchInput = 6
exit_code OutOfMemory = 7
exit_code (BadLine at) = 8

-- what the program says of it on standard error; nothing where all went well
abbrev pub end_text : End → List ℕ
end_text Done = []
end_text BadWords = codes "kd_show: usage: kd_show frames | replies | make"
end_text ReadFault = codes "kd_show: read fault"
end_text WriteFault = codes "kd_show: write fault"
end_text (BadFrame at) = codes "kd_show: no frame at byte " ++ decimal at
end_text TooMuchInput = codes "kd_show: too much input"
end_text OutOfMemory = codes "kd_show: out of memory"
end_text (BadLine at) = codes "kd_show: no frame in the line at byte " ++ decimal at
