-- The exit status of each end, and its text.
use Rattle.std.specs.Prelude.{ℕ, List, [], ◌++◌, codes, decimal}
use Rattle.kd_types.specs.declared.status.Status.{Status}
use Rattle.kd_types.specs.declared.status.Status.TheVariants.{
  Done,
  BadWords,
  ReadFault,
  WriteFault,
  BadFrame,
  TooMuchInput,
  OutOfMemory,
  NoWorker,
  ListenFault,
  BadConfig,
  BadTrace,
}

-- the number that the program ends with
abbrev pub exit_code : Status → ℕ
exit_code Done = 0
exit_code BadWords = 2
exit_code ReadFault = 3
exit_code WriteFault = 4
exit_code (BadFrame at) = 5
exit_code TooMuchInput = 6
exit_code OutOfMemory = 7
exit_code NoWorker = 8
exit_code ListenFault = 9
exit_code (BadConfig at) = 10
exit_code (BadTrace at) = 11

-- what the program says of it on standard error; nothing where all went well
abbrev pub status_text : Status → List ℕ
status_text Done = []
status_text BadWords =
    codes "kdbusd: usage: kdbusd replay | serve FILE | storm SEED K N | record | check"
status_text ReadFault = codes "kdbusd: read fault"
status_text WriteFault = codes "kdbusd: write fault"
status_text (BadFrame at) = codes "kdbusd: bad frame at byte " ++ decimal at
status_text TooMuchInput = codes "kdbusd: too much input"
status_text OutOfMemory = codes "kdbusd: out of memory"
status_text NoWorker = codes "kdbusd: no worker"
status_text ListenFault = codes "kdbusd: listen fault"
status_text (BadConfig at) = codes "kdbusd: bad configuration at byte " ++ decimal at
status_text (BadTrace at) = codes "kdbusd: bad trace at byte " ++ decimal at
