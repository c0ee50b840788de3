-- What is written of a verdict.
use Rattle.std.specs.Prelude.{ℕ, List, ◌++◌, codes, decimal}
use Rattle.kd_trace.specs.declared.verdict.Verdict.{Verdict}
use Rattle.kd_trace.specs.declared.verdict.Verdict.TheVariants.{Yes, No}

-- in words
abbrev pub verdict_text : Verdict → List ℕ
verdict_text Yes = codes "yes"
verdict_text (No index at) = codes "no " ++ decimal index ++ codes " " ++ decimal at

-- as a line
abbrev pub verdict_line : Verdict → List ℕ
verdict_line v = verdict_text v ++ codes "\n"
