-- How steps, rows and refusals are written, in the bytes of ASCII.
use Rattle.std.specs.Prelude.{ℕ, zero, suc, cond, List, [], ◌∷◌, ◌++◌, codes, decimal}
use Rattle.ltl.specs.Steps.{has, set_of}
use Rattle.ltl.specs.declared.step.Step.{Step}
use Rattle.ltl.specs.declared.row.Row.{Row}
use Rattle.ltl.specs.declared.row.Row.TheVariants.{Signal, Not, Or, Next, Until, Eventually}
use Rattle.ltl.specs.declared.refusal.Part.{Part}
use Rattle.ltl.specs.declared.refusal.Part.TheVariants.{Sheet, Recording, Patch, Watch}
use Rattle.ltl.specs.declared.refusal.Question.{Question}
use Rattle.ltl.specs.declared.refusal.Question.TheVariants.{SheetLength, SheetBytes, FirstWord, NewName, OneFormula, SheetRows, WatchLine, SignalsBelowWidth, StepRoom, Opening, RowNumber, GridCells}
use Rattle.ltl.specs.declared.refusal.NumberedRefusal.{NumberedRefusal}
use Rattle.ltl.specs.declared.refusal.Refusal.{Refusal}
use Rattle.ltl.specs.Questions.{numbered}

-- the signals of a step among the n numbers from k on, in rising order
unfoldable pub signals_from : ℕ → ℕ → ℕ → List ℕ
signals_from zero k step = []
signals_from (suc n) k step = cond (has step k) (k ∷ signals_from n (suc k) step) (signals_from n (suc k) step)

-- numbers behind others
abbrev pub after_others : List ℕ → List ℕ
after_others [] = []
after_others (k ∷ ks) = codes ", " ++ (decimal k ++ after_others ks)

-- numbers with commas between them
abbrev pub commas : List ℕ → List ℕ
commas [] = []
commas (k ∷ ks) = decimal k ++ after_others ks

-- {0, 3}
abbrev pub shown_step : Step → List ℕ
shown_step s = codes "{" ++ (commas (signals_from 64 0 (set_of s)) ++ codes "}")

-- the operator and its operands
abbrev pub shown_row : Row → List ℕ
shown_row (Signal k) = codes "signal " ++ decimal k
shown_row (Not a) = codes "not " ++ decimal a
shown_row (Or a b) = codes "or " ++ (decimal a ++ (codes " " ++ decimal b))
shown_row (Next a) = codes "next " ++ decimal a
shown_row (Until a b) = codes "until " ++ (decimal a ++ (codes " " ++ decimal b))
shown_row (Eventually a) = codes "eventually " ++ decimal a

abbrev pub shown_part : Part → List ℕ
shown_part Sheet = codes "sheet"
shown_part Recording = codes "recording"
shown_part Patch = codes "patch"
shown_part Watch = codes "watch"

abbrev pub shown_question : Question → List ℕ
shown_question SheetLength = codes "Has the sheet at most 4,096 bytes?"
shown_question SheetBytes = codes "Is every byte 10 or from 32 to 126?"
shown_question FirstWord = codes "Is the first word a keyword, after no watch line?"
shown_question NewName = codes "Has the line a second word that is free, not reserved and at most 16 bytes long?"
shown_question OneFormula = codes "Is the rest of the line exactly one formula, or nothing on a signal line?"
shown_question SheetRows = codes "Are there at most 32 signals and 64 rows?"
shown_question WatchLine = codes "Was there a watch line?"
shown_question SignalsBelowWidth = codes "Are all signals below W?"
shown_question StepRoom = codes "Has the step room?"
shown_question Opening = codes "Is W from 1 to 32, and K at least 1?"
shown_question RowNumber = codes "Is the row below R?"
shown_question GridCells = codes "Has each grid at least R x (n + 1) cells?"

-- question 9 (recording), place 0
abbrev pub shown_numbered : NumberedRefusal → List ℕ
shown_numbered r =
    codes "question " ++ (decimal r.number ++ (codes " (" ++ (shown_part r.part ++ (codes "), place " ++ decimal r.place))))

abbrev pub shown_refusal : Refusal → List ℕ
shown_refusal r = shown_numbered (numbered r)
