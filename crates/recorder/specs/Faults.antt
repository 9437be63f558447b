-- The question and place of each refusal, and its words.
use Rattle.std.specs.Prelude.{ℕ, List, codes}
use Rattle.ltl.specs.declared.refusal.Question.{Question}
use Rattle.ltl.specs.declared.refusal.Question.TheVariants.{SignalsBelowWidth, StepRoom, Opening}
use Rattle.ltl.specs.declared.refusal.Refusal.{Refusal}
use Rattle.recorder.specs.declared.fault.RecordFault.{RecordFault}
use Rattle.recorder.specs.declared.fault.RecordFault.TheVariants.{ForeignSignal, NoRoom}
use Rattle.recorder.specs.declared.fault.OpenFault.{OpenFault}
use Rattle.recorder.specs.declared.fault.OpenFault.TheVariants.{Width, Memory}

abbrev pub of_recording : Question → Refusal
of_recording question = record { question = question; place = 0 }

-- 8: are all signals below W? 9: has the step room?
abbrev pub record_refusal : RecordFault → Refusal
record_refusal ForeignSignal = of_recording SignalsBelowWidth
record_refusal NoRoom = of_recording StepRoom

-- 10: is W from 1 to 32 and K at least 1?
abbrev pub open_refusal : OpenFault → Refusal
open_refusal Width = of_recording Opening
open_refusal Memory = of_recording Opening

abbrev pub shown_record_fault : RecordFault → List ℕ
shown_record_fault ForeignSignal = codes "a signal is not below the width"
shown_record_fault NoRoom = codes "the step has no room"

abbrev pub shown_open_fault : OpenFault → List ℕ
shown_open_fault Width = codes "the width is not from 1 to 32"
shown_open_fault Memory = codes "the memory has room for no step"
