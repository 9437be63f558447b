-- What recording step lines leaves: the steps that the lines tell, up to the first line that tells none or is refused.
use Rattle.std.specs.Prelude.{◌≡◌, ℕ, List, [], ◌∷◌, ◌++◌, Some, None, Ok, Err, Option, Result}
use Rattle.ltl.specs.Steps.{set_of}
use Rattle.ltl.specs.declared.step.Step.{Step}
use Rattle.recorder.specs.declared.fault.RecordFault.{RecordFault}
use Rattle.sheet.specs.Parts.{Part, parts}
use Rattle.input.specs.Lines.{line_of}
use Rattle.input.specs.declared.lines.StrangeWord.{StrangeWord}
use Rattle.input.specs.declared.steps.StepFault.{StepFault}
use Rattle.input.specs.declared.steps.StepFault.TheVariants as fault

-- what a line says: nothing, a step, or a word that names no signal
abbrev pub Line : Type 0
Line = Result (Option Step) StrangeWord

-- what a line says, where `find` gives the signal of a name
abbrev pub said : (List ℕ → Option ℕ) → Part → Line
said find l = line_of find (parts 32 0 l.text)

-- the step that a line tells, if it tells one
abbrev pub step_of : Line → List ℕ
step_of (Ok None) = []
step_of (Ok (Some s)) = set_of s ∷ []
step_of (Err w) = []

-- the steps that lines tell, in order
abbrev pub steps_of : (List ℕ → Option ℕ) → List Part → List ℕ
steps_of find [] = []
steps_of find (l ∷ ls) = step_of (said find l) ++ steps_of find ls

-- a line that is blank or tells a step
abbrev pub Tells : Line → Type 0
Tells (Ok None) = Unit {0}
Tells (Ok (Some s)) = Unit {0}
Tells (Err w) = ⊥

abbrev pub AllTell : (List ℕ → Option ℕ) → List Part → Type 0
AllTell find [] = Unit {0}
AllTell find (l ∷ ls) = Tells (said find l) × AllTell find ls

-- why a line ends the recording: it has a word that names no signal, or the recorder, which answers so, refuses its step
abbrev pub Stops : (ℕ → Result ℕ RecordFault) → Line → ℕ → StepFault → Type 0
Stops answer line at (fault.Strange p w) = (p ≡ at) × (line ≡ Err w)
Stops answer line at (fault.Refused p f) = (p ≡ at) × ((s : Step) × (line ≡ Ok (Some s)) × (answer (set_of s) ≡ Err f))

-- how the recording ended, with these lines left
abbrev pub Ends : (List ℕ → Option ℕ) → (ℕ → Result ℕ RecordFault) → List Part → Result (Unit {0}) StepFault → Type 0
Ends find answer left (Ok v) = left ≡ []
Ends find answer left (Err f) = (l : Part) × ((ls : List Part) × (left ≡ l ∷ ls) × Stops answer (said find l) l.at f)

-- the first of the lines were taken, and exactly their steps were recorded; nothing else was changed
pub record Recorded (find : List ℕ → Option ℕ) (answer : ℕ → Result ℕ RecordFault) (lines : List Part) (before after : List ℕ) (r : Result (Unit {0}) StepFault) : Type 0 where
  pub taken : List Part
  pub left : List Part
  pub splits : lines ≡ taken ++ left
  pub tell : AllTell find taken
  pub steps : after ≡ before ++ steps_of find taken
  pub ends : Ends find answer left r
