-- The step lines that were taken so far.
use Rattle.std.proofs.Common.{◌≡◌, ℕ, List, [], ◌∷◌, ◌++◌, Ok, Err, Option, Result, sym, refl, ap, ◌∙◌, append_assoc, append-nil}
use Rattle.recorder.specs.declared.fault.RecordFault.{RecordFault}
use Rattle.sheet.specs.Parts.{Part}
use Rattle.input.specs.Recorded.{said, step_of, steps_of, Tells, AllTell, Stops, Recorded}
use Rattle.input.specs.declared.steps.StepFault.{StepFault}

pub record SoFar (find : List ℕ → Option ℕ) (lines left : List Part) (before after : List ℕ) : Type 0 where
  pub taken : List Part
  pub splits : lines ≡ taken ++ left
  pub tell : AllTell find taken
  pub steps : after ≡ before ++ steps_of find taken

module _ (find : List ℕ → Option ℕ) where
  steps_more : (xs : List Part) (l : Part) → steps_of find (xs ++ l ∷ []) ≡ steps_of find xs ++ step_of (said find l)
  steps_more [] l = append-nil (step_of (said find l))
  steps_more (x ∷ xs) l = ap (λ s. step_of (said find x) ++ s) (steps_more xs l) ∙ sym (append_assoc (step_of (said find x)) (steps_of find xs) (step_of (said find l)))

  tell_more : (xs : List Part) (l : Part) → AllTell find xs → Tells (said find l) → AllTell find (xs ++ l ∷ [])
  tell_more [] l a t = (t, tt)
  tell_more (x ∷ xs) l a t = (a.0, tell_more xs l a.1 t)

  pub none_taken : (lines : List Part) (before : List ℕ) → SoFar find lines lines before before
  none_taken lines before = record { taken = []; splits = refl; tell = tt; steps = sym (append-nil before) }

  pub one_taken : (lines left : List Part) (before after after' : List ℕ) (l : Part) (more : List Part) → SoFar find lines left before after → left ≡ l ∷ more → Tells (said find l) → after' ≡ after ++ step_of (said find l) → SoFar find lines more before after'
  one_taken lines left before after after' l more s cut t e = record {
    taken = s.taken ++ l ∷ [];
    splits = s.splits ∙ ap (λ x. s.taken ++ x) cut ∙ sym (append_assoc s.taken (l ∷ []) more);
    tell = tell_more s.taken l s.tell t;
    steps = e ∙ ap (λ x. x ++ step_of (said find l)) s.steps ∙ append_assoc before (steps_of find s.taken) (step_of (said find l)) ∙ ap (λ x. before ++ x) (sym (steps_more s.taken l));
  }

  pub all_taken : (answer : ℕ → Result ℕ RecordFault) (lines left : List Part) (before after : List ℕ) → SoFar find lines left before after → left ≡ [] → Recorded find answer lines before after (Ok tt)
  all_taken answer lines left before after s e = record { taken = s.taken; left = left; splits = s.splits; tell = s.tell; steps = s.steps; ends = e }

  pub stopped : (answer : ℕ → Result ℕ RecordFault) (lines left : List Part) (before after after' : List ℕ) (l : Part) (more : List Part) (f : StepFault) → SoFar find lines left before after → left ≡ l ∷ more → after' ≡ after → Stops answer (said find l) l.at f → Recorded find answer lines before after' (Err f)
  stopped answer lines left before after after' l more f s cut e stops = record {
    taken = s.taken;
    left = left;
    splits = s.splits;
    tell = s.tell;
    steps = e ∙ s.steps;
    ends = (l, (more, cut, stops));
  }
