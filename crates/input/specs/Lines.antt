-- What a step line says, by its words.
use Rattle.std.specs.Prelude.{◌≡◌, ℕ, ◌^◌, true, false, cond, ◌⊎◌, ◌↔◌, List, [], ◌∷◌, Some, None, Ok, Err, codes, Option, Result, bit_or}
use Rattle.ltl.specs.Steps.{has, set_of, step_from}
use Rattle.ltl.specs.declared.step.Step.{Step}
use Rattle.sheet.specs.Parts.{Part}
use Rattle.input.specs.Splits.{none, only}
use Rattle.input.specs.declared.lines.StrangeWord.{StrangeWord}

-- one signal more, or the offset of a word that names none
abbrev pub one_more : Option ℕ → ℕ → (ℕ → Result ℕ ℕ) → Result ℕ ℕ
one_more None at go_on = Err at
one_more (Some k) at go_on = go_on k

-- the set s with the signals that the words name, or the offset of the first word that names none;
-- `find` gives the signal of a name
abbrev pub with_named : (List ℕ → Option ℕ) → ℕ → List Part → Result ℕ ℕ
with_named find s [] = Ok s
with_named find s (w ∷ ws) = one_more (find w.text) w.at (λ k. with_named find (bit_or s (2 ^ k)) ws)

abbrev pub told : Result ℕ ℕ → Result Step StrangeWord
told (Ok s) = Ok (step_from s)
told (Err at) = Err (record { at = at })

-- the step that a line tells
abbrev pub telling : Result Step StrangeWord → Result (Option Step) StrangeWord
telling (Ok s) = Ok (Some s)
telling (Err w) = Err w

-- no word; `-` alone; or the names of signals
abbrev pub line_of : (List ℕ → Option ℕ) → List Part → Result (Option Step) StrangeWord
line_of find ws = cond (none ws) (Ok None) (cond (only (codes "-") ws) (Ok (Some (step_from 0))) (telling (told (with_named find 0 ws))))

-- one of the words names signal k
abbrev pub Names : (List ℕ → Option ℕ) → ℕ → List Part → Type 0
Names find k [] = ⊥
Names find k (w ∷ ws) = (find w.text ≡ Some k) ⊎ Names find k ws

-- a step line that is told has no signal where it is `-` alone, and else the signals that its words name, and no others
pub record Told (find : List ℕ → Option ℕ) (ws : List Part) (s : Step) : Type 0 where
  pub dash : only (codes "-") ws ≡ true → set_of s ≡ 0
  pub named : only (codes "-") ws ≡ false → (k : ℕ) → (has (set_of s) k ≡ true) ↔ Names find k ws
