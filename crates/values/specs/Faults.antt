-- The question and place of the refusal, and its words.
use Rattle.std.specs.Prelude.{ℕ, List, codes}
use Rattle.ltl.specs.declared.refusal.Question.TheVariants.{GridCells}
use Rattle.ltl.specs.declared.refusal.Refusal.{Refusal}

-- 17: has each grid at least R × (n + 1) cells?
abbrev pub grid_refusal : Refusal
grid_refusal = record { question = GridCells; place = 0 }

abbrev pub shown_grid_fault : List ℕ
shown_grid_fault = codes "the grid has too few cells"
