-- Question 5 on all the words of a formula.
use Rattle.std.proofs.Common.{◌≡◌, ℕ, List, [], ◌∷◌, Some, None, Ok, Err, ap, ◌∙◌}
use Rattle.ltl.specs.declared.row.Row.{Row}
use Rattle.sheet.specs.Parts.{Part}
use Rattle.sheet_reader.specs.Drafts.{Got, Whole}
use Rattle.sheet_reader.specs.Grammar.{Written, formulas, wrong, bare}
use Rattle.sheet_reader.specs.Sheets.{and_then, unless, ask_nothing, ask_formula, symbols_of, first}
use Rattle.sheet_faults.specs.declared.fault.FormulaFault.{FormulaFault}
use Rattle.sheet_faults.specs.declared.fault.FormulaFault.TheVariants.{Surplus}
use Rattle.sheet_reader.specs.declared.reading.Name.{Name}
use Rattle.sheet_reader.proofs.Grammar.{formulas_spelt}

module _ (sheet : List ℕ) (names : List Name) (ws : List Part) (end : ℕ) where
  pub asked_no : (f : FormulaFault) → wrong (symbols_of sheet names ws) end 1 ≡ Some f → ask_formula sheet names ws end ≡ Err f
  asked_no f e = ap (λ o. and_then (unless o) (λ _. Ok (first (formulas (bare (symbols_of sheet names ws)))))) e

  pub asked_yes : (t : Written) → wrong (symbols_of sheet names ws) end 1 ≡ None → formulas (bare (symbols_of sheet names ws)) ≡ t ∷ [] → ask_formula sheet names ws end ≡ Ok t
  asked_yes t e f = ap (λ o. and_then (unless o) (λ _. Ok (first (formulas (bare (symbols_of sheet names ws)))))) e ∙ ap (λ l. Ok (first l)) f

  -- no word behind the formula
  pub whole : (xs : List Part) {n n' row : ℕ} {k k' : List Row} → Got (symbols_of sheet names ws) (symbols_of sheet names xs) end n k n' k' row → Ok tt ≡ ask_nothing xs → Whole sheet names ws end n k n' k' row
  whole [] g e = record {
    formula = g.formula;
    asked = asked_yes g.formula (g.passes 0) (ap formulas g.spells ∙ formulas_spelt g.formula []);
    added = g.added;
  }
  whole (x ∷ xs) g e = cc

  -- a word behind the formula
  pub surplus : (xs : List Part) {n n' row : ℕ} {k k' : List Row} (f : FormulaFault) → Got (symbols_of sheet names ws) (symbols_of sheet names xs) end n k n' k' row → Err f ≡ ask_nothing xs → ask_formula sheet names ws end ≡ Err f
  surplus [] f g e = cc
  surplus (x ∷ xs) f g e = let is : Surplus x.at ≡ f = cc in asked_no f (g.passes 0 ∙ ap Some is)
