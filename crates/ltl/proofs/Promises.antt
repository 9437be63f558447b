-- The promises, of every formula at every position.
use Rattle.std.proofs.Common.{ℕ, ◌≤◌, List, length}
use Rattle.ltl.specs.Endless.{StepsBelow}
use Rattle.ltl.specs.Promises.{OpenTold, PairTold, OrderTold}
use Rattle.scales.specs.Scales.{Ops, Laws}
use Rattle.ltl.specs.Trees.{Tree}
use Rattle.ltl.specs.Formulas.{tree, width_of}
use Rattle.ltl.specs.declared.formula.Formula.{Formula}
use Rattle.ltl.proofs.Cuts.{cuts, shapes}
use Rattle.ltl.proofs.Agrees.{agree}
use Rattle.ltl.proofs.Sound.{open_both}
use Rattle.ltl.proofs.Truer.{order}
use Rattle.ltl.proofs.Formulas.{signals_below}

pub open_told : (steps : List ℕ) (f : Formula) (r i : ℕ) → StepsBelow (width_of f) steps → 1 ≤ i → OpenTold (width_of f) steps (tree f r) i
open_told steps f r i low h single d = open_both (width_of f) steps low (tree f r) (signals_below f r) single i h d

pub pair_told : (steps : List ℕ) → length steps ≤ 4096 → (t : Tree) (i : ℕ) → PairTold steps t i
pair_told steps few t i = record { counts = cuts steps few t i; agrees = agree steps few t i; shape = shapes steps few t i }

pub order_told : {V : Type 0} (o : Ops V) (p : V → V → Type 0) → Laws o p → (steps : List ℕ) (t : Tree) (i : ℕ) → OrderTold o p steps t i
order_told o p l steps t i ys g = order o p l t steps ys g i
