-- The rows that a written formula makes, and the tree that it means.
use Rattle.std.specs.Prelude.{ℕ, ◌+◌, ◌-◌, List, [], ◌∷◌, ◌++◌}
use Rattle.ltl.specs.Trees.{Tree, not, or, next, until, eventually}
use Rattle.ltl.specs.declared.row.Row.{Row}
use Rattle.ltl.specs.declared.row.Row.TheVariants.{Not, Or, Next, Until, Eventually}
use Rattle.sheet.specs.declared.token.Unary.{Unary}
use Rattle.sheet.specs.declared.token.Unary.TheVariants as unary
use Rattle.sheet.specs.declared.token.Binary.{Binary}
use Rattle.sheet.specs.declared.token.Binary.TheVariants as binary
use Rattle.sheet_reader.specs.Grammar.{Written, earlier, one, two}

-- the rows of an operator, at operands a and b and next row n; the last of them is the operator's own
abbrev pub rows1 : Unary → ℕ → ℕ → List Row
rows1 unary.Not a n = Not a ∷ []
rows1 unary.Next a n = Next a ∷ []
rows1 unary.Eventually a n = Eventually a ∷ []
rows1 unary.Always a n = Not a ∷ Eventually n ∷ Not (n + 1) ∷ []

abbrev pub rows2 : Binary → ℕ → ℕ → ℕ → List Row
rows2 binary.Or a b n = Or a b ∷ []
rows2 binary.And a b n = Not a ∷ Not b ∷ Or n (n + 1) ∷ Not (n + 2) ∷ []
rows2 binary.Implies a b n = Not a ∷ Or n b ∷ []
rows2 binary.Until a b n = Until a b ∷ []

-- how many these are
abbrev pub size1 : Unary → ℕ
size1 unary.Not = 1
size1 unary.Next = 1
size1 unary.Eventually = 1
size1 unary.Always = 3

abbrev pub size2 : Binary → ℕ
size2 binary.Or = 1
size2 binary.And = 4
size2 binary.Implies = 2
size2 binary.Until = 1

-- how many rows a formula makes
abbrev pub size : Written → ℕ
size (earlier r) = 0
size (one u t) = size t + size1 u
size (two b l r) = size l + size r + size2 b

-- the row of a formula whose first new row is n
abbrev pub top : ℕ → Written → ℕ
top n (earlier r) = r
top n (one u t) = n + size (one u t) - 1
top n (two b l r) = n + size (two b l r) - 1

-- the rows that it makes: those of an operator behind those of its operands, left operand first
abbrev pub made : ℕ → Written → List Row
made n (earlier r) = []
made n (one u t) = made n t ++ rows1 u (top n t) (n + size t)
made n (two b l r) =
    made n l ++ (made (n + size l) r ++ rows2 b (top n l) (top (n + size l) r) (n + size l + size r))

-- what an operator means: and, implies and always are abbreviations
abbrev pub meant1 : Unary → Tree → Tree
meant1 unary.Not a = not a
meant1 unary.Next a = next a
meant1 unary.Eventually a = eventually a
meant1 unary.Always a = not (eventually (not a))

abbrev pub meant2 : Binary → Tree → Tree → Tree
meant2 binary.Or a b = or a b
meant2 binary.And a b = not (or (not a) (not b))
meant2 binary.Implies a b = or (not a) b
meant2 binary.Until a b = until a b

-- the tree of a written formula, where the earlier rows have these trees
abbrev pub meant : (ℕ → Tree) → Written → Tree
meant earlier-tree (earlier r) = earlier-tree r
meant earlier-tree (one u t) = meant1 u (meant earlier-tree t)
meant earlier-tree (two b l r) = meant2 b (meant earlier-tree l) (meant earlier-tree r)
