-- Formulas as trees, and the tree of each row of a table.
use Rattle.std.specs.Prelude.{ℕ, List, [], ◌∷◌, ◌++◌, slice_index_or}
use Rattle.ltl.specs.declared.row.Row.{Row}
use Rattle.ltl.specs.declared.row.Row.TheVariants.{Signal, Not, Or, Next, Until, Eventually}

pub data Tree : Type 0 where
  signal : ℕ → Tree
  not : Tree → Tree
  or : Tree → Tree → Tree
  next : Tree → Tree
  until : Tree → Tree → Tree
  eventually : Tree → Tree

-- tree k of a list
abbrev pub tree_at : List Tree → ℕ → Tree
tree_at ts k = slice_index_or ts k (signal 0)

-- a row's tree, from the trees of its operands
abbrev pub tree_of : List Tree → Row → Tree
tree_of ts (Signal k) = signal k
tree_of ts (Not a) = not (tree_at ts a)
tree_of ts (Or a b) = or (tree_at ts a) (tree_at ts b)
tree_of ts (Next a) = next (tree_at ts a)
tree_of ts (Until a b) = until (tree_at ts a) (tree_at ts b)
tree_of ts (Eventually a) = eventually (tree_at ts a)

-- the trees of the rows, after those of earlier rows
unfoldable pub trees_after : List Tree → List Row → List Tree
trees_after ts [] = ts
trees_after ts (x ∷ xs) = trees_after (ts ++ tree_of ts x ∷ []) xs

-- the tree of each row of a table, made from the trees of earlier rows
abbrev pub trees : List Row → List Tree
trees rows = trees_after [] rows
