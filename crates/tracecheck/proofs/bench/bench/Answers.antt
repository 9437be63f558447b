-- The check does not compute the tree of these rows.
use Rattle.std.proofs.Common.{ap}
use Rattle.ltl.specs.Tables.{Table}
use Rattle.ltl.specs.Trees.{trees, trees_after, tree_at}
use Rattle.tracecheck.proofs.bench.bench.Goals as goal

pub returns-clause-tree : goal.returns-clause-tree
unfolding trees_after
returns-clause-tree c = ap (λ (t : Table). tree_at (trees t.rows) 7) (rw c.unwrap.ensures at c.new.ensures).0
