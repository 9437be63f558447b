use Rattle.std.proofs.Common.{◌≡◌, ◌+◌, List, ◌++◌, take, drop}
use Rattle.ltl.specs.declared.row.Row.{Row}
use Rattle.sheet_reader.specs.Drafts.{kept, Agree}
use Rattle.sheet_reader.proofs.reading.Draft.push_rows.Given as goal

-- rows that agree with what is left make, with what is kept, what they make with what was kept at first
abbrev pub invariant-loop-row : goal.invariant-loop-row
invariant-loop-row l =
    (l.self.count ≡ l.initial.self.count + l.row-index)
    × ((xs : List Row) → Agree l.initial.self.count l.rows xs → Agree l.self.count (drop l.row-index l.rows) (drop l.row-index xs) × (take 64 (kept l.self ++ drop l.row-index xs) ≡ take 64 (kept l.initial.self ++ xs)))
