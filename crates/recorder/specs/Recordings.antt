-- What every recording keeps, and what a recorder answers and leaves.
use Rattle.std.specs.Prelude.{◌≡◌, ℕ, ◌+◌, ◌^◌, ◌<◌, ◌≤◌, Bool, true, false, cond, List, [], ◌∷◌, ◌++◌, length, Ok, Err, Result, nat_lt}
use Rattle.ltl.specs.Steps.{step_at}
use Rattle.recorder.specs.declared.fault.RecordFault.{RecordFault}
use Rattle.recorder.specs.declared.fault.RecordFault.TheVariants.{ForeignSignal, NoRoom}

-- 1 to 32 signals, at most 4,096 steps, and each step a set of signals below the width
pub record Lawful (width : ℕ) (steps : List ℕ) : Type 0 where
  pub some_signal : 1 ≤ width
  pub few_signals : width ≤ 32
  pub few_steps : length steps ≤ 4096
  pub low : (i : ℕ) → step_at steps i < 2 ^ width

-- of n steps held: every step has room below the capacity, and a set that is no step has none
pub record Roomy (width capacity n s : ℕ) (room : Bool) : Type 0 where
  pub early : s < 2 ^ width → n < capacity → room ≡ true
  pub foreign : 2 ^ width ≤ s → room ≡ false

-- what record answers: its two questions in their order
abbrev pub record_answer : ℕ → Bool → ℕ → ℕ → Result ℕ RecordFault
record_answer width room n s = cond (nat_lt s (2 ^ width)) (cond room (Ok (n + 1)) (Err NoRoom)) (Err ForeignSignal)

-- the steps after record: one more where it was accepted
abbrev pub grown : Result ℕ RecordFault → List ℕ → ℕ → List ℕ
grown (Ok n) steps s = steps ++ s ∷ []
grown (Err e) steps s = steps

-- a refusal changed nothing
abbrev pub Unchanged : {X : Type 0} → Result ℕ RecordFault → X → X → Type 0
Unchanged (Ok n) before after = Unit {0}
Unchanged (Err e) before after = after ≡ before
