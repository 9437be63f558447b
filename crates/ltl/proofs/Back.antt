-- Induction from the end, and how values unroll.
use Rattle.std.proofs.Common.{◌≡◌, ℕ, zero, suc, ◌+◌, ◌-◌, ◌<◌, ◌≤◌, cond, List, length, ap, ⊎_elim, arith}
use Rattle.std.proofs.lemmas.Bool.{le-leb, lt-leb, cases_lt}
use Rattle.ltl.specs.Steps.{has, step_at}
use Rattle.scales.specs.Scales.{Ops, meet}
use Rattle.ltl.specs.Trees.{Tree, signal, until, eventually}
use Rattle.ltl.specs.Values.{ahead, value}

module _ (n : ℕ) (P : ℕ → Type 0) (late : (i : ℕ) → n < i → P i) (step : (i : ℕ) → i ≤ n → P (suc i) → P i) where
  go : (d i : ℕ) → n < i + d → P i
  go zero i h = late i (omega arith)
  go (suc d) i h = let r = go d (suc i) (omega arith) in ⊎_elim (λ l. late i l) (λ l. step i l r) (cases_lt n i)

  -- what holds after n, and at a position up to n if it does at the next, holds everywhere
  pub back : (i : ℕ) → P i
  back i = go (suc n) i (omega arith)

module _ {V : Type 0} (o : Ops V) (steps : List ℕ) where
  pub eventually_in : (a : Tree) (i : ℕ) → i ≤ length steps → value o steps (eventually a) i ≡ o.join (value o steps a i) (o.later (value o steps (eventually a) (suc i)))
  unfolding value ahead
  eventually_in a i h =
      let e : length steps + 1 - i ≡ suc (length steps + 1 - suc i) = omega arith in
      ap (λ d. ahead o (λ j x. o.join (value o steps a j) x) d i) e

  pub eventually_past : (a : Tree) (i : ℕ) → length steps < i → value o steps (eventually a) i ≡ o.join (value o steps a i) o.«open»
  unfolding value ahead
  eventually_past a i h =
      let e : length steps + 1 - i ≡ 0 = omega arith in
      ap (λ d. ahead o (λ j x. o.join (value o steps a j) x) d i) e

  pub until_in : (a b : Tree) (i : ℕ) → i ≤ length steps → value o steps (until a b) i ≡ o.join (value o steps b i) (meet o (value o steps a i) (o.later (value o steps (until a b) (suc i))))
  unfolding value ahead
  until_in a b i h =
      let e : length steps + 1 - i ≡ suc (length steps + 1 - suc i) = omega arith in
      ap (λ d. ahead o (λ j x. o.join (value o steps b j) (meet o (value o steps a j) x)) d i) e

  pub until_past : (a b : Tree) (i : ℕ) → length steps < i → value o steps (until a b) i ≡ o.join (value o steps b i) (meet o (value o steps a i) o.«open»)
  unfolding value ahead
  until_past a b i h =
      let e : length steps + 1 - i ≡ 0 = omega arith in
      ap (λ d. ahead o (λ j x. o.join (value o steps b j) (meet o (value o steps a j) x)) d i) e

  pub signal_in : (k i : ℕ) → i ≤ length steps → value o steps (signal k) i ≡ cond (has (step_at steps i) k) o.yes o.no
  unfolding value
  signal_in k i h = rw (le-leb i (length steps) h)

  pub signal_past : (k i : ℕ) → length steps < i → value o steps (signal k) i ≡ o.past
  unfolding value
  signal_past k i h = rw (lt-leb i (length steps) h)
