-- The signals of a step from a number on, by the first of them.
use Rattle.std.proofs.Common.{◌≡◌, ℕ, suc, ◌+◌, ◌-◌, ◌<◌, ◌≤◌, true, false, cond, List, [], ◌∷◌, ◌++◌, codes, decimal, sym, refl, ap, ◌∙◌, add-one, append_assoc, append-nil, arith}
use Rattle.std.proofs.Output.{has_written_append}
use Rattle.std.specs.Fmt.{HasWritten}
use Rattle.std.specs.declared.fmt.Formatter.{Formatter}
use Rattle.ltl.specs.Steps.{has}
use Rattle.ltl.specs.Shown.{signals_from, commas, after_others}

pub none_left : (n k step : ℕ) → n ≤ k → signals_from (n - k) k step ≡ []
unfolding signals_from
none_left n k step h = let z : n - k ≡ 0 = omega arith in rw z

more : (m n k step : ℕ) → m ≡ suc n → signals_from m k step ≡ cond (has step k) (k ∷ signals_from n (suc k) step) (signals_from n (suc k) step)
unfolding signals_from
more m n k step e = rw e

pub with_first : (n k step : ℕ) → k < n → has step k ≡ true → signals_from (n - k) k step ≡ k ∷ signals_from (n - (k + 1)) (k + 1) step
with_first n k step h e = rw add-one (more (n - k) (n - suc k) k step (omega arith) ∙ rw e)

pub without_first : (n k step : ℕ) → k < n → has step k ≡ false → signals_from (n - k) k step ≡ signals_from (n - (k + 1)) (k + 1) step
without_first n k step h e = rw add-one (more (n - k) (n - suc k) k step (omega arith) ∙ rw e)

-- numbers, the first behind a text and each other behind a comma
abbrev behind : List ℕ → List ℕ → List ℕ
behind before [] = []
behind before (k ∷ ks) = before ++ (decimal k ++ after_others ks)

behind_none : (ks : List ℕ) → behind [] ks ≡ commas ks
behind_none [] = refl
behind_none (k ∷ ks) = refl

behind_comma : (ks : List ℕ) → behind (codes ", ") ks ≡ after_others ks
behind_comma [] = refl
behind_comma (k ∷ ks) = refl

-- what is written of a step with the signals below k, where the next signal comes behind a text
pub record ShownBelow {W : Type 0} (took : W → List ℕ → W → Type 0) (first now : Formatter W) (before : List ℕ) (k step : ℕ) : Type 0 where
  pub text : List ℕ
  pub wrote : HasWritten took first text now
  pub whole : text ++ behind before (signals_from (64 - k) k step) ≡ codes "{" ++ commas (signals_from 64 0 step)

module _ {W : Type 0} (took : W → List ℕ → W → Type 0) (first now : Formatter W) where
  pub shown_none : (step : ℕ) → HasWritten took first (codes "{") now → ShownBelow took first now [] 0 step
  shown_none step h = record { text = codes "{"; wrote = h; whole = ap (λ l. codes "{" ++ l) (behind_none (signals_from 64 0 step)) }

  module _ (before : List ℕ) (k step : ℕ) (s : ShownBelow took first now before k step) where
    pub shown_absent : k < 64 → has step k ≡ false → ShownBelow took first now before (k + 1) step
    shown_absent h e = record { text = s.text; wrote = s.wrote; whole = rw (without_first 64 k step h e) at s.whole }

    pub shown_present : (next : Formatter W) → k < 64 → has step k ≡ true → HasWritten took now (before ++ decimal k) next → ShownBelow took first next (codes ", ") (k + 1) step
    shown_present next h e w =
        let rest = signals_from (64 - (k + 1)) (k + 1) step in
        record {
          text = s.text ++ (before ++ decimal k);
          wrote = has_written_append took first s.text now (before ++ decimal k) next s.wrote w;
          whole = rw (behind_comma rest) (simp append_assoc (rw (with_first 64 k step h e) at s.whole));
        }

    pub shown_all : (next : Formatter W) → 64 ≤ k → HasWritten took now (codes "}") next → HasWritten took first (codes "{" ++ (commas (signals_from 64 0 step) ++ codes "}")) next
    shown_all next h w =
        let e : s.text ≡ codes "{" ++ commas (signals_from 64 0 step) = sym (append-nil s.text) ∙ rw (none_left 64 k step h) at s.whole in
        rw e at (has_written_append took first s.text now (codes "}") next s.wrote w)

-- what the loop over the signals of a step keeps
pub ruleset shown = (shown_none, shown_absent, shown_all)
