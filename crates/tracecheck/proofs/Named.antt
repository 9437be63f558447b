-- The signals that a line of the input names.
use Rattle.std.proofs.Common.{◌≡◌, ℕ, Bool, true, false, ◌↔◌, List, [], ◌∷◌, Some, None, codes, sym, refl, ⊎_elim, rules}
use Rattle.std.proofs.lemmas.Slice.Eq.{bytes_eq-Decides}
use Rattle.std.specs.Str.{bytes_eq}
use Rattle.std.proofs.lemmas.Bool.{true≢false, and_parts}
use Rattle.ltl.specs.Steps.{has, set_of}
use Rattle.ltl.specs.declared.step.Step.{Step}
use Rattle.sheet.specs.Parts.{Part}
use Rattle.input.proofs.Named.{empty_set}
use Rattle.input.specs.Splits.{none, only}
use Rattle.input.specs.Lines.{Names, Told}
use Rattle.tracecheck.specs.Signals.{signal_named}

same_text : (xs ys : List ℕ) → bytes_eq xs ys ≡ true → xs ≡ ys
same_text xs ys e = search (rules, bytes_eq-Decides)

dash : (t : List ℕ) (k : ℕ) → bytes_eq t (codes "-") ≡ true → signal_named t ≡ Some k → ⊥
dash t k h e = let z : t ≡ codes "-" = same_text t (codes "-") h in true≢false (let q : None ≡ Some k = rw z at e in cc)

no_words : (ws : List Part) (k : ℕ) → none ws ≡ true → Names signal_named k ws → ⊥
no_words [] k e n = n
no_words (w ∷ ws) k e n = true≢false (sym e)

no_signal : (ws : List Part) (k : ℕ) → only (codes "-") ws ≡ true → Names signal_named k ws → ⊥
no_signal [] k e n = n
no_signal (w ∷ ws) k e n =
    let p = and_parts (bytes_eq w.text (codes "-")) (none ws) e in
    ⊎_elim (λ y. dash w.text k p.0 y) (λ m. no_words ws k p.1 m) n

by_dash : (ws : List Part) (s : Step) (k : ℕ) (b : Bool) → only (codes "-") ws ≡ b → Told signal_named ws s → (has (set_of s) k ≡ true) ↔ Names signal_named k ws
by_dash ws s k true q t = ((λ h. absurd (empty_set k (rw (t.dash q) at h))), (λ n. absurd (no_signal ws k q n)))
by_dash ws s k false q t = t.named q k

-- `-` names no signal of the bench, so a line that is told has the signals that its words name, `-` or not
pub names_of_told : (ws : List Part) (s : Step) (k : ℕ) → Told signal_named ws s → (has (set_of s) k ≡ true) ↔ Names signal_named k ws
names_of_told ws s k = by_dash ws s k (only (codes "-") ws) refl
