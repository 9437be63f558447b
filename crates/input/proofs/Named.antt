-- The signals that words name, where `find` gives the signal of a name.
use Rattle.std.proofs.Common.{◌≡◌, ℕ, ◌^◌, Bool, true, false, cond, ◌||◌, eqb, ◌⊎◌, ◌↔◌, List, [], ◌∷◌, Some, None, Ok, Err, codes, Option, Result, sym, refl, ap, ◌∙◌, inl, inr, ⊎_elim, arith}
use lib.Bits.{bit_or}
use Rattle.std.proofs.lemmas.Bool.{true≢false, or_cases, or_left, or_right, eqb-true, eq-eqb}
use Rattle.ltl.specs.Steps.{has, set_of, step_from}
use Rattle.ltl.specs.declared.step.Step.{Step}
use Rattle.ltl.proofs.Sets.{has_more, has_none}
use Rattle.sheet.specs.Parts.{Part}
use Rattle.input.specs.Splits.{none, only}
use Rattle.input.specs.Lines.{one_more, with_named, told, telling, line_of, Names, Told}
use Rattle.input.specs.Recorded.{Line}

abbrev bits_in : Line → ℕ
bits_in (Ok None) = 0
bits_in (Ok (Some s)) = set_of s
bits_in (Err w) = 0

-- the set that is read has the signals of the one before and those that the words name
abbrev Has : (List ℕ → Option ℕ) → ℕ → ℕ → List Part → ℕ → Type 0
Has find s v ws k = (has v k ≡ true) ↔ ((has s k ≡ true) ⊎ Names find k ws)

-- the set 0 has no signal
pub empty_set : (k : ℕ) → has 0 k ≡ true → ⊥
empty_set k e = true≢false (sym e ∙ has_none 0 0 k (omega arith) (omega arith))

abbrev Law : (List ℕ → Option ℕ) → List Part → Line → Type 0
Law find ws l = (s : Step) → l ≡ Ok (Some s) → Told find ws s

module _ (find : List ℕ → Option ℕ) where
  one_word : (s v : ℕ) (w : Part) (ws : List Part) (k : ℕ) → ((s : ℕ) → with_named find s ws ≡ Ok v → Has find s v ws k) → (o : Option ℕ) → find w.text ≡ o → one_more o w.at (λ j. with_named find (bit_or s (2 ^ j)) ws) ≡ Ok v → Has find s v (w ∷ ws) k
  one_word s v w ws k ih None q e = absurd (true≢false (cc))
  one_word s v w ws k ih (Some j) q e =
      let r = ih (bit_or s (2 ^ j)) e in
      let b : has (bit_or s (2 ^ j)) k ≡ (has s k || eqb k j) = has_more s j k in (
        (λ h. ⊎_elim
            (λ (x : has (bit_or s (2 ^ j)) k ≡ true). ⊎_elim
            (λ (y : has s k ≡ true). inl y)
            (λ (y : eqb k j ≡ true). inr (inl (q ∙ ap Some (sym (eqb-true k j y)))))
            (or_cases (has s k) (eqb k j) (sym b ∙ x)))
            (λ (n : Names find k ws). inr (inr n))
            (r.0 h)),
        ⊎_elim
            (λ (x : has s k ≡ true). r.1 (inl (b ∙ or_left (has s k) (eqb k j) x)))
            (⊎_elim
            (λ (y : find w.text ≡ Some k). let z : k ≡ j = cc in r.1 (inl (b ∙ or_right (has s k) (eqb k j) (eq-eqb k j z))))
            (λ (n : Names find k ws). r.1 (inr n))),
      )

  members : (s v : ℕ) (ws : List Part) (k : ℕ) → with_named find s ws ≡ Ok v → Has find s v ws k
  members s v [] k e = let z : s ≡ v = cc in ((λ h. inl (rw z h)), ⊎_elim (λ h. rw (← z) h) (λ n. absurd n))
  members s v (w ∷ ws) k e = one_word s v w ws k (λ s' e'. members s' v ws k e') (find w.text) refl e

  from_names : (ws : List Part) (r : Result ℕ ℕ) → with_named find 0 ws ≡ r → only (codes "-") ws ≡ false → Law find ws (telling (told r))
  from_names ws (Ok v) q d s e =
      let z : v ≡ set_of s = ap bits_in e in
      record {
        dash = λ h. absurd (true≢false (sym h ∙ d));
        named = λ _ k. let m = members 0 v ws k q in ((λ h. ⊎_elim (λ x. absurd (empty_set k x)) (λ n. n) (m.0 (rw z h))), (λ n. rw (← z) (m.1 (inr n))));
      }
  from_names ws (Err at) q d s e = absurd (true≢false (cc))

  by_case : (ws : List Part) (a b : Bool) → only (codes "-") ws ≡ b → Law find ws (cond a (Ok None) (cond b (Ok (Some (step_from 0))) (telling (told (with_named find 0 ws)))))
  by_case ws true b q s e = absurd (true≢false (cc))
  by_case ws false true q s e = record { dash = λ h. sym (ap bits_in e); named = λ h. absurd (true≢false (sym q ∙ h)) }
  by_case ws false false q s e = from_names ws (with_named find 0 ws) refl q s e

  -- a line that tells a step names its signals and no others
  pub line_law : (ws : List Part) → Law find ws (line_of find ws)
  line_law ws = by_case ws (none ws) (only (codes "-") ws) refl
