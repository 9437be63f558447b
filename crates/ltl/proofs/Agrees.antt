-- A pair has one side impossible exactly where the steps decide.
use Rattle.std.proofs.Common.{◌≡◌, ℕ, ◌+◌, ◌≤◌, leb, List, length, sym, refl, ap, ◌∙◌, arith}
use Rattle.std.proofs.lemmas.Bool.{le-leb}
use Rattle.std.proofs.lemmas.List.{take_all}
use Rattle.scales.specs.Truths.{truth_ops, mirror}
use Rattle.scales.specs.Pairs.{pair, pair_ops}
use Rattle.ltl.specs.Trees.{Tree, not}
use Rattle.ltl.specs.Values.{value}
use Rattle.ltl.specs.Cuts.{Decide, Agrees}
use Rattle.scales.specs.declared.truth.Truth.TheVariants.{True}
use Rattle.scales.specs.declared.pair.Count.TheVariants.{Number, Impossible}
use Rattle.scales.specs.declared.pair.Pair.{Pair}
use Rattle.ltl.proofs.Cuts.{Fit, sat, vio, und, cut_pair, cut_far, fit, after_cut, near, not_und, never_low, mirrored}

told_true : (n i : ℕ) (p : Pair) → Fit n i p → cut_pair n i p ≡ True → (a : ℕ) × (p ≡ pair (Number a) Impossible)
told_true n i _ (sat a h) e = (a, refl)
told_true n i _ (vio a h) e = absurd (never_low (leb (i + a) n) e)
told_true n i _ (und x y h k) e = absurd (not_und (sym (cut_far n n i x y h k) ∙ e))

module _ (steps : List ℕ) (few : length steps ≤ 4096) where
  whole : (t : Tree) (i : ℕ) → value truth_ops steps t i ≡ cut_pair (length steps) i (value pair_ops steps t i)
  whole t i = rw (take_all (length steps) steps (omega arith)) at (after_cut steps few (length steps) (omega arith) t i)

  to : (t : Tree) (i : ℕ) → Decide steps t i True → (a : ℕ) × (value pair_ops steps t i ≡ pair (Number a) Impossible)
  to t i d = told_true (length steps) i _ (fit steps few t i) (sym (whole t i) ∙ d)

  from : (t : Tree) (i : ℕ) → ((a : ℕ) × (value pair_ops steps t i ≡ pair (Number a) Impossible)) → Decide steps t i True
  from t i z =
      let l = near (length steps) i z.0 _ (fit steps few t i) z.1 in
      whole t i ∙ rw (z.1, le-leb (i + z.0) (length steps) l)

pub agree : (steps : List ℕ) → length steps ≤ 4096 → (t : Tree) (i : ℕ) → Agrees steps t i
unfolding value
agree steps few t i = record {
  true_when = (to steps few t i, from steps few t i);
  false_when = (
    (λ d. let z = to steps few (not t) i (ap mirror d) in (z.0, ap (λ p. pair p.f p.s) z.1)),
    (λ z. mirrored (value truth_ops steps t i) (from steps few (not t) i (z.0, ap (λ p. pair p.f p.s) z.1))),
  );
}
