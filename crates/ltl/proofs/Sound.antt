-- What is decided holds on every continuation or on none; what is undecided goes both ways.
use Rattle.std.proofs.Common.{◌≡◌, ℕ, zero, suc, ◌+◌, ◌*◌, ◌/◌, ◌%◌, ◌^◌, ◌<◌, ◌≤◌, Bool, true, false, cond, T, eqb, ◌⊎◌, List, length, sym, refl, ap, ◌∙◌, inl, inr, ⊎_elim, arith}
use Rattle.std.proofs.lemmas.Bool.{le-leb, lt-leb, cases_lt, true≢false, eq-eqb, ne_eqb, eqb-true, or_cases, or_left, or_right}
use Rattle.std.proofs.lemmas.Nat.{shr-shr, pow-add}
use Rattle.ltl.specs.Steps.{has, step_at}
use Rattle.scales.specs.Scales.{meet}
use Rattle.scales.specs.Truths.{truth_ops, mirror, upper}
use Rattle.ltl.specs.Trees.{Tree, signal, not, or, next, until, eventually}
use Rattle.ltl.specs.Values.{value}
use Rattle.ltl.specs.Paths.{Side, upright, turned, other, Reaches, reaches}
use Rattle.ltl.specs.Cuts.{Decide}
use Rattle.ltl.specs.Endless.{Holds, Continues, onward, step_of, Sound, SignalsBelow, StepsBelow, OneSided, best, worst, Continuation, BothWays}
use Rattle.scales.specs.declared.truth.Truth.{Truth}
use Rattle.scales.specs.declared.truth.Truth.TheVariants.{False, Undecided, True}
use Rattle.ltl.proofs.Back.{back, eventually_in, until_in, signal_in, signal_past}
use Rattle.ltl.proofs.Cuts.{late}

-- true enough: u says whether undecided is
abbrev Enough : Bool → Truth → Type 0
Enough u False = ⊥
Enough u Undecided = T u
Enough u True = Unit {0}

enough_upper : (u : Bool) (x y : Truth) → Enough u (upper x y) → Enough u x ⊎ Enough u y
enough_upper u False y g = inr g
enough_upper u Undecided False g = inl g
enough_upper u Undecided Undecided g = inl g
enough_upper u Undecided True g = inr g
enough_upper u True y g = inl g

enough_low : (u : Bool) (x y : Truth) → Enough u (mirror (upper x y)) → Enough u (mirror x) × Enough u (mirror y)
enough_low u False y g = (tt, g)
enough_low u Undecided False g = (g, tt)
enough_low u Undecided Undecided g = (g, g)
enough_low u Undecided True g = absurd g
enough_low u True y g = absurd g

mirror_mirror : (x : Truth) → mirror (mirror x) ≡ x
mirror_mirror False = refl
mirror_mirror Undecided = refl
mirror_mirror True = refl

enough_meet : (u : Bool) (x y : Truth) → Enough u (meet truth_ops x y) → Enough u x × Enough u y
enough_meet u x y g = rw (mirror_mirror x, mirror_mirror y) at (enough_low u (mirror x) (mirror y) g)

enough_low_meet : (u : Bool) (x y : Truth) → Enough u (mirror (meet truth_ops x y)) → Enough u (mirror x) ⊎ Enough u (mirror y)
enough_low_meet u x y g = enough_upper u (mirror x) (mirror y) (rw (mirror_mirror (upper (mirror x) (mirror y))) at g)

-- if undecided is enough, then each step after n has what the formula reaches on this side, and nothing that it reaches on the other
abbrev Leans : Bool → (ℕ → ℕ) → ℕ → Tree → Side → Type 0
Leans u w n t p = T u → (i : ℕ) → n < i → (k : ℕ) → (Reaches t p k → has (w i) k ≡ true) × (Reaches t (other p) k → has (w i) k ≡ true → ⊥)

module _ (u : Bool) (w : ℕ → ℕ) (steps : List ℕ) (c : Continues steps w) where
  abbrev High : Tree → ℕ → Type 0
  High a i = Enough u (value truth_ops steps a i)

  abbrev Low : Tree → ℕ → Type 0
  Low a i = Enough u (mirror (value truth_ops steps a i))

  record Reads (a : Tree) : Type 0 where
    holds : Leans u w (length steps) a upright → (i : ℕ) → 1 ≤ i → High a i → Holds w a i
    fails : Leans u w (length steps) a turned → (i : ℕ) → 1 ≤ i → Low a i → Holds w a i → ⊥

  is_yes : (b : Bool) → Enough u (cond b True False) → b ≡ true
  is_yes true g = refl
  is_yes false g = absurd g

  is_no : (b : Bool) → Enough u (mirror (cond b True False)) → b ≡ true → ⊥
  is_no true g e = g
  is_no false g e = true≢false (sym e)

  -- after the last step all are alike
  late_high : (a b : Tree) (i j : ℕ) → length steps < i → length steps < j → High a i → High b j
  late_high a b i j h l g = rw (late steps b j l) (rw (late steps a i h) at g)

  late_low : (a b : Tree) (i j : ℕ) → length steps < i → length steps < j → Low a i → Low b j
  late_low a b i j h l g = rw (late steps b j l) (rw (late steps a i h) at g)

  eventually_low : (a : Tree) (i : ℕ) → Low (eventually a) i → (k : ℕ) → i ≤ k → Low a k
  eventually_low a =
      back (length steps) (λ i. Low (eventually a) i → (k : ℕ) → i ≤ k → Low a k)
      (λ i h g k l. late_low (eventually a) a i k h (omega arith) g)
      (λ i h r g k l.
      let q = enough_low u _ _ (rw (eventually_in truth_ops steps a i h) at g) in
      ⊎_elim
      (λ m. r q.1 k m)
      (λ m. let z : k ≡ i = omega arith in rw z q.0)
      (cases_lt i k))

  reads : (a : Tree) → Reads a
  unfolding value
  reads (signal k) = record {
    holds = λ f i o g. ⊎_elim
        (λ h. (f (rw (signal_past truth_ops steps k i h) at g) i h k).0 refl)
        (λ h. rw (c i o h) (is_yes (has (step_at steps i) k) (rw (signal_in truth_ops steps k i h) at g)))
        (cases_lt (length steps) i);
    fails = λ f i o g. ⊎_elim
        (λ h. (f (rw (signal_past truth_ops steps k i h) at g) i h k).1 refl)
        (λ h. rw (c i o h) (is_no (has (step_at steps i) k) (rw (signal_in truth_ops steps k i h) at g)))
        (cases_lt (length steps) i);
  }
  reads (not a) = let r = reads a in record {
    holds = λ f i o g. r.fails f i o g;
    fails = λ f i o g z. z (r.holds f i o (rw (mirror_mirror (value truth_ops steps a i)) at g));
  }
  reads (or a b) = let r = reads a in let s = reads b in record {
    holds = λ f i o g. ⊎_elim
        (λ x. inl (r.holds (λ e j h k. ((λ p. (f e j h k).0 (inl p)), (λ p. (f e j h k).1 (inl p)))) i o x))
        (λ x. inr (s.holds (λ e j h k. ((λ p. (f e j h k).0 (inr p)), (λ p. (f e j h k).1 (inr p)))) i o x))
        (enough_upper u _ _ g);
    fails = λ f i o g. let q = enough_low u _ _ g in ⊎_elim
        (r.fails (λ e j h k. ((λ p. (f e j h k).0 (inl p)), (λ p. (f e j h k).1 (inl p)))) i o q.0)
        (s.fails (λ e j h k. ((λ p. (f e j h k).0 (inr p)), (λ p. (f e j h k).1 (inr p)))) i o q.1);
  }
  reads (next a) = let r = reads a in record {
    holds = λ f i o g. r.holds f (suc i) (omega arith) g;
    fails = λ f i o g. r.fails f (suc i) (omega arith) g;
  }
  reads (until a b) = let r = reads a in let s = reads b in record {
    holds = λ f.
        let f₁ : Leans u w (length steps) a upright = λ e j h k. ((λ p. (f e j h k).0 (inl p)), (λ p. (f e j h k).1 (inl p))) in
        let f₂ : Leans u w (length steps) b upright = λ e j h k. ((λ p. (f e j h k).0 (inr p)), (λ p. (f e j h k).1 (inr p))) in
        back (length steps) (λ i. 1 ≤ i → High (until a b) i → Holds w (until a b) i)
        (λ i h o g. (i, omega arith, s.holds f₂ i o (late_high (until a b) b i i h h g), λ j p q. absurd (omega arith)))
        (λ i h t o g. ⊎_elim
        (λ x. (i, omega arith, s.holds f₂ i o x, λ j p q. absurd (omega arith)))
        (λ y.
        let q = enough_meet u (value truth_ops steps a i) (value truth_ops steps (until a b) (suc i)) y in
        let z = t (omega arith) q.1 in (
          z.0,
          omega (arith, z.1),
          z.2,
          λ j m l. ⊎_elim
              (λ d. z.3 j d l)
              (λ d. let e : j ≡ i = omega arith in rw e (r.holds f₁ i o q.0))
              (cases_lt i j),
        ))
        (enough_upper u _ _ (rw (until_in truth_ops steps a b i h) at g)));
    fails = λ f.
        let f₁ : Leans u w (length steps) a turned = λ e j h k. ((λ p. (f e j h k).0 (inl p)), (λ p. (f e j h k).1 (inl p))) in
        let f₂ : Leans u w (length steps) b turned = λ e j h k. ((λ p. (f e j h k).0 (inr p)), (λ p. (f e j h k).1 (inr p))) in
        back (length steps) (λ i. 1 ≤ i → Low (until a b) i → Holds w (until a b) i → ⊥)
        (λ i h o g z. let l = z.1 in s.fails f₂ z.0 (omega arith) (late_low (until a b) b i z.0 h (omega arith) g) z.2)
        (λ i h t o g z.
        let l = z.1 in
        let q = enough_low u _ _ (rw (until_in truth_ops steps a b i h) at g) in
        ⊎_elim
        (λ d. ⊎_elim
        (λ x. r.fails f₁ i o x (z.3 i (omega arith) d))
        (λ y. t (omega arith) y (z.0, d, z.2, λ j m n. z.3 j (omega arith) n))
        (enough_low_meet u (value truth_ops steps a i) (value truth_ops steps (until a b) (suc i)) q.1))
        (λ d. let e : z.0 ≡ i = omega arith in s.fails f₂ i o q.0 (rw e at z.2))
        (cases_lt i z.0));
  }
  reads (eventually a) = let r = reads a in record {
    holds = λ f. back (length steps) (λ i. 1 ≤ i → High (eventually a) i → Holds w (eventually a) i)
        (λ i h o g. (i, omega arith, r.holds f i o (late_high (eventually a) a i i h h g)))
        (λ i h t o g. ⊎_elim
        (λ x. (i, omega arith, r.holds f i o x))
        (λ y. let z = t (omega arith) y in (z.0, omega (arith, z.1), z.2))
        (enough_upper u _ _ (rw (eventually_in truth_ops steps a i h) at g)));
    fails = λ f i o g z. r.fails f z.0 (omega (arith, z.1)) (eventually_low a i g z.0 z.1) z.2;
  }

pub soundness : (steps : List ℕ) (t : Tree) (i : ℕ) → 1 ≤ i → Sound steps t i
soundness steps t i o = record {
  holds = λ d w c. (reads false w steps c t).holds (λ e. absurd e) i o (rw d tt);
  fails = λ d w c. (reads false w steps c t).fails (λ e. absurd e) i o (rw d tt);
}

-- the signals of a step that is made from a test
low_bit : (b : Bool) (x : ℕ) → eqb ((cond b 1 0 + 2 * x) / 2 ^ 0 % 2) 1 ≡ b
low_bit true x = eq-eqb _ _ (omega arith)
low_bit false x = ne_eqb _ _ (omega arith)

half : (b : Bool) (x : ℕ) → (cond b 1 0 + 2 * x) / 2 ^ 1 ≡ x
half true x = omega arith
half false x = omega arith

pub has_step_of : (n : ℕ) (test : ℕ → Bool) (k : ℕ) → k < n → has (step_of n test) k ≡ test k
unfolding step_of
has_step_of zero test k h = absurd (omega arith)
has_step_of (suc n) test zero h = low_bit (test 0) (step_of n (λ k. test (suc k)))
has_step_of (suc n) test (suc k) h =
    let x = step_of n (λ k. test (suc k)) in
    let y = cond (test 0) 1 0 + 2 * x in
    let e : suc k ≡ 1 + k = omega arith in
    let z : y / 2 ^ suc k ≡ x / 2 ^ k = rw e (sym (shr-shr y 1 k) ∙ ap (λ v. v / 2 ^ k) (half (test 0) x)) in
    rw z (has_step_of n (λ k. test (suc k)) k (omega arith))

bit_low : (b : Bool) → cond b 1 0 ≤ 1
bit_low true = omega arith
bit_low false = omega arith

pub step_of_below : (n : ℕ) (test : ℕ → Bool) → step_of n test < 2 ^ n
unfolding step_of
step_of_below zero test = omega arith
step_of_below (suc n) test =
    let e : suc n ≡ 1 + n = omega arith in
    rw (e, pow-add 2 1 n) (omega (arith, step_of_below n (λ k. test (suc k)), bit_low (test 0)))

-- the test tells paths
pub reached : (t : Tree) (p : Side) (k : ℕ) → reaches t p k ≡ true → Reaches t p k
reached (signal j) upright k e = eqb-true j k e
reached (signal j) turned k e = true≢false (sym e)
reached (not a) p k e = reached a (other p) k e
reached (or a b) p k e = ⊎_elim (λ h. inl (reached a p k h)) (λ h. inr (reached b p k h)) (or_cases (reaches a p k) (reaches b p k) e)
reached (next a) p k e = reached a p k e
reached (until a b) p k e = ⊎_elim (λ h. inl (reached a p k h)) (λ h. inr (reached b p k h)) (or_cases (reaches a p k) (reaches b p k) e)
reached (eventually a) p k e = reached a p k e

pub reaching : (t : Tree) (p : Side) (k : ℕ) → Reaches t p k → reaches t p k ≡ true
reaching (signal j) upright k e = eq-eqb j k e
reaching (signal j) turned k e = absurd e
reaching (not a) p k e = reaching a (other p) k e
reaching (or a b) p k e = ⊎_elim (λ h. or_left (reaches a p k) (reaches b p k) (reaching a p k h)) (λ h. or_right (reaches a p k) (reaches b p k) (reaching b p k h)) e
reaching (next a) p k e = reaching a p k e
reaching (until a b) p k e = ⊎_elim (λ h. or_left (reaches a p k) (reaches b p k) (reaching a p k h)) (λ h. or_right (reaches a p k) (reaches b p k) (reaching b p k h)) e
reaching (eventually a) p k e = reaching a p k e

module _ (steps : List ℕ) (x : ℕ) where
  onward_in : Continues steps (onward steps x)
  onward_in i o h = rw (le-leb i (length steps) h)

  onward_past : (i : ℕ) → length steps < i → onward steps x i ≡ x
  onward_past i h = rw (lt-leb i (length steps) h)

goes_on : (width : ℕ) (steps : List ℕ) → StepsBelow width steps → (test : ℕ → Bool) → Continuation width steps (onward steps (step_of width test))
goes_on width steps low test = record {
  begins = onward_in steps (step_of width test);
  within = λ i. ⊎_elim
      (λ h. rw (onward_past steps (step_of width test) i h) (step_of_below width test))
      (λ h. rw (le-leb i (length steps) h) (low i))
      (cases_lt (length steps) i);
}

-- on these continuations the row leans to the side p
leaning : (width : ℕ) (steps : List ℕ) (t : Tree) (p : Side) → ((k : ℕ) → Reaches t p k → k < width) → ((k : ℕ) → Reaches t (other p) k → k < width) → ((k : ℕ) → Reaches t p k → Reaches t (other p) k → ⊥) → Leans true (onward steps (step_of width (reaches t p))) (length steps) t p
leaning width steps t p near far single e i h k =
    let x = step_of width (reaches t p) in (
      (λ r. rw (onward_past steps x i h) (has_step_of width (reaches t p) k (near k r) ∙ reaching t p k r)),
      (λ r q. single k (reached t p k (sym (has_step_of width (reaches t p) k (far k r)) ∙ rw (onward_past steps x i h) at q)) r),
    )

pub open_both : (width : ℕ) (steps : List ℕ) → StepsBelow width steps → (t : Tree) → SignalsBelow width t → OneSided t → (i : ℕ) → 1 ≤ i → Decide steps t i Undecided → BothWays width steps t i
open_both width steps low t under single i o d = record {
  one = goes_on width steps low (reaches t upright);
  holds = (reads true (best width steps t) steps (onward_in steps _) t).holds
      (leaning width steps t upright (λ k. (under k).0) (λ k. (under k).1) single) i o (rw d tt);
  another = goes_on width steps low (reaches t turned);
  fails = (reads true (worst width steps t) steps (onward_in steps _) t).fails
      (leaning width steps t turned (λ k. (under k).1) (λ k. (under k).0) (λ k x y. single k y x)) i o (rw d tt);
}
