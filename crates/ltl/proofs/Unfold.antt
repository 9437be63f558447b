-- The laws by which values unfold, and that they stay after the end.
use Rattle.std.proofs.Common.{◌≡◌, ℕ, suc, ◌+◌, ◌<◌, List, length, sym, ap, ◌∙◌, add-one, arith}
use Rattle.std.proofs.lemmas.Bool.{lt-leb}
use Rattle.scales.specs.Scales.{Ops}
use Rattle.ltl.specs.Trees.{Tree, signal, not, or, next, until, eventually}
use Rattle.ltl.specs.Values.{value}
use Rattle.ltl.proofs.Back.{eventually_past, until_past}

module _ {V : Type 0} (o : Ops V) (steps : List ℕ) where
  pub next_at : (a : Tree) (i : ℕ) → value o steps (next a) i ≡ o.later (value o steps a (i + 1))
  unfolding value
  next_at a i = rw add-one

  -- two positions after the end have one value
  pub after_same : (t : Tree) (i j : ℕ) → length steps < i → length steps < j → value o steps t i ≡ value o steps t j
  unfolding value
  after_same (signal k) i j h l = rw (lt-leb i (length steps) h, lt-leb j (length steps) l)
  after_same (not a) i j h l = ap o.turn (after_same a i j h l)
  after_same (or a b) i j h l = let p = after_same a i j h l in let q = after_same b i j h l in cc
  after_same (next a) i j h l = ap o.later (after_same a (suc i) (suc j) (omega arith) (omega arith))
  after_same (until a b) i j h l =
      let p = after_same a i j h l in
      let q = after_same b i j h l in
      until_past o steps a b i h ∙ rw (p, q) (sym (until_past o steps a b j l))
  after_same (eventually a) i j h l =
      let p = after_same a i j h l in
      eventually_past o steps a i h ∙ rw p (sym (eventually_past o steps a j l))
