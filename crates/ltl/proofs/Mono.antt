-- A truer list of steps has a truer value.
use Rattle.std.proofs.Common.{◌≡◌, ℕ, zero, suc, ◌+◌, ◌-◌, Bool, true, false, cond, leb, List, length, sym, refl}
use Rattle.ltl.specs.Steps.{has, step_at}
use Rattle.scales.specs.Scales.{Ops, Laws, meet}
use Rattle.ltl.specs.Trees.{Tree, signal, not, or, next, until, eventually}
use Rattle.ltl.specs.Values.{value, ahead}
use Rattle.ltl.proofs.Over.{Over, Monotone}

module _ {V : Type 0} (o : Ops V) (p : V → V → Type 0) (l : Laws o p) where
  ahead_mono : (f h : ℕ → V → V) → ((i : ℕ) (x y : V) → p x y → p (f i x) (h i y)) → (d i : ℕ) → p (ahead o f d i) (ahead o h d i)
  unfolding ahead
  ahead_mono f h m zero i = m i o.«open» o.«open» (l.same o.«open»)
  ahead_mono f h m (suc d) i = m i _ _ (l.laters _ _ (ahead_mono f h m d (suc i)))

  yes_no : (b c : Bool) → (b ≡ true → c ≡ true) → p (cond c o.yes o.no) (cond b o.yes o.no)
  yes_no true c h = rw (h refl) (l.same o.yes)
  yes_no false true h = l.ends
  yes_no false false h = l.same o.no

  within : (t : Bool) (x y : V) → p x y → p (cond t x o.past) (cond t y o.past)
  within true x y h = h
  within false x y h = l.same o.past

  meets : (x y z w : V) → p x y → p z w → p (meet o x z) (meet o y w)
  meets x y z w h k = l.turns _ _ (l.joins _ _ _ _ (l.turns _ _ h) (l.turns _ _ k))

  mono : (a : Tree) (ss ts : List ℕ) → length ss ≡ length ts → ((i : ℕ) → Over a (step_at ss i) (step_at ts i)) → (i : ℕ) → p (value o ts a i) (value o ss a i)
  unfolding value
  mono (signal k) ss ts e h i = rw e (within (leb i (length ts)) _ _ (yes_no (has (step_at ss i) k) (has (step_at ts i) k) (h i)))
  mono (not a) ss ts e h i = l.turns _ _ (mono a ts ss (sym e) h i)
  mono (or a b) ss ts e h i = l.joins _ _ _ _ (mono a ss ts e (λ j. (h j).0) i) (mono b ss ts e (λ j. (h j).1) i)
  mono (next a) ss ts e h i = l.laters _ _ (mono a ss ts e h (suc i))
  mono (until a b) ss ts e h i =
      rw e (ahead_mono _ _ (λ j x y q. l.joins _ _ _ _ (mono b ss ts e (λ m. (h m).1) j) (meets _ _ _ _ (mono a ss ts e (λ m. (h m).0) j) q)) (length ts + 1 - i) i)
  mono (eventually a) ss ts e h i =
      rw e (ahead_mono _ _ (λ j x y q. l.joins _ _ _ _ (mono a ss ts e h j) q) (length ts + 1 - i) i)

pub monotone : {V : Type 0} (o : Ops V) (p : V → V → Type 0) → Laws o p → Monotone o p
monotone o p l a ss ts e h i = mono o p l a ss ts e h i
