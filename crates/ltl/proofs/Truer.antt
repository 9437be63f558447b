-- Truer steps by paths.
use Rattle.std.proofs.Common.{◌≡◌, ℕ, zero, suc, ◌+◌, ◌<◌, ◌≤◌, List, length, refl, inl, inr, ⊎_elim, arith}
use Rattle.std.proofs.lemmas.Bool.{cases_lt}
use Rattle.std.proofs.lemmas.List.{get_or_past}
use Rattle.ltl.specs.Steps.{step_at}
use Rattle.scales.specs.Scales.{Ops, Laws}
use Rattle.ltl.specs.Trees.{Tree, signal, not, or, next, until, eventually}
use Rattle.ltl.specs.Values.{value}
use Rattle.ltl.proofs.Over.{Over}
use Rattle.ltl.specs.Truer.{AtLeast, Truer}
use Rattle.ltl.proofs.Unfold.{after_same}
use Rattle.ltl.proofs.Mono.{monotone}

over : (t : Tree) (x y : ℕ) → AtLeast t x y → Over t x y
over (signal k) x y h = h.keeps k refl
over (not a) x y h = over a y x (record { keeps = h.adds_none; adds_none = h.keeps })
over (or a b) x y h = (
  over a x y (record { keeps = λ k p. h.keeps k (inl p); adds_none = λ k p. h.adds_none k (inl p) }),
  over b x y (record { keeps = λ k p. h.keeps k (inr p); adds_none = λ k p. h.adds_none k (inr p) }),
)
over (next a) x y h = over a x y (record { keeps = h.keeps; adds_none = h.adds_none })
over (until a b) x y h = (
  over a x y (record { keeps = λ k p. h.keeps k (inl p); adds_none = λ k p. h.adds_none k (inl p) }),
  over b x y (record { keeps = λ k p. h.keeps k (inr p); adds_none = λ k p. h.adds_none k (inr p) }),
)
over (eventually a) x y h = over a x y (record { keeps = h.keeps; adds_none = h.adds_none })

same : (t : Tree) (x : ℕ) → AtLeast t x x
same t x = record { keeps = λ k r e. e; adds_none = λ k r e. e }

-- outside the steps both lists have the empty step
everywhere : (t : Tree) (xs ys : List ℕ) → length xs ≡ length ys → ((i : ℕ) → 1 ≤ i → i ≤ length xs → AtLeast t (step_at xs i) (step_at ys i)) → (i : ℕ) → AtLeast t (step_at xs i) (step_at ys i)
everywhere t xs ys e h zero = same t 0
everywhere t xs ys e h (suc i) =
    ⊎_elim
    (λ l. h (suc i) (omega arith) l)
    (λ l. rw (get_or_past xs i 0 l, get_or_past ys i 0 (omega arith)) (same t 0))
    (cases_lt i (length xs))

pub order : {V : Type 0} (o : Ops V) (p : V → V → Type 0) → Laws o p → (t : Tree) (xs ys : List ℕ) → Truer t xs ys → (i : ℕ) → p (value o ys t i) (value o xs t i)
order o p l t xs ys h i = monotone o p l t xs ys h.size (λ j. over t (step_at xs j) (step_at ys j) (everywhere t xs ys h.size h.each j)) i

-- values after the position after the last step are those there
pub stays : {V : Type 0} (o : Ops V) (steps : List ℕ) (t : Tree) (i : ℕ) → length steps < i → value o steps t i ≡ value o steps t (length steps + 1)
stays o steps t i h = after_same o steps t i (length steps + 1) h (omega arith)
