-- Words that spell several formulas, one behind the other, word by word.
use Rattle.std.proofs.Common.{◌≡◌, ℕ, zero, suc, List, [], ◌∷◌, ◌++◌, length, Some, None, sym, refl, ap, ◌∙◌, subst, append_assoc, append-nil, arith}
use Rattle.sheet.specs.declared.token.Unary.{Unary}
use Rattle.sheet.specs.declared.token.Binary.{Binary}
use Rattle.sheet_reader.specs.Grammar.{Written, earlier, one, two, Symbol, takes0, takes1, takes2, never, spelt, after}

abbrev pub spelts : List Written → List Symbol
spelts [] = []
spelts (t ∷ ts) = spelt t ++ spelts ts

-- ss spell k formulas
pub record Forest (k : ℕ) (ss : List Symbol) : Type 0 where
  pub ts : List Written
  pub count : length ts ≡ k
  pub is : spelts ts ≡ ss

push1 : (u : Unary) (k : ℕ) (ss : List Symbol) (ts : List Written) → length ts ≡ suc k → spelts ts ≡ ss → Forest (suc k) (takes1 u ∷ ss)
push1 u k ss [] c e = absurd (omega arith)
push1 u k ss (t ∷ ts) c e = record { ts = one u t ∷ ts; count = c; is = ap (λ l. takes1 u ∷ l) e }

push2 : (b : Binary) (k : ℕ) (ss : List Symbol) (ts : List Written) → length ts ≡ suc (suc k) → spelts ts ≡ ss → Forest (suc k) (takes2 b ∷ ss)
push2 b k ss [] c e = absurd (omega arith)
push2 b k ss (t ∷ []) c e = absurd (omega arith)
push2 b k ss (t ∷ v ∷ ts) c e = record { ts = two b t v ∷ ts; count = omega arith; is = ap (λ l. takes2 b ∷ l) (append_assoc (spelt t) (spelt v) (spelts ts) ∙ e) }

-- a word before the others
pub push : (k : ℕ) (s : Symbol) (n : ℕ) (ss : List Symbol) → after k s ≡ Some n → Forest n ss → Forest k (s ∷ ss)
push zero s n ss a f = cc
push (suc k) (takes0 r) n ss a f = let e : k ≡ n = cc in record { ts = earlier r ∷ f.ts; count = omega (arith, f.count); is = ap (λ l. takes0 r ∷ l) f.is }
push (suc k) (takes1 u) n ss a f = let e : suc k ≡ n = cc in push1 u k ss f.ts (omega (arith, f.count)) f.is
push (suc k) (takes2 b) n ss a f = let e : suc (suc k) ≡ n = cc in push2 b k ss f.ts (omega (arith, f.count)) f.is
push (suc k) never n ss a f = cc

pop0 : (r k : ℕ) (ss : List Symbol) (ts : List Written) → length ts ≡ suc k → spelts ts ≡ takes0 r ∷ ss → Forest k ss
pop0 r k ss [] c e = absurd (omega arith)
pop0 r k ss (earlier x ∷ ts) c e = record { ts = ts; count = omega arith; is = cc }
pop0 r k ss (one u t ∷ ts) c e = cc
pop0 r k ss (two b l v ∷ ts) c e = cc

pop1 : (w : Unary) (k : ℕ) (ss : List Symbol) (ts : List Written) → length ts ≡ suc k → spelts ts ≡ takes1 w ∷ ss → Forest (suc k) ss
pop1 w k ss [] c e = absurd (omega arith)
pop1 w k ss (earlier x ∷ ts) c e = cc
pop1 w k ss (one u t ∷ ts) c e = record { ts = t ∷ ts; count = c; is = cc }
pop1 w k ss (two b l v ∷ ts) c e = cc

pop2 : (w : Binary) (k : ℕ) (ss : List Symbol) (ts : List Written) → length ts ≡ suc k → spelts ts ≡ takes2 w ∷ ss → Forest (suc (suc k)) ss
pop2 w k ss [] c e = absurd (omega arith)
pop2 w k ss (earlier x ∷ ts) c e = cc
pop2 w k ss (one u t ∷ ts) c e = cc
pop2 w k ss (two b l v ∷ ts) c e = let q : (spelt l ++ spelt v) ++ spelts ts ≡ ss = cc in record { ts = l ∷ v ∷ ts; count = omega arith; is = sym (append_assoc (spelt l) (spelt v) (spelts ts)) ∙ q }

-- the words after the first
pub pop : (k : ℕ) (s : Symbol) (n : ℕ) (ss : List Symbol) → after k s ≡ Some n → Forest k (s ∷ ss) → Forest n ss
pop zero s n ss a f = cc
pop (suc k) (takes0 r) n ss a f = let e : k ≡ n = cc in subst (λ m. Forest m ss) e (pop0 r k ss f.ts f.count f.is)
pop (suc k) (takes1 u) n ss a f = let e : suc k ≡ n = cc in subst (λ m. Forest m ss) e (pop1 u k ss f.ts f.count f.is)
pop (suc k) (takes2 b) n ss a f = let e : suc (suc k) ≡ n = cc in subst (λ m. Forest m ss) e (pop2 b k ss f.ts f.count f.is)
pop (suc k) never n ss a f = cc

stop0 : (s : Symbol) (ss : List Symbol) (ts : List Written) → length ts ≡ 0 → spelts ts ≡ s ∷ ss → ⊥
stop0 s ss [] c e = cc
stop0 s ss (t ∷ ts) c e = omega arith

stopN : (ss : List Symbol) (ts : List Written) → spelts ts ≡ never ∷ ss → ⊥
stopN ss [] e = cc
stopN ss (earlier x ∷ ts) e = cc
stopN ss (one u t ∷ ts) e = cc
stopN ss (two b l v ∷ ts) e = cc

-- a word that cannot be the first
pub stop : (k : ℕ) (s : Symbol) (ss : List Symbol) → after k s ≡ None → Forest k (s ∷ ss) → ⊥
stop zero s ss a f = stop0 s ss f.ts f.count f.is
stop (suc k) (takes0 r) ss a f = cc
stop (suc k) (takes1 u) ss a f = cc
stop (suc k) (takes2 b) ss a f = cc
stop (suc k) never ss a f = stopN ss f.ts f.is

none_at : (k : ℕ) (ts : List Written) → length ts ≡ suc k → spelts ts ≡ [] → ⊥
none_at k [] c e = omega arith
none_at k (earlier r ∷ ts) c e = cc
none_at k (one u t ∷ ts) c e = cc
none_at k (two b l v ∷ ts) c e = cc

-- no word spells no formula
pub nothing : (k : ℕ) → Forest (suc k) [] → ⊥
nothing k f = none_at k f.ts f.count f.is

single_at : (ss : List Symbol) (ts : List Written) → length ts ≡ 1 → spelts ts ≡ ss → (t : Written) × (spelt t ≡ ss)
single_at ss [] c e = absurd (omega arith)
single_at ss (t ∷ []) c e = (t, sym (append-nil (spelt t)) ∙ e)
single_at ss (t ∷ v ∷ ts) c e = absurd (omega arith)

-- one formula
pub single : (ss : List Symbol) → Forest 1 ss → (t : Written) × (spelt t ≡ ss)
single ss f = single_at ss f.ts f.count f.is

pub of_one : (t : Written) (ss : List Symbol) → spelt t ≡ ss → Forest 1 ss
of_one t ss e = record { ts = t ∷ []; count = refl; is = append-nil (spelt t) ∙ e }
