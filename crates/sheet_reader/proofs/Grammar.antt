-- The grammar: prefix notation is read in one way, question 5 is answered yes for formulas alone, and its place.
use Rattle.std.proofs.Common.{◌≡◌, ℕ, zero, suc, ◌⊎◌, List, [], ◌∷◌, ◌++◌, length, Some, None, Option, sym, refl, ap, ◌∙◌, inl, inr, append_assoc, append-nil}
use Rattle.std.proofs.lemmas.List.{append_cancel_left}
use Rattle.sheet_faults.specs.Faults.{formula_refusal}
use Rattle.sheet_reader.specs.Grammar.{Written, earlier, one, two, Symbol, spelt, formulas, onto1, onto2, wrong, stopped, or_else, after, bare}
use Rattle.sheet_reader.specs.Laws.{Unambiguous, Begins, FirstWrong}
use Rattle.sheet_faults.specs.declared.fault.FormulaFault.{FormulaFault}
use Rattle.sheet_reader.proofs.Forests.{spelts, Forest, push, pop, stop, nothing, single, of_one}

some_same : {A : Type 0} {x y : A} → ◌≡◌ {A = Option A} (Some x) (Some y) → x ≡ y
some_same e = cc

pub formulas_spelt : (t : Written) (ss : List Symbol) → formulas (spelt t ++ ss) ≡ t ∷ formulas ss
formulas_spelt (earlier r) ss = refl
formulas_spelt (one u t) ss = ap (onto1 u) (formulas_spelt t ss)
formulas_spelt (two b l r) ss =
    ap (λ x. onto2 b (formulas x)) (append_assoc (spelt l) (spelt r) ss) ∙ ap (onto2 b) (formulas_spelt l (spelt r ++ ss) ∙ ap (λ x. l ∷ x) (formulas_spelt r ss))

pub formulas_one : (t : Written) → formulas (spelt t) ≡ t ∷ []
formulas_one t = ap formulas (sym (append-nil (spelt t))) ∙ formulas_spelt t []

pub unambiguous : Unambiguous
unambiguous t t' ss ss' e =
    let both : t ∷ formulas ss ≡ t' ∷ formulas ss' = sym (formulas_spelt t ss) ∙ ap formulas e ∙ formulas_spelt t' ss' in
    let same : t ≡ t' = cc in
    (same, append_cancel_left (spelt t) ss ss' (e ∙ ap (λ x. spelt x ++ ss') (sym same)))

-- question 5 is answered yes exactly where so many formulas are spelt
yes_at : (w : Symbol × ℕ) (ws : List (Symbol × ℕ)) (end k : ℕ) → ((n : ℕ) → wrong ws end n ≡ None → Forest n (bare ws)) → (o : Option ℕ) → after k w.0 ≡ o → or_else o (stopped k w.1) (wrong ws end) ≡ None → Forest k (bare (w ∷ ws))
yes_at w ws end k ih None a e = cc
yes_at w ws end k ih (Some n) a e = push k w.0 n (bare ws) a (ih n e)

pub yes_spelt : (ws : List (Symbol × ℕ)) (end k : ℕ) → wrong ws end k ≡ None → Forest k (bare ws)
yes_spelt [] end zero e = record { ts = []; count = refl; is = refl }
yes_spelt [] end (suc k) e = cc
yes_spelt (w ∷ ws) end k e = yes_at w ws end k (λ n. yes_spelt ws end n) (after k w.0) refl e

spelt_at : (w : Symbol × ℕ) (ws : List (Symbol × ℕ)) (end k : ℕ) → ((n : ℕ) → Forest n (bare ws) → wrong ws end n ≡ None) → Forest k (bare (w ∷ ws)) → (o : Option ℕ) → after k w.0 ≡ o → or_else o (stopped k w.1) (wrong ws end) ≡ None
spelt_at w ws end k ih f None a = absurd (stop k w.0 (bare ws) a f)
spelt_at w ws end k ih f (Some n) a = ih n (pop k w.0 n (bare ws) a f)

pub spelt_yes : (ws : List (Symbol × ℕ)) (end k : ℕ) → Forest k (bare ws) → wrong ws end k ≡ None
spelt_yes [] end zero f = refl
spelt_yes [] end (suc k) f = absurd (nothing k f)
spelt_yes (w ∷ ws) end k f = spelt_at w ws end k (λ n. spelt_yes ws end n) f (after k w.0) refl

-- the words so far are begun by k formulas
abbrev BeginsN : ℕ → List Symbol → Type 0
BeginsN k ss = (rest : List Symbol) × Forest k (ss ++ rest)

leaves : ℕ → List Written
leaves zero = []
leaves (suc k) = earlier 0 ∷ leaves k

leaves_count : (k : ℕ) → length (leaves k) ≡ k
unfolding leaves
leaves_count zero = refl
leaves_count (suc k) = ap suc (leaves_count k)

starts : (k : ℕ) → BeginsN k []
starts k = (spelts (leaves k), record { ts = leaves k; count = leaves_count k; is = refl })

record Stops (ws : List (Symbol × ℕ)) (k p : ℕ) : Type 0 where
  before : List (Symbol × ℕ)
  word : Symbol × ℕ
  behind : List (Symbol × ℕ)
  splits : ws ≡ before ++ word ∷ behind
  place : p ≡ word.1
  could : BeginsN k (bare before)
  cannot : BeginsN k (bare before ++ word.0 ∷ []) → ⊥

record Lacks (ws : List (Symbol × ℕ)) (end k p : ℕ) : Type 0 where
  place : p ≡ end
  could : BeginsN k (bare ws)
  none : Forest k (bare ws) → ⊥

on_stops : (w : Symbol × ℕ) (ws : List (Symbol × ℕ)) (k n p : ℕ) → after k w.0 ≡ Some n → Stops ws n p → Stops (w ∷ ws) k p
on_stops w ws k n p a s = record {
  before = w ∷ s.before;
  word = s.word;
  behind = s.behind;
  splits = ap (λ l. w ∷ l) s.splits;
  place = s.place;
  could = (s.could.0, push k w.0 n _ a s.could.1);
  cannot = λ b. s.cannot (b.0, pop k w.0 n _ a b.1);
}

on_lacks : (w : Symbol × ℕ) (ws : List (Symbol × ℕ)) (end k n p : ℕ) → after k w.0 ≡ Some n → Lacks ws end n p → Lacks (w ∷ ws) end k p
on_lacks w ws end k n p a s = record {
  place = s.place;
  could = (s.could.0, push k w.0 n _ a s.could.1);
  none = λ f. s.none (pop k w.0 n _ a f);
}

on : (w : Symbol × ℕ) (ws : List (Symbol × ℕ)) (end k n p : ℕ) → after k w.0 ≡ Some n → Stops ws n p ⊎ Lacks ws end n p → Stops (w ∷ ws) k p ⊎ Lacks (w ∷ ws) end k p
on w ws end k n p a (inl s) = inl (on_stops w ws k n p a s)
on w ws end k n p a (inr l) = inr (on_lacks w ws end k n p a l)

place_of : FormulaFault → ℕ
place_of f = (formula_refusal f).place

stopped_place : (k p : ℕ) → place_of (stopped k p) ≡ p
unfolding place_of
stopped_place zero p = refl
stopped_place (suc k) p = refl

here : (w : Symbol × ℕ) (ws : List (Symbol × ℕ)) (k : ℕ) (f : FormulaFault) → after k w.0 ≡ None → stopped k w.1 ≡ f → Stops (w ∷ ws) k (place_of f)
here w ws k f a e = record {
  before = [];
  word = w;
  behind = ws;
  splits = refl;
  place = ap place_of (sym e) ∙ stopped_place k w.1;
  could = starts k;
  cannot = λ b. stop k w.0 b.0 a b.1;
}

no_at : (w : Symbol × ℕ) (ws : List (Symbol × ℕ)) (end k : ℕ) (f : FormulaFault) → ((n : ℕ) → wrong ws end n ≡ Some f → Stops ws n (place_of f) ⊎ Lacks ws end n (place_of f)) → (o : Option ℕ) → after k w.0 ≡ o → or_else o (stopped k w.1) (wrong ws end) ≡ Some f → Stops (w ∷ ws) k (place_of f) ⊎ Lacks (w ∷ ws) end k (place_of f)
no_at w ws end k f ih None a e = inl (here w ws k f a (cc))
no_at w ws end k f ih (Some n) a e = on w ws end k n (place_of f) a (ih n e)

no_place : (ws : List (Symbol × ℕ)) (end k : ℕ) (f : FormulaFault) → wrong ws end k ≡ Some f → Stops ws k (place_of f) ⊎ Lacks ws end k (place_of f)
unfolding place_of
no_place [] end zero f e = cc
no_place [] end (suc k) f e = inr (record { place = sym (ap place_of (some_same e)); could = starts (suc k); none = nothing k })
no_place (w ∷ ws) end k f e = no_at w ws end k f (λ n. no_place ws end n f) (after k w.0) refl e

to : (ss : List Symbol) → BeginsN 1 ss → Begins ss
to ss b = let s = single (ss ++ b.0) b.1 in (s.0, (b.0, s.1))

back : (ss : List Symbol) → Begins ss → BeginsN 1 ss
back ss b = (b.1.0, of_one b.0 (ss ++ b.1.0) b.1.1)

-- the place told by question 5
pub first_wrong : (ws : List (Symbol × ℕ)) (end : ℕ) (f : FormulaFault) → wrong ws end 1 ≡ Some f → FirstWrong ws end (formula_refusal f).place
unfolding place_of
first_wrong ws end f e = decide (no_place ws end 1 f e)
  where
    decide : Stops ws 1 (place_of f) ⊎ Lacks ws end 1 (place_of f) → FirstWrong ws end (formula_refusal f).place
    decide (inl s) = inl (record {
      before = s.before;
      word = s.word;
      behind = s.behind;
      splits = s.splits;
      place = s.place;
      could = to (bare s.before) s.could;
      cannot = λ b. s.cannot (back (bare s.before ++ s.word.0 ∷ []) b);
    })
    decide (inr l) = inr (record { place = l.place; could = to (bare ws) l.could; none = λ t e. l.none (of_one t (bare ws) (sym e)) })
