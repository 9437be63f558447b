-- One step of the prefix reader, over the words.
use Rattle.std.proofs.Common.{◌≡◌, ℕ, suc, ◌+◌, ◌-◌, ◌<◌, ◌≤◌, List, ◌∷◌, ◌++◌, length, take, Option, sym, refl, ap, ◌∙◌, subst, append_assoc, append-nil, arith, take_all}
use Rattle.ltl.specs.declared.row.Row.{Row}
use Rattle.sheet.specs.Parts.{Part, part}
use Rattle.sheet.specs.Tokens.{operator, name, token_of}
use Rattle.sheet.specs.declared.token.Operator.TheVariants.{One, Two}
use Rattle.sheet.specs.declared.token.Unary.{Unary}
use Rattle.sheet.specs.declared.token.Unary.TheVariants as unary
use Rattle.sheet.specs.declared.token.Binary.{Binary}
use Rattle.sheet.specs.declared.token.Binary.TheVariants as binary
use Rattle.sheet_reader.specs.Drafts.{Got}
use Rattle.sheet_reader.specs.Grammar.{earlier, one, two, Symbol, takes0, takes1, takes2, spelt, wrong, bare, symbol, known}
use Rattle.sheet_reader.specs.Names.{row_named}
use Rattle.sheet_reader.specs.Sheets.{symbols_of}
use Rattle.sheet_reader.specs.Rows.{size, size1, size2, top, made, rows1, rows2}
use Rattle.sheet_reader.specs.declared.reading.Name.{Name}
use Rattle.sheet_reader.proofs.Drafts.{and_more}

pub got_earlier : {ws ws' : List (Symbol × ℕ)} {p r : ℕ} (end n : ℕ) (k : List Row) → ws ≡ (takes0 r, p) ∷ ws' → length k ≤ 64 → Got ws ws' end n k n k r
got_earlier {r = r} end n k e l = record {
  formula = earlier r;
  spells = ap bare e;
  passes = λ m. ap (λ v. wrong v end (suc m)) e;
  added = record { count = omega arith; rows = sym (ap (take 64) (append-nil k) ∙ take_all 64 k l); number = refl };
}

pub got_one : {ws ws₁ ws₂ : List (Symbol × ℕ)} {end p n n₁ n₂ a row : ℕ} {k k₁ k₂ : List Row} {u : Unary} → ws ≡ (takes1 u, p) ∷ ws₁ → Got ws₁ ws₂ end n k n₁ k₁ a → n₂ ≡ n₁ + size1 u → k₂ ≡ take 64 (k₁ ++ rows1 u a n₁) → row ≡ n₁ + size1 u - 1 → Got ws ws₂ end n k n₂ k₂ row
got_one {end = end} {n = n} {k = k} {u = u} e g c r last =
    let t = g.formula in
    let d = g.added in
    record {
      formula = one u t;
      spells = ap bare e ∙ ap (λ l. takes1 u ∷ l) g.spells;
      passes = λ m. ap (λ v. wrong v end (suc m)) e ∙ g.passes m;
      added = record {
        count = omega (arith, d.count);
        rows = and_more k (made n t) (rows1 u (top n t) (n + size t)) d.rows (rw (← d.number, ← d.count) r);
        number = last ∙ ap (λ x. x - 1) (omega (arith, d.count));
      };
    }

pub got_two : {ws ws₁ ws₂ ws₃ : List (Symbol × ℕ)} {end p n n₁ n₂ n₃ a b row : ℕ} {k k₁ k₂ k₃ : List Row} {o : Binary} → ws ≡ (takes2 o, p) ∷ ws₁ → Got ws₁ ws₂ end n k n₁ k₁ a → Got ws₂ ws₃ end n₁ k₁ n₂ k₂ b → n₃ ≡ n₂ + size2 o → k₃ ≡ take 64 (k₂ ++ rows2 o a b n₂) → row ≡ n₂ + size2 o - 1 → Got ws ws₃ end n k n₃ k₃ row
got_two {ws₃ = ws₃} {end = end} {n = n} {n₁ = n₁} {n₂ = n₂} {a = a} {b = b} {k = k} {o = o} e g h c r last =
    let t = g.formula in
    let v = h.formula in
    let d = g.added in
    let f = h.added in
    let sum : n₂ ≡ n + size t + size v = omega (arith, d.count, f.count) in
    let right = and_more k (made n t) (made n₁ v) d.rows f.rows in
    let all = and_more k (made n t ++ made n₁ v) (rows2 o a b n₂) right r in
    record {
      formula = two o t v;
      spells = ap bare e ∙ ap (λ l. takes2 o ∷ l) (g.spells ∙ ap (λ l. spelt t ++ l) h.spells ∙ sym (append_assoc (spelt t) (spelt v) (bare ws₃)));
      passes = λ m. ap (λ v. wrong v end (suc m)) e ∙ g.passes (suc m) ∙ h.passes m;
      added = record {
        count = omega (arith, d.count, f.count);
        rows = all ∙ ap (λ l. take 64 (k ++ l)) (append_assoc (made n t) (made n₁ v) (rows2 o a b n₂) ∙ ap (λ l. made n t ++ l) (rw (f.number, sum, d.number, d.count) refl));
        number = last ∙ ap (λ x. x - 1) (omega (arith, d.count, f.count));
      };
    }

-- the same up to an end that is said to be another
pub got_end : {ws ws' : List (Symbol × ℕ)} {end e n n' row : ℕ} {k k' : List Row} → e ≡ end → Got ws ws' e n k n' k' row → Got ws ws' end n k n' k' row
got_end {ws} {ws'} {n = n} {n' = n'} {row = row} {k = k} {k' = k'} same g = subst (λ e. Got ws ws' e n k n' k' row) same g

-- the first of some words
module _ (sheet : List ℕ) (names : List Name) {ws ws' : List Part} {t : List ℕ} {p : ℕ} (cut : ws ≡ part t p ∷ ws') where
  pub word_one : {u : Unary} → operator (One u) ≡ token_of t p → symbols_of sheet names ws ≡ (takes1 u, p) ∷ symbols_of sheet names ws'
  word_one e = ap (symbols_of sheet names) cut ∙ ap (λ x. (symbol (row_named sheet names) x, p) ∷ symbols_of sheet names ws') (sym e)

  pub word_two : {o : Binary} → operator (Two o) ≡ token_of t p → symbols_of sheet names ws ≡ (takes2 o, p) ∷ symbols_of sheet names ws'
  word_two e = ap (symbols_of sheet names) cut ∙ ap (λ x. (symbol (row_named sheet names) x, p) ∷ symbols_of sheet names ws') (sym e)

  pub word_name : {v : List ℕ} {q : ℕ} (o : Option ℕ) → name v q ≡ token_of t p → row_named sheet names v ≡ o → symbols_of sheet names ws ≡ (known o, p) ∷ symbols_of sheet names ws'
  word_name {v} o e f = ap (symbols_of sheet names) cut ∙ ap (λ x. (symbol (row_named sheet names) x, p) ∷ symbols_of sheet names ws') (sym e) ∙ ap (λ x. (known x, p) ∷ symbols_of sheet names ws') f

pub few1 : (u : Unary) → (0 < size1 u) × (size1 u ≤ 4)
few1 unary.Not = omega arith
few1 unary.Next = omega arith
few1 unary.Eventually = omega arith
few1 unary.Always = omega arith

pub few2 : (o : Binary) → (0 < size2 o) × (size2 o ≤ 4)
few2 binary.Or = omega arith
few2 binary.And = omega arith
few2 binary.Implies = omega arith
few2 binary.Until = omega arith
