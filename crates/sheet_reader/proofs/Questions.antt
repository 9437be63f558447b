-- Each question answered yes, in the words of the language.
use Rattle.std.proofs.Common.{◌≡◌, ℕ, Bool, true, false, cond, ◌&&◌, leb, List, [], ◌∷◌, length, is_some, Some, None, Ok, Err, Option, Result, sym, refl, ap, ◌∙◌}
use Rattle.std.proofs.lemmas.Bool.{and_parts, and_from, leb-true, le-leb}
use Rattle.sheet.specs.Parts.{Part}
use Rattle.sheet.specs.Tokens.{Sort, operator, keyword, name, token_of, reserved}
use Rattle.sheet.specs.declared.token.Operator.TheVariants.{One, Two}
use Rattle.sheet.specs.declared.token.Keyword.{Keyword}
use Rattle.sheet_reader.specs.Grammar.{Written, earlier, one, two, Symbol, spelt, formulas, wrong, bare, symbol, known}
use Rattle.sheet_reader.specs.Laws.{Spell}
use Rattle.sheet_reader.specs.Lines.{Fresh, Room, Operated}
use Rattle.sheet_reader.specs.Names.{row_named}
use Rattle.sheet_reader.specs.Sheets.{State, and_then, unless, in_formula, in_name, ask_keyword, name_fault, ask_name, ask_nothing, is_operator, ask_operator, symbols_of, first, ask_formula, ask_room}
use Rattle.sheet_faults.specs.declared.fault.FormulaFault.{FormulaFault}
use Rattle.sheet_faults.specs.declared.fault.NameFault.{NameFault}
use Rattle.sheet_faults.specs.declared.fault.SheetFault.{SheetFault}
use Rattle.sheet_reader.specs.declared.reading.Name.{Name}
use Rattle.sheet_reader.proofs.Forests.{single, of_one}
use Rattle.sheet_reader.proofs.Grammar.{formulas_one, yes_spelt, spelt_yes}
use Rattle.sheet_reader.proofs.Wholes.{asked_yes}

pub ok_same : {A E : Type 0} {x y : A} → ◌≡◌ {A = Result A E} (Ok x) (Ok y) → x ≡ y
ok_same e = cc

-- one question after another
pub then_ok : {A B E : Type 0} (r : Result A E) (go_on : A → Result B E) (b : B) → and_then r go_on ≡ Ok b → (a : A) × (r ≡ Ok a) × (go_on a ≡ Ok b)
then_ok (Ok a) go_on b e = (a, refl, e)
then_ok (Err x) go_on b e = cc

pub unless_ok : {E : Type 0} (o : Option E) → unless o ≡ Ok tt → o ≡ None
unless_ok None e = refl
unless_ok (Some x) e = cc

pub name_ok : {A : Type 0} (r : Result A NameFault) (a : A) → in_name r ≡ Ok a → r ≡ Ok a
name_ok (Ok x) a e = cc
name_ok (Err x) a e = cc

pub formula_ok : {A : Type 0} (r : Result A FormulaFault) (a : A) → in_formula r ≡ Ok a → r ≡ Ok a
formula_ok (Ok x) a e = cc
formula_ok (Err x) a e = cc

-- question 3
pub keyword_yes : (watch : Option ℕ) (p : ℕ) (x : Sort) (k : Keyword) → ask_keyword watch p x ≡ Ok k → (x ≡ keyword k) × (watch ≡ None)
keyword_yes watch p (operator o) k e = cc
keyword_yes None p (keyword j) k e = (cc, refl)
keyword_yes (Some r) p (keyword j) k e = cc
keyword_yes watch p (name t q) k e = cc

-- question 4
chosen : {X : Type 0} (a b c : Bool) (x y z : X) → cond a (Some x) (cond b (Some y) (cond c None (Some z))) ≡ None → (a ≡ false) × (b ≡ false) × (c ≡ true)
chosen true b c x y z e = cc
chosen false true c x y z e = cc
chosen false false true x y z e = (refl, refl, refl)
chosen false false false x y z e = cc

no_some : {X : Type 0} (o : Option X) → is_some o ≡ false → o ≡ None
no_some None e = refl
no_some (Some x) e = cc

module _ (sheet : List ℕ) (names : List Name) where
  pub fresh_from : (w : Part) → name_fault sheet names w ≡ None → Fresh sheet names w.text
  fresh_from w e =
      let c = chosen (reserved w.text) (is_some (row_named sheet names w.text)) (leb (length w.text) 16) _ _ _ e in
      record { unreserved = c.0; undeclared = no_some (row_named sheet names w.text) c.1; short = leb-true (length w.text) 16 c.2 }

  pub from_fresh : (w : Part) → Fresh sheet names w.text → name_fault sheet names w ≡ None
  from_fresh w f = let l = le-leb (length w.text) 16 f.short in rw (f.unreserved, f.undeclared, l)

  pub name_yes : (ws : List Part) (end : ℕ) (n : Part × List Part) → ask_name sheet names ws end ≡ Ok n → (ws ≡ n.0 ∷ n.1) × Fresh sheet names n.0.text
  name_yes [] end n e = cc
  name_yes (w ∷ ws) end n e =
      let t = then_ok (unless (name_fault sheet names w)) (λ _. Ok (w, ws)) n e in
      let is : (w, ws) ≡ n = ok_same t.2 in
      let f = fresh_from w (unless_ok (name_fault sheet names w) t.1) in
      ((ap (λ (m : Part × List Part). m.0 ∷ m.1) is), rw (← is) f)

  pub yes_name : (w : Part) (ws : List Part) (end : ℕ) → Fresh sheet names w.text → ask_name sheet names (w ∷ ws) end ≡ Ok (w, ws)
  yes_name w ws end f = ap (λ o. and_then (unless o) (λ _. Ok (w, ws))) (from_fresh w f)

  -- question 5
  pub formula_yes : (ws : List Part) (end : ℕ) (t : Written) → ask_formula sheet names ws end ≡ Ok t → Spell (symbols_of sheet names ws) t
  formula_yes ws end t e =
      let ss = symbols_of sheet names ws in
      let q = then_ok (unless (wrong ss end 1)) (λ _. Ok (first (formulas (bare ss)))) t e in
      let f = yes_spelt ss end 1 (unless_ok (wrong ss end 1) q.1) in
      let v = single (bare ss) f in
      let read : formulas (bare ss) ≡ v.0 ∷ [] = ap formulas (sym v.1) ∙ formulas_one v.0 in
      let same : v.0 ≡ t = sym (ap first read) ∙ ok_same q.2 in
      sym v.1 ∙ ap spelt same

  pub yes_formula : (ws : List Part) (end : ℕ) (t : Written) → Spell (symbols_of sheet names ws) t → ask_formula sheet names ws end ≡ Ok t
  yes_formula ws end t e =
      let ss = symbols_of sheet names ws in
      asked_yes sheet names ws end t (spelt_yes ss end 1 (of_one t (bare ss) (sym e))) (ap formulas e ∙ formulas_one t)

pub nothing_yes : (ws : List Part) → ask_nothing ws ≡ Ok tt → ws ≡ []
nothing_yes [] e = refl
nothing_yes (w ∷ ws) e = cc

-- a formula whose first word is an operator, and no other, has an operator
operated_at : (find : List ℕ → Option ℕ) (x : Sort) (ss : List Symbol) (t : Written) → is_operator x ≡ true → symbol find x ∷ ss ≡ spelt t → Operated t
operated_at find (operator (One u)) ss (earlier r) h e = cc
operated_at find (operator (Two b)) ss (earlier r) h e = cc
operated_at find (operator o) ss (one u t) h e = tt
operated_at find (operator o) ss (two b l r) h e = tt
operated_at find (keyword k) ss t h e = cc
operated_at find (name v p) ss t h e = cc

operator_at : (find : List ℕ → Option ℕ) (x : Sort) (ss : List Symbol) (t : Written) → Operated t → symbol find x ∷ ss ≡ spelt t → is_operator x ≡ true
operator_at find (operator o) ss t h e = refl
operator_at find (keyword k) ss (earlier r) h e = absurd h
operator_at find (keyword k) ss (one u t) h e = cc
operator_at find (keyword k) ss (two b l r) h e = cc
operator_at find (name v p) ss t h e = no_name (find v) t h e
  where
    no_name : (o : Option ℕ) (t : Written) → Operated t → known o ∷ ss ≡ spelt t → is_operator (name v p) ≡ true
    no_name o (earlier r) h e = absurd h
    no_name None (one u t) h e = cc
    no_name (Some r) (one u t) h e = cc
    no_name None (two b l r) h e = cc
    no_name (Some j) (two b l r) h e = cc

operator_told : (b : Bool) (f : FormulaFault) → ◌≡◌ {A = Result (Unit {0}) FormulaFault} (cond b (Ok tt) (Err f)) (Ok tt) → b ≡ true
operator_told true f e = refl
operator_told false f e = cc

module _ (sheet : List ℕ) (names : List Name) where
  pub operator_yes : (ws : List Part) (end : ℕ) (t : Written) → ask_operator ws end ≡ Ok tt → Spell (symbols_of sheet names ws) t → Operated t
  operator_yes [] end t e s = cc
  operator_yes (w ∷ ws) end t e s =
      operated_at (row_named sheet names) (token_of w.text w.at) (bare (symbols_of sheet names ws)) t (operator_told (is_operator (token_of w.text w.at)) _ e) s

  pub yes_operator : (ws : List Part) (end : ℕ) (t : Written) → Operated t → Spell (symbols_of sheet names ws) t → ask_operator ws end ≡ Ok tt
  yes_operator [] end (earlier r) h s = absurd h
  yes_operator [] end (one u t) h s = cc
  yes_operator [] end (two b l r) h s = cc
  yes_operator (w ∷ ws) end t h s =
      let y = operator_at (row_named sheet names) (token_of w.text w.at) (bare (symbols_of sheet names ws)) t h s in
      rw y

-- question 6
room_told : (b : Bool) (p : ℕ) (st st' : State) (f : SheetFault) → ◌≡◌ {A = Result State SheetFault} (cond b (Ok st) (Err f)) (Ok st') → (b ≡ true) × (st' ≡ st)
room_told true p st st' f e = (refl, sym (ok_same e))
room_told false p st st' f e = cc

pub room_yes : (p : ℕ) (st st' : State) → ask_room p st ≡ Ok st' → (st' ≡ st) × Room st'
room_yes p st st' e =
    let r = room_told (leb st.width 32 && leb (length st.rows) 64) p st st' _ e in
    let b = and_parts (leb st.width 32) (leb (length st.rows) 64) r.0 in
    (r.1, rw r.1 (record { signals = leb-true st.width 32 b.0; rows = leb-true (length st.rows) 64 b.1 }))

pub yes_room : (p : ℕ) (st : State) → Room st → ask_room p st ≡ Ok st
yes_room p st r =
    let both = and_from (leb st.width 32) (leb (length st.rows) 64) (le-leb st.width 32 r.signals) (le-leb (length st.rows) 64 r.rows) in
    rw both
