-- Where question 5 is answered no.
use Rattle.std.proofs.Common.{◌≡◌, ℕ, suc, Bool, true, false, cond, ◌&&◌, leb, ◌⊎◌, List, [], ◌∷◌, ◌++◌, length, Some, None, Ok, Err, Option, Result, sym, refl, ap, inl, inr}
use Rattle.sheet.specs.Parts.{Part}
use Rattle.sheet.specs.Tokens.{Sort, operator, keyword, name, token_of}
use Rattle.sheet.specs.declared.token.Keyword.{Keyword}
use Rattle.sheet.specs.declared.token.Keyword.TheVariants as key
use Rattle.sheet_faults.specs.Faults.{formula_refusal}
use Rattle.sheet_reader.specs.Grammar.{formulas, wrong, bare}
use Rattle.sheet_reader.specs.Laws.{FirstWrong}
use Rattle.sheet_reader.specs.Lines.{Makes}
use Rattle.sheet_reader.specs.Promises.{LineAt, NoOperatorAt, SurplusAt, WrongName, WrongBy, WrongLine}
use Rattle.sheet_reader.specs.Sheets.{State, start, Reading, and_then, unless, in_formula, in_name, allowed, foreign_byte, lines, words, end_of, ask_keyword, ask_name, ask_nothing, is_operator, ask_operator, symbols_of, first, ask_formula, ask_room, with_signal, with_named, with_watch, by_keyword, by_words, by_lines, finished, ask_length, read_sheet}
use Rattle.sheet_faults.specs.declared.fault.FormulaFault.{FormulaFault}
use Rattle.sheet_faults.specs.declared.fault.FormulaFault.TheVariants as formula
use Rattle.sheet_faults.specs.declared.fault.NameFault.{NameFault}
use Rattle.sheet_faults.specs.declared.fault.WordFault.TheVariants as word
use Rattle.sheet_faults.specs.declared.fault.SheetFault.{SheetFault}
use Rattle.sheet_faults.specs.declared.fault.SheetFault.TheVariants as sheet
use Rattle.sheet_reader.specs.declared.reading.Name.{Name}
use Rattle.sheet_reader.proofs.Grammar.{first_wrong}
use Rattle.sheet_reader.proofs.Lines.{adds_from}
use Rattle.sheet_reader.proofs.Questions.{keyword_yes, name_yes, name_ok}

-- the first refusal of two questions
data Refused {A B E : Type 0} (r : Result A E) (go_on : A → Result B E) (e : E) : Type 0 where
  at_first : r ≡ Err e → Refused r go_on e
  later : (a : A) → r ≡ Ok a → go_on a ≡ Err e → Refused r go_on e

then_err : {A B E : Type 0} (r : Result A E) (go_on : A → Result B E) (e : E) → and_then r go_on ≡ Err e → Refused r go_on e
then_err (Ok a) go_on e q = later a refl q
then_err (Err x) go_on e q = at_first (cc)

formula_err : {A : Type 0} (r : Result A FormulaFault) (f : FormulaFault) → in_formula r ≡ Err (sheet.Formula f) → r ≡ Err f
formula_err (Ok a) f e = cc
formula_err (Err x) f e = cc

-- these questions have other faults
no_name_fault : {A : Type 0} (r : Result A NameFault) (f : FormulaFault) → in_name r ≡ Err (sheet.Formula f) → ⊥
no_name_fault (Ok a) f e = cc
no_name_fault (Err x) f e = cc

no_keyword_fault : (watch : Option ℕ) (p : ℕ) (x : Sort) (f : FormulaFault) → ask_keyword watch p x ≡ Err (sheet.Formula f) → ⊥
no_keyword_fault watch p (operator o) f e = cc
no_keyword_fault None p (keyword k) f e = cc
no_keyword_fault (Some r) p (keyword k) f e = cc
no_keyword_fault watch p (name t q) f e = cc

no_room_at : (b : Bool) (p : ℕ) (st : State) (f : FormulaFault) → ◌≡◌ {A = Result State SheetFault} (cond b (Ok st) (Err (sheet.TooMany p))) (Err (sheet.Formula f)) → ⊥
no_room_at true p st f e = cc
no_room_at false p st f e = cc

no_room_fault : (p : ℕ) (st : State) (f : FormulaFault) → ask_room p st ≡ Err (sheet.Formula f) → ⊥
no_room_fault p st f e = no_room_at (leb st.width 32 && leb (length st.rows) 64) p st f e

-- question 5 on words
formula_no : (s : List ℕ) (names : List Name) (ws : List Part) (end : ℕ) (f : FormulaFault) → ask_formula s names ws end ≡ Err f → FirstWrong (symbols_of s names ws) end (formula_refusal f).place
formula_no s names ws end f e = first_wrong (symbols_of s names ws) end f (told (wrong (symbols_of s names ws) end 1) e)
  where
    told : (o : Option FormulaFault) → and_then (unless o) (λ _. Ok (first (formulas (bare (symbols_of s names ws))))) ≡ Err f → o ≡ Some f
    told None q = cc
    told (Some x) q = cc

operator_at : (w : Part) (ws : List Part) (b : Bool) (f : FormulaFault) → is_operator (token_of w.text w.at) ≡ b → ◌≡◌ {A = Result (Unit {0}) FormulaFault} (cond b (Ok tt) (Err (formula.NoOperator w.at))) (Err f) → NoOperatorAt (w ∷ ws) (formula_refusal f).place
operator_at w ws true f q e = cc
operator_at w ws false f q e =
    let is : formula.NoOperator w.at ≡ f = cc in
    record { first = w; behind = ws; is = refl; no_operator = q; place = ap (λ x. (formula_refusal x).place) (sym is) }

operator_no : (s : List ℕ) (names : List Name) (ws : List Part) (end : ℕ) (f : FormulaFault) → ask_operator ws end ≡ Err f → NoOperatorAt ws (formula_refusal f).place ⊎ FirstWrong (symbols_of s names ws) end (formula_refusal f).place
operator_no s names [] end f e = inr (first_wrong [] end f (let is : formula.Word (word.Missing end) ≡ f = cc in ap Some is))
operator_no s names (w ∷ ws) end f e = inl (operator_at w ws (is_operator (token_of w.text w.at)) f refl e)

nothing_no : (w : Part) (ws : List Part) (f : FormulaFault) → ask_nothing ws ≡ Err f → SurplusAt (w ∷ ws) (formula_refusal f).place
nothing_no w [] f e = cc
nothing_no w (x ∷ xs) f e =
    let is : formula.Surplus x.at ≡ f = cc in
    record { name = w; surplus = x; behind = xs; is = refl; place = ap (λ y. (formula_refusal y).place) (sym is) }

module _ (s : List ℕ) (st : State) (p end : ℕ) (f : FormulaFault) where
  signal_no : (ws : List Part) → by_keyword s st p key.Signal ws end ≡ Err (sheet.Formula f) → SurplusAt ws (formula_refusal f).place
  signal_no ws e = at_name (then_err (in_name (ask_name s st.names ws end)) (λ n. and_then (in_formula (ask_nothing n.1)) (λ _. ask_room p (with_signal n.0 st))) (sheet.Formula f) e)
    where
      at_rest : (n : Part × List Part) → ws ≡ n.0 ∷ n.1 → Refused (in_formula (ask_nothing n.1)) (λ _. ask_room p (with_signal n.0 st)) (sheet.Formula f) → SurplusAt ws (formula_refusal f).place
      at_rest n is (at_first q) = rw is (nothing_no n.0 n.1 f (formula_err (ask_nothing n.1) f q))
      at_rest n is (later a q r) = absurd (no_room_fault p (with_signal n.0 st) f r)

      at_name : Refused (in_name (ask_name s st.names ws end)) (λ n. and_then (in_formula (ask_nothing n.1)) (λ _. ask_room p (with_signal n.0 st))) (sheet.Formula f) → SurplusAt ws (formula_refusal f).place
      at_name (at_first q) = absurd (no_name_fault (ask_name s st.names ws end) f q)
      at_name (later n q r) = at_rest n (name_yes s st.names ws end n (name_ok (ask_name s st.names ws end) n q)).0 (then_err (in_formula (ask_nothing n.1)) (λ _. ask_room p (with_signal n.0 st)) (sheet.Formula f) r)

  watch_no : (ws : List Part) → by_keyword s st p key.Watch ws end ≡ Err (sheet.Formula f) → FirstWrong (symbols_of s st.names ws) end (formula_refusal f).place
  watch_no ws e = at_formula (then_err (in_formula (ask_formula s st.names ws end)) (λ t. ask_room p (with_watch t st)) (sheet.Formula f) e)
    where
      at_formula : Refused (in_formula (ask_formula s st.names ws end)) (λ t. ask_room p (with_watch t st)) (sheet.Formula f) → FirstWrong (symbols_of s st.names ws) end (formula_refusal f).place
      at_formula (at_first q) = formula_no s st.names ws end f (formula_err (ask_formula s st.names ws end) f q)
      at_formula (later t q r) = absurd (no_room_fault p (with_watch t st) f r)

  name_no : (ws : List Part) → by_keyword s st p key.Name ws end ≡ Err (sheet.Formula f) → WrongName s st ws end (formula_refusal f).place
  name_no ws e = at_name (then_err (in_name (ask_name s st.names ws end)) (λ n. and_then (in_formula (ask_operator n.1 end)) (λ _. and_then (in_formula (ask_formula s st.names n.1 end)) (λ t. ask_room p (with_named n.0 t st)))) (sheet.Formula f) e)
    where
      at_formula : (n : Part × List Part) → ws ≡ n.0 ∷ n.1 → Refused (in_formula (ask_formula s st.names n.1 end)) (λ t. ask_room p (with_named n.0 t st)) (sheet.Formula f) → WrongName s st ws end (formula_refusal f).place
      at_formula n is (at_first q) = record { name = n.0; behind = n.1; is = is; wrong_at = inr (formula_no s st.names n.1 end f (formula_err (ask_formula s st.names n.1 end) f q)) }
      at_formula n is (later t q r) = absurd (no_room_fault p (with_named n.0 t st) f r)

      at_operator : (n : Part × List Part) → ws ≡ n.0 ∷ n.1 → Refused (in_formula (ask_operator n.1 end)) (λ _. and_then (in_formula (ask_formula s st.names n.1 end)) (λ t. ask_room p (with_named n.0 t st))) (sheet.Formula f) → WrongName s st ws end (formula_refusal f).place
      at_operator n is (at_first q) = record { name = n.0; behind = n.1; is = is; wrong_at = operator_no s st.names n.1 end f (formula_err (ask_operator n.1 end) f q) }
      at_operator n is (later a q r) = at_formula n is (then_err (in_formula (ask_formula s st.names n.1 end)) (λ t. ask_room p (with_named n.0 t st)) (sheet.Formula f) r)

      at_name : Refused (in_name (ask_name s st.names ws end)) (λ n. and_then (in_formula (ask_operator n.1 end)) (λ _. and_then (in_formula (ask_formula s st.names n.1 end)) (λ t. ask_room p (with_named n.0 t st)))) (sheet.Formula f) → WrongName s st ws end (formula_refusal f).place
      at_name (at_first q) = absurd (no_name_fault (ask_name s st.names ws end) f q)
      at_name (later n q r) = at_operator n (name_yes s st.names ws end n (name_ok (ask_name s st.names ws end) n q)).0 (then_err (in_formula (ask_operator n.1 end)) (λ _. and_then (in_formula (ask_formula s st.names n.1 end)) (λ t. ask_room p (with_named n.0 t st))) (sheet.Formula f) r)

  by_no : (k : Keyword) (ws : List Part) → by_keyword s st p k ws end ≡ Err (sheet.Formula f) → WrongBy k s st ws end (formula_refusal f).place
  by_no key.Signal ws e = signal_no ws e
  by_no key.Name ws e = name_no ws e
  by_no key.Watch ws e = watch_no ws e

-- the first line that is refused so
record Stopped (s : List ℕ) (st : State) (ls : List Part) (f : FormulaFault) : Type 0 where
  before : List Part
  line : Part
  behind : List Part
  splits : ls ≡ before ++ line ∷ behind
  state : State
  made : Makes s st before state
  refused : by_words s state (words line) (end_of line) ≡ Err (sheet.Formula f)

stopped_at : (s : List ℕ) (st : State) (l : Part) (ls : List Part) (f : FormulaFault) → ((mid : State) → by_lines s mid ls ≡ Err (sheet.Formula f) → Stopped s mid ls f) → Refused (by_words s st (words l) (end_of l)) (λ mid. by_lines s mid ls) (sheet.Formula f) → Stopped s st (l ∷ ls) f
stopped_at s st l ls f ih (at_first q) = record { before = []; line = l; behind = ls; splits = refl; state = st; made = refl; refused = q }
stopped_at s st l ls f ih (later mid q r) =
    let m = ih mid r in
    record {
      before = l ∷ m.before;
      line = m.line;
      behind = m.behind;
      splits = ap (λ x. l ∷ x) m.splits;
      state = m.state;
      made = (mid, adds_from s st (words l) (end_of l) mid q, m.made);
      refused = m.refused;
    }

stopped : (s : List ℕ) (st : State) (ls : List Part) (f : FormulaFault) → by_lines s st ls ≡ Err (sheet.Formula f) → Stopped s st ls f
stopped s st [] f e = cc
stopped s st (l ∷ ls) f e = stopped_at s st l ls f (λ mid. stopped s mid ls f) (then_err (by_words s st (words l) (end_of l)) (λ mid. by_lines s mid ls) (sheet.Formula f) e)

line_no : (s : List ℕ) (st : State) (l : Part) (f : FormulaFault) → LineAt s st l → (ws : List Part) → words l ≡ ws → by_words s st ws (end_of l) ≡ Err (sheet.Formula f) → WrongLine s (formula_refusal f).place
line_no s st l f at [] is e = cc
line_no s st l f at (w ∷ ws) is e = by_first (then_err (ask_keyword st.watch w.at (token_of w.text w.at)) (λ k. by_keyword s st w.at k ws (end_of l)) (sheet.Formula f) e)
  where
    by_first : Refused (ask_keyword st.watch w.at (token_of w.text w.at)) (λ k. by_keyword s st w.at k ws (end_of l)) (sheet.Formula f) → WrongLine s (formula_refusal f).place
    by_first (at_first q) = absurd (no_keyword_fault st.watch w.at (token_of w.text w.at) f q)
    by_first (later k q r) = record {
      state = st;
      kind = k;
      rest = ws;
      stands = record { line = l; stands = at; first = w; words_are = is; is_keyword = (keyword_yes st.watch w.at (token_of w.text w.at) k q).0 };
      wrong_by = by_no s st w.at (end_of l) f k ws r;
    }

lines_no : (s : List ℕ) (f : FormulaFault) → by_lines s start (lines s) ≡ Err (sheet.Formula f) → WrongLine s (formula_refusal f).place
lines_no s f e =
    let m = stopped s start (lines s) f e in
    line_no s m.state m.line f (record { before = m.before; behind = m.behind; splits = m.splits; made = m.made }) (words m.line) refl m.refused

no_length : (b : Bool) (f : FormulaFault) → ◌≡◌ {A = Result (Unit {0}) SheetFault} (cond b (Ok tt) (Err sheet.TooLong)) (Err (sheet.Formula f)) → ⊥
no_length true f e = cc
no_length false f e = cc

no_foreign_at : (b : Bool) (o : Option SheetFault) (p : ℕ) (f : FormulaFault) → (o ≡ Some (sheet.Formula f) → ⊥) → cond b o (Some (sheet.ForeignByte p)) ≡ Some (sheet.Formula f) → ⊥
no_foreign_at true o p f ih e = ih e
no_foreign_at false o p f ih e = cc

no_foreign : (p : ℕ) (bs : List ℕ) (f : FormulaFault) → foreign_byte p bs ≡ Some (sheet.Formula f) → ⊥
no_foreign p [] f e = cc
no_foreign p (b ∷ bs) f e = no_foreign_at (allowed b) (foreign_byte (suc p) bs) p f (no_foreign (suc p) bs f) e

unless_err : (o : Option SheetFault) (f : SheetFault) → unless o ≡ Err f → o ≡ Some f
unless_err None f e = cc
unless_err (Some x) f e = cc

no_finish : (end : ℕ) (st : State) (o : Option ℕ) (f : FormulaFault) → finished end st o ≡ Err (sheet.Formula f) → ⊥
no_finish end st None f e = cc
no_finish end st (Some w) f e = cc

pub wrong_word : (s : List ℕ) (f : FormulaFault) → read_sheet s ≡ Err (sheet.Formula f) → WrongLine s (formula_refusal f).place
wrong_word s f e = at_length (then_err (ask_length s) (λ _. bytes_then) (sheet.Formula f) e)
  where
    lines_then : Result Reading SheetFault
    lines_then = and_then (by_lines s start (lines s)) (λ st. finished (length s) st st.watch)

    bytes_then : Result Reading SheetFault
    bytes_then = and_then (unless (foreign_byte 0 s)) (λ _. lines_then)

    at_lines : Refused (by_lines s start (lines s)) (λ st. finished (length s) st st.watch) (sheet.Formula f) → WrongLine s (formula_refusal f).place
    at_lines (at_first q) = lines_no s f q
    at_lines (later st q r) = absurd (no_finish (length s) st st.watch f r)

    at_bytes : Refused (unless (foreign_byte 0 s)) (λ _. lines_then) (sheet.Formula f) → WrongLine s (formula_refusal f).place
    at_bytes (at_first q) = absurd (no_foreign 0 s f (unless_err (foreign_byte 0 s) (sheet.Formula f) q))
    at_bytes (later u q r) = at_lines (then_err (by_lines s start (lines s)) (λ st. finished (length s) st st.watch) (sheet.Formula f) r)

    at_length : Refused (ask_length s) (λ _. bytes_then) (sheet.Formula f) → WrongLine s (formula_refusal f).place
    at_length (at_first q) = absurd (no_length (leb (length s) 4096) f q)
    at_length (later u q r) = at_bytes (then_err (unless (foreign_byte 0 s)) (λ _. lines_then) (sheet.Formula f) r)
