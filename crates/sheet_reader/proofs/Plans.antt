-- What the line reader does to a plan, against what a line is said to do to a state.
use Rattle.std.proofs.Common.{◌≡◌, ℕ, ◌+◌, ◌<◌, ◌≤◌, Bool, true, false, cond, ◌&&◌, leb, ◌⊎◌, List, [], ◌∷◌, ◌++◌, length, take, Option, Some, Ok, Err, sym, refl, add-one, subst, ap, ◌∙◌, inl, inr, ⊎_elim, arith, length-append, take_all}
use Rattle.std.proofs.lemmas.Bool.{lt-leb}
use Rattle.std.proofs.lemmas.List.{length_push}
use Rattle.ltl.specs.declared.row.Row.{Row}
use Rattle.sheet.specs.Parts.{Part}
use Rattle.sheet.specs.declared.token.Keyword.TheVariants as key
use Rattle.sheet_reader.specs.Drafts.{kept, Added, Known, Whole}
use Rattle.sheet_reader.specs.Grammar.{Written}
use Rattle.sheet_reader.specs.Names.{named, names_in}
use Rattle.sheet_reader.specs.Rows.{size, top, made}
use Rattle.sheet_reader.specs.Sheets.{State, ask_name, ask_nothing, ask_operator, ask_formula, ask_room, with_signal, with_named, with_watch, by_keyword}
use Rattle.sheet_faults.specs.declared.fault.FormulaFault.{FormulaFault}
use Rattle.sheet_faults.specs.declared.fault.SheetFault.TheVariants.{Formula, TooMany}
use Rattle.sheet_reader.specs.declared.reading.Draft.{Draft}
use Rattle.sheet_reader.specs.declared.reading.Name.{Name}
use Rattle.sheet_reader.proofs.Ordered.{length_made}
use Rattle.sheet_reader.proofs.Questions.{operator_yes, formula_yes, yes_room}
use Rattle.sheet_reader.proofs.Sounds.{operated_size, known_from, sound_keyword, well_formed}
use Rattle.ltl.specs.Tables.{WellFormed, table_from}
use Rattle.sheet_reader.specs.Sound.{Sound}
use Rattle.sheet_reader.specs.States.{state_of}
use Rattle.sheet_reader.specs.declared.reading.Plan.{Plan}
use Rattle.ltl.specs.declared.row.Row.TheVariants.{Signal}

-- a draft of at most 64 rows keeps them all
pub kept_all : (d : Draft) → d.count ≤ 64 → length (kept d) ≡ d.count
kept_all d h = d.kept ∙ omega (arith, h)

room_cut : (a b : Bool) (p : ℕ) (st : State) → (a ≡ false) ⊎ (b ≡ false) → cond (a && b) (Ok st) (Err (TooMany p)) ≡ Err (TooMany p)
room_cut false b p st h = refl
room_cut true false p st h = refl
room_cut true true p st (inl e) = cc
room_cut true true p st (inr e) = cc

pub no_room : (p : ℕ) (st : State) → (32 < st.width) ⊎ (64 < length st.rows) → ask_room p st ≡ Err (TooMany p)
no_room p st h =
    room_cut (leb st.width 32) (leb (length st.rows) 64) p st
    (⊎_elim (λ (w : 32 < st.width). inl (lt-leb st.width 32 w)) (λ (r : 64 < length st.rows). inr (lt-leb (length st.rows) 64 r)) h)

module _ (sheet : List ℕ) (st : State) (p end : ℕ) (ws : List Part) where
  -- a signal line
  pub signal_by : (w : Part) (xs : List Part) → ask_name sheet st.names ws end ≡ Ok (w, xs) → ask_nothing xs ≡ Ok tt → by_keyword sheet st p key.Signal ws end ≡ ask_room p (with_signal w st)
  signal_by w xs e o = rw (e, o)

  -- a name line
  pub name_by : (w : Part) (xs : List Part) (t : Written) → ask_name sheet st.names ws end ≡ Ok (w, xs) → ask_operator xs end ≡ Ok tt → ask_formula sheet st.names xs end ≡ Ok t → by_keyword sheet st p key.Name ws end ≡ ask_room p (with_named w t st)
  name_by w xs t e o q = rw (e, o, q)

  -- the watch line
  pub watch_by : (t : Written) → ask_formula sheet st.names ws end ≡ Ok t → by_keyword sheet st p key.Watch ws end ≡ ask_room p (with_watch t st)
  watch_by t q = rw q

pub same_state : (a b : State) → a.rows ≡ b.rows → a.names ≡ b.names → a.width ≡ b.width → a.watch ≡ b.watch → a ≡ b
same_state a b p q r s = λ i. record { rows = p i; names = q i; width = r i; watch = s i }

-- a formula that was added to all the rows
pub added_count : (d : Draft) → d.count ≤ 64 → {n' row : ℕ} {k' : List Row} {t : Written} → Added d.count (kept d) n' k' row t → length (kept d ++ made (length (kept d)) t) ≡ n'
added_count d few {t = t} a =
    let n = kept_all d few in
    length-append (kept d) (made (length (kept d)) t) ∙ omega (arith, a.count, length_made (length (kept d)) t)

pub added_rows : (d : Draft) → d.count ≤ 64 → {n' row : ℕ} {k' : List Row} {t : Written} → Added d.count (kept d) n' k' row t → n' ≤ 64 → k' ≡ kept d ++ made (length (kept d)) t
added_rows d few {t = t} a h =
    let short : length (kept d ++ made (length (kept d)) t) ≤ 64 = omega (arith, added_count d few a) in
    a.rows ∙ ap (λ n. take 64 (kept d ++ made n t)) (sym (kept_all d few)) ∙ take_all 64 (kept d ++ made (length (kept d)) t) short

pub added_row : (d : Draft) → d.count ≤ 64 → {n' row : ℕ} {k' : List Row} {t : Written} → Added d.count (kept d) n' k' row t → row ≡ top (length (kept d)) t
added_row d few a = rw (kept_all d few) a.number

-- an operator first makes a row
pub named_size : (sheet : List ℕ) (names : List Name) (xs : List Part) (end : ℕ) (t : Written) → ask_operator xs end ≡ Ok tt → ask_formula sheet names xs end ≡ Ok t → 0 < size t
named_size sheet names xs end t o q = operated_size t (operator_yes sheet names xs end t o (formula_yes sheet names xs end t q))

abbrev pub making : List Row → List Name → ℕ → Option ℕ → State
making rows names width watch = record { rows = rows; names = names; width = width; watch = watch }

-- what a line that is accepted makes of a plan
module _ (sheet : List ℕ) (p : Plan) (first : ℕ) (ws : List Part) (end : ℕ) where
  pub signal_makes : (w : Part) (xs : List Part) {rows : List Row} {names : List Name} → ask_name sheet (names_in p.names) ws end ≡ Ok (w, xs) → ask_nothing xs ≡ Ok tt → p.width < 32 → p.draft.count < 64 → rows ≡ take 64 (kept p.draft ++ Signal p.width ∷ []) → names ≡ names_in p.names ++ named w p.draft.count ∷ [] → Ok (making rows names (p.width + 1) p.watch) ≡ by_keyword sheet (state_of p) first key.Signal ws end
  signal_makes w xs e o signals some r n =
      let st = state_of p in
      let all = kept_all p.draft p.counted in
      let more = length_push st.rows (Signal st.width) in
      let room = yes_room first (with_signal w st) (record { signals = omega arith; rows = omega arith }) in
      let rows = r ∙ take_all 64 (st.rows ++ Signal st.width ∷ []) (omega arith) in
      let names = n ∙ ap (λ r. names_in p.names ++ named w r ∷ []) (sym all) in
      ap Ok (same_state _ (with_signal w st) rows names (add-one p.width) refl) ∙ sym (signal_by sheet st first end ws w xs e o ∙ room)

  pub name_makes : (w : Part) (xs : List Part) {e n' row : ℕ} {k' : List Row} {names : List Name} → ask_name sheet (names_in p.names) ws end ≡ Ok (w, xs) → e ≡ end → ask_operator xs e ≡ Ok tt → Whole sheet (names_in p.names) xs e p.draft.count (kept p.draft) n' k' row → n' ≤ 64 → names ≡ names_in p.names ++ named w row ∷ [] → Ok (making k' names p.width p.watch) ≡ by_keyword sheet (state_of p) first key.Name ws end
  name_makes w xs {n' = n'} e same o f few n =
      let st = state_of p in
      let yes = subst (λ e. ask_operator xs e ≡ Ok tt) same o in
      let asked = subst (λ e. ask_formula sheet st.names xs e ≡ Ok f.formula) same f.asked in
      let t = f.formula in
      let long = added_count p.draft p.counted f.added in
      let room = yes_room first (with_named w t st) (record { signals = p.sound.few_signals; rows = omega arith }) in
      let rows = added_rows p.draft p.counted f.added few in
      let names = n ∙ ap (λ r. names_in p.names ++ named w r ∷ []) (added_row p.draft p.counted f.added) in
      ap Ok (same_state _ (with_named w t st) rows names refl refl) ∙ sym (name_by sheet st first end ws w xs t e yes asked ∙ room)

  pub watch_makes : {n' row : ℕ} {k' : List Row} → Whole sheet (names_in p.names) ws end p.draft.count (kept p.draft) n' k' row → n' ≤ 64 → Ok (making k' (names_in p.names) p.width (Some row)) ≡ by_keyword sheet (state_of p) first key.Watch ws end
  watch_makes {n'} f few =
      let st = state_of p in
      let t = f.formula in
      let long = added_count p.draft p.counted f.added in
      let room = yes_room first (with_watch t st) (record { signals = p.sound.few_signals; rows = omega arith }) in
      let rows = added_rows p.draft p.counted f.added few in
      ap Ok (same_state _ (with_watch t st) rows refl refl (ap Some (added_row p.draft p.counted f.added))) ∙ sym (watch_by sheet st first end ws t f.asked ∙ room)

  -- an operator makes a row, so there is room for one name more
  pub name_room : (xs : List Part) {e n' row : ℕ} {k' : List Row} → ask_operator xs e ≡ Ok tt → Whole sheet (names_in p.names) xs e p.draft.count (kept p.draft) n' k' row → n' ≤ 64 → length (names_in p.names) < 64
  name_room xs {e} o f few =
      let some = named_size sheet (names_in p.names) xs e f.formula o f.asked in
      omega (arith, f.added.count, p.sound.few_names, kept_all p.draft p.counted)

  -- with too many rows
  pub name_full : (w : Part) (xs : List Part) {e n' row : ℕ} {k' : List Row} → ask_name sheet (names_in p.names) ws end ≡ Ok (w, xs) → e ≡ end → ask_operator xs e ≡ Ok tt → Whole sheet (names_in p.names) xs e p.draft.count (kept p.draft) n' k' row → 64 < n' → Err (TooMany first) ≡ by_keyword sheet (state_of p) first key.Name ws end
  name_full w xs {n' = n'} e same o f many =
      let st = state_of p in
      let yes = subst (λ e. ask_operator xs e ≡ Ok tt) same o in
      let asked = subst (λ e. ask_formula sheet st.names xs e ≡ Ok f.formula) same f.asked in
      let t = f.formula in
      let long = added_count p.draft p.counted f.added in
      sym (name_by sheet st first end ws w xs t e yes asked ∙ no_room first (with_named w t st) (inr (omega arith)))

  -- with words behind the name that are no formula
  pub name_no : (w : Part) (xs : List Part) {e : ℕ} {f : FormulaFault} → ask_name sheet (names_in p.names) ws end ≡ Ok (w, xs) → e ≡ end → ask_operator xs e ≡ Ok tt → ask_formula sheet (names_in p.names) xs e ≡ Err f → Err (Formula f) ≡ by_keyword sheet (state_of p) first key.Name ws end
  name_no w xs {f = f} n same o a =
      let yes = subst (λ e. ask_operator xs e ≡ Ok tt) same o in
      let no = subst (λ e. ask_formula sheet (names_in p.names) xs e ≡ Err f) same a in
      rw (n, yes, no) refl

  pub watch_full : {n' row : ℕ} {k' : List Row} → Whole sheet (names_in p.names) ws end p.draft.count (kept p.draft) n' k' row → 64 < n' → Err (TooMany first) ≡ by_keyword sheet (state_of p) first key.Watch ws end
  watch_full {n'} f many =
      let st = state_of p in
      let t = f.formula in
      let long = added_count p.draft p.counted f.added in
      sym (watch_by sheet st first end ws t f.asked ∙ no_room first (with_watch t st) (inr (omega arith)))

  -- what such a line makes is a formula's table in the making
  pub signal_sound : {w : Part} {xs : List Part} {rows : List Row} {names : List Name} → ask_name sheet (names_in p.names) ws end ≡ Ok (w, xs) → ask_nothing xs ≡ Ok tt → p.width < 32 → p.draft.count < 64 → rows ≡ take 64 (kept p.draft ++ Signal p.width ∷ []) → names ≡ names_in p.names ++ named w p.draft.count ∷ [] → Sound (making rows names (p.width + 1) p.watch)
  signal_sound {w} {xs} e o signals some r n = sound_keyword sheet (state_of p) p.sound first key.Signal ws end _ (sym (signal_makes w xs e o signals some r n))

  pub name_sound : {w : Part} {xs : List Part} {e n' row : ℕ} {k' : List Row} {names : List Name} → ask_name sheet (names_in p.names) ws end ≡ Ok (w, xs) → e ≡ end → ask_operator xs e ≡ Ok tt → Whole sheet (names_in p.names) xs e p.draft.count (kept p.draft) n' k' row → n' ≤ 64 → names ≡ names_in p.names ++ named w row ∷ [] → Sound (making k' names p.width p.watch)
  name_sound {w} {xs} e same o f few n = sound_keyword sheet (state_of p) p.sound first key.Name ws end _ (sym (name_makes w xs e same o f few n))

  pub watch_sound : {n' row : ℕ} {k' : List Row} → Whole sheet (names_in p.names) ws end p.draft.count (kept p.draft) n' k' row → n' ≤ 64 → Sound (making k' (names_in p.names) p.width (Some row))
  watch_sound f few = sound_keyword sheet (state_of p) p.sound first key.Watch ws end _ (sym (watch_makes f few))

-- a plan with a watch row has a formula's table
pub plan_formed : (p : Plan) (w : ℕ) → p.watch ≡ Some w → WellFormed (table_from p.width p.draft.rows.items w)
plan_formed p w e = well_formed (state_of p) w p.sound e

-- the rows of the earlier names are below the draft's count
pub known_in : (sheet : List ℕ) (p : Plan) → Known sheet (names_in p.names) p.draft.count
known_in sheet p t r e = omega (arith, known_from sheet (names_in p.names) (length (kept p.draft)) p.sound.named t r e, kept_all p.draft p.counted)
