-- A line is accepted exactly where it is one of the language.
use Rattle.std.proofs.Common.{◌≡◌, ℕ, List, [], ◌∷◌, Ok, sym, ap, ◌∙◌}
use Rattle.sheet.specs.Parts.{Part}
use Rattle.sheet.specs.Tokens.{keyword, token_of}
use Rattle.sheet.specs.declared.token.Keyword.{Keyword}
use Rattle.sheet.specs.declared.token.Keyword.TheVariants as key
use Rattle.sheet_reader.specs.Lines.{SignalLine, NameLine, WatchLine, LineBy, Adds, Makes}
use Rattle.sheet_reader.specs.Sheets.{State, and_then, in_formula, in_name, ask_keyword, ask_name, ask_nothing, ask_operator, ask_formula, ask_room, with_signal, with_named, with_watch, by_keyword, by_words, by_lines, words, end_of}
use Rattle.sheet_reader.proofs.Questions.{then_ok, name_ok, formula_ok, keyword_yes, name_yes, yes_name, formula_yes, yes_formula, nothing_yes, operator_yes, yes_operator, room_yes, yes_room}

module _ (sheet : List ℕ) (st : State) (p : ℕ) (end : ℕ) where
  signal_yes : (ws : List Part) (st' : State) → by_keyword sheet st p key.Signal ws end ≡ Ok st' → SignalLine sheet st ws st'
  signal_yes ws st' e =
      let a = then_ok (in_name (ask_name sheet st.names ws end)) (λ n. and_then (in_formula (ask_nothing n.1)) (λ _. ask_room p (with_signal n.0 st))) st' e in
      let n = a.0 in
      let m = name_yes sheet st.names ws end n (name_ok (ask_name sheet st.names ws end) n a.1) in
      let b = then_ok (in_formula (ask_nothing n.1)) (λ _. ask_room p (with_signal n.0 st)) st' a.2 in
      let none = nothing_yes n.1 (formula_ok (ask_nothing n.1) tt b.1) in
      let r = room_yes p (with_signal n.0 st) st' b.2 in
      record { name = n.0; is = m.0 ∙ ap (λ l. n.0 ∷ l) none; fresh = m.1; makes = r.0; room = r.1 }

  name_line_yes : (ws : List Part) (st' : State) → by_keyword sheet st p key.Name ws end ≡ Ok st' → NameLine sheet st ws st'
  name_line_yes ws st' e =
      let a = then_ok (in_name (ask_name sheet st.names ws end)) (λ n. and_then (in_formula (ask_operator n.1 end)) (λ _. and_then (in_formula (ask_formula sheet st.names n.1 end)) (λ t. ask_room p (with_named n.0 t st)))) st' e in
      let n = a.0 in
      let m = name_yes sheet st.names ws end n (name_ok (ask_name sheet st.names ws end) n a.1) in
      let b = then_ok (in_formula (ask_operator n.1 end)) (λ _. and_then (in_formula (ask_formula sheet st.names n.1 end)) (λ t. ask_room p (with_named n.0 t st))) st' a.2 in
      let c = then_ok (in_formula (ask_formula sheet st.names n.1 end)) (λ t. ask_room p (with_named n.0 t st)) st' b.2 in
      let t = c.0 in
      let s = formula_yes sheet st.names n.1 end t (formula_ok (ask_formula sheet st.names n.1 end) t c.1) in
      let r = room_yes p (with_named n.0 t st) st' c.2 in
      record {
        name = n.0;
        rest = n.1;
        formula = t;
        is = m.0;
        fresh = m.1;
        operated = operator_yes sheet st.names n.1 end t (formula_ok (ask_operator n.1 end) tt b.1) s;
        spells = s;
        makes = r.0;
        room = r.1;
      }

  watch_yes : (ws : List Part) (st' : State) → by_keyword sheet st p key.Watch ws end ≡ Ok st' → WatchLine sheet st ws st'
  watch_yes ws st' e =
      let c = then_ok (in_formula (ask_formula sheet st.names ws end)) (λ t. ask_room p (with_watch t st)) st' e in
      let t = c.0 in
      let r = room_yes p (with_watch t st) st' c.2 in
      record { formula = t; spells = formula_yes sheet st.names ws end t (formula_ok (ask_formula sheet st.names ws end) t c.1); makes = r.0; room = r.1 }

  pub by_yes : (k : Keyword) (ws : List Part) (st' : State) → by_keyword sheet st p k ws end ≡ Ok st' → LineBy k sheet st ws st'
  by_yes key.Signal ws st' e = signal_yes ws st' e
  by_yes key.Name ws st' e = name_line_yes ws st' e
  by_yes key.Watch ws st' e = watch_yes ws st' e

  yes_signal : (ws : List Part) (st' : State) → SignalLine sheet st ws st' → by_keyword sheet st p key.Signal ws end ≡ Ok st'
  yes_signal ws st' l =
      let n = yes_name sheet st.names l.name [] end l.fresh in
      rw (l.is, n) (ap (ask_room p) (sym l.makes) ∙ yes_room p st' l.room)

  yes_name_line : (ws : List Part) (st' : State) → NameLine sheet st ws st' → by_keyword sheet st p key.Name ws end ≡ Ok st'
  yes_name_line ws st' l =
      let n = yes_name sheet st.names l.name l.rest end l.fresh in
      let o = yes_operator sheet st.names l.rest end l.formula l.operated l.spells in
      let f = yes_formula sheet st.names l.rest end l.formula l.spells in
      rw (l.is, n, o, f) (ap (ask_room p) (sym l.makes) ∙ yes_room p st' l.room)

  yes_watch : (ws : List Part) (st' : State) → WatchLine sheet st ws st' → by_keyword sheet st p key.Watch ws end ≡ Ok st'
  yes_watch ws st' l =
      let f = yes_formula sheet st.names ws end l.formula l.spells in
      rw f (ap (ask_room p) (sym l.makes) ∙ yes_room p st' l.room)

  yes_by : (k : Keyword) (ws : List Part) (st' : State) → LineBy k sheet st ws st' → by_keyword sheet st p k ws end ≡ Ok st'
  yes_by key.Signal ws st' l = yes_signal ws st' l
  yes_by key.Name ws st' l = yes_name_line ws st' l
  yes_by key.Watch ws st' l = yes_watch ws st' l

pub adds_from : (sheet : List ℕ) (st : State) (ws : List Part) (end : ℕ) (st' : State) → by_words sheet st ws end ≡ Ok st' → Adds sheet st ws st'
adds_from sheet st [] end st' e = cc
adds_from sheet st (w ∷ ws) end st' e =
    let x = token_of w.text w.at in
    let a = then_ok (ask_keyword st.watch w.at x) (λ k. by_keyword sheet st w.at k ws end) st' e in
    let k = keyword_yes st.watch w.at x a.0 a.1 in
    record { kind = a.0; is_keyword = k.0; no_watch = k.1; line = by_yes sheet st w.at end a.0 ws st' a.2 }

pub from_adds : (sheet : List ℕ) (st : State) (ws : List Part) (end : ℕ) (st' : State) → Adds sheet st ws st' → by_words sheet st ws end ≡ Ok st'
from_adds sheet st [] end st' e = ap Ok (sym e)
from_adds sheet st (w ∷ ws) end st' l =
    ap (λ x. and_then (ask_keyword st.watch w.at x) (λ k. by_keyword sheet st w.at k ws end)) l.is_keyword
    ∙ ap (λ o. and_then (ask_keyword o w.at (keyword l.kind)) (λ k. by_keyword sheet st w.at k ws end)) l.no_watch
    ∙ yes_by sheet st w.at end l.kind ws st' l.line

pub makes_from : (sheet : List ℕ) (st : State) (ls : List Part) (st' : State) → by_lines sheet st ls ≡ Ok st' → Makes sheet st ls st'
makes_from sheet st [] st' e = cc
makes_from sheet st (l ∷ ls) st' e =
    let a = then_ok (by_words sheet st (words l) (end_of l)) (λ mid. by_lines sheet mid ls) st' e in
    (a.0, adds_from sheet st (words l) (end_of l) a.0 a.1, makes_from sheet a.0 ls st' a.2)

pub from_makes : (sheet : List ℕ) (st : State) (ls : List Part) (st' : State) → Makes sheet st ls st' → by_lines sheet st ls ≡ Ok st'
from_makes sheet st [] st' e = ap Ok (sym e)
from_makes sheet st (l ∷ ls) st' m =
    ap (λ r. and_then r (λ mid. by_lines sheet mid ls)) (from_adds sheet st (words l) (end_of l) m.0 m.1) ∙ from_makes sheet m.0 ls st' m.2
