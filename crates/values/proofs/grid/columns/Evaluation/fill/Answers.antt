-- Not found alone: the theorems that the last column's table meets, each by its lemma.
use Rattle.std.proofs.Common.{◌≡◌, ℕ, ◌+◌, ◌<◌, ◌≤◌, length, sym, ◌∙◌, arith}
use Rattle.ltl.specs.Formulas.{row_count, tree}
use Rattle.ltl.proofs.Examples.{worked}
use Rattle.ltl.proofs.Promises.{order_told, open_told, pair_told}
use Rattle.ltl.proofs.Sound.{soundness}
use Rattle.ltl.proofs.Truer.{stays}
use Rattle.values.proofs.Columns.{stands_all}
use Rattle.values.proofs.grid.columns.Evaluation.fill.Goals as goal

pub returns-clause-cells : goal.returns-clause-cells
returns-clause-cells g c =
    let o = g.S.Scale.ops in
    let recording = c.args.self.now.recording.now in
    let steps = g.R.Recording.steps recording in
    let formula = c.args.self.now.formula.now in
    let lawful = g.R.Recording.lawful recording in
    let inv = c.loop-i.invariant in
    let z : c.loop-i.i ≡ 0 = omega arith in
    let all = λ (r i : ℕ) (b : r < row_count formula) (l : 1 ≤ i) (m : i ≤ length steps + 1). stands_all o _ formula _ r i (rw z at inv.stands) b l m in
    record {
      cells = all;
      later = λ r i b l. all r (length steps + 1) b (omega arith) (omega arith) ∙ sym (stays o steps (tree formula r) i l);
      size = inv.frame.size;
      past = rw (c.requires.rows_is, c.requires.positions_is) at inv.frame.past;
      order = λ r i. order_told o g.S.Scale.atleast g.S.Scale.laws steps (tree formula r) i;
      decided = λ r i h. soundness steps (tree formula r) i h;
      undecided = λ same r i h. rw (← same) (open_told steps formula r i (λ j. rw same (lawful.low j)) h);
      counts = λ r i. pair_told steps lawful.few_steps (tree formula r) i;
      examples = worked;
    }
