-- Not found alone: that the gap and the run cut off the first part, and that what follows is cut as before.
use Rattle.std.proofs.Common.{◌≡◌, ℕ, ◌+◌, ◌-◌, ◌≤◌, length, drop, ◌∙◌, arith, length-drop, length-take-le}
use Rattle.std.proofs.lemmas.List.{take_rest}
use Rattle.sheet.specs.Parts.{run}
use Rattle.sheet.proofs.Scans.{gap_is, run_is, parts_next}
use Rattle.sheet.proofs.Texts.{run_within}
use Rattle.sheet.proofs.words.cuts.part_at.Goals as goal

pub returns : goal.returns
returns c =
    let sep = c.args.separator in
    let s = c.args.s.now in
    let g = c.args.at in
    let n = c.run_len.result in
    let here : n ≡ run sep (drop g s) = simp take_rest at c.run_len.ensures ∙ run_is sep (drop g s) in
    let next = λ (p : ℕ). parts_next sep p s g n (c.requires.gap ∙ gap_is sep s) here c.requires.within in
    let fits : n ≤ length (drop g s) = rw here (run_within sep (drop g s)) in
    let long = length-take-le n (drop g s) fits in
    let cut : g + n - g ≡ n = omega arith in
    record {
      some = rw (cut, long) (next 0).0;
      within = rw (cut, long) (omega (arith, simp length-drop at fits, c.requires.within));
      next = λ p. rw (cut, long) (next p).1;
    }
