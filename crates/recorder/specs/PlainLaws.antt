-- The proof that a plain recorder is a lawful recording; it stands here because the implementation cites it.
use Rattle.std.specs.Prelude.{ℕ, zero, suc, ◌^◌, ◌<◌, ◌≤◌, List, take, slice_index}
use Rattle.std.proofs.Common.{⊎_elim, arith}
use Rattle.ltl.specs.Steps.{step_at}
use Rattle.std.proofs.lemmas.Nat.{pow_pos}
use Rattle.std.proofs.lemmas.Bool.{cases_lt}
use Rattle.std.proofs.lemmas.List.{length-take, get_or-take, get_or_past}
use Rattle.recorder.specs.Recordings.{Lawful}
use Rattle.recorder.specs.Plain.{plain_width, plain_steps}
use Rattle.recorder.specs.declared.plain.PlainRecorder.{PlainRecorder}

low_steps : (width held : ℕ) (words : List ℕ) → ((k : ℕ) → k < held → slice_index words k < 2 ^ width) → (i : ℕ) → step_at (take held words) i < 2 ^ width
low_steps width held words low zero = pow_pos width
low_steps width held words low (suc k) = ⊎_elim
    (λ (h : k < held). rw (get_or-take held words k 0 h) (low k h))
    (λ (h : held ≤ k). rw (get_or_past (take held words) k 0 (omega (arith, length-take held words))) (pow_pos width))
    (cases_lt k held)

pub plain_lawful : (p : PlainRecorder) → Lawful (plain_width p) (plain_steps p)
plain_lawful p = record {
  some_signal = p.some_signal;
  few_signals = p.few_signals;
  few_steps = let h = p.few_steps in omega (arith, length-take p.held p.words.now);
  low = low_steps p.width p.held p.words.now p.low;
}
