-- What opening a plain recorder leaves, and what its refusal tells.
use Rattle.std.specs.Prelude.{◌≡◌, ℕ, ◌≤◌, cond, ◌&&◌, List, [], length, Some, None, Option, nat_le}
use Rattle.recorder.specs.Plain.{capacity_in, plain_width, plain_steps, plain_capacity}
use Rattle.recorder.specs.declared.fault.OpenFault.{OpenFault}
use Rattle.recorder.specs.declared.fault.OpenFault.TheVariants.{Width, Memory}
use Rattle.recorder.specs.declared.plain.PlainRecorder.{PlainRecorder}
use Rattle.recorder.specs.declared.plain.NotOpened.{NotOpened}

-- why a recorder of this width and capacity is not opened, if it is not
abbrev pub open_fault : ℕ → ℕ → Option OpenFault
open_fault width capacity = cond (nat_le 1 width && nat_le width 32) (cond (nat_le 1 capacity) None (Some Memory)) (Some Width)

-- a recorder of that width without steps, with the capacity of the memory, which is as it was
pub record Opened (width : ℕ) (words : List ℕ) (p : PlainRecorder) : Type 0 where
  pub asked : open_fault width (capacity_in (length words)) ≡ None
  pub width_is : plain_width p ≡ width
  pub no_steps : plain_steps p ≡ []
  pub capacity_is : plain_capacity p ≡ capacity_in (length words)
  pub some_capacity : 1 ≤ plain_capacity p
  pub words_are : p.words.now ≡ words

-- the fault, and the memory as it was
pub record Refused (width : ℕ) (words : List ℕ) (e : NotOpened) : Type 0 where
  pub asked : open_fault width (capacity_in (length words)) ≡ Some e.fault
  pub words_are : e.words.now ≡ words
