-- What a plain recorder means, by its width, its count of steps held, and its words.
-- Its ghost fields keep the width from 1 to 32, the count within the capacity, and each step held a set below the width.
use Rattle.std.specs.Prelude.{ℕ, ◌^◌, min, Bool, ◌&&◌, List, length, take, Ok, Err, Result, nat_lt, slice_set}
use Rattle.recorder.specs.declared.fault.RecordFault.{RecordFault}
use Rattle.recorder.specs.declared.plain.PlainRecorder.{PlainRecorder}

-- K: a step to a word, and at most 4,096
abbrev pub capacity_in : ℕ → ℕ
capacity_in words = min words 4096

-- W, K, and the steps, which are the first n words: signal k is the bit worth 2^k
abbrev pub plain_width : PlainRecorder → ℕ
plain_width p = p.width

abbrev pub plain_steps : PlainRecorder → List ℕ
plain_steps p = take p.held p.words.now

abbrev pub plain_capacity : PlainRecorder → ℕ
plain_capacity p = capacity_in (length p.words.now)

-- which steps have room
abbrev pub plain_room : PlainRecorder → ℕ → Bool
plain_room p s = nat_lt s (2 ^ plain_width p) && nat_lt (length (plain_steps p)) (plain_capacity p)

-- the words after record: one is written where it was accepted, and all others stay
abbrev pub words_after : Result ℕ RecordFault → ℕ → List ℕ → ℕ → List ℕ
words_after (Ok m) n words s = slice_set words n s
words_after (Err e) n words s = words
