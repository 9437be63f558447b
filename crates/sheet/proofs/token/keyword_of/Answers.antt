-- Not found alone: that bytes that are as many as those of this long word, and the same at each place, are the word.
use Rattle.std.proofs.Common.{codes, rules, refl, arith}
use Rattle.std.proofs.lemmas.List.{same_lists, places}
use Rattle.sheet.proofs.token.keyword_of.Goals as goal

pub returns-in-signal : goal.returns-in-signal
returns-in-signal c = rw (same_lists c.args.text.now (codes "signal") (search (rules, places)) (λ k d h. grind (arith, places))) refl
