-- Not found alone: that bytes that are as many as those of this long word, and the same at each place, are the word.
use Rattle.std.proofs.Common.{codes, rules, refl, arith}
use Rattle.std.proofs.lemmas.List.{same_lists, places}
use Rattle.sheet.proofs.token.operator_of.Goals as goal

pub returns-in-always : goal.returns-in-always
returns-in-always c = rw (same_lists c.args.text.now (codes "always") (search (rules, places)) (λ k d h. grind (arith, places))) refl

pub returns-in-implies : goal.returns-in-implies
returns-in-implies c = rw (same_lists c.args.text.now (codes "implies") (search (rules, places)) (λ k d h. grind (arith, places))) refl

pub returns-in-eventually : goal.returns-in-eventually
returns-in-eventually c = rw (same_lists c.args.text.now (codes "eventually") (search (rules, places)) (λ k d h. grind (arith, places))) refl
