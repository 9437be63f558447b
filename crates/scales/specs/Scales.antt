-- What a scale has, and the truth laws.

-- the named values and the operations of a scale
pub record Ops (V : Type 0) : Type 0 where
  pub yes : V
  pub no : V
  pub past : V
  pub «open» : V
  pub turn : V → V
  pub join : V → V → V
  pub later : V → V

-- the turn of the join of the turns
abbrev pub meet : {V : Type 0} → Ops V → V → V → V
meet o a b = o.turn (o.join (o.turn a) (o.turn b))

-- the truth laws, where p x y says that x is at least as true as y
pub record Laws {V : Type 0} (o : Ops V) (p : V → V → Type 0) : Type 0 where
  pub same : (x : V) → p x x
  pub ends : p o.yes o.no
  pub turns : (x y : V) → p x y → p (o.turn y) (o.turn x)
  pub joins : (x y z w : V) → p x y → p z w → p (o.join x z) (o.join y w)
  pub laters : (x y : V) → p x y → p (o.later x) (o.later y)
