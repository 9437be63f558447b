-- The formula of the bench.
use Rattle.ltl.specs.Trees.{Tree, signal, not, or, eventually}

abbrev always : Tree → Tree
always a = not (eventually (not a))

abbrev implies : Tree → Tree → Tree
implies a b = or (not a) b

-- always implies r eventually g, with r as signal 0 and g as signal 1
abbrev pub every_request_granted : Tree
every_request_granted = always (implies (signal 0) (eventually (signal 1)))
