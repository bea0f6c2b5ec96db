-- Two facts of one result, what its function says that it is and what a test found it to be, joined. `search via` finds both among
-- the fields of a need's record.
use mathlib.Core.Path.{◌≡◌, sym, ◌∙◌}

pub via : {A : Type 0} {r a b : A} → r ≡ a → r ≡ b → a ≡ b
via e f = sym e ∙ f
