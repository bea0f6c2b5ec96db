-- The order of checks of each call. Assumes nothing: these are definitions.
use Rattle.std.specs.Prelude.{Bool, ◌||◌, List, [], ◌∷◌, ◌++◌, ℕ, eqb}
use Rattle.orders.specs.Needs.{chain_need, plan_need}
use Rattle.refusals.specs.FirstOf.{Check, check}
use Rattle.refusals.specs.Conditions.{bad_length, too_many_words, short_buffer, long_buffer, short_scratch, long_chain, bad_swap, no_order, no_release}
use Rattle.refusals.specs.Scratch.{need}

-- the size of a block: 1, 2
abbrev pub size_checks : List ℕ → List Check
size_checks ds = check 1 (bad_length ds) ∷ check 2 (too_many_words ds) ∷ []

-- a buffer of exactly the block's size: 3, 13
abbrev pub exact_checks : List ℕ → List ℕ → List Check
exact_checks ds buffer = check 3 (short_buffer ds buffer) ∷ check 13 (long_buffer ds buffer) ∷ []

-- a block in a buffer of its size: 1, 2, 3, 13; the list of every call on such a block begins so
abbrev pub block_checks : List ℕ → List ℕ → List Check
block_checks ds buffer = size_checks ds ++ exact_checks ds buffer

-- flat by passes and reverse: 1, 2, 3, 13, 4
abbrev pub passes_checks : List ℕ → List ℕ → List ℕ → List Check
passes_checks ds buffer scratch = block_checks ds buffer ++ (check 4 (short_scratch (need ds) scratch) ∷ [])

-- recursion: 1, 2, 3, 13
abbrev pub recursion_checks : List ℕ → List ℕ → List Check
recursion_checks ds buffer = block_checks ds buffer

-- chain of swaps on r axes: 1, 2, 3, 13, 5, 6, 4
abbrev pub chain_checks : ℕ → List ℕ → List ℕ → List ℕ → List ℕ → List Check
chain_checks r ds buffer scratch chain =
    block_checks ds buffer ++ (check 5 (long_chain chain) ∷ check 6 (bad_swap r chain) ∷ check 4 (short_scratch (chain_need ds chain) scratch) ∷ [])

-- plan alone: 7
abbrev pub plan_checks : ℕ → ℕ → List Check
plan_checks r order = check 7 (no_order r order) ∷ []

-- an order number by its release: 14, 7
abbrev pub named_checks : ℕ → ℕ → ℕ → List Check
named_checks r release order = check 14 (no_release release) ∷ plan_checks r order

-- direct request for an order of r axes: 1, 2, 3, 13, 14, 7, 4
abbrev pub request_checks : ℕ → List ℕ → List ℕ → List ℕ → ℕ → ℕ → List Check
request_checks r ds buffer scratch release order =
    block_checks ds buffer ++ (named_checks r release order ++ (check 4 (short_scratch (plan_need r ds release order) scratch) ∷ []))

-- the block of an adjacent swap: the axes before, the two that are exchanged, the axes after
abbrev pub swap_block : ℕ → ℕ → ℕ → ℕ → List ℕ
swap_block outer m n chunk = outer ∷ m ∷ n ∷ chunk ∷ []

-- a side is out of range, or there is no block before or no word after the two axes
abbrev pub no_block : ℕ → ℕ → ℕ → ℕ → Bool
no_block outer m n chunk = bad_length (m ∷ n ∷ []) || (eqb outer 0 || eqb chunk 0)

-- adjacent swap: 1, 2, 3, 13, 4
abbrev pub swap_checks : ℕ → ℕ → ℕ → ℕ → List ℕ → List ℕ → List Check
swap_checks outer m n chunk buffer scratch =
    check 1 (no_block outer m n chunk)
    ∷ check 2 (too_many_words (swap_block outer m n chunk))
    ∷ (exact_checks (swap_block outer m n chunk) buffer ++ (check 4 (short_scratch (need (m ∷ n ∷ [])) scratch) ∷ []))
