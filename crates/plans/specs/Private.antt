-- These definitions serve only the contracts of private functions: a reader of the promises can pass over them.
use Rattle.std.specs.Prelude.{◌≡◌, ℕ, ◌<◌, Option, MatchOption}

-- what is found below n: the place, or nothing where the place is n
abbrev pub FoundBelow : ℕ → ℕ → Option ℕ → Type 0
FoundBelow n place found = MatchOption found (place ≡ n) (λ k. (k < n) × (k ≡ place))
