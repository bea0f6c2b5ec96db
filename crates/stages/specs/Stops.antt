-- Stops of which the machine keeps the order of stages alone: what a restart may find. Assumes nothing: these are definitions.
use Rattle.std.specs.Prelude.{Bool, false, ◌≡◌, List, ℕ, ◌<◌, eqb, length, get_or}
use Rattle.stages.specs.Stages.{Memory, Store, after, Stages, words_now, stage}
use Rattle.stages.specs.Stages.Store.{to_buffer, to_scratch, to_progress}

-- whether a store goes to place p of the buffer
abbrev pub into_buffer : ℕ → Store → Bool
into_buffer p (to_buffer q v) = eqb q p
into_buffer p (to_scratch q v) = false
into_buffer p (to_progress v) = false

-- whether a store goes to place p of scratch
abbrev pub into_scratch : ℕ → Store → Bool
into_scratch p (to_buffer q v) = false
into_scratch p (to_scratch q v) = eqb q p
into_scratch p (to_progress v) = false

-- the test finds none of these stores
abbrev pub Without : (Store → Bool) → List Store → Type 0
Without f ss = (j : ℕ) → j < length ss → f (get_or ss j (to_progress 0)) ≡ false

-- x is m but for the places to which these stores go, which hold anything at all, torn words too; the progress word is m's
pub record Torn (ss : List Store) (m x : Memory) : Type 0 where
  pub uncounted : x.progress ≡ m.progress
  pub buffer_long : length x.buffer ≡ length m.buffer
  pub scratch_long : length x.scratch ≡ length m.scratch
  pub buffer_kept : (p : ℕ) → Without (into_buffer p) ss → get_or x.buffer p 0 ≡ get_or m.buffer p 0
  pub scratch_kept : (p : ℕ) → Without (into_scratch p) ss → get_or x.scratch p 0 ≡ get_or m.scratch p 0

-- what a stop leaves: some number of whole stages is done, and the places that the next one writes hold anything
pub data Stop (s : Stages) : Memory → Memory → Type 0 where
  still : {m : Memory} → Stop s m m
  within : {m x : Memory} → m.progress < s.total → Torn (words_now s m) m x → Stop s m x
  whole : {m x : Memory} → m.progress < s.total → Stop s (after (stage s m) m) x → Stop s m x

-- stops one after the other, each restart going on from what the one before left
pub data Stops (s : Stages) : Memory → Memory → Type 0 where
  never : {m : Memory} → Stops s m m
  again : {m x y : Memory} → Stop s m x → Stops s x y → Stops s m y
