-- Lines of a buffer moved in stages, through scratch. Assumes nothing: these are definitions.
use Rattle.std.specs.Prelude.{cond, List, [], ◌∷◌, ◌++◌, ℕ, zero, suc, ◌+◌, ◌*◌, ◌/◌, ◌%◌, ltb, eqb, get_or}
use Rattle.stages.specs.Stages.{Memory, Store, Stages}
use Rattle.stages.specs.Stages.Store.{to_buffer, to_scratch}

-- the stores f 0, f 1, .., f (n - 1)
abbrev pub each : ℕ → (ℕ → Store) → List Store
each zero f = []
each (suc n) f = each n f ++ f n ∷ []

-- how many lines; of line t how many places, where place k stands in the buffer, and from which place its word comes; how
-- many first words of scratch are cleared at the end
pub record Lines : Type 0 where
  pub lines : ℕ
  pub count : ℕ → ℕ
  pub pos : ℕ → ℕ → ℕ
  pub src : ℕ → ℕ → ℕ
  pub need : ℕ

-- into scratch: the finished words of line t, in rising place
abbrev pub lifting : Lines → ℕ → Memory → List Store
lifting l t m = each (l.count t) (λ k. to_scratch k (get_or m.buffer (l.pos t (l.src t k)) 0))

-- back: the words of scratch go to line t's places, in rising place
abbrev pub returning : Lines → ℕ → Memory → List Store
returning l t m = each (l.count t) (λ k. to_buffer (l.pos t k) (get_or m.scratch k 0))

-- the clearing: zeros go into scratch
abbrev pub clearing : Lines → List Store
clearing l = each l.need (λ k. to_scratch k 0)

-- two stages a line, stage 2t into scratch and stage 2t + 1 back, then the clearing. A stage reads what it does not write (scratch from
-- the buffer, the buffer from scratch, or nothing), so it can be begun again
unfoldable pub stages_of : Lines → Stages
stages_of l = record {
  total = l.lines * 2 + 1;
  words = λ k m. cond (ltb k (l.lines * 2)) (cond (eqb (k % 2) 0) (lifting l (k / 2) m) (returning l (k / 2) m)) (clearing l);
}
