-- The right lists of small blocks, computed.
use Rattle.lists.proofs.Kit.{◌≡◌, refl, [], ◌∷◌}
use Rattle.cycles.specs.Orbit.{iter, first, period}
use Rattle.cycles.specs.Sent.{goes}
use Rattle.cycles.specs.Cycles.{takes, is_least, cycles_from, cycles}

-- one word, and two
pub one_word : cycles 1 1 ≡ 0 ∷ 1 ∷ []
unfolding cycles cycles_from is_least takes period first iter goes
one_word = refl

pub two_words : cycles 1 2 ≡ 0 ∷ 1 ∷ 1 ∷ 1 ∷ []
unfolding cycles cycles_from is_least takes period first iter goes
two_words = refl

-- two rows of three words: offsets 1, 2, 4 and 3 in one cycle
pub six_words : cycles 2 3 ≡ 0 ∷ 1 ∷ 1 ∷ 4 ∷ 5 ∷ 1 ∷ []
unfolding cycles cycles_from is_least takes period first iter goes
six_words = refl

-- three rows of three: the diagonal stays, the others exchange
pub nine_words : cycles 3 3 ≡ 0 ∷ 1 ∷ 1 ∷ 2 ∷ 2 ∷ 2 ∷ 4 ∷ 1 ∷ 5 ∷ 2 ∷ 8 ∷ 1 ∷ []
unfolding cycles cycles_from is_least takes period first iter goes
nine_words = refl
