-- The adjacent swap: what its checks tell where none holds, and that any two outcomes that its promise allows coincide, because a chain of one
-- swap names its order and the outcome of a chain is one.
use Rattle.lists.proofs.Kit.{◌≡◌, refl, ◌∙◌, false, ◌||◌, List, [], ◌∷◌, ◌++◌, ℕ, ◌*◌, ◌<◌, ◌≤◌, pos_of_ne-zero, arith, eqb, lit<, length, ltb-false, eqb-false}
use Rattle.layout.specs.Layout.{volume, Laid}
use Rattle.orders.specs.Chains.{named, follow, exchange}
use Rattle.orders.proofs.Layouts.{chain_once}
use Rattle.refusals.specs.FirstOf.{check, first_of}
use Rattle.refusals.specs.Conditions.{bad_length, too_many_words, short_scratch}
use Rattle.refusals.specs.Calls.{exact_checks, swap_block, no_block, swap_checks}
use Rattle.refusals.specs.Scratch.{need}
use Rattle.refusals.specs.Promise.{middle, SwapPromise}
use Rattle.refusals.proofs.Some.{either_false}
use Rattle.refusals.proofs.Conditions.{InRange, in_range, passed, exact_passed, enough_scratch}
use Rattle.refusals.proofs.Promise.{one_outcome}

-- the words of a swap's block
pub swap_volume : (outer m n chunk : ℕ) → volume (swap_block outer m n chunk) ≡ outer * (m * n * chunk)
unfolding volume
swap_volume outer m n chunk = omega arith

-- sides, counts and buffers of an adjacent swap that is accepted
pub record Swappable (outer m n chunk : ℕ) (buffer scratch : List ℕ) : Type 0 where
  pub m_pos : 0 < m
  pub n_pos : 0 < n
  pub m_few : m ≤ 4096
  pub n_few : n ≤ 4096
  pub outer_pos : 0 < outer
  pub chunk_pos : 0 < chunk
  pub few : outer * (m * n * chunk) ≤ 1048576
  pub exact : length buffer ≡ outer * (m * n * chunk)
  pub room : need (m ∷ n ∷ []) ≤ length scratch

pub swappable : (outer m n chunk : ℕ) (buffer scratch : List ℕ) → first_of (swap_checks outer m n chunk buffer scratch) ≡ 0
    → Swappable outer m n chunk buffer scratch
swappable outer m n chunk buffer scratch e =
    let block = swap_block outer m n chunk in
    let room = check 4 (short_scratch (need (m ∷ n ∷ [])) scratch) ∷ [] in
    let last = exact_checks block buffer ++ room in
    let p = passed (no_block outer m n chunk) 1 (first_of (check 2 (too_many_words block) ∷ last)) (lit< tt) e in
    let q = passed (too_many_words block) 2 (first_of last) (lit< tt) p.1 in
    let r = exact_passed block buffer room q.1 in
    let sides = either_false (bad_length (m ∷ n ∷ [])) (eqb outer 0 || eqb chunk 0) p.0 in
    let counts = either_false (eqb outer 0) (eqb chunk 0) sides.1 in
    go (in_range (m ∷ n ∷ []) sides.0) counts
    (rw (swap_volume outer m n chunk) at (ltb-false 1048576 (volume block) q.0))
    (r.0 ∙ swap_volume outer m n chunk)
    (enough_scratch (need (m ∷ n ∷ [])) scratch [] r.1).0
  where
    go : InRange (m ∷ n ∷ []) → (eqb outer 0 ≡ false) × (eqb chunk 0 ≡ false) → outer * (m * n * chunk) ≤ 1048576 → length buffer ≡ outer * (m * n * chunk)
        → need (m ∷ n ∷ []) ≤ length scratch → Swappable outer m n chunk buffer scratch
    go (InRange.more pm fm (InRange.more pn fn InRange.none)) counts few exact room = record {
      m_pos = pm;
      n_pos = pn;
      m_few = fm;
      n_few = fn;
      outer_pos = pos_of_ne-zero (eqb-false outer 0 counts.0);
      chunk_pos = pos_of_ne-zero (eqb-false chunk 0 counts.1);
      few = few;
      exact = exact;
      room = room;
    }

-- two outcomes of an adjacent swap's layout are equal
one_swap : {outer m n chunk : ℕ} {xs : List ℕ} (ys zs : List ℕ)
    → Laid (swap_block outer m n chunk) middle xs ys → Laid (swap_block outer m n chunk) middle xs zs → ys ≡ zs
unfolding named follow exchange
one_swap {outer} {m} {n} {chunk} ys zs f g = chain_once (swap_block outer m n chunk) refl (1 ∷ []) f g

pub swap_once : {outer m n chunk r r' : ℕ} {b₀ s₀ b s b' s' : List ℕ} → SwapPromise outer m n chunk b₀ s₀ r b s → SwapPromise outer m n chunk b₀ s₀ r' b' s'
    → (r ≡ r') × (b ≡ b') × (s ≡ s')
swap_once p q = one_outcome one_swap p q
