use Rattle.lists.proofs.Kit.{◌≡◌, ap, ◌∙◌, List, [], refl, ℕ, zero, suc, ◌+◌, ◌*◌, ◌/◌, ◌<◌, arith, length, get_or, take, drop, drop-drop}
use Rattle.std.specs.Simd.{first_chunks}
use Rattle.cycles.specs.Cycles.{pair_at, Pair}
use Rattle.cycles.proofs.Pairs.{pair_words}
use Rattle.cycle_lists.proofs.Carrying.{start_low, runs_more, runs_all}
use Rattle.cycle_lists.proofs.turn.Turn.follow_all.Goals as goal

-- the arrays of two that a list is cut into are its pairs
chunk_at : (count i : ℕ) (list : List ℕ) → i < count → get_or (first_chunks 2 count list) i [] ≡ pair_at i list
chunk_at zero i list h = absurd (omega arith)
chunk_at (suc count) zero list h = refl
chunk_at (suc count) (suc i) list h =
    let next : 2 + 2 * i ≡ 2 * suc i = omega arith in
    chunk_at count i (drop 2 list) (omega arith) ∙ rw (drop-drop (2 * i) 2 list) (ap (λ (z : ℕ). take 2 (drop z list)) next)

cut : (list : List ℕ) (i : ℕ) (pairs : List (List ℕ)) → pairs ≡ first_chunks 2 (length list / 2) list → i < length list / 2
    → Pair list i (get_or (get_or pairs i []) 0 0) (get_or (get_or pairs i []) 1 0)
cut list i pairs e h =
    let words = ap (λ (l : List (List ℕ)). get_or l i []) e ∙ chunk_at (length list / 2) i list h ∙ pair_words i list (omega arith) in
    rw words (pair_words i list (omega arith))

pub follow-requires-clause-start_in : goal.follow-requires-clause-start_in
follow-requires-clause-start_in c =
    start_low c.args.self.m c.args.self.n c.args.list.now c.requires.right c.args.buf.now _ _ _ (cut c.args.list.now c.loop-start.start-index _ c.as_chunks.ensures.front (omega (arith, c.as_chunks.ensures.front_len)))

pub loop-start-preserved : goal.loop-start-preserved
loop-start-preserved c =
    runs_more c.args.self.m c.args.self.n c.args.list.now c.requires.right c.args.buf.now c.loop-start.invariant
    (cut c.args.list.now c.loop-start.start-index _ c.as_chunks.ensures.front (omega (arith, c.as_chunks.ensures.front_len))) c.follow.ensures

pub returns : goal.returns
returns c =
    runs_all c.args.self.m c.args.self.n c.args.list.now c.requires.right c.args.buf.now c.loop-start.invariant (omega (arith, c.as_chunks.ensures.front_len))
