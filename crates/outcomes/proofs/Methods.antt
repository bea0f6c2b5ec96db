-- Demand 2 about calls: the passes of rows and columns, the strips and the recursive method accept the same blocks, scratch apart, and leave the same words; the reverse turn
-- brings every word home, and so does the turn after it. Both lay the block out alike, and two outcomes of one turn are equal.
use Rattle.lists.proofs.Kit.{◌≡◌, sym, ◌∙◌, ◌≤◌, length}
use Rattle.flat.specs.Turn.{sides}
use Rattle.flat.proofs.Turn.{one_turn}
use Rattle.refusals.specs.Scratch.{need}
use Rattle.refusals.proofs.Calls.{block_good, room_passed}
use Rattle.flat.specs.Promises.{TurnPromise, TurnBackPromise}
use Rattle.passes.proofs.ThereAndBack as passes
use Rattle.recursion.specs.Promise.{RecursionPromise}
use Rattle.outcomes.specs.Calls.{TurnCall, TurnBackCall, RecursionCall}

-- where the passes are accepted, the recursion on the same buffer is, and leaves the same words
pub same_words : (one : TurnCall) (other : RecursionCall) → other.m ≡ one.m → other.n ≡ one.n → other.words ≡ one.words → one.number ≡ 0
    → (other.number ≡ 0) × (other.words_after ≡ one.words_after)
same_words one other e f g z =
    let q : RecursionPromise one.m one.n one.words other.number other.words_after = rw (← e, ← f, ← g) other.post in
    let y = q.number_is ∙ block_good (sides one.m one.n) one.words one.scratch (sym one.post.number_is ∙ z) in
    (y, one_turn (q.words y) (one.post.words z))

-- and where the recursion is accepted and scratch is enough, the passes are
pub same_words_back : (one : RecursionCall) (other : TurnCall) → other.m ≡ one.m → other.n ≡ one.n → other.words ≡ one.words → one.number ≡ 0
    → need (sides one.m one.n) ≤ length other.scratch → (other.number ≡ 0) × (other.words_after ≡ one.words_after)
same_words_back one other e f g z room =
    let q : TurnPromise one.m one.n one.words other.scratch other.number other.words_after other.scratch_after =
    rw (← e, ← f, ← g) other.post in
    let y = q.number_is ∙ sym (room_passed (sides one.m one.n) one.words other.scratch (sym one.post.number_is ∙ z) room) in
    (y, one_turn (q.words y) (one.post.words z))

-- of two turns through scratch, by strips or by passes, one accepts what the other does where its own scratch is enough, and both leave the same words
pub same_turns : (one other : TurnCall) → other.m ≡ one.m → other.n ≡ one.n → other.words ≡ one.words → one.number ≡ 0
    → need (sides one.m one.n) ≤ length other.scratch → (other.number ≡ 0) × (other.words_after ≡ one.words_after)
same_turns one other e f g z room =
    let q : TurnPromise one.m one.n one.words other.scratch other.number other.words_after other.scratch_after =
    rw (← e, ← f, ← g) other.post in
    let good = block_good (sides one.m one.n) one.words one.scratch (sym one.post.number_is ∙ z) in
    let y = q.number_is ∙ sym (room_passed (sides one.m one.n) one.words other.scratch good room) in
    (y, one_turn (q.words y) (one.post.words z))

-- a turn that was accepted, then the reverse turn with the same sides through any scratch that is enough: accepted, every word home
pub there_and_back : (there : TurnCall) (back : TurnBackCall) → back.m ≡ there.m → back.n ≡ there.n → back.words ≡ there.words_after → there.number ≡ 0
    → need (sides there.m there.n) ≤ length back.scratch → (back.number ≡ 0) × (back.words_after ≡ there.words)
there_and_back there back e f g z room =
    let p : TurnPromise there.m there.n there.words there.scratch 0 there.words_after there.scratch_after = rw z at there.post in
    let q : TurnBackPromise there.m there.n there.words_after back.scratch back.number back.words_after back.scratch_after =
    rw (← e, ← f, ← g) back.post in
    passes.there_and_back room p q

-- and the other way round
pub back_and_there : (back : TurnBackCall) (there : TurnCall) → there.m ≡ back.m → there.n ≡ back.n → there.words ≡ back.words_after → back.number ≡ 0
    → need (sides back.m back.n) ≤ length there.scratch → (there.number ≡ 0) × (there.words_after ≡ back.words)
back_and_there back there e f g z room =
    let p : TurnBackPromise back.m back.n back.words back.scratch 0 back.words_after back.scratch_after = rw z at back.post in
    let q : TurnPromise back.m back.n back.words_after there.scratch there.number there.words_after there.scratch_after =
    rw (← e, ← f, ← g) there.post in
    passes.back_and_there room p q
