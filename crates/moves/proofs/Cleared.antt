-- Scratch of which the first words were used and then zeroed is cleared, whatever stood in them.
use Rattle.lists.proofs.Kit.{◌≡◌, sym, ap, ◌∙◌, List, ◌++◌, ⊎_elim, ℕ, ◌+◌, ◌-◌, ◌<◌, ◌≤◌, arith, length, drop, replicate, length-replicate, get_or-replicate, length-append, length-drop, ext_get_or, get_or-drop, lt-or-ge}
use Rattle.lists.proofs.Parts.{in_front, behind}
use Rattle.lists.proofs.Words.{same_word}
use Rattle.refusals.specs.Scratch.{cleared}
use Rattle.moves.specs.Stretch.{Stretch, Past}
use Rattle.moves.specs.Promises.{ZeroPromise}

-- what stood in the words that are cleared does not matter
pub past-cleared : {k : ℕ} {before held : List ℕ} → Past k before held → cleared k held ≡ cleared k before
past-cleared {k} {before} {held} p =
    ap (λ (l : List ℕ). replicate k 0 ++ l)
    (ext_get_or 0 (drop k held) (drop k before) (length-drop k held ∙ ap (λ (z : ℕ). z - k) p.same ∙ sym (length-drop k before))
    (λ i h. get_or-drop k held i 0 ∙ p.rest (k + i) (omega arith) ∙ sym (get_or-drop k before i 0)))

pub zeroed_cleared : {k : ℕ} {before after : List ℕ} → k ≤ length before → ZeroPromise 0 k before after → after ≡ cleared k before
zeroed_cleared {k} {before} {after} room z =
    ext_get_or 0 after (cleared k before) (s.same ∙ sym long)
    (λ i h. ⊎_elim
    (λ (l : i < k). same_word after {q = 0 + i} (omega arith) ∙ s.holds i l ∙ sym (in_front zeroes (drop k before) some l ∙ get_or-replicate k i 0 0 l))
    (λ (l : k ≤ i). s.above i (omega arith) ∙ same_word before {q = k + (i - k)} (omega arith) ∙ sym (behind zeroes (drop k before) (i - k) some (omega arith) ∙ get_or-drop k before (i - k) 0))
    (lt-or-ge i k))
  where
    s : Stretch 0 k (λ u. 0) before after
    s = z.inside (omega arith)

    zeroes : List ℕ
    zeroes = replicate k 0

    some : length zeroes ≡ k
    some = length-replicate k 0

    long : length (cleared k before) ≡ length before
    long = simp (length-append, length-drop) (omega (arith, some))

-- used first
pub used_cleared : {k : ℕ} {before held after : List ℕ} → k ≤ length before → Past k before held → ZeroPromise 0 k held after → after ≡ cleared k before
used_cleared room p z = zeroed_cleared (omega (arith, p.same)) z ∙ past-cleared p
