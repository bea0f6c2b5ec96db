-- A run of words that is lent and comes back filled.
use Rattle.lists.proofs.Kit.{◌≡◌, ◌∙◌, ap, List, ℕ, ◌+◌, ◌<◌, ◌≤◌, arith, length, get_or, drop, length-append, length-drop, length-take-le}
use borrow.Rule.Slice.PartMut.{mid_of, put_mid}
use Rattle.lists.proofs.Parts.{part_at, back_at, before_it, after_it}
use Rattle.moves.specs.Stretch.{Stretch}

pub run_filled : {to count k : ℕ} {value : ℕ → ℕ} {xs : List ℕ} (ys : List ℕ) → to + count ≤ length xs → k ≡ count → length ys ≡ count
    → ((u : ℕ) → u < count → get_or ys u 0 ≡ value u) → Stretch to count value xs (put_mid to k xs ys)
run_filled {to} {count} {k} {value} {xs} ys inside e long fill =
    let within : to + k ≤ length xs = omega arith in
    let same : length ys ≡ k = omega arith in
    record {
      same = simp (drop, length-append, length-drop) (omega (arith, length-take-le to xs (omega arith)));
      holds = λ u h. back_at to k xs within ys same u (omega arith) ∙ fill u h;
      below = λ q h. before_it to k xs within ys same q h;
      above = λ q h. after_it to k xs within ys same q (omega arith);
    }

-- such a run, filled from another list
pub run_copied : {to count k j : ℕ} {xs : List ℕ} (from : ℕ) (other ys : List ℕ) → to + count ≤ length xs → from + count ≤ length other → k ≡ count → j ≡ count
    → ys ≡ mid_of from j other → Stretch to count (λ u. get_or other (from + u) 0) xs (put_mid to k xs ys)
run_copied {count = count} {j = j} from other ys inside within e f copied =
    let there : from + j ≤ length other = omega arith in
    let long : length ys ≡ count = ap length copied ∙ length-take-le j (drop from other) (simp length-drop (omega arith)) ∙ f in
    run_filled ys inside e long (λ u h. ap (λ (l : List ℕ). get_or l u 0) copied ∙ part_at from j other there u (omega arith))
