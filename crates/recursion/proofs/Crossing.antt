-- Two words that mirror each other exchanged: they trade places across the diagonal, and every other word stands, since words of other rows or other
-- columns stand at other offsets.
use Rattle.lists.proofs.Kit.{◌≡◌, sym, ap, ◌∙◌, List, ℕ, ◌+◌, ◌*◌, ◌/◌, ◌%◌, ◌<◌, arith, length, get_or, set, length-set, digits_lt, digits_div, digits_mod}
use Rattle.std.proofs.lemmas.List.Edits.{swapped_from_swap, swap_is}
use Rattle.recursion.specs.PrivateTiles.{Across}

-- an offset has one row and one column
same_row : {n b d : ℕ} (a c : ℕ) → b < n → d < n → a * n + b ≡ c * n + d → a ≡ c
same_row {n} a c hb hd e = sym (digits_div a hb) ∙ ap (λ (z : ℕ). z / n) e ∙ digits_div c hd

same-column : {n b d : ℕ} (a c : ℕ) → b < n → d < n → a * n + b ≡ c * n + d → b ≡ d
same-column {n} a c hb hd e = sym (digits_mod a hb) ∙ ap (λ (z : ℕ). z % n) e ∙ digits_mod c hd

-- two words that mirror each other trade places
pub word-across : {n i j : ℕ} (xs : List ℕ) → i < j → j < n → length xs ≡ n * n
    → Across n i (i + 1) j (j + 1) xs (set (set xs (i * n + j) (get_or xs (j * n + i) 0)) (j * n + i) (get_or xs (i * n + j) 0))
word-across {n} {i} {j} xs beyond within long =
    let above : i * n + j < length xs = rw long (digits_lt {q = i} {r = j} (omega arith) within) in
    let below : j * n + i < length xs = rw long (digits_lt {q = j} {r = i} within (omega arith)) in
    let swapped = swapped_from_swap xs _ (i * n + j) (j * n + i) 0 above below (swap_is xs (i * n + j) (j * n + i) 0 above below) in
    record {
      same = simp length-set;
      traded = λ a b o p q x y.
          let u : a ≡ i = omega arith in
          let v : b ≡ j = omega arith in
          rw (u, v) (swapped.0, swapped.1);
      stands = λ a b o y f. (
        swapped.2 (a * n + b)
            (λ e. let u = same_row a i y within e in let v = same-column a i y within e in f (omega arith) (omega arith) (omega arith) (omega arith))
            (λ e. let u = same_row {d = i} a j y (omega arith) e in let v = same-column {d = i} a j y (omega arith) e in omega arith),
        swapped.2 (b * n + a)
            (λ e. let u = same_row {b = a} b i (omega arith) within e in let v = same-column {b = a} b i (omega arith) within e in omega arith)
            (λ e.
            let u = same_row {b = a} {d = i} b j (omega arith) (omega arith) e in
            let v = same-column {b = a} {d = i} b j (omega arith) (omega arith) e in
            f (omega arith) (omega arith) (omega arith) (omega arith)),
      );
    }
